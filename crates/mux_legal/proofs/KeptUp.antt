-- Each record of a server's session may follow those before it.
use Rattle.std.proofs.Common.{◌≤◌, ◌+◌, zero, suc, length, ℕ, List, ◌∷◌, ◌≡◌, ◌&&◌, ◌||◌, Bool, true, false, not, Option, Some, None, refl, sym, ◌∙◌, ap, arith, subst, max}
use Rattle.std.specs.Prelude.{if◌then◌else◌, ◌==◌, nat_le, nat_lt, is_none, is_some, unwrap_or}
use Rattle.std.proofs.lemmas.Bool.{and_from, le-leb, lt-ltb, leb-false, ltb-false, eq-eqb}
use Rattle.mux_frame.specs.Spelling.{MuxFrame}
use Rattle.mux_frame.specs.declared.frame.TheConstants.{MAX_TAG}
use Rattle.mux_message.specs.Kinds.{kind_of, is_final}
use Rattle.mux_message.specs.Reading.{message_of}
use Rattle.mux_history.specs.Lapse.{leased, has_lapsed, lease_after, lease_of}
use Rattle.mux_history.specs.declared.name.Name.{Name}
use Rattle.mux_history.specs.declared.record.Record.{Record}
use Rattle.mux_history.specs.declared.kind.RecordKind.{RecordKind}
use Rattle.mux_history.specs.declared.kind.RecordKind.TheVariants as records_of
use Rattle.mux_history.specs.declared.session.InitMode.{InitMode}
use Rattle.mux_history.specs.declared.session.InitState.{InitState}
use Rattle.mux_history.specs.declared.session.InitState.TheVariants.{Probing, Asked, Open}
use Rattle.mux_history.specs.declared.session.SessionId.TheVariants.{Server}
use Rattle.mux_history.specs.Standings.{up_standing, same_test, same_init, same_standing, leads_to}
use Rattle.mux_history.specs.Readings.{is_cut, is_named, has_ended, reading, stands, init_by, is_drained_kind, is_retiring, ping_outstanding, is_epoch, epoch_of, Sending, sendings, least}
use Rattle.mux_history.specs.Holders.{name_on, of_named, holds_own}
use Rattle.mux_history.proofs.Present.{lapse_read}
use Rattle.mux_model.specs.Entries.{Exchange}
use Rattle.mux_model.specs.Tags.{name_held, Holder, holder, is_open}
use Rattle.mux_model.specs.Steps.{Held, Call, FrameCall, Step, entries, records, with_record, entry_of, sealing, rolling, last_epoch, lease_in, is_nack}
use Rattle.mux_model.specs.Replay.{spare_up, finds_up, is_probing, is_lost_next, may_follow_up, is_joined}
use Rattle.mux_model.specs.Up.{UpSession, free_records, lease_end, lease_taken, reading_in, is_drained, sends_rdrain, up, MayChoose}
use Rattle.mux_model.specs.Up as ups
use Rattle.mux_model.specs.Legal.{Line}
use Rattle.mux_legal.proofs.Basics.{OnRecorded, is_its_name}
use Rattle.mux_legal.proofs.DownShapes.{CallBorne}
use Rattle.mux_legal.proofs.HeldSent.{IsSent, least_sent}
use Rattle.mux_legal.proofs.LinkUp.{taken_dispatch, IsTiedUp}
use Rattle.mux_legal.proofs.UpShapes.{up_shapes, LedTo}
use Rattle.mux_legal.proofs.Link.{is_named_some, open_none, rec_of}
use Rattle.mux_legal.proofs.Following.{FollowsUp, follows_up, leads_other, uncut, joined_up}
use Rattle.mux_legal.proofs.Contents.{dispatch_no_rdrain}

-- tests
pub positive : (x : ℕ) → (x == 0) ≡ false → 1 ≤ x
positive zero e = absurd (cc)
positive (suc n) e = omega arith

pub later : (old now : ℕ) → nat_le old (max old now) ≡ true
later old now = le-leb old (max old now) (omega arith)

pub below : (last x : ℕ) → nat_le last x ≡ false → nat_le (x + 1) last ≡ true
below last x e = le-leb (x + 1) last (omega (arith, leb-false last x e))

pub test_same : (b : Bool) → same_test b b ≡ true
test_same true = refl
test_same false = refl

-- a session stands as it stands
init_same : (i : InitState) → same_init i i ≡ true
init_same Probing = refl
init_same Asked = refl
init_same Open = refl

up_same : (mode : InitMode) (rs : List Record) → same_standing (up_standing mode rs) (up_standing mode rs) ≡ true
up_same mode rs =
    let lapse = unwrap_or (lease_of rs) 0 in
    let lease = and_from _ _ (and_from _ _ (init_same (init_by mode rs)) (test_same (is_some (lease_of rs)))) (eq-eqb lapse lapse refl) in
    and_from _ _ (and_from _ _ (and_from _ _ lease (test_same (stands is_drained_kind rs))) (test_same (stands is_retiring rs))) (test_same (ping_outstanding rs))

-- what a server's list keeps
pub record IsKeptUp (s : UpSession) (past : List Step) : Type 0 where
  pub tied : IsTiedUp s past
  pub drained : is_drained (entries past) ≡ stands is_drained_kind (records past)
  pub lease : lease_end (entries past) ≡ lease_of (records past)
  pub joined : (boot : ℕ) → is_joined s.limits boot s.mode (Server s.number) (records past) ≡ true

-- what an entry says of its record
abbrev pub drained_in : Option Record → Bool → Bool
drained_in None before = before
drained_in (Some r) before = is_drained_kind r.kind || (not (is_epoch r.kind) && before)

abbrev pub leased_in : Option Record → Option ℕ → Option ℕ
leased_in None before = before
leased_in (Some r) before = lease_after r r.kind before

-- the record of one more step may follow those of its epoch, and an epoch begins where those before it lead to
abbrev pub Follows : UpSession → List Record → Option Record → Type 0
Follows s rs None = Unit {0}
Follows s rs (Some r) = FollowsUp s rs r × (leads_to s.mode (Server s.number) rs r r.kind ≡ true)

pub record KeepsUp (s : UpSession) (past : List Step) (e : Exchange) : Type 0 where
  pub follows : Follows s (records past) e.rec
  pub drains : (sends_rdrain e.sent || stands is_drained_kind (records past)) ≡ drained_in e.rec (stands is_drained_kind (records past))
  pub leases : leased (reading_in e.rec) (lease_taken e.taken) (lease_of (records past)) ≡ leased_in e.rec (lease_of (records past))

joined_with : (s : UpSession) (boot : ℕ) (rs : List Record) (o : Option Record) → Follows s rs o → is_joined s.limits boot s.mode (Server s.number) rs ≡ true → is_joined s.limits boot s.mode (Server s.number) (with_record o rs) ≡ true
joined_with s boot rs None f h = h
joined_with s boot rs (Some r) f h = joined_up s.limits boot s.number s.mode rs r h f.0 f.1

drained_more : (rs : List Record) (o : Option Record) → stands is_drained_kind (with_record o rs) ≡ drained_in o (stands is_drained_kind rs)
drained_more rs None = refl
drained_more rs (Some r) = refl

leased_more : (rs : List Record) (o : Option Record) → lease_of (with_record o rs) ≡ leased_in o (lease_of rs)
leased_more rs None = refl
leased_more rs (Some r) = refl

pub kept_up : (s : UpSession) (past : List Step) (call : Call) (e : Exchange) → IsKeptUp s past → IsTiedUp s (record { call = call; entry = e } ∷ past) → KeepsUp s past e →
    IsKeptUp s (record { call = call; entry = e } ∷ past)
kept_up s past call e old tied new = record {
  tied = tied;
  drained = ap (λ b. sends_rdrain e.sent || b) old.drained ∙ (new.drains ∙ sym (drained_more (records past) e.rec));
  lease = ap (leased (reading_in e.rec) (lease_taken e.taken)) old.lease ∙ (new.leases ∙ sym (leased_more (records past) e.rec));
  joined = λ boot. joined_with s boot (records past) e.rec new.follows (old.joined boot);
}

module _ (s : UpSession) (past : List Step) (old : IsKeptUp s past) where
  abbrev rs : List Record
  rs = records past

  abbrev Q : Call → Exchange → List Held → Type 0
  Q call e gives = KeepsUp s past e

  finds : (n : ℕ) → has_ended rs ≡ false → n ≤ free_records s past → finds_up s n rs ≡ true
  finds n going enough = and_from _ _ (ap not going) (le-leb n (spare_up s.limits rs) enough)

  one : has_ended rs ≡ false → (free_records s past == 0) ≡ false → finds_up s 1 rs ≡ true
  one going room = finds 1 going (positive (free_records s past) room)

  no_lease : (r : ℕ) (f : MuxFrame) (before : Option ℕ) → lease_in (message_of f) ≡ None → leased r (lease_taken (Some f)) before ≡ before
  no_lease r f before e = ap (λ o. leased r o before) e

  -- a record of an epoch that goes on
  within : (r : Record) → is_cut r.kind ≡ false → (may_follow_up s rs r r.kind && nat_le (reading rs) r.reading) ≡ true → Follows s rs (Some r)
  within r e follows = (follows_up s rs r (uncut r.kind e) follows, leads_other s.mode (Server s.number) rs r r.kind e)

  undrains : (sent : Option MuxFrame) (r : Record) → is_epoch r.kind ≡ false → is_drained_kind r.kind ≡ false → sends_rdrain sent ≡ false →
      (sends_rdrain sent || stands is_drained_kind rs) ≡ drained_in (Some r) (stands is_drained_kind rs)
  undrains sent r e undrained silent =
      (λ i. silent i || stands is_drained_kind rs) ∙ sym (λ i. undrained i || (not (e i) && stands is_drained_kind rs))

  -- a record about no dispatch, of a message that grants no lease, and which sends no Rdrain
  plain : (r : Record) (f : MuxFrame) (sent : Option MuxFrame) → lease_in (message_of f) ≡ None → is_cut r.kind ≡ false → ((before : Option ℕ) → lease_after r r.kind before ≡ before) → is_drained_kind r.kind ≡ false →
      sends_rdrain sent ≡ false → (may_follow_up s rs r r.kind && nat_le (reading rs) r.reading) ≡ true → KeepsUp s past (record { rec = Some r; taken = Some f; sent = sent })
  plain r f sent none e neutral undrained silent follows = record {
    follows = within r e follows;
    drains = undrains sent r (uncut r.kind e) undrained silent;
    leases = no_lease r.reading f (lease_of rs) none ∙ sym (neutral (lease_of rs));
  }

  free_tag : (t : ℕ) → is_open (Server s.number) t (entries past) ≡ false → is_none (name_on t rs) ≡ true
  free_tag t free = ap is_none (old.tied.linked t ∙ ap (λ (o : Option Holder). name_held o) (open_none (holder (Server s.number) t (entries past)) free))

  own : (t : ℕ) (kind : RecordKind) (now : ℕ) (n : Option Name) (h : Holder) → holder (Server s.number) t (entries past) ≡ Some h → h.name ≡ n →
      holds_own rs (record { kind = kind; tag = t; name = n; reading = now }) ≡ true
  own t kind now n h at is =
      let m = is_named_some (holder (Server s.number) t (entries past)) h at (old.tied.names t) in
      let on : name_on t rs ≡ Some m.0 = old.tied.linked t ∙ (ap (λ (o : Option Holder). name_held o) at ∙ m.1) in
      subst (λ o. of_named (λ x. is_named x (name_on t rs)) o ≡ true) (sym m.1 ∙ is) (is_its_name m.0 (name_on t rs) on)

  settled : (f : MuxFrame) (now : ℕ) (n : Option Name) → has_ended rs ≡ false → lease_in (message_of f) ≡ None → is_final (kind_of f.kind) ≡ true →
      (h : Holder) → holder (Server s.number) f.tag (entries past) ≡ Some h → h.name ≡ n → KeepsUp s past (entry_of rs now (ups.settled_kind f) f.tag n (Some f) None)
  settled f now n going none final h at is = by_nack (is_nack f)
    where
      by_nack : (b : Bool) → KeepsUp s past (entry_of rs now (if b then records_of.SettledNack else records_of.Settled f.kind) f.tag n (Some f) None)
      by_nack true =
          plain _ f None none refl (λ b. refl) refl refl
          (and_from _ _ (and_from _ _ (ap not going) (own f.tag records_of.SettledNack (max (reading rs) now) n h at is)) (later (reading rs) now))
      by_nack false =
          plain _ f None none refl (λ b. refl) refl refl
          (and_from _ _ (and_from _ _ (and_from _ _ (ap not going) (own f.tag (records_of.Settled f.kind) (max (reading rs) now) n h at is)) final) (later (reading rs) now))

  framed : (f : MuxFrame) (now : ℕ) → has_ended rs ≡ false → (r : ups.Reaction) → LedTo s past f r → OnRecorded (ups.reacted s past f now r) (Q (FrameCall f now))
  framed f now going ups.Shut led = tt
  framed f now going ups.Full led = tt
  framed f now going ups.Short led = tt
  framed f now going (ups.Closes cause) led = record {
    follows = within (rec_of past now (records_of.Closed cause) 0 None) refl (and_from _ _ (and_from _ _ (and_from _ _ (ap not going) refl) led) (later (reading rs) now));
    drains = refl;
    leases = refl;
  }
  framed f now going (ups.Settles n again) led = settled f now n going led.0 led.1 led.2.0 led.2.1 led.2.2
  framed f now going ups.Pongs led = plain _ f _ led.0 refl (λ b. refl) refl refl (and_from _ _ (and_from _ _ (one going led.1) refl) (later (reading rs) now))
  framed f now going ups.Drains led = record {
    follows = within (rec_of past now records_of.Drained f.tag None) refl (and_from _ _ (and_from _ _ (one going led.1) refl) (later (reading rs) now));
    drains = refl;
    leases = no_lease (max (reading rs) now) f (lease_of rs) led.0;
  }
  framed f now going (ups.Leases ms) led = record {
    follows = within (rec_of past now (records_of.Leased ms) f.tag None) refl (and_from _ _ (and_from _ _ (one going led.1) refl) (later (reading rs) now));
    drains = refl;
    leases = ap (λ o. leased (max (reading rs) now) o (lease_of rs)) led.0;
  }
  framed f now going ups.Ignores led = plain _ f None led.0 refl (λ b. refl) refl refl (and_from _ _ (and_from _ _ (one going led.1) refl) (later (reading rs) now))
  framed f now going ups.Unsupports led =
      plain _ f _ led.0 refl (λ b. refl) refl refl
      (and_from _ _ (and_from _ _ (and_from _ _ (one going led.1) refl) (lt-ltb 0 f.tag (positive f.tag led.2))) (later (reading rs) now))
  framed f now going ups.AsksInit led =
      plain _ f _ led.0 refl (λ b. refl) refl refl
      (and_from _ _ (and_from _ _ (and_from _ _ (one going led.1) led.2) (ap is_probing led.3)) (later (reading rs) now))
  framed f now going ups.EndsInit led =
      plain _ f None led.0 refl (λ b. refl) refl refl (and_from _ _ (and_from _ _ (and_from _ _ (one going led.1) led.2) (ap not led.3)) (later (reading rs) now))
  framed f now going ups.EndsPing led =
      plain _ f None led.0 refl (λ b. refl) refl refl
      (and_from _ _ (and_from _ _ (and_from _ _ (and_from _ _ (one going led.1) led.2) led.3) led.4) (later (reading rs) now))
  framed f now going ups.Drops led = plain _ f None led.0 refl (λ b. refl) refl refl (and_from _ _ (and_from _ _ (one going led.1) refl) (later (reading rs) now))

  -- an entry that takes nothing and sends no Rdrain
  silent : (r : Record) (sent : Option MuxFrame) → is_cut r.kind ≡ false → ((before : Option ℕ) → lease_after r r.kind before ≡ before) → is_drained_kind r.kind ≡ false → sends_rdrain sent ≡ false →
      (may_follow_up s rs r r.kind && nat_le (reading rs) r.reading) ≡ true → KeepsUp s past (record { rec = Some r; taken = None; sent = sent })
  silent r sent e neutral undrained quiet follows = record { follows = within r e follows; drains = undrains sent r (uncut r.kind e) undrained quiet; leases = sym (neutral (lease_of rs)) }

  lost_one : (e : Sending) → has_ended rs ≡ true → least (sendings rs) ≡ Some e → KeepsUp s past (entry_of rs 0 records_of.LostOne e.tag e.name None None)
  lost_one e over is =
      silent _ None refl (λ b. refl) refl refl
      (and_from _ _ (and_from _ _ over (of_name (least_sent (sendings rs) e old.tied.sent is))) (later (reading rs) 0))
    where
      of_name : IsSent e → of_named (λ n. is_lost_next n e.tag (least (sendings rs))) e.name ≡ true
      of_name m =
          subst (λ o. of_named (λ n. is_lost_next n e.tag (least (sendings rs))) o ≡ true) (sym m.1)
          (ap (is_lost_next m.0 e.tag) is ∙ and_from _ _ (is_its_name m.0 e.name m.1) (eq-eqb e.tag e.tag refl))

  sealed : has_ended rs ≡ false → nat_lt 0 (length (sendings rs)) ≡ false → nat_le last_epoch (epoch_of rs) ≡ false → KeepsUp s past (sealing rs (up_standing s.mode rs))
  sealed going empty few = record {
    follows = (
      and_from _ _ (and_from _ _ (lt-ltb 0 (epoch_of rs + 1) (omega arith)) (below last_epoch (epoch_of rs) few)) (le-leb 0 (max (reading rs) 0) (omega arith)),
      and_from _ _ (and_from _ _ (and_from _ _ (eq-eqb (epoch_of rs + 1) (epoch_of rs + 1) refl) (ap not going)) (eq-eqb (max (reading rs) 0) (reading rs) (omega arith)))
          (and_from _ _ (lt-ltb (length (sendings rs)) 1 (omega (arith, ltb-false 0 (length (sendings rs)) empty))) (up_same s.mode rs)),
    );
    drains = sym (or_none (stands is_drained_kind rs));
    leases = sym (lapse_read (lease_of rs));
  }
    where
      or_none : (b : Bool) → (b || false) ≡ b
      or_none true = refl
      or_none false = refl

  rolled : has_ended rs ≡ false → nat_le last_epoch (epoch_of rs) ≡ false → KeepsUp s past (rolling rs)
  rolled going few = record {
    follows = (
      follows_up s rs (rec_of past 0 (records_of.Rolled (epoch_of rs + 1)) 0 None) refl
          (and_from _ _ (and_from _ _ (and_from _ _ (and_from _ _ (ap not going) refl) (lt-ltb 0 (epoch_of rs + 1) (omega arith))) (below last_epoch (epoch_of rs) few)) (later (reading rs) 0)),
      and_from _ _ (and_from _ _ (eq-eqb (epoch_of rs + 1) (epoch_of rs + 1) refl) (ap not going)) (eq-eqb (max (reading rs) 0) (reading rs) (omega arith)),
    );
    drains = refl;
    leases = refl;
  }

  pub up_keeps : (ls : List Line) (out t : ℕ) (call : Call) → MayChoose s past t call → CallBorne ls call → OnRecorded (up s past out t call) (Q call)
  up_keeps ls =
      up_shapes ls s past Q (λ f now going r led stray. framed f now going r led)
      (λ t n f left now may b going ready undrained unretired unlapsed window room. silent _ _ refl (λ b. refl) refl (dispatch_no_rdrain (kind_of f.kind) (taken_dispatch n f ls b))
      (and_from _ _
      (and_from _ _
      (and_from _ _
      (and_from _ _
      (and_from _ _
      (and_from _ _
      (and_from _ _
      (and_from _ _
      (and_from _ _
      (and_from _ _ (finds 3 going (ltb-false (free_records s past) 3 room)) (lt-ltb (length (sendings rs)) s.limits.window (leb-false s.limits.window (length (sendings rs)) window)))
      refl) (le-leb 2 t may.0)) (le-leb t MAX_TAG may.1)) (free_tag t may.2)) ready) (ap not (sym old.drained ∙ undrained))) (ap not unretired))
      (ap not (ap (λ o. has_lapsed o (max (reading rs) now)) (sym old.lease) ∙ unlapsed))) (later (reading rs) now)))
      (λ n tag why now going here. silent _ _ refl (λ b. refl) refl refl (and_from _ _ (and_from _ _ (ap not going) here) (later (reading rs) now)))
      (λ now going room. silent _ None refl (λ b. refl) refl refl (and_from _ _ (and_from _ _ (one going room) refl) (later (reading rs) now)))
      (λ now going room. silent _ None refl (λ b. refl) refl refl (and_from _ _ (and_from _ _ (one going room) refl) (later (reading rs) now)))
      (λ now going ready none room. silent _ _ refl (λ b. refl) refl refl
      (and_from _ _ (and_from _ _ (and_from _ _ (and_from _ _ (one going room) refl) ready) (ap not none)) (later (reading rs) now)))
      (λ now going. silent _ None refl (λ b. refl) refl refl (and_from _ _ (and_from _ _ (ap not going) refl) (later (reading rs) now)))
      (λ e over is. lost_one e over is) (λ going empty out quiet room few. sealed going empty few) (λ going fits few. rolled going few)
