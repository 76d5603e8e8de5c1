-- Each step of a server's session is good.
use Rattle.std.proofs.Common.{length, subst, max, ℕ, List, [], ◌∷◌, ◌≡◌, ◌≤◌, ◌&&◌, ◌||◌, ◌⊎◌, inl, inr, not, Bool, true, false, Option, Some, None, refl, sym, ◌∙◌, ap, arith}
use Rattle.std.specs.Prelude.{codes, if◌then◌else◌, ◌==◌}
use Rattle.std.specs.List.{AllByRecursion}
use Rattle.std.proofs.lemmas.Bool.{and_from, eq-eqb, eqb-true}
use Rattle.mux_frame.specs.Spelling.{MuxFrame}
use Rattle.mux_message.specs.Kinds.{kind_of, is_final, is_dispatch}
use Rattle.mux_history.specs.declared.name.Name.{Name}
use Rattle.mux_history.specs.declared.record.Record.{Record}
use Rattle.mux_history.specs.declared.kind.RecordKind.{RecordKind}
use Rattle.mux_history.specs.declared.kind.RecordKind.TheVariants.{Offered, Discarding, Settled, SettledNack, LostOne}
use Rattle.mux_history.specs.declared.session.SessionId.TheVariants.{Server}
use Rattle.mux_history.specs.Readings.{ends, is_epoch, is_named, gives_name, has_ended, reading, is_offered, is_retried, Sending, sendings, sendings_after, off_tag, recalled_on, least}
use Rattle.mux_model.specs.Entries.{Exchange}
use Rattle.mux_model.specs.Tags.{name_held, name_in, Holder, holder, asked, answered, is_open}
use Rattle.mux_model.specs.Steps.{Held, LostOf, Call, FrameCall, OfferCall, RecallCall, ClockCall, PingCall, RetireCall, LoseCall, LoseNextCall, SealCall, RollCall, Step, entries, records, with_record, is_nack, Outcome, Recorded, entry_of}
use Rattle.mux_message.specs.Made.{retag, rerr_on, rping_on, rdrain_on, tping_on, tinit_on, tdiscarded_for}
use Rattle.mux_model.specs.Up.{UpSession, Reaction, Shut, Full, Short, Closes, Settles, Pongs, Drains, Ignores, Unsupports, AsksInit, EndsInit, EndsPing, Drops, Leases, settled_by, settled_kind, reacted, copy_of, copy_on, lost_of, up, MayChoose}
use Rattle.mux_model.specs.Legal.{Line, SomeLine, IsTakenIn, sends_dispatch, OnDispatch, OnFinal, HasEnded, is_ending, IsFairSend, nack_in}
use Rattle.mux_legal.proofs.Basics.{OnRecorded, IsCopied, one_if, least_passes, counts_none, one_at_most}
use Rattle.mux_legal.proofs.Sound.{answered_cases, asked_cases}
use Rattle.mux_legal.proofs.Invariant.{is_unsent, is_passed, weigh, ticket_in, nack_held, BorneBy, IsSent, HoldsSent, EndsTold, CopiesOf}
use Rattle.mux_legal.proofs.Grow.{longer, Grows, copies_grow}
use Rattle.mux_legal.proofs.Advance.{AllHeld, IsGood}
use Rattle.mux_legal.proofs.DownSteps.{in_none, passed_none}
use Rattle.mux_legal.proofs.Link.{open_none}
use Rattle.mux_legal.proofs.DownShapes.{CallBorne}
use Rattle.mux_legal.proofs.LinkUp.{taken_dispatch}
use Rattle.mux_legal.proofs.UpShapes.{up_shapes, LedTo, StrayOf}

-- a list that has ended by its records has ended by its entries
ends_here : (e : Exchange) (rs : List Record) → has_ended (with_record e.rec rs) ≡ true → (is_ending e.rec ≡ true) ⊎ (has_ended rs ≡ true)
ends_here e rs h = of_record e.rec h
  where
    by_epoch : (a b : Bool) → (a || (not b && has_ended rs)) ≡ true → (a ≡ true) ⊎ (has_ended rs ≡ true)
    by_epoch true b e = inl refl
    by_epoch false true e = absurd (cc)
    by_epoch false false e = inr e

    of_record : (r : Option Record) → has_ended (with_record r rs) ≡ true → (is_ending r ≡ true) ⊎ (has_ended rs ≡ true)
    of_record None e = inr e
    of_record (Some r) e = by_epoch (ends r.kind) (is_epoch r.kind) e

pub ended_entries : (past : List Step) → has_ended (records past) ≡ true → HasEnded (entries past)
ended_entries [] h = absurd (cc)
ended_entries (x ∷ old) h = elim (ends_here x.entry (records old) h) [ inl e ↦ inl e | inr e ↦ inr (ended_entries old e) ]

-- who holds a tag after an entry that sends no dispatch, and takes no final reply on that tag if a dispatch holds it
no_dispatch : (t : ℕ) (who : Holder) (sent : Option MuxFrame) (before : Option Holder) → OnDispatch sent (λ f. ⊥) → asked t who sent before ≡ before
no_dispatch t who None before none = refl
no_dispatch t who (Some f) before none = by_test (is_dispatch (kind_of f.kind)) (f.tag == t) none
  where
    by_test : (a b : Bool) → (a ≡ true → ⊥) → (if a && b then Some who else before) ≡ before
    by_test true b none = absurd (none refl)
    by_test false b none = refl

not_freed : (t : ℕ) (taken : Option MuxFrame) (before : Option Holder) → OnFinal taken (λ f. f.tag ≡ t → before ≡ None) → answered t taken before ≡ before
not_freed t None before none = refl
not_freed t (Some f) before none = elim (answered_cases t f before) [ inl a ↦ a.0 ∙ sym (none a.1 a.2) | inr a ↦ a.0 ]

holder_still : (k t : ℕ) (e : Exchange) (old : List Exchange) → OnDispatch e.sent (λ f. ⊥) → OnFinal e.taken (λ f. f.tag ≡ t → holder (Server k) t old ≡ None) →
    holder (Server k) t (e ∷ old) ≡ holder (Server k) t old
holder_still k t e old sends none =
    no_dispatch t (record { place = length old; name = name_in e.rec }) e.sent (answered t e.taken (holder (Server k) t old)) sends ∙ not_freed t e.taken (holder (Server k) t old) none

-- a tag that is held then was held before
held_before : (k t : ℕ) (n : Name) (e : Exchange) (old : List Exchange) → OnDispatch e.sent (λ f. ⊥) → name_held (holder (Server k) t (e ∷ old)) ≡ Some n → name_held (holder (Server k) t old) ≡ Some n
held_before k t n e old sends h =
    of_taken e.taken (sym (ap (λ (o : Option Holder). name_held o) (no_dispatch t (record { place = length old; name = name_in e.rec }) e.sent (answered t e.taken (holder (Server k) t old)) sends)) ∙ h)
  where
    of_taken : (taken : Option MuxFrame) → name_held (answered t taken (holder (Server k) t old)) ≡ Some n → name_held (holder (Server k) t old) ≡ Some n
    of_taken None g = g
    of_taken (Some f) g = elim (answered_cases t f (holder (Server k) t old)) [
      | inl a ↦ absurd (let x : None ≡ Some n = sym (ap (λ (o : Option Holder). name_held o) a.0) ∙ g in cc)
      | inr a ↦ sym (ap (λ (o : Option Holder). name_held o) a.0) ∙ g
    ]

-- what holds of each dispatch that is sent, behind a record
all_still : (P Q : Sending → Type 0) (ss : List Sending) → ((s : Sending) → P s → Q s) → AllByRecursion P ss → AllByRecursion Q ss
all_still P Q [] go h = tt
all_still P Q (s ∷ ss) go h = (go s h.0, all_still P Q ss go h.1)

all_off : (P Q : Sending → Type 0) (t : ℕ) (ss : List Sending) → ((s : Sending) → (s.tag == t) ≡ false → P s → Q s) → AllByRecursion P ss → AllByRecursion Q (off_tag t ss)
all_off P Q t [] go h = tt
all_off P Q t (s ∷ ss) go h = by_test (s.tag == t) refl (all_off P Q t ss go h.1)
  where
    by_test : (b : Bool) → (s.tag == t) ≡ b → AllByRecursion Q (off_tag t ss) → AllByRecursion Q (if b then off_tag t ss else s ∷ off_tag t ss)
    by_test true e rest = rest
    by_test false e rest = (go s e h.0, rest)

all_recalled : (P : Sending → Type 0) (t : ℕ) (ss : List Sending) → ((s : Sending) → P s → P (record s { recalled = true })) → AllByRecursion P ss → AllByRecursion P (recalled_on t ss)
all_recalled P t [] go h = tt
all_recalled P t (s ∷ ss) go h = (by_test (s.tag == t), all_recalled P t ss go h.1)
  where
    by_test : (b : Bool) → P (if b then record s { recalled = true } else s)
    by_test true = go s h.0
    by_test false = h.0

-- the kinds of a settle
pub settled_kinds : (p : RecordKind → Bool) (f : MuxFrame) → p SettledNack ≡ false → p (Settled f.kind) ≡ false → p (settled_kind f) ≡ false
settled_kinds p f a b = by_test (is_nack f)
  where
    by_test : (t : Bool) → p (if t then SettledNack else Settled f.kind) ≡ false
    by_test true = a
    by_test false = b

settled_off : (r : Record) (f : MuxFrame) (ss : List Sending) → sendings_after r (settled_kind f) ss ≡ off_tag r.tag ss
settled_off r f ss = by_test (is_nack f)
  where
    by_test : (t : Bool) → sendings_after r (if t then SettledNack else Settled f.kind) ss ≡ off_tag r.tag ss
    by_test true = refl
    by_test false = refl

-- a session's line
abbrev pub line_up : ℕ → UpSession → List Step → Line
line_up b s past = record { boot = b; session = Server s.number; mode = s.mode; steps = past }

module _ (ls : List Line) (b : ℕ) (s : UpSession) (past : List Step) (held : HoldsSent s.number (records past) (entries past)) (told : EndsTold past) (copies : CopiesOf ls (Server s.number) past) where
  abbrev Q : Call → Outcome → Type 0
  Q call x = OnRecorded x (λ e gives. IsGood ls (line_up b s past) call e gives)

  abbrev held_by : ℕ → Option Holder
  held_by t = holder (Server s.number) t (entries past)

  -- an entry whose record is about no name's sending, and which sends no dispatch
  up_plain : (r : Record) (taken sent : Option MuxFrame) (gives : List Held) (call : Call) →
      gives_name r.kind ≡ false → is_offered r.kind ≡ false → is_unsent r.kind ≡ false → is_retried r.kind ≡ false → is_passed r.kind ≡ false → OnDispatch sent (λ f. ⊥) →
      HoldsSent s.number (r ∷ records past) (record { rec = Some r; taken = taken; sent = sent } ∷ entries past) → (has_ended (records past) ≡ true → is_epoch r.kind ≡ false) →
      (HasEnded (entries past) → (taken ≡ None) × (sent ≡ None)) → ((n : Name) → weigh (ticket_in n) gives ≡ 0) →
      ((n : Name) → weigh (nack_held n) gives ≤ nack_in n (λ t. holder (Server s.number) t (entries past)) taken) →
      AllHeld (λ h. BorneBy ls h (longer (line_up b s past) call (record { rec = Some r; taken = taken; sent = sent }))) gives →
      IsGood ls (line_up b s past) call (record { rec = Some r; taken = taken; sent = sent }) gives
  up_plain r taken sent gives call g o u again p none_sent holds goes well none nacks bears = record {
    owns = ((λ n. (in_none gives_name n r g, in_none is_retried n r again, omega (arith, none_times sent none_sent n))), holds, goes);
    balance = λ n. omega (arith, none n, in_none is_offered n r o, in_none is_unsent n r u);
    nacked = λ n. omega (arith, nacks n, in_none is_retried n r again, passed_none n call r p);
    copies = λ ms grows t n f h c.
        copies_grow ls ms grows (Server s.number) past copies t n f (held_before s.number t n (record { rec = Some r; taken = taken; sent = sent }) (entries past) none_sent h)
        (sym (ap (λ (x : Bool). if x && r.tag == t then copy_of call else copy_on t past) o) ∙ c);
    keeps = λ ms grows unsent passed. none_at sent none_sent ms;
    bears = bears;
    well = well;
  }
    where
      none_times : (sent : Option MuxFrame) → OnDispatch sent (λ f. ⊥) → (n : Name) → one_if (sends_dispatch sent && is_named n r.name) ≡ 0
      none_times None h n = refl
      none_times (Some f) h n = counts_none (is_dispatch (kind_of f.kind)) (is_named n r.name) h

      none_at : (sent : Option MuxFrame) → OnDispatch sent (λ f. ⊥) → (ms : List Line) → OnDispatch sent (IsFairSend ms (Server s.number) (record { rec = Some r; taken = taken; sent = sent }) (entries past))
      none_at None h ms = tt
      none_at (Some f) h ms = λ d. absurd (h d)

  -- nothing is said of a list that goes on
  runs : {P : Type 0} → has_ended (records past) ≡ false → HasEnded (entries past) → P
  runs h e = absurd (let x : false ≡ true = sym h ∙ told e in cc)

  over_goes : (k : RecordKind) → has_ended (records past) ≡ false → has_ended (records past) ≡ true → is_epoch k ≡ false
  over_goes k h e = absurd (let x : false ≡ true = sym h ∙ e in cc)

  -- each dispatch that is sent holds its tag still
  still : (e : Exchange) → OnDispatch e.sent (λ f. ⊥) → OnFinal e.taken (λ f. held_by f.tag ≡ None) → AllByRecursion (IsSent s.number (e ∷ entries past)) (sendings (records past))
  still e sends stray =
      all_still (IsSent s.number (entries past)) (IsSent s.number (e ∷ entries past)) (sendings (records past))
      (λ x h. (h.0, h.1, ap (λ (o : Option Holder). name_held o) (holder_still s.number x.tag e (entries past) sends (of_taken e.taken stray x.tag)) ∙ h.2)) held
    where
      of_taken : (taken : Option MuxFrame) → OnFinal taken (λ f. held_by f.tag ≡ None) → (t : ℕ) → OnFinal taken (λ f. f.tag ≡ t → holder (Server s.number) t (entries past) ≡ None)
      of_taken None h t = tt
      of_taken (Some f) h t = λ final same. subst (λ u. held_by u ≡ None) same (h final)

  -- but the one whose tag is freed
  freed : (e : Exchange) (t : ℕ) → OnDispatch e.sent (λ f. ⊥) → OnFinal e.taken (λ f. f.tag ≡ t) → AllByRecursion (IsSent s.number (e ∷ entries past)) (off_tag t (sendings (records past)))
  freed e t sends on =
      all_off (IsSent s.number (entries past)) (IsSent s.number (e ∷ entries past)) t (sendings (records past))
      (λ x other h. (h.0, h.1, ap (λ (o : Option Holder). name_held o) (holder_still s.number x.tag e (entries past) sends (of_taken e.taken on x.tag other)) ∙ h.2)) held
    where
      of_taken : (taken : Option MuxFrame) → OnFinal taken (λ f. f.tag ≡ t) → (u : ℕ) → (u == t) ≡ false → OnFinal taken (λ f. f.tag ≡ u → holder (Server s.number) u (entries past) ≡ None)
      of_taken None h u other = tt
      of_taken (Some f) h u other = λ final same. absurd (let x : true ≡ false = sym (eq-eqb u t (sym same ∙ h final)) ∙ other in cc)

  settles_none : (n : Name) (f : MuxFrame) (o : Option Name) (again : Option MuxFrame) → weigh (ticket_in n) (settled_by f o again) ≡ 0
  settles_none n f None again = refl
  settles_none n f (Some m) again = omega arith

  settles_nack : (n : Name) (f : MuxFrame) (o : Option Name) (again : Option MuxFrame) → name_held (held_by f.tag) ≡ o → weigh (nack_held n) (settled_by f o again) ≤ nack_in n held_by (Some f)
  settles_nack n f None again is = omega arith
  settles_nack n f (Some m) again is = omega (arith, ap (λ (x : Option Name). one_if (is_nack f && is_named n x)) is)

  settles_borne : (f : MuxFrame) (call : Call) (e : Exchange) (o : Option Name) (again : Option MuxFrame) → e.taken ≡ Some f → is_final (kind_of f.kind) ≡ true → name_held (held_by f.tag) ≡ o → copy_on f.tag past ≡ again →
      AllHeld (λ h. BorneBy ls h (longer (line_up b s past) call e)) (settled_by f o again)
  settles_borne f call e None again t final is copy = tt
  settles_borne f call e (Some n) again t final is copy = (((s.number, refl, inl (t, final, is)), copied again copy), tt)
    where
      copied : (again : Option MuxFrame) → copy_on f.tag past ≡ again → IsCopied ls n again
      copied None c = tt
      copied (Some g) c = copies f.tag n g is c

  -- a frame that settles nothing
  framed_plain : (f : MuxFrame) (now : ℕ) (r : Record) (sent : Option MuxFrame) → has_ended (records past) ≡ false → (is_final (kind_of f.kind) ≡ true → held_by f.tag ≡ None) →
      gives_name r.kind ≡ false → is_offered r.kind ≡ false → is_unsent r.kind ≡ false → is_retried r.kind ≡ false → is_passed r.kind ≡ false → OnDispatch sent (λ f. ⊥) →
      sendings_after r r.kind (sendings (records past)) ≡ sendings (records past) →
      IsGood ls (line_up b s past) (FrameCall f now) (record { rec = Some r; taken = Some f; sent = sent }) []
  framed_plain f now r sent going stray g o u again p none same =
      up_plain r (Some f) sent [] (FrameCall f now) g o u again p none
      (subst (AllByRecursion (IsSent s.number (record { rec = Some r; taken = Some f; sent = sent } ∷ entries past))) (sym same) (still (record { rec = Some r; taken = Some f; sent = sent }) none stray))
      (over_goes r.kind going) (runs going) (λ n. refl) (λ n. omega arith) tt

  -- a step that takes nothing
  up_quiet : (r : Record) (sent : Option MuxFrame) (call : Call) → gives_name r.kind ≡ false → is_offered r.kind ≡ false → is_unsent r.kind ≡ false → is_retried r.kind ≡ false → is_passed r.kind ≡ false →
      OnDispatch sent (λ f. ⊥) → sendings_after r r.kind (sendings (records past)) ≡ sendings (records past) → (has_ended (records past) ≡ true → is_epoch r.kind ≡ false) →
      (HasEnded (entries past) → sent ≡ None) → IsGood ls (line_up b s past) call (record { rec = Some r; taken = None; sent = sent }) []
  up_quiet r sent call g o u again p none same goes well =
      up_plain r None sent [] call g o u again p none
      (subst (AllByRecursion (IsSent s.number (record { rec = Some r; taken = None; sent = sent } ∷ entries past))) (sym same) (still (record { rec = Some r; taken = None; sent = sent }) none tt))
      goes (λ e. (refl, well e)) (λ n. refl) (λ n. omega arith) tt

  reacted_good : (f : MuxFrame) (now : ℕ) → has_ended (records past) ≡ false → (r : Reaction) → LedTo s past f r → StrayOf s past f r → Q (FrameCall f now) (reacted s past f now r)
  reacted_good f now going Shut h stray = tt
  reacted_good f now going Full h stray = tt
  reacted_good f now going Short h stray = tt
  reacted_good f now going (Closes cause) h stray =
      up_quiet _ None (FrameCall f now) refl refl refl refl refl tt refl (λ h. refl) (λ e. refl)
  reacted_good f now going (Settles n again) h stray =
      let is : name_held (held_by f.tag) ≡ n = ap (λ (x : Option Holder). name_held x) h.2.1 ∙ h.2.2 in
      let r : Record = record { kind = settled_kind f; tag = f.tag; name = n; reading = max (reading (records past)) now } in
      up_plain r (Some f) None (settled_by f n again) (FrameCall f now) (settled_kinds gives_name f refl refl) (settled_kinds is_offered f refl refl) (settled_kinds is_unsent f refl refl)
      (settled_kinds is_retried f refl refl) (settled_kinds is_passed f refl refl) tt
      (subst (AllByRecursion (IsSent s.number (record { rec = Some r; taken = Some f; sent = None } ∷ entries past))) (sym (settled_off r f (sendings (records past))))
      (freed (record { rec = Some r; taken = Some f; sent = None }) f.tag tt (λ final. refl)))
      (over_goes (settled_kind f) going) (runs going) (λ m. settles_none m f n again) (λ m. settles_nack m f n again is)
      (settles_borne f (FrameCall f now) _ n again refl h.1 is h.3)
  reacted_good f now going Pongs h stray = framed_plain f now _ (Some (rping_on f.tag)) going stray refl refl refl refl refl (λ d. (cc)) refl
  reacted_good f now going Drains h stray = framed_plain f now _ (Some (rdrain_on f.tag)) going stray refl refl refl refl refl (λ d. (cc)) refl
  reacted_good f now going (Leases ms) h stray = framed_plain f now _ None going stray refl refl refl refl refl tt refl
  reacted_good f now going Ignores h stray = framed_plain f now _ None going stray refl refl refl refl refl tt refl
  reacted_good f now going Unsupports h stray = framed_plain f now _ (Some (rerr_on f.tag (codes "unsupported"))) going stray refl refl refl refl refl (λ d. (cc)) refl
  reacted_good f now going AsksInit h stray = framed_plain f now _ (Some (tinit_on 1)) going stray refl refl refl refl refl (λ d. (cc)) refl
  reacted_good f now going EndsInit h stray = framed_plain f now _ None going stray refl refl refl refl refl tt refl
  reacted_good f now going EndsPing h stray = framed_plain f now _ None going stray refl refl refl refl refl tt refl
  reacted_good f now going Drops h stray = framed_plain f now _ None going stray refl refl refl refl refl tt refl

  -- a dispatch that is sent under a name
  abbrev offer_record : ℕ → Name → ℕ → Record
  offer_record t n now = record { kind = Offered; tag = t; name = Some n; reading = max (reading (records past)) now }

  abbrev offer_entry : ℕ → Name → MuxFrame → ℕ → Exchange
  offer_entry t n f now = record { rec = Some (offer_record t n now); taken = None; sent = Some (retag t f) }

  abbrev offered_by : Name → Holder
  offered_by n = record { place = length (entries past); name = Some n }

  none_on : (t : ℕ) (n : Name) → is_open (Server s.number) t (entries past) ≡ false → name_held (held_by t) ≡ Some n → ⊥
  none_on t n free h = (let x : None ≡ Some n = sym (ap (λ (o : Option Holder). name_held o) (open_none (held_by t) free)) ∙ h in cc)

  offered_holds : (t : ℕ) (n : Name) (f : MuxFrame) (now : ℕ) → is_dispatch (kind_of f.kind) ≡ true → is_open (Server s.number) t (entries past) ≡ false →
      HoldsSent s.number (offer_record t n now ∷ records past) (offer_entry t n f now ∷ entries past)
  offered_holds t n f now d free = (
    (n, refl, ap (λ (x : Option Holder). name_held x) (ap (λ b. if b then Some (offered_by n) else held_by t) (and_from _ _ d (eq-eqb t t refl)))),
    all_still (IsSent s.number (entries past)) (IsSent s.number (offer_entry t n f now ∷ entries past)) (sendings (records past)) (λ x h. elim (asked_cases x.tag (offered_by n) (retag t f) (held_by x.tag)) [
      | inl a ↦ absurd (none_on t h.0 free (ap (λ u. name_held (held_by u)) a.1 ∙ h.2))
      | inr a ↦ (h.0, h.1, ap (λ (o : Option Holder). name_held o) a ∙ h.2)
    ]) held,
  )

  offered_copies : (t : ℕ) (n : Name) (f : MuxFrame) (left now : ℕ) → SomeLine (IsTakenIn n f) ls → is_open (Server s.number) t (entries past) ≡ false → (ms : List Line) → Grows ls ms →
      CopiesOf ms (Server s.number) (record { call = OfferCall n f left now; entry = offer_entry t n f now } ∷ past)
  offered_copies t n f left now taken free ms g u m x h c = elim (asked_cases u (offered_by n) (retag t f) (held_by u)) [
    | inl a ↦ (
        let same : Some n ≡ Some m = sym (ap (λ (o : Option Holder). name_held o) a.0) ∙ h in
        let copy : (if left == 0 then None else Some f) ≡ Some x = sym (ap (λ (b : Bool). if b then copy_of (OfferCall n f left now) else copy_on u past) (eq-eqb t u a.1)) ∙ c in
        copied m same (left == 0) copy)
    | inr a ↦ (let before : name_held (held_by u) ≡ Some m = sym (ap (λ (o : Option Holder). name_held o) a) ∙ h in by_tag m before (t == u) refl c)
  ]
    where
      copied : (m : Name) → Some n ≡ Some m → (b : Bool) → (if b then None else Some f) ≡ Some x → SomeLine (IsTakenIn m x) ms
      copied m same true e = absurd (cc)
      copied m same false e = (let n_is : n ≡ m = cc in let f_is : f ≡ x = cc in subst (λ y. SomeLine (IsTakenIn m y) ms) f_is (subst (λ y. SomeLine (IsTakenIn y f) ms) n_is (g.taken n f taken)))

      by_tag : (m : Name) → name_held (held_by u) ≡ Some m → (b : Bool) → (t == u) ≡ b → (if b then copy_of (OfferCall n f left now) else copy_on u past) ≡ Some x → SomeLine (IsTakenIn m x) ms
      by_tag m before true e c = absurd (none_on t m free (ap (λ y. name_held (held_by y)) (eqb-true t u e) ∙ before))
      by_tag m before false e c = g.taken m x (copies u m x before c)

  lost_none : (n : Name) (o : Option Name) → weigh (ticket_in n) (lost_of o) ≡ 0
  lost_none n None = refl
  lost_none n (Some m) = omega arith

  lost_nack : (n : Name) (o : Option Name) → weigh (nack_held n) (lost_of o) ≤ 0
  lost_nack n None = omega arith
  lost_nack n (Some m) = omega arith

  lost_borne : (l : Line) (n : Name) (o : Option Name) → o ≡ Some n → BorneBy ls (LostOf n) l → AllHeld (λ h. BorneBy ls h l) (lost_of o)
  lost_borne l n None e p = tt
  lost_borne l n (Some m) e p = (let same : n ≡ m = cc in (subst (λ x. BorneBy ls (LostOf x) l) same p, tt))

  next_good : (e : Sending) → has_ended (records past) ≡ true → least (sendings (records past)) ≡ Some e →
      Q LoseNextCall (Recorded (entry_of (records past) 0 LostOne e.tag e.name None None) (lost_of e.name))
  next_good e over is =
      let h = least_passes (IsSent s.number (entries past)) (sendings (records past)) e held is in
      up_plain _ None None (lost_of e.name) LoseNextCall refl refl refl refl refl tt (freed (entry_of (records past) 0 LostOne e.tag e.name None None) e.tag tt tt) (λ h. refl) (λ x. (refl, refl)) (λ n. lost_none n e.name) (λ n. lost_nack n e.name)
      (lost_borne _ h.0 e.name h.1 (s.number, refl, inr (ended_entries past over), e.tag, h.2))

  -- every step of a server's session is good
  pub up_good : (out t : ℕ) (call : Call) → MayChoose s past t call → CallBorne ls call → OnRecorded (up s past out t call) (λ e gives. IsGood ls (line_up b s past) call e gives)
  up_good =
      up_shapes ls s past (λ call e gives. IsGood ls (line_up b s past) call e gives) (λ f now going r led stray. reacted_good f now going r led stray)
      (λ t n f left now may borne going ready undrained unretired unlapsed window room. record {
        owns = ((λ m. (refl, refl, one_at_most (is_dispatch (kind_of f.kind)) (is_named m (Some n)))), offered_holds t n f now (taken_dispatch n f ls borne) may.2, λ h. refl);
        balance = λ m. omega arith;
        nacked = λ m. omega arith;
        copies = offered_copies t n f left now borne may.2;
        keeps = λ ms g unsent passed d. record { carried = (n, refl, f, g.taken n f borne, refl); free = may.2; undrained = undrained };
        bears = (tt, tt);
        well = runs going;
      })
      (λ n tag why now going here.
      up_plain _ None (Some (tdiscarded_for tag why)) [] (RecallCall n tag why now) refl refl refl refl refl (λ d. (cc))
      (all_recalled (IsSent s.number (entry_of (records past) now Discarding tag (Some n) None (Some (tdiscarded_for tag why)) ∷ entries past)) tag (sendings (records past)) (λ x h. h) (still (entry_of (records past) now Discarding tag (Some n) None (Some (tdiscarded_for tag why))) (λ d. (cc)) tt)) (λ h. refl) (runs going) (λ m. refl) (λ m. omega arith) tt)
      (λ now going room. up_quiet _ None (ClockCall now) refl refl refl refl refl tt refl (λ h. refl) (λ e. refl))
      (λ now going room. up_quiet _ None (RetireCall now) refl refl refl refl refl tt refl (λ h. refl) (λ e. refl))
      (λ now going ready none room. up_quiet _ (Some (tping_on 1)) (PingCall now) refl refl refl refl refl (λ d. (cc)) refl (λ h. refl) (runs going))
      (λ now going. up_quiet _ None (LoseCall now) refl refl refl refl refl tt refl (λ h. refl) (λ e. refl))
      next_good
      (λ going quiet out none full few. up_plain _ None None [] SealCall refl refl refl refl refl tt tt (λ h. absurd (let x : false ≡ true = sym going ∙ h in cc)) (runs going) (λ m. refl) (λ m. omega arith) tt)
      (λ going fits few. up_quiet _ None RollCall refl refl refl refl refl tt refl (λ h. refl) (λ e. refl))
