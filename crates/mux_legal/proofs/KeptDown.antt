-- Each record of a client's session may follow those before it.
use Rattle.std.proofs.Common.{◌≤◌, length, ℕ, List, [], ◌∷◌, ◌+◌, ◌-◌, ◌≡◌, ◌&&◌, ◌||◌, Bool, true, false, not, Option, Some, None, refl, sym, ◌∙◌, ap, max, arith}
use Rattle.std.specs.Prelude.{if◌then◌else◌, ◌==◌, nat_le, nat_lt, is_some, is_none, sum_by}
use Rattle.std.proofs.lemmas.Bool.{and_from, le-leb, lt-ltb, leb-false, ltb-false, eq-eqb}
use Rattle.mux_frame.specs.Spelling.{MuxFrame}
use Rattle.mux_history.specs.declared.name.Name.{Name}
use Rattle.mux_history.specs.declared.record.Record.{Record}
use Rattle.mux_history.specs.declared.kind.RecordKind.{RecordKind}
use Rattle.mux_history.specs.declared.kind.RecordKind.TheVariants as records_of
use Rattle.mux_history.specs.declared.session.DrainState.{DrainState}
use Rattle.mux_history.specs.declared.session.DrainState.TheVariants as drains
use Rattle.mux_history.specs.declared.session.InitMode.{InitMode}
use Rattle.mux_history.specs.declared.session.SessionId.TheVariants.{Client}
use Rattle.mux_history.specs.Standings.{down_standing, same_test, same_drain, same_standing, leads_to}
use Rattle.mux_history.specs.Readings.{is_cut, written, same_name, is_named, has_ended, reading, noted_kind, note_due, answer_due, is_noted, tag_of, book, dispatches, is_fresh, drain_of, epoch_of, is_epoch, is_retried}
use Rattle.mux_history.specs.Holders.{name_on, of_named}
use Rattle.mux_model.specs.Entries.{Exchange}
use Rattle.mux_model.specs.Tags.{name_held, Holder, holder, is_open}
use Rattle.mux_model.specs.Steps.{Held, RecallOf, Call, FrameCall, NoteCall, SettleCall, SealCall, RollCall, Step, entries, records, with_record, sealing, rolling, last_epoch}
use Rattle.mux_model.specs.Replay.{is_open_entry, spare_down, finds_down, is_answered_by, is_next_name, may_follow, is_joined}
use Rattle.mux_model.specs.Down.{DownSession, is_held, place_in, noted_place, some_of, recall_to, next_name, free_records, next_recalled, down, forgets_place, kept_for, for_taking, last_seq, left_of}
use Rattle.mux_model.specs.Down as downs
use Rattle.mux_legal.proofs.Basics.{OnRecorded, is_its_name, same_names, named_same}
use Rattle.mux_legal.proofs.Link.{IsNamed, open_none, rec_of}
use Rattle.mux_legal.proofs.LinkDown.{IsTiedDown}
use Rattle.mux_legal.proofs.Following.{FollowsDown, follows_down, leads_other, uncut, joined_down}
use Rattle.mux_legal.proofs.DownShapes.{down_shapes, LedTo, Answers, passes, fails, nacks, unroutes, given_by, CallBorne}
use Rattle.mux_legal.proofs.KeptUp.{positive, later, below, test_same}
use Rattle.mux_model.specs.Legal.{Line}

-- what a client's list keeps, whatever it is called begun in
pub record IsKeptDown (c : DownSession) (past : List Step) : Type 0 where
  pub tied : IsTiedDown c past
  pub places : (n : Name) → is_some (noted_place n past) ≡ is_noted n (records past)
  pub joined : (mode : InitMode) → is_joined c.limits c.boot mode (Client c.number) (records past) ≡ true

-- the record of one more step may follow those of its epoch, and an epoch begins where those before it lead to
abbrev pub Follows : DownSession → List Record → Option Record → Type 0
Follows c rs None = Unit {0}
Follows c rs (Some r) = FollowsDown c rs r × ((mode : InitMode) → leads_to mode (Client c.number) rs r r.kind ≡ true)

-- whether a name is noted, behind one more record
abbrev pub noted_in : Name → Option Record → Bool → Bool
noted_in n None was = was
noted_in n (Some r) was = if is_epoch r.kind then false else if is_named n r.name then noted_kind r.kind was else was

-- the place that is known of it, behind one more step
abbrev pub place_behind : Name → Call → Option Record → Option (ℕ × ℕ) → Option (ℕ × ℕ)
place_behind n call o before = if forgets_place n o then None else place_in n call before

pub record KeepsDown (c : DownSession) (past : List Step) (call : Call) (e : Exchange) : Type 0 where
  pub follows : Follows c (records past) e.rec
  pub notes : (n : Name) (before : Option (ℕ × ℕ)) → is_some (place_behind n call e.rec before) ≡ noted_in n e.rec (is_some before)

joined_with : (c : DownSession) (mode : InitMode) (rs : List Record) (o : Option Record) → Follows c rs o → is_joined c.limits c.boot mode (Client c.number) rs ≡ true →
    is_joined c.limits c.boot mode (Client c.number) (with_record o rs) ≡ true
joined_with c mode rs None f h = h
joined_with c mode rs (Some r) f h = joined_down c.limits c.boot c.number mode rs r h f.0 (f.1 mode)

noted_more : (n : Name) (rs : List Record) (o : Option Record) → is_noted n (with_record o rs) ≡ noted_in n o (is_noted n rs)
noted_more n rs None = refl
noted_more n rs (Some r) = refl

pub kept_down : (c : DownSession) (past : List Step) (call : Call) (e : Exchange) → IsKeptDown c past → IsTiedDown c (record { call = call; entry = e } ∷ past) → KeepsDown c past call e →
    IsKeptDown c (record { call = call; entry = e } ∷ past)
kept_down c past call e old tied new = record {
  tied = tied;
  places = λ n. new.notes n (noted_place n past) ∙ (ap (noted_in n e.rec) (old.places n) ∙ sym (noted_more n (records past) e.rec));
  joined = λ mode. joined_with c mode (records past) e.rec new.follows (old.joined mode);
}

either : (b x : Bool) → (if b then x else x) ≡ x
either true x = refl
either false x = refl

-- tests
tests_agree : (a b : Bool) → a ≡ b → same_test a b ≡ true
tests_agree a b e = ap (λ x. same_test x b) e ∙ test_same b

-- an open tag has a name
unnamed : (o : Option Holder) → IsNamed o → is_some o ≡ true → name_held o ≡ None → ⊥
unnamed None p e h = absurd (cc)
unnamed (Some x) p e h = absurd (let y : None ≡ Some p.0 = sym h ∙ p.1 in cc)

-- a session stands as it stands
drain_same : (d : DrainState) → same_drain d d ≡ true
drain_same drains.Running = refl
drain_same drains.Asked = refl
drain_same drains.Acked = refl

down_same : (rs : List Record) → same_standing (down_standing rs) (down_standing rs) ≡ true
down_same rs = and_from _ _ (and_from _ _ (eq-eqb (dispatches rs) (dispatches rs) refl) (test_same (is_fresh rs))) (drain_same (drain_of rs))

recall_given : (n : Name) (why : List ℕ) (o : Option (ℕ × ℕ)) → some_of (recall_to n why o) ≡ is_some o
recall_given n why None = refl
recall_given n why (Some p) = refl

same_flip : (m n : Name) → same_name m n ≡ true → same_name n m ≡ true
same_flip m n h = ap (same_name n) (same_names m n h) ∙ named_same n

module _ (ls : List Line) (c : DownSession) (past : List Step) (old : IsKeptDown c past) where
  abbrev rs : List Record
  rs = records past

  abbrev Q : Call → Exchange → List Held → Type 0
  Q call e gives = KeepsDown c past call e

  same_open : (n : Name) → is_open_entry rs n ≡ is_held c n past
  same_open n i = if has_ended rs then false else is_named n (old.tied.linked (tag_of n rs) i)

  same_spare : spare_down c.limits rs ≡ free_records c past
  same_spare = λ i.
      c.limits.history - length (written rs) - (if has_ended rs then 0 else 1)
      - sum_by (kept_for c.limits (λ n. same_open n i) rs) (book rs)

  finds : (n : ℕ) → has_ended rs ≡ false → n ≤ free_records c past → finds_down c n rs ≡ true
  finds n going enough = and_from _ _ (ap not going) (le-leb n (spare_down c.limits rs) (omega (arith, same_spare, enough)))

  one : has_ended rs ≡ false → nat_lt (free_records c past) 1 ≡ false → finds_down c 1 rs ≡ true
  one going room = finds 1 going (ltb-false (free_records c past) 1 room)

  free_tag : (t : ℕ) → is_open (Client c.number) t (entries past) ≡ false → is_none (name_on t rs) ≡ true
  free_tag t free = ap is_none (old.tied.linked t ∙ ap (λ (o : Option Holder). name_held o) (open_none (holder (Client c.number) t (entries past)) free))

  above : (t : ℕ) → (t == 0) ≡ false → nat_lt 0 t ≡ true
  above t e = lt-ltb 0 t (positive t e)

  next : nat_le last_seq (dispatches rs) ≡ false → of_named (is_next_name c rs) (Some (next_name c past)) ≡ true
  next few = and_from _ _ (and_from _ _ (and_from _ _ (eq-eqb c.boot c.boot refl) (eq-eqb c.number c.number refl)) (eq-eqb _ _ refl)) (below last_seq (dispatches rs) few)

  -- a step that notes nothing
  plain : (call : Call) (r : Record) (taken sent : Option MuxFrame) → is_cut r.kind ≡ false → is_retried r.kind ≡ false → ((n : Name) (before : Option (ℕ × ℕ)) → place_in n call before ≡ before) → ((was : Bool) → noted_kind r.kind was ≡ was) →
      (may_follow c rs r r.kind && nat_le (reading rs) r.reading) ≡ true → KeepsDown c past call (record { rec = Some r; taken = taken; sent = sent })
  plain call r taken sent e again calls neutral follows = record {
    follows = (follows_down c rs r (uncut r.kind e) follows, λ mode. leads_other mode (Client c.number) rs r r.kind e);
    notes = λ n before.
        (λ i. is_some (if uncut r.kind e i || (again i && is_named n r.name) then None else place_in n call before))
        ∙ (ap is_some (calls n before)
        ∙ sym ((λ i. if uncut r.kind e i then false else if is_named n r.name then neutral (is_some before) i else is_some before) ∙ either (is_named n r.name) (is_some before)));
  }

  discarded : (f : MuxFrame) (now t : ℕ) (why : List ℕ) → has_ended rs ≡ false → LedTo c past f (downs.Discards t why) → (o : Option Name) → name_held (holder (Client c.number) t (entries past)) ≡ o →
      OnRecorded (downs.discarded past now f t why o) (Q (FrameCall f now))
  discarded f now t why going led None e = absurd (unnamed (holder (Client c.number) t (entries past)) (old.tied.names t) led.1 e)
  discarded f now t why going led (Some n) e =
      plain (FrameCall f now) _ (Some f) _ refl refl (λ m b. refl) (λ was. refl)
      (and_from _ _
      (and_from _ _ (one going led.0) (and_from _ _ (is_its_name n (name_on t rs) (old.tied.linked t ∙ e))
      (tests_agree (some_of (recall_to n why (noted_place n past))) (is_noted n rs) (recall_given n why (noted_place n past) ∙ old.places n)))) (later (reading rs) now))

  framed : (f : MuxFrame) (now : ℕ) → has_ended rs ≡ false → (r : downs.Reaction) → LedTo c past f r → OnRecorded (downs.reacted c past f now r) (Q (FrameCall f now))
  framed f now going downs.Shut led = tt
  framed f now going downs.Full led = tt
  framed f now going downs.Short led = tt
  framed f now going (downs.Closes cause) led = plain _ _ None None refl refl (λ m b. refl) (λ was. refl) (and_from _ _ (and_from _ _ (ap not going) refl) (later (reading rs) now))
  framed f now going downs.NacksDrained led =
      plain _ _ (Some f) _ refl refl (λ m b. refl) (λ was. refl)
      (and_from _ _ (and_from _ _ (and_from _ _ (and_from _ _ (and_from _ _ (one going led.0) (above f.tag led.1)) (free_tag f.tag led.2)) led.3) (next led.4)) (later (reading rs) now))
  framed f now going downs.Takes led =
      plain _ _ (Some f) None refl refl (λ m b. refl) (λ was. refl)
      (and_from _ _
      (and_from _ _
      (and_from _ _
      (and_from _ _
      (and_from _ _ (and_from _ _ (finds (for_taking c.limits) going (ltb-false (free_records c past) (for_taking c.limits) led.0)) (lt-ltb (length (book rs)) c.limits.window (leb-false c.limits.window (length (book rs)) led.4)))
      (above f.tag led.1)) (free_tag f.tag led.2)) (ap not led.3)) (next led.5)) (later (reading rs) now))
  framed f now going downs.Pongs led = plain _ _ (Some f) _ refl refl (λ m b. refl) (λ was. refl) (and_from _ _ (and_from _ _ (one going led) refl) (later (reading rs) now))
  framed f now going downs.Ignores led = plain _ _ (Some f) None refl refl (λ m b. refl) (λ was. refl) (and_from _ _ (and_from _ _ (one going led) refl) (later (reading rs) now))
  framed f now going downs.Inits led = plain _ _ (Some f) _ refl refl (λ m b. refl) (λ was. refl) (and_from _ _ (and_from _ _ (and_from _ _ (one going led.0) refl) led.1) (later (reading rs) now))
  framed f now going downs.Misplaced led =
      plain _ _ (Some f) _ refl refl (λ m b. refl) (λ was. refl) (and_from _ _ (and_from _ _ (and_from _ _ (and_from _ _ (one going led.0) refl) (ap not led.2)) (free_tag f.tag led.1)) (later (reading rs) now))
  framed f now going downs.Unsupports led =
      plain _ _ (Some f) _ refl refl (λ m b. refl) (λ was. refl) (and_from _ _ (and_from _ _ (and_from _ _ (and_from _ _ (one going led.0) refl) (above f.tag led.2)) (free_tag f.tag led.1)) (later (reading rs) now))
  framed f now going downs.Echoes led = plain _ _ (Some f) _ refl refl (λ m b. refl) (λ was. refl) (and_from _ _ (and_from _ _ (and_from _ _ (one going led.0) led.1) led.2) (later (reading rs) now))
  framed f now going downs.Acks led =
      plain _ _ (Some f) None refl refl (λ m b. refl) (λ was. refl) (and_from _ _ (and_from _ _ (and_from _ _ (one going led.0) led.1) led.2) (later (reading rs) now))
  framed f now going (downs.Discards t why) led = discarded f now t why going led (name_held (holder (Client c.number) t (entries past))) refl

  open_now : (n : Name) → is_held c n past ≡ true → answer_due n rs ≡ true → is_answered_by rs n ≡ true
  open_now n held due = and_from _ _ due (same_open n ∙ held)

  tag_itself : (n : Name) → (tag_of n rs == tag_of n rs) ≡ true
  tag_itself n = eq-eqb (tag_of n rs) (tag_of n rs) refl

  -- calls that answer a name note none
  abbrev NotesNone : Call → Type 0
  NotesNone call = (m : Name) (b : Option (ℕ × ℕ)) → place_in m call b ≡ b

  answered : (call : Call) → NotesNone call → (n : Name) (kind : RecordKind) (whole : Bool) (reply : ℕ → MuxFrame) (now : ℕ) → Answers ls n call kind whole reply → answer_due n rs ≡ true → (whole ≡ true → note_due n rs ≡ true) → is_held c n past ≡ true →
      KeepsDown c past call (record { rec = Some (record { kind = kind; tag = tag_of n rs; name = Some n; reading = max (reading rs) now }); taken = None; sent = Some (reply (tag_of n rs)) })
  answered call none n kind whole reply now (passes r again b) due note held = plain call _ None _ refl refl none (λ was. refl) (and_from _ _ (and_from _ _ (open_now n held due) (tag_itself n)) (later (reading rs) now))
  answered call none n kind whole reply now (fails b) due note held = plain call _ None _ refl refl none (λ was. refl) (and_from _ _ (and_from _ _ (open_now n held due) (tag_itself n)) (later (reading rs) now))
  answered call none n kind whole reply now nacks due note held = plain call _ None _ refl refl none (λ was. refl) (and_from _ _ (and_from _ _ (and_from _ _ (open_now n held due) (note refl)) (tag_itself n)) (later (reading rs) now))
  answered call none n kind whole reply now unroutes due note held = plain call _ None _ refl refl none (λ was. refl) (and_from _ _ (and_from _ _ (and_from _ _ (open_now n held due) (note refl)) (tag_itself n)) (later (reading rs) now))

  whole_note : (whole note : Bool) → (whole ≡ true → note ≡ true) → (if whole then note else true) ≡ true
  whole_note true note h = h refl
  whole_note false note h = refl

  given_test : (n : Name) (server tag : ℕ) → same_test (some_of (given_by c past n server tag)) (not (is_open_entry rs n) && answer_due n rs) ≡ true
  given_test n server tag = tests_agree _ _ (by_test (is_held c n past) (answer_due n rs) ∙ sym (ap (λ b. not b && answer_due n rs) (same_open n)))
    where
      by_test : (held due : Bool) → some_of (if held then [] else if due then RecallOf n server tag (downs.reason_of n (entries past)) ∷ [] else []) ≡ (not held && due)
      by_test true due = refl
      by_test false true = refl
      by_test false false = refl

  noted : (n : Name) (server tag : ℕ) → note_due n rs ≡ true →
      KeepsDown c past (NoteCall n server tag) (record { rec = Some (record { kind = records_of.Noted (some_of (given_by c past n server tag)); tag = tag_of n rs; name = Some n; reading = max (reading rs) 0 }); taken = None; sent = None })
  noted n server tag due = record {
    follows = (
      follows_down c rs (rec_of past 0 (records_of.Noted (some_of (given_by c past n server tag))) (tag_of n rs) (Some n)) refl
          (and_from _ _ (and_from _ _ (and_from _ _ due (given_test n server tag)) (tag_itself n)) (later (reading rs) 0)),
      λ mode. refl,
    );
    notes = λ m before. by_test m before (same_name m n) (same_name n m) (same_flip m n) (same_flip n m);
  }
    where
      by_test : (m : Name) (before : Option (ℕ × ℕ)) (a b : Bool) → (a ≡ true → b ≡ true) → (b ≡ true → a ≡ true) → is_some (if a then Some (server, tag) else before) ≡ (if b then true else is_some before)
      by_test m before true true f g = refl
      by_test m before false false f g = refl
      by_test m before true false f g = absurd (let x : false ≡ true = f refl in cc)
      by_test m before false true f g = absurd (let x : false ≡ true = g refl in cc)

  retried : (n : Name) (reply f : MuxFrame) → answer_due n rs ≡ true → is_held c n past ≡ true → note_due n rs ≡ false → nat_lt 0 (left_of c.limits n rs) ≡ true →
      KeepsDown c past (SettleCall n reply (Some f)) (record { rec = Some (record { kind = records_of.Retried; tag = tag_of n rs; name = Some n; reading = max (reading rs) 0 }); taken = None; sent = None })
  retried n reply f due held note left = record {
    follows = (
      follows_down c rs (rec_of past 0 records_of.Retried (tag_of n rs) (Some n)) refl
          (and_from _ _ (and_from _ _ (and_from _ _ (and_from _ _ (open_now n held due) (ap not note)) left) (tag_itself n)) (later (reading rs) 0)),
      λ mode. refl,
    );
    notes = λ m before. by_test (is_named m (Some n)) before;
  }
    where
      by_test : (b : Bool) (before : Option (ℕ × ℕ)) → is_some (if b then None else before) ≡ (if b then false else is_some before)
      by_test true before = refl
      by_test false before = refl

  sealed : has_ended rs ≡ false → nat_lt 0 (length (book rs)) ≡ false → nat_le last_epoch (epoch_of rs) ≡ false →
      KeepsDown c past SealCall (sealing rs (down_standing rs))
  sealed going empty few = record {
    follows = (
      and_from _ _ (and_from _ _ (lt-ltb 0 (epoch_of rs + 1) (omega arith)) (below last_epoch (epoch_of rs) few)) (le-leb 0 (max (reading rs) 0) (omega arith)),
      λ mode.
          and_from _ _ (and_from _ _ (and_from _ _ (eq-eqb (epoch_of rs + 1) (epoch_of rs + 1) refl) (ap not going)) (eq-eqb (max (reading rs) 0) (reading rs) (omega arith)))
          (and_from _ _ (lt-ltb (length (book rs)) 1 (omega (arith, ltb-false 0 (length (book rs)) empty))) (down_same rs)),
    );
    notes = λ n before. refl;
  }

  rolled : has_ended rs ≡ false → nat_le last_epoch (epoch_of rs) ≡ false → KeepsDown c past RollCall (rolling rs)
  rolled going few = record {
    follows = (
      follows_down c rs (rec_of past 0 (records_of.Rolled (epoch_of rs + 1)) 0 None) refl
          (and_from _ _ (and_from _ _ (and_from _ _ (and_from _ _ (ap not going) refl) (lt-ltb 0 (epoch_of rs + 1) (omega arith))) (below last_epoch (epoch_of rs) few)) (later (reading rs) 0)),
      λ mode. and_from _ _ (and_from _ _ (eq-eqb (epoch_of rs + 1) (epoch_of rs + 1) refl) (ap not going)) (eq-eqb (max (reading rs) 0) (reading rs) (omega arith)),
    );
    notes = λ n before. refl;
  }

  pub down_keeps : (out : ℕ) (call : Call) → CallBorne ls call → OnRecorded (down c past out call) (Q call)
  down_keeps =
      down_shapes ls c past Q (λ out f now going r is led facts. framed f now going r led)
      (λ n server tag mine due. noted n server tag due)
      (λ call n kind whole reply a zero mine due note held. answered call zero.1 n kind whole reply 0 a due note held)
      (λ call n kind whole reply a zero mine due note held. plain call _ None None refl refl zero.1 (λ was. refl)
      (and_from _ _ (and_from _ _ (and_from _ _ (and_from _ _ due (ap not (same_open n ∙ held))) (whole_note whole (note_due n rs) note)) (tag_itself n)) (later (reading rs) 0)))
      (λ n reply f b copy mine due nack held note left. retried n reply f due held note left)
      (λ going new room. plain _ _ None _ refl refl (λ m b. refl) (λ was. refl) (and_from _ _ (and_from _ _ (and_from _ _ (finds 1 going (positive (free_records c past) room)) refl) new) (later (reading rs) 0)))
      (λ now going. plain _ _ None None refl refl (λ m b. refl) (λ was. refl) (and_from _ _ (and_from _ _ (ap not going) refl) (later (reading rs) now)))
      (λ n over e. plain _ _ None None refl refl (λ m b. refl) (λ was. refl) (and_from _ _ (and_from _ _ over (and_from _ _ (is_its_name n (next_recalled rs) e) (tag_itself n))) (later (reading rs) 0)))
      (λ going empty out quiet room few. sealed going empty few) (λ going fits few. rolled going few)
