-- Each step of a client's session is good.
use Rattle.std.proofs.Common.{length, subst, ℕ, List, [], ◌∷◌, ◌+◌, ◌≡◌, ◌≤◌, ◌&&◌, inl, inr, Bool, true, false, Option, Some, None, refl, sym, ◌∙◌, ap, arith}
use Rattle.std.specs.Prelude.{if◌then◌else◌, ◌==◌, codes, is_some, max}
use Rattle.std.proofs.lemmas.Bool.{eqb-true, eq-eqb, and_from}
use Rattle.mux_frame.specs.Spelling.{MuxFrame}
use Rattle.mux_message.specs.Kinds.{kind_of, is_dispatch}
use Rattle.mux_history.specs.declared.session.InitMode.{InitMode}
use Rattle.mux_history.specs.declared.name.Name.{Name}
use Rattle.mux_history.specs.declared.record.Record.{Record}
use Rattle.mux_history.specs.declared.kind.RecordKind.{RecordKind}
use Rattle.mux_history.specs.declared.kind.RecordKind.TheVariants.{Took, TookDrained, Late, Retried}
use Rattle.mux_history.specs.declared.session.SessionId.TheVariants.{Client}
use Rattle.mux_model.specs.Entries.{Exchange}
use Rattle.mux_model.specs.Tags.{name_held, Holder, holder, is_open, asked}
use Rattle.mux_history.specs.Readings.{is_epoch, is_named, gives_name, has_ended, reading, stands, is_fresh, is_init_done, counted, dispatches, answer_due, tag_of, is_offered, is_retried}
use Rattle.mux_model.specs.Steps.{Held, TicketOf, PlacedAt, SettledBy, RecallOf, LostOf, Call, FrameCall, NoteCall, SettleCall, SealCall, RollCall, is_nack, DrainCall, LoseCall, LoseNextCall, Step, entries, records, entry_of}
use Rattle.mux_message.specs.Made.{tdrain_on, nack_on, rerr_on, rdiscarded_on, rping_on, rinit_on}
use Rattle.mux_model.specs.Down.{DownSession, is_held, Reaction, Shut, Full, Short, Closes, NacksDrained, Takes, Pongs, Inits, Misplaced, Unsupports, Echoes, Acks, Ignores, Discards, reacted, discarded, recall_to, noted_place, next_name, reason_of, down}
use Rattle.mux_model.specs.Legal.{Line, in_record, tally, total, dispatch_in, OnDispatch, IsOwnAnswer}
use Rattle.mux_legal.proofs.Basics.{OnRecorded, named, is_its_name, given, given_in, one_if}
use Rattle.mux_legal.proofs.Sound.{asked_other}
use Rattle.mux_legal.proofs.Link.{open_none}
use Rattle.mux_legal.proofs.Names.{IsSoundList}
use Rattle.mux_legal.proofs.Invariant.{is_unsent, is_passed, is_nack_call, weigh, ticket_in, nack_held, passed_in, nacks_passed, BorneBy, kept_nack, kept_no_route, kept_lost, kept_discard, IsKeptReply, IsKeptFinal, IsKept}
use Rattle.mux_legal.proofs.Grow.{Grows}
use Rattle.mux_legal.proofs.Advance.{OwnStep, AllHeld, IsGood, used, nack_used}
use Rattle.mux_legal.proofs.DownShapes.{down_shapes, Answers, passes, fails, nacks, unroutes, given_by, CallBorne, FactsOf}

-- holders
open_some : (o : Option Holder) → is_some o ≡ true → (h : Holder) × (o ≡ Some h)
open_some None e = absurd (cc)
open_some (Some h) e = (h, refl)

open_named : (k t : ℕ) (es : List Exchange) → IsSoundList k es → is_open (Client k) t es ≡ true → (n : Name) × (name_held (holder (Client k) t es) ≡ Some n)
open_named k t es s o =
    let h = open_some (holder (Client k) t es) o in
    let w = s.owed t h.0 h.1 in
    (w.0, ap (λ (x : Option Holder). name_held x) h.1 ∙ w.1)

gifts_few : (n : Name) (es : List Exchange) → tally gives_name n es ≤ given es
gifts_few n [] = omega arith
gifts_few n (e ∷ old) = omega (arith, of_record e.rec, gifts_few n old)
  where
    of_kind : (a b : Bool) → one_if (a && b) ≤ one_if a
    of_kind true true = omega arith
    of_kind true false = omega arith
    of_kind false b = omega arith

    of_record : (r : Option Record) → in_record gives_name n r ≤ given_in r
    of_record None = omega arith
    of_record (Some r) = of_kind (gives_name r.kind) (is_named n r.name)

fresh_count : (past : List Step) → dispatches (records past) ≡ given (entries past) → is_fresh (records past) ≡ true → given (entries past) ≡ 0
fresh_count past count h = sym count ∙ by_test (stands is_init_done (records past)) h
  where
    by_test : (b : Bool) → (if b then false else dispatches (records past) == 0) ≡ true → dispatches (records past) ≡ 0
    by_test true e = absurd (cc)
    by_test false e = eqb-true (dispatches (records past)) 0 e

fresh_none : (k t : ℕ) (past : List Step) → dispatches (records past) ≡ given (entries past) → IsSoundList k (entries past) → is_fresh (records past) ≡ true → holder (Client k) t (entries past) ≡ None
fresh_none k t past count s h = by_holder (holder (Client k) t (entries past)) refl
  where
    by_holder : (o : Option Holder) → holder (Client k) t (entries past) ≡ o → o ≡ None
    by_holder None e = refl
    by_holder (Some x) e = absurd (let w = s.owed t x e in omega (arith, w.2, gifts_few w.0 (entries past), fresh_count past count h))

-- the fairness of a reply, by who holds its tag
kept_at : (ms : List Line) (e : Exchange) (f : MuxFrame) (o : Option Holder) (n : Name) → name_held o ≡ Some n → IsKeptReply ms e f n → IsKeptFinal ms e f o
kept_at ms e f None n is h = absurd (cc)
kept_at ms e f (Some x) n is h = (n, is, h)

kept_free : (ms : List Line) (e : Exchange) (f : MuxFrame) (o : Option Holder) → o ≡ None → IsOwnAnswer e.taken f → IsKeptFinal ms e f o
kept_free ms e f o is h = subst (λ x. IsKeptFinal ms e f x) (sym is) h

pub in_none : (p : RecordKind → Bool) (n : Name) (r : Record) → p r.kind ≡ false → in_record p n (Some r) ≡ 0
in_none p n r e = ap (λ b. one_if (b && is_named n r.name)) e

no_asks : (taken : Option MuxFrame) (P : MuxFrame → Type 0) → OnDispatch taken (λ f. ⊥) → OnDispatch taken P
no_asks None P h = tt
no_asks (Some f) P h = λ d. absurd (h d)

other_asks : (f : MuxFrame) → is_dispatch (kind_of f.kind) ≡ false → OnDispatch (Some f) (λ g. ⊥)
other_asks f e = λ d. (let x : false ≡ true = sym e ∙ d in cc)

abbrev pub line_at : DownSession → InitMode → List Step → Line
line_at c mode past = record { boot = c.boot; session = Client c.number; mode = mode; steps = past }

gives_none : (taken : Option MuxFrame) (r : Record) → gives_name r.kind ≡ false → OnDispatch taken (λ f. ⊥) → given_in (Some r) ≡ dispatch_in taken
gives_none None r g h = ap (λ b. one_if b) g
gives_none (Some f) r g h = ap (λ b. one_if b) g ∙ by_test (is_dispatch (kind_of f.kind)) h
  where
    by_test : (b : Bool) → (b ≡ true → ⊥) → 0 ≡ one_if b
    by_test true h = absurd (h refl)
    by_test false h = refl

-- a Recall weighs nothing
abbrev pub IsRecall : Held → Type 0
IsRecall (RecallOf n s t why) = Unit {0}
IsRecall _ = ⊥

pub recalls_weigh : (w : Held → ℕ) → ((n : Name) (s t : ℕ) (why : List ℕ) → w (RecallOf n s t why) ≡ 0) → (hs : List Held) → AllHeld IsRecall hs → weigh w hs ≡ 0
recalls_weigh w none [] r = refl
recalls_weigh w none (RecallOf m s t why ∷ hs) r = omega (arith, none m s t why, recalls_weigh w none hs r.1)
recalls_weigh w none (TicketOf m f left ∷ hs) r = absurd r.0
recalls_weigh w none (PlacedAt m s t ∷ hs) r = absurd r.0
recalls_weigh w none (SettledBy m f again ∷ hs) r = absurd r.0
recalls_weigh w none (LostOf m ∷ hs) r = absurd r.0

recalls_borne : (ls : List Line) (l : Line) (hs : List Held) → AllHeld IsRecall hs → AllHeld (λ h. BorneBy ls h l) hs
recalls_borne ls l [] r = tt
recalls_borne ls l (RecallOf m s t why ∷ hs) r = (tt, recalls_borne ls l hs r.1)
recalls_borne ls l (TicketOf m f left ∷ hs) r = absurd r.0
recalls_borne ls l (PlacedAt m s t ∷ hs) r = absurd r.0
recalls_borne ls l (SettledBy m f again ∷ hs) r = absurd r.0
recalls_borne ls l (LostOf m ∷ hs) r = absurd r.0

pub recall_borne : (P : Held → Type 0) (m : Name) (why : List ℕ) (o : Option (ℕ × ℕ)) → ((s t : ℕ) → P (RecallOf m s t why)) → AllHeld P (recall_to m why o)
recall_borne P m why None h = tt
recall_borne P m why (Some p) h = (h p.0 p.1, tt)

-- a record that isn't Passed passes no nack on
pub passed_none : (n : Name) (call : Call) (r : Record) → is_passed r.kind ≡ false → passed_in n call (Some r) ≡ 0
passed_none n call r e = by_test (is_nack_call call) (in_none is_passed n r e)
  where
    by_test : (b : Bool) {x : ℕ} → x ≡ 0 → (if b then x else 0) ≡ 0
    by_test true h = h
    by_test false h = refl

-- an entry whose record is about no name's sending
good_plain : (ls : List Line) (c : DownSession) (mode : InitMode) (past : List Step) (r : Record) (taken sent : Option MuxFrame) (gives : List Held) (call : Call) →
    gives_name r.kind ≡ false → is_offered r.kind ≡ false → is_unsent r.kind ≡ false → is_retried r.kind ≡ false → is_passed r.kind ≡ false →
    counted r.kind (dispatches (records past)) ≡ dispatches (records past) → (has_ended (records past) ≡ true → is_epoch r.kind ≡ false) → OnDispatch taken (λ f. ⊥) →
    ((ms : List Line) → Grows ls ms → IsKept ms (Client c.number) (record { rec = Some r; taken = taken; sent = sent }) (entries past)) →
    AllHeld IsRecall gives → IsGood ls (line_at c mode past) call (record { rec = Some r; taken = taken; sent = sent }) gives
good_plain ls c mode past r taken sent gives call g o u again p count goes asks keeps recalls = record {
  owns = ((λ d. absurd (let x : false ≡ true = sym g ∙ d in cc)), (no_asks taken _ asks, gives_none taken r g asks), omega (arith, count, ap one_if g), goes);
  balance = λ n. omega (arith, recalls_weigh (ticket_in n) (λ m s t why. refl) gives recalls, in_none is_offered n r o, in_none is_unsent n r u);
  nacked = λ n. omega (arith, recalls_weigh (nack_held n) (λ m s t why. refl) gives recalls, in_none is_retried n r again, passed_none n call r p);
  copies = λ ms grows. tt;
  keeps = λ ms grows unsent passed. keeps ms grows;
  bears = recalls_borne ls _ gives recalls;
  well = tt;
}

asked_self : (who : Holder) (f : MuxFrame) (before : Option Holder) → is_dispatch (kind_of f.kind) ≡ true → name_held (asked f.tag who (Some f) before) ≡ who.name
asked_self who f before d =
    ap (λ (x : Option Holder). name_held x) (ap (λ b. if b then Some who else before) (and_from _ _ d (eq-eqb f.tag f.tag refl)))

module _ (ls : List Line) (c : DownSession) (mode : InitMode) (past : List Step) (s : IsSoundList c.number (entries past)) (count : dispatches (records past) ≡ given (entries past)) where
  own_next : next_name c past ≡ record { boot = c.boot; client = c.number; seq = given (entries past) + 1 }
  own_next = ap (λ d. record { boot = c.boot; client = c.number; seq = d + 1 }) count

  discarded_good : (f : MuxFrame) (now t : ℕ) (why : List ℕ) → FactsOf c past f (Discards t why) → (o : Option Name) →
      OnRecorded (discarded past now f t why o) (λ e gives. IsGood ls (line_at c mode past) (FrameCall f now) e gives)
  discarded_good f now t why facts o = by_name o
    where
      held : (n : Name) × (name_held (holder (Client c.number) t (entries past)) ≡ Some n)
      held = open_named c.number t (entries past) s facts.1

      keeps : (r : Record) (ms : List Line) → IsKept ms (Client c.number) (record { rec = Some r; taken = Some f; sent = Some (rdiscarded_on t) }) (entries past)
      keeps r ms = λ final.
          kept_at ms (record { rec = Some r; taken = Some f; sent = Some (rdiscarded_on t) }) (rdiscarded_on t) (asked t (record { place = length (entries past); name = r.name }) (Some f) (holder (Client c.number) t (entries past))) held.0
          (ap (λ (x : Option Holder). name_held x) (asked_other t (record { place = length (entries past); name = r.name }) f (holder (Client c.number) t (entries past)) facts.0) ∙ held.1)
          (inr (kept_discard refl (why, facts.2)))

      by_name : (o : Option Name) → OnRecorded (discarded past now f t why o) (λ e gives. IsGood ls (line_at c mode past) (FrameCall f now) e gives)
      by_name None =
          good_plain ls c mode past _ (Some f) (Some (rdiscarded_on t)) [] (FrameCall f now) refl refl refl refl refl refl (λ h. refl) (other_asks f facts.0) (λ ms g. keeps _ ms) tt
      by_name (Some n) =
          good_plain ls c mode past _ (Some f) (Some (rdiscarded_on t)) (recall_to n why (noted_place n past)) (FrameCall f now) refl refl refl refl refl refl (λ h. refl) (other_asks f facts.0)
          (λ ms g. keeps _ ms) (recall_borne IsRecall n why (noted_place n past) (λ a b. tt))

  -- a dispatch that is taken gets the client's next name
  gives_next : (f : MuxFrame) (now : ℕ) (kind : RecordKind) (sent : Option MuxFrame) → gives_name kind ≡ true → is_epoch kind ≡ false → counted kind (dispatches (records past)) ≡ dispatches (records past) + 1 →
      is_dispatch (kind_of f.kind) ≡ true →
      OwnStep c.boot (Client c.number) (entry_of (records past) now kind f.tag (Some (next_name c past)) (Some f) sent) past
  gives_next f now kind sent g goes more h = (
    (λ d. ap Some own_next),
    (
      (λ d. (next_name c past, refl, ap (λ (b : Bool). one_if b) (and_from _ _ g (is_its_name (next_name c past) (Some (next_name c past)) refl)))),
      ap (λ (b : Bool). one_if b) g ∙ sym (ap (λ (b : Bool). one_if b) h),
    ),
    omega (arith, more, ap one_if g),
    λ over. goes,
  )

  -- an answer on the tag of the frame, which is not open
  answers_stray : (f : MuxFrame) (sent : MuxFrame) (kind : RecordKind) (now : ℕ) → sent.tag ≡ f.tag → is_dispatch (kind_of f.kind) ≡ false → holder (Client c.number) f.tag (entries past) ≡ None →
      IsOwnAnswer (Some f) sent → (ms : List Line) → IsKept ms (Client c.number) (entry_of (records past) now kind f.tag None (Some f) (Some sent)) (entries past)
  answers_stray f sent kind now same d free own ms final =
      kept_free ms (entry_of (records past) now kind f.tag None (Some f) (Some sent)) sent (asked sent.tag (record { place = length (entries past); name = None }) (Some f) (holder (Client c.number) sent.tag (entries past)))
      (asked_other sent.tag (record { place = length (entries past); name = None }) f (holder (Client c.number) sent.tag (entries past)) d ∙ (ap (λ t. holder (Client c.number) t (entries past)) same ∙ free)) own

  reacted_good : (f : MuxFrame) (now : ℕ) (r : Reaction) → FactsOf c past f r →
      OnRecorded (reacted c past f now r) (λ e gives. IsGood ls (line_at c mode past) (FrameCall f now) e gives)
  reacted_good f now Shut h = tt
  reacted_good f now Full h = tt
  reacted_good f now Short h = tt
  reacted_good f now (Closes cause) h = good_plain ls c mode past _ None None [] (FrameCall f now) refl refl refl refl refl refl (λ h. refl) tt (λ ms g. tt) tt
  reacted_good f now Pongs h =
      good_plain ls c mode past _ (Some f) (Some (rping_on f.tag)) [] (FrameCall f now) refl refl refl refl refl refl (λ h. refl) (other_asks f h) (λ ms g final. absurd (cc)) tt
  reacted_good f now Inits h =
      good_plain ls c mode past _ (Some f) (Some (rinit_on f.tag)) [] (FrameCall f now) refl refl refl refl refl refl (λ h. refl) (other_asks f h) (λ ms g final. absurd (cc)) tt
  reacted_good f now Acks h = good_plain ls c mode past _ (Some f) None [] (FrameCall f now) refl refl refl refl refl refl (λ h. refl) (other_asks f h) (λ ms g. tt) tt
  reacted_good f now Ignores h = good_plain ls c mode past _ (Some f) None [] (FrameCall f now) refl refl refl refl refl refl (λ h. refl) (other_asks f h) (λ ms g. tt) tt
  reacted_good f now Misplaced h =
      good_plain ls c mode past _ (Some f) (Some (rerr_on f.tag (codes "tinit out of place"))) [] (FrameCall f now) refl refl refl refl refl refl (λ h. refl) (other_asks f h.0)
      (λ ms g. answers_stray f _ _ now refl h.0 (open_none _ h.1) (inr (inr refl)) ms) tt
  reacted_good f now Unsupports h =
      good_plain ls c mode past _ (Some f) (Some (rerr_on f.tag (codes "unsupported"))) [] (FrameCall f now) refl refl refl refl refl refl (λ h. refl) (other_asks f h.0)
      (λ ms g. answers_stray f _ _ now refl h.0 (open_none _ h.1) (inr (inl refl)) ms) tt
  reacted_good f now Echoes h =
      good_plain ls c mode past _ (Some f) (Some f) [] (FrameCall f now) refl refl refl refl refl refl (λ h. refl) (other_asks f h.0)
      (λ ms g. answers_stray f f _ now refl h.0 (fresh_none c.number f.tag past count s h.2) (inl (refl, h.1)) ms) tt
  reacted_good f now (Discards t why) h = discarded_good f now t why h (name_held (holder (Client c.number) t (entries past)))
  reacted_good f now Takes h = record {
    owns = gives_next f now Took None refl refl refl h.0;
    balance = λ n. omega arith;
    nacked = λ n. omega arith;
    copies = λ ms g. tt;
    keeps = λ ms g unsent passed. tt;
    bears = (inl (refl, refl, inl (refl, refl, h.0)), tt);
    well = tt;
  }
  reacted_good f now NacksDrained h = record {
    owns = gives_next f now TookDrained (Some (nack_on f.tag)) refl refl refl h.0;
    balance = λ n. omega arith;
    nacked = λ n. omega arith;
    copies = λ ms g. tt;
    keeps = λ ms g unsent passed final.
        kept_at ms (entry_of (records past) now TookDrained f.tag (Some (next_name c past)) (Some f) (Some (nack_on f.tag))) (nack_on f.tag) (asked f.tag _ (Some f) (holder (Client c.number) f.tag (entries past))) (next_name c past)
        (asked_self _ f (holder (Client c.number) f.tag (entries past)) h.0)
        (inr (kept_nack refl (omega (arith, unsent (next_name c past), ap (λ (b : Bool). one_if b) (is_its_name (next_name c past) (Some (next_name c past)) refl)))));
    bears = tt;
    well = tt;
  }

  held_name : (n : Name) → is_held c n past ≡ true → name_held (holder (Client c.number) (tag_of n (records past)) (entries past)) ≡ Some n
  held_name n h = named n _ (by_test (has_ended (records past)) h)
    where
      by_test : (b : Bool) → (if b then false else is_named n (name_held (holder (Client c.number) (tag_of n (records past)) (entries past)))) ≡ true →
          is_named n (name_held (holder (Client c.number) (tag_of n (records past)) (entries past))) ≡ true
      by_test true e = absurd (cc)
      by_test false e = e

  -- an answer that goes out
  abbrev out_by : Name → RecordKind → (ℕ → MuxFrame) → Exchange
  out_by n kind reply = entry_of (records past) 0 kind (tag_of n (records past)) (Some n) None (Some (reply (tag_of n (records past))))

  answer_good : (n : Name) (kind : RecordKind) (reply : ℕ → MuxFrame) (call : Call) → ((t : ℕ) → (reply t).tag ≡ t) → gives_name kind ≡ false → is_offered kind ≡ false → is_retried kind ≡ false → is_epoch kind ≡ false →
      counted kind (dispatches (records past)) ≡ dispatches (records past) →
      ((m : Name) → one_if (is_unsent kind && is_named m (Some n)) ≤ used call m) →
      ((m : Name) → passed_in m call (out_by n kind reply).rec ≤ nack_used call m) →
      ((ms : List Line) → Grows ls ms → one_if (is_unsent kind && is_named n (Some n)) ≤ total is_unsent n ms → passed_in n call (out_by n kind reply).rec ≤ nacks_passed n ms →
      IsKeptReply ms (out_by n kind reply) (reply (tag_of n (records past))) n) →
      is_held c n past ≡ true → IsGood ls (line_at c mode past) call (out_by n kind reply) []
  answer_good n kind reply call on_tag g o again goes more spent used_up fair is_in = record {
    owns = ((λ d. absurd (let x : false ≡ true = sym g ∙ d in cc)), (tt, ap (λ (b : Bool). one_if b) g), omega (arith, more, ap one_if g), λ over. goes);
    balance = λ m. omega (arith, spent m, ap (λ (b : Bool). one_if (b && is_named m (Some n))) o);
    nacked = λ m. omega (arith, used_up m, ap (λ (b : Bool). one_if (b && is_named m (Some n))) again);
    copies = λ ms grows. tt;
    keeps = λ ms grows unsent passed final.
        kept_at ms (out_by n kind reply) (reply (tag_of n (records past))) (holder (Client c.number) (reply (tag_of n (records past))).tag (entries past)) n
        (ap (λ u. name_held (holder (Client c.number) u (entries past))) (on_tag (tag_of n (records past))) ∙ held_name n is_in)
        (fair ms grows (unsent n) (passed n));
    bears = tt;
    well = tt;
  }

  itself : (n : Name) → one_if (is_named n (Some n)) ≡ 1
  itself n = ap (λ (b : Bool). one_if b) (is_its_name n (Some n) refl)

  both_tests : (a b : Bool) → (if a then one_if b else 0) ≤ one_if (a && b)
  both_tests true b = omega arith
  both_tests false b = omega arith

  -- a nack that is passed on is one more
  nack_counts : (n : Name) (a : Bool) → a ≡ true → one_if (is_named n (Some n)) ≤ (if a then one_if (is_named n (Some n)) else 0)
  nack_counts n true e = omega arith
  nack_counts n false e = absurd (cc)

  answered_good : (call : Call) (n : Name) (kind : RecordKind) (whole : Bool) (reply : ℕ → MuxFrame) → Answers ls n call kind whole reply → is_held c n past ≡ true →
      IsGood ls (line_at c mode past) call (out_by n kind reply) []
  answered_good call n kind whole reply (passes r again b) held =
      answer_good n kind reply call (λ t. refl) refl refl refl refl refl (λ m. omega arith) (λ m. both_tests (is_nack r) (is_named m (Some n)))
      (λ ms g unsent passed. inl (r, g.settled n r b, refl, λ nack. omega (arith, passed, itself n, nack_counts n (is_nack r) nack))) held
  answered_good call n kind whole reply (fails b) held =
      answer_good n kind reply call (λ t. refl) refl refl refl refl refl (λ m. omega arith) (λ m. omega arith) (λ ms g unsent passed. inr (kept_lost refl (g.gone n b))) held
  answered_good call n kind whole reply nacks held =
      answer_good n kind reply call (λ t. refl) refl refl refl refl refl (λ m. omega arith) (λ m. omega arith) (λ ms g unsent passed. inr (kept_nack refl (omega (arith, unsent, itself n)))) held
  answered_good call n kind whole reply unroutes held =
      answer_good n kind reply call (λ t. refl) refl refl refl refl refl (λ m. omega arith) (λ m. omega arith) (λ ms g unsent passed. inr (kept_no_route refl (omega (arith, unsent, itself n)))) held

  -- one that is late as a whole uses up a ticket
  late_uses : (call : Call) (n : Name) (kind : RecordKind) (whole : Bool) (reply : ℕ → MuxFrame) → Answers ls n call kind whole reply → (m : Name) → one_if (whole && is_named m (Some n)) ≤ used call m
  late_uses call n kind whole reply (passes r again b) m = omega arith
  late_uses call n kind whole reply (fails b) m = omega arith
  late_uses call n kind whole reply nacks m = omega arith
  late_uses call n kind whole reply unroutes m = omega arith

  given_recalls : (n : Name) (server tag : ℕ) → AllHeld IsRecall (given_by c past n server tag)
  given_recalls n server tag = of_held (is_held c n past)
    where
      of_due : (b : Bool) → AllHeld IsRecall (if b then RecallOf n server tag (reason_of n (entries past)) ∷ [] else [])
      of_due true = (tt, tt)
      of_due false = tt

      of_held : (b : Bool) → AllHeld IsRecall (if b then [] else if answer_due n (records past) then RecallOf n server tag (reason_of n (entries past)) ∷ [] else [])
      of_held true = tt
      of_held false = of_due (answer_due n (records past))

  -- an entry without a message passes nothing on
  still_passes : (m n : Name) (kind : RecordKind) (call : Call) → is_passed kind ≡ false → passed_in m call (entry_of (records past) 0 kind (tag_of n (records past)) (Some n) None None).rec ≡ 0
  still_passes m n kind call e = passed_none m call (record { kind = kind; tag = tag_of n (records past); name = Some n; reading = max (reading (records past)) 0 }) e

  -- every step of a client's session is good
  pub down_good : (out : ℕ) (call : Call) → CallBorne ls call → OnRecorded (down c past out call) (λ e gives. IsGood ls (line_at c mode past) call e gives)
  down_good =
      down_shapes ls c past (λ call e gives. IsGood ls (line_at c mode past) call e gives) (λ out f now going r is led facts. reacted_good f now r facts)
      (λ n server tag mine due. good_plain ls c mode past _ None None (given_by c past n server tag) (NoteCall n server tag) refl refl refl refl refl refl (λ h. refl) tt (λ ms g. tt) (given_recalls n server tag))
      (λ call n kind whole reply a zero mine due note held. answered_good call n kind whole reply a held)
      (λ call n kind whole reply a zero mine due note held. record {
        owns = ((λ d. absurd (cc)), (tt, refl), omega arith, λ over. refl);
        balance = λ m. omega (arith, late_uses call n kind whole reply a m);
        nacked = λ m. omega (arith, still_passes m n (Late whole) call refl);
        copies = λ ms grows. tt;
        keeps = λ ms grows unsent passed. tt;
        bears = tt;
        well = tt;
      })
      (λ n reply f settled taken mine due nack held note left. record {
        owns = ((λ d. absurd (cc)), (tt, refl), omega arith, λ over. refl);
        balance = λ m. omega arith;
        nacked = λ m. omega (arith, still_passes m n Retried (SettleCall n reply (Some f)) refl, ap (λ (b : Bool). one_if (b && is_named m (Some n))) nack);
        copies = λ ms grows. tt;
        keeps = λ ms grows unsent passed. tt;
        bears = (inr taken, tt);
        well = tt;
      })
      (λ going new room. good_plain ls c mode past _ None (Some (tdrain_on 1)) [] DrainCall refl refl refl refl refl refl (λ h. refl) tt (λ ms g final. absurd (cc)) tt)
      (λ now going. good_plain ls c mode past _ None None [] (LoseCall now) refl refl refl refl refl refl (λ h. refl) tt (λ ms g. tt) tt)
      (λ n over e. good_plain ls c mode past _ None None (recall_to n (reason_of n (entries past)) (noted_place n past)) LoseNextCall refl refl refl refl refl refl (λ h. refl) tt (λ ms g. tt)
      (recall_borne IsRecall n (reason_of n (entries past)) (noted_place n past) (λ a b. tt)))
      (λ going quiet out none full few. good_plain ls c mode past _ None None [] SealCall refl refl refl refl refl refl (λ h. absurd (let x : false ≡ true = sym going ∙ h in cc)) tt (λ ms g. tt) tt)
      (λ going fits few. good_plain ls c mode past _ None None [] RollCall refl refl refl refl refl refl (λ h. refl) tt (λ ms g. tt) tt)
