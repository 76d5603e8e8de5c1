-- Each step of a session asks and answers in turn.
use Rattle.std.proofs.Common.{length, ℕ, pos, negsuc, List, ◌+◌, ◌≡◌, ◌≤◌, ◌&&◌, Bool, true, false, not, Option, Some, None, refl, sym, ◌∙◌, ap, arith, Result, Ok, Err, subst}
use Rattle.std.specs.Prelude.{if◌then◌else◌, ◌==◌, codes, is_some, nat_le, nat_lt}
use Rattle.std.proofs.lemmas.Bool.{eqb-true, and_parts, and_from, or_left, or_right}
use Rattle.mux_frame.specs.Spelling.{MuxFrame}
use Rattle.mux_message.specs.Kinds.{kind_of, is_dispatch, is_final, is_asking}
use Rattle.mux_message.specs.declared.kind.MessageKind.{MessageKind}
use Rattle.mux_message.specs.declared.kind.MessageKind.TheVariants.{Treq, Tdispatch, Tdrain, Tlease, Tinit, Other}
use Rattle.mux_history.specs.declared.name.Name.{Name}
use Rattle.mux_history.specs.declared.kind.Cause.TheVariants.{TagZero, TagInUse}
use Rattle.mux_history.specs.declared.kind.RecordKind.{RecordKind}
use Rattle.mux_history.specs.declared.session.SessionId.TheVariants.{Client}
use Rattle.mux_model.specs.Tags.{name_held, Holder, holder, is_open, asked, answered}
use Rattle.mux_history.specs.Readings.{is_named, has_ended, drain_of, is_acked, is_draining, is_fresh, tag_of, book, dispatches}
use Rattle.mux_model.specs.Steps.{Call, Step, entries, records, Outcome, entry_of}
use Rattle.mux_message.specs.Made.{tdrain_on, is_probe, nack_on, rerr_on, rdiscarded_on, rping_on, rinit_on}
use Rattle.mux_model.specs.Down.{DownSession, is_held, Reaction, Shut, Full, Short, Closes, NacksDrained, Takes, Pongs, Inits, Misplaced, Unsupports, Echoes, Acks, Ignores, Discards, asks_other, discards, with_room, reacted, discarded, next_name, down, free_out, free_records, for_taking, last_seq, by_content, by_message}
use Rattle.mux_model.specs.Lawful.{is_answering, is_rerr, is_asking_message, is_asking_on, is_answering_on, is_final_on, is_dispatch_on}
use Rattle.mux_model.specs.Legal.{Line}
use Rattle.mux_legal.proofs.Basics.{OnRecorded, if_both, named, one_if}
use Rattle.mux_legal.proofs.Sound.{asked_other}
use Rattle.mux_legal.proofs.LinkDown.{settled_final}
use Rattle.mux_message.proofs.NormalKinds.{kind_normal}
use Rattle.mux_legal.proofs.Orderly.{all_asks, asked_in, answered_in, IsPaid}
use Rattle.mux_message.specs.Content.{Content, tdispatch, rdispatch, tdrain, rdrain, tdiscarded, rdiscarded, tlease, tinit, rinit, tping, rping, treq, rreq, rerr, other}
use Rattle.mux_message.specs.Reading.{message_of}
use Rattle.mux_message.specs.declared.fault.MessageFault.{MessageFault}
use Rattle.mux_message.specs.Parts.{kind_in}
use Rattle.mux_legal.proofs.Contents.{SaysBody, message_says}
use Rattle.mux_legal.proofs.DownShapes.{down_shapes, Answers, passes, fails, nacks, unroutes, CallBorne, FactsOf}

-- a frame that is answered at once is an asking message
abbrev pub AskOf : MuxFrame → Reaction → Type 0
AskOf f NacksDrained = is_asking_message f ≡ true
AskOf f Inits = is_asking_message f ≡ true
AskOf f Misplaced = is_asking_message f ≡ true
AskOf f Unsupports = is_asking_message f ≡ true
AskOf f Echoes = is_asking_message f ≡ true
AskOf f _ = Unit {0}

module _ (c : DownSession) (past : List Step) (f : MuxFrame) where
  asks : (k : MessageKind) → kind_of f.kind ≡ k → is_asking k ≡ true → is_asking_message f ≡ true
  asks k e a = or_left _ _ (ap is_asking e ∙ a)

  other_ask : is_asking_message f ≡ true → AskOf f (asks_other f.tag)
  other_ask a = if_both (AskOf f) (f.tag == 0) Ignores Unsupports (λ _. tt) (λ _. a)

  discards_ask : (t : ℕ) (why : List ℕ) → AskOf f (discards c past t why)
  discards_ask t why = if_both (AskOf f) (is_open (Client c.number) t (entries past)) (Discards t why) Ignores (λ _. tt) (λ _. tt)

  content_ask : (m : Content) → kind_of f.kind ≡ kind_in m → SaysBody f.body m → AskOf f (by_content c past f.tag m)
  content_ask (tdispatch _ _ _ _) e b = if_both (AskOf f) (is_acked (drain_of (records past))) NacksDrained Takes (λ _. asks Tdispatch e refl) (λ _. tt)
  content_ask (tdiscarded t why) e b = discards_ask t why
  content_ask tping e b = tt
  content_ask (tinit _ _) e b = if_both (AskOf f) (is_fresh (records past)) Inits Misplaced (λ _. asks Tinit e refl) (λ _. asks Tinit e refl)
  content_ask (treq _) e b = other_ask (asks Treq e refl)
  content_ask tdrain e b = other_ask (asks Tdrain e refl)
  content_ask (tlease _ _) e b = other_ask (asks Tlease e refl)
  content_ask (other (pos n) _) e b = if_both (AskOf f) (n == 0) Ignores (asks_other f.tag) (λ _. tt) (λ above. other_ask (asks (Other (pos n)) e (ap not above)))
  content_ask (other (negsuc n) _) e b = tt
  content_ask (rerr why) e b =
      if_both (AskOf f) (is_probe f.tag why && is_fresh (records past)) Echoes Ignores
      (λ p. or_right _ _ (and_from _ _ (ap is_rerr e) (sym (ap (is_probe f.tag) b) ∙ (and_parts _ _ p).0))) (λ _. tt)
  content_ask rdrain e b = if_both (AskOf f) (f.tag == 1 && is_draining (drain_of (records past))) Acks Ignores (λ _. tt) (λ _. tt)
  content_ask (rreq _) e b = tt
  content_ask (rdispatch _ _ _) e b = tt
  content_ask rping e b = tt
  content_ask rdiscarded e b = tt
  content_ask (rinit _ _) e b = tt

  room_ask : (out : ℕ) (m : Content) → kind_of f.kind ≡ kind_in m → SaysBody f.body m → AskOf f (with_room c past out f.tag m)
  room_ask out m e b =
      let dispatch = is_dispatch (kind_in m) && not (is_acked (drain_of (records past))) in
      let needs : ℕ = if dispatch then for_taking c.limits else 1 in
      let spent = is_dispatch (kind_in m) && nat_le last_seq (dispatches (records past)) in
      let named = if spent then Short else by_content c past f.tag m in
      let last = if nat_lt (free_records c past) needs then Short else named in
      let full = dispatch && nat_le c.limits.window (length (book (records past))) in
      if_both (AskOf f) (free_out c past out == 0) Full (if full then Full else last) (λ _. tt) (λ _.
      if_both (AskOf f) full Full last (λ _. tt) (λ _.
      if_both (AskOf f) (nat_lt (free_records c past) needs) Short named (λ _. tt) (λ _.
      if_both (AskOf f) spent Short (by_content c past f.tag m) (λ _. tt) (λ _. content_ask m e b))))

  pub message_ask : (out : ℕ) (o : Result Content MessageFault) → message_of f ≡ o → AskOf f (by_message c past out f.tag o)
  message_ask out (Err fault) r = tt
  message_ask out (Ok m) r =
      let says = message_says f m r in
      let asks = is_asking (kind_in m) && is_open (Client c.number) f.tag (entries past) in
      let rest = if asks then Closes TagInUse else with_room c past out f.tag m in
      if_both (AskOf f) (is_dispatch (kind_in m) && f.tag == 0) (Closes TagZero) rest (λ _. tt) (λ _.
      if_both (AskOf f) asks (Closes TagInUse) (with_room c past out f.tag m) (λ _. tt) (λ o. room_ask out m (sym says.0) says.1))

-- an asking message pays for the use that it begins
takes_pay : (t : ℕ) (who : Holder) (taken : Option MuxFrame) (o : Option Holder) → one_if (is_some (asked t who taken o)) ≤ asked_in t taken + one_if (is_some o)
takes_pay t who None o = omega arith
takes_pay t who (Some f) o = by_test (is_dispatch_on t f) (is_asking_on t f) (all_asks t f)
  where
    by_test : (d a : Bool) → (d ≡ true → a ≡ true) → one_if (is_some (if d then Some who else o)) ≤ one_if a + one_if (is_some o)
    by_test true a h = omega (arith, ap one_if (h refl))
    by_test false a h = omega arith

-- a message that isn't an answering one
mute_pays : (t : ℕ) (g : MuxFrame) (o : Option Holder) → is_answering (kind_of g.kind) ≡ false → answered_in t (Some g) + one_if (is_some (answered t (Some g) o)) ≤ one_if (is_some o)
mute_pays t g o e = by_test (is_final_on t g) (is_answering_on t g) (ap (λ b. b && g.tag == t) e)
  where
    by_test : (b a : Bool) → a ≡ false → one_if a + one_if (is_some (if b then None else o)) ≤ one_if (is_some o)
    by_test b true e = absurd (cc)
    by_test true false e = omega arith
    by_test false false e = omega arith

-- a reply at once to a message that isn't a dispatch is paid for by it
reply_pays : (t : ℕ) (f g : MuxFrame) (o : Option Holder) → is_asking_message f ≡ true → g.tag ≡ f.tag →
    answered_in t (Some g) + one_if (is_some (answered t (Some g) o)) ≤ asked_in t (Some f) + one_if (is_some o)
reply_pays t f g o a e = by_test (is_final_on t g) (is_answering_on t g) (is_asking_on t f) paid
  where
    paid : is_answering_on t g ≡ true → is_asking_on t f ≡ true
    paid h = and_from (is_asking_message f) (f.tag == t) a (ap (λ u. u == t) (sym e) ∙ (and_parts (is_answering (kind_of g.kind)) (g.tag == t) h).1)

    by_test : (b x y : Bool) → (x ≡ true → y ≡ true) → one_if x + one_if (is_some (if b then None else o)) ≤ one_if y + one_if (is_some o)
    by_test true true y h = omega (arith, ap one_if (h refl))
    by_test true false y h = omega arith
    by_test false true y h = omega (arith, ap one_if (h refl))
    by_test false false y h = omega arith

-- a nack of a dispatch in the same step
nack_pays : (t : ℕ) (f : MuxFrame) (who : Holder) (o : Option Holder) → is_asking_message f ≡ true →
    answered_in t (Some (nack_on f.tag)) + one_if (is_some (answered t (Some (nack_on f.tag)) (asked t who (Some f) o))) ≤ asked_in t (Some f) + one_if (is_some o)
nack_pays t f who o a = by_test (f.tag == t) (is_dispatch (kind_of f.kind)) (is_asking_message f) a
  where
    by_test : (e d m : Bool) → m ≡ true → one_if e + one_if (is_some (if e then None else if d && e then Some who else o)) ≤ one_if (m && e) + one_if (is_some o)
    by_test e d false h = absurd (cc)
    by_test true d true h = omega arith
    by_test false true true h = omega arith
    by_test false false true h = omega arith

-- a final reply on an open tag is paid for by the use that it ends
frees_pay : (t : ℕ) (g : MuxFrame) (held : ℕ → Option Holder) → is_final (kind_of g.kind) ≡ true → is_some (held g.tag) ≡ true →
    answered_in t (Some g) + one_if (is_some (answered t (Some g) (held t))) ≤ one_if (is_some (held t))
frees_pay t g held final used = by_test (is_final (kind_of g.kind)) (is_answering (kind_of g.kind)) (g.tag == t) final (λ e. ap (λ u. is_some (held u)) (sym (eqb-true g.tag t e)) ∙ used)
  where
    by_test : (b a e : Bool) → b ≡ true → (e ≡ true → is_some (held t) ≡ true) → one_if (a && e) + one_if (is_some (if b && e then None else held t)) ≤ one_if (is_some (held t))
    by_test false a e h g = absurd (cc)
    by_test true true true h g = omega (arith, ap one_if (g refl))
    by_test true true false h g = omega arith
    by_test true false true h g = omega arith
    by_test true false false h g = omega arith

module _ (c : DownSession) (past : List Step) where
  abbrev H : ℕ → Option Holder
  H t = holder (Client c.number) t (entries past)

  abbrev Q : Outcome → Type 0
  Q x = OnRecorded x (λ e gives. (t : ℕ) → IsPaid c.number t e (entries past))

  abbrev who : Option Name → Holder
  who n = record { place = length (entries past); name = n }

  same : (t : ℕ) (n : Option Name) (f : MuxFrame) → is_dispatch (kind_of f.kind) ≡ false → one_if (is_some (asked t (who n) (Some f) (H t))) ≡ one_if (is_some (H t))
  same t n f d = ap (λ (o : Option Holder). one_if (is_some o)) (asked_other t (who n) f (H t) d)

  -- a reply on an open tag after a message that isn't a dispatch
  frees_after : (t u : ℕ) (n : Option Name) (f : MuxFrame) → is_dispatch (kind_of f.kind) ≡ false → is_open (Client c.number) u (entries past) ≡ true →
      answered_in t (Some (rdiscarded_on u)) + one_if (is_some (answered t (Some (rdiscarded_on u)) (asked t (who n) (Some f) (H t)))) ≤ asked_in t (Some f) + one_if (is_some (H t))
  frees_after t u n f d used =
      omega (arith, frees_pay t (rdiscarded_on u) (λ x. asked x (who n) (Some f) (H x)) refl (ap (λ (o : Option Holder). is_some o) (asked_other u (who n) f (H u) d) ∙ used), same t n f d)

  discarded_paid : (f : MuxFrame) (now u : ℕ) (why : List ℕ) → is_dispatch (kind_of f.kind) ≡ false → is_open (Client c.number) u (entries past) ≡ true → (o : Option Name) → Q (discarded past now f u why o)
  discarded_paid f now u why d used None = λ t. frees_after t u None f d used
  discarded_paid f now u why d used (Some n) = λ t. frees_after t u (Some n) f d used

  at_once : (t : ℕ) (n : Option Name) (f g : MuxFrame) → is_dispatch (kind_of f.kind) ≡ false → is_asking_message f ≡ true → g.tag ≡ f.tag →
      answered_in t (Some g) + one_if (is_some (answered t (Some g) (asked t (who n) (Some f) (H t)))) ≤ asked_in t (Some f) + one_if (is_some (H t))
  at_once t n f g d a e = omega (arith, reply_pays t f g (asked t (who n) (Some f) (H t)) a e, same t n f d)

  reacted_paid : (f : MuxFrame) (now : ℕ) (r : Reaction) → FactsOf c past f r → AskOf f r → Q (reacted c past f now r)
  reacted_paid f now Shut h a = tt
  reacted_paid f now Full h a = tt
  reacted_paid f now Short h a = tt
  reacted_paid f now (Closes cause) h a = λ t. omega arith
  reacted_paid f now Pongs h a = λ t. omega (arith, mute_pays t (rping_on f.tag) (asked t (who None) (Some f) (H t)) refl, same t None f h)
  reacted_paid f now Inits h a = λ t. at_once t None f (rinit_on f.tag) h a refl
  reacted_paid f now Acks h a = λ t. omega (arith, takes_pay t (who None) (Some f) (H t))
  reacted_paid f now Ignores h a = λ t. omega (arith, takes_pay t (who None) (Some f) (H t))
  reacted_paid f now Misplaced h a = λ t. at_once t None f (rerr_on f.tag (codes "tinit out of place")) h.0 a refl
  reacted_paid f now Unsupports h a = λ t. at_once t None f (rerr_on f.tag (codes "unsupported")) h.0 a refl
  reacted_paid f now Echoes h a = λ t. at_once t None f f h.0 a refl
  reacted_paid f now (Discards u why) h a = discarded_paid f now u why h.0 h.1 (name_held (H u))
  reacted_paid f now Takes h a = λ t. omega (arith, takes_pay t (who (Some (next_name c past))) (Some f) (H t))
  reacted_paid f now NacksDrained h a = λ t. nack_pays t f (who (Some (next_name c past))) (H t) a

  held_open : (n : Name) (o : Option Holder) → name_held o ≡ Some n → is_some o ≡ true
  held_open n None e = absurd (cc)
  held_open n (Some h) e = refl

  held_tag : (n : Name) → is_held c n past ≡ true → is_open (Client c.number) (tag_of n (records past)) (entries past) ≡ true
  held_tag n h = by_test (has_ended (records past)) h
    where
      by_test : (b : Bool) → (if b then false else is_named n (name_held (H (tag_of n (records past))))) ≡ true → is_some (H (tag_of n (records past))) ≡ true
      by_test true e = absurd (cc)
      by_test false e = held_open n (H (tag_of n (records past))) (named n _ e)

  answer_paid : (n : Name) (kind : RecordKind) (reply : ℕ → MuxFrame) (u : ℕ) → is_open (Client c.number) u (entries past) ≡ true → (reply u).tag ≡ u → is_final (kind_of (reply u).kind) ≡ true →
      (t : ℕ) → IsPaid c.number t (entry_of (records past) 0 kind u (Some n) None (Some (reply u))) (entries past)
  answer_paid n kind reply u used on_tag final t = omega (arith, frees_pay t (reply u) H final (ap (λ x. is_some (H x)) on_tag ∙ used))

  answered_paid : (ls : List Line) (call : Call) (n : Name) (kind : RecordKind) (whole : Bool) (reply : ℕ → MuxFrame) → Answers ls n call kind whole reply → is_held c n past ≡ true →
      (t : ℕ) → IsPaid c.number t (entry_of (records past) 0 kind (tag_of n (records past)) (Some n) None (Some (reply (tag_of n (records past))))) (entries past)
  answered_paid ls call n kind whole reply (passes r again b) held = answer_paid n kind reply _ (held_tag n held) refl (ap is_final (kind_normal r.kind) ∙ settled_final n r ls b)
  answered_paid ls call n kind whole reply (fails b) held = answer_paid n kind reply _ (held_tag n held) refl refl
  answered_paid ls call n kind whole reply nacks held = answer_paid n kind reply _ (held_tag n held) refl refl
  answered_paid ls call n kind whole reply unroutes held = answer_paid n kind reply _ (held_tag n held) refl refl

  -- every step of a client's session pays
  pub down_paid : (ls : List Line) → (out : ℕ) (call : Call) → CallBorne ls call → Q (down c past out call)
  down_paid ls =
      down_shapes ls c past (λ call e gives. (t : ℕ) → IsPaid c.number t e (entries past))
      (λ out f now going r is led facts. reacted_paid f now r facts (subst (AskOf f) is (message_ask c past f out (message_of f) refl)))
      (λ n server tag mine due t. omega arith)
      (λ call n kind whole reply a zero mine due note held. answered_paid ls call n kind whole reply a held)
      (λ call n kind whole reply a zero mine due note held t. omega arith)
      (λ n reply f b copy mine due nack held note left t. omega arith)
      (λ going new room t. omega (arith, mute_pays t (tdrain_on 1) (H t) refl)) (λ now going t. omega arith) (λ n over e t. omega arith)
      (λ going empty out queued full few t. omega arith) (λ going fits few t. omega arith)
