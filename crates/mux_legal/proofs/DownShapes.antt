-- The steps of a client's session, each with what led to it: what holds of each of them holds of every step.
use Rattle.std.proofs.Common.{length, ℕ, pos, negsuc, List, [], ◌∷◌, ◌+◌, ◌-◌, ◌*◌, ◌≡◌, ◌&&◌, ◌||◌, Bool, true, false, not, Option, Some, None, Result, Ok, Err, refl, sym, ◌∙◌, ap}
use Rattle.std.specs.Prelude.{if◌then◌else◌, ◌==◌, codes, nat_le, nat_lt}
use Rattle.std.proofs.lemmas.Bool.{and_parts}
use Rattle.mux_frame.specs.Spelling.{MuxFrame}
use Rattle.mux_message.specs.Kinds.{is_dispatch, is_asking, kind_of}
use Rattle.mux_message.specs.Content.{Content, tdispatch, rdispatch, tdrain, rdrain, tdiscarded, rdiscarded, tlease, tinit, rinit, tping, rping, treq, rreq, rerr, other}
use Rattle.mux_message.specs.Parts.{kind_in}
use Rattle.mux_message.specs.Reading.{message_of}
use Rattle.mux_message.specs.declared.fault.MessageFault.{MessageFault}
use Rattle.mux_history.specs.declared.name.Name.{Name}
use Rattle.mux_history.specs.declared.kind.Cause.TheVariants.{TagZero, TagInUse}
use Rattle.mux_history.specs.declared.kind.RecordKind.{RecordKind}
use Rattle.mux_history.specs.declared.kind.RecordKind.TheVariants.{Passed, Retried, Nacked, Unrouted, Failed, Late, Noted, Recalled, Lost, DrainAsked}
use Rattle.mux_history.specs.Standings.{down_standing}
use Rattle.mux_history.specs.declared.session.SessionId.TheVariants.{Client}
use Rattle.mux_history.specs.Readings.{has_ended, drain_of, is_running, is_draining, is_acked, is_fresh, note_due, answer_due, tag_of, book, dispatches, epoch_of}
use Rattle.mux_model.specs.Entries.{Exchange}
use Rattle.mux_model.specs.Tags.{is_open}
use Rattle.mux_message.specs.Made.{is_probe, nack_on, rerr_on, tdrain_on, retag}
use Rattle.mux_message.specs.Spellings.{normal}
use Rattle.mux_model.specs.Steps.{Held, TicketOf, RecallOf, Call, FrameCall, NoteCall, SettleCall, NackCall, UnrouteCall, FailCall, DrainCall, OfferCall, RecallCall, ClockCall, PingCall, RetireCall, LoseCall, LoseNextCall, SealCall, ProbeCall, Step, entries, records, now_of, NotMine, IsClosed, AlreadyDraining, IsBusy, IsSpent, NotQuiet, NotFull, LastEpoch, NoRoom, RollCall, Outcome, Refused, Unrecorded, Recorded, entry_of, sealing, rolling, last_epoch, queued, is_nack, discard_in}
use Rattle.mux_model.specs.Down.{DownSession, is_held, Reaction, Shut, Full, Short, Closes, NacksDrained, Takes, Pongs, Inits, Misplaced, Unsupports, Echoes, Acks, Ignores, Discards, asks_other, by_content, with_room, by_message, reacted, some_of, answer, pass, settle, is_mine, reason_of, place_in, recall_to, noted_place, next_recall, next_recalled, down, free_out, free_records, kept_in_all, for_taking, last_seq, left_of, discards}
use Rattle.mux_legal.proofs.Basics.{OnRecorded, IsCopied, if_both, not_true, not_false}
use Rattle.mux_model.specs.Legal.{Line, SomeLine, IsSettledIn, IsLostIn, IsTakenIn}
use Rattle.mux_message.specs.declared.kind.MessageKind.TheVariants.{Rerr}
use Rattle.mux_legal.proofs.Contents.{message_says}

-- the value that a call used up is borne out
abbrev pub CallBorne : List Line → Call → Type 0
CallBorne ls (SettleCall n r again) = SomeLine (IsSettledIn n r) ls × IsCopied ls n again
CallBorne ls (FailCall n) = SomeLine (IsLostIn n) ls
CallBorne ls (OfferCall n f left now) = SomeLine (IsTakenIn n f) ls
CallBorne ls _ = Unit {0}

-- the records that a frame needs
abbrev needs : DownSession → Bool → ℕ
needs c taking = if taking then for_taking c.limits else 1

-- what a reaction says of the frame alone, and of its tag
abbrev pub FactsOf : DownSession → List Step → MuxFrame → Reaction → Type 0
FactsOf c past f NacksDrained = (is_dispatch (kind_of f.kind) ≡ true) × (is_open (Client c.number) f.tag (entries past) ≡ false)
FactsOf c past f Takes = (is_dispatch (kind_of f.kind) ≡ true) × (is_open (Client c.number) f.tag (entries past) ≡ false)
FactsOf c past f Pongs = is_dispatch (kind_of f.kind) ≡ false
FactsOf c past f Inits = is_dispatch (kind_of f.kind) ≡ false
FactsOf c past f Acks = is_dispatch (kind_of f.kind) ≡ false
FactsOf c past f Ignores = is_dispatch (kind_of f.kind) ≡ false
FactsOf c past f Misplaced = (is_dispatch (kind_of f.kind) ≡ false) × (is_open (Client c.number) f.tag (entries past) ≡ false)
FactsOf c past f Unsupports = (is_dispatch (kind_of f.kind) ≡ false) × (is_open (Client c.number) f.tag (entries past) ≡ false)
FactsOf c past f Echoes = (is_dispatch (kind_of f.kind) ≡ false) × (kind_of f.kind ≡ Rerr) × (is_fresh (records past) ≡ true)
FactsOf c past f (Discards t why) =
    (is_dispatch (kind_of f.kind) ≡ false) × (is_open (Client c.number) t (entries past) ≡ true) × (discard_in (message_of f) ≡ Some (t, why))
FactsOf c past f _ = Unit {0}

module _ (c : DownSession) (past : List Step) (f : MuxFrame) where
  asks_facts : (is_dispatch (kind_of f.kind) ≡ false) → (is_open (Client c.number) f.tag (entries past) ≡ false) → FactsOf c past f (asks_other f.tag)
  asks_facts d o = if_both (FactsOf c past f) (f.tag == 0) Ignores Unsupports (λ _. d) (λ _. (d, o))

  discards_facts : (t : ℕ) (why : List ℕ) → (is_dispatch (kind_of f.kind) ≡ false) → discard_in (message_of f) ≡ Some (t, why) → FactsOf c past f (discards c past t why)
  discards_facts t why d e =
      if_both (FactsOf c past f) (is_open (Client c.number) t (entries past)) (Discards t why) Ignores (λ o. (d, o, e)) (λ _. d)

  content_facts : (m : Content) → message_of f ≡ Ok m → kind_of f.kind ≡ kind_in m → (is_asking (kind_in m) && is_open (Client c.number) f.tag (entries past)) ≡ false → FactsOf c past f (by_content c past f.tag m)
  content_facts (tdispatch _ _ _ _) r e o =
      if_both (FactsOf c past f) (is_acked (drain_of (records past))) NacksDrained Takes (λ _. (ap is_dispatch e, o)) (λ _. (ap is_dispatch e, o))
  content_facts (tdiscarded t why) r e o = discards_facts t why (ap is_dispatch e) (ap discard_in r)
  content_facts tping r e o = ap is_dispatch e
  content_facts (tinit _ _) r e o = if_both (FactsOf c past f) (is_fresh (records past)) Inits Misplaced (λ _. ap is_dispatch e) (λ _. (ap is_dispatch e, o))
  content_facts (treq _) r e o = asks_facts (ap is_dispatch e) o
  content_facts tdrain r e o = asks_facts (ap is_dispatch e) o
  content_facts (tlease _ _) r e o = asks_facts (ap is_dispatch e) o
  content_facts (other (pos n) _) r e o =
      if_both (FactsOf c past f) (n == 0) Ignores (asks_other f.tag) (λ _. ap is_dispatch e)
      (λ above. asks_facts (ap is_dispatch e) (sym (ap (λ b. not b && is_open (Client c.number) f.tag (entries past)) above) ∙ o))
  content_facts (other (negsuc n) _) r e o = ap is_dispatch e
  content_facts (rerr why) r e o =
      if_both (FactsOf c past f) (is_probe f.tag why && is_fresh (records past)) Echoes Ignores (λ p. (ap is_dispatch e, e, (and_parts _ _ p).1)) (λ _. ap is_dispatch e)
  content_facts rdrain r e o = if_both (FactsOf c past f) _ Acks Ignores (λ _. ap is_dispatch e) (λ _. ap is_dispatch e)
  content_facts (rreq _) r e o = ap is_dispatch e
  content_facts (rdispatch _ _ _) r e o = ap is_dispatch e
  content_facts rping r e o = ap is_dispatch e
  content_facts rdiscarded r e o = ap is_dispatch e
  content_facts (rinit _ _) r e o = ap is_dispatch e

  room_facts : (out : ℕ) (m : Content) → message_of f ≡ Ok m → kind_of f.kind ≡ kind_in m → (is_asking (kind_in m) && is_open (Client c.number) f.tag (entries past)) ≡ false → FactsOf c past f (with_room c past out f.tag m)
  room_facts out m r e o =
      let dispatch = is_dispatch (kind_in m) && not (is_acked (drain_of (records past))) in
      let named = if is_dispatch (kind_in m) && nat_le last_seq (dispatches (records past)) then Short else by_content c past f.tag m in
      let last = if nat_lt (free_records c past) (needs c dispatch) then Short else named in
      let full = dispatch && nat_le c.limits.window (length (book (records past))) in
      if_both (FactsOf c past f) (free_out c past out == 0) Full (if full then Full else last) (λ _. tt) (λ _.
      if_both (FactsOf c past f) full Full last (λ _. tt) (λ _.
      if_both (FactsOf c past f) (nat_lt (free_records c past) (needs c dispatch)) Short named (λ _. tt) (λ _.
      if_both (FactsOf c past f) (is_dispatch (kind_in m) && nat_le last_seq (dispatches (records past))) Short (by_content c past f.tag m) (λ _. tt)
      (λ _. content_facts m r e o))))

  pub message_facts : (out : ℕ) (o : Result Content MessageFault) → message_of f ≡ o → FactsOf c past f (by_message c past out f.tag o)
  message_facts out (Err fault) r = tt
  message_facts out (Ok m) r =
      let asks = is_asking (kind_in m) && is_open (Client c.number) f.tag (entries past) in
      let rest = if asks then Closes TagInUse else with_room c past out f.tag m in
      if_both (FactsOf c past f) (is_dispatch (kind_in m) && f.tag == 0) (Closes TagZero) rest (λ _. tt) (λ _.
      if_both (FactsOf c past f) asks (Closes TagInUse) (with_room c past out f.tag m) (λ _. tt) (λ o. room_facts out m r (sym (message_says f m r).0) o))

-- what a reaction says of the frame and of the session
abbrev pub LedTo : DownSession → List Step → MuxFrame → Reaction → Type 0
LedTo c past f Shut = Unit {0}
LedTo c past f Full = Unit {0}
LedTo c past f Short = Unit {0}
LedTo c past f (Closes cause) = Unit {0}
LedTo c past f NacksDrained =
    (nat_lt (free_records c past) 1 ≡ false) × ((f.tag == 0) ≡ false) × (is_open (Client c.number) f.tag (entries past) ≡ false) × (is_acked (drain_of (records past)) ≡ true)
    × (nat_le last_seq (dispatches (records past)) ≡ false)
LedTo c past f Takes =
    (nat_lt (free_records c past) (for_taking c.limits) ≡ false) × ((f.tag == 0) ≡ false) × (is_open (Client c.number) f.tag (entries past) ≡ false) × (is_acked (drain_of (records past)) ≡ false)
    × (nat_le c.limits.window (length (book (records past))) ≡ false) × (nat_le last_seq (dispatches (records past)) ≡ false)
LedTo c past f Inits = (nat_lt (free_records c past) 1 ≡ false) × (is_fresh (records past) ≡ true)
LedTo c past f Misplaced = (nat_lt (free_records c past) 1 ≡ false) × (is_open (Client c.number) f.tag (entries past) ≡ false) × (is_fresh (records past) ≡ false)
LedTo c past f Unsupports = (nat_lt (free_records c past) 1 ≡ false) × (is_open (Client c.number) f.tag (entries past) ≡ false) × ((f.tag == 0) ≡ false)
LedTo c past f Echoes = (nat_lt (free_records c past) 1 ≡ false) × ((f.tag == 1) ≡ true) × (is_fresh (records past) ≡ true)
LedTo c past f Acks = (nat_lt (free_records c past) 1 ≡ false) × ((f.tag == 1) ≡ true) × (is_draining (drain_of (records past)) ≡ true)
LedTo c past f (Discards t why) = (nat_lt (free_records c past) 1 ≡ false) × (is_open (Client c.number) t (entries past) ≡ true)
LedTo c past f Pongs = nat_lt (free_records c past) 1 ≡ false
LedTo c past f Ignores = nat_lt (free_records c past) 1 ≡ false

module _ (c : DownSession) (past : List Step) (f : MuxFrame) where
  abbrev L : Reaction → Type 0
  L r = LedTo c past f r

  abbrev open_here : Bool
  open_here = is_open (Client c.number) f.tag (entries past)

  asks_led : nat_lt (free_records c past) 1 ≡ false → open_here ≡ false → L (asks_other f.tag)
  asks_led room o = if_both L (f.tag == 0) Ignores Unsupports (λ _. room) (λ t. (room, o, t))

  -- what the rules before say: no dispatch on tag 0, no asking on an open tag, room, and a name left
  content_led : (m : Content) → (is_dispatch (kind_in m) && f.tag == 0) ≡ false → (is_asking (kind_in m) && open_here) ≡ false →
      (is_dispatch (kind_in m) && not (is_acked (drain_of (records past))) && nat_le c.limits.window (length (book (records past)))) ≡ false →
      nat_lt (free_records c past) (needs c (is_dispatch (kind_in m) && not (is_acked (drain_of (records past))))) ≡ false →
      (is_dispatch (kind_in m) && nat_le last_seq (dispatches (records past))) ≡ false → L (by_content c past f.tag m)
  content_led (tdispatch _ _ _ _) z o w room few =
      if_both L (is_acked (drain_of (records past))) NacksDrained Takes
      (λ a. (sym (ap (λ x. nat_lt (free_records c past) (needs c (not x))) a) ∙ room, z, o, a, few))
      (λ a. (sym (ap (λ x. nat_lt (free_records c past) (needs c (not x))) a) ∙ room, z, o, a, sym (ap (λ x. not x && nat_le c.limits.window (length (book (records past)))) a) ∙ w, few))
  content_led (tdiscarded t why) z o w room few = if_both L (is_open (Client c.number) t (entries past)) (Discards t why) Ignores (λ x. (room, x)) (λ _. room)
  content_led tping z o w room few = room
  content_led (tinit _ _) z o w room few = if_both L (is_fresh (records past)) Inits Misplaced (λ x. (room, x)) (λ x. (room, o, x))
  content_led (treq _) z o w room few = asks_led room o
  content_led tdrain z o w room few = asks_led room o
  content_led (tlease _ _) z o w room few = asks_led room o
  content_led (other (pos n) _) z o w room few =
      if_both L (n == 0) Ignores (asks_other f.tag) (λ _. room) (λ above. asks_led room (sym (ap (λ b. not b && open_here) above) ∙ o))
  content_led (other (negsuc n) _) z o w room few = room
  content_led (rerr why) z o w room few =
      if_both L (is_probe f.tag why && is_fresh (records past)) Echoes Ignores (λ p. (let a = and_parts _ _ p in (room, (and_parts _ _ a.0).0, a.1))) (λ _. room)
  content_led rdrain z o w room few =
      if_both L (f.tag == 1 && is_draining (drain_of (records past))) Acks Ignores (λ p. (let a = and_parts _ _ p in (room, a.0, a.1))) (λ _. room)
  content_led (rreq _) z o w room few = room
  content_led (rdispatch _ _ _) z o w room few = room
  content_led rping z o w room few = room
  content_led rdiscarded z o w room few = room
  content_led (rinit _ _) z o w room few = room

  room_led : (out : ℕ) (m : Content) → (is_dispatch (kind_in m) && f.tag == 0) ≡ false → (is_asking (kind_in m) && open_here) ≡ false → L (with_room c past out f.tag m)
  room_led out m z o =
      let dispatch = is_dispatch (kind_in m) && not (is_acked (drain_of (records past))) in
      let named = if is_dispatch (kind_in m) && nat_le last_seq (dispatches (records past)) then Short else by_content c past f.tag m in
      let last = if nat_lt (free_records c past) (needs c dispatch) then Short else named in
      let full = dispatch && nat_le c.limits.window (length (book (records past))) in
      if_both L (free_out c past out == 0) Full (if full then Full else last) (λ _. tt) (λ _.
      if_both L full Full last (λ _. tt) (λ w.
      if_both L (nat_lt (free_records c past) (needs c dispatch)) Short named (λ _. tt) (λ room.
      if_both L (is_dispatch (kind_in m) && nat_le last_seq (dispatches (records past))) Short (by_content c past f.tag m) (λ _. tt)
      (λ few. content_led m z o w room few))))

  pub message_led : (out : ℕ) (o : Result Content MessageFault) → L (by_message c past out f.tag o)
  message_led out (Err fault) = tt
  message_led out (Ok m) =
      let asks = is_asking (kind_in m) && is_open (Client c.number) f.tag (entries past) in
      let rest = if asks then Closes TagInUse else with_room c past out f.tag m in
      if_both L (is_dispatch (kind_in m) && f.tag == 0) (Closes TagZero) rest (λ _. tt) (λ z.
      if_both L asks (Closes TagInUse) (with_room c past out f.tag m) (λ _. tt) (λ o. room_led out m z o))

-- the answers to a name: the call, the record's kind, whether they answer the note too, and what goes out
pub data Answers (ls : List Line) (n : Name) : Call → RecordKind → Bool → (ℕ → MuxFrame) → Type 0 where
  passes : (reply : MuxFrame) (again : Option MuxFrame) → SomeLine (IsSettledIn n reply) ls → Answers ls n (SettleCall n reply again) Passed false (λ t. retag t (normal reply))
  fails : SomeLine (IsLostIn n) ls → Answers ls n (FailCall n) Failed false (λ t. rerr_on t (codes "upstream lost"))
  nacks : Answers ls n (NackCall n) Nacked true nack_on
  unroutes : Answers ls n (UnrouteCall n) Unrouted true (λ t. rerr_on t (codes "no route"))

pub neither : (a b : Bool) → (a || b) ≡ false → (a ≡ false) × (b ≡ false)
neither true b e = absurd (cc)
neither false b e = (refl, e)

-- a call that answers a name hands in no moment, and no place
abbrev pub AnswersCall : Call → Type 0
AnswersCall call = (now_of call ≡ 0) × ((m : Name) (b : Option (ℕ × ℕ)) → place_in m call b ≡ b)

-- what a note gives
abbrev pub given_by : DownSession → List Step → Name → ℕ → ℕ → List Held
given_by c past n server tag = if is_held c n past then [] else if answer_due n (records past) then RecallOf n server tag (reason_of n (entries past)) ∷ [] else []

module _ (ls : List Line) (c : DownSession) (past : List Step) (Q : Call → Exchange → List Held → Type 0) where
  abbrev On : Call → Outcome → Type 0
  On call o = OnRecorded o (Q call)

  module _ (framed : (out : ℕ) (f : MuxFrame) (now : ℕ) → has_ended (records past) ≡ false → (r : Reaction) → by_message c past out f.tag (message_of f) ≡ r →
      LedTo c past f r → FactsOf c past f r → On (FrameCall f now) (reacted c past f now r))
      (noted : (n : Name) (server tag : ℕ) → is_mine c n ≡ true → note_due n (records past) ≡ true →
      Q (NoteCall n server tag) (entry_of (records past) 0 (Noted (some_of (given_by c past n server tag))) (tag_of n (records past)) (Some n) None None) (given_by c past n server tag))
      (answered : (call : Call) (n : Name) (kind : RecordKind) (whole : Bool) (reply : ℕ → MuxFrame) → Answers ls n call kind whole reply → AnswersCall call → is_mine c n ≡ true → answer_due n (records past) ≡ true →
      (whole ≡ true → note_due n (records past) ≡ true) → is_held c n past ≡ true →
      Q call (entry_of (records past) 0 kind (tag_of n (records past)) (Some n) None (Some (reply (tag_of n (records past))))) [])
      (late : (call : Call) (n : Name) (kind : RecordKind) (whole : Bool) (reply : ℕ → MuxFrame) → Answers ls n call kind whole reply → AnswersCall call → is_mine c n ≡ true → answer_due n (records past) ≡ true → (whole ≡ true → note_due n (records past) ≡ true) → is_held c n past ≡ false →
      Q call (entry_of (records past) 0 (Late whole) (tag_of n (records past)) (Some n) None None) [])
      (retried : (n : Name) (reply f : MuxFrame) → SomeLine (IsSettledIn n reply) ls → SomeLine (IsTakenIn n f) ls → is_mine c n ≡ true → answer_due n (records past) ≡ true → is_nack reply ≡ true →
      is_held c n past ≡ true → note_due n (records past) ≡ false → nat_lt 0 (left_of c.limits n (records past)) ≡ true →
      Q (SettleCall n reply (Some f)) (entry_of (records past) 0 Retried (tag_of n (records past)) (Some n) None None) (TicketOf n f (left_of c.limits n (records past) - 1) ∷ []))
      (drained : has_ended (records past) ≡ false → is_running (drain_of (records past)) ≡ true → (free_records c past == 0) ≡ false → Q DrainCall (entry_of (records past) 0 DrainAsked 1 None None (Some (tdrain_on 1))) [])
      (lost : (now : ℕ) → has_ended (records past) ≡ false → Q (LoseCall now) (entry_of (records past) now Lost 0 None None None) [])
      (told : (n : Name) → has_ended (records past) ≡ true → next_recalled (records past) ≡ Some n →
      Q LoseNextCall (entry_of (records past) 0 Recalled (tag_of n (records past)) (Some n) None None) (recall_to n (reason_of n (entries past)) (noted_place n past)))
      (sealed : has_ended (records past) ≡ false → nat_lt 0 (length (book (records past))) ≡ false → (out : ℕ) → nat_lt 0 (queued (entries past) out) ≡ false →
      nat_lt c.limits.history (4 * free_records c past) ≡ false → nat_le last_epoch (epoch_of (records past)) ≡ false →
      Q SealCall (sealing (records past) (down_standing (records past))) [])
      (rolled : has_ended (records past) ≡ false → nat_lt c.limits.history (2 * (length (book (records past)) + kept_in_all c past)) ≡ false →
      nat_le last_epoch (epoch_of (records past)) ≡ false → Q RollCall (rolling (records past)) []) where
    out_or_late : (call : Call) (n : Name) (kind : RecordKind) (whole : Bool) (reply : ℕ → MuxFrame) → Answers ls n call kind whole reply → AnswersCall call → is_mine c n ≡ true → answer_due n (records past) ≡ true →
        (whole ≡ true → note_due n (records past) ≡ true) → On call (answer c past n kind whole reply)
    out_or_late call n kind whole reply a zero mine due note =
        if_both (On call) (is_held c n past)
        (Recorded (entry_of (records past) 0 kind (tag_of n (records past)) (Some n) None (Some (reply (tag_of n (records past))))) [])
        (Recorded (entry_of (records past) 0 (Late whole) (tag_of n (records past)) (Some n) None None) [])
        (λ held. answered call n kind whole reply a zero mine due note held) (λ held. late call n kind whole reply a zero mine due note held)

    passed : (n : Name) (reply : MuxFrame) (again : Option MuxFrame) → SomeLine (IsSettledIn n reply) ls → is_mine c n ≡ true → answer_due n (records past) ≡ true → On (SettleCall n reply again) (pass c past n reply)
    passed n reply again b mine due =
        out_or_late (SettleCall n reply again) n Passed false (λ t. retag t (normal reply)) (passes reply again b) (refl, λ m b. refl) mine due (λ e. absurd (cc))

    -- a reply goes out, or a nack gives a ticket anew
    settles : (n : Name) (reply : MuxFrame) (again : Option MuxFrame) → SomeLine (IsSettledIn n reply) ls → IsCopied ls n again → is_mine c n ≡ true → answer_due n (records past) ≡ true →
        On (SettleCall n reply again) (settle c past n reply again)
    settles n reply None b copy mine due = passed n reply None b mine due
    settles n reply (Some f) b copy mine due =
        let left = left_of c.limits n (records past) in
        if_both (On (SettleCall n reply (Some f))) (is_nack reply && is_held c n past && not (note_due n (records past)) && nat_lt 0 left)
        (Recorded (entry_of (records past) 0 Retried (tag_of n (records past)) (Some n) None None) (TicketOf n f (left - 1) ∷ [])) (pass c past n reply)
        (λ p. (let a = and_parts _ _ p in let d = and_parts _ _ a.0 in let e = and_parts _ _ d.0 in retried n reply f b copy mine due e.0 e.1 (not_true (note_due n (records past)) d.1) a.1))
        (λ _. passed n reply (Some f) b mine due)

    pub down_shapes : (out : ℕ) (call : Call) → CallBorne ls call → On call (down c past out call)
    down_shapes out (FrameCall f now) b =
        if_both (λ r. On (FrameCall f now) (reacted c past f now r)) (has_ended (records past)) Shut (by_message c past out f.tag (message_of f)) (λ _. tt)
        (λ going. framed out f now going (by_message c past out f.tag (message_of f)) refl (message_led c past f out (message_of f)) (message_facts c past f out (message_of f) refl))
    down_shapes out (NoteCall n server tag) b =
        if_both (On (NoteCall n server tag)) (is_mine c n && note_due n (records past))
        (Recorded (entry_of (records past) 0 (Noted (some_of (given_by c past n server tag))) (tag_of n (records past)) (Some n) None None) (given_by c past n server tag)) (Refused NotMine)
        (λ p. noted n server tag (and_parts _ _ p).0 (and_parts _ _ p).1) (λ _. tt)
    down_shapes out (SettleCall n reply again) b =
        if_both (On (SettleCall n reply again)) (is_mine c n && answer_due n (records past)) (settle c past n reply again) (Refused NotMine)
        (λ p. settles n reply again b.0 b.1 (and_parts _ _ p).0 (and_parts _ _ p).1) (λ _. tt)
    down_shapes out (FailCall n) b =
        if_both (On (FailCall n)) (is_mine c n && answer_due n (records past)) (answer c past n Failed false (λ t. rerr_on t (codes "upstream lost"))) (Refused NotMine)
        (λ p. out_or_late (FailCall n) n Failed false (λ t. rerr_on t (codes "upstream lost")) (fails b) (refl, λ m b. refl) (and_parts _ _ p).0 (and_parts _ _ p).1 (λ e. absurd (cc))) (λ _. tt)
    down_shapes out (NackCall n) b =
        if_both (On (NackCall n)) (is_mine c n && answer_due n (records past) && note_due n (records past)) (answer c past n Nacked true nack_on) (Refused NotMine)
        (λ p. (let a = and_parts _ _ p in let b = and_parts _ _ a.0 in out_or_late (NackCall n) n Nacked true nack_on nacks (refl, λ m b. refl) b.0 b.1 (λ _. a.1))) (λ _. tt)
    down_shapes out (UnrouteCall n) b =
        if_both (On (UnrouteCall n)) (is_mine c n && answer_due n (records past) && note_due n (records past)) (answer c past n Unrouted true (λ t. rerr_on t (codes "no route"))) (Refused NotMine)
        (λ p. (let a = and_parts _ _ p in let b = and_parts _ _ a.0 in out_or_late (UnrouteCall n) n Unrouted true (λ t. rerr_on t (codes "no route")) unroutes (refl, λ m b. refl) b.0 b.1 (λ _. a.1))) (λ _. tt)
    down_shapes out DrainCall b =
        let last = Recorded (entry_of (records past) 0 DrainAsked 1 None None (Some (tdrain_on 1))) [] in
        let spent = if free_records c past == 0 then Refused IsSpent else last in
        let busy = if free_out c past out == 0 then Refused IsBusy else spent in
        if_both (On DrainCall) (has_ended (records past)) (Refused IsClosed) (if not (is_running (drain_of (records past))) then Refused AlreadyDraining else busy) (λ _. tt) (λ going.
        if_both (On DrainCall) (not (is_running (drain_of (records past)))) (Refused AlreadyDraining) busy (λ _. tt) (λ new.
        if_both (On DrainCall) (free_out c past out == 0) (Refused IsBusy) spent (λ _. tt) (λ _.
        if_both (On DrainCall) (free_records c past == 0) (Refused IsSpent) last (λ _. tt) (λ room. drained going (not_false (is_running (drain_of (records past))) new) room))))
    down_shapes out (LoseCall now) b =
        if_both (On (LoseCall now)) (has_ended (records past)) Unrecorded (Recorded (entry_of (records past) now Lost 0 None None None) []) (λ _. tt) (λ going. lost now going)
    down_shapes out LoseNextCall b =
        if_both (On LoseNextCall) (has_ended (records past)) (next_recall c past (next_recalled (records past))) Unrecorded
        (λ over. by_name over (next_recalled (records past)) refl) (λ _. tt)
      where
        by_name : has_ended (records past) ≡ true → (o : Option Name) → next_recalled (records past) ≡ o → On LoseNextCall (next_recall c past o)
        by_name over None e = tt
        by_name over (Some n) e = told n over e
    down_shapes out SealCall b =
        let last = Recorded (sealing (records past) (down_standing (records past))) [] in
        let high = if nat_le last_epoch (epoch_of (records past)) then Refused LastEpoch else last in
        let low = if nat_lt c.limits.history (4 * free_records c past) then Refused NotFull else high in
        let busy = nat_lt 0 (length (book (records past))) || nat_lt 0 (queued (entries past) out) in
        if_both (On SealCall) (has_ended (records past)) (Refused IsClosed) (if busy then Refused NotQuiet else low) (λ _. tt) (λ going.
        if_both (On SealCall) busy (Refused NotQuiet) low (λ _. tt) (λ quiet.
        if_both (On SealCall) (nat_lt c.limits.history (4 * free_records c past)) (Refused NotFull) high (λ _. tt) (λ full.
        if_both (On SealCall) (nat_le last_epoch (epoch_of (records past))) (Refused LastEpoch) last (λ _. tt) (λ few.
        (let none = neither _ _ quiet in sealed going none.0 out none.1 full few)))))
    down_shapes out RollCall b =
        let last = Recorded (rolling (records past)) [] in
        let high = if nat_le last_epoch (epoch_of (records past)) then Refused LastEpoch else last in
        let held = nat_lt c.limits.history (2 * (length (book (records past)) + kept_in_all c past)) in
        if_both (On RollCall) (has_ended (records past)) (Refused IsClosed) (if held then Refused NoRoom else high) (λ _. tt) (λ going.
        if_both (On RollCall) held (Refused NoRoom) high (λ _. tt) (λ fits.
        if_both (On RollCall) (nat_le last_epoch (epoch_of (records past))) (Refused LastEpoch) last (λ _. tt) (λ few. rolled going fits few)))
    down_shapes out (OfferCall n f left now) b = tt
    down_shapes out (RecallCall n tag why now) b = tt
    down_shapes out (ClockCall now) b = tt
    down_shapes out (PingCall now) b = tt
    down_shapes out (RetireCall now) b = tt
    down_shapes out ProbeCall b = tt
