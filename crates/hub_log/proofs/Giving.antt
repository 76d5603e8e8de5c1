-- What each step of a session gives, and what a client's step sends.
use Rattle.std.proofs.Common.{ℕ, List, [], ◌∷◌, ◌+◌, ◌*◌, ◌≡◌, ◌&&◌, ◌||◌, Bool, true, false, not, Option, Some, None, refl, sym, ap, ◌∙◌, length, max}
use Rattle.std.specs.Prelude.{if◌then◌else◌, ◌==◌, nat_le, nat_lt, codes}
use Rattle.std.specs.List.{AllByRecursion}
use Rattle.mux_frame.specs.Spelling.{MuxFrame}
use Rattle.mux_message.specs.Kinds.{kind_of}
use Rattle.mux_message.specs.declared.kind.MessageKind.TheVariants.{Rdispatch, Rerr, Rdiscarded, Rping, Rinit}
use Rattle.mux_history.specs.Bounds.{Bounds}
use Rattle.mux_history.specs.declared.name.Name.{Name}
use Rattle.mux_history.specs.declared.kind.RecordKind.{RecordKind}
use Rattle.mux_history.specs.declared.kind.RecordKind.TheVariants.{Passed, Failed, Nacked, Unrouted}
use Rattle.mux_history.specs.declared.session.SessionId.{SessionId}
use Rattle.mux_history.specs.declared.session.SessionId.TheVariants.{Client, Server}
use Rattle.mux_history.specs.Readings.{has_ended, note_due, answer_due, Sending, least, sendings, sending_on, is_retiring, stands, reading, is_open as is_ready, ping_outstanding, epoch_of, book, drain_of, is_running}
use Rattle.mux_message.specs.Made.{nack_on, rerr_on, rdiscarded_on, rping_on, rinit_on, tdrain_on, retag}
use Rattle.mux_message.specs.Spellings.{normal}
use Rattle.mux_message.specs.Reading.{message_of}
use Rattle.mux_model.specs.Entries.{Exchange}
use Rattle.mux_model.specs.Tags.{holder, name_held}
use Rattle.mux_model.specs.Steps.{Held, RecallOf, Call, FrameCall, NoteCall, SettleCall, NackCall, UnrouteCall, FailCall, DrainCall, OfferCall, RecallCall, ClockCall, PingCall, RetireCall, LoseCall, LoseNextCall, SealCall, RollCall, ProbeCall, Step, entries, records, Outcome, Refusal, Refused, Unrecorded, Recorded, is_nack, last_epoch, queued}
use Rattle.mux_model.specs.World.{Connection, outcome_at}
use Rattle.mux_model.specs.Down as downs
use Rattle.mux_model.specs.Down.{DownSession, down}
use Rattle.mux_model.specs.Up as ups
use Rattle.mux_model.specs.Up.{UpSession, up}
use Rattle.mux_legal.proofs.Basics.{OnRecorded, if_both}
use Rattle.mux_legal.proofs.DownShapes.{FactsOf, message_facts}
use Rattle.hub_log.specs.Sources.{IsSource, IsMade}

abbrev pub AreSources : SessionId → Call → List Held → Type 0
AreSources id call gives = AllByRecursion (λ h. IsSource h id call) gives

abbrev pub Makes : SessionId → Call → Option MuxFrame → Type 0
Makes (Client k) call sent = (f : MuxFrame) → sent ≡ Some f → IsMade f call
Makes (Server k) call sent = Unit {0}

pub record Tells (id : SessionId) (call : Call) (o : Outcome) : Type 0 where
  pub told : OnRecorded o (λ e gives. AreSources id call gives × Makes id call e.sent)

either : {id : SessionId} {call : Call} {x y : Outcome} (b : Bool) → Tells id call x → Tells id call y → Tells id call (if b then x else y)
either true p q = p
either false p q = q

refused : {id : SessionId} {call : Call} (why : Refusal) → Tells id call (Refused why)
refused why = record { told = tt }

unrecorded : {id : SessionId} {call : Call} → Tells id call Unrecorded
unrecorded = record { told = tt }

writes : {id : SessionId} {call : Call} (e : Exchange) (gives : List Held) → AreSources id call gives → Makes id call e.sent → Tells id call (Recorded e gives)
writes e gives from made = record { told = (from, made) }

-- a frame that is made on some tag
as_made : (make : ℕ → MuxFrame) → ((t : ℕ) → (make t).tag ≡ t) → (t : ℕ) (f : MuxFrame) → Some (make t) ≡ Some f → f ≡ make f.tag
as_made make on t f e =
    let is : make t ≡ f = cc in
    sym is ∙ ap make (sym (on t) ∙ ap (λ (g : MuxFrame). g.tag) is)

-- what is no Rdispatch
other_kind : (g : MuxFrame) → (kind_of g.kind ≡ Rdispatch → ⊥) → (f : MuxFrame) → Some g ≡ Some f → kind_of f.kind ≡ Rdispatch → f ≡ nack_on f.tag
other_kind g not_one f e k = (let is : g ≡ f = cc in absurd (not_one (ap (λ (x : MuxFrame). kind_of x.kind) is ∙ k)))

module _ (c : DownSession) (past : List Step) where
  abbrev Down : Call → Outcome → Type 0
  Down call o = Tells (Client c.number) call o

  -- an entry that sends nothing
  quiet : {call : Call} (e : Exchange) (gives : List Held) → e.sent ≡ None → AreSources (Client c.number) call gives → Down call (Recorded e gives)
  quiet e gives none from = writes e gives from (λ f is. absurd (let x : None ≡ Some f = sym none ∙ is in cc))

  recalls : (call : Call) (n : Name) (why : List ℕ) (o : Option (ℕ × ℕ)) → AreSources (Client c.number) call (downs.recall_to n why o)
  recalls call n why None = tt
  recalls call n why (Some p) = (tt, tt)

  is_rdiscarded : (t : ℕ) → kind_of (rdiscarded_on t).kind ≡ Rdispatch → ⊥
  is_rdiscarded t k = (let x : Rdiscarded ≡ Rdispatch = k in absurd cc)

  is_rerr : (t : ℕ) (why : List ℕ) → kind_of (rerr_on t why).kind ≡ Rdispatch → ⊥
  is_rerr t why k = (let x : Rerr ≡ Rdispatch = k in absurd cc)

  discards : (f : MuxFrame) (now t : ℕ) (why : List ℕ) (o : Option Name) → Down (FrameCall f now) (downs.discarded past now f t why o)
  discards f now t why None = writes _ _ tt (other_kind (rdiscarded_on t) (is_rdiscarded t))
  discards f now t why (Some n) = writes _ _ (recalls (FrameCall f now) n why (downs.noted_place n past)) (other_kind (rdiscarded_on t) (is_rdiscarded t))

  framed : (f : MuxFrame) (now : ℕ) (r : downs.Reaction) → FactsOf c past f r → Down (FrameCall f now) (downs.reacted c past f now r)
  framed f now downs.Shut facts = refused _
  framed f now downs.Full facts = refused _
  framed f now downs.Short facts = refused _
  framed f now (downs.Closes cause) facts = quiet _ _ refl tt
  framed f now downs.NacksDrained facts = writes _ _ tt (λ g e k. as_made nack_on (λ t. refl) f.tag g e)
  framed f now downs.Takes facts = quiet _ _ refl ((refl, refl), tt)
  framed f now downs.Pongs facts = writes _ _ tt (other_kind (rping_on f.tag) (λ k. (let x : Rping ≡ Rdispatch = k in absurd cc)))
  framed f now downs.Inits facts = writes _ _ tt (other_kind (rinit_on f.tag) (λ k. (let x : Rinit ≡ Rdispatch = k in absurd cc)))
  framed f now downs.Misplaced facts = writes _ _ tt (other_kind (rerr_on f.tag (codes "tinit out of place")) (is_rerr f.tag (codes "tinit out of place")))
  framed f now downs.Unsupports facts = writes _ _ tt (other_kind (rerr_on f.tag (codes "unsupported")) (is_rerr f.tag (codes "unsupported")))
  framed f now downs.Echoes facts = writes _ _ tt (other_kind f (λ k. (let x : Rerr ≡ Rdispatch = sym facts.1 ∙ k in absurd cc)))
  framed f now downs.Acks facts = quiet _ _ refl tt
  framed f now downs.Ignores facts = quiet _ _ refl tt
  framed f now (downs.Discards t why) facts = discards f now t why (name_held (holder (Client c.number) t (entries past)))

  answers : (call : Call) (n : Name) (kind : RecordKind) (whole : Bool) (reply : ℕ → MuxFrame) → ((t : ℕ) (f : MuxFrame) → Some (reply t) ≡ Some f → IsMade f call) → Down call (downs.answer c past n kind whole reply)
  answers call n kind whole reply made = either (downs.is_held c n past) (writes _ _ tt (made _)) (quiet _ _ refl tt)

  settles : (n : Name) (reply : MuxFrame) (again : Option MuxFrame) → Down (SettleCall n reply again) (downs.settle c past n reply again)
  settles n reply None = answers (SettleCall n reply None) n Passed false (λ t. retag t (normal reply)) (as_made (λ t. retag t (normal reply)) (λ t. refl))
  settles n reply (Some f) =
      either (is_nack reply && downs.is_held c n past && not (note_due n (records past)) && nat_lt 0 (downs.left_of c.limits n (records past))) (quiet _ _ refl ((refl, refl), tt))
      (answers (SettleCall n reply (Some f)) n Passed false (λ t. retag t (normal reply)) (as_made (λ t. retag t (normal reply)) (λ t. refl)))

  notes : (n : Name) (server tag : ℕ) → Down (NoteCall n server tag) (downs.note c past n server tag)
  notes n server tag = either (downs.is_mine c n && note_due n (records past)) (quiet _ _ refl (given (downs.is_held c n past) (answer_due n (records past)))) (refused _)
    where
      given : (a b : Bool) → AreSources (Client c.number) (NoteCall n server tag) (if a then [] else if b then RecallOf n server tag (downs.reason_of n (entries past)) ∷ [] else [])
      given true b = tt
      given false true = (tt, tt)
      given false false = tt

  next_recalls : (o : Option Name) → Down LoseNextCall (downs.next_recall c past o)
  next_recalls None = unrecorded
  next_recalls (Some n) = quiet _ _ refl (recalls LoseNextCall n (downs.reason_of n (entries past)) (downs.noted_place n past))

  down_tells : (out : ℕ) (call : Call) → Down call (down c past out call)
  down_tells out (FrameCall f now) =
      if_both (λ r. Down (FrameCall f now) (downs.reacted c past f now r)) (has_ended (records past)) downs.Shut (downs.by_message c past out f.tag (message_of f)) (λ _. refused _)
      (λ _. framed f now (downs.by_message c past out f.tag (message_of f)) (message_facts c past f out (message_of f) refl))
  down_tells out (NoteCall n server tag) = notes n server tag
  down_tells out (SettleCall n reply again) = either (downs.is_mine c n && answer_due n (records past)) (settles n reply again) (refused _)
  down_tells out (FailCall n) =
      either (downs.is_mine c n && answer_due n (records past)) (answers (FailCall n) n Failed false (λ t. rerr_on t (codes "upstream lost")) (as_made (λ t. rerr_on t (codes "upstream lost")) (λ t. refl))) (refused _)
  down_tells out (NackCall n) = either (downs.is_mine c n && answer_due n (records past) && note_due n (records past)) (answers (NackCall n) n Nacked true nack_on (as_made nack_on (λ t. refl))) (refused _)
  down_tells out (UnrouteCall n) =
      either (downs.is_mine c n && answer_due n (records past) && note_due n (records past)) (answers (UnrouteCall n) n Unrouted true (λ t. rerr_on t (codes "no route")) (as_made (λ t. rerr_on t (codes "no route")) (λ t. refl))) (refused _)
  down_tells out DrainCall =
      either (has_ended (records past)) (refused _) (either (not (is_running (drain_of (records past)))) (refused _) (either (downs.free_out c past out == 0) (refused _)
      (either (downs.free_records c past == 0) (refused _) (writes _ _ tt (λ f e. (let is : tdrain_on 1 ≡ f = cc in sym is))))))
  down_tells out (LoseCall now) = either (has_ended (records past)) unrecorded (quiet _ _ refl tt)
  down_tells out LoseNextCall = either (has_ended (records past)) (next_recalls (downs.next_recalled (records past))) unrecorded
  down_tells out SealCall =
      either (has_ended (records past)) (refused _) (either (nat_lt 0 (length (book (records past))) || nat_lt 0 (queued (entries past) out)) (refused _)
      (either (nat_lt c.limits.history (4 * downs.free_records c past)) (refused _) (either (nat_le last_epoch (epoch_of (records past))) (refused _) (quiet _ _ refl tt))))
  down_tells out RollCall =
      either (has_ended (records past)) (refused _) (either (nat_lt c.limits.history (2 * (length (book (records past)) + downs.kept_in_all c past))) (refused _)
      (either (nat_le last_epoch (epoch_of (records past))) (refused _) (quiet _ _ refl tt)))
  down_tells out (OfferCall n f left now) = refused _
  down_tells out (RecallCall n tag why now) = refused _
  down_tells out (ClockCall now) = refused _
  down_tells out (PingCall now) = refused _
  down_tells out (RetireCall now) = refused _
  down_tells out ProbeCall = refused _

module _ (s : UpSession) (past : List Step) where
  abbrev Up : Call → Outcome → Type 0
  Up call o = Tells (Server s.number) call o

  settled : (f : MuxFrame) (now : ℕ) (n : Option Name) (again : Option MuxFrame) → AreSources (Server s.number) (FrameCall f now) (ups.settled_by f n again)
  settled f now None again = tt
  settled f now (Some n) again = (refl, tt)

  taken : (f : MuxFrame) (now : ℕ) (r : ups.Reaction) → Up (FrameCall f now) (ups.reacted s past f now r)
  taken f now ups.Shut = refused _
  taken f now ups.Full = refused _
  taken f now ups.Short = refused _
  taken f now (ups.Closes cause) = writes _ _ tt tt
  taken f now (ups.Settles n again) = writes _ _ (settled f now n again) tt
  taken f now ups.Pongs = writes _ _ tt tt
  taken f now ups.Drains = writes _ _ tt tt
  taken f now (ups.Leases ms) = writes _ _ tt tt
  taken f now ups.Ignores = writes _ _ tt tt
  taken f now ups.Unsupports = writes _ _ tt tt
  taken f now ups.AsksInit = writes _ _ tt tt
  taken f now ups.EndsInit = writes _ _ tt tt
  taken f now ups.EndsPing = writes _ _ tt tt
  taken f now ups.Drops = writes _ _ tt tt

  lost_one : (n : Option Name) → AreSources (Server s.number) LoseNextCall (ups.lost_of n)
  lost_one None = tt
  lost_one (Some n) = (tt, tt)

  next_loses : (o : Option Sending) → Up LoseNextCall (ups.next_lost (records past) o)
  next_loses None = unrecorded
  next_loses (Some e) = writes _ _ (lost_one e.name) tt

  up_tells : (out t : ℕ) (call : Call) → Up call (up s past out t call)
  up_tells out t (FrameCall f now) = taken f now (ups.reaction s past out f)
  up_tells out t (OfferCall n f left now) =
      either (has_ended (records past)) (refused _) (either (not (is_ready (ups.init_of s (records past)))) (refused _) (either (ups.is_drained (entries past)) (refused _) (either (stands is_retiring (records past)) (refused _)
      (either (ups.is_lapsed (entries past) (max (reading (records past)) now)) (refused _) (either (nat_le s.limits.window (length (sendings (records past)))) (refused _)
      (either (nat_lt (ups.free_out s past out) 2) (refused _) (either (nat_lt (ups.free_records s past) 3) (refused _) (writes _ _ ((refl, refl), tt) tt))))))))
  up_tells out t (RecallCall n tag why now) =
      either (has_ended (records past)) unrecorded (either (ups.is_recallable n (sending_on tag (sendings (records past)))) (writes _ _ tt tt) unrecorded)
  up_tells out t (ClockCall now) = either (has_ended (records past)) (refused _) (either (ups.free_records s past == 0) (refused _) (writes _ _ tt tt))
  up_tells out t (RetireCall now) = either (has_ended (records past)) (refused _) (either (ups.free_records s past == 0) (refused _) (writes _ _ tt tt))
  up_tells out t (PingCall now) =
      either (has_ended (records past)) (refused _) (either (not (is_ready (ups.init_of s (records past)))) (refused _) (either (ping_outstanding (records past)) (refused _)
      (either (ups.free_out s past out == 0) (refused _) (either (ups.free_records s past == 0) (refused _) (writes _ _ tt tt)))))
  up_tells out t (LoseCall now) = either (has_ended (records past)) unrecorded (writes _ _ tt tt)
  up_tells out t LoseNextCall = either (has_ended (records past)) (next_loses (least (sendings (records past)))) unrecorded
  up_tells out t SealCall =
      either (has_ended (records past)) (refused _) (either (nat_lt 0 (length (sendings (records past))) || nat_lt 0 (queued (entries past) out)) (refused _)
      (either (nat_lt s.limits.history (4 * ups.free_records s past)) (refused _) (either (nat_le last_epoch (epoch_of (records past))) (refused _) (writes _ _ tt tt))))
  up_tells out t RollCall =
      either (has_ended (records past)) (refused _) (either _ (refused _) (either (nat_le last_epoch (epoch_of (records past))) (refused _) (writes _ _ tt tt)))
  up_tells out t (NoteCall n server tag) = refused _
  up_tells out t (SettleCall n reply again) = refused _
  up_tells out t (FailCall n) = refused _
  up_tells out t (NackCall n) = refused _
  up_tells out t (UnrouteCall n) = refused _
  up_tells out t DrainCall = refused _
  up_tells out t ProbeCall = refused _

pub step_tells : (limits : Bounds) (c : Connection) (id : SessionId) (t : ℕ) (call : Call) → Tells id call (outcome_at limits c id t call)
step_tells limits c (Client k) t call = down_tells (record { limits = limits; boot = c.boot; number = k }) c.steps c.out call
step_tells limits c (Server k) t call = up_tells (record { limits = limits; number = k; mode = c.mode }) c.steps c.out t call
