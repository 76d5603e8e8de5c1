-- What stands behind each value in hand: a ticket's name is of this boot, a reply was settled, a loss was told.
use Rattle.std.proofs.Common.{subst, ℕ, zero, suc, List, [], ◌∷◌, ◌++◌, ◌+◌, ◌≡◌, ◌≤◌, ◌&&◌, ◌⊎◌, inl, inr, Bool, true, false, Option, Some, None, refl, sym, ◌∙◌, ap, arith}
use Rattle.std.specs.Prelude.{codes, if◌then◌else◌, max}
use Rattle.std.proofs.lemmas.Bool.{eqb-true, and_parts}
use Rattle.mux_frame.specs.Spelling.{MuxFrame}
use Rattle.mux_history.specs.Bounds.{Bounds}
use Rattle.mux_history.specs.declared.name.Name.{Name}
use Rattle.mux_history.specs.declared.record.Record.{Record}
use Rattle.mux_history.specs.declared.kind.RecordKind.{RecordKind}
use Rattle.mux_history.specs.declared.kind.RecordKind.TheVariants.{Settled, SettledNack, LostOne}
use Rattle.mux_history.specs.declared.session.SessionId.{SessionId}
use Rattle.mux_history.specs.declared.session.SessionId.TheVariants.{Client, Server}
use Rattle.mux_history.specs.declared.session.InitMode.{InitMode}
use Rattle.mux_history.specs.declared.session.InitMode.TheVariants.{Probe, Plain}
use Rattle.mux_history.specs.Readings.{reading, is_named, is_offered, is_retried, answer_due}
use Rattle.mux_agree.specs.Agree.{is_replied, is_lost_one, is_failed}
use Rattle.mux_model.specs.Entries.{Exchange}
use Rattle.mux_model.specs.Tags.{holder, name_held}
use Rattle.mux_message.specs.Made.{nack_on, rerr_on, rdiscarded_on, rping_on, rinit_on, tdrain_on, rdrain_on, tping_on, tinit_on, tdiscarded_for}
use Rattle.mux_model.specs.Steps.{Held, TicketOf, PlacedAt, SettledBy, RecallOf, LostOf, Call, FrameCall, NoteCall, SettleCall, NackCall, UnrouteCall, FailCall, DrainCall, OfferCall, RecallCall, ClockCall, PingCall, RetireCall, LoseCall, LoseNextCall, SealCall, RollCall, ProbeCall, Step, entries, records, is_nack, entry_of}
use Rattle.mux_model.specs.Down.{DownSession, down, next_name, recall_to, noted_place, reason_of, is_held}
use Rattle.mux_model.specs.Down as downs
use Rattle.mux_model.specs.Up.{UpSession, up, MayChoose, settled_by, lost_of}
use Rattle.mux_model.specs.Up as ups
use Rattle.mux_model.specs.Legal.{Line, EachLine, in_record, tally, total}
use Rattle.mux_model.specs.World.{World, Connection, Hand, Reached, starts, opens_client, opens_server, moves, passes, takes_out, restarts, opened, first_step, with_client, with_server, Move, moved, TakeOut, taken_out, Leaves, all_left, all_but, NeedsNone, IsSpentBy, outcome_at, MayChooseAt, numbered, stepped}
use Rattle.mux_model.specs.Runs.{line_of, lines}
use Rattle.mux_legal.proofs.Basics.{OnRecorded, named, named_same, one_if, if_both, total-append}
use Rattle.mux_legal.proofs.Invariant.{AllHands, is_passed, weigh, weigh_hands, Inv}
use Rattle.mux_legal.proofs.Grow.{longer, each_mid, each_step, each_push, total_step}
use Rattle.mux_legal.proofs.Advance.{AllHeld, AllHands-append, weigh-append, weigh-numbered}
use Rattle.mux_legal.proofs.DownSteps.{in_none, IsRecall, recall_borne, recalls_weigh}
use Rattle.mux_legal.proofs.UpSteps.{settled_kinds}
use Rattle.mux_legal.proofs.DownShapes.{down_shapes, Answers, passes as passes_on, fails, nacks, unroutes, given_by, CallBorne}
use Rattle.mux_legal.proofs.UpShapes.{up_shapes}
use Rattle.mux_legal.proofs.Worlds.{Keeps, reached_keeps, hands_mid, left_hands, left_borne, left_weigh, lines-append}

-- replies in hand to a name, and those that a call uses up
abbrev reply_held : Name → Held → ℕ
reply_held n (SettledBy m r again) = one_if (is_named n (Some m))
reply_held n _ = 0

abbrev reply_used : Call → Name → ℕ
reply_used (SettleCall m r again) n = one_if (is_named n (Some m))
reply_used _ n = 0

-- what lists say for a value in hand
abbrev IsDue : ℕ → List Line → Held → Type 0
IsDue b ls (TicketOf n f left) = n.boot ≡ b
IsDue b ls (LostOf n) = 1 ≤ total is_lost_one n ls
IsDue b ls _ = Unit {0}

-- the same of the value that a call used up
abbrev CallDue : ℕ → List Line → Call → Type 0
CallDue b ls (OfferCall n f left now) = n.boot ≡ b
CallDue b ls (FailCall n) = 1 ≤ total is_lost_one n ls
CallDue b ls _ = Unit {0}

-- and what an entry says for a value that it gives
abbrev IsGiven : ℕ → Exchange → Held → Type 0
IsGiven b e (TicketOf n f left) = n.boot ≡ b
IsGiven b e (LostOf n) = 1 ≤ in_record is_lost_one n e.rec
IsGiven b e _ = Unit {0}

-- what an entry of a session's step needs, and what it gives
record IsPaid (b : ℕ) (ls : List Line) (call : Call) (e : Exchange) (gives : List Held) : Type 0 where
  offered : (n : Name) → 1 ≤ in_record is_offered n e.rec → n.boot ≡ b
  replied : (n : Name) → weigh (reply_held n) gives + in_record is_retried n e.rec + in_record is_passed n e.rec ≤ in_record is_replied n e.rec + reply_used call n
  failed : (n : Name) → 1 ≤ in_record is_failed n e.rec → 1 ≤ total is_lost_one n ls
  given : AllHeld (IsGiven b e) gives

paid_plain : (b : ℕ) (ls : List Line) (call : Call) (r : Record) (taken sent : Option MuxFrame) (gives : List Held) → is_offered r.kind ≡ false → is_retried r.kind ≡ false → is_passed r.kind ≡ false → is_failed r.kind ≡ false →
    ((n : Name) → weigh (reply_held n) gives ≡ 0) → AllHeld (IsGiven b (record { rec = Some r; taken = taken; sent = sent })) gives → IsPaid b ls call (record { rec = Some r; taken = taken; sent = sent }) gives
paid_plain b ls call r taken sent gives o again p f none given = record {
  offered = λ n h. absurd (omega (arith, h, in_none is_offered n r o));
  replied = λ n. omega (arith, none n, in_none is_retried n r again, in_none is_passed n r p);
  failed = λ n h. absurd (omega (arith, h, in_none is_failed n r f));
  given = given;
}

-- the record that counts for a name has it
same_name_in : (b : Bool) (m n : Name) → 1 ≤ one_if (b && is_named n (Some m)) → m ≡ n
same_name_in b m n h = by_test b (is_named n (Some m)) (named n (Some m)) h
  where
    by_test : (x y : Bool) → (y ≡ true → Some m ≡ Some n) → 1 ≤ one_if (x && y) → m ≡ n
    by_test true true go h = (let e = go refl in cc)
    by_test true false go h = absurd (omega (arith, h))
    by_test false y go h = absurd (omega (arith, h))

counts_itself : (n : Name) → 1 ≤ one_if (is_named n (Some n))
counts_itself n = omega (arith, ap one_if (named_same n))

module _ (ls : List Line) (c : DownSession) (past : List Step) where
  abbrev Q : Call → Exchange → List Held → Type 0
  Q call e gives = CallDue c.boot ls call → IsPaid c.boot ls call e gives

  discarded_paid : (f : MuxFrame) (now t : ℕ) (why : List ℕ) (o : Option Name) → OnRecorded (downs.discarded past now f t why o) (Q (FrameCall f now))
  discarded_paid f now t why None = λ d. paid_plain c.boot ls (FrameCall f now) _ (Some f) (Some (rdiscarded_on t)) [] refl refl refl refl (λ n. refl) tt
  discarded_paid f now t why (Some n) =
      λ d. paid_plain c.boot ls (FrameCall f now) _ (Some f) (Some (rdiscarded_on t)) (recall_to n why (noted_place n past)) refl refl refl refl
      (λ m. recalls_weigh (reply_held m) (λ k s t w. refl) (recall_to n why (noted_place n past)) (recall_borne IsRecall n why (noted_place n past) (λ s t. tt)))
      (recall_borne _ n why (noted_place n past) (λ s t. tt))

  framed_paid : (f : MuxFrame) (now : ℕ) (r : downs.Reaction) → OnRecorded (downs.reacted c past f now r) (Q (FrameCall f now))
  framed_paid f now downs.Shut = tt
  framed_paid f now downs.Full = tt
  framed_paid f now downs.Short = tt
  framed_paid f now (downs.Closes cause) = λ d. paid_plain c.boot ls (FrameCall f now) _ None None [] refl refl refl refl (λ n. refl) tt
  framed_paid f now downs.NacksDrained = λ d. paid_plain c.boot ls (FrameCall f now) _ (Some f) (Some (nack_on f.tag)) [] refl refl refl refl (λ n. refl) tt
  framed_paid f now downs.Takes = λ d. paid_plain c.boot ls (FrameCall f now) _ (Some f) None (TicketOf (next_name c past) f c.limits.retries ∷ []) refl refl refl refl (λ n. omega arith) (refl, tt)
  framed_paid f now downs.Pongs = λ d. paid_plain c.boot ls (FrameCall f now) _ (Some f) (Some (rping_on f.tag)) [] refl refl refl refl (λ n. refl) tt
  framed_paid f now downs.Inits = λ d. paid_plain c.boot ls (FrameCall f now) _ (Some f) (Some (rinit_on f.tag)) [] refl refl refl refl (λ n. refl) tt
  framed_paid f now downs.Misplaced = λ d. paid_plain c.boot ls (FrameCall f now) _ (Some f) (Some (rerr_on f.tag (codes "tinit out of place"))) [] refl refl refl refl (λ n. refl) tt
  framed_paid f now downs.Unsupports = λ d. paid_plain c.boot ls (FrameCall f now) _ (Some f) (Some (rerr_on f.tag (codes "unsupported"))) [] refl refl refl refl (λ n. refl) tt
  framed_paid f now downs.Echoes = λ d. paid_plain c.boot ls (FrameCall f now) _ (Some f) (Some f) [] refl refl refl refl (λ n. refl) tt
  framed_paid f now downs.Acks = λ d. paid_plain c.boot ls (FrameCall f now) _ (Some f) None [] refl refl refl refl (λ n. refl) tt
  framed_paid f now downs.Ignores = λ d. paid_plain c.boot ls (FrameCall f now) _ (Some f) None [] refl refl refl refl (λ n. refl) tt
  framed_paid f now (downs.Discards t why) = discarded_paid f now t why (name_held (holder (Client c.number) t (entries past)))

  note_given : (P : Held → Type 0) (n : Name) (server tag : ℕ) → ((why : List ℕ) → P (RecallOf n server tag why)) → AllHeld P (given_by c past n server tag)
  note_given P n server tag h =
      if_both (AllHeld P) (is_held c n past) [] _ (λ _. tt) (λ _.
      if_both (AllHeld P) (answer_due n (records past)) (RecallOf n server tag (reason_of n (entries past)) ∷ []) [] (λ _. (h (reason_of n (entries past)), tt)) (λ _. tt))

  answered_paid : (call : Call) (n : Name) (kind : RecordKind) (whole : Bool) (reply : ℕ → MuxFrame) → Answers ls n call kind whole reply → (t at : ℕ) →
      Q call (record { rec = Some (record { kind = kind; tag = t; name = Some n; reading = at }); taken = None; sent = Some (reply t) }) []
  answered_paid call n kind whole reply (passes_on r again b) t at = λ d. record {
    offered = λ m h. absurd (omega (arith, h));
    replied = λ m. omega arith;
    failed = λ m h. absurd (omega (arith, h));
    given = tt;
  }
  answered_paid call n kind whole reply (fails b) t at = λ d. record {
    offered = λ m h. absurd (omega (arith, h));
    replied = λ m. omega arith;
    failed = λ m h. subst (λ x. 1 ≤ total is_lost_one x ls) (same_name_in true n m h) d;
    given = tt;
  }
  answered_paid call n kind whole reply nacks t at = λ d. paid_plain c.boot ls (NackCall n) _ None (Some (nack_on t)) [] refl refl refl refl (λ m. refl) tt
  answered_paid call n kind whole reply unroutes t at = λ d. paid_plain c.boot ls (UnrouteCall n) _ None (Some (rerr_on t (codes "no route"))) [] refl refl refl refl (λ m. refl) tt

  down_paid : (out : ℕ) (call : Call) → CallBorne ls call → OnRecorded (down c past out call) (Q call)
  down_paid =
      down_shapes ls c past Q (λ out f now going r is led facts. framed_paid f now r)
      (λ n server tag mine due d. paid_plain c.boot ls (NoteCall n server tag) _ None None (given_by c past n server tag) refl refl refl refl
      (λ m. recalls_weigh (reply_held m) (λ k s t w. refl) (given_by c past n server tag) (note_given IsRecall n server tag (λ why. tt))) (note_given _ n server tag (λ why. tt)))
      (λ call n kind whole reply a zero mine due note held. answered_paid call n kind whole reply a _ _)
      (λ call n kind whole reply a zero mine due note held d. paid_plain c.boot ls call _ None None [] refl refl refl refl (λ m. refl) tt)
      (λ n reply f settled taken mine due nack held note left d. record {
        offered = λ m h. absurd (omega (arith, h));
        replied = λ m. omega arith;
        failed = λ m h. absurd (omega (arith, h));
        given = (eqb-true n.boot c.boot (and_parts _ _ mine).0, tt);
      })
      (λ going new room d. paid_plain c.boot ls DrainCall _ None (Some (tdrain_on 1)) [] refl refl refl refl (λ m. refl) tt)
      (λ now going d. paid_plain c.boot ls (LoseCall now) _ None None [] refl refl refl refl (λ m. refl) tt)
      (λ n over e d. paid_plain c.boot ls LoseNextCall _ None None (recall_to n (reason_of n (entries past)) (noted_place n past)) refl refl refl refl
      (λ m. recalls_weigh (reply_held m) (λ k s t w. refl) (recall_to n (reason_of n (entries past)) (noted_place n past)) (recall_borne IsRecall n (reason_of n (entries past)) (noted_place n past) (λ s t. tt)))
      (recall_borne _ n (reason_of n (entries past)) (noted_place n past) (λ s t. tt)))
      (λ going quiet out none full few d. paid_plain c.boot ls SealCall _ None None [] refl refl refl refl (λ m. refl) tt)
      (λ going fits few d. paid_plain c.boot ls RollCall _ None None [] refl refl refl refl (λ m. refl) tt)

module _ (ls : List Line) (b : ℕ) (s : UpSession) (past : List Step) where
  abbrev U : Call → Exchange → List Held → Type 0
  U call e gives = CallDue b ls call → IsPaid b ls call e gives

  settled_paid : (f : MuxFrame) (now : ℕ) (o : Option Name) (again : Option MuxFrame) → OnRecorded (ups.reacted s past f now (ups.Settles o again)) (U (FrameCall f now))
  settled_paid f now o again d = record {
    offered = λ n h. absurd (omega (arith, h, ap one_if (ap (λ x. x && is_named n o) (settled_kinds is_offered f refl refl))));
    replied = λ n. omega (arith, given n o, ap (λ x. one_if (x && is_named n o)) (settled_kinds is_retried f refl refl), ap (λ x. one_if (x && is_named n o)) (settled_kinds is_passed f refl refl), counts n (is_nack f));
    failed = λ n h. absurd (omega (arith, h, ap one_if (ap (λ x. x && is_named n o) (settled_kinds is_failed f refl refl))));
    given = none (entry_of (records past) now (ups.settled_kind f) f.tag o (Some f) None) o;
  }
    where
      given : (n : Name) (o : Option Name) → weigh (reply_held n) (settled_by f o again) ≡ one_if (is_named n o)
      given n None = refl
      given n (Some m) = omega arith

      counts : (n : Name) (b : Bool) → one_if (is_replied (if b then SettledNack else Settled f.kind) && is_named n o) ≡ one_if (is_named n o)
      counts n true = refl
      counts n false = refl

      none : (e : Exchange) (o : Option Name) → AllHeld (IsGiven b e) (settled_by f o again)
      none e None = tt
      none e (Some m) = (tt, tt)

  met_paid : (f : MuxFrame) (now : ℕ) (r : ups.Reaction) → OnRecorded (ups.reacted s past f now r) (U (FrameCall f now))
  met_paid f now ups.Shut = tt
  met_paid f now ups.Full = tt
  met_paid f now ups.Short = tt
  met_paid f now (ups.Closes cause) = λ d. paid_plain b ls (FrameCall f now) _ None None [] refl refl refl refl (λ n. refl) tt
  met_paid f now (ups.Settles o again) = settled_paid f now o again
  met_paid f now ups.Pongs = λ d. paid_plain b ls (FrameCall f now) _ (Some f) (Some (rping_on f.tag)) [] refl refl refl refl (λ n. refl) tt
  met_paid f now ups.Drains = λ d. paid_plain b ls (FrameCall f now) _ (Some f) (Some (rdrain_on f.tag)) [] refl refl refl refl (λ n. refl) tt
  met_paid f now (ups.Leases ms) = λ d. paid_plain b ls (FrameCall f now) _ (Some f) None [] refl refl refl refl (λ n. refl) tt
  met_paid f now ups.Ignores = λ d. paid_plain b ls (FrameCall f now) _ (Some f) None [] refl refl refl refl (λ n. refl) tt
  met_paid f now ups.Unsupports = λ d. paid_plain b ls (FrameCall f now) _ (Some f) (Some (rerr_on f.tag (codes "unsupported"))) [] refl refl refl refl (λ n. refl) tt
  met_paid f now ups.AsksInit = λ d. paid_plain b ls (FrameCall f now) _ (Some f) (Some (tinit_on 1)) [] refl refl refl refl (λ n. refl) tt
  met_paid f now ups.EndsInit = λ d. paid_plain b ls (FrameCall f now) _ (Some f) None [] refl refl refl refl (λ n. refl) tt
  met_paid f now ups.EndsPing = λ d. paid_plain b ls (FrameCall f now) _ (Some f) None [] refl refl refl refl (λ n. refl) tt
  met_paid f now ups.Drops = λ d. paid_plain b ls (FrameCall f now) _ (Some f) None [] refl refl refl refl (λ n. refl) tt

  lost_weighs : (n : Name) (o : Option Name) → weigh (reply_held n) (lost_of o) ≡ 0
  lost_weighs n None = refl
  lost_weighs n (Some m) = omega arith

  lost_given : (t at : ℕ) (o : Option Name) → AllHeld (IsGiven b (record { rec = Some (record { kind = LostOne; tag = t; name = o; reading = at }); taken = None; sent = None })) (lost_of o)
  lost_given t at None = tt
  lost_given t at (Some n) = (counts_itself n, tt)

  up_paid : (out t : ℕ) (call : Call) → MayChoose s past t call → CallBorne ls call → OnRecorded (up s past out t call) (U call)
  up_paid =
      up_shapes ls s past U (λ f now going r led stray. met_paid f now r)
      (λ t n f left now may borne going ready undrained unretired unlapsed window room d. record {
        offered = λ m h. sym (ap (λ (x : Name). x.boot) (same_name_in true n m h)) ∙ d;
        replied = λ m. omega arith;
        failed = λ m h. absurd (omega (arith, h));
        given = (tt, tt);
      })
      (λ n tag why now going here d. paid_plain b ls (RecallCall n tag why now) _ None (Some (tdiscarded_for tag why)) [] refl refl refl refl (λ m. refl) tt)
      (λ now going room d. paid_plain b ls (ClockCall now) _ None None [] refl refl refl refl (λ m. refl) tt)
      (λ now going room d. paid_plain b ls (RetireCall now) _ None None [] refl refl refl refl (λ m. refl) tt)
      (λ now going ready none room d. paid_plain b ls (PingCall now) _ None (Some (tping_on 1)) [] refl refl refl refl (λ m. refl) tt)
      (λ now going d. paid_plain b ls (LoseCall now) _ None None [] refl refl refl refl (λ m. refl) tt)
      (λ e over is d. paid_plain b ls LoseNextCall _ None None (lost_of e.name) refl refl refl refl (λ m. lost_weighs m e.name) (lost_given e.tag (max (reading (records past)) 0) e.name))
      (λ going quiet out none full few d. paid_plain b ls SealCall _ None None [] refl refl refl refl (λ m. refl) tt)
      (λ going fits few d. paid_plain b ls RollCall _ None None [] refl refl refl refl (λ m. refl) tt)

paid_at : (ls : List Line) (limits : Bounds) (c : Connection) (id : SessionId) (t : ℕ) (call : Call) → MayChooseAt limits c id t call → CallBorne ls call →
    OnRecorded (outcome_at limits c id t call) (λ e gives. CallDue c.boot ls call → IsPaid c.boot ls call e gives)
paid_at ls limits c (Client k) t call may b = down_paid ls (record { limits = limits; boot = c.boot; number = k }) c.steps c.out call b
paid_at ls limits c (Server k) t call may b = up_paid ls c.boot (record { limits = limits; number = k; mode = c.mode }) c.steps c.out t call may b

-- a call that uses up a value has what was due
none_due : (b : ℕ) (ls : List Line) (call : Call) → NeedsNone call → CallDue b ls call
none_due b ls (OfferCall n f left now) h = absurd h
none_due b ls (SettleCall n r again) h = tt
none_due b ls (FailCall n) h = absurd h
none_due b ls (FrameCall f now) h = tt
none_due b ls DrainCall h = tt
none_due b ls (ClockCall now) h = tt
none_due b ls (PingCall now) h = tt
none_due b ls (RetireCall now) h = tt
none_due b ls (LoseCall now) h = tt
none_due b ls LoseNextCall h = tt
none_due b ls (NoteCall n s t) h = tt
none_due b ls (NackCall n) h = tt
none_due b ls (UnrouteCall n) h = tt
none_due b ls (RecallCall n t why now) h = tt
none_due b ls SealCall h = tt
none_due b ls RollCall h = tt
none_due b ls ProbeCall h = tt

spent_due : (b : ℕ) (ls : List Line) (h : Held) (id : SessionId) (call : Call) → IsSpentBy h id call → IsDue b ls h → CallDue b ls call
spent_due b ls h id (OfferCall n f left now) s d = subst (IsDue b ls) s d
spent_due b ls h id (SettleCall n r again) s d = tt
spent_due b ls h id (FailCall n) s d = subst (IsDue b ls) s.0 d
spent_due b ls h id (FrameCall f now) s d = tt
spent_due b ls h id DrainCall s d = tt
spent_due b ls h id (ClockCall now) s d = tt
spent_due b ls h id (PingCall now) s d = tt
spent_due b ls h id (RetireCall now) s d = tt
spent_due b ls h id (LoseCall now) s d = tt
spent_due b ls h id LoseNextCall s d = tt
spent_due b ls h id (NoteCall n s' t) s d = tt
spent_due b ls h id (NackCall n) s d = tt
spent_due b ls h id (UnrouteCall n) s d = tt
spent_due b ls h id (RecallCall n t why now) s d = tt
spent_due b ls h id SealCall s d = tt
spent_due b ls h id RollCall s d = tt
spent_due b ls h id ProbeCall s d = tt

left_due : (b : ℕ) (ls : List Line) {hands : List Hand} {id : SessionId} {call : Call} {rest : List Hand} → Leaves hands id call rest → AllHands (IsDue b ls) hands → CallDue b ls call
left_due b ls {call = call} (all_left none) p = none_due b ls call none
left_due b ls {id = id} {call = call} (all_but x h y is s) p = spent_due b ls h.held id call s (hands_mid (IsDue b ls) x h y (subst (AllHands (IsDue b ls)) is p)).0

no_reply : (call : Call) (n : Name) → NeedsNone call → reply_used call n ≡ 0
no_reply (FrameCall f now) n h = refl
no_reply DrainCall n h = refl
no_reply (ClockCall now) n h = refl
no_reply (PingCall now) n h = refl
no_reply (RetireCall now) n h = refl
no_reply (LoseCall now) n h = refl
no_reply LoseNextCall n h = refl
no_reply SealCall n h = refl
no_reply RollCall n h = refl
no_reply _ n h = absurd h

spent_reply : (h : Held) (id : SessionId) (call : Call) (n : Name) → IsSpentBy h id call → reply_used call n ≤ reply_held n h
spent_reply h id (SettleCall m r again) n s = omega (arith, ap (reply_held n) s.0)
spent_reply h id (NackCall m) n s = omega arith
spent_reply h id (UnrouteCall m) n s = omega arith
spent_reply h id (OfferCall m f left now) n s = omega arith
spent_reply h id (FrameCall f now) n s = omega arith
spent_reply h id DrainCall n s = omega arith
spent_reply h id (ClockCall now) n s = omega arith
spent_reply h id (PingCall now) n s = omega arith
spent_reply h id (RetireCall now) n s = omega arith
spent_reply h id (LoseCall now) n s = omega arith
spent_reply h id LoseNextCall n s = omega arith
spent_reply h id SealCall n s = omega arith
spent_reply h id RollCall n s = omega arith
spent_reply h id (NoteCall m s' t) n s = omega arith
spent_reply h id (FailCall m) n s = omega arith
spent_reply h id (RecallCall m t why now) n s = omega arith
spent_reply h id ProbeCall n s = omega arith

left_replies : {hands : List Hand} {id : SessionId} {call : Call} {rest : List Hand} → Leaves hands id call rest → (n : Name) → weigh_hands (reply_held n) rest + reply_used call n ≤ weigh_hands (reply_held n) hands
left_replies leaves n = left_weigh (reply_held n) (λ c. reply_used c n) (λ c h. no_reply c n h) (λ h id c s. spent_reply h id c n s) leaves

-- THE SECOND INVARIANT, over the lists of all boots and the bag
pub record IsOwed (b : ℕ) (ls : List Line) (hands : List Hand) : Type 0 where
  due : AllHands (IsDue b ls) hands
  -- a name is offered in its own boot alone
  pub offered : EachLine (λ l. (n : Name) → 1 ≤ tally is_offered n (entries l.steps) → n.boot ≡ l.boot) ls
  -- each reply to a name is in hand, let it be sent again, was passed on, or came late
  pub replied : (n : Name) → weigh_hands (reply_held n) hands + total is_retried n ls + total is_passed n ls ≤ total is_replied n ls
  -- what failed was lost
  pub failed : (n : Name) → 1 ≤ total is_failed n ls → 1 ≤ total is_lost_one n ls

abbrev More : List Line → List Line → Type 0
More ls ms = (p : RecordKind → Bool) (n : Name) → total p n ls ≤ total p n ms

due_more : (b : ℕ) (ls ms : List Line) → More ls ms → (h : Held) → IsDue b ls h → IsDue b ms h
due_more b ls ms more (TicketOf n f left) d = d
due_more b ls ms more (SettledBy n r again) d = tt
due_more b ls ms more (LostOf n) d = omega (arith, d, more is_lost_one n)
due_more b ls ms more (PlacedAt n s t) d = tt
due_more b ls ms more (RecallOf n s t why) d = tt

hands_more : (b : ℕ) (ls ms : List Line) → More ls ms → (hs : List Hand) → AllHands (IsDue b ls) hs → AllHands (IsDue b ms) hs
hands_more b ls ms more [] d = tt
hands_more b ls ms more (h ∷ hs) d = (due_more b ls ms more h.held d.0, hands_more b ls ms more hs d.1)

either : (x y : ℕ) → 1 ≤ x + y → (1 ≤ x) ⊎ (1 ≤ y)
either zero y h = inr (omega (arith, h))
either (suc x) y h = inl (omega arith)

-- one more entry
module _ (b : ℕ) (a : List Line) (l : Line) (z : List Line) (call : Call) (e : Exchange) where
  abbrev before : List Line
  before = a ++ l ∷ z

  abbrev now : List Line
  now = a ++ longer l call e ∷ z

  more_now : More before now
  more_now p n = omega (arith, total_step p n a l call e z)

  given_due : (h : Held) → IsGiven b e h → IsDue b now h
  given_due (TicketOf n f left) g = g
  given_due (SettledBy n r again) g = tt
  given_due (LostOf n) g = omega (arith, g, total_step is_lost_one n a l call e z)
  given_due (PlacedAt n s t) g = tt
  given_due (RecallOf n s t why) g = tt

  all_due : (k : ℕ) (hs : List Held) → AllHeld (IsGiven b e) hs → AllHands (IsDue b now) (numbered k hs)
  all_due k [] g = tt
  all_due k (h ∷ hs) g = (given_due h g.0, all_due (k + 1) hs g.1)

  owed_step : (hands rest : List Hand) (gives : List Held) (k : ℕ) → l.boot ≡ b → IsOwed b before hands → IsPaid b before call e gives → AllHands (IsDue b before) rest →
      ((n : Name) → weigh_hands (reply_held n) rest + reply_used call n ≤ weigh_hands (reply_held n) hands) → IsOwed b now (rest ++ numbered k gives)
  owed_step hands rest gives k present o paid left uses = record {
    due = AllHands-append (IsDue b now) rest (numbered k gives) (hands_more b before now more_now rest left) (all_due k gives paid.given);
    offered = each_step (λ x. (n : Name) → 1 ≤ tally is_offered n (entries x.steps) → n.boot ≡ x.boot) a l (longer l call e) z
        (λ n h. elim (either (in_record is_offered n e.rec) (tally is_offered n (entries l.steps)) h) [
          | inl x ↦ paid.offered n x ∙ sym present
          | inr x ↦ each_mid (λ x. (n : Name) → 1 ≤ tally is_offered n (entries x.steps) → n.boot ≡ x.boot) a l z o.offered n x
        ]) o.offered;
    replied = λ n. omega (
      arith,
      o.replied n,
      paid.replied n,
      uses n,
      weigh-append (reply_held n) rest (numbered k gives),
      weigh-numbered (reply_held n) k gives,
      total_step is_retried n a l call e z,
      total_step is_passed n a l call e z,
      total_step is_replied n a l call e z,
    );
    failed = λ n h. elim (either (in_record is_failed n e.rec) (total is_failed n before) (omega (arith, h, total_step is_failed n a l call e z))) [
      | inl x ↦ omega (arith, paid.failed n x, more_now is_lost_one n)
      | inr x ↦ omega (arith, o.failed n x, more_now is_lost_one n)
    ];
  }

abbrev Owed : World → Type 0
Owed w = IsOwed w.boot (lines w.connections) w.hands

moved_owed : (w : World) (m : Move w) → Keeps w → Owed w → Owed (moved w m)
moved_owed w m v o =
    let a = lines m.before in
    let l = line_of m.connection in
    let z = lines m.after in
    let split : lines w.connections ≡ a ++ l ∷ z = ap lines m.is ∙ lines-append m.before (m.connection ∷ m.after) in
    let v' : Inv w.boot w.clients w.servers (a ++ l ∷ z) w.hands = subst (λ ls. Inv w.boot w.clients w.servers ls w.hands) split v in
    let o' : IsOwed w.boot (a ++ l ∷ z) w.hands = subst (λ ls. IsOwed w.boot ls w.hands) split o in
    let paid = subst (λ x. OnRecorded x (λ e gives. CallDue m.connection.boot (a ++ l ∷ z) m.call → IsPaid m.connection.boot (a ++ l ∷ z) m.call e gives)) m.does
    (paid_at (a ++ l ∷ z) w.limits m.connection m.connection.session m.tag m.call m.may (left_borne (a ++ l ∷ z) m.leaves v'.borne)) in
    let here = subst (λ x. CallDue x (a ++ l ∷ z) m.call → IsPaid x (a ++ l ∷ z) m.call m.entry m.gives) m.present paid in
    subst (λ ls. IsOwed w.boot ls (m.rest ++ numbered w.next_hand m.gives)) (sym (lines-append m.before (stepped m.connection m.call m.entry ∷ m.after)))
    (owed_step w.boot a l z m.call m.entry w.hands m.rest m.gives w.next_hand m.present o' (here (left_due w.boot (a ++ l ∷ z) m.leaves o'.due)) (left_hands m.leaves (IsDue w.boot (a ++ l ∷ z)) o'.due) (left_replies m.leaves))

-- one more connection, whose list has no record
push_owed : (w : World) (l : Line) → ((p : RecordKind → Bool) (n : Name) → tally p n (entries l.steps) ≡ 0) → Owed w → IsOwed w.boot (lines w.connections ++ l ∷ []) w.hands
push_owed w l none o =
    let ls = lines w.connections in
    let same = λ (p : RecordKind → Bool) (n : Name). (let x : total p n (ls ++ l ∷ []) ≡ total p n ls = omega (arith, total-append p n ls (l ∷ []), none p n) in x) in
    record {
      due = hands_more w.boot ls (ls ++ l ∷ []) (λ p n. omega (arith, same p n)) w.hands o.due;
      offered = each_push (λ x. (n : Name) → 1 ≤ tally is_offered n (entries x.steps) → n.boot ≡ x.boot) ls l (λ n h. absurd (omega (arith, h, none is_offered n))) o.offered;
      replied = λ n. omega (arith, o.replied n, same is_retried n, same is_passed n, same is_replied n);
      failed = λ n h. omega (arith, o.failed n (omega (arith, h, same is_failed n)), same is_lost_one n);
    }

client_owed : (w : World) → Owed w → Owed (with_client w)
client_owed w o =
    subst (λ ls. IsOwed w.boot ls w.hands) (sym (lines-append w.connections (opened w (Client (w.clients + 1)) Plain ∷ [])))
    (push_owed w (line_of (opened w (Client (w.clients + 1)) Plain)) (λ p n. refl) o)

server_owed : (w : World) (mode : InitMode) → Owed w → Owed (with_server mode w)
server_owed w mode o =
    subst (λ ls. IsOwed w.boot ls w.hands) (sym (lines-append w.connections (opened w (Server (w.servers + 1)) mode ∷ [])))
    (push_owed w (line_of (opened w (Server (w.servers + 1)) mode)) (λ p n. none_in p n mode) o)
  where
    none_in : (p : RecordKind → Bool) (n : Name) (i : InitMode) → tally p n (entries (first_step i)) ≡ 0
    none_in p n Probe = refl
    none_in p n Plain = refl

out_owed : (w : World) (m : TakeOut w) → Owed w → Owed (taken_out w m)
out_owed w m o =
    let same : lines w.connections ≡ lines (m.before ++ record m.connection { out = m.connection.out + 1 } ∷ m.after)
    = ap lines m.is ∙ (lines-append m.before (m.connection ∷ m.after) ∙ sym (lines-append m.before (record m.connection { out = m.connection.out + 1 } ∷ m.after))) in
    subst (λ ls. IsOwed w.boot ls w.hands) same o

pub reached_owed : {w : World} → Reached w → IsOwed w.boot (lines w.connections) w.hands
reached_owed (starts limits boot) = record { due = tt; offered = tt; replied = λ n. omega arith; failed = λ n h. absurd (omega (arith, h)) }
reached_owed (opens_client {w = w} r) = client_owed w (reached_owed r)
reached_owed (opens_server {w = w} mode r) = server_owed w mode (reached_owed r)
reached_owed (moves {w = w} m r) = moved_owed w m (reached_keeps r) (reached_owed r)
reached_owed (passes {w = w} q r) =
    (let o = reached_owed r in
    record { due = left_hands q.leaves (IsDue w.boot (lines w.connections)) o.due; offered = o.offered; replied = λ n. omega (arith, o.replied n, left_replies q.leaves n); failed = o.failed })
reached_owed (takes_out {w = w} m r) = out_owed w m (reached_owed r)
reached_owed (restarts {w = w} r) = (let o = reached_owed r in record { due = tt; offered = o.offered; replied = λ n. omega (arith, o.replied n); failed = o.failed })
