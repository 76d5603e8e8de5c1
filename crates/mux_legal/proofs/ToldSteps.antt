-- The records of a list tell the messages of their steps.
use Rattle.std.proofs.Common.{ℕ, List, [], ◌∷◌, ◌≡◌, Bool, true, false, Option, Some, None, refl, sym, ◌∙◌, ap, subst, max}
use Rattle.std.specs.Prelude.{if◌then◌else◌, is_some}
use Rattle.mux_frame.specs.Spelling.{MuxFrame}
use Rattle.mux_message.specs.Kinds.{kind_of, is_dispatch, is_final}
use Rattle.mux_history.specs.declared.name.Name.{Name}
use Rattle.mux_history.specs.declared.record.Record.{Record}
use Rattle.mux_history.specs.declared.kind.RecordKind.{RecordKind}
use Rattle.mux_history.specs.declared.kind.RecordKind.TheVariants.{Settled, SettledNack}
use Rattle.mux_history.specs.declared.session.SessionId.{SessionId}
use Rattle.mux_history.specs.declared.session.SessionId.TheVariants.{Client, Server}
use Rattle.mux_history.specs.declared.session.InitMode.{InitMode}
use Rattle.mux_history.specs.declared.session.InitMode.TheVariants.{Probe, Plain}
use Rattle.mux_history.specs.Readings.{reading, tag_of}
use Rattle.mux_model.specs.Entries.{Exchange}
use Rattle.mux_model.specs.Tags.{Holder, holder, name_held}
use Rattle.mux_model.specs.Steps.{Held, Call, FrameCall, Step, entries, records, with_record, now_of, Outcome, entry_of, is_nack}
use Rattle.mux_model.specs.Down.{DownSession, down}
use Rattle.mux_model.specs.Down as downs
use Rattle.mux_model.specs.Up.{UpSession, up, MayChoose}
use Rattle.mux_model.specs.Up as ups
use Rattle.mux_model.specs.Legal.{Line, EachStep, reading_at}
use Rattle.mux_model.specs.World.{first_step}
use Rattle.mux_legal.specs.Tellings.{IsStray, Tells, TellsDown, IsTold, IsToldBy}
use Rattle.mux_legal.proofs.Basics.{OnRecorded}
use Rattle.mux_legal.proofs.LinkDown.{settled_final}
use Rattle.mux_message.proofs.NormalKinds.{kind_normal}
use Rattle.mux_legal.proofs.LinkUp.{taken_dispatch}
use Rattle.mux_legal.proofs.UpShapes.{up_shapes, LedTo, StrayOf}
use Rattle.mux_legal.proofs.DownShapes.{down_shapes, Answers, passes, fails, nacks, unroutes, CallBorne, FactsOf}

not_both : (b : Bool) → b ≡ false → b ≡ true → ⊥
not_both true e h = absurd (cc)
not_both false e h = absurd (cc)

-- the record of one more entry has the session's reading, and tells its messages
abbrev pub NowTold : SessionId → List Step → Call → Option Record → (taken sent : Option MuxFrame) → Type 0
NowTold id past call None taken sent = ⊥
NowTold id past call (Some r) taken sent = (r.reading ≡ max (reading (records past)) (now_of call)) × Tells id (entries past) r taken sent

module _ (c : DownSession) (past : List Step) where
  abbrev Q : Call → Outcome → Type 0
  Q call o = OnRecorded o (λ e gives. NowTold (Client c.number) past call e.rec e.taken e.sent)

  discarded_told : (f : MuxFrame) (now t : ℕ) (why : List ℕ) → FactsOf c past f (downs.Discards t why) → (o : Option Name) → Q (FrameCall f now) (downs.discarded past now f t why o)
  discarded_told f now t why h None = (refl, ((why, h.2), refl))
  discarded_told f now t why h (Some n) = (refl, ((why, h.2), refl))

  reacted_told : (f : MuxFrame) (now : ℕ) (r : downs.Reaction) → FactsOf c past f r → Q (FrameCall f now) (downs.reacted c past f now r)
  reacted_told f now downs.Shut h = tt
  reacted_told f now downs.Full h = tt
  reacted_told f now downs.Short h = tt
  reacted_told f now (downs.Closes cause) h = (refl, (refl, refl))
  reacted_told f now downs.NacksDrained h = (refl, ((h.0, refl), refl))
  reacted_told f now downs.Takes h = (refl, ((h.0, refl), refl))
  reacted_told f now downs.Pongs h = (refl, (not_both (is_dispatch (kind_of f.kind)) h, λ e. absurd (cc)))
  reacted_told f now downs.Inits h = (refl, (not_both (is_dispatch (kind_of f.kind)) h, λ e. absurd (cc)))
  reacted_told f now downs.Acks h = (refl, (not_both (is_dispatch (kind_of f.kind)) h, tt))
  reacted_told f now downs.Ignores h = (refl, (not_both (is_dispatch (kind_of f.kind)) h, tt))
  reacted_told f now downs.Misplaced h = (refl, ((h.0, refl), refl))
  reacted_told f now downs.Unsupports h = (refl, ((h.0, refl), refl))
  reacted_told f now downs.Echoes h = (refl, ((h.1, refl), refl))
  reacted_told f now (downs.Discards t why) h = discarded_told f now t why h (name_held (holder (Client c.number) t (entries past)))

  answered_told : (ls : List Line) (call : Call) (n : Name) (kind : RecordKind) (whole : Bool) (reply : ℕ → MuxFrame) → Answers ls n call kind whole reply → (t : ℕ) →
      TellsDown (record { kind = kind; tag = t; name = Some n; reading = max (reading (records past)) 0 }) kind None (Some (reply t))
  answered_told ls call n kind whole reply (passes r again b) t = (refl, (ap is_final (kind_normal r.kind) ∙ settled_final n r ls b, refl))
  answered_told ls call n kind whole reply (fails b) t = (refl, refl)
  answered_told ls call n kind whole reply nacks t = (refl, refl)
  answered_told ls call n kind whole reply unroutes t = (refl, refl)

  pub down_told : (ls : List Line) (out : ℕ) (call : Call) → CallBorne ls call → Q call (down c past out call)
  down_told ls =
      down_shapes ls c past (λ call e gives. NowTold (Client c.number) past call e.rec e.taken e.sent) (λ out f now going r is led facts. reacted_told f now r facts)
      (λ n server tag mine due. (refl, (refl, refl)))
      (λ call n kind whole reply a zero mine due note held. (ap (max (reading (records past))) (sym zero.0), answered_told ls call n kind whole reply a (tag_of n (records past))))
      (λ call n kind whole reply a zero mine due note held. (ap (max (reading (records past))) (sym zero.0), (refl, refl)))
      (λ n reply f b copy mine due nack held note left. (refl, (refl, refl)))
      (λ going new room. (refl, (tt, λ e. absurd (cc)))) (λ now going. (refl, (refl, refl))) (λ n over e. (refl, (refl, refl)))
      (λ going empty out quiet room few. (refl, (refl, refl))) (λ going fits few. (refl, (refl, refl)))

module _ (s : UpSession) (past : List Step) where
  abbrev U : Call → Exchange → List Held → Type 0
  U call e gives = NowTold (Server s.number) past call e.rec e.taken e.sent

  abbrev H : ℕ → Option Holder
  H t = holder (Server s.number) t (entries past)

  strays : (f : MuxFrame) → (is_final (kind_of f.kind) ≡ true → H f.tag ≡ None) → IsStray (Server s.number) (entries past) (Some f)
  strays f h = λ final. ap (λ (o : Option Holder). is_some o) (h final)

  settled : (f : MuxFrame) (now : ℕ) (n : Option Name) → is_final (kind_of f.kind) ≡ true → U (FrameCall f now) (entry_of (records past) now (ups.settled_kind f) f.tag n (Some f) None) []
  settled f now n final = by_nack (is_nack f) refl
    where
      by_nack : (b : Bool) → is_nack f ≡ b → U (FrameCall f now) (entry_of (records past) now (if b then SettledNack else Settled f.kind) f.tag n (Some f) None) []
      by_nack true is = (refl, ((final, refl, is), refl))
      by_nack false is = (refl, ((final, refl, is), refl))

  framed : (f : MuxFrame) (now : ℕ) (r : ups.Reaction) → LedTo s past f r → StrayOf s past f r → OnRecorded (ups.reacted s past f now r) (U (FrameCall f now))
  framed f now ups.Shut led h = tt
  framed f now ups.Full led h = tt
  framed f now ups.Short led h = tt
  framed f now (ups.Closes cause) led h = (refl, (refl, refl))
  framed f now (ups.Settles n again) led h = settled f now n led.1
  framed f now ups.Pongs led h = (refl, (strays f h, led.0, (λ e. absurd (cc)), refl))
  framed f now ups.Drains led h = (refl, (strays f h, led.0, refl))
  framed f now (ups.Leases ms) led h = (refl, (led.0, refl))
  framed f now ups.Ignores led h = (refl, (strays f h, led.0, tt, refl))
  framed f now ups.Unsupports led h = (refl, (strays f h, led.0, (λ e. absurd (cc)), refl))
  framed f now ups.AsksInit led h = (refl, (strays f h, led.0, (λ e. absurd (cc)), refl))
  framed f now ups.EndsInit led h = (refl, (strays f h, led.0, tt, refl))
  framed f now ups.EndsPing led h = (refl, (strays f h, led.0, tt, refl))
  framed f now ups.Drops led h = (refl, (strays f h, led.0, tt, refl))

  pub up_told : (ls : List Line) (out t : ℕ) (call : Call) → MayChoose s past t call → CallBorne ls call → OnRecorded (up s past out t call) (U call)
  up_told ls =
      up_shapes ls s past U (λ f now going r led stray. framed f now r led stray)
      (λ t n f left now may b going ready undrained unretired unlapsed window room. (refl, (refl, (taken_dispatch n f ls b, refl))))
      (λ n tag why now going here. (refl, (tt, refl, (λ e. absurd (cc)), refl)))
      (λ now going room. (refl, (refl, refl))) (λ now going room. (refl, (refl, refl)))
      (λ now going ready none room. (refl, (tt, refl, (λ e. absurd (cc)), refl))) (λ now going. (refl, (refl, refl)))
      (λ e over is. (refl, (refl, refl))) (λ going empty out quiet room few. (refl, (refl, refl))) (λ going fits few. (refl, (refl, refl)))

-- what a list keeps
pub record AreTold (id : SessionId) (steps : List Step) : Type 0 where
  pub read : reading (records steps) ≡ reading_at steps
  pub told : EachStep (IsTold id) steps

pub told_step : (id : SessionId) (past : List Step) (call : Call) (e : Exchange) → AreTold id past → NowTold id past call e.rec e.taken e.sent → AreTold id (record { call = call; entry = e } ∷ past)
told_step id past call e old new = by_record e.rec refl new
  where
    by_record : (o : Option Record) → e.rec ≡ o → NowTold id past call o e.taken e.sent → AreTold id (record { call = call; entry = e } ∷ past)
    by_record None is h = absurd h
    by_record (Some r) is h =
        let read : r.reading ≡ max (reading_at past) (now_of call) = h.0 ∙ ap (λ x. max x (now_of call)) old.read in
        record {
          read = ap (λ o. reading (with_record o (records past))) is ∙ read;
          told = (subst (IsToldBy id (record { call = call; entry = e }) past) (sym is) (read, h.1), old.told);
        }

pub first_told : (k : ℕ) (mode : InitMode) → AreTold (Server k) (first_step mode)
first_told k Probe = record { read = refl; told = ((refl, refl, (λ e. absurd (cc)), refl), tt) }
first_told k Plain = record { read = refl; told = tt }
