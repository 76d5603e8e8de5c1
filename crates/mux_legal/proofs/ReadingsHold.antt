-- The records of a list tell its readings, and a list ends at its cut: so every run is legal.
use Rattle.std.proofs.Common.{subst, ℕ, List, [], ◌∷◌, ◌≡◌, Bool, true, false, Option, Some, None, refl, sym, ◌∙◌, ap, max}
use Rattle.std.specs.Prelude.{if◌then◌else◌}
use Rattle.mux_frame.specs.Spelling.{MuxFrame}
use Rattle.mux_history.specs.Bounds.{Bounds}
use Rattle.mux_history.specs.Lapse.{leased, has_lapsed}
use Rattle.mux_history.specs.declared.name.Name.{Name}
use Rattle.mux_history.specs.declared.record.Record.{Record}
use Rattle.mux_history.specs.declared.session.SessionId.{SessionId}
use Rattle.mux_history.specs.declared.session.SessionId.TheVariants.{Client, Server}
use Rattle.mux_history.specs.declared.session.InitMode.{InitMode}
use Rattle.mux_history.specs.declared.session.InitMode.TheVariants.{Probe, Plain}
use Rattle.mux_history.specs.Readings.{has_ended, reading, is_named, tag_of}
use Rattle.mux_model.specs.Entries.{Exchange}
use Rattle.mux_model.specs.Steps.{Held, Call, FrameCall, Step, entries, records, now_of, with_record}
use Rattle.mux_model.specs.Tags.{holder, name_held}
use Rattle.mux_model.specs.World.{Connection, World, Reached, starts, start, first_step, outcome_at, MayChooseAt}
use Rattle.mux_model.specs.Up.{UpSession, reading_in, lease_taken, lease_end, is_lapsed, up, MayChoose}
use Rattle.mux_model.specs.Up as ups
use Rattle.mux_model.specs.Down.{DownSession, is_held, down}
use Rattle.mux_model.specs.Down as downs
use Rattle.mux_model.specs.Legal.{Line, Each, EachLine, EachStep, OnDispatch, HasEnded, IsUnlapsed, IsCut, IsLegal, reading_at, lapse_at}
use Rattle.mux_model.specs.Runs.{lines, EachConnection, EveryRunIsLegal}
use Rattle.mux_legal.proofs.Basics.{OnRecorded, on_recorded}
use Rattle.mux_legal.proofs.Invariant.{Inv-legal, OwnSteps, ends_told}
use Rattle.mux_legal.proofs.DownShapes.{down_shapes, CallBorne}
use Rattle.mux_legal.proofs.UpShapes.{up_shapes}
use Rattle.mux_legal.proofs.Worlds.{reached_keeps}
use Rattle.mux_model.proofs.Happens.{run_reached, limits_kept}
use Rattle.mux_model.specs.Events.{run}
use Rattle.mux_legal.proofs.Tries.{never_often}
use Rattle.mux_legal.proofs.Everywhere.{everywhere}

-- what one step reads
abbrev pub Unlapsed : SessionId → List Step → Call → Exchange → Type 0
Unlapsed (Server k) past call e = OnDispatch e.sent (λ f. is_lapsed (entries past) (max (reading (records past)) (now_of call)) ≡ false)
Unlapsed (Client k) past call e = Unit {0}

record ReadsIn (id : SessionId) (past : List Step) (call : Call) (e : Exchange) : Type 0 where
  now : reading (with_record e.rec (records past)) ≡ max (reading (records past)) (now_of call)
  here : reading_in e.rec ≡ max (reading (records past)) (now_of call)
  fair : Unlapsed id past call e
  cut : has_ended (records past) ≡ true → (e.taken ≡ None) × (e.sent ≡ None)

-- a step on a session that goes on
going_reads : (id : SessionId) (past : List Step) (call : Call) (r : Record) (taken sent : Option MuxFrame) → r.reading ≡ max (reading (records past)) (now_of call) → has_ended (records past) ≡ false →
    Unlapsed id past call (record { rec = Some r; taken = taken; sent = sent }) → ReadsIn id past call (record { rec = Some r; taken = taken; sent = sent })
going_reads id past call r taken sent is going fair = record { now = is; here = is; fair = fair; cut = λ e. absurd (let x : false ≡ true = sym going ∙ e in cc) }

-- a step that takes and sends nothing
still_reads : (id : SessionId) (past : List Step) (call : Call) (r : Record) → r.reading ≡ max (reading (records past)) (now_of call) →
    Unlapsed id past call (record { rec = Some r; taken = None; sent = None }) → ReadsIn id past call (record { rec = Some r; taken = None; sent = None })
still_reads id past call r is fair = record { now = is; here = is; fair = fair; cut = λ e. (refl, refl) }

module _ (s : UpSession) (past : List Step) where
  abbrev Up : Call → Exchange → List Held → Type 0
  Up call e gives = ReadsIn (Server s.number) past call e

  framed : (f : MuxFrame) (now : ℕ) → has_ended (records past) ≡ false → (r : ups.Reaction) → OnRecorded (ups.reacted s past f now r) (Up (FrameCall f now))
  framed f now going ups.Shut = tt
  framed f now going ups.Full = tt
  framed f now going ups.Short = tt
  framed f now going (ups.Closes cause) = going_reads (Server s.number) past (FrameCall f now) _ None None refl going tt
  framed f now going (ups.Settles n again) = going_reads (Server s.number) past (FrameCall f now) _ (Some f) None refl going tt
  framed f now going ups.Pongs = going_reads (Server s.number) past (FrameCall f now) _ (Some f) _ refl going (λ d. absurd (cc))
  framed f now going ups.Drains = going_reads (Server s.number) past (FrameCall f now) _ (Some f) _ refl going (λ d. absurd (cc))
  framed f now going (ups.Leases ms) = going_reads (Server s.number) past (FrameCall f now) _ (Some f) None refl going tt
  framed f now going ups.Ignores = going_reads (Server s.number) past (FrameCall f now) _ (Some f) None refl going tt
  framed f now going ups.Unsupports = going_reads (Server s.number) past (FrameCall f now) _ (Some f) _ refl going (λ d. absurd (cc))
  framed f now going ups.AsksInit = going_reads (Server s.number) past (FrameCall f now) _ (Some f) _ refl going (λ d. absurd (cc))
  framed f now going ups.EndsInit = going_reads (Server s.number) past (FrameCall f now) _ (Some f) None refl going tt
  framed f now going ups.EndsPing = going_reads (Server s.number) past (FrameCall f now) _ (Some f) None refl going tt
  framed f now going ups.Drops = going_reads (Server s.number) past (FrameCall f now) _ (Some f) None refl going tt

  up_reads : (ls : List Line) (out t : ℕ) (call : Call) → MayChoose s past t call → CallBorne ls call → OnRecorded (up s past out t call) (Up call)
  up_reads ls =
      up_shapes ls s past Up (λ f now going r led stray. framed f now going r)
      (λ t n f left now may b going ready undrained unretired unlapsed window room. going_reads (Server s.number) past _ _ None _ refl going (λ d. unlapsed))
      (λ n tag why now going here. going_reads (Server s.number) past _ _ None _ refl going (λ d. absurd (cc)))
      (λ now going room. going_reads (Server s.number) past _ _ None None refl going tt) (λ now going room. going_reads (Server s.number) past _ _ None None refl going tt)
      (λ now going ready none room. going_reads (Server s.number) past _ _ None _ refl going (λ d. absurd (cc))) (λ now going. going_reads (Server s.number) past _ _ None None refl going tt)
      (λ e over is. still_reads (Server s.number) past _ _ refl tt) (λ going empty out quiet room few. going_reads (Server s.number) past _ _ None None refl going tt)
      (λ going fits few. going_reads (Server s.number) past _ _ None None refl going tt)

module _ (c : DownSession) (past : List Step) where
  abbrev Down : Call → Exchange → List Held → Type 0
  Down call e gives = ReadsIn (Client c.number) past call e

  discarded_reads : (f : MuxFrame) (now t : ℕ) (why : List ℕ) → has_ended (records past) ≡ false → (o : Option Name) → OnRecorded (downs.discarded past now f t why o) (Down (FrameCall f now))
  discarded_reads f now t why going None = going_reads (Client c.number) past (FrameCall f now) _ (Some f) _ refl going tt
  discarded_reads f now t why going (Some n) = going_reads (Client c.number) past (FrameCall f now) _ (Some f) _ refl going tt

  down_framed : (f : MuxFrame) (now : ℕ) → has_ended (records past) ≡ false → (r : downs.Reaction) → OnRecorded (downs.reacted c past f now r) (Down (FrameCall f now))
  down_framed f now going downs.Shut = tt
  down_framed f now going downs.Full = tt
  down_framed f now going downs.Short = tt
  down_framed f now going (downs.Closes cause) = going_reads (Client c.number) past (FrameCall f now) _ None None refl going tt
  down_framed f now going downs.NacksDrained = going_reads (Client c.number) past (FrameCall f now) _ (Some f) _ refl going tt
  down_framed f now going downs.Takes = going_reads (Client c.number) past (FrameCall f now) _ (Some f) None refl going tt
  down_framed f now going downs.Pongs = going_reads (Client c.number) past (FrameCall f now) _ (Some f) _ refl going tt
  down_framed f now going downs.Inits = going_reads (Client c.number) past (FrameCall f now) _ (Some f) _ refl going tt
  down_framed f now going downs.Misplaced = going_reads (Client c.number) past (FrameCall f now) _ (Some f) _ refl going tt
  down_framed f now going downs.Unsupports = going_reads (Client c.number) past (FrameCall f now) _ (Some f) _ refl going tt
  down_framed f now going downs.Echoes = going_reads (Client c.number) past (FrameCall f now) _ (Some f) _ refl going tt
  down_framed f now going downs.Acks = going_reads (Client c.number) past (FrameCall f now) _ (Some f) None refl going tt
  down_framed f now going downs.Ignores = going_reads (Client c.number) past (FrameCall f now) _ (Some f) None refl going tt
  down_framed f now going (downs.Discards t why) = discarded_reads f now t why going (name_held (holder (Client c.number) t (entries past)))

  held_going : (n : Name) → is_held c n past ≡ true → has_ended (records past) ≡ false
  held_going n h = by_test (has_ended (records past)) h
    where
      by_test : (b : Bool) → (if b then false else is_named n (name_held (holder (Client c.number) (tag_of n (records past)) (entries past)))) ≡ true → b ≡ false
      by_test true e = absurd (cc)
      by_test false e = refl

  down_reads : (ls : List Line) (out : ℕ) (call : Call) → CallBorne ls call → OnRecorded (down c past out call) (Down call)
  down_reads ls =
      down_shapes ls c past Down (λ out f now going r is led facts. down_framed f now going r)
      (λ n server tag mine due. still_reads (Client c.number) past _ _ refl tt)
      (λ call n kind whole reply a zero mine due note held. going_reads (Client c.number) past call _ None _ (ap (max (reading (records past))) (sym zero.0)) (held_going n held) tt)
      (λ call n kind whole reply a zero mine due note held. still_reads (Client c.number) past call _ (ap (max (reading (records past))) (sym zero.0)) tt)
      (λ n reply f b copy mine due nack held note left. going_reads (Client c.number) past _ _ None None refl (held_going n held) tt)
      (λ going new room. going_reads (Client c.number) past _ _ None _ refl going tt)
      (λ now going. going_reads (Client c.number) past _ _ None None refl going tt)
      (λ n over e. still_reads (Client c.number) past _ _ refl tt) (λ going empty out quiet room few. going_reads (Client c.number) past _ _ None None refl going tt)
      (λ going fits few. going_reads (Client c.number) past _ _ None None refl going tt)

-- what a list keeps
pub record IsRead (id : SessionId) (past : List Step) : Type 0 where
  pub reading : reading (records past) ≡ reading_at past
  pub lapse : lease_end (entries past) ≡ lapse_at past
  pub fair : EachStep (IsUnlapsed id) past
  pub cut : Each IsCut (entries past)

fair_step : (id : SessionId) (past : List Step) (call : Call) (e : Exchange) → reading (records past) ≡ reading_at past → lease_end (entries past) ≡ lapse_at past → Unlapsed id past call e → IsUnlapsed id (record { call = call; entry = e }) past
fair_step (Client k) past call e rd lp u = tt
fair_step (Server k) past call e rd lp u = by_sent e.sent u
  where
    same : is_lapsed (entries past) (max (reading (records past)) (now_of call)) ≡ has_lapsed (lapse_at past) (max (reading_at past) (now_of call))
    same i = has_lapsed (lp i) (max (rd i) (now_of call))

    by_sent : (sent : Option MuxFrame) → OnDispatch sent (λ f. is_lapsed (entries past) (max (reading (records past)) (now_of call)) ≡ false) →
        OnDispatch sent (λ f. has_lapsed (lapse_at past) (max (reading_at past) (now_of call)) ≡ false)
    by_sent None h = tt
    by_sent (Some f) h = λ d. sym same ∙ h d

read_step : (id : SessionId) (past : List Step) (call : Call) (e : Exchange) → (HasEnded (entries past) → has_ended (records past) ≡ true) → IsRead id past → ReadsIn id past call e → IsRead id (record { call = call; entry = e } ∷ past)
read_step id past call e ended old new = record {
  reading = new.now ∙ ap (λ x. max x (now_of call)) old.reading;
  lapse = λ i. leased ((new.here ∙ ap (λ x. max x (now_of call)) old.reading) i) (lease_taken e.taken) (old.lapse i);
  fair = (fair_step id past call e old.reading old.lapse new.fair, old.fair);
  cut = ((λ h. new.cut (ended h)), old.cut);
}

abbrev AllRead : Bounds → ℕ → SessionId → InitMode → List Step → Type 0
AllRead limits b id mode steps = IsRead id steps

pub first_read : (k : ℕ) (mode : InitMode) → IsRead (Server k) (first_step mode)
first_read k Probe = record { reading = refl; lapse = refl; fair = ((λ d. absurd (cc)), tt); cut = ((λ h. absurd h), tt) }
first_read k Plain = record { reading = refl; lapse = refl; fair = tt; cut = tt }

pub reads_at : (ls : List Line) (limits : Bounds) (c : Connection) (id : SessionId) (t : ℕ) (call : Call) → OwnSteps c.boot id c.steps → MayChooseAt limits c id t call → CallBorne ls call → IsRead id c.steps →
    OnRecorded (outcome_at limits c id t call) (λ e gives. IsRead id (record { call = call; entry = e } ∷ c.steps))
reads_at ls limits c (Client k) t call own may b old =
    on_recorded (down (record { limits = limits; boot = c.boot; number = k }) c.steps c.out call) (λ e gives. ReadsIn (Client k) c.steps call e) (λ e gives. IsRead (Client k) (record { call = call; entry = e } ∷ c.steps))
    (λ e gives new. read_step (Client k) c.steps call e (ends_told c.boot (Client k) c.steps own) old new) (down_reads (record { limits = limits; boot = c.boot; number = k }) c.steps ls c.out call b)
reads_at ls limits c (Server k) t call own may b old =
    on_recorded (up (record { limits = limits; number = k; mode = c.mode }) c.steps c.out t call) (λ e gives. ReadsIn (Server k) c.steps call e) (λ e gives. IsRead (Server k) (record { call = call; entry = e } ∷ c.steps))
    (λ e gives new. read_step (Server k) c.steps call e (ends_told c.boot (Server k) c.steps own) old new) (up_reads (record { limits = limits; number = k; mode = c.mode }) c.steps ls c.out t call may b)

pub reached_read : {w : World} → Reached w → EachConnection (λ c. IsRead c.session c.steps) w.connections
reached_read r =
    everywhere AllRead (λ l b k. record { reading = refl; lapse = refl; fair = tt; cut = tt }) (λ l b k mode. first_read k mode)
    (λ ls limits c id t call own may b old. reads_at ls limits c id t call own may b old) r

lines_unlapsed : (cs : List Connection) → EachConnection (λ c. IsRead c.session c.steps) cs → EachLine (λ l. EachStep (IsUnlapsed l.session) l.steps) (lines cs)
lines_unlapsed [] h = tt
lines_unlapsed (c ∷ cs) h = (h.0.fair, lines_unlapsed cs h.1)

lines_cut : (cs : List Connection) → EachConnection (λ c. IsRead c.session c.steps) cs → EachLine (λ l. Each IsCut (entries l.steps)) (lines cs)
lines_cut [] h = tt
lines_cut (c ∷ cs) h = (h.0.cut, lines_cut cs h.1)

-- the lists of every reached world are a legal run
pub reached_legal : {w : World} → Reached w → IsLegal w.limits.retries (lines w.connections)
reached_legal {w} r = Inv-legal w.limits.retries (reached_keeps r) (lines_unlapsed w.connections (reached_read r)) (lines_cut w.connections (reached_read r)) (never_often r)

pub every_run_is_legal : EveryRunIsLegal
every_run_is_legal limits boot events free =
    subst (λ l. IsLegal l.retries (lines (run (start limits boot) events).connections)) (limits_kept (start limits boot) events)
    (reached_legal (run_reached (start limits boot) events free (starts limits boot)))
