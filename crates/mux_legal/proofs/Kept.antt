-- In every world the records of each session tell the open tags and the words, and may follow one another.
use Rattle.std.proofs.Common.{subst, ℕ, List, [], ◌∷◌, ◌≡◌, true, refl}
use Rattle.mux_history.specs.Bounds.{Bounds}
use Rattle.mux_history.specs.declared.session.SessionId.{SessionId}
use Rattle.mux_history.specs.declared.session.SessionId.TheVariants.{Client, Server}
use Rattle.mux_history.specs.declared.session.InitMode.{InitMode}
use Rattle.mux_history.specs.declared.session.InitMode.TheVariants.{Probe, Plain}
use Rattle.mux_model.specs.Steps.{Call, Step, records}
use Rattle.mux_model.specs.World.{World, Connection, Reached, starts, start, first_step, outcome_at, MayChooseAt}
use Rattle.mux_model.specs.Down.{DownSession, down}
use Rattle.mux_model.specs.Up.{UpSession, up, MayChoose}
use Rattle.mux_model.specs.Replay.{is_joined}
use Rattle.mux_model.specs.Events.{run}
use Rattle.mux_model.specs.Legal.{Line, reading_at}
use Rattle.mux_model.specs.Runs.{EachConnection, IsLinked, RecordsTellTags, RecordsFollow, ReadsAlike, RecordsTellWords}
use Rattle.mux_legal.proofs.Basics.{OnRecorded, on_both}
use Rattle.mux_legal.proofs.DownShapes.{CallBorne}
use Rattle.mux_legal.proofs.LinkDown.{IsTiedDown, down_ties, first_tied}
use Rattle.mux_legal.proofs.LinkUp.{IsTiedUp, up_ties, server_tied}
use Rattle.mux_history.specs.Readings.{reading}
use Rattle.mux_legal.proofs.ReadingsHold.{IsRead, reached_read}
use Rattle.mux_legal.proofs.KeptUp.{IsKeptUp, KeepsUp, kept_up, up_keeps}
use Rattle.mux_legal.proofs.KeptDown.{IsKeptDown, KeepsDown, kept_down, down_keeps}
use Rattle.mux_model.proofs.Happens.{run_reached, limits_kept}
use Rattle.mux_legal.proofs.Everywhere.{everywhere}

abbrev pub IsKept : Bounds → ℕ → SessionId → InitMode → List Step → Type 0
IsKept limits b (Client k) mode steps = IsKeptDown (record { limits = limits; boot = b; number = k }) steps
IsKept limits b (Server k) mode steps = IsKeptUp (record { limits = limits; number = k; mode = mode }) steps

pub client_kept : (limits : Bounds) (b k : ℕ) (mode : InitMode) → IsKept limits b (Client k) mode []
client_kept limits b k mode = record { tied = first_tied (record { limits = limits; boot = b; number = k }); places = λ n. refl; joined = λ m. refl }

pub server_kept : (limits : Bounds) (b k : ℕ) (mode : InitMode) → IsKept limits b (Server k) mode (first_step mode)
server_kept limits b k Probe = record { tied = server_tied (record { limits = limits; number = k; mode = Probe }); drained = refl; lease = refl; joined = λ b. refl }
server_kept limits b k Plain = record { tied = server_tied (record { limits = limits; number = k; mode = Plain }); drained = refl; lease = refl; joined = λ b. refl }

-- every step keeps it so
pub down_kept : (ls : List Line) (s : DownSession) (past : List Step) (out : ℕ) (call : Call) → CallBorne ls call → IsKeptDown s past →
    OnRecorded (down s past out call) (λ e gives. IsKeptDown s (record { call = call; entry = e } ∷ past))
down_kept ls s past out call b old =
    on_both (down s past out call) (λ e gives. IsTiedDown s (record { call = call; entry = e } ∷ past)) (λ e gives. KeepsDown s past call e) (λ e gives. IsKeptDown s (record { call = call; entry = e } ∷ past))
    (λ e gives tied new. kept_down s past call e old tied new) (down_ties s past old.tied ls out call b) (down_keeps ls s past old out call b)

pub up_kept : (ls : List Line) (s : UpSession) (past : List Step) (out t : ℕ) (call : Call) → MayChoose s past t call → CallBorne ls call → IsKeptUp s past →
    OnRecorded (up s past out t call) (λ e gives. IsKeptUp s (record { call = call; entry = e } ∷ past))
up_kept ls s past out t call may b old =
    on_both (up s past out t call) (λ e gives. IsTiedUp s (record { call = call; entry = e } ∷ past)) (λ e gives. KeepsUp s past e) (λ e gives. IsKeptUp s (record { call = call; entry = e } ∷ past))
    (λ e gives tied new. kept_up s past call e old tied new) (up_ties s past old.tied ls out t call may b) (up_keeps s past old ls out t call may b)

keeps_at : (ls : List Line) (limits : Bounds) (c : Connection) (id : SessionId) (t : ℕ) (call : Call) → MayChooseAt limits c id t call → CallBorne ls call →
    IsKept limits c.boot id c.mode c.steps → OnRecorded (outcome_at limits c id t call) (λ e gives. IsKept limits c.boot id c.mode (record { call = call; entry = e } ∷ c.steps))
keeps_at ls limits c (Client k) t call may b old = down_kept ls (record { limits = limits; boot = c.boot; number = k }) c.steps c.out call b old
keeps_at ls limits c (Server k) t call may b old = up_kept ls (record { limits = limits; number = k; mode = c.mode }) c.steps c.out t call may b old

pub reached_kept : {w : World} → Reached w → EachConnection (λ c. IsKept w.limits c.boot c.session c.mode c.steps) w.connections
reached_kept r =
    everywhere IsKept (λ l b k. client_kept l b k Plain) (λ l b k mode. server_kept l b k mode)
    (λ ls limits c id t call own may b old. keeps_at ls limits c id t call may b old) r

-- what is kept, at each connection
module _ (limits : Bounds) (P : Connection → Type 0) (of : (c : Connection) → IsKept limits c.boot c.session c.mode c.steps → P c) where
  pub each_of : (cs : List Connection) → EachConnection (λ c. IsKept limits c.boot c.session c.mode c.steps) cs → EachConnection P cs
  each_of [] h = tt
  each_of (c ∷ cs) h = (of c h.0, each_of cs h.1)

linked_of : (limits : Bounds) (b : ℕ) (id : SessionId) (mode : InitMode) (steps : List Step) → IsKept limits b id mode steps → IsLinked id steps
linked_of limits b (Client k) mode steps h = h.tied.linked
linked_of limits b (Server k) mode steps h = h.tied.linked

joined_of : (limits : Bounds) (b : ℕ) (id : SessionId) (mode : InitMode) (steps : List Step) → IsKept limits b id mode steps → is_joined limits b mode id (records steps) ≡ true
joined_of limits b (Client k) mode steps h = h.joined mode
joined_of limits b (Server k) mode steps h = h.joined b

pub records_tell_tags : RecordsTellTags
records_tell_tags limits boot events free =
    let w = run (start limits boot) events in
    each_of w.limits (λ c. IsLinked c.session c.steps) (λ c h. linked_of w.limits c.boot c.session c.mode c.steps h) w.connections
    (reached_kept (run_reached (start limits boot) events free (starts limits boot)))

pub records_follow : RecordsFollow
records_follow limits boot events free =
    each_of limits (λ c. is_joined limits c.boot c.mode c.session (records c.steps) ≡ true) (λ c h. joined_of limits c.boot c.session c.mode c.steps h) (run (start limits boot) events).connections
    (subst (λ l. EachConnection (λ c. IsKept l c.boot c.session c.mode c.steps) (run (start limits boot) events).connections) (limits_kept (start limits boot) events)
    (reached_kept (run_reached (start limits boot) events free (starts limits boot))))

alike : (limits : Bounds) (b : ℕ) (id : SessionId) (mode : InitMode) (steps : List Step) → IsKept limits b id mode steps → ReadsAlike id steps
alike limits b (Client k) mode steps h = h.places
alike limits b (Server k) mode steps h = (h.drained, h.lease)

each_alike : (limits : Bounds) (cs : List Connection) → EachConnection (λ c. IsKept limits c.boot c.session c.mode c.steps) cs → EachConnection (λ c. IsRead c.session c.steps) cs →
    EachConnection (λ c. (reading (records c.steps) ≡ reading_at c.steps) × ReadsAlike c.session c.steps) cs
each_alike limits [] h g = tt
each_alike limits (c ∷ cs) h g = ((g.0.reading, alike limits c.boot c.session c.mode c.steps h.0), each_alike limits cs h.1 g.1)

pub records_tell_words : RecordsTellWords
records_tell_words limits boot events free =
    let w = run (start limits boot) events in
    let r : Reached w = run_reached (start limits boot) events free (starts limits boot) in
    each_alike w.limits w.connections (reached_kept r) (reached_read r)
