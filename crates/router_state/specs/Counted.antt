-- What is counted of sessions that are over, and of histories that were given up.
use Rattle.std.specs.Prelude.{◌≡◌, ◌≢◌, ℕ, List, [], Option, Some, None, slice_get, vec_len}
use Rattle.mux_agree.specs.Walk.{joined}
use Rattle.mux_history.specs.Counting.{IsCount, IsSum}
use Rattle.mux_history.specs.Delaying.{AreBoth, no_delay}
use Rattle.mux_history.specs.declared.counts.KindCounts.{KindCounts}
use Rattle.mux_history.specs.declared.delays.Delays.{Delays}
use Rattle.mux_history.specs.declared.session.SessionId.{SessionId}
use Rattle.mux_history.specs.declared.session.SessionId.TheVariants.{Client, Server}
use Rattle.hub_steps.specs.declared.records.UpCounts.{UpCounts}
use Rattle.hub_delivery.specs.Leaving.{server_place}
use Rattle.router_state.specs.declared.given.Given.{Given}
use Rattle.router_state.specs.declared.kinds.Kinds.{Kinds}

abbrev pub IsNothing : UpCounts → Type 0
IsNothing u = IsCount u.steps [] × (u.delays ≡ no_delay)

-- what a server did is counted with more: the same of both, where there is no such server
abbrev pub Changes : (UpCounts → UpCounts → Type 0) → (old new : Option UpCounts) → Type 0
Changes R None None = Unit {0}
Changes R (Some u) (Some v) = R u v
Changes R _ _ = ⊥

-- that of one server changes, and all others stay
pub record ChangesAt (place : ℕ) (R : UpCounts → UpCounts → Type 0) (us vs : List UpCounts) : Type 0 where
  pub here : Changes R (slice_get us place) (slice_get vs place)
  pub others : (i : ℕ) → i ≢ place → slice_get vs i ≡ slice_get us i

abbrev pub StepsMore : (place : ℕ) → KindCounts → (us vs : List UpCounts) → Type 0
StepsMore place counts = ChangesAt place (λ u v. IsSum u.steps counts v.steps × (v.delays ≡ u.delays))

abbrev pub DelaysMore : (place : ℕ) → Delays → (us vs : List UpCounts) → Type 0
DelaysMore place delays = ChangesAt place (λ u v. (v.steps ≡ u.steps) × AreBoth u.delays delays v.delays)

-- the place of the server whose session it is
abbrev pub place_of : (servers : ℕ) → SessionId → Option ℕ
place_of servers (Client client) = None
place_of servers (Server server) = server_place servers server

abbrev pub OwnMore : Option ℕ → KindCounts → (us vs : List UpCounts) → Type 0
OwnMore None counts us vs = vs ≡ us
OwnMore (Some place) counts us vs = StepsMore place counts us vs

-- a session gave histories up: their records are counted, and a server's as its own too
pub record Gives (given : Given) (old new : Kinds) : Type 0 where
  pub counts : KindCounts
  pub are : IsCount counts (joined given.histories.items)
  pub all : IsSum old.given counts new.given
  pub own : OwnMore (place_of (vec_len old.by_server) given.session) counts old.by_server.items new.by_server.items
