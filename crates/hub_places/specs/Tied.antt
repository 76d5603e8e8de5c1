-- A kept session beside the pass that adds its moves, and what it did since the pass knew its past.
use Rattle.std.specs.Prelude.{◌≡◌, List}
use Rattle.mux_history.specs.declared.session.SessionId.TheVariants.{Client, Server}
use Rattle.server_session.specs.Past as downs
use Rattle.server_session.specs.Belonging as down_belonging
use Rattle.client_session.specs.Past as ups
use Rattle.client_session.specs.Belonging as up_belonging
use Rattle.kept_session.specs.Reached.{Kept, IsReached}
use Rattle.kept_session.specs.ReachedDown.{KeptDown, IsLedDown}
use Rattle.hub_log.specs.declared.terms.Terms.{Terms}
use Rattle.hub_log.specs.Moves.{Move}
use Rattle.hub_log.specs.Views.{View}
use Rattle.hub_log.specs.Turns.{AreGiven, AreHeld, Knows, Leads, Turn, moves_by}
use Rattle.hub_places.specs.MovesDown.{connection_down}
use Rattle.hub_places.specs.MovesUp.{connection_up}

-- the session's past is what the log has of it
pub record TiedDown (t : Terms) (k : KeptDown) (v : View) : Type 0 where
  pub past : downs.Past
  pub led : IsLedDown past
  pub belongs : down_belonging.Belongs k.state past
  pub limits : past.session.limits ≡ t.limits
  pub knows : Knows t v (Client past.session.number) (connection_down past)

pub record TiedUp (t : Terms) (k : Kept) (v : View) : Type 0 where
  pub past : ups.Past
  pub reached : IsReached k.mode past
  pub belongs : up_belonging.Belongs k.state past
  pub limits : past.session.limits ≡ t.server_limits
  pub knows : Knows t v (Server past.session.number) (connection_up t.boot past)

-- the session, whose state is now this one, has had these turns, which the pass may add; what it knows is from before
pub record MadeDown (t : Terms) (v : View) (k : KeptDown) : Type 0 where
  pub past : downs.Past
  pub next : downs.Past
  pub turns : List Turn
  pub leads : Leads t (Client past.session.number) (connection_down past) turns (connection_down next)
  pub same : next.session ≡ past.session
  pub led : IsLedDown next
  pub belongs : down_belonging.Belongs k.state next
  pub limits : past.session.limits ≡ t.limits
  pub knows : Knows t v (Client past.session.number) (connection_down past)
  pub given : AreGiven (Client past.session.number) v turns
  pub held : AreHeld turns v.hands

pub record MadeUp (t : Terms) (v : View) (k : Kept) : Type 0 where
  pub past : ups.Past
  pub next : ups.Past
  pub turns : List Turn
  pub leads : Leads t (Server past.session.number) (connection_up t.boot past) turns (connection_up t.boot next)
  pub same : next.session ≡ past.session
  pub reached : IsReached k.mode next
  pub belongs : up_belonging.Belongs k.state next
  pub limits : past.session.limits ≡ t.server_limits
  pub knows : Knows t v (Server past.session.number) (connection_up t.boot past)
  pub given : AreGiven (Server past.session.number) v turns
  pub held : AreHeld turns v.hands

-- its moves
abbrev pub moves_down : {t : Terms} {v : View} {k : KeptDown} → MadeDown t v k → List Move
moves_down s = moves_by (Client s.past.session.number) s.turns

abbrev pub moves_up : {t : Terms} {v : View} {k : Kept} → MadeUp t v k → List Move
moves_up s = moves_by (Server s.past.session.number) s.turns
