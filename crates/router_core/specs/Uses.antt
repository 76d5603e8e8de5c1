-- A value in hand as the call that uses it up.
use Rattle.std.specs.Prelude.{◌≡◌, List, Bool, true, false, not, is_some, Option, Result}
use Rattle.mux_history.specs.declared.session.SessionId.{SessionId}
use Rattle.mux_history.specs.declared.session.SessionId.TheVariants.{Client, Server}
use Rattle.mux_model.specs.Steps.{Call}
use Rattle.mux_model.specs.Events as model
use Rattle.client_session.specs.State.{State as UpState}
use Rattle.server_session.specs.State.{State as DownState}
use Rattle.core_world.specs.declared.calls.Gave.{Gave}
use Rattle.core_world.specs.declared.hands.Held.{Held}
use Rattle.core_world.specs.declared.refusal.EventRefusal.{EventRefusal}
use Rattle.core_world.specs.Calls.{client_call, server_call, grows_by, IsReadClientCall, IsReadServerCall}
use Rattle.core_world.specs.Sides.{session_at}
use Rattle.router_core.specs.declared.spending.Aimed.{Aimed}
use Rattle.router_core.specs.declared.spending.Aimed.TheVariants as aims
use Rattle.router_core.specs.Gifts.{held_by_client, held_by_server}
use Rattle.router_core.specs.Sides.{UpAt, DownAt, DoesOne}

abbrev pub aimed_call : Aimed → SessionId × Call
aimed_call (aims.Client number call) = (Client number, client_call call)
aimed_call (aims.Server number call) = (Server number, server_call call)

abbrev pub held_by : Aimed → Option Held
held_by (aims.Client number call) = held_by_client call
held_by (aims.Server number call) = held_by_server call

abbrev pub IsReadAimed : Aimed → Type 0
IsReadAimed (aims.Client number call) = IsReadClientCall call
IsReadAimed (aims.Server number call) = IsReadServerCall call

-- the call may give a value, as may every call that its use leads to
abbrev pub gives_by : Aimed → Bool
gives_by aimed = let goes = aimed_call aimed in grows_by goes.1

abbrev pub may_give : model.Use → Bool
may_give (model.Offer server now) = true
may_give model.Note = true
may_give model.Settle = true
may_give _ = false

-- an offer to a server that isn't there
abbrev pub missing_in : List UpState → model.Use → Bool
missing_in servers (model.Offer server now) = not (is_some (session_at servers server))
missing_in servers _ = false

-- a call of one session of its side; the other side stays
abbrev pub DoesAt : {X : Type 0} → (cs ds : List DownState) → (ss ts : List UpState) → Aimed
    → Result Gave (EventRefusal × X) → Type 0
DoesAt {X} cs ds ss ts (aims.Client number call) r = DoesOne DownAt cs ds number (client_call call) r × (ts ≡ ss)
DoesAt {X} cs ds ss ts (aims.Server number call) r = DoesOne UpAt ss ts number (server_call call) r × (ds ≡ cs)
