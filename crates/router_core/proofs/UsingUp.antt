-- A value that is used up is an event of the world.
use Rattle.std.proofs.Common.{◌≡◌, ◌++◌, ◌+◌, ℕ, List, Some, Ok, Err, sym, subst, length}
use Rattle.mux_model.specs.World.{World, Hand, numbered}
use Rattle.mux_model.specs.Events as model
use Rattle.mux_model.specs.Events.{happens, hand_at, without_hand, connection_at}
use Rattle.client_session.specs.State.{State as UpState}
use Rattle.server_session.specs.State.{State as DownState}
use Rattle.core_world.specs.declared.calls.Gave.{Gave}
use Rattle.core_world.specs.declared.events.Note.{Note}
use Rattle.core_world.specs.declared.refusal.EventRefusal.{EventRefusal}
use Rattle.core_world.specs.Calls.{client_call, server_call, held_in}
use Rattle.core_world.specs.Events.{spent_by, IsRefusedBy}
use Rattle.core_world.specs.Cores.{note_of}
use Rattle.core_world.proofs.Landing.{client_lands, server_lands, client_refused, server_refused}
use Rattle.router_core.specs.declared.spending.Aimed.{Aimed}
use Rattle.router_core.specs.declared.spending.Aimed.TheVariants as aims
use Rattle.router_core.specs.Sides.{UpAt, DownAt}
use Rattle.router_core.specs.Worlds.{CoreView, IsCoreOf, Lands}
use Rattle.router_core.specs.Uses.{DoesAt, aimed_call}

module _ (v : CoreView) (w : World) (b : IsCoreOf v w) where
  pub spend_lands : (X : Type 0) (hand : ℕ) (by : model.Use) (aimed : Aimed) (g : Gave) (ds : List DownState) (ts : List UpState) (hands : List Hand) (next : ℕ) (note : Note)
      → spent_by by (hand_at hand v.hands) ≡ Some (aimed_call aimed) → DoesAt {X = X} v.clients ds v.servers ts aimed (Ok g)
      → hands ≡ without_hand hand v.hands ++ numbered v.next_hand (held_in g) → next ≡ v.next_hand + length (held_in g) → note ≡ note_of v.next_hand g
      → Lands w (model.Spend hand by) note (record v { clients = ds; servers = ts; hands = hands; next_hand = next })
  spend_lands X hand by (aims.Client number call) g ds ts hands next note goes does kept counted noted =
      subst (λ (l : List UpState). Lands w (model.Spend hand by) note (record v { clients = ds; servers = l; hands = hands; next_hand = next })) (sym does.1)
      (client_lands DownAt UpAt v w b (model.Spend hand by) number (client_call call) g ds hands next note goes does.0 kept counted noted)
  spend_lands X hand by (aims.Server number call) g ds ts hands next note goes does kept counted noted =
      subst (λ (l : List DownState). Lands w (model.Spend hand by) note (record v { clients = l; servers = ts; hands = hands; next_hand = next })) (sym does.1)
      (server_lands DownAt UpAt v w b (model.Spend hand by) number (server_call call) g ts hands next note goes does.0 kept counted noted)

  pub spend_refused : {X : Type 0} (hand : ℕ) (by : model.Use) (aimed : Aimed) (e : EventRefusal × X) (ds : List DownState) (ts : List UpState)
      → spent_by by (hand_at hand v.hands) ≡ Some (aimed_call aimed) → DoesAt {X = X} v.clients ds v.servers ts aimed (Err e)
      → (t : ℕ) × IsRefusedBy w (model.Spend hand by) (happens w t (model.Spend hand by)) e.0
  spend_refused hand by (aims.Client number call) e ds ts goes does = client_refused DownAt UpAt v w b (model.Spend hand by) number (client_call call) e.0 goes does.0
  spend_refused hand by (aims.Server number call) e ds ts goes does = server_refused DownAt UpAt v w b (model.Spend hand by) number (server_call call) e.0 goes does.0
