-- What is read of a core: destinations, and how many dispatches a session holds, as its connection says.
use Rattle.std.proofs.Common.{◌≡◌, ℕ, List, Option, Some, None, sym, ◌∙◌, ap}
use Rattle.std.specs.Option.{option_map}
use Rattle.std.specs.Prelude.{◌==◌}
use Rattle.mux_history.specs.Bounds.{Bounds}
use Rattle.mux_history.specs.declared.session.SessionId.{SessionId}
use Rattle.mux_model.specs.World.{World, Connection, same_session}
use Rattle.core_world.specs.Sides.{Pointwise}
use Rattle.core_world.proofs.Pointwise.{connection_of, no_connection}
use Rattle.router_core.specs.Looks.{LoadOfOne, capped, load_of, load_at}

pub load_is : {S : Type 0} (P : Bounds → ℕ → S → Connection → Type 0) (side : ℕ → SessionId) (apart : (n k : ℕ) → same_session (side n) (side k) ≡ (n == k)) (w : World) (xs : List S) (number : ℕ) (r : Option ℕ)
    → Pointwise (P w.limits) side xs w.boot w.connections → LoadOfOne P side xs number r → r ≡ load_at w (side number)
load_is P side apart w xs number None all none =
    sym (ap (λ (o : Option Connection). option_map (λ c. capped (load_of (side number) c)) o) (no_connection (P w.limits) side apart xs w.boot w.connections number all none))
load_is P side apart w xs number (Some n) all one =
    let at = connection_of (P w.limits) side apart xs w.boot w.connections number one.0 all one.1 in
    ap (λ (k : ℕ). Some k) (one.2 w.limits at.0 at.2) ∙ sym (ap (λ (o : Option Connection). option_map (λ c. capped (load_of (side number) c)) o) at.1)
