-- What leads from world to world keeps a core.
use Rattle.std.proofs.Common.{◌≡◌, ◌++◌, ℕ, List, [], ◌∷◌, Result, Ok, Err, sym, ap, subst}
use Rattle.std.specs.Result.{IfErr}
use Rattle.mux_model.specs.World.{World, start}
use Rattle.mux_model.specs.Events as model
use Rattle.mux_model.specs.Events.{run, happens, world_or, ChoosesFree, AllChooseFree}
use Rattle.core_world.specs.declared.events.Event.{Event}
use Rattle.core_world.specs.declared.events.Note.{Note}
use Rattle.core_world.specs.declared.refusal.EventRefusal.{EventRefusal}
use Rattle.router_core.specs.Worlds.{CoreView, IsCoreOf, Steps, IsKept}

run_more : (w : World) (es : List (ℕ × model.Event)) (t : ℕ) (e : model.Event) (after : World) → happens (run w es) t e ≡ Ok after → run w (es ++ (t, e) ∷ []) ≡ after
run_more w [] t e after is = ap (λ r. world_or w r) is
run_more w (x ∷ es) t e after is = run_more (world_or w (happens w x.0 x.1)) es t e after is

free_more : (w : World) (es : List (ℕ × model.Event)) (t : ℕ) (e : model.Event) → AllChooseFree w es → ChoosesFree (run w es) t e → AllChooseFree w (es ++ (t, e) ∷ [])
free_more w [] t e free one = (one, tt)
free_more w (x ∷ es) t e free one = (free.0, free_more (world_or w (happens w x.0 x.1)) es t e free.1 one)

pub still_kept : (old new : CoreView) (event : model.Event) (e : Event) (r : Result Note (EventRefusal × Event)) → Steps old new event r → IfErr r (λ x. (x.1 ≡ e) × (new ≡ old)) → IsKept old → IsKept new
still_kept old new event e (Ok note) steps err k =
    let s = steps (run (start k.0 k.1) k.2) k.4 in (
      k.0,
      k.1,
      k.2 ++ (s.0, event) ∷ [],
      free_more (start k.0 k.1) k.2 s.0 event k.3 s.3,
      subst (λ w. IsCoreOf new w) (sym (run_more (start k.0 k.1) k.2 s.0 event s.1 s.2)) s.5,
    )
still_kept old new event e (Err x) steps err k = (k.0, k.1, k.2, k.3, subst (λ v. IsCoreOf v (run (start k.0 k.1) k.2)) (sym err.1) k.4)
