use Rattle.std.proofs.Common.{◌≡◌, ◌+◌, [], List, refl, sym, ap, subst}
use Rattle.mux_model.specs.Events as model
use Rattle.core_world.specs.declared.events.Note.TheVariants as notes
use Rattle.core_world.proofs.Landing.{restart_lands}
use Rattle.router_core.specs.declared.bag.Item.{Item}
use Rattle.router_core.specs.Bags.{hands_of}
use Rattle.router_core.specs.Sides.{UpAt, DownAt}
use Rattle.router_core.specs.Worlds.{CoreView, IsCoreOf, Lands}
use Rattle.router_core.specs.contracts.router.Core.{the_view}
use Rattle.router_core.proofs.router.Core.restart.Goals as goal

pub returns-clause-step : goal.returns-clause-step
returns-clause-step c = λ w b.
    let v = the_view c.self.inside in
    let here : IsCoreOf v w = subst (λ (x : CoreView). IsCoreOf x w) (sym c.self.view_is) b in
    let empty : CoreView = record { boot = v.boot + 1; limits = v.limits; clients = []; servers = []; hands = []; next_hand = v.next_hand } in
    let now : CoreView = record { boot = v.boot + 1; limits = v.limits; clients = c.clear.new.self.items; servers = c.clear-2.new.self.items; hands = hands_of c.clear-3.new.self.items; next_hand = v.next_hand } in
    let same : empty ≡ now = λ i. record { boot = v.boot + 1; limits = v.limits; clients = sym c.clear.ensures.items i; servers = sym c.clear-2.ensures.items i; hands = ap (λ (l : List Item). hands_of l) (sym c.clear-3.ensures.items) i; next_hand = v.next_hand } in
    subst (λ (x : CoreView). Lands w model.Restart (notes.Booted (v.boot + 1)) x) same (restart_lands DownAt UpAt v w here (v.boot + 1) refl)
