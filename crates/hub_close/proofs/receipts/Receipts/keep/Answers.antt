use Rattle.std.proofs.Common.{ℕ, List, [], ◌∷◌, ◌++◌, ◌∙◌, ap}
use Rattle.hub_close.specs.declared.packed.Packed.{Packed}
use Rattle.hub_close.specs.declared.receipt.Stub.{Stub}
use Rattle.hub_close.specs.Packing.{stubs}
use Rattle.hub_close.specs.Receiving.{Receiving}
use Rattle.hub_close.proofs.Lists.{stubs_push}
use Rattle.hub_close.proofs.receipts.Receipts.keep.Goals as goal

abbrev made : (room step : ℕ) → List Stub → Receiving
made room step list = record { list = list; room = room; step = step }

pub returns-in-Some : goal.returns-in-Some
returns-in-Some c =
    ap (made c.self.inside.room c.self.inside.step)
    (ap (λ (ps : List Packed). stubs c.self.inside.boot ps c.self.inside.whole.items) c.push_reserved.ensures.items
    ∙ stubs_push _ _ _ _ c.in-Some.ensures.kept
    ∙ ap (λ (r : Stub). stubs c.self.inside.boot c.self.inside.packed.items c.self.inside.whole.items ++ r ∷ []) c.in-Some.ensures.some)
    ∙ ap (λ (v : Receiving). made v.room v.step (v.list ++ c.args.receipt ∷ [])) c.self.view_is
