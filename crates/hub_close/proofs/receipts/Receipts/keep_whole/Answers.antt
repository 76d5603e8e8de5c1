use Rattle.std.proofs.Common.{ℕ, List, ◌≡◌, [], ◌∷◌, ◌++◌, ◌∙◌, ap, subst}
use Rattle.hub_close.specs.declared.packed.Packed.{Packed}
use Rattle.hub_close.specs.declared.receipt.Stub.{Stub}
use Rattle.hub_close.specs.Packing.{stubs}
use Rattle.hub_close.specs.Receiving.{Receiving}
use Rattle.hub_close.proofs.Lists.{stubs_mark}
use Rattle.hub_close.proofs.receipts.Receipts.keep_whole.Goals as goal

abbrev made : (room step : ℕ) → List Stub → Receiving
made room step list = record { list = list; room = room; step = step }

pub returns : goal.returns
returns c =
    let boot = c.boot_for-self-inside.result in
    let ps = c.self.inside.packed.items in
    let whole = c.self.inside.whole.items in
    ap (made c.self.inside.room c.self.inside.step)
    (ap (λ (qs : List Packed). stubs boot qs c.push_reserved-2.new.self.items) c.push_reserved.ensures.items
    ∙ ap (λ (ws : List Stub). stubs boot (ps ++ c.mark.result ∷ []) ws) c.push_reserved-2.ensures.items
    ∙ stubs_mark boot ps whole c.mark.result c.args.receipt c.mark.ensures c.self.invariant.2
    ∙ ap (λ (rs : List Stub). rs ++ c.args.receipt ∷ [])
    (subst (λ qs. stubs boot qs whole ≡ stubs c.self.inside.boot qs whole) c.as_slice.ensures.value
    (subst (λ ws. stubs boot c.as_slice.result.now ws ≡ stubs c.self.inside.boot c.as_slice.result.now ws)
    c.as_slice-2.ensures.value c.boot_for-self-inside.ensures)))
    ∙ ap (λ (v : Receiving). made v.room v.step (v.list ++ c.args.receipt ∷ [])) c.self.view_is
