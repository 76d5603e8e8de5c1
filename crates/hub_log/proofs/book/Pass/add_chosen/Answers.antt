use Rattle.std.proofs.Common.{◌∙◌, sym, refl, arith, subst}
use Rattle.atomic_table.specs.Table.{keeps}
use Rattle.hub_log.specs.Views.{Adds, Added}
use Rattle.hub_log.proofs.Adding.{adds, adder}
use Rattle.hub_log.proofs.book.Pass.add_chosen.Goals as goal

pub load-requires : goal.load-requires
load-requires g c =
    let p = c.self.inside.seat in
    let b = c.args.book.now in
    let v = p.me.0 in
    let m = c.requires.0 in
    let t = b.table.shared.key in
    let asks : Adds t v m = subst (λ k. Adds k v m) (sym b.terms) (rw c.self.view_is c.requires.2) in (
      c.self.invariant.0 ∙ sym b.is,
      omega (arith, b.words),
      λ s holds homes here word.
          let r = adds t s.views holds.0 p.id v m holds.1 here asks in
          (adder m holds.0 v, keeps, tt, (_, r.0), ((m, c.requires.1, subst (λ k. Added k m v (adder m holds.0 v)) b.terms r.1), refl)),
    )
