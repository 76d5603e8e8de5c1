use Rattle.std.proofs.Common.{◌∙◌, sym, refl, arith, subst}
use Rattle.atomic_table.specs.Table.{keeps}
use Rattle.hub_log.specs.Views.{AddsAll, AddedAll}
use Rattle.hub_log.proofs.Adding.{adds_all}
use Rattle.hub_log.proofs.book.Pass.add_chosen_all.Goals as goal

pub load-requires : goal.load-requires
load-requires g c =
    let p = c.self.inside.seat in
    let b = c.args.book.now in
    let v = p.me.0 in
    let ms = c.requires.0 in
    let t = b.table.shared.key in
    let asks : AddsAll t v ms = subst (λ k. AddsAll k v ms) (sym b.terms) (rw c.self.view_is c.requires.2) in (
      c.self.invariant.0 ∙ sym b.is,
      omega (arith, b.words),
      λ s holds homes here word.
          let r = adds_all t ms s.views holds.0 p.id v holds.1 here asks in
          (r.0, keeps, tt, (r.1, r.2), ((ms, c.requires.1, subst (λ k. AddedAll k ms v r.0) b.terms r.3), refl)),
    )
