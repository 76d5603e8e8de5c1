use Rattle.std.proofs.Common.{sym, ◌∙◌, refl, arith, subst}
use Rattle.atomic_table.specs.Table.{keeps}
use Rattle.hub_log.specs.Views.{Looked}
use Rattle.hub_log.proofs.Passes.{looks, looker}
use Rattle.hub_log.proofs.book.Pass.look.Goals as goal

pub load-requires : goal.load-requires
load-requires g c =
    let p = c.self.inside.seat in
    let b = c.args.book.now in
    let t = b.table.shared.key in (
      c.self.invariant.0 ∙ sym b.is,
      omega (arith, b.words),
      λ s holds homes here word.
          let r = looks t s.views holds.0 p.id p.me.0 holds.1 here in
          (looker holds.0 p.me.0, keeps, tt, (holds.0, r.0), (subst (λ k. Looked k p.me.0 (looker holds.0 p.me.0)) b.terms r.1, refl)),
    )
