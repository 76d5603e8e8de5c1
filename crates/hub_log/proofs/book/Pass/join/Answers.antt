use Rattle.std.proofs.Common.{sym, ◌∙◌, arith}
use Rattle.hub_log.proofs.Passes.{joins}
use Rattle.hub_log.proofs.book.Pass.join.Goals as goal

pub join_seat-requires : goal.join_seat-requires
join_seat-requires g c =
    let p = c.self.inside.seat in
    let q = c.other.inside.seat in
    let b = c.args.book.now in
    (c.self.invariant.0 ∙ sym b.is, c.other.invariant.0 ∙ sym b.is, c.other.invariant.1, omega (arith, b.words), joins b.table.shared.key p.id p.me.0 q.id q.me.0)
