use Rattle.std.proofs.Common.{sym, ◌∙◌, arith}
use Rattle.hub_log.proofs.Passes.{picks}
use Rattle.hub_log.proofs.book.Pass.cut_picked.Goals as goal

pub split_seat-seat-requires : goal.split_seat-seat-requires
split_seat-seat-requires g c =
    let p = c.self.inside.seat in
    let b = c.args.book.now in
    (c.self.invariant.0 ∙ sym b.is, omega (arith, b.words), picks b.table.shared.key p.id p.me.0 g.D.Picked.picks)
