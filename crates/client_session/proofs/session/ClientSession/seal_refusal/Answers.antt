use Rattle.std.proofs.Common.{arith}
use Rattle.client_session.proofs.session.ClientSession.seal_refusal.Goals as goal

pub overflow_mul-free_records : goal.overflow_mul-free_records
overflow_mul-free_records c =
    let free = rw (← c.self.view_is) at c.free_records.ensures in
    omega (arith, free, c.history-history.ensures.value, c.history-history.ensures.range.history_below)
