use Rattle.std.proofs.Common.{ap, arith}
use Rattle.server_session.specs.State.{State}
use Rattle.server_session.proofs.session.ServerSession.seal_refusal.Goals as goal

pub overflow_mul-free_records : goal.overflow_mul-free_records
overflow_mul-free_records c = omega (arith, c.free_records.ensures, c.history-history.ensures.range.history_below, c.history-history.ensures.value, ap (λ (s : State). s.limits.history) c.self.view_is)
