use Rattle.std.proofs.Common.{sym, subst, arith}
use Rattle.server_session.specs.State.{State}
use Rattle.server_session.specs.Inside.{state_of}
use Rattle.server_session.specs.Belonging.{Belongs}
use Rattle.server_session.proofs.Rolling.{ample}
use Rattle.server_session.proofs.session.ServerSession.roll_refusal.Goals as goal

pub overflow_add-len : goal.overflow_add-len
overflow_add-len c = omega (arith, c.len.ensures.within, c.len.ensures.value, c.self.invariant.records_kept, c.self.invariant.book_room, c.history-history.ensures.range.history_below, c.history-history.ensures.range.window_below)

pub overflow_mul-len : goal.overflow_mul-len
overflow_mul-len c = omega (arith, c.len.ensures.within, c.len.ensures.value, c.self.invariant.records_kept, c.self.invariant.book_room, c.history-history.ensures.range.history_below, c.history-history.ensures.range.window_below)

pub returns-then-len-self-clause-ample : goal.returns-then-len-self-clause-ample
returns-then-len-self-clause-ample c = λ p b why.
    rw (← c.self.view_is) (ample (state_of c.self.inside) p (subst (λ (s : State). Belongs s p) (sym c.self.view_is) b)
    (omega (arith, c.len.ensures.within, c.self.invariant.book_room))
    (omega (arith, c.if-len-self.true, c.len.ensures.value, c.self.invariant.counted, c.history-history.ensures.value)))
