use Rattle.std.proofs.Common.{arith}
use Rattle.client_session.proofs.Entries.{fresh_within}
use Rattle.client_session.proofs.session.ClientSession.roll_refusal.Goals as goal

pub returns-then-load-kept-clause-ample : goal.returns-then-load-kept-clause-ample
returns-then-load-kept-clause-ample c = λ e.
    let fresh = fresh_within c.self.inside.entries.entries in
    let load = c.len-load.ensures in
    let history = c.history-history.ensures.value in
    rw (← c.self.view_is) (omega (arith, fresh, load.value, load.within, history, c.self.invariant.counted, c.self.invariant.pool_room, c.if-load-kept.true))
