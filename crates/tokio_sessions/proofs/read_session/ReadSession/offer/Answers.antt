use Rattle.std.proofs.Common.{rules, [], ◌∷◌, refl, lit≤}
use Rattle.tokio_sessions.proofs.ReadingLemmas.{Moves_offered}
use Rattle.tokio_sessions.proofs.read_session.ReadSession.offer.Goals as goal

pub returns-in-Stop-clause-turn : goal.returns-in-Stop-clause-turn
returns-in-Stop-clause-turn g c = λ before first.
    let f = c.args.frame in
    (f ∷ [], Moves_offered (record { reads_nothing = g.met.R.AsyncRead.reads_nothing; reads_in_order = g.met.R.AsyncRead.reads_in_order; takes_nothing = g.met.S.FrameSink.takes_nothing; takes_in_order = g.met.S.FrameSink.takes_in_order }) 1 [] (f ∷ []) before _ first.0 (search rules) (lit≤ tt) (search rules), (refl, c.in-Stop.ensures.stop, c.in-Stop.ensures.noted))
