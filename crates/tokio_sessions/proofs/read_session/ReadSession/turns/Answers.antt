use Rattle.std.proofs.Common.{rules, ◌+◌, ◌-◌, [], refl, sym, arith}
use Rattle.tokio_sessions.specs.Reading.{Moves}
use Rattle.tokio_sessions.proofs.ReadingLemmas.{Laws, Moves_none, Moves_trans, Moves_weaker}
use Rattle.tokio_sessions.proofs.read_session.ReadSession.turns.Goals as goal

pub loop-left-init : goal.loop-left-init
loop-left-init g c = record {
  bound = omega arith;
  moved = Moves_none (record { reads_nothing = g.met.R.AsyncRead.reads_nothing; reads_in_order = g.met.R.AsyncRead.reads_in_order; takes_nothing = g.met.S.FrameSink.takes_nothing; takes_in_order = g.met.S.FrameSink.takes_in_order }) 0 _ _ refl refl refl;
  end = search rules;
  max_frame = refl;
  kept = λ fact holds. holds;
}

pub returns-in-Wait-clause-turns : goal.returns-in-Wait-clause-turns
returns-in-Wait-clause-turns g c =
    let laws : Laws g.R.AsyncRead.reads g.S.FrameSink.takes = record { reads_nothing = g.met.R.AsyncRead.reads_nothing; reads_in_order = g.met.R.AsyncRead.reads_in_order; takes_nothing = g.met.S.FrameSink.takes_nothing; takes_in_order = g.met.S.FrameSink.takes_in_order } in
    let turn = c.in-Wait.ensures.turn in
    ([], Moves_weaker laws (64 - c.loop-left.left + 1) 64 [] _ _ (omega (arith, c.loop-left-test.true)) (Moves_trans laws (64 - c.loop-left.left) 1 [] _ _ _ c.loop-left.invariant.moved (rw (sym turn.2) turn.1)), refl)

pub returns-in-Over-clause-turns : goal.returns-in-Over-clause-turns
returns-in-Over-clause-turns g c =
    let laws : Laws g.R.AsyncRead.reads g.S.FrameSink.takes = record { reads_nothing = g.met.R.AsyncRead.reads_nothing; reads_in_order = g.met.R.AsyncRead.reads_in_order; takes_nothing = g.met.S.FrameSink.takes_nothing; takes_in_order = g.met.S.FrameSink.takes_in_order } in
    let turn = c.in-Over.ensures.turn in
    (turn.0, Moves_weaker laws (64 - c.loop-left.left + 1) 64 turn.0 _ _ (omega (arith, c.loop-left-test.true)) (Moves_trans laws (64 - c.loop-left.left) 1 turn.0 _ _ _ c.loop-left.invariant.moved turn.1), turn.2)

pub loop-left-preserved : goal.loop-left-preserved
loop-left-preserved g c =
    let laws : Laws g.R.AsyncRead.reads g.S.FrameSink.takes = record { reads_nothing = g.met.R.AsyncRead.reads_nothing; reads_in_order = g.met.R.AsyncRead.reads_in_order; takes_nothing = g.met.S.FrameSink.takes_nothing; takes_in_order = g.met.S.FrameSink.takes_in_order } in
    let before = 64 - c.loop-left.left in
    let run = c.take_run-left.result in
    let turn = c.in-Again.ensures.turn in
    let turned : Moves g.R.AsyncRead.reads g.S.FrameSink.takes (before + 1) [] c.args.self.now c.step.new.self =
    Moves_trans laws before 1 [] _ _ _ c.loop-left.invariant.moved (rw (sym turn.2) turn.1) in record {
      bound = omega (arith, c.loop-left.invariant.bound);
      moved = Moves_weaker laws (before + 1 + run) _ [] _ _ (omega (arith, c.loop-left-test.true, c.loop-left.invariant.bound, c.take_run-left.ensures.bound)) (Moves_trans laws (before + 1) run [] _ _ _ turned c.take_run-left.ensures.moved);
      end = search rules;
      max_frame = search rules;
      kept = search rules;
    }

pub returns-clause-turns : goal.returns-clause-turns
returns-clause-turns g c =
    ([], Moves_weaker (record { reads_nothing = g.met.R.AsyncRead.reads_nothing; reads_in_order = g.met.R.AsyncRead.reads_in_order; takes_nothing = g.met.S.FrameSink.takes_nothing; takes_in_order = g.met.S.FrameSink.takes_in_order }) (64 - c.loop-left.left) 64 [] _ _ (omega arith) c.loop-left.invariant.moved, rw c.yield_now.ensures.pending refl)
