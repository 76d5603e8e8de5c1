use Rattle.std.proofs.Common.{None, ◌+◌, subst, sym, arith}
use Rattle.balancer.specs.Least.{IsChoice}
use Rattle.balancer.proofs.Reading.{noted, are_read_next, choice_next}
use Rattle.balancer.proofs.least.choose.Goals as goal

pub loop-server-init : goal.loop-server-init
loop-server-init g c = (λ k. None, λ k none. absurd (omega (arith, none)), λ k none. absurd (omega (arith, none)))

pub loop-server-preserved : goal.loop-server-preserved
loop-server-preserved g c =
    let (read, all, is) = c.loop-server.invariant in (
      noted read c.loop-server.server-index c.read.result,
      are_read_next g.S.Loads.reads c.args.loads.now c.args.but c.args.servers.now c.loop-server.server-index read c.read.result all c.read.ensures,
      subst (λ choice. IsChoice c.args.servers.now (c.loop-server.server-index + 1) (noted read c.loop-server.server-index c.read.result) choice)
          (sym c.lesser-choice.ensures) (choice_next c.args.servers.now c.loop-server.server-index read c.loop-server.choice c.read.result is),
    )
