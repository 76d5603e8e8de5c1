use Rattle.std.proofs.Common.{ℕ, Option}
use Rattle.balancer.specs.Least.{AreRead, IsChoice}
use Rattle.balancer.proofs.least.choose.Given as goal

abbrev pub invariant-loop-server : goal.invariant-loop-server
invariant-loop-server g l = (read : ℕ → Option ℕ)
    × AreRead g.S.Loads.reads l.loads l.but l.servers l.server-index read
    × IsChoice l.servers l.server-index read l.choice
