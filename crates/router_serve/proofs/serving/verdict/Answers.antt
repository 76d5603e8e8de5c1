use Rattle.router_serve.specs.Verdicts.IsBorneOut.{alone, behind}
use Rattle.router_serve.proofs.serving.verdict.Goals as goal

pub returns-then-not-is_needed-clause-ok : goal.returns-then-not-is_needed-clause-ok
returns-then-not-is_needed-clause-ok g c = alone _ c.in_ok-judge.ensures.ok c.counts-counts.ensures

pub returns-clause-ok : goal.returns-clause-ok
returns-clause-ok g c =
    let found = c.in_ok-judge_run.ensures.ok in
    behind (record { before = _; after = _; sums = _; takes = found.0; closed = found.1 })
