use Rattle.std.proofs.Common.{sym, ◌∙◌, ◌+◌, ◌&&◌, ap}
use Rattle.std.specs.Prelude.{◌==◌, not, reverse}
use Rattle.mux_history.specs.Holders.{of_named}
use Rattle.rolling_audit.specs.Faults.{given_by, gives_own}
use Rattle.rolling_audit.proofs.trail.Trail.step.Goals as goal

pub returns-in_default-clause-err : goal.returns-in_default-clause-err
returns-in_default-clause-err c =
    λ boot h all it s.
    ap (λ g. gives_own c.args.id c.args.met.now && not (of_named (λ n. n.seq == g + 1) c.args.met.now.name))
    (sym (s.given ∙ ap (λ i. given_by i (reverse h.records)) it))
    ∙ sym c.in_default.ensures.none
