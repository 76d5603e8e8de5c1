use Rattle.std.proofs.Common.{◌≡◌, ◌++◌, ◌∷◌, [], ◌∙◌, List, ℕ, OnOk, subst}
use Rattle.operator_port.specs.Metrics.{server_seconds}
use Rattle.operator_port.proofs.server_histogram.push_sum.Goals as goal

pub returns : goal.returns
returns c =
    subst (λ (seconds : List ℕ). OnOk c.push_seconds.result (c.push_seconds.new.text.items ≡ c.args.text.now.items
    ++ (server_seconds c.args.labels.now.server.now c.args.labels.now.outcome.now seconds ++ (10 ∷ []))))
    (c.as_str.ensures.value ∙ c.in_ok-seconds.ensures) c.push_seconds.ensures
