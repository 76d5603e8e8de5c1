use Rattle.std.proofs.Common.{◌∙◌}
use Rattle.mux_model.specs.Steps.{records}
use Rattle.hub_close.specs.Words.{down_word_by}
use Rattle.hub_close.proofs.Standing.{down_word_is}
use Rattle.hub_steps.proofs.figures.down_word_of.Goals as goal

pub returns : goal.returns
returns c p b =
    c.down_word.ensures ∙ (λ i. down_word_by (c.is_closed.ensures p b i) (c.standing.ensures p b i)) ∙ down_word_is (records p.steps)
