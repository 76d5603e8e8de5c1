use Rattle.std.proofs.Common.{◌∙◌}
use Rattle.mux_model.specs.Steps.{records}
use Rattle.hub_close.specs.Words.{up_word_by}
use Rattle.hub_close.proofs.Standing.{up_word_is}
use Rattle.hub_steps.proofs.figures.up_word_of.Goals as goal

pub returns : goal.returns
returns c p begun b =
    c.up_word.ensures
    ∙ (λ i. up_word_by (c.is_closed.ensures p b i) (c.standing.ensures p begun b i)) ∙ up_word_is c.args.session.now.mode (records p.steps)
