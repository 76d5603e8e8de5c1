use Rattle.std.proofs.Common.{◌∙◌, ap}
use Rattle.mux_model.specs.Steps.{records}
use Rattle.hub_close.specs.Words.{lapse_by}
use Rattle.hub_close.proofs.Standing.{lapse_is}
use Rattle.hub_steps.proofs.figures.lapse_of.Goals as goal

pub returns : goal.returns
returns c p begun b =
    c.lapse.ensures ∙ ap lapse_by (c.standing.ensures p begun b) ∙ lapse_is c.args.session.now.mode (records p.steps)
