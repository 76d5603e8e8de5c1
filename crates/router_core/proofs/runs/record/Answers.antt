use Rattle.std.proofs.Common.{◌∙◌, map}
use Rattle.mux_model.specs.Entries.{said_by}
use Rattle.router_core.specs.Lists.{shown_side}
use Rattle.router_core.proofs.Running.{entered_by}
use Rattle.router_core.proofs.Seeing.{on_ok}
use Rattle.router_core.proofs.runs.record.Goals as goal

pub returns : goal.returns
returns c = λ w b.
    on_ok c.enter.result
    (λ u into. entered_by w c.args.met c.in-Some.met (said_by c.args.taken) (map shown_side c.args.sides.now.items) (map shown_side c.enter.new.sides.items) c.boot.result c.in-Some-2.entry c.in_ok-entry.field-0
    c.in-Some.is (c.boot.ensures ∙ b.boot) c.in-Some-2.is into (c.in_ok-entry.ensures w b)) c.enter.ensures
