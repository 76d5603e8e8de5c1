use Rattle.std.proofs.Common.{◌∙◌, ap}
use Rattle.std.specs.Prelude.{not}
use Rattle.mux_agree.specs.Seen.{past_of}
use Rattle.mux_agree.proofs.Waiting.{free_by}
use Rattle.mux_agree.proofs.agreement.past.Past.is_free.Goals as goal

pub returns : goal.returns
returns c = ap not c.holds_one.ensures ∙ free_by c.args.session (past_of c.args.self)
