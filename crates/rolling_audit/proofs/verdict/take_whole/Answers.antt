use Rattle.std.proofs.Common.{rules}
use Rattle.mux_agree.specs.Walk.{joined}
use Rattle.rolling_audit.proofs.Whole.{takes_whole}
use Rattle.rolling_audit.proofs.verdict.take_whole.Goals as goal

pub returns : goal.returns
returns c =
    λ h.
    takes_whole c.args.audit.now c.open.new.self c.take_epochs.new.audit c.end.new.self c.args.session c.args.mode (joined c.args.epochs.now) (c.open.ensures.ok (search rules))
    (c.take_epochs.ensures c.if-not-take_epochs.false) c.end.ensures.stays
