use Rattle.std.proofs.Common.{refl, sym}
use Rattle.mux_agree.specs.Walk.{histories}
use Rattle.mux_agree.proofs.Faults.{bears_out_ok}
use Rattle.rolling_audit.proofs.verdict.audit_recalls.Goals as goal

pub returns-in-Some-clause-value : goal.returns-in-Some-clause-value
returns-in-Some-clause-value c = sym (bears_out_ok (histories c.args.downs.now c.args.ups.now) (c.in-Some.ensures.borne refl))
