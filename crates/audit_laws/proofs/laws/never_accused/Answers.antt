use Rattle.audit_laws.proofs.Closed.{never_flawed}
use Rattle.audit_laws.proofs.Refused.{never_accused, never_refused}
use Rattle.audit_laws.proofs.laws.never_accused.Goals as goal

pub returns : goal.returns
returns c = record { law = never_accused; take = never_refused; close = never_flawed }
