use Rattle.audit_laws.proofs.Forgotten.{done_for_good}
use Rattle.audit_laws.proofs.Taken.{every_name_is_taken}
use Rattle.audit_laws.proofs.laws.done_for_good.Goals as goal

pub returns : goal.returns
returns c = record { law = done_for_good; taken = every_name_is_taken }
