use Rattle.rolling_audit.proofs.Borne.{accuse_rightly, close_rightly}
use Rattle.rolling_audit.proofs.Late.{finds_untaken}
use Rattle.rolling_audit.proofs.laws.accuse_rightly.Goals as goal

pub returns : goal.returns
returns c = record { law = accuse_rightly; close = close_rightly; untaken = finds_untaken }
