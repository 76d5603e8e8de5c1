use Rattle.std.proofs.lemmas.List.Sorted.{IsPermutation-refl}
use Rattle.rolling_audit.proofs.run.RunAudit.are_recalls_ended.Goals as goal

pub returns-clause-yes : goal.returns-clause-yes
returns-clause-yes c = λ h hs covers. c.are_recalls_ended.ensures.yes h hs hs covers.taken (IsPermutation-refl hs)

pub returns-clause-no : goal.returns-clause-no
returns-clause-no c = λ h fine hs covers. c.are_recalls_ended.ensures.no h fine hs covers.taken
