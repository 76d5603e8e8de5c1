use Rattle.std.proofs.Common.{List, subst, refl}
use Rattle.std.specs.Prelude.{reverse}
use Rattle.std.specs.List.Sorted.{IsPermutation}
use Rattle.std.proofs.lemmas.List.{reverse-reverse}
use Rattle.std.proofs.lemmas.List.Sorted.{IsPermutation-reverse}
use Rattle.mux_agree.specs.Walk.{Kept, histories}
use Rattle.rolling_audit.proofs.verdict.seen.Goals as goal

back : (hs : List Kept) → IsPermutation (reverse hs) hs
back hs = subst (IsPermutation (reverse hs)) (reverse-reverse hs) (IsPermutation-reverse (reverse hs))

pub returns-in-Ok-clause-borne : goal.returns-in-Ok-clause-borne
returns-in-Ok-clause-borne c =
    let hs = histories c.args.downs.now c.args.ups.now in
    λ h. c.in-Ok.ensures.order refl (reverse hs) hs c.in_ok-audit.ensures (back hs)

pub returns-in-Ok-clause-ended : goal.returns-in-Ok-clause-ended
returns-in-Ok-clause-ended c =
    let hs = histories c.args.downs.now c.args.ups.now in
    λ h. c.are_recalls_ended.ensures.yes h (reverse hs) hs c.in_ok-audit.ensures (back hs)
