-- Lines that were answered one after another.
use Rattle.std.proofs.Common.{List, [], ◌++◌, map, flat_map, refl, sym, ap, subst, ◌∙◌}
use Rattle.std.proofs.lemmas.Grind.{flat_map-append}
use Rattle.std.proofs.lemmas.List.{map-append}
use Rattle.std.proofs.lemmas.List.Elements.{All-append, All-nil}
use Rattle.line_session.specs.Answering.{Answered}
use Rattle.admin_port.specs.Serving.{Obeyed, Serves}
use Rattle.admin_port.specs.Carrying.{AnswersBy, IsRight, done_by, said_by}

pub nothing_carried : {O : Type 0} (obeys : Serves O) → ((s : O) → obeys s [] s) → (s : O) → AnswersBy obeys s [] s
nothing_carried obeys nothing s = ([], nothing s, All-nil IsRight, refl)

pub carried_in_order : {O : Type 0} (obeys : Serves O)
    → ((a : O) (xs : Obeyed) (b : O) (ys : Obeyed) (c : O) → obeys a xs b → obeys b ys c → obeys a (xs ++ ys) c)
    → (a : O) (xs : List Answered) (b : O) (ys : List Answered) (c : O)
    → AnswersBy obeys a xs b → AnswersBy obeys b ys c → AnswersBy obeys a (xs ++ ys) c
carried_in_order obeys in_order a xs b ys c first second = (
  first.0 ++ second.0,
  subst (λ qs. obeys a qs c) (sym (flat_map-append done_by first.0 second.0))
      (in_order a (flat_map done_by first.0) b (flat_map done_by second.0) c first.1 second.1),
  All-append IsRight first.0 second.0 first.2 second.2,
  ap (λ zs. zs ++ ys) first.3 ∙ ap (λ zs. map said_by first.0 ++ zs) second.3 ∙ sym (map-append said_by first.0 second.0),
)
