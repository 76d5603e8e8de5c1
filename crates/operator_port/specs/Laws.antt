-- Questions that were asked one after another.
use Rattle.std.proofs.Common.{List, [], ◌++◌, map, flat_map, refl, sym, ap, subst, ◌∙◌}
use Rattle.std.proofs.lemmas.Grind.{flat_map-append}
use Rattle.std.proofs.lemmas.List.{map-append}
use Rattle.std.proofs.lemmas.List.Elements.{All-append, All-nil}
use Rattle.line_session.specs.Answering.{Answered}
use Rattle.operator_port.specs.Asking.{Asked, Asks, AnswersBy, done_by, said_by, IsRight}

pub nothing_asked : {K : Type 0} (asks : Asks K) → ((s : K) → asks s [] s) → (s : K) → AnswersBy asks s [] s
nothing_asked asks nothing s = ([], nothing s, All-nil IsRight, refl)

pub asked_in_order : {K : Type 0} (asks : Asks K)
    → ((a : K) (xs : Asked) (b : K) (ys : Asked) (c : K) → asks a xs b → asks b ys c → asks a (xs ++ ys) c)
    → (a : K) (xs : List Answered) (b : K) (ys : List Answered) (c : K)
    → AnswersBy asks a xs b → AnswersBy asks b ys c → AnswersBy asks a (xs ++ ys) c
asked_in_order asks in_order a xs b ys c first second = (
  first.0 ++ second.0,
  subst (λ qs. asks a qs c) (sym (flat_map-append done_by first.0 second.0))
      (in_order a (flat_map done_by first.0) b (flat_map done_by second.0) c first.1 second.1),
  All-append IsRight first.0 second.0 first.2 second.2,
  ap (λ zs. zs ++ ys) first.3 ∙ ap (λ zs. map said_by first.0 ++ zs) second.3 ∙ sym (map-append said_by first.0 second.0),
)
