use Rattle.std.proofs.Common.{sym, refl, subst, ◌∷◌, []}
use Rattle.hub_log.specs.Views.{AddsAll}
use Rattle.tests_threads.specs.Rounds.{client_opens, takes}
use Rattle.tests_threads.proofs.Rounds.{may_begin}
use Rattle.tests_threads.proofs.round.begin.Goals as goal

pub add_all-requires : goal.add_all-requires
add_all-requires g c =
    (client_opens ∷ takes ∷ [], refl, subst (λ t. AddsAll t c.args.client.now (client_opens ∷ takes ∷ [])) (sym c.requires.terms) (may_begin c.args.client.now c.requires.fresh))
