use Rattle.std.proofs.Common.{sym, refl, subst}
use Rattle.hub_log.specs.Views.{Adds}
use Rattle.tests_threads.specs.Rounds.{server_opens}
use Rattle.tests_threads.proofs.Rounds.{may_open}
use Rattle.tests_threads.proofs.round.open_server.Goals as goal

pub add-requires : goal.add-requires
add-requires g c = (server_opens, refl, subst (λ t. Adds t c.args.server.now server_opens) (sym c.requires.terms) (may_open c.args.server.now c.requires.fresh))
