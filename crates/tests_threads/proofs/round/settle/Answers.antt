use Rattle.std.proofs.Common.{sym, subst, ap, ◌∙◌, ◌++◌, length}
use Rattle.hub_log.specs.Moves.{Claim}
use Rattle.hub_log.specs.Rule.{joined}
use Rattle.hub_log.specs.Views.{View, Adds}
use Rattle.tests_threads.specs.Rounds.{first_name, settles}
use Rattle.tests_threads.proofs.Rounds.{may_settle}
use Rattle.tests_threads.proofs.round.settle.Goals as goal

pub add-requires : goal.add-requires
add-requires g c =
    let at : Claim = record { place = length c.requires.reply.before; which = 0 } in (
      settles first_name at,
      (at, ap (λ (v : View). v.hands) c.join.ensures ∙ (ap (λ hs. hs ++ c.args.reply.hands) c.requires.took.hands ∙ c.requires.reply.hands), ap (λ n. settles n at) (sym c.requires.name)),
      subst (λ v. Adds g.B.Room.terms v (settles first_name at)) (sym c.join.ensures) (subst (λ t. Adds t (joined c.args.client.now c.args.reply) (settles first_name at)) (sym c.requires.terms) (may_settle c.args.client.now c.args.reply c.requires.took c.requires.reply)),
    )
