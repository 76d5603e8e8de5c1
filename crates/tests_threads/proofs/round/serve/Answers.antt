use Rattle.std.proofs.Common.{sym, refl, subst, ap, ◌∙◌, ◌∷◌, ◌++◌, [], List, length}
use Rattle.hub_log.specs.Moves.{Claim, Move}
use Rattle.hub_log.specs.Rule.{joined}
use Rattle.hub_log.specs.Views.{View, AddsAll}
use Rattle.tests_threads.specs.Rounds.{offers, replies}
use Rattle.tests_threads.proofs.Rounds.{may_serve}
use Rattle.tests_threads.proofs.round.serve.Goals as goal

pub add_all-requires : goal.add_all-requires
add_all-requires g c =
    let at : Claim = record { place = length c.requires.ticket.before; which = 0 } in
    let ms : List Move = offers at ∷ replies ∷ [] in (
      ms,
      (at, ap (λ (v : View). v.hands) c.join.ensures ∙ (ap (λ hs. hs ++ c.args.ticket.hands) c.requires.opened.hands ∙ c.requires.ticket.hands), refl),
      subst (λ v. AddsAll g.B.Room.terms v ms) (sym c.join.ensures) (subst (λ t. AddsAll t (joined c.args.server.now c.args.ticket) ms) (sym c.requires.terms) (may_serve c.args.server.now c.args.ticket c.requires.opened c.requires.ticket)),
    )
