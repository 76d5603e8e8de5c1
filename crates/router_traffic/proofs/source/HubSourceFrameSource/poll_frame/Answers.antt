use Rattle.std.proofs.Common.{◌≡◌, [], refl, sym, subst}
use Rattle.router_traffic.specs.Giving.{Gives}
use Rattle.router_traffic.specs.GivingLaws.{gives_first, gives_none}
use Rattle.router_traffic.proofs.source.HubSourceFrameSource.poll_frame.Goals as goal
use Rattle.router_traffic.proofs.source.HubSourceFrameSource.poll_frame.Goals.{then-is_empty+in-Ready-true, else-is_empty}

pub returns-clause-frames : goal.returns-clause-frames
returns-clause-frames g c =
    let session = c.args.self.now.session in
    let had = c.args.self.now.next.items in
    let hand : (c.if-is_empty.self.session ≡ session) × Gives session had [] c.if-is_empty.self.next.items =
    elim c.if-is_empty.branch [
      | then-is_empty+in-Ready-true w ↦
          subst (λ s. (s.session ≡ session) × Gives session had [] s.next.items) (sym w.self-is)
          (w.refill.ensures.same, w.refill.ensures.gives)
      | else-is_empty w ↦
          subst (λ s. (s.session ≡ session) × Gives session had [] s.next.items) (sym w.self-is)
          (refl, gives_none session had)
    ] in
    (hand.0, gives_first had _ _ _ hand.1 c.pop.ensures.front c.pop.ensures.left)
