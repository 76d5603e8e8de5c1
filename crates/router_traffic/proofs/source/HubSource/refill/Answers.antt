use Rattle.std.proofs.Common.{List, [], subst, sym}
use Rattle.mux_frame.specs.Views.{FrameView}
use Rattle.router_traffic.specs.Giving.{Gives}
use Rattle.router_traffic.specs.GivingLaws.{gives_out}
use Rattle.router_traffic.proofs.source.HubSource.refill.Goals as goal

pub returns-then-next_outs-gt0-clause-gives : goal.returns-then-next_outs-gt0-clause-gives
returns-then-next_outs-gt0-clause-gives g c =
    subst (λ (fs : List FrameView). Gives c.args.self.now.session c.args.self.now.next.items [] fs)
    (sym c.count_given.ensures.1)
    (gives_out _ _ _ _ _ c.requires c.begin_again.ensures c.next_outs.ensures)

pub returns-then-is_over-clause-gives : goal.returns-then-is_over-clause-gives
returns-then-is_over-clause-gives g c = gives_out _ _ _ _ _ c.requires c.begin_again.ensures c.next_outs.ensures

pub returns-then-is_ready-clause-gives : goal.returns-then-is_ready-clause-gives
returns-then-is_ready-clause-gives g c = gives_out _ _ _ _ _ c.requires c.begin_again.ensures c.next_outs.ensures

pub returns-clause-gives : goal.returns-clause-gives
returns-clause-gives g c = gives_out _ _ _ _ _ c.requires c.begin_again.ensures c.next_outs.ensures
