use Rattle.std.proofs.Common.{refl}
use Rattle.kept_session.proofs.Reaching.{noted, advanced, keeps_on}
use Rattle.mux_model.specs.Steps.{ClockCall}
use Rattle.kept_session.proofs.client.KeptClientSession.clock.Goals as goal

pub invariant_of-self : goal.invariant_of-self
invariant_of-self c =
    (c.self.invariant.0, c.self.invariant.1, keeps_on c.self.inside.mode c.self.inside.ended.items c.self.inside.session _ _ (λ p q. noted p q (ClockCall c.args.now) c.clock.result tt tt refl) c.clock.ensures.step c.self.invariant.2)

pub returns-clause-step : goal.returns-clause-step
returns-clause-step c = rw (← c.self.view_is) (advanced c.self.inside.mode c.self.inside.ended.items c.self.inside.session _ _ (λ p q. noted p q (ClockCall c.args.now) c.clock.result tt tt refl) c.clock.ensures.step)
