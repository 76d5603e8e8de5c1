use Rattle.std.proofs.Common.{refl}
use Rattle.kept_session.proofs.Reaching.{pinged, advanced, keeps_on}
use Rattle.mux_model.specs.Steps.{PingCall}
use Rattle.kept_session.proofs.client.KeptClientSession.ping.Goals as goal

pub invariant_of-self : goal.invariant_of-self
invariant_of-self c =
    (c.self.invariant.0, c.self.invariant.1, keeps_on c.self.inside.mode c.self.inside.ended.items c.self.inside.session _ _ (λ p q. pinged p q (PingCall c.args.now) c.ping.result tt tt refl) c.ping.ensures.step c.self.invariant.2)

pub returns-clause-step : goal.returns-clause-step
returns-clause-step c = rw (← c.self.view_is) (advanced c.self.inside.mode c.self.inside.ended.items c.self.inside.session _ _ (λ p q. pinged p q (PingCall c.args.now) c.ping.result tt tt refl) c.ping.ensures.step)
