use Rattle.std.proofs.Common.{sym, subst, ◌∙◌, rules}
use Rattle.server_session.specs.Belonging.{Belongs}
use Rattle.server_session.specs.Past.{begun}
use Rattle.kept_session.specs.ReachedDown.{KeptDown}
use Rattle.hub_log.specs.declared.terms.Terms.{Terms}
use Rattle.hub.proofs.Opening.{handed, some_if}
use Rattle.hub.proofs.hub.Hub.open_client.Goals as goal

pub put_client-requires-clause-begun : goal.put_client-requires-clause-begun
put_client-requires-clause-begun g c =
    let number = some_if _ _ c.in-Some.client (sym c.in-Some.is ∙ c.next_client.ensures) in
    subst (λ (t : Terms). Belongs c.in-Ok-opened.session.state (begun (record { limits = t.limits; boot = t.boot; number = c.client-client.result })))
    (sym c.args.self.now.terms)
    (subst (λ n. Belongs c.in-Ok-opened.session.state (begun (record { limits = c.args.self.now.limits; boot = c.args.self.now.boot; number = n })))
    (search rules)
    (handed (λ (k : KeptDown). Belongs k.state (begun (record { limits = c.args.self.now.limits; boot = c.args.self.now.boot; number = c.in-Some.client })))
    c.open-session.result c.in-Ok-opened.session c.open-session.ensures.begun c.in-Ok-opened.ensures.session))
