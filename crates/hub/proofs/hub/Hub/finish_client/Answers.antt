use Rattle.std.proofs.Common.{subst}
use Rattle.hub_places.specs.Numbering.{KeepsDown}
use Rattle.hub.proofs.hub.Hub.finish_client.Goals as goal

pub returns : goal.returns
returns g c =
    let left = c.in_ok-session.ensures in (
      left.0,
      left.1,
      (
        c.in_ok-session.session,
        left.2,
        record {
          all = c.into_histories.ensures.value;
          first = c.given_up-first.ensures;
          kept = c.into_histories.ensures.kept;
          whole = c.into_histories.ensures.whole;
        },
      ),
      subst (λ n. KeepsDown n left.0) c.client-client.ensures.is left.3,
      subst (λ n. KeepsDown n left.1) c.client-client.ensures.is left.4,
    )
