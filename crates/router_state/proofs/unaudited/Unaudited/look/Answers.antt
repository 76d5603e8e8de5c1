use Rattle.std.proofs.Common.{refl}
use Rattle.router_state.proofs.unaudited.Unaudited.look.Goals as goal

pub returns-in-Ok-clause-ok : goal.returns-in-Ok-clause-ok
returns-in-Ok-clause-ok c =
    λ ok.
    let done = c.in-Ok.ensures.ok refl in
    record { seen = c.look.new.self.seen; all = done.0; looks = done.1; whole = done.2; ends = done.3 }
