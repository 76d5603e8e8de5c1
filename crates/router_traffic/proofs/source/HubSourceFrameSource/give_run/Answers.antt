use Rattle.std.proofs.Common.{refl}
use Rattle.router_traffic.specs.GivingLaws.{gives_front}
use Rattle.router_traffic.proofs.source.HubSourceFrameSource.give_run.Goals as goal

pub returns-clause-run : goal.returns-clause-run
returns-clause-run g c =
    let run = c.take_small.ensures.run in record {
      frames = run.frames;
      given = (refl, gives_front _ _ _ _ run.given);
      joined = run.joined;
      counted = run.counted;
    }
