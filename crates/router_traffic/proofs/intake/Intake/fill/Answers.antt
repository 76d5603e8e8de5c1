use Rattle.std.proofs.Common.{[], ap, rules}
use Rattle.router_traffic.specs.Handing.{waits_in}
use Rattle.router_traffic.specs.HandingLaws.{nothing}
use Rattle.router_traffic.proofs.Handing.{all_came}
use Rattle.router_traffic.proofs.intake.Intake.fill.Goals as goal

pub returns-in-Some-clause-run : goal.returns-in-Some-clause-run
returns-in-Some-clause-run g c =
    let run = c.fill.ensures.run in record {
      frames = run.frames;
      taken = all_came _ _ _ _ (ap waits_in c.in-Some.is) run.taken;
      within = run.within;
      cut = run.cut;
      counted = run.counted;
    }

pub returns-in-None-clause-run : goal.returns-in-None-clause-run
returns-in-None-clause-run g c = record {
  frames = [];
  taken = nothing _;
  within = search rules;
  cut = search rules;
  counted = search rules;
}
