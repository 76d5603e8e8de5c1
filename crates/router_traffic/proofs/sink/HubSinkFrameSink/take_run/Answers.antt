use Rattle.router_traffic.proofs.sink.HubSinkFrameSink.take_run.Goals as goal

pub returns-clause-run : goal.returns-clause-run
returns-clause-run g c =
    let run = c.fill.ensures.run in record {
      frames = run.frames;
      taken = run.taken;
      within = run.within;
      cut = run.cut;
      counted = run.counted;
    }
