use Rattle.std.proofs.Common.{◌∙◌}
use Rattle.mux_agree.specs.Walk.{all_records}
use Rattle.hub.proofs.run.closed_by.Goals as goal

pub returns : goal.returns
returns c =
    let totals = c.run_totals-records.ensures in
    record {
      records = λ hs covers. totals.records ∙ c.records.ensures hs covers;
      dispatches = λ hs covers. totals.dispatches (all_records hs) (c.counts.ensures hs covers);
      replies = λ hs covers. totals.replies (all_records hs) (c.counts.ensures hs covers);
    }
