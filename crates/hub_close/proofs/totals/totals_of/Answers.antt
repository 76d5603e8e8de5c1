use Rattle.mux_agree.specs.Walk.{histories, all_records}
use Rattle.hub_close.proofs.totals.totals_of.Goals as goal

pub returns-clause-dispatches : goal.returns-clause-dispatches
returns-clause-dispatches c =
    c.run_totals.ensures.dispatches (all_records (histories c.args.downs.now c.args.ups.now)) c.kind_counts.ensures

pub returns-clause-replies : goal.returns-clause-replies
returns-clause-replies c =
    c.run_totals.ensures.replies (all_records (histories c.args.downs.now c.args.ups.now)) c.kind_counts.ensures
