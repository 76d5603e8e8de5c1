use Rattle.std.proofs.Common.{List, Option, Some, ◌++◌, subst, sym}
use Rattle.mux_history.specs.Counting.{IsCount}
use Rattle.mux_history.specs.Log.{Log}
use Rattle.mux_agree.specs.Walk.{joined}
use Rattle.kept_session.specs.Reached.{Kept}
use Rattle.hub_steps.specs.Records.{CountsUp}
use Rattle.hub_steps.proofs.records.up_counts.Goals as goal

pub returns : goal.returns
returns c =
    subst (λ (s : Option Kept). CountsUp s (Some (record { steps = c.joined_counts.result; delays = c.delays.result }))) (sym c.in-Some.is) (
      subst (λ (hs : List Log). IsCount c.joined_counts.result (joined hs ++ c.in-Some.session.state.records)) c.ended.ensures
          (c.joined_counts.ensures c.in-Some.session.state.records c.counts.ensures),
      c.delays.ensures,
    )
