-- How a session leaves its slot.
use Rattle.std.specs.Prelude.{◌≡◌, ◌+◌, ℕ, List, length, Option, Some, None}
use Rattle.mux_history.specs.Log.{Log}
use Rattle.kept_session.specs.Histories.{with_present}
use Rattle.kept_session.specs.Reached.{IsAllOfOne, Kept, WereKept}
use Rattle.kept_session.specs.ReachedDown.{IsAllOfOneDown, KeptDown, WereKeptDown}
use Rattle.hub_steps.specs.Leaving.{Leaves, LeavesDown}

-- these are all histories of a client's session but those that it gave up, its present one the last; the first is that
-- of this epoch
pub record AreLeftOfDown (s : KeptDown) (epoch : ℕ) (logs : List Log) : Type 0 where
  pub all : logs ≡ with_present s.ended s.state.records s.state.limits.history
  pub first : epoch + length s.ended ≡ s.state.epoch
  pub kept : WereKeptDown logs
  pub whole : IsAllOfOneDown logs

-- the session left its slot with its histories, or it stays there
abbrev pub FinishesDown : (old new : Option KeptDown) → Option (ℕ × List Log) → Type 0
FinishesDown before after None = LeavesDown before after None
FinishesDown before after (Some left) = (s : KeptDown) × LeavesDown before after (Some s) × AreLeftOfDown s left.0 left.1

-- the same of a session towards a server
pub record AreLeftOf (s : Kept) (epoch : ℕ) (logs : List Log) : Type 0 where
  pub all : logs ≡ with_present s.ended s.state.records s.state.limits.history
  pub first : epoch + length s.ended ≡ s.state.epoch
  pub kept : WereKept logs
  pub whole : IsAllOfOne logs

abbrev pub Finishes : (old new : Option Kept) → Option (ℕ × List Log) → Type 0
Finishes before after None = Leaves before after None
Finishes before after (Some left) = (s : Kept) × Leaves before after (Some s) × AreLeftOf s left.0 left.1
