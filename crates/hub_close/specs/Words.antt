-- How a session stands, in an operator's words.
use Rattle.std.specs.Prelude.{ℕ, List, Bool, true, false, Option, Some, None, if◌then◌else◌}
use Rattle.mux_history.specs.declared.record.Record.{Record}
use Rattle.mux_history.specs.declared.kind.Standing.{Standing}
use Rattle.mux_history.specs.declared.kind.Standing.TheVariants.{Down, Up}
use Rattle.mux_history.specs.declared.session.DrainState.{DrainState}
use Rattle.mux_history.specs.declared.session.DrainState.TheVariants as drains
use Rattle.mux_history.specs.declared.session.InitMode.{InitMode}
use Rattle.mux_history.specs.Readings.{has_ended, init_by, is_open, is_drain_acked, is_drain_asked, is_drained_kind, is_retiring, stands}
use Rattle.hub_close.specs.declared.words.DownWord.{DownWord}
use Rattle.hub_close.specs.declared.words.DownWord.TheVariants as downs
use Rattle.hub_close.specs.declared.words.UpWord.{UpWord}
use Rattle.hub_close.specs.declared.words.UpWord.TheVariants as ups

-- by its records, the newest first: the first that fits
abbrev pub down_word : List Record → DownWord
down_word past =
    if has_ended past then downs.Closed
    else if stands is_drain_acked past then downs.Drained
    else if stands is_drain_asked past then downs.Draining
    else downs.Open

abbrev pub up_word : InitMode → List Record → UpWord
up_word mode past =
    if has_ended past then ups.Closed
    else if stands is_drained_kind past then ups.Drained
    else if stands is_retiring past then ups.Retired
    else if is_open (init_by mode past) then ups.Open
    else ups.Opening

-- by whether it has ended, and what a next epoch would begin with
abbrev pub drain_word : DrainState → DownWord
drain_word drains.Running = downs.Open
drain_word drains.Asked = downs.Draining
drain_word drains.Acked = downs.Drained

abbrev pub down_word_by : (ended : Bool) → Standing → DownWord
down_word_by true standing = downs.Closed
down_word_by false (Down fresh drain dispatches) = drain_word drain
down_word_by false (Up init drained retired ping leased lapse) = downs.Open

abbrev pub up_word_by : (ended : Bool) → Standing → UpWord
up_word_by true standing = ups.Closed
up_word_by false (Up init drained retired ping leased lapse) =
    if drained then ups.Drained
    else if retired then ups.Retired
    else if is_open init then ups.Open
    else ups.Opening
up_word_by false (Down fresh drain dispatches) = ups.Open

-- when the last lease lapses
abbrev pub lapse_by : Standing → Option ℕ
lapse_by (Up init drained retired ping leased lapse) = if leased then Some lapse else None
lapse_by (Down fresh drain dispatches) = None
