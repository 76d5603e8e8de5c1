-- How a session stands by its records, and by what a next epoch would begin with.
use Rattle.std.proofs.Common.{ℕ, List, ◌≡◌, Bool, true, false, Option, Some, None, is_some, unwrap_or, refl, if◌then◌else◌}
use Rattle.mux_history.specs.declared.record.Record.{Record}
use Rattle.mux_history.specs.declared.kind.Standing.TheVariants.{Down}
use Rattle.mux_history.specs.declared.session.DrainState.TheVariants.{Running, Asked, Acked}
use Rattle.mux_history.specs.declared.session.InitMode.{InitMode}
use Rattle.mux_history.specs.Lapse.{lease_of}
use Rattle.mux_history.specs.Readings.{dispatches, has_ended, init_by, is_drain_acked, is_drain_asked, is_drained_kind, is_fresh, is_open, is_retiring, stands}
use Rattle.mux_history.specs.Standings.{down_standing, up_standing}
use Rattle.hub_close.specs.declared.words.DownWord.TheVariants as downs
use Rattle.hub_close.specs.declared.words.UpWord.TheVariants as ups
use Rattle.hub_close.specs.Words.{down_word, down_word_by, lapse_by, up_word, up_word_by}

pub down_word_is : (past : List Record) → down_word_by (has_ended past) (down_standing past) ≡ down_word past
down_word_is past = by (has_ended past) (stands is_drain_acked past) (stands is_drain_asked past)
  where
    by : (ended acked asked : Bool)
        → down_word_by ended (Down (is_fresh past) (if acked then Acked else if asked then Asked else Running) (dispatches past))
        ≡ (if ended then downs.Closed else if acked then downs.Drained else if asked then downs.Draining else downs.Open)
    by true acked asked = refl
    by false true asked = refl
    by false false true = refl
    by false false false = refl

pub up_word_is : (mode : InitMode) (past : List Record) → up_word_by (has_ended past) (up_standing mode past) ≡ up_word mode past
up_word_is mode past = by (has_ended past)
  where
    by : (ended : Bool) → up_word_by ended (up_standing mode past)
        ≡ (if ended then ups.Closed
        else if stands is_drained_kind past then ups.Drained
        else if stands is_retiring past then ups.Retired
        else if is_open (init_by mode past) then ups.Open
        else ups.Opening)
    by true = refl
    by false = refl

pub lapse_is : (mode : InitMode) (past : List Record) → lapse_by (up_standing mode past) ≡ lease_of past
lapse_is mode past = by (lease_of past)
  where
    by : (lease : Option ℕ) → (if is_some lease then Some (unwrap_or lease 0) else None) ≡ lease
    by None = refl
    by (Some n) = refl
