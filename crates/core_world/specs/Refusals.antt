-- Refusals, as the world names them.
use Rattle.mux_model.specs.Steps as model
use Rattle.core_world.specs.declared.refusal.Refusal.{Refusal}
use Rattle.core_world.specs.declared.refusal.Refusal.TheVariants as whys
use Rattle.translate_book.specs.declared.refusal.StepRefusal.{StepRefusal}
use Rattle.translate_book.specs.declared.refusal.StepRefusal.TheVariants as steps
use Rattle.translate_book.specs.declared.refusal.SealRefusal.{SealRefusal}
use Rattle.translate_book.specs.declared.refusal.SealRefusal.TheVariants as seals
use Rattle.translate_book.specs.declared.refusal.RollRefusal.{RollRefusal}
use Rattle.translate_book.specs.declared.refusal.RollRefusal.TheVariants as rolls

abbrev pub refusal_of : Refusal → model.Refusal
refusal_of whys.Closed = model.IsClosed
refusal_of whys.Busy = model.IsBusy
refusal_of whys.Spent = model.IsSpent
refusal_of whys.NotMine = model.NotMine
refusal_of whys.AlreadyDraining = model.AlreadyDraining
refusal_of whys.NotOpen = model.NotOpen
refusal_of whys.Drained = model.IsDrained
refusal_of whys.Retired = model.IsRetired
refusal_of whys.Lapsed = model.IsLapsed
refusal_of whys.Full = model.IsFull
refusal_of whys.Outstanding = model.Outstanding
refusal_of whys.NotQuiet = model.NotQuiet
refusal_of whys.NotFull = model.NotFull
refusal_of whys.LastEpoch = model.LastEpoch
refusal_of whys.NoRoom = model.NoRoom

abbrev pub why_step : StepRefusal → Refusal
why_step steps.Closed = whys.Closed
why_step steps.Busy = whys.Busy
why_step steps.Spent = whys.Spent

abbrev pub why_seal : SealRefusal → Refusal
why_seal seals.Closed = whys.Closed
why_seal seals.NotQuiet = whys.NotQuiet
why_seal seals.NotFull = whys.NotFull
why_seal seals.LastEpoch = whys.LastEpoch

abbrev pub why_roll : RollRefusal → Refusal
why_roll rolls.Closed = whys.Closed
why_roll rolls.NoRoom = whys.NoRoom
why_roll rolls.LastEpoch = whys.LastEpoch
