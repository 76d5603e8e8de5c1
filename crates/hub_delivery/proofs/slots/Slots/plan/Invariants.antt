use Rattle.std.proofs.Common.{◌≡◌, vec_len}
use mathlib.Core.List.{IsPrefix}
use Rattle.hub_log.specs.Views.{View}
use Rattle.hub_places.specs.Holding.{HasClaims}
use Rattle.hub_delivery.specs.Carrying.{Aimed}
use Rattle.hub_delivery.proofs.Aiming.{AreAimedBelow}
use Rattle.hub_delivery.proofs.Carrying.{SeenLast}
use Rattle.hub_delivery.specs.Leaving.{KeepsBatch, NoMore, reply_of}
use Rattle.hub_delivery.proofs.slots.Slots.plan.Given as goal

abbrev pub invariant-loop-at : goal.invariant-loop-at
invariant-loop-at g l =
    IsPrefix l.initial.routes l.routes × KeepsBatch l.initial.batch l.batch
    × NoMore reply_of l.initial.batch.errands l.batch.errands
    × Aimed (vec_len l.self.ups) l.but l.initial.routes l.initial.batch.errands l.routes l.batch.errands
    × SeenLast l.initial.routes l.routes l.batch.errands l.last l.found
    × AreAimedBelow l.at (vec_len l.self.ups) l.but l.initial.routes l.routes l.batch.errands
    × ((v : View) → HasClaims v l.initial.batch.errands → HasClaims v l.batch.errands)
