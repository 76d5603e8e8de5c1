-- Each frame that goes out to a client stands in the hub's log.
use Rattle.std.proofs.Common.{List, subst}
use Rattle.hub_log.specs.Moves.{EachMove, Move}
use Rattle.hub_log.specs.Sources.{AreSent}
use Rattle.hub_log.proofs.Standing.{every_frame_stands}
use Rattle.hub.specs.Laws.{WhatGoesOutStands}

pub what_goes_out_stands : WhatGoesOutStands
what_goes_out_stands t n frames v (before, is, bag) = (
  before,
  is,
  bag,
  (subst (λ (log : List Move). EachMove (λ m old. AreSent m.session m.deed old) log) is (every_frame_stands t v.seen bag)).0,
)
