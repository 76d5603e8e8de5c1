use Rattle.router_core.proofs.Listing.{NotBefore}
use Rattle.router_core.proofs.sides.side_at.Given as goal

abbrev pub invariant-loop-place : goal.invariant-loop-place
invariant-loop-place l = NotBefore l.fn.boot l.fn.id l.fn.sides l.place
