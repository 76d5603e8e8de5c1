use Rattle.std.proofs.Common.{◌≡◌, map, take}
use Rattle.published_routes.proofs.marks.Marks.list.Given as goal

abbrev pub invariant-loop-name : goal.invariant-loop-name
invariant-loop-name l = map (λ d. d.items) l.list.items ≡ map (λ d. d.items) (take l.name-index l.names)
