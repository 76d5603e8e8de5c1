use Rattle.published_routes.proofs.Prefixes.{prefix_both}
use Rattle.published_routes.proofs.front.is_same.Goals as goal

pub returns-then-begins : goal.returns-then-begins
returns-then-begins g c = λ same. prefix_both c.args.front.now c.args.other.now (c.begins.ensures c.if-begins.true) (c.begins-then-begins.ensures same)
