use Rattle.std.proofs.Common.{◌∷◌, []}
use Rattle.hub_log.proofs.Passes.{begins}
use Rattle.hub_log.proofs.book.Laid.new.Goals as goal

pub of_words-requires : goal.of_words-requires
of_words-requires c = begins (0 ∷ []) c.args.terms.now
