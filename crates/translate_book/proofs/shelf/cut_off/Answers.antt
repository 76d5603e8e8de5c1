use Rattle.std.proofs.Common.{rules}
use Rattle.translate_book.proofs.Filtered.{filtered}
use Rattle.translate_book.specs.Entries.{is_held}
use Rattle.translate_book.proofs.shelf.cut_off.Goals as goal

pub returns-clause-after : goal.returns-clause-after
returns-clause-after c = filtered _ (λ p. is_held p.1) (λ f x b g k. search rules) _ _ _ c.retain.ensures.filtered
