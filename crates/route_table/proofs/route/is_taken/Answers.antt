use Rattle.std.proofs.Common.{true, cond, string_bytes, ap, ◌∙◌}
use Rattle.std.specs.Str.{bytes_eq}
use Rattle.std.specs.HashSet.{contains_text}
use Rattle.std.proofs.lemmas.Map.Text.{hash_set_updates_text}
use Rattle.route_table.proofs.route.is_taken.Goals as goal

pub returns-clause-is : goal.returns-clause-is
returns-clause-is c = λ d.
    hash_set_updates_text (string_bytes c.in_ok-from_str.field-0) c.args.taken.now c.insert.new.self true c.in_ok-is_new.ensures.updates d
    ∙ ap (λ bs. cond (bytes_eq bs d) true (contains_text c.args.taken.now d)) (c.in_ok-from_str.ensures.ok ∙ c.as_str.ensures.value)
