use Rattle.std.proofs.Common.{◌++◌, Option, ap, sym, ◌∙◌, map, string_bytes, append-nil}
use Rattle.std.specs.Prelude.{String}
use Rattle.std.specs.Option.{option_map, option_to_list}
use Rattle.std.specs.declared.alloc.Global.{Global}
use Rattle.std.proofs.lemmas.Option.{slice_get_past}
use Rattle.router_tasks.proofs.rows.add_named.Goals as goal

pub returns-in-None : goal.returns-in-None
returns-in-None c =
    let xs = map string_bytes c.args.found.now.items in
    sym (append-nil xs)
    ∙ ap (λ (o : Option (String Global)). xs ++ option_to_list (option_map string_bytes o)) (sym (slice_get_past c.args.names.now c.args.server c.in-None.ensures.lookup.3))
