use Rattle.std.proofs.Common.{◌∙◌, Option, Some, Vec, Bor, Global, map, ap, sym}
use Rattle.std.specs.Option.{option_map}
use Rattle.toml.specs.View.{view, array_view}
use Rattle.toml.specs.declared.value.Value.{Value}
use Rattle.route_table.specs.Entries.{datas}
use Rattle.route_table.proofs.Values.{datas_of_list}
use Rattle.route_table.proofs.arrays.list_of.Goals as goal

pub returns-in-Some : goal.returns-in-Some
returns-in-Some c =
    let found = sym (ap (λ (o : Option (Bor (Vec Value Global))). option_map (λ (v : Bor (Vec Value Global)). array_view v.now) o) c.in-Some.is) ∙ c.as_array.ensures in
    ap (λ vs. Some (map view vs)) c.as_slice.ensures.value
    ∙ ap Some (sym (datas_of_list (map view c.in-Some.items.now.items))) ∙ ap (option_map datas) found
