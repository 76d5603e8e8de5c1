use Rattle.std.proofs.Common.{◌≡◌, ◌∙◌, ◌<◌, List, ℕ, Option, ap, false, length, not, option_map, refl, subst, sym}
use Rattle.std.specs.List.{list_any}
use Rattle.std.specs.Str.{bytes_eq}
use Rattle.published_routes.specs.Marks.{noted}
use Rattle.published_routes.proofs.Marking.{Name, noted_known, noted_new, room_left}
use Rattle.published_routes.proofs.marks.Marks.note.Goals as goal
use Rattle.published_routes.proofs.marks.Marks.note.Goals.{In-Ok}

not_known : (c : In-Ok) → list_any (λ (k : Name). bytes_eq c.in-Some.dst.items k.items) c.self.inside.names.keys ≡ false
not_known c =
    ap (λ (bs : List ℕ). list_any (λ (k : Name). bytes_eq bs k.items) c.self.inside.names.keys) (sym c.as_slice.ensures.value)
    ∙ sym c.contains.ensures ∙ c.if-contains.false

has_place : (c : In-Ok) → length c.self.inside.names.keys < 256
has_place c = subst (λ n. n < 256) c.len.ensures.len c.if-len-ge-MARKS.false

pub returns-then-contains : goal.returns-then-contains
returns-then-contains c =
    noted_known c.self.inside.names.keys c.args.self.now c.in-Some.dst.items c.contains.result c.self.view_is
    (c.contains.ensures ∙ ap (λ (bs : List ℕ). list_any (λ (k : Name). bytes_eq bs k.items) c.self.inside.names.keys) c.as_slice.ensures.value)
    c.if-contains.true
    ∙ ap (λ (o : Option Name). noted c.args.self.now (option_map (λ d. d.items) o)) (sym c.in-Some.is)

pub invariant_of-self : goal.invariant_of-self
invariant_of-self c =
    room_left _ _ _ _ c.in-Ok.field-0 (c.in-Ok.ensures.added ∙ ap not (not_known c)) (has_place c) c.self.invariant.1
    c.in-Ok.ensures.len c.insert.ensures.spare

pub returns : goal.returns
returns c =
    noted_new c.self.inside.names.keys c.insert.new.self.keys c.args.self.now c.in-Some.dst false c.self.view_is
    (sym (not_known c)) refl (has_place c) c.in-Ok.ensures.keys
    ∙ ap (λ (o : Option Name). noted c.args.self.now (option_map (λ d. d.items) o)) (sym c.in-Some.is)
