use Rattle.std.proofs.Common.{◌≡◌, ◌+◌, ◌-◌, true, ℕ, arith, ap, sym, refl, ◌∙◌}
use Rattle.std.specs.Prelude.{is_some}
use Rattle.std.specs.FinMap as map
use Rattle.tag_pool.proofs.PoolLemmas.{same_entries, place_held, held_in-rewritten}
use Rattle.tag_pool.specs.Pool.{held_in}
use Rattle.tag_pool.proofs.pool.TagPool.entry_mut.Goals as goal

pub overflow_sub-tag : goal.overflow_sub-tag
overflow_sub-tag g c = (place_held c.self.inside.slots.slots c.args.tag (rw (← c.self.view_is) at c.requires)).0

pub index_mut-requires : goal.index_mut-requires
index_mut-requires g c =
    let held : is_some (map.get (held_in c.self.inside.slots.slots) c.args.tag) ≡ true = rw (← c.self.view_is) at c.requires in
    ap is_some (sym (place_held c.self.inside.slots.slots c.args.tag held).1) ∙ held

pub returns : goal.returns
returns g c =
    let held : is_some (map.get (held_in c.self.inside.slots.slots) c.args.tag) ≡ true = rw (← c.self.view_is) at c.requires in
    let place = place_held c.self.inside.slots.slots c.args.tag held in
    let at : 2 + (c.args.tag - 2) ≡ c.args.tag = omega (arith, place.0) in (
      (
        refl,
        λ w. rw (← c.self.view_is)
            (same_entries c.self.inside.room _ _
            (held_in-rewritten c.self.inside.slots (c.args.tag - 2) w (ap is_some (sym place.1) ∙ held)
            ∙ ap (λ (t : ℕ). map.insert (held_in c.self.inside.slots.slots) t w) at)),
      ),
      record { writes_back = tt; value = rw (← c.self.view_is) (place.1 ∙ c.index_mut.ensures.value) },
    )
