use Rattle.std.proofs.Common.{◌≡◌, ℕ, ◌+◌, ◌-◌, ◌<◌, nat_eq, drop, ◌∷◌, cond, true, false, None, Some, rules, sym, ap, subst, ◌∙◌, arith, is_some, if◌then◌else◌}
use Rattle.indexmap.specs.IndexMap.{get, spare, index_map_len}
use Rattle.translate_book.specs.declared.entry.Entry.{Entry}
use Rattle.translate_book.specs.Entries.{is_open}
use Rattle.translate_book.specs.Book.{held_in, open_count, IsOnce}
use Rattle.translate_book.proofs.Lists.{drop_before, read, open_at-open, open_at-shut, open_count-open, open_count-shut}
use Rattle.translate_book.proofs.Held.{held-open, open_at-held, open_count-held, open_count-held_drop, IsOnce-held_drop}
use Rattle.translate_book.proofs.opens.list_open.Goals as goal

-- an open entry is listed in front
pub loop-i-preserved-in-Ok-1 : goal.loop-i-preserved-in-Ok-1
loop-i-preserved-in-Ok-1 c =
    let es = c.args.entries.now in
    let i = c.loop-i.i in
    let p : ℕ × Entry = c.index-entries-i.result in
    let e = drop_before es i p (read es (i - 1) p (omega (arith, c.loop-i-test.true, c.loop-i.invariant.within)) c.index-entries-i.is) c.loop-i-test.true in
    let o : is_open p.1 ≡ true = sym c.is_open.ensures ∙ c.if-is_open.true in
    let after = drop i es in
    let rest = held_in after in
    let front : held_in (drop (i - 1) es) ≡ p ∷ rest = ap held_in e ∙ held-open p after o in
    let once : IsOnce (p ∷ rest) = subst IsOnce front (IsOnce-held_drop es (i - 1) c.requires.once) in
    let absent : get nat_eq c.loop-i.tags p.1.tag ≡ None = c.loop-i.invariant.found p.1.tag ∙ once.0 o in
    let was = c.in-Ok.ensures.old ∙ absent in
    let len : index_map_len c.insert.new.self ≡ index_map_len c.loop-i.tags + 1 =
    c.in-Ok.ensures.len ∙ ap (λ r. index_map_len c.loop-i.tags + (if is_some r then 0 else 1)) was in
    record {
      within = omega arith;
      found = λ t. rw front (c.in-Ok.ensures.updates.0 t ∙ ap (λ r. cond (nat_eq p.1.tag t) (Some p.0) r) (c.loop-i.invariant.found t) ∙ sym (open_at-open p rest t o));
      count = rw (front, open_count-open p rest o) (omega (arith, len, c.loop-i.invariant.count));
      room = omega (arith, len, c.insert.ensures.spare, c.loop-i.invariant.room);
    }

-- fewer tags are listed than there is room for
pub unreachable-requires : goal.unreachable-requires
unreachable-requires c =
    let es = c.args.entries.now in
    let i = c.loop-i.i in
    let p : ℕ × Entry = c.index-entries-i.result in
    let e = drop_before es i p (read es (i - 1) p (omega (arith, c.loop-i-test.true, c.loop-i.invariant.within)) c.index-entries-i.is) c.loop-i-test.true in
    let o : is_open p.1 ≡ true = sym c.is_open.ensures ∙ c.if-is_open.true in
    let after = drop i es in
    let rest = held_in after in
    let front : held_in (drop (i - 1) es) ≡ p ∷ rest = ap held_in e ∙ held-open p after o in
    let more : open_count (held_in (drop (i - 1) es)) ≡ open_count rest + 1 = rw front (open_count-open p rest o) in
    let all = open_count-held_drop es (i - 1) in
    let spared : 0 < spare c.loop-i.tags = omega (arith, more, all, c.requires.room, c.loop-i.invariant.count, c.loop-i.invariant.room) in
    let ok = rw c.in_default.is at c.insert.ensures.succeeds spared in
    search (rules, ok)

pub loop-i-preserved : goal.loop-i-preserved
loop-i-preserved c =
    let es = c.args.entries.now in
    let i = c.loop-i.i in
    let p : ℕ × Entry = c.index-entries-i.result in
    let e = drop_before es i p (read es (i - 1) p (omega (arith, c.loop-i-test.true, c.loop-i.invariant.within)) c.index-entries-i.is) c.loop-i-test.true in
    let o : is_open p.1 ≡ false = sym c.is_open.ensures ∙ c.if-is_open.false in
    let after = drop i es in
    let rest = held_in after in
    record {
      within = omega arith;
      found = λ t. rw e (c.loop-i.invariant.found t ∙ sym (open_at-held t p after ∙ open_at-shut p rest t o));
      count = rw (e, open_count-held p after, open_count-shut p rest o) c.loop-i.invariant.count;
      room = c.loop-i.invariant.room;
    }
