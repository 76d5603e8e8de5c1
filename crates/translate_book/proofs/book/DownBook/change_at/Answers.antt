use Rattle.std.proofs.Common.{◌≡◌, ℕ, false, slice_get, refl, sym, ap, subst, ◌∙◌, Option, None, Some, IfSome, List, arith}
use Rattle.translate_book.specs.declared.entry.Change.{Change}
use Rattle.translate_book.specs.declared.entry.Effect.{Effect}
use Rattle.translate_book.specs.declared.entry.Entry.{Entry}
use Rattle.translate_book.specs.Book.{BookView, held_in, entry_at, changed}
use Rattle.translate_book.specs.Entries.{is_open, is_held, applied, effect_of, freed as freed_by}
use Rattle.translate_book.proofs.Closing.{closing, IsOnce-changed, open_at-changed_same, open_count-changed_same, changed-absent, open_count-length, still}
use Rattle.translate_book.proofs.Freed.{frees, frees_none, open_at-freed, open_count-freed, open_at-own}
use Rattle.translate_book.proofs.Held.{held-absent, held-left}
use Rattle.translate_book.proofs.book.DownBook.change_at.Goals as goal
use Rattle.translate_book.proofs.book.DownBook.change_at.Goals.{in-Some-freed, in_default-freed}

-- what the change at the place that was found does to the entry of the number
record Made (es now : List (ℕ × Entry)) (seq : ℕ) (change : Change) (e : Entry) (effect : Effect) (tag : Option ℕ) : Type 0 where
  there : entry_at seq (held_in es) ≡ Some e
  after : held_in now ≡ changed seq (applied change) (held_in es)
  did : effect ≡ effect_of change e
  freed : tag ≡ freed_by change e

made : (es seen now : List (ℕ × Entry)) (seq place : ℕ) (change : Change) (e : Entry) (effect : Effect) (tag : Option ℕ)
    → seen ≡ es
    → slice_get seen place ≡ Some (seq, e)
    → IfSome (slice_get es place) (λ p. held_in now ≡ changed p.0 (applied change) (held_in es))
    → IfSome (slice_get es place) (λ p. entry_at p.0 (held_in es) ≡ Some p.1)
    → IfSome (slice_get es place) (λ p. (effect ≡ effect_of change p.1) × (tag ≡ freed_by change p.1))
    → Made es now seq change e effect tag
made es seen now seq place change e effect tag same there after found step =
    let stands = ap (λ (l : List (ℕ × Entry)). slice_get l place) (sym same) ∙ there in
    let done = subst (λ (o : Option (ℕ × Entry)). IfSome o (λ p. (effect ≡ effect_of change p.1) × (tag ≡ freed_by change p.1))) stands step in
    record {
      there = subst (λ (o : Option (ℕ × Entry)). IfSome o (λ p. entry_at p.0 (held_in es) ≡ Some p.1)) stands found;
      after = subst (λ (o : Option (ℕ × Entry)). IfSome o (λ p. held_in now ≡ changed p.0 (applied change) (held_in es))) stands after;
      did = done.0;
      freed = done.1;
    }

absent : (book : BookView) (seq : ℕ) (change : Change) → entry_at seq book.entries ≡ None → book ≡ record book { entries = changed seq (applied change) book.entries }
absent book seq change none = ap (λ (xs : List (ℕ × Entry)). let b : BookView = record { room = book.room; last = book.last; entries = xs } in b) (sym (changed-absent seq (applied change) book.entries none))

pub returns-in_default-clause-after : goal.returns-in_default-clause-after
returns-in_default-clause-after c =
    let none = held-absent c.args.seq c.self.inside.entries.items (ap (entry_at c.args.seq) (sym c.deref.ensures.value) ∙ sym c.in_default.ensures.value) in
    rw (← c.self.view_is) (absent _ c.args.seq c.args.change none)

pub returns-in_default-clause-effect : goal.returns-in_default-clause-effect
returns-in_default-clause-effect c =
    rw (← c.self.view_is, held-absent c.args.seq c.self.inside.entries.items (ap (entry_at c.args.seq) (sym c.deref.ensures.value) ∙ sym c.in_default.ensures.value)) refl

pub returns-then-not-is_held-clause-after : goal.returns-then-not-is_held-clause-after
returns-then-not-is_held-clause-after c =
    let left : is_held c.in-Some.entry.now ≡ false = sym c.is_held.ensures ∙ c.if-not-is_held.true in
    let none = held-left c.args.seq 0 c.self.inside.entries.items c.self.inside.last c.in-Some.entry.now c.self.invariant.rises (ap (entry_at c.args.seq) (sym c.deref.ensures.value) ∙ sym c.in-Some.ensures.value) left in
    rw (← c.self.view_is) (absent _ c.args.seq c.args.change none)

pub returns-then-not-is_held-clause-effect : goal.returns-then-not-is_held-clause-effect
returns-then-not-is_held-clause-effect c =
    let left : is_held c.in-Some.entry.now ≡ false = sym c.is_held.ensures ∙ c.if-not-is_held.true in
    rw (← c.self.view_is, held-left c.args.seq 0 c.self.inside.entries.items c.self.inside.last c.in-Some.entry.now c.self.invariant.rises (ap (entry_at c.args.seq) (sym c.deref.ensures.value) ∙ sym c.in-Some.ensures.value) left) refl

pub change_held-step-requires-clause-there : goal.change_held-step-requires-clause-there
change_held-step-requires-clause-there c =
    rw (← c.deref.ensures.value, c.in-Some.ensures.place) (sym c.is_held.ensures ∙ c.if-not-is_held.false)

pub change_held-step-requires-clause-rises : goal.change_held-step-requires-clause-rises
change_held-step-requires-clause-rises c = (c.self.inside.last, c.self.invariant.rises)

pub free_tag-requires-clause-once : goal.free_tag-requires-clause-once
free_tag-requires-clause-once c =
    let m = made c.self.inside.entries.items c.deref.result.now c.change_held-step.new.entries.items c.args.seq c.in-Some.place c.args.change c.in-Some.entry.now c.change_held-step.result.effect c.change_held-step.result.freed c.deref.ensures.value c.in-Some.ensures.place c.change_held-step.ensures.after c.change_held-step.ensures.found c.change_held-step.ensures.step in
    let es : List (ℕ × Entry) = held_in c.self.inside.entries.items in
    rw (c.deref-in-Some-freed.ensures.value, m.after) (IsOnce-changed (applied c.args.change) (closing c.args.change) c.args.seq es c.self.invariant.once)

pub free_tag-requires-clause-fewer : goal.free_tag-requires-clause-fewer
free_tag-requires-clause-fewer c =
    let m = made c.self.inside.entries.items c.deref.result.now c.change_held-step.new.entries.items c.args.seq c.in-Some.place c.args.change c.in-Some.entry.now c.change_held-step.result.effect c.change_held-step.result.freed c.deref.ensures.value c.in-Some.ensures.place c.change_held-step.ensures.after c.change_held-step.ensures.found c.change_held-step.ensures.step in
    let es : List (ℕ × Entry) = held_in c.self.inside.entries.items in
    let f = frees c.args.change c.in-Some.entry.now (sym m.freed ∙ c.in-Some-freed.is) in
    let fewer = open_count-freed c.args.seq (applied c.args.change) c.in-Some.entry.now f.was f.shut es m.there in
    let some = open_count-length es in
    rw (c.deref-in-Some-freed.ensures.value, m.after) (omega (arith, fewer, some, c.self.invariant.held_count, c.self.invariant.full))

pub free_tag-requires-clause-listed : goal.free_tag-requires-clause-listed
free_tag-requires-clause-listed c =
    let m = made c.self.inside.entries.items c.deref.result.now c.change_held-step.new.entries.items c.args.seq c.in-Some.place c.args.change c.in-Some.entry.now c.change_held-step.result.effect c.change_held-step.result.freed c.deref.ensures.value c.in-Some.ensures.place c.change_held-step.ensures.after c.change_held-step.ensures.found c.change_held-step.ensures.step in
    let es : List (ℕ × Entry) = held_in c.self.inside.entries.items in
    let f = frees c.args.change c.in-Some.entry.now (sym m.freed ∙ c.in-Some-freed.is) in
    rw (f.tag, c.self.invariant.listed c.in-Some.entry.now.tag) (open_at-own c.args.seq (applied c.args.change) c.in-Some.entry.now f.was f.shut es m.there)

pub free_tag-requires-clause-count : goal.free_tag-requires-clause-count
free_tag-requires-clause-count c =
    let m = made c.self.inside.entries.items c.deref.result.now c.change_held-step.new.entries.items c.args.seq c.in-Some.place c.args.change c.in-Some.entry.now c.change_held-step.result.effect c.change_held-step.result.freed c.deref.ensures.value c.in-Some.ensures.place c.change_held-step.ensures.after c.change_held-step.ensures.found c.change_held-step.ensures.step in
    let es : List (ℕ × Entry) = held_in c.self.inside.entries.items in
    let f = frees c.args.change c.in-Some.entry.now (sym m.freed ∙ c.in-Some-freed.is) in
    let fewer = open_count-freed c.args.seq (applied c.args.change) c.in-Some.entry.now f.was f.shut es m.there in
    rw (c.deref-in-Some-freed.ensures.value, m.after) (omega (arith, fewer, c.self.invariant.count))

pub free_tag-requires-clause-freed : goal.free_tag-requires-clause-freed
free_tag-requires-clause-freed c = λ t.
    let m = made c.self.inside.entries.items c.deref.result.now c.change_held-step.new.entries.items c.args.seq c.in-Some.place c.args.change c.in-Some.entry.now c.change_held-step.result.effect c.change_held-step.result.freed c.deref.ensures.value c.in-Some.ensures.place c.change_held-step.ensures.after c.change_held-step.ensures.found c.change_held-step.ensures.step in
    let es : List (ℕ × Entry) = held_in c.self.inside.entries.items in
    let f = frees c.args.change c.in-Some.entry.now (sym m.freed ∙ c.in-Some-freed.is) in
    rw (c.deref-in-Some-freed.ensures.value, m.after, f.tag, c.self.invariant.listed t) (open_at-freed c.args.seq (applied c.args.change) c.in-Some.entry.now f.was f.shut t es c.self.invariant.once m.there)

pub invariant_of-self : goal.invariant_of-self
invariant_of-self c =
    let m = made c.self.inside.entries.items c.deref.result.now c.change_held-step.new.entries.items c.args.seq c.in-Some.place c.args.change c.in-Some.entry.now c.change_held-step.result.effect c.change_held-step.result.freed c.deref.ensures.value c.in-Some.ensures.place c.change_held-step.ensures.after c.change_held-step.ensures.found c.change_held-step.ensures.step in
    let es : List (ℕ × Entry) = held_in c.self.inside.entries.items in
    let f = applied c.args.change in
    let closes = closing c.args.change in
    let step = c.change_held-step.ensures in
    record {
      held_count = step.count;
      tail = omega (arith, step.tail);
      full = omega (arith, step.fewer, c.self.invariant.full);
      entries_room = omega (arith, step.room, c.self.invariant.entries_room);
      tags_room = c.free_tag.ensures.room;
      listed = rw (← c.deref-in-Some-freed.ensures.value) c.free_tag.ensures.found;
      count = rw (← c.deref-in-Some-freed.ensures.value) c.free_tag.ensures.count;
      once = rw m.after (IsOnce-changed f closes c.args.seq es c.self.invariant.once);
      rises = step.rises c.self.inside.last c.self.invariant.rises;
    }

pub invariant_of-self-in_default-freed : goal.invariant_of-self-in_default-freed
invariant_of-self-in_default-freed c =
    let m = made c.self.inside.entries.items c.deref.result.now c.change_held-step.new.entries.items c.args.seq c.in-Some.place c.args.change c.in-Some.entry.now c.change_held-step.result.effect c.change_held-step.result.freed c.deref.ensures.value c.in-Some.ensures.place c.change_held-step.ensures.after c.change_held-step.ensures.found c.change_held-step.ensures.step in
    let es : List (ℕ × Entry) = held_in c.self.inside.entries.items in
    let f = applied c.args.change in
    let closes = closing c.args.change in
    let step = c.change_held-step.ensures in
    let e = c.in-Some.entry.now in
    let same : is_open (f e) ≡ is_open e = still (is_open e) (is_open (f e)) (frees_none c.args.change e (sym m.freed ∙ c.in_default-freed.is)) (closes.shut e) in
    record {
      held_count = step.count;
      tail = omega (arith, step.tail);
      full = omega (arith, step.fewer, c.self.invariant.full);
      entries_room = omega (arith, step.room, c.self.invariant.entries_room);
      tags_room = c.self.invariant.tags_room;
      listed = λ t. rw m.after (c.self.invariant.listed t ∙ sym (open_at-changed_same f closes c.args.seq t es e m.there same));
      count = rw (m.after, open_count-changed_same f closes c.args.seq es e m.there same) c.self.invariant.count;
      once = rw m.after (IsOnce-changed f closes c.args.seq es c.self.invariant.once);
      rises = step.rises c.self.inside.last c.self.invariant.rises;
    }

pub returns-clause-after : goal.returns-clause-after
returns-clause-after c =
    let m = made c.self.inside.entries.items c.deref.result.now c.change_held-step.new.entries.items c.args.seq c.in-Some.place c.args.change c.in-Some.entry.now c.change_held-step.result.effect c.change_held-step.result.freed c.deref.ensures.value c.in-Some.ensures.place c.change_held-step.ensures.after c.change_held-step.ensures.found c.change_held-step.ensures.step in
    let es : List (ℕ × Entry) = held_in c.self.inside.entries.items in
    let same = ap (λ (xs : List (ℕ × Entry)). let b : BookView = record { room = c.self.inside.room; last = c.self.inside.last; entries = xs } in b) m.after in
    rw (← c.self.view_is) (elim c.match-step.branch [
      | in-Some-freed w ↦ w.self-is ∙ same
      | in_default-freed w ↦ w.self-is ∙ same
    ])

pub returns-clause-effect : goal.returns-clause-effect
returns-clause-effect c =
    let m = made c.self.inside.entries.items c.deref.result.now c.change_held-step.new.entries.items c.args.seq c.in-Some.place c.args.change c.in-Some.entry.now c.change_held-step.result.effect c.change_held-step.result.freed c.deref.ensures.value c.in-Some.ensures.place c.change_held-step.ensures.after c.change_held-step.ensures.found c.change_held-step.ensures.step in
    rw (← c.self.view_is, m.there, m.did) refl
