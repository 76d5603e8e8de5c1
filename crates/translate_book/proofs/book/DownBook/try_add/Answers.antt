use Rattle.std.proofs.Common.{◌≡◌, ℕ, ◌+◌, ◌<◌, nat_eq, cond, List, [], ◌∷◌, ◌++◌, length, Some, None, refl, sym, ap, ◌∙◌, arith}
use Rattle.indexmap.specs.IndexMap.{index_map_len}
use Rattle.translate_book.specs.declared.entry.Entry.{Entry}
use Rattle.translate_book.specs.Entries.{beginning}
use Rattle.translate_book.specs.Book.{BookView, held_in, open_at}
use Rattle.translate_book.proofs.Added.{length_push, open_at-push, IsOnce-push, open_count-push, Rises-push}
use Rattle.translate_book.proofs.Closing.{open_count-length}
use Rattle.translate_book.proofs.Held.{held-push}
use Rattle.translate_book.proofs.book.DownBook.try_add.Goals as goal

pub take_tag-requires : goal.take_tag-requires
take_tag-requires c =
    let es : List (ℕ × Entry) = held_in c.self.inside.entries.items in
    let room : length es < c.self.inside.room = rw (← c.self.view_is) at c.requires.room in
    let some = open_count-length es in
    omega (arith, room, some, c.self.invariant.count, c.self.invariant.tags_room)

pub invariant_of-self : goal.invariant_of-self
invariant_of-self c =
    let before = c.self.invariant in
    let taken = c.if-not-take_tag.true in
    let same = c.take_tag.ensures.unchanged taken in
    let long : index_map_len c.take_tag.new.tags ≡ index_map_len c.self.inside.tags = ap length same in
    let room = c.take_tag.ensures.same_room taken in
    record {
      held_count = before.held_count;
      tail = before.tail;
      full = before.full;
      entries_room = before.entries_room;
      tags_room = omega (arith, long, room, before.tags_room);
      listed = λ t. rw same (before.listed t);
      count = omega (arith, long, before.count);
      once = before.once;
      rises = before.rises;
    }

pub invariant_of-self-2 : goal.invariant_of-self-2
invariant_of-self-2 c =
    let all : List (ℕ × Entry) = c.self.inside.entries.items in
    let es : List (ℕ × Entry) = held_in all in
    let p : ℕ × Entry = (c.args.seq, beginning c.args.tag c.args.left) in
    let before = c.self.invariant in
    let number : c.self.inside.last < c.args.seq = rw (← c.self.view_is) at c.requires.number in
    let room : length es < c.self.inside.room = rw (← c.self.view_is) at c.requires.room in
    let took = c.if-not-take_tag.false in
    let free : open_at c.args.tag es ≡ None = sym (before.listed c.args.tag) ∙ c.take_tag.ensures.free took in
    let inserted : c.push_reserved.new.self.items ≡ all ++ p ∷ [] = c.push_reserved.ensures.items ∙ ap (λ e. all ++ (c.args.seq, e) ∷ []) c.new.ensures in
    let size : length c.push_reserved.new.self.items ≡ length all + 1 = ap length inserted ∙ length_push all p in
    let pushed : held_in c.push_reserved.new.self.items ≡ es ++ p ∷ [] = ap held_in inserted ∙ held-push all p refl in
    let more = length_push es p in
    let listed = c.take_tag.ensures.longer took in
    record {
      held_count = rw pushed (omega (arith, more, before.held_count));
      tail = omega (arith, size, before.tail);
      full = omega (arith, room, before.held_count);
      entries_room = omega (arith, before.entries_room, c.push_reserved.ensures.capacity);
      tags_room = let room = c.take_tag.ensures.room took in omega (arith, listed, before.tags_room, room);
      listed = λ t. rw pushed ((c.take_tag.ensures.listed took).0 t ∙ ap (λ o. cond (nat_eq c.args.tag t) (Some c.args.seq) o) (before.listed t) ∙ sym (open_at-push c.args.seq c.args.tag c.args.left t es free));
      count = rw (pushed, open_count-push c.args.seq c.args.tag c.args.left es) (omega (arith, listed, before.count));
      once = rw pushed (IsOnce-push c.args.seq c.args.tag c.args.left es before.once free);
      rises = rw inserted (Rises-push c.args.seq c.args.tag c.args.left 0 all c.self.inside.last before.rises number);
    }

pub returns-clause-added : goal.returns-clause-added
returns-clause-added c = λ _.
    let all : List (ℕ × Entry) = c.self.inside.entries.items in
    let p : ℕ × Entry = (c.args.seq, beginning c.args.tag c.args.left) in
    let inserted : c.push_reserved.new.self.items ≡ all ++ p ∷ [] = c.push_reserved.ensures.items ∙ ap (λ e. all ++ (c.args.seq, e) ∷ []) c.new.ensures in
    let pushed : held_in c.push_reserved.new.self.items ≡ held_in all ++ p ∷ [] = ap held_in inserted ∙ held-push all p refl in
    rw (← c.self.view_is) (ap (λ (xs : List (ℕ × Entry)). let b : BookView = record { room = c.self.inside.room; last = c.args.seq; entries = xs } in b) pushed)

pub returns-clause-free : goal.returns-clause-free
returns-clause-free c =
    let free = sym (c.self.invariant.listed c.args.tag) ∙ c.take_tag.ensures.free c.if-not-take_tag.false in
    (λ _. rw (← c.self.view_is) free, λ _. refl)
