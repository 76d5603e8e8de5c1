use Rattle.std.proofs.Common.{◌≡◌, ◌&&◌, true, false, not, refl, ap, sym, ◌∙◌, arith}
use Rattle.std.specs.Bool.{then_some}
use Rattle.translate_book.specs.declared.entry.Effect.{Effect}
use Rattle.translate_book.specs.declared.entry.Entry.{Entry}
use Rattle.translate_book.specs.Book.{held_in}
use Rattle.translate_book.specs.Entries.{is_open, is_held, applied, freed, dues_of, effect_of}
use Rattle.translate_book.proofs.Closing.{closing}
use Rattle.translate_book.proofs.Held.{standing, found_at, set_at, held-there, held-set, length-changed_stays, length-changed_leaves, Rises-set}
use Rattle.translate_book.proofs.shelf.change_held.Goals as goal
use Rattle.translate_book.proofs.shelf.change_held.Goals.{then-is_held, else-is_held, then-was_open, else-was_open}

pub overflow_sub-held : goal.overflow_sub-held
overflow_sub-held c =
    let es = c.args.entries.now.items in
    let p = c.index_mut.result.now in
    let e = p.1 in
    let s = standing es c.args.place p c.requires.there c.index_mut.ensures.value in
    let is = found_at p.0 e 0 es c.requires.rises.0 c.args.place c.requires.rises.1 s.stands in
    let leaves : is_held (applied c.args.change e) ≡ false = ap is_held (sym c.apply-reason.ensures.after) ∙ sym c.is_held.ensures ∙ c.if-is_held.false in
    let some = length-changed_leaves p.0 (applied c.args.change) (held_in es) e (held-there p.0 es e is s.held) leaves in
    omega (arith, some, c.requires.count)

pub trim-requires-clause-count : goal.trim-requires-clause-count
trim-requires-clause-count c =
    let es = c.args.entries.now.items in
    let p = c.index_mut.result.now in
    let e = p.1 in
    let f = applied c.args.change in
    let s = standing es c.args.place p c.requires.there c.index_mut.ensures.value in
    let is = found_at p.0 e 0 es c.requires.rises.0 c.args.place c.requires.rises.1 s.stands in
    let written = set_at p.0 e 0 es c.requires.rises.0 c.args.place c.apply-reason.new.self c.requires.rises.1 s.stands in
    let there = held-there p.0 es e is s.held in
    rw (written, c.apply-reason.ensures.after, held-set p.0 f es e is s.held)
    (elim c.if-is_held.branch [
      | then-is_held w ↦
          let stays : is_held (f e) ≡ true = ap is_held (sym c.apply-reason.ensures.after) ∙ sym c.is_held.ensures ∙ w.if-is_held.true in
          w.held-is ∙ c.requires.count ∙ sym (length-changed_stays p.0 f (held_in es) e there stays)
      | else-is_held w ↦
          let leaves : is_held (f e) ≡ false = ap is_held (sym c.apply-reason.ensures.after) ∙ sym c.is_held.ensures ∙ w.if-is_held.false in
          let one = length-changed_leaves p.0 f (held_in es) e there leaves in
          omega (arith, one, w.held-is, c.requires.count)
    ])

pub returns-clause-after : goal.returns-clause-after
returns-clause-after c =
    let es = c.args.entries.now.items in
    let p = c.index_mut.result.now in
    let e = p.1 in
    let s = standing es c.args.place p c.requires.there c.index_mut.ensures.value in
    let is = found_at p.0 e 0 es c.requires.rises.0 c.args.place c.requires.rises.1 s.stands in
    let written = set_at p.0 e 0 es c.requires.rises.0 c.args.place c.apply-reason.new.self c.requires.rises.1 s.stands in
    rw (s.stands, c.trim.ensures.same, written, c.apply-reason.ensures.after) (held-set p.0 (applied c.args.change) es e is s.held)

pub returns-clause-found : goal.returns-clause-found
returns-clause-found c =
    let es = c.args.entries.now.items in
    let p = c.index_mut.result.now in
    let e = p.1 in
    let s = standing es c.args.place p c.requires.there c.index_mut.ensures.value in
    rw s.stands (held-there p.0 es e (found_at p.0 e 0 es c.requires.rises.0 c.args.place c.requires.rises.1 s.stands) s.held)

pub returns-clause-step : goal.returns-clause-step
returns-clause-step c =
    let p = c.index_mut.result.now in
    let e = p.1 in
    let s = standing c.args.entries.now.items c.args.place p c.requires.there c.index_mut.ensures.value in
    let closes : c.if-was_open.then_some ≡ (is_open e && not (is_open (applied c.args.change e))) =
    elim c.if-was_open.branch [
      | then-was_open w ↦
          let o : is_open e ≡ true = sym c.is_open-was_open.ensures ∙ w.if-was_open.true in
          rw (w.then_some-is, w.is_open.ensures, c.apply-reason.ensures.after, o) refl
      | else-was_open w ↦
          let o : is_open e ≡ false = sym c.is_open-was_open.ensures ∙ w.if-was_open.false in
          rw w.then_some-is (w.if-was_open.false ∙ sym (ap (λ b. b && not (is_open (applied c.args.change e))) o))
    ] in
    let tag : c.apply-reason.new.self.tag ≡ e.tag = ap (λ (x : Entry). x.tag) c.apply-reason.ensures.after ∙ (closing c.args.change).tag e in
    let frees : c.then_some-freed.result ≡ freed c.args.change e = c.then_some-freed.ensures ∙ ap (λ b. then_some b c.apply-reason.new.self.tag) closes ∙ ap (then_some (is_open e && not (is_open (applied c.args.change e)))) tag in
    let is = c.dues-is.ensures ∙ ap dues_of c.apply-reason.ensures.after in
    let effect : ◌≡◌ {A = Effect} (record { was = c.dues-was.result; is = c.dues-is.result; reason = c.apply-reason.result }) (effect_of c.args.change e) =
    λ i. record { was = c.dues-was.ensures i; is = is i; reason = c.apply-reason.ensures.reason i } in
    rw s.stands (effect, frees)

pub returns-clause-rises : goal.returns-clause-rises
returns-clause-rises c = λ high rises.
    let es = c.args.entries.now.items in
    let p = c.index_mut.result.now in
    let s = standing es c.args.place p c.requires.there c.index_mut.ensures.value in
    let written = set_at p.0 p.1 0 es high c.args.place c.apply-reason.new.self rises s.stands in
    c.trim.ensures.rises high (rw written (Rises-set p.0 0 es high c.apply-reason.new.self rises))
