use Rattle.std.proofs.Common.{◌≡◌, ◌≤◌, length, drop, sym, ap, ◌∙◌, arith, rules, length-drop}
use Rattle.arrayvec.proofs.ArrayVecLemmas.{items-with_items}
use Rattle.tokio_sessions.specs.Unsent.{Unsent}
use Rattle.tokio_sessions.specs.Weaving.{count_before}
use Rattle.tokio_sessions.proofs.WeavingLemmas.{woven-none}
use Rattle.tokio_sessions.proofs.write_buffer.WriteBuffer.advance.Goals as goal

pub returns-then-are_written-clause-bytes : goal.returns-then-are_written-clause-bytes
returns-then-are_written-clause-bytes c =
    let own = drop c.self.inside.sent c.self.inside.own.items in
    let written = c.drop_front-written.result in
    let left = c.drop_front-written.new.bodies in
    let long = length-drop c.self.inside.sent c.self.inside.own.items in
    let fits : count_before c.as_mut_slice.result.now ≤ length own = rw c.as_mut_slice.ensures.value (omega (arith, c.self.invariant, long)) in
    let none : length (drop written own) ≡ 0 =
    omega (arith, c.if-self-len.true, c.len-len.ensures.value, length-drop written own, long) in
    let within : count_before left ≤ length (drop written own) = search rules in
    let same : c.as_slice.result.now ≡ left =
    c.as_slice.ensures.value ∙ items-with_items c.self.inside.bodies left (c.drop_front-written.auto.bodies ∙ ap length c.as_mut_slice.ensures.value) in
    let all = rw same at c.if-are_written.ensures in
    rw (c.clear.ensures.items, c.clear-then-are_written.ensures)
    (sym (woven-none (drop written own) left within none all)
    ∙ c.drop_front-written.ensures.bytes own fits
    ∙ rw c.as_mut_slice.ensures.value (ap (λ (b : Unsent). drop c.args.count b.bytes) c.self.view_is))
