use Rattle.std.proofs.Common.{rules, ◌≡◌, ◌+◌, ◌-◌, ◌++◌, length, drop, ap, ◌∙◌, arith, length-drop, append_assoc}
use Rattle.tokio_sessions.specs.declared.shared_body.SharedBody.{SharedBody}
use Rattle.tokio_sessions.specs.Unsent.{Unsent}
use Rattle.tokio_sessions.specs.Weaving.{count_before, woven}
use Rattle.tokio_sessions.proofs.WeavingLemmas.{pushed, pushed-body, count_before-body, three_joined}
use Rattle.tokio_sessions.proofs.write_buffer.WriteBuffer.push_pieces.Goals as goal

pub invariant_of-self-else-len-lt-SHARED_FROM : goal.invariant_of-self-else-len-lt-SHARED_FROM
invariant_of-self-else-len-lt-SHARED_FROM c =
    let shared : SharedBody = record { behind = c.len-else-len-lt-SHARED_FROM.result - c.self.inside.sent - c.self.inside.before; body = c.into_pieces-lead.result.1 } in
    let long = three_joined c.self.inside.own.items _ _ c.extend_reserved-3.new.self.items c.head.result.0 c.head.result.1 c.as_slice.result.now c.extend_reserved.ensures.items c.extend_reserved-2.ensures.items c.extend_reserved-3.ensures.items in (
      omega (arith, ap count_before c.push.ensures.items, count_before-body c.self.inside.bodies.items shared, c.self.invariant, c.len-else-len-lt-SHARED_FROM.ensures.value, long),
      omega (arith, c.self.invariant, c.len-else-len-lt-SHARED_FROM.ensures.value, long),
      omega (arith, c.self.invariant, long, c.extend_reserved.ensures.spare, c.extend_reserved-2.ensures.spare, c.extend_reserved-3.ensures.spare),
    )

pub returns-then-len-lt-SHARED_FROM : goal.returns-then-len-lt-SHARED_FROM
returns-then-len-lt-SHARED_FROM c =
    let whole : c.extend_reserved-then-len-lt-SHARED_FROM.new.self.items ≡ c.extend_reserved-2.new.self.items ++ c.args.frame.frame.body =
    c.extend_reserved-then-len-lt-SHARED_FROM.ensures.items
    ∙ (λ i. (c.extend_reserved-3.ensures.items ∙ ap (λ xs. c.extend_reserved-2.new.self.items ++ xs) c.as_slice.ensures) i ++ c.as_slice-then-len-lt-SHARED_FROM.ensures i)
    ∙ append_assoc c.extend_reserved-2.new.self.items c.into_pieces-lead.result.0 c.into_pieces-lead.result.1
    ∙ ap (λ xs. c.extend_reserved-2.new.self.items ++ xs) c.into_pieces-lead.ensures in
    let same = pushed _ _ _ _ c.head.result.0 c.head.result.1 c.args.frame.frame.body c.args.self.now.bytes c.self.inside.bodies.items c.self.inside.sent
    c.extend_reserved.ensures.items c.extend_reserved-2.ensures.items whole
    (omega (arith, c.self.invariant)) (ap (λ (b : Unsent). b.bytes) c.self.view_is)
    ∙ ap (λ xs. c.args.self.now.bytes ++ xs) c.head.ensures in
    search (rules, same)

pub returns-else-len-lt-SHARED_FROM : goal.returns-else-len-lt-SHARED_FROM
returns-else-len-lt-SHARED_FROM c =
    let own = pushed _ _ _ _ c.head.result.0 c.head.result.1 c.into_pieces-lead.result.0 c.args.self.now.bytes c.self.inside.bodies.items c.self.inside.sent
    c.extend_reserved.ensures.items c.extend_reserved-2.ensures.items
    (c.extend_reserved-3.ensures.items ∙ ap (λ xs. c.extend_reserved-2.new.self.items ++ xs) c.as_slice.ensures)
    (omega (arith, c.self.invariant)) (ap (λ (b : Unsent). b.bytes) c.self.view_is) in
    let shared : SharedBody = record { behind = c.len-else-len-lt-SHARED_FROM.result - c.self.inside.sent - c.self.inside.before; body = c.into_pieces-lead.result.1 } in
    let long = three_joined c.self.inside.own.items _ _ c.extend_reserved-3.new.self.items c.head.result.0 c.head.result.1 c.as_slice.result.now c.extend_reserved.ensures.items c.extend_reserved-2.ensures.items c.extend_reserved-3.ensures.items in
    let whole : count_before c.self.inside.bodies.items + shared.behind ≡ length (drop c.self.inside.sent c.extend_reserved-3.new.self.items) =
    omega (arith, c.self.invariant, c.len-else-len-lt-SHARED_FROM.ensures.value, length-drop c.self.inside.sent c.extend_reserved-3.new.self.items, long) in
    ap (λ bs. woven (drop c.self.inside.sent c.extend_reserved-3.new.self.items) bs) c.push.ensures.items
    ∙ pushed-body c.extend_reserved-3.new.self.items c.head.result.0 c.head.result.1 c.into_pieces-lead.result.0 c.args.self.now.bytes c.self.inside.bodies.items shared c.self.inside.sent own whole
    ∙ ap (λ xs. c.args.self.now.bytes ++ (c.head.result.0 ++ (c.head.result.1 ++ xs))) c.into_pieces-lead.ensures
    ∙ ap (λ xs. c.args.self.now.bytes ++ xs) c.head.ensures
