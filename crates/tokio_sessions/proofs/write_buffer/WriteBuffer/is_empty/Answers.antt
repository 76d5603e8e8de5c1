use Rattle.std.proofs.Common.{length, drop, ◌==◌, ap, ◌∙◌, arith, length-drop}
use Rattle.std.proofs.lemmas.Bool.{ne_eqb}
use Rattle.tokio_sessions.specs.Unsent.{Unsent}
use Rattle.tokio_sessions.proofs.WeavingLemmas.{woven-written, woven-unwritten}
use Rattle.tokio_sessions.proofs.write_buffer.WriteBuffer.is_empty.Goals as goal

pub returns-then-self-len : goal.returns-then-self-len
returns-then-self-len c =
    let own = drop c.self.inside.sent c.self.inside.own.items in
    let long = length-drop c.self.inside.sent c.self.inside.own.items in
    rw (c.are_written.ensures, c.as_slice.ensures.value)
    (woven-written own c.self.inside.bodies.items (omega (arith, c.self.invariant, long)) (omega (arith, long, c.len.ensures.value, c.if-self-len.true))
    ∙ ap (λ (b : Unsent). length b.bytes == 0) c.self.view_is)

pub returns-else-self-len : goal.returns-else-self-len
returns-else-self-len c =
    let own = drop c.self.inside.sent c.self.inside.own.items in
    let long = length-drop c.self.inside.sent c.self.inside.own.items in
    ne_eqb _ _ c.if-self-len.false
    ∙ woven-unwritten own c.self.inside.bodies.items (omega (arith, c.self.invariant, long)) (omega (arith, long, c.self.invariant, c.len.ensures.value, c.if-self-len.false))
    ∙ ap (λ (b : Unsent). length b.bytes == 0) c.self.view_is
