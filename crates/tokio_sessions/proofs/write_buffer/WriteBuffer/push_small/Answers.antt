use Rattle.std.proofs.Common.{◌++◌, ap, ◌∙◌, arith}
use Rattle.tokio_sessions.specs.Unsent.{Unsent}
use Rattle.tokio_sessions.proofs.WeavingLemmas.{pushed}
use Rattle.tokio_sessions.proofs.write_buffer.WriteBuffer.push_small.Goals as goal

pub returns-clause-joined : goal.returns-clause-joined
returns-clause-joined c = λ yes.
    pushed _ _ _ _ c.head.result.0 c.head.result.1 c.args.frame.now.frame.body c.args.self.now.bytes c.self.inside.bodies.items c.self.inside.sent
    c.extend_reserved.ensures.items c.extend_reserved-2.ensures.items
    (c.extend_reserved-3.ensures.items ∙ ap (λ xs. c.extend_reserved-2.new.self.items ++ xs) c.body.ensures)
    (omega (arith, c.self.invariant)) (ap (λ (b : Unsent). b.bytes) c.self.view_is)
    ∙ ap (λ xs. c.args.self.now.bytes ++ xs) c.head.ensures
