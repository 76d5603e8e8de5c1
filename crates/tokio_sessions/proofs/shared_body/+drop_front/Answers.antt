use Rattle.std.proofs.Common.{drop, sym, ap, ◌∙◌, arith, length-drop}
use Rattle.std.proofs.Math.Seq.{drop-drop}
use Rattle.tokio_sessions.specs.Weaving.{woven}
use Rattle.tokio_sessions.proofs.WeavingLemmas.{length-woven, drop-in_body, drop-past_body}
use Rattle.tokio_sessions.proofs.shared_body.+drop_front.Goals as goal

pub returns-then-count-len-clause-bytes : goal.returns-then-count-len-clause-bytes
returns-then-count-len-clause-bytes t c = λ own fits.
    let before = rw c.in-Some.ensures.cases.0 at fits in
    rw (c.in-Some.ensures.cases.0, c.advance.ensures)
    (drop-in_body own c.in-Some.first.now c.in-Some.others.now c.args.count (omega (arith, before)) (omega arith) (omega arith))

pub returns-clause-within : goal.returns-clause-within
returns-clause-within t c = λ own fits within.
    let before = rw c.in-Some.ensures.cases.0 at fits in
    let less = rw c.in-Some.ensures.cases.0 at within in
    let long = length-woven own c.in-Some.first.now c.in-Some.others.now (omega (arith, before)) in
    let rest = length-drop c.in-Some.first.now.behind own in
    let on = c.drop_front.ensures.within (drop c.in-Some.first.now.behind own) (omega (arith, before, rest)) (omega (arith, before, less, long)) in
    omega (arith, before, rest, on)

pub returns-clause-bytes : goal.returns-clause-bytes
returns-clause-bytes t c = λ own fits.
    let before = rw c.in-Some.ensures.cases.0 at fits in
    let rest = length-drop c.in-Some.first.now.behind own in
    rw (c.in-Some.ensures.cases.0, c.new.ensures)
    (ap (λ xs. woven xs c.drop_front.new.bodies) (sym (drop-drop c.drop_front.result c.in-Some.first.now.behind own))
    ∙ c.drop_front.ensures.bytes (drop c.in-Some.first.now.behind own) (omega (arith, before, rest))
    ∙ drop-past_body own c.in-Some.first.now c.in-Some.others.now c.args.count _ (omega (arith, before)) (omega arith))
