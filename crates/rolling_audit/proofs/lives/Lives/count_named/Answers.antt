use Rattle.std.proofs.Common.{sym, ◌∙◌, ap, subst, ◌&&◌, ◌||◌}
use Rattle.mux_history.specs.Readings.{gives_name}
use Rattle.rolling_audit.specs.declared.life.Life.{Life}
use Rattle.rolling_audit.specs.Dues.{due_after}
use Rattle.rolling_audit.specs.Lives.{CountsLife, LivesOn}
use Rattle.rolling_audit.specs.Taken.{life_of}
use Rattle.rolling_audit.proofs.Keeping.{go_on}
use Rattle.rolling_audit.proofs.lives.Lives.count_named.Goals as goal

pub returns-clause-ok : goal.returns-clause-ok
returns-clause-ok c =
    λ h r is_kind is.
    let lives = life_of c.args.self.now in
    let law : LivesOn c.life-life.result c.args.of_client c.args.kind c.in-Some.next = c.in-Some.ensures.law (sym c.is_answered_by.ensures ∙ c.if-is_answered_by.false) in
    let counted : CountsLife c.life-life.result c.args.of_client c.args.kind c.in-Some.next = c.in-Some.ensures.one in
    go_on lives (life_of c.keep.new.self) c.args.of_client c.args.kind c.args.name c.in-Some.next
    (subst (λ (l : Life). LivesOn l c.args.of_client c.args.kind c.in-Some.next) c.life-life.ensures law)
    (counted.trace.taken ∙ ap (λ (l : Life). (c.args.of_client && gives_name c.args.kind) || l.trace.taken) c.life-life.ensures)
    (counted.due ∙ ap (λ (l : Life). due_after c.args.kind l.due) c.life-life.ensures)
    c.keep.ensures.keeps r is_kind is
