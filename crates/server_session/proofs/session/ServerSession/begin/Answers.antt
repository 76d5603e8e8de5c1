use Rattle.std.proofs.Common.{◌≤◌, ◌+◌, ◌*◌, sym, subst}
use Rattle.server_session.specs.State.{State, figures_in}
use Rattle.server_session.specs.Decide.{free_out, free_records}
use Rattle.server_session.proofs.Soundness.{begun_sound}
use Rattle.server_session.proofs.session.ServerSession.begin.Goals as goal

pub invariant_of-self-2 : goal.invariant_of-self-2
invariant_of-self-2 c =
    rw c.from.ensures
    (begun_sound c.self.inside c.try_add.new.self c.args.tag c.args.left c.named.new.self c.self.invariant c.requires.tag
    (subst (λ (s : State). 3 + 2 * c.args.left ≤ free_records (figures_in s)) (sym c.self.view_is) c.requires.records)
    (subst (λ (s : State). 1 ≤ free_out (figures_in s)) (sym c.self.view_is) c.requires.out)
    (c.try_add.ensures.added c.if-not-try_add.false))

pub invariant_of-self-3 : goal.invariant_of-self-3
invariant_of-self-3 c =
    rw c.from.ensures
    (begun_sound c.self.inside c.try_add.new.self c.args.tag c.args.left c.named.new.self c.self.invariant c.requires.tag
    (subst (λ (s : State). 3 + 2 * c.args.left ≤ free_records (figures_in s)) (sym c.self.view_is) c.requires.records)
    (subst (λ (s : State). 1 ≤ free_out (figures_in s)) (sym c.self.view_is) c.requires.out)
    (c.try_add.ensures.added c.if-not-try_add.false))
