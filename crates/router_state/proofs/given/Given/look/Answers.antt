use Rattle.std.proofs.Common.{◌+◌, ◌∙◌, ap, refl, subst, sym}
use Rattle.std.proofs.lemmas.Result.{err_from_is_err_and}
use Rattle.router_state.specs.Giving.{EndsIf}
use Rattle.router_state.specs.declared.given.Given.{Given}
use Rattle.router_state.proofs.Looking.{looks_last, looks_on, stops_here}
use Rattle.router_state.proofs.given.Given.look.Goals as goal

pub returns-in_err-take-clause-err : goal.returns-in_err-take-clause-err
returns-in_err-take-clause-err c =
    let p = err_from_is_err_and c.from_residual.result c.from_residual.ensures.1 in
    rw (p.1, p.2)
    (stops_here _ _ _ _ _ _ _ _ _ _ _ _ c.loop-at.invariant.1 (c.len-at-end.ensures ∙ c.args.self.now.histories.ok.0) c.loop-at-test.true c.index.ensures c.records.ensures.value
    c.epoch_at-epoch.ensures c.loop-at.invariant.0 c.in_err-take.ensures.err)

pub loop-at-preserved : goal.loop-at-preserved
loop-at-preserved c = (
  looks_on _ _ _ _ _ _ _ _ _ _ _ c.loop-at.invariant.1 (c.len-at-end.ensures ∙ c.args.self.now.histories.ok.0) c.loop-at-test.true c.index.ensures c.records.ensures.value
      c.epoch_at-epoch.ensures c.loop-at.invariant.0 (c.in_ok-take.ensures.ok refl),
  ap (λ (g : Given). record g { seen = c.loop-at.at + 1 }) c.loop-at.invariant.1,
)

pub returns-then-self-clause-ok : goal.returns-then-self-clause-ok
returns-then-self-clause-ok c =
    λ ok.
    looks_last _ _ _ _ _ _ _ c.loop-at.invariant.1 (c.len-at-end.ensures ∙ c.args.self.now.histories.ok.0) c.loop-at-test.false c.loop-at.invariant.0
    (subst (λ is. EndsIf is c.loop-at.self.session c.loop-at.audit c.end.new.self) (sym c.if-self.true)
    (record {
      gone = c.end.ensures.gone;
      covers = c.end.ensures.covers;
      counts = c.end.ensures.counts;
      records = c.end.ensures.records;
    }))

pub returns-else-self-clause-ok : goal.returns-else-self-clause-ok
returns-else-self-clause-ok c =
    λ ok.
    looks_last _ _ _ _ _ _ _ c.loop-at.invariant.1 (c.len-at-end.ensures ∙ c.args.self.now.histories.ok.0) c.loop-at-test.false c.loop-at.invariant.0
    (subst (λ is. EndsIf is c.loop-at.self.session c.loop-at.audit c.loop-at.audit) (sym c.if-self.false) refl)
