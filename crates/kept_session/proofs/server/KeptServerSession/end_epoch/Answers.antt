use Rattle.std.proofs.Common.{List, [], ◌∷◌, ◌++◌, ◌≡◌, Result, Ok, Err, sym, ◌∙◌, ap, subst, rules}
use Rattle.std.proofs.lemmas.List.Elements.{All-push, All-same}
use Rattle.mux_history.specs.Log.{Log}
use Rattle.kept_session.specs.declared.ending.EpochRefused.{EpochRefused}
use Rattle.server_session.specs.Steps.{LeadsOn}
use Rattle.kept_session.specs.Ending.{EndStepDown}
use Rattle.kept_session.specs.ReachedDown.{IsKeptDown, WasKeptDown, EndsDown, StepsDown}
use Rattle.kept_session.proofs.ReachingDown.{over_by, refused_by, refuses, advanced, closed_over, keeps_on, keeps_over}
use Rattle.kept_session.proofs.RecordingDown.{ended_kept, ends_with}
use Rattle.kept_session.proofs.server.KeptServerSession.end_epoch.Goals.{After-push_reserved}
use Rattle.kept_session.proofs.server.KeptServerSession.end_epoch.Goals as goal

pub invariant_of-self : goal.invariant_of-self
invariant_of-self c = (
  search rules,
  All-same (λ (h : Log). WasKeptDown h.records) _ _ c.reserve.ensures.items c.self.invariant.1,
  subst (λ (es : List Log). IsKeptDown (record { ended = es; state = c.self.inside.session })) (sym c.reserve.ensures.items) c.self.invariant.2,
)

-- the history that ended stands behind the others
behind : (c : After-push_reserved) → c.push_reserved.new.self.items ≡ c.self.inside.ended.items ++ c.in-Ok.ended ∷ []
behind c = c.push_reserved.ensures.items ∙ ap (λ (es : List Log). es ++ c.in-Ok.ended ∷ []) c.reserve.ensures.items

pub invariant_of-self-in-Ok : goal.invariant_of-self-in-Ok
invariant_of-self-in-Ok c =
    let steps = subst (λ (r : Result Log EpochRefused). LeadsOn c.self.inside.session (λ p q. EndStepDown c.args.how p c.args.fresh r q) c.end_history.new.session) c.in-Ok.is c.end_history.ensures.step in (
      search rules,
      All-same (λ (h : Log). WasKeptDown h.records) _ _ c.push_reserved.ensures.items
          (All-push (λ (h : Log). WasKeptDown h.records) _ _
          (All-same (λ (h : Log). WasKeptDown h.records) _ _ c.reserve.ensures.items c.self.invariant.1)
          (ended_kept c.args.how (record { ended = c.self.inside.ended.items; state = c.self.inside.session }) c.end_history.new.session c.args.fresh c.in-Ok.ended c.self.invariant.2 steps)),
      subst (λ (es : List Log). IsKeptDown (record { ended = es; state = c.end_history.new.session })) (sym (behind c))
          (keeps_over c.self.inside.ended.items c.in-Ok.ended c.self.inside.session c.end_history.new.session (λ p q. EndStepDown c.args.how p c.args.fresh (Ok c.in-Ok.ended) q)
          (λ p q. over_by p q c.args.how c.args.fresh c.in-Ok.ended) (λ p q s. ends_with c.args.how p q c.args.fresh c.in-Ok.ended s) steps c.self.invariant.2),
    )

pub invariant_of-self-in-Err : goal.invariant_of-self-in-Err
invariant_of-self-in-Err c =
    let steps = subst (λ (r : Result Log EpochRefused). LeadsOn c.self.inside.session (λ p q. EndStepDown c.args.how p c.args.fresh r q) c.end_history.new.session) c.in-Err.is c.end_history.ensures.step in (
      search rules,
      All-same (λ (h : Log). WasKeptDown h.records) _ _ c.reserve.ensures.items c.self.invariant.1,
      subst (λ (es : List Log). IsKeptDown (record { ended = es; state = c.end_history.new.session })) (sym c.reserve.ensures.items)
          (keeps_on c.self.inside.ended.items c.self.inside.session c.end_history.new.session (λ p q. EndStepDown c.args.how p c.args.fresh (Err c.in-Err.refused) q)
          (λ p q s r. refused_by p q c.args.how c.in-Err.refused.why c.args.fresh c.in-Err.refused.fresh s r) steps c.self.invariant.2),
    )

pub returns-in-Ok-clause-step : goal.returns-in-Ok-clause-step
returns-in-Ok-clause-step c =
    let steps = subst (λ (r : Result Log EpochRefused). LeadsOn c.self.inside.session (λ p q. EndStepDown c.args.how p c.args.fresh r q) c.end_history.new.session) c.in-Ok.is c.end_history.ensures.step in
    rw (← c.self.view_is) (
      c.in-Ok.ended,
      subst (λ (es : List Log). EndsDown c.in-Ok.ended (record { ended = c.self.inside.ended.items; state = c.self.inside.session }) (record { ended = es; state = c.end_history.new.session }) (λ p q. EndStepDown c.args.how p c.args.fresh (Ok c.in-Ok.ended) q))
          (sym (behind c))
          (closed_over c.self.inside.ended.items c.in-Ok.ended c.self.inside.session c.end_history.new.session (λ p q. EndStepDown c.args.how p c.args.fresh (Ok c.in-Ok.ended) q)
          (λ p q. over_by p q c.args.how c.args.fresh c.in-Ok.ended) (λ p q s. ends_with c.args.how p q c.args.fresh c.in-Ok.ended s) steps),
    )

pub returns-in-Err-clause-step : goal.returns-in-Err-clause-step
returns-in-Err-clause-step c =
    let steps = subst (λ (r : Result Log EpochRefused). LeadsOn c.self.inside.session (λ p q. EndStepDown c.args.how p c.args.fresh r q) c.end_history.new.session) c.in-Err.is c.end_history.ensures.step in
    rw (← c.self.view_is)
    (refuses c.in-Err.refused.why c.args.how c.args.fresh _ _ c.in-Err.refused
    (λ i. record { ended = c.reserve.ensures.items i; state = c.in-Err.ensures.err.1 i })
    (subst (λ (es : List Log). StepsDown (record { ended = c.self.inside.ended.items; state = c.self.inside.session }) (record { ended = es; state = c.end_history.new.session }) (λ p q. EndStepDown c.args.how p c.args.fresh (Err c.in-Err.refused) q))
    (sym c.reserve.ensures.items)
    (advanced c.self.inside.ended.items c.self.inside.session c.end_history.new.session (λ p q. EndStepDown c.args.how p c.args.fresh (Err c.in-Err.refused) q)
    (λ p q s r. refused_by p q c.args.how c.in-Err.refused.why c.args.fresh c.in-Err.refused.fresh s r) steps)))
