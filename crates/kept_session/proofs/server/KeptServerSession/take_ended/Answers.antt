use Rattle.std.proofs.Common.{List, [], ◌≡◌, ◌∙◌, sym, ap, subst, rules}
use Rattle.std.proofs.lemmas.List.Elements.{All-nil, All-same}
use Rattle.mux_history.specs.Log.{Log}
use Rattle.kept_session.specs.ReachedDown.{IsKeptDown, WasKeptDown}
use Rattle.kept_session.proofs.ReachingDown.{keeps_none}
use Rattle.kept_session.proofs.server.KeptServerSession.take_ended.Goals as goal
use Rattle.kept_session.proofs.server.KeptServerSession.take_ended.Goals.{After-swap}

-- the session has none
none_left : (c : After-swap) → c.swap.new.x.items ≡ []
none_left c = ap (λ v. v.items) c.swap.ensures.x_after ∙ c.requires.empty

pub invariant_of-self : goal.invariant_of-self
invariant_of-self c = (
  search rules,
  All-same (λ (h : Log). WasKeptDown h.records) _ [] (none_left c) (All-nil (λ (h : Log). WasKeptDown h.records)),
  subst (λ (es : List Log). IsKeptDown (record { ended = es; state = c.self.inside.session })) (sym (none_left c))
      (keeps_none c.self.inside.ended.items c.self.inside.session c.self.invariant.2),
)

pub returns-clause-kept : goal.returns-clause-kept
returns-clause-kept c = All-same (λ (h : Log). WasKeptDown h.records) _ _ (ap (λ v. v.items) c.swap.ensures.y_after) c.self.invariant.1
