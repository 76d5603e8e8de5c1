use Rattle.std.proofs.Common.{List, [], sym, subst, rules}
use Rattle.std.proofs.lemmas.List.Elements.{All-nil, All-same}
use Rattle.mux_history.specs.Log.{Log}
use Rattle.mux_legal.specs.Sessions as sessions
use Rattle.kept_session.specs.Histories.{AreBehind}
use Rattle.kept_session.specs.ReachedDown.{WasKeptDown}
use Rattle.kept_session.proofs.server.KeptServerSession.open.Goals as goal

pub invariant_of-result : goal.invariant_of-result
invariant_of-result c = (
  search rules,
  All-same (λ (h : Log). WasKeptDown h.records) _ [] c.in_ok-ended.ensures.items (All-nil (λ (h : Log). WasKeptDown h.records)),
  (
    _,
    sessions.IsReachedDown.begins,
    c.in_ok-session.ensures,
    [],
    subst (λ (es : List Log). AreBehind [] es c.in_ok-session.session.records c.in_ok-session.session.epoch []) (sym c.in_ok-ended.ensures.items)
        (record { all = c.in_ok-session.ensures.records; count = sym c.in_ok-session.ensures.epoch }),
  ),
)
