use Rattle.std.proofs.Common.{List, [], refl, sym, ◌∙◌, subst, rules}
use Rattle.std.proofs.lemmas.List.Elements.{All-nil, All-same}
use Rattle.mux_history.specs.Log.{Log}
use Rattle.mux_legal.specs.Sessions as sessions
use Rattle.mux_model.specs.World.{first_step}
use Rattle.kept_session.specs.Histories.{AreBehind}
use Rattle.kept_session.specs.Reached.{WasKept}
use Rattle.kept_session.proofs.Records.{begins_first, begins_with_all}
use Rattle.kept_session.proofs.client.KeptClientSession.open.Goals as goal

pub invariant_of-result : goal.invariant_of-result
invariant_of-result c = (
  search rules,
  All-same (λ (h : Log). WasKept h.records) _ [] c.in_ok-ended.ensures.items (All-nil (λ (h : Log). WasKept h.records)),
  (
    _,
    (refl, sessions.IsReachedUp.begins),
    c.in_ok-session.ensures,
    [],
    subst (λ (es : List Log). AreBehind [] es c.in_ok-session.session.records c.in_ok-session.session.epoch (first_step c.args.mode)) (sym c.in_ok-ended.ensures.items)
        (record {
          all = begins_with_all c.args.mode c.in_ok-session.session.records c.in_ok-session.ensures.records;
          count = sym (c.in_ok-session.ensures.epoch ∙ begins_first c.args.mode);
        }),
  ),
)
