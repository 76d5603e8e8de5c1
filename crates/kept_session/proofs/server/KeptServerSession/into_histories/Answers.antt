use Rattle.std.proofs.Common.{◌∷◌, [], ◌++◌, ◌∙◌, ap}
use Rattle.std.proofs.lemmas.List.Elements.{All-push, All-same}
use Rattle.mux_history.specs.Log.{Log}
use Rattle.kept_session.specs.ReachedDown.{WasKeptDown}
use Rattle.kept_session.proofs.RecordingDown.{left_is, left_kept}
use Rattle.kept_session.proofs.server.KeptServerSession.into_histories.Goals as goal

pub returns-clause-kept : goal.returns-clause-kept
returns-clause-kept c =
    let k = c.self.invariant.2 in
    All-same (λ (h : Log). WasKeptDown h.records) _ _ c.push_reserved.ensures.items
    (All-push (λ (h : Log). WasKeptDown h.records) _ _ c.self.invariant.1
    (left_kept (record { ended = c.self.inside.ended.items; state = c.self.inside.session }) _ k (left_is _ k.0 _ k.2 (c.into_history.ensures k.0 k.2))))

pub returns-clause-whole : goal.returns-clause-whole
returns-clause-whole c =
    let k = c.self.invariant.2 in (
      record { ended = c.self.inside.ended.items; state = c.self.inside.session },
      k,
      c.push_reserved.ensures.items
          ∙ ap (λ (h : Log). c.self.inside.ended.items ++ h ∷ []) (left_is _ k.0 _ k.2 (c.into_history.ensures k.0 k.2)),
    )
