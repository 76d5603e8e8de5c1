-- Without tries no name is sent twice, and what the router nacks by itself is sent nowhere.
use Rattle.std.proofs.Common.{ℕ, inl, inr, List, [], ◌∷◌, ◌≡◌, ◌≤◌, Option, Some, None, arith, subst, sym, ◌∙◌, ap}
use Rattle.mux_frame.specs.Spelling.{MuxFrame}
use Rattle.mux_history.specs.declared.name.Name.{Name}
use Rattle.mux_history.specs.declared.session.SessionId.{SessionId}
use Rattle.mux_history.specs.declared.session.SessionId.TheVariants.{Client, Server}
use Rattle.mux_history.specs.Readings.{is_retried}
use Rattle.mux_model.specs.Entries.{Exchange}
use Rattle.mux_model.specs.Tags.{Holder, name_held}
use Rattle.mux_model.specs.Steps.{entries}
use Rattle.mux_model.specs.World.{World, Hand, Reached, starts, start}
use Rattle.mux_model.specs.Runs.{lines}
use Rattle.mux_model.specs.Legal.{Line, Each, EachLine, OnFinal, holder_then, times_carried, total}
use Rattle.mux_model.proofs.Happens.{run_reached, limits_kept}
use Rattle.mux_legal.specs.Headline.{IsPlainAnswer, replied, nacked, unrouted, lost, discarded, OnNamed, AnswersPlainly, EveryNameIsSentOnce}
use Rattle.mux_legal.proofs.Invariant.{is_unsent, IsKeptMade, kept_nack, kept_no_route, kept_lost, kept_discard, IsKeptReply, IsKeptFinal, IsKept, Inv, gifts_opened, carried_offered}
use Rattle.mux_legal.proofs.Worlds.{reached_keeps}
use Rattle.mux_legal.proofs.Tries.{never_often}
use Rattle.mux_legal.proofs.ReadingsHold.{reached_legal}

module _ (ls : List Line) (unsent : (n : Name) → 1 ≤ total is_unsent n ls → times_carried n ls ≡ 0) where
  plain_made : (n : Name) (e : Exchange) (f : MuxFrame) → IsKeptMade ls n e f → IsPlainAnswer ls n f
  plain_made n e f (kept_nack i u) = nacked i (unsent n u)
  plain_made n e f (kept_no_route i u) = unrouted i (unsent n u)
  plain_made n e f (kept_lost i l) = lost i
  plain_made n e f (kept_discard i d) = discarded i

  plain_reply : (n : Name) (e : Exchange) (f : MuxFrame) → IsKeptReply ls e f n → IsPlainAnswer ls n f
  plain_reply n e f (inl p) = replied p.0 p.1 p.2
  plain_reply n e f (inr m) = plain_made n e f m

  plain_final : (e : Exchange) (f : MuxFrame) (o : Option Holder) → IsKeptFinal ls e f o → OnNamed (name_held o) (λ n. IsPlainAnswer ls n f)
  plain_final e f None k = tt
  plain_final e f (Some h) k = subst (λ o. OnNamed o (λ n. IsPlainAnswer ls n f)) (sym k.1) (plain_reply k.0 e f k.2)

  plain_sent : (e : Exchange) (held : MuxFrame → Option Holder) (sent : Option MuxFrame) → OnFinal sent (λ f. IsKeptFinal ls e f (held f)) →
      OnFinal sent (λ f. OnNamed (name_held (held f)) (λ n. IsPlainAnswer ls n f))
  plain_sent e held None k = tt
  plain_sent e held (Some f) k = λ final. plain_final e f (held f) (k final)

  plain_entry : (id : SessionId) (e : Exchange) (old : List Exchange) → IsKept ls id e old → AnswersPlainly ls id e old
  plain_entry (Server k) e old kept = tt
  plain_entry (Client k) e old kept = plain_sent e (λ f. holder_then (Client k) e old f.tag) e.sent kept

  plain_entries : (id : SessionId) (es : List Exchange) → Each (IsKept ls id) es → Each (AnswersPlainly ls id) es
  plain_entries id [] kept = tt
  plain_entries id (e ∷ old) kept = (plain_entry id e old kept.0, plain_entries id old kept.1)

  plain_lines : (some : List Line) → EachLine (λ l. Each (IsKept ls l.session) (entries l.steps)) some → EachLine (λ l. Each (AnswersPlainly ls l.session) (entries l.steps)) some
  plain_lines [] kept = tt
  plain_lines (l ∷ some) kept = (plain_entries l.session (entries l.steps) kept.0, plain_lines some kept.1)

-- a name that the router nacked, of which none is sent again, is offered nowhere
pub kept_plain : {boot clients servers : ℕ} {ls : List Line} {hands : List Hand} → Inv boot clients servers ls hands → ((n : Name) → total is_retried n ls ≤ 0) →
    EachLine (λ l. Each (AnswersPlainly ls l.session) (entries l.steps)) ls
kept_plain {ls = ls} v never =
    plain_lines ls
    (λ n u. omega (arith, u, v.linear n, gifts_opened n ls v.own, v.unique n.boot (Client n.client), carried_offered n ls v.own, never n)) ls v.kept

pub reached_once : {w : World} → Reached w → w.limits.retries ≡ 0
    → ((n : Name) → times_carried n (lines w.connections) ≤ 1) × EachLine (λ l. Each (AnswersPlainly (lines w.connections) l.session) (entries l.steps)) (lines w.connections)
reached_once {w} r none =
    let legal = reached_legal r in
    (λ n. omega (arith, legal.tries n, none), kept_plain (reached_keeps r) (λ n. omega (arith, never_often r n, none)))

pub every_name_is_sent_once : EveryNameIsSentOnce
every_name_is_sent_once limits boot events free none =
    reached_once (run_reached (start limits boot) events free (starts limits boot)) (ap (λ l. l.retries) (limits_kept (start limits boot) events) ∙ none)
