use Rattle.std.proofs.Common.{[], Bool, None, Some, sym, refl, ap, cond, ◌∙◌}
use Rattle.std.specs.FinMap as map
use Rattle.mux_history.specs.declared.kind.RecordKind.TheVariants as kinds
use Rattle.mux_message.specs.Made.{tdiscarded_for}
use Rattle.mux_model.specs.Steps.{RecallCall, Recorded, Unrecorded, records, entry_of}
use Rattle.translate_book.specs.Values.{reason_in}
use Rattle.client_session.specs.Past.{add}
use Rattle.client_session.proofs.Keeping.{kept_discarding}
use Rattle.client_session.proofs.Telling.{recall_told, can_recall_held}
use Rattle.client_session.proofs.session.ClientSession.recall.Goals as goal

pub returns-then-not-can_recall-clause-step : goal.returns-then-not-can_recall-clause-step
returns-then-not-can_recall-clause-step c = λ p b.
    let r = c.args.recall in
    let e = entry_of (records p.steps) c.args.now kinds.Discarding r.tag (Some r.name) None (Some (tdiscarded_for r.tag (reason_in r.why))) in
    let test = sym c.can_recall.ensures ∙ c.if-not-can_recall.true in
    let may = rw (c.tag-tag.ensures, c.name-name.ensures) at test in
    (p, (recall_told c.args.self.now p r.name r.tag (reason_in r.why) c.args.now b ∙ ap (λ (z : Bool). cond z (Recorded e []) Unrecorded) may, refl), b)

pub returns-clause-step : goal.returns-clause-step
returns-clause-step c = λ p b.
    let s = c.args.self.now in
    let r = c.args.recall in
    let e = entry_of (records p.steps) c.args.now kinds.Discarding r.tag (Some r.name) None (Some (tdiscarded_for r.tag (reason_in r.why))) in
    let test = sym c.can_recall.ensures ∙ c.if-not-can_recall.false in
    let may = rw (c.tag-tag.ensures, c.name-name.ensures) at test in
    let held = can_recall_held s.closed (map.get s.entries r.tag) r.name may in (
      add p (RecallCall r.name r.tag (reason_in r.why) c.args.now) e,
      (e, (recall_told s p r.name r.tag (reason_in r.why) c.args.now b ∙ ap (λ (z : Bool). cond z (Recorded e []) Unrecorded) may, refl)),
      rw (c.write.ensures, c.mark.ensures.new, c.tdiscarded.ensures, c.into_bytes.ensures, c.tag-tag.ensures, c.name-name.ensures, c.into_parts-why.ensures) (kept_discarding s p c.args.now r.tag r.name (reason_in r.why) held.0 b held.1),
    )
