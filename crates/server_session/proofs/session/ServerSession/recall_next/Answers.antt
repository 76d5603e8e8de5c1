use Rattle.std.proofs.Common.{◌≡◌, ℕ, None, Some, ap, sym, ◌∙◌}
use Rattle.mux_history.specs.declared.kind.RecordKind.TheVariants as kinds
use Rattle.translate_book.specs.declared.entry.Place.{Place}
use Rattle.translate_book.specs.declared.entry.Effect.{Effect}
use Rattle.translate_book.specs.Entries.{reason_of}
use Rattle.server_session.specs.State.{State, noted, naming}
use Rattle.server_session.proofs.session.ServerSession.recall_next.Goals as goal

pub unreachable-requires : goal.unreachable-requires
unreachable-requires c =
    let x = c.requires in
    let clash : None ≡ Some (reason_of x.0) = sym c.in_default.is ∙ ap (λ (f : Effect). f.reason) (c.change.ensures.effect x.0 x.1) in cc

pub returns-clause-new : goal.returns-clause-new
returns-clause-new c = λ e at.
    let tag = ap (λ (r : ℕ × Place). r.0) (c.place_of-tag.ensures e at) in
    let name = c.naming-name.ensures ∙ ap (λ (s : State). naming s c.args.seq) c.change.ensures.new in
    c.write.ensures ∙ (λ i. noted (c.change.ensures.new i) 0 kinds.Recalled (tag i) (Some (name i)) None)
