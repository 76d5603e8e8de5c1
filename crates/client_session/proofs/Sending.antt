-- A dispatch that is sent.
use Rattle.std.proofs.Common.{◌≡◌, ℕ, ◌≤◌, [], ◌∷◌, None, Some, Ok, Bool, Option, ap, sym, refl, ◌∙◌, cond, true, false}
use Rattle.std.specs.Prelude.{is_some, ◌==◌, max}
use Rattle.std.specs.FinMap as map
use Rattle.mux_frame.specs.Spelling.{MuxFrame}
use Rattle.mux_frame.specs.declared.frame.TheConstants.{MAX_TAG}
use Rattle.mux_history.specs.declared.kind.RecordKind.TheVariants as kinds
use Rattle.mux_history.specs.declared.name.Name.{Name}
use Rattle.mux_message.specs.Kinds.{kind_of}
use Rattle.mux_message.specs.Made.{retag}
use Rattle.mux_message.specs.declared.kind.MessageKind.TheVariants.{Tdispatch}
use Rattle.mux_model.specs.Tags.{Holder}
use Rattle.mux_model.specs.Steps.{OfferCall, PlacedAt, Recorded, records, entry_of}
use Rattle.mux_model.specs.Up.{copy_of}
use Rattle.translate_book.specs.Values.{TicketView, copy_kept}
use Rattle.translate_book.specs.declared.placed.Placed.{Placed}
use Rattle.translate_book.specs.declared.refusal.OfferRefusal.{OfferRefusal}
use Rattle.translate_book.specs.declared.sent.Sent.{Sent}
use Rattle.client_session.specs.Past.{Past, Figures, figures_of, add}
use Rattle.client_session.specs.State.{State, beginning, figures_in, frame_in, holding, noted}
use Rattle.client_session.specs.Belonging.{Belongs}
use Rattle.client_session.specs.Decide.{offer_refusal}
use Rattle.client_session.specs.Steps.{OfferStep}
use Rattle.client_session.proofs.Deciding.{figures_same, vacant}
use Rattle.client_session.proofs.Keeping.{kept_offered}
use Rattle.client_session.proofs.Telling.{offer_told, offered, offered_up}

copy_same : (t : TicketView) (now : ℕ) → frame_in (copy_kept t) ≡ copy_of (OfferCall t.name t.frame t.left now)
copy_same t now = by (t.left == 0)
  where
    by : (b : Bool) → frame_in (cond b None (Some (record { frame = t.frame; content = t.content }))) ≡ cond b None (Some t.frame)
    by true = refl
    by false = refl

-- the tag is a free one, and the mark that of the ticket
pub sent_on : (s : State) (p : Past) (t : TicketView) (now : ℕ) (mark : Sent) (f : MuxFrame) (placed : Placed) (new : State) → Belongs s p
    → offer_refusal (figures_in s) now ≡ None → kind_of t.frame.kind ≡ Tdispatch
    → mark ≡ record { name = t.name; again = copy_kept t } → f ≡ t.frame
    → (placed.name ≡ mark.name) × (placed.server ≡ s.server)
    → (2 ≤ placed.tag) × (placed.tag ≤ MAX_TAG) × (map.get s.entries placed.tag ≡ None)
    → new ≡ noted (holding s placed.tag (beginning mark.name (max s.reading now) (frame_in mark.again))) now kinds.Offered placed.tag (Some mark.name) (Some (retag placed.tag f))
    → (q : Past) × OfferStep p t now (Ok placed) q × Belongs new q
sent_on s p t now mark f placed new b mine kind mark_is sends names tags new_is =
    let none : offer_refusal (figures_of p) now ≡ None = ap (λ (g : Figures). offer_refusal g now) (sym (figures_same s p b)) ∙ mine in
    let up = offered_up (figures_in s) now mine in
    let n = t.name in
    let tag = placed.tag in
    let e = entry_of (records p.steps) now kinds.Offered tag (Some n) None (Some (retag tag t.frame)) in
    let named : mark.name ≡ n = ap (λ (m : Sent). m.name) mark_is in
    let copy = ap (λ (m : Sent). frame_in m.again) mark_is ∙ copy_same t now in
    let gives = ap (λ (m : Name). PlacedAt m p.session.number tag ∷ []) (sym (names.0 ∙ named))
    ∙ ap (λ (k : ℕ). PlacedAt placed.name k tag ∷ []) (sym (names.1 ∙ b.server)) in (
      add p (OfferCall n t.frame t.left now) e,
      (
        (tags.0, tags.1, ap (λ (h : Option Holder). is_some h) (vacant s p tag b up tags.2)),
        (
          e,
          (
            offer_told p tag n t.frame t.left now
                ∙ ap (λ (o : Option OfferRefusal). offered o (Recorded e (PlacedAt n p.session.number tag ∷ []))) none
                ∙ ap (λ hs. Recorded e hs) gives,
            refl,
          ),
        ),
      ),
      rw (new_is, named, copy, sends) (kept_offered s p now tag n t.frame t.left b kind up tags.2),
    )
