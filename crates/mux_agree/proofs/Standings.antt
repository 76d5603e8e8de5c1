-- What an outline says of an Epoch record.
use Rattle.std.proofs.Common.{ℕ, List, ◌+◌, ◌≡◌, ◌&&◌, Bool, true, false, refl, sym, ◌∙◌, ap, subst}
use Rattle.std.specs.Prelude.{◌==◌, not}
use Rattle.mux_history.specs.declared.record.Record.{Record}
use Rattle.mux_history.specs.declared.kind.RecordKind.TheVariants.{Epoch, Rolled}
use Rattle.mux_history.specs.declared.kind.Standing.{Standing}
use Rattle.mux_history.specs.declared.session.InitMode.{InitMode}
use Rattle.mux_history.specs.declared.session.SessionId.{SessionId}
use Rattle.mux_history.specs.declared.session.SessionId.TheVariants.{Client, Server}
use Rattle.mux_history.specs.Readings.{dispatches, epoch_of, has_ended, reading}
use Rattle.mux_history.specs.Standings.{down_standing, up_standing, same_standing, stands_so, leads_to}
use Rattle.mux_agree.specs.declared.agreement.outline.Outline.{Outline}
use Rattle.mux_agree.specs.Outlines.{IsCount, down_by, is_free, outline_of, up_by}
use Rattle.mux_agree.proofs.Words.{taken_by, down_words, up_words, number_by, ended_by, reading_by}

module _ (about : Record) (past : List Record) (o : Outline) (is : o ≡ outline_of about past) where
  pub down_so : (s : Standing) (b : Bool) → ((taken : ℕ) → IsCount o.dispatches taken → b ≡ same_standing s (down_by taken o)) → b ≡ same_standing s (down_standing past)
  down_so s b by =
      by (dispatches past) (subst (λ (x : Outline). IsCount x.dispatches (dispatches past)) (sym is) (taken_by about past))
      ∙ (ap (λ x. same_standing s (down_by (dispatches past) x)) is ∙ ap (same_standing s) (down_words about past))

  pub up_so : (mode : InitMode) (s : Standing) (b : Bool) → b ≡ same_standing s (up_by mode o) → b ≡ same_standing s (up_standing mode past)
  up_so mode s b by = by ∙ (ap (λ x. same_standing s (up_by mode x)) is ∙ ap (same_standing s) (up_words mode about past))

  pub begins_so : (number at : ℕ) (b : Bool) → b ≡ (number == o.number + 1 && not o.has_ended && at == o.reading) →
      b ≡ (number == epoch_of past + 1 && not (has_ended past) && at == reading past)
  begins_so number at b by =
      by
      ∙ (ap (λ (x : Outline). number == x.number + 1 && not x.has_ended && at == x.reading) is
      ∙ λ i. number == number_by about past i + 1 && not (ended_by about past i) && at == reading_by about past i)

pub client_so : (mode : InitMode) (id : SessionId) (past : List Record) (s : Standing) (k : ℕ) (b : Bool) →
    id ≡ Client k → is_free id past ≡ true → b ≡ same_standing s (down_standing past) → b ≡ stands_so mode id past s
client_so mode id past s k b of_client free is =
    is
    ∙ (sym (ap (λ x. x && same_standing s (down_standing past)) (ap (λ x. is_free x past) (sym of_client) ∙ free))
    ∙ sym (λ i. stands_so mode (of_client i) past s))

pub server_so : (mode : InitMode) (id : SessionId) (past : List Record) (s : Standing) (k : ℕ) (b : Bool) →
    id ≡ Server k → is_free id past ≡ true → b ≡ same_standing s (up_standing mode past) → b ≡ stands_so mode id past s
server_so mode id past s k b of_server free is =
    is
    ∙ (sym (ap (λ x. x && same_standing s (up_standing mode past)) (ap (λ x. is_free x past) (sym of_server) ∙ free))
    ∙ sym (λ i. stands_so mode (of_server i) past s))

and_last : (a b c d : Bool) → ((a && b && c) && d) ≡ (a && b && c && d)
and_last true true c d = refl
and_last true false c d = refl
and_last false b c d = refl

-- with the tests of the record, and of how the session stands
pub epoch_so : (mode : InitMode) (id : SessionId) (past : List Record) (r : Record) (number : ℕ) (st : Standing) (b s : Bool) →
    r.kind ≡ Epoch number st → b ≡ (number == epoch_of past + 1 && not (has_ended past) && r.reading == reading past) → s ≡ stands_so mode id past st →
    (b && s) ≡ leads_to mode id past r r.kind
epoch_so mode id past r number st b s kind tests stands =
    (λ i. tests i && stands i)
    ∙ (and_last (number == epoch_of past + 1) (not (has_ended past)) (r.reading == reading past) (stands_so mode id past st)
    ∙ ap (leads_to mode id past r) (sym kind))

pub rolled_so : (mode : InitMode) (id : SessionId) (past : List Record) (r : Record) (number : ℕ) (b : Bool) →
    r.kind ≡ Rolled number → b ≡ (number == epoch_of past + 1 && not (has_ended past) && r.reading == reading past) →
    b ≡ leads_to mode id past r r.kind
rolled_so mode id past r number b kind tests = tests ∙ ap (leads_to mode id past r) (sym kind)
