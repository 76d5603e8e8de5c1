-- The first fault, in words: what it tells of the record and of those before it.
use Rattle.std.proofs.Common.{length, List, [], ◌∷◌, ◌≡◌, refl, sym, ◌∙◌, ap, Option, Some, None, Result, Ok, Err}
use Rattle.std.specs.Prelude.{Bool, true, false, if◌then◌else◌, ◌++◌, ◌↔◌, IsOk, IfErr, unwrap_or}
use Rattle.std.specs.Result.{result_err}
use Rattle.std.proofs.lemmas.List.Elements.{All-nil, All-cons, All-head, All-tail}
use Rattle.mux_history.specs.declared.record.Record.{Record}
use Rattle.mux_agree.specs.declared.agreement.disagreement.DisagreementCause.{DisagreementCause}
use Rattle.mux_agree.specs.declared.agreement.disagreement.Disagreement.{Disagreement}
use Rattle.mux_agree.specs.declared.agreement.disagreement.DisagreementCause.TheVariants.{SentTwice, AnsweredTwice, NeverSent, NackOfSent, LostButSettled, TagOpen, AfterDrain, Lapsed, BadEpoch}
use Rattle.mux_agree.specs.Agree.{is_sent_twice, is_answered_twice, is_never_sent, is_nacked_though_sent, is_lost_but_settled, is_tag_fault, is_after_drain, is_on_lapsed, is_bad_epoch}
use Rattle.mux_agree.specs.Walk.{Kept, Stop, told, cause_at, or_else, first_among, first_fault, all_records, client_records, stops, IsFaultless, AreFaultless, IsFirst, BearOut, IsFirstFault}

-- a test of a cause, before those of greater causes
none_behind : (b : Bool) (cause : DisagreementCause) (greater : Option DisagreementCause) → (if b then Some cause else greater) ≡ None → (b ≡ false) × (greater ≡ None)
none_behind true cause greater e = absurd (cc)
none_behind false cause greater e = (refl, e)

-- no least cause: none of the causes
none_of_nine : (clients all : List Record) (s : Stop) → cause_at clients all s ≡ None → IsFaultless clients all s
none_of_nine clients all s e =
    let first = none_behind (is_sent_twice all s.entry) SentTwice _ e in
    let second = none_behind (is_answered_twice (s.past ++ s.earlier) s.entry) AnsweredTwice _ first.1 in
    let third = none_behind (is_never_sent clients all s.entry) NeverSent _ second.1 in
    let fourth = none_behind (is_nacked_though_sent all s.entry) NackOfSent _ third.1 in
    let fifth = none_behind (is_lost_but_settled all s.entry) LostButSettled _ fourth.1 in
    let sixth = none_behind (is_tag_fault s.past s.entry) TagOpen _ fifth.1 in
    let seventh = none_behind (is_after_drain s.past s.entry) AfterDrain _ sixth.1 in
    let eighth = none_behind (is_on_lapsed s.past s.entry) Lapsed _ seventh.1 in
    let ninth = none_behind (is_bad_epoch s.mode s.session s.past s.entry) BadEpoch None eighth.1 in
    record {
      sent_once = first.0;
      answered_once = second.0;
      founded = third.0;
      not_nacked = fourth.0;
      lost = fifth.0;
      on_its_tag = sixth.0;
      before_drain = seventh.0;
      on_its_lease = eighth.0;
      leads_on = ninth.0;
    }

behind_none : (b : Bool) (cause : DisagreementCause) (greater : Option DisagreementCause) → b ≡ false → greater ≡ None → (if b then Some cause else greater) ≡ None
behind_none true cause greater is e = absurd (cc)
behind_none false cause greater is e = e

-- none of the causes: no least cause
nine_of_none : (clients all : List Record) (s : Stop) → IsFaultless clients all s → cause_at clients all s ≡ None
nine_of_none clients all s f =
    behind_none _ SentTwice _ f.sent_once (behind_none _ AnsweredTwice _ f.answered_once (behind_none _ NeverSent _ f.founded
    (behind_none _ NackOfSent _ f.not_nacked (behind_none _ LostButSettled _ f.lost (behind_none _ TagOpen _ f.on_its_tag
    (behind_none _ AfterDrain _ f.before_drain (behind_none _ Lapsed _ f.on_its_lease
    (behind_none _ BadEpoch None f.leads_on refl))))))))

-- what is told first of a record of this cause, and of those behind it
abbrev told_first : (clients all : List Record) → Stop → List Stop → Option DisagreementCause → Option Disagreement
told_first clients all s ss o = or_else (told s.session (length s.past) o) (first_among clients all ss)

none_by : (clients all : List Record) (s : Stop) (ss : List Stop) (o : Option DisagreementCause) → cause_at clients all s ≡ o →
    (first_among clients all ss ≡ None → AreFaultless clients all ss) → told_first clients all s ss o ≡ None → AreFaultless clients all (s ∷ ss)
none_by clients all s ss None is behind e = All-cons (IsFaultless clients all) s ss (none_of_nine clients all s is) (behind e)
none_by clients all s ss (Some cause) is behind e = absurd (cc)

-- where no first fault is told, there is none
none_told : (clients all : List Record) (ss : List Stop) → first_among clients all ss ≡ None → AreFaultless clients all ss
none_told clients all [] e = All-nil (IsFaultless clients all)
none_told clients all (s ∷ ss) e = none_by clients all s ss (cause_at clients all s) refl (none_told clients all ss) e

-- where there is none, none is told
none_there : (clients all : List Record) (ss : List Stop) → AreFaultless clients all ss → first_among clients all ss ≡ None
none_there clients all [] faultless = refl
none_there clients all (s ∷ ss) faultless =
    let is : cause_at clients all s ≡ None = nine_of_none clients all s (All-head (IsFaultless clients all) s ss faultless) in
    ap (told_first clients all s ss) is ∙ none_there clients all ss (All-tail (IsFaultless clients all) s ss faultless)

some_by : (clients all : List Record) (s : Stop) (ss : List Stop) (d : Disagreement) (o : Option DisagreementCause) → cause_at clients all s ≡ o →
    (first_among clients all ss ≡ Some d → IsFirst clients all ss d) → told_first clients all s ss o ≡ Some d → IsFirst clients all (s ∷ ss) d
some_by clients all s ss d None is behind e =
    let f = behind e in
    record {
      before = s ∷ f.before;
      stop = f.stop;
      after = f.after;
      walk = ap (λ l. s ∷ l) f.walk;
      faultless = All-cons (IsFaultless clients all) s f.before (none_of_nine clients all s is) f.faultless;
      session = f.session;
      place = f.place;
      cause = f.cause;
    }
some_by clients all s ss d (Some cause) is behind e =
    record {
      before = [];
      stop = s;
      after = ss;
      walk = refl;
      faultless = All-nil (IsFaultless clients all);
      session = sym (ap (λ (o : Option Disagreement). (unwrap_or o d).session) e);
      place = sym (ap (λ (o : Option Disagreement). (unwrap_or o d).place) e);
      cause = is ∙ ap (λ (o : Option Disagreement). Some (unwrap_or o d).cause) e;
    }

-- the fault that is told is at a stop, behind stops without a fault
some_told : (clients all : List Record) (ss : List Stop) (d : Disagreement) → first_among clients all ss ≡ Some d → IsFirst clients all ss d
some_told clients all [] d e = absurd (cc)
some_told clients all (s ∷ ss) d e = some_by clients all s ss d (cause_at clients all s) refl (some_told clients all ss d) e

pub ok_bears_out : {T : Type 0} (r : Result T Disagreement) (hs : List Kept) → result_err r ≡ first_fault hs → IsOk r ↔ BearOut hs
ok_bears_out (Ok x) hs e = (λ _. none_told (client_records hs) (all_records hs) (stops [] hs) (sym e), λ _. refl)
ok_bears_out (Err d) hs e = (λ h. absurd (cc), λ faultless. some_none (e ∙ none_there (client_records hs) (all_records hs) (stops [] hs) faultless))
  where
    some_none : {P : Type 0} → ◌≡◌ {A = Option Disagreement} (Some d) None → P
    some_none x = absurd (cc)

-- where all bears out, no first fault is told
pub bears_out_ok : (hs : List Kept) → BearOut hs → first_fault hs ≡ None
bears_out_ok hs faultless = none_there (client_records hs) (all_records hs) (stops [] hs) faultless

pub err_is_first : {T : Type 0} (r : Result T Disagreement) (hs : List Kept) → result_err r ≡ first_fault hs → IfErr r (IsFirstFault hs)
err_is_first (Ok x) hs e = tt
err_is_first (Err d) hs e = some_told (client_records hs) (all_records hs) (stops [] hs) d (sym e)
