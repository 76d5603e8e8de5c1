-- A list that is a legal run, by its record.
use Rattle.std.proofs.Common.{inl, inr, ℕ, List, [], ◌∷◌, ◌≡◌, ◌≤◌, ◌+◌, ◌⊎◌, Bool, true, false, refl, arith}
use Rattle.std.specs.Prelude.{◌==◌, ◌&&◌, if◌then◌else◌}
use Rattle.mux_message.specs.Reading.{message_of, after_text, after_each, after_pairs, tdispatch_at, rdispatch_at}
use Rattle.mux_history.specs.declared.kind.RecordKind.TheVariants.{Passed}
use Rattle.mux_history.specs.declared.session.SessionId.{SessionId}
use Rattle.mux_history.specs.declared.session.SessionId.TheVariants.{Client, Server}
use Rattle.mux_history.specs.Readings.{same_name}
use Rattle.mux_model.specs.Legal.{Line, IsLegal, bearers}
use Rattle.mux_model.proofs.Rows.{tdispatch, rdispatch}
use Rattle.mux_legal.proofs.LegalBreaks.{n1, client, server, took, offers, settles, answers}

pub one_of : (b : Bool) → (if b then 1 else 0) ≤ 1
one_of true = omega arith
one_of false = omega arith

pub two_of : (x y : Bool) → (if x && y then 1 else 0) + ((if x && false then 1 else 0) + 0) ≤ 1
two_of true true = omega arith
two_of true false = omega arith
two_of false y = omega arith

pub two_of' : (x y : Bool) → (if x && false then 1 else 0) + ((if x && y then 1 else 0) + 0) ≤ 1
two_of' true true = omega arith
two_of' true false = omega arith
two_of' false y = omega arith

pub carried_one : (b : Bool) → 0 + (0 + ((if true && b then 1 else 0) + 0) + 0) ≤ 1
carried_one true = omega arith
carried_one false = omega arith

pub no1 : (false ≡ true ⊎ ⊥) → ⊥
no1 (inl h) = absurd (cc)
no1 (inr h) = h

-- a dispatch, its reply, passed on
abbrev proper : List Line
proper = client 1 (answers Passed n1 5 (rdispatch 5) ∷ took n1 5 ∷ []) ∷ server 1 (settles n1 2 (rdispatch 2) ∷ offers n1 2 (tdispatch 2) ∷ []) ∷ []

proper_bearers : (b : ℕ) (id : SessionId) → bearers b id proper ≤ 1
proper_bearers b (Client k) = two_of (1 == b) (1 == k)
proper_bearers b (Server k) = two_of' (1 == b) (1 == k)

proper_is_legal : IsLegal 0 proper
unfolding message_of tdispatch_at rdispatch_at after_pairs after_each after_text
proper_is_legal =
    record {
      one_connection = proper_bearers;
      fair = (((λ h. (n1, refl, inl (rdispatch 2, inr (inl (1, refl, inl (refl, refl, refl))), refl, λ nack. absurd (cc)))), (tt, tt)), ((tt, ((λ h. record { carried = (n1, refl, tdispatch 5, inl (refl, refl, inr (inl (refl, refl, refl))), refl); free = refl; undrained = refl }), tt)), tt));
      unlapsed = ((tt, (tt, tt)), ((tt, ((λ h. refl), tt)), tt));
      named = ((tt, ((λ h. refl), tt)), ((tt, (tt, tt)), tt));
      sent_again = λ n. omega (arith, carried_one (same_name n1 n));
      tries = λ n. omega (arith, carried_one (same_name n1 n));
      answered_once = λ n. omega (arith, one_of (same_name n1 n));
      cut = (((λ h. absurd (no1 h)), ((λ h. absurd (h)), tt)), (((λ h. absurd (no1 h)), ((λ h. absurd (h)), tt)), tt));
    }
