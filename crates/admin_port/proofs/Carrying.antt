-- What one line leads to.
use Rattle.std.proofs.Common.{◌≡◌, inl, inr, ℕ, List, [], ◌∷◌, Bool, true, false, ap, subst, ◌∙◌}
use Rattle.std.proofs.lemmas.List.Elements.{All-cons, All-nil}
use Rattle.hub.specs.declared.admin.AdminReply.{AdminReply}
use Rattle.hub.specs.declared.admin.AdminReply.TheVariants.{Failed}
use Rattle.hub.specs.declared.admin.OrderFault.TheVariants.{BadCommand}
use Rattle.admin_port.specs.Replies.{reply_lines, text_of}
use Rattle.line_session.specs.Requests.{is_request}
use Rattle.admin_port.specs.Serving.{Serves}
use Rattle.admin_port.specs.Carrying.{AnswersBy, CarriesOut, IsRight, Tells, faulty, foreign, is_bye, obeyed}

pub line_answered : {O : Type 0} (obeys : Serves O) → ((s : O) → obeys s [] s) → (a b : O) (line told : List ℕ) (reply : AdminReply)
    → is_request line ≡ false → CarriesOut obeys a line reply b → Tells reply told
    → AnswersBy obeys a (record { line = line; told = told; is_last = is_bye reply } ∷ []) b
line_answered obeys nothing a b line told reply ours (inl did) tells = (
  obeyed line did.0 did.1 told ∷ [],
  did.3,
  All-cons IsRight (obeyed line did.0 did.1 told) [] (ours, did.2, subst (λ r. Tells r told) did.4 tells) (All-nil IsRight),
  ap (λ r. record { line = line; told = told; is_last = is_bye r } ∷ []) did.4,
)
line_answered obeys nothing a b line told reply ours (inr fault) tells = (
  faulty line fault.0 ∷ [],
  rw fault.2 (nothing a),
  All-cons IsRight (faulty line fault.0) [] (ours, fault.1) (All-nil IsRight),
  elim (subst (λ r. Tells r told) fault.3 tells) [
    | inl is ↦ ap (λ r. record { line = line; told = told; is_last = is_bye r } ∷ []) fault.3
        ∙ ap (λ t. record { line = line; told = t; is_last = is_bye (Failed fault.0) } ∷ []) is
    | inr report ↦ absurd report.0
  ],
)

pub request_answered : {O : Type 0} (obeys : Serves O) → ((s : O) → obeys s [] s) → (a : O) (line told : List ℕ) (last : Bool)
    → is_request line ≡ true → told ≡ text_of (reply_lines (Failed BadCommand)) → last ≡ true
    → AnswersBy obeys a (record { line = line; told = told; is_last = last } ∷ []) a
request_answered obeys nothing a line told last is says ends = (
  foreign line ∷ [],
  nothing a,
  All-cons IsRight (foreign line) [] is (All-nil IsRight),
  ap (λ b. record { line = line; told = told; is_last = b } ∷ []) ends
      ∙ ap (λ t. record { line = line; told = t; is_last = true } ∷ []) says,
)
