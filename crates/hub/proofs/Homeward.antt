-- A reply goes home: it stays in hand, as it is, until the session of its client settled it; and what that session sends then.
use Rattle.std.proofs.Common.{◌≡◌, ◌<◌, ◌⊎◌, ◌-◌, ◌&&◌, ℕ, Bool, true, false, List, [], ◌∷◌, Option, Some, None, Result, Ok, Err, if◌then◌else◌, inl, inr, refl, sym, ap, ◌∙◌, subst, subst₂, length}
use Rattle.std.specs.Prelude.{nat_lt, not}
use Rattle.mux_frame.specs.Spelling.{MuxFrame}
use Rattle.mux_message.specs.Made.{retag}
use Rattle.mux_message.specs.Spellings.{normal}
use Rattle.mux_history.specs.declared.kind.RecordKind.{RecordKind}
use Rattle.mux_history.specs.declared.kind.RecordKind.TheVariants as kinds
use Rattle.mux_history.specs.declared.name.Name.{Name}
use Rattle.mux_history.specs.declared.record.Record.{Record}
use Rattle.mux_history.specs.Readings.{answer_due, note_due, tag_of, is_retried}
use Rattle.mux_model.specs.Down.{DownSession, down, is_held, is_mine, left_of, pass, settle}
use Rattle.mux_model.specs.Entries.{Exchange}
use Rattle.mux_model.specs.Steps.{Held, NotMine, Outcome, Recorded, Refusal, Refused, SettleCall, Step, TicketOf, entry_of, is_nack, records}
use Rattle.route_table.specs.Routes.{Change}
use Rattle.translate_book.specs.Values.{TicketView}
use Rattle.translate_book.specs.declared.sent.Settled.{Settled}
use Rattle.server_session.specs.Past.{Past, add}
use Rattle.server_session.specs.Steps.{SettleStep, frame_in, given_again, is_answer, is_late, is_passed, settling}
use Rattle.server_session.specs.declared.answers.Answer.{Answer}
use Rattle.server_session.specs.declared.answers.Answer.TheVariants.{Again, Answered, Late}
use Rattle.kept_session.specs.ReachedDown.{KeptDown}
use Rattle.hub_base.specs.Errands.{client_of, errand_at, server_of}
use Rattle.hub_base.specs.declared.errands.Errand.{Errand}
use Rattle.hub_base.specs.declared.errands.Value.{Value}
use Rattle.hub_base.specs.declared.errands.Value.TheVariants as value
use Rattle.hub_steps.specs.Batches.{after_settle}
use Rattle.hub_steps.specs.Down.{MakesDown}
use Rattle.hub_slots.specs.Locked.{LockedDown}
use Rattle.hub_places.specs.Numbering.{KeepsDown}
use Rattle.hub_delivery.specs.Leaving.{HasClient, HasServer, NoneAt, NoneRefused}
use Rattle.hub.specs.Laws.{GoesHome, GoesOn, OnAgain, Sends}
use Rattle.hub.proofs.Followed.{Follows}
use Rattle.hub.proofs.Onward.{OnItsWay, dispatch_follows, went_on}

-- WHAT IS SENT

abbrev kind_told : Option Record → Option RecordKind
kind_told None = None
kind_told (Some r) = Some r.kind

-- what an answer with this reply is
data Says (c : DownSession) (past : List Step) (n : Name) (reply : MuxFrame) (again : Option MuxFrame) (e : Exchange) (gives : List Held)
    : Type 0 where
  passes : kind_told e.rec ≡ Some kinds.Passed → e.sent ≡ Some (retag (tag_of n (records past)) (normal reply))
      → Says c past n reply again e gives
  comes_late : kind_told e.rec ≡ Some (kinds.Late false) → e.sent ≡ None → is_held c n past ≡ false
      → Says c past n reply again e gives
  retries : (f : MuxFrame) (left : ℕ) → kind_told e.rec ≡ Some kinds.Retried → e.sent ≡ None → again ≡ Some f
      → is_nack reply ≡ true → gives ≡ TicketOf n f left ∷ [] → Says c past n reply again e gives

-- of an outcome that is recorded
pub record Told (P : Exchange → List Held → Type 0) (o : Outcome) : Type 0 where
  pub told : (e : Exchange) (gives : List Held) → o ≡ Recorded e gives → P e gives

pub is_told : (P : Exchange → List Held → Type 0) (e : Exchange) (gives : List Held) → P e gives → Told P (Recorded e gives)
is_told P e gives p = record {
  told = λ f more is.
      (let first : e ≡ f = cc is in
      let second : gives ≡ more = cc is in subst₂ P first second p);
}

pub refused_told : (P : Exchange → List Held → Type 0) (why : Refusal) → Told P (Refused why)
refused_told P why = record { told = λ e gives is. absurd (let no : Refused why ≡ Recorded e gives = is in cc) }

split : (P : Outcome → Type 0) (b : Bool) (x y : Outcome) → (b ≡ true → P x) → (b ≡ false → P y) → P (if b then x else y)
split P true x y f g = f refl
split P false x y f g = g refl

first_of : (a b : Bool) → a && b ≡ true → a ≡ true
first_of true b is = refl
first_of false b is = is

says_pass : (c : DownSession) (past : List Step) (n : Name) (reply : MuxFrame) (again : Option MuxFrame)
    → Told (Says c past n reply again) (pass c past n reply)
says_pass c past n reply again =
    split (Told (Says c past n reply again)) (is_held c n past)
    (Recorded (entry_of (records past) 0 kinds.Passed (tag_of n (records past)) (Some n) None (Some (retag (tag_of n (records past)) (normal reply)))) [])
    (Recorded (entry_of (records past) 0 (kinds.Late false) (tag_of n (records past)) (Some n) None None) [])
    (λ held. is_told (Says c past n reply again) _ _ (Says.passes refl refl))
    (λ gone. is_told (Says c past n reply again) _ _ (Says.comes_late refl refl gone))

says_settle : (c : DownSession) (past : List Step) (n : Name) (reply : MuxFrame) (again : Option MuxFrame)
    → Told (Says c past n reply again) (settle c past n reply again)
says_settle c past n reply None = says_pass c past n reply None
says_settle c past n reply (Some f) =
    split (Told (Says c past n reply (Some f)))
    (is_nack reply && is_held c n past && not (note_due n (records past)) && nat_lt 0 (left_of c.limits n (records past)))
    (Recorded (entry_of (records past) 0 kinds.Retried (tag_of n (records past)) (Some n) None None)
    (TicketOf n f (left_of c.limits n (records past) - 1) ∷ []))
    (pass c past n reply)
    (λ may. is_told (Says c past n reply (Some f)) _ _
    (Says.retries f (left_of c.limits n (records past) - 1) refl refl refl
    (first_of (is_nack reply) (is_held c n past)
    (first_of (is_nack reply && is_held c n past) (not (note_due n (records past)))
    (first_of (is_nack reply && is_held c n past && not (note_due n (records past))) (nat_lt 0 (left_of c.limits n (records past))) may))) refl))
    (λ passed. says_pass c past n reply (Some f))

says : (c : DownSession) (past : List Step) (out : ℕ) (n : Name) (reply : MuxFrame) (again : Option MuxFrame)
    → Told (Says c past n reply again) (down c past out (SettleCall n reply again))
says c past out n reply again =
    split (Told (Says c past n reply again)) (is_mine c n && answer_due n (records past)) (settle c past n reply again) (Refused NotMine)
    (λ due. says_settle c past n reply again) (λ other. refused_told (Says c past n reply again) NotMine)

-- only the session of the dispatch's client answers it
mine : (c : DownSession) (past : List Step) (out : ℕ) (n : Name) (reply : MuxFrame) (again : Option MuxFrame)
    → Told (λ e gives. is_mine c n ≡ true) (down c past out (SettleCall n reply again))
mine c past out n reply again =
    split (Told (λ e gives. is_mine c n ≡ true)) (is_mine c n && answer_due n (records past)) (settle c past n reply again) (Refused NotMine)
    (λ due. record { told = λ e gives is. first_of (is_mine c n) (answer_due n (records past)) due })
    (λ other. refused_told (λ e gives. is_mine c n ≡ true) NotMine)

kind_is : (o : Option Record) (r : Record) (k : RecordKind) → o ≡ Some r → kind_told o ≡ Some k → r.kind ≡ k
kind_is o r k is told = (let same : Some r.kind ≡ Some k = sym (ap kind_told is) ∙ told in cc same)

other_kind : (test : RecordKind → Bool) (kind k : RecordKind) → test kind ≡ true → kind ≡ k → test k ≡ false → ⊥
other_kind test kind k so is none = absurd (let no : true ≡ false = sym so ∙ ap test is ∙ none in cc)

sends_answer : (p q : Past) (x : Settled) (given : Answer) (e : Exchange) (r : Record) → e.rec ≡ Some r
    → is_answer given is_passed false r.kind ≡ true → q ≡ add p (settling x) e → is_mine p.session x.name ≡ true
    → Says p.session p.steps x.name x.reply.frame (frame_in x.again) e (given_again given) → Sends p x (Ok given) q
sends_answer p q x Answered e r is kind same own (Says.passes k s) = (e, same, own, s)
sends_answer p q x Answered e r is kind same own (Says.comes_late k s gone) = absurd (other_kind is_passed r.kind _ kind (kind_is e.rec r _ is k) refl)
sends_answer p q x Answered e r is kind same own (Says.retries f left k s a n g) = absurd (other_kind is_passed r.kind _ kind (kind_is e.rec r _ is k) refl)
sends_answer p q x Late e r is kind same own (Says.passes k s) = absurd (other_kind (is_late false) r.kind _ kind (kind_is e.rec r _ is k) refl)
sends_answer p q x Late e r is kind same own (Says.comes_late k s gone) = (e, same, own, s, gone)
sends_answer p q x Late e r is kind same own (Says.retries f left k s a n g) = absurd (other_kind (is_late false) r.kind _ kind (kind_is e.rec r _ is k) refl)
sends_answer p q x (Again t) e r is kind same own (Says.passes k s) = absurd (other_kind is_retried r.kind _ kind (kind_is e.rec r _ is k) refl)
sends_answer p q x (Again t) e r is kind same own (Says.comes_late k s gone) = absurd (other_kind is_retried r.kind _ kind (kind_is e.rec r _ is k) refl)
sends_answer p q x (Again t) e r is kind same own (Says.retries f left k s a n g) =
    (let of : TicketOf t.name t.frame t.left ∷ [] ≡ TicketOf x.name f left ∷ [] = g in
    let name : t.name ≡ x.name = cc of in
    let frame : t.frame ≡ f = cc of in
    (e, same, own, s, n, name, a ∙ ap Some (sym frame)))

-- what a session sends that settles a reply
pub sends : (x : Settled) (result : Result Answer Settled) (p q : Past) → SettleStep p x result q → Sends p x result q
sends x (Ok given) p q (e, r, is, kind, (told, same)) =
    sends_answer p q x given e r is kind same
    ((mine p.session p.steps (length p.out) x.name x.reply.frame (frame_in x.again)).told e (given_again given) told)
    ((says p.session p.steps (length p.out) x.name x.reply.frame (frame_in x.again)).told e (given_again given) told)
sends x (Err back) p q ((told, same), other) = (same, other)

makes_more : (s t : Option KeptDown) (A B : Past → Past → Type 0) → ((p q : Past) → A p q → B p q) → MakesDown s t A
    → MakesDown s t (λ p q. A p q × B p q)
makes_more None t A B f step = step
makes_more (Some s) None A B f step = absurd step
makes_more (Some s) (Some t) A B f step =
    (step.0, λ p led b. (let n = step.1 p led b in (n.0, (n.1, f p n.0 n.1), n.2, n.3, n.4)))

settled : (x : Settled) (client : ℕ) (result : Result Answer Settled)
    → LockedDown (KeepsDown client) (λ p q. SettleStep p x result q) (result ≡ Err x)
    → LockedDown (KeepsDown client) (λ p q. SettleStep p x result q × Sends p x result q) (result ≡ Err x)
settled x client result (s, t, step, gone, ks, kt) =
    (s, t, makes_more s t (λ p q. SettleStep p x result q) (λ p q. Sends p x result q) (sends x result) step, gone, ks, kt)

-- A REPLY IN HAND

-- it was settled, and a dispatch that is sent again is on its way; or it is still in hand
abbrev pub Homeward : (now ups : ℕ) → (but : Option ℕ) → (known learned : List Change) → Settled → Errand → Type 0
Homeward now ups but known learned x e =
    ((result : Result Answer Settled) × LockedDown (KeepsDown x.name.client) (λ p q. SettleStep p x result q × Sends p x result q) (result ≡ Err x)
    × OnAgain result (λ t. OnItsWay now ups but known learned t e))
    ⊎ (e ≡ record { to = x.name.client; value = value.Reply x })

again_on : (result : Result Answer Settled) (P Q : TicketView → Type 0) → ((t : TicketView) → P t → Q t) → OnAgain result P → OnAgain result Q
again_on (Ok (Again t)) P Q f p = f t p
again_on (Ok Answered) P Q f p = tt
again_on (Ok Late) P Q f p = tt
again_on (Err x) P Q f p = tt

abbrev reply_in : Value → Option Settled
reply_in (value.Reply x) = Some x
reply_in _ = None

-- a step on another value, and on the dispatch that is sent again
step_on : (now ups : ℕ) (but : Option ℕ) (known learned : List Change) (x : Settled) (e f : Errand) → reply_in e.value ≡ None
    → ((t : TicketView) → OnItsWay now ups but known learned t e → OnItsWay now ups but known learned t f)
    → Homeward now ups but known learned x e → Homeward now ups but known learned x f
step_on now ups but known learned x e f other on (inl (result, locked, again)) =
    inl (result, locked, again_on result (λ t. OnItsWay now ups but known learned t e) (λ t. OnItsWay now ups but known learned t f) on again)
step_on now ups but known learned x e f other on (inr same) =
    absurd (let no : None ≡ Some x = sym other ∙ ap (λ (d : Errand). reply_in d.value) same in cc)

-- the dispatch that it gave is to be offered
starts_again : (now ups : ℕ) (but : Option ℕ) (known learned : List Change) (result : Result Answer Settled)
    → OnAgain result (λ t. OnItsWay now ups but known learned t (after_settle result))
starts_again now ups but known learned (Ok (Again t)) = inr refl
starts_again now ups but known learned (Ok Answered) = tt
starts_again now ups but known learned (Ok Late) = tt
starts_again now ups but known learned (Err x) = tt

settles_on : (now ups : ℕ) (but : Option ℕ) (known learned : List Change) (x : Settled) (client : ℕ) (y : Settled) (result : Result Answer Settled)
    → LockedDown (KeepsDown client) (λ p q. SettleStep p y result q) (result ≡ Err y)
    → Homeward now ups but known learned x (record { to = client; value = value.Reply y })
    → Homeward now ups but known learned x (after_settle result)
settles_on now ups but known learned x client y result locked (inl (before, was, again)) =
    inl (
      before,
      was,
      again_on before (λ t. OnItsWay now ups but known learned t (record { to = client; value = value.Reply y }))
          (λ t. OnItsWay now ups but known learned t (after_settle result))
          (λ t. (dispatch_follows now ups but known learned t).settles client y result locked) again,
    )
settles_on now ups but known learned x client y result locked (inr same) =
    (let found : Some y ≡ Some x = ap (λ (d : Errand). reply_in d.value) same in
    let is : y ≡ x = cc found in
    inl (
      result,
      settled x x.name.client result
          (subst₂ (λ n z. LockedDown (KeepsDown n) (λ p q. SettleStep p z result q) (result ≡ Err z))
          (ap (λ (d : Errand). d.to) same) is locked),
      starts_again now ups but known learned result,
    ))

pub reply_follows : (now ups : ℕ) (but : Option ℕ) (known learned : List Change) (x : Settled)
    → Follows now ups but known learned (Homeward now ups but known learned x)
reply_follows now ups but known learned x = record {
  notes = λ client placed result locked. step_on now ups but known learned x _ _ refl
      (λ t. (dispatch_follows now ups but known learned t).notes client placed result locked);
  settles = settles_on now ups but known learned x;
  nacks = λ client u result locked. step_on now ups but known learned x _ _ refl
      (λ t. (dispatch_follows now ups but known learned t).nacks client u result locked);
  unroutes = λ client u result locked. step_on now ups but known learned x _ _ refl
      (λ t. (dispatch_follows now ups but known learned t).unroutes client u result locked);
  offers = λ server u result chosen locked. step_on now ups but known learned x _ _ refl
      (λ t. (dispatch_follows now ups but known learned t).offers server u result chosen locked);
  recalls = λ server r result locked. step_on now ups but known learned x _ _ refl
      (λ t. (dispatch_follows now ups but known learned t).recalls server r result locked);
  turns_back = λ to u route. step_on now ups but known learned x _ _ refl
      (λ t. (dispatch_follows now ups but known learned t).turns_back to u route);
  stays_back = λ to u servers route choice. step_on now ups but known learned x _ _ refl
      (λ t. (dispatch_follows now ups but known learned t).stays_back to u servers route choice);
  aims = λ to u number. step_on now ups but known learned x _ _ refl
      (λ t. (dispatch_follows now ups but known learned t).aims to u number);
  tries = λ to by u route made has by_route. step_on now ups but known learned x _ _ refl
      (λ t. (dispatch_follows now ups but known learned t).tries to by u route made has by_route);
}

-- a dispatch that is sent again has the name of the reply
name_again : (p q : Past) (x : Settled) (t : TicketView) → Sends p x (Ok (Again t)) q → t.name ≡ x.name
name_again p q x t s = s.5

again_named : (x : Settled) (t : TicketView)
    → LockedDown (KeepsDown x.name.client) (λ p q. SettleStep p x (Ok (Again t)) q × Sends p x (Ok (Again t)) q) (Ok (Again t) ≡ Err x) → t.name ≡ x.name
again_named x t (None, u, step, gone, ks, ku) = absurd (let no : Ok (Again t) ≡ Err x = gone refl in cc)
again_named x t (Some s, None, step, gone, ks, ku) = absurd step
again_named x t (Some s, Some u, step, gone, ks, ku) =
    (let made = step.1 ks.0.1.0 ks.0.1.1 ks.0.1.2 in name_again ks.0.1.0 made.0 x t made.1.1)

ends_on : (now downs ups : ℕ) (but : Option ℕ) (known learned : List Change) (x : Settled) (left : List Errand) (i : ℕ)
    → NoneAt client_of (HasClient downs) left i → NoneAt server_of (HasServer ups) left i → NoneRefused left i
    → 0 < ups → HasClient downs x.name.client → (result : Result Answer Settled)
    → LockedDown (KeepsDown x.name.client) (λ p q. SettleStep p x result q × Sends p x result q) (result ≡ Err x)
    → OnAgain result (λ t. OnItsWay now ups but known learned t (errand_at left i)) → OnAgain result (GoesOn now ups but known learned)
ends_on now downs ups but known learned x left i clients servers refused some has (Ok (Again t)) locked again =
    went_on now downs ups but known learned t left i clients servers refused some
    (subst (λ (n : Name). HasClient downs n.client) (sym (again_named x t locked)) has) again
ends_on now downs ups but known learned x left i clients servers refused some has (Ok Answered) locked again = tt
ends_on now downs ups but known learned x left i clients servers refused some has (Ok Late) locked again = tt
ends_on now downs ups but known learned x left i clients servers refused some has (Err back) locked again = tt

-- a reply that isn't in hand went home
pub came_home : (now downs ups : ℕ) (but : Option ℕ) (known learned : List Change) (x : Settled) (left : List Errand) (i : ℕ)
    → NoneAt client_of (HasClient downs) left i → NoneAt server_of (HasServer ups) left i → NoneRefused left i
    → 0 < ups → HasClient downs x.name.client
    → Homeward now ups but known learned x (errand_at left i) → GoesHome now ups but known learned x
came_home now downs ups but known learned x left i clients servers refused some has (inl (result, locked, again)) =
    (result, locked, ends_on now downs ups but known learned x left i clients servers refused some has result locked again)
came_home now downs ups but known learned x left i clients servers refused some has (inr same) =
    absurd (clients x.name.client (ap (λ (e : Errand). client_of e.to e.value) same) has)
