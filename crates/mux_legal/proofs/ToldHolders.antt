-- What a message that is told does to the holders of tags.
use Rattle.std.proofs.Common.{ℕ, List, [], ◌∷◌, ◌+◌, ◌≡◌, ◌&&◌, Bool, false, Option, Some, None, refl, sym, ◌∙◌, ap, subst}
use Rattle.std.specs.Prelude.{if◌then◌else◌, ◌==◌}
use Rattle.std.proofs.lemmas.Bool.{eq-eqb, false_from_ne_true}
use Rattle.mux_frame.specs.Spelling.{MuxFrame}
use Rattle.mux_message.specs.Kinds.{kind_of, is_dispatch, is_final}
use Rattle.mux_history.specs.declared.name.Name.{Name}
use Rattle.mux_history.specs.declared.record.Record.{Record}
use Rattle.mux_history.specs.declared.kind.RecordKind.{RecordKind}
use Rattle.mux_history.specs.Readings.{is_named}
use Rattle.mux_model.specs.Tags.{Holder, asked, answered, name_held}
use Rattle.mux_model.specs.Legal.{OnDispatch, OnFinal, sends_dispatch, dispatch_in}
use Rattle.mux_legal.specs.Tellings.{IsDispatchOn, IsFinalOn, IsReplyOn, IsNoDispatch, IsNoFinal}
use Rattle.mux_legal.proofs.Link.{answered_free, answered_frees, asked_takes, IsNamed}
use Rattle.mux_legal.proofs.Sound.{asked_other}
use Rattle.mux_legal.proofs.Basics.{one_if}

-- how often a name stands in records of certain kinds
abbrev pub occurs : (RecordKind → Bool) → Name → List Record → ℕ
occurs p n [] = 0
occurs p n (r ∷ rs) = one_if (p r.kind && is_named n r.name) + occurs p n rs

pub no_ask : (t : ℕ) (who : Holder) (m : Option MuxFrame) (before : Option Holder) → IsNoDispatch m → asked t who m before ≡ before
no_ask t who None before h = refl
no_ask t who (Some f) before h = asked_other t who f before (false_from_ne_true (is_dispatch (kind_of f.kind)) h)

pub no_answer : (t : ℕ) (m : Option MuxFrame) (before : Option Holder) → IsNoFinal m → answered t m before ≡ before
no_answer t None before h = refl
no_answer t (Some f) before h = ap (λ b. if b && f.tag == t then None else before) (false_from_ne_true (is_final (kind_of f.kind)) h)

pub stray_answer : (t : ℕ) (m : Option MuxFrame) (held : ℕ → Option Holder) → OnFinal m (λ f. held f.tag ≡ None) → answered t m (held t) ≡ held t
stray_answer t None held h = refl
stray_answer t (Some f) held h = answered_free f held h t

pub ask_on : (t u : ℕ) (who : Holder) (m : Option MuxFrame) (before : Option Holder) → IsDispatchOn u m → name_held (asked t who m before) ≡ (if u == t then who.name else name_held before)
ask_on t u who None before h = absurd h
ask_on t u who (Some f) before h = asked_takes who f before t h.0 ∙ ap (λ v. if v == t then who.name else name_held before) h.1

pub ask_here : (u : ℕ) (who : Holder) (m : Option MuxFrame) (before : Option Holder) → IsDispatchOn u m → asked u who m before ≡ Some who
ask_here u who None before h = absurd h
ask_here u who (Some f) before h = ap (λ b. if b && f.tag == u then Some who else before) h.0 ∙ ap (λ b. if b then Some who else before) (eq-eqb f.tag u h.1)

pub answer_on : (t u : ℕ) (m : Option MuxFrame) (before : Option Holder) → IsFinalOn u m → name_held (answered t m before) ≡ (if u == t then None else name_held before)
answer_on t u None before h = absurd h
answer_on t u (Some f) before h = answered_frees f before t h.0 ∙ ap (λ v. if v == t then None else name_held before) h.1

-- a tag that no name holds is free, where every holder has a name
pub holds_none : (o : Option Holder) → IsNamed o → name_held o ≡ None → o ≡ None
holds_none None p e = refl
holds_none (Some h) p e = absurd (let x : Some p.0 ≡ None = sym p.1 ∙ e in cc)

-- facts of messages
pub on_dispatch_none : (P : MuxFrame → Type 0) (m : Option MuxFrame) → IsNoDispatch m → OnDispatch m P
on_dispatch_none P None h = tt
on_dispatch_none P (Some f) h = λ d. absurd (h d)

pub on_dispatch : (P : MuxFrame → Type 0) (m : Option MuxFrame) → ((f : MuxFrame) → P f) → OnDispatch m P
on_dispatch P None h = tt
on_dispatch P (Some f) h = λ d. h f

pub on_dispatch_at : (P : MuxFrame → Type 0) (u : ℕ) (m : Option MuxFrame) → IsDispatchOn u m → ((f : MuxFrame) → f.tag ≡ u → P f) → OnDispatch m P
on_dispatch_at P u None d h = tt
on_dispatch_at P u (Some f) d h = λ _. h f d.1

pub on_final_none : (P : MuxFrame → Type 0) (m : Option MuxFrame) → IsNoFinal m → OnFinal m P
on_final_none P None h = tt
on_final_none P (Some f) h = λ d. absurd (h d)

pub on_final : (P : MuxFrame → Type 0) (m : Option MuxFrame) (f : MuxFrame) → m ≡ Some f → P f → OnFinal m P
on_final P m f e p = subst (λ x. OnFinal x P) (sym e) (λ _. p)

-- a final reply, whether it is a nack or not
pub is_final_on : (nack : Bool) (u : ℕ) (m : Option MuxFrame) → IsReplyOn nack u m → IsFinalOn u m
is_final_on nack u None d = absurd d
is_final_on nack u (Some f) d = (d.0, d.1)

pub takes_one : (u : ℕ) (m : Option MuxFrame) → IsDispatchOn u m → dispatch_in m ≡ 1
takes_one u None d = absurd d
takes_one u (Some f) d = ap one_if d.0

pub takes_none : (m : Option MuxFrame) → IsNoDispatch m → dispatch_in m ≡ 0
takes_none None d = refl
takes_none (Some f) d = ap one_if (false_from_ne_true (is_dispatch (kind_of f.kind)) d)

pub sends_none : (m : Option MuxFrame) → IsNoDispatch m → sends_dispatch m ≡ false
sends_none None d = refl
sends_none (Some f) d = false_from_ne_true (is_dispatch (kind_of f.kind)) d
