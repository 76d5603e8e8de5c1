-- Values of a batch that were handed on.
use Rattle.std.proofs.Common.{◌≡◌, ◌<◌, ◌≤◌, ◌+◌, ℕ, zero, suc, Bool, true, false, List, [], ◌∷◌, length, Option, Some, None, slice_set, inl, inr, refl, sym, ap, subst, ◌∙◌, arith}
use Rattle.std.proofs.Math.Dec.{eqb}
use Rattle.std.proofs.lemmas.Bool.{cases_lt, eqb-true, eq-eqb}
use Rattle.std.specs.Option.{option_eq}
use Rattle.std.specs.Prelude.{IfSome, IsSomeAnd}
use Rattle.translate_book.specs.Values.{TicketView}
use Rattle.translate_book.specs.declared.placed.Placed.{Placed}
use Rattle.translate_book.specs.declared.recall.Recall.{Recall}
use Rattle.translate_book.specs.declared.sent.Settled.{Settled}
use Rattle.std.proofs.lemmas.Option.{none-some, same_Some}
use Rattle.kept_session.specs.ReachedDown.{KeptDown}
use Rattle.server_session.specs.State.{OwesReply}
use Rattle.server_session.specs.declared.session.owed.Owed.{Owed}
use Rattle.hub_steps.specs.Batches.{PassesHere}
use Rattle.hub_base.specs.Errands.{client_at, client_of, done, errand_at, placed_of, reply_at, reply_of, server_at, server_of, ticket_of}
use Rattle.hub_base.specs.declared.errands.Errand.{Errand}
use Rattle.hub_base.specs.declared.errands.Value.{Value}
use Rattle.hub_base.specs.declared.errands.Value.TheVariants as value
use Rattle.hub_base.proofs.Places.{elsewhere, no_client, no_server, put_over, put_same}

-- what stood at the place
pub stood : (e taken : Errand) (v : Value) → taken ≡ e → taken.value ≡ v → e ≡ record { to = e.to; value = v }
stood e taken v is held = ap (λ (w : Value). record { to = e.to; value = w }) (sym (ap (λ (x : Errand). x.value) is) ∙ held)

-- a place that was taken stood there
placed_here : (v : Value) (x : Placed) → Some x ≡ placed_of v → v ≡ value.Placed x
placed_here value.Nothing x is = absurd (none-some x (sym is))
placed_here (value.Ticket t) x is = absurd (none-some x (sym is))
placed_here (value.Refused by t) x is = absurd (none-some x (sym is))
placed_here (value.Unplaced t) x is = absurd (none-some x (sym is))
placed_here (value.Unrouted t) x is = absurd (none-some x (sym is))
placed_here (value.Placed y) x is = ap value.Placed (sym (same_Some x y is))
placed_here (value.Reply r) x is = absurd (none-some x (sym is))
placed_here (value.Recall r) x is = absurd (none-some x (sym is))
placed_here value.Closing x is = absurd (none-some x (sym is))

pub stood_placed : (e : Errand) (x : Placed) → Some x ≡ placed_of e.value → e ≡ record { to = e.to; value = value.Placed x }
stood_placed e x is = ap (λ (v : Value). record { to = e.to; value = v }) (placed_here e.value x is)

-- and so did a reply, and a dispatch
reply_here : (v : Value) (x : Settled) → Some x ≡ reply_of v → v ≡ value.Reply x
reply_here value.Nothing x is = absurd (none-some x (sym is))
reply_here (value.Ticket t) x is = absurd (none-some x (sym is))
reply_here (value.Refused by t) x is = absurd (none-some x (sym is))
reply_here (value.Unplaced t) x is = absurd (none-some x (sym is))
reply_here (value.Unrouted t) x is = absurd (none-some x (sym is))
reply_here (value.Placed y) x is = absurd (none-some x (sym is))
reply_here (value.Reply r) x is = ap value.Reply (sym (same_Some x r is))
reply_here (value.Recall r) x is = absurd (none-some x (sym is))
reply_here value.Closing x is = absurd (none-some x (sym is))

pub stood_reply : (e : Errand) (x : Settled) → Some x ≡ reply_of e.value → e ≡ record { to = e.to; value = value.Reply x }
stood_reply e x is = ap (λ (v : Value). record { to = e.to; value = v }) (reply_here e.value x is)

ticket_here : (v : Value) (x : TicketView) → Some x ≡ ticket_of v → v ≡ value.Ticket x
ticket_here value.Nothing x is = absurd (none-some x (sym is))
ticket_here (value.Ticket t) x is = ap value.Ticket (sym (same_Some x t is))
ticket_here (value.Refused by t) x is = absurd (none-some x (sym is))
ticket_here (value.Unplaced t) x is = absurd (none-some x (sym is))
ticket_here (value.Unrouted t) x is = absurd (none-some x (sym is))
ticket_here (value.Placed y) x is = absurd (none-some x (sym is))
ticket_here (value.Reply r) x is = absurd (none-some x (sym is))
ticket_here (value.Recall r) x is = absurd (none-some x (sym is))
ticket_here value.Closing x is = absurd (none-some x (sym is))

pub stood_ticket : (e : Errand) (x : TicketView) → Some x ≡ ticket_of e.value → e ≡ record { to = e.to; value = value.Ticket x }
stood_ticket e x is = ap (λ (v : Value). record { to = e.to; value = v }) (ticket_here e.value x is)

-- a session of which something is so is there
pub is_there : {A : Type 0} (o : Option A) (P : A → Type 0) → IsSomeAnd o P → o ≡ None → ⊥
is_there None P is none = is
is_there (Some a) P is none = none-some a (sym none)

-- a client waits for the reply that is here
pub passes : (o : Option Owed) (s : Option KeptDown) (k : KeptDown) (xs : List Errand) (at : ℕ) (x : Settled) → s ≡ Some k → reply_at xs at ≡ Some x
    → IfSome o (λ m. x.again ≡ None) → IfSome o (λ m. OwesReply k.state x.name m.tag) → IfSome o (λ m. PassesHere s xs at m.tag)
passes None s k xs at x there here last due = tt
passes (Some m) s k xs at x there here last due = (x, here, last, subst (λ z. IsSomeAnd z (λ l. OwesReply l.state x.name m.tag)) (sym there) due)

-- nothing is to be done where a value was taken
pub done_here : (xs : List Errand) (at : ℕ) → errand_at (slice_set xs at done) at ≡ done
done_here [] at = refl
done_here (x ∷ xs) zero = refl
done_here (x ∷ xs) (suc at) = done_here xs at

-- the other places stay as they are
pub others_stay : (xs zs : List Errand) (at : ℕ) (e : Errand) → zs ≡ slice_set xs at e
    → (i : ℕ) → (i ≡ at → ⊥) → errand_at zs i ≡ errand_at xs i
others_stay xs zs at e put = λ i never. ap (λ ys. errand_at ys i) put ∙ elsewhere xs at i e never

pub gone_up : (xs zs : List Errand) (at : ℕ) (e : Errand) → zs ≡ slice_set xs at e → server_of e.to e.value ≡ None
    → server_at zs at ≡ None
gone_up xs zs at e put none = ap (λ ys. server_at ys at) put ∙ no_server xs at e none

pub gone_down : (xs zs : List Errand) (at : ℕ) (e : Errand) → zs ≡ slice_set xs at e → client_of e.to e.value ≡ None
    → client_at zs at ≡ None
gone_down xs zs at e put none = ap (λ ys. client_at ys at) put ∙ no_client xs at e none

-- a value that goes to no server
pub no_up : (to : ℕ) (v : Value) → ((ticket : TicketView) → v ≡ value.Ticket ticket → ⊥)
    → ((r : Recall) → v ≡ value.Recall r → ⊥) → server_of to v ≡ None
no_up to (value.Ticket ticket) a b = absurd (a ticket refl)
no_up to (value.Recall r) a b = absurd (b r refl)
no_up to value.Nothing a b = refl
no_up to (value.Refused by ticket) a b = refl
no_up to (value.Unplaced ticket) a b = refl
no_up to (value.Unrouted ticket) a b = refl
no_up to (value.Placed placed) a b = refl
no_up to (value.Reply settled) a b = refl
no_up to value.Closing a b = refl

-- a value that goes to no client
pub no_down : (to : ℕ) (v : Value) → ((placed : Placed) → v ≡ value.Placed placed → ⊥)
    → ((settled : Settled) → v ≡ value.Reply settled → ⊥) → ((ticket : TicketView) → v ≡ value.Unplaced ticket → ⊥)
    → ((ticket : TicketView) → v ≡ value.Unrouted ticket → ⊥) → client_of to v ≡ None
no_down to (value.Placed placed) a b c d = absurd (a placed refl)
no_down to (value.Reply settled) a b c d = absurd (b settled refl)
no_down to (value.Unplaced ticket) a b c d = absurd (c ticket refl)
no_down to (value.Unrouted ticket) a b c d = absurd (d ticket refl)
no_down to value.Nothing a b c d = refl
no_down to (value.Ticket ticket) a b c d = refl
no_down to (value.Refused by ticket) a b c d = refl
no_down to (value.Recall r) a b c d = refl
no_down to value.Closing a b c d = refl

-- what was taken was put back
pub put_back : (xs taken zs : List Errand) (at : ℕ) (e : Errand) → e ≡ errand_at xs at
    → taken ≡ slice_set xs at done → zs ≡ slice_set taken at e → zs ≡ xs
put_back xs taken zs at e is took put = put_over xs taken zs at e (errand_at xs at) took put is ∙ put_same xs at

-- whom the value at a place is for
abbrev pub at_by : (ℕ → Value → Option ℕ) → List Errand → ℕ → Option ℕ
at_by of xs i = of (errand_at xs i).to (errand_at xs i).value

past_end : (xs : List Errand) (i : ℕ) → length xs ≤ i → errand_at xs i ≡ done
past_end [] i past = refl
past_end (x ∷ xs) zero past = absurd (omega (arith, past))
past_end (x ∷ xs) (suc i) past = past_end xs i (omega (arith, past))

-- one place more has no value for this session
pub gone_more : (of : ℕ → Value → Option ℕ) (xs zs : List Errand) (at n : ℕ)
    → ((i : ℕ) → i < at → at_by of xs i ≡ Some n → ⊥) → (at_by of zs at ≡ Some n → ⊥)
    → ((i : ℕ) → (i ≡ at → ⊥) → errand_at zs i ≡ errand_at xs i)
    → (i : ℕ) → i < at + 1 → at_by of zs i ≡ Some n → ⊥
gone_more of xs zs at n before here others i within found =
    elim (cases_lt i at) [
      | inl less ↦ before i less (ap (λ (e : Errand). of e.to e.value) (sym (others i (λ is. omega (arith, less, is)))) ∙ found)
      | inr more ↦ (let same : i ≡ at = omega (arith, within, more) in here (ap (at_by of zs) (sym same) ∙ found))
    ]

-- and once all places were looked at none has one
pub gone_all : (of : ℕ → Value → Option ℕ) (xs : List Errand) (at n : ℕ) → of 0 value.Nothing ≡ None → length xs ≤ at
    → ((i : ℕ) → i < at → at_by of xs i ≡ Some n → ⊥) → (i : ℕ) → at_by of xs i ≡ Some n → ⊥
gone_all of xs at n none end before i found =
    elim (cases_lt i at) [
      | inl less ↦ before i less found
      | inr more ↦
          (let nothing : None ≡ Some n =
          sym (ap (λ (e : Errand). of e.to e.value) (past_end xs i (omega (arith, end, more))) ∙ none) ∙ found in absurd (cc))
    ]

-- a value that is for a session names it
pub to_server : (to : ℕ) (v : Value) (n : ℕ) → server_of to v ≡ Some n → to ≡ n
to_server to (value.Ticket ticket) n is = cc
to_server to (value.Recall r) n is = cc
to_server to value.Nothing n is = absurd (cc)
to_server to (value.Refused by ticket) n is = absurd (cc)
to_server to (value.Unplaced ticket) n is = absurd (cc)
to_server to (value.Unrouted ticket) n is = absurd (cc)
to_server to (value.Placed placed) n is = absurd (cc)
to_server to (value.Reply settled) n is = absurd (cc)
to_server to value.Closing n is = absurd (cc)

pub to_client : (to : ℕ) (v : Value) (n : ℕ) → client_of to v ≡ Some n → to ≡ n
to_client to (value.Placed placed) n is = cc
to_client to (value.Reply settled) n is = cc
to_client to (value.Unplaced ticket) n is = cc
to_client to (value.Unrouted ticket) n is = cc
to_client to value.Nothing n is = absurd (cc)
to_client to (value.Ticket ticket) n is = absurd (cc)
to_client to (value.Refused by ticket) n is = absurd (cc)
to_client to (value.Recall r) n is = absurd (cc)
to_client to value.Closing n is = absurd (cc)

-- whether a value is for this session
pub is_for : (b : Bool) (o p : Option ℕ) (n : ℕ) → b ≡ option_eq eqb o (Some n) → b ≡ true → o ≡ p → p ≡ Some n
is_for b None p n is found same = absurd (cc)
is_for b (Some m) p n is found same = sym same ∙ ap (λ k. Some k) (eqb-true m n (sym is ∙ found))

pub is_not_for : (b : Bool) (o p : Option ℕ) (n : ℕ) → b ≡ option_eq eqb o (Some n) → b ≡ false → o ≡ p → p ≡ Some n → ⊥
is_not_for b o p n is no_value same found =
    let true_is : true ≡ false =
    sym (eq-eqb n n refl) ∙ sym (ap (λ q. option_eq eqb q (Some n)) (same ∙ found)) ∙ sym is ∙ no_value in absurd (cc)
