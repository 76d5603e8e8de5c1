-- What stands at the places of a batch.
use Rattle.std.proofs.Common.{◌≡◌, ℕ, zero, suc, List, [], ◌∷◌, None, slice_set, refl, sym, ap, ◌∙◌}
use Rattle.std.proofs.lemmas.List.{set-set}
use Rattle.translate_book.specs.Values.{TicketView}
use Rattle.hub_base.specs.declared.errands.Back.{Back}
use Rattle.hub_base.specs.declared.errands.Errand.{Errand}
use Rattle.hub_base.specs.declared.errands.Value.{Value}
use Rattle.hub_base.specs.declared.errands.Value.TheVariants as value
use Rattle.hub_base.specs.Errands.{done, back, client_at, client_of, errand_at, give_back, give_back_value, server_at, server_of}

-- what is put where something was taken
pub put_over : (xs taken new : List Errand) (at : ℕ) (e f : Errand) → taken ≡ slice_set xs at done
    → new ≡ slice_set taken at e → e ≡ f → new ≡ slice_set xs at f
put_over xs taken new at e f took put is =
    put ∙ ap (λ ys. slice_set ys at e) took ∙ set-set xs at done e ∙ ap (slice_set xs at) is

-- what was taken is put back
pub put_same : (xs : List Errand) (at : ℕ) → slice_set xs at (errand_at xs at) ≡ xs
put_same [] at = refl
put_same (x ∷ xs) zero = refl
put_same (x ∷ xs) (suc at) = ap (λ ys. x ∷ ys) (put_same xs at)

-- the other places stay as they are
pub elsewhere : (xs : List Errand) (at i : ℕ) (e : Errand) → (i ≡ at → ⊥) → errand_at (slice_set xs at e) i ≡ errand_at xs i
elsewhere [] at i e never = refl
elsewhere (x ∷ xs) zero zero e never = absurd (never refl)
elsewhere (x ∷ xs) zero (suc i) e never = refl
elsewhere (x ∷ xs) (suc at) zero e never = refl
elsewhere (x ∷ xs) (suc at) (suc i) e never = elsewhere xs at i e (λ is. never (ap suc is))

-- what goes to no client leaves its place to none
pub no_client : (xs : List Errand) (at : ℕ) (e : Errand) → client_of e.to e.value ≡ None → client_at (slice_set xs at e) at ≡ None
no_client [] at e none = refl
no_client (x ∷ xs) zero e none = none
no_client (x ∷ xs) (suc at) e none = no_client xs at e none

-- and what goes to no server
pub no_server : (xs : List Errand) (at : ℕ) (e : Errand) → server_of e.to e.value ≡ None → server_at (slice_set xs at e) at ≡ None
no_server [] at e none = refl
no_server (x ∷ xs) zero e none = none
no_server (x ∷ xs) (suc at) e none = no_server xs at e none

-- a value that is no dispatch to be offered stays
stays : (word : Back) (to : ℕ) (v : Value) → ((ticket : TicketView) → v ≡ value.Ticket ticket → ⊥)
    → record { to = to; value = v } ≡ give_back_value word to v
stays word to (value.Ticket ticket) never = absurd (never ticket refl)
stays word to value.Nothing never = refl
stays word to (value.Refused by ticket) never = refl
stays word to (value.Unplaced ticket) never = refl
stays word to (value.Unrouted ticket) never = refl
stays word to (value.Placed placed) never = refl
stays word to (value.Reply settled) never = refl
stays word to (value.Recall recall) never = refl
stays word to value.Closing never = refl

pub ticket_back : (xs taken new : List Errand) (at : ℕ) (word : Back) (e b : Errand) (ticket : TicketView)
    → e ≡ errand_at xs at → taken ≡ slice_set xs at done → e.value ≡ value.Ticket ticket → b ≡ back ticket word
    → new ≡ slice_set taken at b → new ≡ slice_set xs at (give_back word (errand_at xs at))
ticket_back xs taken new at word e b ticket was took is made put =
    put_over xs taken new at b _ took put (made ∙ ap (give_back_value word e.to) (sym is) ∙ ap (give_back word) was)

pub other_back : (xs taken new : List Errand) (at : ℕ) (word : Back) (e : Errand)
    → e ≡ errand_at xs at → taken ≡ slice_set xs at done
    → ((ticket : TicketView) → e.value ≡ value.Ticket ticket → ⊥)
    → new ≡ slice_set taken at (record { to = e.to; value = e.value })
    → new ≡ slice_set xs at (give_back word (errand_at xs at))
other_back xs taken new at word e was took never put =
    put_over xs taken new at _ _ took put (stays word e.to e.value never ∙ ap (give_back word) was)
