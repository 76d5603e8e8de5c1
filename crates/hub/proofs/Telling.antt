-- What a search for a wrong receipt tells of a seat.
use Rattle.std.proofs.Common.{ℕ, List, Option, None, Some, IfNone, IfSome, ◌≡◌, ◌<◌, ◌-◌, ◌^◌, length, subst, arith}
use Rattle.std.proofs.lemmas.List.Sums.{count_by-le-length}
use Rattle.mux_history.specs.Counting.{capped}
use Rattle.mux_history.specs.declared.record.Record.{Record}
use Rattle.mux_history.specs.declared.session.SessionId.{SessionId}
use Rattle.mux_history.specs.declared.session.SessionId.TheVariants.{Client, Server}
use Rattle.mux_agree.specs.declared.agreement.histories.DownHistory.{DownHistory}
use Rattle.mux_agree.specs.declared.agreement.histories.UpHistory.{UpHistory}
use Rattle.hub_close.specs.Receipts.{StandAllFrom, Rise, IsFirstWrongFrom, down_epochs, up_epochs}
use Rattle.hub.specs.Seats.{Seat}
use Rattle.hub_close.specs.declared.count.Class.{Class}
use Rattle.hub_close.specs.Totals.{count_of, counts}
use Rattle.hub.specs.Closing.{IsRightDown, IsRightUp, IsWrongDown, IsWrongUp}

pub right_down : (n : ℕ) (hs : List DownHistory) (s : Seat) (r : Option ℕ) → IfNone r (StandAllFrom n (down_epochs hs s.number) s.receipts) → IfNone r (Rise s.receipts)
    → IfNone r (IsRightDown n hs s)
right_down n hs s None stand rise = record { stand = stand; rise = rise }
right_down n hs s (Some place) stand rise = tt

pub wrong_down : (n : ℕ) (hs : List DownHistory) (s : Seat) (r : Option ℕ) → IfSome r (IsFirstWrongFrom n (down_epochs hs s.number) s.receipts)
    → IfSome r (IsWrongDown n hs s)
wrong_down n hs s None first = tt
wrong_down n hs s (Some place) first = record { found = first }

pub right_up : (n : ℕ) (hs : List UpHistory) (s : Seat) (r : Option ℕ) → IfNone r (StandAllFrom n (up_epochs hs s.number) s.receipts) → IfNone r (Rise s.receipts)
    → IfNone r (IsRightUp n hs s)
right_up n hs s None stand rise = record { stand = stand; rise = rise }
right_up n hs s (Some place) stand rise = tt

pub wrong_up : (n : ℕ) (hs : List UpHistory) (s : Seat) (r : Option ℕ) → IfSome r (IsFirstWrongFrom n (up_epochs hs s.number) s.receipts)
    → IfSome r (IsWrongUp n hs s)
wrong_up n hs s None first = tt
wrong_up n hs s (Some place) first = record { found = first }

-- by the number that its session has
pub wrong_down_at : (first : SessionId → ℕ) (hs : List DownHistory) (s : Seat) (number n place : ℕ) → number ≡ s.number → n ≡ first (Client number)
    → IsWrongDown n hs s place → IsWrongDown (first (Client s.number)) hs s place
wrong_down_at first hs s number n place own is wrong =
    subst (λ k. IsWrongDown (first (Client k)) hs s place) own (subst (λ k. IsWrongDown k hs s place) is wrong)

pub wrong_up_at : (first : SessionId → ℕ) (hs : List UpHistory) (s : Seat) (number n place : ℕ) → number ≡ s.number → n ≡ first (Server number)
    → IsWrongUp n hs s place → IsWrongUp (first (Server s.number)) hs s place
wrong_up_at first hs s number n place own is wrong =
    subst (λ k. IsWrongUp (first (Server k)) hs s place) own (subst (λ k. IsWrongUp k hs s place) is wrong)

-- a capped count is the count itself, where all records are fewer than the cap
pub counted : (class : Class) (rs : List Record) (n total : ℕ) → n ≡ capped (count_of class rs) → total ≡ capped (length rs) → total < 2 ^ 64 - 1
    → n ≡ count_of class rs
counted class rs n total is all small =
    let few = count_by-le-length (λ r. counts class r.kind) rs in
    omega (arith, is, all, small, few)

-- what was found of the same histories in other hands
pub of_slices : (P : List DownHistory → List UpHistory → Type 0) (downs xs : List DownHistory) (ups ys : List UpHistory) → xs ≡ downs → ys ≡ ups
    → P xs ys → P downs ups
of_slices P downs xs ups ys d u found = subst (λ x. P x ups) d (subst (λ y. P xs y) u found)
