-- Calls that hand no frame in: the seat goes on.
use Rattle.std.proofs.Common.{◌≡◌, [], ℕ, List, Result, Ok, Err, refl, sym, ap, subst}
use Rattle.std.specs.Prelude.{OnOk, OnErr}
use Rattle.mux_history.specs.Log.{Log}
use Rattle.hub_close.specs.Receipts.{Settles}
use Rattle.hub.specs.Seats.{Seat}
use Rattle.router_state.specs.Seats.{GoesOn, Stays}
use Rattle.router_state.specs.declared.seat.AnySeat.{AnySeat}
use Rattle.router_state.specs.declared.seat.AnySeat.TheVariants.{Client, Server}

same_stays : (s t : Seat) → t ≡ s → Stays s t
same_stays s t same = record {
  number = ap (λ (x : Seat). x.number) same;
  orders = ap (λ (x : Seat). x.orders) same;
  gone = [];
  receipts = ap (λ (x : Seat). x.receipts) (sym same);
}

pub rolled_stays : {A E : Type 0} (s t : Seat) (n : ℕ) (result : Result A E)
    → OnOk result (t ≡ record s { amount = n }) → OnErr result (t ≡ s) → Stays s t
rolled_stays s t n (Ok a) ok err = record {
  number = ap (λ (x : Seat). x.number) ok;
  orders = ap (λ (x : Seat). x.orders) ok;
  gone = [];
  receipts = ap (λ (x : Seat). x.receipts) (sym ok);
}
rolled_stays s t n (Err e) ok err = same_stays s t err

pub grown_stays : {A E : Type 0} (s t : Seat) (n : ℕ) (result : Result A E)
    → OnOk result (t ≡ record s { room = n }) → OnErr result (t ≡ s) → Stays s t
grown_stays s t n (Ok a) ok err = record {
  number = ap (λ (x : Seat). x.number) ok;
  orders = ap (λ (x : Seat). x.orders) ok;
  gone = [];
  receipts = ap (λ (x : Seat). x.receipts) (sym ok);
}
grown_stays s t n (Err e) ok err = same_stays s t err

pub settled_stays : {A E : Type 0} (first : ℕ) (epochs : List Log) (s t : Seat) (result : Result A E)
    → OnOk result (Settles first epochs s.receipts t.receipts) → OnOk result (t ≡ record s { receipts = t.receipts })
    → OnErr result (t ≡ s) → Stays s t
settled_stays first epochs s t (Ok a) found ok err = record {
  number = ap (λ (x : Seat). x.number) ok;
  orders = ap (λ (x : Seat). x.orders) ok;
  gone = found.0;
  receipts = found.1;
}
settled_stays first epochs s t (Err e) found ok err = same_stays s t err

pub goes_on : {L : Type 0} (s : AnySeat L) → GoesOn s s
goes_on (Client s) = same_stays s s refl
goes_on (Server s) = same_stays s s refl

pub goes_from : {L : Type 0} (s t u : AnySeat L) → s ≡ t → GoesOn t u → GoesOn s u
goes_from {L = L} s t u is on = subst (λ (v : AnySeat L). GoesOn v u) (sym is) on
