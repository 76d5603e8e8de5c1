use Rattle.std.proofs.Common.{◌≡◌, ℕ, List, IfOk, IfErr, sym}
use Rattle.std.specs.Prelude.{All, OnOk, Result, Ok, Err}
use Rattle.mux_agree.specs.declared.agreement.histories.DownHistory.{DownHistory}
use Rattle.mux_agree.specs.declared.agreement.histories.UpHistory.{UpHistory}
use Rattle.hub_slots.specs.Histories.{IsKeptDown, IsKeptUp}
use Rattle.hub.specs.declared.close.Closed.{Closed}
use Rattle.hub.specs.declared.close.CloseFault.{CloseFault}
use Rattle.hub.specs.Seats.{Seat, Orders}
use Rattle.hub.specs.Closing.{IsClosed, IsStopped, parts_back}
use Rattle.hub.proofs.hub.Hub.close.Goals as goal

closed_over : {E : Type 0} (downs : List DownHistory) (ups : List UpHistory) (clients servers : List Seat) (orders : List Orders) (r : Result Closed E)
    → IfOk r (λ c. IsClosed downs ups clients servers orders c)
    → IfOk r (λ c. (xs : List DownHistory) × (ys : List UpHistory) × IsClosed xs ys clients servers orders c)
closed_over downs ups clients servers orders (Ok c) p = (downs, ups, p)
closed_over downs ups clients servers orders (Err e) p = tt

back_over : {A E : Type 0} (parts rest : ℕ) (clients servers : List Seat) (r : Result A E)
    → OnOk r (parts_back rest clients servers ≡ parts) → OnOk r ((n : ℕ) × (parts_back n clients servers ≡ parts))
back_over parts rest clients servers (Ok c) p = (rest, p)
back_over parts rest clients servers (Err e) p = tt

stopped_over : {A : Type 0} (parts rest : ℕ) (downs : List DownHistory) (ups : List UpHistory) (clients servers : List Seat) (orders : List Orders)
    (r : Result A CloseFault) → All IsKeptDown downs × All IsKeptUp ups
    → IfErr r (λ e. IsStopped parts rest downs ups clients servers orders e)
    → IfErr r (λ e. (n : ℕ) × (xs : List DownHistory) × (ys : List UpHistory) × All IsKeptDown xs × All IsKeptUp ys
    × IsStopped parts n xs ys clients servers orders e)
stopped_over parts rest downs ups clients servers orders (Ok c) kept p = tt
stopped_over parts rest downs ups clients servers orders (Err e) kept p = (rest, downs, ups, kept.0, kept.1, p)

pub returns-clause-ok : goal.returns-clause-ok
returns-clause-ok g c =
    rw (sym c.end.ensures.seats) (closed_over c.end.result.downs.items c.end.result.ups.items c.end.result.seats.clients.items
    c.end.result.seats.servers.items c.end.result.seats.orders c.judge.result c.judge.ensures.ok)

pub returns-clause-back : goal.returns-clause-back
returns-clause-back g c =
    rw (sym c.end.ensures.seats) (back_over _ c.end.result.rest.parts c.end.result.seats.clients.items c.end.result.seats.servers.items
    c.judge.result c.judge.ensures.back)

pub returns-clause-stopped : goal.returns-clause-stopped
returns-clause-stopped g c =
    rw (sym c.end.ensures.seats) (stopped_over _ c.end.result.rest.parts c.end.result.downs.items c.end.result.ups.items
    c.end.result.seats.clients.items c.end.result.seats.servers.items c.end.result.seats.orders c.judge.result c.end.ensures.kept c.judge.ensures.stopped)
