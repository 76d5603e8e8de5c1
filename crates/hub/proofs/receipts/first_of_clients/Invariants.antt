use Rattle.std.proofs.Common.{◌≡◌, ℕ, ◌<◌, Some}
use Rattle.std.specs.Prelude.{option_map, slice_get}
use Rattle.hub.specs.Seats.{Seat}
use Rattle.mux_history.specs.declared.session.SessionId.TheVariants.{Client}
use Rattle.hub.specs.Closing.{IsRightDown}
use Rattle.hub.specs.Rests.{first_left}
use Rattle.hub.proofs.receipts.first_of_clients.Given as goal

abbrev pub invariant-loop-i : goal.invariant-loop-i
invariant-loop-i g l = (k : ℕ) (s : Seat) → k < l.i → slice_get l.seats.items k ≡ Some s → IsRightDown (first_left (option_map (λ a. a.now) l.audit) (Client s.number)) l.downs s
