use Rattle.std.proofs.Common.{◌≡◌, ℕ, ◌<◌, Some}
use Rattle.std.specs.Prelude.{option_map, slice_get}
use Rattle.hub.specs.Seats.{Seat}
use Rattle.mux_history.specs.declared.session.SessionId.TheVariants.{Server}
use Rattle.hub.specs.Closing.{IsRightUp}
use Rattle.hub.specs.Rests.{first_left}
use Rattle.hub.proofs.receipts.first_of_servers.Given as goal

abbrev pub invariant-loop-i : goal.invariant-loop-i
invariant-loop-i g l = (k : ℕ) (s : Seat) → k < l.i → slice_get l.seats.items k ≡ Some s → IsRightUp (first_left (option_map (λ a. a.now) l.audit) (Server s.number)) l.ups s
