-- What of a reader's state is handed in.
use Rattle.router_traffic.specs.Handing.{Inflow, waits_in}
use Rattle.router_traffic.specs.declared.intake.Intake.{Intake}

-- what the contracts say of it
abbrev pub inflow : {H S : Type 0} → Intake H S → Inflow H S
inflow i = record { router = i.router.now; seat = i.seat; waits = waits_in i.batch; is_over = i.is_over }
