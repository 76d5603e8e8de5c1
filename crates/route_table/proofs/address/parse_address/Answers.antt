use Rattle.std.proofs.Common.{sym}
use Rattle.route_table.proofs.Addresses.{address_spelled, address_refused}
use Rattle.route_table.proofs.address.parse_address.Goals as goal

pub returns-in-Ok : goal.returns-in-Ok
returns-in-Ok c = sym (address_spelled c.args.text.now c.in-Ok.address c.in-Ok.ensures.value)

pub returns-in-Err : goal.returns-in-Err
returns-in-Err c = sym (address_refused c.args.text.now c.in-Err.ensures.value)
