-- What `health` is answered with.
use Rattle.std.specs.Prelude.{Bool, true, false}
use Rattle.operator_port.specs.declared.reply.Lack.TheVariants.{NoServer, NoSession}
use Rattle.operator_port.specs.declared.reply.Reply.{Reply}
use Rattle.operator_port.specs.declared.reply.Reply.TheVariants.{Done, Failed}

-- with no server open every dispatch is nacked, so that comes first
abbrev pub health_by : (has_server has_place : Bool) → Reply
health_by false has_place = Failed NoServer
health_by true false = Failed NoSession
health_by true true = Done
