-- What a frame says of the server that sent it.
use Rattle.std.specs.Prelude.{ℕ, List, Bool, true, false, ◌==◌, if◌then◌else◌, length, slice_index}
use Rattle.mux_frame.specs.Spelling.{MuxFrame}
use Rattle.mux_message.specs.declared.kind.MessageKind.{MessageKind}
use Rattle.mux_message.specs.declared.kind.MessageKind.TheVariants.{Rdispatch, Rerr}
use Rattle.mux_message.specs.Kinds.{kind_of}
use Rattle.router_state.specs.declared.outcome.Outcome.{Outcome}
use Rattle.router_state.specs.declared.outcome.Outcome.TheVariants as outcomes

-- by the status of an Rdispatch
abbrev pub by_status : ℕ → Outcome
by_status status =
    if status == 0 then outcomes.Ok
    else if status == 1 then outcomes.Error
    else if status == 2 then outcomes.Nack
    else outcomes.Other

abbrev pub by_body : List ℕ → Outcome
by_body body = if length body == 0 then outcomes.Other else by_status (slice_index body 0)

-- on tag 1 no dispatch is sent: an Rerr there answers a probe, a Tinit or a ping
abbrev pub by_tag : ℕ → Outcome
by_tag tag = if tag == 1 then outcomes.Other else outcomes.Rerr

abbrev pub says : MessageKind → MuxFrame → Outcome
says Rerr f = by_tag f.tag
says Rdispatch f = by_body f.body
says _ f = outcomes.Other

-- what a frame says of the server that sent it
abbrev pub outcome_of : MuxFrame → Outcome
outcome_of f = says (kind_of f.kind) f

-- a dispatch was answered by an error
abbrev pub is_error : Outcome → Bool
is_error outcomes.Error = true
is_error outcomes.Rerr = true
is_error _ = false

-- a dispatch was taken on
abbrev pub is_served : Outcome → Bool
is_served outcomes.Ok = true
is_served outcomes.Error = true
is_served _ = false
