-- What a message does to initiation, on both sides: the state behind it, and what is given.
use Rattle.std.specs.Prelude.{◌==◌, Bool, true, false, if◌then◌else◌, codes}
use Rattle.mux_frame.specs.Spelling.{MuxFrame}
use Rattle.mux_message.specs.Content.{Content, tinit, rinit, rerr}
use Rattle.mux_message.specs.Made.{is_probe, rerr_on, rinit_on, tinit_on}
use Rattle.mux_history.specs.declared.session.InitMode.{InitMode}
use Rattle.mux_history.specs.declared.session.InitMode.TheVariants.{Probe, Plain}
use Rattle.mux_history.specs.declared.session.InitState.{InitState}
use Rattle.mux_history.specs.declared.session.InitState.TheVariants.{Probing, Asked, Open}
use Rattle.session_init.specs.declared.server.ServerInit.{ServerInit}
use Rattle.session_init.specs.declared.server.ServerInit.TheVariants.{Fresh, Done}
use Rattle.session_init.specs.declared.step.InitStep.{InitStep}
use Rattle.session_init.specs.declared.step.InitStep.TheVariants.{Send, Opened, NotInit}

-- a frame goes out, the session has opened, or the message is none of initiation
pub data Given : Type 0 where
  sends : MuxFrame → Given
  opens : Given
  passes : Given

abbrev pub given : InitStep → Given
given (Send f) = sends f.frame
given Opened = opens
given NotInit = passes

abbrev pub is_fresh : ServerInit → Bool
is_fresh Fresh = true
is_fresh Done = false

-- Towards a client: a Tinit is answered by Rinit while the client is fresh, and else called out of
-- place; the probe of a fresh client goes back as it came.
abbrev pub server_gives : ServerInit → MuxFrame → Content → Given
server_gives Fresh f (tinit version headers) = sends (rinit_on f.tag)
server_gives Done f (tinit version headers) = sends (rerr_on f.tag (codes "tinit out of place"))
server_gives Fresh f (rerr why) = if is_probe f.tag why then sends f else passes
server_gives _ f _ = passes

abbrev pub server_after : ServerInit → Content → ServerInit
server_after _ (tinit version headers) = Done
server_after s _ = s

-- Towards a server: Tinit follows the probe that came back; an Rerr with another text, and the
-- answer to the Tinit, open the session.
abbrev pub client_gives : InitState → MuxFrame → Content → Given
client_gives Probing f (rerr why) =
    if f.tag == 1 then (if is_probe f.tag why then sends (tinit_on 1) else opens) else passes
client_gives Asked f (rerr why) = if f.tag == 1 then opens else passes
client_gives Asked f (rinit version headers) = if f.tag == 1 then opens else passes
client_gives _ f _ = passes

abbrev pub client_after : InitState → MuxFrame → Content → InitState
client_after Probing f (rerr why) =
    if f.tag == 1 then (if is_probe f.tag why then Asked else Open) else Probing
client_after Asked f (rerr why) = if f.tag == 1 then Open else Asked
client_after Asked f (rinit version headers) = if f.tag == 1 then Open else Asked
client_after s f _ = s

-- where initiation towards a server begins
abbrev pub client_start : InitMode → InitState
client_start Probe = Probing
client_start Plain = Open
