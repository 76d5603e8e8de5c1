-- Values in hand, as the world has them.
use Rattle.std.specs.Prelude.{ℕ, Option, Some, None}
use Rattle.mux_frame.specs.Spelling.{MuxFrame}
use Rattle.mux_message.specs.Content.{MessageView}
use Rattle.mux_model.specs.Steps as model
use Rattle.mux_model.specs.World as world
use Rattle.translate_book.specs.Values.{reason_in}
use Rattle.core_world.specs.declared.hands.Held.{Held}
use Rattle.core_world.specs.declared.hands.Held.TheVariants as held
use Rattle.core_world.specs.declared.hands.Hand.{Hand}
use Rattle.core_world.specs.declared.hands.HandKind.TheVariants as kinds

abbrev pub frame_in : Option MessageView → Option MuxFrame
frame_in None = None
frame_in (Some m) = Some m.frame

abbrev pub held_of : Held → model.Held
held_of (held.Ticket x) = model.TicketOf x.name x.frame x.left
held_of (held.Placed x) = model.PlacedAt x.name x.server x.tag
held_of (held.Settled x) = model.SettledBy x.name x.reply.frame (frame_in x.again)
held_of (held.Recall x) = model.RecallOf x.name x.server x.tag (reason_in x.why)
held_of (held.Lost x) = model.LostOf x.name

-- what is told of a value in hand
abbrev pub shown_held : ℕ → model.Held → Hand
shown_held n (model.TicketOf name frame left) =
    record { number = n; kind = kinds.Ticket; name = name; server = None; tag = 0 }
shown_held n (model.PlacedAt name server tag) =
    record { number = n; kind = kinds.Placed; name = name; server = Some server; tag = tag }
shown_held n (model.SettledBy name reply again) =
    record { number = n; kind = kinds.Settled; name = name; server = None; tag = 0 }
shown_held n (model.RecallOf name server tag why) =
    record { number = n; kind = kinds.Recall; name = name; server = Some server; tag = tag }
shown_held n (model.LostOf name) = record { number = n; kind = kinds.Lost; name = name; server = None; tag = 0 }

abbrev pub shown : world.Hand → Hand
shown h = shown_held h.number h.held
