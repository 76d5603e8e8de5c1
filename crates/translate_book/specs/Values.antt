-- What contracts see of a ticket, and the bytes of a reason.
use Rattle.std.specs.Prelude.{ℕ, ◌==◌, List, Option, Some, None, if◌then◌else◌, codes}
use Rattle.mux_frame.specs.Spelling.{MuxFrame}
use Rattle.mux_message.specs.Content.{Content, MessageView}
use Rattle.mux_history.specs.declared.name.Name.{Name}
use Rattle.translate_book.specs.declared.recall.Why.{Why}
use Rattle.translate_book.specs.declared.recall.Why.TheVariants.{Reason, ClientGone}

-- a dispatch that wasn't sent: its name, the client's frame, what the frame says, and how many tries are left
pub record TicketView : Type 0 where
  pub name : Name
  pub frame : MuxFrame
  pub content : Content
  pub left : ℕ

-- the dispatch that is kept with its mark, where a try is left
abbrev pub copy_kept : TicketView → Option MessageView
copy_kept t = if t.left == 0 then None else Some (record { frame = t.frame; content = t.content })

abbrev pub reason_in : Why → List ℕ
reason_in (Reason bytes) = bytes
reason_in ClientGone = codes "client gone"
