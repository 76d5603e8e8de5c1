-- What the records of all histories add up to.
use Rattle.std.specs.Prelude.{◌≡◌, ℕ, List, Bool, true, false, count_by}
use Rattle.mux_history.specs.declared.record.Record.{Record}
use Rattle.mux_history.specs.declared.kind.RecordKind.{RecordKind}
use Rattle.mux_history.specs.declared.kind.RecordKind.TheVariants as kinds
use Rattle.mux_history.specs.Readings.{gives_name, is_offered}
use Rattle.mux_agree.specs.Agree.{answers}
use Rattle.rolling_audit.specs.Recalls.{AreEnded}
use Rattle.hub_close.specs.declared.count.Class.{Class}
use Rattle.hub_close.specs.declared.count.Class.TheVariants as classes

-- a step gave a ticket, a reply or a loss
abbrev pub gives_value : RecordKind → Bool
gives_value kinds.Took = true
gives_value (kinds.Settled _) = true
gives_value kinds.SettledNack = true
gives_value kinds.LostOne = true
gives_value _ = false

-- a step used one
abbrev pub uses_value : RecordKind → Bool
uses_value kinds.Offered = true
uses_value kinds.Passed = true
uses_value kinds.Nacked = true
uses_value kinds.Unrouted = true
uses_value kinds.Failed = true
uses_value (kinds.Late _) = true
uses_value _ = false

abbrev pub is_noted : RecordKind → Bool
is_noted (kinds.Noted _) = true
is_noted _ = false

abbrev pub counts : Class → RecordKind → Bool
counts classes.Dispatch kind = gives_name kind
counts classes.Reply kind = answers kind
counts classes.Gained kind = gives_value kind
counts classes.Used kind = uses_value kind
counts classes.Noted kind = is_noted kind
counts classes.Offered kind = is_offered kind

abbrev pub count_of : Class → List Record → ℕ
count_of class rs = count_by (λ r. counts class r.kind) rs

-- no ticket, reply, loss or place was dropped
pub record AreUsed (rs : List Record) : Type 0 where
  -- tickets, replies and losses were used as often as steps gave them. A Retried uses a reply and gives a ticket
  pub used : count_of classes.Gained rs ≡ count_of classes.Used rs
  -- and so were places
  pub noted : count_of classes.Noted rs ≡ count_of classes.Offered rs

-- nor was a recall
pub record IsBalanced (rs : List Record) : Type 0 where
  pub used : AreUsed rs
  pub ended : AreEnded rs
