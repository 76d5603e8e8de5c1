-- What is due of a client's dispatches.
use Rattle.std.specs.Prelude.{ℕ, List, ◌≡◌, ◌<◌, ◌==◌, ◌&&◌, ◌||◌, true, false, Option, Some, None, if◌then◌else◌, nat_eq}
use Rattle.indexmap.specs.IndexMap.{get, spare}
use Rattle.mux_history.specs.declared.name.Name.{Name}
use Rattle.mux_history.specs.declared.record.Record.{Record}
use Rattle.mux_history.specs.declared.kind.RecordKind.{RecordKind}
use Rattle.mux_history.specs.Readings.{answer_kind, is_named, is_epoch, note_kind, note_due, answer_due}
use Rattle.rolling_audit.specs.declared.dues.Due.{Due}
use Rattle.rolling_audit.specs.declared.dues.Dues.{Dues}

abbrev pub none_due : Due
none_due = record { note = false; answer = false }

abbrev pub due_at : Option Due → Due
due_at None = none_due
due_at (Some due) = due

-- what is due of a name, of this boot and this client
abbrev pub due_of : (boot client : ℕ) → Dues → Name → Due
due_of boot client dues n = if n.boot == boot && n.client == client then due_at (get nat_eq dues.due n.seq) else none_due

abbrev pub due_after : RecordKind → Due → Due
due_after kind before = record { note = note_kind kind before.note; answer = answer_kind kind before.answer }

-- what is due of each name behind a record
abbrev pub due_behind : Record → Name → Due → Due
due_behind r n before =
    if is_epoch r.kind then none_due
    else if is_named n r.name then due_after r.kind before
    else before

-- a number is kept of which something is due
abbrev pub kept_due : Due → Option Due
kept_due due = if due.note || due.answer then Some due else None

abbrev pub AreKept : Dues → Type 0
AreKept dues = (k : ℕ) (d : Due) → get nat_eq dues.due k ≡ Some d → (d.note || d.answer) ≡ true

-- one more number finds room
abbrev pub HasPlace : Dues → Type 0
HasPlace dues = 0 < spare dues.due

-- what is kept of a number behind a record that names a dispatch, or none
abbrev pub kept_behind : Dues → Record → Option Name → ℕ → Option Due
kept_behind old r None k = get nat_eq old.due k
kept_behind old r (Some n) k =
    if nat_eq n.seq k then kept_due (due_after r.kind (due_at (get nat_eq old.due n.seq))) else get nat_eq old.due k

abbrev pub UsesDue : Dues → Record → Dues → Type 0
UsesDue old r new = (k : ℕ) → get nat_eq new.due k ≡ (if is_epoch r.kind then None else kept_behind old r r.name k)

-- a record names no dispatch but one of this boot and this client
abbrev pub IsOfClient : (boot client : ℕ) → Record → Type 0
IsOfClient boot client r = (n : Name) → r.name ≡ Some n → (n.boot ≡ boot) × (n.client ≡ client)

pub record DuesGoOn (old : Dues) (r : Record) (new : Dues) : Type 0 where
  pub behind : (boot client : ℕ) → IsOfClient boot client r
      → (n : Name) → due_of boot client new n ≡ due_behind r n (due_of boot client old n)
  pub kept : AreKept old → AreKept new

-- what is due by the records
pub record AreDue (boot client : ℕ) (dues : Dues) (past : List Record) : Type 0 where
  pub due : (n : Name) → due_of boot client dues n ≡ record { note = note_due n past; answer = answer_due n past }
  pub kept : AreKept dues
