-- What records tell of one dispatch.
use Rattle.std.specs.Prelude.{List, [], ◌∷◌, ◌++◌, ◌+◌, ◌==◌, ◌≡◌, ◌≤◌, ◌&&◌, ◌||◌, Bool, true, false, not, Option, Some, None, if◌then◌else◌, nat_lt}
use Rattle.mux_history.specs.declared.name.Name.{Name}
use Rattle.mux_history.specs.declared.record.Record.{Record}
use Rattle.mux_history.specs.declared.kind.RecordKind.{RecordKind}
use Rattle.mux_history.specs.declared.kind.RecordKind.TheVariants as kinds
use Rattle.mux_agree.specs.Agree.{has, times, answers, is_failed, is_lost_one}
use Rattle.rolling_audit.specs.Counted.{CountsOne, IsCounted, counted_of, end_by, faultless_by, joined_if, none_counted, one}
use Rattle.rolling_audit.specs.Dues.{due_after, none_due}
use Rattle.rolling_audit.specs.Recalls.{gives_recall}
use Rattle.rolling_audit.specs.declared.life.Life.{Life}
use Rattle.rolling_audit.specs.declared.fault.Flaw.{Flaw}
use Rattle.rolling_audit.specs.declared.fault.Flaw.TheVariants as flaws

-- a reply was passed on
abbrev pub is_passed : RecordKind → Bool
is_passed kinds.Passed = true
is_passed _ = false

-- where a dispatch went was noted
abbrev pub is_note : RecordKind → Bool
is_note (kinds.Noted recalled) = true
is_note _ = false

-- what was counted is told of the name: among the records of clients, and among all
pub record IsLife (n : Name) (clients all : List Record) (l : Life) : Type 0 where
  pub trace : IsCounted n clients all l.trace
  pub answered : times answers n all ≡ one l.answered
  pub passed : has is_passed n all ≡ l.passed
  pub failed : has is_failed n all ≡ l.failed
  pub gave_recall : has gives_recall n all ≡ l.gave_recall
  pub noted : times is_note n all ≡ l.noted
  pub lost : times is_lost_one n all ≡ l.lost

-- of no records
abbrev pub no_life : Life
no_life =
    record {
      trace = none_counted;
      due = none_due;
      noted = 0;
      lost = 0;
      answered = false;
      passed = false;
      failed = false;
      gave_recall = false;
    }

-- with one record of this kind more
pub record CountsLife (l : Life) (of_client : Bool) (kind : RecordKind) (m : Life) : Type 0 where
  pub trace : CountsOne l.trace of_client kind m.trace
  pub due : m.due ≡ due_after kind l.due
  pub noted : m.noted ≡ one (is_note kind) + l.noted
  pub lost : m.lost ≡ one (is_lost_one kind) + l.lost
  pub answered : m.answered ≡ (answers kind || l.answered)
  pub passed : m.passed ≡ (is_passed kind || l.passed)
  pub failed : m.failed ≡ (is_failed kind || l.failed)
  pub gave_recall : m.gave_recall ≡ (gives_recall kind || l.gave_recall)

-- as many records as a count holds were counted
abbrev pub IsFull : Life → Type 0
IsFull l = 255 ≤ counted_of l.trace + (l.noted + l.lost)

-- it goes on to be told of the name, with a record of it more behind the others
abbrev pub LivesOn : Life → Bool → RecordKind → Life → Type 0
LivesOn l of_client kind m =
    (n : Name) (clients all : List Record) (r : Record) → r.kind ≡ kind → r.name ≡ Some n
    → IsLife n clients all l → IsLife n (joined_if of_client clients (r ∷ [])) (all ++ r ∷ []) m

-- records of this kind came, and aren't borne out
abbrev pub is_flawed : Bool → Life → RecordKind → Bool
is_flawed came l kind = came && not (faultless_by l.trace kind)

abbrev pub flaw_of : Life → Option Flaw
flaw_of l =
    if not l.trace.taken then Some flaws.Untaken
    else if is_flawed (nat_lt 0 l.trace.offered) l kinds.Offered then Some flaws.Offered
    else if is_flawed (nat_lt 0 l.trace.retried) l kinds.Retried then Some flaws.Retried
    else if is_flawed l.passed l kinds.Passed then Some flaws.Passed
    else if is_flawed l.failed l kinds.Failed then Some flaws.Failed
    else None

-- the records of the dispatch bear each other out
pub record IsFine (l : Life) : Type 0 where
  pub offered : is_flawed (nat_lt 0 l.trace.offered) l kinds.Offered ≡ false
  pub retried : is_flawed (nat_lt 0 l.trace.retried) l kinds.Retried ≡ false
  pub passed : is_flawed l.passed l kinds.Passed ≡ false
  pub failed : is_flawed l.failed l kinds.Failed ≡ false

-- its client waits for nothing, each place that was noted is that of a sending, and each sending ended
abbrev pub is_settled : Life → Bool
is_settled l =
    if l.due.note || l.due.answer then false
    else l.trace.offered == l.noted && l.trace.settled + l.trace.nacked_back + l.lost == l.trace.offered

abbrev pub is_none : {A : Type 0} → Option A → Bool
is_none None = true
is_none (Some x) = false

-- it gave a recall, none was sent, and it has no end
abbrev pub lacks_end : Life → Bool
lacks_end l = l.gave_recall && not (end_by l.trace)

-- a client took it, and its recall has an end
abbrev pub is_ended_life : Life → Bool
is_ended_life l = l.trace.taken && not (lacks_end l)

abbrev pub is_fine : Life → Bool
is_fine l = is_none (flaw_of l)

abbrev pub is_done : Life → Bool
is_done l = is_settled l && is_ended_life l && is_fine l

-- nothing more is to be known of it: its records bear each other out, and its recall has an end
pub record IsOver (l : Life) : Type 0 where
  pub fine : IsFine l
  pub ended : lacks_end l ≡ false

-- what is kept of a life
abbrev pub kept_life : Life → Option Life
kept_life l = if is_done l then None else Some l
