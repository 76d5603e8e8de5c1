-- One dispatch in a client's book: what is due of it, and what the steps do to it.
use Rattle.std.specs.Prelude.{ℕ, ◌-◌, ◌&&◌, ◌||◌, Bool, true, false, not, Option, Some, None, unwrap_or, if◌then◌else◌}
use Rattle.std.specs.Bool.{then_some}
use Rattle.translate_book.specs.declared.recall.Why.{Why}
use Rattle.translate_book.specs.declared.recall.Why.TheVariants.{ClientGone}
use Rattle.translate_book.specs.declared.entry.AnswerState.{AnswerState}
use Rattle.translate_book.specs.declared.entry.AnswerState.TheVariants.{Open, Shut, Answered}
use Rattle.translate_book.specs.declared.entry.NoteState.{NoteState}
use Rattle.translate_book.specs.declared.entry.NoteState.TheVariants.{Due, Noted, Unplaced}
use Rattle.translate_book.specs.declared.entry.Place.{Place}
use Rattle.translate_book.specs.declared.entry.Change.{Change}
use Rattle.translate_book.specs.declared.entry.Change.TheVariants as changes
use Rattle.translate_book.specs.declared.entry.Entry.{Entry}
use Rattle.translate_book.specs.declared.entry.Dues.{Dues}
use Rattle.translate_book.specs.declared.entry.Effect.{Effect}

abbrev pub is_open_answer : AnswerState → Bool
is_open_answer Open = true
is_open_answer _ = false

abbrev pub is_shut_answer : AnswerState → Bool
is_shut_answer Shut = true
is_shut_answer _ = false

abbrev pub is_due_answer : AnswerState → Bool
is_due_answer Answered = false
is_due_answer _ = true

abbrev pub is_due_note : NoteState → Bool
is_due_note Due = true
is_due_note _ = false

abbrev pub place_in : NoteState → Option Place
place_in (Noted place) = Some place
place_in _ = None

abbrev pub is_noted_in : NoteState → Bool
is_noted_in (Noted place) = true
is_noted_in _ = false

-- the client's tag is in use
abbrev pub is_open : Entry → Bool
is_open e = is_open_answer e.answer

abbrev pub is_answer_due : Entry → Bool
is_answer_due e = is_due_answer e.answer

abbrev pub is_note_due : Entry → Bool
is_note_due e = is_due_note e.note

-- where it was placed, where that is noted
abbrev pub place_of : Entry → Option Place
place_of e = place_in e.note

-- it stays in the book
abbrev pub is_held : Entry → Bool
is_held e = is_note_due e || is_answer_due e

-- its place is noted, its answer is due on no tag, and it gave no recall
abbrev pub owes_recall : Entry → Bool
owes_recall e = is_shut_answer e.answer && (is_noted_in e.note && not e.recalled)

-- a dispatch that was taken on a tag, and may be sent again so many times
abbrev pub beginning : (tag left : ℕ) → Entry
beginning tag left = record { tag = tag; answer = Open; note = Due; recalled = false; why = None; left = left }

-- its place is noted
abbrev pub noting : Place → Entry → Entry
noting place e = record e { note = Noted place }

-- the client has its tag back
abbrev pub shut_from : AnswerState → Option Why → Entry → Entry
shut_from Open why e = record e { answer = Shut; why = why }
shut_from _ why e = e

abbrev pub shutting : Option Why → Entry → Entry
shutting why e = shut_from e.answer why e

-- the answer is not due any more
abbrev pub answering : Entry → Entry
answering e = record e { answer = Answered }

-- neither note nor answer is due any more
abbrev pub unplacing : Entry → Entry
unplacing e = record e { answer = Answered; note = Unplaced }

-- it gave its recall, with this reason
abbrev pub recalling : Entry → Entry
recalling e = record e { recalled = true; why = None }

-- it is to be sent again: its note is due, and it has one try less
abbrev pub trying_again : Entry → Entry
trying_again e = record e { note = Due; left = e.left - 1 }

abbrev pub reason_of : Entry → Why
reason_of e = unwrap_or e.why ClientGone

abbrev pub applied : Change → Entry → Entry
applied (changes.Note place) e = noting place e
applied (changes.Shut why) e = shutting why e
applied changes.Answer e = answering e
applied changes.Unplace e = unplacing e
applied changes.Recall e = recalling e
applied changes.Again e = trying_again e

-- the client's tag, where a change gives it back
abbrev pub freed : Change → Entry → Option ℕ
freed change e = then_some (is_open e && not (is_open (applied change e))) e.tag

abbrev pub reason_given : Change → Entry → Option Why
reason_given changes.Recall e = Some (reason_of e)
reason_given _ e = None

-- the reason of the recall that an entry gives, where it owes one
abbrev pub recall_from : Option Entry → Option Why
recall_from None = None
recall_from (Some e) = if owes_recall e then Some (reason_of e) else None

-- what is due of a dispatch
abbrev pub dues_of : Entry → Dues
dues_of e =
    record { in_use = is_open e; note = is_note_due e; answer = is_answer_due e; recalled = e.recalled; left = e.left }

abbrev pub effect_of : Change → Entry → Effect
effect_of change e = record { was = dues_of e; is = dues_of (applied change e); reason = reason_given change e }
