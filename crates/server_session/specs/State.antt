-- What contracts see of a session, and what its steps make of it.
use Rattle.std.specs.Prelude.{◌≡◌, ◌<◌, ◌≤◌, ℕ, ◌+◌, ◌*◌, max, Bool, true, false, not, ◌&&◌, ◌||◌, ◌==◌, nat_lt, if◌then◌else◌, List, [], ◌∷◌, ◌++◌, length, map, sum_by, Option, None, Some, codes}
use Rattle.std.specs.Option.{option_to_list}
use Rattle.mux_frame.specs.Spelling.{MuxFrame}
use Rattle.mux_frame.specs.declared.frame.TheConstants.{MAX_TAG}
use Rattle.mux_history.specs.declared.record.Record.{Record}
use Rattle.mux_history.specs.declared.kind.RecordKind.{RecordKind}
use Rattle.mux_history.specs.declared.kind.RecordKind.TheVariants as kinds
use Rattle.mux_history.specs.declared.name.Name.{Name}
use Rattle.mux_history.specs.declared.session.DrainState.{DrainState}
use Rattle.mux_history.specs.declared.session.DrainState.TheVariants as drains
use Rattle.mux_history.specs.Bounds.{Bounds}
use Rattle.gate.specs.declared.drain.DrainOut.{DrainOut}
use Rattle.gate.specs.declared.drain.DrainOut.TheVariants as outs
use Rattle.session_init.specs.declared.server.ServerInit.{ServerInit}
use Rattle.session_init.specs.declared.server.ServerInit.TheVariants as begins
use Rattle.translate_book.specs.declared.entry.Entry.{Entry}
use Rattle.translate_book.specs.declared.entry.Dues.{Dues}
use Rattle.translate_book.specs.declared.entry.Change.{Change}
use Rattle.translate_book.specs.declared.entry.Change.TheVariants as changes
use Rattle.translate_book.specs.declared.entry.Place.{Place}
use Rattle.translate_book.specs.declared.entry.NoteState.{NoteState}
use Rattle.translate_book.specs.declared.entry.NoteState.TheVariants as notes
use Rattle.translate_book.specs.declared.recall.Why.{Why}
use Rattle.translate_book.specs.Entries.{is_open, is_answer_due, is_note_due, is_noted_in, place_of, reason_of, applied, beginning, shutting, owes_recall, recall_from, dues_of}
use Rattle.translate_book.specs.Book.{entry_at, changed, open_count}
use Rattle.translate_book.specs.declared.recall.Recall.{Recall}
use Rattle.mux_model.specs.Steps.{is_nack}
use Rattle.mux_model.specs.Down.{Reaction, Pongs, Inits, Misplaced, Unsupports, Echoes, Acks}
use Rattle.mux_message.specs.Made.{rping_on, rinit_on, rerr_on, rdiscarded_on}
use Rattle.mux_message.specs.declared.kind.MessageKind.{MessageKind}
use Rattle.mux_message.specs.declared.kind.MessageKind.TheVariants.{Tinit}
use Rattle.translate_book.specs.declared.recall.Why.TheVariants as reasons
use Rattle.server_session.specs.declared.answers.DownStep.{DownStep}
use Rattle.server_session.specs.declared.answers.DownStep.TheVariants as answers
use Rattle.mux_history.specs.declared.kind.Standing.{Standing}
use Rattle.mux_history.specs.declared.kind.Standing.TheVariants.{Down}
use Rattle.translate_book.specs.Values.{reason_in}
use Rattle.server_session.specs.Past.{Figures, Words}

pub record State : Type 0 where
  pub boot : ℕ
  pub client : ℕ
  pub limits : Bounds
  -- the number of the present epoch, and the records of the present history, the oldest first
  pub epoch : ℕ
  pub records : List Record
  -- the frames to be taken out, the oldest first
  pub queue : List MuxFrame
  -- the dispatches that wait for a note or an answer, by rising number
  pub book : List (ℕ × Entry)
  pub dispatches : ℕ
  pub reading : ℕ
  pub init : ServerInit
  pub drain : DrainOut
  pub closed : Bool

-- the dispatch of a number
abbrev pub naming : State → ℕ → Name
naming s seq = record { boot = s.boot; client = s.client; seq = seq }

abbrev pub is_fresh_init : ServerInit → Bool
is_fresh_init begins.Fresh = true
is_fresh_init begins.Done = false

abbrev pub stage : DrainOut → DrainState
stage outs.Running = drains.Running
stage (outs.Asked tag) = drains.Asked
stage outs.Acked = drains.Acked

-- the Tdrain goes out on tag 1
abbrev pub asked_on_one : DrainState → DrainOut
asked_on_one drains.Running = outs.Running
asked_on_one drains.Asked = outs.Asked 1
asked_on_one drains.Acked = outs.Acked

-- what an entry says of its dispatch
abbrev pub pair_of : Option Place → Option (ℕ × ℕ)
pair_of None = None
pair_of (Some p) = Some (p.server, p.tag)

abbrev pub words_in : Entry → Words
words_in e = record {
  taken = true;
  tag = e.tag;
  answer = is_answer_due e;
  note = is_note_due e;
  noted = is_noted_in e.note;
  place = pair_of (place_of e);
  recalled = e.recalled;
  left = e.left;
  why = if e.recalled then [] else reason_in (reason_of e);
}

-- the records that are kept for an entry, by what is due of it
abbrev pub weight_due : Dues → ℕ
weight_due d =
    (if d.note then 1 else 0)
    + (if d.answer then (if d.recalled then 1 else 2) else 0)
    + (if d.in_use then 2 * d.left else 0)

abbrev pub weight : Entry → ℕ
weight e = weight_due (dues_of e)

-- an open entry keeps a place for its reply
abbrev pub opening_due : Dues → ℕ
opening_due d = if d.in_use then 1 else 0

abbrev pub opening : Entry → ℕ
opening e = opening_due (dues_of e)

-- a recall is owed once the place is known
abbrev pub waits_due : Dues → Bool
waits_due d = d.answer && (not d.in_use && not d.recalled)

-- a recall is owed, and a dispatch is sent again while it is open and a try is left
abbrev pub MayApply : Change → Entry → Type 0
MayApply changes.Recall e = owes_recall e ≡ true
MayApply changes.Again e = (is_open e ≡ true) × (0 < e.left)
MayApply _ e = Unit {0}

-- the session has an entry of this number, of which P holds; and P holds of each such entry
abbrev pub HasEntry : List (ℕ × Entry) → (seq : ℕ) → (Entry → Type 0) → Type 0
HasEntry es seq P = (e : Entry) × (entry_at seq es ≡ Some e) × P e

abbrev pub ForEntry : List (ℕ × Entry) → (seq : ℕ) → (Entry → Type 0) → Type 0
ForEntry es seq P = (e : Entry) → entry_at seq es ≡ Some e → P e

abbrev pub kept_in : List (ℕ × Entry) → ℕ
kept_in es = sum_by (λ p. weight p.1) es

abbrev pub figures_in : State → Figures
figures_in s = record {
  limits = s.limits;
  closed = s.closed;
  fresh = is_fresh_init s.init;
  drain = stage s.drain;
  dispatches = s.dispatches;
  epoch = s.epoch;
  records = length s.records;
  queued = length s.queue;
  load = length s.book;
  in_use = open_count s.book;
  kept = kept_in s.book;
}

-- the state with one more record, and with the frame queued, if there is one
abbrev pub noted : State → (now : ℕ) → RecordKind → (tag : ℕ) → Option Name → Option MuxFrame → State
noted s now kind tag name sent = record s {
  records = s.records ++ record { kind = kind; tag = tag; name = name; reading = max s.reading now } ∷ [];
  reading = max s.reading now;
  queue = s.queue ++ option_to_list sent;
}

-- the state with one entry changed
abbrev pub changing : State → (seq : ℕ) → Change → State
changing s seq change = record s { book = changed seq (applied change) s.book }

-- the state with the next number given
abbrev pub numbering : State → State
numbering s = record s { dispatches = s.dispatches + 1; init = begins.Done }

-- the state with a dispatch taken on a tag
abbrev pub taking : State → (tag left : ℕ) → State
taking s tag left = record (numbering s) { book = s.book ++ (s.dispatches + 1, beginning tag left) ∷ [] }

-- the entries once the client is gone: none is open
abbrev pub shut_down : List (ℕ × Entry) → List (ℕ × Entry)
shut_down es = map (λ p. (p.0, shutting None p.1)) es

abbrev pub closing : State → State
closing s = record s { closed = true; book = shut_down s.book }

-- THE ANSWERS TO A DISPATCH

-- the client's tag, where the note and the answer are due that are asked for
abbrev pub tag_due : (note answer : Bool) → Option Entry → Option ℕ
tag_due note answer None = None
tag_due note answer (Some e) =
    if (note && not (is_note_due e)) || (answer && not (is_answer_due e)) then None else Some e.tag

abbrev pub due_in : State → Name → (note answer : Bool) → Option ℕ
due_in s n note answer =
    if n.boot == s.boot && n.client == s.client then tag_due note answer (entry_at n.seq s.book) else None

abbrev pub may_retry : Option Entry → MuxFrame → Bool
may_retry None reply = false
may_retry (Some e) reply = is_nack reply && is_open e && not (is_note_due e) && nat_lt 0 e.left

-- the note is due of a dispatch of this name, for which its client waits on this tag
abbrev pub OwesNote : State → Name → (tag : ℕ) → Type 0
OwesNote s n tag =
    (due_in s n true false ≡ Some tag) × HasEntry s.book n.seq (λ e. (is_note_due e ≡ true) × (is_open e ≡ true))

-- its place is noted, it gave no recall, and the client waits for the reply: on this tag, to the dispatch of this name
abbrev pub IsAwaited : Entry → Type 0
IsAwaited e = (is_note_due e ≡ false) × (is_open e ≡ true) × (e.recalled ≡ false)

abbrev pub OwesReply : State → Name → (tag : ℕ) → Type 0
OwesReply s n tag = (due_in s n false true ≡ Some tag) × (tag ≤ MAX_TAG) × HasEntry s.book n.seq IsAwaited

abbrev pub answer_change : (whole : Bool) → Change
answer_change whole = if whole then changes.Unplace else changes.Answer

abbrev pub answered_in : State → Name → (tag : ℕ) → RecordKind → (whole : Bool) → MuxFrame → (goes_out : Bool) → State
answered_in s n tag kind whole reply true =
    noted (changing s n.seq (answer_change whole)) 0 kind tag (Some n) (Some reply)
answered_in s n tag kind whole reply false =
    noted (changing s n.seq (answer_change whole)) 0 (kinds.Late whole) tag (Some n) None

abbrev pub retried_in : State → Name → (tag : ℕ) → State
retried_in s n tag = noted (changing s n.seq changes.Again) 0 kinds.Retried tag (Some n) None

abbrev pub owes_at : Option Entry → Bool
owes_at None = false
owes_at (Some e) = owes_recall e

-- the state with a recall given, where one is owed
abbrev pub calling_back : State → (seq : ℕ) → State
calling_back s seq = if owes_at (entry_at seq s.book) then changing s seq changes.Recall else s

abbrev pub placed_in : State → (seq : ℕ) → Place → State
placed_in s seq place = changing s seq (changes.Note place)

abbrev pub noted_in : State → Name → (tag : ℕ) → Place → State
noted_in s n tag place =
    noted (calling_back (placed_in s n.seq place) n.seq) 0
    (kinds.Noted (owes_at (entry_at n.seq (placed_in s n.seq place).book)))
    tag (Some n) None

-- the place that is noted
abbrev pub the_place : NoteState → Place
the_place (notes.Noted place) = place
the_place _ = record { server = 0; tag = 0 }

abbrev pub recall_to : Name → Place → Option Why → Option Recall
recall_to n place None = None
recall_to n place (Some why) = Some (record { name = n; server = place.server; tag = place.tag; why = why })

-- THE END OF AN EPOCH

-- the state where the next history begins
abbrev pub emptied : State → State
emptied s = record s { epoch = s.epoch + 1; records = [] }

abbrev pub standing_in : State → Standing
standing_in s = Down (is_fresh_init s.init) (stage s.drain) s.dispatches

-- the next history begins with how the session stands
abbrev pub sealed_in : State → State
sealed_in s = noted (emptied s) 0 (kinds.Epoch (s.epoch + 1) (standing_in s)) 0 None None

-- all that is held, queued and due goes on
abbrev pub rolled_in : State → State
rolled_in s = noted (emptied s) 0 (kinds.Rolled (s.epoch + 1)) 0 None None

-- THE TABLE of the reactions to a message that closes nothing, and is neither a dispatch nor a Tdiscarded

-- what changes beside record and frame
abbrev pub flagged : State → Reaction → State
flagged s Inits = record s { init = begins.Done }
flagged s Acks = record s { drain = outs.Acked }
flagged s _ = s

abbrev pub kind_by : Reaction → RecordKind
kind_by Pongs = kinds.Ponged
kind_by Inits = kinds.InitDone
kind_by Misplaced = kinds.OutOfPlace
kind_by Unsupports = kinds.Unsupported
kind_by Echoes = kinds.Echoed
kind_by Acks = kinds.DrainAcked
kind_by _ = kinds.Ignored

abbrev pub sends_by : Reaction → MuxFrame → Option MuxFrame
sends_by Pongs f = Some (rping_on f.tag)
sends_by Inits f = Some (rinit_on f.tag)
sends_by Misplaced f = Some (rerr_on f.tag (codes "tinit out of place"))
sends_by Unsupports f = Some (rerr_on f.tag (codes "unsupported"))
sends_by Echoes f = Some f
sends_by _ f = None

-- the state after such a message
abbrev pub reacted_in : State → (now : ℕ) → MuxFrame → Reaction → State
reacted_in s now f r = noted (flagged s r) now (kind_by r) f.tag None (sends_by r f)

abbrev pub init_kind : (fresh : Bool) → MessageKind → RecordKind
init_kind fresh Tinit = if fresh then kinds.InitDone else kinds.OutOfPlace
init_kind fresh _ = kinds.Echoed

-- A DISPATCH THAT IS DISCARDED

abbrev pub place_at : Option Entry → Option Place
place_at None = None
place_at (Some e) = place_of e

abbrev pub shut_in : State → (seq : ℕ) → (why : List ℕ) → State
shut_in s seq why = changing s seq (changes.Shut (Some (reasons.Reason why)))

abbrev pub given_up_in : State → (now seq tag : ℕ) → (why : List ℕ) → State
given_up_in s now seq tag why =
    noted (calling_back (shut_in s seq why) seq) now (kinds.Discarded (owes_at (entry_at seq (shut_in s seq why).book)))
    tag (Some (naming s seq)) (Some (rdiscarded_on tag))

abbrev pub recalled_by : Name → Option Place → Option Why → DownStep
recalled_by n (Some place) (Some why) =
    answers.Recall (record { name = n; server = place.server; tag = place.tag; why = why })
recalled_by n _ _ = answers.Nothing

abbrev pub given_up_by : Name → Option Entry → DownStep
given_up_by n o = recalled_by n (place_at o) (recall_from o)
