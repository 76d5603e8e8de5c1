-- When a state is that of a session with this past.
use Rattle.std.specs.Prelude.{◌≡◌, ◌<◌, ◌||◌, ℕ, false, true, ◌++◌, reverse, map, Option, Some, None, codes}
use Rattle.mux_history.specs.declared.name.Name.{Name}
use Rattle.mux_history.specs.declared.session.SessionId.TheVariants.{Client}
use Rattle.mux_history.specs.Readings.{has_ended, reading as reading_of, dispatches as dispatches_of, is_fresh, drain_of, epoch_of, book as book_of, written}
use Rattle.mux_model.specs.Steps.{entries as entries_of, records as records_of}
use Rattle.mux_model.specs.Tags.{Holder, holder}
use Rattle.mux_model.specs.Down.{DownSession}
use Rattle.translate_book.specs.declared.entry.Entry.{Entry}
use Rattle.translate_book.specs.Entries.{is_open, is_note_due}
use Rattle.translate_book.specs.Book.{entry_at, open_at, IsOnce, Rises}
use Rattle.server_session.specs.Past.{Past, Words, words_of, sent_of}
use Rattle.server_session.specs.State.{State, is_fresh_init, asked_on_one, words_in}

-- the dispatch of a number
abbrev pub name_in : DownSession → ℕ → Name
name_in c seq = record { boot = c.boot; client = c.number; seq = seq }

-- who holds a tag is the dispatch that is open on it
abbrev pub IsHeldBy : DownSession → Option Holder → Option ℕ → Type 0
IsHeldBy c None None = Unit {0}
IsHeldBy c (Some h) (Some seq) = h.name ≡ Some (name_in c seq)
IsHeldBy c _ _ = ⊥

-- an entry says what is known of its dispatch
pub record Matches (p : Past) (seq : ℕ) (e : Entry) : Type 0 where
  pub words : words_in e ≡ words_of p.session p.steps (name_in p.session seq)
  -- no reason was given for what is still open
  pub unsaid : is_open e ≡ true → e.why ≡ None
  -- no recall was given for what is open, or waits for its note
  pub clean : (is_open e || is_note_due e) ≡ true → e.recalled ≡ false

-- nothing is due of a number that was not given, and nothing is known of it
abbrev pub unheard : DownSession → Words
unheard c = record {
  taken = false;
  tag = 0;
  answer = false;
  note = false;
  noted = false;
  place = None;
  recalled = false;
  left = c.limits.retries;
  why = codes "client gone";
}

abbrev pub IsIdle : Words → Type 0
IsIdle w = (w.answer ≡ false) × (w.note ≡ false)

pub record Belongs (s : State) (p : Past) : Type 0 where
  pub boot : s.boot ≡ p.session.boot
  pub client : s.client ≡ p.session.number
  pub limits : s.limits ≡ p.session.limits
  -- the records are those of the present history
  pub epoch : s.epoch ≡ epoch_of (records_of p.steps)
  pub records : s.records ≡ reverse (written (records_of p.steps))
  -- the messages sent are those that were taken out, and then those in the queue
  pub queue : p.out ++ s.queue ≡ sent_of (entries_of p.steps)
  pub dispatches : s.dispatches ≡ dispatches_of (records_of p.steps)
  pub reading : s.reading ≡ reading_of (records_of p.steps)
  pub init : is_fresh_init s.init ≡ is_fresh (records_of p.steps)
  pub drain : s.drain ≡ asked_on_one (drain_of (records_of p.steps))
  pub closed : s.closed ≡ has_ended (records_of p.steps)
  -- the entries are those of the names in the book, by rising number
  pub names : map (λ e. name_in p.session e.0) s.book ≡ reverse (book_of (records_of p.steps))
  pub rises : Rises 0 s.book s.dispatches
  pub once : IsOnce s.book
  pub entries : (seq : ℕ) (e : Entry) → entry_at seq s.book ≡ Some e → Matches p seq e
  -- nothing is due of any other number
  pub absent : (seq : ℕ) → entry_at seq s.book ≡ None → IsIdle (words_of p.session p.steps (name_in p.session seq))
  pub later : (seq : ℕ) → dispatches_of (records_of p.steps) < seq
      → words_of p.session p.steps (name_in p.session seq) ≡ unheard p.session
  -- until the end each tag in use is held by the dispatch that is open on it, and then none is open
  pub held : has_ended (records_of p.steps) ≡ false → (t : ℕ)
      → IsHeldBy p.session (holder (Client p.session.number) t (entries_of p.steps)) (open_at t s.book)
  pub shut : has_ended (records_of p.steps) ≡ true → (t : ℕ) → open_at t s.book ≡ None
