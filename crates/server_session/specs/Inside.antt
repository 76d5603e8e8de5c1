-- What the fields of a session mean, and what they keep.
use Rattle.std.specs.Prelude.{◌≡◌, ◌≤◌, ◌+◌, ℕ, List, [], ◌∷◌, length, map, if◌then◌else◌}
use Rattle.std.specs.VecDeque.{deque_len, deque_capacity}
use Rattle.mux_frame.specs.Spelling.{MuxFrame}
use Rattle.mux_frame.specs.declared.frame.TheConstants.{MAX_TAG}
use Rattle.mux_frame.specs.Views.{FrameView}
use Rattle.translate_book.specs.declared.entry.Entry.{Entry}
use Rattle.translate_book.specs.Book.{open_count}
use Rattle.server_session.specs.declared.session.ServerSession.TheInside.{Inside}
use Rattle.server_session.specs.State.{State, kept_in}

abbrev pub frames_of : List FrameView → List MuxFrame
frames_of vs = map (λ v. v.frame) vs

abbrev pub state_of : Inside → State
state_of i = record {
  boot = i.boot;
  client = i.client;
  limits = i.limits;
  epoch = i.epoch;
  records = i.history.records;
  queue = frames_of i.queue.items;
  book = i.book.entries;
  dispatches = i.dispatches;
  reading = i.reading;
  init = i.init;
  drain = i.drain;
  closed = i.closed;
}

-- each tag is such as a message may have
abbrev pub InTags : List (ℕ × Entry) → Type 0
InTags [] = Unit {0}
InTags (p ∷ ps) = (p.1.tag ≤ MAX_TAG) × InTags ps

pub record IsSound (i : Inside) : Type 0 where
  pub history_room : i.history.room ≡ i.limits.history
  pub book_room : i.book.room ≡ i.limits.window
  pub queue_room : i.limits.out ≤ deque_capacity i.queue
  pub numbered : i.book.last ≤ i.dispatches
  pub tags : InTags i.book.entries
  -- the counts are those of the entries
  pub opened : i.in_use ≡ open_count i.book.entries
  pub counted : i.kept ≡ kept_in i.book.entries
  -- each dispatch's note, answer and recall, and the end of the session, have their records kept
  pub records_kept : length i.history.records + (if i.closed then 0 else 1) + i.kept ≤ i.limits.history
  -- each open dispatch's reply has its place in the queue kept
  pub out_kept : deque_len i.queue + i.in_use ≤ i.limits.out
