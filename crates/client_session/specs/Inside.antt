-- What the fields of a session mean, and what they keep.
use Rattle.std.specs.Prelude.{◌≡◌, ◌≤◌, ◌<◌, ◌+◌, ◌^◌, ℕ, List, length, map, if◌then◌else◌, IsSome}
use Rattle.std.specs.VecDeque.{deque_len, deque_capacity}
use Rattle.std.specs.FinMap as maps
use Rattle.mux_frame.specs.Spelling.{MuxFrame}
use Rattle.mux_frame.specs.Views.{FrameView}
use Rattle.gate.specs.Drains.{is_drained}
use Rattle.client_session.specs.declared.session.ClientSession.TheInside.{Inside}
use Rattle.client_session.specs.State.{State, fresh_in}

abbrev pub frames_of : List FrameView → List MuxFrame
frames_of vs = map (λ v. v.frame) vs

abbrev pub state_of : Inside → State
state_of i = record {
  server = i.server;
  limits = i.limits;
  epoch = i.epoch;
  records = i.history.records;
  queue = frames_of i.queue.items;
  entries = i.entries.entries;
  delays = i.delays;
  lapse = i.lease;
  reading = i.reading;
  init = i.init;
  drained = is_drained i.drain;
  retired = i.retired;
  ping = i.ping;
  closed = i.closed;
}

pub record IsSound (i : Inside) : Type 0 where
  pub history_room : i.history.room ≡ i.limits.history
  pub pool_room : i.entries.room ≡ i.limits.window
  pub queue_room : i.limits.out ≤ deque_capacity i.queue
  -- the tags held are such as a frame may have
  pub tags : (t : ℕ) → IsSome (maps.get i.entries.entries t) → t < 2 ^ 24
  -- the count is that of the entries
  pub counted : i.fresh ≡ fresh_in i.entries.entries
  -- each dispatch's answer, its recall, and the end of the session have their records kept
  pub records_kept : length i.history.records + (if i.closed then 0 else 1) + maps.len i.entries.entries + i.fresh
      ≤ i.limits.history
  -- each dispatch's recall has its place in the queue kept
  pub out_kept : deque_len i.queue + i.fresh ≤ i.limits.out
