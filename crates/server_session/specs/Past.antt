-- A session so far, as its list of steps tells it. No table, queue or flag is kept here.
use Rattle.std.specs.Prelude.{ℕ, ◌==◌, ◌||◌, Bool, false, if◌then◌else◌, List, [], ◌∷◌, ◌++◌, length, count_by, sum_by, Option, None, is_some}
use Rattle.std.specs.Option.{option_to_list}
use Rattle.mux_frame.specs.Spelling.{MuxFrame}
use Rattle.mux_history.specs.declared.name.Name.{Name}
use Rattle.mux_history.specs.declared.session.DrainState.{DrainState}
use Rattle.mux_history.specs.Bounds.{Bounds}
use Rattle.mux_history.specs.Readings.{has_ended, dispatches, is_fresh, drain_of, book, epoch_of, written, note_due, answer_due, is_noted, gave_recall, tag_of, same_name, names_of, is_took}
use Rattle.mux_model.specs.Entries.{Exchange}
use Rattle.mux_model.specs.Steps.{Call, Step, entries, records, queued}
use Rattle.mux_model.specs.Down.{DownSession, is_held, kept_for, left_of, noted_place, reason_of}

-- the session, its steps, the newest first, and the frames that were taken out of it, the oldest first
pub record Past : Type 0 where
  pub session : DownSession
  pub steps : List Step
  pub out : List MuxFrame

-- a session that is opened
abbrev pub begun : DownSession → Past
begun session = record { session = session; steps = []; out = [] }

-- the session after one more recorded call
abbrev pub add : Past → Call → Exchange → Past
add p call entry = record p { steps = record { call = call; entry = entry } ∷ p.steps }

-- the messages that a list has sent, the oldest first
abbrev pub sent_of : List Exchange → List MuxFrame
sent_of [] = []
sent_of (e ∷ old) = sent_of old ++ option_to_list e.sent

-- the message that a list sent last
abbrev pub last_sent : List Exchange → Option MuxFrame
last_sent [] = None
last_sent (e ∷ old) = if is_some e.sent then e.sent else last_sent old

abbrev pub is_among : Name → List Name → Bool
is_among n [] = false
is_among n (m ∷ ms) = same_name m n || is_among n ms

-- what is due of a dispatch and known of it, by its name; the reason counts until the recall has carried it
pub record Words : Type 0 where
  -- it was taken since the session was last sealed
  pub taken : Bool
  pub tag : ℕ
  pub answer : Bool
  pub note : Bool
  pub noted : Bool
  pub place : Option (ℕ × ℕ)
  pub recalled : Bool
  pub left : ℕ
  pub why : List ℕ

abbrev pub words_of : DownSession → List Step → Name → Words
words_of c past n = record {
  taken = is_among n (names_of is_took (records past));
  tag = tag_of n (records past);
  answer = answer_due n (records past);
  note = note_due n (records past);
  noted = is_noted n (records past);
  place = noted_place n past;
  recalled = gave_recall n (records past);
  left = left_of c.limits n (records past);
  why = if gave_recall n (records past) then [] else reason_of n (entries past);
}

-- THE FIGURES by which a session decides
pub record Figures : Type 0 where
  pub limits : Bounds
  pub closed : Bool
  pub fresh : Bool
  pub drain : DrainState
  pub dispatches : ℕ
  -- the number of the present epoch, and the records of the present history
  pub epoch : ℕ
  pub records : ℕ
  pub queued : ℕ
  -- the dispatches that wait for a note or an answer, those of them that are open, and the records that are kept for
  -- all of them
  pub load : ℕ
  pub in_use : ℕ
  pub kept : ℕ

abbrev pub figures_of : Past → Figures
figures_of p = record {
  limits = p.session.limits;
  closed = has_ended (records p.steps);
  fresh = is_fresh (records p.steps);
  drain = drain_of (records p.steps);
  dispatches = dispatches (records p.steps);
  epoch = epoch_of (records p.steps);
  records = length (written (records p.steps));
  queued = queued (entries p.steps) (length p.out);
  load = length (book (records p.steps));
  in_use = count_by (λ n. is_held p.session n p.steps) (book (records p.steps));
  kept = sum_by (kept_for p.session.limits (λ n. is_held p.session n p.steps) (records p.steps))
      (book (records p.steps));
}

-- the last of the frames that are queued
abbrev pub last_queued : Past → Option MuxFrame
last_queued p = if queued (entries p.steps) (length p.out) == 0 then None else last_sent (entries p.steps)
