-- What a `WriteSession` does with the frames that it takes.
use Rattle.std.specs.Prelude.{◌≡◌, ◌≢◌, ℕ, ◌≤◌, List, [], ◌++◌, length, true, false, ⊤, ◌⊎◌}
use Rattle.std.specs.declared.io.Error.{Error}
use Rattle.futures.specs.declared.task.Poll.{Poll}
use Rattle.futures.specs.declared.task.Poll.TheVariants.{Ready, Pending}
use Rattle.tokio.specs.Io.Moved.{Passes}
use Rattle.mux_frame.specs.Views.{FrameView}
use Rattle.tokio_sessions.specs.declared.write_session.WriteEnd.{WriteEnd}
use Rattle.tokio_sessions.specs.declared.write_session.WriteEnd.TheVariants.{Done, Fault}
use Rattle.tokio_sessions.specs.declared.write_session.WriteSession.{WriteSession}
use Rattle.tokio_sessions.specs.declared.write_session.Filled.{Filled}
use Rattle.tokio_sessions.specs.declared.write_session.Filled.TheVariants.{Waits, Ended, Full}
use Rattle.tokio_sessions.specs.declared.step.Step.{Step}
use Rattle.tokio_sessions.specs.declared.step.Step.TheVariants.{Again, Wait, Over}
use Rattle.tokio_sessions.specs.Passing.{Hands, spelled}

-- the bytes of the frames taken that are not written yet
abbrev pub unsent : {W Q : Type 0} → WriteSession W Q → List ℕ
unsent s = s.buffer.bytes

-- From one state to another the source gave at most n frames and the writer took some bytes: what was not written and
-- the spellings of the frames are the bytes that were written and what is not written yet.
pub record Sends {W Q : Type 0} (writes : Passes W) (gives : Hands Q) (n : ℕ) (old new : WriteSession W Q)
    : Type 0 where
  pub bytes : List ℕ
  pub frames : List FrameView
  pub given : gives old.source frames new.source
  pub written : writes old.writer.inner bytes new.writer.inner
  pub composes : unsent old ++ spelled frames ≡ bytes ++ unsent new
  pub few : length frames ≤ n

-- An end has its cause: the source has ended and nothing is missing, or a write failed or took nothing. An open session
-- has seen no such write, so it was in the poll that tells it.
abbrev pub WriteEndsFor : {W Q : Type 0} (fails : W → Error → Type 0) (is_full : W → Type 0) (is_ended : Q → Type 0)
    (end : WriteEnd) (new : WriteSession W Q) → Type 0
WriteEndsFor fails is_full is_ended Done new =
    (new.writer.failed ≡ false) × is_ended new.source × (unsent new ≡ [])
WriteEndsFor fails is_full is_ended Fault new =
    (new.writer.failed ≡ true) × (((e : Error) × fails new.writer.inner e) ⊎ is_full new.writer.inner)

abbrev pub WriteEndsAfter : {W Q : Type 0} (fails : W → Error → Type 0) (is_full : W → Type 0) (is_ended : Q → Type 0)
    (answer : Poll WriteEnd) (new : WriteSession W Q) → Type 0
WriteEndsAfter fails is_full is_ended (Ready end) new = WriteEndsFor fails is_full is_ended end new
WriteEndsAfter fails is_full is_ended Pending new = ⊤

-- the same of one write, which is never done
abbrev pub WriteTells : {W Q : Type 0} (fails : W → Error → Type 0) (is_full : W → Type 0) (step : Step WriteEnd)
    (new : WriteSession W Q) → Type 0
WriteTells fails is_full (Over end) new =
    (end ≡ Fault) × (new.writer.failed ≡ true)
    × (((e : Error) × fails new.writer.inner e) ⊎ is_full new.writer.inner)
WriteTells fails is_full Again new = ⊤
WriteTells fails is_full Wait new = ⊤

-- why no more frames are taken: the source waits or has ended, or the buffer is full
abbrev pub FilledTells : Filled → (waits ended full : Type 0) → Type 0
FilledTells Waits waits ended full = waits
FilledTells Ended waits ended full = ended
FilledTells Full waits ended full = full

-- What a session waits for: the writer while bytes are missing, and the source while none are, or while there is room
-- for more and the source hasn't ended.
abbrev pub writes_wait_for : {W Q : Type 0} (of_writer : W → ℕ → Type 0) (of_source : Q → ℕ → Type 0)
    (is_ended : Q → Type 0) → WriteSession W Q → ℕ → Type 0
writes_wait_for of_writer of_source is_ended s source =
    ((unsent s ≢ []) × of_writer s.writer.inner source)
    ⊎ (((unsent s ≡ []) ⊎ ((s.buffer.is_full ≡ false) × ¬ is_ended s.source)) × of_source s.source source)

-- From the first state on, over any number of polls: what was missing and the spellings of the frames given since
-- then are the bytes written since then, then what is missing now.
abbrev pub SentSince : {W Q : Type 0} (writes : Passes W) (gives : Hands Q) (first now : WriteSession W Q) → Type 0
SentSince writes gives first now = (n : ℕ) × Sends writes gives n first now
