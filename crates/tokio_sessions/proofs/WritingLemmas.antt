-- Steps of a writer in a row.
use Rattle.std.proofs.Common.{◌≡◌, ℕ, ◌+◌, ◌≤◌, List, [], ◌++◌, length, take, drop, sym, ap, subst, ◌⊎◌, ◌∙◌, arith, append-nil, append_assoc, length-append}
use Rattle.std.proofs.lemmas.List.{take-append-drop}
use Rattle.tokio.specs.Io.Moved.{Passes, PassesNothing, PassesInOrder}
use Rattle.mux_frame.specs.Views.{FrameView}
use Rattle.std.specs.declared.io.Error.{Error}
use Rattle.futures.specs.declared.task.Poll.{Poll}
use Rattle.futures.specs.declared.task.Poll.TheVariants.{Ready, Pending}
use Rattle.tokio_sessions.specs.declared.outlet.Outflow.{Outflow}
use Rattle.tokio_sessions.specs.declared.write_session.WriteEnd.{WriteEnd}
use Rattle.tokio_sessions.specs.declared.write_session.WriteEnd.TheVariants.{Done, Fault}
use Rattle.tokio_sessions.specs.declared.write_session.WriteSession.{WriteSession}
use Rattle.tokio_sessions.specs.Passing.{Hands, spelled}
use Rattle.tokio_sessions.specs.Unsent.{Unsent}
use Rattle.tokio_sessions.specs.Writing.{unsent, Sends, WriteEndsAfter}
use Rattle.tokio_sessions.proofs.ReadingLemmas.{spelled-append}

-- what was missing, two runs of frames and the bytes that they became
passed : (unsent0 frames1 bytes1 unsent1 frames2 bytes2 unsent2 : List ℕ)
    → unsent0 ++ frames1 ≡ bytes1 ++ unsent1 → unsent1 ++ frames2 ≡ bytes2 ++ unsent2
    → unsent0 ++ (frames1 ++ frames2) ≡ (bytes1 ++ bytes2) ++ unsent2
passed unsent0 frames1 bytes1 unsent1 frames2 bytes2 unsent2 first second =
    sym (append_assoc unsent0 frames1 frames2) ∙ ap (λ xs. xs ++ frames2) first ∙ append_assoc bytes1 unsent1 frames2
    ∙ ap (λ xs. bytes1 ++ xs) second ∙ sym (append_assoc bytes1 bytes2 unsent2)

-- an end's cause shows in the writer, the source and the buffer alone
pub WriteEnds_same : {W Q : Type 0} (fails : W → Error → Type 0) (is_full : W → Type 0) (is_ended : Q → Type 0) (answer : Poll WriteEnd) (mid new : WriteSession W Q)
    → new.writer ≡ mid.writer → new.source ≡ mid.source → new.buffer ≡ mid.buffer
    → WriteEndsAfter fails is_full is_ended answer mid → WriteEndsAfter fails is_full is_ended answer new
WriteEnds_same {W} {Q} fails is_full is_ended (Ready Done) mid new writer source buffer ends =
    (ap (λ (w : Outflow W). w.failed) writer ∙ ends.0, subst (λ (s : Q). is_ended s) (sym source) ends.1, ap (λ (b : Unsent). b.bytes) buffer ∙ ends.2)
WriteEnds_same {W} {Q} fails is_full is_ended (Ready Fault) mid new writer source buffer ends =
    (ap (λ (w : Outflow W). w.failed) writer ∙ ends.0, subst (λ (w : Outflow W). ((e : Error) × fails w.inner e) ⊎ is_full w.inner) (sym writer) ends.1)
WriteEnds_same {W} {Q} fails is_full is_ended Pending mid new writer source buffer ends = ends

-- the laws of the transport and of the source
pub record Laws {W Q : Type 0} (writes : Passes W) (gives : Hands Q) : Type 0 where
  pub writes_nothing : PassesNothing writes
  pub writes_in_order : PassesInOrder writes
  pub gives_nothing : (s : Q) → gives s [] s
  pub gives_in_order : (a : Q) (xs : List FrameView) (b : Q) (ys : List FrameView) (c : Q) → gives a xs b → gives b ys c → gives a (xs ++ ys) c

module _ {W Q : Type 0} {writes : Passes W} {gives : Hands Q} (laws : Laws writes gives) where
  -- nothing moved
  pub Sends_none : (n : ℕ) (old new : WriteSession W Q) → new.writer ≡ old.writer → new.source ≡ old.source → unsent new ≡ unsent old → Sends writes gives n old new
  Sends_none n old new writer source same = record {
    bytes = [];
    frames = [];
    given = rw source (laws.gives_nothing old.source);
    written = rw writer (laws.writes_nothing old.writer.inner);
    composes = append-nil (unsent old) ∙ sym same;
    few = omega arith;
  }

  -- some frames came, whose spellings joined the buffer
  pub Sends_given : (n : ℕ) (frames : List FrameView) (old new : WriteSession W Q) → new.writer ≡ old.writer
      → gives old.source frames new.source → length frames ≤ n → unsent new ≡ unsent old ++ spelled frames → Sends writes gives n old new
  Sends_given n frames old new writer given few joined = record {
    bytes = [];
    frames = frames;
    given = given;
    written = rw writer (laws.writes_nothing old.writer.inner);
    composes = sym joined;
    few = few;
  }

  -- some bytes went
  pub Sends_written : (n k : ℕ) (old new : WriteSession W Q) → writes old.writer.inner (take k (unsent old)) new.writer.inner
      → new.source ≡ old.source → unsent new ≡ drop k (unsent old) → Sends writes gives n old new
  Sends_written n k old new wrote source rest = record {
    bytes = take k (unsent old);
    frames = [];
    given = rw source (laws.gives_nothing old.source);
    written = wrote;
    composes = append-nil (unsent old) ∙ sym (ap (λ xs. take k (unsent old) ++ xs) rest ∙ take-append-drop k (unsent old));
    few = omega arith;
  }

  pub Sends_trans : (n m : ℕ) (a b c : WriteSession W Q) → Sends writes gives n a b → Sends writes gives m b c → Sends writes gives (n + m) a c
  Sends_trans n m a b c first second = record {
    bytes = first.bytes ++ second.bytes;
    frames = first.frames ++ second.frames;
    given = laws.gives_in_order a.source first.frames b.source second.frames c.source first.given second.given;
    written = laws.writes_in_order a.writer.inner first.bytes b.writer.inner second.bytes c.writer.inner first.written second.written;
    composes = ap (λ xs. unsent a ++ xs) (spelled-append first.frames second.frames)
        ∙ passed (unsent a) (spelled first.frames) first.bytes (unsent b) (spelled second.frames) second.bytes (unsent c) first.composes second.composes;
    few = omega (arith, length-append first.frames second.frames, first.few, second.few);
  }

  pub Sends_weaker : (n m : ℕ) (a b : WriteSession W Q) → n ≤ m → Sends writes gives n a b → Sends writes gives m a b
  Sends_weaker n m a b less moved = record {
    bytes = moved.bytes;
    frames = moved.frames;
    given = moved.given;
    written = moved.written;
    composes = moved.composes;
    few = omega (arith, less, moved.few);
  }

  -- the end that is told is no part of what moved
  pub Sends_end : (n : ℕ) (a b c : WriteSession W Q) → c.writer ≡ b.writer → c.source ≡ b.source → c.buffer ≡ b.buffer
      → Sends writes gives n a b → Sends writes gives n a c
  Sends_end n a b c writer source buffer moved = record {
    bytes = moved.bytes;
    frames = moved.frames;
    given = rw source moved.given;
    written = rw writer moved.written;
    composes = rw buffer moved.composes;
    few = moved.few;
  }
