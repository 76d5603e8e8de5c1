-- Turns of a reader in a row.
use Rattle.std.proofs.Common.{Some, None, inl, inr, ◌⊎◌, ◌≡◌, ℕ, ◌+◌, ◌≤◌, List, [], ◌∷◌, ◌++◌, length, Bool, refl, sym, ap, ◌∙◌, arith, append-nil, append_assoc, length-append}
use Rattle.std.specs.declared.io.Error.{Error}
use Rattle.std.proofs.lemmas.Grind.{flat_map-append}
use Rattle.tokio.specs.Io.Moved.{Passes, PassesNothing, PassesInOrder}
use Rattle.futures.specs.Poll.{IfReady}
use Rattle.futures.specs.declared.task.Poll.{Poll}
use Rattle.futures.specs.declared.task.Poll.TheVariants.{Ready, Pending}
use Rattle.mux_frame.specs.declared.fault.FrameFault.{FrameFault}
use Rattle.mux_frame.specs.declared.fault.FrameFault.TheVariants.{TooLarge, TooShort, Truncated, Read, Memory}
use Rattle.mux_frame.specs.Views.{FrameView}
use Rattle.mux_frame.specs.Spelling.{spelling}
use Rattle.tokio_sessions.specs.declared.read_session.ReadEnd.{ReadEnd}
use Rattle.tokio_sessions.specs.declared.read_session.ReadEnd.TheVariants.{End, Fault, Stopped}
use Rattle.tokio_sessions.specs.declared.read_session.ReadSession.{ReadSession}
use Rattle.tokio_sessions.specs.Passing.{Hands, spelled}
use Rattle.tokio_sessions.specs.Reading.{held, Moves, HasFault, HasCause, PollsTo, Since}

pub spelled-append : (fs gs : List FrameView) → spelled (fs ++ gs) ≡ spelled fs ++ spelled gs
spelled-append fs gs = flat_map-append (λ f. spelling f.frame) fs gs

pub spelled-one : (fs : List FrameView) (f : FrameView) → spelled (fs ++ f ∷ []) ≡ spelled fs ++ spelling f.frame
spelled-one fs f = spelled-append fs (f ∷ []) ∙ ap (λ xs. spelled fs ++ xs) (append-nil (spelling f.frame))

-- what was held, then two runs of bytes
joined : (held0 bytes1 frames1 held1 bytes2 rest : List ℕ)
    → held0 ++ bytes1 ≡ frames1 ++ held1 → (frames2 : List ℕ) → held1 ++ bytes2 ≡ frames2 ++ rest
    → held0 ++ (bytes1 ++ bytes2) ≡ (frames1 ++ frames2) ++ rest
joined held0 bytes1 frames1 held1 bytes2 rest first frames2 second =
    sym (append_assoc held0 bytes1 bytes2) ∙ ap (λ xs. xs ++ bytes2) first ∙ append_assoc frames1 held1 bytes2
    ∙ ap (λ xs. frames1 ++ xs) second ∙ sym (append_assoc frames1 frames2 rest)

-- a fault shows in the reader and in the bytes alone
HasFault_same : {R S : Type 0} (is_at_end : R → Type 0) (fails : R → Error → Type 0) (fault : FrameFault) (mid new : ReadSession R S)
    → new.reader ≡ mid.reader → new.buffer ≡ mid.buffer → new.max_frame ≡ mid.max_frame
    → HasFault is_at_end fails fault mid → HasFault is_at_end fails fault new
HasFault_same is_at_end fails TooLarge mid new reader buffer max_frame has = rw (buffer, max_frame) has
HasFault_same is_at_end fails TooShort mid new reader buffer max_frame has = rw (buffer) has
HasFault_same is_at_end fails Truncated mid new reader buffer max_frame has = rw (reader, buffer, max_frame) has
HasFault_same is_at_end fails Read mid new reader buffer max_frame has = rw reader has
HasFault_same is_at_end fails Memory mid new reader buffer max_frame has = has

-- so does the cause of an answer, whatever the sink did when it was flushed
HasCause_flushed : {R S : Type 0} (is_at_end : R → Type 0) (fails : R → Error → Type 0) (refuses : S → Type 0) (answer : Poll ReadEnd) (lost : List FrameView) (mid new : ReadSession R S)
    → new.reader ≡ mid.reader → new.buffer ≡ mid.buffer → new.kept ≡ mid.kept → new.max_frame ≡ mid.max_frame → new.sink.refused ≡ mid.sink.refused → (refuses mid.sink.inner → refuses new.sink.inner)
    → HasCause is_at_end fails refuses answer lost mid → HasCause is_at_end fails refuses answer lost new
HasCause_flushed is_at_end fails refuses (Ready End) lost mid new reader buffer kept max_frame refused stop cause = (cause.0, rw reader cause.1, rw (kept, buffer) cause.2, refused ∙ cause.3)
HasCause_flushed is_at_end fails refuses (Ready (Fault fault)) lost mid new reader buffer kept max_frame refused stop cause =
    (cause.0, kept ∙ cause.1, HasFault_same is_at_end fails fault mid new reader buffer max_frame cause.2, refused ∙ cause.3)
HasCause_flushed is_at_end fails refuses (Ready Stopped) lost mid new reader buffer kept max_frame refused stop cause = (cause.0, stop cause.1, refused ∙ cause.2)
HasCause_flushed is_at_end fails refuses Pending lost mid new reader buffer kept max_frame refused stop cause = cause

-- the laws of the transport and of the sink
pub record Laws {R S : Type 0} (reads : Passes R) (takes : Hands S) : Type 0 where
  pub reads_nothing : PassesNothing reads
  pub reads_in_order : PassesInOrder reads
  pub takes_nothing : (s : S) → takes s [] s
  pub takes_in_order : (a : S) (xs : List FrameView) (b : S) (ys : List FrameView) (c : S) → takes a xs b → takes b ys c → takes a (xs ++ ys) c

module _ {R S : Type 0} {reads : Passes R} {takes : Hands S} (laws : Laws reads takes) where
  -- nothing moved
  pub Moves_none : (n : ℕ) (old new : ReadSession R S) → new.reader ≡ old.reader → new.sink ≡ old.sink → held new ≡ held old → Moves reads takes n [] old new
  Moves_none n old new reader sink same = record {
    bytes = [];
    frames = [];
    read = rw reader (laws.reads_nothing old.reader);
    taken = rw sink (laws.takes_nothing old.sink.inner);
    composes = append-nil (held old) ∙ sym same;
    few = omega arith;
  }

  -- a frame was offered, which the sink took, gave back or lost
  pub Moves_offered : (n : ℕ) (taken lost : List FrameView) (old new : ReadSession R S) → new.reader ≡ old.reader
      → takes old.sink.inner taken new.sink.inner → length taken ≤ n
      → held old ≡ spelled taken ++ (spelled lost ++ held new) → Moves reads takes n lost old new
  Moves_offered n taken lost old new reader took few composes = record {
    bytes = [];
    frames = taken;
    read = rw reader (laws.reads_nothing old.reader);
    taken = took;
    composes = append-nil (held old) ∙ composes;
    few = few;
  }

  -- frames were taken together off the front of what was read, where none was put off
  pub Moves_run : (count : ℕ) (frames : List FrameView) (old new : ReadSession R S) → new.reader ≡ old.reader
      → old.kept ≡ None → new.kept ≡ None → takes old.sink.inner frames new.sink.inner → length frames ≡ count
      → old.buffer ≡ spelled frames ++ new.buffer → Moves reads takes count [] old new
  Moves_run count frames old new reader none_before none_after took counted cut =
      Moves_offered count frames [] old new reader took (omega (arith, counted)) (rw (none_before, none_after) cut)

  pub Moves_trans : (n m : ℕ) (lost : List FrameView) (a b c : ReadSession R S)
      → Moves reads takes n [] a b → Moves reads takes m lost b c → Moves reads takes (n + m) lost a c
  Moves_trans n m lost a b c first second = record {
    bytes = first.bytes ++ second.bytes;
    frames = first.frames ++ second.frames;
    read = laws.reads_in_order a.reader first.bytes b.reader second.bytes c.reader first.read second.read;
    taken = laws.takes_in_order a.sink.inner first.frames b.sink.inner second.frames c.sink.inner first.taken second.taken;
    composes = joined (held a) first.bytes (spelled first.frames) (held b) second.bytes (spelled lost ++ held c) first.composes (spelled second.frames) second.composes
        ∙ ap (λ xs. xs ++ (spelled lost ++ held c)) (sym (spelled-append first.frames second.frames));
    few = omega (arith, length-append first.frames second.frames, first.few, second.few);
  }

  pub Moves_weaker : (n m : ℕ) (lost : List FrameView) (a b : ReadSession R S) → n ≤ m → Moves reads takes n lost a b → Moves reads takes m lost a b
  Moves_weaker n m lost a b less moved = record {
    bytes = moved.bytes;
    frames = moved.frames;
    read = moved.read;
    taken = moved.taken;
    composes = moved.composes;
    few = omega (arith, less, moved.few);
  }

  -- a flush of the sink passes no frame
  pub Moves_flushed : (n : ℕ) (lost : List FrameView) (a b c : ReadSession R S) → Moves reads takes n lost a b → takes b.sink.inner [] c.sink.inner
      → c.reader ≡ b.reader → c.buffer ≡ b.buffer → c.kept ≡ b.kept → Moves reads takes n lost a c
  Moves_flushed n lost a b c moved flushed reader buffer kept = record {
    bytes = moved.bytes;
    frames = moved.frames;
    read = rw reader moved.read;
    taken = rw (sym (append-nil moved.frames)) (laws.takes_in_order a.sink.inner moved.frames b.sink.inner [] c.sink.inner moved.taken flushed);
    composes = rw (buffer, kept) moved.composes;
    few = moved.few;
  }

  -- what a poll loses, its end tells
  lost_by : (is_at_end : R → Type 0) (fails : R → Error → Type 0) (refuses : S → Type 0) (answer : Poll ReadEnd) (lost : List FrameView) (new : ReadSession R S)
      → HasCause is_at_end fails refuses answer lost new → IfReady answer (λ e. new.end ≡ Some e)
      → (lost ≡ []) ⊎ ((new.end ≡ Some Stopped) × (length lost ≡ 1))
  lost_by is_at_end fails refuses (Ready End) lost new cause told = inl cause.0
  lost_by is_at_end fails refuses (Ready (Fault fault)) lost new cause told = inl cause.0
  lost_by is_at_end fails refuses (Ready Stopped) lost new cause told = inr (told, cause.0)
  lost_by is_at_end fails refuses Pending lost new cause told = inl cause

  after : (is_at_end : R → Type 0) (fails : R → Error → Type 0) (refuses : S → Type 0) (says : S → Bool → Type 0) (m : ℕ) (old : ReadSession R S) (answer : Poll ReadEnd) (new : ReadSession R S)
      → PollsTo reads takes is_at_end fails refuses says m old answer new → IfReady answer (λ e. new.end ≡ Some e)
      → (lost : List FrameView) × Moves reads takes m lost old new × ((lost ≡ []) ⊎ ((new.end ≡ Some Stopped) × (length lost ≡ 1)))
  after is_at_end fails refuses says m old answer new (inl stopped) told =
      ([], Moves_weaker 0 m [] old new (omega arith) stopped.3, inl refl)
  after is_at_end fails refuses says m old answer new (inr turned) told =
      (turned.1.0, turned.1.1, lost_by is_at_end fails refuses answer turned.1.0 new turned.1.2 told)

  pub PollsTo_flushed : (is_at_end : R → Type 0) (fails : R → Error → Type 0) (refuses : S → Type 0) (says : S → Bool → Type 0) (n : ℕ) (old : ReadSession R S) (answer : Poll ReadEnd) (mid new : ReadSession R S)
      → takes mid.sink.inner [] new.sink.inner → new.sink.refused ≡ mid.sink.refused → (refuses mid.sink.inner → refuses new.sink.inner)
      → (new.reader ≡ mid.reader) × (new.buffer ≡ mid.buffer) × (new.kept ≡ mid.kept) × (new.max_frame ≡ mid.max_frame)
      → PollsTo reads takes is_at_end fails refuses says n old answer mid → PollsTo reads takes is_at_end fails refuses says n old answer new
  PollsTo_flushed is_at_end fails refuses says n old answer mid new flushed refused stop same (inl stopped) =
      inl (stopped.0, stopped.1, same.0 ∙ stopped.2, Moves_flushed 0 [] old mid new stopped.3 flushed same.0 same.1 same.2)
  PollsTo_flushed is_at_end fails refuses says n old answer mid new flushed refused stop same (inr turned) =
      inr (
        turned.0,
        (
          turned.1.0,
          Moves_flushed n turned.1.0 old mid new turned.1.1 flushed same.0 same.1 same.2,
          HasCause_flushed is_at_end fails refuses answer turned.1.0 mid new same.0 same.1 same.2 same.3 refused stop turned.1.2,
        ),
      )

  -- no poll that moves anything follows a loss
  pub Since_poll : (is_at_end : R → Type 0) (fails : R → Error → Type 0) (refuses : S → Type 0) (says : S → Bool → Type 0) (m : ℕ) (first old : ReadSession R S) (answer : Poll ReadEnd) (new : ReadSession R S)
      → Since reads takes first old → old.end ≡ None → PollsTo reads takes is_at_end fails refuses says m old answer new
      → IfReady answer (λ e. new.end ≡ Some e) → Since reads takes first new
  Since_poll is_at_end fails refuses says m first old answer new before still_open polls told =
      let moved = after is_at_end fails refuses says m old answer new polls told in
      elim before.3 [
        | inl none ↦ (before.0 + m, moved.0, Moves_trans before.0 m moved.0 first old new (rw (sym none) before.2) moved.1, moved.2)
        | inr stopped ↦ let was = stopped.0 in absurd cc
      ]
