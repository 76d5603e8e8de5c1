-- Turns of a connection in a row.
use Rattle.std.proofs.Common.{◌≡◌, inl, inr, ℕ, ◌+◌, ◌≤◌, List, [], ◌∷◌, ◌++◌, length, flat_map, All, Option, take, drop, take-append-drop, Ok, Err, String, Global, string_bytes, refl, sym, ap, ◌∙◌, subst, subst₂, arith, append-nil, append_assoc, length-append}
use Rattle.std.proofs.lemmas.Bool.{cases_Bool}
use Rattle.std.proofs.lemmas.Grind.{flat_map-append}
use Rattle.std.proofs.lemmas.List.{map-append, nil_from_length}
use Rattle.std.proofs.lemmas.List.Elements.{All-append, All-cons, All-nil}
use Rattle.tokio.specs.Io.Moved.{Passes, PassesNothing, PassesInOrder, AppendsRead}
use Rattle.tokio_util.specs.declared.codec.lines_codec.LinesCodec.{LinesCodec}
use Rattle.tokio_util.specs.declared.codec.lines_codec.LinesCodecError.{LinesCodecError}
use Rattle.tokio_util.specs.Codec.Next.{decoded, partial, Resumes}
use Rattle.tokio_util.specs.Codec.Lines.{gives_lines, at_line_start, without_carriage_return}
use Rattle.tokio_util.proofs.CodecLemmas.Next.{Resumes_refl, Resumes_trans, Resumes-append, Resumes_now}
use Rattle.line_session.specs.declared.session.LineEnd.{LineEnd}
use Rattle.line_session.specs.declared.session.LineSession.{LineSession}
use Rattle.line_session.specs.declared.step.Stage.{Stage}
use Rattle.line_session.specs.declared.step.Stage.TheVariants.{Open, Leaving, Refusing, Draining}
use Rattle.line_session.specs.Answering.{Answered, Serves}
use Rattle.line_session.specs.Lines.{IsLine, with_line_feed, Refusal, too_long, no_text, no_memory, Event, answered, refused, line_of, done_by, told_by, refusal_text, IsPlain, Shows, IsRefused, Because}
use Rattle.line_session.specs.Talking.{Holds, Closes, LeadTo, Cut, Stands, Goes, IsRefusing, HoldsNoLine, stage_after}
use Rattle.line_session.proofs.LineLemmas.{finds_line, shows_fault, no_line}

All_one : {X : Type 0} (P : X → Type 0) (x : X) → P x → All P (x ∷ [])
All_one P x h = All-cons P x [] h (All-nil P)

-- what was unsent, two runs of texts and the bytes that they became
passed : (unsent0 told1 out1 unsent1 told2 out2 unsent2 : List ℕ)
    → unsent0 ++ told1 ≡ out1 ++ unsent1 → unsent1 ++ told2 ≡ out2 ++ unsent2
    → unsent0 ++ (told1 ++ told2) ≡ (out1 ++ out2) ++ unsent2
passed unsent0 told1 out1 unsent1 told2 out2 unsent2 first second =
    sym (append_assoc unsent0 told1 told2) ∙ ap (λ xs. xs ++ told2) first ∙ append_assoc out1 unsent1 told2
    ∙ ap (λ xs. out1 ++ xs) second ∙ sym (append_assoc out1 out2 unsent2)

-- what was refused stays so, whatever follows
Shows_more : (rest more : List ℕ) (why : Refusal) → Shows rest why → Shows (rest ++ more) why
Shows_more rest more too_long shows =
    (shows.0, shows.1 ++ more, ap (λ xs. xs ++ more) shows.2 ∙ append_assoc shows.0 shows.1 more, shows.3, shows.4)
Shows_more rest more no_text shows =
    (shows.0, shows.1 ++ more, ap (λ xs. xs ++ more) shows.2 ∙ append_assoc shows.0 (10 ∷ shows.1) more, shows.3, shows.4)
Shows_more rest more no_memory shows = tt

IsRefused_more : (rest more : List ℕ) (event : Event) → IsRefused rest event → IsRefused (rest ++ more) event
IsRefused_more rest more (answered a) is = is
IsRefused_more rest more (refused why) is = Shows_more rest more why is

Closes_more : (events : List Event) (rest more : List ℕ) → Closes (IsRefused rest) events → Closes (IsRefused (rest ++ more)) events
Closes_more events rest more closes =
    (closes.0, closes.1, closes.2, closes.3, IsRefused_more rest more closes.1 closes.4)

-- lines and a rest, and more bytes behind it
lined : (past : List ℕ) (lines : List (List ℕ)) (rest more : List ℕ) → past ≡ flat_map with_line_feed lines ++ rest
    → past ++ more ≡ flat_map with_line_feed lines ++ (rest ++ more)
lined past lines rest more cut =
    ap (λ xs. xs ++ more) cut ∙ append_assoc (flat_map with_line_feed lines) rest more

-- more bytes came, behind which the stage is led to as before
Cut_more : (past : List ℕ) (before : List Event) (stage stage' : Stage) (codec codec' : LinesCodec) (buffer buffer' more : List ℕ)
    → ((rest : List ℕ) → LeadTo stage before rest codec buffer → LeadTo stage' before (rest ++ more) codec' buffer')
    → Cut past before stage codec buffer → Cut (past ++ more) before stage' codec' buffer'
Cut_more past before stage stage' codec codec' buffer buffer' more leads was = record {
  lines = was.lines;
  rest = was.rest ++ more;
  whole = was.whole;
  cut = lined past was.lines was.rest more was.cut;
  texts = was.texts;
  lead = leads was.rest was.lead;
}

-- no event and no byte
Cut_same : (past : List ℕ) (before : List Event) (stage stage' : Stage) (codec codec' : LinesCodec) (buffer buffer' : List ℕ)
    → ((rest : List ℕ) → LeadTo stage before rest codec buffer → LeadTo stage' before rest codec' buffer')
    → Cut past before stage codec buffer → Cut past before stage' codec' buffer'
Cut_same past before stage stage' codec codec' buffer buffer' leads was = record {
  lines = was.lines;
  rest = was.rest;
  whole = was.whole;
  cut = was.cut;
  texts = was.texts;
  lead = leads was.rest was.lead;
}

-- a line was taken
Cut_line : (past : List ℕ) (before : List Event) (codec codec' : LinesCodec) (buffer buffer' : List ℕ) (t : String Global)
    (event : Event) (stage' : Stage)
    → gives_lines codec buffer (decoded (Ok t) codec' buffer') → line_of event ≡ string_bytes t ∷ []
    → ((rest : List ℕ) → All IsPlain before → Holds rest codec' buffer' → LeadTo stage' (before ++ (event ∷ [])) rest codec' buffer')
    → Cut past before Open codec buffer → Cut (past ++ []) (before ++ (event ∷ [])) stage' codec' buffer'
Cut_line past before codec codec' buffer buffer' t event stage' gives line leads was =
    let found = finds_line was.rest t codec' buffer' (Resumes_now gives_lines (at_line_start 1024) was.rest codec buffer (decoded (Ok t) codec' buffer') was.lead.1 gives) in
    let front = flat_map with_line_feed was.lines in
    record {
      lines = was.lines ++ (found.line ∷ []);
      rest = buffer';
      whole = All-append IsLine was.lines (found.line ∷ []) was.whole (All_one IsLine found.line found.is_line);
      cut = append-nil past ∙ was.cut ∙ ap (λ xs. flat_map with_line_feed was.lines ++ xs) found.cut
          ∙ sym (ap (λ xs. xs ++ buffer') (flat_map-append with_line_feed was.lines (found.line ∷ []) ∙ ap (λ xs. front ++ xs) (append-nil (with_line_feed found.line)))
          ∙ append_assoc front (with_line_feed found.line) buffer' ∙ ap (λ xs. front ++ xs) (append_assoc found.line (10 ∷ []) buffer'));
      texts = flat_map-append line_of before (event ∷ [])
          ∙ ap (λ ts. flat_map line_of before ++ ts) (append-nil (line_of event) ∙ line ∙ ap (λ text. text ∷ []) found.text_is)
          ∙ ap (λ ts. ts ++ (without_carriage_return found.line ∷ [])) was.texts
          ∙ sym (map-append without_carriage_return was.lines (found.line ∷ []));
      lead = leads buffer' was.lead.0 (subst (λ c. Holds buffer' c buffer') (sym found.starts) (Resumes_refl gives_lines (at_line_start 1024) buffer'));
    }

-- a line was refused
Cut_refused : (past : List ℕ) (before : List Event) (codec codec' : LinesCodec) (buffer buffer' : List ℕ) (e : LinesCodecError) (why : Refusal)
    → gives_lines codec buffer (decoded (Err e) codec' buffer') → Because e why
    → Cut past before Open codec buffer → Cut (past ++ []) (before ++ (refused why ∷ [])) Refusing codec' buffer'
Cut_refused past before codec codec' buffer buffer' e why gives because was =
    let shows = shows_fault was.rest e codec' buffer' (Resumes_now gives_lines (at_line_start 1024) was.rest codec buffer (decoded (Err e) codec' buffer') was.lead.1 gives) why because in
    record {
      lines = was.lines;
      rest = was.rest;
      whole = was.whole;
      cut = append-nil past ∙ was.cut;
      texts = flat_map-append line_of before (refused why ∷ []) ∙ append-nil (flat_map line_of before) ∙ was.texts;
      lead = (before, refused why, refl, was.lead.0, shows);
    }

-- a read found no memory
Cut_no_memory : (past : List ℕ) (before : List Event) (codec codec' : LinesCodec) (buffer buffer' : List ℕ)
    → Cut past before Open codec buffer → Cut (past ++ []) (before ++ (refused no_memory ∷ [])) Refusing codec' buffer'
Cut_no_memory past before codec codec' buffer buffer' was = record {
  lines = was.lines;
  rest = was.rest;
  whole = was.whole;
  cut = append-nil past ∙ was.cut;
  texts = flat_map-append line_of before (refused no_memory ∷ []) ∙ append-nil (flat_map line_of before) ∙ was.texts;
  lead = (before, refused no_memory, refl, was.lead.0, tt);
}

-- more bytes came, and nothing else
LeadTo_more : (stage : Stage) (before : List Event) (rest more : List ℕ) (codec : LinesCodec) (buffer : List ℕ)
    → LeadTo stage before rest codec buffer → LeadTo stage before (rest ++ more) codec (buffer ++ more)
LeadTo_more Open before rest more codec buffer lead =
    (lead.0, Resumes-append gives_lines (at_line_start 1024) rest codec buffer more lead.1)
LeadTo_more Leaving before rest more codec buffer lead = lead
LeadTo_more Refusing before rest more codec buffer lead = Closes_more before rest more lead
LeadTo_more (Draining left) before rest more codec buffer lead = Closes_more before rest more lead

-- the codec looked for a line
LeadTo_resumes : (stage : Stage) (before : List Event) (rest : List ℕ) (codec codec' : LinesCodec) (buffer buffer' : List ℕ)
    → Resumes gives_lines codec buffer codec' buffer'
    → LeadTo stage before rest codec buffer → LeadTo stage before rest codec' buffer'
LeadTo_resumes Open before rest codec codec' buffer buffer' resumes lead =
    (lead.0, Resumes_trans gives_lines (at_line_start 1024) rest codec buffer codec' buffer' lead.1 resumes)
LeadTo_resumes Leaving before rest codec codec' buffer buffer' resumes lead = lead
LeadTo_resumes Refusing before rest codec codec' buffer buffer' resumes lead = lead
LeadTo_resumes (Draining left) before rest codec codec' buffer buffer' resumes lead = lead

closed_more : (stage : Stage) (before : List Event) (rest more : List ℕ) (codec : LinesCodec) (buffer : List ℕ)
    → Closes (IsRefused rest) before → IsRefusing stage → LeadTo stage before (rest ++ more) codec buffer
closed_more Open before rest more codec buffer closes refusing = absurd refusing
closed_more Leaving before rest more codec buffer closes refusing = absurd refusing
closed_more Refusing before rest more codec buffer closes refusing = Closes_more before rest more closes
closed_more (Draining left) before rest more codec buffer closes refusing = Closes_more before rest more closes

-- behind a refusal the buffer is of no account
LeadTo_refusing : (stage stage' : Stage) (before : List Event) (rest more : List ℕ) (codec codec' : LinesCodec) (buffer buffer' : List ℕ)
    → IsRefusing stage → IsRefusing stage' → LeadTo stage before rest codec buffer → LeadTo stage' before (rest ++ more) codec' buffer'
LeadTo_refusing Open stage' before rest more codec codec' buffer buffer' refusing refusing' lead = absurd refusing
LeadTo_refusing Leaving stage' before rest more codec codec' buffer buffer' refusing refusing' lead = absurd refusing
LeadTo_refusing Refusing stage' before rest more codec codec' buffer buffer' refusing refusing' lead =
    closed_more stage' before rest more codec' buffer' lead refusing'
LeadTo_refusing (Draining left) stage' before rest more codec codec' buffer buffer' refusing refusing' lead =
    closed_more stage' before rest more codec' buffer' lead refusing'

LeadTo_at : (stage stage' : Stage) (before : List Event) (rest : List ℕ) (codec codec' : LinesCodec) (buffer buffer' : List ℕ)
    → stage' ≡ stage → codec' ≡ codec → buffer' ≡ buffer
    → LeadTo stage before rest codec buffer → LeadTo stage' before rest codec' buffer'
LeadTo_at stage stage' before rest codec codec' buffer buffer' same_stage same_codec same_buffer lead =
    subst (λ s. LeadTo s before rest codec' buffer') (sym same_stage)
    (subst₂ (λ c b. LeadTo stage before rest c b) (sym same_codec) (sym same_buffer) lead)

-- behind a line that was taken
LeadTo_line : (a : Answered) (stage' : Stage) → stage' ≡ stage_after a.is_last Open
    → (before : List Event) (rest : List ℕ) (codec : LinesCodec) (buffer : List ℕ)
    → All IsPlain before → Holds rest codec buffer → LeadTo stage' (before ++ (answered a ∷ [])) rest codec buffer
LeadTo_line a stage' stage before rest codec buffer plains holds =
    subst (λ s. LeadTo s (before ++ (answered a ∷ [])) rest codec buffer) (sym stage) (elim (cases_Bool a.is_last) [
      | inl last ↦ subst (λ b. LeadTo (stage_after b Open) (before ++ (answered a ∷ [])) rest codec buffer) (sym last)
          (before, answered a, refl, plains, last)
      | inr more ↦ subst (λ b. LeadTo (stage_after b Open) (before ++ (answered a ∷ [])) rest codec buffer) (sym more)
          (All-append IsPlain before (answered a ∷ []) plains (All_one IsPlain (answered a) more), holds)
    ])

-- where the codec finds no line and no byte came, none is held
pub no_line_held : (codec : LinesCodec) (buffer buffer' more : List ℕ) → gives_lines codec buffer partial
    → buffer' ≡ buffer ++ more → length more ≡ 0 → HoldsNoLine codec buffer'
no_line_held codec buffer buffer' more none joined empty = λ rest holds.
    no_line rest (Resumes_now gives_lines (at_line_start 1024) rest codec buffer' partial holds
    (subst (λ b. gives_lines codec b partial) (sym (joined ∙ ap (λ xs. buffer ++ xs) (nil_from_length more empty) ∙ append-nil buffer)) none))

-- the laws of the transport and of who answers
pub record Laws {R W A : Type 0} (reads : Passes R) (writes : Passes W) (answers : Serves A) : Type 0 where
  pub reads_nothing : PassesNothing reads
  pub reads_in_order : PassesInOrder reads
  pub writes_nothing : PassesNothing writes
  pub writes_in_order : PassesInOrder writes
  pub answers_nothing : (s : A) → answers s [] s
  pub answers_in_order : (a : A) (xs : List Answered) (b : A) (ys : List Answered) (c : A) → answers a xs b → answers b ys c
      → answers a (xs ++ ys) c

module _ {R W A : Type 0} {reads : Passes R} {writes : Passes W} {answers : Serves A} (laws : Laws reads writes answers) where
  pub Goes_trans : (n m : ℕ) (a b c : LineSession R W A) → Goes reads writes answers n a b → Goes reads writes answers m b c
      → Goes reads writes answers (n + m) a c
  Goes_trans n m a b c first second = record {
    bytes = first.bytes ++ second.bytes;
    events = first.events ++ second.events;
    out = first.out ++ second.out;
    read = laws.reads_in_order a.reader first.bytes b.reader second.bytes c.reader first.read second.read;
    carried = subst (λ xs. answers a.answers xs c.answers) (sym (flat_map-append done_by first.events second.events))
        (laws.answers_in_order a.answers (flat_map done_by first.events) b.answers (flat_map done_by second.events) c.answers first.carried second.carried);
    wrote = laws.writes_in_order a.writer first.out b.writer second.out c.writer first.wrote second.wrote;
    owed = ap (λ xs. a.unsent ++ xs) (flat_map-append told_by first.events second.events)
        ∙ passed a.unsent (flat_map told_by first.events) first.out b.unsent (flat_map told_by second.events) second.out c.unsent first.owed second.owed;
    stands = λ past before was. subst₂ (λ xs es. Stands xs es c) (append_assoc past first.bytes second.bytes) (append_assoc before first.events second.events)
        (second.stands (past ++ first.bytes) (before ++ first.events) (first.stands past before was));
    few = omega (arith, length-append first.events second.events, first.few, second.few);
  }

  pub Goes_weaker : (n m : ℕ) (a b : LineSession R W A) → n ≤ m → Goes reads writes answers n a b → Goes reads writes answers m a b
  Goes_weaker n m a b less goes = record {
    bytes = goes.bytes;
    events = goes.events;
    out = goes.out;
    read = goes.read;
    carried = goes.carried;
    wrote = goes.wrote;
    owed = goes.owed;
    stands = goes.stands;
    few = omega (arith, less, goes.few);
  }

  -- bytes moved, and no event came about
  quiet : (n : ℕ) (bytes out : List ℕ) (old new : LineSession R W A) → reads old.reader bytes new.reader
      → writes old.writer out new.writer → new.answers ≡ old.answers → old.unsent ≡ out ++ new.unsent
      → ((past : List ℕ) (before : List Event) → Stands past before old → Stands (past ++ bytes) before new)
      → Goes reads writes answers n old new
  quiet n bytes out old new read wrote kept owed stands = record {
    bytes = bytes;
    events = [];
    out = out;
    read = read;
    carried = rw kept (laws.answers_nothing old.answers);
    wrote = wrote;
    owed = append-nil old.unsent ∙ owed;
    stands = λ past before was. subst (λ es. Stands (past ++ bytes) es new) (sym (append-nil before)) (stands past before was);
    few = omega arith;
  }

  -- one event came about
  happens : (event : Event) (old new : LineSession R W A) → new.reader ≡ old.reader → new.writer ≡ old.writer
      → answers old.answers (done_by event) new.answers → old.unsent ≡ [] → new.unsent ≡ told_by event
      → ((past : List ℕ) (before : List Event) → Stands past before old → Stands (past ++ []) (before ++ (event ∷ [])) new)
      → Goes reads writes answers 1 old new
  happens event old new reader writer carried none told stands = record {
    bytes = [];
    events = event ∷ [];
    out = [];
    read = rw reader (laws.reads_nothing old.reader);
    carried = subst (λ xs. answers old.answers xs new.answers) (sym (append-nil (done_by event))) carried;
    wrote = rw writer (laws.writes_nothing old.writer);
    owed = ap (λ xs. xs ++ (told_by event ++ [])) none ∙ append-nil (told_by event) ∙ sym told;
    stands = stands;
    few = omega arith;
  }

  -- no byte was read
  unread : (n : ℕ) (out : List ℕ) (old new : LineSession R W A) → new.reader ≡ old.reader
      → writes old.writer out new.writer → new.answers ≡ old.answers → old.unsent ≡ out ++ new.unsent
      → ((before : List Event) (rest : List ℕ) → LeadTo old.stage before rest old.codec old.buffer.items
      → LeadTo new.stage before rest new.codec new.buffer.items)
      → Goes reads writes answers n old new
  unread n out old new reader wrote kept owed leads =
      quiet n [] out old new (rw reader (laws.reads_nothing old.reader)) wrote kept owed
      (λ past before was. subst (λ xs. Stands xs before new) (sym (append-nil past))
      (Cut_same past before old.stage new.stage old.codec new.codec old.buffer.items new.buffer.items (leads before) was))

  pub Goes_still : (n : ℕ) (old new : LineSession R W A) → new.reader ≡ old.reader → new.writer ≡ old.writer → new.answers ≡ old.answers
      → new.codec ≡ old.codec → new.buffer ≡ old.buffer → new.unsent ≡ old.unsent → new.stage ≡ old.stage → Goes reads writes answers n old new
  Goes_still n old new reader writer kept codec buffer unsent stage =
      unread n [] old new reader (rw writer (laws.writes_nothing old.writer)) kept (sym unsent)
      (λ before rest lead. LeadTo_at old.stage new.stage before rest old.codec new.codec old.buffer.items new.buffer.items stage codec (ap (λ b. b.items) buffer) lead)

  -- the end and the count are no part of it
  pub Goes_noted : (n : ℕ) (old mid new : LineSession R W A) (end : Option LineEnd) (moved : ℕ)
      → new ≡ record mid { end = end; moved = moved } → Goes reads writes answers n old mid → Goes reads writes answers n old new
  Goes_noted n old mid new end moved same goes =
      Goes_weaker (n + 0) n old new (omega arith) (Goes_trans n 0 old mid new goes
      (Goes_still 0 mid new (ap (λ s. s.reader) same) (ap (λ s. s.writer) same) (ap (λ s. s.answers) same) (ap (λ s. s.codec) same)
      (ap (λ s. s.buffer) same) (ap (λ s. s.unsent) same) (ap (λ s. s.stage) same)))

  -- the codec found no whole line
  pub Goes_settled : (n : ℕ) (old new : LineSession R W A) → new.reader ≡ old.reader → new.writer ≡ old.writer → new.answers ≡ old.answers
      → new.unsent ≡ old.unsent → new.stage ≡ old.stage
      → Resumes gives_lines old.codec old.buffer.items new.codec new.buffer.items → Goes reads writes answers n old new
  Goes_settled n old new reader writer kept unsent stage resumes =
      unread n [] old new reader (rw writer (laws.writes_nothing old.writer)) kept (sym unsent)
      (λ before rest lead. subst (λ s. LeadTo s before rest new.codec new.buffer.items) (sym stage)
      (LeadTo_resumes old.stage before rest old.codec new.codec old.buffer.items new.buffer.items resumes lead))

  pub Goes_wrote : (n k : ℕ) (old new : LineSession R W A) → writes old.writer (take k old.unsent) new.writer → new.unsent ≡ drop k old.unsent
      → new.reader ≡ old.reader → new.answers ≡ old.answers → new.codec ≡ old.codec → new.buffer ≡ old.buffer → new.stage ≡ old.stage
      → Goes reads writes answers n old new
  Goes_wrote n k old new wrote unsent reader kept codec buffer stage =
      unread n (take k old.unsent) old new reader wrote kept
      (sym (ap (λ xs. take k old.unsent ++ xs) unsent ∙ take-append-drop k old.unsent))
      (λ before rest lead. LeadTo_at old.stage new.stage before rest old.codec new.codec old.buffer.items new.buffer.items stage codec (ap (λ b. b.items) buffer) lead)

  pub Goes_read : (n k : ℕ) (old new : LineSession R W A)
      → AppendsRead reads old.reader new.reader old.buffer.items new.buffer.items k
      → new.writer ≡ old.writer → new.answers ≡ old.answers → new.codec ≡ old.codec → new.unsent ≡ old.unsent → new.stage ≡ old.stage
      → Goes reads writes answers n old new
  Goes_read n k old new appended writer kept codec unsent stage =
      quiet n appended.0 [] old new appended.1 (rw writer (laws.writes_nothing old.writer)) kept (sym unsent)
      (λ past before was. Cut_more past before old.stage new.stage old.codec new.codec old.buffer.items new.buffer.items appended.0
      (λ rest lead. LeadTo_at old.stage new.stage before (rest ++ appended.0) old.codec new.codec (old.buffer.items ++ appended.0) new.buffer.items
      stage codec appended.2 (LeadTo_more old.stage before rest appended.0 old.codec old.buffer.items lead)) was)

  -- behind a refusal bytes are thrown away
  pub Goes_drained : (n k : ℕ) (buffer : List ℕ) (old new : LineSession R W A)
      → AppendsRead reads old.reader new.reader buffer new.buffer.items k → writes old.writer [] new.writer
      → new.answers ≡ old.answers → new.unsent ≡ old.unsent → IsRefusing old.stage → IsRefusing new.stage → Goes reads writes answers n old new
  Goes_drained n k buffer old new appended wrote kept unsent refusing refusing' =
      quiet n appended.0 [] old new appended.1 wrote kept (sym unsent)
      (λ past before was. Cut_more past before old.stage new.stage old.codec new.codec old.buffer.items new.buffer.items appended.0
      (λ rest lead. LeadTo_refusing old.stage new.stage before rest appended.0 old.codec new.codec old.buffer.items new.buffer.items refusing refusing' lead) was)

  -- so it is while the write half is shut down
  pub Goes_shut : (n : ℕ) (old new : LineSession R W A) → new.reader ≡ old.reader → writes old.writer [] new.writer
      → new.answers ≡ old.answers → new.unsent ≡ old.unsent → IsRefusing old.stage → IsRefusing new.stage → Goes reads writes answers n old new
  Goes_shut n old new reader wrote kept unsent refusing refusing' =
      quiet n [] [] old new (rw reader (laws.reads_nothing old.reader)) wrote kept (sym unsent)
      (λ past before was. Cut_more past before old.stage new.stage old.codec new.codec old.buffer.items new.buffer.items []
      (λ rest lead. LeadTo_refusing old.stage new.stage before rest [] old.codec new.codec old.buffer.items new.buffer.items refusing refusing' lead) was)

  -- a line was taken, and its answer is to be told
  pub Goes_line : (t : String Global) (a : Answered) (old new : LineSession R W A) → old.unsent ≡ [] → old.stage ≡ Open
      → new.reader ≡ old.reader → new.writer ≡ old.writer → gives_lines old.codec old.buffer.items (decoded (Ok t) new.codec new.buffer.items)
      → answers old.answers (a ∷ []) new.answers → a.line ≡ string_bytes t → new.unsent ≡ a.told → new.stage ≡ stage_after a.is_last Open
      → Goes reads writes answers 1 old new
  Goes_line t a old new none is_open reader writer gives done line told stage =
      happens (answered a) old new reader writer done none told
      (λ past before was. Cut_line past before old.codec new.codec old.buffer.items new.buffer.items t (answered a) new.stage gives
      (ap (λ text. text ∷ []) line)
      (λ rest plains holds. LeadTo_line a new.stage stage before rest new.codec new.buffer.items plains holds)
      (subst (λ s. Cut past before s old.codec old.buffer.items) is_open was))

  pub Goes_refused : (e : LinesCodecError) (why : Refusal) (old new : LineSession R W A) → old.unsent ≡ [] → old.stage ≡ Open
      → new.reader ≡ old.reader → new.writer ≡ old.writer → new.answers ≡ old.answers
      → gives_lines old.codec old.buffer.items (decoded (Err e) new.codec new.buffer.items) → Because e why
      → new.unsent ≡ refusal_text why → new.stage ≡ Refusing → Goes reads writes answers 1 old new
  Goes_refused e why old new none is_open reader writer kept gives because told stage =
      happens (refused why) old new reader writer (rw kept (laws.answers_nothing old.answers)) none told
      (λ past before was. subst (λ s. Cut (past ++ []) (before ++ (refused why ∷ [])) s new.codec new.buffer.items) (sym stage)
      (Cut_refused past before old.codec new.codec old.buffer.items new.buffer.items e why gives because
      (subst (λ s. Cut past before s old.codec old.buffer.items) is_open was)))

  -- a read found no memory
  pub Goes_no_memory : (old new : LineSession R W A) → old.unsent ≡ [] → old.stage ≡ Open
      → new ≡ record old { unsent = refusal_text no_memory; stage = Refusing } → Goes reads writes answers 1 old new
  Goes_no_memory old new none is_open same =
      happens (refused no_memory) old new (ap (λ s. s.reader) same) (ap (λ s. s.writer) same)
      (rw (ap (λ s. s.answers) same) (laws.answers_nothing old.answers)) none (ap (λ s. s.unsent) same)
      (λ past before was. subst (λ s. Cut (past ++ []) (before ++ (refused no_memory ∷ [])) s new.codec new.buffer.items) (sym (ap (λ s. s.stage) same))
      (Cut_no_memory past before old.codec new.codec old.buffer.items new.buffer.items
      (subst (λ s. Cut past before s old.codec old.buffer.items) is_open was)))
