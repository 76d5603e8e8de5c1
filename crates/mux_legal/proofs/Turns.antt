-- Asking and answering messages that take turns: both ends saw the same ones, but for one on its way.
use Rattle.std.proofs.Common.{length, ℕ, List, [], ◌∷◌, ◌++◌, ◌+◌, ◌≡◌, ◌≤◌, Bool, true, false, refl, sym, ◌∙◌, ap, arith}
use Rattle.std.specs.Prelude.{if◌then◌else◌}
use Rattle.mux_frame.specs.Spelling.{MuxFrame}
use Rattle.mux_model.specs.Lawful.{Way, ToServer, ToClient, Joint, Sends, Takes, with_message, sent_on, taken_on, IsStream, Said, at_client, at_server, went, count}

abbrev pub with_kept : Bool → Said → List Said → List Said
with_kept true s ss = s ∷ ss
with_kept false s ss = ss

abbrev said : Way → MuxFrame → Said
said w m = record { way = w; message = m }

-- the messages of a kind
abbrev pub those : (MuxFrame → Bool) → List MuxFrame → List MuxFrame
those p [] = []
those p (m ∷ ms) = with_message (p m) m (those p ms)

those-append : (p : MuxFrame → Bool) (a b : List MuxFrame) → those p (a ++ b) ≡ those p a ++ those p b
those-append p [] b = refl
those-append p (m ∷ a) b = by_test (p m) (those-append p a b)
  where
    by_test : (c : Bool) → those p (a ++ b) ≡ those p a ++ those p b → with_message c m (those p (a ++ b)) ≡ with_message c m (those p a) ++ those p b
    by_test true e = ap (λ ms. m ∷ ms) e
    by_test false e = e

length-plus : (a b : List MuxFrame) → length (a ++ b) ≡ length a + length b
length-plus [] b = omega arith
length-plus (m ∷ a) b = omega (arith, length-plus a b)

-- the one that is taken is the one on its way
next_is : (x : List MuxFrame) (a m : MuxFrame) (ms : List MuxFrame) → a ∷ ms ≡ x ++ m ∷ ms → a ≡ m
next_is [] a m ms e = cc
next_is (b ∷ x) a m ms e = absurd (omega (arith, ap length e, length-plus x (m ∷ ms)))

-- none is taken where none is on its way
none_next : (x : List MuxFrame) (m : MuxFrame) (all ms : List MuxFrame) → all ≡ ms → all ≡ x ++ m ∷ ms → ⊥
none_next x m all ms same e = omega (arith, ap length same, ap length e, length-plus x (m ∷ ms))

-- what was asked and answered, sent and taken, and what each end saw of it
pub data Phase (qs qt rs rt : List MuxFrame) (kc ks : List Said) : Type 0 where
  settled : qs ≡ qt → rs ≡ rt → kc ≡ ks → length rs ≤ length qs → length qs ≤ length rs + 1 → Phase qs qt rs rt kc ks
  ask_flies : (a : MuxFrame) → qs ≡ a ∷ qt → rs ≡ rt → kc ≡ said ToServer a ∷ ks → length qs ≡ length rs + 1 → Phase qs qt rs rt kc ks
  answer_flies : (r : MuxFrame) → qs ≡ qt → rs ≡ r ∷ rt → ks ≡ said ToClient r ∷ kc → length rs ≡ length qs → Phase qs qt rs rt kc ks

module _ {qs qt rs rt : List MuxFrame} {kc ks : List Said} (m : MuxFrame) where
  client_sends : (b : Bool) → (b ≡ true → length qs ≤ length rt) → Phase qs qt rs rt kc ks → Phase (with_message b m qs) qt rs rt (with_kept b (said ToServer m) kc) ks
  client_sends false h p = p
  client_sends true h (settled e f g l k) =
      ask_flies m (ap (λ ms. m ∷ ms) e) f (ap (λ ss. said ToServer m ∷ ss) g) (omega (arith, h refl, ap length f, l))
  client_sends true h (ask_flies a e f g l) = absurd (omega (arith, h refl, ap length f, l))
  client_sends true h (answer_flies r e f g l) = absurd (omega (arith, h refl, ap length f, l))

  server_sends : (b : Bool) → (b ≡ true → length rs + 1 ≤ length qt) → Phase qs qt rs rt kc ks → Phase qs qt (with_message b m rs) rt kc (with_kept b (said ToClient m) ks)
  server_sends false h p = p
  server_sends true h (settled e f g l k) =
      answer_flies m e (ap (λ ms. m ∷ ms) f) (ap (λ ss. said ToClient m ∷ ss) (sym g)) (omega (arith, h refl, ap length e, k))
  server_sends true h (ask_flies a e f g l) = absurd (omega (arith, h refl, ap length e, l))
  server_sends true h (answer_flies r e f g l) = absurd (omega (arith, h refl, ap length e, l))

  server_takes : (b : Bool) (x : List MuxFrame) → qs ≡ x ++ with_message b m qt → Phase qs qt rs rt kc ks → Phase qs (with_message b m qt) rs rt kc (with_kept b (said ToServer m) ks)
  server_takes false x h p = p
  server_takes true x h (settled e f g l k) = absurd (none_next x m qs qt e h)
  server_takes true x h (ask_flies a e f g l) =
      (let same : a ≡ m = next_is x a m qt (sym e ∙ h) in
      settled (e ∙ ap (λ n. n ∷ qt) same) f (g ∙ ap (λ n. said ToServer n ∷ ks) same) (omega (arith, l)) (omega (arith, l)))
  server_takes true x h (answer_flies r e f g l) = absurd (none_next x m qs qt e h)

  client_takes : (b : Bool) (x : List MuxFrame) → rs ≡ x ++ with_message b m rt → Phase qs qt rs rt kc ks → Phase qs qt rs (with_message b m rt) (with_kept b (said ToClient m) kc) ks
  client_takes false x h p = p
  client_takes true x h (settled e f g l k) = absurd (none_next x m rs rt f h)
  client_takes true x h (ask_flies a e f g l) = absurd (none_next x m rs rt f h)
  client_takes true x h (answer_flies r e f g l) =
      (let same : r ≡ m = next_is x r m rt (sym f ∙ h) in
      settled e (f ∙ ap (λ n. n ∷ rt) same) (sym (g ∙ ap (λ n. said ToClient n ∷ kc) same)) (omega (arith, l)) (omega (arith, l)))

count_step : (b : Bool) (m : MuxFrame) (c : ℕ) (ms : List MuxFrame) → c ≡ length ms → (if b then c + 1 else c) ≡ length (with_message b m ms)
count_step true m c ms e = omega (arith, e)
count_step false m c ms e = e

module _ (asks answers : MuxFrame → Bool) where
  -- what an end saw of asking and answering messages
  abbrev pub is_turn : Way → MuxFrame → Bool
  is_turn ToServer m = asks m
  is_turn ToClient m = answers m

  abbrev pub turns : List Said → List Said
  turns [] = []
  turns (s ∷ old) = with_kept (is_turn s.way s.message) s (turns old)

  -- asks only when all was answered; answers only what was asked
  abbrev pub AsksInTurn : List Said → Type 0
  AsksInTurn [] = Unit {0}
  AsksInTurn (s ∷ old) = (went ToServer asks s ≡ true → count (went ToServer asks) old ≤ count (went ToClient answers) old) × AsksInTurn old

  abbrev pub AnswersInTurn : List Said → Type 0
  AnswersInTurn [] = Unit {0}
  AnswersInTurn (s ∷ old) = (went ToClient answers s ≡ true → count (went ToClient answers) old + 1 ≤ count (went ToServer asks) old) × AnswersInTurn old

  asks_sent : (js : List Joint) → count (went ToServer asks) (at_client js) ≡ length (those asks (sent_on ToServer js))
  asks_sent [] = refl
  asks_sent (Sends ToServer m ∷ old) = count_step (asks m) m _ _ (asks_sent old)
  asks_sent (Sends ToClient m ∷ old) = asks_sent old
  asks_sent (Takes ToServer m ∷ old) = asks_sent old
  asks_sent (Takes ToClient m ∷ old) = asks_sent old

  answers_taken : (js : List Joint) → count (went ToClient answers) (at_client js) ≡ length (those answers (taken_on ToClient js))
  answers_taken [] = refl
  answers_taken (Sends ToServer m ∷ old) = answers_taken old
  answers_taken (Sends ToClient m ∷ old) = answers_taken old
  answers_taken (Takes ToServer m ∷ old) = answers_taken old
  answers_taken (Takes ToClient m ∷ old) = count_step (answers m) m _ _ (answers_taken old)

  asks_taken : (js : List Joint) → count (went ToServer asks) (at_server js) ≡ length (those asks (taken_on ToServer js))
  asks_taken [] = refl
  asks_taken (Sends ToServer m ∷ old) = asks_taken old
  asks_taken (Sends ToClient m ∷ old) = asks_taken old
  asks_taken (Takes ToServer m ∷ old) = count_step (asks m) m _ _ (asks_taken old)
  asks_taken (Takes ToClient m ∷ old) = asks_taken old

  answers_sent : (js : List Joint) → count (went ToClient answers) (at_server js) ≡ length (those answers (sent_on ToClient js))
  answers_sent [] = refl
  answers_sent (Sends ToServer m ∷ old) = answers_sent old
  answers_sent (Sends ToClient m ∷ old) = count_step (answers m) m _ _ (answers_sent old)
  answers_sent (Takes ToServer m ∷ old) = answers_sent old
  answers_sent (Takes ToClient m ∷ old) = answers_sent old

  abbrev pub PhaseOf : List Joint → Type 0
  PhaseOf js =
      Phase (those asks (sent_on ToServer js)) (those asks (taken_on ToServer js)) (those answers (sent_on ToClient js)) (those answers (taken_on ToClient js))
      (turns (at_client js)) (turns (at_server js))

  -- THE TURNS: at each place one message qt most is on its way
  pub take_turns : (js : List Joint) → IsStream js → AsksInTurn (at_client js) → AnswersInTurn (at_server js) → PhaseOf js
  take_turns [] st c s = settled refl refl refl (omega arith) (omega arith)
  take_turns (Sends ToServer m ∷ old) st c s =
      client_sends m (asks m) (λ h. omega (arith, c.0 h, asks_sent old, answers_taken old)) (take_turns old st.1 c.1 s)
  take_turns (Sends ToClient m ∷ old) st c s =
      server_sends m (answers m) (λ h. omega (arith, s.0 h, answers_sent old, asks_taken old)) (take_turns old st.1 c s.1)
  take_turns (Takes ToServer m ∷ old) st c s =
      (let p = st.0 ToServer in
      server_takes m (asks m) (those asks p.0) (ap (those asks) p.1 ∙ those-append asks p.0 (m ∷ taken_on ToServer old)) (take_turns old st.1 c s.1))
  take_turns (Takes ToClient m ∷ old) st c s =
      (let p = st.0 ToClient in
      client_takes m (answers m) (those answers p.0) (ap (those answers) p.1 ∙ those-append answers p.0 (m ∷ taken_on ToClient old)) (take_turns old st.1 c.1 s))
