-- Pairs by number: within one list no dispatch and no reply is paired twice, and messages of other kinds change nothing.
use Rattle.std.proofs.Common.{subst, ℕ, List, [], ◌∷◌, ◌+◌, ◌≡◌, ◌≤◌, ◌<◌, ◌⊎◌, ◌↔◌, inl, inr, Bool, true, false, Option, Some, None, refl, sym, ◌∙◌, ap, arith}
use Rattle.std.specs.Prelude.{if◌then◌else◌}
use Rattle.std.proofs.lemmas.Bool.{cases_Bool}
use Rattle.mux_frame.specs.Spelling.{MuxFrame}
use Rattle.mux_model.specs.Lawful.{Way, ToServer, ToClient, Said, went, is_dispatch_on, is_final_on, asks_on, ends_on, count, open_on, ArePaired}
use Rattle.mux_legal.proofs.Turns.{with_kept, Phase, settled, ask_flies, answer_flies, is_turn, turns}
use Rattle.std.proofs.lemmas.Option.{same_Some}

-- a dispatch isn't a final reply
apart : (t : ℕ) (s : Said) → asks_on t s ≡ true → ends_on t s ≡ true → ⊥
apart t s a e = by_way s.way a e
  where
    by_way : (w : Way) → went ToServer (is_dispatch_on t) (record { way = w; message = s.message }) ≡ true → went ToClient (is_final_on t) (record { way = w; message = s.message }) ≡ true → ⊥
    by_way ToServer a e = absurd (cc)
    by_way ToClient a e = absurd (cc)

-- the open dispatch, else how many there were
abbrev bound : Option ℕ → ℕ → ℕ
bound None n = n
bound (Some i) n = i

bound_few : (t : ℕ) (ss : List Said) → (i : ℕ) → open_on t ss ≡ Some i → i + 1 ≤ count (asks_on t) ss
bound_few t [] i o = absurd (cc)
bound_few t (s ∷ old) i o = by_test (bound_few t old i) (asks_on t s) (ends_on t s) o
  where
    by_test : (open_on t old ≡ Some i → i + 1 ≤ count (asks_on t) old) → (a b : Bool) → (if a then Some (count (asks_on t) old) else if b then None else open_on t old) ≡ Some i → i + 1 ≤ (if a then count (asks_on t) old + 1 else count (asks_on t) old)
    by_test found true b o = omega (arith, same_Some _ _ o)
    by_test found false true o = absurd (cc)
    by_test found false false o = found o

bound_most : (t : ℕ) (ss : List Said) → bound (open_on t ss) (count (asks_on t) ss) ≤ count (asks_on t) ss
bound_most t ss = by_open (open_on t ss) refl
  where
    by_open : (o : Option ℕ) → open_on t ss ≡ o → bound o (count (asks_on t) ss) ≤ count (asks_on t) ss
    by_open None e = omega arith
    by_open (Some i) e = omega (arith, bound_few t ss i e)

-- what was paired is before the open dispatch, and before the number of replies
paired_below : (t i j : ℕ) (ss : List Said) → ArePaired t i j ss → (i < bound (open_on t ss) (count (asks_on t) ss)) × (j < count (ends_on t) ss)
paired_below t i j [] p = absurd p
paired_below t i j (s ∷ old) (inl p) =
    by_asks (cases_Bool (asks_on t s))
  where
    below : i + 1 ≤ count (asks_on t) old
    below = bound_few t old i p.2

    by_asks : (asks_on t s ≡ true) ⊎ (asks_on t s ≡ false) → (i < bound (open_on t (s ∷ old)) (count (asks_on t) (s ∷ old))) × (j < count (ends_on t) (s ∷ old))
    by_asks (inl a) = absurd (apart t s a p.0)
    by_asks (inr a) = (by_test (asks_on t s) (ends_on t s) a p.0, by_end (ends_on t s) p.0)
      where
        by_test : (a b : Bool) → a ≡ false → b ≡ true → i < bound (if a then Some (count (asks_on t) old) else if b then None else open_on t old) (if a then count (asks_on t) old + 1 else count (asks_on t) old)
        by_test true b x y = absurd (cc)
        by_test false false x y = absurd (cc)
        by_test false true x y = omega (arith, below)

        by_end : (b : Bool) → b ≡ true → j < (if b then count (ends_on t) old + 1 else count (ends_on t) old)
        by_end true e = omega (arith, p.1)
        by_end false e = absurd (cc)
paired_below t i j (s ∷ old) (inr p) = (let below = paired_below t i j old p in (by_test below.0 (asks_on t s) (ends_on t s), by_end below.1 (ends_on t s)))
  where
    by_test : i < bound (open_on t old) (count (asks_on t) old) → (a b : Bool) → i < bound (if a then Some (count (asks_on t) old) else if b then None else open_on t old) (if a then count (asks_on t) old + 1 else count (asks_on t) old)
    by_test below true b = omega (arith, below, bound_most t old)
    by_test below false true = omega (arith, below, bound_most t old)
    by_test below false false = below

    by_end : j < count (ends_on t) old → (b : Bool) → j < (if b then count (ends_on t) old + 1 else count (ends_on t) old)
    by_end below true = omega (arith, below)
    by_end below false = below

apart_below : (i k n : ℕ) (o : Option ℕ) → o ≡ Some i → k < bound o n → i ≡ k → ⊥
apart_below i k n o e h same = (let x : k < i = subst (λ o. k < bound o n) e h in omega arith)

-- within one list
pub paired_once : (t i j k m : ℕ) (ss : List Said) → ArePaired t i j ss → ArePaired t k m ss → (i ≡ k) ↔ (j ≡ m)
paired_once t i j k m [] p q = absurd p
paired_once t i j k m (s ∷ old) (inl p) (inl q) = ((λ _. p.1 ∙ sym q.1), (λ _. same_Some i k (sym p.2 ∙ q.2)))
paired_once t i j k m (s ∷ old) (inl p) (inr q) =
    (let b = paired_below t k m old q in ((λ e. absurd (apart_below i k _ _ p.2 b.0 e)), (λ e. absurd (omega (arith, p.1, b.1)))))
paired_once t i j k m (s ∷ old) (inr p) (inl q) =
    (let b = paired_below t i j old p in ((λ e. absurd (apart_below k i _ _ q.2 b.0 (sym e))), (λ e. absurd (omega (arith, q.1, b.1)))))
paired_once t i j k m (s ∷ old) (inr p) (inr q) = paired_once t i j k m old p q

-- messages that aren't of these kinds change no pair
module _ (t : ℕ) (asks answers : MuxFrame → Bool) (all_asks : (f : MuxFrame) → is_dispatch_on t f ≡ true → asks f ≡ true) (all_answers : (f : MuxFrame) → is_final_on t f ≡ true → answers f ≡ true) where
  abbrev Turn : Said → Bool
  Turn s = is_turn asks answers s.way s.message

  dispatch_turn : (s : Said) → asks_on t s ≡ true → Turn s ≡ true
  dispatch_turn s h = by_way s.way h
    where
      by_way : (w : Way) → went ToServer (is_dispatch_on t) (record { way = w; message = s.message }) ≡ true → is_turn asks answers w s.message ≡ true
      by_way ToServer h = all_asks s.message h
      by_way ToClient h = absurd (cc)

  final_turn : (s : Said) → ends_on t s ≡ true → Turn s ≡ true
  final_turn s h = by_way s.way h
    where
      by_way : (w : Way) → went ToClient (is_final_on t) (record { way = w; message = s.message }) ≡ true → is_turn asks answers w s.message ≡ true
      by_way ToClient h = all_answers s.message h
      by_way ToServer h = absurd (cc)

  not_so : (a b : Bool) → (a ≡ true → b ≡ true) → b ≡ false → a ≡ false
  not_so true b h e = absurd (let x : false ≡ true = sym e ∙ h refl in cc)
  not_so false b h e = refl

  kept_count : (p : Said → Bool) → ((s : Said) → p s ≡ true → Turn s ≡ true) → (ss : List Said) → count p (turns asks answers ss) ≡ count p ss
  kept_count p all [] = refl
  kept_count p all (s ∷ old) = elim (cases_Bool (Turn s)) [
    | inl e ↦ ap (λ b. count p (with_kept b s (turns asks answers old))) e ∙ ap (λ n. if p s then n + 1 else n) (kept_count p all old)
    | inr e ↦ ap (λ b. count p (with_kept b s (turns asks answers old))) e ∙ (kept_count p all old ∙ sym (ap (λ b. if b then count p old + 1 else count p old) (not_so (p s) (Turn s) (all s) e)))
  ]

  kept_open : (ss : List Said) → open_on t (turns asks answers ss) ≡ open_on t ss
  kept_open [] = refl
  kept_open (s ∷ old) = elim (cases_Bool (Turn s)) [
    | inl e ↦ ap (λ b. open_on t (with_kept b s (turns asks answers old))) e
        ∙ (ap (λ n. if asks_on t s then Some n else if ends_on t s then None else open_on t (turns asks answers old)) (kept_count (asks_on t) dispatch_turn old)
        ∙ ap (λ o. if asks_on t s then Some (count (asks_on t) old) else if ends_on t s then None else o) (kept_open old))
    | inr e ↦ ap (λ b. open_on t (with_kept b s (turns asks answers old))) e
        ∙ (kept_open old
        ∙ sym (ap (λ b. if b then Some (count (asks_on t) old) else if ends_on t s then None else open_on t old) (not_so (asks_on t s) (Turn s) (dispatch_turn s) e)
        ∙ ap (λ b. if b then None else open_on t old) (not_so (ends_on t s) (Turn s) (final_turn s) e)))
  ]

  pub kept_pairs : (i j : ℕ) (ss : List Said) → ArePaired t i j ss → ArePaired t i j (turns asks answers ss)
  kept_pairs i j [] p = absurd p
  kept_pairs i j (s ∷ old) (inl p) =
      subst (λ b. ArePaired t i j (with_kept b s (turns asks answers old))) (sym (final_turn s p.0))
      (inl (p.0, p.1 ∙ sym (kept_count (ends_on t) final_turn old), kept_open old ∙ p.2))
  kept_pairs i j (s ∷ old) (inr p) = by_turn (kept_pairs i j old p) (Turn s)
    where
      by_turn : ArePaired t i j (turns asks answers old) → (b : Bool) → ArePaired t i j (with_kept b s (turns asks answers old))
      by_turn q true = inr q
      by_turn q false = q

  -- where ends take turns, they pair alike
  pub turns_agree : {qs qt rs rt : List MuxFrame} (client server : List Said) → Phase qs qt rs rt (turns asks answers client) (turns asks answers server) →
      (i j k m : ℕ) → ArePaired t i j client → ArePaired t k m server → (i ≡ k) ↔ (j ≡ m)
  turns_agree client server (settled e f g l h) i j k m p q =
      paired_once t i j k m (turns asks answers server) (subst (ArePaired t i j) g (kept_pairs i j client p)) (kept_pairs k m server q)
  turns_agree client server (ask_flies a e f g l) i j k m p q =
      paired_once t i j k m (record { way = ToServer; message = a } ∷ turns asks answers server) (subst (ArePaired t i j) g (kept_pairs i j client p)) (inr (kept_pairs k m server q))
  turns_agree client server (answer_flies r e f g l) i j k m p q =
      paired_once t i j k m (record { way = ToClient; message = r } ∷ turns asks answers client) (inr (kept_pairs i j client p)) (subst (ArePaired t k m) g (kept_pairs k m server q))
