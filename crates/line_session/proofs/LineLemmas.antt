-- What a codec finds in bytes, in the words of lines.
use Rattle.std.proofs.Common.{◌≡◌, ◌≢◌, inl, inr, ℕ, suc, ◌+◌, ◌<◌, ◌≤◌, ◌==◌, List, [], ◌∷◌, ◌++◌, length, take, drop, get_or, Bool, true, not, refl, Ok, Err, String, Global, string_bytes, sym, ◌∙◌, subst, arith, length-take, take-append-drop}
use Rattle.std.proofs.lemmas.List.{take_all, get_or-take}
use Rattle.std.proofs.lemmas.List.Sums.{fails_before_first, passes_at_first, split_at_first}
use Rattle.std.proofs.lemmas.Bool.{cases_lt, both_ways, and_from, not_from_false, ne_eqb, eq-eqb, eqb-true}
use Rattle.std.specs.List.{position_or_len}
use Rattle.tokio_util.specs.declared.codec.lines_codec.LinesCodec.{LinesCodec}
use Rattle.tokio_util.specs.declared.codec.lines_codec.LinesCodecError.{LinesCodecError}
use Rattle.tokio_util.specs.declared.codec.lines_codec.LinesCodecError.TheVariants.{MaxLineLengthExceeded, Io}
use Rattle.tokio_util.specs.Codec.Next.{decoded, partial}
use Rattle.tokio_util.specs.Codec.Lines.{newline_from, without_carriage_return, at_line_start, Scan, Answers, IsUnfinished, gives_lines}
use Rattle.tokio_util.specs.Codec.LinesLaws.{read_line_found, read_line_long, read_line_short}
use Rattle.line_session.specs.Lines as lines
use Rattle.line_session.specs.Lines.{lacks, IsLine, Refusal, Shows, Because}

lacks_by_reads : (c : ℕ) (xs : List ℕ) → ((i : ℕ) → i < length xs → get_or xs i 0 ≢ c) → lacks c xs ≡ true
lacks_by_reads c [] h = refl
lacks_by_reads c (x ∷ xs) h =
    and_from (not (x == c)) (lacks c xs) (not_from_false (x == c) (ne_eqb x c (h 0 (omega arith))))
    (lacks_by_reads c xs (λ i l. h (suc i) (omega (arith, l))))

place : (xs : List ℕ) → newline_from 0 xs ≡ position_or_len (λ b. b == 10) xs
unfolding newline_from
place xs = omega arith

lacks_before : (n : ℕ) (xs : List ℕ) → n ≤ length xs → n ≤ newline_from 0 xs → lacks 10 (take n xs) ≡ true
lacks_before n xs within before =
    lacks_by_reads 10 (take n xs) (λ i l e.
    let below : i < n = omega (arith, l, length-take n xs) in
    both_ways (get_or xs i 0 == 10)
    (fails_before_first (λ b. b == 10) xs i 0 (omega (arith, below, place xs)))
    (eq-eqb (get_or xs i 0) 10 (sym (get_or-take n xs i 0 below) ∙ e)))

split_line : (xs : List ℕ) → newline_from 0 xs < length xs
    → xs ≡ take (newline_from 0 xs) xs ++ (10 ∷ drop (newline_from 0 xs + 1) xs)
split_line xs found =
    let p : ℕ → Bool = λ b. b == 10 in
    let found_at : position_or_len p xs < length xs = omega (arith, place xs) in
    let byte : get_or xs (position_or_len p xs) 0 ≡ 10 = eqb-true _ 10 (passes_at_first p xs 0 found_at) in
    subst (λ n. xs ≡ take n xs ++ (10 ∷ drop (n + 1) xs)) (sym (place xs))
    (subst (λ b. xs ≡ take (position_or_len p xs) xs ++ (b ∷ drop (position_or_len p xs + 1) xs)) byte (split_at_first p xs 0 found_at))

-- a line and what follows it
pub record Found (xs text : List ℕ) (codec : LinesCodec) (rest : List ℕ) : Type 0 where
  pub line : List ℕ
  pub is_line : IsLine line
  pub cut : xs ≡ line ++ (10 ∷ rest)
  pub text_is : text ≡ without_carriage_return line
  pub starts : codec ≡ at_line_start 1024

pub finds_line : (xs : List ℕ) (t : String Global) (codec : LinesCodec) (rest : List ℕ)
    → gives_lines (at_line_start 1024) xs (decoded (Ok t) codec rest) → Found xs (string_bytes t) codec rest
finds_line xs t codec rest gives =
    let P : Scan → Type 0 = λ scan. Answers 1024 scan (Ok t) codec rest in
    elim (cases_lt 1024 (newline_from 0 xs)) [
      | inl far ↦ elim (cases_lt 1024 (length xs)) [
        | inl long ↦ let h = subst P (read_line_long 1024 0 xs far long) gives in let e = h.0 in absurd cc
        | inr short ↦ absurd (subst P (read_line_short 1024 0 xs (omega arith) short) gives)
      ]
      | inr near ↦ elim (cases_lt (newline_from 0 xs) (length xs)) [
        | inl found ↦ elim (subst P (read_line_found 1024 0 xs found near) gives) [
          | inl is ↦ record {
            line = take (newline_from 0 xs) xs;
            is_line = (omega (arith, length-take (newline_from 0 xs) xs), lacks_before (newline_from 0 xs) xs (omega arith) (omega arith));
            cut = subst (λ ys. xs ≡ take (newline_from 0 xs) xs ++ (10 ∷ ys)) (sym is.2) (split_line xs found);
            text_is = is.0;
            starts = is.1;
          }
          | inr none ↦ absurd none.0
        ]
        | inr missing ↦ absurd (subst P (read_line_short 1024 0 xs missing (omega arith)) gives)
      ]
    ]

pub shows_fault : (xs : List ℕ) (e : LinesCodecError) (codec : LinesCodec) (rest : List ℕ)
    → gives_lines (at_line_start 1024) xs (decoded (Err e) codec rest) → (why : Refusal) → Because e why → Shows xs why
shows_fault xs MaxLineLengthExceeded codec rest gives lines.no_text because = absurd because
shows_fault xs MaxLineLengthExceeded codec rest gives lines.no_memory because = tt
shows_fault xs MaxLineLengthExceeded codec rest gives lines.too_long because =
    let P : Scan → Type 0 = λ scan. Answers 1024 scan (Err MaxLineLengthExceeded) codec rest in
    elim (cases_lt 1024 (newline_from 0 xs)) [
      | inl far ↦ elim (cases_lt 1024 (length xs)) [
        | inl long ↦ (take 1025 xs, drop 1025 xs, sym (take-append-drop 1025 xs), omega (arith, length-take 1025 xs), lacks_before 1025 xs (omega arith) (omega arith))
        | inr short ↦ absurd (subst P (read_line_short 1024 0 xs (omega arith) short) gives)
      ]
      | inr near ↦ elim (cases_lt (newline_from 0 xs) (length xs)) [
        | inl found ↦ elim (subst P (read_line_found 1024 0 xs found near) gives) [
          | inl is ↦ absurd is.0
          | inr none ↦ absurd none.0
        ]
        | inr missing ↦ absurd (subst P (read_line_short 1024 0 xs missing (omega arith)) gives)
      ]
    ]
shows_fault xs (Io e) codec rest gives lines.too_long because = absurd because
shows_fault xs (Io e) codec rest gives lines.no_memory because = tt
shows_fault xs (Io e) codec rest gives lines.no_text because =
    let P : Scan → Type 0 = λ scan. Answers 1024 scan (Err (Io e)) codec rest in
    elim (cases_lt 1024 (newline_from 0 xs)) [
      | inl far ↦ elim (cases_lt 1024 (length xs)) [
        | inl long ↦ let h = subst P (read_line_long 1024 0 xs far long) gives in let is = h.0 in absurd cc
        | inr short ↦ absurd (subst P (read_line_short 1024 0 xs (omega arith) short) gives)
      ]
      | inr near ↦ elim (cases_lt (newline_from 0 xs) (length xs)) [
        | inl found ↦ elim (subst P (read_line_found 1024 0 xs found near) gives) [
          | inl is ↦ (
            take (newline_from 0 xs) xs,
            drop (newline_from 0 xs + 1) xs,
            split_line xs found,
            (omega (arith, length-take (newline_from 0 xs) xs), lacks_before (newline_from 0 xs) xs (omega arith) (omega arith)),
            is.0.1,
          )
          | inr none ↦ absurd (because none.0)
        ]
        | inr missing ↦ absurd (subst P (read_line_short 1024 0 xs missing (omega arith)) gives)
      ]
    ]

pub no_line : (xs : List ℕ) → gives_lines (at_line_start 1024) xs partial → lacks 10 xs ≡ true
no_line xs gives =
    let P : Scan → Type 0 = λ scan. IsUnfinished scan in
    let none : length xs ≤ newline_from 0 xs → lacks 10 xs ≡ true = λ missing.
    subst (λ ys. lacks 10 ys ≡ true) (take_all (length xs) xs (omega arith)) (lacks_before (length xs) xs (omega arith) missing) in
    elim (cases_lt 1024 (newline_from 0 xs)) [
      | inl far ↦ elim (cases_lt 1024 (length xs)) [
        | inl long ↦ absurd (subst P (read_line_long 1024 0 xs far long) gives)
        | inr short ↦ none (omega arith)
      ]
      | inr near ↦ elim (cases_lt (newline_from 0 xs) (length xs)) [
        | inl found ↦ absurd (subst P (read_line_found 1024 0 xs found near) gives)
        | inr missing ↦ none missing
      ]
    ]
