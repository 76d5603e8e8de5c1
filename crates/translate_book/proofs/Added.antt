-- A new entry behind the others.
use Rattle.std.proofs.Common.{◌≡◌, ℕ, ◌+◌, ◌<◌, ◌==◌, ◌&&◌, Bool, true, false, cond, nat_eq, if◌then◌else◌, List, [], ◌∷◌, ◌++◌, length, Option, Some, None, refl, sym, ap, ◌∙◌, arith}
use Rattle.std.proofs.lemmas.Bool.{eqb-true, eq-eqb, ne_eqb}
use Rattle.translate_book.specs.declared.entry.Entry.{Entry}
use Rattle.translate_book.specs.Entries.{is_open, beginning}
use Rattle.translate_book.specs.Book.{open_at, open_count, IsOnce, Rises}

pub length_push : {X : Type 0} (es : List X) (p : X) → length (es ++ p ∷ []) ≡ length es + 1
length_push [] p = omega arith
length_push (e ∷ es) p = let rest = length_push es p in omega (arith, rest)

rest_free : (b : Bool) (n : ℕ) (o : Option ℕ) → (if b then Some n else o) ≡ None → o ≡ None
rest_free true n o h = cc
rest_free false n o h = h

front_free : (b : Bool) (n : ℕ) (o : Option ℕ) → (if b then Some n else o) ≡ None → b ≡ false
front_free true n o h = cc
front_free false n o h = refl

module _ (seq tag left : ℕ) where
  -- the tag names the new entry, and each other tag what it did
  pub open_at-push : (t : ℕ) (es : List (ℕ × Entry)) → open_at tag es ≡ None → open_at t (es ++ (seq, beginning tag left) ∷ []) ≡ cond (nat_eq tag t) (Some seq) (open_at t es)
  open_at-push t [] free = refl
  open_at-push t (p ∷ ps) free = by (nat_eq tag t) refl (open_at-push t ps (rest_free (is_open p.1 && p.1.tag == tag) p.0 (open_at tag ps) free))
    where
      by : (b : Bool) → nat_eq tag t ≡ b → open_at t (ps ++ (seq, beginning tag left) ∷ []) ≡ cond (nat_eq tag t) (Some seq) (open_at t ps) → open_at t ((p ∷ ps) ++ (seq, beginning tag left) ∷ []) ≡ cond (nat_eq tag t) (Some seq) (open_at t (p ∷ ps))
      by true is more =
          let same : tag ≡ t = eqb-true tag t is in
          let other : (is_open p.1 && p.1.tag == t) ≡ false = ap (λ n. is_open p.1 && p.1.tag == n) (sym same) ∙ front_free (is_open p.1 && p.1.tag == tag) p.0 (open_at tag ps) free in
          ap (λ b. if b then Some p.0 else open_at t (ps ++ (seq, beginning tag left) ∷ [])) other ∙ more ∙ ap (λ b. cond b (Some seq) (open_at t ps)) is ∙ sym (ap (λ b. cond b (Some seq) (open_at t (p ∷ ps))) is)
      by false is more =
          let rest : open_at t (ps ++ (seq, beginning tag left) ∷ []) ≡ open_at t ps = more ∙ ap (λ b. cond b (Some seq) (open_at t ps)) is in
          ap (λ o. if is_open p.1 && p.1.tag == t then Some p.0 else o) rest ∙ sym (ap (λ b. cond b (Some seq) (open_at t (p ∷ ps))) is)

  pub IsOnce-push : (es : List (ℕ × Entry)) → IsOnce es → open_at tag es ≡ None → IsOnce (es ++ (seq, beginning tag left) ∷ [])
  IsOnce-push [] once free = (λ _. refl, once)
  IsOnce-push (p ∷ ps) once free =
      let rest : open_at tag ps ≡ None = rest_free (is_open p.1 && p.1.tag == tag) p.0 (open_at tag ps) free in (
        λ o.
            let other : (p.1.tag == tag) ≡ false = sym (ap (λ b. b && p.1.tag == tag) o) ∙ front_free (is_open p.1 && p.1.tag == tag) p.0 (open_at tag ps) free in
            let apart : nat_eq tag p.1.tag ≡ false = ne_eqb tag p.1.tag (λ e. let no_tag : true ≡ false = sym (eq-eqb p.1.tag tag (sym e)) ∙ other in cc) in
            open_at-push p.1.tag ps rest ∙ ap (λ b. cond b (Some seq) (open_at p.1.tag ps)) apart ∙ once.0 o,
        IsOnce-push ps once.1 rest,
      )

  pub open_count-push : (es : List (ℕ × Entry)) → open_count (es ++ (seq, beginning tag left) ∷ []) ≡ open_count es + 1
  open_count-push [] = refl
  open_count-push (p ∷ ps) = by (is_open p.1) (open_count-push ps)
    where
      by : (b : Bool) → open_count (ps ++ (seq, beginning tag left) ∷ []) ≡ open_count ps + 1 → (if b then open_count (ps ++ (seq, beginning tag left) ∷ []) + 1 else open_count (ps ++ (seq, beginning tag left) ∷ [])) ≡ (if b then open_count ps + 1 else open_count ps) + 1
      by true h = omega (arith, h)
      by false h = h

  pub Rises-push : (low : ℕ) (es : List (ℕ × Entry)) (high : ℕ) → Rises low es high → high < seq → Rises low (es ++ (seq, beginning tag left) ∷ []) seq
  Rises-push low [] high h lt = (omega arith, omega arith)
  Rises-push low (p ∷ ps) high h lt = (h.0, Rises-push p.0 ps high h.1 lt)
