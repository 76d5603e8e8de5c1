-- What is read one place after another.
use Rattle.std.proofs.Common.{◌≡◌, ℕ, ◌+◌, ◌<◌, ◌≤◌, ◌==◌, inl, inr, cond, Option, Some, None, List, slice_index, refl, sym, subst, ◌∙◌, arith, if◌then◌else◌}
use Rattle.std.proofs.lemmas.Bool.Decides.{nat_tests, eqb_tells}
use Rattle.std.proofs.lemmas.Bool.{cases_order, lt-ltb, le-ltb}
use Rattle.balancer.specs.Least.{MayRead, AreRead, IsLeastAt, IsChoice, lesser}

-- what was read, with one place more
abbrev pub noted : (ℕ → Option ℕ) → ℕ → Option ℕ → ℕ → Option ℕ
noted read place new k = cond (k == place) new (read k)

noted_here : (read : ℕ → Option ℕ) (place : ℕ) (new : Option ℕ) → noted read place new place ≡ new
noted_here read place new = grind (arith, nat_tests)

noted_else : (read : ℕ → Option ℕ) (place : ℕ) (new : Option ℕ) (k : ℕ) → k < place → noted read place new k ≡ read k
noted_else read place new k before = grind (arith, nat_tests)

-- a place that was noted is the new one or one before
data Place (read : ℕ → Option ℕ) (place : ℕ) (new : Option ℕ) (k : ℕ) : Type 0 where
  here : k ≡ place → noted read place new k ≡ new → Place read place new k
  before : k < place → noted read place new k ≡ read k → Place read place new k

which : (read : ℕ → Option ℕ) (place : ℕ) (new : Option ℕ) (k : ℕ) → k < place + 1 → Place read place new k
which read place new k within = elim (eqb_tells k place) [
  | inl same ↦ here same.1 (grind (arith, nat_tests))
  | inr other ↦ before (omega (arith, other)) (grind (arith, nat_tests))
]

pub are_read_next : {S : Type 0} (reads : S → ℕ → Option ℕ → Type 0) (loads : S) (but : Option ℕ) (servers : List ℕ) (place : ℕ)
    (read : ℕ → Option ℕ) (new : Option ℕ) → AreRead reads loads but servers place read
    → MayRead reads loads but (slice_index servers place) new → AreRead reads loads but servers (place + 1) (noted read place new)
are_read_next reads loads but servers place read new all may k within = elim (which read place new k within) [
  | here same is ↦ rw (is, same) may
  | before less is ↦ rw (is) (all k less)
]

same_load : (a b : ℕ) → Some a ≡ Some b → a ≡ b
same_load a b e = cc

-- no place before, then this one
first_next : (servers : List ℕ) (read : ℕ → Option ℕ) (place load : ℕ) → ((k : ℕ) → k < place → read k ≡ None)
    → IsLeastAt (noted read place (Some load)) (place + 1) place load
first_next servers read place load none = (
  omega arith,
  noted_here read place (Some load),
  λ k other within found.
      elim (which read place (Some load) k within) [
        | here same at ↦ inr (same_load load other (sym at ∙ found), omega (arith, same))
        | before less at ↦ let no : None ≡ Some other = sym (none k less) ∙ sym at ∙ found in cc
      ],
)

-- the one before stays where nothing is read
none_next : (read : ℕ → Option ℕ) (place at_place least : ℕ) → IsLeastAt read place at_place least
    → IsLeastAt (noted read place None) (place + 1) at_place least
none_next read place at_place least (less, is, all) = (
  omega (arith, less),
  noted_else read place None at_place less ∙ is,
  λ k other within found.
      elim (which read place None k within) [
        | here same at ↦ let no : None ≡ Some other = sym at ∙ found in cc
        | before before_it at ↦ all k other before_it (sym at ∙ found)
      ],
)

-- and where a load is read that is no less
more_next : (read : ℕ → Option ℕ) (place load at_place least : ℕ) → least ≤ load → IsLeastAt read place at_place least
    → IsLeastAt (noted read place (Some load)) (place + 1) at_place least
more_next read place load at_place least more (less, is, all) = (
  omega (arith, less),
  noted_else read place (Some load) at_place less ∙ is,
  λ k other within found.
      elim (which read place (Some load) k within) [
        | here same at ↦
            let equal : load ≡ other = same_load load other (sym at ∙ found) in
            elim (cases_order least other) [
              | inl even ↦ inr (even, omega (arith, same, less))
              | inr (inl lesser_one) ↦ inl lesser_one
              | inr (inr greater_one) ↦ absurd (omega (arith, equal, more, greater_one))
            ]
        | before before_it at ↦ all k other before_it (sym at ∙ found)
      ],
)

-- a lesser load takes its place
less_next : (read : ℕ → Option ℕ) (place load at_place least : ℕ) → load < least → IsLeastAt read place at_place least
    → IsLeastAt (noted read place (Some load)) (place + 1) place load
less_next read place load at_place least fewer (less, is, all) = (
  omega arith,
  noted_here read place (Some load),
  λ k other within found.
      elim (which read place (Some load) k within) [
        | here same at ↦ inr (same_load load other (sym at ∙ found), omega (arith, same))
        | before before_it at ↦ elim (all k other before_it (sym at ∙ found)) [
          | inl above ↦ inl (omega (arith, above, fewer))
          | inr even ↦ inl (omega (arith, even.0, fewer))
        ]
      ],
)

stays : (servers : List ℕ) (place : ℕ) (read : ℕ → Option ℕ) (server load least at_place : ℕ) → least ≤ load
    → slice_index servers at_place ≡ server → IsLeastAt read place at_place least
    → IsChoice servers (place + 1) (noted read place (Some load)) (lesser (Some (server, least)) (slice_index servers place) (Some load))
stays servers place read server load least at_place more is at_least =
    subst (λ b. IsChoice servers (place + 1) (noted read place (Some load)) (if b then Some (slice_index servers place, load) else Some (server, least)))
    (sym (le-ltb load least more)) (at_place, is, more_next read place load at_place least more at_least)

pub choice_next : (servers : List ℕ) (place : ℕ) (read : ℕ → Option ℕ) (choice : Option (ℕ × ℕ)) (new : Option ℕ)
    → IsChoice servers place read choice
    → IsChoice servers (place + 1) (noted read place new) (lesser choice (slice_index servers place) new)
choice_next servers place read None None none = λ k within. elim (which read place None k within) [
  | here same at ↦ at
  | before less at ↦ at ∙ none k less
]
choice_next servers place read None (Some load) none = (place, refl, first_next servers read place load none)
choice_next servers place read (Some (server, least)) None (at_place, is, at_least) =
    (at_place, is, none_next read place at_place least at_least)
choice_next servers place read (Some (server, least)) (Some load) (at_place, is, at_least) =
    elim (cases_order load least) [
      | inr (inl fewer) ↦
          subst (λ b. IsChoice servers (place + 1) (noted read place (Some load)) (if b then Some (slice_index servers place, load) else Some (server, least)))
          (sym (lt-ltb load least fewer)) (place, refl, less_next read place load at_place least fewer at_least)
      | inl even ↦ stays servers place read server load least at_place (omega (arith, even)) is at_least
      | inr (inr more) ↦ stays servers place read server load least at_place (omega (arith, more)) is at_least
    ]
