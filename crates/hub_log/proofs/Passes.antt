-- Looks, and passes that are cut in two or joined.
use Rattle.std.proofs.Common.{◌≡◌, ◌≢◌, inl, inr, ⊎_elim, ℕ, zero, suc, ◌<◌, Bool, not, List, [], ◌∷◌, ◌++◌, set, true, false, true≢false, refl, sym, ◌∙◌, subst, arith}
use Rattle.std.specs.List.{filter}
use Rattle.std.proofs.lemmas.List.{set_comm}
use mathlib.Core.Option.{some, some-ne-none, some-injective}
use lib.ListN.{get_elem?}
use Rattle.atomic_table.proofs.Lists.{at_set, set_else}
use Rattle.atomic_table.specs.Table.{Splits, Joins}
use Rattle.mux_history.specs.declared.session.SessionId.{SessionId}
use Rattle.hub_log.specs.declared.terms.Terms.{Terms}
use Rattle.hub_log.specs.Moves.{Claim, Move}
use Rattle.hub_log.specs.Views.{View, Owns, is_in, are_apart, InHand, Fits, Kept, Looked}
use Rattle.hub_log.specs.Rule.{Holds, first_view, with_hands, note_of, values_of, empty_handed, picked_of, unpicked_of, first_of, others_of, joined, spent}
use Rattle.hub_log.proofs.Logs.{goes_self, goes_empty}
use Rattle.hub_log.proofs.Claims.{in_append, in_filter, apart_append, apart_filter, is_turned}
use Rattle.hub_log.proofs.Changes.{change, newcomer}

no : false ≡ true → ⊥
no e = true≢false (sym e)

abbrev pub looker : List Move → View → View
looker log v = record { seen = log; told = []; low = v.low; high = v.high; hands = v.hands }

pub looks : (t : Terms) (views : List View) (log : List Move) (id : ℕ) (v : View) → Kept t views log → get_elem? views id ≡ some v
    → Kept t (set views id (looker log v)) log × Looked t v (looker log v)
looks t views log id v kept here =
    let fits = kept.fits id v here in (
      change t views log log id v (looker log v) kept here kept.legal
          record { seen = goes_self log; told = goes_empty log; own = λ k o. refl; hand = fits.hand; apart = fits.apart }
          (λ j u n e. kept.fits j u e) (λ k o. o) (λ c h. inl h),
      record { later = fits.seen; told = fits.told; own = λ k o. sym (fits.own k o); legal = kept.legal; low = refl; high = refl; hands = refl; apart = fits.apart },
    )

splits : (t : Terms) (views : List View) (log : List Move) (id : ℕ) (v left right : View) → Kept t views log → get_elem? views id ≡ some v
    → Fits t log left → Fits t log right
    → ((k : SessionId) → Owns t left k → Owns t v k) → ((k : SessionId) → Owns t right k → Owns t v k) → ((k : SessionId) → Owns t left k → Owns t right k → ⊥)
    → ((c : Claim) → InHand left c → InHand v c) → ((c : Claim) → InHand right c → InHand v c) → ((c : Claim) → InHand left c → InHand right c → ⊥)
    → Kept t (set views id left ++ right ∷ []) log
splits t views log id v left right kept here fl fr lk rk nk lh rh nh =
    newcomer t (set views id left) log right
    (change t views log log id v left kept here kept.legal fl (λ j u n e. kept.fits j u e) lk (λ c h. inl (lh c h)))
    fr
    (λ j u e k a b. ⊎_elim
    (λ (x : (j ≡ id) × (left ≡ u)). nk k (subst (λ w. Owns t w k) (sym x.1) a) b)
    (λ (x : (j ≢ id) × (get_elem? views j ≡ some u)). x.0 (kept.slots j id u v x.1 here k a (rk k b)))
    (at_set views id j left u e))
    (λ j u e c a b. ⊎_elim
    (λ (x : (j ≡ id) × (left ≡ u)). nh c (subst (λ w. InHand w c) (sym x.1) a) b)
    (λ (x : (j ≢ id) × (get_elem? views j ≡ some u)). x.0 (kept.hands j id u v x.1 here c a (rh c b)))
    (at_set views id j left u e))

none_owned : (t : Terms) (v : View) (k : SessionId) → v.high ≡ 0 → Owns t v k → ⊥
none_owned t v k e o = let lt = o.1 in omega arith

-- claims cut off: `left` stay, `right` go
module _ (t : Terms) (id : ℕ) (v : View) (left right : List Claim) where
  abbrev stays : View
  stays = record { seen = v.seen; told = v.told; low = v.low; high = v.high; hands = left }

  cuts : ((log : List Move) → Fits t log v → Fits t log stays × Fits t log (with_hands v.seen right))
      → ((c : Claim) → is_in c left ≡ true → InHand v c) → ((c : Claim) → is_in c right ≡ true → InHand v c) → ((c : Claim) → is_in c left ≡ true → is_in c right ≡ true → ⊥)
      → Splits (Holds t) id v stays (with_hands v.seen right)
  cuts fit lh rh nh s holds here =
      let f = fit holds.0 (holds.1.fits id v here) in (
        holds.0,
        splits t s.views holds.0 id v stays (with_hands v.seen right) holds.1 here f.0 f.1
            (λ k o. o) (λ k o. absurd (none_owned t (with_hands v.seen right) k refl o)) (λ k a b. none_owned t (with_hands v.seen right) k refl b)
            lh rh nh,
      )

-- with fewer claims what a pass knows is so, too
fewer : (t : Terms) (log : List Move) (v : View) (hs : List Claim) → ((c : Claim) → is_in c hs ≡ true → InHand v c) → are_apart hs ≡ true → Fits t log v
    → Fits t log (record { seen = v.seen; told = v.told; low = v.low; high = v.high; hands = hs }) × Fits t log (with_hands v.seen hs)
fewer t log v hs held apart fits = (
  record { seen = fits.seen; told = fits.told; own = fits.own; hand = λ c h. fits.hand c (held c h); apart = apart },
  record { seen = fits.seen; told = goes_empty log; own = λ k o. absurd (none_owned t (with_hands v.seen hs) k refl o); hand = λ c h. fits.hand c (held c h); apart = apart },
)

pub notes : (t : Terms) (id : ℕ) (v : View) → Splits (Holds t) id v v (note_of v)
notes t id v = cuts t id v v.hands [] (λ log fits. (fits, (fewer t log v [] (λ c h. absurd (no h)) refl fits).1)) (λ c h. h) (λ c h. absurd (no h)) (λ c a b. no b)

pub values : (t : Terms) (id : ℕ) (v : View) → Splits (Holds t) id v (empty_handed v) (values_of v)
values t id v =
    cuts t id v [] v.hands (λ log fits. ((fewer t log v [] (λ c h. absurd (no h)) refl fits).0, (fewer t log v v.hands (λ c h. h) fits.apart fits).1)) (λ c h. absurd (no h)) (λ c h. h) (λ c a b. no a)

pub picks : (t : Terms) (id : ℕ) (v : View) (p : Claim → Bool) → Splits (Holds t) id v (unpicked_of p v) (picked_of p v)
picks t id v p =
    let rest = λ (c : Claim) (h : is_in c (filter (λ x. not (p x)) v.hands) ≡ true). in_filter (λ x. not (p x)) c v.hands h in
    let taken = λ (c : Claim) (h : is_in c (filter p v.hands) ≡ true). in_filter p c v.hands h in
    cuts t id v (filter (λ x. not (p x)) v.hands) (filter p v.hands)
    (λ log fits. ((fewer t log v (filter (λ x. not (p x)) v.hands) (λ c h. (rest c h).0) (apart_filter (λ x. not (p x)) v.hands fits.apart) fits).0, (fewer t log v (filter p v.hands) (λ c h. (taken c h).0) (apart_filter p v.hands fits.apart) fits).1))
    (λ c h. (rest c h).0) (λ c h. (taken c h).0) (λ c a b. is_turned (p c) (rest c a).1 (taken c b).1)

pub firsts : (t : Terms) (id : ℕ) (v : View) → v.low < v.high → Splits (Holds t) id v (others_of v) (first_of v)
firsts t id v some_left s holds here =
    let fits = holds.1.fits id v here in
    let left : (k : SessionId) → Owns t (others_of v) k → Owns t v k = λ k o. (let a = o.0 in omega arith, o.1) in
    let right : (k : SessionId) → Owns t (first_of v) k → Owns t v k = λ k o. (o.0, let b = o.1 in omega arith) in (
      holds.0,
      splits t s.views holds.0 id v (others_of v) (first_of v) holds.1 here
          record { seen = fits.seen; told = fits.told; own = λ k o. fits.own k (left k o); hand = fits.hand; apart = fits.apart }
          record { seen = fits.seen; told = goes_empty holds.0; own = λ k o. fits.own k (right k o); hand = λ c h. absurd (no h); apart = refl }
          left right (λ k a b. let p = a.0 in let q = b.1 in omega arith)
          (λ c h. h) (λ c h. absurd (no h)) (λ c a b. no b),
    )

pub joins : (t : Terms) (id : ℕ) (v : View) (other : ℕ) (w : View) → Joins (Holds t) id v other w (joined v w) spent
joins t id v other w s holds here apart at =
    let views = s.views in
    let log = holds.0 in
    let kept = holds.1 in
    let theirs : get_elem? views other ≡ some w = sym (set_else views id other (joined v w) apart) ∙ at in
    let fits = kept.fits id v here in
    let given = kept.fits other w theirs in
    let none : (k : SessionId) → Owns t spent k → ⊥ = λ k o. none_owned t spent k refl o in
    let first : Kept t (set views other spent) log =
    change t views log log other w spent kept theirs kept.legal
    record { seen = goes_empty log; told = goes_empty log; own = λ k o. absurd (none k o); hand = λ c h. absurd (no h); apart = refl }
    (λ j u n e. kept.fits j u e) (λ k o. absurd (none k o)) (λ c h. absurd (no h)) in
    let still : get_elem? (set views other spent) id ≡ some v = set_else views other id spent (λ e. apart (sym e)) ∙ here in
    let second : Kept t (set (set views other spent) id (joined v w)) log =
    change t (set views other spent) log log id v (joined v w) first still kept.legal
    record { seen = fits.seen; told = given.seen; own = fits.own; hand = λ c h. ⊎_elim (λ (x : is_in c v.hands ≡ true). fits.hand c x) (λ (x : is_in c w.hands ≡ true). given.hand c x) (in_append v.hands w.hands c h); apart = apart_append v.hands w.hands fits.apart given.apart (λ c i j. apart (kept.hands other id w v theirs here c j i)) }
    (λ j u n e. first.fits j u e) (λ k o. o)
    (λ c h. ⊎_elim
    (λ (mine : is_in c v.hands ≡ true). inl mine)
    (λ (its : is_in c w.hands ≡ true). inr (λ j u ne e theirs'. ⊎_elim
    (λ (x : (j ≡ other) × (spent ≡ u)). absurd (none_held c u x.1 theirs'))
    (λ (x : (j ≢ other) × (get_elem? views j ≡ some u)). x.0 (kept.hands j other u w x.1 theirs c theirs' its))
    (at_set views other j spent u e)))
    (in_append v.hands w.hands c h)) in
    (log, subst (λ l. Kept t l log) (set_comm views other id spent (joined v w) apart) second)
  where
    none_held : (c : Claim) (u : View) → spent ≡ u → InHand u c → ⊥
    none_held c u e h = true≢false (sym (subst (λ w. InHand w c) (sym e) h))

-- the table at the start
pub begins : (words : List ℕ) (t : Terms) → Holds t record { words = words; homes = []; views = first_view t ∷ [] }
begins words t = (
  [],
  record {
    legal = record { given = tt; once = tt; own = tt };
    fits = λ i v e. one i v e;
    slots = λ i j v w ei ej k a b. same i j v w ei ej;
    hands = λ i j v w ei ej c a b. same i j v w ei ej;
  },
)
  where
    one : (i : ℕ) (v : View) → get_elem? (first_view t ∷ []) i ≡ some v → Fits t [] v
    one zero v e = subst (Fits t []) (some-injective _ _ e) record { seen = ([], refl); told = ([], refl); own = λ k o. refl; hand = λ c h. absurd (no h); apart = refl }
    one (suc i) v e = absurd (some-ne-none v (sym e))

    same : (i j : ℕ) (v w : View) → get_elem? (first_view t ∷ []) i ≡ some v → get_elem? (first_view t ∷ []) j ≡ some w → i ≡ j
    same zero zero v w ei ej = refl
    same zero (suc j) v w ei ej = absurd (some-ne-none w (sym ej))
    same (suc i) j v w ei ej = absurd (some-ne-none v (sym ei))
