-- Records put behind those of one session.
use Rattle.std.proofs.Common.{ℕ, List, [], ◌∷◌, ◌++◌, ◌+◌, ◌≡◌, Bool, true, false, refl, sym, ◌∙◌, ap, subst, arith, Some, append_assoc}
use Rattle.std.specs.Prelude.{if◌then◌else◌, filter, reverse, unwrap_or}
use Rattle.std.proofs.lemmas.Bool.{eq-eqb, eqb-true}
use Rattle.std.proofs.lemmas.List.{append-nil, reverse-append}
use Rattle.mux_history.specs.declared.name.Name.{Name}
use Rattle.mux_history.specs.declared.record.Record.{Record}
use Rattle.mux_history.specs.declared.kind.RecordKind.{RecordKind}
use Rattle.mux_history.specs.declared.session.InitMode.{InitMode}
use Rattle.mux_history.specs.declared.session.SessionId.{SessionId}
use Rattle.mux_history.specs.declared.session.SessionId.TheVariants.{Client, Server}
use Rattle.mux_agree.specs.Agree.{times}
use Rattle.mux_agree.specs.Walk.{Kept, all_records, client_records, is_client}
use Rattle.mux_agree.proofs.Counts.{times-append}
use Rattle.rolling_audit.specs.Histories.{AllOwn, AreOwn, behind, kept_of, longer, same_session}

pub same_own : (id : SessionId) → same_session id id ≡ true
same_own (Client k) = eq-eqb k k refl
same_own (Server k) = eq-eqb k k refl

pub same_is : (a b : SessionId) → same_session a b ≡ true → a ≡ b
same_is (Client j) (Client k) e = ap Client (eqb-true j k e)
same_is (Server j) (Server k) e = ap Server (eqb-true j k e)
same_is (Client j) (Server k) e = absurd (cc)
same_is (Server j) (Client k) e = absurd (cc)

pub same_kept : (g h : Kept) → Some g ≡ Some h → g ≡ h
same_kept g h e = ap (λ o. unwrap_or o g) e

-- the history of a session is that session's
pub kept_is : (id : SessionId) (hs : List Kept) (h : Kept) → kept_of id hs ≡ Some h → h.session ≡ id
kept_is id [] h at = absurd (cc)
kept_is id (g ∷ hs) h at = by_test (same_session g.session id) refl at (kept_is id hs h)
  where
    by_test : (b : Bool) → same_session g.session id ≡ b → (if b then Some g else kept_of id hs) ≡ Some h → (kept_of id hs ≡ Some h → h.session ≡ id) → h.session ≡ id
    by_test true e found further = ap (λ (x : Kept). x.session) (sym (same_kept g h found)) ∙ same_is g.session id e
    by_test false e found further = further found

module _ (id : SessionId) (rs : List Record) where
  pub kept_behind : (hs : List Kept) (h : Kept) → kept_of id hs ≡ Some h → kept_of id (behind id rs hs) ≡ Some (longer h rs)
  kept_behind [] h at = absurd (cc)
  kept_behind (g ∷ hs) h at = by_test (same_session g.session id) refl at (kept_behind hs h)
    where
      by_test : (b : Bool) → same_session g.session id ≡ b → (if b then Some g else kept_of id hs) ≡ Some h →
          (kept_of id hs ≡ Some h → kept_of id (behind id rs hs) ≡ Some (longer h rs)) →
          kept_of id (if b then longer g rs ∷ hs else g ∷ behind id rs hs) ≡ Some (longer h rs)
      by_test true e at further = ap (λ c. if c then Some (longer g rs) else kept_of id hs) e ∙ ap (λ x. Some (longer x rs)) (same_kept g h at)
      by_test false e at further = ap (λ c. if c then Some g else kept_of id (behind id rs hs)) e ∙ further at

  pub kept_other : (q : SessionId) → same_session id q ≡ false → (hs : List Kept) → kept_of q (behind id rs hs) ≡ kept_of q hs
  kept_other q differ [] = refl
  kept_other q differ (g ∷ hs) = by_test (same_session g.session id) refl (kept_other q differ hs)
    where
      by_test : (b : Bool) → same_session g.session id ≡ b → kept_of q (behind id rs hs) ≡ kept_of q hs →
          kept_of q (if b then longer g rs ∷ hs else g ∷ behind id rs hs) ≡ (if same_session g.session q then Some g else kept_of q hs)
      by_test true e further =
          let not_it : same_session g.session q ≡ false = ap (λ x. same_session x q) (same_is g.session id e) ∙ differ in
          ap (λ c. if c then Some (longer g rs) else kept_of q hs) not_it ∙ sym (ap (λ c. if c then Some g else kept_of q hs) not_it)
      by_test false e further = ap (λ o. if same_session g.session q then Some g else o) further

  -- a measure that adds up along lists, as a count
  pub measured_behind : (measure : List Record → ℕ) → ((xs ys : List Record) → measure (xs ++ ys) ≡ measure xs + measure ys) → (hs : List Kept) (h : Kept) →
      kept_of id hs ≡ Some h → measure (all_records (behind id rs hs)) ≡ measure (all_records hs) + measure rs
  measured_behind measure adds [] h at = absurd (cc)
  measured_behind measure adds (g ∷ hs) h at = by_test (same_session g.session id) refl at (measured_behind measure adds hs h)
    where
      by_test : (b : Bool) → same_session g.session id ≡ b → (if b then Some g else kept_of id hs) ≡ Some h →
          (kept_of id hs ≡ Some h → measure (all_records (behind id rs hs)) ≡ measure (all_records hs) + measure rs) →
          measure (all_records (if b then longer g rs ∷ hs else g ∷ behind id rs hs)) ≡ measure (g.records ++ all_records hs) + measure rs
      by_test true e at further =
          let a = adds (g.records ++ rs) (all_records hs) in
          let b = adds g.records rs in
          let c = adds g.records (all_records hs) in
          omega (arith, a, b, c)
      by_test false e at further =
          let a = adds g.records (all_records (behind id rs hs)) in
          let c = adds g.records (all_records hs) in
          let d = further at in
          omega (arith, a, c, d)

  pub times_behind : (p : RecordKind → Bool) (n : Name) (hs : List Kept) (h : Kept) → kept_of id hs ≡ Some h →
      times p n (all_records (behind id rs hs)) ≡ times p n (all_records hs) + times p n rs
  times_behind p n = measured_behind (times p n) (times-append p n)

  pub client_times_behind : (p : RecordKind → Bool) (n : Name) (hs : List Kept) (h : Kept) → kept_of id hs ≡ Some h →
      times p n (client_records (behind id rs hs)) ≡ times p n (client_records hs) + (if is_client id then times p n rs else 0)
  client_times_behind p n [] h at = absurd (cc)
  client_times_behind p n (g ∷ hs) h at = by_test (same_session g.session id) refl at (client_times_behind p n hs h)
    where
      of : List Kept → ℕ
      of xs = times p n (client_records xs)

      more : Bool → ℕ
      more b = if b then times p n rs else 0

      own : (b : Bool) → is_client g.session ≡ b →
          times p n (all_records (if b then longer g rs ∷ filter (λ h. is_client h.session) hs else filter (λ h. is_client h.session) hs))
          ≡ times p n (all_records (if b then g ∷ filter (λ h. is_client h.session) hs else filter (λ h. is_client h.session) hs)) + more b
      own true e =
          let a = times-append p n (g.records ++ rs) (client_records hs) in
          let b = times-append p n g.records rs in
          let c = times-append p n g.records (client_records hs) in
          omega (arith, a, b, c)
      own false e = omega arith

      other : (b : Bool) → of (behind id rs hs) ≡ of hs + more (is_client id) →
          times p n (all_records (if b then g ∷ filter (λ h. is_client h.session) (behind id rs hs) else filter (λ h. is_client h.session) (behind id rs hs)))
          ≡ times p n (all_records (if b then g ∷ filter (λ h. is_client h.session) hs else filter (λ h. is_client h.session) hs)) + more (is_client id)
      other true further =
          let a = times-append p n g.records (client_records (behind id rs hs)) in
          let c = times-append p n g.records (client_records hs) in
          omega (arith, a, c, further)
      other false further = further

      by_test : (b : Bool) → same_session g.session id ≡ b → (if b then Some g else kept_of id hs) ≡ Some h →
          (kept_of id hs ≡ Some h → of (behind id rs hs) ≡ of hs + more (is_client id)) →
          of (if b then longer g rs ∷ hs else g ∷ behind id rs hs) ≡ of (g ∷ hs) + more (is_client id)
      by_test true e at further = own (is_client g.session) refl ∙ ap (λ x. of (g ∷ hs) + more (is_client x)) (same_is g.session id e)
      by_test false e at further = other (is_client g.session) (further at)

-- some records, and then some more
pub are_own-append : (mode : InitMode) (id : SessionId) (past xs ys : List Record) → AreOwn mode id past xs → AreOwn mode id (reverse xs ++ past) ys → AreOwn mode id past (xs ++ ys)
are_own-append mode id past [] ys a b = b
are_own-append mode id past (r ∷ xs) ys a b = (
  a.0,
  are_own-append mode id (r ∷ past) xs ys a.1 (subst (λ l. AreOwn mode id l ys) (shift xs) b),
)
  where
    shift : (xs : List Record) → reverse (r ∷ xs) ++ past ≡ reverse xs ++ (r ∷ past)
    shift xs = ap (λ l. l ++ past) (reverse-append (r ∷ []) xs) ∙ append_assoc (reverse xs) (r ∷ []) past

pub own_behind : (id : SessionId) (rs : List Record) (hs : List Kept) (h : Kept) → kept_of id hs ≡ Some h → AllOwn hs → AreOwn h.mode h.session (reverse h.records) rs →
    AllOwn (behind id rs hs)
own_behind id rs [] h at own more = absurd (cc)
own_behind id rs (g ∷ hs) h at own more = by_test (same_session g.session id) at (own_behind id rs hs h)
  where
    by_test : (b : Bool) → (if b then Some g else kept_of id hs) ≡ Some h →
        (kept_of id hs ≡ Some h → AllOwn hs → AreOwn h.mode h.session (reverse h.records) rs → AllOwn (behind id rs hs)) →
        AllOwn (if b then longer g rs ∷ hs else g ∷ behind id rs hs)
    by_test true at further =
        let it : h ≡ g = sym (same_kept g h at) in
        let behind_it : AreOwn g.mode g.session (reverse g.records) rs = subst (λ x. AreOwn x.mode x.session (reverse x.records) rs) it more in
        (are_own-append g.mode g.session [] g.records rs own.0 (subst (λ l. AreOwn g.mode g.session l rs) (sym (append-nil (reverse g.records))) behind_it), own.1)
    by_test false at further = (own.0, further at own.1 more)

pub behind_more : (id : SessionId) (xs ys : List Record) (hs : List Kept) → behind id ys (behind id xs hs) ≡ behind id (xs ++ ys) hs
behind_more id xs ys [] = refl
behind_more id xs ys (g ∷ hs) = by_test (same_session g.session id) refl (behind_more id xs ys hs)
  where
    by_test : (b : Bool) → same_session g.session id ≡ b → behind id ys (behind id xs hs) ≡ behind id (xs ++ ys) hs →
        behind id ys (if b then longer g xs ∷ hs else g ∷ behind id xs hs) ≡ (if b then longer g (xs ++ ys) ∷ hs else g ∷ behind id (xs ++ ys) hs)
    by_test true e further =
        ap (λ c. if c then longer (longer g xs) ys ∷ hs else longer g xs ∷ behind id ys hs) e
        ∙ ap (λ l. record { session = g.session; mode = g.mode; records = l } ∷ hs) (append_assoc g.records xs ys)
    by_test false e further = ap (λ c. if c then longer g ys ∷ behind id xs hs else g ∷ behind id ys (behind id xs hs)) e ∙ ap (λ l. g ∷ l) further

pub behind_none : (id : SessionId) (hs : List Kept) → behind id [] hs ≡ hs
behind_none id [] = refl
behind_none id (g ∷ hs) = by_test (same_session g.session id) (behind_none id hs)
  where
    by_test : (b : Bool) → behind id [] hs ≡ hs → (if b then longer g [] ∷ hs else g ∷ behind id [] hs) ≡ (g ∷ hs)
    by_test true further = ap (λ l. record { session = g.session; mode = g.mode; records = l } ∷ hs) (append-nil g.records)
    by_test false further = ap (λ l. g ∷ l) further
