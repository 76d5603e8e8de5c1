-- Servers that are opened one after the other.
use Rattle.std.proofs.Common.{ℕ, List, [], ◌∷◌, ◌+◌, ◌≡◌, ◌≤◌, ◌<◌, Bool, true, false, refl, sym, ◌∙◌, ap, subst, arith, Option, Some, None, length, take, get_or, replicate}
use Rattle.std.specs.Prelude.{is_some, map, nat_lt, reverse}
use Rattle.std.specs.List.{enumerate_from}
use Rattle.std.proofs.lemmas.List.{map-append, reverse-append, take_all, take_more}
use Rattle.std.proofs.lemmas.List.FromFn.{get_or-enumerate_from, length-enumerate_from}
use Rattle.mux_history.specs.declared.session.InitMode.{InitMode}
use Rattle.mux_history.specs.declared.session.SessionId.{SessionId}
use Rattle.mux_history.specs.declared.session.SessionId.TheVariants.{Client, Server}
use Rattle.mux_agree.specs.Walk.{Kept}
use Rattle.rolling_audit.specs.declared.rolling.RollingAudit.{RollingAudit}
use Rattle.rolling_audit.specs.declared.trail.Trail.{Trail}
use Rattle.rolling_audit.specs.Histories.{same_session, unwritten}
use Rattle.rolling_audit.specs.Steps.{OpensIn}
use Rattle.rolling_audit.specs.Taken.{IsTaken, trail_of}
use Rattle.rolling_audit.proofs.Behinds.{same_is}
use Rattle.rolling_audit.specs.Opening.{AreFirstOpen, IsOpen, fresh_server, fresh_servers}

-- a session that was opened is open, and what was open stays so
pub opened_own : (old new : RollingAudit) (id : SessionId) (mode : InitMode) → OpensIn old id mode new → IsOpen new id
opened_own old new id mode o = ap is_some o.own

pub opened_still : (old new : RollingAudit) (id q : SessionId) (mode : InitMode) → OpensIn old id mode new → IsOpen old q → IsOpen new q
opened_still old new id q mode o was = by_test (same_session id q) refl
  where
    by_test : (b : Bool) → same_session id q ≡ b → IsOpen new q
    by_test true e = subst (IsOpen new) (same_is id q e) (opened_own old new id mode o)
    by_test false e = ap is_some (o.others q e) ∙ was

-- SERVERS

-- so many servers are open, and no other session
pub record AreOpened (modes : List InitMode) (slots n : ℕ) (a : RollingAudit) : Type 0 where
  pub taken : IsTaken (reverse (map fresh_server (take n (enumerate_from 0 modes)))) a
  pub lasts : a.lasts.items ≡ replicate slots 0
  pub begun : (k : ℕ) → k < n → IsOpen a (Server k)
  pub shut : (k : ℕ) → n ≤ k → trail_of a (Server k) ≡ None
  pub clients : (k : ℕ) → trail_of a (Client k) ≡ None
  pub within : n ≤ length modes

pub opened_none : (modes : List InitMode) (slots : ℕ) (a : RollingAudit) → IsTaken [] a → a.lasts.items ≡ replicate slots 0 → AreOpened modes slots 0 a
opened_none modes slots a taken lasts =
    record { taken = taken; lasts = lasts; begun = λ k h. absurd (omega (arith, h)); shut = λ k h. none (Server k) (trail_of a (Server k)) refl; clients = λ k. none (Client k) (trail_of a (Client k)) refl; within = omega arith }
  where
    none : (id : SessionId) (o : Option Trail) → trail_of a id ≡ o → trail_of a id ≡ None
    none id None is = is
    none id (Some s) is = let no = (taken.leads id s is).1 in absurd (cc no)

pub opened_more : (modes : List InitMode) (slots n : ℕ) (d : InitMode) (old new : RollingAudit) → n < length modes → AreOpened modes slots n old →
    OpensIn old (Server n) (get_or modes n d) new → new.lasts.items ≡ old.lasts.items →
    ((hs : List Kept) → IsTaken hs old → IsTaken (unwritten (Server n) (get_or modes n d) ∷ hs) new) → AreOpened modes slots (n + 1) new
opened_more modes slots n d old new within was o lasts taken =
    record {
      taken = subst (λ hs. IsTaken hs new) (sym one_further) (taken _ was.taken);
      lasts = lasts ∙ was.lasts;
      begun = begun;
      shut = shut;
      clients = λ k. o.others (Client k) refl ∙ was.clients k;
      within = omega (arith, within);
    }
  where
    entry : get_or (enumerate_from 0 modes) n (0, d) ≡ (n, get_or modes n d)
    entry = get_or-enumerate_from 0 modes n (0, d) within ∙ ap (λ m. (m, get_or modes n d)) (count n)
      where
        count : (n : ℕ) → 0 + n ≡ n
        count n = omega arith

    one_further : reverse (map fresh_server (take (n + 1) (enumerate_from 0 modes)))
        ≡ unwritten (Server n) (get_or modes n d) ∷ reverse (map fresh_server (take n (enumerate_from 0 modes)))
    one_further =
        ap (λ xs. reverse (map fresh_server xs)) (take_more (enumerate_from 0 modes) n (0, d) (subst (λ m. n < m) (sym (length-enumerate_from 0 modes)) within))
        ∙ (ap reverse (map-append fresh_server (take n (enumerate_from 0 modes)) (get_or (enumerate_from 0 modes) n (0, d) ∷ []))
        ∙ (reverse-append (map fresh_server (take n (enumerate_from 0 modes))) (fresh_server (get_or (enumerate_from 0 modes) n (0, d)) ∷ [])
        ∙ ap (λ e. fresh_server e ∷ reverse (map fresh_server (take n (enumerate_from 0 modes)))) entry))

    begun : (k : ℕ) → k < n + 1 → IsOpen new (Server k)
    begun k h = by_test (same_session (Server n) (Server k)) refl
      where
        by_test : (b : Bool) → same_session (Server n) (Server k) ≡ b → IsOpen new (Server k)
        by_test true e = subst (IsOpen new) (same_is (Server n) (Server k) e) (opened_own old new (Server n) (get_or modes n d) o)
        by_test false e = opened_still old new (Server n) (Server k) (get_or modes n d) o (was.begun k (below e))
          where
            below : same_session (Server n) (Server k) ≡ false → k < n
            below off = grind (arith, h, off)

    shut : (k : ℕ) → n + 1 ≤ k → trail_of new (Server k) ≡ None
    shut k h = o.others (Server k) (other h) ∙ was.shut k (omega (arith, h))
      where
        other : n + 1 ≤ k → same_session (Server n) (Server k) ≡ false
        other h = grind (arith, h)

pub opened_all : (modes : List InitMode) (slots n : ℕ) (a : RollingAudit) → length modes ≤ n → AreOpened modes slots n a → IsTaken (fresh_servers modes) a × AreFirstOpen a modes
opened_all modes slots n a past was = (
  subst (λ l. IsTaken (reverse (map fresh_server l)) a) (take_all n (enumerate_from 0 modes) (subst (λ m. m ≤ n) (sym (length-enumerate_from 0 modes)) past)) was.taken,
  first,
)
  where
    server : (k : ℕ) (b : Bool) → nat_lt k (length modes) ≡ b → is_some (trail_of a (Server k)) ≡ b
    server k true e = was.begun k (low e)
      where
        low : nat_lt k (length modes) ≡ true → k < n
        low e = grind (arith, e, past)
    server k false e = ap is_some (was.shut k (high e))
      where
        high : nat_lt k (length modes) ≡ false → n ≤ k
        high e = let within = was.within in grind (arith, e, within)

    first : AreFirstOpen a modes
    first (Client k) = ap is_some (was.clients k)
    first (Server k) = server k (nat_lt k (length modes)) refl
