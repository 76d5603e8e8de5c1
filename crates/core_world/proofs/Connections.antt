-- Looking connections up in the list of a world, after one of them has made a step, or one was opened.
use Rattle.std.proofs.Common.{◌≡◌, ◌++◌, ◌<◌, ◌&&◌, ℕ, List, [], ◌∷◌, Bool, Some, None, refl, sym, ◌∙◌, ap, true, false, arith}
use Rattle.std.specs.Prelude.{◌==◌, if◌then◌else◌}
use Rattle.std.proofs.lemmas.Bool.{eq-eqb, ne_eqb}
use Rattle.mux_history.specs.declared.session.SessionId.{SessionId}
use Rattle.mux_history.specs.declared.session.SessionId.TheVariants.{Client, Server}
use Rattle.mux_model.specs.World.{Connection, same_session}
use Rattle.mux_model.specs.Events.{is_at, connection_at, replaced}

same_number : (n : ℕ) → (n == n) ≡ true
same_number n = eq-eqb n n refl

pub same_self : (a : SessionId) → same_session a a ≡ true
same_self (Client a) = same_number a
same_self (Server a) = same_number a

and_none : (a b : Bool) → b ≡ false → (a && b) ≡ false
and_none true b e = e
and_none false b e = refl

-- who is at this place isn't at one of another session
pub elsewhere : (b b2 : ℕ) (id id2 : SessionId) (x : Connection) → x.session ≡ id → same_session id id2 ≡ false → is_at b2 id2 x ≡ false
elsewhere b b2 id id2 x s e = and_none (x.boot == b2) (same_session x.session id2) (ap (λ i. same_session i id2) s ∙ e)

pub not_yet : (b b2 : ℕ) (id2 : SessionId) (x : Connection) → x.boot ≡ b → b < b2 → is_at b2 id2 x ≡ false
not_yet b b2 id2 x e less = ap (λ t. t && same_session x.session id2) (ap (λ n. n == b2) e ∙ ne_eqb b b2 (λ same. absurd (omega (arith, same, less))))

pub at_here : (b : ℕ) (id : SessionId) (x : Connection) → x.boot ≡ b → x.session ≡ id → is_at b id x ≡ true
at_here b id x e s = ap (λ n. (n == b) && same_session x.session id) e ∙ ap (λ t. t && same_session x.session id) (same_number b) ∙ ap (λ i. same_session i id) s ∙ same_self id

module _ (b : ℕ) (id : SessionId) (new : Connection) where
  -- of the place itself
  pub replaced_here : (cs : List Connection) (c : Connection) → is_at b id new ≡ true → connection_at b id cs ≡ Some c → connection_at b id (replaced b id new cs) ≡ Some new
  replaced_here [] c n e = absurd (cc)
  replaced_here (x ∷ cs) c n e = by_test (is_at b id x) e (replaced_here cs c n) refl
    where
      by_test : (t : Bool) → (if t then Some x else connection_at b id cs) ≡ Some c → (connection_at b id cs ≡ Some c → connection_at b id (replaced b id new cs) ≡ Some new)
          → is_at b id x ≡ t → connection_at b id (if t then new ∷ cs else x ∷ replaced b id new cs) ≡ Some new
      by_test true e rec is = ap (λ t. if t then Some new else connection_at b id cs) n
      by_test false e rec is = ap (λ t. if t then Some x else connection_at b id (replaced b id new cs)) is ∙ rec e

  -- of a place that neither the old nor the new one is at
  pub replaced_off : (b2 : ℕ) (id2 : SessionId) → ((x : Connection) → is_at b id x ≡ true → is_at b2 id2 x ≡ false) → is_at b2 id2 new ≡ false
      → (cs : List Connection) → connection_at b2 id2 (replaced b id new cs) ≡ connection_at b2 id2 cs
  replaced_off b2 id2 apart n [] = refl
  replaced_off b2 id2 apart n (x ∷ cs) = by_test (is_at b id x) refl (replaced_off b2 id2 apart n cs)
    where
      by_test : (t : Bool) → is_at b id x ≡ t → connection_at b2 id2 (replaced b id new cs) ≡ connection_at b2 id2 cs
          → connection_at b2 id2 (if t then new ∷ cs else x ∷ replaced b id new cs) ≡ (if is_at b2 id2 x then Some x else connection_at b2 id2 cs)
      by_test true e rec =
          ap (λ t. if t then Some new else connection_at b2 id2 cs) n ∙ sym (ap (λ t. if t then Some x else connection_at b2 id2 cs) (apart x e))
      by_test false e rec = ap (λ o. if is_at b2 id2 x then Some x else o) rec

-- the one that is opened comes last
pub pushed_here : (b : ℕ) (id : SessionId) (new : Connection) (cs : List Connection) → is_at b id new ≡ true → connection_at b id cs ≡ None → connection_at b id (cs ++ new ∷ []) ≡ Some new
pushed_here b id new [] n e = ap (λ t. if t then Some new else None) n
pushed_here b id new (x ∷ cs) n e = by_test (is_at b id x) e (pushed_here b id new cs n)
  where
    by_test : (t : Bool) → (if t then Some x else connection_at b id cs) ≡ None → (connection_at b id cs ≡ None → connection_at b id (cs ++ new ∷ []) ≡ Some new)
        → (if t then Some x else connection_at b id (cs ++ new ∷ [])) ≡ Some new
    by_test true e rec = absurd (cc)
    by_test false e rec = rec e

pub pushed_off : (b : ℕ) (id : SessionId) (new : Connection) (cs : List Connection) → is_at b id new ≡ false → connection_at b id (cs ++ new ∷ []) ≡ connection_at b id cs
pushed_off b id new [] n = ap (λ t. if t then Some new else None) n
pushed_off b id new (x ∷ cs) n = ap (λ o. if is_at b id x then Some x else o) (pushed_off b id new cs n)
