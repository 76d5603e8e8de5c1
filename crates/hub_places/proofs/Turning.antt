-- Each deed of a past is a turn of its connection.
use Rattle.std.proofs.Common.{◌≡◌, ℕ, zero, suc, ◌+◌, ◌==◌, ◌&&◌, Bool, true, false, true≢false, List, [], ◌∷◌, ◌++◌, append_assoc, length, length-append, Option, None, Some, refl, sym, ap, ◌∙◌, subst, arith, if◌then◌else◌}
use Rattle.std.specs.Prelude.{slice_get, drop, map, is_some}
use Rattle.std.proofs.lemmas.Bool.{eqb-true, eq-eqb}
use Rattle.std.specs.Option.{option_to_list}
use Rattle.mux_frame.specs.Spelling.{MuxFrame}
use Rattle.mux_frame.specs.Views.{FrameView}
use Rattle.mux_history.specs.Readings.{has_ended}
use Rattle.mux_history.specs.declared.session.SessionId.TheVariants.{Client, Server}
use Rattle.mux_model.specs.Entries.{Exchange}
use Rattle.mux_model.specs.Steps.{entries, records, sent_at, sent_count}
use Rattle.mux_model.specs.World.{Connection}
use Rattle.server_session.specs.Past as downs
use Rattle.server_session.specs.Steps as down_steps
use Rattle.client_session.specs.Past as ups
use Rattle.client_session.specs.Steps as up_steps
use Rattle.hub_log.specs.declared.terms.Terms.{Terms}
use Rattle.hub_log.specs.Moves.{Deed, Opened, Did, Quiet, TookOut, after}
use Rattle.hub_log.specs.Bag.{IsOwn, GivesOut}
use Rattle.hub_places.specs.MovesDown.{connection_down, LeadsDown}
use Rattle.hub_places.specs.MovesUp.{connection_up, LeadsUp}

-- the message that a list sent at a place, in the list of all that it sent
count_is : (es : List Exchange) → sent_count es ≡ length (downs.sent_of es)
count_is [] = refl
count_is (e ∷ old) = by_sent e.sent (count_is old)
  where
    by_sent : (sent : Option MuxFrame) → sent_count old ≡ length (downs.sent_of old) → ◌≡◌ {A = ℕ} (if is_some sent then sent_count old + 1 else sent_count old) (length (downs.sent_of old ++ option_to_list sent))
    by_sent None h = omega (arith, h, length-append (downs.sent_of old) [])
    by_sent (Some f) h = omega (arith, h, length-append (downs.sent_of old) (f ∷ []))

at_last : (xs : List MuxFrame) (f : MuxFrame) → slice_get (xs ++ f ∷ []) (length xs) ≡ Some f
at_last [] f = refl
at_last (x ∷ xs) f = at_last xs f

at_other : (xs : List MuxFrame) (f : MuxFrame) (k : ℕ) → (length xs ≡ k → ⊥) → slice_get (xs ++ f ∷ []) k ≡ slice_get xs k
at_other [] f zero n = absurd (n refl)
at_other [] f (suc k) n = refl
at_other (x ∷ xs) f zero n = refl
at_other (x ∷ xs) f (suc k) n = at_other xs f k (λ e. n (ap suc e))

sent_is : (k : ℕ) (es : List Exchange) → sent_at k es ≡ slice_get (downs.sent_of es) k
sent_is k [] = refl
sent_is k (e ∷ old) = by_sent e.sent (sent_is k old)
  where
    by_sent : (sent : Option MuxFrame) → sent_at k old ≡ slice_get (downs.sent_of old) k
        → (if is_some sent && sent_count old == k then sent else sent_at k old) ≡ slice_get (downs.sent_of old ++ option_to_list sent) k
    by_sent None h = h ∙ ap (λ xs. slice_get xs k) (sym (nothing_behind (downs.sent_of old)))
      where
        nothing_behind : (xs : List MuxFrame) → xs ++ [] ≡ xs
        nothing_behind [] = refl
        nothing_behind (x ∷ xs) = ap (λ ys. x ∷ ys) (nothing_behind xs)
    by_sent (Some f) h = by_place (sent_count old == k) refl
      where
        by_place : (b : Bool) → (sent_count old == k) ≡ b → (if b then Some f else sent_at k old) ≡ slice_get (downs.sent_of old ++ f ∷ []) k
        by_place true e = sym (ap (slice_get (downs.sent_of old ++ f ∷ [])) (sym (eqb-true (sent_count old) k e) ∙ count_is old) ∙ at_last (downs.sent_of old) f)
        by_place false e = h ∙ sym (at_other (downs.sent_of old) f k (λ is. true≢false (sym (eq-eqb (sent_count old) k (count_is old ∙ is)) ∙ e)))

-- what is left of a list from a place on
drop_next : (xs : List MuxFrame) (k : ℕ) (f : MuxFrame) (fs : List MuxFrame) → f ∷ fs ≡ drop k xs → (slice_get xs k ≡ Some f) × (fs ≡ drop (suc k) xs)
drop_next [] zero f fs e = absurd cc
drop_next [] (suc k) f fs e = absurd cc
drop_next (x ∷ xs) zero f fs e = (ap Some (let same : x ≡ f = cc in same), (let same : fs ≡ xs = cc in same))
drop_next (x ∷ xs) (suc k) f fs e = drop_next xs k f fs e

-- the frames that a client's session has to send are taken out one after another
module _ (c : Connection) (going : has_ended (records c.steps) ≡ false) where
  gives_all : (fs : List MuxFrame) (k : ℕ) → fs ≡ drop k (downs.sent_of (entries c.steps)) → GivesOut (record c { out = k }) fs
  gives_all [] k e = tt
  gives_all (f ∷ fs) k e =
      let n = drop_next (downs.sent_of (entries c.steps)) k f fs e in
      (ap (λ b. if b then None else sent_at k (entries c.steps)) going ∙ (sent_is k (entries c.steps) ∙ n.0), gives_all fs (k + 1) (n.1 ∙ ap (λ m. drop m (downs.sent_of (entries c.steps))) (let next : suc k ≡ k + 1 = omega arith in next)))

pub takes_out : (p : downs.Past) (frames : List MuxFrame) → frames ≡ down_steps.next_outs p → GivesOut (connection_down p) frames
takes_out p frames e = by_end (has_ended (records p.steps)) refl e
  where
    by_end : (b : Bool) → has_ended (records p.steps) ≡ b → frames ≡ (if b then [] else drop (length p.out) (downs.sent_of (entries p.steps))) → GivesOut (connection_down p) frames
    by_end true is f = subst (GivesOut (connection_down p)) (sym f) tt
    by_end false is f = gives_all (connection_down p) is frames (length p.out) f

down_own : (t : Terms) (p q : downs.Past) (deed : Deed) → p.session.limits ≡ t.limits → LeadsDown p deed q → IsOwn t (Client p.session.number) deed (Some (connection_down p))
down_own t p q (Opened mode) limits led = absurd led
down_own t p q (Did call entry gives) limits led = subst (λ b. IsOwn (record t { limits = b }) (Client p.session.number) (Did call entry gives) (Some (connection_down p))) limits (0, tt, led.0)
down_own t p q (Quiet call) limits led = subst (λ b. IsOwn (record t { limits = b }) (Client p.session.number) (Quiet call) (Some (connection_down p))) limits (0, led.0)
down_own t p q (TookOut frames) limits led = led.0

down_after : (t : Terms) (p q : downs.Past) (deed : Deed) → LeadsDown p deed q → (after t (Client p.session.number) deed (Some (connection_down p)) ≡ Some (connection_down q)) × (q.session ≡ p.session)
down_after t p q (Opened mode) led = absurd led
down_after t p q (Did call entry gives) led = (ap (λ x. Some (connection_down x)) (sym led.1), ap (λ (x : downs.Past). x.session) led.1)
down_after t p q (Quiet call) led = (ap (λ x. Some (connection_down x)) (sym led.1), ap (λ (x : downs.Past). x.session) led.1)
down_after t p q (TookOut frames) led = (
  ap (λ n. Some (record (connection_down p) { out = n })) (sym (length-append p.out frames)) ∙ ap (λ x. Some (connection_down x)) (sym led.1),
  ap (λ (x : downs.Past). x.session) led.1,
)

-- the log may have such a deed as the session's own, and then has the next past
pub deeds_are_turns_down :
    (t : Terms) (p q : downs.Past) (deed : Deed) → p.session.limits ≡ t.limits → LeadsDown p deed q
    → IsOwn t (Client p.session.number) deed (Some (connection_down p))
    × (after t (Client p.session.number) deed (Some (connection_down p)) ≡ Some (connection_down q))
    × (q.session ≡ p.session)
deeds_are_turns_down t p q deed limits led = (let a = down_after t p q deed led in (down_own t p q deed limits led, a.0, a.1))

-- a server's session
one_more : (boot : ℕ) (p r : ups.Past) (f : MuxFrame) → r ≡ record p { out = p.out ++ f ∷ [] } → connection_up boot r ≡ record (connection_up boot p) { out = length p.out + 1 }
one_more boot p r f s = ap (connection_up boot) s ∙ ap (λ n. record (connection_up boot p) { out = n }) (length-append p.out (f ∷ []))

nothing_behind : (xs : List MuxFrame) → xs ++ [] ≡ xs
nothing_behind [] = refl
nothing_behind (x ∷ xs) = ap (λ ys. x ∷ ys) (nothing_behind xs)

pub takes_all : (views : List FrameView) (p q : ups.Past) → up_steps.TakeOutsStep p views q
    → ((boot : ℕ) → GivesOut (connection_up boot p) (map (λ f. f.frame) views)) × (q ≡ record p { out = p.out ++ map (λ f. f.frame) views })
takes_all [] p q s = (λ boot. tt, s.1)
takes_all (f ∷ fs) p q s =
    let r = s.0 in
    let rest = takes_all fs r q s.2 in
    let frames = map (λ (g : FrameView). g.frame) fs in (
      λ boot. (sym s.1.0, subst (λ c. GivesOut c frames) (one_more boot p r f.frame s.1.1) (rest.0 boot)),
      rest.1 ∙ (λ i. record (s.1.1 i) { out = (s.1.1 i).out ++ frames }) ∙ ap (λ xs. record p { out = xs }) (append_assoc p.out (f.frame ∷ []) frames),
    )

up_own : (t : Terms) (boot : ℕ) (p q : ups.Past) (deed : Deed) → p.session.limits ≡ t.server_limits → LeadsUp p deed q → IsOwn t (Server p.session.number) deed (Some (connection_up boot p))
up_own t boot p q (Opened mode) limits led = absurd led
up_own t boot p q (Did call entry gives) limits led = subst (λ b. IsOwn (record t { server_limits = b }) (Server p.session.number) (Did call entry gives) (Some (connection_up boot p))) limits (led.0, led.1, led.2)
up_own t boot p q (Quiet call) limits led = subst (λ b. IsOwn (record t { server_limits = b }) (Server p.session.number) (Quiet call) (Some (connection_up boot p))) limits (led.0, led.1)
up_own t boot p q (TookOut frames) limits led = led.0 boot

up_after : (t : Terms) (boot : ℕ) (p q : ups.Past) (deed : Deed) → LeadsUp p deed q → (after t (Server p.session.number) deed (Some (connection_up boot p)) ≡ Some (connection_up boot q)) × (q.session ≡ p.session)
up_after t boot p q (Opened mode) led = absurd led
up_after t boot p q (Did call entry gives) led = (ap (λ x. Some (connection_up boot x)) (sym led.3), ap (λ (x : ups.Past). x.session) led.3)
up_after t boot p q (Quiet call) led = (ap (λ x. Some (connection_up boot x)) (sym led.2), ap (λ (x : ups.Past). x.session) led.2)
up_after t boot p q (TookOut frames) led = (
  ap (λ n. Some (record (connection_up boot p) { out = n })) (sym (length-append p.out frames)) ∙ ap (λ x. Some (connection_up boot x)) (sym led.1),
  ap (λ (x : ups.Past). x.session) led.1,
)

-- the log may have such a deed as the session's own, and then has the next past
pub deeds_are_turns_up :
    (t : Terms) (boot : ℕ) (p q : ups.Past) (deed : Deed) → p.session.limits ≡ t.server_limits → LeadsUp p deed q
    → IsOwn t (Server p.session.number) deed (Some (connection_up boot p))
    × (after t (Server p.session.number) deed (Some (connection_up boot p)) ≡ Some (connection_up boot q))
    × (q.session ≡ p.session)
deeds_are_turns_up t boot p q deed limits led = (let a = up_after t boot p q deed led in (up_own t boot p q deed limits led, a.0, a.1))
