-- Each move of the round may be added, and what passes know then.
use Rattle.std.proofs.Common.{◌≡◌, ℕ, ◌≤◌, ◌<◌, ◌-◌, ◌==◌, not, inl, inr, Bool, true, false, List, [], ◌∷◌, ◌++◌, length, length-append, Some, None, refl, sym, ap, ◌∙◌, subst, arith, if◌then◌else◌}
use Rattle.std.specs.List.{filter}
use Rattle.std.proofs.lemmas.Bool.{eqb-true, eq-eqb}
use Rattle.mux_message.specs.Reading.{message_of, after_text, after_each, after_pairs, after_all, tdispatch_at, rdispatch_at, tdiscarded_at, tlease_at, init_at}
use Rattle.mux_history.specs.declared.session.SessionId.{SessionId}
use Rattle.mux_history.specs.declared.session.SessionId.TheVariants.{Client, Server}
use Rattle.mux_model.specs.Steps.{TicketOf, SettledBy}
use Rattle.hub_log.specs.Moves.{Claim, Move, value_of, slot_of, is_by, moves_of, connection_of}
use Rattle.hub_log.specs.Bag.{IsOwn}
use Rattle.hub_log.specs.Views.{View, GoesOn, Owns, is_in, without, hands_after, Adds, Added, AddsAll, AddedAll}
use Rattle.hub_log.specs.Rule.{empty_handed, values_of, joined, picked_of}
use Rattle.hub_log.proofs.Claims.{claim_same}
use Rattle.hub_log.proofs.Using.{own_more, given_here, in_one}
use Rattle.tests_threads.specs.Rounds.{example, first_name, asked, replied, client_opens, takes, server_opens, offers, replies, settles, goes_out, Knows, Carries}

-- a pass that has added a move of its session
later : (m : Move) (v w : View) (id : SessionId) (own : List Move) (hands : List Claim) → is_by id m ≡ true → Knows v id own hands → (a : Added example m v w) → Knows w id (m ∷ own) (hands_after m (length a.before) hands)
later m v w id own hands by k a = record {
  owns = (subst (λ n. n ≤ slot_of example id) (sym a.low) k.owns.0, subst (λ n. slot_of example id < n) (sym a.high) k.owns.1);
  moves = own_more example m v w id a k.owns by ∙ ap (λ l. m ∷ l) k.moves;
  hands = a.hands ∙ ap (hands_after m (length a.before)) k.hands;
}

-- what the session did says what it may do
may : (m : Move) (v : View) (own : List Move) (hands : List Claim) → Knows v m.session own hands → IsOwn example m.session m.deed (connection_of example m.session own)
    → IsOwn example m.session m.deed (connection_of example m.session (moves_of m.session v.seen))
may m v own hands k ok = subst (λ l. IsOwn example m.session m.deed (connection_of example m.session l)) (sym k.moves) ok

-- the steps on frames, computed
takes_it : IsOwn example takes.session takes.deed (connection_of example takes.session (client_opens ∷ []))
unfolding message_of after_text after_each after_pairs after_all tdispatch_at rdispatch_at tdiscarded_at tlease_at init_at
takes_it = (0, tt, refl)

replies_it : (c : Claim) → IsOwn example replies.session replies.deed (connection_of example replies.session (offers c ∷ server_opens ∷ []))
unfolding message_of after_text after_each after_pairs after_all tdispatch_at rdispatch_at tdiscarded_at tlease_at init_at
replies_it c = (0, tt, refl)

-- the client's side begins
pub may_begin : (v : View) → Knows v (Client 1) [] [] → AddsAll example v (client_opens ∷ takes ∷ [])
may_begin v k = (
  record { given = inl refl; used = λ c e. absurd cc; by = k.owns; own = may client_opens v [] [] k refl },
  λ w a.
      let n = later client_opens v w (Client 1) [] [] refl k a in
      (record { given = inl tt; used = λ c e. absurd cc; by = n.owns; own = may takes w (client_opens ∷ []) _ n takes_it }, λ u b. tt),
)

pub began : (v w : View) → Knows v (Client 1) [] [] → AddedAll example (client_opens ∷ takes ∷ []) v w → Knows (empty_handed w) (Client 1) (takes ∷ client_opens ∷ []) [] × Carries (values_of w) takes
began v w k d =
    let opened = later client_opens v d.0 (Client 1) [] [] refl k d.1 in
    let took = later takes d.0 d.2.0 (Client 1) (client_opens ∷ []) _ refl opened d.2.1 in
    let is : w ≡ d.2.0 = d.2.2 in (
      record { owns = subst (λ (x : View). Owns example x (Client 1)) (sym is) took.owns; moves = ap (λ (x : View). moves_of (Client 1) x.seen) is ∙ took.moves; hands = refl },
      record { before = d.2.1.before; seen = ap (λ (x : View). x.seen) is ∙ d.2.1.seen; hands = ap (λ (x : View). x.hands) is ∙ took.hands },
    )

-- the server's side is opened
pub may_open : (v : View) → Knows v (Server 0) [] [] → Adds example v server_opens
may_open v k = record { given = inl refl; used = λ c e. absurd cc; by = k.owns; own = may server_opens v [] [] k tt }

pub opened : (v w : View) → Knows v (Server 0) [] [] → Added example server_opens v w → Knows w (Server 0) (server_opens ∷ []) []
opened v w k a = later server_opens v w (Server 0) [] [] refl k a

-- a pass that has taken in another
took_in : (v w : View) (id : SessionId) (own : List Move) (m : Move) → Knows v id own [] → (c : Carries w m) → Knows (joined v w) id own (record { place = length c.before; which = 0 } ∷ [])
took_in v w id own m k c = record { owns = k.owns; moves = k.moves; hands = ap (λ hs. hs ++ w.hands) k.hands ∙ c.hands }

same_one : (c d : Claim) → Some c ≡ Some d → (hs : List Claim) → hs ≡ c ∷ [] → is_in d hs ≡ true
same_one c d e hs is = subst (λ x. is_in x hs ≡ true) (let same : c ≡ d = cc in same) (ap (is_in c) is ∙ in_one c)

-- the server's side takes the dispatch, and its reply comes
pub may_serve : (v w : View) → Knows v (Server 0) (server_opens ∷ []) [] → (c : Carries w takes) → AddsAll example (joined v w) (offers (record { place = length c.before; which = 0 }) ∷ replies ∷ [])
may_serve v w k c =
    let at : Claim = record { place = length c.before; which = 0 } in
    let j = took_in v w (Server 0) (server_opens ∷ []) takes k c in (
      record {
        given = inr (TicketOf first_name asked 0, ap (value_of at) c.seen ∙ given_here takes c.before 0 (TicketOf first_name asked 0) refl, refl);
        used = λ d e. same_one at d e (joined v w).hands j.hands;
        by = j.owns;
        own = may (offers at) (joined v w) (server_opens ∷ []) (at ∷ []) j (2, (omega arith, omega arith, refl), refl);
      },
      λ u a.
          let n = later (offers at) (joined v w) u (Server 0) (server_opens ∷ []) (at ∷ []) refl j a in
          (record { given = inl tt; used = λ d e. absurd cc; by = n.owns; own = may replies u (offers at ∷ server_opens ∷ []) _ n (replies_it at) }, λ x b. tt),
    )

-- of the two values the last one is cut off
none_left : (c : Claim) → without c (c ∷ []) ≡ []
none_left c = ap (λ b. if not b then c ∷ [] else []) (claim_same c)

lower : (a b : ℕ) → a < b → (a == b) ≡ false
lower a b lt = by_test (a == b) refl
  where
    by_test : (x : Bool) → (a == b) ≡ x → x ≡ false
    by_test true e = (let same : a ≡ b = eqb-true a b e in absurd (omega arith))
    by_test false e = refl

only_last : (a b : ℕ) → a < b → filter (λ (c : Claim). c.place == b) (record { place = a; which = 0 } ∷ record { place = b; which = 0 } ∷ []) ≡ record { place = b; which = 0 } ∷ []
only_last a b lt =
    let first : Claim = record { place = a; which = 0 } in
    let last : Claim = record { place = b; which = 0 } in
    ap (λ x. if x then first ∷ filter (λ (c : Claim). c.place == b) (last ∷ []) else filter (λ (c : Claim). c.place == b) (last ∷ [])) (lower a b lt)
    ∙ ap (λ x. if x then last ∷ [] else []) (eq-eqb b b refl)

longer : (xs ys : List Move) → GoesOn xs ys → length xs ≤ length ys
longer xs ys g = omega (arith, ap length g.1, length-append g.0 xs)

pub served : (v w : View) (at : Claim) → Knows v (Server 0) (server_opens ∷ []) (at ∷ []) → AddedAll example (offers at ∷ replies ∷ []) v w → Carries (picked_of (λ c. c.place == length w.seen - 1) w) replies
served v w at k d =
    let first = later (offers at) v d.0 (Server 0) (server_opens ∷ []) (at ∷ []) refl k d.1 in
    let second = later replies d.0 d.2.0 (Server 0) (offers at ∷ server_opens ∷ []) _ refl first d.2.1 in
    let is : w ≡ d.2.0 = d.2.2 in
    let a = length d.1.before in
    let b = length d.2.1.before in
    let seen : w.seen ≡ replies ∷ d.2.1.before = ap (λ (x : View). x.seen) is ∙ d.2.1.seen in
    let at_end : length w.seen - 1 ≡ b = omega (arith, ap length seen) in
    let lt : a < b = omega (arith, longer d.0.seen d.2.1.before d.2.1.later, ap length d.1.seen) in
    let has : w.hands ≡ record { place = a; which = 0 } ∷ record { place = b; which = 0 } ∷ [] =
    ap (λ (x : View). x.hands) is ∙ (second.hands ∙ ap (λ hs. (hs ++ record { place = a; which = 0 } ∷ []) ++ record { place = b; which = 0 } ∷ []) (none_left at)) in
    record {
      before = d.2.1.before;
      seen = seen;
      hands = (λ i. filter (λ (c : Claim). c.place == at_end i) (has i)) ∙ only_last a b lt;
    }

-- the server's pass with the ticket
pub holds_one : (v w : View) (id : SessionId) (own : List Move) (m : Move) (c : Claim) → Knows v id own [] → Carries w m → (joined v w).hands ≡ c ∷ [] → Knows (joined v w) id own (c ∷ [])
holds_one v w id own m c k d e = record { owns = k.owns; moves = k.moves; hands = e }

-- the client's side passes the reply on
pub may_settle : (v w : View) → Knows v (Client 1) (takes ∷ client_opens ∷ []) [] → (c : Carries w replies) → Adds example (joined v w) (settles first_name (record { place = length c.before; which = 0 }))
may_settle v w k c =
    let at : Claim = record { place = length c.before; which = 0 } in
    let j = took_in v w (Client 1) (takes ∷ client_opens ∷ []) replies k c in
    record {
      given = inr (SettledBy first_name replied None, ap (value_of at) c.seen ∙ given_here replies c.before 0 (SettledBy first_name replied None) refl, (refl, refl));
      used = λ d e. same_one at d e (joined v w).hands j.hands;
      by = j.owns;
      own = may (settles first_name at) (joined v w) (takes ∷ client_opens ∷ []) (at ∷ []) j (0, tt, refl);
    }
