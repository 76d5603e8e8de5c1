-- What an event computes is a world that is reached.
use Rattle.std.proofs.Common.{length, subst, ℕ, List, [], ◌∷◌, ◌++◌, ◌+◌, ◌≡◌, Bool, true, false, Option, Some, None, Ok, Err, refl, sym, ◌∙◌, ap}
use Rattle.std.specs.Prelude.{◌==◌, if◌then◌else◌, Result}
use Rattle.std.proofs.lemmas.Bool.{eqb-true, and_parts}
use Rattle.mux_history.specs.declared.session.SessionId.{SessionId}
use Rattle.mux_history.specs.declared.session.SessionId.TheVariants.{Client, Server}
use Rattle.mux_model.specs.Steps.{Held, TicketOf, PlacedAt, SettledBy, RecallOf, LostOf, Call, Outcome, Refused, Unrecorded, Recorded}
use Rattle.mux_model.specs.World.{World, Connection, Hand, Reached, opens_client, opens_server, moves, passes, takes_out, restarts, same_session, Leaves, all_left, all_but, NeedsNone, IsSpentBy, outcome, MayChooseAt, numbered, stepped, next_out}
use Rattle.mux_model.specs.Events.{Event, OpenClient, OpenServer, On, Spend, TakeOutOf, Restart, Use, Offer, Note, Settle, Nack, Unroute, Fail, Recall, Bare, Frame, Drain, LoseNext, Seal, Roll, Lose, Clock, Ping, Retire, plain_call, EventRefusal, spent, is_at, connection_at, replaced, hand_at, without_hand, after_outcome, on_session, on_hand, spends, takes, happens, ChoosesFree, IsFreeOn, OnAccepted, world_or, run, AllChooseFree, IsFreeFor, NoSuchSession, after_out, is_missing}
use Rattle.mux_frame.specs.Spelling.{MuxFrame}

pub same_sessions : (a b : SessionId) → same_session a b ≡ true → a ≡ b
same_sessions (Client a) (Client b) h = ap Client (eqb-true a b h)
same_sessions (Server a) (Server b) h = ap Server (eqb-true a b h)
same_sessions (Client a) (Server b) h = absurd (cc)
same_sessions (Server a) (Client b) h = absurd (cc)

-- where a connection stands in the list
pub record IsFound (boot : ℕ) (id : SessionId) (cs : List Connection) (c : Connection) : Type 0 where
  before : List Connection
  after : List Connection
  is : cs ≡ before ++ c ∷ after
  with : (new : Connection) → replaced boot id new cs ≡ before ++ new ∷ after
  pub present : c.boot ≡ boot
  pub named : c.session ≡ id

found_here : (boot : ℕ) (id : SessionId) (x : Connection) (cs : List Connection) → is_at boot id x ≡ true → IsFound boot id (x ∷ cs) x
found_here boot id x cs e =
    let p = and_parts _ _ e in
    record {
      before = [];
      after = cs;
      is = refl;
      with = λ new. ap (λ b. if b then new ∷ cs else x ∷ replaced boot id new cs) e;
      present = eqb-true x.boot boot p.0;
      named = same_sessions x.session id p.1;
    }

found_later : (boot : ℕ) (id : SessionId) (x : Connection) (cs : List Connection) (c : Connection) → is_at boot id x ≡ false → IsFound boot id cs c → IsFound boot id (x ∷ cs) c
found_later boot id x cs c e r = record {
  before = x ∷ r.before;
  after = r.after;
  is = ap (λ l. x ∷ l) r.is;
  with = λ new. ap (λ b. if b then new ∷ cs else x ∷ replaced boot id new cs) e ∙ ap (λ l. x ∷ l) (r.with new);
  present = r.present;
  named = r.named;
}

pub found : (boot : ℕ) (id : SessionId) (cs : List Connection) (c : Connection) → connection_at boot id cs ≡ Some c → IsFound boot id cs c
found boot id [] c h = absurd (cc)
found boot id (x ∷ cs) c h = by_test (is_at boot id x) refl h (found boot id cs c)
  where
    by_test : (b : Bool) → is_at boot id x ≡ b → (if b then Some x else connection_at boot id cs) ≡ Some c → (connection_at boot id cs ≡ Some c → IsFound boot id cs c) → IsFound boot id (x ∷ cs) c
    by_test true e g rec = (let same : x ≡ c = cc in subst (IsFound boot id (x ∷ cs)) same (found_here boot id x cs e))
    by_test false e g rec = found_later boot id x cs c e (rec g)

-- where a value stands in the bag
record IsHeld (k : ℕ) (hs : List Hand) (h : Hand) : Type 0 where
  before : List Hand
  after : List Hand
  is : hs ≡ before ++ h ∷ after
  without : without_hand k hs ≡ before ++ after

held : (k : ℕ) (hs : List Hand) (h : Hand) → hand_at k hs ≡ Some h → IsHeld k hs h
held k [] h e = absurd (cc)
held k (x ∷ hs) h e = by_test (x.number == k) refl e (held k hs h)
  where
    by_test : (b : Bool) → (x.number == k) ≡ b → (if b then Some x else hand_at k hs) ≡ Some h → (hand_at k hs ≡ Some h → IsHeld k hs h) → IsHeld k (x ∷ hs) h
    by_test true e g rec =
        (let same : x ≡ h = cc in record { before = []; after = hs; is = ap (λ y. y ∷ hs) same; without = ap (λ b. if b then hs else x ∷ without_hand k hs) e })
    by_test false e g rec =
        (let r = rec g in record {
          before = x ∷ r.before;
          after = r.after;
          is = ap (λ l. x ∷ l) r.is;
          without = ap (λ b. if b then hs else x ∷ without_hand k hs) e ∙ ap (λ l. x ∷ l) r.without;
        })

where_accepted : {A B : Type 0} (x : Result World EventRefusal) → (A → B) → OnAccepted x (λ _. A) → OnAccepted x (λ _. B)
where_accepted (Ok w) f a = f a
where_accepted (Err why) f a = tt

pub accepted_all : {A : Type 0} (x : Result World EventRefusal) → A → OnAccepted x (λ _. A)
accepted_all (Ok w) a = a
accepted_all (Err why) a = tt

module _ (w : World) (r : Reached w) where
  -- an outcome on a connection of this boot
  outcome_reached : (rest : List Hand) (t : ℕ) (id : SessionId) (call : Call) (c : Connection) → IsFound w.boot id w.connections c →
      (o : Outcome) → OnAccepted (after_outcome w rest id c call o) (λ _. MayChooseAt w.limits c c.session t call) → Leaves w.hands c.session call rest → outcome w.limits c t call ≡ o →
      OnAccepted (after_outcome w rest id c call o) Reached
  outcome_reached rest t id call c f (Refused why) may leaves e = tt
  outcome_reached rest t id call c f Unrecorded may leaves e =
      passes (record { before = f.before; connection = c; after = f.after; is = f.is; present = f.present; tag = t; call = call; does = e; rest = rest; leaves = leaves }) r
  outcome_reached rest t id call c f (Recorded entry gives) may leaves e =
      subst (λ cs. Reached (record w { connections = cs; hands = rest ++ numbered w.next_hand gives; next_hand = w.next_hand + length gives })) (sym (f.with (stepped c call entry)))
      (moves (record { before = f.before; connection = c; after = f.after; is = f.is; present = f.present; tag = t; call = call; entry = entry; gives = gives; may = may; does = e; rest = rest; leaves = leaves }) r)

  session_reached : (rest : List Hand) (t : ℕ) (id : SessionId) (call : Call) (o : Option Connection) → connection_at w.boot id w.connections ≡ o →
      OnAccepted (on_session w rest t id call o) (λ _. (c : Connection) → connection_at w.boot id w.connections ≡ Some c → MayChooseAt w.limits c id t call) → Leaves w.hands id call rest →
      OnAccepted (on_session w rest t id call o) Reached
  session_reached rest t id call None e may leaves = tt
  session_reached rest t id call (Some c) e may leaves =
      let f = found w.boot id w.connections c e in
      outcome_reached rest t id call c f (outcome w.limits c t call)
      (where_accepted (after_outcome w rest id c call (outcome w.limits c t call)) (λ m. subst (λ i. MayChooseAt w.limits c i t call) (sym f.named) (m c e)) may)
      (subst (λ i. Leaves w.hands i call rest) (sym f.named) leaves) refl

  -- a step that needs no value
  plain_none : (step : Bare) → NeedsNone (plain_call step)
  plain_none (Frame f now) = tt
  plain_none Drain = tt
  plain_none LoseNext = tt
  plain_none Seal = tt
  plain_none Roll = tt
  plain_none (Lose now) = tt
  plain_none (Clock now) = tt
  plain_none (Ping now) = tt
  plain_none (Retire now) = tt

  plain_may : (t : ℕ) (c : Connection) (id : SessionId) (step : Bare) → MayChooseAt w.limits c id t (plain_call step)
  plain_may t c (Client k) step = tt
  plain_may t c (Server k) (Frame f now) = tt
  plain_may t c (Server k) Drain = tt
  plain_may t c (Server k) LoseNext = tt
  plain_may t c (Server k) Seal = tt
  plain_may t c (Server k) Roll = tt
  plain_may t c (Server k) (Lose now) = tt
  plain_may t c (Server k) (Clock now) = tt
  plain_may t c (Server k) (Ping now) = tt
  plain_may t c (Server k) (Retire now) = tt

  -- a value goes where it is spent
  abbrev Fits : Held → Option (SessionId × Call) → Type 0
  Fits h None = Unit {0}
  Fits h (Some a) = IsSpentBy h a.0 a.1

  fits : (h : Held) (by : Use) → Fits h (spent h by)
  fits (TicketOf n f left) (Offer s now) = refl
  fits (TicketOf n f left) Nack = ((f, left, refl), refl)
  fits (TicketOf n f left) Unroute = ((f, left, refl), refl)
  fits (PlacedAt n s t) Note = (refl, refl)
  fits (SettledBy n x again) Settle = (refl, refl)
  fits (LostOf n) Fail = (refl, refl)
  fits (RecallOf n s t why) (Recall now) = (s, refl, refl)
  fits _ _ = tt

  abbrev MayGo : ℕ → Option (SessionId × Call) → Type 0
  MayGo t None = Unit {0}
  MayGo t (Some a) = (c : Connection) → connection_at w.boot a.0 w.connections ≡ Some c → MayChooseAt w.limits c a.0 t a.1

  may_go : (t k : ℕ) (h : Held) (by : Use) → IsFreeFor w t (Spend k by) → MayGo t (spent h by)
  may_go t k (TicketOf n f left) (Offer s now) free = λ c e. subst (IsFreeOn t s) e free
  may_go t k (TicketOf n f left) Nack free = λ c e. tt
  may_go t k (TicketOf n f left) Unroute free = λ c e. tt
  may_go t k (PlacedAt n s u) Note free = λ c e. tt
  may_go t k (SettledBy n x again) Settle free = λ c e. tt
  may_go t k (LostOf n) Fail free = λ c e. tt
  may_go t k (RecallOf n s u why) (Recall now) free = λ c e. tt
  may_go t k _ _ free = tt

  hand_reached : (t k : ℕ) (h : Hand) → IsHeld k w.hands h → (o : Option (SessionId × Call)) → Fits h.held o → OnAccepted (on_hand w t k o) (λ _. MayGo t o) → OnAccepted (on_hand w t k o) Reached
  hand_reached t k h at None fit may = tt
  hand_reached t k h at (Some a) fit may =
      session_reached (without_hand k w.hands) t a.0 a.1 (connection_at w.boot a.0 w.connections) refl may
      (subst (λ x. Leaves w.hands a.0 a.1 x) (sym at.without) (all_but at.before h at.after at.is fit))

  spends_reached : (t k : ℕ) (by : Use) (o : Option Hand) → hand_at k w.hands ≡ o → OnAccepted (spends w t k by o) (λ _. IsFreeFor w t (Spend k by)) → OnAccepted (spends w t k by o) Reached
  spends_reached t k by None e free = tt
  spends_reached t k by (Some h) e free =
      hand_reached t k h (held k w.hands h e) (spent h.held by) (fits h.held by) (where_accepted (on_hand w t k (spent h.held by)) (may_go t k h.held by) free)

  out_reached : (id : SessionId) (c : Connection) → IsFound w.boot id w.connections c → (o : Option MuxFrame) → next_out c ≡ o → OnAccepted (after_out w id c o) Reached
  out_reached id c f None e = r
  out_reached id c f (Some frame) e =
      subst (λ cs. Reached (record w { connections = cs })) (sym (f.with (record c { out = c.out + 1 })))
      (takes_out (record { before = f.before; connection = c; after = f.after; is = f.is; present = f.present; frame = frame; gives = e }) r)

  takes_reached : (id : SessionId) (o : Option Connection) → connection_at w.boot id w.connections ≡ o → OnAccepted (takes w id o) Reached
  takes_reached id None e = tt
  takes_reached id (Some c) e = out_reached id c (found w.boot id w.connections c e) (next_out c) refl

  pub happens_reached : (t : ℕ) (e : Event) → ChoosesFree w t e → OnAccepted (happens w t e) Reached
  happens_reached t OpenClient free = opens_client r
  happens_reached t (OpenServer mode) free = opens_server mode r
  happens_reached t (On id step) free =
      session_reached w.hands t id (plain_call step) (connection_at w.boot id w.connections) refl
      (accepted_all (on_session w w.hands t id (plain_call step) (connection_at w.boot id w.connections)) (λ c e. plain_may t c id step)) (all_left (plain_none step))
  happens_reached t (Spend k by) free = by_test (is_missing w by) free
    where
      by_test : (b : Bool) → OnAccepted (if b then Err NoSuchSession else spends w t k by (hand_at k w.hands)) (λ _. IsFreeFor w t (Spend k by)) → OnAccepted (if b then Err NoSuchSession else spends w t k by (hand_at k w.hands)) Reached
      by_test true free = tt
      by_test false free = spends_reached t k by (hand_at k w.hands) refl free
  happens_reached t (TakeOutOf id) free = takes_reached id (connection_at w.boot id w.connections) refl
  happens_reached t Restart free = restarts r

-- a refused event leaves the world as it was
world_or_reached : (w : World) (x : Result World EventRefusal) → Reached w → OnAccepted x Reached → Reached (world_or w x)
world_or_reached w (Ok after) r h = h
world_or_reached w (Err why) r h = r

pub run_reached : (w : World) (events : List (ℕ × Event)) → AllChooseFree w events → Reached w → Reached (run w events)
run_reached w [] free r = r
run_reached w (e ∷ es) free r =
    run_reached (world_or w (happens w e.0 e.1)) es free.1 (world_or_reached w (happens w e.0 e.1) r (happens_reached w r e.0 e.1 free.0))

-- no event changes the limits
module _ (w : World) where
  abbrev Same : World → Type 0
  Same after = after.limits ≡ w.limits

  outcome_limits : (rest : List Hand) (id : SessionId) (c : Connection) (call : Call) (o : Outcome) → OnAccepted (after_outcome w rest id c call o) Same
  outcome_limits rest id c call (Refused why) = tt
  outcome_limits rest id c call Unrecorded = refl
  outcome_limits rest id c call (Recorded e gives) = refl

  session_limits : (rest : List Hand) (t : ℕ) (id : SessionId) (call : Call) (o : Option Connection) → OnAccepted (on_session w rest t id call o) Same
  session_limits rest t id call None = tt
  session_limits rest t id call (Some c) = outcome_limits rest id c call (outcome w.limits c t call)

  hand_limits : (t k : ℕ) (o : Option (SessionId × Call)) → OnAccepted (on_hand w t k o) Same
  hand_limits t k None = tt
  hand_limits t k (Some a) = session_limits (without_hand k w.hands) t a.0 a.1 (connection_at w.boot a.0 w.connections)

  spends_limits : (t k : ℕ) (by : Use) (o : Option Hand) → OnAccepted (spends w t k by o) Same
  spends_limits t k by None = tt
  spends_limits t k by (Some h) = hand_limits t k (spent h.held by)

  out_limits : (id : SessionId) (c : Connection) (o : Option MuxFrame) → OnAccepted (after_out w id c o) Same
  out_limits id c None = refl
  out_limits id c (Some f) = refl

  takes_limits : (id : SessionId) (o : Option Connection) → OnAccepted (takes w id o) Same
  takes_limits id None = tt
  takes_limits id (Some c) = out_limits id c (next_out c)

  happens_limits : (t : ℕ) (e : Event) → OnAccepted (happens w t e) Same
  happens_limits t OpenClient = refl
  happens_limits t (OpenServer mode) = refl
  happens_limits t (On id step) = session_limits w.hands t id (plain_call step) (connection_at w.boot id w.connections)
  happens_limits t (Spend k by) = by_test (is_missing w by)
    where
      by_test : (b : Bool) → OnAccepted (if b then Err NoSuchSession else spends w t k by (hand_at k w.hands)) Same
      by_test true = tt
      by_test false = spends_limits t k by (hand_at k w.hands)
  happens_limits t (TakeOutOf id) = takes_limits id (connection_at w.boot id w.connections)
  happens_limits t Restart = refl

pub limits_kept : (w : World) (events : List (ℕ × Event)) → (run w events).limits ≡ w.limits
limits_kept w [] = refl
limits_kept w (e ∷ es) = limits_kept (world_or w (happens w e.0 e.1)) es ∙ of_result (happens w e.0 e.1) (happens_limits w e.0 e.1)
  where
    of_result : (x : Result World EventRefusal) → OnAccepted x (λ after. after.limits ≡ w.limits) → (world_or w x).limits ≡ w.limits
    of_result (Ok after) h = h
    of_result (Err why) h = refl
