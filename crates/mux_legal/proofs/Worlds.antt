-- Every world keeps the invariant, and so its lists are a legal run.
use Rattle.std.proofs.Common.{subst, ℕ, List, [], ◌∷◌, ◌++◌, ◌+◌, ◌≡◌, ◌≤◌, ◌<◌, ◌⊎◌, ◌&&◌, inl, inr, Bool, true, false, refl, sym, ◌∙◌, ap, arith}
use Rattle.std.specs.Prelude.{◌==◌}
use Rattle.std.proofs.lemmas.Bool.{eqb-true}
use Rattle.mux_model.proofs.Happens.{same_sessions}
use Rattle.mux_history.specs.declared.name.Name.{Name}
use Rattle.mux_history.specs.declared.kind.RecordKind.{RecordKind}
use Rattle.mux_history.specs.Bounds.{Bounds}
use Rattle.mux_history.specs.declared.session.SessionId.{SessionId}
use Rattle.mux_history.specs.declared.session.SessionId.TheVariants.{Client, Server}
use Rattle.mux_history.specs.Readings.{gives_name, is_offered, is_retried}
use Rattle.mux_model.specs.Steps.{Held, Call, FrameCall, NoteCall, SettleCall, NackCall, UnrouteCall, FailCall, DrainCall, OfferCall, RecallCall, ClockCall, PingCall, RetireCall, LoseCall, LoseNextCall, SealCall, RollCall, ProbeCall, Step, Recorded, entries}
use Rattle.mux_model.specs.Entries.{Exchange}
use Rattle.mux_model.specs.World.{same_session, World, Connection, Hand, Reached, starts, opens_client, opens_server, moves, passes, takes_out, restarts, start, with_client, with_server, restarted, opened, first_step, Move, moved, TakeOut, taken_out, Quiet, Leaves, all_left, all_but, NeedsNone, IsSpentBy, outcome, outcome_at, MayChooseAt, numbered, stepped}
use Rattle.mux_model.specs.Runs.{line_of, lines}
use Rattle.mux_model.specs.Legal.{bearers, Line, Each, tally}
use Rattle.mux_legal.proofs.Basics.{OnRecorded, total-append, one_if}
use Rattle.mux_legal.proofs.Invariant.{is_unsent, weigh_hands, ticket_in, nack_held, passed_on, Borne, AllHands, IsKept, OwnSteps, CopiesOf, Inv}
use Rattle.mux_legal.proofs.Grow.{grows_push, passed-append, nacked-append, each_push, each_mid, lines_grow, lines_copy, hands_grow}
use Rattle.mux_legal.proofs.Advance.{IsGood, used, nack_used, advance}
use Rattle.mux_legal.proofs.DownSteps.{down_good}
use Rattle.mux_legal.proofs.DownShapes.{CallBorne}
use Rattle.mux_legal.proofs.UpSteps.{up_good}
use Rattle.mux_history.specs.declared.session.InitMode.{InitMode}
use Rattle.mux_history.specs.declared.session.InitMode.TheVariants.{Probe, Plain}

pub lines-append : (a b : List Connection) → lines (a ++ b) ≡ lines a ++ lines b
lines-append [] b = refl
lines-append (c ∷ a) b = ap (λ ls. line_of c ∷ ls) (lines-append a b)

-- a step of a connection is good
good_at : (ls : List Line) (limits : Bounds) (c : Connection) (id : SessionId) (t : ℕ) (call : Call) → OwnSteps c.boot id c.steps → CopiesOf ls id c.steps →
    MayChooseAt limits c id t call → CallBorne ls call →
    OnRecorded (outcome_at limits c id t call) (λ e gives. IsGood ls (record { boot = c.boot; session = id; mode = c.mode; steps = c.steps }) call e gives)
good_at ls limits c (Client k) t call own copies may b = down_good ls (record { limits = limits; boot = c.boot; number = k }) c.mode c.steps own.1 own.3 c.out call b
good_at ls limits c (Server k) t call own copies may b = up_good ls c.boot (record { limits = limits; number = k; mode = c.mode }) c.steps own.1 own.2 copies c.out t call may b

-- a call that needs no value uses up none
needs_none : (call : Call) (n : Name) → NeedsNone call → used call n ≡ 0
needs_none (FrameCall f now) n h = refl
needs_none DrainCall n h = refl
needs_none (ClockCall now) n h = refl
needs_none (PingCall now) n h = refl
needs_none (RetireCall now) n h = refl
needs_none (LoseCall now) n h = refl
needs_none LoseNextCall n h = refl
needs_none (NoteCall m s t) n h = absurd h
needs_none (SettleCall m r again) n h = absurd h
needs_none (NackCall m) n h = absurd h
needs_none (UnrouteCall m) n h = absurd h
needs_none (FailCall m) n h = absurd h
needs_none (OfferCall m f left now) n h = absurd h
needs_none (RecallCall m t why now) n h = absurd h
needs_none SealCall n h = refl
needs_none RollCall n h = refl
needs_none ProbeCall n h = absurd h

needs_no_nack : (call : Call) (n : Name) → NeedsNone call → nack_used call n ≡ 0
needs_no_nack (FrameCall f now) n h = refl
needs_no_nack DrainCall n h = refl
needs_no_nack (ClockCall now) n h = refl
needs_no_nack (PingCall now) n h = refl
needs_no_nack (RetireCall now) n h = refl
needs_no_nack (LoseCall now) n h = refl
needs_no_nack LoseNextCall n h = refl
needs_no_nack SealCall n h = refl
needs_no_nack RollCall n h = refl
needs_no_nack _ n h = absurd h

none_borne : (ls : List Line) (call : Call) → NeedsNone call → CallBorne ls call
none_borne ls (FrameCall f now) h = tt
none_borne ls DrainCall h = tt
none_borne ls (ClockCall now) h = tt
none_borne ls (PingCall now) h = tt
none_borne ls (RetireCall now) h = tt
none_borne ls (LoseCall now) h = tt
none_borne ls LoseNextCall h = tt
none_borne ls (NoteCall m s t) h = tt
none_borne ls (SettleCall m r again) h = absurd h
none_borne ls (NackCall m) h = tt
none_borne ls (UnrouteCall m) h = tt
none_borne ls (FailCall m) h = absurd h
none_borne ls (OfferCall m f left now) h = absurd h
none_borne ls (RecallCall m t why now) h = tt
none_borne ls SealCall h = tt
none_borne ls RollCall h = tt
none_borne ls ProbeCall h = tt

spent_ticket : (h : Held) (id : SessionId) (call : Call) (n : Name) → IsSpentBy h id call → used call n ≤ ticket_in n h
spent_ticket h id (NackCall m) n s = omega (arith, ap (ticket_in n) s.0.2)
spent_ticket h id (UnrouteCall m) n s = omega (arith, ap (ticket_in n) s.0.2)
spent_ticket h id (OfferCall m f left now) n s = omega (arith, ap (ticket_in n) s)
spent_ticket h id (FrameCall f now) n s = omega arith
spent_ticket h id DrainCall n s = omega arith
spent_ticket h id (ClockCall now) n s = omega arith
spent_ticket h id (PingCall now) n s = omega arith
spent_ticket h id (RetireCall now) n s = omega arith
spent_ticket h id (LoseCall now) n s = omega arith
spent_ticket h id LoseNextCall n s = omega arith
spent_ticket h id (NoteCall m s' t) n s = omega arith
spent_ticket h id (SettleCall m r again) n s = omega arith
spent_ticket h id (FailCall m) n s = omega arith
spent_ticket h id (RecallCall m t why now) n s = omega arith
spent_ticket h id SealCall n s = omega arith
spent_ticket h id RollCall n s = omega arith
spent_ticket h id ProbeCall n s = omega arith

spent_nack : (h : Held) (id : SessionId) (call : Call) (n : Name) → IsSpentBy h id call → nack_used call n ≤ nack_held n h
spent_nack h id (SettleCall m r again) n s = omega (arith, ap (nack_held n) s.0)
spent_nack h id (NackCall m) n s = omega arith
spent_nack h id (UnrouteCall m) n s = omega arith
spent_nack h id (OfferCall m f left now) n s = omega arith
spent_nack h id (FrameCall f now) n s = omega arith
spent_nack h id DrainCall n s = omega arith
spent_nack h id (ClockCall now) n s = omega arith
spent_nack h id (PingCall now) n s = omega arith
spent_nack h id (RetireCall now) n s = omega arith
spent_nack h id (LoseCall now) n s = omega arith
spent_nack h id LoseNextCall n s = omega arith
spent_nack h id SealCall n s = omega arith
spent_nack h id RollCall n s = omega arith
spent_nack h id (NoteCall m s' t) n s = omega arith
spent_nack h id (FailCall m) n s = omega arith
spent_nack h id (RecallCall m t why now) n s = omega arith
spent_nack h id ProbeCall n s = omega arith

spent_borne : (ls : List Line) (h : Held) (id : SessionId) (call : Call) → IsSpentBy h id call → Borne ls h → CallBorne ls call
spent_borne ls h id (SettleCall m r again) s b = subst (Borne ls) s.0 b
spent_borne ls h id (FailCall m) s b = subst (Borne ls) s.0 b
spent_borne ls h id (OfferCall m f left now) s b = subst (Borne ls) s b
spent_borne ls h id (NackCall m) s b = tt
spent_borne ls h id (UnrouteCall m) s b = tt
spent_borne ls h id (FrameCall f now) s b = tt
spent_borne ls h id DrainCall s b = tt
spent_borne ls h id (ClockCall now) s b = tt
spent_borne ls h id (PingCall now) s b = tt
spent_borne ls h id (RetireCall now) s b = tt
spent_borne ls h id (LoseCall now) s b = tt
spent_borne ls h id LoseNextCall s b = tt
spent_borne ls h id (NoteCall m s' t) s b = tt
spent_borne ls h id (RecallCall m t why now) s b = tt
spent_borne ls h id SealCall s b = tt
spent_borne ls h id RollCall s b = tt
spent_borne ls h id ProbeCall s b = tt

-- a bag without one of its values
weigh_mid : (w : Held → ℕ) (a : List Hand) (h : Hand) (b : List Hand) → weigh_hands w (a ++ h ∷ b) ≡ w h.held + weigh_hands w (a ++ b)
weigh_mid w [] h b = refl
weigh_mid w (x ∷ a) h b = omega (arith, weigh_mid w a h b)

pub hands_mid : (P : Held → Type 0) (a : List Hand) (h : Hand) (b : List Hand) → AllHands P (a ++ h ∷ b) → P h.held × AllHands P (a ++ b)
hands_mid P [] h b p = p
hands_mid P (x ∷ a) h b p = (let q = hands_mid P a h b p.1 in (q.0, (p.0, q.1)))

-- what a call uses up is gone from the bag
pub left_weigh : (w : Held → ℕ) (uses : Call → ℕ) → ((call : Call) → NeedsNone call → uses call ≡ 0) → ((h : Held) (id : SessionId) (call : Call) → IsSpentBy h id call → uses call ≤ w h) →
    {hands : List Hand} {id : SessionId} {call : Call} {rest : List Hand} → Leaves hands id call rest → weigh_hands w rest + uses call ≤ weigh_hands w hands
left_weigh w uses zero spends {call = call} (all_left none) = omega (arith, zero call none)
left_weigh w uses zero spends {id = id} {call = call} (all_but a h b is s) = omega (arith, ap (weigh_hands w) is, weigh_mid w a h b, spends h.held id call s)

left_tickets : {hands : List Hand} {id : SessionId} {call : Call} {rest : List Hand} → Leaves hands id call rest → (n : Name) → weigh_hands (ticket_in n) rest + used call n ≤ weigh_hands (ticket_in n) hands
left_tickets leaves n = left_weigh (ticket_in n) (λ c. used c n) (λ c h. needs_none c n h) (λ h id c s. spent_ticket h id c n s) leaves

left_nacks : {hands : List Hand} {id : SessionId} {call : Call} {rest : List Hand} → Leaves hands id call rest → (n : Name) → weigh_hands (nack_held n) rest + nack_used call n ≤ weigh_hands (nack_held n) hands
left_nacks leaves n = left_weigh (nack_held n) (λ c. nack_used c n) (λ c h. needs_no_nack c n h) (λ h id c s. spent_nack h id c n s) leaves

pub left_hands : {hands : List Hand} {id : SessionId} {call : Call} {rest : List Hand} → Leaves hands id call rest → (P : Held → Type 0) → AllHands P hands → AllHands P rest
left_hands (all_left none) P p = p
left_hands (all_but a h b is s) P p = (hands_mid P a h b (subst (AllHands P) is p)).1

pub left_borne : (ls : List Line) {hands : List Hand} {id : SessionId} {call : Call} {rest : List Hand} → Leaves hands id call rest → AllHands (Borne ls) hands → CallBorne ls call
left_borne ls {call = call} (all_left none) p = none_borne ls call none
left_borne ls {id = id} {call = call} (all_but a h b is s) p = spent_borne ls h.held id call s (hands_mid (Borne ls) a h b (subst (AllHands (Borne ls)) is p)).0

abbrev pub Keeps : World → Type 0
Keeps w = Inv w.boot w.clients w.servers (lines w.connections) w.hands

-- an accepted step with a record, on one connection
pub step_keeps : (boot clients servers : ℕ) (a : List Line) (c : Connection) (b : List Line) (limits : Bounds) (t : ℕ) (call : Call) (e : Exchange) (gives : List Held) (hands rest : List Hand) (k : ℕ) →
    MayChooseAt limits c c.session t call → outcome limits c t call ≡ Recorded e gives → Leaves hands c.session call rest →
    Inv boot clients servers (a ++ line_of c ∷ b) hands → Inv boot clients servers (a ++ line_of (stepped c call e) ∷ b) (rest ++ numbered k gives)
step_keeps boot clients servers a c b limits t call e gives hands rest k may does leaves v =
    let l = line_of c in
    let good = subst (λ x. OnRecorded x (λ e gives. IsGood (a ++ l ∷ b) l call e gives)) does
    (good_at (a ++ l ∷ b) limits c c.session t call (each_mid (λ x. OwnSteps x.boot x.session x.steps) a l b v.own)
    (each_mid (λ x. CopiesOf (a ++ l ∷ b) x.session x.steps) a l b v.copies) may
    (left_borne (a ++ l ∷ b) leaves v.borne)) in
    advance a l b call e hands rest gives k v good (left_tickets leaves) (left_nacks leaves) (left_hands leaves)

moved_keeps : (w : World) (m : Move w) → Keeps w → Keeps (moved w m)
moved_keeps w m v =
    let a = lines m.before in
    let b = lines m.after in
    let split : lines w.connections ≡ a ++ line_of m.connection ∷ b = ap lines m.is ∙ lines-append m.before (m.connection ∷ m.after) in
    subst (λ ls. Inv w.boot w.clients w.servers ls (m.rest ++ numbered w.next_hand m.gives)) (sym (lines-append m.before (stepped m.connection m.call m.entry ∷ m.after)))
    (step_keeps w.boot w.clients w.servers a m.connection b w.limits m.tag m.call m.entry m.gives w.hands m.rest w.next_hand m.may m.does m.leaves
    (subst (λ ls. Inv w.boot w.clients w.servers ls w.hands) split v))

start_keeps : (limits : Bounds) (boot : ℕ) → Keeps (start limits boot)
start_keeps limits boot = record {
  unique = λ b id. omega arith;
  later = λ b id h. refl;
  next_client = λ k h. refl;
  next_server = λ k h. refl;
  own = tt;
  linear = λ n. omega arith;
  nacked = λ n. omega arith;
  copies = tt;
  borne = tt;
  kept = tt;
}

bearers-append : (c : ℕ) (id : SessionId) (a b : List Line) → bearers c id (a ++ b) ≡ bearers c id a + bearers c id b
bearers-append c id [] b = omega arith
bearers-append c id (l ∷ a) b = omega (arith, bearers-append c id a b)

bears_cases : (a b : ℕ) (x id : SessionId) → (one_if (a == b && same_session x id) ≡ 0) ⊎ (one_if (a == b && same_session x id) ≡ 1) × (a ≡ b) × (x ≡ id)
bears_cases a b x id = by_test (a == b) (same_session x id) (eqb-true a b) (same_sessions x id)
  where
    by_test : (p q : Bool) → (p ≡ true → a ≡ b) → (q ≡ true → x ≡ id) → (one_if (p && q) ≡ 0) ⊎ (one_if (p && q) ≡ 1) × (a ≡ b) × (x ≡ id)
    by_test true true f g = inr (refl, f refl, g refl)
    by_test true false f g = inl refl
    by_test false q f g = inl refl

-- one more connection, under a session that is new, whose list names and sends nothing of a name
push_keeps : (boot clients servers clients' servers' : ℕ) (ls : List Line) (hands : List Hand) (id : SessionId) (mode : InitMode) (steps : List Step) → clients ≤ clients' → servers ≤ servers' →
    ((k : ℕ) → clients' < k → id ≡ Client k → ⊥) → ((k : ℕ) → servers' < k → id ≡ Server k → ⊥) → bearers boot id ls ≡ 0 → Inv boot clients servers ls hands →
    OwnSteps boot id steps → ((ms : List Line) → CopiesOf ms id steps) → ((n : Name) → (tally is_offered n (entries steps) ≡ 0) × (tally is_unsent n (entries steps) ≡ 0)) →
    ((n : Name) → (tally is_retried n (entries steps) ≡ 0) × (passed_on n steps ≡ 0)) →
    ((ms : List Line) → Each (IsKept ms id) (entries steps)) → Inv boot clients' servers' (ls ++ record { boot = boot; session = id; mode = mode; steps = steps } ∷ []) hands
push_keeps boot clients servers clients' servers' ls hands id mode steps more_c more_s no_client no_server new v own copies none again kept =
    let l : Line = record { boot = boot; session = id; mode = mode; steps = steps } in
    let g = grows_push ls l in
    record {
      unique = λ b x. elim (bears_cases boot b id x) [
        | inl z ↦ omega (arith, bearers-append b x ls (l ∷ []), v.unique b x, z)
        | inr z ↦ omega (arith, bearers-append b x ls (l ∷ []), ap (λ (y : SessionId). bearers b y ls) (sym z.2) ∙ (ap (λ (c : ℕ). bearers c id ls) (sym z.1) ∙ new), z.0)
      ];
      later = λ b x h. elim (bears_cases boot b id x) [
        | inl z ↦ omega (arith, bearers-append b x ls (l ∷ []), v.later b x h, z)
        | inr z ↦ absurd (omega (arith, h, z.1))
      ];
      next_client = λ k h. elim (bears_cases boot boot id (Client k)) [
        | inl z ↦ omega (arith, bearers-append boot (Client k) ls (l ∷ []), v.next_client k (omega arith), z)
        | inr z ↦ absurd (no_client k h z.2)
      ];
      next_server = λ k h. elim (bears_cases boot boot id (Server k)) [
        | inl z ↦ omega (arith, bearers-append boot (Server k) ls (l ∷ []), v.next_server k (omega arith), z)
        | inr z ↦ absurd (no_server k h z.2)
      ];
      own = each_push (λ x. OwnSteps x.boot x.session x.steps) ls l own v.own;
      linear = λ n. omega (
        arith,
        v.linear n,
        none n,
        total-append is_offered n ls (l ∷ []),
        total-append is_unsent n ls (l ∷ []),
        total-append gives_name n ls (l ∷ []),
        total-append is_retried n ls (l ∷ []),
      );
      nacked = λ n. omega (arith, v.nacked n, again n, total-append is_retried n ls (l ∷ []), passed-append n ls (l ∷ []), nacked-append n ls (l ∷ []));
      copies = each_push (λ x. CopiesOf (ls ++ l ∷ []) x.session x.steps) ls l (copies (ls ++ l ∷ [])) (lines_copy ls (ls ++ l ∷ []) g ls v.copies);
      borne = hands_grow ls (ls ++ l ∷ []) g hands v.borne;
      kept = each_push (λ x. Each (IsKept (ls ++ l ∷ []) x.session) (entries x.steps)) ls l (kept (ls ++ l ∷ [])) (lines_grow ls (ls ++ l ∷ []) g ls v.kept);
    }

-- the mode that a session may be opened with
abbrev pub MayOpen : SessionId → InitMode → Type 0
MayOpen (Client k) mode = mode ≡ Plain
MayOpen (Server k) mode = Unit {0}

-- one more session, which was just opened
pub open_keeps : (boot clients servers clients' servers' : ℕ) (ls : List Line) (hands : List Hand) (id : SessionId) (mode : InitMode) → MayOpen id mode → clients ≤ clients' → servers ≤ servers' →
    ((k : ℕ) → clients' < k → id ≡ Client k → ⊥) → ((k : ℕ) → servers' < k → id ≡ Server k → ⊥) → bearers boot id ls ≡ 0 → Inv boot clients servers ls hands →
    Inv boot clients' servers' (ls ++ record { boot = boot; session = id; mode = mode; steps = first_step mode } ∷ []) hands
open_keeps boot clients servers clients' servers' ls hands (Client n) mode may more_c more_s no_client no_server new v =
    subst (λ b. Inv boot clients' servers' (ls ++ record { boot = boot; session = Client n; mode = b; steps = first_step b } ∷ []) hands) (sym may)
    (push_keeps boot clients servers clients' servers' ls hands (Client n) Plain [] more_c more_s no_client no_server new v
    (tt, record { owed = λ t h e. absurd (cc); one_tag = λ t u n e g. absurd (cc); paid = λ n. omega arith }, tt, refl, λ h. absurd h) (λ ms. tt)
    (λ n. (refl, refl)) (λ n. (refl, refl)) (λ ms. tt))
open_keeps boot clients servers clients' servers' ls hands (Server s) mode may more_c more_s no_client no_server new v =
    push_keeps boot clients servers clients' servers' ls hands (Server s) mode (first_step mode) more_c more_s no_client no_server new v
    (own_of mode) (λ ms. copies_of ms mode) (λ n. (none_of is_offered n mode, none_of is_unsent n mode)) (λ n. (none_of is_retried n mode, passed_of n mode)) (λ ms. fair_of ms mode)
  where
    none_of : (p : RecordKind → Bool) (n : Name) (b : InitMode) → tally p n (entries (first_step b)) ≡ 0
    none_of p n Probe = refl
    none_of p n Plain = refl

    passed_of : (n : Name) (b : InitMode) → passed_on n (first_step b) ≡ 0
    passed_of n Probe = refl
    passed_of n Plain = refl

    own_of : (b : InitMode) → OwnSteps boot (Server s) (first_step b)
    own_of Probe = ((λ n. (refl, refl, omega arith)), tt, λ h. elim h [ inl e ↦ absurd (cc) | inr e ↦ absurd e ])
    own_of Plain = ((λ n. (refl, refl, omega arith)), tt, λ h. absurd h)

    copies_of : (ms : List Line) (b : InitMode) → CopiesOf ms (Server s) (first_step b)
    copies_of ms Probe = λ t n f h c. absurd (cc)
    copies_of ms Plain = λ t n f h c. absurd (cc)

    fair_of : (ms : List Line) (b : InitMode) → Each (IsKept ms (Server s)) (entries (first_step b))
    fair_of ms Probe = ((λ d. absurd (cc)), tt)
    fair_of ms Plain = tt

client_keeps : (w : World) → Keeps w → Keeps (with_client w)
client_keeps w v =
    subst (λ ls. Inv w.boot (w.clients + 1) w.servers ls w.hands) (sym (lines-append w.connections (opened w (Client (w.clients + 1)) Plain ∷ [])))
    (open_keeps w.boot w.clients w.servers (w.clients + 1) w.servers (lines w.connections) w.hands (Client (w.clients + 1)) Plain refl (omega arith) (omega arith)
    (λ k h e. (let same : w.clients + 1 ≡ k = cc in omega (arith, h, same))) (λ k h e. (cc)) (v.next_client (w.clients + 1) (omega arith)) v)

server_keeps : (w : World) (mode : InitMode) → Keeps w → Keeps (with_server mode w)
server_keeps w mode v =
    subst (λ ls. Inv w.boot w.clients (w.servers + 1) ls w.hands) (sym (lines-append w.connections (opened w (Server (w.servers + 1)) mode ∷ [])))
    (open_keeps w.boot w.clients w.servers w.clients (w.servers + 1) (lines w.connections) w.hands (Server (w.servers + 1)) mode tt (omega arith) (omega arith)
    (λ k h e. (cc)) (λ k h e. (let same : w.servers + 1 ≡ k = cc in omega (arith, h, same))) (v.next_server (w.servers + 1) (omega arith)) v)

-- an accepted step without a record
pub rest_keeps : (boot clients servers : ℕ) (ls : List Line) (hands rest : List Hand) (id : SessionId) (call : Call) → Leaves hands id call rest → Inv boot clients servers ls hands → Inv boot clients servers ls rest
rest_keeps boot clients servers ls hands rest id call leaves v = record {
  unique = v.unique;
  later = v.later;
  next_client = v.next_client;
  next_server = v.next_server;
  own = v.own;
  linear = λ n. omega (arith, v.linear n, left_tickets leaves n);
  nacked = λ n. omega (arith, v.nacked n, left_nacks leaves n);
  copies = v.copies;
  borne = left_hands leaves (Borne ls) v.borne;
  kept = v.kept;
}

quiet_keeps : (w : World) (q : Quiet w) → Keeps w → Keeps (record w { hands = q.rest })
quiet_keeps w q v = rest_keeps w.boot w.clients w.servers (lines w.connections) w.hands q.rest q.connection.session q.call q.leaves v

out_keeps : (w : World) (m : TakeOut w) → Keeps w → Keeps (taken_out w m)
out_keeps w m v =
    let same : lines w.connections ≡ lines (m.before ++ record m.connection { out = m.connection.out + 1 } ∷ m.after)
    = ap lines m.is ∙ (lines-append m.before (m.connection ∷ m.after) ∙ sym (lines-append m.before (record m.connection { out = m.connection.out + 1 } ∷ m.after))) in
    subst (λ ls. Inv w.boot w.clients w.servers ls w.hands) same v

restart_keeps : (w : World) → Keeps w → Keeps (restarted w)
restart_keeps w v = record {
  unique = v.unique;
  later = λ b id h. v.later b id (omega arith);
  next_client = λ k h. v.later (w.boot + 1) (Client k) (omega arith);
  next_server = λ k h. v.later (w.boot + 1) (Server k) (omega arith);
  own = v.own;
  linear = λ n. omega (arith, v.linear n);
  nacked = λ n. omega (arith, v.nacked n);
  copies = v.copies;
  borne = tt;
  kept = v.kept;
}

-- THE INDUCTION
pub reached_keeps : {w : World} → Reached w → Keeps w
reached_keeps (starts limits boot) = start_keeps limits boot
reached_keeps (opens_client {w = w} r) = client_keeps w (reached_keeps r)
reached_keeps (opens_server {w = w} mode r) = server_keeps w mode (reached_keeps r)
reached_keeps (moves {w = w} m r) = moved_keeps w m (reached_keeps r)
reached_keeps (passes {w = w} q r) = quiet_keeps w q (reached_keeps r)
reached_keeps (takes_out {w = w} m r) = out_keeps w m (reached_keeps r)
reached_keeps (restarts {w = w} r) = restart_keeps w (reached_keeps r)
