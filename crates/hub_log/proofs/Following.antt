-- A log that meets the rule keeps the invariant of mux_legal, and so its lists are a legal run.
use Rattle.std.proofs.Common.{ℕ, zero, suc, List, [], ◌∷◌, ◌++◌, ◌≡◌, ◌≢◌, ◌+◌, ◌≤◌, ◌==◌, ◌⊎◌, inl, inr, Bool, true, false, Option, Some, None, refl, sym, ap, ◌∙◌, subst, length, arith}
use Rattle.std.specs.Prelude.{if◌then◌else◌, slice_get}
use Rattle.std.proofs.lemmas.Bool.{eqb-true}
use Rattle.mux_frame.specs.Spelling.{MuxFrame}
use Rattle.mux_history.specs.Readings.{is_retried}
use Rattle.mux_history.specs.declared.name.Name.{Name}
use Rattle.mux_history.specs.declared.session.InitMode.{InitMode}
use Rattle.mux_history.specs.declared.session.SessionId.{SessionId}
use Rattle.mux_history.specs.declared.session.SessionId.TheVariants.{Client, Server}
use Rattle.mux_model.specs.Entries.{Exchange}
use Rattle.mux_model.specs.Steps.{Held, Call, entries, Recorded}
use Rattle.mux_model.specs.World.{Connection, Hand, MayChooseAt, outcome_at, numbered, stepped, Leaves, all_left, all_but, IsSpentBy, starts}
use Rattle.mux_model.specs.Runs.{EachConnection, line_of, lines}
use Rattle.mux_model.specs.Lawful.{EndsAgreeAt}
use Rattle.mux_model.specs.Legal.{Line, Each, EachLine, EachStep, IsUnlapsed, IsCut, IsLegal, total}
use Rattle.mux_legal.proofs.Basics.{OnRecorded}
use Rattle.mux_legal.proofs.Invariant.{Inv, Inv-legal, OwnSteps}
use Rattle.mux_legal.proofs.Grow.{each_mid, each_push, each_step}
use Rattle.mux_legal.proofs.DownShapes.{CallBorne}
use Rattle.mux_legal.proofs.Worlds.{reached_keeps, step_keeps, rest_keeps, open_keeps, left_borne, MayOpen}
use Rattle.mux_legal.proofs.ReadingsHold.{IsRead, reads_at, first_read}
use Rattle.mux_legal.proofs.Tries.{IsTriedIn, tries_at, first_tried, few_tries}
use Rattle.mux_legal.proofs.BothEnds.{Fit, agrees, fits_at, first_fits}
use Rattle.mux_legal.proofs.Answered.{legal_answered}
use Rattle.mux_legal.proofs.Seen.{legal_seen}
use Rattle.mux_legal.proofs.Once.{kept_plain}
use Rattle.hub_log.specs.declared.terms.Terms.{Terms}
use Rattle.hub_log.specs.Moves.{Claim, Deed, Opened, Did, Quiet, TookOut, Move, gives_of, move_at, value_in, value_of, IsUnused, limits_of, moves_of, begun, after, connection_in}
use Rattle.hub_log.specs.Bag.{IsBag, IsGiven, IsHanded, IsFirst, IsOwn, MayBegin}
use Rattle.hub_log.specs.Headline.{BothEndsAgree, sessions_of, connections_at, lines_of, EveryLogIsLegal, EveryRdispatchIsAnswered, EveryReplyIsSeen, EveryNameIsSentOnce}
use Rattle.hub_log.proofs.Logs.{connection_here}
use Rattle.hub_log.proofs.Sessions.{session_same, line_in, Split, Listed, listed, placed, replaced, pushed, unmoved, named, no_bearers}

-- VALUES IN HAND, each beside its claim
abbrev Bag : Type 0
Bag = List (Claim × Hand)

abbrev In : Claim → Held → Bag → Type 0
In c h [] = ⊥
In c h (x ∷ xs) = ((x.0 ≡ c) × (x.1.held ≡ h)) ⊎ In c h xs

abbrev hands_in : Bag → List Hand
hands_in [] = []
hands_in (x ∷ xs) = x.1 ∷ hands_in xs

hands-append : (xs ys : Bag) → hands_in (xs ++ ys) ≡ hands_in xs ++ hands_in ys
hands-append [] ys = refl
hands-append (x ∷ xs) ys = ap (λ hs. x.1 ∷ hs) (hands-append xs ys)

in_first : (c : Claim) (h : Held) (xs ys : Bag) → In c h xs → In c h (xs ++ ys)
in_first c h [] ys i = absurd i
in_first c h (x ∷ xs) ys (inl e) = inl e
in_first c h (x ∷ xs) ys (inr i) = inr (in_first c h xs ys i)

in_last : (c : Claim) (h : Held) (xs ys : Bag) → In c h ys → In c h (xs ++ ys)
in_last c h [] ys i = i
in_last c h (x ∷ xs) ys i = inr (in_last c h xs ys i)

-- one of them, and the others without it
record Found (c : Claim) (h : Held) (xs : Bag) : Type 0 where
  before : Bag
  it : Claim × Hand
  behind : Bag
  is : xs ≡ before ++ it ∷ behind
  held : it.1.held ≡ h
  rest : (d : Claim) (g : Held) → In d g xs → d ≢ c → In d g (before ++ behind)

find : (c : Claim) (h : Held) (xs : Bag) → In c h xs → Found c h xs
find c h [] i = absurd i
find c h (x ∷ xs) (inl e) = record {
  before = [];
  it = x;
  behind = xs;
  is = refl;
  held = e.1;
  rest = λ d g i other. elim i [ inl f ↦ absurd (other (sym f.0 ∙ e.0)) | inr j ↦ j ];
}
find c h (x ∷ xs) (inr i) = (let r = find c h xs i in record {
  before = x ∷ r.before;
  it = r.it;
  behind = r.behind;
  is = ap (λ ys. x ∷ ys) r.is;
  held = r.held;
  rest = λ d g j other. elim j [ inl f ↦ inl f | inr k ↦ inr (r.rest d g k other) ];
})

-- the values that a move at this place gives
abbrev gifts : (place which number : ℕ) → List Held → Bag
gifts place which number [] = []
gifts place which number (h ∷ hs) = (record { place = place; which = which }, record { number = number; held = h }) ∷ gifts place (which + 1) (number + 1) hs

gifts-numbered : (place which number : ℕ) (hs : List Held) → hands_in (gifts place which number hs) ≡ numbered number hs
gifts-numbered place which number [] = refl
gifts-numbered place which number (h ∷ hs) = ap (λ ys. record { number = number; held = h } ∷ ys) (gifts-numbered place (which + 1) (number + 1) hs)

is_gift : (place which number : ℕ) (hs : List Held) (k : ℕ) (h : Held) (c : Claim) → slice_get hs k ≡ Some h → c.place ≡ place → c.which ≡ which + k → In c h (gifts place which number hs)
is_gift place which number [] k h c e p w = absurd cc
is_gift place which number (g ∷ hs) zero h c e p w = inl ((let at : which ≡ c.which = omega (arith, w) in λ i. record { place = sym p i; which = at i }), (let same : g ≡ h = cc in same))
is_gift place which number (g ∷ hs) (suc k) h c e p w = inr (is_gift place (which + 1) (number + 1) hs k h c e p (omega (arith, w)))

-- what is left once a call has its value
record Left (hands : Bag) (id : SessionId) (call : Call) (uses : Option Claim) : Type 0 where
  rest : Bag
  leaves : Leaves (hands_in hands) id call (hands_in rest)
  still : (d : Claim) (g : Held) → In d g hands → uses ≢ Some d → In d g rest

left_of : (old : List Move) (hands : Bag) → ((c : Claim) (h : Held) → value_of c old ≡ Some h → IsUnused c old → In c h hands)
    → (id : SessionId) (call : Call) (uses : Option Claim) → IsHanded id call uses old → IsFirst uses old → Left hands id call uses
left_of old hands bag id call None handed once = record { rest = hands; leaves = all_left handed; still = λ d g i other. i }
left_of old hands bag id call (Some c) handed once =
    let f = find c handed.0 hands (bag c handed.0 handed.1 once) in
    let split : hands_in hands ≡ hands_in f.before ++ f.it.1 ∷ hands_in f.behind = ap hands_in f.is ∙ hands-append f.before (f.it ∷ f.behind) in
    record {
      rest = f.before ++ f.behind;
      leaves = subst (λ hs. Leaves (hands_in hands) id call hs) (sym (hands-append f.before f.behind))
          (all_but (hands_in f.before) f.it.1 (hands_in f.behind) split (subst (λ h. IsSpentBy h id call) (sym f.held) handed.2));
      still = λ d g i other. f.rest d g i (λ e. other (ap Some (sym e)));
    }

-- each value that was given and not used is in hand
abbrev HasAll : List Move → Bag → Type 0
HasAll log hands = (c : Claim) (h : Held) → value_of c log ≡ Some h → IsUnused c log → In c h hands

has_more : (m : Move) (old : List Move) (hands rest new : Bag) → HasAll old hands → ((d : Claim) (g : Held) → In d g hands → m.uses ≢ Some d → In d g rest)
    → ((c : Claim) (h : Held) → slice_get (gives_of m.deed) c.which ≡ Some h → c.place ≡ length old → In c h new) → HasAll (m ∷ old) (rest ++ new)
has_more m old hands rest new bag still gift c h e un = by_test (length old == c.place) refl e
  where
    by_test : (b : Bool) → (length old == c.place) ≡ b → value_in c.which (if b then Some m else move_at c.place old) ≡ Some h → In c h (rest ++ new)
    by_test true at v = in_last c h rest new (gift c h v (sym (eqb-true (length old) c.place at)))
    by_test false at v = in_first c h rest new (still c h (bag c h v un.1) un.0)

has_same : (m : Move) (old : List Move) (hands rest : Bag) → HasAll old hands → ((d : Claim) (g : Held) → In d g hands → m.uses ≢ Some d → In d g rest) → gives_of m.deed ≡ [] → HasAll (m ∷ old) rest
has_same m old hands rest bag still none c h e un = by_test (length old == c.place) e
  where
    by_test : (b : Bool) → value_in c.which (if b then Some m else move_at c.place old) ≡ Some h → In c h rest
    by_test true v = (let x : slice_get [] c.which ≡ Some h = ap (λ gs. slice_get gs c.which) (sym none) ∙ v in absurd cc)
    by_test false v = still c h (bag c h v un.1) un.0

-- LISTS
record IsSound (t : Terms) (l : Line) : Type 0 where
  read : IsRead l.session l.steps
  fit : Fit l.session (entries l.steps)
  tried : IsTriedIn t.limits l.boot l.session l.mode l.steps

module _ (t : Terms) (ls : List Line) (c : Connection) (tag : ℕ) (call : Call) (e : Exchange) (gives : List Held) (b : CallBorne ls call) where
  tried_at : (id : SessionId) → OwnSteps c.boot id c.steps → MayChooseAt (limits_of t id) c id tag call → outcome_at (limits_of t id) c id tag call ≡ Recorded e gives
      → IsTriedIn t.limits c.boot id c.mode c.steps → IsTriedIn t.limits c.boot id c.mode (record { call = call; entry = e } ∷ c.steps)
  tried_at (Client k) own may does old =
      subst (λ o. OnRecorded o (λ x gs. IsTriedIn t.limits c.boot (Client k) c.mode (record { call = call; entry = x } ∷ c.steps))) does (tries_at ls t.limits c (Client k) tag call own may b old)
  tried_at (Server k) own may does old = tt

  sound_step : OwnSteps c.boot c.session c.steps → MayChooseAt (limits_of t c.session) c c.session tag call → outcome_at (limits_of t c.session) c c.session tag call ≡ Recorded e gives
      → IsSound t (line_of c) → IsSound t (line_of (stepped c call e))
  sound_step own may does old = record {
    read = subst (λ o. OnRecorded o (λ x gs. IsRead c.session (record { call = call; entry = x } ∷ c.steps))) does (reads_at ls (limits_of t c.session) c c.session tag call own may b old.read);
    fit = subst (λ o. OnRecorded o (λ x gs. Fit c.session (x ∷ entries c.steps))) does (fits_at ls (limits_of t c.session) c c.session tag call may b old.fit);
    tried = tried_at c.session own may does old.tried;
  }

first_sound : (t : Terms) (id : SessionId) (mode : InitMode) → MayBegin id mode → IsSound t (line_of (begun t id mode))
first_sound t (Client k) mode may =
    subst (λ m. IsSound t (line_of (begun t (Client k) m))) (sym may)
    record { read = record { reading = refl; lapse = refl; fair = tt; cut = tt }; fit = λ u. tt; tried = first_tried t.limits }
first_sound t (Server k) mode may = record { read = first_read k mode; fit = first_fits k mode; tried = tt }

may_open : (id : SessionId) (mode : InitMode) → MayBegin id mode → MayOpen id mode
may_open (Client k) mode may = may
may_open (Server k) mode may = may

-- THE INDUCTION over the moves of a log
abbrev number_of : SessionId → ℕ
number_of (Client k) = k
number_of (Server k) = k

-- no session that was opened has a greater number
abbrev top_with : SessionId → Deed → ℕ → ℕ
top_with id (Opened mode) n = number_of id + n
top_with id _ n = n

abbrev top : List Move → ℕ
top [] = 0
top (m ∷ old) = top_with m.session m.deed (top old)

record Follows (t : Terms) (log : List Move) : Type 0 where
  hands : Bag
  inv : Inv t.boot (top log) (top log) (lines_of t log) (hands_in hands)
  sound : EachLine (IsSound t) (lines_of t log)
  all : HasAll log hands

module _ (t : Terms) (old : List Move) (f : Follows t old) where
  opens : (id : SessionId) (mode : InitMode) (uses : Option Claim) → Listed id None (sessions_of old) → connection_in t id old ≡ None → MayBegin id mode → uses ≡ None
      → Follows t (record { session = id; deed = Opened mode; uses = uses } ∷ old)
  opens id mode uses l none may unused =
      let m : Move = record { session = id; deed = Opened mode; uses = uses } in
      let ls = lines_of t old in
      let is = pushed t m old (sessions_of old) (l.none refl) (begun t id mode) (connection_here t id m old (session_same id)) in
      record {
        hands = f.hands;
        inv = subst (λ xs. Inv t.boot (number_of id + top old) (number_of id + top old) xs (hands_in f.hands)) (sym is)
            (open_keeps t.boot (top old) (top old) (number_of id + top old) (number_of id + top old) ls (hands_in f.hands) id mode (may_open id mode may) (omega arith) (omega arith)
            (λ k h e. (let n : number_of id ≡ k = ap number_of e in omega (arith, h, n))) (λ k h e. (let n : number_of id ≡ k = ap number_of e in omega (arith, h, n)))
            (no_bearers t id old (sessions_of old) (l.none refl)) f.inv);
        sound = subst (EachLine (IsSound t)) (sym is) (each_push (IsSound t) ls (line_of (begun t id mode)) (first_sound t id mode may) f.sound);
        all = has_same m old f.hands f.hands f.all (λ d g i other. i) refl;
      }

  steps : (id : SessionId) (call : Call) (entry : Exchange) (gives : List Held) (uses : Option Claim) (c : Connection) → connection_in t id old ≡ Some c → Split id (sessions_of old) → c.session ≡ id
      → IsOwn t c.session (Did call entry gives) (Some c) → IsHanded c.session call uses old → IsFirst uses old → Follows t (record { session = id; deed = Did call entry gives; uses = uses } ∷ old)
  steps id call entry gives uses c at s same own handed once =
      let m : Move = record { session = id; deed = Did call entry gives; uses = uses } in
      let a = lines (connections_at t old s.before) in
      let b = lines (connections_at t old s.behind) in
      let is = placed t old id (sessions_of old) s c at in
      let becomes = replaced t m old (sessions_of old) s (stepped c call entry) (connection_here t id m old (session_same id) ∙ ap (after t id (Did call entry gives)) at) in
      let v : Inv t.boot (top old) (top old) (a ++ line_of c ∷ b) (hands_in f.hands) = subst (λ xs. Inv t.boot (top old) (top old) xs (hands_in f.hands)) is f.inv in
      let left = left_of old f.hands f.all c.session call uses handed once in
      let new = gifts (length old) 0 0 gives in
      let values : hands_in (left.rest ++ new) ≡ hands_in left.rest ++ numbered 0 gives = hands-append left.rest new ∙ ap (λ hs. hands_in left.rest ++ hs) (gifts-numbered (length old) 0 0 gives) in
      record {
        hands = left.rest ++ new;
        inv = subst (λ xs. Inv t.boot (top old) (top old) xs (hands_in (left.rest ++ new))) (sym becomes)
            (subst (λ hs. Inv t.boot (top old) (top old) (a ++ line_of (stepped c call entry) ∷ b) hs) (sym values)
            (step_keeps t.boot (top old) (top old) a c b (limits_of t c.session) own.0 call entry gives (hands_in f.hands) (hands_in left.rest) 0 own.1 own.2 left.leaves v));
        sound = subst (EachLine (IsSound t)) (sym becomes)
            (each_step (IsSound t) a (line_of c) (line_of (stepped c call entry)) b
            (sound_step t (a ++ line_of c ∷ b) c own.0 call entry gives (left_borne (a ++ line_of c ∷ b) left.leaves v.borne) (each_mid (λ x. OwnSteps x.boot x.session x.steps) a (line_of c) b v.own) own.1 own.2
            (each_mid (IsSound t) a (line_of c) b (subst (EachLine (IsSound t)) is f.sound)))
            (subst (EachLine (IsSound t)) is f.sound));
        all = has_more m old f.hands left.rest new f.all left.still (λ x h e p. is_gift (length old) 0 0 gives x.which h x e p (omega arith));
      }

  passes : (id : SessionId) (call : Call) (uses : Option Claim) → IsHanded id call uses old → IsFirst uses old → Follows t (record { session = id; deed = Quiet call; uses = uses } ∷ old)
  passes id call uses handed once =
      let m : Move = record { session = id; deed = Quiet call; uses = uses } in
      let is = unmoved t m old (ap line_in (connection_here t id m old (session_same id))) (sessions_of old) in
      let left = left_of old f.hands f.all id call uses handed once in
      record {
        hands = left.rest;
        inv = subst (λ xs. Inv t.boot (top old) (top old) xs (hands_in left.rest)) (sym is) (rest_keeps t.boot (top old) (top old) (lines_of t old) (hands_in f.hands) (hands_in left.rest) id call left.leaves f.inv);
        sound = subst (EachLine (IsSound t)) (sym is) f.sound;
        all = has_same m old f.hands left.rest f.all left.still refl;
      }

  takes : (id : SessionId) (frames : List MuxFrame) (uses : Option Claim) (c : Connection) → connection_in t id old ≡ Some c → Follows t (record { session = id; deed = TookOut frames; uses = uses } ∷ old)
  takes id frames uses c at =
      let m : Move = record { session = id; deed = TookOut frames; uses = uses } in
      let is = unmoved t m old (ap line_in (connection_here t id m old (session_same id) ∙ ap (after t id (TookOut frames)) at) ∙ ap line_in (sym at)) (sessions_of old) in
      record {
        hands = f.hands;
        inv = subst (λ xs. Inv t.boot (top old) (top old) xs (hands_in f.hands)) (sym is) f.inv;
        sound = subst (EachLine (IsSound t)) (sym is) f.sound;
        all = has_same m old f.hands f.hands f.all (λ d g i other. i) refl;
      }

  goes_on : (id : SessionId) (deed : Deed) (uses : Option Claim) (o : Option Connection) → connection_in t id old ≡ o → Listed id o (sessions_of old) → IsOwn t id deed o → IsGiven id deed uses old → IsFirst uses old
      → Follows t (record { session = id; deed = deed; uses = uses } ∷ old)
  goes_on id (Opened mode) uses None at l own given once = opens id mode uses l at own given
  goes_on id (Opened mode) uses (Some c) at l own given once = absurd own
  goes_on id (Did call entry gives) uses None at l own given once = absurd own
  goes_on id (Did call entry gives) uses (Some c) at l own given once =
      let same = (named t id (moves_of id old) c at).1 in
      steps id call entry gives uses c at (l.one c refl) same (subst (λ x. IsOwn t x (Did call entry gives) (Some c)) (sym same) own) (subst (λ x. IsHanded x call uses old) (sym same) given) once
  goes_on id (Quiet call) uses None at l own given once = absurd own
  goes_on id (Quiet call) uses (Some c) at l own given once = passes id call uses given once
  goes_on id (TookOut frames) uses None at l own given once = absurd own
  goes_on id (TookOut frames) uses (Some c) at l own given once = takes id frames uses c at

follows : (t : Terms) (log : List Move) → IsBag t log → Follows t log
follows t [] bag = record { hands = []; inv = reached_keeps (starts t.limits t.boot); sound = tt; all = λ c h e un. absurd cc }
follows t (m ∷ old) bag =
    let f = follows t old (record { given = bag.given.1; once = bag.once.1; own = bag.own.1 }) in
    goes_on t old f m.session m.deed m.uses (connection_in t m.session old) refl (listed t old bag.own.1 m.session) bag.own.0 bag.given.0 bag.once.0

-- the headline
unlapsed : (t : Terms) (ls : List Line) → EachLine (IsSound t) ls → EachLine (λ l. EachStep (IsUnlapsed l.session) l.steps) ls
unlapsed t [] s = tt
unlapsed t (l ∷ ls) s = (s.0.read.fair, unlapsed t ls s.1)

cut : (t : Terms) (ls : List Line) → EachLine (IsSound t) ls → EachLine (λ l. Each IsCut (entries l.steps)) ls
cut t [] s = tt
cut t (l ∷ ls) s = (s.0.read.cut, cut t ls s.1)

fitting : (t : Terms) (ls : List Line) → EachLine (IsSound t) ls → EachLine (λ l. Fit l.session (entries l.steps)) ls
fitting t [] s = tt
fitting t (l ∷ ls) s = (s.0.fit, fitting t ls s.1)

tried_in : (t : Terms) (cs : List Connection) → EachLine (IsSound t) (lines cs) → EachConnection (λ c. IsTriedIn t.limits c.boot c.session c.mode c.steps) cs
tried_in t [] s = tt
tried_in t (c ∷ cs) s = (s.0.tried, tried_in t cs s.1)

never_often : (t : Terms) (log : List Move) → Follows t log → (n : Name) → total is_retried n (lines_of t log) ≤ t.limits.retries
never_often t log f n = few_tries t.limits n (connections_at t log (sessions_of log)) f.inv.own (tried_in t (connections_at t log (sessions_of log)) f.sound) (f.inv.unique n.boot (Client n.client))

legal : (t : Terms) (log : List Move) → Follows t log → IsLegal t.limits.retries (lines_of t log)
legal t log f = Inv-legal t.limits.retries f.inv (unlapsed t (lines_of t log) f.sound) (cut t (lines_of t log) f.sound) (never_often t log f)

pub every_log_is_legal : EveryLogIsLegal
every_log_is_legal t log bag = legal t log (follows t log bag)

pub every_rdispatch_is_answered : EveryRdispatchIsAnswered
every_rdispatch_is_answered t log bag = legal_answered t.limits.retries (lines_of t log) (every_log_is_legal t log bag)

pub every_reply_is_seen : EveryReplyIsSeen
every_reply_is_seen t log bag = (let f = follows t log bag in legal_seen t.limits.retries (lines_of t log) (legal t log f) (fitting t (lines_of t log) f.sound))

pub every_name_is_sent_once : EveryNameIsSentOnce
every_name_is_sent_once t log bag none =
    let f = follows t log bag in
    let ls = legal t log f in
    (λ n. omega (arith, ls.tries n, none), kept_plain f.inv (λ n. omega (arith, never_often t log f n, none)))

agreeing : (ls : List Line) → EachLine (λ l. Fit l.session (entries l.steps)) ls → EachLine (λ l. EndsAgreeAt l.session (entries l.steps)) ls
agreeing [] fit = tt
agreeing (l ∷ ls) fit = (agrees l.session (entries l.steps) fit.0, agreeing ls fit.1)

pub both_ends_agree : BothEndsAgree
both_ends_agree t log bag = agreeing (lines_of t log) (fitting t (lines_of t log) (follows t log bag).sound)
