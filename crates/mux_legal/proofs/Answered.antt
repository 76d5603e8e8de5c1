-- Each Rdispatch that a client is sent is a server's reply to the dispatch that it sent, or a nack: from a legal run.
use Rattle.std.proofs.Common.{inl, inr, ℕ, List, [], ◌∷◌, ◌≡◌, ◌≤◌, ◌+◌, ◌⊎◌, Bool, true, false, Option, Some, None, refl, arith, ap, subst, sym, ◌∙◌}
use Rattle.std.specs.Prelude.{if◌then◌else◌, ◌==◌, ◌&&◌, length}
use Rattle.std.proofs.lemmas.Bool.{eqb-true, eq-eqb}
use Rattle.mux_frame.specs.Spelling.{MuxFrame}
use Rattle.mux_message.specs.Kinds.{kind_of, is_final, is_dispatch}
use Rattle.mux_message.specs.Spellings.{normal}
use Rattle.mux_message.specs.Made.{nack_on, retag}
use Rattle.mux_message.specs.declared.kind.MessageKind.TheVariants.{Rdispatch, Rerr, Rdiscarded}
use Rattle.mux_history.specs.declared.name.Name.{Name}
use Rattle.mux_history.specs.declared.session.SessionId.{SessionId}
use Rattle.mux_history.specs.declared.session.SessionId.TheVariants.{Client, Server}
use Rattle.mux_model.specs.Entries.{Exchange}
use Rattle.mux_model.specs.Tags.{Holder, holder, asked, answered, name_held, name_in}
use Rattle.mux_model.specs.Steps.{entries, is_nack}
use Rattle.mux_model.specs.World.{World, Reached, starts, start, same_session}
use Rattle.mux_model.specs.Runs.{lines}
use Rattle.mux_model.specs.Lawful.{Said, ToServer, ToClient, with_said, passed, is_final_on}
use Rattle.mux_model.specs.Legal.{Line, IsLegal, OnDispatch, OnFinal, Each, EachLine, SomeEntry, SomeLine, IsFair, IsFairFinal, IsFairSend, IsTakenIn, TakesUnder, IsNamedInTurn, SettlesName, IsSettledIn, IsPassedOn, IsRouterMade, unsent_nack, unsent_no_route, lost, discard, IsOwnAnswer, EachWasNacked, holder_then, taken_count, dispatch_in, bearers, bears}
use Rattle.mux_legal.specs.Headline.{open_message, SentUnder, RepliesTo, IsRepliedIn, IsAnswered, OnRdispatch, AnswersEach, EveryRdispatchIsAnswered}
use Rattle.mux_model.proofs.Happens.{run_reached}
use Rattle.mux_legal.proofs.ReadingsHold.{reached_legal}

-- its server's reply to the dispatch of this name, changed in the tag alone, or a nack of a name whose every sending was nacked
abbrev pub IsItsReplyOrNack : List Line → MuxFrame → Name → Type 0
IsItsReplyOrNack ls f n = IsPassedOn ls n f ⊎ ((f ≡ nack_on f.tag) × EachWasNacked ls n)

-- the dispatch that holds the reply's tag has a name, and so it is of that name
abbrev pub OnHolder : List Line → MuxFrame → Option Holder → Type 0
OnHolder ls f None = ⊥
OnHolder ls f (Some h) = (n : Name) × (h.name ≡ Some n) × IsItsReplyOrNack ls f n

abbrev pub Answers : List Line → SessionId → Exchange → List Exchange → Type 0
Answers ls (Server k) e old = Unit {0}
Answers ls (Client k) e old = OnRdispatch e.sent (λ f. OnHolder ls f (holder_then (Client k) e old f.tag))

by_made : (ls : List Line) (e : Exchange) (f : MuxFrame) (n : Name) → kind_of f.kind ≡ Rdispatch → IsRouterMade ls n e f → IsItsReplyOrNack ls f n
by_made ls e f n k (unsent_nack is z) = inr (is, z)
by_made ls e f n k (unsent_no_route is z) = (let x : Rdispatch ≡ Rerr = sym k ∙ ap (λ g. kind_of g.kind) is in absurd (cc))
by_made ls e f n k (lost is z) = (let x : Rdispatch ≡ Rerr = sym k ∙ ap (λ g. kind_of g.kind) is in absurd (cc))
by_made ls e f n k (discard is z) = (let x : Rdispatch ≡ Rdiscarded = sym k ∙ ap (λ g. kind_of g.kind) is in absurd (cc))

-- the router's own answer is no Rdispatch
no_answer : {P : Type 0} (taken : Option MuxFrame) (f : MuxFrame) → kind_of f.kind ≡ Rdispatch → IsOwnAnswer taken f → P
no_answer None f k own = absurd own
no_answer (Some m) f k (inl e) = (let x : Rdispatch ≡ Rerr = sym k ∙ e.1 in absurd (cc))
no_answer (Some m) f k (inr (inl e)) = (let x : Rdispatch ≡ Rerr = sym k ∙ ap (λ (g : MuxFrame). kind_of g.kind) e in absurd (cc))
no_answer (Some m) f k (inr (inr e)) = (let x : Rdispatch ≡ Rerr = sym k ∙ ap (λ (g : MuxFrame). kind_of g.kind) e in absurd (cc))

by_holder : (ls : List Line) (e : Exchange) (f : MuxFrame) (h : Option Holder) → kind_of f.kind ≡ Rdispatch → IsFairFinal ls e f h → OnHolder ls f h
by_holder ls e f None k fair = no_answer e.taken f k fair
by_holder ls e f (Some h) k (n, is, inl p) = (n, is, inl p)
by_holder ls e f (Some h) k (n, is, inr m) = (n, is, by_made ls e f n k m)

fair_option : (ls : List Line) (e : Exchange) (held : MuxFrame → Option Holder) (sent : Option MuxFrame) → OnFinal sent (λ f. IsFairFinal ls e f (held f)) → OnRdispatch sent (λ f. OnHolder ls f (held f))
fair_option ls e held None fair = tt
fair_option ls e held (Some f) fair = λ k. by_holder ls e f (held f) k (fair (ap is_final k))

fair_entry : (ls : List Line) (id : SessionId) (e : Exchange) (old : List Exchange) → IsFair ls id e old → Answers ls id e old
fair_entry ls (Server k) e old fair = tt
fair_entry ls (Client k) e old fair = fair_option ls e (λ f. holder_then (Client k) e old f.tag) e.sent fair

fair_list : (ls : List Line) (id : SessionId) (es : List Exchange) → Each (IsFair ls id) es → Each (Answers ls id) es
fair_list ls id [] fair = tt
fair_list ls id (e ∷ old) fair = (fair_entry ls id e old fair.0, fair_list ls id old fair.1)

fair_lines : (all ls : List Line) → EachLine (λ l. Each (IsFair all l.session) (entries l.steps)) ls → EachLine (λ l. Each (Answers all l.session) (entries l.steps)) ls
fair_lines all [] fair = tt
fair_lines all (l ∷ ls) fair = (fair_list all l.session (entries l.steps) fair.0, fair_lines all ls fair.1)

fair_replies : (retries : ℕ) (ls : List Line) → IsLegal retries ls → EachLine (λ l. Each (Answers ls l.session) (entries l.steps)) ls
fair_replies retries ls legal = fair_lines ls ls legal.fair

-- who holds a tag after a message
ask : (t : ℕ) (who : Holder) (o : Option MuxFrame) (b : Option Holder) (n : Name) → name_held (asked t who o b) ≡ Some n → (name_held b ≡ Some n) ⊎ ((d : MuxFrame) × (o ≡ Some d) × (is_dispatch (kind_of d.kind) ≡ true) × (d.tag ≡ t) × (who.name ≡ Some n))
ask t who None b n h = inl h
ask t who (Some f) b n h = go (is_dispatch (kind_of f.kind)) (f.tag == t) refl refl h
  where
    go : (x y : Bool) → is_dispatch (kind_of f.kind) ≡ x → (f.tag == t) ≡ y → name_held (if x && y then Some who else b) ≡ Some n → (name_held b ≡ Some n) ⊎ ((d : MuxFrame) × (Some f ≡ Some d) × (is_dispatch (kind_of d.kind) ≡ true) × (d.tag ≡ t) × (who.name ≡ Some n))
    go true true p q k = inr (f, refl, p, eqb-true f.tag t q, k)
    go true false p q k = inl k
    go false y p q k = inl k

ans : (t : ℕ) (o : Option MuxFrame) (b : Option Holder) (n : Name) → name_held (answered t o b) ≡ Some n → name_held b ≡ Some n
ans t None b n h = h
ans t (Some f) b n h = go (is_final (kind_of f.kind) && f.tag == t) h
  where
    go : (x : Bool) → name_held (if x then None else b) ≡ Some n → name_held b ≡ Some n
    go true k = absurd (cc)
    go false k = k

-- a dispatch was taken on this tag under this name
abbrev pub TookOn : ℕ → Name → Exchange → List Exchange → Type 0
TookOn t n e old = (m : MuxFrame) × TakesUnder n m e old × (m.tag ≡ t)

took_by : (t : ℕ) (n : Name) (e : Exchange) (old : List Exchange) (b : Option Holder) → (name_held b ≡ Some n → SomeEntry (TookOn t n) old) → name_held (asked t (record { place = length old; name = name_in e.rec }) e.taken b) ≡ Some n → SomeEntry (TookOn t n) (e ∷ old)
took_by t n e old b later h = go (ask t (record { place = length old; name = name_in e.rec }) e.taken b n h)
  where
    go : ((name_held b ≡ Some n) ⊎ ((d : MuxFrame) × (e.taken ≡ Some d) × (is_dispatch (kind_of d.kind) ≡ true) × (d.tag ≡ t) × (name_in e.rec ≡ Some n))) → SomeEntry (TookOn t n) (e ∷ old)
    go (inl x) = inr (later x)
    go (inr x) = inl (x.0, (x.4, x.1, x.2), x.3)

held_took : (c t : ℕ) (n : Name) (es : List Exchange) → name_held (holder (Client c) t es) ≡ Some n → SomeEntry (TookOn t n) es
held_took c t n [] h = absurd (cc)
held_took c t n (e ∷ old) h =
    took_by t n e old (holder (Client c) t old) (held_took c t n old) (ans t e.sent (asked t (record { place = length old; name = name_in e.rec }) e.taken (holder (Client c) t old)) n h)

-- a dispatch was sent on this tag under this name
abbrev pub SentOn : ℕ → Name → Exchange → List Exchange → Type 0
SentOn t n e old = (d : MuxFrame) × (e.sent ≡ Some d) × (is_dispatch (kind_of d.kind) ≡ true) × (d.tag ≡ t) × (name_in e.rec ≡ Some n)

held_sent : (c t : ℕ) (n : Name) (es : List Exchange) → name_held (holder (Server c) t es) ≡ Some n → SomeEntry (SentOn t n) es
held_sent c t n [] h = absurd (cc)
held_sent c t n (e ∷ old) h = go (held_sent c t n old) (ask t (record { place = length old; name = name_in e.rec }) e.sent (answered t e.taken (holder (Server c) t old)) n h)
  where
    go : (name_held (holder (Server c) t old) ≡ Some n → SomeEntry (SentOn t n) old) → ((name_held (answered t e.taken (holder (Server c) t old)) ≡ Some n) ⊎ ((d : MuxFrame) × (e.sent ≡ Some d) × (is_dispatch (kind_of d.kind) ≡ true) × (d.tag ≡ t) × (name_in e.rec ≡ Some n))) → SomeEntry (SentOn t n) (e ∷ old)
    go later (inl x) = inr (later (ans t e.taken (holder (Server c) t old) n x))
    go later (inr x) = inl x

-- the open dispatch among the messages that passed is what was sent under the holder's name
abbrev pub SentIs : ℕ → Name → MuxFrame → Exchange → List Exchange → Type 0
SentIs t n d e old = (e.sent ≡ Some d) × (is_dispatch (kind_of d.kind) ≡ true) × (d.tag ≡ t) × (name_in e.rec ≡ Some n)

abbrev OpenSent : ℕ → Name → List Said → List Exchange → Type 0
OpenSent t n p es = (d : MuxFrame) × (open_message t p ≡ Some d) × SomeEntry (SentIs t n d) es

sent_more : (t : ℕ) (n : Name) (p : List Said) (e : Exchange) (old : List Exchange) → OpenSent t n p old → OpenSent t n p (e ∷ old)
sent_more t n p e old x = (x.0, x.1, inr x.2)

open_taken : (t : ℕ) (n : Name) (taken : Option MuxFrame) (o : Option Holder) (p : List Said) (es : List Exchange) →
    (name_held o ≡ Some n → OpenSent t n p es) → name_held (answered t taken o) ≡ Some n → OpenSent t n (with_said ToClient taken p) es
open_taken t n None o p es later h = later h
open_taken t n (Some g) o p es later h = by_test (is_final_on t g) h
  where
    by_test : (b : Bool) → name_held (if b then None else o) ≡ Some n → (d : MuxFrame) × ((if b then None else open_message t p) ≡ Some d) × SomeEntry (SentIs t n d) es
    by_test true h = absurd (cc)
    by_test false h = later h

open_sent : (t : ℕ) (n : Name) (e : Exchange) (old : List Exchange) (sent : Option MuxFrame) → e.sent ≡ sent → (o : Option Holder) (p : List Said) →
    (name_held o ≡ Some n → OpenSent t n p old) → name_held (asked t (record { place = length old; name = name_in e.rec }) sent o) ≡ Some n →
    OpenSent t n (with_said ToServer sent p) (e ∷ old)
open_sent t n e old None is o p later h = sent_more t n p e old (later h)
open_sent t n e old (Some d) is o p later h = by_test (is_dispatch (kind_of d.kind)) (d.tag == t) refl refl h
  where
    by_test : (a b : Bool) → is_dispatch (kind_of d.kind) ≡ a → (d.tag == t) ≡ b → name_held (if a && b then Some (record { place = length old; name = name_in e.rec }) else o) ≡ Some n →
        (x : MuxFrame) × ((if a && b then Some d else open_message t p) ≡ Some x) × SomeEntry (SentIs t n x) (e ∷ old)
    by_test true true x y h = (d, refl, inl (is, x, eqb-true d.tag t y, h))
    by_test true false x y h = sent_more t n p e old (later h)
    by_test false b x y h = sent_more t n p e old (later h)

pub held_open : (k t : ℕ) (n : Name) (es : List Exchange) → name_held (holder (Server k) t es) ≡ Some n → OpenSent t n (passed (Server k) es) es
held_open k t n [] h = absurd (cc)
held_open k t n (e ∷ old) h =
    open_sent t n e old e.sent refl (answered t e.taken (holder (Server k) t old)) (with_said ToClient e.taken (passed (Server k) old))
    (open_taken t n e.taken (holder (Server k) t old) (passed (Server k) old) old (held_open k t n old)) h

-- one dispatch has one name
some_inj : {A : Type 0} (x y : A) → Some x ≡ Some y → x ≡ y
some_inj x y e = cc

on_dispatch : (o : Option MuxFrame) (P : MuxFrame → Type 0) (m : MuxFrame) → o ≡ Some m → is_dispatch (kind_of m.kind) ≡ true → OnDispatch o P → P m
on_dispatch o P m is d h = (subst (λ x. OnDispatch x P) is h) d

one_if : (x : Bool) → x ≡ true → ◌≡◌ {A = ℕ} (if x then 1 else 0) 1
one_if true e = refl
one_if false e = absurd (cc)

counts : (o : Option MuxFrame) (m : MuxFrame) → o ≡ Some m → is_dispatch (kind_of m.kind) ≡ true → dispatch_in o ≡ 1
counts o m is d = ap dispatch_in is ∙ one_if (is_dispatch (kind_of m.kind)) d

module _ (b k : ℕ) (n : Name) where
  is_turn : (m : MuxFrame) (e : Exchange) (old : List Exchange) → IsNamedInTurn b (Client k) e old → TakesUnder n m e old → n ≡ record { boot = b; client = k; seq = taken_count old + 1 }
  is_turn m e old turn t = some_inj n (record { boot = b; client = k; seq = taken_count old + 1 }) (sym t.0 ∙ on_dispatch e.taken (λ f. name_in e.rec ≡ Some (record { boot = b; client = k; seq = taken_count old + 1 })) m t.1 t.2 turn)

  bounded : (m : MuxFrame) (es : List Exchange) → Each (IsNamedInTurn b (Client k)) es → SomeEntry (TakesUnder n m) es → n.seq ≤ taken_count es
  bounded m [] named t = absurd t
  bounded m (e ∷ old) named (inl t) = omega (arith, ap (λ x. x.seq) (is_turn m e old named.0 t), counts e.taken m t.1 t.2)
  bounded m (e ∷ old) named (inr t) = omega (arith, bounded m old named.1 t)

  same_take : (m m' : MuxFrame) (es : List Exchange) → Each (IsNamedInTurn b (Client k)) es → SomeEntry (TakesUnder n m) es → SomeEntry (TakesUnder n m') es → m ≡ m'
  same_take m m' [] named t u = absurd t
  same_take m m' (e ∷ old) named (inl t) (inl u) = some_inj m m' (sym t.1 ∙ u.1)
  same_take m m' (e ∷ old) named (inl t) (inr u) = absurd (omega (arith, ap (λ x. x.seq) (is_turn m e old named.0 t), bounded m' old named.1 u))
  same_take m m' (e ∷ old) named (inr t) (inl u) = absurd (omega (arith, ap (λ x. x.seq) (is_turn m' e old named.0 u), bounded m old named.1 t))
  same_take m m' (e ∷ old) named (inr t) (inr u) = same_take m m' old named.1 t u

  turn_of : (m : MuxFrame) (es : List Exchange) → Each (IsNamedInTurn b (Client k)) es → SomeEntry (TakesUnder n m) es → (b ≡ n.boot) × (k ≡ n.client)
  turn_of m [] named t = absurd t
  turn_of m (e ∷ old) named (inl t) = (sym (ap (λ x. x.boot) (is_turn m e old named.0 t)), sym (ap (λ x. x.client) (is_turn m e old named.0 t)))
  turn_of m (e ∷ old) named (inr t) = turn_of m old named.1 t

-- one connection takes under a name
same_number : (x : ℕ) → (x == x) ≡ true
same_number x = eq-eqb x x refl

both_true : (x y : Bool) → x ≡ true → y ≡ true → ◌≡◌ {A = ℕ} (if x && y then 1 else 0) 1
both_true true true a b = refl
both_true true false a b = absurd (cc)
both_true false y a b = absurd (cc)

bears_one : (n : Name) (l : Line) → l.boot ≡ n.boot → l.session ≡ Client n.client → bears n.boot (Client n.client) l ≡ 1
bears_one n l b s = both_true (l.boot == n.boot) (same_session l.session (Client n.client)) (eq-eqb l.boot n.boot b) (ap (λ x. same_session x (Client n.client)) s ∙ same_number n.client)

takes_line : (n : Name) (m : MuxFrame) (ls : List Line) → SomeLine (IsTakenIn n m) ls → 1 ≤ bearers n.boot (Client n.client) ls
takes_line n m [] t = absurd t
takes_line n m (l ∷ ls) (inl t) = omega (arith, bears_one n l t.0 t.1)
takes_line n m (l ∷ ls) (inr t) = omega (arith, takes_line n m ls t)

one_take : (n : Name) (m m' : MuxFrame) (ls : List Line) → bearers n.boot (Client n.client) ls ≤ 1 → EachLine (λ l. Each (IsNamedInTurn l.boot l.session) (entries l.steps)) ls → SomeLine (IsTakenIn n m) ls → SomeLine (IsTakenIn n m') ls → m ≡ m'
one_take n m m' [] one named t u = absurd t
one_take n m m' (l ∷ ls) one named (inl t) (inl u) =
    same_take l.boot n.client n m m' (entries l.steps) (subst (λ x. Each (IsNamedInTurn l.boot x) (entries l.steps)) t.1 named.0) t.2 u.2
one_take n m m' (l ∷ ls) one named (inl t) (inr u) = absurd (omega (arith, one, bears_one n l t.0 t.1, takes_line n m' ls u))
one_take n m m' (l ∷ ls) one named (inr t) (inl u) = absurd (omega (arith, one, bears_one n l u.0 u.1, takes_line n m ls t))
one_take n m m' (l ∷ ls) one named (inr t) (inr u) = one_take n m m' ls (omega (arith, one)) named.1 t u

module _ (ls : List Line) (n : Name) (m : MuxFrame) (one : (m' : MuxFrame) → SomeLine (IsTakenIn n m') ls → m ≡ m') where
  as_taken : (t : ℕ) (d m' : MuxFrame) → d.tag ≡ t → d ≡ retag d.tag m' → m ≡ m' → d ≡ retag t m
  as_taken t d m' tag is same = is ∙ ap (λ x. retag x m') tag ∙ ap (retag t) (sym same)

  sent_as : (k t : ℕ) (es : List Exchange) → Each (IsFair ls (Server k)) es → SomeEntry (SentOn t n) es → SomeEntry (SentUnder n (retag t m)) es
  sent_as k t [] fair s = absurd s
  sent_as k t (e ∷ old) fair (inr s) = inr (sent_as k t old fair.1 s)
  sent_as k t (e ∷ old) fair (inl s) =
      let c = (on_dispatch e.sent (IsFairSend ls (Server k) e old) s.0 s.1 s.2 fair.0).carried in
      let same = one c.2 (subst (λ x. SomeLine (IsTakenIn x c.2) ls) (some_inj c.0 n (sym c.1 ∙ s.4)) c.3) in
      inl (s.4, s.1 ∙ ap Some (as_taken t s.0 c.2 s.3 c.4 same))

  pub sent_is : (k t : ℕ) (d : MuxFrame) (es : List Exchange) → Each (IsFair ls (Server k)) es → SomeEntry (SentIs t n d) es → d ≡ retag t m
  sent_is k t d [] fair s = absurd s
  sent_is k t d (e ∷ old) fair (inr s) = sent_is k t d old fair.1 s
  sent_is k t d (e ∷ old) fair (inl s) =
      let c = (on_dispatch e.sent (IsFairSend ls (Server k) e old) d s.0 s.1 fair.0).carried in
      let same = one c.2 (subst (λ x. SomeLine (IsTakenIn x c.2) ls) (some_inj c.0 n (sym c.1 ∙ s.3)) c.3) in
      as_taken t d c.2 s.2 c.4 same

  replies : (k : ℕ) (f r : MuxFrame) (es : List Exchange) → (is_nack r ≡ true → EachWasNacked ls n) → Each (IsFair ls (Server k)) es → f ≡ retag f.tag (normal r) → SomeEntry (SettlesName (Server k) n r) es → SomeEntry (RepliesTo ls k n m f) es
  replies k f r [] nack fair is s = absurd s
  replies k f r (e ∷ old) nack fair is (inl s) = inl (r, s, sent_as k r.tag old fair.1 (held_sent k r.tag n old s.2), is, nack)
  replies k f r (e ∷ old) nack fair is (inr s) = inr (replies k f r old nack fair.1 is s)

  replied : (f r : MuxFrame) (some : List Line) → (is_nack r ≡ true → EachWasNacked ls n) → EachLine (λ l. Each (IsFair ls l.session) (entries l.steps)) some → f ≡ retag f.tag (normal r) → SomeLine (IsSettledIn n r) some → SomeLine (IsRepliedIn ls n m f) some
  replied f r [] nack fair is s = absurd s
  replied f r (l ∷ some) nack fair is (inl s) = inl (s.0, s.1, replies s.0 f r (entries l.steps) nack (subst (λ x. Each (IsFair ls x) (entries l.steps)) s.1 fair.0) is s.2)
  replied f r (l ∷ some) nack fair is (inr s) = inr (replied f r some nack fair.1 is s)

taken_there : (t : ℕ) (n : Name) (es : List Exchange) → SomeEntry (TookOn t n) es → (m : MuxFrame) × SomeEntry (λ a b. TakesUnder n m a b × (m.tag ≡ t)) es
taken_there t n [] s = absurd s
taken_there t n (e ∷ old) (inl s) = (s.0, inl (s.1, s.2))
taken_there t n (e ∷ old) (inr s) = (let x = taken_there t n old s in (x.0, inr x.1))

taken_so : (t : ℕ) (n : Name) (m : MuxFrame) (es : List Exchange) → SomeEntry (λ a b. TakesUnder n m a b × (m.tag ≡ t)) es → SomeEntry (TakesUnder n m) es
taken_so t n m [] s = absurd s
taken_so t n m (e ∷ old) (inl s) = inl s.0
taken_so t n m (e ∷ old) (inr s) = inr (taken_so t n m old s)

by_held : (ls : List Line) (f : MuxFrame) (h : Option Holder) → OnHolder ls f h → (n : Name) × (name_held h ≡ Some n) × IsItsReplyOrNack ls f n
by_held ls f None o = absurd o
by_held ls f (Some h) o = o

-- what each reply that was passed on is made into: of some list it is so
module _ (retries : ℕ) (ls : List Line) (legal : IsLegal retries ls) (Replied : Name → (m f : MuxFrame) → Line → Type 0)
    (made : (n : Name) (m f : MuxFrame) → ((m' : MuxFrame) → SomeLine (IsTakenIn n m') ls → m ≡ m') → IsPassedOn ls n f → SomeLine (Replied n m f) ls) where
  by_reply : (f m : MuxFrame) (n : Name) → SomeLine (IsTakenIn n m) ls → IsItsReplyOrNack ls f n → SomeLine (Replied n m f) ls ⊎ ((f ≡ nack_on f.tag) × EachWasNacked ls n)
  by_reply f m n t (inr x) = inr x
  by_reply f m n t (inl p) = inl (made n m f (λ m'. one_take n m m' ls (legal.one_connection n.boot (Client n.client)) legal.named t) p)

  by_frame : (b k : ℕ) (e : Exchange) (old : List Exchange) (f : MuxFrame) → Each (IsNamedInTurn b (Client k)) (e ∷ old) → ((n : Name) (m : MuxFrame) → b ≡ n.boot → k ≡ n.client → SomeEntry (TakesUnder n m) (e ∷ old) → SomeLine (IsTakenIn n m) ls) → OnHolder ls f (holder_then (Client k) e old f.tag) → IsAnswered Replied ls k e old f
  by_frame b k e old f named there o =
      let x = by_held ls f (holder_then (Client k) e old f.tag) o in
      let y = taken_there f.tag x.0 (e ∷ old) (took_by f.tag x.0 e old (holder (Client k) f.tag old) (held_took k f.tag x.0 old) x.1) in
      let z = taken_so f.tag x.0 y.0 (e ∷ old) y.1 in
      let w = turn_of b k x.0 y.0 (e ∷ old) named z in
      (x.0, x.1, y.0, y.1, by_reply f y.0 x.0 (there x.0 y.0 w.0 w.1 z) x.2)

  by_option : (b k : ℕ) (e : Exchange) (old : List Exchange) (sent : Option MuxFrame) → Each (IsNamedInTurn b (Client k)) (e ∷ old) → ((n : Name) (m : MuxFrame) → b ≡ n.boot → k ≡ n.client → SomeEntry (TakesUnder n m) (e ∷ old) → SomeLine (IsTakenIn n m) ls) → OnRdispatch sent (λ f. OnHolder ls f (holder_then (Client k) e old f.tag)) → OnRdispatch sent (IsAnswered Replied ls k e old)
  by_option b k e old None named there o = tt
  by_option b k e old (Some f) named there o = λ is. by_frame b k e old f named there (o is)

  by_entries : (b : ℕ) (id : SessionId) (es : List Exchange) → Each (IsNamedInTurn b id) es → ((k : ℕ) (n : Name) (m : MuxFrame) → id ≡ Client k → b ≡ n.boot → k ≡ n.client → SomeEntry (TakesUnder n m) es → SomeLine (IsTakenIn n m) ls) → Each (Answers ls id) es → Each (AnswersEach Replied ls id) es
  by_entries b id [] named there a = tt
  by_entries b (Server k) (e ∷ old) named there a = (tt, by_entries b (Server k) old named.1 (λ j n m is p q s. there j n m is p q (inr s)) a.1)
  by_entries b (Client k) (e ∷ old) named there a =
      (by_option b k e old e.sent named (λ n m p q s. there k n m refl p q s) a.0, by_entries b (Client k) old named.1 (λ j n m is p q s. there j n m is p q (inr s)) a.1)

  by_lines : (some : List Line) → ((n : Name) (m : MuxFrame) → SomeLine (IsTakenIn n m) some → SomeLine (IsTakenIn n m) ls) → EachLine (λ l. Each (IsNamedInTurn l.boot l.session) (entries l.steps)) some → EachLine (λ l. Each (Answers ls l.session) (entries l.steps)) some → EachLine (λ l. Each (AnswersEach Replied ls l.session) (entries l.steps)) some
  by_lines [] there named a = tt
  by_lines (l ∷ some) there named a =
      (by_entries l.boot l.session (entries l.steps) named.0 (λ k n m is p q s. there n m (inl (p, is ∙ ap Client q, s))) a.0, by_lines some (λ n m s. there n m (inr s)) named.1 a.1)

  pub legal_answers : EachLine (λ l. Each (AnswersEach Replied ls l.session) (entries l.steps)) ls
  legal_answers = by_lines ls (λ n m s. s) legal.named (fair_replies retries ls legal)

-- of a legal run it is so, and so of every reached world
pub legal_answered : (retries : ℕ) (ls : List Line) → IsLegal retries ls → EachLine (λ l. Each (AnswersEach (IsRepliedIn ls) ls l.session) (entries l.steps)) ls
legal_answered retries ls legal = legal_answers retries ls legal (IsRepliedIn ls) (λ n m f one p. replied ls n m one f p.0 ls p.3 legal.fair p.2 p.1)

pub reached_answered : {w : World} → Reached w → EachLine (λ l. Each (AnswersEach (IsRepliedIn (lines w.connections)) (lines w.connections) l.session) (entries l.steps)) (lines w.connections)
reached_answered {w} r = legal_answered w.limits.retries (lines w.connections) (reached_legal r)

pub every_rdispatch_is_answered : EveryRdispatchIsAnswered
every_rdispatch_is_answered limits boot events free = reached_answered (run_reached (start limits boot) events free (starts limits boot))
