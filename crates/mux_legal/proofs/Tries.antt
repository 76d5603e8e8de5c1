-- No name is sent again more often than the limits say.
use Rattle.std.proofs.Common.{subst, ℕ, List, [], ◌∷◌, ◌+◌, ◌≡◌, ◌≤◌, ◌<◌, ◌&&◌, ◌⊎◌, inl, inr, Bool, true, false, Option, Some, None, refl, sym, ◌∙◌, ap, arith}
use Rattle.std.specs.Prelude.{if◌then◌else◌, ◌==◌}
use Rattle.std.proofs.lemmas.Bool.{ltb-true}
use Rattle.mux_frame.specs.Spelling.{MuxFrame}
use Rattle.mux_history.specs.Bounds.{Bounds}
use Rattle.mux_history.specs.declared.name.Name.{Name}
use Rattle.mux_history.specs.declared.record.Record.{Record}
use Rattle.mux_history.specs.declared.kind.RecordKind.{RecordKind}
use Rattle.mux_history.specs.declared.kind.RecordKind.TheVariants.{Took}
use Rattle.mux_history.specs.declared.session.SessionId.{SessionId}
use Rattle.mux_history.specs.declared.session.SessionId.TheVariants.{Client, Server}
use Rattle.mux_history.specs.declared.session.InitMode.{InitMode}
use Rattle.mux_history.specs.Readings.{is_epoch, is_named, gives_name, is_retried, dispatches, answer_kind, answer_due, times_retried}
use Rattle.mux_model.specs.Entries.{Exchange}
use Rattle.mux_model.specs.Tags.{holder, name_held}
use Rattle.mux_model.specs.Steps.{Held, Call, FrameCall, Step, entries, records, with_record}
use Rattle.mux_model.specs.Down.{DownSession, Reaction, Shut, Full, Short, Closes, NacksDrained, Takes, Pongs, Inits, Misplaced, Unsupports, Echoes, Acks, Ignores, Discards, reacted, discarded, next_name, left_of, down}
use Rattle.mux_model.specs.Legal.{Line, Each, EachLine, tally, total, bears, bearers}
use Rattle.mux_model.specs.World.{World, Connection, Reached, same_session, outcome_at, MayChooseAt}
use Rattle.mux_model.specs.Runs.{line_of, lines, EachConnection}
use Rattle.mux_legal.proofs.Basics.{OnRecorded, on_any, on_recorded, given, named, one_if}
use Rattle.mux_legal.proofs.Names.{IsOwn, given_once, not_yet}
use Rattle.mux_legal.proofs.Invariant.{OwnSteps}
use Rattle.mux_legal.proofs.DownShapes.{down_shapes, Answers, passes, fails, nacks, unroutes, CallBorne}
use Rattle.mux_legal.proofs.Worlds.{reached_keeps}
use Rattle.mux_legal.proofs.Everywhere.{everywhere}

-- a client's list, by its records and its entries: a name that is owed an answer was given, and all its tries are of this epoch
pub record IsTried (retries : ℕ) (rs : List Record) (es : List Exchange) : Type 0 where
  pub few : (n : Name) → tally is_retried n es ≤ retries
  pub below : (n : Name) → times_retried n rs ≤ tally is_retried n es
  pub all : (n : Name) → answer_due n rs ≡ true → tally is_retried n es ≤ times_retried n rs
  pub given : (n : Name) → tally is_retried n es ≤ 0 ⊎ 1 ≤ tally gives_name n es
  pub owed : (n : Name) → answer_due n rs ≡ true → 1 ≤ tally gives_name n es

-- a name that a record gives is new, and one that it lets be sent again is owed an answer and has a try left
abbrev TryFacts : ℕ → List Record → List Exchange → Option Record → Type 0
TryFacts retries rs es None = Unit {0}
TryFacts retries rs es (Some r) =
    (gives_name r.kind ≡ true → (n : Name) → r.name ≡ Some n → tally gives_name n es ≡ 0)
    × (is_retried r.kind ≡ true → (n : Name) → r.name ≡ Some n → (answer_due n rs ≡ true) × (times_retried n rs < retries))

-- an answer is due only where it was, or where a name is given
due_gives : (k : RecordKind) → answer_kind k false ≡ true → gives_name k ≡ true
due_gives Took e = refl
due_gives _ e = absurd (cc)

due_before : (k : RecordKind) (was : Bool) → answer_kind k was ≡ true → (was ≡ true) ⊎ (gives_name k ≡ true)
due_before k true e = inl refl
due_before k false e = inr (due_gives k e)

module _ (retries : ℕ) (rs : List Record) (es : List Exchange) (t : IsTried retries rs es) (r : Record) (n : Name) where
  -- what is due behind the record
  abbrev due_after : Bool → Bool → Bool
  due_after epoch its = if epoch then false else if its then answer_kind r.kind (answer_due n rs) else answer_due n rs

  few_by : (its retried : Bool) → (retried ≡ true → its ≡ true → (answer_due n rs ≡ true) × (times_retried n rs < retries)) → one_if (retried && its) + tally is_retried n es ≤ retries
  few_by true true f = (let x = f refl refl in omega (arith, x.1, t.all n x.0))
  few_by its false f = omega (arith, t.few n)
  few_by false true f = omega (arith, t.few n)

  below_by : (epoch b : Bool) → (if epoch then 0 else if b then times_retried n rs + 1 else times_retried n rs) ≤ one_if b + tally is_retried n es
  below_by true b = omega arith
  below_by false true = omega (arith, t.below n)
  below_by false false = omega (arith, t.below n)

  -- where an answer is due, it was, or the name is new
  abbrev Source : Bool → Bool → Type 0
  Source its gives = (answer_due n rs ≡ true) ⊎ (tally gives_name n es ≡ 0) × (gives ≡ true) × (its ≡ true)

  source : (epoch its : Bool) → (gives_name r.kind ≡ true → its ≡ true → tally gives_name n es ≡ 0) → due_after epoch its ≡ true → (epoch ≡ false) × Source its (gives_name r.kind)
  source true its new e = absurd (cc)
  source false false new e = (refl, inl e)
  source false true new e = (refl, elim (due_before r.kind (answer_due n rs) e) [ inl x ↦ inl x | inr x ↦ inr (new x refl, x, refl) ])

  all_by : (epoch b : Bool) → epoch ≡ false → tally is_retried n es ≤ times_retried n rs → one_if b + tally is_retried n es ≤ (if epoch then 0 else if b then times_retried n rs + 1 else times_retried n rs)
  all_by true b e le = absurd (cc)
  all_by false true e le = omega (arith, le)
  all_by false false e le = omega (arith, le)

  source_all : (its gives : Bool) → Source its gives → tally is_retried n es ≤ times_retried n rs
  source_all its gives (inl d) = t.all n d
  source_all its gives (inr x) = elim (t.given n) [ inl z ↦ omega (arith, z) | inr z ↦ absurd (omega (arith, z, x.0)) ]

  given_by : (its retried : Bool) (x : ℕ) → (retried ≡ true → its ≡ true → answer_due n rs ≡ true) → (one_if (retried && its) + tally is_retried n es ≤ 0) ⊎ (1 ≤ x + tally gives_name n es)
  given_by true true x f = inr (omega (arith, t.owed n (f refl refl)))
  given_by its false x f = elim (t.given n) [ inl z ↦ inl (omega (arith, z)) | inr z ↦ inr (omega (arith, z)) ]
  given_by false true x f = elim (t.given n) [ inl z ↦ inl (omega (arith, z)) | inr z ↦ inr (omega (arith, z)) ]

  source_owed : (its gives : Bool) → Source its gives → 1 ≤ one_if (gives && its) + tally gives_name n es
  source_owed its gives (inl d) = omega (arith, t.owed n d)
  source_owed its gives (inr x) = omega (arith, ap (λ g. one_if (g && its)) x.1, ap one_if x.2)

-- one more record keeps it
tried_step : (retries : ℕ) (rs : List Record) (es : List Exchange) (r : Record) (taken sent : Option MuxFrame) → TryFacts retries rs es (Some r) → IsTried retries rs es →
    IsTried retries (r ∷ rs) (record { rec = Some r; taken = taken; sent = sent } ∷ es)
tried_step retries rs es r taken sent facts t = record {
  few = λ n. few_by retries rs es t r n (is_named n r.name) (is_retried r.kind) (λ k x. facts.1 k n (named n r.name x));
  below = λ n. below_by retries rs es t r n (is_epoch r.kind) (is_retried r.kind && is_named n r.name);
  all = λ n d. (let s = from n d in all_by retries rs es t r n (is_epoch r.kind) (is_retried r.kind && is_named n r.name) s.0 (source_all retries rs es t r n (is_named n r.name) (gives_name r.kind) s.1));
  given = λ n. given_by retries rs es t r n (is_named n r.name) (is_retried r.kind) (one_if (gives_name r.kind && is_named n r.name)) (λ k x. (facts.1 k n (named n r.name x)).0);
  owed = λ n d. source_owed retries rs es t r n (is_named n r.name) (gives_name r.kind) (from n d).1;
}
  where
    from : (n : Name) → answer_due n (r ∷ rs) ≡ true → (is_epoch r.kind ≡ false) × Source retries rs es t r n (is_named n r.name) (gives_name r.kind)
    from n d = source retries rs es t r n (is_epoch r.kind) (is_named n r.name) (λ g x. facts.0 g n (named n r.name x)) d

module _ (ls : List Line) (c : DownSession) (past : List Step) (own : Each (IsOwn c.boot c.number) (entries past)) (count : dispatches (records past) ≡ given (entries past)) where
  abbrev Q : Call → Exchange → List Held → Type 0
  Q call e gives = TryFacts c.limits.retries (records past) (entries past) e.rec

  next_new : (n : Name) → Some (next_name c past) ≡ Some n → tally gives_name n (entries past) ≡ 0
  next_new n e =
      let same : next_name c past ≡ n = cc in
      not_yet c.boot c.number (entries past) n own (omega (arith, ap (λ (m : Name). m.seq) same, count))

  discarded_tries : (f : MuxFrame) (now t : ℕ) (why : List ℕ) (o : Option Name) → OnRecorded (discarded past now f t why o) (Q (FrameCall f now))
  discarded_tries f now t why None = ((λ g. absurd (cc)), (λ k. absurd (cc)))
  discarded_tries f now t why (Some n) = ((λ g. absurd (cc)), (λ k. absurd (cc)))

  framed_tries : (f : MuxFrame) (now : ℕ) (r : Reaction) → OnRecorded (reacted c past f now r) (Q (FrameCall f now))
  framed_tries f now Shut = tt
  framed_tries f now Full = tt
  framed_tries f now Short = tt
  framed_tries f now (Closes cause) = ((λ g. absurd (cc)), (λ k. absurd (cc)))
  framed_tries f now NacksDrained = ((λ g n e. next_new n e), (λ k. absurd (cc)))
  framed_tries f now Takes = ((λ g n e. next_new n e), (λ k. absurd (cc)))
  framed_tries f now Pongs = ((λ g. absurd (cc)), (λ k. absurd (cc)))
  framed_tries f now Inits = ((λ g. absurd (cc)), (λ k. absurd (cc)))
  framed_tries f now Misplaced = ((λ g. absurd (cc)), (λ k. absurd (cc)))
  framed_tries f now Unsupports = ((λ g. absurd (cc)), (λ k. absurd (cc)))
  framed_tries f now Echoes = ((λ g. absurd (cc)), (λ k. absurd (cc)))
  framed_tries f now Acks = ((λ g. absurd (cc)), (λ k. absurd (cc)))
  framed_tries f now Ignores = ((λ g. absurd (cc)), (λ k. absurd (cc)))
  framed_tries f now (Discards t why) = discarded_tries f now t why (name_held (holder (Client c.number) t (entries past)))

  answered_tries : (call : Call) (n : Name) (kind : RecordKind) (whole : Bool) (reply : ℕ → MuxFrame) → Answers ls n call kind whole reply → (gives_name kind ≡ false) × (is_retried kind ≡ false)
  answered_tries call n kind whole reply (passes r again b) = (refl, refl)
  answered_tries call n kind whole reply (fails b) = (refl, refl)
  answered_tries call n kind whole reply nacks = (refl, refl)
  answered_tries call n kind whole reply unroutes = (refl, refl)

  down_tries : (out : ℕ) (call : Call) → CallBorne ls call → OnRecorded (down c past out call) (Q call)
  down_tries =
      down_shapes ls c past Q (λ out f now going r is led facts. framed_tries f now r)
      (λ n server tag mine due. ((λ g. absurd (cc)), (λ k. absurd (cc))))
      (λ call n kind whole reply a zero mine due note held. (let p = answered_tries call n kind whole reply a in ((λ g. absurd (let x : false ≡ true = sym p.0 ∙ g in cc)), (λ k. absurd (let x : false ≡ true = sym p.1 ∙ k in cc)))))
      (λ call n kind whole reply a zero mine due note held. ((λ g. absurd (cc)), (λ k. absurd (cc))))
      (λ n reply f settled taken mine due nack held note left. (
        (λ g. absurd (cc)),
        (λ k m e. (let same : n ≡ m = cc in subst (λ x. (answer_due x (records past) ≡ true) × (times_retried x (records past) < c.limits.retries)) same
            (due, (let more : 0 < left_of c.limits n (records past) = ltb-true 0 (left_of c.limits n (records past)) left in omega (arith, more))))),
      ))
      (λ going new room. ((λ g. absurd (cc)), (λ k. absurd (cc))))
      (λ now going. ((λ g. absurd (cc)), (λ k. absurd (cc))))
      (λ n over e. ((λ g. absurd (cc)), (λ k. absurd (cc))))
      (λ going quiet out none full few. ((λ g. absurd (cc)), (λ k. absurd (cc))))
      (λ going fits few. ((λ g. absurd (cc)), (λ k. absurd (cc))))

-- what a client's list keeps
abbrev pub IsTriedIn : Bounds → ℕ → SessionId → InitMode → List Step → Type 0
IsTriedIn limits b (Client k) mode past = IsTried limits.retries (records past) (entries past)
IsTriedIn limits b (Server k) mode past = Unit {0}

entry_tried : (retries : ℕ) (rs : List Record) (es : List Exchange) (e : Exchange) → IsTried retries rs es → TryFacts retries rs es e.rec → IsTried retries (with_record e.rec rs) (e ∷ es)
entry_tried retries rs es e t facts = by_record e.rec facts
  where
    by_record : (r : Option Record) → TryFacts retries rs es r → IsTried retries (with_record r rs) (record { rec = r; taken = e.taken; sent = e.sent } ∷ es)
    by_record None f = record {
      few = λ n. omega (arith, t.few n);
      below = λ n. omega (arith, t.below n);
      all = λ n d. omega (arith, t.all n d);
      given = λ n. elim (t.given n) [ inl z ↦ inl (omega (arith, z)) | inr z ↦ inr (omega (arith, z)) ];
      owed = λ n d. omega (arith, t.owed n d);
    }
    by_record (Some r) f = tried_step retries rs es r e.taken e.sent f t

pub tries_at : (ls : List Line) (limits : Bounds) (c : Connection) (id : SessionId) (t : ℕ) (call : Call) → OwnSteps c.boot id c.steps → MayChooseAt limits c id t call → CallBorne ls call →
    IsTriedIn limits c.boot id c.mode c.steps → OnRecorded (outcome_at limits c id t call) (λ e gives. IsTriedIn limits c.boot id c.mode (record { call = call; entry = e } ∷ c.steps))
tries_at ls limits c (Client k) t call own may b old =
    let d : DownSession = record { limits = limits; boot = c.boot; number = k } in
    on_recorded (down d c.steps c.out call) (λ e gives. TryFacts limits.retries (records c.steps) (entries c.steps) e.rec)
    (λ e gives. IsTriedIn limits c.boot (Client k) c.mode (record { call = call; entry = e } ∷ c.steps)) (λ e gives facts. entry_tried limits.retries (records c.steps) (entries c.steps) e old facts)
    (down_tries ls d c.steps own.0 own.3 c.out call b)
tries_at ls limits c (Server k) t call own may b old = on_any (outcome_at limits c (Server k) t call)

pub first_tried : (limits : Bounds) → IsTried limits.retries [] []
first_tried limits = record { few = λ n. omega arith; below = λ n. omega arith; all = λ n d. absurd (cc); given = λ n. inl (omega arith); owed = λ n d. absurd (cc) }

reached_tried : {w : World} → Reached w → EachConnection (λ c. IsTriedIn w.limits c.boot c.session c.mode c.steps) w.connections
reached_tried r =
    everywhere IsTriedIn
    (λ limits b k. first_tried limits) (λ limits b k mode. tt)
    (λ ls limits c id t call own may b old. tries_at ls limits c id t call own may b old) r

-- only the client that a name is of lets it be sent again
record Counts (retries tried bearing : ℕ) : Type 0 where
  none : bearing ≡ 0 → tried ≡ 0
  few : bearing ≤ 1 → tried ≤ retries

line_counts : (limits : Bounds) (n : Name) (c : Connection) → OwnSteps c.boot c.session c.steps → IsTriedIn limits c.boot c.session c.mode c.steps →
    (tally is_retried n (entries c.steps) ≤ 0) ⊎ (tally is_retried n (entries c.steps) ≤ limits.retries) × (1 ≤ bears n.boot (Client n.client) (line_of c))
line_counts limits n c own t = of_session c.session own t
  where
    of_session : (id : SessionId) → OwnSteps c.boot id c.steps → IsTriedIn limits c.boot id c.mode c.steps →
        (tally is_retried n (entries c.steps) ≤ 0) ⊎ (tally is_retried n (entries c.steps) ≤ limits.retries) × (1 ≤ one_if (c.boot == n.boot && same_session id (Client n.client)))
    of_session (Client k) own t = elim (t.given n) [ inl z ↦ inl z | inr z ↦ inr (t.few n, omega (arith, z, given_once c.boot k (entries c.steps) n own.0)) ]
    of_session (Server k) own t = inl (omega (arith, (own.0 n).1))

lines_count : (limits : Bounds) (n : Name) (cs : List Connection) → EachLine (λ l. OwnSteps l.boot l.session l.steps) (lines cs) → EachConnection (λ c. IsTriedIn limits c.boot c.session c.mode c.steps) cs →
    Counts limits.retries (total is_retried n (lines cs)) (bearers n.boot (Client n.client) (lines cs))
lines_count limits n [] own t = record { none = λ e. refl; few = λ e. omega arith }
lines_count limits n (c ∷ cs) own t =
    let rest = lines_count limits n cs own.1 t.1 in
    elim (line_counts limits n c own.0 t.0) [
      | inl z ↦ record { none = λ e. omega (arith, z, rest.none (omega (arith, e))); few = λ e. omega (arith, z, rest.few (omega (arith, e))) }
      | inr z ↦ record { none = λ e. absurd (omega (arith, e, z.1)); few = λ e. omega (arith, z.0, z.1, rest.none (omega (arith, e, z.1))) }
    ]

-- a name is sent again so often at most, where its client is one connection's
pub few_tries : (limits : Bounds) (n : Name) (cs : List Connection) → EachLine (λ l. OwnSteps l.boot l.session l.steps) (lines cs) → EachConnection (λ c. IsTriedIn limits c.boot c.session c.mode c.steps) cs →
    bearers n.boot (Client n.client) (lines cs) ≤ 1 → total is_retried n (lines cs) ≤ limits.retries
few_tries limits n cs own tried one = (lines_count limits n cs own tried).few one

pub never_often : {w : World} → Reached w → (n : Name) → total is_retried n (lines w.connections) ≤ w.limits.retries
never_often {w} r n =
    let v = reached_keeps r in
    few_tries w.limits n w.connections v.own (reached_tried r) (v.unique n.boot (Client n.client))
