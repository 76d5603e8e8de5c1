-- In every run the histories of each boot bear each other out.
use Rattle.std.proofs.Common.{ℕ, List, [], ◌∷◌, ◌+◌, ◌≡◌, ◌≤◌, ◌&&◌, ◌||◌, ◌⊎◌, inl, inr, Bool, true, false, not, Option, Some, refl, sym, ◌∙◌, ap, arith}
use Rattle.std.specs.Prelude.{if◌then◌else◌, map, reverse, filter, nat_lt, nat_le}
use Rattle.std.proofs.lemmas.Bool.{and_parts, and_from, false_from_ne_true, le-ltb, le-leb}
use Rattle.std.proofs.lemmas.Option.{same_Some}
use Rattle.mux_history.specs.Bounds.{Bounds}
use Rattle.mux_history.specs.declared.name.Name.{Name}
use Rattle.mux_history.specs.declared.record.Record.{Record}
use Rattle.mux_history.specs.declared.kind.RecordKind.{RecordKind}
use Rattle.mux_history.specs.declared.kind.RecordKind.TheVariants.{Took, TookDrained, SettledNack, Passed, Retried, Nacked, Unrouted, Failed, Late, Offered}
use Rattle.mux_history.specs.declared.session.InitMode.{InitMode}
use Rattle.mux_history.specs.declared.session.SessionId.{SessionId}
use Rattle.mux_history.specs.declared.session.SessionId.TheVariants.{Client, Server}
use Rattle.mux_history.specs.Readings.{gives_name, is_named, is_offered, is_retried, is_took, is_epoch, present, answer_kind, answer_due}
use Rattle.mux_history.specs.Holders.{of_named}
use Rattle.mux_history.proofs.Present.{since_present}
use Rattle.mux_agree.specs.Agree.{has, times as told_times, answers, is_refused, is_nacked, is_settled, is_settled_nack, is_replied, is_lost_one, is_failed, is_unfounded}
use Rattle.mux_agree.specs.Walk.{all_records, client_records, is_client, BearOut}
use Rattle.mux_model.specs.Down.{DownSession}
use Rattle.mux_model.specs.Up.{UpSession}
use Rattle.mux_model.specs.Steps.{Step, entries, records}
use Rattle.mux_model.specs.Replay.{is_history, may_follow, may_follow_up, are_histories, epochs, all_lead, is_joined}
use Rattle.mux_model.specs.Runs.{lines, EachConnection}
use Rattle.mux_model.specs.World.{Connection, Reached, start, starts}
use Rattle.mux_model.specs.Events.{run}
use Rattle.mux_model.specs.Legal.{Line, EachLine, SomeLine, tally, total, times_nacked, replies_on, all_replies}
use Rattle.mux_legal.specs.KeptRuns.{IsRecorded, history_of}
use Rattle.mux_legal.specs.RunsBearOut.{of_boot, RunsBearOut}
use Rattle.mux_legal.proofs.Basics.{named, one_if}
use Rattle.mux_legal.proofs.Invariant.{OwnSteps, Inv, gifts_opened, is_passed}
use Rattle.mux_legal.proofs.Invariant as inv
use Rattle.mux_legal.proofs.KeptAlone.{Move, takes, refuses, replies, rests, starts as begins_epoch, move, up_alone}
use Rattle.mux_legal.proofs.KeptSendings.{some_name}
use Rattle.mux_legal.proofs.ToldClients.{Every, client_replies}
use Rattle.mux_legal.proofs.ToldServers.{server_gives_none}
use Rattle.mux_legal.proofs.ToldDown.{of_some, not_both}
use Rattle.mux_legal.proofs.ToldEpochs.{each_epoch}
use Rattle.mux_legal.proofs.ToldHolders.{occurs}
use Rattle.mux_legal.proofs.ToldRuns.{Told, ToldLine, told_lines, gives_at, nacks_told}
use Rattle.mux_legal.proofs.ToldWalk.{total as count, total_all, times_occurs, replies_are, found, found_either, has_back, IsClear, IsAmong, every_and, among}
use Rattle.mux_legal.proofs.EndsOnce.{EndsWithin, ends_within}
use Rattle.mux_legal.proofs.OfBoot.{has_one, one_has, tally_occurs, total_count, each_with, each_then, each_of_boot, boot_most, boot_all, zero_or_more}
use Rattle.mux_legal.proofs.BorneWalk.{AreInOrder, in_order, all_of_lists, bear_out}
use Rattle.mux_legal.proofs.Kept.{records_follow}
use Rattle.mux_legal.proofs.Owed.{IsOwed, reached_owed}
use Rattle.mux_legal.proofs.ReadingsHold.{every_run_is_legal}
use Rattle.mux_legal.proofs.SessionsRecorded.{runs_are_recorded}
use Rattle.mux_legal.proofs.Worlds.{Keeps, reached_keeps}
use Rattle.mux_model.proofs.Happens.{run_reached}

abbrev client : Bounds → ℕ → ℕ → DownSession
client limits b k = record { limits = limits; boot = b; number = k }

abbrev server : Bounds → InitMode → ℕ → UpSession
server limits mode k = record { limits = limits; number = k; mode = mode }

-- what each record that may follow is, each record of the epochs is
module _ (limits : Bounds) (b : ℕ) (mode : InitMode) (k : ℕ) (P : Record → Type 0) where
  every_down : ((past : List Record) (r : Record) → may_follow (client limits b k) past r r.kind ≡ true → P r) → (rs : List Record) → are_histories limits b mode (Client k) (epochs rs) ≡ true → Every P rs
  every_down go [] h = tt
  every_down go (r ∷ old) h =
      (let a = each_epoch limits b mode (Client k) r old h in (go (if is_epoch r.kind then [] else present old) r (and_parts _ _ (and_parts _ _ a.0).0).0, every_down go old a.1))

  every_up : ((past : List Record) (r : Record) → may_follow_up (server limits mode k) past r r.kind ≡ true → P r) → (rs : List Record) → are_histories limits b mode (Server k) (epochs rs) ≡ true → Every P rs
  every_up go [] h = tt
  every_up go (r ∷ old) h =
      (let a = each_epoch limits b mode (Server k) r old h in (go (if is_epoch r.kind then [] else present old) r (and_parts _ _ (and_parts _ _ a.0).0).0, every_up go old a.1))

-- an offer, an answer and a try again have a name
record IsCalled (r : Record) : Type 0 where
  offered : is_offered r.kind ≡ true → (n : Name) × (r.name ≡ Some n)
  answered : answers r.kind ≡ true → (n : Name) × (r.name ≡ Some n)
  retried : is_retried r.kind ≡ true → (n : Name) × (r.name ≡ Some n)

retried_named : (c : DownSession) (past : List Record) (r : Record) (k : RecordKind) → may_follow c past r k ≡ true → is_retried k ≡ true → (n : Name) × (r.name ≡ Some n) × (answer_due n past ≡ true)
retried_named c past r Retried m e = (let x = of_some _ r.name m in (x.0, x.1, (and_parts _ _ (and_parts _ _ (and_parts _ _ (and_parts _ _ x.2).0).0).0).0))
retried_named c past r _ m e = absurd (cc)

client_called : (c : DownSession) (past : List Record) (r : Record) → may_follow c past r r.kind ≡ true → IsCalled r
client_called c past r m =
    (let x = move c past r r.kind m in
    record { offered = not_both (is_offered r.kind) x.1; answered = by_move x.2; retried = λ e. (let y = retried_named c past r r.kind m e in (y.0, y.1)) })
  where
    by_move : Move c past r r.kind → answers r.kind ≡ true → (n : Name) × (r.name ≡ Some n)
    by_move (takes p g a k due held is) e = not_both (answers r.kind) a e
    by_move (refuses p g a held is) e = (let x = of_some _ r.name is in (x.0, x.1))
    by_move (replies p g a held n is on) e = (n, is)
    by_move (rests p g a held due) e = not_both (answers r.kind) a e
    by_move (begins_epoch p a none) e = not_both (answers r.kind) a e

offered_named : (s : UpSession) (past : List Record) (r : Record) (k : RecordKind) → may_follow_up s past r k ≡ true → is_offered k ≡ true → (n : Name) × (r.name ≡ Some n)
offered_named s past r Offered m e = (let lapsed = and_parts _ _ m in let retired = and_parts _ _ lapsed.0 in let drained = and_parts _ _ retired.0 in let begun = and_parts _ _ drained.0 in
    let free = and_parts _ _ begun.0 in let below = and_parts _ _ free.0 in let above = and_parts _ _ below.0 in let named = and_parts _ _ above.0 in some_name r.name named.1)
offered_named s past r _ m e = absurd (cc)

up_retries : (s : UpSession) (past : List Record) (r : Record) (k : RecordKind) → may_follow_up s past r k ≡ true → is_retried k ≡ false
up_retries s past r Retried m = absurd (cc)
up_retries s past r _ m = refl

server_called : (s : UpSession) (past : List Record) (r : Record) → may_follow_up s past r r.kind ≡ true → IsCalled r
server_called s past r m = record {
  offered = offered_named s past r r.kind m;
  answered = not_both (answers r.kind) (up_alone s past r r.kind m).1;
  retried = not_both (is_retried r.kind) (up_retries s past r r.kind m);
}

called_at : (limits : Bounds) (b : ℕ) (mode : InitMode) (id : SessionId) (rs : List Record) → are_histories limits b mode id (epochs rs) ≡ true → Every IsCalled rs
called_at limits b mode (Client k) rs h = every_down limits b mode k IsCalled (client_called (client limits b k)) rs h
called_at limits b mode (Server k) rs h = every_up limits b mode k IsCalled (server_called (server limits mode k)) rs h

-- counts of kinds that no record has
none_counted : (p : RecordKind → Bool) (n : Name) (rs : List Record) → Every (λ r. p r.kind ≡ false) rs → occurs p n rs ≡ 0
none_counted p n [] h = refl
none_counted p n (r ∷ rs) h = omega (arith, ap (λ b. one_if (b && is_named n r.name)) h.0, none_counted p n rs h.1)

counts_within : (p q : RecordKind → Bool) → ((k : RecordKind) → p k ≡ true → q k ≡ true) → (n : Name) (rs : List Record) → occurs p n rs ≤ occurs q n rs
counts_within p q go n [] = omega arith
counts_within p q go n (r ∷ rs) = omega (arith, by_test (p r.kind) (q r.kind) (is_named n r.name) (go r.kind), counts_within p q go n rs)
  where
    by_test : (a b x : Bool) → (a ≡ true → b ≡ true) → one_if (a && x) ≤ one_if (b && x)
    by_test false b x go = omega arith
    by_test true true x go = omega arith
    by_test true false x go = absurd (let e = go refl in cc)

count_within : (p q : RecordKind → Bool) → ((k : RecordKind) → p k ≡ true → q k ≡ true) → (n : Name) (ls : List Line) → count p n ls ≤ count q n ls
count_within p q go n [] = omega arith
count_within p q go n (l ∷ ls) = omega (arith, counts_within p q go n (records l.steps), count_within p q go n ls)

-- a list answers as often as it sends a reply, and answers its own names
replied_at : (n : Name) (limits : Bounds) (b : ℕ) (mode : InitMode) (id : SessionId) (steps : List Step) → are_histories limits b mode id (epochs (records steps)) ≡ true → Told b id steps →
    occurs answers n (records steps) ≤ replies_on id n (entries steps)
replied_at n limits b mode (Client k) steps h t = omega (arith, client_replies _ n t.1)
replied_at n limits b mode (Server k) steps h t =
    omega (arith, none_counted answers n (records steps) (every_up limits b mode k (λ r. answers r.kind ≡ false) (λ past r m. (up_alone (server limits mode k) past r r.kind m).1) (records steps) h))

replies_given : (n : Name) (b : ℕ) (id : SessionId) (steps : List Step) → OwnSteps b id steps → replies_on id n (entries steps) ≤ tally gives_name n (entries steps)
replies_given n b (Client k) steps own = own.1.paid n
replies_given n b (Server k) steps own = omega arith

-- a name whose answer is due was taken
due_took : (n : Name) (rs : List Record) → answer_due n rs ≡ true → 1 ≤ occurs is_took n rs
due_took n [] h = absurd (cc)
due_took n (r ∷ rs) h = by_tests (is_epoch r.kind) (is_named n r.name) h (due_took n rs)
  where
    by_kind : (k : RecordKind) (was : Bool) → answer_kind k was ≡ true → (is_took k ≡ true) ⊎ (was ≡ true)
    by_kind Took was h = inl refl
    by_kind Passed was h = absurd (cc)
    by_kind Failed was h = absurd (cc)
    by_kind Nacked was h = absurd (cc)
    by_kind Unrouted was h = absurd (cc)
    by_kind (Late whole) was h = absurd (cc)
    by_kind _ was h = inr h

    by_tests : (a b : Bool) → (if a then false else if b then answer_kind r.kind (answer_due n rs) else answer_due n rs) ≡ true → (answer_due n rs ≡ true → 1 ≤ occurs is_took n rs) →
        1 ≤ one_if (is_took r.kind && b) + occurs is_took n rs
    by_tests true b h rest = absurd (cc)
    by_tests false true h rest = elim (by_kind r.kind (answer_due n rs) h) [ inl e ↦ omega (arith, ap (λ x. one_if (x && true)) e) | inr e ↦ omega (arith, rest e) ]
    by_tests false false h rest = omega (arith, rest h)

retried_took : (n : Name) (limits : Bounds) (b : ℕ) (mode : InitMode) (k : ℕ) (rs : List Record) → are_histories limits b mode (Client k) (epochs rs) ≡ true → 1 ≤ occurs is_retried n rs → 1 ≤ occurs is_took n rs
retried_took n limits b mode k [] h one = absurd (omega (arith, one))
retried_took n limits b mode k (r ∷ old) h one =
    (let a = each_epoch limits b mode (Client k) r old h in by_test (is_retried r.kind) (is_named n r.name) refl refl one (by_epoch (is_epoch r.kind) refl a.0) (retried_took n limits b mode k old a.1))
  where
    no_epoch : (k : RecordKind) → is_epoch k ≡ true → is_retried k ≡ false
    no_epoch Retried e = absurd (cc)
    no_epoch _ e = refl

    by_epoch : (x : Bool) → is_epoch r.kind ≡ x → is_history limits b mode (Client k) (r ∷ (if x then [] else present old)) ≡ true → is_retried r.kind ≡ true → is_named n r.name ≡ true → 1 ≤ occurs is_took n old
    by_epoch true e h again is = not_both (is_retried r.kind) (no_epoch r.kind e) again
    by_epoch false e h again is =
        let m = (and_parts _ _ (and_parts _ _ h).0).0 in
        let x = retried_named (client limits b k) (present old) r r.kind m again in
        let same = same_Some x.0 n (sym x.1 ∙ named n r.name is) in
        due_took n old (sym (since_present answer_kind n old) ∙ (ap (λ m. answer_due m (present old)) (sym same) ∙ x.2))

    by_test : (a c : Bool) → is_retried r.kind ≡ a → is_named n r.name ≡ c → 1 ≤ one_if (a && c) + occurs is_retried n old → (is_retried r.kind ≡ true → is_named n r.name ≡ true → 1 ≤ occurs is_took n old) →
        (1 ≤ occurs is_retried n old → 1 ≤ occurs is_took n old) → 1 ≤ one_if (is_took r.kind && is_named n r.name) + occurs is_took n old
    by_test true true d e one now rest = omega (arith, now d e)
    by_test true false d e one now rest = omega (arith, rest (omega (arith, one)))
    by_test false c d e one now rest = omega (arith, rest (omega (arith, one)))

took_at : (n : Name) (limits : Bounds) (b : ℕ) (mode : InitMode) (id : SessionId) (rs : List Record) → are_histories limits b mode id (epochs rs) ≡ true → 1 ≤ occurs is_retried n rs → 1 ≤ occurs is_took n rs
took_at n limits b mode (Client k) rs h one = retried_took n limits b mode k rs h one
took_at n limits b mode (Server k) rs h one =
    absurd (omega (arith, one, none_counted is_retried n rs (every_up limits b mode k (λ r. is_retried r.kind ≡ false) (λ past r m. up_retries (server limits mode k) past r r.kind m) rs h)))

took_gives : (k : RecordKind) → is_took k ≡ true → gives_name k ≡ true
took_gives Took e = refl
took_gives _ e = absurd (cc)

-- a list that has a record of a name of these kinds is of the name's boot
abbrev OwnBoot : (RecordKind → Bool) → Name → Line → Type 0
OwnBoot p n l = 1 ≤ occurs p n (records l.steps) → l.boot ≡ n.boot

-- what each list says by itself
record Facts (l : Line) : Type 0 where
  told : ToldLine l
  order : AreInOrder l.mode l.session (records l.steps)
  called : Every IsCalled (records l.steps)
  replied : (n : Name) → occurs answers n (records l.steps) ≤ replies_on l.session n (entries l.steps)
  ends : (n : Name) → EndsWithin n (records l.steps)
  took : (n : Name) → 1 ≤ occurs is_retried n (records l.steps) → 1 ≤ occurs is_took n (records l.steps)
  own : (n : Name) → OwnBoot answers n l
  gave : (n : Name) → OwnBoot gives_name n l
  offered : (n : Name) → OwnBoot is_offered n l

gave_at : (l : Line) → ToldLine l → (n : Name) → OwnBoot gives_name n l
gave_at l t n h = (gives_at n l.boot l.session l.steps t (one_has gives_name n (records l.steps) h)).0

abbrev OfferedHere : Line → Type 0
OfferedHere l = (n : Name) → 1 ≤ tally is_offered n (entries l.steps) → n.boot ≡ l.boot

abbrev IsLed : Line → Type 0
IsLed l = all_lead l.mode l.session (records l.steps) ≡ true

facts : (l : Line) → IsRecorded l × ToldLine l × IsLed l → OwnSteps l.boot l.session l.steps × OfferedHere l → Facts l
facts l x y =
    (let limits = x.0.limits in
    let follows = x.0.follows in
    let t = x.1 in
    record {
      told = t;
      order = in_order limits l.boot l.mode l.session (records l.steps) follows x.2;
      called = called_at limits l.boot l.mode l.session (records l.steps) follows;
      replied = λ n. replied_at n limits l.boot l.mode l.session l.steps follows t;
      ends = λ n. ends_within n limits l.boot l.mode l.session l.steps follows t;
      took = λ n. took_at n limits l.boot l.mode l.session (records l.steps) follows;
      own = λ n h. gave_at l t n (omega (arith, h, replied_at n limits l.boot l.mode l.session l.steps follows t, replies_given n l.boot l.session l.steps y.0, tally_occurs gives_name n l.steps));
      gave = gave_at l t;
      offered = λ n h. sym (y.1 n (omega (arith, h, tally_occurs is_offered n l.steps)));
    })

retried_boot : (n : Name) (l : Line) → Facts l → OwnBoot is_retried n l
retried_boot n l f h = f.gave n (omega (arith, f.took n h, counts_within is_took gives_name took_gives n (records l.steps)))

replied_boot : (n : Name) (l : Line) → Facts l → OwnBoot is_replied n l
replied_boot n l f h = f.offered n (omega (arith, h, f.ends n))

nack_replied : (k : RecordKind) → is_settled_nack k ≡ true → is_replied k ≡ true
nack_replied SettledNack e = refl
nack_replied _ e = absurd (cc)

nack_boot : (n : Name) (l : Line) → Facts l → OwnBoot is_settled_nack n l
nack_boot n l f h = replied_boot n l f (omega (arith, h, counts_within is_settled_nack is_replied nack_replied n (records l.steps)))

lost_boot : (n : Name) (l : Line) → Facts l → OwnBoot is_lost_one n l
lost_boot n l f h = f.offered n (omega (arith, h, f.ends n))

-- over all lists
count_replies : (n : Name) (ls : List Line) → EachLine Facts ls → count answers n ls ≤ all_replies n ls
count_replies n [] f = omega arith
count_replies n (l ∷ ls) f = omega (arith, f.0.replied n, count_replies n ls f.1)

count_ends : (n : Name) (ls : List Line) → EachLine Facts ls → count is_replied n ls + count is_lost_one n ls ≤ count is_offered n ls
count_ends n [] f = omega arith
count_ends n (l ∷ ls) f = omega (arith, f.0.ends n, count_ends n ls f.1)

count_kinds : (n : Name) (ls : List Line) → count is_replied n ls ≡ count is_settled n ls + count is_settled_nack n ls
count_kinds n [] = refl
count_kinds n (l ∷ ls) = omega (arith, replies_are n (records l.steps), count_kinds n ls)

count_took : (n : Name) (ls : List Line) → EachLine Facts ls → 1 ≤ count is_retried n ls → 1 ≤ count is_took n ls
count_took n [] f h = absurd (omega (arith, h))
count_took n (l ∷ ls) f h =
    elim (zero_or_more (occurs is_retried n (records l.steps))) [ inl z ↦ omega (arith, count_took n ls f.1 (omega (arith, h, z))) | inr z ↦ omega (arith, f.0.took n z) ]

given_kinds : (k : RecordKind) (b : Bool) → one_if (is_took k && b) + one_if (is_refused k && b) ≤ one_if (gives_name k && b)
given_kinds Took b = omega arith
given_kinds TookDrained b = omega arith
given_kinds _ b = omega arith

count_given : (n : Name) (ls : List Line) → count is_took n ls + count is_refused n ls ≤ count gives_name n ls
count_given n [] = omega arith
count_given n (l ∷ ls) = omega (arith, of_list (records l.steps), count_given n ls)
  where
    of_list : (rs : List Record) → occurs is_took n rs + occurs is_refused n rs ≤ occurs gives_name n rs
    of_list [] = omega arith
    of_list (r ∷ rs) = omega (arith, given_kinds r.kind (is_named n r.name), of_list rs)

-- what agree counts as unsent has used up its ticket
refused_unsent : (k : RecordKind) → is_refused k ≡ true → inv.is_unsent k ≡ true
refused_unsent TookDrained e = refl
refused_unsent _ e = absurd (cc)

nacked_unsent : (k : RecordKind) → is_nacked k ≡ true → inv.is_unsent k ≡ true
nacked_unsent Nacked e = refl
nacked_unsent Unrouted e = refl
nacked_unsent _ e = absurd (cc)

-- the boot of a list that has a record of a name
boot_of : (b : ℕ) (n : Name) (p : RecordKind → Bool) (ls : List Line) → EachLine (λ l. (l.boot ≡ b) × OwnBoot p n l) ls → SomeLine (λ l. has p n (records l.steps) ≡ true) ls → n.boot ≡ b
boot_of b n p [] x h = absurd h
boot_of b n p (l ∷ ls) x (inl h) = sym (x.0.1 (has_one p n (records l.steps) h)) ∙ x.0.0
boot_of b n p (l ∷ ls) x (inr h) = boot_of b n p ls x.1 h

-- a name that a list gives is among the clients' records
among_clients : (n : Name) (ls : List Line) → EachLine ToldLine ls → SomeLine (λ l. has gives_name n (records l.steps) ≡ true) ls → has gives_name n (client_records (map history_of ls)) ≡ true
among_clients n [] t h = absurd h
among_clients n (l ∷ ls) t h = by_side l.session t.0 h (among_clients n ls t.1)
  where
    by_side : (id : SessionId) → Told l.boot id l.steps → (has gives_name n (records l.steps) ≡ true) ⊎ SomeLine (λ x. has gives_name n (records x.steps) ≡ true) ls →
        (SomeLine (λ x. has gives_name n (records x.steps) ≡ true) ls → has gives_name n (client_records (map history_of ls)) ≡ true) →
        has gives_name n (all_records (if is_client id then history_of l ∷ filter (λ k. is_client k.session) (map history_of ls) else filter (λ k. is_client k.session) (map history_of ls))) ≡ true
    by_side (Client k) t (inl h) rest = found_either gives_name n (reverse (records l.steps)) (client_records (map history_of ls)) (inl (has_back gives_name n (records l.steps) h))
    by_side (Client k) t (inr h) rest = found_either gives_name n (reverse (records l.steps)) (client_records (map history_of ls)) (inr (rest h))
    by_side (Server k) t (inl h) rest = absurd (server_gives_none _ n t.2 h)
    by_side (Server k) t (inr h) rest = rest h

founded_by : (clients all : List Record) (k : RecordKind) (o : Option Name) → (is_offered k ≡ true → of_named (λ n. has gives_name n clients) o ≡ true) →
    (k ≡ Passed → of_named (λ n. has is_offered n all && has is_replied n all && nat_le (told_times is_offered n all) (told_times is_replied n all)) o ≡ true) →
    (k ≡ Failed → of_named (λ n. has is_offered n all) o ≡ true) → is_unfounded clients all k o ≡ false
founded_by clients all Offered o f g h = ap not (f refl)
founded_by clients all Passed o f g h = ap not (g refl)
founded_by clients all Failed o f g h = ap not (h refl)
founded_by clients all _ o f g h = refl

-- a test of a record's name that fails
untrue : (b : Bool) (p : Name → Bool) (o : Option Name) → (b ≡ true → (n : Name) × (o ≡ Some n) × (p n ≡ false)) → (b && of_named p o) ≡ false
untrue false p o h = refl
untrue true p o h = (let x = h refl in ap (of_named p) x.1 ∙ x.2)

none_either : (a b : Bool) → a ≡ false → b ≡ false → (a || b) ≡ false
none_either a b e f = (λ i. e i || f i)

none_after : (a b : Bool) → (a ≡ true → b ≡ false) → (a && b) ≡ false
none_after false b h = refl
none_after true b h = h refl

is_passed_kind : (k : RecordKind) → is_passed k ≡ true → answers k ≡ true
is_passed_kind Passed e = refl
is_passed_kind _ e = absurd (cc)

is_failed_kind : (k : RecordKind) → is_failed k ≡ true → answers k ≡ true
is_failed_kind Failed e = refl
is_failed_kind _ e = absurd (cc)

-- one boot of lists that keep the invariants
module _ (ls : List Line) (b : ℕ) (each : EachLine Facts ls) (replied : (n : Name) → all_replies n ls ≤ 1)
    (linear : (n : Name) → total is_offered n ls + total inv.is_unsent n ls ≤ total gives_name n ls + total is_retried n ls) (few : (n : Name) → total gives_name n ls ≤ 1)
    (nacked : (n : Name) → total is_retried n ls ≤ times_nacked n ls) (passed : (n : Name) → total is_retried n ls + total is_passed n ls ≤ total is_replied n ls)
    (failed : (n : Name) → 1 ≤ total is_failed n ls → 1 ≤ total is_lost_one n ls) where
  abbrev ms : List Line
  ms = of_boot b ls

  abbrev all : List Record
  all = all_records (map history_of ms)

  abbrev clients : List Record
  clients = client_records (map history_of ms)

  abbrev all_of : (RecordKind → Bool) → Name → ℕ
  all_of p n = count p n ls

  -- what is counted in all lists
  sent : (n : Name) → all_of is_offered n + all_of inv.is_unsent n ≤ 1 + all_of is_retried n
  sent n = omega (arith, linear n, few n, total_count is_offered n ls, total_count inv.is_unsent n ls, total_count is_retried n ls)

  again : (n : Name) → all_of is_retried n ≤ all_of is_settled_nack n
  again n = omega (arith, nacked n, nacks_told n ls (each_then Facts ToldLine (λ l f. f.told) ls each), total_count is_retried n ls)

  paid : (n : Name) → all_of is_retried n + all_of is_passed n ≤ all_of is_replied n
  paid n = omega (arith, passed n, total_count is_retried n ls, total_count is_passed n ls, total_count is_replied n ls)

  gone : (n : Name) → 1 ≤ all_of is_failed n → 1 ≤ all_of is_lost_one n
  gone n h = omega (arith, failed n (omega (arith, h, total_count is_failed n ls)), total_count is_lost_one n ls)

  given : (n : Name) → all_of is_took n + all_of is_refused n ≤ 1
  given n = omega (arith, count_given n ls, few n, total_count gives_name n ls)

  unsent : (n : Name) → (all_of is_refused n ≤ all_of inv.is_unsent n) × (all_of is_nacked n ≤ all_of inv.is_unsent n)
  unsent n = (count_within is_refused inv.is_unsent refused_unsent n ls, count_within is_nacked inv.is_unsent nacked_unsent n ls)

  -- what is found in the boot is counted in all lists
  found_in_all : (p : RecordKind → Bool) (n : Name) → has p n all ≡ true → 1 ≤ all_of p n
  found_in_all p n h = omega (arith, has_one p n all h, total_all p n ms, boot_most p n b ls)

  -- and where it is of the boot, it is counted there as often
  module _ (n : Name) (p : RecordKind → Bool) (own : EachLine (OwnBoot p n) ls) where
    here : has p n all ≡ true → n.boot ≡ b
    here h = boot_of b n p ms (each_of_boot (OwnBoot p n) (λ l. (l.boot ≡ b) × OwnBoot p n l) b (λ l e f. (e, f)) ls own) (found p n ms h)

    same : n.boot ≡ b → told_times p n all ≡ all_of p n
    same e =
        omega (
          arith,
          times_occurs p n all,
          total_all p n ms,
          boot_most p n b ls,
          boot_all p n b ls (each_then (OwnBoot p n) (λ l. 1 ≤ occurs p n (records l.steps) → l.boot ≡ b) (λ l go x. go x ∙ e) ls own),
        )

    is_there : n.boot ≡ b → 1 ≤ all_of p n → has p n all ≡ true
    is_there e h = one_has p n all (omega (arith, h, same e, times_occurs p n all))

  of_facts : (p : RecordKind → Bool) (n : Name) → ((l : Line) → Facts l → OwnBoot p n l) → EachLine (OwnBoot p n) ls
  of_facts p n go = each_then Facts (OwnBoot p n) go ls each

  offers_of : (n : Name) → EachLine (OwnBoot is_offered n) ls
  offers_of n = of_facts is_offered n (λ l f. f.offered n)

  answers_of : (n : Name) → EachLine (OwnBoot answers n) ls
  answers_of n = of_facts answers n (λ l f. f.own n)

  retries_of : (n : Name) → EachLine (OwnBoot is_retried n) ls
  retries_of n = of_facts is_retried n (retried_boot n)

  replies_of : (n : Name) → EachLine (OwnBoot is_replied n) ls
  replies_of n = of_facts is_replied n (replied_boot n)

  nacks_of : (n : Name) → EachLine (OwnBoot is_settled_nack n) ls
  nacks_of n = of_facts is_settled_nack n (nack_boot n)

  losses_of : (n : Name) → EachLine (OwnBoot is_lost_one n) ls
  losses_of n = of_facts is_lost_one n (lost_boot n)

  gifts_of : (n : Name) → EachLine (OwnBoot gives_name n) ls
  gifts_of n = of_facts gives_name n (λ l f. f.gave n)

  none_retried : (n : Name) → all_of is_took n ≡ 0 → all_of is_retried n ≡ 0
  none_retried n h = elim (zero_or_more (all_of is_retried n)) [ inl z ↦ z | inr z ↦ absurd (omega (arith, h, count_took n ls each z)) ]

  -- each cause
  not_twice : (n : Name) → n.boot ≡ b → nat_lt (1 + told_times is_retried n all) (told_times is_offered n all) ≡ false
  not_twice n e = le-ltb (1 + told_times is_retried n all) (told_times is_offered n all) (omega (arith, sent n, same n is_retried (retries_of n) e, same n is_offered (offers_of n) e))

  not_again : (n : Name) → n.boot ≡ b → nat_lt (told_times is_settled_nack n all) (told_times is_retried n all) ≡ false
  not_again n e =
      le-ltb (told_times is_settled_nack n all) (told_times is_retried n all) (omega (arith, again n, same n is_retried (retries_of n) e, same n is_settled_nack (nacks_of n) e))

  offered_taken : (n : Name) → has is_offered n all ≡ true → has gives_name n clients ≡ true
  offered_taken n h =
      let e = here n is_offered (offers_of n) h in
      let took : 1 ≤ all_of gives_name n = elim (zero_or_more (all_of is_took n)) [
        | inl z ↦ omega (arith, found_in_all is_offered n h, linear n, total_count is_offered n ls, total_count gives_name n ls, total_count is_retried n ls, none_retried n z)
        | inr z ↦ omega (arith, z, count_given n ls)
      ] in
      among_clients n ms (each_of_boot Facts ToldLine b (λ l e f. f.told) ls each) (found gives_name n ms (is_there n gives_name (gifts_of n) e took))

  not_refused : (n : Name) → has is_offered n all ≡ true → has is_refused n all ≡ false
  not_refused n h =
      false_from_ne_true (has is_refused n all) (λ u. (let one = found_in_all is_refused n u in
      omega (arith, one, found_in_all is_offered n h, sent n, (unsent n).0, none_retried n (omega (arith, one, given n)))))

  not_nacked : (n : Name) → has is_offered n all ≡ true → (has is_nacked n all && nat_lt (told_times is_settled_nack n all) (told_times is_offered n all)) ≡ false
  not_nacked n h =
      none_after (has is_nacked n all) (nat_lt (told_times is_settled_nack n all) (told_times is_offered n all)) (λ u.
      (let e = here n is_offered (offers_of n) h in
      le-ltb (told_times is_settled_nack n all) (told_times is_offered n all)
      (omega (arith, found_in_all is_nacked n u, (unsent n).1, sent n, again n, same n is_offered (offers_of n) e, same n is_settled_nack (nacks_of n) e))))

  passed_replied : (n : Name) → has is_passed n all ≡ true → n.boot ≡ b →
      (has is_offered n all && has is_replied n all && nat_le (told_times is_offered n all) (told_times is_replied n all)) ≡ true
  passed_replied n h e =
      let one = found_in_all is_passed n h in
      let replied = is_there n is_replied (replies_of n) e (omega (arith, one, paid n)) in
      let offered = is_there n is_offered (offers_of n) e (omega (arith, one, paid n, count_ends n ls each)) in
      and_from _ _ (and_from _ _ offered replied)
      (le-leb (told_times is_offered n all) (told_times is_replied n all) (omega (arith, one, paid n, sent n, same n is_offered (offers_of n) e, same n is_replied (replies_of n) e)))

  failed_lost : (n : Name) → has is_failed n all ≡ true → n.boot ≡ b → (has is_offered n all ≡ true) × (has is_lost_one n all ≡ true) × (has is_settled n all ≡ false)
  failed_lost n h e =
      let one = gone n (found_in_all is_failed n h) in (
        is_there n is_offered (offers_of n) e (omega (arith, one, count_ends n ls each)),
        is_there n is_lost_one (losses_of n) e one,
        false_from_ne_true (has is_settled n all) (λ s. omega (arith, one, found_in_all is_settled n s, count_ends n ls each, count_kinds n ls, sent n, again n)),
      )

  -- each record is clear
  module _ (r : Record) (c : IsCalled r) (a : IsAmong all r) where
    abbrev Named : (RecordKind → Bool) → Type 0
    Named p = (n : Name) × (r.name ≡ Some n) × (has p n all ≡ true)

    offer : is_offered r.kind ≡ true → Named is_offered
    offer e = (let x = c.offered e in (x.0, x.1, a is_offered x.0 e x.1))

    answer_at : answers r.kind ≡ true → (n : Name) × (r.name ≡ Some n) × (n.boot ≡ b)
    answer_at e = (let x = c.answered e in (x.0, x.1, here x.0 answers (answers_of x.0) (a answers x.0 e x.1)))

    failure : is_failed r.kind ≡ true → (n : Name) × (r.name ≡ Some n) × (has is_offered n all ≡ true) × (has is_lost_one n all ≡ true) × (has is_settled n all ≡ false)
    failure e =
        (let x = answer_at (is_failed_kind r.kind e) in
        let y = failed_lost x.0 (a is_failed x.0 e x.1) x.2 in
        (x.0, x.1, y.0, y.1, y.2))

    not_lost : (n : Name) → has is_lost_one n all ≡ true → has is_settled n all ≡ false → (has is_offered n all && (has is_settled n all || not (has is_lost_one n all))) ≡ false
    not_lost n l s = (λ i. has is_offered n all && (s i || not (l i))) ∙ and_false (has is_offered n all)
      where
        and_false : (x : Bool) → (x && false) ≡ false
        and_false true = refl
        and_false false = refl

    clear : IsClear clients all r
    clear = record {
      sent_once = none_either _ _
          (untrue (is_offered r.kind) (λ n. nat_lt (1 + told_times is_retried n all) (told_times is_offered n all)) r.name
          (λ e. (let x = offer e in (x.0, x.1, not_twice x.0 (here x.0 is_offered (offers_of x.0) x.2)))))
          (untrue (is_retried r.kind) (λ n. nat_lt (told_times is_settled_nack n all) (told_times is_retried n all)) r.name
          (λ e. (let x = c.retried e in (x.0, x.1, not_again x.0 (here x.0 is_retried (retries_of x.0) (a is_retried x.0 e x.1))))));
      founded = founded_by clients all r.kind r.name (λ e. (let x = offer e in ap (of_named (λ n. has gives_name n clients)) x.1 ∙ offered_taken x.0 x.2))
          (λ e. (let x = answer_at (is_passed_kind r.kind (ap is_passed e)) in
          ap (of_named (λ n. has is_offered n all && has is_replied n all && nat_le (told_times is_offered n all) (told_times is_replied n all))) x.1 ∙ passed_replied x.0 (a is_passed x.0 (ap is_passed e) x.1) x.2))
          (λ e. (let x = failure (ap is_failed e) in ap (of_named (λ n. has is_offered n all)) x.1 ∙ x.2));
      not_nacked = untrue (is_offered r.kind) (λ n. has is_refused n all || (has is_nacked n all && nat_lt (told_times is_settled_nack n all) (told_times is_offered n all))) r.name
          (λ e. (let x = offer e in (x.0, x.1, none_either _ _ (not_refused x.0 x.2) (not_nacked x.0 x.2))));
      lost = untrue (is_failed r.kind) (λ n. has is_offered n all && (has is_settled n all || not (has is_lost_one n all))) r.name
          (λ e. (let x = failure e in (x.0, x.1, not_lost x.0 x.3 x.4)));
    }

  boot_bears_out : BearOut (map history_of ms)
  boot_bears_out =
      bear_out ms (λ n. omega (arith, total_all answers n ms, boot_most answers n b ls, count_replies n ls each, replied n))
      (each_of_boot Facts (λ l. AreInOrder l.mode l.session (records l.steps)) b (λ l e f. f.order) ls each)
      (every_and IsCalled (IsAmong all) (IsClear clients all) (λ r c a. clear r c a) all (all_of_lists IsCalled ms (each_of_boot Facts (λ l. Every IsCalled (records l.steps)) b (λ l e f. f.called) ls each)) (among all))

led_lines : (limits : Bounds) (cs : List Connection) → EachConnection (λ c. is_joined limits c.boot c.mode c.session (records c.steps) ≡ true) cs → EachLine IsLed (lines cs)
led_lines limits [] h = tt
led_lines limits (c ∷ cs) h = ((and_parts _ _ h.0).1, led_lines limits cs h.1)

pub runs_bear_out : RunsBearOut
runs_bear_out limits boot events free b =
    let w = run (start limits boot) events in
    let ls = lines w.connections in
    let r : Reached w = run_reached (start limits boot) events free (starts limits boot) in
    let v : Keeps w = reached_keeps r in
    let o : IsOwed w.boot ls w.hands = reached_owed r in
    let recorded = runs_are_recorded limits boot events free in
    let led = led_lines limits w.connections (records_follow limits boot events free) in
    let told = told_lines ls recorded led in
    let kept = each_with IsRecorded (λ l. ToldLine l × IsLed l) (λ l. IsRecorded l × ToldLine l × IsLed l) (λ l x y. (x, y.0, y.1)) ls recorded (each_with ToldLine IsLed (λ l. ToldLine l × IsLed l) (λ l x y. (x, y)) ls told led) in
    let own = each_with (λ l. OwnSteps l.boot l.session l.steps) OfferedHere (λ l. OwnSteps l.boot l.session l.steps × OfferedHere l) (λ l x y. (x, y)) ls v.own o.offered in
    let each = each_with (λ l. IsRecorded l × ToldLine l × IsLed l) (λ l. OwnSteps l.boot l.session l.steps × OfferedHere l) Facts facts ls kept own in
    boot_bears_out ls b each (every_run_is_legal limits boot events free).answered_once (λ n. omega (arith, v.linear n)) (λ n. omega (arith, gifts_opened n ls v.own, v.unique n.boot (Client n.client)))
    (λ n. omega (arith, v.nacked n)) (λ n. omega (arith, o.replied n)) o.failed
