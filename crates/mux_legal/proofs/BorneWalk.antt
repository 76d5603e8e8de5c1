-- Histories bear each other out where each is in order by itself, no name is answered twice, and each record is clear.
use Rattle.std.proofs.Common.{ℕ, List, [], ◌∷◌, ◌++◌, ◌+◌, ◌≡◌, ◌≤◌, ◌&&◌, ◌||◌, Bool, true, false, not, Option, Some, None, refl, sym, ◌∙◌, ap, subst, arith}
use Rattle.std.specs.Prelude.{All, map, reverse, if◌then◌else◌, is_some}
use Rattle.std.proofs.lemmas.Bool.{and_parts, false_from_ne_true}
use Rattle.std.proofs.lemmas.List.{append_assoc, reverse-reverse}
use Rattle.std.proofs.lemmas.List.Elements.{All-nil, All-cons}
use Rattle.mux_history.specs.declared.name.Name.{Name}
use Rattle.mux_history.specs.declared.record.Record.{Record}
use Rattle.mux_history.specs.declared.kind.RecordKind.{RecordKind}
use Rattle.mux_history.specs.Bounds.{Bounds}
use Rattle.mux_history.specs.declared.kind.RecordKind.TheVariants.{Epoch}
use Rattle.mux_history.specs.declared.session.InitMode.{InitMode}
use Rattle.mux_history.specs.declared.session.SessionId.{SessionId}
use Rattle.mux_history.specs.Readings.{is_named, is_offered, is_epoch, present, begins, stands, is_drained_kind}
use Rattle.mux_history.specs.Holders.{of_named, name_on}
use Rattle.mux_history.specs.Lapse.{has_lapsed, lease_of}
use Rattle.mux_history.specs.Standings.{leads_to}
use Rattle.mux_history.proofs.Present.{holder_present, stands_present, lease_present}
use Rattle.mux_agree.specs.Agree.{has, answers, frees, is_tag_fault, is_after_drain, is_on_lapsed, is_bad_epoch}
use Rattle.mux_agree.specs.Walk.{Stop, stops_in, stops, all_records, client_records, IsFaultless, BearOut}
use Rattle.mux_model.specs.Replay.{are_histories, epochs, all_lead}
use Rattle.mux_model.specs.Steps.{records}
use Rattle.mux_model.specs.Legal.{Line, EachLine}
use Rattle.mux_legal.specs.KeptHistories.{IsFaultlessAlone}
use Rattle.mux_legal.specs.KeptRuns.{history_of}
use Rattle.mux_legal.proofs.Basics.{named_same, one_if}
use Rattle.mux_legal.proofs.ToldClients.{Every}
use Rattle.mux_legal.proofs.ToldHolders.{occurs}
use Rattle.mux_legal.proofs.ToldWalk.{occurs-append, reverse-cons, EveryStop, IsClear, every-append, split_every}
use Rattle.mux_legal.proofs.EndsOnce.{has_counts}
use Rattle.mux_legal.proofs.KeptAlone.{kept_histories_are_faultless}
use Rattle.mux_legal.proofs.ToldEpochs.{each_epoch}

pub all_stops : (P : Stop → Type 0) (ss : List Stop) → EveryStop P ss → All P ss
all_stops P [] h = All-nil P
all_stops P (s ∷ ss) h = All-cons P s ss h.0 (all_stops P ss h.1)

join_stops : (P : Stop → Type 0) (a b : List Stop) → EveryStop P a → EveryStop P b → EveryStop P (a ++ b)
join_stops P [] b x y = y
join_stops P (s ∷ a) b x y = (x.0, join_stops P a b x.1 y)

-- a record that is in order with those before it in its session, over all epochs
pub record IsInOrder (mode : InitMode) (id : SessionId) (past : List Record) (r : Record) : Type 0 where
  pub on_its_tag : is_tag_fault past r ≡ false
  pub before_drain : is_after_drain past r ≡ false
  pub on_its_lease : is_on_lapsed past r ≡ false
  pub leads_on : is_bad_epoch mode id past r ≡ false

abbrev pub AreInOrder : InitMode → SessionId → List Record → Type 0
AreInOrder mode id [] = Unit {0}
AreInOrder mode id (r ∷ old) = IsInOrder mode id old r × AreInOrder mode id old

-- an Epoch record begins, ends and offers nothing
epoch_rests : (k : RecordKind) → is_epoch k ≡ true → (begins k ≡ false) × (frees k ≡ false) × (is_offered k ≡ false)
epoch_rests (Epoch number standing) e = (refl, refl, refl)
epoch_rests _ e = absurd (cc)

-- the epochs of a session, each a history and led to, are in order
module _ (limits : Bounds) (b : ℕ) (mode : InitMode) (id : SessionId) where
  order_of : (r : Record) (old : List Record) (x : Bool) → is_epoch r.kind ≡ x → IsFaultlessAlone (if x then [] else present old) r → leads_to mode id old r r.kind ≡ true → IsInOrder mode id old r
  order_of r old true e alone lead = (let k = epoch_rests r.kind e in record {
    on_its_tag = (λ i. (k.0 i && is_some (name_on r.tag old)) || (k.1 i && not (of_named (λ n. is_named n (name_on r.tag old)) r.name)));
    before_drain = ap (λ x. x && stands is_drained_kind old) k.2;
    on_its_lease = ap (λ x. x && has_lapsed (lease_of old) r.reading) k.2;
    leads_on = ap not lead;
  })
  order_of r old false e alone lead = record {
    on_its_tag = ap (λ o. (begins r.kind && is_some o) || (frees r.kind && not (of_named (λ n. is_named n o) r.name))) (sym (holder_present r.tag old)) ∙ alone.on_its_tag;
    before_drain = ap (λ x. is_offered r.kind && x) (sym (stands_present is_drained_kind old)) ∙ alone.before_drain;
    on_its_lease = ap (λ x. is_offered r.kind && has_lapsed x r.reading) (sym (lease_present old)) ∙ alone.on_its_lease;
    leads_on = ap not lead;
  }

  pub in_order : (rs : List Record) → are_histories limits b mode id (epochs rs) ≡ true → all_lead mode id rs ≡ true → AreInOrder mode id rs
  in_order [] h lead = tt
  in_order (r ∷ old) h lead =
      let a = each_epoch limits b mode id r old h in
      let l = and_parts _ _ lead in
      (order_of r old (is_epoch r.kind) refl (kept_histories_are_faultless limits b mode id (r ∷ (if is_epoch r.kind then [] else present old)) a.0).0 l.0, in_order old a.1 l.1)

-- a list from its oldest record on, each in order with those before it
abbrev OrderFrom : InitMode → SessionId → (past later : List Record) → Type 0
OrderFrom mode id past [] = Unit {0}
OrderFrom mode id past (r ∷ later) = IsInOrder mode id past r × OrderFrom mode id (r ∷ past) later

module _ (mode : InitMode) (id : SessionId) where
  order_last : (past a : List Record) (r : Record) → OrderFrom mode id past a → IsInOrder mode id (reverse a ++ past) r → OrderFrom mode id past (a ++ r ∷ [])
  order_last past [] r x y = (y, tt)
  order_last past (k ∷ a) r x y =
      (x.0, order_last (k ∷ past) a r x.1 (subst (λ rs. IsInOrder mode id rs r) (ap (λ rs. rs ++ past) (reverse-cons k a) ∙ append_assoc (reverse a) (k ∷ []) past) y))

  order_turned : (rs : List Record) → AreInOrder mode id rs → OrderFrom mode id [] (reverse rs)
  order_turned [] h = tt
  order_turned (r ∷ old) h =
      subst (OrderFrom mode id []) (sym (reverse-cons r old))
      (order_last [] (reverse old) r (order_turned old h.1) (subst (λ rs. IsInOrder mode id rs r) (sym (append_nil (reverse (reverse old)) ∙ reverse-reverse old)) h.0))
    where
      append_nil : (xs : List Record) → xs ++ [] ≡ xs
      append_nil [] = refl
      append_nil (x ∷ xs) = ap (λ l. x ∷ l) (append_nil xs)

-- what holds of each list's records holds of all that the walk meets
every_turned : (P : Record → Type 0) (rs : List Record) → Every P rs → Every P (reverse rs)
every_turned P [] h = tt
every_turned P (r ∷ rs) h = subst (Every P) (sym (reverse-cons r rs)) (every-append P (reverse rs) (r ∷ []) (every_turned P rs h.1) (h.0, tt))

pub all_of_lists : (P : Record → Type 0) (ls : List Line) → EachLine (λ l. Every P (records l.steps)) ls → Every P (all_records (map history_of ls))
all_of_lists P [] h = tt
all_of_lists P (l ∷ ls) h = every-append P (reverse (records l.steps)) (all_records (map history_of ls)) (every_turned P (records l.steps) h.0) (all_of_lists P ls h.1)

-- no name stands twice among records of certain kinds
abbrev pub IsOnce : (RecordKind → Bool) → List Record → Type 0
IsOnce p rs = (n : Name) → occurs p n rs ≤ 1

is_new : (p : RecordKind → Bool) (r : Record) (before : List Record) → ((n : Name) → one_if (p r.kind && is_named n r.name) + occurs p n before ≤ 1) →
    (p r.kind && of_named (λ n. has p n before) r.name) ≡ false
is_new p r before once = by_test (p r.kind) r.name once
  where
    by_test : (b : Bool) (o : Option Name) → ((n : Name) → one_if (b && is_named n o) + occurs p n before ≤ 1) → (b && of_named (λ n. has p n before) o) ≡ false
    by_test false o once = refl
    by_test true None once = refl
    by_test true (Some m) once =
        false_from_ne_true (has p m before) (λ h. omega (arith, once m, ap one_if (named_same m), has_counts p m before, ap one_if h))

module _ (clients all : List Record) where
  walk_in : (earlier : List Record) (id : SessionId) (mode : InitMode) (past later : List Record) → ((n : Name) → occurs answers n later + occurs answers n (past ++ earlier) ≤ 1) →
      OrderFrom mode id past later → Every (IsClear clients all) later → EveryStop (IsFaultless clients all) (stops_in earlier id mode past later)
  walk_in earlier id mode past [] answered order clear = tt
  walk_in earlier id mode past (r ∷ later) answered order clear = (
    record {
      sent_once = clear.0.sent_once;
      answered_once = is_new answers r (past ++ earlier) (λ n. omega (arith, answered n));
      founded = clear.0.founded;
      not_nacked = clear.0.not_nacked;
      lost = clear.0.lost;
      on_its_tag = order.0.on_its_tag;
      before_drain = order.0.before_drain;
      on_its_lease = order.0.on_its_lease;
      leads_on = order.0.leads_on;
    },
    walk_in earlier id mode (r ∷ past) later (λ n. omega (arith, answered n)) order.1 clear.1,
  )

  walk : (earlier : List Record) (ls : List Line) → ((n : Name) → occurs answers n (all_records (map history_of ls)) + occurs answers n earlier ≤ 1) →
      EachLine (λ l. AreInOrder l.mode l.session (records l.steps)) ls → Every (IsClear clients all) (all_records (map history_of ls)) → EveryStop (IsFaultless clients all) (stops earlier (map history_of ls))
  walk earlier [] answered order clear = tt
  walk earlier (l ∷ ls) answered order clear =
      let rs = reverse (records l.steps) in
      let rest = all_records (map history_of ls) in
      let parts = split_every (IsClear clients all) rs rest clear in
      join_stops (IsFaultless clients all) (stops_in earlier l.session l.mode [] rs) (stops (earlier ++ rs) (map history_of ls))
      (walk_in earlier l.session l.mode [] rs (λ n. omega (arith, answered n, occurs-append answers n rs rest)) (order_turned l.mode l.session (records l.steps) order.0) parts.0)
      (walk (earlier ++ rs) ls (λ n. omega (arith, answered n, occurs-append answers n rs rest, occurs-append answers n earlier rs)) order.1 parts.1)

pub bear_out : (ls : List Line) → IsOnce answers (all_records (map history_of ls)) → EachLine (λ l. AreInOrder l.mode l.session (records l.steps)) ls →
    Every (IsClear (client_records (map history_of ls)) (all_records (map history_of ls))) (all_records (map history_of ls)) → BearOut (map history_of ls)
bear_out ls answered order clear =
    let all = all_records (map history_of ls) in
    let clients = client_records (map history_of ls) in
    all_stops (IsFaultless clients all) (stops [] (map history_of ls)) (walk clients all [] ls (λ n. omega (arith, answered n)) order clear)
