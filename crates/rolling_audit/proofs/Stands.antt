-- One record further, a session stands where its records lead.
use Rattle.std.proofs.Common.{ℕ, List, [], ◌∷◌, ◌+◌, ◌≡◌, ◌≤◌, ◌⊎◌, inl, inr, ◌&&◌, ◌||◌, Bool, true, false, refl, sym, ◌∙◌, ap, arith, subst, true≢false, Option, Some, None}
use Rattle.std.specs.Prelude.{IsTrue, ◌-◌, ◌^◌, not, if◌then◌else◌, ◌==◌, is_some, nat_eq, nat_lt, length, filter}
use Rattle.std.proofs.lemmas.Bool.{eq-eqb, eqb-true, le-ltb, and_right}
use Rattle.indexmap.specs.IndexMap.{get, index_map_len}
use Rattle.std.specs.Map.{lookup}
use Rattle.mux_history.specs.declared.name.Name.{Name}
use Rattle.mux_history.specs.declared.record.Record.{Record}
use Rattle.mux_history.specs.declared.kind.RecordKind.{RecordKind}
use Rattle.mux_history.specs.declared.kind.RecordKind.TheVariants.{Clock, Epoch, Rolled}
use Rattle.mux_history.specs.declared.kind.Standing.{Standing}
use Rattle.mux_history.specs.declared.session.InitMode.{InitMode}
use Rattle.mux_history.specs.declared.session.SessionId.{SessionId}
use Rattle.mux_history.specs.declared.session.SessionId.TheVariants.{Client, Server}
use Rattle.mux_history.specs.Lapse.{has_lapsed}
use Rattle.mux_history.specs.Holders.{held_after, name_on, of_named}
use Rattle.mux_history.specs.Readings.{epoch_of, has_ended, reading, is_ping_done, is_ping_sent, names_of, is_took, note_due, answer_due, is_offered, is_named, is_epoch, stands, Sending, sendings, sending_on, begins}
use Rattle.mux_history.specs.Standings.{down_standing, same_standing, stands_so, up_standing}
use Rattle.mux_agree.specs.Agree.{frees, is_after_drain, is_bad_epoch, is_on_lapsed, is_tag_fault}
use Rattle.mux_agree.specs.declared.agreement.outline.Outline.{Outline}
use Rattle.mux_agree.specs.Outlines.{count_after, is_free, outline_of, outline_after, sent_after}
use Rattle.mux_agree.proofs.Standings.{epoch_so, rolled_so}
use Rattle.mux_agree.proofs.Words.{drained_by, lease_by, sent_by}
use Rattle.rolling_audit.specs.declared.dues.Due.{Due}
use Rattle.rolling_audit.specs.declared.dues.Dues.{Dues}
use Rattle.rolling_audit.specs.declared.session.Session.{Session}
use Rattle.rolling_audit.specs.Dues.{AreDue, due_after, due_at, due_behind, due_of, none_due}
use Rattle.rolling_audit.specs.Faults.{IsBadEpoch, Waits as Waiting}
use Rattle.rolling_audit.specs.Sessions.{HasManyPings, TagsGoOn, tag_fault_by}
use Rattle.rolling_audit.specs.Stands.{AreSent, IsOfOne, IsRight, LeadsTo, NothingWaits, SentTags, Stands, StepsOn, Waits, WaitsOn, is_out}

-- WHAT WAITS

none_passes : {X : Type 0} (q : X → Bool) → ((x : X) → q x ≡ false) → (xs : List X) → filter q xs ≡ []
none_passes q none [] = refl
none_passes q none (x ∷ xs) = ap (λ b. if b then x ∷ filter q xs else filter q xs) (none x) ∙ none_passes q none xs

nothing_due : (a b : Bool) (d : Due) → d ≡ record { note = a; answer = b } → d ≡ none_due → (a || b) ≡ false
nothing_due a b d is none = ap (λ (x : Due). x.note || x.answer) (sym is ∙ none)

-- nothing is due
nothing_waits : (boot k : ℕ) (dues : Dues) (past : List Record) → AreDue boot k dues past → index_map_len dues.due ≡ 0 → NothingWaits (Client k) past
nothing_waits boot k dues past due len =
    λ n. nothing_due (note_due n past) (answer_due n past) (due_of boot k dues n) (due.due n) (none n)
  where
    nothing : (es : List (ℕ × Due)) → length es ≡ 0 → (q : ℕ) → due_at (lookup (nat_eq q) es) ≡ none_due
    nothing [] e q = refl
    nothing (x ∷ es) e q = absurd (omega (arith, e))

    none : (n : Name) → due_of boot k dues n ≡ none_due
    none n = by_test (n.boot == boot && n.client == k)
      where
        by_test : (b : Bool) → (if b then due_at (get nat_eq dues.due n.seq) else none_due) ≡ none_due
        by_test true = nothing dues.due.entries len n.seq
        by_test false = refl

-- the client's book is empty
free_client : (k : ℕ) (past : List Record) → NothingWaits (Client k) past → is_free (Client k) past ≡ true
free_client k past none = ap (λ xs. nat_lt (length xs) 1) (none_passes (λ n. note_due n past || answer_due n past) none (names_of is_took past))

-- something is due: a dispatch waits
pub waits_client : (boot k : ℕ) (dues : Dues) (past : List Record) → AreDue boot k dues past → (index_map_len dues.due == 0) ≡ false → Waiting (Client k) past
waits_client boot k dues past due len = first dues.due.entries refl len
  where
    first : (es : List (ℕ × Due)) → dues.due.entries ≡ es → (length es == 0) ≡ false → Waiting (Client k) past
    first [] is some = absurd (cc some)
    first (x ∷ es) is some = (n, ap (λ (d : Due). d.note || d.answer) (sym (due.due n) ∙ here) ∙ due.kept x.0 x.1 found)
      where
        n : Name
        n = record { boot = boot; client = k; seq = x.0 }

        found : get nat_eq dues.due x.0 ≡ Some x.1
        found = ap (lookup (nat_eq x.0)) is ∙ ap (λ b. if b then Some x.1 else lookup (nat_eq x.0) es) (eq-eqb x.0 x.0 refl)

        here : due_of boot k dues n ≡ x.1
        here = (λ i. if eq-eqb boot boot refl i && eq-eqb k k refl i then due_at (get nat_eq dues.due x.0) else none_due) ∙ ap due_at found

abbrev blank : ℕ → Record
blank t = record { kind = Clock; tag = t; name = None; reading = 0 }

-- nothing is out: the server's sendings are empty
none_out : (ss : List Sending) → ((t : ℕ) → is_some (sending_on t ss) ≡ false) → nat_lt (length ss) 1 ≡ true
none_out [] none = refl
none_out (s ∷ ss) none = by_test (s.tag == s.tag) (eq-eqb s.tag s.tag refl) (none s.tag)
  where
    by_test : (b : Bool) → b ≡ true → is_some (if b then Some s else sending_on s.tag ss) ≡ false → nat_lt (length (s ∷ ss)) 1 ≡ true
    by_test true e h = absurd (cc)
    by_test false e h = absurd (cc)

pub free_server : (k : ℕ) (sent : SentTags) (past : List Record) → AreSent sent past → ((t : ℕ) → is_out sent t ≡ false) → is_free (Server k) past ≡ true
free_server k sent past out none =
    none_out (sendings past) (λ t. sym (sent_by (blank t) past) ∙ (sym (out (blank t)) ∙ none t))

-- in a session that stands by its records
pub client_rests : (boot : ℕ) (s : Session) (k : ℕ) (past : List Record) → Stands boot s past → s.id ≡ Client k → index_map_len s.dues.due ≡ 0 → NothingWaits s.id past
client_rests boot s k past stands is len =
    subst (λ id. NothingWaits id past) (sym is) (nothing_waits boot k s.dues past (subst (λ id. Waits boot id s.dues s.sent past) is stands.waits) len)

pub client_free : (s : Session) (k : ℕ) (past : List Record) → s.id ≡ Client k → NothingWaits s.id past → is_free s.id past ≡ true
client_free s k past is none = ap (λ id. is_free id past) is ∙ free_client k past (subst (λ id. NothingWaits id past) is none)

pub client_waits : (boot : ℕ) (s : Session) (k : ℕ) (past : List Record) → Stands boot s past → s.id ≡ Client k → (index_map_len s.dues.due == 0) ≡ false → Waiting s.id past
client_waits boot s k past stands is some =
    subst (λ id. Waiting id past) (sym is) (waits_client boot k s.dues past (subst (λ id. Waits boot id s.dues s.sent past) is stands.waits) some)

lookup_none : (sent : SentTags) → index_map_len sent ≡ 0 → (t : ℕ) → is_out sent t ≡ false
lookup_none sent len t = by_entries sent.entries len
  where
    by_entries : (es : List (ℕ × ℕ)) → length es ≡ 0 → is_some (lookup (nat_eq t) es) ≡ false
    by_entries [] e = refl
    by_entries (x ∷ es) e = absurd (omega (arith, e))

pub server_free : (boot : ℕ) (s : Session) (k : ℕ) (past : List Record) → Stands boot s past → s.id ≡ Server k → index_map_len s.sent ≡ 0 → is_free s.id past ≡ true
server_free boot s k past stands is len =
    ap (λ id. is_free id past) is ∙ free_server k s.sent past (subst (λ id. Waits boot id s.dues s.sent past) is stands.waits) (lookup_none s.sent len)

-- something is out: the server's sendings aren't empty
held_server : (k : ℕ) (sent : SentTags) (past : List Record) → AreSent sent past → (index_map_len sent == 0) ≡ false → is_free (Server k) past ≡ false
held_server k sent past out len = first sent.entries refl len
  where
    some_sent : (ss : List Sending) (t : ℕ) → is_some (sending_on t ss) ≡ true → nat_lt (length ss) 1 ≡ false
    some_sent [] t there = absurd (cc there)
    some_sent (s ∷ ss) t there = le-ltb (length (s ∷ ss)) 1 (omega arith)

    first : (es : List (ℕ × ℕ)) → sent.entries ≡ es → (length es == 0) ≡ false → nat_lt (length (sendings past)) 1 ≡ false
    first [] is some = absurd (cc some)
    first (x ∷ es) is some =
        some_sent (sendings past) x.0 (sym (sent_by (blank x.0) past) ∙ (sym (out (blank x.0)) ∙ ap is_some found))
      where
        found : get nat_eq sent x.0 ≡ Some x.1
        found = ap (lookup (nat_eq x.0)) is ∙ ap (λ b. if b then Some x.1 else lookup (nat_eq x.0) es) (eq-eqb x.0 x.0 refl)

pub server_held : (boot : ℕ) (s : Session) (k : ℕ) (past : List Record) → Stands boot s past → s.id ≡ Server k → (index_map_len s.sent == 0) ≡ false → is_free s.id past ≡ false
server_held boot s k past stands is some =
    ap (λ id. is_free id past) is ∙ held_server k s.sent past (subst (λ id. Waits boot id s.dues s.sent past) is stands.waits) some

-- an Epoch or a Rolled that isn't what the records lead to
pub epoch_astray : (mode : InitMode) (id : SessionId) (past : List Record) (r : Record) (number : ℕ) (st : Standing) (b : Bool) → r.kind ≡ Epoch number st →
    b ≡ (number == epoch_of past + 1 && not (has_ended past) && r.reading == reading past) → (b && stands_so mode id past st) ≡ false → is_bad_epoch mode id past r ≡ true
epoch_astray mode id past r number st b kind tests off =
    ap not (sym (epoch_so mode id past r number st b (stands_so mode id past st) kind tests refl) ∙ off)

pub rolled_astray : (mode : InitMode) (id : SessionId) (past : List Record) (r : Record) (number : ℕ) (b : Bool) → r.kind ≡ Rolled number →
    b ≡ (number == epoch_of past + 1 && not (has_ended past) && r.reading == reading past) → b ≡ false → is_bad_epoch mode id past r ≡ true
rolled_astray mode id past r number b kind tests off = ap not (sym (rolled_so mode id past r number b kind tests) ∙ off)

pub epoch_early : (mode : InitMode) (id : SessionId) (past : List Record) (r : Record) (number : ℕ) (st : Standing) (b : Bool) → r.kind ≡ Epoch number st →
    b ≡ (number == epoch_of past + 1 && not (has_ended past) && r.reading == reading past) → (stands_so mode id past st ≡ false) ⊎ Waiting id past → IsBadEpoch mode id past r
epoch_early mode id past r number st b kind tests (inl off) = inl (epoch_astray mode id past r number st b kind tests (and_right b (stands_so mode id past st) off))
epoch_early mode id past r number st b kind tests (inr waits) = inr (ap is_epoch kind, waits)

pub no_zero : (n : ℕ) (b : Bool) → (n ≡ 0 → IsTrue b) → b ≡ false → (n == 0) ≡ false
no_zero n b zero off = by_test (n == 0) refl
  where
    by_test : (h : Bool) → (n == 0) ≡ h → h ≡ false
    by_test false e = refl
    by_test true e = let on : b ≡ true = zero (eqb-true n 0 e) in absurd (true≢false (sym on ∙ off))

-- a session whose dispatches wait, or that stands in another way
pub not_free : (mode : InitMode) (id : SessionId) (past : List Record) (standing : Standing) → is_free id past ≡ false → stands_so mode id past standing ≡ false
not_free mode (Client k) past standing held = ap (λ b. b && same_standing standing (down_standing past)) held
not_free mode (Server k) past standing held = ap (λ b. b && same_standing standing (up_standing mode past)) held

pub due_next : (past : List Record) (r : Record) (n : Name) (d : Due) → d ≡ record { note = note_due n past; answer = answer_due n past } →
    due_behind r n d ≡ record { note = note_due n (r ∷ past); answer = answer_due n (r ∷ past) }
due_next past r n d is = ap (due_behind r n) is ∙ by_tests (is_epoch r.kind) (is_named n r.name)
  where
    before : Due
    before = record { note = note_due n past; answer = answer_due n past }

    by_tests : (e b : Bool) → (if e then none_due else (if b then due_after r.kind before else before))
        ≡ record { note = if e then false else (if b then (due_after r.kind before).note else note_due n past); answer = if e then false else (if b then (due_after r.kind before).answer else answer_due n past) }
    by_tests true b = refl
    by_tests false true = refl
    by_tests false false = refl

waits_on : (boot : ℕ) (id : SessionId) (dues more : Dues) (sent out : SentTags) (past : List Record) (r : Record) → WaitsOn id dues sent r more out → IsOfOne boot id r →
    Waits boot id dues sent past → Waits boot id more out (r ∷ past)
waits_on boot (Client k) dues more sent out past r on of was =
    record { due = λ n. on.behind boot k of n ∙ due_next past r n (due_of boot k dues n) (was.due n); kept = on.kept was.kept }
waits_on boot (Server k) dues more sent out past r on of was = λ about. on about.tag ∙ ap (sent_after about.tag r r.kind) (was about)

-- THE CAUSES

tags_right : (past : List Record) (r : Record) (held : ℕ → Option Name) → ((t : ℕ) → held t ≡ name_on t past) → tag_fault_by held r ≡ false → is_tag_fault past r ≡ false
tags_right past r held is right =
    sym (ap (λ o. (begins r.kind && is_some o) || (frees r.kind && not (of_named (λ n. is_named n o) r.name))) (is r.tag)) ∙ right

-- pings are records of the session
pings_within : (about : Record) (past : List Record) → ((outline_of about past).pings_sent ≤ length past) × ((outline_of about past).pings_done ≤ length past)
pings_within about [] = (omega arith, omega arith)
pings_within about (r ∷ old) =
    let was = pings_within about old in
    (step is_ping_sent (outline_of about old).pings_sent was.0, step is_ping_done (outline_of about old).pings_done was.1)
  where
    step : (p : RecordKind → Bool) (n : ℕ) → n ≤ length old → count_after p r.kind n ≤ length (r ∷ old)
    step p n was = by_tests (p r.kind) (is_epoch r.kind)
      where
        by_tests : (a b : Bool) → (if a then 1 else 0) + (if b then 0 else n) ≤ length (r ∷ old)
        by_tests true true = omega arith
        by_tests true false = omega (arith, was)
        by_tests false true = omega arith
        by_tests false false = omega (arith, was)

-- of a session that stands by its records
module _ (boot : ℕ) (old : Session) (r : Record) (past : List Record) (s : Stands boot old past) where
  pub drained_so : (is_offered r.kind && old.outline.drained) ≡ is_after_drain past r
  drained_so = ap (λ b. is_offered r.kind && b) (ap (λ (o : Outline). o.drained) s.outline ∙ drained_by old.about past)

  pub lapsed_so : (is_offered r.kind && has_lapsed old.outline.lease r.reading) ≡ is_on_lapsed past r
  lapsed_so = ap (λ l. is_offered r.kind && has_lapsed l r.reading) (ap (λ (o : Outline). o.lease) s.outline ∙ lease_by old.about past)

  pub many_so : HasManyPings old.outline → 2 ^ 64 - 1 ≤ length past
  many_so many =
      let outline : HasManyPings (outline_of old.about past) = subst HasManyPings s.outline many in
      let one = pings_within old.about past in
      omega (arith, outline, one.0, one.1)

module _ (old new : Session) (r : Record)
    (drained : (is_offered r.kind && old.outline.drained) ≡ false)
    (lapsed : (is_offered r.kind && has_lapsed old.outline.lease r.reading) ≡ false)
    (led : LeadsTo old r)
    (tags : TagsGoOn (get nat_eq old.tags) r (get nat_eq new.tags))
    (waits : WaitsOn old.id old.dues old.sent r new.dues new.sent)
    (outline : new.outline ≡ outline_after old.about r old.outline)
    (about : new.about ≡ old.about) (id : new.id ≡ old.id) (mode : new.mode ≡ old.mode) where
  right : (boot : ℕ) (past : List Record) → Stands boot old past → IsRight old.mode old.id past r
  right boot past s =
      record {
        on_its_tag = tags_right past r (get nat_eq old.tags) s.tags tags.faultless;
        before_drain = sym (drained_so boot old r past s) ∙ drained;
        on_its_lease = sym (lapsed_so boot old r past s) ∙ lapsed;
        leads_on = ap not (led boot past s).0;
      }

  stands_next : (boot : ℕ) (past : List Record) → IsOfOne boot old.id r → Stands boot old past → Stands boot new (r ∷ past)
  stands_next boot past of s =
      record {
        outline = outline ∙ (ap (outline_after old.about r) s.outline ∙ sym (ap (λ a. outline_of a (r ∷ past)) about));
        tags = λ t. tags.holds t ∙ ap (held_after t r r.kind) (s.tags t);
        waits = subst (λ i. Waits boot i new.dues new.sent (r ∷ past)) (sym id) (waits_on boot old.id old.dues new.dues old.sent new.sent past r waits of s.waits);
      }

  pub steps_on : StepsOn old r new
  steps_on = record { id = id; mode = mode; right = right; stands = stands_next; rested = λ boot past s. (led boot past s).1 }
