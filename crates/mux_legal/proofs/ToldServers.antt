-- What a server's list keeps, as its records tell it.
use Rattle.std.proofs.Common.{length, ℕ, List, ◌∷◌, ◌≡◌, ◌≤◌, ◌&&◌, ◌||◌, inl, inr, Bool, true, false, not, Option, Some, None, refl, sym, ◌∙◌, ap, subst, arith}
use Rattle.std.specs.Prelude.{if◌then◌else◌, ◌==◌, is_some}
use Rattle.std.proofs.lemmas.Bool.{and_parts, or_cases}
use Rattle.mux_frame.specs.Spelling.{MuxFrame}
use Rattle.mux_message.specs.Kinds.{kind_of, is_final}
use Rattle.mux_history.specs.declared.name.Name.{Name}
use Rattle.mux_history.specs.declared.record.Record.{Record}
use Rattle.mux_history.specs.declared.kind.RecordKind.{RecordKind}
use Rattle.mux_history.specs.declared.kind.RecordKind.TheVariants.{SettledNack}
use Rattle.mux_history.specs.declared.session.SessionId.TheVariants.{Server}
use Rattle.mux_history.specs.Lapse.{leased, has_lapsed, lease_of, lease_after}
use Rattle.mux_history.specs.Readings.{has_ended, ends, gives_name, is_named, stands, is_epoch, is_drained_kind, is_offered}
use Rattle.mux_history.specs.Holders.{name_on, held_after}
use Rattle.mux_agree.specs.Agree.{has, is_settled_nack, is_replied, is_lost_one}
use Rattle.mux_model.specs.Entries.{Exchange}
use Rattle.mux_model.specs.Tags.{Holder, holder, asked, answered, name_held, is_open}
use Rattle.mux_model.specs.Steps.{Call, Step, entries, records, is_nack}
use Rattle.mux_model.specs.Up.{UpSession, lease_taken, sends_rdrain, is_drained}
use Rattle.mux_model.specs.Legal.{Line, Each, EachStep, SomeEntry, OnDispatch, OnFinal, SettlesName, sends_dispatch, times_in, times, nack_in, nacks, HasEnded, IsCut, IsUnlapsed, reading_at, lapse_at}
use Rattle.mux_legal.specs.Tellings.{IsDispatchOn, IsFinalOn, IsReplyOn}
use Rattle.mux_legal.specs.KeptRuns.{IsFairOffer, IsFairEntry}
use Rattle.mux_legal.proofs.Basics.{named, or_true, one_if, one_at_most}
use Rattle.mux_legal.proofs.UpSteps.{ended_entries}
use Rattle.mux_legal.proofs.Nacks.{nack_final}
use Rattle.mux_legal.proofs.ToldDown.{not_both}
use Rattle.mux_legal.proofs.ToldUp.{ToldUp, nothing, probe, more, UpShape, offers, settles, rests, drained_after, final_no_lease}
use Rattle.mux_legal.proofs.ToldClients.{Every, IsFounded, ended_more}
use Rattle.mux_legal.proofs.ToldHolders.{occurs, no_ask, stray_answer, ask_on, answer_on, is_final_on, holds_none, on_dispatch_none, on_dispatch, on_dispatch_at, sends_none}
use Rattle.mux_legal.proofs.Link.{open_none}
use Rattle.mux_legal.proofs.Link.{IsNamed, named_asked, named_answered}
use Rattle.mux_legal.proofs.Contents.{dispatch_no_rdrain}

abbrev Linked : UpSession → List Step → Type 0
Linked s steps = (t : ℕ) → name_on t (records steps) ≡ name_held (holder (Server s.number) t (entries steps))

abbrev Named : UpSession → List Step → Type 0
Named s steps = (t : ℕ) → IsNamed (holder (Server s.number) t (entries steps))

sent_no_rdrain : (t : ℕ) (m : Option MuxFrame) → IsDispatchOn t m → sends_rdrain m ≡ false
sent_no_rdrain t None d = absurd d
sent_no_rdrain t (Some f) d = dispatch_no_rdrain (kind_of f.kind) d.0

final_grants_none : (t : ℕ) (m : Option MuxFrame) → IsFinalOn t m → lease_taken m ≡ None
final_grants_none t None d = absurd d
final_grants_none t (Some f) d = final_no_lease f d.0

no_nack : (k : RecordKind) → is_replied k ≡ false → is_settled_nack k ≡ false
no_nack SettledNack e = absurd (cc)
no_nack _ e = refl

-- one more step
module _ (s : UpSession) (old : List Step) (linked : Linked s old) (all_named : Named s old) (call : Call) (r : Record) (taken sent : Option MuxFrame) where
  abbrev H : ℕ → Option Holder
  H t = holder (Server s.number) t (entries old)

  abbrev who : Holder
  who = record { place = length (entries old); name = r.name }

  abbrev e : Exchange
  e = record { rec = Some r; taken = taken; sent = sent }

  abbrev Shape : Type 0
  Shape = UpShape s (entries old) (records old) r r.kind taken sent

  free : (t : ℕ) → name_on t (records old) ≡ None → H t ≡ None
  free t n = holds_none (H t) (all_named t) (sym (linked t) ∙ n)

  strays : (m : Option MuxFrame) → OnFinal m (λ f. is_open (Server s.number) f.tag (entries old) ≡ false) → OnFinal m (λ f. H f.tag ≡ None)
  strays None h = tt
  strays (Some f) h = λ final. open_none (H f.tag) (h final)

  link : Shape → (t : ℕ) → held_after t r r.kind (name_on t (records old)) ≡ name_held (asked t who sent (answered t taken (H t)))
  link (offers o se l held lease d going f undrained unlapsed n is none on) t =
      held t (name_on t (records old)) ∙ (ap (λ x. if r.tag == t then r.name else x) (linked t)
      ∙ (sym (ask_on t r.tag who sent (H t) on) ∙ sym (ap (λ (m : Option MuxFrame). name_held (asked t who sent (answered t m (H t)))) none)))
  link (settles o l held lease d going n is on reply none) t =
      held t (name_on t (records old)) ∙ (ap (λ x. if r.tag == t then None else x) (linked t)
      ∙ (sym (answer_on t r.tag taken (H t) (is_final_on (is_settled_nack r.kind) r.tag taken reply)) ∙ sym (ap (λ (m : Option MuxFrame). name_held (asked t who m (answered t taken (H t)))) none)))
  link (rests o se held lease d lost cut stray plain) t =
      held t ∙ (linked t ∙ sym (ap (λ (x : Option Holder). name_held x) (no_ask t who sent (answered t taken (H t)) plain ∙ stray_answer t taken H (strays taken stray))))

  asks_named : Shape → OnDispatch sent (λ f. (n : Name) × (r.name ≡ Some n))
  asks_named (offers o se l held lease d going f undrained unlapsed n is none on) = on_dispatch (λ _. (m : Name) × (r.name ≡ Some m)) sent (λ _. (n, is))
  asks_named (settles o l held lease d going n is on reply none) = subst (λ m. OnDispatch m (λ f. (m : Name) × (r.name ≡ Some m))) (sym none) tt
  asks_named (rests o se held lease d lost cut stray plain) = on_dispatch_none _ sent plain

  names : Shape → (t : ℕ) → IsNamed (asked t who sent (answered t taken (H t)))
  names x t = named_asked t who sent (answered t taken (H t)) (asks_named x) (named_answered t taken (H t) (all_named t))

  drains : Shape → (sends_rdrain sent || stands is_drained_kind (records old)) ≡ drained_after r.kind (stands is_drained_kind (records old))
  drains (offers o se l held lease d going f undrained unlapsed n is none on) = ap (λ b. b || stands is_drained_kind (records old)) (sent_no_rdrain r.tag sent on) ∙ sym (d (stands is_drained_kind (records old)))
  drains (settles o l held lease d going n is on reply none) = ap (λ (m : Option MuxFrame). sends_rdrain m || stands is_drained_kind (records old)) none ∙ sym (d (stands is_drained_kind (records old)))
  drains (rests o se held lease d lost cut stray plain) = d

  leases : Shape → leased r.reading (lease_taken taken) (lease_of (records old)) ≡ lease_after r r.kind (lease_of (records old))
  leases (offers o se l held lease d going f undrained unlapsed n is none on) =
      ap (λ (m : Option MuxFrame). leased r.reading (lease_taken m) (lease_of (records old))) none ∙ sym (lease (lease_of (records old)))
  leases (settles o l held lease d going n is on reply none) =
      ap (λ g. leased r.reading g (lease_of (records old))) (final_grants_none r.tag taken (is_final_on (is_settled_nack r.kind) r.tag taken reply)) ∙ sym (lease (lease_of (records old)))
  leases (rests o se held lease d lost cut stray plain) = lease

  fair : (ls : List Line) → IsFounded ls r → is_drained (entries old) ≡ stands is_drained_kind (records old) → Shape → OnDispatch sent (IsFairOffer ls (Server s.number) e (entries old))
  fair ls founded drained (offers o se l held lease d going f undrained unlapsed n is none on) =
      (let x = founded.offered o n is in
      on_dispatch_at (IsFairOffer ls (Server s.number) e (entries old)) r.tag sent on
      (λ g tag. record { carried = (n, is, x.0, x.1); free = ap (λ (h : Option Holder). is_some h) (ap H tag ∙ free r.tag f); undrained = drained ∙ undrained }))
  fair ls founded drained (settles o l held lease d going n is on reply none) = subst (λ m. OnDispatch m (IsFairOffer ls (Server s.number) e (entries old))) (sym none) tt
  fair ls founded drained (rests o se held lease d lost cut stray plain) = on_dispatch_none _ sent plain

  unlapsed_now : (now : ℕ) → r.reading ≡ now → lapse_at old ≡ lease_of (records old) → Shape → OnDispatch sent (λ f. has_lapsed (lapse_at old) now ≡ false)
  unlapsed_now now at lapse (offers o se l held lease d going f undrained unlapsed n is none on) =
      on_dispatch (λ _. has_lapsed (lapse_at old) now ≡ false) sent (λ _. sym (ap (has_lapsed (lapse_at old)) at) ∙ (ap (λ o. has_lapsed o r.reading) lapse ∙ unlapsed))
  unlapsed_now now at lapse (settles o l held lease d going n is on reply none) = subst (λ m. OnDispatch m (λ f. has_lapsed (lapse_at old) now ≡ false)) (sym none) tt
  unlapsed_now now at lapse (rests o se held lease d lost cut stray plain) = on_dispatch_none _ sent plain

  cuts : (HasEnded (entries old) → has_ended (records old) ≡ true) → Shape → HasEnded (entries old) → (taken ≡ None) × (sent ≡ None)
  cuts over (offers o se l held lease d going f undrained unlapsed n is none on) h = not_both (has_ended (records old)) going (over h)
  cuts over (settles o l held lease d going n is on reply none) h = not_both (has_ended (records old)) going (over h)
  cuts over (rests o se held lease d lost cut stray plain) h = cut (over h)

  counts : (n : Name) → Shape → times_in n e ≤ one_if (is_offered r.kind && is_named n r.name)
  counts n (offers o se l held lease d going f undrained unlapsed m is none on) = omega (arith, one_at_most (sends_dispatch sent) (is_named n r.name), ap (λ b. one_if (b && is_named n r.name)) o)
  counts n (settles o l held lease d going m is on reply none) = omega (arith, ap (λ (x : Option MuxFrame). one_if (sends_dispatch x && is_named n r.name)) none)
  counts n (rests o se held lease d lost cut stray plain) = omega (arith, ap (λ b. one_if (b && is_named n r.name)) (sends_none sent plain))

  -- how often it nacks a name
  nacked : (n : Name) → Shape → nack_in n H taken ≡ one_if (is_settled_nack r.kind && is_named n r.name)
  nacked n (offers o se l held lease d going f undrained unlapsed m is none on) = ap (nack_in n H) none ∙ sym (ap (λ b. one_if (b && is_named n r.name)) (no_nack r.kind se))
  nacked n (rests o se held lease d lost cut stray plain) = no_nacks taken (strays taken stray) ∙ sym (ap (λ b. one_if (b && is_named n r.name)) (no_nack r.kind se))
    where
      none_both : (b : Bool) → one_if (b && false) ≡ 0
      none_both true = refl
      none_both false = refl

      by_test : (f : MuxFrame) (b : Bool) → is_nack f ≡ b → (is_final (kind_of f.kind) ≡ true → H f.tag ≡ None) → one_if (b && is_named n (name_held (H f.tag))) ≡ 0
      by_test f true e none = ap (λ (o : Option Holder). one_if (is_named n (name_held o))) (none (nack_final f e))
      by_test f false e none = refl

      no_nacks : (m : Option MuxFrame) → OnFinal m (λ f. H f.tag ≡ None) → nack_in n H m ≡ 0
      no_nacks None h = refl
      no_nacks (Some f) h = by_test f (is_nack f) refl h
  nacked n (settles o l held lease d going m is on reply none) = by_taken taken (is_settled_nack r.kind) reply
    where
      by_taken : (x : Option MuxFrame) (b : Bool) → IsReplyOn b r.tag x → nack_in n H x ≡ one_if (b && is_named n r.name)
      by_taken None b reply = absurd reply
      by_taken (Some f) b reply =
          ap (λ x. one_if (x && is_named n (name_held (H f.tag)))) reply.2
          ∙ ap (λ o. one_if (b && is_named n o)) (ap (λ u. name_held (H u)) reply.1 ∙ (sym (linked r.tag) ∙ (on ∙ sym is)))

  -- a record of a final reply that came
  settled_here : (n : Name) → is_replied r.kind ≡ true → is_named n r.name ≡ true → Shape → (f : MuxFrame) × (is_nack f ≡ is_settled_nack r.kind) × SettlesName (Server s.number) n f e (entries old)
  settled_here n k is (offers o se l held lease d going f undrained unlapsed m m_is none on) = not_both (is_replied r.kind) se k
  settled_here n k is (settles o l held lease d going m m_is on reply none) = by_taken taken refl reply
    where
      same : m ≡ n
      same = (let x : Some m ≡ Some n = sym m_is ∙ named n r.name is in cc)

      by_taken : (x : Option MuxFrame) → taken ≡ x → IsReplyOn (is_settled_nack r.kind) r.tag x → (f : MuxFrame) × (is_nack f ≡ is_settled_nack r.kind) × SettlesName (Server s.number) n f e (entries old)
      by_taken None t reply = absurd reply
      by_taken (Some f) t reply = (f, reply.2, (t, reply.0, ap (λ u. name_held (H u)) reply.1 ∙ (sym (linked r.tag) ∙ (on ∙ ap Some same))))
  settled_here n k is (rests o se held lease d lost cut stray plain) = not_both (is_replied r.kind) se k

  -- once a list has ended, its records change no holder
  still_held : Shape → has_ended (records old) ≡ true → (t : ℕ) → held_after t r r.kind (name_on t (records old)) ≡ name_on t (records old)
  still_held (offers o se l held lease d going f undrained unlapsed n is none on) h t = not_both (has_ended (records old)) going h
  still_held (settles o l held lease d going n is on reply none) h t = not_both (has_ended (records old)) going h
  still_held (rests o se held lease d lost cut stray plain) h t = held t

  lost_here : (n : Name) → is_lost_one r.kind ≡ true → is_named n r.name ≡ true → Shape → (has_ended (records old) ≡ true) × (t : ℕ) × (name_on t (records old) ≡ Some n)
  lost_here n k is (offers o se l held lease d going f undrained unlapsed m m_is none on) = not_both (is_lost_one r.kind) l k
  lost_here n k is (settles o l held lease d going m m_is on reply none) = not_both (is_lost_one r.kind) l k
  lost_here n k is (rests o se held lease d lost cut stray plain) =
      (let x = lost k in let same : x.1 ≡ n = (let e : Some x.1 ≡ Some n = sym x.2 ∙ named n r.name is in cc) in (x.0, x.3, x.4 ∙ ap Some same))

-- whole lists
module _ (s : UpSession) where
  state : {steps : List Step} → ToldUp s steps → Linked s steps × Named s steps
  state nothing = (λ t. refl, λ t. tt)
  state (probe call sent plain quiet) = (
    λ t. sym (ap (λ (x : Option Holder). name_held x) (no_ask t (record { place = 0; name = None }) sent None plain)),
    λ t. subst IsNamed (sym (no_ask t (record { place = 0; name = None }) sent None plain)) tt,
  )
  state (more call r taken sent old read gives on_going shape rest) =
      (let x = state rest in (link s old x.0 x.1 call r taken sent shape, names s old x.0 x.1 call r taken sent shape))

  drained : {steps : List Step} → ToldUp s steps → is_drained (entries steps) ≡ stands is_drained_kind (records steps)
  drained nothing = refl
  drained (probe call sent plain quiet) = ap (λ b. b || false) quiet
  drained (more call r taken sent old read gives on_going shape rest) =
      (let x = state rest in ap (λ b. sends_rdrain sent || b) (drained rest) ∙ drains s old x.0 x.1 call r taken sent shape)

  lapses : {steps : List Step} → ToldUp s steps → lapse_at steps ≡ lease_of (records steps)
  lapses nothing = refl
  lapses (probe call sent plain quiet) = refl
  lapses (more call r taken sent old read gives on_going shape rest) =
      (let x = state rest in
      sym (ap (λ now. leased now (lease_taken taken) (lapse_at old)) read) ∙ (ap (leased r.reading (lease_taken taken)) (lapses rest) ∙ leases s old x.0 x.1 call r taken sent shape))

  pub server_fair : (ls : List Line) {steps : List Step} → ToldUp s steps → Every (IsFounded ls) (records steps) → Each (IsFairEntry ls (Server s.number)) (entries steps)
  server_fair ls nothing f = tt
  server_fair ls (probe call sent plain quiet) f = (on_dispatch_none _ sent plain, tt)
  server_fair ls (more call r taken sent old read gives on_going shape rest) f = (let x = state rest in (fair s old x.0 x.1 call r taken sent ls f.0 (drained rest) shape, server_fair ls rest f.1))

  pub server_unlapsed : {steps : List Step} → ToldUp s steps → EachStep (IsUnlapsed (Server s.number)) steps
  server_unlapsed nothing = tt
  server_unlapsed (probe call sent plain quiet) = (on_dispatch_none _ sent plain, tt)
  server_unlapsed (more call r taken sent old read gives on_going shape rest) =
      (let x = state rest in (unlapsed_now s old x.0 x.1 call r taken sent (reading_at (record { call = call; entry = record { rec = Some r; taken = taken; sent = sent } } ∷ old)) read (lapses rest) shape, server_unlapsed rest))

  ended : {steps : List Step} → ToldUp s steps → HasEnded (entries steps) → has_ended (records steps) ≡ true
  ended nothing h = absurd h
  ended (probe call sent plain quiet) (inl h) = absurd (cc)
  ended (probe call sent plain quiet) (inr h) = absurd h
  ended (more call r taken sent old read gives on_going shape rest) h = ended_more r (records old) (HasEnded (entries old)) (ended rest) on_going h

  pub server_cut : {steps : List Step} → ToldUp s steps → Each IsCut (entries steps)
  server_cut nothing = tt
  server_cut (probe call sent plain quiet) = (λ h. absurd h, tt)
  server_cut (more call r taken sent old read gives on_going shape rest) = (let x = state rest in (cuts s old x.0 x.1 call r taken sent (ended rest) shape, server_cut rest))

  pub server_times : (n : Name) {steps : List Step} → ToldUp s steps → times n (entries steps) ≤ occurs is_offered n (records steps)
  server_times n nothing = omega arith
  server_times n (probe call sent plain quiet) = omega (arith, ap (λ b. one_if (b && false)) (sends_none sent plain))
  server_times n (more call r taken sent old read gives on_going shape rest) = (let x = state rest in omega (arith, counts s old x.0 x.1 call r taken sent n shape, server_times n rest))

  pub server_gives_none : (n : Name) {steps : List Step} → ToldUp s steps → has gives_name n (records steps) ≡ true → ⊥
  server_gives_none n nothing h = absurd (cc)
  server_gives_none n (probe call sent plain quiet) h = absurd (cc)
  server_gives_none n (more call r taken sent old read gives on_going shape rest) h =
      elim (or_cases (gives_name r.kind && is_named n r.name) (has gives_name n (records old)) h) [
        | inl a ↦ not_both (gives_name r.kind) gives (and_parts _ _ a).0
        | inr a ↦ server_gives_none n rest a
      ]

  -- how often a name was nacked
  pub server_nacks : (n : Name) {steps : List Step} → ToldUp s steps → nacks (Server s.number) n (entries steps) ≡ occurs is_settled_nack n (records steps)
  server_nacks n nothing = refl
  server_nacks n (probe call sent plain quiet) = refl
  server_nacks n (more call r taken sent old read gives on_going shape rest) = (let x = state rest in omega (arith, nacked s old x.0 x.1 call r taken sent n shape, server_nacks n rest))

  -- a final reply that is told came: a nack, or one that is none
  abbrev Settles : Bool → Name → List Step → Type 0
  Settles nack n steps = (f : MuxFrame) × (is_nack f ≡ nack) × SomeEntry (SettlesName (Server s.number) n f) (entries steps)

  pub server_settles : (p : RecordKind → Bool) (nack : Bool) → ((k : RecordKind) → p k ≡ true → (is_replied k ≡ true) × (is_settled_nack k ≡ nack)) → (n : Name) {steps : List Step} → ToldUp s steps →
      has p n (records steps) ≡ true → Settles nack n steps
  server_settles p nack so n nothing h = absurd (cc)
  server_settles p nack so n (probe call sent plain quiet) h = absurd (cc)
  server_settles p nack so n (more call r taken sent old read gives on_going shape rest) h =
      elim (or_cases (p r.kind && is_named n r.name) (has p n (records old)) h) [
        | inl a ↦ (let x = state rest in let b = and_parts _ _ a in let k = so r.kind b.0 in let y = settled_here s old x.0 x.1 call r taken sent n k.0 b.1 shape in (y.0, y.1 ∙ k.1, inl y.2))
        | inr a ↦ (let y = server_settles p nack so n rest a in (y.0, y.1, inr y.2))
      ]

  -- by the records: the list has ended with a tag that the name holds
  pub loses : (n : Name) {steps : List Step} → ToldUp s steps → has is_lost_one n (records steps) ≡ true → (has_ended (records steps) ≡ true) × (t : ℕ) × (name_on t (records steps) ≡ Some n)
  loses n nothing h = absurd (cc)
  loses n (probe call sent plain quiet) h = absurd (cc)
  loses n (more call r taken sent old read gives on_going shape rest) h =
      elim (or_cases (is_lost_one r.kind && is_named n r.name) (has is_lost_one n (records old)) h) [
        | inl a ↦ (let x = state rest in let b = and_parts _ _ a in let y = lost_here s old x.0 x.1 call r taken sent n b.0 b.1 shape in stays y)
        | inr a ↦ stays (loses n rest a)
      ]
    where
      went : (y : Bool) → (y ≡ true → has_ended (records old) ≡ false) → has_ended (records old) ≡ true → (ends r.kind || (not y && has_ended (records old))) ≡ true
      went true first over = not_both (has_ended (records old)) (first refl) over
      went false first over = ap (λ b. ends r.kind || b) over ∙ or_true (ends r.kind)

      stays : (has_ended (records old) ≡ true) × (t : ℕ) × (name_on t (records old) ≡ Some n) → (has_ended (r ∷ records old) ≡ true) × (t : ℕ) × (held_after t r r.kind (name_on t (records old)) ≡ Some n)
      stays y =
          (let x = state rest in
          (went (is_epoch r.kind) on_going y.0, y.1, still_held s old x.0 x.1 call r taken sent shape y.0 y.1 ∙ y.2))

  -- the list has ended with that place unpaired
  pub server_loses : (n : Name) {steps : List Step} → ToldUp s steps → has is_lost_one n (records steps) ≡ true → HasEnded (entries steps) × (t : ℕ) × (name_held (holder (Server s.number) t (entries steps)) ≡ Some n)
  server_loses n {steps} told h = (let y = loses n told h in let x = state told in (ended_entries steps y.0, y.1, sym (x.0 y.1) ∙ y.2))
