-- A run of two dispatches, and laws that it breaks: each leaves out a premise of the theorem.
use Rattle.std.proofs.Common.{ℕ, List, [], ◌∷◌, ◌≡◌, ◌≤◌, Bool, true, Some, refl, sym, ◌∙◌, ap, subst, arith, cond}
use Rattle.std.specs.Prelude.{count_by}
use Rattle.std.proofs.lemmas.List.Sums.{sum_by-cons}
use Rattle.mux_message.specs.Reading.{message_of, after_text, after_each, after_pairs, after_all, tdispatch_at, rdispatch_at, tdiscarded_at, tlease_at, init_at}
use Rattle.mux_history.specs.declared.name.Name.{Name}
use Rattle.mux_history.specs.declared.record.Record.{Record}
use Rattle.mux_history.specs.declared.kind.RecordKind.TheVariants.{Nacked, Offered, Took}
use Rattle.mux_history.specs.declared.session.InitMode.TheVariants.{Plain}
use Rattle.mux_history.specs.declared.session.SessionId.{SessionId}
use Rattle.mux_history.specs.declared.session.SessionId.TheVariants.{Client, Server}
use Rattle.mux_agree.specs.Agree.{times}
use Rattle.mux_agree.specs.Walk.{Kept, all_records, client_records}
use Rattle.mux_model.specs.Events.{Event, Nack, Offer, OpenClient, OpenServer, Spend}
use Rattle.mux_model.proofs.Rows.{from_client, limits, name, tdispatch}
use Rattle.rolling_audit.specs.declared.fault.RecordFault.{RecordFault}
use Rattle.rolling_audit.specs.declared.fault.RecordFault.TheVariants.{OtherBoot, NotNext, TagOpen}
use Rattle.rolling_audit.specs.declared.fault.Flaw.TheVariants.{Untaken}
use Rattle.rolling_audit.specs.declared.life.Life.{Life}
use Rattle.rolling_audit.specs.Counted.{none_counted}
use Rattle.rolling_audit.specs.Faults.{AreOf, IsBegun, IsFaulty}
use Rattle.rolling_audit.specs.Histories.{behind}
use Rattle.rolling_audit.specs.Known.{AreBeginnings}
use Rattle.rolling_audit.specs.Lives.{IsLife, flaw_of, is_done, no_life}
use Rattle.rolling_audit.proofs.Behinds.{same_kept}
use Rattle.audit_laws.specs.AuditedRuns.{Leaves, histories_of}

abbrev two_dispatches : List (ℕ × Event)
two_dispatches = (0, OpenClient) ∷ from_client 1 (tdispatch 5) ∷ from_client 1 (tdispatch 6) ∷ []

abbrev took : ℕ → ℕ → Record
took seq tag = record { kind = Took; tag = tag; name = Some (name 1 1 seq); reading = 0 }

abbrev history : List Record → Kept
history rs = record { session = Client 1; mode = Plain; records = rs }

its_history : histories_of limits 1 two_dispatches 1 ≡ history (took 1 5 ∷ took 2 6 ∷ []) ∷ []
unfolding message_of after_text after_each after_pairs after_all tdispatch_at rdispatch_at tdiscarded_at tlease_at init_at
its_history = refl

-- the first record alone was handed in
first_of : AreOf (history (took 1 5 ∷ took 2 6 ∷ []) ∷ []) (behind (Client 1) (took 1 5 ∷ []) (history [] ∷ [])) (Client 1)
first_of = record {
  begun = λ own is. subst (IsBegun (history (took 1 5 ∷ took 2 6 ∷ []) ∷ [])) (same_kept (history (took 1 5 ∷ [])) own is) (record { before = []; after = []; later = took 2 6 ∷ []; whole = refl });
  few = λ test. (let a = sum_by-cons (λ x. cond (test x) 1 0) (took 1 5) (took 2 6 ∷ []) in let b = sum_by-cons (λ x. cond (test x) 1 0) (took 1 5) [] in omega (arith, a, b));
}

-- an audit of another boot accuses it
of_another_boot : IsFaulty 2 (history [] ∷ []) (Client 1) (took 1 5 ∷ []) 0 OtherBoot
of_another_boot = record { own = history []; kept = refl; index = 0; met = took 1 5; stands = refl; placed = refl; faulty = refl }

any_boot_is_accused :
    ((boot : ℕ) (taken : List Kept) (id : SessionId) (rs : List Record) (place : ℕ) (cause : RecordFault) → AreOf (histories_of limits 1 two_dispatches 1) (behind id rs taken) id
    → (f : IsFaulty boot taken id rs place cause) → Leaves cause []) → ⊥
any_boot_is_accused law =
    law 2 (history [] ∷ []) (Client 1) (took 1 5 ∷ []) 0 OtherBoot (subst (λ hs. AreOf hs (behind (Client 1) (took 1 5 ∷ []) (history [] ∷ [])) (Client 1)) (sym its_history) first_of)
    of_another_boot

-- the second dispatch before the first: the records of one session come in their order
second_first : IsFaulty 1 (history [] ∷ []) (Client 1) (took 2 6 ∷ []) 0 NotNext
second_first = record { own = history []; kept = refl; index = 0; met = took 2 6; stands = refl; placed = refl; faulty = refl }

disorder_is_accused :
    ((taken : List Kept) (id : SessionId) (rs : List Record) (place : ℕ) (cause : RecordFault)
    → ((test : Record → Bool) → count_by test (all_records (behind id rs taken)) ≤ count_by test (all_records (histories_of limits 1 two_dispatches 1)))
    → (f : IsFaulty 1 taken id rs place cause) → Leaves cause []) → ⊥
disorder_is_accused law =
    law (history [] ∷ []) (Client 1) (took 2 6 ∷ []) 0 NotNext
    (λ test. subst (λ hs. count_by test (took 2 6 ∷ []) ≤ count_by test (all_records hs)) (sym its_history)
    (let a = sum_by-cons (λ x. cond (test x) 1 0) (took 1 5) (took 2 6 ∷ []) in omega (arith, a)))
    second_first

-- an offer that chooses an open tag, as no accepted one does
abbrev same_tag : List (ℕ × Event)
same_tag =
    (0, OpenClient) ∷ (0, OpenServer Plain) ∷ from_client 1 (tdispatch 5) ∷ from_client 1 (tdispatch 6) ∷ (2, Spend 1 (Offer 1 0))
    ∷ (2, Spend 2 (Offer 1 0)) ∷ []

abbrev offered : ℕ → Record
offered seq = record { kind = Offered; tag = 2; name = Some (name 1 1 seq); reading = 0 }

abbrev of_server : List Record → Kept
of_server rs = record { session = Server 1; mode = Plain; records = rs }

its_histories : histories_of limits 1 same_tag 1 ≡ history (took 1 5 ∷ took 2 6 ∷ []) ∷ of_server (offered 1 ∷ offered 2 ∷ []) ∷ []
unfolding message_of after_text after_each after_pairs after_all tdispatch_at rdispatch_at tdiscarded_at tlease_at init_at
its_histories = refl

both_of : AreOf (history (took 1 5 ∷ took 2 6 ∷ []) ∷ of_server (offered 1 ∷ offered 2 ∷ []) ∷ []) (behind (Server 1) (offered 1 ∷ offered 2 ∷ []) (of_server [] ∷ [])) (Server 1)
both_of = record {
  begun = λ own is. subst (IsBegun (history (took 1 5 ∷ took 2 6 ∷ []) ∷ of_server (offered 1 ∷ offered 2 ∷ []) ∷ [])) (same_kept (of_server (offered 1 ∷ offered 2 ∷ [])) own is)
      (record { before = history (took 1 5 ∷ took 2 6 ∷ []) ∷ []; after = []; later = []; whole = refl });
  few = λ test.
      (let a = sum_by-cons (λ x. cond (test x) 1 0) (took 1 5) (took 2 6 ∷ offered 1 ∷ offered 2 ∷ []) in
      let b = sum_by-cons (λ x. cond (test x) 1 0) (took 2 6) (offered 1 ∷ offered 2 ∷ []) in
      omega (arith, a, b));
}

on_an_open_tag : IsFaulty 1 (of_server [] ∷ []) (Server 1) (offered 1 ∷ offered 2 ∷ []) 1 TagOpen
on_an_open_tag = record { own = of_server []; kept = refl; index = 1; met = offered 2; stands = refl; placed = refl; faulty = refl }

any_tag_is_accused :
    ((events : List (ℕ × Event)) (taken : List Kept) (id : SessionId) (rs : List Record) (place : ℕ) (cause : RecordFault) → AreOf (histories_of limits 1 events 1) (behind id rs taken) id
    → (f : IsFaulty 1 taken id rs place cause) → Leaves cause []) → ⊥
any_tag_is_accused law =
    law same_tag (of_server [] ∷ []) (Server 1) (offered 1 ∷ offered 2 ∷ []) 1 TagOpen
    (subst (λ hs. AreOf hs (behind (Server 1) (offered 1 ∷ offered 2 ∷ []) (of_server [] ∷ [])) (Server 1)) (sym its_histories) both_of) on_an_open_tag

-- before its Took was taken a dispatch that was offered is found untaken
offered_alone : flaw_of (record no_life { trace = record none_counted { offered = 1 } }) ≡ Some Untaken
offered_alone = refl

-- what is due of a dispatch counts: its Took alone tells that nothing is out
abbrev nacked_one : List (ℕ × Event)
nacked_one = (0, OpenClient) ∷ from_client 1 (tdispatch 5) ∷ (0, Spend 1 Nack) ∷ []

abbrev nacked : Record
nacked = record { kind = Nacked; tag = 5; name = Some (name 1 1 1); reading = 0 }

its_nack : histories_of limits 1 nacked_one 1 ≡ history (took 1 5 ∷ nacked ∷ []) ∷ []
unfolding message_of after_text after_each after_pairs after_all tdispatch_at rdispatch_at tdiscarded_at tlease_at init_at
its_nack = refl

abbrev life_of_took : Life
life_of_took = record no_life { trace = record none_counted { taken = true } }

is_its_life : IsLife (name 1 1 1) (took 1 5 ∷ []) (took 1 5 ∷ []) life_of_took
is_its_life = record {
  trace = record { offered = refl; retried = refl; nacked_back = refl; settled = refl; taken = refl; missing = refl; refused = refl; nacked = refl; recalled = refl };
  answered = refl;
  passed = refl;
  failed = refl;
  gave_recall = refl;
  noted = refl;
  lost = refl;
}

dues_are_needed :
    ((taken : List Kept) → AreBeginnings taken (histories_of limits 1 nacked_one 1) → (n : Name) (l : Life) → IsLife n (client_records taken) (all_records taken) l → is_done l ≡ true
    → times (λ k. true) n (all_records taken) ≡ times (λ k. true) n (all_records (histories_of limits 1 nacked_one 1))) → ⊥
dues_are_needed law =
    let begun = subst (AreBeginnings (history (took 1 5 ∷ []) ∷ [])) (sym its_nack) ((nacked ∷ [], refl), tt) in
    let same : times (λ k. true) (name 1 1 1) (took 1 5 ∷ []) ≡ times (λ k. true) (name 1 1 1) (took 1 5 ∷ nacked ∷ [])
    = law (history (took 1 5 ∷ []) ∷ []) begun (name 1 1 1) life_of_took is_its_life refl ∙ ap (λ hs. times (λ k. true) (name 1 1 1) (all_records hs)) its_nack in
    omega (arith, same)
