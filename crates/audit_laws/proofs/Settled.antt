-- In a server's list no record is behind those that tell an end of each sending of a dispatch, if it isn't sent again.
use Rattle.std.proofs.Common.{ℕ, List, [], ◌∷◌, ◌++◌, ◌+◌, ◌≡◌, ◌≤◌, ◌&&◌, ◌||◌, Bool, true, false, not, Some, refl, sym, ◌∙◌, ap, arith}
use Rattle.std.specs.Prelude.{if◌then◌else◌, nat_le}
use Rattle.std.proofs.lemmas.Bool.{and_parts, and_from, false_from_ne_true, le-leb}
use Rattle.mux_history.specs.Bounds.{Bounds}
use Rattle.mux_history.specs.declared.name.Name.{Name}
use Rattle.mux_history.specs.declared.record.Record.{Record}
use Rattle.mux_history.specs.declared.kind.RecordKind.{RecordKind}
use Rattle.mux_history.specs.declared.kind.RecordKind.TheVariants.{Discarding, SettledNack}
use Rattle.mux_history.specs.declared.session.InitMode.{InitMode}
use Rattle.mux_history.specs.declared.session.SessionId.TheVariants.{Server}
use Rattle.mux_history.specs.Holders.{name_on}
use Rattle.mux_history.specs.Readings.{has_ended, is_epoch, is_named, is_offered, present, reading}
use Rattle.mux_agree.specs.Agree.{is_lost_one, is_replied}
use Rattle.mux_agree.specs.Facts.{is_discarding}
use Rattle.mux_model.specs.Up.{UpSession}
use Rattle.mux_model.specs.Replay.{are_histories, epochs, is_history, is_up_history, may_follow_up, added}
use Rattle.mux_legal.proofs.Basics.{is_its_name, named, named_same, one_if}
use Rattle.mux_legal.proofs.EndsOnce.{server_balance}
use Rattle.mux_legal.proofs.Following.{epochs_split}
use Rattle.mux_legal.proofs.Following as following
use Rattle.mux_legal.proofs.ToldEpochs.{each_epoch, present_history}
use Rattle.mux_legal.proofs.ToldHolders.{occurs}
use Rattle.mux_legal.proofs.ToldWalk.{occurs-append}
use Rattle.audit_laws.proofs.Named.{any, discards, ends_it, nameless, sends, up_reason, UpReason}
use Rattle.audit_laws.proofs.Complete.{counts_one}

-- how often a dispatch was replied to, or its loss was told
abbrev pub ends : Name → List Record → ℕ
ends n rs = occurs is_replied n rs + occurs is_lost_one n rs

one_of : (x y : Bool) → (x || y) ≡ true → 1 ≤ one_if (x && true) + one_if (y && true)
one_of true y e = omega arith
one_of false true e = omega arith
one_of false false e = absurd (cc)

no_epoch : (k : RecordKind) → is_discarding k ≡ true → is_epoch k ≡ false
no_epoch Discarding e = refl
no_epoch _ e = absurd (cc)

module _ (limits : Bounds) (b k : ℕ) (mode : InitMode) (n : Name) where
  abbrev s : UpSession
  s = record { limits = limits; number = k; mode = mode }

  abbrev Joined : List Record → Type 0
  Joined rs = are_histories limits b mode (Server k) (epochs rs) ≡ true

  -- a nack that might come for a dispatch that holds its tag
  abbrev nack : ℕ → List Record → Record
  nack t old = record { kind = SettledNack; tag = t; name = Some n; reading = reading (present old) }

  may_come : (t : ℕ) (old : List Record) → Joined old → has_ended (present old) ≡ false → name_on t (present old) ≡ Some n → Joined (nack t old ∷ old)
  may_come t old j going on =
      let now = present_history limits b mode (Server k) old j in
      let follows : may_follow_up s (present old) (nack t old) SettledNack ≡ true = and_from (not (has_ended (present old))) (is_named n (name_on t (present old))) (ap not going) (is_its_name n (name_on t (present old)) on) in
      let reads : nat_le (reading (present old)) (reading (present old)) ≡ true = le-leb (reading (present old)) (reading (present old)) (omega arith) in
      let here : is_up_history s (nack t old ∷ present old) ≡ true = and_from _ _ (and_from _ _ follows reads) now in
      let split = epochs_split old in
      let before = (and_parts _ _ (sym (ap (are_histories limits b mode (Server k)) split) ∙ j)).1 in
      ap (λ es. are_histories limits b mode (Server k) (added (nack t old) es)) split
      ∙ and_from (is_history limits b mode (Server k) (nack t old ∷ present old)) (are_histories limits b mode (Server k) (following.older old)) here before

  not_named : (r : Record) (old : List Record) → Joined (r ∷ old) → occurs is_offered n (r ∷ old) ≤ ends n old → is_named n r.name ≡ false
  not_named r old j few = false_from_ne_true (is_named n r.name) (λ is. by_history is (each_epoch limits b mode (Server k) r old j))
    where
      by_reason : (past : List Record) → UpReason past r r.kind → is_named n r.name ≡ true → Joined old →
          (is_discarding r.kind ≡ true → past ≡ present old) → ⊥
      by_reason past (nameless x none) is rest same = (let y : false ≡ true = sym (ap (is_named n) none) ∙ is in cc)
      by_reason past (sends o m it) is rest same = omega (arith, few, server_balance n limits b mode k old rest, counts_one is_offered n r o is)
      by_reason past (ends_it e m it x) is rest same =
          omega (
            arith,
            few,
            server_balance n limits b mode k (r ∷ old) j,
            ap (λ y. one_if (is_replied r.kind && y)) is,
            ap (λ y. one_if (is_lost_one r.kind && y)) is,
            one_of (is_replied r.kind) (is_lost_one r.kind) e,
          )
      by_reason past (discards e going m it on) is rest same =
          let p = same e in
          let eq : Some m ≡ Some n = sym it ∙ named n r.name is in
          let on_it : name_on r.tag (present old) ≡ Some n = ap (name_on r.tag) (sym p) ∙ (on ∙ eq) in
          let might = server_balance n limits b mode k (nack r.tag old ∷ old) (may_come r.tag old rest (ap has_ended (sym p) ∙ going) on_it) in
          omega (arith, few, might, ap one_if (named_same n))

      by_history : is_named n r.name ≡ true → (is_history limits b mode (Server k) (r ∷ (if is_epoch r.kind then [] else present old)) ≡ true) × (are_histories limits b mode (Server k) (epochs old) ≡ true) → ⊥
      by_history is a =
          let f = and_parts _ _ a.0 in
          by_reason (if is_epoch r.kind then [] else present old) (up_reason s (if is_epoch r.kind then [] else present old) f.1 r r.kind (and_parts _ _ f.0).0) is a.1
          (λ d. ap (λ y. if y then [] else present old) (no_epoch r.kind d))

  pub settled : (more sooner : List Record) → Joined (more ++ sooner) → occurs is_offered n (more ++ sooner) ≤ ends n sooner → occurs any n more ≡ 0
  settled [] sooner j few = refl
  settled (r ∷ more) sooner j few =
      let a = each_epoch limits b mode (Server k) r (more ++ sooner) j in
      let rest = settled more sooner a.1 (omega (arith, few)) in
      let now = not_named r (more ++ sooner) j (omega (arith, few, occurs-append is_replied n more sooner, occurs-append is_lost_one n more sooner)) in
      omega (arith, rest, ap one_if now)
