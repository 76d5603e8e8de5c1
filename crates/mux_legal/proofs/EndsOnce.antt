-- In a list of a server a name is replied to, or told as lost, no more often than it is offered.
use Rattle.std.proofs.Common.{ℕ, List, [], ◌∷◌, ◌+◌, ◌≡◌, ◌≤◌, ◌&&◌, ◌||◌, ◌⊎◌, inl, inr, Bool, true, false, Option, Some, None, refl, sym, ◌∙◌, ap, arith}
use Rattle.std.specs.Prelude.{if◌then◌else◌, ◌==◌, nat_lt}
use Rattle.std.proofs.lemmas.Bool.{and_parts, eqb-true, eq-eqb, false_from_ne_true}
use Rattle.mux_history.specs.Bounds.{Bounds}
use Rattle.mux_history.specs.declared.name.Name.{Name}
use Rattle.mux_history.specs.declared.record.Record.{Record}
use Rattle.mux_history.specs.declared.kind.RecordKind.{RecordKind}
use Rattle.mux_history.specs.declared.kind.RecordKind.TheVariants.{Took, TookDrained, Discarded, Ponged, InitDone, Echoed, OutOfPlace, Unsupported, DrainAcked, Ignored, Noted, Passed, Retried, Nacked, Unrouted, Failed, Late, DrainAsked, Closed, Lost, Recalled, Offered, Settled, SettledNack, Dropped, PingDone, Leased, Drained, InitAsked, Discarding, Clock, Retired, PingSent, LostOne, Epoch, Rolled}
use Rattle.mux_history.specs.declared.session.InitMode.{InitMode}
use Rattle.mux_history.specs.declared.session.SessionId.{SessionId}
use Rattle.mux_history.specs.declared.session.SessionId.TheVariants.{Client, Server}
use Rattle.mux_history.specs.Readings.{Sending, sendings, sendings_after, sending_on, off_tag, recalled_on, least, lesser, is_epoch, is_named, is_offered, has_ended, present}
use Rattle.mux_history.specs.Holders.{name_on, of_named}
use Rattle.mux_history.proofs.Present.{sendings_present}
use Rattle.mux_history.proofs.Sendings.{sendings_hold, sending_name}
use Rattle.mux_agree.specs.Agree.{has, is_replied, is_lost_one}
use Rattle.mux_model.specs.Steps.{Step, records}
use Rattle.mux_model.specs.Up.{UpSession}
use Rattle.mux_model.specs.Replay.{may_follow_up, is_up_history, is_lost_next, are_histories, epochs}
use Rattle.mux_legal.proofs.Basics.{named, is_its_name, not_true, one_if}
use Rattle.mux_legal.proofs.KeptSendings.{are_going_on}
use Rattle.mux_legal.proofs.ToldEpochs.{each_epoch, present_history}
use Rattle.mux_legal.proofs.ToldHolders.{occurs}
use Rattle.mux_legal.proofs.ToldWalk.{occurs_none}
use Rattle.mux_legal.proofs.ToldClients.{client_settles_none, client_loses_none}
use Rattle.mux_legal.proofs.ToldRuns.{Told}

-- a test on records that finds a name counts it
pub has_counts : (p : RecordKind → Bool) (n : Name) (rs : List Record) → one_if (has p n rs) ≤ occurs p n rs
has_counts p n [] = omega arith
has_counts p n (r ∷ rs) = by_test (p r.kind && is_named n r.name) (has p n rs) (has_counts p n rs)
  where
    by_test : (a b : Bool) → one_if b ≤ occurs p n rs → one_if (a || b) ≤ one_if a + occurs p n rs
    by_test true b h = omega arith
    by_test false b h = omega (arith, h)

-- how many dispatches of a name are held
abbrev held : Name → List Sending → ℕ
held n [] = 0
held n (s ∷ ss) = one_if (is_named n s.name) + held n ss

module _ (n : Name) where
  no_more : (t : ℕ) (ss : List Sending) → held n (off_tag t ss) ≤ held n ss
  no_more t [] = omega arith
  no_more t (s ∷ ss) = by_test (s.tag == t) (no_more t ss)
    where
      by_test : (b : Bool) → held n (off_tag t ss) ≤ held n ss → held n (if b then off_tag t ss else s ∷ off_tag t ss) ≤ one_if (is_named n s.name) + held n ss
      by_test true h = omega (arith, h)
      by_test false h = omega (arith, h)

  recalled_same : (t : ℕ) (ss : List Sending) → held n (recalled_on t ss) ≡ held n ss
  recalled_same t [] = refl
  recalled_same t (s ∷ ss) = by_test (s.tag == t) (recalled_same t ss)
    where
      by_test : (b : Bool) → held n (recalled_on t ss) ≡ held n ss → held n ((if b then record s { recalled = true } else s) ∷ recalled_on t ss) ≡ one_if (is_named n s.name) + held n ss
      by_test true h = omega (arith, h)
      by_test false h = omega (arith, h)

  -- the one on a tag is told off it
  one_less : (t : ℕ) (ss : List Sending) → is_named n (sending_name (sending_on t ss)) ≡ true → held n (off_tag t ss) + 1 ≤ held n ss
  one_less t [] is = absurd (cc)
  one_less t (s ∷ ss) is = by_test (s.tag == t) is (one_less t ss)
    where
      by_test : (b : Bool) → is_named n (sending_name (if b then Some s else sending_on t ss)) ≡ true → (is_named n (sending_name (sending_on t ss)) ≡ true → held n (off_tag t ss) + 1 ≤ held n ss) →
          held n (if b then off_tag t ss else s ∷ off_tag t ss) + 1 ≤ one_if (is_named n s.name) + held n ss
      by_test true is rest = omega (arith, no_more t ss, ap one_if is)
      by_test false is rest = omega (arith, rest is)

  abbrev IsAmong : Sending → List Sending → Type 0
  IsAmong e [] = ⊥
  IsAmong e (s ∷ ss) = (s ≡ e) ⊎ IsAmong e ss

  least_among : (ss : List Sending) (e : Sending) → least ss ≡ Some e → IsAmong e ss
  least_among [] e h = absurd (cc)
  least_among (s ∷ ss) e h = by_least (least ss) refl h (least_among ss)
    where
      by_least : (o : Option Sending) → least ss ≡ o → lesser s o ≡ Some e → ((x : Sending) → least ss ≡ Some x → IsAmong x ss) → (s ≡ e) ⊎ IsAmong e ss
      by_least None is h rest = inl (cc)
      by_least (Some m) is h rest = by_test (nat_lt s.tag m.tag) h
        where
          by_test : (b : Bool) → (if b then Some s else Some m) ≡ Some e → (s ≡ e) ⊎ IsAmong e ss
          by_test true h = inl (cc)
          by_test false h = inr (rest e (is ∙ h))

  among_less : (e : Sending) (ss : List Sending) → IsAmong e ss → is_named n e.name ≡ true → held n (off_tag e.tag ss) + 1 ≤ held n ss
  among_less e [] a is = absurd a
  among_less e (s ∷ ss) (inl same) is = by_test (s.tag == e.tag) (eq-eqb s.tag e.tag (ap (λ (x : Sending). x.tag) same))
    where
      by_test : (b : Bool) → b ≡ true → held n (if b then off_tag e.tag ss else s ∷ off_tag e.tag ss) + 1 ≤ one_if (is_named n s.name) + held n ss
      by_test true h = omega (arith, no_more e.tag ss, ap (λ (x : Sending). one_if (is_named n x.name)) same, ap one_if is)
      by_test false h = absurd (cc)
  among_less e (s ∷ ss) (inr later) is = by_test (s.tag == e.tag) (among_less e ss later is)
    where
      by_test : (b : Bool) → held n (off_tag e.tag ss) + 1 ≤ held n ss → held n (if b then off_tag e.tag ss else s ∷ off_tag e.tag ss) + 1 ≤ one_if (is_named n s.name) + held n ss
      by_test true h = omega (arith, h)
      by_test false h = omega (arith, h)

  -- what a record makes of the balance
  abbrev Balanced : Record → RecordKind → List Sending → Type 0
  Balanced r k ss = one_if (is_replied k && is_named n r.name) + one_if (is_lost_one k && is_named n r.name) + held n (sendings_after r k ss) ≤ one_if (is_offered k && is_named n r.name) + held n ss

  module _ (s : UpSession) (past : List Record) (history : is_up_history s past ≡ true) (r : Record) where
    settled : has_ended past ≡ false → of_named (λ m. is_named m (name_on r.tag past)) r.name ≡ true → one_if (is_named n r.name) + held n (off_tag r.tag (sendings past)) ≤ held n (sendings past)
    settled going own = by_test (is_named n r.name) refl
      where
        by_test : (b : Bool) → is_named n r.name ≡ b → one_if b + held n (off_tag r.tag (sendings past)) ≤ held n (sendings past)
        by_test false e = omega (arith, no_more r.tag (sendings past))
        by_test true e =
            let on : is_named n (name_on r.tag past) ≡ true = sym (ap (of_named (λ m. is_named m (name_on r.tag past))) (named n r.name e)) ∙ own in
            omega (arith, one_less r.tag (sendings past) (sym (ap (is_named n) (sendings_hold r.tag past (are_going_on s past history going))) ∙ on))

    lost : of_named (λ m. is_lost_next m r.tag (least (sendings past))) r.name ≡ true → one_if (is_named n r.name) + held n (off_tag r.tag (sendings past)) ≤ held n (sendings past)
    lost own = by_test (is_named n r.name) refl
      where
        by_least : (o : Option Sending) → least (sendings past) ≡ o → is_lost_next n r.tag o ≡ true → held n (off_tag r.tag (sendings past)) + 1 ≤ held n (sendings past)
        by_least None e h = absurd (cc)
        by_least (Some x) e h =
            let a = and_parts _ _ h in
            omega (arith, among_less x (sendings past) (least_among (sendings past) x e) (is_its_name n x.name (named n x.name a.0)), ap (λ t. held n (off_tag t (sendings past))) (eqb-true x.tag r.tag a.1))

        by_test : (b : Bool) → is_named n r.name ≡ b → one_if b + held n (off_tag r.tag (sendings past)) ≤ held n (sendings past)
        by_test false e = omega (arith, no_more r.tag (sendings past))
        by_test true e =
            omega (arith, by_least (least (sendings past)) refl (sym (ap (of_named (λ m. is_lost_next m r.tag (least (sendings past)))) (named n r.name e)) ∙ own))

    balanced : (k : RecordKind) → may_follow_up s past r k ≡ true → Balanced r k (sendings past)
    balanced Took m = absurd (cc)
    balanced TookDrained m = absurd (cc)
    balanced (Discarded x) m = absurd (cc)
    balanced Ponged m = omega arith
    balanced InitDone m = omega arith
    balanced Echoed m = absurd (cc)
    balanced OutOfPlace m = absurd (cc)
    balanced Unsupported m = omega arith
    balanced DrainAcked m = absurd (cc)
    balanced Ignored m = omega arith
    balanced (Noted x) m = absurd (cc)
    balanced Passed m = absurd (cc)
    balanced Retried m = absurd (cc)
    balanced Nacked m = absurd (cc)
    balanced Unrouted m = absurd (cc)
    balanced Failed m = absurd (cc)
    balanced (Late x) m = absurd (cc)
    balanced DrainAsked m = absurd (cc)
    balanced (Closed x) m = omega arith
    balanced Lost m = omega arith
    balanced (Rolled number) m = omega arith
    balanced Recalled m = absurd (cc)
    balanced Offered m = omega arith
    balanced (Settled x) m = (let a = and_parts _ _ m in let b = and_parts _ _ a.0 in omega (arith, settled (not_true (has_ended past) b.0) b.1))
    balanced SettledNack m = (let b = and_parts _ _ m in omega (arith, settled (not_true (has_ended past) b.0) b.1))
    balanced Dropped m = omega arith
    balanced PingDone m = omega arith
    balanced (Leased x) m = omega arith
    balanced Drained m = omega arith
    balanced InitAsked m = omega arith
    balanced Discarding m = omega (arith, recalled_same r.tag (sendings past))
    balanced Clock m = omega arith
    balanced Retired m = omega arith
    balanced PingSent m = omega arith
    balanced LostOne m = omega (arith, lost (and_parts _ _ m).1)
    balanced (Epoch number standing) m = omega arith

  begun : (r : Record) (k : RecordKind) (ss : List Sending) → is_epoch k ≡ true → Balanced r k ss
  begun r (Epoch number standing) ss e = omega arith
  begun r _ ss e = absurd (cc)

  -- over all epochs of a list
  pub server_balance : (limits : Bounds) (b : ℕ) (mode : InitMode) (k : ℕ) (rs : List Record) → are_histories limits b mode (Server k) (epochs rs) ≡ true →
      occurs is_replied n rs + occurs is_lost_one n rs + held n (sendings rs) ≤ occurs is_offered n rs
  server_balance limits b mode k [] h = omega arith
  server_balance limits b mode k (r ∷ old) h =
      (let a = each_epoch limits b mode (Server k) r old h in
      omega (arith, server_balance limits b mode k old a.1, by_epoch (is_epoch r.kind) refl a.0 (present_history limits b mode (Server k) old a.1)))
    where
      by_epoch : (x : Bool) → is_epoch r.kind ≡ x → is_up_history (record { limits = limits; number = k; mode = mode }) (r ∷ (if x then [] else present old)) ≡ true →
          is_up_history (record { limits = limits; number = k; mode = mode }) (present old) ≡ true → Balanced r r.kind (sendings old)
      by_epoch true e h past = begun r r.kind (sendings old) e
      by_epoch false e h past =
          let m = (and_parts _ _ (and_parts _ _ h).0).0 in
          omega (
            arith,
            balanced (record { limits = limits; number = k; mode = mode }) (present old) past r r.kind m,
            ap (held n) (sendings_present old),
            ap (λ ss. held n (sendings_after r r.kind ss)) (sendings_present old),
          )

-- a name's replies and losses, and the offers for them
abbrev pub EndsWithin : Name → List Record → Type 0
EndsWithin n rs = occurs is_replied n rs + occurs is_lost_one n rs ≤ occurs is_offered n rs

pub ends_within : (n : Name) (limits : Bounds) (b : ℕ) (mode : InitMode) (id : SessionId) (steps : List Step) → are_histories limits b mode id (epochs (records steps)) ≡ true → Told b id steps →
    EndsWithin n (records steps)
ends_within n limits b mode (Client k) steps h t =
    omega (
      arith,
      occurs_none is_replied n (records steps) (false_from_ne_true (has is_replied n (records steps)) (client_settles_none _ is_replied (λ k e. e) n t.1)),
      occurs_none is_lost_one n (records steps) (false_from_ne_true (has is_lost_one n (records steps)) (client_loses_none _ n t.1)),
    )
ends_within n limits b mode (Server k) steps h t = omega (arith, server_balance n limits b mode k (records steps) h)
