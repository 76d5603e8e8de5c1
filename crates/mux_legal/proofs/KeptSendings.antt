-- The dispatches that a server's history tells as held hold their tags.
use Rattle.std.proofs.Common.{ℕ, List, [], ◌∷◌, ◌≡◌, ◌&&◌, ◌||◌, Bool, true, false, not, Option, Some, None, refl, sym, ◌∙◌, ap, arith}
use Rattle.std.specs.Prelude.{if◌then◌else◌, ◌==◌, is_some, length, nat_lt}
use Rattle.std.specs.List.{AllByRecursion}
use Rattle.std.proofs.lemmas.Bool.{and_parts, and_from, eqb-true, eq-eqb, false_from_ne_true, ltb-true}
use Rattle.mux_history.specs.declared.name.Name.{Name}
use Rattle.mux_history.specs.declared.record.Record.{Record}
use Rattle.mux_history.specs.declared.kind.RecordKind.{RecordKind}
use Rattle.mux_history.specs.declared.kind.RecordKind.TheVariants.{Took, TookDrained, Discarded, Ponged, InitDone, Echoed, OutOfPlace, Unsupported, DrainAcked, Ignored, Noted, Passed, Retried, Nacked, Unrouted, Failed, Late, DrainAsked, Closed, Lost, Recalled, Offered, Settled, SettledNack, Dropped, PingDone, Leased, Drained, InitAsked, Discarding, Clock, Retired, PingSent, LostOne, Epoch, Rolled}
use Rattle.mux_history.specs.declared.kind.Standing.TheVariants.{Down, Up}
use Rattle.mux_history.specs.Readings.{Sending, least, sendings, sendings_after, sending_on, off_tag, recalled_on, has_ended, ends, is_epoch}
use Rattle.mux_history.specs.Holders.{name_on, held_after}
use Rattle.mux_history.proofs.Sendings.{sendings_hold, is_going_kind, are_going, sending_name}
use Rattle.mux_model.specs.Up.{UpSession}
use Rattle.mux_model.specs.Replay.{may_follow_up, is_up_history, is_none_before, is_lost_next}
use Rattle.mux_legal.proofs.Basics.{named, least_passes}
use Rattle.mux_legal.proofs.ToldDown.{none_of, not_both}

-- a dispatch that holds its tag
abbrev pub HoldsTag : List Record → Sending → Type 0
HoldsTag rs s = (n : Name) × (s.name ≡ Some n) × (name_on s.tag rs ≡ Some n)

abbrev pub AllHold : List Record → List Sending → Type 0
AllHold rs ss = AllByRecursion (HoldsTag rs) ss

module _ (rs : List Record) (more : List Record) where
  -- each holds its tag still where the tags' holders are the same
  same_hold : ((t : ℕ) → name_on t more ≡ name_on t rs) → (ss : List Sending) → AllHold rs ss → AllHold more ss
  same_hold same [] h = tt
  same_hold same (s ∷ ss) h = ((h.0.0, h.0.1, same s.tag ∙ h.0.2), same_hold same ss h.1)

  recalled_hold : (u : ℕ) → ((t : ℕ) → name_on t more ≡ name_on t rs) → (ss : List Sending) → AllHold rs ss → AllHold more (recalled_on u ss)
  recalled_hold u same [] h = tt
  recalled_hold u same (s ∷ ss) h = (by_test (s.tag == u), recalled_hold u same ss h.1)
    where
      by_test : (b : Bool) → HoldsTag more (if b then record s { recalled = true } else s)
      by_test true = (h.0.0, h.0.1, same s.tag ∙ h.0.2)
      by_test false = (h.0.0, h.0.1, same s.tag ∙ h.0.2)

  -- one that is told off its tag holds it no more
  off_hold : (u : ℕ) → ((t : ℕ) → (u == t) ≡ false → name_on t more ≡ name_on t rs) → (ss : List Sending) → AllHold rs ss → AllHold more (off_tag u ss)
  off_hold u same [] h = tt
  off_hold u same (s ∷ ss) h = by_test (s.tag == u) refl (off_hold u same ss h.1)
    where
      turned : (s.tag == u) ≡ false → (u == s.tag) ≡ false
      turned e = false_from_ne_true (u == s.tag) (λ d. not_both (s.tag == u) e (eq-eqb s.tag u (sym (eqb-true u s.tag d))))

      by_test : (b : Bool) → (s.tag == u) ≡ b → AllHold more (off_tag u ss) → AllHold more (if b then off_tag u ss else s ∷ off_tag u ss)
      by_test true e rest = rest
      by_test false e rest = ((h.0.0, h.0.1, same s.tag (turned e) ∙ h.0.2), rest)

  -- beside one that is offered on a free tag
  beside_hold : (u : ℕ) → name_on u rs ≡ None → ((t : ℕ) → (u == t) ≡ false → name_on t more ≡ name_on t rs) → (ss : List Sending) → AllHold rs ss → AllHold more ss
  beside_hold u free same [] h = tt
  beside_hold u free same (s ∷ ss) h = ((h.0.0, h.0.1, same s.tag apart ∙ h.0.2), beside_hold u free same ss h.1)
    where
      apart : (u == s.tag) ≡ false
      apart = false_from_ne_true (u == s.tag) (λ d. absurd (let x : None ≡ Some h.0.0 = sym free ∙ (ap (λ t. name_on t rs) (eqb-true u s.tag d) ∙ h.0.2) in cc))

pub some_name : (o : Option Name) → is_some o ≡ true → (n : Name) × (o ≡ Some n)
some_name None e = absurd (cc)
some_name (Some n) e = (n, refl)

module _ (s : UpSession) (old : List Record) (r : Record) (more : List Record) (h : AllHold old (sendings old)) where
  abbrev Behind : RecordKind → Type 0
  Behind k = (t : ℕ) → name_on t more ≡ held_after t r k (name_on t old)

  still : ((t : ℕ) → name_on t more ≡ name_on t old) → AllHold more (sendings old)
  still same = same_hold old more same (sendings old) h

  settled : ((t : ℕ) → name_on t more ≡ (if r.tag == t then None else name_on t old)) → AllHold more (off_tag r.tag (sendings old))
  settled held = off_hold old more r.tag (λ t e. held t ∙ ap (λ b. if b then None else name_on t old) e) (sendings old) h

  step : (k : RecordKind) → may_follow_up s old r k ≡ true → Behind k → AllHold more (sendings_after r k (sendings old))
  step Took m b = absurd (cc)
  step TookDrained m b = absurd (cc)
  step (Discarded x) m b = absurd (cc)
  step Ponged m b = still b
  step InitDone m b = still b
  step Echoed m b = absurd (cc)
  step OutOfPlace m b = absurd (cc)
  step Unsupported m b = still b
  step DrainAcked m b = absurd (cc)
  step Ignored m b = still b
  step (Rolled number) m b = still b
  step (Noted x) m b = absurd (cc)
  step Passed m b = absurd (cc)
  step Retried m b = absurd (cc)
  step Nacked m b = absurd (cc)
  step Unrouted m b = absurd (cc)
  step Failed m b = absurd (cc)
  step (Late x) m b = absurd (cc)
  step DrainAsked m b = absurd (cc)
  step (Closed x) m b = still b
  step Lost m b = still b
  step Recalled m b = absurd (cc)
  step Offered m b = (let lapsed = and_parts _ _ m in let retired = and_parts _ _ lapsed.0 in let drained = and_parts _ _ retired.0 in let begun = and_parts _ _ drained.0 in
      let free = and_parts _ _ begun.0 in let below = and_parts _ _ free.0 in let above = and_parts _ _ below.0 in let named = and_parts _ _ above.0 in
      let n = some_name r.name named.1 in (
        (n.0, n.1, b r.tag ∙ (ap (λ x. if x then r.name else name_on r.tag old) (eq-eqb r.tag r.tag refl) ∙ n.1)),
        beside_hold old more r.tag (none_of (name_on r.tag old) free.1) (λ t e. b t ∙ ap (λ x. if x then r.name else name_on t old) e) (sendings old) h,
      ))
  step (Settled x) m b = settled b
  step SettledNack m b = settled b
  step Dropped m b = still b
  step PingDone m b = still b
  step (Leased x) m b = still b
  step Drained m b = still b
  step InitAsked m b = still b
  step Discarding m b = recalled_hold old more r.tag b (sendings old) h
  step Clock m b = still b
  step Retired m b = still b
  step PingSent m b = still b
  step LostOne m b = off_hold old more r.tag (λ t e. b t) (sendings old) h
  step (Epoch number standing) m b = tt

-- in a history each dispatch that is told as held holds its tag
pub all_hold : (s : UpSession) (rs : List Record) → is_up_history s rs ≡ true → AllHold rs (sendings rs)
all_hold s [] h = tt
all_hold s (r ∷ old) h = (let a = and_parts _ _ h in step s old r (r ∷ old) (all_hold s old a.1) r.kind (and_parts _ _ a.0).0 (λ t. refl))

-- the one at the least tag is the one whose loss is told
pub lost_holds : (s : UpSession) (rs : List Record) → is_up_history s rs ≡ true → (n : Name) (t : ℕ) → is_lost_next n t (least (sendings rs)) ≡ true → (u : ℕ) × (name_on u rs ≡ Some n)
lost_holds s rs h n t lost = by_least (least (sendings rs)) refl lost
  where
    by_least : (o : Option Sending) → least (sendings rs) ≡ o → is_lost_next n t o ≡ true → (u : ℕ) × (name_on u rs ≡ Some n)
    by_least None e lost = absurd (cc)
    by_least (Some x) e lost =
        let held = least_passes (HoldsTag rs) (sendings rs) x (all_hold s rs h) e in
        (x.tag, held.2 ∙ (sym held.1 ∙ named n x.name (and_parts _ _ lost).0))

-- before a session has ended no loss was told
going_kind : (s : UpSession) (old : List Record) (r : Record) (k : RecordKind) → may_follow_up s old r k ≡ true → has_ended old ≡ false → is_going_kind k ≡ true
going_kind s old r Took m g = absurd (cc)
going_kind s old r TookDrained m g = absurd (cc)
going_kind s old r (Discarded x) m g = absurd (cc)
going_kind s old r Ponged m g = refl
going_kind s old r InitDone m g = refl
going_kind s old r Echoed m g = absurd (cc)
going_kind s old r OutOfPlace m g = absurd (cc)
going_kind s old r Unsupported m g = refl
going_kind s old r DrainAcked m g = absurd (cc)
going_kind s old r Ignored m g = refl
going_kind s old r (Rolled number) m g = refl
going_kind s old r (Noted x) m g = absurd (cc)
going_kind s old r Passed m g = absurd (cc)
going_kind s old r Retried m g = absurd (cc)
going_kind s old r Nacked m g = absurd (cc)
going_kind s old r Unrouted m g = absurd (cc)
going_kind s old r Failed m g = absurd (cc)
going_kind s old r (Late x) m g = absurd (cc)
going_kind s old r DrainAsked m g = absurd (cc)
going_kind s old r (Closed x) m g = refl
going_kind s old r Lost m g = refl
going_kind s old r Recalled m g = absurd (cc)
going_kind s old r Offered m g = refl
going_kind s old r (Settled x) m g = refl
going_kind s old r SettledNack m g = refl
going_kind s old r Dropped m g = refl
going_kind s old r PingDone m g = refl
going_kind s old r (Leased x) m g = refl
going_kind s old r Drained m g = refl
going_kind s old r InitAsked m g = refl
going_kind s old r Discarding m g = refl
going_kind s old r Clock m g = refl
going_kind s old r Retired m g = refl
going_kind s old r PingSent m g = refl
going_kind s old r LostOne m g = not_both (has_ended old) g (and_parts _ _ m).0
going_kind s old r (Epoch number standing) m g = refl

pub none_before : (past : List Record) → is_none_before past ≡ true → past ≡ []
none_before [] e = refl
none_before (r ∷ old) e = absurd (cc)

-- an Epoch record is the first of its epoch
pub epoch_first : (s : UpSession) (old : List Record) (r : Record) (k : RecordKind) → may_follow_up s old r k ≡ true → is_epoch k ≡ true → old ≡ []
epoch_first s old r (Epoch number (Up init drained retired ping leased lapse)) m e = none_before old (and_parts _ _ (and_parts _ _ (and_parts _ _ m).0).0).0
epoch_first s old r (Epoch number (Down fresh drain dispatches)) m e = absurd (cc)
epoch_first s old r _ m e = absurd (cc)

pub are_going_on : (s : UpSession) (rs : List Record) → is_up_history s rs ≡ true → has_ended rs ≡ false → are_going rs ≡ true
are_going_on s [] h g = refl
are_going_on s (r ∷ old) h g =
    let a = and_parts _ _ h in
    let m = (and_parts _ _ a.0).0 in
    let before = went (ends r.kind) (is_epoch r.kind) (λ e. ap has_ended (epoch_first s old r r.kind m e)) g in
    and_from _ _ (going_kind s old r r.kind m before) (are_going_on s old a.1 before)
  where
    went : (x y : Bool) → (y ≡ true → has_ended old ≡ false) → (x || (not y && has_ended old)) ≡ false → has_ended old ≡ false
    went true y first e = absurd (cc)
    went false true first e = first refl
    went false false first e = e

-- a server's session that holds no dispatch and goes on has no open tag
pub up_emptied : (s : UpSession) (rs : List Record) → is_up_history s rs ≡ true → has_ended rs ≡ false → nat_lt (length (sendings rs)) 1 ≡ true → (t : ℕ) → name_on t rs ≡ None
up_emptied s rs h g empty t = sendings_hold t rs (are_going_on s rs h g) ∙ ap (λ ss. sending_name (sending_on t ss)) (none_held (sendings rs) empty)
  where
    none_held : (ss : List Sending) → nat_lt (length ss) 1 ≡ true → ss ≡ []
    none_held [] e = refl
    none_held (x ∷ ss) e = absurd (omega (arith, ltb-true (length (x ∷ ss)) 1 e))
