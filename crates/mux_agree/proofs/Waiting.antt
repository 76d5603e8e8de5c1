-- A dispatch waits after all records where the session's book, or the server's sendings, aren't empty.
use Rattle.std.proofs.Common.{ℕ, List, [], ◌∷◌, ◌≡◌, ◌&&◌, ◌||◌, Bool, true, false, Option, Some, None, refl, sym, ◌∙◌, ap, arith}
use Rattle.std.specs.Prelude.{if◌then◌else◌, ◌==◌, not, nat_lt, is_some, filter, length}
use Rattle.std.specs.List.{list_any}
use Rattle.std.proofs.lemmas.Bool.{eq-eqb, le-ltb}
use Rattle.mux_history.specs.declared.name.Name.{Name}
use Rattle.mux_history.specs.declared.record.Record.{Record}
use Rattle.mux_history.specs.declared.kind.RecordKind.{RecordKind}
use Rattle.mux_history.specs.declared.kind.RecordKind.TheVariants.{Offered, Settled, SettledNack, LostOne, Discarding, Epoch}
use Rattle.mux_history.specs.declared.session.SessionId.TheVariants.{Client, Server}
use Rattle.mux_history.specs.Readings.{is_epoch, note_due, answer_due, names_of, with_name, is_took, book, is_offered, Sending, sendings, sendings_after, sending_on, off_tag, recalled_on}
use Rattle.mux_history.specs.Holders.{of_named}
use Rattle.mux_history.specs.declared.session.SessionId.{SessionId}
use Rattle.mux_agree.specs.Outlines.{is_held, is_free, any_since, any_after}
use Rattle.mux_agree.proofs.Words.{note_by, answer_by, sent_by}

none_passes : {X : Type 0} (q : X → Bool) (xs : List X) → nat_lt (length (filter q xs)) 1 ≡ not (list_any q xs)
none_passes q [] = refl
none_passes q (x ∷ xs) = by_test (q x) (none_passes q xs)
  where
    by_test : (b : Bool) → nat_lt (length (filter q xs)) 1 ≡ not (list_any q xs) →
        nat_lt (length (if b then x ∷ filter q xs else filter q xs)) 1 ≡ not (b || list_any q xs)
    by_test true same = le-ltb (length (x ∷ filter q xs)) 1 (omega arith)
    by_test false same = same

-- names of a kind of record, and a test of these names
named_test : (q : Name → Bool) (rs : List Record) → list_any q (names_of is_took rs) ≡ any_since (λ r. is_took r.kind && of_named q r.name) false rs
named_test q [] = refl
named_test q (r ∷ old) = by_tests (is_epoch r.kind) (is_took r.kind) r.name (named_test q old)
  where
    swap : (a b : Bool) → (a || b) ≡ (b || a)
    swap true true = refl
    swap true false = refl
    swap false true = refl
    swap false false = refl

    nothing_more : (b : Bool) → b ≡ (b || false)
    nothing_more true = refl
    nothing_more false = refl

    by_tests : (e t : Bool) (name : Option Name) → list_any q (names_of is_took old) ≡ any_since (λ r. is_took r.kind && of_named q r.name) false old →
        list_any q (if e then [] else (if t then with_name name (names_of is_took old) else names_of is_took old))
        ≡ (not e && (any_since (λ r. is_took r.kind && of_named q r.name) false old || (t && of_named q name)))
    by_tests true t name same = refl
    by_tests false true (Some n) same = swap (q n) (list_any q (names_of is_took old)) ∙ ap (λ b. b || q n) same
    by_tests false true None same = same ∙ nothing_more _
    by_tests false false name same = same ∙ nothing_more _

pub any_same : (s t : Record → Bool) → ((r : Record) → s r ≡ t r) → (rs : List Record) → any_since s false rs ≡ any_since t false rs
any_same s t same [] = refl
any_same s t same (r ∷ old) = λ i. any_after (λ x. same x i) r (any_same s t same old i)

either_named : (p q : Name → Bool) (name : Option Name) → (of_named p name || of_named q name) ≡ of_named (λ n. p n || q n) name
either_named p q None = refl
either_named p q (Some n) = refl

client_waits : (k : ℕ) (past : List Record) → not (any_since (is_held (Client k) past) false past) ≡ nat_lt (length (book past)) 1
client_waits k past =
    let q : Name → Bool = λ n. note_due n past || answer_due n past in
    ap not (any_same (is_held (Client k) past) (λ r. is_took r.kind && of_named q r.name)
    (λ r. ap (λ b. is_took r.kind && b) ((λ i. note_by r past i || answer_by r past i) ∙ either_named (λ n. note_due n past) (λ n. answer_due n past) r.name)) past
    ∙ sym (named_test q past))
    ∙ sym (none_passes q (names_of is_took past))

-- a sending's tag passes a test: that of some offer
module _ (open_on : ℕ → Bool) where
  abbrev some_open : List Sending → Bool
  some_open ss = list_any (λ s. open_on s.tag) ss

  off_open : (t : ℕ) (ss : List Sending) → some_open (off_tag t ss) ≡ true → some_open ss ≡ true
  off_open t [] h = h
  off_open t (s ∷ ss) h = by_test (s.tag == t) (open_on s.tag) (off_open t ss) refl h
    where
      by_test : (b o : Bool) → (some_open (off_tag t ss) ≡ true → some_open ss ≡ true) → open_on s.tag ≡ o →
          some_open (if b then off_tag t ss else s ∷ off_tag t ss) ≡ true → (o || some_open ss) ≡ true
      by_test b true later e h = refl
      by_test true false later e h = later h
      by_test false false later e h = later (sym (ap (λ x. x || some_open (off_tag t ss)) e) ∙ h)

  recalled_open : (t : ℕ) (ss : List Sending) → some_open (recalled_on t ss) ≡ some_open ss
  recalled_open t [] = refl
  recalled_open t (s ∷ ss) = by_test (s.tag == t) ∙ ap (λ b. open_on s.tag || b) (recalled_open t ss)
    where
      by_test : (b : Bool) → some_open ((if b then record s { recalled = true } else s) ∷ recalled_on t ss) ≡ (open_on s.tag || some_open (recalled_on t ss))
      by_test true = refl
      by_test false = refl

  -- it is the record's, or it was one before
  open_step : (r : Record) (k : RecordKind) (ss : List Sending) (before : Bool) → (some_open ss ≡ true → before ≡ true) →
      some_open (sendings_after r k ss) ≡ true → (not (is_epoch k) && (before || (is_offered k && open_on r.tag))) ≡ true
  open_step r Offered ss before later h = by_test (open_on r.tag) before later h
    where
      by_test : (o b : Bool) → (some_open ss ≡ true → b ≡ true) → (o || some_open ss) ≡ true → (b || o) ≡ true
      by_test o true later h = refl
      by_test true false later h = refl
      by_test false false later h = later h
  open_step r (Settled kind) ss before later h = ap (λ b. b || false) (later (off_open r.tag ss h))
  open_step r SettledNack ss before later h = ap (λ b. b || false) (later (off_open r.tag ss h))
  open_step r LostOne ss before later h = ap (λ b. b || false) (later (off_open r.tag ss h))
  open_step r Discarding ss before later h = ap (λ b. b || false) (later (sym (recalled_open r.tag ss) ∙ h))
  open_step r (Epoch number standing) ss before later h = absurd (cc)
  open_step r _ ss before later h = ap (λ b. b || false) (later h)

  of_offer : (rs : List Record) → some_open (sendings rs) ≡ true → any_since (λ r. is_offered r.kind && open_on r.tag) false rs ≡ true
  of_offer [] h = h
  of_offer (r ∷ old) h = open_step r r.kind (sendings old) (any_since (λ x. is_offered x.kind && open_on x.tag) false old) (of_offer old) h

any_none : (test : Record → Bool) → ((r : Record) → test r ≡ false) → (rs : List Record) → any_since test false rs ≡ false
any_none test none [] = refl
any_none test none (r ∷ old) = by_epoch (is_epoch r.kind) (any_since test false old) (test r) (any_none test none old) (none r)
  where
    by_epoch : (e a b : Bool) → a ≡ false → b ≡ false → (not e && (a || b)) ≡ false
    by_epoch true a b x y = refl
    by_epoch false false false x y = refl
    by_epoch false true b x y = absurd (cc)
    by_epoch false false true x y = absurd (cc)

nothing_out : (b : Bool) → (b && false) ≡ false
nothing_out true = refl
nothing_out false = refl

out_on : (t : ℕ) (s : Sending) (ss : List Sending) → s.tag ≡ t → is_some (sending_on t (s ∷ ss)) ≡ true
out_on t s ss e = by_test (s.tag == t) (eq-eqb s.tag t e)
  where
    by_test : (b : Bool) → b ≡ true → is_some (if b then Some s else sending_on t ss) ≡ true
    by_test true e = refl
    by_test false e = absurd (cc)

waiting : (past : List Record) (ss : List Sending) → sendings past ≡ ss →
    not (any_since (λ r. is_offered r.kind && is_some (sending_on r.tag ss)) false past) ≡ nat_lt (length ss) 1
waiting past [] e = ap not (any_none (λ r. is_offered r.kind && false) (λ r. nothing_out (is_offered r.kind)) past)
waiting past (s ∷ ss) e =
    ap not (of_offer (λ t. is_some (sending_on t (s ∷ ss))) past
    (ap (list_any (λ x. is_some (sending_on x.tag (s ∷ ss)))) e ∙ ap (λ b. b || list_any (λ x. is_some (sending_on x.tag (s ∷ ss))) ss) (out_on s.tag s ss refl)))
    ∙ sym (le-ltb (length (s ∷ ss)) 1 (omega arith))

server_waits : (k : ℕ) (past : List Record) → not (any_since (is_held (Server k) past) false past) ≡ nat_lt (length (sendings past)) 1
server_waits k past =
    ap not (any_same (is_held (Server k) past) (λ r. is_offered r.kind && is_some (sending_on r.tag (sendings past)))
    (λ r. ap (λ b. is_offered r.kind && b) (sent_by r past)) past)
    ∙ waiting past (sendings past) refl

pub free_by : (id : SessionId) (past : List Record) → not (any_since (is_held id past) false past) ≡ is_free id past
free_by (Client k) past = client_waits k past
free_by (Server k) past = server_waits k past
