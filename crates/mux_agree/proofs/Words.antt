-- An outline has the words that are read from the records.
use Rattle.std.proofs.Common.{ℕ, List, [], ◌∷◌, ◌+◌, ◌^◌, ◌≡◌, ◌&&◌, ◌||◌, Bool, true, false, Option, Some, None, refl, sym, ◌∙◌, ap, arith}
use Rattle.std.specs.Prelude.{if◌then◌else◌, ◌==◌, not, nat_lt, is_some}
use Rattle.std.proofs.lemmas.Bool.{ltb-false}
use Rattle.mux_history.specs.declared.name.Name.{Name}
use Rattle.mux_history.specs.declared.record.Record.{Record}
use Rattle.mux_history.specs.declared.kind.RecordKind.{RecordKind}
use Rattle.mux_history.specs.declared.kind.RecordKind.TheVariants.{Offered, Settled, SettledNack, LostOne, Discarding, Epoch}
use Rattle.mux_history.specs.declared.kind.Standing.TheVariants.{Down}
use Rattle.mux_history.specs.declared.session.InitMode.{InitMode}
use Rattle.mux_history.specs.declared.session.InitMode.TheVariants.{Probe, Plain}
use Rattle.mux_history.specs.declared.session.InitState.TheVariants as inits
use Rattle.mux_history.specs.declared.session.DrainState.TheVariants as drains
use Rattle.mux_history.specs.Readings.{is_epoch, since, note_kind, answer_kind, Sending, sendings, sendings_after, sending_on, recalled_on, stands, has_ended, ends, count_kind, dispatches, counted, gives_name, epoch_of, epoch_after, reading, is_init_done, is_init_asked, is_drain_asked, is_drain_acked, is_drained_kind, is_retiring, is_ping_sent, is_ping_done}
use Rattle.mux_history.specs.Holders.{of_named, name_on, held_after}
use Rattle.mux_history.specs.Lapse.{lease_of, lease_after}
use Rattle.mux_history.specs.Standings.{down_standing, up_standing, up_with}
use Rattle.mux_history.proofs.Sendings.{off_on}
use Rattle.mux_agree.specs.Outlines.{outline_of, due_after, sent_after, stands_after, count_after, taken_after, more_within, IsCount, down_by, up_by}

pub held_by : (about : Record) (rs : List Record) → (outline_of about rs).held ≡ name_on about.tag rs
held_by about [] = refl
held_by about (r ∷ old) = ap (held_after about.tag r r.kind) (held_by about old)

-- a test of the name's records
due_no_name : (step : RecordKind → Bool → Bool) (r : Record) → due_after step None r false ≡ false
due_no_name step r = by_epoch (is_epoch r.kind)
  where
    by_epoch : (b : Bool) → (if b then false else (if false then step r.kind false else false)) ≡ false
    by_epoch true = refl
    by_epoch false = refl

module _ (about : Record) where
  note_with : (name : Option Name) (rs : List Record) → about.name ≡ name → (outline_of about rs).note_due ≡ of_named (λ n. since note_kind n rs) name
  note_with None [] e = refl
  note_with (Some n) [] e = refl
  note_with None (r ∷ old) e =
      ap (λ o. due_after note_kind o r (outline_of about old).note_due) e ∙ (ap (due_after note_kind None r) (note_with None old e) ∙ due_no_name note_kind r)
  note_with (Some n) (r ∷ old) e =
      ap (λ o. due_after note_kind o r (outline_of about old).note_due) e ∙ ap (due_after note_kind (Some n) r) (note_with (Some n) old e)

  answer_with : (name : Option Name) (rs : List Record) → about.name ≡ name → (outline_of about rs).answer_due ≡ of_named (λ n. since answer_kind n rs) name
  answer_with None [] e = refl
  answer_with (Some n) [] e = refl
  answer_with None (r ∷ old) e =
      ap (λ o. due_after answer_kind o r (outline_of about old).answer_due) e ∙ (ap (due_after answer_kind None r) (answer_with None old e) ∙ due_no_name answer_kind r)
  answer_with (Some n) (r ∷ old) e =
      ap (λ o. due_after answer_kind o r (outline_of about old).answer_due) e ∙ ap (due_after answer_kind (Some n) r) (answer_with (Some n) old e)

pub note_by : (about : Record) (rs : List Record) → (outline_of about rs).note_due ≡ of_named (λ n. since note_kind n rs) about.name
note_by about rs = note_with about about.name rs refl

pub answer_by : (about : Record) (rs : List Record) → (outline_of about rs).answer_due ≡ of_named (λ n. since answer_kind n rs) about.name
answer_by about rs = answer_with about about.name rs refl

-- a tag on which a dispatch was sent
abbrev is_sent : ℕ → List Sending → Bool
is_sent t ss = is_some (sending_on t ss)

module _ (t : ℕ) (r : Record) (ss : List Sending) where
  pushed : (b : Bool) → (b || is_sent t ss) ≡ is_some (if b then Some (record { name = r.name; tag = r.tag; recalled = false }) else sending_on t ss)
  pushed true = refl
  pushed false = refl

  freed : (b : Bool) → (not b && is_sent t ss) ≡ is_some (if b then None else sending_on t ss)
  freed true = refl
  freed false = refl

  recalled_same : (u : ℕ) (xs : List Sending) → is_sent t xs ≡ is_sent t (recalled_on u xs)
  recalled_same u [] = refl
  recalled_same u (s ∷ xs) = by_tests (s.tag == u) (s.tag == t) (recalled_same u xs)
    where
      at_tag : (c : Bool) → is_sent t xs ≡ is_sent t (recalled_on u xs) →
          is_some (if c then Some s else sending_on t xs) ≡ is_some (if c then Some (record s { recalled = true }) else sending_on t (recalled_on u xs))
      at_tag true same = refl
      at_tag false same = same

      at_own : (c : Bool) → is_sent t xs ≡ is_sent t (recalled_on u xs) →
          is_some (if c then Some s else sending_on t xs) ≡ is_some (if c then Some s else sending_on t (recalled_on u xs))
      at_own true same = refl
      at_own false same = same

      by_tests : (a c : Bool) → is_sent t xs ≡ is_sent t (recalled_on u xs) →
          is_some (if s.tag == t then Some s else sending_on t xs) ≡ is_sent t ((if a then record s { recalled = true } else s) ∷ recalled_on u xs)
      by_tests true c same = at_tag (s.tag == t) same
      by_tests false c same = at_own (s.tag == t) same

  sent_step : (k : RecordKind) → sent_after t r k (is_sent t ss) ≡ is_sent t (sendings_after r k ss)
  sent_step Offered = pushed (r.tag == t)
  sent_step (Settled kind) = freed (r.tag == t) ∙ sym (ap is_some (off_on t r.tag ss))
  sent_step SettledNack = freed (r.tag == t) ∙ sym (ap is_some (off_on t r.tag ss))
  sent_step LostOne = freed (r.tag == t) ∙ sym (ap is_some (off_on t r.tag ss))
  sent_step Discarding = recalled_same r.tag ss
  sent_step (Epoch number standing) = refl
  sent_step _ = refl

pub sent_by : (about : Record) (rs : List Record) → (outline_of about rs).sent ≡ is_some (sending_on about.tag (sendings rs))
sent_by about [] = refl
sent_by about (r ∷ old) = ap (sent_after about.tag r r.kind) (sent_by about old) ∙ sent_step about.tag r (sendings old) r.kind

pub number_by : (about : Record) (rs : List Record) → (outline_of about rs).number ≡ epoch_of rs
number_by about [] = refl
number_by about (r ∷ old) = ap (epoch_after r.kind) (number_by about old)

pub ended_by : (about : Record) (rs : List Record) → (outline_of about rs).has_ended ≡ has_ended rs
ended_by about [] = refl
ended_by about (r ∷ old) = ap (stands_after ends r.kind) (ended_by about old)

pub reading_by : (about : Record) (rs : List Record) → (outline_of about rs).reading ≡ reading rs
reading_by about [] = refl
reading_by about (r ∷ old) = refl

-- the count of dispatches
more_count : (o : Option ℕ) (n : ℕ) → IsCount o n → IsCount (more_within o) (n + 1)
more_count None n c = omega (arith, c)
more_count (Some taken) n c = by_range (nat_lt (taken + 1) (2 ^ 64)) refl
  where
    by_range : (b : Bool) → nat_lt (taken + 1) (2 ^ 64) ≡ b → IsCount (if b then Some (taken + 1) else None) (n + 1)
    by_range true e = ap (λ x. x + 1) c
    by_range false e = omega (arith, c, ltb-false (taken + 1) (2 ^ 64) e)

count_if : (b : Bool) (o : Option ℕ) (n : ℕ) → IsCount o n → IsCount (if b then more_within o else o) (if b then n + 1 else n)
count_if true o n c = more_count o n c
count_if false o n c = c

count_step : (k : RecordKind) (o : Option ℕ) (n : ℕ) → IsCount o n → IsCount (taken_after k o) (counted k n)
count_step (Epoch number standing) o n c = refl
count_step k o n c = count_if (gives_name k) o n c

pub taken_by : (about : Record) (rs : List Record) → IsCount (outline_of about rs).dispatches (dispatches rs)
taken_by about [] = refl
taken_by about (r ∷ old) = count_step r.kind (outline_of about old).dispatches (dispatches old) (taken_by about old)

pub done_by : (about : Record) (rs : List Record) → (outline_of about rs).init_done ≡ stands is_init_done rs
done_by about [] = refl
done_by about (r ∷ old) = ap (stands_after is_init_done r.kind) (done_by about old)

asked_by : (about : Record) (rs : List Record) → (outline_of about rs).init_asked ≡ stands is_init_asked rs
asked_by about [] = refl
asked_by about (r ∷ old) = ap (stands_after is_init_asked r.kind) (asked_by about old)

drain_asked_by : (about : Record) (rs : List Record) → (outline_of about rs).drain_asked ≡ stands is_drain_asked rs
drain_asked_by about [] = refl
drain_asked_by about (r ∷ old) = ap (stands_after is_drain_asked r.kind) (drain_asked_by about old)

drain_acked_by : (about : Record) (rs : List Record) → (outline_of about rs).drain_acked ≡ stands is_drain_acked rs
drain_acked_by about [] = refl
drain_acked_by about (r ∷ old) = ap (stands_after is_drain_acked r.kind) (drain_acked_by about old)

pub drained_by : (about : Record) (rs : List Record) → (outline_of about rs).drained ≡ stands is_drained_kind rs
drained_by about [] = refl
drained_by about (r ∷ old) = ap (stands_after is_drained_kind r.kind) (drained_by about old)

retired_by : (about : Record) (rs : List Record) → (outline_of about rs).retired ≡ stands is_retiring rs
retired_by about [] = refl
retired_by about (r ∷ old) = ap (stands_after is_retiring r.kind) (retired_by about old)

sent_pings_by : (about : Record) (rs : List Record) → (outline_of about rs).pings_sent ≡ count_kind is_ping_sent rs
sent_pings_by about [] = refl
sent_pings_by about (r ∷ old) = ap (count_after is_ping_sent r.kind) (sent_pings_by about old)

done_pings_by : (about : Record) (rs : List Record) → (outline_of about rs).pings_done ≡ count_kind is_ping_done rs
done_pings_by about [] = refl
done_pings_by about (r ∷ old) = ap (count_after is_ping_done r.kind) (done_pings_by about old)

pub lease_by : (about : Record) (rs : List Record) → (outline_of about rs).lease ≡ lease_of rs
lease_by about [] = refl
lease_by about (r ∷ old) = ap (lease_after r r.kind) (lease_by about old)

pub down_words : (about : Record) (rs : List Record) → down_by (dispatches rs) (outline_of about rs) ≡ down_standing rs
down_words about rs =
    λ i.
    Down (if done_by about rs i then false else dispatches rs == 0)
    (if drain_acked_by about rs i then drains.Acked else (if drain_asked_by about rs i then drains.Asked else drains.Running)) (dispatches rs)

pub up_words : (mode : InitMode) (about : Record) (rs : List Record) → up_by mode (outline_of about rs) ≡ up_standing mode rs
up_words Plain about rs =
    λ i. up_with inits.Open (drained_by about rs i) (retired_by about rs i) (nat_lt (done_pings_by about rs i) (sent_pings_by about rs i)) (lease_by about rs i)
up_words Probe about rs =
    λ i.
    up_with (if done_by about rs i then inits.Open else (if asked_by about rs i then inits.Asked else inits.Probing)) (drained_by about rs i)
    (retired_by about rs i) (nat_lt (done_pings_by about rs i) (sent_pings_by about rs i)) (lease_by about rs i)
