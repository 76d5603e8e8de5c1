-- In a server's session each dispatch that is sent has a name; and until a loss is told, who holds a tag is the one sent on it.
use Rattle.std.proofs.Common.{length, ℕ, List, [], ◌∷◌, ◌≡◌, ◌&&◌, ◌||◌, Bool, true, false, not, Some, None, refl, sym, ◌∙◌, arith}
use Rattle.std.specs.Prelude.{◌==◌, nat_lt}
use Rattle.std.specs.List.{AllByRecursion}
use Rattle.std.proofs.lemmas.Bool.{and_from, ltb-false}
use Rattle.mux_history.specs.declared.name.Name.{Name}
use Rattle.mux_history.specs.declared.record.Record.{Record}
use Rattle.mux_history.specs.declared.kind.RecordKind.{RecordKind}
use Rattle.mux_history.specs.declared.kind.RecordKind.TheVariants.{Offered, Settled, SettledNack, LostOne, Discarding, Epoch}
use Rattle.mux_history.specs.Readings.{ends, has_ended, is_epoch, is_offered, Sending, sendings, sendings_after, sending_on, off_tag, recalled_on, least}
use Rattle.mux_history.specs.Holders.{name_on}
use Rattle.mux_history.proofs.Sendings.{sending_name, is_going_kind, are_going, sendings_hold}
use Rattle.mux_legal.proofs.Basics.{if_both, least_passes}

abbrev pub IsSent : Sending → Type 0
IsSent e = (n : Name) × (e.name ≡ Some n)

abbrev pub AreSent : List Sending → Type 0
AreSent ss = AllByRecursion IsSent ss

pub off_sent : (t : ℕ) (ss : List Sending) → AreSent ss → AreSent (off_tag t ss)
off_sent t [] a = tt
off_sent t (s ∷ ss) a = if_both AreSent (s.tag == t) (off_tag t ss) (s ∷ off_tag t ss) (λ _. off_sent t ss a.1) (λ _. (a.0, off_sent t ss a.1))

recalled_sent : (t : ℕ) (ss : List Sending) → AreSent ss → AreSent (recalled_on t ss)
recalled_sent t [] a = tt
recalled_sent t (s ∷ ss) a = (if_both IsSent (s.tag == t) (record s { recalled = true }) s (λ _. a.0) (λ _. a.0), recalled_sent t ss a.1)

pub sent_after : (r : Record) (k : RecordKind) (ss : List Sending) → (is_offered k ≡ true → (n : Name) × (r.name ≡ Some n)) → AreSent ss → AreSent (sendings_after r k ss)
sent_after r Offered ss named a = (named refl, a)
sent_after r (Settled kind) ss named a = off_sent r.tag ss a
sent_after r SettledNack ss named a = off_sent r.tag ss a
sent_after r LostOne ss named a = off_sent r.tag ss a
sent_after r Discarding ss named a = recalled_sent r.tag ss a
sent_after r (Epoch number standing) ss named a = tt
sent_after r _ ss named a = a

pub least_sent : (ss : List Sending) (e : Sending) → AreSent ss → least ss ≡ Some e → IsSent e
least_sent ss e a h = least_passes IsSent ss e a h

-- a loss is told only once the session has ended
abbrev pub AreGoing : List Record → Type 0
AreGoing rs = has_ended rs ≡ false → are_going rs ≡ true

gone_on : (a b c : Bool) → (a || (not b && c)) ≡ false → b ≡ false → c ≡ false
gone_on true b c h e = absurd (cc)
gone_on false true c h e = absurd (cc)
gone_on false false c h e = h

pub going_still : (rs : List Record) (r : Record) → is_epoch r.kind ≡ false → is_going_kind r.kind ≡ true → AreGoing rs → AreGoing (r ∷ rs)
going_still rs r e g old h = and_from _ _ g (old (gone_on (ends r.kind) (is_epoch r.kind) (has_ended rs) h e))

pub going_lost : (rs : List Record) (r : Record) → is_epoch r.kind ≡ false → has_ended rs ≡ true → AreGoing (r ∷ rs)
going_lost rs r e over h = absurd (let x : false ≡ true = sym (gone_on (ends r.kind) (is_epoch r.kind) (has_ended rs) h e) ∙ over in cc)

pub going_sealed : (rs : List Record) (r : Record) → has_ended rs ≡ false → is_going_kind r.kind ≡ true → AreGoing rs → AreGoing (r ∷ rs)
going_sealed rs r going g old h = and_from _ _ g (old going)

-- where none is sent, no tag is held
pub none_sent : (rs : List Record) → AreGoing rs → has_ended rs ≡ false → nat_lt 0 (length (sendings rs)) ≡ false → (t : ℕ) → name_on t rs ≡ None
none_sent rs old going empty t = sendings_hold t rs (old going) ∙ by_list (sendings rs) empty
  where
    by_list : (ss : List Sending) → nat_lt 0 (length ss) ≡ false → sending_name (sending_on t ss) ≡ None
    by_list [] h = refl
    by_list (s ∷ ss) h = absurd (omega (arith, ltb-false 0 (length (s ∷ ss)) h))
