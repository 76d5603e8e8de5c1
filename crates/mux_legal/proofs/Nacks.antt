-- Each reply that nacks a name has a place of its own that carries it: so no name is nacked more often than it is carried.
use Rattle.std.proofs.Common.{length, ℕ, List, [], ◌∷◌, ◌+◌, ◌≡◌, ◌≤◌, ◌&&◌, Bool, true, false, Option, Some, None, refl, sym, ◌∙◌, ap, arith}
use Rattle.std.specs.Prelude.{if◌then◌else◌, ◌==◌}
use Rattle.std.proofs.lemmas.Bool.{and_parts}
use Rattle.mux_frame.specs.Spelling.{MuxFrame}
use Rattle.mux_message.specs.Kinds.{kind_of, is_dispatch, is_final}
use Rattle.mux_message.specs.declared.kind.MessageKind.{MessageKind}
use Rattle.mux_message.specs.declared.kind.MessageKind.TheVariants.{Rdispatch}
use Rattle.mux_history.specs.declared.name.Name.{Name}
use Rattle.mux_history.specs.declared.session.SessionId.{SessionId}
use Rattle.mux_history.specs.declared.session.SessionId.TheVariants.{Client, Server}
use Rattle.mux_history.specs.Readings.{is_named, Sending, sending_on, off_tag}
use Rattle.mux_history.proofs.Sendings.{sending_name, off_on}
use Rattle.mux_model.specs.Entries.{Exchange}
use Rattle.mux_model.specs.Tags.{Holder, holder, asked, answered, name_held, name_in}
use Rattle.mux_model.specs.Steps.{entries, is_rdispatch, is_nack}
use Rattle.mux_model.specs.Legal.{Line, sends_dispatch, times_in, times, times_on, times_carried, nack_in, nacks, nacks_on, times_nacked}
use Rattle.mux_legal.proofs.Basics.{one_if}

-- a nack is a final reply
rdispatch_final : (k : MessageKind) → is_rdispatch k ≡ true → is_final k ≡ true
rdispatch_final Rdispatch e = refl
rdispatch_final _ e = absurd (cc)

pub nack_final : (f : MuxFrame) → is_nack f ≡ true → is_final (kind_of f.kind) ≡ true
nack_final f e = rdispatch_final (kind_of f.kind) (and_parts _ _ e).0

-- the dispatches that a server's list carries on tags that are open
abbrev freed_by : Option MuxFrame → List Sending → List Sending
freed_by None ss = ss
freed_by (Some f) ss = if is_final (kind_of f.kind) then off_tag f.tag ss else ss

abbrev sent_by : Option Name → Option MuxFrame → List Sending → List Sending
sent_by n None ss = ss
sent_by n (Some f) ss = if is_dispatch (kind_of f.kind) then record { name = n; tag = f.tag; recalled = false } ∷ ss else ss

abbrev carrying : List Exchange → List Sending
carrying [] = []
carrying (e ∷ old) = sent_by (name_in e.rec) e.sent (freed_by e.taken (carrying old))

-- they tell who holds a tag
freed_held : (t : ℕ) (taken : Option MuxFrame) (o : Option Holder) (ss : List Sending) → name_held o ≡ sending_name (sending_on t ss) →
    name_held (answered t taken o) ≡ sending_name (sending_on t (freed_by taken ss))
freed_held t None o ss e = e
freed_held t (Some f) o ss e = by_test (is_final (kind_of f.kind)) (f.tag == t) (off_on t f.tag ss)
  where
    by_test : (a b : Bool) → sending_on t (off_tag f.tag ss) ≡ (if b then None else sending_on t ss) →
        name_held (if a && b then None else o) ≡ sending_name (sending_on t (if a then off_tag f.tag ss else ss))
    by_test true true off = sym (ap sending_name off)
    by_test true false off = e ∙ sym (ap sending_name off)
    by_test false b off = e

sent_held : (t : ℕ) (who : Holder) (sent : Option MuxFrame) (o : Option Holder) (ss : List Sending) → name_held o ≡ sending_name (sending_on t ss) →
    name_held (asked t who sent o) ≡ sending_name (sending_on t (sent_by who.name sent ss))
sent_held t who None o ss e = e
sent_held t who (Some f) o ss e = by_test (is_dispatch (kind_of f.kind)) (f.tag == t)
  where
    at_tag : (b : Bool) → name_held (if b then Some who else o) ≡ sending_name (if b then Some (record { name = who.name; tag = f.tag; recalled = false }) else sending_on t ss)
    at_tag true = refl
    at_tag false = e

    by_test : (a b : Bool) → name_held (if a && (f.tag == t) then Some who else o) ≡ sending_name (sending_on t (if a then record { name = who.name; tag = f.tag; recalled = false } ∷ ss else ss))
    by_test true b = at_tag (f.tag == t)
    by_test false b = e

carrying_held : (k t : ℕ) (es : List Exchange) → name_held (holder (Server k) t es) ≡ sending_name (sending_on t (carrying es))
carrying_held k t [] = refl
carrying_held k t (e ∷ old) =
    sent_held t (record { place = length old; name = name_in e.rec }) e.sent (answered t e.taken (holder (Server k) t old)) (freed_by e.taken (carrying old))
    (freed_held t e.taken (holder (Server k) t old) (carrying old) (carrying_held k t old))

-- how many of them are under a name
abbrev under : Name → List Sending → ℕ
under n [] = 0
under n (s ∷ ss) = one_if (is_named n s.name) + under n ss

off_under : (n : Name) (t : ℕ) (ss : List Sending) → one_if (is_named n (sending_name (sending_on t ss))) + under n (off_tag t ss) ≤ under n ss
off_under n t [] = omega arith
off_under n t (s ∷ ss) = by_test (s.tag == t) (off_under n t ss)
  where
    by_test : (b : Bool) → one_if (is_named n (sending_name (sending_on t ss))) + under n (off_tag t ss) ≤ under n ss →
        one_if (is_named n (sending_name (if b then Some s else sending_on t ss))) + under n (if b then off_tag t ss else s ∷ off_tag t ss) ≤ one_if (is_named n s.name) + under n ss
    by_test true h = omega (arith, h)
    by_test false h = omega (arith, h)

freed_under : (n : Name) (held : ℕ → Option Holder) (taken : Option MuxFrame) (ss : List Sending) → ((t : ℕ) → name_held (held t) ≡ sending_name (sending_on t ss)) →
    nack_in n held taken + under n (freed_by taken ss) ≤ under n ss
freed_under n held None ss same = omega arith
freed_under n held (Some f) ss same = by_test (is_nack f) (is_final (kind_of f.kind)) (nack_final f)
  where
    off : one_if (is_named n (name_held (held f.tag))) + under n (off_tag f.tag ss) ≤ under n ss
    off = omega (arith, off_under n f.tag ss, ap (λ (o : Option Name). one_if (is_named n o)) (same f.tag))

    by_test : (a b : Bool) → (a ≡ true → b ≡ true) → one_if (a && is_named n (name_held (held f.tag))) + under n (if b then off_tag f.tag ss else ss) ≤ under n ss
    by_test true true h = off
    by_test true false h = absurd (let x : false ≡ true = h refl in cc)
    by_test false true h = omega (arith, off)
    by_test false false h = omega arith

sent_under : (n : Name) (e : Exchange) (ss : List Sending) → under n (sent_by (name_in e.rec) e.sent ss) ≡ times_in n e + under n ss
sent_under n e ss = by_sent e.sent
  where
    by_test : (f : MuxFrame) (b : Bool) → under n (if b then record { name = name_in e.rec; tag = f.tag; recalled = false } ∷ ss else ss) ≡ one_if (b && is_named n (name_in e.rec)) + under n ss
    by_test f true = refl
    by_test f false = omega arith

    by_sent : (sent : Option MuxFrame) → under n (sent_by (name_in e.rec) sent ss) ≡ one_if (sends_dispatch sent && is_named n (name_in e.rec)) + under n ss
    by_sent None = omega arith
    by_sent (Some f) = by_test f (is_dispatch (kind_of f.kind))

nacks_under : (k : ℕ) (n : Name) (es : List Exchange) → nacks (Server k) n es + under n (carrying es) ≤ times n es
nacks_under k n [] = omega arith
nacks_under k n (e ∷ old) =
    omega (
      arith,
      nacks_under k n old,
      sent_under n e (freed_by e.taken (carrying old)),
      freed_under n (λ t. holder (Server k) t old) e.taken (carrying old) (λ t. carrying_held k t old),
    )

nacks_below : (id : SessionId) (n : Name) (es : List Exchange) → nacks_on id n es ≤ times_on id n es
nacks_below (Client k) n es = omega arith
nacks_below (Server k) n es = omega (arith, nacks_under k n es)

pub nacked_carried : (n : Name) (ls : List Line) → times_nacked n ls ≤ times_carried n ls
nacked_carried n [] = omega arith
nacked_carried n (l ∷ ls) = omega (arith, nacks_below l.session n (entries l.steps), nacked_carried n ls)
