-- What a step leaves open.
use Rattle.std.proofs.Common.{◌≡◌, ℕ, Bool, true, false, cond, List, [], ◌∷◌, Option, None, Some, refl, sym, ◌∙◌, ap}
use Rattle.std.specs.Prelude.{map, max, not, ◌==◌, ◌&&◌}
use Rattle.std.proofs.lemmas.Bool.{eqb-true, eq-eqb, and_parts}
use Rattle.mux_frame.specs.Spelling.{MuxFrame}
use Rattle.mux_history.specs.declared.name.Name.{Name}
use Rattle.mux_history.specs.declared.record.Record.{Record}
use Rattle.mux_history.specs.declared.kind.RecordKind.{RecordKind}
use Rattle.mux_history.specs.declared.kind.RecordKind.TheVariants as kinds
use Rattle.mux_history.specs.Readings.{reading, same_name, is_named, is_offered, Sending, sendings, sendings_after, sending_on, off_tag, recalled_on}
use Rattle.mux_model.specs.Entries.{Exchange}
use Rattle.mux_model.specs.Steps.{Call, Step, records, entry_of, is_nack}
use Rattle.mux_model.specs.Up.{copy_on, copy_of, is_recallable, settled_kind}
use Rattle.client_session.specs.Past.{Dispatch, dispatch_of, open_of, dispatch_on, since_on}
use Rattle.client_session.specs.Decide.{can_recall}
use Rattle.client_session.proofs.Open.{others, recalled_if, eq_true, eq_false, on_head, off_head}
use Rattle.std.proofs.Common.{inl, inr}

-- NAMES

both_ways : (a b : Bool) → (a ≡ true → b ≡ true) → (b ≡ true → a ≡ true) → a ≡ b
both_ways true b there back = sym (there refl)
both_ways false true there back = back refl
both_ways false false there back = refl

pub flip : (a b : ℕ) → (a == b) ≡ (b == a)
flip a b = both_ways (a == b) (b == a) (λ h. eq-eqb b a (sym (eqb-true a b h))) (λ h. eq-eqb a b (sym (eqb-true b a h)))

same_names : (m n : Name) → same_name m n ≡ true → m ≡ n
same_names m n h =
    let p = and_parts _ _ h in
    let q = and_parts _ _ p.0 in
    λ i. record { boot = eqb-true m.boot n.boot q.0 i; client = eqb-true m.client n.client q.1 i; seq = eqb-true m.seq n.seq p.1 i }

pub named : (n : Name) (o : Option Name) → is_named n o ≡ true → o ≡ Some n
named n None h = absurd (cc)
named n (Some m) h = ap Some (same_names m n h)

-- THE DISPATCHES OF A LIST

-- the list after one more step
abbrev pub onto : Call → Exchange → List Step → List Step
onto call entry steps = record { call = call; entry = entry } ∷ steps

-- where the copies stay, so do the dispatches
copies_same : (st : Step) (steps : List Step) → ((t : ℕ) → copy_on t (st ∷ steps) ≡ copy_on t steps) → ((t : ℕ) → since_on t (st ∷ steps) ≡ since_on t steps)
    → (ss : List Sending) → map (dispatch_of (st ∷ steps)) ss ≡ map (dispatch_of steps) ss
copies_same st steps same began [] = refl
copies_same st steps same began (e ∷ ss) =
    λ i. (e.tag, record { name = e.name; since = began e.tag i; again = same e.tag i; recalled = e.recalled }) ∷ copies_same st steps same began ss i

-- a step that offers nothing changes the dispatches as it changes the entries
pub open_after : (call : Call) (steps : List Step) (now tag : ℕ) (kind : RecordKind) (name : Option Name) (taken sent : Option MuxFrame)
    → is_offered kind ≡ false → (ss : List Sending) → sendings (records (onto call (entry_of (records steps) now kind tag name taken sent) steps)) ≡ ss
    → open_of (onto call (entry_of (records steps) now kind tag name taken sent) steps) ≡ map (dispatch_of steps) ss
open_after call steps now tag kind name taken sent none ss is =
    copies_same (record { call = call; entry = entry_of (records steps) now kind tag name taken sent }) steps
    (λ t. ap (λ (b : Bool). cond (b && tag == t) (copy_of call) (copy_on t steps)) none)
    (λ t. ap (λ (b : Bool). cond (b && tag == t) (max (reading (records steps)) now) (since_on t steps)) none)
    (sendings (records (onto call (entry_of (records steps) now kind tag name taken sent) steps)))
    ∙ ap (map (dispatch_of steps)) is

off_others : (steps : List Step) (t : ℕ) (ss : List Sending) → map (dispatch_of steps) (off_tag t ss) ≡ others t (map (dispatch_of steps) ss)
off_others steps t [] = refl
off_others steps t (e ∷ ss) = by (e.tag == t) (off_others steps t ss)
  where
    by : (b : Bool) → map (dispatch_of steps) (off_tag t ss) ≡ others t (map (dispatch_of steps) ss)
        → map (dispatch_of steps) (cond b (off_tag t ss) (e ∷ off_tag t ss))
        ≡ cond (not b) (dispatch_of steps e ∷ others t (map (dispatch_of steps) ss)) (others t (map (dispatch_of steps) ss))
    by true rest = rest
    by false rest = ap (λ (hs : List (ℕ × Dispatch)). dispatch_of steps e ∷ hs) rest

recalled_marked : (steps : List Step) (t : ℕ) (ss : List Sending) → map (dispatch_of steps) (recalled_on t ss) ≡ map (recalled_if t) (map (dispatch_of steps) ss)
recalled_marked steps t [] = refl
recalled_marked steps t (e ∷ ss) = λ i. by (e.tag == t) i ∷ recalled_marked steps t ss i
  where
    by : (b : Bool) → dispatch_of steps (cond b (record e { recalled = true }) e)
        ≡ cond b (e.tag, record { name = e.name; since = since_on e.tag steps; again = copy_on e.tag steps; recalled = true }) (dispatch_of steps e)
    by true = refl
    by false = refl

-- a dispatch on a free tag is one more
offered_others : (call : Call) (steps : List Step) (now t : ℕ) (name : Option Name) (sent : Option MuxFrame) (ss : List Sending)
    → dispatch_on t (map (dispatch_of steps) ss) ≡ None
    → map (dispatch_of (onto call (entry_of (records steps) now kinds.Offered t name None sent) steps)) ss ≡ map (dispatch_of steps) ss
offered_others call steps now t name sent [] none = refl
offered_others call steps now t name sent (e ∷ ss) none =
    let off = off_head t e.tag (dispatch_of steps e).1 (dispatch_on t (map (dispatch_of steps) ss)) none in
    let copy : copy_on e.tag (onto call (entry_of (records steps) now kinds.Offered t name None sent) steps) ≡ copy_on e.tag steps =
    ap (λ (b : Bool). cond b (copy_of call) (copy_on e.tag steps)) (eq_false t e.tag off.0) in
    let since : since_on e.tag (onto call (entry_of (records steps) now kinds.Offered t name None sent) steps) ≡ since_on e.tag steps =
    ap (λ (b : Bool). cond b (max (reading (records steps)) now) (since_on e.tag steps)) (eq_false t e.tag off.0) in
    λ i. (e.tag, record { name = e.name; since = since i; again = copy i; recalled = e.recalled }) ∷ offered_others call steps now t name sent ss off.1 i

pub open_offered : (call : Call) (steps : List Step) (now t : ℕ) (name : Option Name) (sent : Option MuxFrame) → dispatch_on t (open_of steps) ≡ None
    → open_of (onto call (entry_of (records steps) now kinds.Offered t name None sent) steps)
    ≡ (t, record { name = name; since = max (reading (records steps)) now; again = copy_of call; recalled = false }) ∷ open_of steps
open_offered call steps now t name sent none =
    let copy : copy_on t (onto call (entry_of (records steps) now kinds.Offered t name None sent) steps) ≡ copy_of call =
    ap (λ (b : Bool). cond b (copy_of call) (copy_on t steps)) (eq_true t t refl) in
    let since : since_on t (onto call (entry_of (records steps) now kinds.Offered t name None sent) steps) ≡ max (reading (records steps)) now =
    ap (λ (b : Bool). cond b (max (reading (records steps)) now) (since_on t steps)) (eq_true t t refl) in
    λ i. (t, record { name = name; since = since i; again = copy i; recalled = false }) ∷ offered_others call steps now t name sent (sendings (records steps)) none i

-- a final reply ends the dispatch on its tag, and so does the loss that is told of it
pub open_freed : (call : Call) (steps : List Step) (now tag : ℕ) (kind : RecordKind) (name : Option Name) (taken sent : Option MuxFrame)
    → is_offered kind ≡ false → ((r : Record) (ss : List Sending) → sendings_after r kind ss ≡ off_tag r.tag ss)
    → open_of (onto call (entry_of (records steps) now kind tag name taken sent) steps) ≡ others tag (open_of steps)
open_freed call steps now tag kind name taken sent none off =
    open_after call steps now tag kind name taken sent none (off_tag tag (sendings (records steps))) (off (record { kind = kind; tag = tag; name = name; reading = max (reading (records steps)) now }) _)
    ∙ off_others steps tag (sendings (records steps))

-- a Tdiscarded marks the dispatch on its tag
pub open_discarding : (call : Call) (steps : List Step) (now t : ℕ) (name : Option Name) (sent : Option MuxFrame)
    → open_of (onto call (entry_of (records steps) now kinds.Discarding t name None sent) steps) ≡ map (recalled_if t) (open_of steps)
open_discarding call steps now t name sent =
    open_after call steps now t kinds.Discarding name None sent refl (recalled_on t (sendings (records steps))) refl
    ∙ recalled_marked steps t (sendings (records steps))

-- what is known of the record of a final reply, whether it is a nack or not
pub settling : (P : RecordKind → Type 0) → P kinds.SettledNack → ((type : _) → P (kinds.Settled type)) → (f : MuxFrame) → P (settled_kind f)
settling P nack other f = by (is_nack f)
  where
    by : (b : Bool) → P (cond b kinds.SettledNack (kinds.Settled f.kind))
    by true = nack
    by false = other f.kind

-- WHAT A DISPATCH OF THE LIST SAYS

-- the dispatch on a tag keeps the reading and the copy of the last offer there
pub since_there : (steps : List Step) (ss : List Sending) (t : ℕ) (d : Dispatch) → dispatch_on t (map (dispatch_of steps) ss) ≡ Some d → d.since ≡ since_on t steps
since_there steps [] t d h = cc
since_there steps (e ∷ ss) t d h = elim (on_head t e.tag (dispatch_of steps e).1 _ d h) [
  | inl q ↦ sym (ap (λ (x : Dispatch). x.since) q.1) ∙ ap (λ (k : ℕ). since_on k steps) (sym q.0)
  | inr q ↦ since_there steps ss t d q.1
]

pub copy_there : (steps : List Step) (ss : List Sending) (t : ℕ) (d : Dispatch) → dispatch_on t (map (dispatch_of steps) ss) ≡ Some d → d.again ≡ copy_on t steps
copy_there steps [] t d h = cc
copy_there steps (e ∷ ss) t d h = elim (on_head t e.tag (dispatch_of steps e).1 _ d h) [
  | inl q ↦ sym (ap (λ (x : Dispatch). x.again) q.1) ∙ ap (λ (k : ℕ). copy_on k steps) (sym q.0)
  | inr q ↦ copy_there steps ss t d q.1
]

none_recalled : (closed : Bool) → (not closed && false) ≡ false
none_recalled true = refl
none_recalled false = refl

-- a recall finds the same by the list as by the map
pub recallable : (steps : List Step) (closed : Bool) (n : Name) (t : ℕ) (ss : List Sending)
    → (not closed && is_recallable n (sending_on t ss)) ≡ can_recall closed (dispatch_on t (map (dispatch_of steps) ss)) n
recallable steps closed n t [] = none_recalled closed
recallable steps closed n t (e ∷ ss) =
    ap (λ (b : Bool). not closed && is_recallable n (cond b (Some e) (sending_on t ss))) (flip e.tag t) ∙ by (t == e.tag) (recallable steps closed n t ss)
  where
    by : (b : Bool) → (not closed && is_recallable n (sending_on t ss)) ≡ can_recall closed (dispatch_on t (map (dispatch_of steps) ss)) n
        → (not closed && is_recallable n (cond b (Some e) (sending_on t ss)))
        ≡ can_recall closed (cond b (Some (dispatch_of steps e).1) (dispatch_on t (map (dispatch_of steps) ss))) n
    by true rest = refl
    by false rest = rest
