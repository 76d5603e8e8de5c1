-- What the walk keeps of a session.
use Rattle.std.specs.Prelude.{ℕ, ◌≡◌, ◌≤◌, ◌-◌, ◌^◌, ◌&&◌, ◌||◌, ◌==◌, max, Bool, true, false, not, Option, None, if◌then◌else◌, is_some, nat_eq}
use Rattle.mux_history.specs.declared.name.Name.{Name}
use Rattle.mux_history.specs.declared.record.Record.{Record}
use Rattle.mux_history.specs.declared.kind.RecordKind.{RecordKind}
use Rattle.mux_history.specs.declared.kind.RecordKind.TheVariants.{Took, TookDrained, Noted, Discarded, Passed, Nacked, Unrouted, Failed, Offered, Settled, SettledNack, Epoch}
use Rattle.mux_history.specs.Readings.{begins, is_named}
use Rattle.mux_history.specs.Holders.{held_after, of_named}
use Rattle.mux_agree.specs.Agree.{frees}
use Rattle.mux_agree.specs.declared.agreement.outline.Outline.{Outline}
use Rattle.rolling_audit.specs.declared.tags.TagUse.{TagUse}
use Rattle.rolling_audit.specs.declared.tags.TagUse.TheVariants.{Opens, Meets, Frees, Clears, Keeps}

abbrev pub tag_use_of : RecordKind → TagUse
tag_use_of Took = Opens
tag_use_of Offered = Opens
tag_use_of TookDrained = Meets
tag_use_of (Discarded _) = Frees
tag_use_of Passed = Frees
tag_use_of Nacked = Frees
tag_use_of Unrouted = Frees
tag_use_of Failed = Frees
tag_use_of (Settled _) = Frees
tag_use_of SettledNack = Frees
tag_use_of (Epoch _ _) = Clears
tag_use_of _ = Keeps

-- of its session such a record tells the reading alone
abbrev pub is_of_one : RecordKind → Bool
is_of_one (Noted _) = true
is_of_one Passed = true
is_of_one Offered = true
is_of_one (Settled _) = true
is_of_one SettledNack = true
is_of_one _ = false

-- the outline about the one record goes on behind the other, at its reading
abbrev pub goes_on : (about met : Record) → Bool
goes_on about met = is_of_one met.kind && not (met.tag == about.tag) && not (is_some about.name)

-- who holds a tag, where it is that of the record
abbrev pub held_as : Bool → Option Name → Option Name → Option Name
held_as own now before = if own then now else before

-- who holds each tag behind a record
abbrev pub UsesTag : TagUse → (ℕ → Option Name) → Record → (ℕ → Option Name) → Type 0
UsesTag Opens old r new = (is_some (old r.tag) ≡ false) × ((t : ℕ) → new t ≡ held_as (nat_eq r.tag t) r.name (old t))
UsesTag Meets old r new = (is_some (old r.tag) ≡ false) × ((t : ℕ) → new t ≡ old t)
UsesTag Frees old r new =
    (of_named (λ n. is_named n (old r.tag)) r.name ≡ true) × ((t : ℕ) → new t ≡ held_as (nat_eq r.tag t) None (old t))
UsesTag Clears old r new = (t : ℕ) → new t ≡ None
UsesTag Keeps old r new = (t : ℕ) → new t ≡ old t

-- a dispatch on an open tag, or the end of one whose tag isn't open under its own name
abbrev pub tag_fault_by : (ℕ → Option Name) → Record → Bool
tag_fault_by held r =
    (begins r.kind && is_some (held r.tag)) || (frees r.kind && not (of_named (λ n. is_named n (held r.tag)) r.name))

-- it uses its tag in another way
abbrev pub MisusesTag : TagUse → (ℕ → Option Name) → Record → Type 0
MisusesTag Opens old r = is_some (old r.tag) ≡ true
MisusesTag Meets old r = is_some (old r.tag) ≡ true
MisusesTag Frees old r = of_named (λ n. is_named n (old r.tag)) r.name ≡ false
MisusesTag _ old r = ⊥

-- as many pings were made as are counted
abbrev pub HasManyPings : Outline → Type 0
HasManyPings o = 2 ^ 64 - 1 ≤ max o.pings_sent o.pings_done

pub record TagsGoOn (old : ℕ → Option Name) (r : Record) (new : ℕ → Option Name) : Type 0 where
  pub faultless : tag_fault_by old r ≡ false
  pub holds : (t : ℕ) → new t ≡ held_after t r r.kind (old t)
