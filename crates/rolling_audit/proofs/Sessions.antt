-- What a record makes of a session.
use Rattle.std.proofs.Common.{ℕ, ◌≡◌, ◌&&◌, ◌||◌, Bool, true, false, refl, ap, Option}
use Rattle.std.specs.Prelude.{not, is_some}
use Rattle.mux_history.specs.declared.name.Name.{Name}
use Rattle.mux_history.specs.declared.record.Record.{Record}
use Rattle.mux_history.specs.declared.kind.RecordKind.{RecordKind}
use Rattle.mux_history.specs.declared.kind.RecordKind.TheVariants.{Took, TookDrained, Discarded, Passed, Nacked, Unrouted, Failed, Offered, Settled, SettledNack, Epoch}
use Rattle.mux_history.specs.Readings.{begins, is_named}
use Rattle.mux_history.specs.Holders.{held_after, of_named}
use Rattle.mux_agree.specs.Agree.{frees}
use Rattle.rolling_audit.specs.Sessions.{MisusesTag, TagsGoOn, UsesTag, tag_fault_by, tag_use_of}

-- by the kind of the record
module _ (old new : ℕ → Option Name) (r : Record) where
  abbrev fault_of : RecordKind → Bool
  fault_of k = (begins k && is_some (old r.tag)) || (frees k && not (of_named (λ n. is_named n (old r.tag)) r.name))

  opened : is_some (old r.tag) ≡ false → ((true && is_some (old r.tag)) || (false && not (of_named (λ n. is_named n (old r.tag)) r.name))) ≡ false
  opened free = ap (λ b. b || false) free

  freed : of_named (λ n. is_named n (old r.tag)) r.name ≡ true → (false || (true && not (of_named (λ n. is_named n (old r.tag)) r.name))) ≡ false
  freed own = ap not own

  by_kind : (k : RecordKind) → UsesTag (tag_use_of k) old r new → (fault_of k ≡ false) × ((t : ℕ) → new t ≡ held_after t r k (old t))
  by_kind Took u = (opened u.0, u.1)
  by_kind Offered u = (opened u.0, u.1)
  by_kind TookDrained u = (opened u.0, u.1)
  by_kind (Discarded recalled) u = (freed u.0, u.1)
  by_kind Passed u = (freed u.0, u.1)
  by_kind Nacked u = (freed u.0, u.1)
  by_kind Unrouted u = (freed u.0, u.1)
  by_kind Failed u = (freed u.0, u.1)
  by_kind (Settled kind) u = (freed u.0, u.1)
  by_kind SettledNack u = (freed u.0, u.1)
  by_kind (Epoch number standing) u = (refl, u)
  by_kind _ u = (refl, u)

pub tags_go_on : (old new : ℕ → Option Name) (r : Record) → UsesTag (tag_use_of r.kind) old r new → TagsGoOn old r new
tags_go_on old new r u =
    let both = by_kind old new r r.kind u in
    record { faultless = both.0; holds = both.1 }

-- another use of the tag is its fault
module _ (old : ℕ → Option Name) (r : Record) where
  begins_held : is_some (old r.tag) ≡ true → ((true && is_some (old r.tag)) || (false && not (of_named (λ n. is_named n (old r.tag)) r.name))) ≡ true
  begins_held held = ap (λ b. b || false) held

  frees_other : of_named (λ n. is_named n (old r.tag)) r.name ≡ false → (false || (true && not (of_named (λ n. is_named n (old r.tag)) r.name))) ≡ true
  frees_other off = ap not off

  misused : (k : RecordKind) → MisusesTag (tag_use_of k) old r → ((begins k && is_some (old r.tag)) || (frees k && not (of_named (λ n. is_named n (old r.tag)) r.name))) ≡ true
  misused Took u = begins_held u
  misused Offered u = begins_held u
  misused TookDrained u = begins_held u
  misused (Discarded recalled) u = frees_other u
  misused Passed u = frees_other u
  misused Nacked u = frees_other u
  misused Unrouted u = frees_other u
  misused Failed u = frees_other u
  misused (Settled kind) u = frees_other u
  misused SettledNack u = frees_other u
  misused (Epoch number standing) u = absurd u
  misused _ u = absurd u

pub tags_misused : (old : ℕ → Option Name) (r : Record) → MisusesTag (tag_use_of r.kind) old r → tag_fault_by old r ≡ true
tags_misused old r u = misused old r r.kind u
