-- How long dispatches took until their reply came: how many took at most so long, and all together.
use Rattle.std.specs.Prelude.{◌≡◌, ℕ, ◌+◌, ◌<◌, Bool, true, false, List, [], ◌∷◌, take, nat_le, slice_set, slice_index, unwrap_or}
use Rattle.std.specs.List.{fold, position}
use Rattle.mux_history.specs.Counting.{capped}
use Rattle.mux_history.specs.declared.delays.Spans.{Spans}
use Rattle.mux_history.specs.declared.delays.Delays.{Delays}
use Rattle.mux_history.specs.declared.delays.TheConstants.{BOUNDS}

-- the first bucket whose bound is no less, or the last one
abbrev pub bucket_of : ℕ → ℕ
bucket_of ms = unwrap_or (position (nat_le ms) BOUNDS) 12

abbrev pub none_counted : List ℕ
none_counted = 0 ∷ 0 ∷ 0 ∷ 0 ∷ 0 ∷ 0 ∷ 0 ∷ 0 ∷ 0 ∷ 0 ∷ 0 ∷ 0 ∷ 0 ∷ []

abbrev pub no_span : Spans
no_span = record { counts = none_counted; sum = 0 }

-- one more took so many milliseconds
abbrev pub added : (ms : ℕ) → Spans → Spans
added ms s = record {
  counts = slice_set s.counts (bucket_of ms) (capped (slice_index s.counts (bucket_of ms) + 1));
  sum = capped (s.sum + ms);
}

abbrev pub plus_capped : ℕ → ℕ → ℕ
plus_capped a b = capped (a + b)

-- how many are in the first so many buckets
abbrev pub count_to : (buckets : ℕ) → Spans → ℕ
count_to buckets s = fold plus_capped 0 (take buckets s.counts)

-- of each bucket there are as many as of both
pub record IsBoth (a b c : Spans) : Type 0 where
  pub counts : (bucket : ℕ) → bucket < 13
      → slice_index c.counts bucket ≡ plus_capped (slice_index a.counts bucket) (slice_index b.counts bucket)
  pub sum : c.sum ≡ plus_capped a.sum b.sum

abbrev pub no_delay : Delays
no_delay = record { replies = no_span; nacks = no_span }

-- one more was answered, so many milliseconds after it was sent
abbrev pub answered : (is_nack : Bool) → (ms : ℕ) → Delays → Delays
answered true ms d = record d { nacks = added ms d.nacks }
answered false ms d = record d { replies = added ms d.replies }

abbrev pub AreBoth : (a b c : Delays) → Type 0
AreBoth a b c = IsBoth a.replies b.replies c.replies × IsBoth a.nacks b.nacks c.nacks
