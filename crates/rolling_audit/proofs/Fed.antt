-- A number that is fed to the hasher at once.
use Rattle.std.proofs.Common.{◌≡◌, ℕ, ◌+◌, ◌*◌, ◌/◌, ◌%◌, ◌^◌, ◌<◌, fold, ap, ◌∙◌, arith}
use Rattle.std.specs.Hash.{le_bytes}
use Rattle.rolling_audit.specs.Near.{next_of}

-- the state behind each byte
module _ (s n : ℕ) where
  two : (s / 256 + n % 256 * 2 ^ 56) / 256 + n / 256 % 256 * 2 ^ 56 ≡ s / 256 ^ 2 + n % 256 ^ 2 * 2 ^ 48
  two = omega arith

  three : (s / 256 ^ 2 + n % 256 ^ 2 * 2 ^ 48) / 256 + n / 256 ^ 2 % 256 * 2 ^ 56 ≡ s / 256 ^ 3 + n % 256 ^ 3 * 2 ^ 40
  three = omega arith

  four : (s / 256 ^ 3 + n % 256 ^ 3 * 2 ^ 40) / 256 + n / 256 ^ 3 % 256 * 2 ^ 56 ≡ s / 256 ^ 4 + n % 256 ^ 4 * 2 ^ 32
  four = omega arith

  five : (s / 256 ^ 4 + n % 256 ^ 4 * 2 ^ 32) / 256 + n / 256 ^ 4 % 256 * 2 ^ 56 ≡ s / 256 ^ 5 + n % 256 ^ 5 * 2 ^ 24
  five = omega arith

  six : (s / 256 ^ 5 + n % 256 ^ 5 * 2 ^ 24) / 256 + n / 256 ^ 5 % 256 * 2 ^ 56 ≡ s / 256 ^ 6 + n % 256 ^ 6 * 2 ^ 16
  six = omega arith

  seven : (s / 256 ^ 6 + n % 256 ^ 6 * 2 ^ 16) / 256 + n / 256 ^ 6 % 256 * 2 ^ 56 ≡ s / 256 ^ 7 + n % 256 ^ 7 * 2 ^ 8
  seven = omega arith

  eight : (s / 256 ^ 7 + n % 256 ^ 7 * 2 ^ 8) / 256 + n / 256 ^ 7 % 256 * 2 ^ 56 ≡ s / 256 ^ 8 + n % 256 ^ 8
  eight = omega arith

  by_four : fold next_of s (le_bytes 4 n) ≡ s / 256 ^ 4 + n % 256 ^ 4 * 2 ^ 32
  unfolding le_bytes
  by_four = ap (λ h. next_of (next_of h (n / 256 ^ 2 % 256)) (n / 256 ^ 3 % 256)) two ∙ ap (λ h. next_of h (n / 256 ^ 3 % 256)) three ∙ four

  by_eight : fold next_of s (le_bytes 8 n) ≡ s / 256 ^ 8 + n % 256 ^ 8
  unfolding le_bytes
  by_eight =
      ap (λ h. next_of (next_of (next_of (next_of h (n / 256 ^ 4 % 256)) (n / 256 ^ 5 % 256)) (n / 256 ^ 6 % 256)) (n / 256 ^ 7 % 256)) by_four
      ∙ ap (λ h. next_of (next_of (next_of h (n / 256 ^ 5 % 256)) (n / 256 ^ 6 % 256)) (n / 256 ^ 7 % 256)) five
      ∙ ap (λ h. next_of (next_of h (n / 256 ^ 6 % 256)) (n / 256 ^ 7 % 256)) six
      ∙ ap (λ h. next_of h (n / 256 ^ 7 % 256)) seven
      ∙ eight

  pub fed_eight : s < 2 ^ 64 → n < 2 ^ 64 → fold next_of s (le_bytes 8 n) ≡ n
  fed_eight small fits = by_eight ∙ omega arith
