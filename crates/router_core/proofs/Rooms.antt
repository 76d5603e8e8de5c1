-- A session that is there.
use Rattle.std.proofs.Common.{◌≡◌, true, Option, Some, None, refl}
use Rattle.std.specs.Prelude.{is_some}

pub some_at : {A : Type 0} (o : Option A) → is_some o ≡ true → (x : A) × (o ≡ Some x)
some_at None e = absurd (cc)
some_at (Some x) e = (x, refl)
