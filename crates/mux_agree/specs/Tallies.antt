-- What a tally counts.
use Rattle.std.specs.Prelude.{ℕ, ◌+◌, ◌*◌, ◌^◌}
use Rattle.mux_agree.specs.declared.agreement.tally.Tally.{Tally}

abbrev pub tallied : Tally → ℕ
tallied t = t.wraps * 2 ^ 128 + t.rest
