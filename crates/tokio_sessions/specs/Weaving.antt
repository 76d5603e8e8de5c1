-- A buffer's own bytes, and the shared bodies among them.
use Rattle.std.specs.Prelude.{ℕ, ◌+◌, List, [], ◌∷◌, ◌++◌, take, drop}
use Rattle.tokio_sessions.specs.declared.shared_body.SharedBody.{SharedBody}

-- how many own bytes stand before the bodies, up to the last one
abbrev pub count_before : List SharedBody → ℕ
count_before [] = 0
count_before (b ∷ bs) = b.behind + count_before bs

-- Own bytes with the bodies among them: some own bytes and then a body, once for each body, and then the rest.
abbrev pub woven : List ℕ → List SharedBody → List ℕ
woven own [] = own
woven own (b ∷ bs) = take b.behind own ++ (b.body ++ woven (drop b.behind own) bs)
