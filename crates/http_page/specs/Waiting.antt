-- What a session waits for.
use Rattle.std.specs.Prelude.{ℕ, ⊤, Bool, true, false}
use Rattle.http_page.specs.declared.session.HttpSession.{HttpSession}
use Rattle.http_page.specs.declared.step.Stage.{Stage}
use Rattle.http_page.specs.declared.step.Stage.TheVariants.{Reading, Writing, Closing, Draining}
use Rattle.http_page.specs.declared.step.Step.{Step}
use Rattle.http_page.specs.declared.step.Step.TheVariants.{Again, Wait, Over}

-- P, where a turn waits
abbrev pub OnWait : Step → Type 0 → Type 0
OnWait Again P = ⊤
OnWait Wait P = P
OnWait (Over end) P = ⊤

-- the response was written
abbrev pub is_behind_response : Stage → Bool
is_behind_response Reading = false
is_behind_response Writing = false
is_behind_response Closing = true
is_behind_response (Draining left) = true

abbrev pub stage_waits_for : Stage → (of_reader of_writer : Type 0) → Type 0
stage_waits_for Reading of_reader of_writer = of_reader
stage_waits_for Writing of_reader of_writer = of_writer
stage_waits_for Closing of_reader of_writer = of_writer
stage_waits_for (Draining left) of_reader of_writer = of_reader

abbrev pub waits_for : {R W P : Type 0} (of_reader : R → ℕ → Type 0) (of_writer : W → ℕ → Type 0)
    → HttpSession R W P → ℕ → Type 0
waits_for of_reader of_writer s source =
    stage_waits_for s.stage (of_reader s.reader source) (of_writer s.writer source)
