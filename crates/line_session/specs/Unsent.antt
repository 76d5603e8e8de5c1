-- The bytes of a text that is written.
use Rattle.std.specs.Prelude.{ℕ, List, string_bytes}
use Rattle.line_session.specs.declared.line_answer.Text.{Text}
use Rattle.line_session.specs.declared.line_answer.Text.TheVariants.{Fixed, Made, Bytes}

abbrev pub text_bytes : Text → List ℕ
text_bytes (Fixed text) = text.now
text_bytes (Made text) = string_bytes text
text_bytes (Bytes bytes) = bytes.items
