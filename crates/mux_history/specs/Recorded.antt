-- What contracts see of a record.
use Rattle.std.specs.Prelude.{ℕ, Option}
use Rattle.mux_history.specs.declared.name.Name.{Name}
use Rattle.mux_history.specs.declared.kind.RecordKind.{RecordKind}

pub record Recorded : Type 0 where
  pub kind : RecordKind
  pub tag : ℕ
  pub name : Option Name
  pub reading : ℕ
