-- What is counted in two lists of records is the sum of what is counted in each.
use Rattle.std.proofs.Common.{List, ◌++◌, ◌+◌, ◌≡◌, Bool}
use Rattle.std.proofs.lemmas.List.Sums.{sum_by-append}
use Rattle.mux_history.specs.declared.name.Name.{Name}
use Rattle.mux_history.specs.declared.record.Record.{Record}
use Rattle.mux_history.specs.declared.kind.RecordKind.{RecordKind}
use Rattle.mux_agree.specs.Agree.{times}

pub times-append : (p : RecordKind → Bool) (n : Name) (rs ss : List Record) → times p n (rs ++ ss) ≡ times p n rs + times p n ss
times-append p n rs ss = sum_by-append _ rs ss
