-- What can be wrong with a configuration, with texts as bytes.
use Rattle.std.specs.Prelude.{◌≡◌, ◌⊎◌, ℕ, List, Result, Ok, Err, string_bytes}
use Rattle.route_table.specs.declared.key.Key.{Key}
use Rattle.route_table.specs.declared.fault.ConfigFault.{ConfigFault}
use Rattle.route_table.specs.declared.fault.ConfigFault.TheVariants as code

pub data Fault : Type 0 where
  toml : Fault
  missing : Key → Fault
  bad_value : Key → Fault
  unknown_server : List ℕ → Fault
  double_name : List ℕ → Fault
  double_route : List ℕ → Fault
  memory : Fault

abbrev pub fault_of : ConfigFault → Fault
fault_of code.Toml = toml
fault_of (code.Missing key) = missing key
fault_of (code.BadValue key) = bad_value key
fault_of (code.UnknownServer name) = unknown_server (string_bytes name)
fault_of (code.DoubleName name) = double_name (string_bytes name)
fault_of (code.DoubleRoute dst) = double_route (string_bytes dst)
fault_of code.Memory = memory

-- a result with what it shows
abbrev pub shown : {A B : Type 0} → (A → B) → Result A ConfigFault → Result B Fault
shown view (Ok a) = Ok (view a)
shown view (Err e) = Err (fault_of e)

-- the result is this, or a growth was refused
abbrev pub IsUnlessMemory : {A : Type 0} → Result A Fault → Result A Fault → Type 0
IsUnlessMemory result wanted = (result ≡ Err memory) ⊎ (result ≡ wanted)

-- the one, and with its value the other
abbrev pub and_then : {A B : Type 0} → Result A Fault → (A → Result B Fault) → Result B Fault
and_then (Ok a) next = next a
and_then (Err e) next = Err e
