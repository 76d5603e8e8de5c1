-- What an operator is shown of a session, a server's work and a route.
use Rattle.std.specs.Prelude.{◌≡◌, ℕ, List, Option, flat_map, slice_get, string_bytes, String}
use Rattle.std.specs.Option.{option_map, option_to_list}
use Rattle.std.specs.declared.alloc.Global.{Global}
use Rattle.std.specs.declared.net.socket_addr.SocketAddr.{SocketAddr}
use Rattle.hub_steps.specs.declared.figures.DownFigures.{DownFigures}
use Rattle.hub_steps.specs.declared.figures.UpFigures.{UpFigures}
use Rattle.hub_steps.specs.declared.records.UpCounts.{UpCounts}
use Rattle.operator_port.specs.declared.figures.ClientRow.{ClientRow}
use Rattle.operator_port.specs.declared.figures.ServerRow.{ServerRow}
use Rattle.operator_port.specs.declared.figures.ServerWork.{ServerWork}

abbrev pub client_row : (number : ℕ) → Option SocketAddr → DownFigures → ClientRow
client_row number peer f = record {
  number = number;
  peer = peer;
  word = f.word;
  entries = f.entries;
  records = f.records;
  epoch = f.epoch;
  queued = f.queued;
}

pub record IsServerRow (name : List ℕ) (peer : Option SocketAddr) (f : UpFigures) (ejected : ℕ)
    (row : ServerRow) : Type 0 where
  pub named : string_bytes row.name ≡ name
  pub other : row.peer ≡ peer
  pub word : row.word ≡ f.word
  pub load : row.load ≡ f.load
  pub lapse : row.lapse ≡ f.lapse
  pub last : row.ejected ≡ ejected
  pub records : row.records ≡ f.records
  pub epoch : row.epoch ≡ f.epoch
  pub queued : row.queued ≡ f.queued

pub record IsServerWork (name : List ℕ) (done : UpCounts) (errors : ℕ) (row : ServerWork) : Type 0 where
  pub named : string_bytes row.name ≡ name
  pub steps : row.steps ≡ done.steps
  pub failed : row.errors ≡ errors
  pub delays : row.delays ≡ done.delays

-- the name of a server, if it has one
abbrev pub name_at : (names : List (String Global)) → (server : ℕ) → List (List ℕ)
name_at names server = option_to_list (option_map string_bytes (slice_get names server))

-- the names of these servers, in their order
abbrev pub names_at : (servers : List ℕ) → (names : List (String Global)) → List (List ℕ)
names_at servers names = flat_map (name_at names) servers
