-- Sessions in the order in which their frames go out.
use Rattle.std.specs.Prelude.{ℕ, List, ◌++◌, map}
use Rattle.std.specs.Ordering.{nat_cmp}
use Rattle.std.specs.BTreeSet.{insert_key}
use Rattle.mux_history.specs.declared.session.SessionId.{SessionId}
use Rattle.mux_history.specs.declared.session.SessionId.TheVariants.{Client, Server}

-- clients before servers, each by their numbers
abbrev pub listed : List ℕ → List ℕ → List SessionId
listed clients servers = map Client clients ++ map Server servers

-- the same with a session more, if it isn't one of them
abbrev pub listed_with : SessionId → List ℕ → List ℕ → List SessionId
listed_with (Client number) clients servers = listed (insert_key nat_cmp clients number) servers
listed_with (Server number) clients servers = listed clients (insert_key nat_cmp servers number)
