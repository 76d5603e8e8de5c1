-- What the program lends while it walks, as lists of records.
use Rattle.std.specs.Prelude.{List, ◌++◌, reverse}
use Rattle.mux_history.specs.declared.record.Record.{Record}
use Rattle.mux_agree.specs.declared.agreement.histories.Histories.{Histories}
use Rattle.mux_agree.specs.declared.agreement.past.Past.{Past}
use Rattle.mux_agree.specs.declared.agreement.causes.Visit.{Visit}
use Rattle.mux_agree.specs.Walk.{joined, all_records, client_records, histories}

abbrev pub records_of : Histories → List Record
records_of h = all_records (histories h.downs.now h.ups.now)

-- those of the clients
abbrev pub clients_of : Histories → List Record
clients_of h = client_records (histories h.downs.now h.ups.now)

-- the records before one of a session, the newest first
abbrev pub past_of : Past → List Record
past_of p = reverse (joined p.older.now ++ p.present.now)

-- the records before the visited one in the walk
abbrev pub walked_of : Visit → List Record
walked_of v = past_of v.past ++ records_of v.earlier
