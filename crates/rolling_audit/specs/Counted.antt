-- What all records tell of one dispatch, and the causes that follow from it.
use Rattle.std.specs.Prelude.{ℕ, List, [], ◌∷◌, ◌++◌, ◌+◌, ◌≡◌, ◌&&◌, ◌||◌, Bool, false, not, Some, if◌then◌else◌, nat_lt, nat_le}
use Rattle.mux_history.specs.declared.name.Name.{Name}
use Rattle.mux_history.specs.declared.record.Record.{Record}
use Rattle.mux_history.specs.declared.kind.RecordKind.{RecordKind}
use Rattle.mux_history.specs.declared.kind.RecordKind.TheVariants.{Offered, Passed, Failed}
use Rattle.mux_history.specs.Readings.{is_offered, is_retried, gives_name}
use Rattle.mux_agree.specs.Agree.{has, times, is_refused, is_nacked, is_settled, is_settled_nack, is_lost_one, is_failed, is_sent_twice, is_never_sent, is_nacked_though_sent, is_lost_but_settled}
use Rattle.mux_agree.specs.Facts.{is_discarding}
use Rattle.rolling_audit.specs.declared.trace.Trace.{Trace}

-- the counts of a dispatch are those of its name: among the records of clients, and all records
pub record IsCounted (n : Name) (clients all : List Record) (d : Trace) : Type 0 where
  pub offered : times is_offered n all ≡ d.offered
  pub retried : times is_retried n all ≡ d.retried
  pub nacked_back : times is_settled_nack n all ≡ d.nacked_back
  pub settled : times is_settled n all ≡ d.settled
  pub taken : has gives_name n clients ≡ d.taken
  pub missing : has is_lost_one n all ≡ d.missing
  pub refused : has is_refused n all ≡ d.refused
  pub nacked : has is_nacked n all ≡ d.nacked
  pub recalled : has is_discarding n all ≡ d.recalled

-- of no records
abbrev pub none_counted : Trace
none_counted =
    record {
      offered = 0;
      retried = 0;
      nacked_back = 0;
      settled = 0;
      taken = false;
      missing = false;
      refused = false;
      nacked = false;
      recalled = false;
    }

abbrev pub twice_by : Trace → RecordKind → Bool
twice_by d kind = (is_offered kind && nat_lt (1 + d.retried) d.offered) || (is_retried kind && nat_lt d.nacked_back d.retried)

abbrev pub unfounded_by : Trace → RecordKind → Bool
unfounded_by d Offered = not d.taken
unfounded_by d Passed =
    not (nat_lt 0 d.offered && nat_lt 0 (d.settled + d.nacked_back) && nat_le d.offered (d.settled + d.nacked_back))
unfounded_by d Failed = not (nat_lt 0 d.offered)
unfounded_by d _ = false

abbrev pub nacked_by : Trace → RecordKind → Bool
nacked_by d kind = is_offered kind && (d.refused || (d.nacked && nat_lt d.nacked_back d.offered))

abbrev pub lost_by : Trace → RecordKind → Bool
lost_by d kind = is_failed kind && (nat_lt 0 d.offered && (nat_lt 0 d.settled || not d.missing))

-- none of the four causes that ask for counts alone
abbrev pub faultless_by : Trace → RecordKind → Bool
faultless_by d kind =
    if twice_by d kind then false
    else not (unfounded_by d kind || (nacked_by d kind || lost_by d kind))

-- a recall of the dispatch was sent, or it has an end
abbrev pub end_by : Trace → Bool
end_by d = d.recalled || nat_lt 0 d.settled || d.missing || nat_lt d.retried d.nacked_back

-- a record has none of the causes that ask for counts alone
pub record IsBorne (clients all : List Record) (r : Record) : Type 0 where
  pub sent_once : is_sent_twice all r ≡ false
  pub founded : is_never_sent clients all r ≡ false
  pub not_nacked : is_nacked_though_sent all r ≡ false
  pub lost : is_lost_but_settled all r ≡ false

-- so does each record of this kind that bears a name whose counts these are
abbrev pub BearsKind : Trace → RecordKind → Type 0
BearsKind d kind =
    (n : Name) (clients all : List Record) (r : Record) → r.kind ≡ kind → r.name ≡ Some n
    → IsCounted n clients all d → IsBorne clients all r

-- how many records were counted
abbrev pub counted_of : Trace → ℕ
counted_of d = d.offered + d.retried + d.nacked_back + d.settled

-- with one record of this kind more
abbrev pub one : Bool → ℕ
one b = if b then 1 else 0

pub record CountsOne (d : Trace) (of_client : Bool) (kind : RecordKind) (e : Trace) : Type 0 where
  pub offered : e.offered ≡ one (is_offered kind) + d.offered
  pub retried : e.retried ≡ one (is_retried kind) + d.retried
  pub nacked_back : e.nacked_back ≡ one (is_settled_nack kind) + d.nacked_back
  pub settled : e.settled ≡ one (is_settled kind) + d.settled
  pub taken : e.taken ≡ ((of_client && gives_name kind) || d.taken)
  pub missing : e.missing ≡ (is_lost_one kind || d.missing)
  pub refused : e.refused ≡ (is_refused kind || d.refused)
  pub nacked : e.nacked ≡ (is_nacked kind || d.nacked)
  pub recalled : e.recalled ≡ (is_discarding kind || d.recalled)

-- records of a client's session join those of clients
abbrev pub joined_if : Bool → List Record → List Record → List Record
joined_if of_client clients rs = if of_client then clients ++ rs else clients

-- the counts go on to be those of the name, with a record of it more behind the others
abbrev pub GoesOn : Trace → Bool → RecordKind → Trace → Type 0
GoesOn d of_client kind e =
    (n : Name) (clients all : List Record) (r : Record) → r.kind ≡ kind → r.name ≡ Some n
    → IsCounted n clients all d → IsCounted n (joined_if of_client clients (r ∷ [])) (all ++ r ∷ []) e
