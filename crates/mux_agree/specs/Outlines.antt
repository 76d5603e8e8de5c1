-- What a session's records tell, in one reading: an outline, record by record.
use Rattle.std.specs.Prelude.{ℕ, List, [], ◌∷◌, ◌+◌, ◌^◌, ◌≡◌, ◌≤◌, ◌&&◌, ◌||◌, ◌==◌, Bool, false, not, Option, Some, None, if◌then◌else◌, nat_lt, length}
use Rattle.mux_history.specs.declared.name.Name.{Name}
use Rattle.mux_history.specs.declared.record.Record.{Record}
use Rattle.mux_history.specs.declared.kind.RecordKind.{RecordKind}
use Rattle.mux_history.specs.declared.kind.RecordKind.TheVariants.{Offered, Settled, SettledNack, LostOne, Epoch}
use Rattle.mux_history.specs.declared.session.SessionId.{SessionId}
use Rattle.mux_history.specs.declared.session.SessionId.TheVariants.{Client, Server}
use Rattle.mux_history.specs.Readings.{is_named, gives_name, ends, is_epoch, counted_in, epoch_after, note_kind, answer_kind, is_took, is_offered, book, sendings, is_init_done, is_init_asked, is_drain_asked, is_drain_acked, is_drained_kind, is_retiring, is_ping_sent, is_ping_done}
use Rattle.mux_history.specs.declared.kind.Standing.{Standing}
use Rattle.mux_history.specs.declared.kind.Standing.TheVariants.{Down}
use Rattle.mux_history.specs.Standings.{up_with}
use Rattle.mux_history.specs.declared.session.InitMode.{InitMode}
use Rattle.mux_history.specs.declared.session.InitMode.TheVariants.{Probe, Plain}
use Rattle.mux_history.specs.declared.session.InitState.{InitState}
use Rattle.mux_history.specs.declared.session.InitState.TheVariants as inits
use Rattle.mux_history.specs.declared.session.DrainState.{DrainState}
use Rattle.mux_history.specs.declared.session.DrainState.TheVariants as drains
use Rattle.mux_history.specs.Holders.{of_named, held_after}
use Rattle.mux_history.specs.Lapse.{lease_after}
use Rattle.mux_agree.specs.declared.agreement.outline.Outline.{Outline}

-- a dispatch was sent on the tag, and neither its final reply nor its loss was told
abbrev pub sent_after : ℕ → Record → RecordKind → Bool → Bool
sent_after t r Offered before = r.tag == t || before
sent_after t r (Settled _) before = not (r.tag == t) && before
sent_after t r SettledNack before = not (r.tag == t) && before
sent_after t r LostOne before = not (r.tag == t) && before
sent_after t r (Epoch _ _) before = false
sent_after t r _ before = before

-- what a record makes of a test of the name's records
abbrev pub due_after : (RecordKind → Bool → Bool) → Option Name → Record → Bool → Bool
due_after step name r before =
    if is_epoch r.kind then false
    else if of_named (λ n. is_named n r.name) name then step r.kind before
    else before

-- a number, where a `u64` holds it
abbrev pub within : ℕ → Option ℕ
within n = if nat_lt n (2 ^ 64) then Some n else None

abbrev pub more_within : Option ℕ → Option ℕ
more_within None = None
more_within (Some n) = within (n + 1)

abbrev pub taken_after : RecordKind → Option ℕ → Option ℕ
taken_after (Epoch number standing) before = Some (counted_in standing)
taken_after kind before = if gives_name kind then more_within before else before

-- a test of the kinds since the last Epoch record, itself among them
abbrev pub stands_after : (RecordKind → Bool) → RecordKind → Bool → Bool
stands_after p kind before = p kind || (not (is_epoch kind) && before)

abbrev pub count_after : (RecordKind → Bool) → RecordKind → ℕ → ℕ
count_after p kind before = (if p kind then 1 else 0) + (if is_epoch kind then 0 else before)

-- behind a record, for the tag and name of another
abbrev pub outline_after : (about entry : Record) → Outline → Outline
outline_after about r o =
    record {
      held = held_after about.tag r r.kind o.held;
      sent = sent_after about.tag r r.kind o.sent;
      note_due = due_after note_kind about.name r o.note_due;
      answer_due = due_after answer_kind about.name r o.answer_due;
      number = epoch_after r.kind o.number;
      has_ended = stands_after ends r.kind o.has_ended;
      reading = r.reading;
      dispatches = taken_after r.kind o.dispatches;
      init_done = stands_after is_init_done r.kind o.init_done;
      init_asked = stands_after is_init_asked r.kind o.init_asked;
      drain_asked = stands_after is_drain_asked r.kind o.drain_asked;
      drain_acked = stands_after is_drain_acked r.kind o.drain_acked;
      lease = lease_after r r.kind o.lease;
      drained = stands_after is_drained_kind r.kind o.drained;
      retired = stands_after is_retiring r.kind o.retired;
      pings_sent = count_after is_ping_sent r.kind o.pings_sent;
      pings_done = count_after is_ping_done r.kind o.pings_done;
    }

-- what each record makes of what was before, the newest first
abbrev pub read : {S : Type 0} → (Record → S → S) → S → List Record → S
read step start [] = start
read step start (r ∷ old) = step r (read step start old)

abbrev pub outline_from : (about : Record) → Outline → List Record → Outline
outline_from about start rs = read (outline_after about) start rs

-- before any record
abbrev pub no_outline : Outline
no_outline =
    record {
      held = None;
      sent = false;
      note_due = false;
      answer_due = false;
      number = 0;
      has_ended = false;
      reading = 0;
      dispatches = Some 0;
      init_done = false;
      init_asked = false;
      drain_asked = false;
      drain_acked = false;
      lease = None;
      drained = false;
      retired = false;
      pings_sent = 0;
      pings_done = 0;
    }

abbrev pub outline_of : (about : Record) → List Record → Outline
outline_of about rs = outline_from about no_outline rs

-- a dispatch waits: a client's for its note or answer, a server's for its reply or loss
abbrev pub waits : SessionId → RecordKind → Outline → Bool
waits (Client k) kind o = is_took kind && (o.note_due || o.answer_due)
waits (Server k) kind o = is_offered kind && o.sent

-- that of a record, after all records
abbrev pub is_held : SessionId → (all : List Record) → Record → Bool
is_held id all r = waits id r.kind (outline_of r all)

-- a test of the records since the last Epoch record
abbrev pub any_after : (Record → Bool) → Record → Bool → Bool
any_after test r before = not (is_epoch r.kind) && (before || test r)

abbrev pub any_since : (Record → Bool) → Bool → List Record → Bool
any_since test start rs = read (any_after test) start rs

-- no dispatch waits
abbrev pub is_free : SessionId → List Record → Bool
is_free (Client k) past = nat_lt (length (book past)) 1
is_free (Server k) past = nat_lt (length (sendings past)) 1

-- how the session stands, by an outline: its count is `n`, or more than a `u64` holds
abbrev pub IsCount : Option ℕ → ℕ → Type 0
IsCount None n = 2 ^ 64 ≤ n
IsCount (Some taken) n = taken ≡ n

abbrev pub drain_by : Outline → DrainState
drain_by o =
    if o.drain_acked then drains.Acked
    else if o.drain_asked then drains.Asked
    else drains.Running

abbrev pub init_of : InitMode → Outline → InitState
init_of Plain o = inits.Open
init_of Probe o =
    if o.init_done then inits.Open
    else if o.init_asked then inits.Asked
    else inits.Probing

abbrev pub down_by : ℕ → Outline → Standing
down_by taken o = Down (if o.init_done then false else taken == 0) (drain_by o) taken

abbrev pub up_by : InitMode → Outline → Standing
up_by mode o = up_with (init_of mode o) o.drained o.retired (nat_lt o.pings_done o.pings_sent) o.lease
