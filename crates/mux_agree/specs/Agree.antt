-- The causes for which histories disagree, read from their records alone.
use Rattle.std.specs.Prelude.{ℕ, List, ◌+◌, ◌&&◌, ◌||◌, Bool, true, false, not, Option, Some, None, if◌then◌else◌, is_some, nat_lt, nat_le, count_by}
use Rattle.std.specs.List.{list_any}
use Rattle.mux_history.specs.declared.name.Name.{Name}
use Rattle.mux_history.specs.declared.record.Record.{Record}
use Rattle.mux_history.specs.declared.kind.RecordKind.{RecordKind}
use Rattle.mux_history.specs.declared.kind.RecordKind.TheVariants.{TookDrained, Discarded, Passed, Nacked, Unrouted, Failed, Offered, Settled, SettledNack, LostOne}
use Rattle.mux_history.specs.Lapse.{has_lapsed, lease_of}
use Rattle.mux_history.specs.Readings.{is_named, gives_name, begins, stands, is_drained_kind, is_offered, is_retried}
use Rattle.mux_history.specs.Standings.{leads_to}
use Rattle.mux_history.specs.declared.session.InitMode.{InitMode}
use Rattle.mux_history.specs.declared.session.SessionId.{SessionId}
use Rattle.mux_history.specs.Holders.{of_named, name_on, holds_own}
use Rattle.mux_agree.specs.declared.agreement.disagreement.DisagreementCause.{DisagreementCause}
use Rattle.mux_agree.specs.declared.agreement.disagreement.DisagreementCause.TheVariants.{SentTwice, AnsweredTwice, NeverSent, NackOfSent, LostButSettled, TagOpen, AfterDrain, Lapsed, BadEpoch}

-- a record of certain kinds bears the name
abbrev pub has : (RecordKind → Bool) → Name → List Record → Bool
has p n rs = list_any (λ r. p r.kind && is_named n r.name) rs

-- how many records of certain kinds bear the name
abbrev pub times : (RecordKind → Bool) → Name → List Record → ℕ
times p n rs = count_by (λ r. p r.kind && is_named n r.name) rs

-- the client got an answer, or gave the dispatch up
abbrev pub answers : RecordKind → Bool
answers (Discarded _) = true
answers TookDrained = true
answers Passed = true
answers Nacked = true
answers Unrouted = true
answers Failed = true
answers _ = false

-- the client was drained when it came
abbrev pub is_refused : RecordKind → Bool
is_refused TookDrained = true
is_refused _ = false

-- the client got a nack or `no route`: every sending of the dispatch was nacked
abbrev pub is_nacked : RecordKind → Bool
is_nacked Nacked = true
is_nacked Unrouted = true
is_nacked _ = false

-- the server's final reply came, and was no nack
abbrev pub is_settled : RecordKind → Bool
is_settled (Settled _) = true
is_settled _ = false

-- it was a nack
abbrev pub is_settled_nack : RecordKind → Bool
is_settled_nack SettledNack = true
is_settled_nack _ = false

-- the server's final reply came
abbrev pub is_replied : RecordKind → Bool
is_replied (Settled _) = true
is_replied SettledNack = true
is_replied _ = false

-- the dispatch was lost with its server
abbrev pub is_lost_one : RecordKind → Bool
is_lost_one LostOne = true
is_lost_one _ = false

-- 1: the name was offered more often than it was taken and may be sent again; it may be sent again more often than it
-- was nacked
abbrev pub is_sent_twice : (all : List Record) → Record → Bool
is_sent_twice all r =
    (is_offered r.kind && of_named (λ n. nat_lt (1 + times is_retried n all) (times is_offered n all)) r.name)
    || (is_retried r.kind && of_named (λ n. nat_lt (times is_settled_nack n all) (times is_retried n all)) r.name)

-- 2: the name was answered before
abbrev pub is_answered_twice : (walked : List Record) → Record → Bool
is_answered_twice walked r = answers r.kind && of_named (λ n. has answers n walked) r.name

-- 3: no client took the name that was offered; what was passed on was not both offered and settled, or was offered
-- more often than settled; what failed was not offered
abbrev pub is_unfounded : (clients all : List Record) → RecordKind → Option Name → Bool
is_unfounded clients all Offered name = not (of_named (λ n. has gives_name n clients) name)
is_unfounded clients all Passed name =
    not (of_named (λ n. has is_offered n all && has is_replied n all
    && nat_le (times is_offered n all) (times is_replied n all)) name)
is_unfounded clients all Failed name = not (of_named (λ n. has is_offered n all) name)
is_unfounded clients all _ name = false

abbrev pub is_never_sent : (clients all : List Record) → Record → Bool
is_never_sent clients all r = is_unfounded clients all r.kind r.name

-- 4: the name that was offered came when the client was drained; or it was nacked, and offered more often than servers
-- nacked it
abbrev pub is_nacked_though_sent : (all : List Record) → Record → Bool
is_nacked_though_sent all r =
    is_offered r.kind
    && of_named (λ n. has is_refused n all
    || (has is_nacked n all && nat_lt (times is_settled_nack n all) (times is_offered n all))) r.name

abbrev pub is_failed : RecordKind → Bool
is_failed Failed = true
is_failed _ = false

-- 5: what failed was sent, and its reply came or its server didn't lose it
abbrev pub is_lost_but_settled : (all : List Record) → Record → Bool
is_lost_but_settled all r =
    is_failed r.kind
    && of_named (λ n. has is_offered n all && (has is_settled n all || not (has is_lost_one n all))) r.name

-- the end of a dispatch on its tag
abbrev pub frees : RecordKind → Bool
frees (Settled _) = true
frees SettledNack = true
frees (Discarded _) = true
frees Passed = true
frees Nacked = true
frees Unrouted = true
frees Failed = true
frees _ = false

-- 6: a dispatch on an open tag, or the end of one whose tag isn't open under its own name
abbrev pub is_tag_fault : (past : List Record) → Record → Bool
is_tag_fault past r = (begins r.kind && is_some (name_on r.tag past)) || (frees r.kind && not (holds_own past r))

-- 7: an offer after the drain
abbrev pub is_after_drain : (past : List Record) → Record → Bool
is_after_drain past r = is_offered r.kind && stands is_drained_kind past

-- 8: an offer at a reading at which the last lease has lapsed
abbrev pub is_on_lapsed : (past : List Record) → Record → Bool
is_on_lapsed past r = is_offered r.kind && has_lapsed (lease_of past) r.reading

-- 9: an Epoch record that isn't what the records of its session before it lead to
abbrev pub is_bad_epoch : InitMode → SessionId → (past : List Record) → Record → Bool
is_bad_epoch mode id past r = not (leads_to mode id past r r.kind)

-- the least cause of a record: `all` has every record, `clients` those of the clients' sessions, `walked` those before
-- it in the walk, `past` those before it in its session, over all epochs, the newest first
abbrev pub cause_of : InitMode → SessionId → (clients all walked past : List Record) → Record → Option DisagreementCause
cause_of mode id clients all walked past r =
    if is_sent_twice all r then Some SentTwice
    else if is_answered_twice walked r then Some AnsweredTwice
    else if is_never_sent clients all r then Some NeverSent
    else if is_nacked_though_sent all r then Some NackOfSent
    else if is_lost_but_settled all r then Some LostButSettled
    else if is_tag_fault past r then Some TagOpen
    else if is_after_drain past r then Some AfterDrain
    else if is_on_lapsed past r then Some Lapsed
    else if is_bad_epoch mode id past r then Some BadEpoch
    else None
