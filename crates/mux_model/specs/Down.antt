-- The step relation of a client's session, in which the router is the server. Everything is decided.
use Rattle.std.specs.Prelude.{ℕ, pos, List, [], ◌∷◌, ◌+◌, ◌-◌, ◌*◌, ◌^◌, ◌==◌, ◌&&◌, ◌||◌, Bool, not, true, false, Option, Some, None, Result, Ok, Err, if◌then◌else◌, count_by, sum_by, length, reverse, find, codes, nat_lt, nat_le}
use Rattle.mux_frame.specs.Spelling.{MuxFrame}
use Rattle.mux_message.specs.Content.{Content, tdispatch, tdrain, rdrain, tdiscarded, tlease, tinit, tping, treq, rerr, other}
use Rattle.mux_message.specs.Kinds.{is_asking, is_dispatch}
use Rattle.mux_message.specs.Parts.{kind_in}
use Rattle.mux_message.specs.Reading.{message_of}
use Rattle.mux_message.specs.declared.fault.MessageFault.{MessageFault}
use Rattle.mux_history.specs.declared.name.Name.{Name}
use Rattle.mux_history.specs.declared.record.Record.{Record}
use Rattle.mux_history.specs.Bounds.{Bounds}
use Rattle.mux_history.specs.declared.session.SessionId.TheVariants.{Client}
use Rattle.mux_history.specs.declared.kind.Cause.{Cause}
use Rattle.mux_history.specs.declared.kind.Cause.TheVariants.{TagZero, TagInUse}
use Rattle.mux_history.specs.declared.kind.RecordKind.TheVariants.{Took, TookDrained, Discarded, Ponged, InitDone, Echoed, OutOfPlace, Unsupported, DrainAcked, Ignored, Noted, Passed, Retried, Nacked, Unrouted, Failed, Late, DrainAsked, Lost, Recalled}
use Rattle.mux_history.specs.declared.kind.RecordKind.{RecordKind}
use Rattle.mux_history.specs.Readings.{has_ended, dispatches, note_due, answer_due, is_noted, gave_recall, book, drain_of, is_running, is_draining, is_acked, is_fresh, same_name, is_named, tag_of, written, is_epoch, is_retried, times_retried, epoch_of}
use Rattle.mux_history.specs.Standings.{down_standing}
use Rattle.mux_model.specs.Entries.{Exchange}
use Rattle.mux_model.specs.Tags.{holder, is_open, name_held}
use Rattle.mux_message.specs.Made.{is_probe, nack_on, rerr_on, rdiscarded_on, rping_on, rinit_on, tdrain_on, retag}
use Rattle.mux_message.specs.Spellings.{normal}
use Rattle.mux_model.specs.Steps.{Held, TicketOf, RecallOf, Call, FrameCall, NoteCall, SettleCall, NackCall, UnrouteCall, FailCall, DrainCall, LoseCall, LoseNextCall, Step, entries, records, IsClosed, IsBusy, IsSpent, NotMine, AlreadyDraining, Outcome, Refused, Unrecorded, Recorded, NotQuiet, NotFull, LastEpoch, NoRoom, SealCall, RollCall, entry_of, last_epoch, sealing, rolling, closing, cause_of, discard_in, is_nack, queued}

-- a client's session: its limits, the boot, and its number
pub record DownSession : Type 0 where
  pub limits : Bounds
  pub boot : ℕ
  pub number : ℕ

-- an entry is open: its tag is open, held by it, and the list has not ended
abbrev pub is_held : DownSession → Name → List Step → Bool
is_held c n past =
    if has_ended (records past)
    then false
    else is_named n (name_held (holder (Client c.number) (tag_of n (records past)) (entries past)))

-- the place that was noted of a name, until it may be sent again, and not over a seal
abbrev pub forgets_place : Name → Option Record → Bool
forgets_place n None = false
forgets_place n (Some r) = is_epoch r.kind || (is_retried r.kind && is_named n r.name)

abbrev pub place_in : Name → Call → Option (ℕ × ℕ) → Option (ℕ × ℕ)
place_in n (NoteCall m server tag) before = if same_name n m then Some (server, tag) else before
place_in n _ before = before

abbrev pub noted_place : Name → List Step → Option (ℕ × ℕ)
noted_place n [] = None
noted_place n (s ∷ old) = if forgets_place n s.entry.rec then None else place_in n s.call (noted_place n old)

-- the tries that a name has left
abbrev pub left_of : Bounds → Name → List Record → ℕ
left_of limits n past = limits.retries - times_retried n past

-- the reason of the Tdiscarded by which a name was discarded, else the router's own
abbrev pub why_of : Option (ℕ × List ℕ) → List ℕ → List ℕ
why_of None before = before
why_of (Some d) before = d.1

abbrev pub discard_of : Option MuxFrame → Option (ℕ × List ℕ)
discard_of None = None
discard_of (Some f) = discard_in (message_of f)

abbrev pub is_discarded : RecordKind → Bool
is_discarded (Discarded _) = true
is_discarded _ = false

abbrev pub is_discard_of : Name → Option Record → Bool
is_discard_of n None = false
is_discard_of n (Some r) = is_discarded r.kind && is_named n r.name

abbrev pub reason_of : Name → List Exchange → List ℕ
reason_of n [] = codes "client gone"
reason_of n (e ∷ old) = if is_discard_of n e.rec then why_of (discard_of e.taken) (reason_of n old) else reason_of n old

-- each open entry keeps a place for its reply
abbrev pub free_out : DownSession → List Step → ℕ → ℕ
free_out c past out = c.limits.out - queued (entries past) out - count_by (λ n. is_held c n past) (book (records past))

-- each entry keeps a record for its note, one for its answer, and one for its recall; while it is open, two more for
-- each try left
abbrev pub kept_for : Bounds → (is_held : Name → Bool) → List Record → Name → ℕ
kept_for limits is_held past n =
    (if note_due n past then 1 else 0)
    + (if answer_due n past then (if gave_recall n past then 1 else 2) else 0)
    + (if is_held n then 2 * left_of limits n past else 0)

abbrev pub kept_in_all : DownSession → List Step → ℕ
kept_in_all c past = sum_by (kept_for c.limits (λ n. is_held c n past) (records past)) (book (records past))

abbrev pub free_records : DownSession → List Step → ℕ
free_records c past =
    c.limits.history - length (written (records past)) - (if has_ended (records past) then 0 else 1)
    - sum_by (kept_for c.limits (λ n. is_held c n past) (records past)) (book (records past))

-- a dispatch that is taken needs its own record and those that its entry keeps
abbrev pub for_taking : Bounds → ℕ
for_taking limits = 4 + 2 * limits.retries

-- what a client's frame leads to: the rules in their order
pub data Reaction : Type 0 where
  Shut Full Short : Reaction
  Closes : (cause : Cause) → Reaction
  NacksDrained Takes Pongs Inits Misplaced Unsupports Echoes Acks Ignores : Reaction
  Discards : (tag : ℕ) (why : List ℕ) → Reaction

abbrev pub asks_other : ℕ → Reaction
asks_other t = if t == 0 then Ignores else Unsupports

-- a Tdiscarded of this tag
abbrev pub discards : DownSession → List Step → ℕ → List ℕ → Reaction
discards c past t why = if is_open (Client c.number) t (entries past) then Discards t why else Ignores

-- a message on this tag with this content, where it finds room
abbrev pub by_content : DownSession → List Step → ℕ → Content → Reaction
by_content c past t (tdispatch _ _ _ _) = if is_acked (drain_of (records past)) then NacksDrained else Takes
by_content c past t (tdiscarded u why) = discards c past u why
by_content c past t tping = Pongs
by_content c past t (tinit _ _) = if is_fresh (records past) then Inits else Misplaced
by_content c past t (treq _) = asks_other t
by_content c past t tdrain = asks_other t
by_content c past t (tlease _ _) = asks_other t
by_content c past t (other (pos n) _) = if n == 0 then Ignores else asks_other t
by_content c past t (rerr why) = if is_probe t why && is_fresh (records past) then Echoes else Ignores
by_content c past t rdrain =
    if t == 1 && is_draining (drain_of (records past)) then Acks else Ignores
by_content c past t _ = Ignores

-- the last sequence number
abbrev pub last_seq : ℕ
last_seq = 2 ^ 64 - 2

abbrev pub with_room : DownSession → List Step → ℕ → ℕ → Content → Reaction
with_room c past out t m =
    let taking = is_dispatch (kind_in m) && not (is_acked (drain_of (records past))) in
    if free_out c past out == 0 then Full
    else if taking && nat_le c.limits.window (length (book (records past))) then Full
    else if nat_lt (free_records c past) (if taking then for_taking c.limits else 1) then Short
    else if is_dispatch (kind_in m) && nat_le last_seq (dispatches (records past)) then Short
    else by_content c past t m

-- a frame on this tag with this reading of its body
abbrev pub by_message : DownSession → List Step → ℕ → ℕ → Result Content MessageFault → Reaction
by_message c past out t (Err fault) = Closes (cause_of fault)
by_message c past out t (Ok m) =
    if is_dispatch (kind_in m) && t == 0 then Closes TagZero
    else if is_asking (kind_in m) && is_open (Client c.number) t (entries past) then Closes TagInUse
    else with_room c past out t m

abbrev pub reaction : DownSession → List Step → ℕ → MuxFrame → Reaction
reaction c past out f = if has_ended (records past) then Shut else by_message c past out f.tag (message_of f)

-- the next name of the client
abbrev pub next_name : DownSession → List Step → Name
next_name c past = record { boot = c.boot; client = c.number; seq = dispatches (records past) + 1 }

abbrev pub recall_to : Name → List ℕ → Option (ℕ × ℕ) → List Held
recall_to n why None = []
recall_to n why (Some p) = RecallOf n p.0 p.1 why ∷ []

abbrev pub some_of : {A : Type 0} → List A → Bool
some_of [] = false
some_of (x ∷ xs) = true

-- a Tdiscarded of an open tag: the entry gives its Recall if its place was noted
abbrev pub discarded : List Step → ℕ → MuxFrame → ℕ → List ℕ → Option Name → Outcome
discarded past now f t why None =
    Recorded (entry_of (records past) now (Discarded false) t None (Some f) (Some (rdiscarded_on t))) []
discarded past now f t why (Some n) =
    let given = recall_to n why (noted_place n past) in
    Recorded (entry_of (records past) now (Discarded (some_of given)) t (Some n) (Some f) (Some (rdiscarded_on t)))
    given

abbrev pub reacted : DownSession → List Step → MuxFrame → ℕ → Reaction → Outcome
reacted c past f now Shut = Refused IsClosed
reacted c past f now Full = Refused IsBusy
reacted c past f now Short = Refused IsSpent
reacted c past f now (Closes cause) = Recorded (closing (records past) now cause) []
reacted c past f now NacksDrained =
    Recorded (entry_of (records past) now TookDrained f.tag (Some (next_name c past)) (Some f) (Some (nack_on f.tag)))
    []
reacted c past f now Takes =
    Recorded (entry_of (records past) now Took f.tag (Some (next_name c past)) (Some f) None)
    (TicketOf (next_name c past) f c.limits.retries ∷ [])
reacted c past f now (Discards t why) =
    discarded past now f t why (name_held (holder (Client c.number) t (entries past)))
reacted c past f now Pongs =
    Recorded (entry_of (records past) now Ponged f.tag None (Some f) (Some (rping_on f.tag))) []
reacted c past f now Inits =
    Recorded (entry_of (records past) now InitDone f.tag None (Some f) (Some (rinit_on f.tag))) []
reacted c past f now Misplaced =
    Recorded
    (entry_of (records past) now OutOfPlace f.tag None (Some f) (Some (rerr_on f.tag (codes "tinit out of place"))))
    []
reacted c past f now Unsupports =
    Recorded (entry_of (records past) now Unsupported f.tag None (Some f) (Some (rerr_on f.tag (codes "unsupported"))))
    []
reacted c past f now Echoes = Recorded (entry_of (records past) now Echoed f.tag None (Some f) (Some f)) []
reacted c past f now Acks = Recorded (entry_of (records past) now DrainAcked f.tag None (Some f) None) []
reacted c past f now Ignores = Recorded (entry_of (records past) now Ignored f.tag None (Some f) None) []

-- an answer to a name: it goes out while the entry is open, and else is late
abbrev pub answer : DownSession → List Step → Name → RecordKind → (whole : Bool) → (ℕ → MuxFrame) → Outcome
answer c past n kind whole reply =
    let t = tag_of n (records past) in
    if is_held c n past
    then Recorded (entry_of (records past) 0 kind t (Some n) None (Some (reply t))) []
    else Recorded (entry_of (records past) 0 (Late whole) t (Some n) None None) []

-- the reply to a name goes out, or is late
abbrev pub pass : DownSession → List Step → Name → MuxFrame → Outcome
pass c past n reply = answer c past n Passed false (λ t. retag t (normal reply))

-- a nack of an open entry whose note has come: the dispatch may be sent again, where a try is left
abbrev pub settle : DownSession → List Step → Name → MuxFrame → Option MuxFrame → Outcome
settle c past n reply None = pass c past n reply
settle c past n reply (Some f) =
    let left = left_of c.limits n (records past) in
    if is_nack reply && is_held c n past && not (note_due n (records past)) && nat_lt 0 left
    then Recorded (entry_of (records past) 0 Retried (tag_of n (records past)) (Some n) None None)
    (TicketOf n f (left - 1) ∷ [])
    else pass c past n reply

abbrev pub is_mine : DownSession → Name → Bool
is_mine c n = n.boot == c.boot && n.client == c.number

abbrev pub note : DownSession → List Step → Name → ℕ → ℕ → Outcome
note c past n server tag =
    let given =
    if is_held c n past then []
    else if answer_due n (records past) then RecallOf n server tag (reason_of n (entries past)) ∷ []
    else [] in
    if is_mine c n && note_due n (records past)
    then Recorded (entry_of (records past) 0 (Noted (some_of given)) (tag_of n (records past)) (Some n) None None) given
    else Refused NotMine

-- the least name that still owes a recall once the list has ended
abbrev pub owes_recall : List Record → Name → Bool
owes_recall past n = is_noted n past && answer_due n past && not (gave_recall n past)

abbrev pub next_recalled : List Record → Option Name
next_recalled past = find (owes_recall past) (reverse (book past))

abbrev pub next_recall : DownSession → List Step → Option Name → Outcome
next_recall c past None = Unrecorded
next_recall c past (Some n) =
    Recorded (entry_of (records past) 0 Recalled (tag_of n (records past)) (Some n) None None)
    (recall_to n (reason_of n (entries past)) (noted_place n past))

-- what a call of a client's session may answer: `out` frames were taken out so far
abbrev pub down : DownSession → List Step → ℕ → Call → Outcome
down c past out (FrameCall f now) = reacted c past f now (reaction c past out f)
down c past out (NoteCall n server tag) = note c past n server tag
down c past out (SettleCall n reply again) =
    if is_mine c n && answer_due n (records past) then settle c past n reply again else Refused NotMine
down c past out (FailCall n) =
    if is_mine c n && answer_due n (records past)
    then answer c past n Failed false (λ t. rerr_on t (codes "upstream lost"))
    else Refused NotMine
down c past out (NackCall n) =
    if is_mine c n && answer_due n (records past) && note_due n (records past)
    then answer c past n Nacked true nack_on
    else Refused NotMine
down c past out (UnrouteCall n) =
    if is_mine c n && answer_due n (records past) && note_due n (records past)
    then answer c past n Unrouted true (λ t. rerr_on t (codes "no route")) else Refused NotMine
down c past out DrainCall =
    if has_ended (records past) then Refused IsClosed
    else if not (is_running (drain_of (records past))) then Refused AlreadyDraining
    else if free_out c past out == 0 then Refused IsBusy
    else if free_records c past == 0 then Refused IsSpent
    else Recorded (entry_of (records past) 0 DrainAsked 1 None None (Some (tdrain_on 1))) []
down c past out (LoseCall now) =
    if has_ended (records past) then Unrecorded else Recorded (entry_of (records past) now Lost 0 None None None) []
down c past out LoseNextCall =
    if has_ended (records past)
    then next_recall c past (next_recalled (records past))
    else Unrecorded
down c past out SealCall =
    if has_ended (records past) then Refused IsClosed
    else if nat_lt 0 (length (book (records past))) || nat_lt 0 (queued (entries past) out) then Refused NotQuiet
    else if nat_lt c.limits.history (4 * free_records c past) then Refused NotFull
    else if nat_le last_epoch (epoch_of (records past)) then Refused LastEpoch
    else Recorded (sealing (records past) (down_standing (records past))) []
down c past out RollCall =
    if has_ended (records past) then Refused IsClosed
    else if nat_lt c.limits.history (2 * (length (book (records past)) + kept_in_all c past)) then Refused NoRoom
    else if nat_le last_epoch (epoch_of (records past)) then Refused LastEpoch
    else Recorded (rolling (records past)) []
down c past out _ = Refused NotMine
