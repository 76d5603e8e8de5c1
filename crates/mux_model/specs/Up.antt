-- The step relation of a server's session, in which the router is the client. An offer may choose its tag; all else is
-- decided.
use Rattle.std.specs.Prelude.{ℕ, pos, List, [], ◌∷◌, ◌+◌, ◌-◌, ◌*◌, ◌==◌, ◌&&◌, ◌||◌, ◌≡◌, ◌≤◌, Bool, true, false, not, Option, Some, None, Result, Ok, Err, if◌then◌else◌, count_by, sum_by, length, max, nat_lt, nat_le, codes}
use Rattle.mux_frame.specs.Spelling.{MuxFrame}
use Rattle.mux_frame.specs.declared.frame.TheConstants.{MAX_TAG}
use Rattle.mux_message.specs.Content.{Content, tdispatch, tdrain, tdiscarded, tlease, tinit, rinit, tping, rping, treq, rerr, other}
use Rattle.mux_message.specs.Kinds.{kind_of, is_final}
use Rattle.mux_message.specs.Parts.{kind_in}
use Rattle.mux_message.specs.Reading.{message_of}
use Rattle.mux_message.specs.declared.fault.MessageFault.{MessageFault}
use Rattle.mux_message.specs.declared.kind.MessageKind.{MessageKind}
use Rattle.mux_message.specs.declared.kind.MessageKind.TheVariants.{Rdrain}
use Rattle.mux_history.specs.declared.name.Name.{Name}
use Rattle.mux_history.specs.declared.record.Record.{Record}
use Rattle.mux_history.specs.Bounds.{Bounds}
use Rattle.mux_history.specs.Lapse.{granted, leased, has_lapsed}
use Rattle.mux_history.specs.declared.session.SessionId.TheVariants.{Server}
use Rattle.mux_history.specs.declared.session.InitMode.{InitMode}
use Rattle.mux_history.specs.declared.session.InitState.{InitState}
use Rattle.mux_history.specs.declared.session.InitState.TheVariants.{Probing, Asked, Open}
use Rattle.mux_history.specs.Standings.{up_standing}
use Rattle.mux_history.specs.declared.kind.Cause.{Cause}
use Rattle.mux_history.specs.declared.kind.RecordKind.TheVariants.{Offered, Settled, SettledNack, Dropped, Ignored, PingDone, Leased, Drained, Ponged, Unsupported, InitAsked, InitDone, Discarding, Clock, Retired, PingSent, Lost, LostOne}
use Rattle.mux_history.specs.declared.kind.RecordKind.{RecordKind}
use Rattle.mux_history.specs.Readings.{has_ended, reading, stands, init_by, is_open as is_ready, is_retiring, ping_outstanding, is_named, is_offered, Sending, sendings, sending_on, least, written, epoch_of}
use Rattle.mux_model.specs.Entries.{Exchange}
use Rattle.mux_model.specs.Tags.{holder, is_open, Holder}
use Rattle.mux_message.specs.Made.{is_probe, rerr_on, rping_on, rdrain_on, tping_on, tinit_on, tdiscarded_for, retag}
use Rattle.mux_model.specs.Steps.{Held, PlacedAt, SettledBy, LostOf, Call, FrameCall, OfferCall, RecallCall, ClockCall, PingCall, RetireCall, LoseCall, LoseNextCall, Step, entries, records, IsClosed, IsBusy, IsSpent, NotMine, NotOpen, IsDrained, IsRetired, IsLapsed, IsFull, Outstanding, Outcome, Refused, Unrecorded, Recorded, NotQuiet, NotFull, LastEpoch, NoRoom, SealCall, RollCall, last_epoch, entry_of, sealing, rolling, closing, cause_of, lease_in, is_nack, queued}

-- a server's session: its limits, its number, and how it is begun
pub record UpSession : Type 0 where
  pub limits : Bounds
  pub number : ℕ
  pub mode : InitMode

abbrev pub lease_taken : Option MuxFrame → Option ℕ
lease_taken None = None
lease_taken (Some f) = lease_in (message_of f)

abbrev pub reading_in : Option Record → ℕ
reading_in None = 0
reading_in (Some r) = r.reading

-- the reading from which on the last lease has lapsed, if there was one; each counts from the reading at which it was
-- taken
abbrev pub lease_end : List Exchange → Option ℕ
lease_end [] = None
lease_end (e ∷ old) = leased (reading_in e.rec) (lease_taken e.taken) (lease_end old)

-- the last lease has lapsed at this reading
abbrev pub is_lapsed : List Exchange → ℕ → Bool
is_lapsed past now = has_lapsed (lease_end past) now

-- an Rdrain was sent
abbrev pub is_rdrain : MessageKind → Bool
is_rdrain Rdrain = true
is_rdrain _ = false

abbrev pub sends_rdrain : Option MuxFrame → Bool
sends_rdrain None = false
sends_rdrain (Some f) = is_rdrain (kind_of f.kind)

abbrev pub is_drained : List Exchange → Bool
is_drained [] = false
is_drained (e ∷ old) = sends_rdrain e.sent || is_drained old

-- how far initiation has come, by the mode and the records
abbrev pub init_of : UpSession → List Record → InitState
init_of s past = init_by s.mode past

-- frames queued; each entry that was not recalled keeps a place for its Tdiscarded
abbrev pub was_not_recalled : Sending → Bool
was_not_recalled e = not e.recalled

abbrev pub free_out : UpSession → List Step → ℕ → ℕ
free_out s past out = s.limits.out - queued (entries past) out - count_by was_not_recalled (sendings (records past))

-- each entry keeps a record for its answer, and one for its recall
abbrev pub kept_for : Sending → ℕ
kept_for e = if e.recalled then 1 else 2

abbrev pub free_records : UpSession → List Step → ℕ
free_records s past =
    s.limits.history - length (written (records past)) - (if has_ended (records past) then 0 else 1)
    - sum_by kept_for (sendings (records past))

-- what a server's frame leads to: the rules in their order
pub data Reaction : Type 0 where
  Shut Full Short : Reaction
  Closes : (cause : Cause) → Reaction
  Settles : (name : Option Name) (again : Option MuxFrame) → Reaction
  Pongs Drains Ignores Unsupports AsksInit EndsInit EndsPing Drops : Reaction
  Leases : (ms : ℕ) → Reaction

abbrev pub asks_other : ℕ → Reaction
asks_other t = if t == 0 then Ignores else Unsupports

abbrev pub leases : Option ℕ → Reaction
leases None = Ignores
leases (Some ms) = Leases ms

-- an Rerr on this tag, and with this text
abbrev pub on_rerr : InitState → (ping : Bool) (tag : ℕ) (why : List ℕ) → Reaction
on_rerr Probing ping t why = if t == 1 then (if is_probe t why then AsksInit else EndsInit) else Drops
on_rerr Asked ping t why = if t == 1 then EndsInit else Drops
on_rerr Open ping t why = if t == 1 && ping then EndsPing else Drops

abbrev pub on_rinit : InitState → (tag : ℕ) → Reaction
on_rinit Asked t = if t == 1 then EndsInit else Drops
on_rinit _ t = Drops

-- a message on this tag with this content, by how far initiation has come and whether a ping is out
abbrev pub plainly : (init : InitState) (ping : Bool) (tag : ℕ) → Content → Reaction
plainly init ping t tping = Pongs
plainly init ping t tdrain = Drains
plainly init ping t (tlease unit howmuch) = leases (granted unit howmuch)
plainly init ping t (tdiscarded _ _) = Ignores
plainly init ping t (treq _) = asks_other t
plainly init ping t (tdispatch _ _ _ _) = asks_other t
plainly init ping t (tinit _ _) = asks_other t
plainly init ping t (other (pos n) _) = if n == 0 then Drops else asks_other t
plainly init ping t (rerr why) = on_rerr init ping t why
plainly init ping t (rinit _ _) = on_rinit init t
plainly init ping t rping = if is_ready init && ping && t == 1 then EndsPing else Drops
plainly init ping t _ = Drops

-- the same by the list, where no entry holds the tag and the message finds room
abbrev pub by_content : UpSession → List Step → ℕ → Content → Reaction
by_content s past t m = plainly (init_of s (records past)) (ping_outstanding (records past)) t m

-- the copy that the last offer on a tag kept: the dispatch as it was taken, where its ticket had a try left
abbrev pub copy_of : Call → Option MuxFrame
copy_of (OfferCall n f left now) = if left == 0 then None else Some f
copy_of _ = None

abbrev pub is_offer_on : ℕ → Option Record → Bool
is_offer_on t None = false
is_offer_on t (Some r) = is_offered r.kind && r.tag == t

abbrev pub copy_on : ℕ → List Step → Option MuxFrame
copy_on t [] = None
copy_on t (s ∷ old) = if is_offer_on t s.entry.rec then copy_of s.call else copy_on t old

-- a final reply on a tag that an entry holds settles it, whatever the room
abbrev pub with_holder : UpSession → List Step → ℕ → ℕ → Content → Option Holder → Reaction
with_holder s past out t m (Some h) = Settles h.name (copy_on t past)
with_holder s past out t m None =
    if free_out s past out == 0 then Full
    else if free_records s past == 0 then Short
    else by_content s past t m

abbrev pub held_for : UpSession → List Step → ℕ → Content → Option Holder
held_for s past t m = if is_final (kind_in m) then holder (Server s.number) t (entries past) else None

-- a frame on this tag with this reading of its body
abbrev pub by_message : UpSession → List Step → ℕ → ℕ → Result Content MessageFault → Reaction
by_message s past out t (Err fault) = Closes (cause_of fault)
by_message s past out t (Ok m) = with_holder s past out t m (held_for s past t m)

abbrev pub reaction : UpSession → List Step → ℕ → MuxFrame → Reaction
reaction s past out f = if has_ended (records past) then Shut else by_message s past out f.tag (message_of f)

abbrev pub settled_by : MuxFrame → Option Name → Option MuxFrame → List Held
settled_by f None again = []
settled_by f (Some n) again = SettledBy n f again ∷ []

abbrev pub settled_kind : MuxFrame → RecordKind
settled_kind f = if is_nack f then SettledNack else Settled f.kind

abbrev pub reacted : UpSession → List Step → MuxFrame → ℕ → Reaction → Outcome
reacted s past f now Shut = Refused IsClosed
reacted s past f now Full = Refused IsBusy
reacted s past f now Short = Refused IsSpent
reacted s past f now (Closes cause) = Recorded (closing (records past) now cause) []
reacted s past f now (Settles n again) =
    Recorded (entry_of (records past) now (settled_kind f) f.tag n (Some f) None) (settled_by f n again)
reacted s past f now Pongs =
    Recorded (entry_of (records past) now Ponged f.tag None (Some f) (Some (rping_on f.tag))) []
reacted s past f now Drains =
    Recorded (entry_of (records past) now Drained f.tag None (Some f) (Some (rdrain_on f.tag))) []
reacted s past f now (Leases ms) = Recorded (entry_of (records past) now (Leased ms) f.tag None (Some f) None) []
reacted s past f now Ignores = Recorded (entry_of (records past) now Ignored f.tag None (Some f) None) []
reacted s past f now Unsupports =
    Recorded (entry_of (records past) now Unsupported f.tag None (Some f) (Some (rerr_on f.tag (codes "unsupported"))))
    []
reacted s past f now AsksInit =
    Recorded (entry_of (records past) now InitAsked f.tag None (Some f) (Some (tinit_on 1))) []
reacted s past f now EndsInit = Recorded (entry_of (records past) now InitDone f.tag None (Some f) None) []
reacted s past f now EndsPing = Recorded (entry_of (records past) now PingDone f.tag None (Some f) None) []
reacted s past f now Drops = Recorded (entry_of (records past) now Dropped f.tag None (Some f) None) []

-- the tags of dispatches
abbrev pub is_dispatch_tag : ℕ → Bool
is_dispatch_tag t = nat_le 2 t && nat_le t MAX_TAG

-- an offer, if it chooses tag `t`; the causes of a refusal in their order
abbrev pub offer : UpSession → List Step → ℕ → (t : ℕ) → Name → MuxFrame → ℕ → Outcome
offer s past out t n f now =
    if has_ended (records past) then Refused IsClosed
    else if not (is_ready (init_of s (records past))) then Refused NotOpen
    else if is_drained (entries past) then Refused IsDrained
    else if stands is_retiring (records past) then Refused IsRetired
    else if is_lapsed (entries past) (max (reading (records past)) now) then Refused IsLapsed
    else if nat_le s.limits.window (length (sendings (records past))) then Refused IsFull
    else if nat_lt (free_out s past out) 2 then Refused IsFull
    else if nat_lt (free_records s past) 3 then Refused IsSpent
    else Recorded (entry_of (records past) now Offered t (Some n) None (Some (retag t f))) (PlacedAt n s.number t ∷ [])

-- the entry at that tag has that very name, and was not recalled
abbrev pub is_recallable : Name → Option Sending → Bool
is_recallable n None = false
is_recallable n (Some e) = is_named n e.name && not e.recalled

abbrev pub recall : UpSession → List Step → Name → ℕ → List ℕ → ℕ → Outcome
recall s past n t why now =
    if has_ended (records past) then Unrecorded
    else if is_recallable n (sending_on t (sendings (records past)))
    then Recorded (entry_of (records past) now Discarding t (Some n) None (Some (tdiscarded_for t why))) []
    else Unrecorded

abbrev pub lost_of : Option Name → List Held
lost_of None = []
lost_of (Some n) = LostOf n ∷ []

abbrev pub next_lost : List Record → Option Sending → Outcome
next_lost past None = Unrecorded
next_lost past (Some e) = Recorded (entry_of past 0 LostOne e.tag e.name None None) (lost_of e.name)

-- what a call of a server's session may answer, if an offer chooses tag `t`; `out` frames were taken out so far
abbrev pub up : UpSession → List Step → ℕ → (t : ℕ) → Call → Outcome
up s past out t (FrameCall f now) = reacted s past f now (reaction s past out f)
up s past out t (OfferCall n f left now) = offer s past out t n f now
up s past out t (RecallCall n tag why now) = recall s past n tag why now
up s past out t (ClockCall now) =
    if has_ended (records past) then Refused IsClosed
    else if free_records s past == 0 then Refused IsSpent
    else Recorded (entry_of (records past) now Clock 0 None None None) []
up s past out t (RetireCall now) =
    if has_ended (records past) then Refused IsClosed
    else if free_records s past == 0 then Refused IsSpent
    else Recorded (entry_of (records past) now Retired 0 None None None) []
up s past out t (PingCall now) =
    if has_ended (records past) then Refused IsClosed
    else if not (is_ready (init_of s (records past))) then Refused NotOpen
    else if ping_outstanding (records past) then Refused Outstanding
    else if free_out s past out == 0 then Refused IsBusy
    else if free_records s past == 0 then Refused IsSpent
    else Recorded (entry_of (records past) now PingSent 1 None None (Some (tping_on 1))) []
up s past out t (LoseCall now) =
    if has_ended (records past) then Unrecorded else Recorded (entry_of (records past) now Lost 0 None None None) []
up s past out t LoseNextCall =
    if has_ended (records past) then next_lost (records past) (least (sendings (records past))) else Unrecorded
up s past out t SealCall =
    if has_ended (records past) then Refused IsClosed
    else if nat_lt 0 (length (sendings (records past))) || nat_lt 0 (queued (entries past) out) then Refused NotQuiet
    else if nat_lt s.limits.history (4 * free_records s past) then Refused NotFull
    else if nat_le last_epoch (epoch_of (records past)) then Refused LastEpoch
    else Recorded (sealing (records past) (up_standing s.mode (records past))) []
up s past out t RollCall =
    if has_ended (records past) then Refused IsClosed
    else if nat_lt s.limits.history (2 * (length (sendings (records past)) + sum_by kept_for (sendings (records past))))
    then Refused NoRoom
    else if nat_le last_epoch (epoch_of (records past)) then Refused LastEpoch
    else Recorded (rolling (records past)) []
up s past out t _ = Refused NotMine

-- the tag that an offer chooses is one for dispatches, and not open
abbrev pub MayChoose : UpSession → List Step → (t : ℕ) → Call → Type 0
MayChoose s past t (OfferCall n f left now) =
    (2 ≤ t) × (t ≤ MAX_TAG) × (is_open (Server s.number) t (entries past) ≡ false)
MayChoose s past t _ = Unit {0}
