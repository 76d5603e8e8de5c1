-- One event of the world, computed: what it makes of the world, or why it is refused.
use Rattle.std.specs.Prelude.{ℕ, List, [], ◌∷◌, ◌++◌, ◌+◌, ◌==◌, ◌&&◌, ◌≡◌, ◌≤◌, Bool, false, Option, Some, None, Result, Ok, Err, if◌then◌else◌, length, is_none}
use Rattle.mux_frame.specs.Spelling.{MuxFrame}
use Rattle.mux_frame.specs.declared.frame.TheConstants.{MAX_TAG}
use Rattle.mux_history.specs.declared.session.SessionId.{SessionId}
use Rattle.mux_history.specs.declared.session.SessionId.TheVariants.{Client, Server}
use Rattle.mux_history.specs.declared.session.InitMode.{InitMode}
use Rattle.mux_model.specs.Tags.{is_open}
use Rattle.mux_model.specs.Steps.{Held, TicketOf, PlacedAt, SettledBy, RecallOf, LostOf, Call, FrameCall, NoteCall, SettleCall, NackCall, UnrouteCall, FailCall, DrainCall, OfferCall, RecallCall, ClockCall, PingCall, RetireCall, LoseCall, LoseNextCall, SealCall, RollCall, entries, Refusal, Outcome, Refused, Unrecorded, Recorded}
use Rattle.mux_model.specs.World.{World, Connection, Hand, same_session, with_client, with_server, restarted, outcome, numbered, stepped, next_out}

-- an event that a value in hand goes into
pub data Use : Type 0 where
  Offer : (server now : ℕ) → Use
  Note Settle Nack Unroute Fail : Use
  Recall : (now : ℕ) → Use

-- a step that needs no value
pub data Bare : Type 0 where
  Frame : (frame : MuxFrame) (now : ℕ) → Bare
  Drain LoseNext Seal Roll : Bare
  Lose Clock Ping Retire : (now : ℕ) → Bare

abbrev pub plain_call : Bare → Call
plain_call (Frame f now) = FrameCall f now
plain_call Drain = DrainCall
plain_call LoseNext = LoseNextCall
plain_call Seal = SealCall
plain_call Roll = RollCall
plain_call (Lose now) = LoseCall now
plain_call (Clock now) = ClockCall now
plain_call (Ping now) = PingCall now
plain_call (Retire now) = RetireCall now

pub data Event : Type 0 where
  OpenClient : Event
  OpenServer : (mode : InitMode) → Event
  On : (session : SessionId) (step : Bare) → Event
  Spend : (hand : ℕ) (use_of : Use) → Event
  TakeOutOf : (session : SessionId) → Event
  Restart : Event

pub data EventRefusal : Type 0 where
  NoSuchSession NoSuchHand WrongHand : EventRefusal
  OfSession : (why : Refusal) → EventRefusal

-- where a value goes by an event: the session and its call
abbrev pub spent : Held → Use → Option (SessionId × Call)
spent (TicketOf n f left) (Offer s now) = Some (Server s, OfferCall n f left now)
spent (TicketOf n f left) Nack = Some (Client n.client, NackCall n)
spent (TicketOf n f left) Unroute = Some (Client n.client, UnrouteCall n)
spent (PlacedAt n s t) Note = Some (Client n.client, NoteCall n s t)
spent (SettledBy n r again) Settle = Some (Client n.client, SettleCall n r again)
spent (LostOf n) Fail = Some (Client n.client, FailCall n)
spent (RecallOf n s t why) (Recall now) = Some (Server s, RecallCall n t why now)
spent _ _ = None

abbrev pub is_at : ℕ → SessionId → Connection → Bool
is_at boot id c = c.boot == boot && same_session c.session id

abbrev pub connection_at : ℕ → SessionId → List Connection → Option Connection
connection_at boot id [] = None
connection_at boot id (c ∷ cs) = if is_at boot id c then Some c else connection_at boot id cs

abbrev pub replaced : ℕ → SessionId → Connection → List Connection → List Connection
replaced boot id new [] = []
replaced boot id new (c ∷ cs) = if is_at boot id c then new ∷ cs else c ∷ replaced boot id new cs

abbrev pub hand_at : ℕ → List Hand → Option Hand
hand_at k [] = None
hand_at k (h ∷ hs) = if h.number == k then Some h else hand_at k hs

abbrev pub without_hand : ℕ → List Hand → List Hand
without_hand k [] = []
without_hand k (h ∷ hs) = if h.number == k then hs else h ∷ without_hand k hs

-- the world after an outcome; `rest` is the bag without the value that was used
abbrev pub after_outcome : World → List Hand → SessionId → Connection → Call → Outcome → Result World EventRefusal
after_outcome w rest id c call (Refused why) = Err (OfSession why)
after_outcome w rest id c call Unrecorded = Ok (record w { hands = rest })
after_outcome w rest id c call (Recorded e gives) =
    Ok (record w {
      connections = replaced w.boot id (stepped c call e) w.connections;
      hands = rest ++ numbered w.next_hand gives;
      next_hand = w.next_hand + length gives;
    })

abbrev pub on_session : World → List Hand → ℕ → SessionId → Call → Option Connection → Result World EventRefusal
on_session w rest t id call None = Err NoSuchSession
on_session w rest t id call (Some c) = after_outcome w rest id c call (outcome w.limits c t call)

abbrev pub on_hand : World → ℕ → ℕ → Option (SessionId × Call) → Result World EventRefusal
on_hand w t k None = Err WrongHand
on_hand w t k (Some a) = on_session w (without_hand k w.hands) t a.0 a.1 (connection_at w.boot a.0 w.connections)

abbrev pub spends : World → ℕ → ℕ → Use → Option Hand → Result World EventRefusal
spends w t k by None = Err NoSuchHand
spends w t k by (Some h) = on_hand w t k (spent h.held by)

-- a frame is taken out, if one is left
abbrev pub after_out : World → SessionId → Connection → Option MuxFrame → Result World EventRefusal
after_out w id c None = Ok w
after_out w id c (Some f) =
    Ok (record w { connections = replaced w.boot id (record c { out = c.out + 1 }) w.connections })

abbrev pub takes : World → SessionId → Option Connection → Result World EventRefusal
takes w id None = Err NoSuchSession
takes w id (Some c) = after_out w id c (next_out c)

-- an offer names a server's session, which is looked for before the value in hand
abbrev pub is_missing : World → Use → Bool
is_missing w (Offer server now) = is_none (connection_at w.boot (Server server) w.connections)
is_missing w _ = false

-- The world after an event, if an offer chooses tag `t`. Out of memory stands beside this, and so do the last numbers:
-- what handles events answers what `happens` gives, or Memory, and then nothing has changed.
abbrev pub happens : World → ℕ → Event → Result World EventRefusal
happens w t OpenClient = Ok (with_client w)
happens w t (OpenServer mode) = Ok (with_server mode w)
happens w t (On id step) = on_session w w.hands t id (plain_call step) (connection_at w.boot id w.connections)
happens w t (Spend k by) = if is_missing w by then Err NoSuchSession else spends w t k by (hand_at k w.hands)
happens w t (TakeOutOf id) = takes w id (connection_at w.boot id w.connections)
happens w t Restart = Ok (restarted w)

-- the tag that an offer chooses is one for dispatches, and not open on that server's connection
abbrev pub IsFreeOn : ℕ → ℕ → Option Connection → Type 0
IsFreeOn t server None = Unit {0}
IsFreeOn t server (Some c) = (2 ≤ t) × (t ≤ MAX_TAG) × (is_open (Server server) t (entries c.steps) ≡ false)

-- what holds of the world after an event, where it is accepted
abbrev pub OnAccepted : Result World EventRefusal → (World → Type 0) → Type 0
OnAccepted (Ok w) P = P w
OnAccepted (Err why) P = Unit {0}

abbrev pub IsFreeFor : World → ℕ → Event → Type 0
IsFreeFor w t (Spend k (Offer server now)) = IsFreeOn t server (connection_at w.boot (Server server) w.connections)
IsFreeFor w t _ = Unit {0}

-- an offer that is accepted chooses such a tag; one that is refused chooses none
abbrev pub ChoosesFree : World → ℕ → Event → Type 0
ChoosesFree w t event = OnAccepted (happens w t event) (λ after. IsFreeFor w t event)

-- a refused event changes nothing
abbrev pub world_or : World → Result World EventRefusal → World
world_or w (Ok after) = after
world_or w (Err why) = w

-- the world after a list of events, each with the tag that it would choose
abbrev pub run : World → List (ℕ × Event) → World
run w [] = w
run w (e ∷ es) = run (world_or w (happens w e.0 e.1)) es

abbrev pub AllChooseFree : World → List (ℕ × Event) → Type 0
AllChooseFree w [] = Unit {0}
AllChooseFree w (e ∷ es) = ChoosesFree w e.0 e.1 × AllChooseFree (world_or w (happens w e.0 e.1)) es
