-- THE FIRST LAW: where each value and each frame that goes out to a client comes from.
use Rattle.std.specs.Prelude.{ℕ, List, [], ◌∷◌, ◌≡◌, ◌⊎◌, Option, Some, None, codes, slice_get}
use Rattle.std.specs.List.{AllByRecursion}
use Rattle.mux_frame.specs.Spelling.{MuxFrame}
use Rattle.mux_message.specs.Kinds.{kind_of}
use Rattle.mux_message.specs.Made.{nack_on, rerr_on, retag, tdrain_on}
use Rattle.mux_message.specs.Spellings.{normal}
use Rattle.mux_message.specs.declared.kind.MessageKind.TheVariants.{Rdispatch}
use Rattle.mux_history.specs.declared.session.SessionId.{SessionId}
use Rattle.mux_history.specs.declared.session.SessionId.TheVariants.{Client, Server}
use Rattle.mux_model.specs.Steps.{Call, FrameCall, SettleCall, NackCall, UnrouteCall, FailCall, DrainCall, OfferCall, LoseNextCall, Held, TicketOf, PlacedAt, SettledBy, RecallOf, LostOf}
use Rattle.mux_model.specs.World.{IsSpentBy, NeedsNone}
use Rattle.hub_log.specs.declared.terms.Terms.{Terms}
use Rattle.hub_log.specs.Moves.{Claim, Deed, Did, TookOut, Move, EachMove, move_at, value_of}
use Rattle.hub_log.specs.Bag.{IsBag}

-- whose call gives such a value. A reply is the server's frame as it came, a ticket the client's; a ticket comes again
-- with the dispatch that came back with its reply
abbrev pub IsSource : Held → SessionId → Call → Type 0
IsSource (TicketOf n f left) (Client k) (FrameCall m now) = (m ≡ f) × (n.client ≡ k)
IsSource (TicketOf n f left) (Client k) (SettleCall m reply again) = (again ≡ Some f) × (m ≡ n)
IsSource (PlacedAt n server tag) (Server k) (OfferCall m f left now) = (m ≡ n) × (server ≡ k)
IsSource (SettledBy n reply again) (Server k) (FrameCall m now) = m ≡ reply
IsSource (RecallOf n server tag why) (Client k) call = Unit {0}
IsSource (LostOf n) (Server k) LoseNextCall = Unit {0}
IsSource _ _ _ = ⊥

-- a move gave this value, by such a call
abbrev pub Gave : (which : ℕ) → Held → SessionId → Deed → Type 0
Gave which h id (Did call entry gives) = (slice_get gives which ≡ Some h) × IsSource h id call
Gave which h id _ = ⊥

abbrev pub WasGiven : Claim → Held → List Move → Type 0
WasGiven c h log = (m : Move) × (move_at c.place log ≡ Some m) × Gave c.which h m.session m.deed

-- in such a log each value has its source
abbrev pub EachValueHasItsSource : Type 0
EachValueHasItsSource =
    (t : Terms) (log : List Move) → IsBag t log
    → (c : Claim) (h : Held) → value_of c log ≡ Some h → WasGiven c h log

-- what a call of a client's session sends: the server's reply in all but its tag; the router's own nack or word; or, at
-- once on what the client sent, anything but an Rdispatch that isn't such a nack
abbrev pub IsMade : MuxFrame → Call → Type 0
IsMade f (SettleCall n reply again) = f ≡ retag f.tag (normal reply)
IsMade f (NackCall n) = f ≡ nack_on f.tag
IsMade f (UnrouteCall n) = f ≡ rerr_on f.tag (codes "no route")
IsMade f (FailCall n) = f ≡ rerr_on f.tag (codes "upstream lost")
IsMade f (FrameCall m now) = kind_of f.kind ≡ Rdispatch → f ≡ nack_on f.tag
IsMade f DrainCall = f ≡ tdrain_on 1
IsMade f _ = ⊥

-- what the call was handed stands in the log, and so does the move that gave it
abbrev pub IsBacked : SessionId → Call → Option Claim → List Move → Type 0
IsBacked id call None log = NeedsNone call
IsBacked id call (Some c) log = (h : Held) × WasGiven c h log × IsSpentBy h id call

-- this move sent the frame
abbrev pub Sent : MuxFrame → SessionId → Deed → Option Claim → List Move → Type 0
Sent f id (Did call entry gives) uses old = (entry.sent ≡ Some f) × IsMade f call × IsBacked id call uses old
Sent f id _ uses old = ⊥

-- P of some move and those before it
abbrev pub SomeMove : (Move → List Move → Type 0) → List Move → Type 0
SomeMove P [] = ⊥
SomeMove P (m ∷ old) = P m old ⊎ SomeMove P old

abbrev pub StandsFor : ℕ → List Move → MuxFrame → Type 0
StandsFor k old f = SomeMove (λ m before. (m.session ≡ Client k) × Sent f m.session m.deed m.uses before) old

abbrev pub AreSent : SessionId → Deed → List Move → Type 0
AreSent (Client k) (TookOut frames) old = AllByRecursion (StandsFor k old) frames
AreSent _ _ old = Unit {0}

-- in such a log each frame that goes out to a client was sent by a move of its own session: if that passed on a reply,
-- then behind the server's move on that very reply, which gave it to that very name
abbrev pub EveryFrameStands : Type 0
EveryFrameStands =
    (t : Terms) (log : List Move) → IsBag t log → EachMove (λ m old. AreSent m.session m.deed old) log

-- no two moves use one value
abbrev pub EachValueIsUsedOnce : Type 0
EachValueIsUsedOnce =
    (t : Terms) (log : List Move) → IsBag t log
    → (i j : ℕ) (m n : Move) (c : Claim) → move_at i log ≡ Some m → move_at j log ≡ Some n
    → m.uses ≡ Some c → n.uses ≡ Some c → i ≡ j
