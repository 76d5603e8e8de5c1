-- What a record tells of the messages of its step: whether there was one, of what kind and on what tag; of a final
-- reply of a server whether it is a nack; and the router's own answers whole. Of other bodies it tells a lease and the
-- tag that is discarded, no more.
use Rattle.std.specs.Prelude.{ℕ, List, [], ◌∷◌, ◌≡◌, Bool, true, false, Option, Some, None, codes}
use Rattle.mux_frame.specs.Spelling.{MuxFrame}
use Rattle.mux_message.specs.Kinds.{kind_of, is_dispatch, is_final}
use Rattle.mux_message.specs.declared.kind.MessageKind.TheVariants.{Rerr}
use Rattle.mux_history.specs.declared.record.Record.{Record}
use Rattle.mux_history.specs.declared.kind.RecordKind.{RecordKind}
use Rattle.mux_history.specs.declared.kind.RecordKind.TheVariants.{Took, TookDrained, Discarded, Echoed, OutOfPlace, Unsupported, Noted, Passed, Retried, Nacked, Unrouted, Failed, Late, Closed, Lost, Recalled, Offered, Settled, SettledNack, Leased, Drained, Clock, Retired, LostOne, Epoch, Rolled}
use Rattle.mux_history.specs.declared.session.SessionId.{SessionId}
use Rattle.mux_history.specs.declared.session.SessionId.TheVariants.{Client, Server}
use Rattle.mux_message.specs.Made.{nack_on, rerr_on, rdiscarded_on}
use Rattle.mux_model.specs.Entries.{Exchange}
use Rattle.mux_model.specs.Tags.{is_open}
use Rattle.mux_model.specs.Steps.{Step, entries, is_nack}
use Rattle.mux_model.specs.Up.{lease_taken, sends_rdrain}
use Rattle.mux_model.specs.Legal.{OnFinal, OnDispatch, IsDiscardOf, reading_at}

-- a Tdispatch on this tag
abbrev pub IsDispatchOn : ℕ → Option MuxFrame → Type 0
IsDispatchOn t None = ⊥
IsDispatchOn t (Some f) = (is_dispatch (kind_of f.kind) ≡ true) × (f.tag ≡ t)

-- a final reply on this tag
abbrev pub IsFinalOn : ℕ → Option MuxFrame → Type 0
IsFinalOn t None = ⊥
IsFinalOn t (Some f) = (is_final (kind_of f.kind) ≡ true) × (f.tag ≡ t)

-- such a reply that is a nack, or that is none
abbrev pub IsReplyOn : (nack : Bool) → ℕ → Option MuxFrame → Type 0
IsReplyOn nack t None = ⊥
IsReplyOn nack t (Some f) = (is_final (kind_of f.kind) ≡ true) × (f.tag ≡ t) × (is_nack f ≡ nack)

abbrev pub IsRerrOn : ℕ → Option MuxFrame → Type 0
IsRerrOn t None = ⊥
IsRerrOn t (Some f) = (kind_of f.kind ≡ Rerr) × (f.tag ≡ t)

-- a message on this tag that is no Tdispatch
abbrev pub IsOtherOn : ℕ → Option MuxFrame → Type 0
IsOtherOn t None = ⊥
IsOtherOn t (Some f) = (is_dispatch (kind_of f.kind) ≡ false) × (f.tag ≡ t)

-- no Tdispatch, and no final reply
abbrev pub IsNoDispatch : Option MuxFrame → Type 0
IsNoDispatch m = OnDispatch m (λ f. ⊥)

abbrev pub IsNoFinal : Option MuxFrame → Type 0
IsNoFinal m = OnFinal m (λ f. ⊥)

-- if it is a final reply, it is a stray
abbrev pub IsStray : SessionId → List Exchange → Option MuxFrame → Type 0
IsStray id old m = OnFinal m (λ f. is_open id f.tag old ≡ false)

abbrev pub IsNothing : (taken sent : Option MuxFrame) → Type 0
IsNothing taken sent = (taken ≡ None) × (sent ≡ None)

-- a client's session: what the client sent that was taken, and what was sent to it
abbrev pub TellsDown : Record → RecordKind → (taken sent : Option MuxFrame) → Type 0
TellsDown r Took taken sent = IsDispatchOn r.tag taken × (sent ≡ None)
TellsDown r TookDrained taken sent = IsDispatchOn r.tag taken × (sent ≡ Some (nack_on r.tag))
TellsDown r (Discarded recalled) taken sent = IsDiscardOf r.tag taken × (sent ≡ Some (rdiscarded_on r.tag))
TellsDown r Passed taken sent = (taken ≡ None) × IsFinalOn r.tag sent
TellsDown r Nacked taken sent = (taken ≡ None) × (sent ≡ Some (nack_on r.tag))
TellsDown r Unrouted taken sent = (taken ≡ None) × (sent ≡ Some (rerr_on r.tag (codes "no route")))
TellsDown r Failed taken sent = (taken ≡ None) × (sent ≡ Some (rerr_on r.tag (codes "upstream lost")))
TellsDown r Echoed taken sent = IsRerrOn r.tag taken × (sent ≡ taken)
TellsDown r OutOfPlace taken sent = IsOtherOn r.tag taken × (sent ≡ Some (rerr_on r.tag (codes "tinit out of place")))
TellsDown r Unsupported taken sent = IsOtherOn r.tag taken × (sent ≡ Some (rerr_on r.tag (codes "unsupported")))
TellsDown r (Noted recalled) taken sent = IsNothing taken sent
TellsDown r Retried taken sent = IsNothing taken sent
TellsDown r (Late whole) taken sent = IsNothing taken sent
TellsDown r (Closed cause) taken sent = IsNothing taken sent
TellsDown r Lost taken sent = IsNothing taken sent
TellsDown r Recalled taken sent = IsNothing taken sent
TellsDown r (Epoch number standing) taken sent = IsNothing taken sent
TellsDown r (Rolled number) taken sent = IsNothing taken sent
TellsDown r _ taken sent = IsNoDispatch taken × IsNoFinal sent

-- a server's session: what the server sent that was taken, and what was sent to it
abbrev pub TellsUp : SessionId → List Exchange → Record → RecordKind → (taken sent : Option MuxFrame) → Type 0
TellsUp id old r Offered taken sent = (taken ≡ None) × IsDispatchOn r.tag sent
TellsUp id old r (Settled kind) taken sent = IsReplyOn false r.tag taken × (sent ≡ None)
TellsUp id old r SettledNack taken sent = IsReplyOn true r.tag taken × (sent ≡ None)
TellsUp id old r (Leased ms) taken sent = (lease_taken taken ≡ Some ms) × (sent ≡ None)
TellsUp id old r Drained taken sent = IsStray id old taken × (lease_taken taken ≡ None) × (sends_rdrain sent ≡ true)
TellsUp id old r Clock taken sent = IsNothing taken sent
TellsUp id old r Retired taken sent = IsNothing taken sent
TellsUp id old r (Closed cause) taken sent = IsNothing taken sent
TellsUp id old r Lost taken sent = IsNothing taken sent
TellsUp id old r LostOne taken sent = IsNothing taken sent
TellsUp id old r (Epoch number standing) taken sent = IsNothing taken sent
TellsUp id old r (Rolled number) taken sent = IsNothing taken sent
TellsUp id old r _ taken sent =
    IsStray id old taken × (lease_taken taken ≡ None) × IsNoDispatch sent × (sends_rdrain sent ≡ false)

abbrev pub Tells : SessionId → List Exchange → Record → (taken sent : Option MuxFrame) → Type 0
Tells (Client k) old r taken sent = TellsDown r r.kind taken sent
Tells (Server k) old r taken sent = TellsUp (Server k) old r r.kind taken sent

-- only the probe that a server's list may begin with has no record
abbrev pub IsFirstProbe : SessionId → List Step → (taken sent : Option MuxFrame) → Type 0
IsFirstProbe (Client k) old taken sent = ⊥
IsFirstProbe (Server k) old taken sent = (old ≡ []) × (taken ≡ None) × IsNoDispatch sent × (sends_rdrain sent ≡ false)

-- the record of a step has its reading, and tells its messages
abbrev pub IsToldBy : SessionId → Step → List Step → Option Record → Type 0
IsToldBy id s old None = IsFirstProbe id old s.entry.taken s.entry.sent
IsToldBy id s old (Some r) = (r.reading ≡ reading_at (s ∷ old)) × Tells id (entries old) r s.entry.taken s.entry.sent

abbrev pub IsTold : SessionId → Step → List Step → Type 0
IsTold id s old = IsToldBy id s old s.entry.rec
