-- A legal run: what holds of all lists together.
use Rattle.std.specs.Prelude.{ℕ, List, [], ◌∷◌, ◌+◌, ◌==◌, ◌&&◌, ◌≡◌, ◌≤◌, ◌⊎◌, Bool, true, false, Option, Some, None, if◌then◌else◌, length, max, codes}
use Rattle.std.specs.List.{AllByRecursion}
use Rattle.mux_frame.specs.Spelling.{MuxFrame}
use Rattle.mux_message.specs.Kinds.{kind_of, is_dispatch, is_final}
use Rattle.mux_message.specs.declared.kind.MessageKind.TheVariants.{Rerr}
use Rattle.mux_history.specs.declared.name.Name.{Name}
use Rattle.mux_history.specs.declared.record.Record.{Record}
use Rattle.mux_history.specs.declared.kind.RecordKind.{RecordKind}
use Rattle.mux_history.specs.declared.session.InitMode.{InitMode}
use Rattle.mux_history.specs.declared.session.SessionId.{SessionId}
use Rattle.mux_history.specs.declared.session.SessionId.TheVariants.{Client, Server}
use Rattle.mux_model.specs.Entries.{Exchange}
use Rattle.mux_model.specs.Tags.{holder, is_open, Holder, asked, name_in, name_held}
use Rattle.mux_history.specs.Readings.{is_named, ends}
use Rattle.mux_message.specs.Made.{nack_on, rerr_on, rdiscarded_on, retag}
use Rattle.mux_message.specs.Spellings.{normal}
use Rattle.mux_model.specs.Down.{discard_of}
use Rattle.mux_history.specs.Lapse.{leased, has_lapsed}
use Rattle.mux_model.specs.Steps.{Step, entries, now_of, is_nack}
use Rattle.mux_model.specs.Up.{is_drained, lease_taken}
use Rattle.mux_model.specs.World.{same_session}

-- a list with its connection: the boot, the session, how it was begun, and the steps of all epochs, the newest first
pub record Line : Type 0 where
  pub boot : ℕ
  pub session : SessionId
  pub mode : InitMode
  pub steps : List Step

-- P of each entry and those before it
abbrev pub Each : (Exchange → List Exchange → Type 0) → List Exchange → Type 0
Each P [] = Unit {0}
Each P (e ∷ old) = P e old × Each P old

-- P of each step and those before it
abbrev pub EachStep : (Step → List Step → Type 0) → List Step → Type 0
EachStep P [] = Unit {0}
EachStep P (s ∷ old) = P s old × EachStep P old

-- P of some entry and those before it
abbrev pub SomeEntry : (Exchange → List Exchange → Type 0) → List Exchange → Type 0
SomeEntry P [] = ⊥
SomeEntry P (e ∷ old) = P e old ⊎ SomeEntry P old

abbrev pub EachLine : (Line → Type 0) → List Line → Type 0
EachLine P ls = AllByRecursion P ls

abbrev pub SomeLine : (Line → Type 0) → List Line → Type 0
SomeLine P [] = ⊥
SomeLine P (l ∷ ls) = P l ⊎ SomeLine P ls

-- how many records of a name are of certain kinds, in an entry, a list, and all lists
abbrev pub in_record : (RecordKind → Bool) → Name → Option Record → ℕ
in_record p n None = 0
in_record p n (Some r) = if p r.kind && is_named n r.name then 1 else 0

abbrev pub tally : (RecordKind → Bool) → Name → List Exchange → ℕ
tally p n [] = 0
tally p n (e ∷ old) = in_record p n e.rec + tally p n old

abbrev pub total : (RecordKind → Bool) → Name → List Line → ℕ
total p n [] = 0
total p n (l ∷ ls) = tally p n (entries l.steps) + total p n ls

-- how often a name is carried: the dispatches sent to servers under it
abbrev pub sends_dispatch : Option MuxFrame → Bool
sends_dispatch None = false
sends_dispatch (Some f) = is_dispatch (kind_of f.kind)

abbrev pub times_in : Name → Exchange → ℕ
times_in n e = if sends_dispatch e.sent && is_named n (name_in e.rec) then 1 else 0

abbrev pub times : Name → List Exchange → ℕ
times n [] = 0
times n (e ∷ old) = times_in n e + times n old

abbrev pub times_on : SessionId → Name → List Exchange → ℕ
times_on (Server k) n es = times n es
times_on (Client k) n es = 0

abbrev pub times_carried : Name → List Line → ℕ
times_carried n [] = 0
times_carried n (l ∷ ls) = times_on l.session n (entries l.steps) + times_carried n ls

-- how often a name was nacked: the Rdispatch messages with status 2 that servers' lists pair with the places that
-- carry it
abbrev pub nack_in : Name → (ℕ → Option Holder) → Option MuxFrame → ℕ
nack_in n held None = 0
nack_in n held (Some f) = if is_nack f && is_named n (name_held (held f.tag)) then 1 else 0

abbrev pub nacks : SessionId → Name → List Exchange → ℕ
nacks id n [] = 0
nacks id n (e ∷ old) = nack_in n (λ t. holder id t old) e.taken + nacks id n old

abbrev pub nacks_on : SessionId → Name → List Exchange → ℕ
nacks_on (Server k) n es = nacks (Server k) n es
nacks_on (Client k) n es = 0

abbrev pub times_nacked : Name → List Line → ℕ
times_nacked n [] = 0
times_nacked n (l ∷ ls) = nacks_on l.session n (entries l.steps) + times_nacked n ls

-- every sending of a name was nacked; where there was none, too
abbrev pub EachWasNacked : List Line → Name → Type 0
EachWasNacked ls n = times_carried n ls ≡ times_nacked n ls

-- a fact on the message, if it is a dispatch, or a final reply
abbrev pub OnDispatch : Option MuxFrame → (MuxFrame → Type 0) → Type 0
OnDispatch None P = Unit {0}
OnDispatch (Some f) P = is_dispatch (kind_of f.kind) ≡ true → P f

abbrev pub OnFinal : Option MuxFrame → (MuxFrame → Type 0) → Type 0
OnFinal None P = Unit {0}
OnFinal (Some f) P = is_final (kind_of f.kind) ≡ true → P f

-- a client's list took this message under this name
abbrev pub TakesUnder : Name → MuxFrame → Exchange → List Exchange → Type 0
TakesUnder n m e old = (name_in e.rec ≡ Some n) × (e.taken ≡ Some m) × (is_dispatch (kind_of m.kind) ≡ true)

abbrev pub IsTakenIn : Name → MuxFrame → Line → Type 0
IsTakenIn n m l = (l.boot ≡ n.boot) × (l.session ≡ Client n.client) × SomeEntry (TakesUnder n m) (entries l.steps)

-- a dispatch sent to a server is carried: it is the named one of a client with its tag alone replaced
abbrev pub IsCarried : List Line → Option Name → MuxFrame → Type 0
IsCarried ls name f = (n : Name) × (name ≡ Some n) × (m : MuxFrame) × SomeLine (IsTakenIn n m) ls × (f ≡ retag f.tag m)

-- a server's entry: a dispatch sent is carried, on a tag that isn't open, on a session that isn't drained
pub record IsFairSend (ls : List Line) (id : SessionId) (e : Exchange) (old : List Exchange) (f : MuxFrame) : Type 0 where
  pub carried : IsCarried ls (name_in e.rec) f
  pub free : is_open id f.tag old ≡ false
  pub undrained : is_drained old ≡ false

-- who holds a tag when a client's entry sends, which is after it took
abbrev pub holder_then : SessionId → Exchange → List Exchange → ℕ → Option Holder
holder_then id e old t =
    asked t (record { place = length old; name = name_in e.rec }) e.taken (holder id t old)

-- a server's list pairs this reply with the place that carries the name
abbrev pub SettlesName : SessionId → Name → MuxFrame → Exchange → List Exchange → Type 0
SettlesName id n r e old =
    (e.taken ≡ Some r) × (is_final (kind_of r.kind) ≡ true) × (name_held (holder id r.tag old) ≡ Some n)

abbrev pub IsSettledIn : Name → MuxFrame → Line → Type 0
IsSettledIn n r l = (k : ℕ) × (l.session ≡ Server k) × SomeEntry (SettlesName (Server k) n r) (entries l.steps)

-- passed on: in all but its tag the reply that a server's list pairs with the name; a nack only where every sending
-- was nacked
abbrev pub IsPassedOn : List Line → Name → MuxFrame → Type 0
IsPassedOn ls n f =
    (r : MuxFrame) × SomeLine (IsSettledIn n r) ls × (f ≡ retag f.tag (normal r))
    × (is_nack r ≡ true → EachWasNacked ls n)

abbrev pub is_ending : Option Record → Bool
is_ending None = false
is_ending (Some r) = ends r.kind

abbrev pub HasEnded : List Exchange → Type 0
HasEnded es = SomeEntry (λ e old. is_ending e.rec ≡ true) es

-- the list that carries the name has ended with that place unpaired
abbrev pub IsLostIn : Name → Line → Type 0
IsLostIn n l =
    (k : ℕ) × (l.session ≡ Server k) × HasEnded (entries l.steps) × (t : ℕ)
    × (name_held (holder (Server k) t (entries l.steps)) ≡ Some n)

-- a Tdiscarded of this tag
abbrev pub IsDiscardOf : ℕ → Option MuxFrame → Type 0
IsDiscardOf t taken = (why : List ℕ) × (discard_of taken ≡ Some (t, why))

-- the answers that the router makes
pub data IsRouterMade (ls : List Line) (n : Name) (e : Exchange) (f : MuxFrame) : Type 0 where
  unsent_nack : f ≡ nack_on f.tag → EachWasNacked ls n → IsRouterMade ls n e f
  unsent_no_route : f ≡ rerr_on f.tag (codes "no route") → EachWasNacked ls n → IsRouterMade ls n e f
  lost : f ≡ rerr_on f.tag (codes "upstream lost") → SomeLine (IsLostIn n) ls → IsRouterMade ls n e f
  discard : f ≡ rdiscarded_on f.tag → IsDiscardOf f.tag e.taken → IsRouterMade ls n e f

-- a reply to a name is passed on or made by the router
abbrev pub IsFairReply : List Line → Exchange → MuxFrame → Name → Type 0
IsFairReply ls e f n = IsPassedOn ls n f ⊎ IsRouterMade ls n e f

-- the router's own answer to a message that isn't a dispatch, on the tag of that message: the probe as it came, or one
-- of two texts
abbrev pub IsOwnAnswer : Option MuxFrame → MuxFrame → Type 0
IsOwnAnswer None f = ⊥
IsOwnAnswer (Some m) f =
    ((f ≡ m) × (kind_of f.kind ≡ Rerr))
    ⊎ ((f ≡ rerr_on m.tag (codes "unsupported")) ⊎ (f ≡ rerr_on m.tag (codes "tinit out of place")))

-- a final reply sent to a client: paired with a name, and fair; on a tag that isn't open, the router's own answer to
-- what the entry took
abbrev pub IsFairFinal : List Line → Exchange → MuxFrame → Option Holder → Type 0
IsFairFinal ls e f None = IsOwnAnswer e.taken f
IsFairFinal ls e f (Some h) = (n : Name) × (h.name ≡ Some n) × IsFairReply ls e f n

-- replies paired with a name, in an entry, a list, and all clients' lists
abbrev pub is_reply_to : Name → Option Holder → Bool
is_reply_to n None = false
is_reply_to n (Some h) = is_named n h.name

abbrev pub reply_in : Name → (ℕ → Option Holder) → Option MuxFrame → ℕ
reply_in n held None = 0
reply_in n held (Some f) = if is_final (kind_of f.kind) && is_reply_to n (held f.tag) then 1 else 0

abbrev pub replies : SessionId → Name → List Exchange → ℕ
replies id n [] = 0
replies id n (e ∷ old) = reply_in n (holder_then id e old) e.sent + replies id n old

abbrev pub replies_on : SessionId → Name → List Exchange → ℕ
replies_on (Client k) n es = replies (Client k) n es
replies_on (Server k) n es = 0

abbrev pub all_replies : Name → List Line → ℕ
all_replies n [] = 0
all_replies n (l ∷ ls) = replies_on l.session n (entries l.steps) + all_replies n ls

-- what an entry sends is fair
abbrev pub IsFair : List Line → SessionId → Exchange → List Exchange → Type 0
IsFair ls (Server k) e old = OnDispatch e.sent (IsFairSend ls (Server k) e old)
IsFair ls (Client k) e old = OnFinal e.sent (λ f. IsFairFinal ls e f (holder_then (Client k) e old f.tag))

-- how many dispatches a client's list took
abbrev pub dispatch_in : Option MuxFrame → ℕ
dispatch_in None = 0
dispatch_in (Some f) = if is_dispatch (kind_of f.kind) then 1 else 0

abbrev pub taken_count : List Exchange → ℕ
taken_count [] = 0
taken_count (e ∷ old) = dispatch_in e.taken + taken_count old

-- a client's dispatch has the name of its boot, its client, and its place among the dispatches taken
abbrev pub IsNamedInTurn : ℕ → SessionId → Exchange → List Exchange → Type 0
IsNamedInTurn b (Client k) e old =
    OnDispatch e.taken (λ f. name_in e.rec ≡ Some (record { boot = b; client = k; seq = taken_count old + 1 }))
IsNamedInTurn b (Server k) e old = Unit {0}

-- how often a connection is named so: by its boot and its session
abbrev pub bears : ℕ → SessionId → Line → ℕ
bears b id l = if l.boot == b && same_session l.session id then 1 else 0

abbrev pub bearers : ℕ → SessionId → List Line → ℕ
bearers b id [] = 0
bearers b id (l ∷ ls) = bears b id l + bearers b id ls

-- the reading at a step: the greatest moment handed in by it and those before it
abbrev pub reading_at : List Step → ℕ
reading_at [] = 0
reading_at (s ∷ old) = max (reading_at old) (now_of s.call)

-- the reading from which on the last lease has lapsed that was taken
abbrev pub lapse_at : List Step → Option ℕ
lapse_at [] = None
lapse_at (s ∷ old) = leased (reading_at (s ∷ old)) (lease_taken s.entry.taken) (lapse_at old)

-- a dispatch sent to a server is sent on no lapsed lease
abbrev pub IsUnlapsed : SessionId → Step → List Step → Type 0
IsUnlapsed (Server k) s old = OnDispatch s.entry.sent (λ f. has_lapsed (lapse_at old) (reading_at (s ∷ old)) ≡ false)
IsUnlapsed (Client k) s old = Unit {0}

-- behind the end of a list no message is taken or sent
abbrev pub IsCut : Exchange → List Exchange → Type 0
IsCut e old = HasEnded old → (e.taken ≡ None) × (e.sent ≡ None)

-- a legal run, in which a dispatch may be sent again so many times
pub record IsLegal (retries : ℕ) (ls : List Line) : Type 0 where
  -- boot, side and number name one connection
  pub one_connection : (b : ℕ) (id : SessionId) → bearers b id ls ≤ 1
  -- dispatches are carried, on free tags, on sessions that aren't drained; replies are passed on or the router's own
  pub fair : EachLine (λ l. Each (IsFair ls l.session) (entries l.steps)) ls
  -- dispatches are carried on no lapsed lease
  pub unlapsed : EachLine (λ l. EachStep (IsUnlapsed l.session) l.steps) ls
  -- names are the places of dispatches
  pub named : EachLine (λ l. Each (IsNamedInTurn l.boot l.session) (entries l.steps)) ls
  -- of the places that carry a name, all but one at most were nacked, and there are few
  pub sent_again : (n : Name) → times_carried n ls ≤ 1 + times_nacked n ls
  pub tries : (n : Name) → times_carried n ls ≤ 1 + retries
  -- no name is answered twice
  pub answered_once : (n : Name) → all_replies n ls ≤ 1
  -- a list ends at its cut
  pub cut : EachLine (λ l. Each IsCut (entries l.steps)) ls
