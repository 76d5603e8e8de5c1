-- The headline: what a client may rely on in every run, whatever events come and in whatever order.
--
-- A run leaves one list for each session of each boot (`Line`): its `boot`, its `session` (`Client k` or `Server k`),
-- and its steps, the newest first. `entries l.steps` has for each step the record, the message that was taken
-- (`taken`) and the message that was sent (`sent`). `Each P es` says P of each entry and the entries before it,
-- `SomeEntry P es` of one of them; `EachLine P ls` and `SomeLine P ls` say it of lists. A dispatch has a name; of a
-- client's session it is the boot, the client and how many dispatches that client had sent.
use Rattle.std.specs.Prelude.{ℕ, List, [], ◌∷◌, if◌then◌else◌, ◌≡◌, ◌≤◌, ◌⊎◌, true, Option, Some, None, codes}
use Rattle.mux_frame.specs.Spelling.{MuxFrame}
use Rattle.mux_message.specs.Kinds.{kind_of}
use Rattle.mux_message.specs.Spellings.{normal}
use Rattle.mux_message.specs.Made.{nack_on, rerr_on, rdiscarded_on, retag}
use Rattle.mux_message.specs.declared.kind.MessageKind.TheVariants.{Rdispatch}
use Rattle.mux_history.specs.Bounds.{Bounds}
use Rattle.mux_history.specs.declared.name.Name.{Name}
use Rattle.mux_history.specs.declared.session.SessionId.{SessionId}
use Rattle.mux_history.specs.declared.session.SessionId.TheVariants.{Client, Server}
use Rattle.mux_model.specs.Entries.{Exchange}
use Rattle.mux_model.specs.Tags.{name_held, name_in}
use Rattle.mux_model.specs.Steps.{entries, is_nack}
use Rattle.mux_model.specs.World.{start}
use Rattle.mux_model.specs.Events.{Event, run, AllChooseFree}
use Rattle.mux_model.specs.Runs.{lines}
use Rattle.mux_model.specs.Lawful.{Said, Joint, IsStream, IsLawfulServer, asks_on, ends_on, at_client, at_server, passed}
use Rattle.mux_model.specs.Legal.{Line, Each, EachLine, SomeEntry, SomeLine, OnFinal, TakesUnder, SettlesName, IsSettledIn, EachWasNacked, times_carried, holder_then}

-- ANSWERED

-- a dispatch was sent to a server under this name
abbrev pub SentUnder : Name → MuxFrame → Exchange → List Exchange → Type 0
SentUnder n d e old = (name_in e.rec ≡ Some n) × (e.sent ≡ Some d)

-- the server answered with a final reply `r` on a tag that the name holds; before, it was sent the client's dispatch
-- `m` with that tag in place of its own and nothing else changed; `f` is that reply but for the tag, in the type that
-- is written, and where `r` is a nack, the server of every sending of the name nacked it
abbrev pub RepliesTo : List Line → ℕ → Name → (m f : MuxFrame) → Exchange → List Exchange → Type 0
RepliesTo ls k n m f e old =
    (r : MuxFrame) × SettlesName (Server k) n r e old × SomeEntry (SentUnder n (retag r.tag m)) old
    × (f ≡ retag f.tag (normal r))
    × (is_nack r ≡ true → EachWasNacked ls n)

-- such a server's list
abbrev pub IsRepliedIn : List Line → Name → (m f : MuxFrame) → Line → Type 0
IsRepliedIn ls n m f l = (k : ℕ) × (l.session ≡ Server k) × SomeEntry (RepliesTo ls k n m f) (entries l.steps)

-- an Rdispatch `f` that client `k` is sent: its tag is held by a dispatch with a name; the client sent a dispatch `m`
-- on that tag under that name; and of some list it is true that `f` is its reply to `m`, or else `f` is the router's
-- own nack, and every sending of the name was nacked
abbrev pub IsAnswered : (Name → (m f : MuxFrame) → Line → Type 0) → List Line → ℕ → Exchange → List Exchange → MuxFrame
    → Type 0
IsAnswered Replied ls k e old f =
    (n : Name) × (name_held (holder_then (Client k) e old f.tag) ≡ Some n)
    × (m : MuxFrame) × SomeEntry (λ a b. TakesUnder n m a b × (m.tag ≡ f.tag)) (e ∷ old)
    × (SomeLine (Replied n m f) ls ⊎ ((f ≡ nack_on f.tag) × EachWasNacked ls n))

abbrev pub OnRdispatch : Option MuxFrame → (MuxFrame → Type 0) → Type 0
OnRdispatch None P = Unit {0}
OnRdispatch (Some f) P = kind_of f.kind ≡ Rdispatch → P f

abbrev pub AnswersEach : (Name → (m f : MuxFrame) → Line → Type 0) → List Line → SessionId → Exchange → List Exchange → Type 0
AnswersEach Replied ls (Server k) e old = Unit {0}
AnswersEach Replied ls (Client k) e old = OnRdispatch e.sent (IsAnswered Replied ls k e old)

-- in every run each Rdispatch that a client is sent is so
abbrev pub EveryRdispatchIsAnswered : Type 0
EveryRdispatchIsAnswered =
    (limits : Bounds) (boot : ℕ) (events : List (ℕ × Event)) → AllChooseFree (start limits boot) events
    → let ls = lines (run (start limits boot) events).connections in
    EachLine (λ l. Each (AnswersEach (IsRepliedIn ls) ls l.session) (entries l.steps)) ls

-- ONCE

-- a final reply `f` to a name: some server's reply to it but for the tag; or a nack or `no route` of the router's own,
-- and no server is sent the name, before or later; or the word that its server was lost, or that it was discarded
pub data IsPlainAnswer (ls : List Line) (n : Name) (f : MuxFrame) : Type 0 where
  replied : (r : MuxFrame) → SomeLine (IsSettledIn n r) ls → f ≡ retag f.tag (normal r) → IsPlainAnswer ls n f
  nacked : f ≡ nack_on f.tag → times_carried n ls ≡ 0 → IsPlainAnswer ls n f
  unrouted : f ≡ rerr_on f.tag (codes "no route") → times_carried n ls ≡ 0 → IsPlainAnswer ls n f
  lost : f ≡ rerr_on f.tag (codes "upstream lost") → IsPlainAnswer ls n f
  discarded : f ≡ rdiscarded_on f.tag → IsPlainAnswer ls n f

abbrev pub OnNamed : Option Name → (Name → Type 0) → Type 0
OnNamed None P = Unit {0}
OnNamed (Some n) P = P n

abbrev pub AnswersPlainly : List Line → SessionId → Exchange → List Exchange → Type 0
AnswersPlainly ls (Server k) e old = Unit {0}
AnswersPlainly ls (Client k) e old =
    OnFinal e.sent (λ f. OnNamed (name_held (holder_then (Client k) e old f.tag)) (λ n. IsPlainAnswer ls n f))

-- in every run where nothing is sent again (`retries` is 0), no name is sent to servers twice, and a client that reads
-- a nack or `no route` of the router's own may send again what it sent: no server was or will be sent it
abbrev pub EveryNameIsSentOnce : Type 0
EveryNameIsSentOnce =
    (limits : Bounds) (boot : ℕ) (events : List (ℕ × Event)) → AllChooseFree (start limits boot) events
    → limits.retries ≡ 0
    → let ls = lines (run (start limits boot) events).connections in
    ((n : Name) → times_carried n ls ≤ 1) × EachLine (λ l. Each (AnswersPlainly ls l.session) (entries l.steps)) ls

-- SEEN

-- of the messages that passed at an end, the newest first: the dispatch on the tag that no final reply on it has
-- followed
abbrev pub open_message : ℕ → List Said → Option MuxFrame
open_message t [] = None
open_message t (s ∷ old) =
    if asks_on t s then Some s.message
    else if ends_on t s then None
    else open_message t old

-- a final reply `r` on the tag stands there, and what it answers is the dispatch `d`
abbrev pub AnswersIn : ℕ → (d r : MuxFrame) → List Said → Type 0
AnswersIn t d r [] = ⊥
AnswersIn t d r (s ∷ old) =
    ((s.message ≡ r) × (ends_on t s ≡ true) × (open_message t old ≡ Some d)) ⊎ AnswersIn t d r old

-- the router's list of a connection to a server pairs the reply `r` with the name, and `f` is `r` but for the tag.
-- Whatever passed there, as long as each end takes a prefix of what the other sent, in order (`IsStream`), and the
-- server sends final replies only on tags that are open in its own list: in that list, too, `r` answers the client's
-- dispatch `m`, changed in the tag alone
abbrev pub IsSeenBy : Name → (m f : MuxFrame) → Line → Type 0
IsSeenBy n m f l =
    (k : ℕ) × (l.session ≡ Server k) × (r : MuxFrame) × SomeEntry (SettlesName (Server k) n r) (entries l.steps)
    × (f ≡ retag f.tag (normal r))
    × ((joint : List Joint) → IsStream joint → at_client joint ≡ passed (Server k) (entries l.steps)
    → IsLawfulServer (at_server joint)
    → AnswersIn r.tag (retag r.tag m) r (at_server joint))

-- in every run the reply that a client reads is one that a server gave to that client's dispatch, as that server
-- itself saw it
abbrev pub EveryReplyIsSeen : Type 0
EveryReplyIsSeen =
    (limits : Bounds) (boot : ℕ) (events : List (ℕ × Event)) → AllChooseFree (start limits boot) events
    → let ls = lines (run (start limits boot) events).connections in
    EachLine (λ l. Each (AnswersEach IsSeenBy ls l.session) (entries l.steps)) ls
