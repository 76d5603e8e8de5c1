-- THE HEADLINE OF A LOG: what a client may rely on, in the words of mux_legal.
use Rattle.std.specs.Prelude.{List, [], ◌∷◌, ◌++◌, ◌≡◌, ◌≤◌, Option, Some, None}
use Rattle.mux_history.specs.declared.name.Name.{Name}
use Rattle.mux_history.specs.declared.session.SessionId.{SessionId}
use Rattle.mux_model.specs.Steps.{entries}
use Rattle.mux_model.specs.World.{Connection}
use Rattle.mux_model.specs.Runs.{lines}
use Rattle.mux_model.specs.Lawful.{EndsAgreeAt}
use Rattle.mux_model.specs.Legal.{Line, Each, EachLine, IsLegal, times_carried}
use Rattle.mux_legal.specs.Headline.{AnswersEach, AnswersPlainly, IsRepliedIn, IsSeenBy}
use Rattle.hub_log.specs.declared.terms.Terms.{Terms}
use Rattle.hub_log.specs.Moves.{Deed, Opened, Move, connection_in}
use Rattle.hub_log.specs.Bag.{IsBag}

-- the sessions that were opened, the oldest first
abbrev pub with_opened : SessionId → Deed → List SessionId → List SessionId
with_opened id (Opened mode) ids = ids ++ id ∷ []
with_opened id _ ids = ids

abbrev pub sessions_of : List Move → List SessionId
sessions_of [] = []
sessions_of (m ∷ old) = with_opened m.session m.deed (sessions_of old)

-- the connection of each of them, and the list that it leaves: the steps of its own moves
abbrev pub with_one : Option Connection → List Connection → List Connection
with_one None cs = cs
with_one (Some c) cs = c ∷ cs

abbrev pub connections_at : Terms → List Move → List SessionId → List Connection
connections_at t log [] = []
connections_at t log (id ∷ ids) = with_one (connection_in t id log) (connections_at t log ids)

abbrev pub lines_of : Terms → List Move → List Line
lines_of t log = lines (connections_at t log (sessions_of log))

-- such a log is a legal run: dispatches are carried, replies passed on or the router's own, no name is answered twice
abbrev pub EveryLogIsLegal : Type 0
EveryLogIsLegal = (t : Terms) (log : List Move) → IsBag t log → IsLegal t.limits.retries (lines_of t log)

-- each Rdispatch that a client is sent answers the dispatch that it sent: a server that was sent that very dispatch
-- answered so, or the router nacked what each server nacked
abbrev pub EveryRdispatchIsAnswered : Type 0
EveryRdispatchIsAnswered =
    (t : Terms) (log : List Move) → IsBag t log
    → let ls = lines_of t log in
    EachLine (λ l. Each (AnswersEach (IsRepliedIn ls) ls l.session) (entries l.steps)) ls

-- as the server itself saw it, too
abbrev pub EveryReplyIsSeen : Type 0
EveryReplyIsSeen =
    (t : Terms) (log : List Move) → IsBag t log
    → let ls = lines_of t log in
    EachLine (λ l. Each (AnswersEach IsSeenBy ls l.session) (entries l.steps)) ls

-- without tries no name is sent to servers twice, and one that the router nacks by itself never
abbrev pub EveryNameIsSentOnce : Type 0
EveryNameIsSentOnce =
    (t : Terms) (log : List Move) → IsBag t log → t.limits.retries ≡ 0
    → let ls = lines_of t log in
    ((n : Name) → times_carried n ls ≤ 1) × EachLine (λ l. Each (AnswersPlainly ls l.session) (entries l.steps)) ls

-- on each connection with a lawful far end, both ends pair each dispatch with the same reply
abbrev pub BothEndsAgree : Type 0
BothEndsAgree =
    (t : Terms) (log : List Move) → IsBag t log
    → EachLine (λ l. EndsAgreeAt l.session (entries l.steps)) (lines_of t log)
