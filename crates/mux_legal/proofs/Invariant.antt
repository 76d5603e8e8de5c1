-- What every world keeps, from which a legal run follows.
use Rattle.std.proofs.Common.{ℕ, List, [], ◌∷◌, ◌+◌, ◌≡◌, ◌≤◌, ◌<◌, ◌&&◌, ◌⊎◌, inl, inr, Bool, true, false, Option, Some, None, arith}
use Rattle.std.specs.Prelude.{◌==◌, codes, if◌then◌else◌}
use Rattle.std.specs.List.{AllByRecursion}
use Rattle.mux_frame.specs.Spelling.{MuxFrame}
use Rattle.mux_history.specs.declared.name.Name.{Name}
use Rattle.mux_history.specs.declared.kind.RecordKind.{RecordKind}
use Rattle.mux_history.specs.declared.kind.RecordKind.TheVariants.{Nacked, Unrouted, Late, TookDrained, Passed}
use Rattle.mux_history.specs.declared.record.Record.{Record}
use Rattle.mux_history.specs.declared.session.SessionId.{SessionId}
use Rattle.mux_history.specs.declared.session.SessionId.TheVariants.{Client, Server}
use Rattle.mux_model.specs.Entries.{Exchange}
use Rattle.mux_model.specs.Tags.{Holder, holder, name_held}
use Rattle.mux_history.specs.Readings.{has_ended, is_named, gives_name, is_offered, is_retried, dispatches, Sending, sendings}
use Rattle.mux_model.specs.Steps.{Step, Call, SettleCall, entries, records, is_nack, Held, TicketOf, SettledBy, LostOf}
use Rattle.mux_message.specs.Made.{nack_on, rerr_on, rdiscarded_on, retag}
use Rattle.mux_message.specs.Spellings.{normal}
use Rattle.mux_model.specs.Up.{copy_on}
use Rattle.mux_model.specs.World.{Hand, same_session}
use Rattle.mux_model.specs.Legal.{bearers, Line, Each, EachStep, IsUnlapsed, IsCut, EachLine, SomeLine, in_record, tally, total, OnDispatch, OnFinal, IsTakenIn, IsFairSend, holder_then, IsSettledIn, IsLostIn, HasEnded, IsDiscardOf, IsRouterMade, unsent_nack, unsent_no_route, lost, discard, IsFairReply, IsOwnAnswer, EachWasNacked, times_nacked, IsFairFinal, IsFair, IsLegal, IsNamedInTurn, replies_on, all_replies, times, times_on, times_carried}
use Rattle.mux_legal.proofs.Nacks.{nacked_carried}
use Rattle.mux_legal.proofs.Names.{IsOwn, IsSoundList, Tells, named_in_turn, given_once}
use Rattle.mux_legal.proofs.Basics.{one_if, given, IsCopied}

-- records after which a name is never sent: it was nacked, unrouted, late as a whole, or taken when drained
abbrev pub is_unsent : RecordKind → Bool
is_unsent Nacked = true
is_unsent Unrouted = true
is_unsent (Late whole) = whole
is_unsent TookDrained = true
is_unsent _ = false

-- how much values in hand weigh together
abbrev pub weigh : (Held → ℕ) → List Held → ℕ
weigh w [] = 0
weigh w (h ∷ hs) = w h + weigh w hs

abbrev pub weigh_hands : (Held → ℕ) → List Hand → ℕ
weigh_hands w [] = 0
weigh_hands w (h ∷ hs) = w h.held + weigh_hands w hs

-- tickets of a name, and nacks of it that were not passed on yet
abbrev pub ticket_in : Name → Held → ℕ
ticket_in n (TicketOf m f left) = one_if (is_named n (Some m))
ticket_in n _ = 0

abbrev pub nack_held : Name → Held → ℕ
nack_held n (SettledBy m r again) = one_if (is_nack r && is_named n (Some m))
nack_held n _ = 0

-- how often a nack of a name was passed on
abbrev pub is_passed : RecordKind → Bool
is_passed Passed = true
is_passed _ = false

abbrev pub is_nack_call : Call → Bool
is_nack_call (SettleCall n r again) = is_nack r
is_nack_call _ = false

abbrev pub passed_in : Name → Call → Option Record → ℕ
passed_in n call r = if is_nack_call call then in_record is_passed n r else 0

abbrev pub passed_on : Name → List Step → ℕ
passed_on n [] = 0
passed_on n (s ∷ old) = passed_in n s.call s.entry.rec + passed_on n old

abbrev pub nacks_passed : Name → List Line → ℕ
nacks_passed n [] = 0
nacks_passed n (l ∷ ls) = passed_on n l.steps + nacks_passed n ls

-- a list bears a value out
abbrev pub BorneBy : List Line → Held → Line → Type 0
BorneBy ls (TicketOf n f left) l = IsTakenIn n f l ⊎ SomeLine (IsTakenIn n f) ls
BorneBy ls (SettledBy n r again) l = IsSettledIn n r l × IsCopied ls n again
BorneBy ls (LostOf n) l = IsLostIn n l
BorneBy ls _ l = Unit {0}

abbrev pub Borne : List Line → Held → Type 0
Borne ls (TicketOf n f left) = SomeLine (IsTakenIn n f) ls
Borne ls (SettledBy n r again) = SomeLine (IsSettledIn n r) ls × IsCopied ls n again
Borne ls (LostOf n) = SomeLine (IsLostIn n) ls
Borne ls _ = Unit {0}

abbrev pub AllHands : (Held → Type 0) → List Hand → Type 0
AllHands P [] = Unit {0}
AllHands P (h ∷ hs) = P h.held × AllHands P hs

-- fairness in terms that only grow: what was never sent, and what was nacked by all, is told by its record
pub data IsKeptMade (ls : List Line) (n : Name) (e : Exchange) (f : MuxFrame) : Type 0 where
  kept_nack : f ≡ nack_on f.tag → 1 ≤ total is_unsent n ls → IsKeptMade ls n e f
  kept_no_route : f ≡ rerr_on f.tag (codes "no route") → 1 ≤ total is_unsent n ls → IsKeptMade ls n e f
  kept_lost : f ≡ rerr_on f.tag (codes "upstream lost") → SomeLine (IsLostIn n) ls → IsKeptMade ls n e f
  kept_discard : f ≡ rdiscarded_on f.tag → IsDiscardOf f.tag e.taken → IsKeptMade ls n e f

abbrev pub IsKeptPassed : List Line → Name → MuxFrame → Type 0
IsKeptPassed ls n f =
    (r : MuxFrame) × SomeLine (IsSettledIn n r) ls × (f ≡ retag f.tag (normal r)) × (is_nack r ≡ true → 1 ≤ nacks_passed n ls)

abbrev pub IsKeptReply : List Line → Exchange → MuxFrame → Name → Type 0
IsKeptReply ls e f n = IsKeptPassed ls n f ⊎ IsKeptMade ls n e f

abbrev pub IsKeptFinal : List Line → Exchange → MuxFrame → Option Holder → Type 0
IsKeptFinal ls e f None = IsOwnAnswer e.taken f
IsKeptFinal ls e f (Some h) = (n : Name) × (h.name ≡ Some n) × IsKeptReply ls e f n

abbrev pub IsKept : List Line → SessionId → Exchange → List Exchange → Type 0
IsKept ls (Server k) e old = OnDispatch e.sent (IsFairSend ls (Server k) e old)
IsKept ls (Client k) e old = OnFinal e.sent (λ f. IsKeptFinal ls e f (holder_then (Client k) e old f.tag))

-- each dispatch that a server's records say is sent has a name, which holds its tag
abbrev pub IsSent : ℕ → List Exchange → Sending → Type 0
IsSent k es s = (n : Name) × (s.name ≡ Some n) × (name_held (holder (Server k) s.tag es) ≡ Some n)

abbrev pub HoldsSent : ℕ → List Record → List Exchange → Type 0
HoldsSent k rs es = AllByRecursion (IsSent k es) (sendings rs)

-- a list that has ended says so by its records, over every epoch
abbrev pub EndsTold : List Step → Type 0
EndsTold past = HasEnded (entries past) → has_ended (records past) ≡ true

-- a client's list names its dispatches in turn, and answers each once; a server's list names none
abbrev pub OwnSteps : ℕ → SessionId → List Step → Type 0
OwnSteps b (Client k) past =
    Each (IsOwn b k) (entries past) × IsSoundList k (entries past) × Each Tells (entries past) × (dispatches (records past) ≡ given (entries past)) × EndsTold past
OwnSteps b (Server k) past =
    ((n : Name) → (tally gives_name n (entries past) ≡ 0) × (tally is_retried n (entries past) ≡ 0) × (times n (entries past) ≤ tally is_offered n (entries past))) × HoldsSent k (records past) (entries past) × EndsTold past

pub ends_told : (b : ℕ) (id : SessionId) (past : List Step) → OwnSteps b id past → EndsTold past
ends_told b (Client k) past own = own.4
ends_told b (Server k) past own = own.2

-- the copy of a dispatch that holds a tag is one that was taken under the name that holds it
abbrev pub CopiesOf : List Line → SessionId → List Step → Type 0
CopiesOf ls (Client k) past = Unit {0}
CopiesOf ls (Server k) past =
    (t : ℕ) (n : Name) (f : MuxFrame) → name_held (holder (Server k) t (entries past)) ≡ Some n → copy_on t past ≡ Some f → SomeLine (IsTakenIn n f) ls

-- THE INVARIANT, over the lists of all boots and the bag
pub record Inv (boot clients servers : ℕ) (ls : List Line) (hands : List Hand) : Type 0 where
  -- a session of a boot is one connection's, and no number is past its count
  pub unique : (b : ℕ) (id : SessionId) → bearers b id ls ≤ 1
  pub later : (b : ℕ) (id : SessionId) → boot < b → bearers b id ls ≡ 0
  pub next_client : (k : ℕ) → clients < k → bearers boot (Client k) ls ≡ 0
  pub next_server : (k : ℕ) → servers < k → bearers boot (Server k) ls ≡ 0
  -- each list by itself
  pub own : EachLine (λ l. OwnSteps l.boot l.session l.steps) ls
  -- a name that was given, or may be sent again, is in hand as a ticket, was offered, or is not sent again, and one of these at most
  pub linear : (n : Name) → weigh_hands (ticket_in n) hands + total is_offered n ls + total is_unsent n ls ≤ total gives_name n ls + total is_retried n ls
  -- each nack of a name is in hand, let the name be sent again, was passed on, or came late
  pub nacked : (n : Name) → weigh_hands (nack_held n) hands + total is_retried n ls + nacks_passed n ls ≤ times_nacked n ls
  -- the copies that servers' lists keep were taken
  pub copies : EachLine (λ l. CopiesOf ls l.session l.steps) ls
  -- each value in hand is borne out by a list
  pub borne : AllHands (Borne ls) hands
  -- each message sent was fair, in terms that only grow
  pub kept : EachLine (λ l. Each (IsKept ls l.session) (entries l.steps)) ls

-- from the invariant to a legal run

pub gifts_opened : (n : Name) (ls : List Line) → EachLine (λ l. OwnSteps l.boot l.session l.steps) ls → total gives_name n ls ≤ bearers n.boot (Client n.client) ls
gifts_opened n [] own = omega arith
gifts_opened n (l ∷ ls) own = omega (arith, of_line l.session own.0, gifts_opened n ls own.1)
  where
    of_line : (id : SessionId) → OwnSteps l.boot id l.steps → tally gives_name n (entries l.steps) ≤ one_if (l.boot == n.boot && same_session id (Client n.client))
    of_line (Client k) o = given_once l.boot k (entries l.steps) n o.0
    of_line (Server k) o = omega (arith, (o.0 n).0)

replies_given : (n : Name) (ls : List Line) → EachLine (λ l. OwnSteps l.boot l.session l.steps) ls → all_replies n ls ≤ total gives_name n ls
replies_given n [] own = omega arith
replies_given n (l ∷ ls) own = omega (arith, of_line l.session own.0, replies_given n ls own.1)
  where
    of_line : (id : SessionId) → OwnSteps l.boot id l.steps → replies_on id n (entries l.steps) ≤ tally gives_name n (entries l.steps)
    of_line (Client k) o = o.1.paid n
    of_line (Server k) o = omega arith

pub carried_offered : (n : Name) (ls : List Line) → EachLine (λ l. OwnSteps l.boot l.session l.steps) ls → times_carried n ls ≤ total is_offered n ls
carried_offered n [] own = omega arith
carried_offered n (l ∷ ls) own = omega (arith, of_line l.session own.0, carried_offered n ls own.1)
  where
    of_line : (id : SessionId) → OwnSteps l.boot id l.steps → times_on id n (entries l.steps) ≤ tally is_offered n (entries l.steps)
    of_line (Client k) o = omega arith
    of_line (Server k) o = (o.0 n).2

lines_named : (ls : List Line) → EachLine (λ l. OwnSteps l.boot l.session l.steps) ls → EachLine (λ l. Each (IsNamedInTurn l.boot l.session) (entries l.steps)) ls
lines_named [] own = tt
lines_named (l ∷ ls) own = (of_line l.session own.0, lines_named ls own.1)
  where
    all_tt : (k : ℕ) (es : List Exchange) → Each (IsNamedInTurn l.boot (Server k)) es
    all_tt k [] = tt
    all_tt k (e ∷ es) = (tt, all_tt k es)

    of_line : (id : SessionId) → OwnSteps l.boot id l.steps → Each (IsNamedInTurn l.boot id) (entries l.steps)
    of_line (Client k) o = named_in_turn l.boot k (entries l.steps) o.0 o.2
    of_line (Server k) o = all_tt k (entries l.steps)

module _ (ls : List Line) (unsent : (n : Name) → 1 ≤ total is_unsent n ls → EachWasNacked ls n) (passed : (n : Name) → 1 ≤ nacks_passed n ls → EachWasNacked ls n) where
  made_fair : (n : Name) (e : Exchange) (f : MuxFrame) → IsKeptMade ls n e f → IsRouterMade ls n e f
  made_fair n e f (kept_nack i u) = unsent_nack i (unsent n u)
  made_fair n e f (kept_no_route i u) = unsent_no_route i (unsent n u)
  made_fair n e f (kept_lost i l) = lost i l
  made_fair n e f (kept_discard i d) = discard i d

  reply_fair : (n : Name) (e : Exchange) (f : MuxFrame) → IsKeptReply ls e f n → IsFairReply ls e f n
  reply_fair n e f (inl p) = inl (p.0, p.1, p.2, λ nack. passed n (p.3 nack))
  reply_fair n e f (inr m) = inr (made_fair n e f m)

  final_fair : (e : Exchange) (f : MuxFrame) (o : Option Holder) → IsKeptFinal ls e f o → IsFairFinal ls e f o
  final_fair e f None k = k
  final_fair e f (Some h) k = (k.0, k.1, reply_fair k.0 e f k.2)

  sent_fair : (e : Exchange) (old : List Exchange) (k : ℕ) (sent : Option MuxFrame) →
      OnFinal sent (λ f. IsKeptFinal ls e f (holder_then (Client k) e old f.tag)) → OnFinal sent (λ f. IsFairFinal ls e f (holder_then (Client k) e old f.tag))
  sent_fair e old k None h = tt
  sent_fair e old k (Some f) h = λ final. final_fair e f _ (h final)

  entry_fair : (id : SessionId) (e : Exchange) (old : List Exchange) → IsKept ls id e old → IsFair ls id e old
  entry_fair (Client k) e old h = sent_fair e old k e.sent h
  entry_fair (Server k) e old h = h

  entries_fair : (id : SessionId) (es : List Exchange) → Each (IsKept ls id) es → Each (IsFair ls id) es
  entries_fair id [] h = tt
  entries_fair id (e ∷ old) h = (entry_fair id e old h.0, entries_fair id old h.1)

  lines_fair : (ms : List Line) → EachLine (λ l. Each (IsKept ls l.session) (entries l.steps)) ms → EachLine (λ l. Each (IsFair ls l.session) (entries l.steps)) ms
  lines_fair [] h = tt
  lines_fair (l ∷ ms) h = (entries_fair l.session (entries l.steps) h.0, lines_fair ms h.1)

-- what keeps the invariant is a legal run, where each list is read and cut as its steps say, and no name is sent again too often
pub Inv-legal : {boot clients servers : ℕ} {ls : List Line} {hands : List Hand} (retries : ℕ) → Inv boot clients servers ls hands →
    EachLine (λ l. EachStep (IsUnlapsed l.session) l.steps) ls → EachLine (λ l. Each IsCut (entries l.steps)) ls → ((n : Name) → total is_retried n ls ≤ retries) → IsLegal retries ls
Inv-legal {boot} {clients} {servers} {ls} {hands} retries v unlapsed cut tried =
    let few = λ (n : Name). (let a : total gives_name n ls ≤ bearers n.boot (Client n.client) ls = gifts_opened n ls v.own in let b : bearers n.boot (Client n.client) ls ≤ 1 = v.unique n.boot (Client n.client) in let c : total gives_name n ls ≤ 1 = omega arith in c) in
    record {
      one_connection = v.unique;
      fair = lines_fair ls (λ n u. omega (arith, u, v.linear n, v.nacked n, few n, carried_offered n ls v.own, nacked_carried n ls))
          (λ n p. omega (arith, p, v.linear n, v.nacked n, few n, carried_offered n ls v.own, nacked_carried n ls)) ls v.kept;
      unlapsed = unlapsed;
      named = lines_named ls v.own;
      sent_again = λ n. omega (arith, v.linear n, v.nacked n, few n, carried_offered n ls v.own);
      tries = λ n. omega (arith, v.linear n, few n, carried_offered n ls v.own, tried n);
      answered_once = λ n. omega (arith, replies_given n ls v.own, few n);
      cut = cut;
    }
