-- Lists only grow, and what was true of them stays true.
use Rattle.std.proofs.Common.{refl, length, subst, ℕ, List, [], ◌∷◌, ◌++◌, ◌+◌, ◌≡◌, ◌≤◌, inl, inr, Bool, Option, Some, None, ◌∙◌, ap, arith}
use Rattle.mux_frame.specs.Spelling.{MuxFrame}
use Rattle.mux_history.specs.declared.name.Name.{Name}
use Rattle.mux_history.specs.declared.kind.RecordKind.{RecordKind}
use Rattle.mux_history.specs.declared.session.SessionId.{SessionId}
use Rattle.mux_history.specs.declared.session.SessionId.TheVariants.{Client, Server}
use Rattle.mux_model.specs.Entries.{Exchange}
use Rattle.mux_model.specs.Tags.{name_held, Holder, holder, asked, answered, name_in}
use Rattle.mux_model.specs.Steps.{Call, Step, entries, Held, TicketOf, PlacedAt, SettledBy, RecallOf, LostOf}
use Rattle.mux_model.specs.World.{Hand}
use Rattle.mux_model.specs.Legal.{Line, Each, EachLine, SomeLine, in_record, total, OnDispatch, OnFinal, IsTakenIn, IsCarried, IsFairSend, holder_then, IsSettledIn, IsLostIn, HasEnded, times_nacked, nacks_on, nack_in}
use Rattle.mux_legal.proofs.Basics.{total-append, IsCopied}
use Rattle.mux_legal.proofs.Invariant.{is_unsent, Borne, AllHands, IsKeptMade, kept_nack, kept_no_route, kept_lost, kept_discard, IsKeptFinal, IsKeptReply, IsKept, CopiesOf, nacks_passed, passed_in}

-- `ms` has what `ls` has, and maybe more
pub record Grows (ls ms : List Line) : Type 0 where
  pub taken : (n : Name) (m : MuxFrame) → SomeLine (IsTakenIn n m) ls → SomeLine (IsTakenIn n m) ms
  pub settled : (n : Name) (r : MuxFrame) → SomeLine (IsSettledIn n r) ls → SomeLine (IsSettledIn n r) ms
  pub gone : (n : Name) → SomeLine (IsLostIn n) ls → SomeLine (IsLostIn n) ms
  pub unsent : (n : Name) → total is_unsent n ls ≤ total is_unsent n ms
  pub passed : (n : Name) → nacks_passed n ls ≤ nacks_passed n ms

module _ (ls ms : List Line) (g : Grows ls ms) where
  made_grows : (n : Name) (e : Exchange) (f : MuxFrame) → IsKeptMade ls n e f → IsKeptMade ms n e f
  made_grows n e f (kept_nack i u) = kept_nack i (omega (arith, g.unsent n, u))
  made_grows n e f (kept_no_route i u) = kept_no_route i (omega (arith, g.unsent n, u))
  made_grows n e f (kept_lost i l) = kept_lost i (g.gone n l)
  made_grows n e f (kept_discard i d) = kept_discard i d

  pub reply_grows : (n : Name) (e : Exchange) (f : MuxFrame) → IsKeptReply ls e f n → IsKeptReply ms e f n
  reply_grows n e f (inl p) = inl (p.0, g.settled n p.0 p.1, p.2, λ nack. omega (arith, g.passed n, p.3 nack))
  reply_grows n e f (inr m) = inr (made_grows n e f m)

  final_grows : (e : Exchange) (f : MuxFrame) (o : Option Holder) → IsKeptFinal ls e f o → IsKeptFinal ms e f o
  final_grows e f None k = k
  final_grows e f (Some h) k = (k.0, k.1, reply_grows k.0 e f k.2)

  on_final_grows : (e : Exchange) (old : List Exchange) (k : ℕ) (sent : Option MuxFrame) →
      OnFinal sent (λ f. IsKeptFinal ls e f (holder_then (Client k) e old f.tag)) → OnFinal sent (λ f. IsKeptFinal ms e f (holder_then (Client k) e old f.tag))
  on_final_grows e old k None h = tt
  on_final_grows e old k (Some f) h = λ final. final_grows e f _ (h final)

  carried_grows : (o : Option Name) (f : MuxFrame) → IsCarried ls o f → IsCarried ms o f
  carried_grows o f c = (c.0, c.1, c.2, g.taken c.0 c.2 c.3, c.4)

  send_grows : (id : SessionId) (e : Exchange) (old : List Exchange) (f : MuxFrame) → IsFairSend ls id e old f → IsFairSend ms id e old f
  send_grows id e old f s = record { carried = carried_grows (name_in e.rec) f s.carried; free = s.free; undrained = s.undrained }

  on_dispatch_grows : (id : SessionId) (e : Exchange) (old : List Exchange) (sent : Option MuxFrame) → OnDispatch sent (IsFairSend ls id e old) → OnDispatch sent (IsFairSend ms id e old)
  on_dispatch_grows id e old None h = tt
  on_dispatch_grows id e old (Some f) h = λ d. send_grows id e old f (h d)

  pub kept_grows : (id : SessionId) (e : Exchange) (old : List Exchange) → IsKept ls id e old → IsKept ms id e old
  kept_grows (Client k) e old h = on_final_grows e old k e.sent h
  kept_grows (Server k) e old h = on_dispatch_grows (Server k) e old e.sent h

  pub entries_grow : (id : SessionId) (es : List Exchange) → Each (IsKept ls id) es → Each (IsKept ms id) es
  entries_grow id [] h = tt
  entries_grow id (e ∷ old) h = (kept_grows id e old h.0, entries_grow id old h.1)

  pub lines_grow : (xs : List Line) → EachLine (λ l. Each (IsKept ls l.session) (entries l.steps)) xs → EachLine (λ l. Each (IsKept ms l.session) (entries l.steps)) xs
  lines_grow [] h = tt
  lines_grow (l ∷ xs) h = (entries_grow l.session (entries l.steps) h.0, lines_grow xs h.1)

  pub copied_grows : (n : Name) (o : Option MuxFrame) → IsCopied ls n o → IsCopied ms n o
  copied_grows n None c = tt
  copied_grows n (Some f) c = g.taken n f c

  pub borne_grows : (h : Held) → Borne ls h → Borne ms h
  borne_grows (TicketOf n f left) b = g.taken n f b
  borne_grows (SettledBy n r again) b = (g.settled n r b.0, copied_grows n again b.1)
  borne_grows (LostOf n) b = g.gone n b
  borne_grows (PlacedAt n s t) b = tt
  borne_grows (RecallOf n s t w) b = tt

  pub copies_grow : (id : SessionId) (past : List Step) → CopiesOf ls id past → CopiesOf ms id past
  copies_grow (Client k) past h = tt
  copies_grow (Server k) past h = λ t n f held copy. g.taken n f (h t n f held copy)

  pub lines_copy : (xs : List Line) → EachLine (λ l. CopiesOf ls l.session l.steps) xs → EachLine (λ l. CopiesOf ms l.session l.steps) xs
  lines_copy [] h = tt
  lines_copy (l ∷ xs) h = (copies_grow l.session l.steps h.0, lines_copy xs h.1)

  pub hands_grow : (hs : List Hand) → AllHands (Borne ls) hs → AllHands (Borne ms) hs
  hands_grow [] h = tt
  hands_grow (x ∷ hs) h = (borne_grows x.held h.0, hands_grow hs h.1)

-- lists of connections
pub some_left : (P : Line → Type 0) (a b : List Line) → SomeLine P a → SomeLine P (a ++ b)
some_left P [] b s = absurd s
some_left P (l ∷ a) b (inl p) = inl p
some_left P (l ∷ a) b (inr s) = inr (some_left P a b s)

pub some_step : (P : Line → Type 0) (a : List Line) (l m : Line) (b : List Line) → (P l → P m) → SomeLine P (a ++ l ∷ b) → SomeLine P (a ++ m ∷ b)
some_step P [] l m b go (inl p) = inl (go p)
some_step P [] l m b go (inr s) = inr s
some_step P (x ∷ a) l m b go (inl p) = inl p
some_step P (x ∷ a) l m b go (inr s) = inr (some_step P a l m b go s)

pub some_here : (P : Line → Type 0) (a : List Line) (m : Line) (b : List Line) → P m → SomeLine P (a ++ m ∷ b)
some_here P [] m b p = inl p
some_here P (x ∷ a) m b p = inr (some_here P a m b p)

pub each_mid : (P : Line → Type 0) (a : List Line) (l : Line) (b : List Line) → EachLine P (a ++ l ∷ b) → P l
each_mid P [] l b e = e.0
each_mid P (x ∷ a) l b e = each_mid P a l b e.1

pub each_step : (P : Line → Type 0) (a : List Line) (l m : Line) (b : List Line) → P m → EachLine P (a ++ l ∷ b) → EachLine P (a ++ m ∷ b)
each_step P [] l m b p e = (p, e.1)
each_step P (x ∷ a) l m b p e = (e.0, each_step P a l m b p e.1)

pub each_push : (P : Line → Type 0) (a : List Line) (l : Line) → P l → EachLine P a → EachLine P (a ++ l ∷ [])
each_push P [] l p e = (p, tt)
each_push P (x ∷ a) l p e = (e.0, each_push P a l p e.1)

pub passed-append : (n : Name) (a b : List Line) → nacks_passed n (a ++ b) ≡ nacks_passed n a + nacks_passed n b
passed-append n [] b = omega arith
passed-append n (l ∷ a) b = omega (arith, passed-append n a b)

pub nacked-append : (n : Name) (a b : List Line) → times_nacked n (a ++ b) ≡ times_nacked n a + times_nacked n b
nacked-append n [] b = omega arith
nacked-append n (l ∷ a) b = omega (arith, nacked-append n a b)

pub grows_push : (a : List Line) (l : Line) → Grows a (a ++ l ∷ [])
grows_push a l = record {
  taken = λ n m s. some_left (IsTakenIn n m) a (l ∷ []) s;
  settled = λ n r s. some_left (IsSettledIn n r) a (l ∷ []) s;
  gone = λ n s. some_left (IsLostIn n) a (l ∷ []) s;
  unsent = λ n. omega (arith, total-append is_unsent n a (l ∷ []));
  passed = λ n. omega (arith, passed-append n a (l ∷ []));
}

-- a list with one more step
abbrev pub longer : Line → Call → Exchange → Line
longer l call e = record { boot = l.boot; session = l.session; mode = l.mode; steps = record { call = call; entry = e } ∷ l.steps }

-- once a server's list has ended it takes and sends nothing
abbrev pub EndsWell : SessionId → Exchange → List Exchange → Type 0
EndsWell (Client k) e old = Unit {0}
EndsWell (Server k) e old = HasEnded old → (e.taken ≡ None) × (e.sent ≡ None)

holder_kept : (k t : ℕ) (e : Exchange) (old : List Exchange) → (e.taken ≡ None) × (e.sent ≡ None) → holder (Server k) t (e ∷ old) ≡ holder (Server k) t old
holder_kept k t e old h =
    ap (λ s. asked t (record { place = length old; name = name_in e.rec }) s (answered t e.taken (holder (Server k) t old))) h.1
    ∙ ap (λ s. answered t s (holder (Server k) t old)) h.0

taken_step : (n : Name) (m : MuxFrame) (l : Line) (call : Call) (e : Exchange) → IsTakenIn n m l → IsTakenIn n m (longer l call e)
taken_step n m l call e h = (h.0, h.1, inr h.2)

settled_step : (n : Name) (r : MuxFrame) (l : Line) (call : Call) (e : Exchange) → IsSettledIn n r l → IsSettledIn n r (longer l call e)
settled_step n r l call e h = (h.0, h.1, inr h.2)

lost_step : (n : Name) (l : Line) (call : Call) (e : Exchange) → EndsWell l.session e (entries l.steps) → IsLostIn n l → IsLostIn n (longer l call e)
lost_step n l call e well h =
    let w : EndsWell (Server h.0) e (entries l.steps) = subst (λ id. EndsWell id e (entries l.steps)) h.1 well in
    (h.0, h.1, inr h.2, h.3, ap (λ (x : Option Holder). name_held x) (holder_kept h.0 h.3 e (entries l.steps) (w h.2)) ∙ h.4)

pub total_step : (p : RecordKind → Bool) (n : Name) (a : List Line) (l : Line) (call : Call) (e : Exchange) (b : List Line) → total p n (a ++ longer l call e ∷ b) ≡ in_record p n e.rec + total p n (a ++ l ∷ b)
total_step p n [] l call e b = omega arith
total_step p n (x ∷ a) l call e b = omega (arith, total_step p n a l call e b)

pub passed_step : (n : Name) (a : List Line) (l : Line) (call : Call) (e : Exchange) (b : List Line) → nacks_passed n (a ++ longer l call e ∷ b) ≡ passed_in n call e.rec + nacks_passed n (a ++ l ∷ b)
passed_step n [] l call e b = omega arith
passed_step n (x ∷ a) l call e b = omega (arith, passed_step n a l call e b)

-- the nacks of a name that an entry takes
abbrev pub nack_of : SessionId → Name → Exchange → List Exchange → ℕ
nack_of (Client k) n e old = 0
nack_of (Server k) n e old = nack_in n (λ t. holder (Server k) t old) e.taken

nacks_longer : (id : SessionId) (n : Name) (e : Exchange) (old : List Exchange) → nacks_on id n (e ∷ old) ≡ nack_of id n e old + nacks_on id n old
nacks_longer (Client k) n e old = omega arith
nacks_longer (Server k) n e old = refl

pub nacked_step : (n : Name) (a : List Line) (l : Line) (call : Call) (e : Exchange) (b : List Line) → times_nacked n (a ++ longer l call e ∷ b) ≡ nack_of l.session n e (entries l.steps) + times_nacked n (a ++ l ∷ b)
nacked_step n [] l call e b = omega (arith, nacks_longer l.session n e (entries l.steps))
nacked_step n (x ∷ a) l call e b = omega (arith, nacked_step n a l call e b)

pub grows_step : (a : List Line) (l : Line) (call : Call) (e : Exchange) (b : List Line) → EndsWell l.session e (entries l.steps) → Grows (a ++ l ∷ b) (a ++ longer l call e ∷ b)
grows_step a l call e b well = record {
  taken = λ n m s. some_step (IsTakenIn n m) a l (longer l call e) b (taken_step n m l call e) s;
  settled = λ n r s. some_step (IsSettledIn n r) a l (longer l call e) b (settled_step n r l call e) s;
  gone = λ n s. some_step (IsLostIn n) a l (longer l call e) b (lost_step n l call e well) s;
  unsent = λ n. omega (arith, total_step is_unsent n a l call e b);
  passed = λ n. omega (arith, passed_step n a l call e b);
}
