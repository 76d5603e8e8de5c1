-- A good entry keeps the invariant.
use Rattle.std.proofs.Common.{inl, inr, ◌⊎◌, ◌&&◌, ◌||◌, not, Bool, true, false, Option, None, Some, ℕ, List, [], ◌∷◌, ◌++◌, ◌+◌, ◌≡◌, ◌≤◌, refl, ◌∙◌, ap, arith}
use Rattle.mux_history.specs.declared.name.Name.{Name}
use Rattle.mux_history.specs.declared.session.SessionId.{SessionId}
use Rattle.mux_history.specs.declared.session.SessionId.TheVariants.{Client, Server}
use Rattle.mux_history.specs.declared.record.Record.{Record}
use Rattle.mux_model.specs.Entries.{Exchange}
use Rattle.mux_history.specs.Readings.{ends, is_epoch, has_ended, is_named, gives_name, is_offered, is_retried, dispatches}
use Rattle.mux_model.specs.Steps.{Call, Step, SettleCall, is_nack, records, with_record, NackCall, UnrouteCall, OfferCall, entries, Held, TicketOf, PlacedAt, SettledBy, RecallOf, LostOf}
use Rattle.mux_model.specs.World.{Hand, numbered}
use Rattle.mux_model.specs.Legal.{HasEnded, is_ending, bears, bearers, Line, Each, in_record, total, IsTakenIn, IsSettledIn, IsLostIn, times_in}
use Rattle.mux_legal.proofs.Names.{IsOwn, Tells, sound_entry}
use Rattle.mux_legal.proofs.Invariant.{is_unsent, weigh, weigh_hands, ticket_in, nack_held, passed_in, nacks_passed, Borne, BorneBy, AllHands, IsKept, HoldsSent, OwnSteps, CopiesOf, Inv}
use Rattle.mux_legal.proofs.Grow.{Grows, EndsWell, longer, grows_step, total_step, each_step, each_mid, lines_grow, hands_grow, some_here, nack_of, passed_step, nacked_step, copied_grows, lines_copy}
use Rattle.mux_legal.proofs.Basics.{one_if, given_in, or_true}

-- no epoch begins on a session that has ended
abbrev pub is_epoch_in : Option Record → Bool
is_epoch_in None = false
is_epoch_in (Some r) = is_epoch r.kind

abbrev pub EpochGoes : Exchange → List Step → Type 0
EpochGoes e past = has_ended (records past) ≡ true → is_epoch_in e.rec ≡ false

ends_longer : (r : Option Record) (rs : List Record) (es : List Exchange) → (has_ended rs ≡ true → is_epoch_in r ≡ false) → (HasEnded es → has_ended rs ≡ true) →
    (is_ending r ≡ true) ⊎ HasEnded es → has_ended (with_record r rs) ≡ true
ends_longer None rs es goes told (inl x) = absurd (cc)
ends_longer None rs es goes told (inr h) = told h
ends_longer (Some r) rs es goes told (inl x) = ap (λ b. b || (not (is_epoch r.kind) && has_ended rs)) x
ends_longer (Some r) rs es goes told (inr h) =
    ap (λ b. ends r.kind || (not b && has_ended rs)) (goes (told h)) ∙ (ap (λ b. ends r.kind || b) (told h) ∙ or_true (ends r.kind))

abbrev pub OwnStep : ℕ → SessionId → Exchange → List Step → Type 0
OwnStep b (Client k) e past =
    IsOwn b k e (entries past) × Tells e (entries past) × (dispatches (with_record e.rec (records past)) ≡ given_in e.rec + dispatches (records past)) × EpochGoes e past
OwnStep b (Server k) e past =
    ((n : Name) → (in_record gives_name n e.rec ≡ 0) × (in_record is_retried n e.rec ≡ 0) × (times_in n e ≤ in_record is_offered n e.rec))
    × HoldsSent k (with_record e.rec (records past)) (e ∷ entries past) × EpochGoes e past

abbrev pub AllHeld : (Held → Type 0) → List Held → Type 0
AllHeld P [] = Unit {0}
AllHeld P (h ∷ hs) = P h × AllHeld P hs

-- the tickets that a call uses up, and the nacks
abbrev pub used : Call → Name → ℕ
used (NackCall m) n = one_if (is_named n (Some m))
used (UnrouteCall m) n = one_if (is_named n (Some m))
used (OfferCall m f left now) n = one_if (is_named n (Some m))
used _ n = 0

abbrev pub nack_used : Call → Name → ℕ
nack_used (SettleCall m r again) n = one_if (is_nack r && is_named n (Some m))
nack_used _ n = 0

-- what an entry of a session's step brings
pub record IsGood (ls : List Line) (l : Line) (call : Call) (e : Exchange) (gives : List Held) : Type 0 where
  pub owns : OwnStep l.boot l.session e l.steps
  pub balance : (n : Name) → weigh (ticket_in n) gives + in_record is_offered n e.rec + in_record is_unsent n e.rec ≤ in_record gives_name n e.rec + in_record is_retried n e.rec + used call n
  pub nacked : (n : Name) → weigh (nack_held n) gives + in_record is_retried n e.rec + passed_in n call e.rec ≤ nack_of l.session n e (entries l.steps) + nack_used call n
  pub copies : (ms : List Line) → Grows ls ms → CopiesOf ms l.session (record { call = call; entry = e } ∷ l.steps)
  pub keeps : (ms : List Line) → Grows ls ms → ((n : Name) → in_record is_unsent n e.rec ≤ total is_unsent n ms) → ((n : Name) → passed_in n call e.rec ≤ nacks_passed n ms) → IsKept ms l.session e (entries l.steps)
  pub bears : AllHeld (λ h. BorneBy ls h (longer l call e)) gives
  pub well : EndsWell l.session e (entries l.steps)

own_longer : (b : ℕ) (id : SessionId) (call : Call) (e : Exchange) (past : List Step) → OwnStep b id e past → OwnSteps b id past → OwnSteps b id (record { call = call; entry = e } ∷ past)
own_longer b (Client k) call e past o os =
    ((o.0, os.0), sound_entry b k e (entries past) os.0 o.0 o.1.0 os.1, (o.1, os.2), o.2 ∙ ap (λ d. given_in e.rec + d) os.3, ends_longer e.rec (records past) (entries past) o.3 os.4)
own_longer b (Server k) call e past o os = ((λ n. (omega (arith, (o.0 n).0, (os.0 n).0), omega (arith, (o.0 n).1, (os.0 n).1), omega (arith, (o.0 n).2, (os.0 n).2))), o.1, ends_longer e.rec (records past) (entries past) o.2 os.2)

bearers_step : (c : ℕ) (id : SessionId) (a : List Line) (l : Line) (call : Call) (e : Exchange) (b : List Line) → bearers c id (a ++ longer l call e ∷ b) ≡ bearers c id (a ++ l ∷ b)
bearers_step c id [] l call e b = refl
bearers_step c id (x ∷ a) l call e b = ap (λ m. bears c id x + m) (bearers_step c id a l call e b)

pub weigh-append : (w : Held → ℕ) (a b : List Hand) → weigh_hands w (a ++ b) ≡ weigh_hands w a + weigh_hands w b
weigh-append w [] b = omega arith
weigh-append w (h ∷ a) b = omega (arith, weigh-append w a b)

pub weigh-numbered : (w : Held → ℕ) (k : ℕ) (hs : List Held) → weigh_hands w (numbered k hs) ≡ weigh w hs
weigh-numbered w k [] = refl
weigh-numbered w k (h ∷ hs) = omega (arith, weigh-numbered w (k + 1) hs)

pub AllHands-append : (P : Held → Type 0) (a b : List Hand) → AllHands P a → AllHands P b → AllHands P (a ++ b)
AllHands-append P [] b p q = q
AllHands-append P (h ∷ a) b p q = (p.0, AllHands-append P a b p.1 q)

module _ (ls a : List Line) (m : Line) (b : List Line) (g : Grows ls (a ++ m ∷ b)) where
  here : (h : Held) → BorneBy ls h m → Borne (a ++ m ∷ b) h
  here (TicketOf n f left) (inl p) = some_here (IsTakenIn n f) a m b p
  here (TicketOf n f left) (inr p) = g.taken n f p
  here (SettledBy n r again) p = (some_here (IsSettledIn n r) a m b p.0, copied_grows ls (a ++ m ∷ b) g n again p.1)
  here (LostOf n) p = some_here (IsLostIn n) a m b p
  here (PlacedAt n s t) p = tt
  here (RecallOf n s t w) p = tt

  new_borne : (k : ℕ) (hs : List Held) → AllHeld (λ h. BorneBy ls h m) hs → AllHands (Borne (a ++ m ∷ b)) (numbered k hs)
  new_borne k [] p = tt
  new_borne k (h ∷ hs) p = (here h p.0, new_borne (k + 1) hs p.1)

pub advance : {boot clients servers : ℕ} (a : List Line) (l : Line) (b : List Line) (call : Call) (e : Exchange) (hands rest : List Hand) (gives : List Held) (k : ℕ) →
    Inv boot clients servers (a ++ l ∷ b) hands → IsGood (a ++ l ∷ b) l call e gives →
    ((n : Name) → weigh_hands (ticket_in n) rest + used call n ≤ weigh_hands (ticket_in n) hands) →
    ((n : Name) → weigh_hands (nack_held n) rest + nack_used call n ≤ weigh_hands (nack_held n) hands) → ((P : Held → Type 0) → AllHands P hands → AllHands P rest) →
    Inv boot clients servers (a ++ longer l call e ∷ b) (rest ++ numbered k gives)
advance {boot} {clients} {servers} a l b call e hands rest gives k v good spent nacks still =
    let ls = a ++ l ∷ b in
    let ms = a ++ longer l call e ∷ b in
    let grows = grows_step a l call e b good.well in
    let kept = lines_grow ls ms grows ls v.kept in
    record {
      unique = λ c id. omega (arith, bearers_step c id a l call e b, v.unique c id);
      later = λ c id h. bearers_step c id a l call e b ∙ v.later c id h;
      next_client = λ k h. bearers_step boot (Client k) a l call e b ∙ v.next_client k h;
      next_server = λ k h. bearers_step boot (Server k) a l call e b ∙ v.next_server k h;
      own = each_step (λ x. OwnSteps x.boot x.session x.steps) a l (longer l call e) b
          (own_longer l.boot l.session call e l.steps good.owns (each_mid (λ x. OwnSteps x.boot x.session x.steps) a l b v.own)) v.own;
      linear = λ n. omega (
        arith,
        v.linear n,
        good.balance n,
        spent n,
        weigh-append (ticket_in n) rest (numbered k gives),
        weigh-numbered (ticket_in n) k gives,
        total_step is_offered n a l call e b,
        total_step is_unsent n a l call e b,
        total_step gives_name n a l call e b,
        total_step is_retried n a l call e b,
      );
      nacked = λ n. omega (
        arith,
        v.nacked n,
        good.nacked n,
        nacks n,
        weigh-append (nack_held n) rest (numbered k gives),
        weigh-numbered (nack_held n) k gives,
        total_step is_retried n a l call e b,
        passed_step n a l call e b,
        nacked_step n a l call e b,
      );
      copies = each_step (λ x. CopiesOf ms x.session x.steps) a l (longer l call e) b (good.copies ms grows) (lines_copy ls ms grows ls v.copies);
      borne = AllHands-append (Borne ms) rest (numbered k gives) (hands_grow ls ms grows rest (still (Borne ls) v.borne)) (new_borne ls a (longer l call e) b grows k gives good.bears);
      kept = each_step (λ x. Each (IsKept ms x.session) (entries x.steps)) a l (longer l call e) b (
        good.keeps ms grows (λ n. omega (arith, total_step is_unsent n a l call e b)) (λ n. omega (arith, passed_step n a l call e b)),
        each_mid (λ x. Each (IsKept ms x.session) (entries x.steps)) a l b kept,
      ) kept;
    }
