-- A message that closes nothing and settles nothing: the state after each reaction belongs to the longer list.
use Rattle.std.proofs.Common.{◌≡◌, ℕ, ◌+◌, Bool, true, false, cond, List, ◌∷◌, Option, None, Some, Ok, refl, sym, ◌∙◌, ap, inl, inr, arith}
use Rattle.std.specs.Prelude.{◌==◌, ◌&&◌, max, pos, negsuc}
use Rattle.std.specs.FinMap as map
use Rattle.mux_frame.specs.Spelling.{MuxFrame}
use Rattle.mux_message.specs.Content.{Content, tdispatch, rdispatch, tdrain, rdrain, tdiscarded, rdiscarded, tlease, tinit, rinit, tping, rping, treq, rreq, rerr, other}
use Rattle.mux_message.specs.Kinds.{kind_of, is_final}
use Rattle.mux_message.specs.Parts.{kind_in}
use Rattle.mux_message.specs.Reading.{message_of}
use Rattle.mux_message.specs.Made.{tinit_on, rdrain_on, is_probe}
use Rattle.mux_history.specs.declared.record.Record.{Record}
use Rattle.mux_history.specs.declared.kind.RecordKind.{RecordKind}
use Rattle.mux_history.specs.declared.kind.RecordKind.TheVariants as kinds
use Rattle.mux_history.specs.declared.session.SessionId.TheVariants.{Server}
use Rattle.mux_history.specs.declared.session.InitMode.{InitMode}
use Rattle.mux_history.specs.declared.session.InitMode.TheVariants as modes
use Rattle.mux_history.specs.declared.session.InitState.{InitState}
use Rattle.mux_history.specs.declared.session.InitState.TheVariants.{Probing, Asked, Open}
use Rattle.mux_history.specs.Lapse.{leased, granted}
use Rattle.mux_history.specs.Readings.{ends, is_epoch, stands, is_ping_sent, is_ping_done, count_kind, init_by, is_init_done, is_init_asked, is_open as is_ready}
use Rattle.mux_model.specs.Steps.{FrameCall, records, entries as entries_of, entry_of, lease_in}
use Rattle.mux_model.specs.Tags.{Holder, holder, answered}
use Rattle.mux_model.specs.Up.{sends_rdrain, Reaction, Pongs, Drains, Ignores, Unsupports, AsksInit, EndsInit, EndsPing, Drops, Leases, Shut, Full, Short, Closes, Settles, asks_other, leases, on_rerr, on_rinit, plainly}
use Rattle.client_session.specs.Past.{Past, add}
use Rattle.client_session.specs.State.{State, noted, reacted_in, kind_by, sends_by}
use Rattle.session_init.specs.Initiation.{client_gives, client_after, sends, opens, passes}
use Rattle.client_session.specs.Decide.{otherwise}
use Rattle.client_session.specs.Belonging.{Belongs}
use Rattle.client_session.proofs.Entries.{same_or}
use Rattle.client_session.proofs.Open.{eq_true, eq_false}
use Rattle.client_session.proofs.Deciding.{vacant}
use Rattle.client_session.proofs.Keeping.{IsPlain, IsGoing, quiet, init_kept, flags_kept, same_sum}

-- what a reaction tells of the state and of the message
abbrev Fits : InitState → (ping : Bool) → (granted : Option ℕ) → Reaction → Type 0
Fits init ping g (Leases ms) = g ≡ Some ms
Fits init ping g AsksInit = (g ≡ None) × (init ≡ Probing)
Fits init ping g EndsPing = (g ≡ None) × (ping ≡ true)
Fits init ping g _ = g ≡ None

asks_fit : (init : InitState) (ping : Bool) (t : ℕ) → Fits init ping None (asks_other t)
asks_fit init ping t = elim (t == 0) as (λ z. Fits init ping None (cond z Ignores Unsupports)) [ true ↦ refl | false ↦ refl ]

leases_fit : (init : InitState) (ping : Bool) (g : Option ℕ) → Fits init ping g (leases g)
leases_fit init ping None = refl
leases_fit init ping (Some ms) = refl

ends_or_drops : (init : InitState) (ping z : Bool) → Fits init ping None (cond z EndsInit Drops)
ends_or_drops init ping true = refl
ends_or_drops init ping false = refl

rerr_fits : (init : InitState) (ping : Bool) (t : ℕ) (why : List ℕ) → Fits init ping None (on_rerr init ping t why)
rerr_fits Probing ping t why = elim (t == 1) as (λ z. Fits Probing ping None (cond z (cond (is_probe t why) AsksInit EndsInit) Drops)) [
  | true ↦ elim (is_probe t why) as (λ z. Fits Probing ping None (cond z AsksInit EndsInit)) [ true ↦ (refl, refl) | false ↦ refl ]
  | false ↦ refl
]
rerr_fits Asked ping t why = ends_or_drops Asked ping (t == 1)
rerr_fits Open true t why = elim (t == 1) as (λ z. Fits Open true None (cond (z && true) EndsPing Drops)) [ true ↦ (refl, refl) | false ↦ refl ]
rerr_fits Open false t why = elim (t == 1) as (λ z. Fits Open false None (cond (z && false) EndsPing Drops)) [ true ↦ refl | false ↦ refl ]

rinit_fits : (init : InitState) (ping : Bool) (t : ℕ) → Fits init ping None (on_rinit init t)
rinit_fits Probing ping t = refl
rinit_fits Asked ping t = ends_or_drops Asked ping (t == 1)
rinit_fits Open ping t = refl

rping_fits : (init : InitState) (a ping c : Bool) → Fits init ping None (cond (a && ping && c) EndsPing Drops)
rping_fits init true true true = (refl, refl)
rping_fits init true true false = refl
rping_fits init true false c = refl
rping_fits init false ping c = refl

plainly_fits : (init : InitState) (ping : Bool) (t : ℕ) (m : Content) → Fits init ping (lease_in (Ok m)) (plainly init ping t m)
plainly_fits init ping t tping = refl
plainly_fits init ping t tdrain = refl
plainly_fits init ping t (tlease unit howmuch) = leases_fit init ping (granted unit howmuch)
plainly_fits init ping t (tdiscarded tag why) = refl
plainly_fits init ping t (treq body) = asks_fit init ping t
plainly_fits init ping t (tdispatch c d e b) = asks_fit init ping t
plainly_fits init ping t (tinit v h) = asks_fit init ping t
plainly_fits init ping t (other (pos n) body) = elim (n == 0) as (λ z. Fits init ping None (cond z Drops (asks_other t))) [ true ↦ refl | false ↦ asks_fit init ping t ]
plainly_fits init ping t (other (negsuc n) body) = refl
plainly_fits init ping t (rerr why) = rerr_fits init ping t why
plainly_fits init ping t (rinit v h) = rinit_fits init ping t
plainly_fits init ping t rping = rping_fits init (is_ready init) ping (t == 1)
plainly_fits init ping t (rdispatch st c b) = refl
plainly_fits init ping t rdiscarded = refl
plainly_fits init ping t rdrain = refl
plainly_fits init ping t (rreq b) = refl

begins_asking : (mode : InitMode) (r : Record) (past : List Record) → is_init_asked r.kind ≡ true → is_init_done r.kind ≡ false → is_epoch r.kind ≡ false → init_by mode past ≡ Probing → init_by mode (r ∷ past) ≡ Asked
begins_asking modes.Plain r past a d e is = cc
begins_asking modes.Probe r past a d e is = rw (a, d, e) (by (stands is_init_done past) (stands is_init_asked past) is)
  where
    by : (done asks : Bool) → cond done Open (cond asks Asked Probing) ≡ Probing → ◌≡◌ {A = InitState} (cond done Open Asked) Asked
    by true asks h = cc
    by false asks h = refl

is_begun : (mode : InitMode) (r : Record) (past : List Record) → is_init_done r.kind ≡ true → init_by mode (r ∷ past) ≡ Open
is_begun modes.Plain r past d = refl
is_begun modes.Probe r past d = rw d refl

-- a ping that was out is answered
one_done : (z : Bool) (sent done : ℕ) → sent ≡ done + cond {A = ℕ} z 1 0 → z ≡ true → 0 + sent ≡ 1 + done + 0
one_done true sent done e is = omega (arith, e)
one_done false sent done e is = cc

-- a message that frees no tag
abbrev FreesNone : (p : Past) → MuxFrame → Type 0
FreesNone p f = (t : ℕ) → answered t (Some f) (holder (Server p.session.number) t (entries_of p.steps)) ≡ holder (Server p.session.number) t (entries_of p.steps)

abbrev Reacts : State → Past → ℕ → MuxFrame → Reaction → Type 0
Reacts s p now f r =
    Belongs (reacted_in s now f.tag r) (add p (FrameCall f now) (entry_of (records p.steps) now (kind_by r) f.tag None (Some f) (sends_by r f.tag)))

-- a reaction that changes no flag
unflagged : (s : State) (p : Past) (now : ℕ) (f : MuxFrame) (kind : RecordKind) (sent : Option MuxFrame) → Belongs s p
    → ((t : ℕ) → holder (Server p.session.number) t (entry_of (records p.steps) now kind f.tag None (Some f) sent ∷ entries_of p.steps) ≡ holder (Server p.session.number) t (entries_of p.steps))
    → IsPlain kind → IsGoing kind → ends kind ≡ false → lease_in (message_of f) ≡ None → sends_rdrain sent ≡ false
    → Belongs (noted s now kind f.tag None sent) (add p (FrameCall f now) (entry_of (records p.steps) now kind f.tag None (Some f) sent))
unflagged s p now f kind sent b same plain going ends_not none undrained =
    quiet s p now (FrameCall f now) kind f.tag (Some f) sent s.lapse s.init s.drained s.retired s.ping s.closed b going same
    (flags_kept s p now kind (Some f) sent s.closed b plain going.0 none undrained (rw ends_not refl))

dropped : (s : State) (p : Past) (now : ℕ) (f : MuxFrame) → Belongs s p → FreesNone p f → lease_in (message_of f) ≡ None → Reacts s p now f Drops
dropped s p now f b same is = unflagged s p now f kinds.Dropped None b same (refl, refl, refl, refl, refl, refl, λ r l. refl) (refl, refl, λ r ss. refl) refl is refl

reacts : (s : State) (p : Past) (now : ℕ) (f : MuxFrame) (r : Reaction) → Belongs s p → FreesNone p f → Fits (s.init) s.ping (lease_in (message_of f)) r → Reacts s p now f r
reacts s p now f Pongs b same is = unflagged s p now f kinds.Ponged _ b same (refl, refl, refl, refl, refl, refl, λ r l. refl) (refl, refl, λ r ss. refl) refl is refl
reacts s p now f Ignores b same is = unflagged s p now f kinds.Ignored _ b same (refl, refl, refl, refl, refl, refl, λ r l. refl) (refl, refl, λ r ss. refl) refl is refl
reacts s p now f Unsupports b same is = unflagged s p now f kinds.Unsupported _ b same (refl, refl, refl, refl, refl, refl, λ r l. refl) (refl, refl, λ r ss. refl) refl is refl
reacts s p now f Drains b same is =
    quiet s p now (FrameCall f now) kinds.Drained f.tag (Some f) (Some (rdrain_on f.tag)) s.lapse s.init true s.retired s.ping s.closed b (refl, refl, λ r ss. refl) same (record {
      lapse = rw is b.lapse;
      lease = λ tag. b.lease;
      init = λ tag. b.init ∙ sym (init_kept p.session.mode _ (records p.steps) refl refl refl);
      drained = refl;
      drains = refl;
      retired = b.retired;
      pings = same_sum _ _ _ b.pings;
      closed = b.closed;
    })
reacts s p now f (Leases ms) b same is =
    quiet s p now (FrameCall f now) (kinds.Leased ms) f.tag (Some f) None (leased (max s.reading now) (Some ms) s.lapse) s.init s.drained s.retired s.ping s.closed b (refl, refl, λ r ss. refl) same (record {
      lapse = rw is (ap (λ (r : ℕ). leased (max r now) (Some ms) s.lapse) b.reading);
      lease = λ tag. ap (λ (r : ℕ). leased (max r now) (Some ms) s.lapse) b.reading;
      init = λ tag. b.init ∙ sym (init_kept p.session.mode _ (records p.steps) refl refl refl);
      drained = b.drained;
      drains = b.drains;
      retired = b.retired;
      pings = same_sum _ _ _ b.pings;
      closed = b.closed;
    })
reacts s p now f AsksInit b same is =
    quiet s p now (FrameCall f now) kinds.InitAsked f.tag (Some f) (Some (tinit_on 1)) s.lapse Asked s.drained s.retired s.ping s.closed b (refl, refl, λ r ss. refl) same (record {
      lapse = rw (is.0) b.lapse;
      lease = λ tag. b.lease;
      init = λ tag. sym (begins_asking p.session.mode _ (records p.steps) refl refl refl (sym b.init ∙ is.1));
      drained = b.drained;
      drains = b.drains;
      retired = b.retired;
      pings = same_sum _ _ _ b.pings;
      closed = b.closed;
    })
reacts s p now f EndsInit b same is =
    quiet s p now (FrameCall f now) kinds.InitDone f.tag (Some f) None s.lapse Open s.drained s.retired s.ping s.closed b (refl, refl, λ r ss. refl) same (record {
      lapse = rw is b.lapse;
      lease = λ tag. b.lease;
      init = λ tag. sym (is_begun p.session.mode _ (records p.steps) refl);
      drained = b.drained;
      drains = b.drains;
      retired = b.retired;
      pings = same_sum _ _ _ b.pings;
      closed = b.closed;
    })
reacts s p now f EndsPing b same is =
    quiet s p now (FrameCall f now) kinds.PingDone f.tag (Some f) None s.lapse s.init s.drained s.retired false s.closed b (refl, refl, λ r ss. refl) same (record {
      lapse = rw (is.0) b.lapse;
      lease = λ tag. b.lease;
      init = λ tag. b.init ∙ sym (init_kept p.session.mode _ (records p.steps) refl refl refl);
      drained = b.drained;
      drains = b.drains;
      retired = b.retired;
      pings = one_done s.ping (count_kind is_ping_sent (records p.steps)) (count_kind is_ping_done (records p.steps)) b.pings (is.1);
      closed = b.closed;
    })
reacts s p now f Drops b same is = dropped s p now f b same is
reacts s p now f Shut b same is = dropped s p now f b same is
reacts s p now f Full b same is = dropped s p now f b same is
reacts s p now f Short b same is = dropped s p now f b same is
reacts s p now f (Closes cause) b same is = dropped s p now f b same is
reacts s p now f (Settles name again) b same is = dropped s p now f b same is

-- a final reply on a tag that is not open frees none
not_freed : (z : Bool) (tag t : ℕ) (held : ℕ → Option Holder) → (z ≡ true → held tag ≡ None) → cond (z && tag == t) None (held t) ≡ held t
not_freed false tag t held free = refl
not_freed true tag t held free = elim (same_or tag t) [
  | inl e ↦ ap (λ (z : Bool). cond z None (held t)) (eq_true tag t e) ∙ sym (free refl) ∙ ap held e
  | inr n ↦ ap (λ (z : Bool). cond z None (held t)) (eq_false tag t n)
]

pub kept_reacted : (s : State) (p : Past) (now : ℕ) (f : MuxFrame) (m : Content) → Belongs s p → s.closed ≡ false → message_of f ≡ Ok m → kind_of f.kind ≡ kind_in m
    → (is_final (kind_in m) ≡ true → map.get s.entries f.tag ≡ None)
    → Belongs (reacted_in s now f.tag (plainly (s.init) s.ping f.tag m))
    (add p (FrameCall f now) (entry_of (records p.steps) now (kind_by (plainly (s.init) s.ping f.tag m)) f.tag None (Some f) (sends_by (plainly (s.init) s.ping f.tag m) f.tag)))
kept_reacted s p now f m b up read kind free =
    reacts s p now f (plainly (s.init) s.ping f.tag m) b
    (λ t. not_freed (is_final (kind_of f.kind)) f.tag t (λ q. holder (Server p.session.number) q (entries_of p.steps))
    (λ final. vacant s p f.tag b up (free (sym (ap is_final kind) ∙ final))))
    (rw read (plainly_fits (s.init) s.ping f.tag m))

-- A MESSAGE THAT IS NONE OF INITIATION

abbrev pub IsUntouched : InitState → (ping : Bool) → MuxFrame → Content → Type 0
IsUntouched init ping f m = (client_after init f m ≡ init) × (plainly init ping f.tag m ≡ otherwise init ping f.tag m)

same_test : (a b : Bool) → cond (a && b) EndsPing Drops ≡ cond (b && a) EndsPing Drops
same_test true true = refl
same_test true false = refl
same_test false true = refl
same_test false false = refl

-- initiation stays as it was, and the message leads to the same
pub untouched : (init : InitState) (ping : Bool) (f : MuxFrame) (m : Content) → client_gives init f m ≡ passes → IsUntouched init ping f m
untouched Probing ping f (rerr why) h = by (f.tag == 1) (is_probe f.tag why) h
  where
    by : (a b : Bool) → cond a (cond b (sends (tinit_on 1)) opens) passes ≡ passes
        → (cond a (cond b Asked Open) Probing ≡ Probing) × (cond a (cond b AsksInit EndsInit) Drops ≡ Drops)
    by true true h = cc
    by true false h = cc
    by false b h = (refl, refl)
untouched Asked ping f (rerr why) h = by (f.tag == 1) h
  where
    by : (a : Bool) → cond a opens passes ≡ passes → (cond a Open Asked ≡ Asked) × (cond a EndsInit Drops ≡ Drops)
    by true h = cc
    by false h = (refl, refl)
untouched Open ping f (rerr why) h = (refl, same_test (f.tag == 1) ping)
untouched Asked ping f (rinit v hs) h = by (f.tag == 1) h
  where
    by : (a : Bool) → cond a opens passes ≡ passes → (cond a Open Asked ≡ Asked) × (cond a EndsInit Drops ≡ Drops)
    by true h = cc
    by false h = (refl, refl)
untouched Probing ping f (rinit v hs) h = (refl, refl)
untouched Open ping f (rinit v hs) h = (refl, refl)
untouched Probing ping f _ h = (refl, refl)
untouched Asked ping f _ h = (refl, refl)
untouched Open ping f _ h = (refl, refl)
