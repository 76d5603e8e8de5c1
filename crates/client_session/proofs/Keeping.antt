-- Each step takes a state that belongs to a list to one that belongs to the longer list.
use Rattle.std.proofs.Common.{◌≡◌, ℕ, ◌+◌, Bool, true, false, cond, List, [], ◌∷◌, ◌++◌, Option, None, Some, Ok, refl, sym, ◌∙◌, ap, subst, append_assoc, inl, inr, arith}
use Rattle.std.specs.Prelude.{◌-◌, ◌==◌, ◌&&◌, ◌||◌, if◌then◌else◌, max, reverse, not, map as map_list}
use Rattle.std.specs.Option.{option_to_list}
use Rattle.std.specs.Ordering.{nat_cmp}
use Rattle.std.specs.FinMap as map
use mathlib.Core.List.{reverse-cons}
use Rattle.mux_frame.specs.Spelling.{MuxFrame}
use Rattle.mux_message.specs.Kinds.{kind_of, is_final, is_dispatch}
use Rattle.mux_message.specs.Content.{Content, tlease}
use Rattle.mux_message.specs.Parts.{kind_in}
use Rattle.mux_message.specs.Reading.{message_of}
use Rattle.mux_message.specs.declared.kind.MessageKind.TheVariants.{Tdispatch}
use Rattle.mux_message.specs.Made.{retag, tdiscarded_for, tping_on}
use Rattle.mux_history.specs.declared.delays.Delays.{Delays}
use Rattle.mux_history.specs.Delaying.{answered}
use Rattle.mux_history.specs.declared.name.Name.{Name}
use Rattle.mux_history.specs.declared.kind.Cause.{Cause}
use Rattle.mux_history.specs.declared.record.Record.{Record}
use Rattle.mux_history.specs.declared.kind.RecordKind.{RecordKind}
use Rattle.mux_history.specs.declared.kind.RecordKind.TheVariants as kinds
use Rattle.mux_history.specs.declared.session.SessionId.TheVariants.{Server}
use Rattle.mux_history.specs.declared.session.InitMode.{InitMode}
use Rattle.mux_history.specs.declared.session.InitMode.TheVariants as modes
use Rattle.mux_history.specs.declared.session.InitState.{InitState}
use Rattle.mux_history.specs.Lapse.{leased, lease_of, lease_after}
use Rattle.mux_history.specs.Readings.{has_ended, ends, reading, stands, is_retiring, is_ping_sent, is_ping_done, count_kind, init_by, is_init_done, is_init_asked, is_offered, is_epoch, is_cut, is_drained_kind, written, epoch_of, epoch_after, Sending, sendings, sendings_after, off_tag}
use Rattle.mux_model.specs.Entries.{Exchange}
use Rattle.mux_model.specs.Steps.{Call, FrameCall, OfferCall, RecallCall, ClockCall, RetireCall, PingCall, LoseCall, LoseNextCall, records, entries as entries_of, entry_of, closing, lease_in, is_nack, Step}
use Rattle.mux_model.specs.Tags.{Holder, holder}
use Rattle.mux_model.specs.Up.{init_of, is_drained, lease_end, lease_taken, sends_rdrain, settled_kind, copy_of}
use Rattle.client_session.specs.Past.{Past, Dispatch, add, open_of, dispatch_on, delayed, delays_of, since_on}
use Rattle.client_session.specs.State.{State, noted, beginning, holding, releasing, answering, since_in, marking, marked_in}
use Rattle.client_session.specs.Belonging.{Belongs, HasDistinctTags, IsHeldBy}
use Rattle.client_session.proofs.Entries.{same_or}
use Rattle.client_session.proofs.Open.{eq_true, eq_false, others, find-others, distinct-others, from_entries-others, find-dispatch_on, recalled_if, recalled_option, find-recalling, distinct-recalling, from_entries-recalling}
use Rattle.client_session.proofs.Lists.{onto, open_after, open_offered, open_freed, open_discarding, settling, since_there}
use Rattle.client_session.proofs.Deciding.{get_same}

-- the state with other entries, delays and flags
abbrev pub changed : State → map.FinMap nat_cmp Dispatch → Delays → Option ℕ → InitState → (drained retired ping closed : Bool) → State
changed s m delays lapse init drained retired ping closed =
    record s { entries = m; delays = delays; lapse = lapse; init = init; drained = drained; retired = retired; ping = ping; closed = closed }

-- what the entries and the flags must be after an entry
pub record Changes (p : Past) (call : Call) (e : Exchange) (m : map.FinMap nat_cmp Dispatch) (de : Delays) (la : Option ℕ) (begun : InitState) (dr re pi cl : Bool) : Type 0 where
  pub entries : m ≡ map.from_entries (open_of (onto call e p.steps))
  pub delays : de ≡ delays_of (onto call e p.steps)
  pub distinct : HasDistinctTags (open_of (onto call e p.steps))
  pub held : has_ended (records (onto call e p.steps)) ≡ false → (t : ℕ)
      → IsHeldBy (holder (Server p.session.number) t (e ∷ entries_of p.steps)) (dispatch_on t (open_of (onto call e p.steps)))
  pub lapse : la ≡ lease_end (e ∷ entries_of p.steps)
  pub lease : la ≡ lease_of (records (onto call e p.steps))
  pub init : begun ≡ init_of p.session (records (onto call e p.steps))
  pub drained : dr ≡ is_drained (e ∷ entries_of p.steps)
  pub drains : dr ≡ stands is_drained_kind (records (onto call e p.steps))
  pub retired : re ≡ stands is_retiring (records (onto call e p.steps))
  pub pings : count_kind is_ping_sent (records (onto call e p.steps)) ≡ count_kind is_ping_done (records (onto call e p.steps)) + (if pi then 1 else 0)
  pub closed : cl ≡ has_ended (records (onto call e p.steps))

same_epoch : (k : RecordKind) (n : ℕ) → is_cut k ≡ false → epoch_after k n ≡ n
same_epoch (kinds.Epoch number standing) n e = absurd (cc)
same_epoch (kinds.Rolled number) n e = absurd (cc)
same_epoch _ n e = refl

no_epoch : (k : RecordKind) → is_cut k ≡ false → is_epoch k ≡ false
no_epoch (kinds.Epoch number standing) e = absurd (cc)
no_epoch _ e = refl

pub Belongs-noted : (s : State) (p : Past) (now : ℕ) (call : Call) (kind : RecordKind) (tag : ℕ) (name : Option Name) (taken sent : Option MuxFrame)
    (m : map.FinMap nat_cmp Dispatch) (delays : Delays) (lapse : Option ℕ) (init : InitState) (drained retired ping closed : Bool) → Belongs s p → is_cut kind ≡ false
    → Changes p call (entry_of (records p.steps) now kind tag name taken sent) m delays lapse init drained retired ping closed
    → Belongs (noted (changed s m delays lapse init drained retired ping closed) now kind tag name sent) (add p call (entry_of (records p.steps) now kind tag name taken sent))
Belongs-noted s p now call kind tag name taken sent m delays lapse init drained retired ping closed b going c = record {
  server = b.server;
  limits = b.limits;
  epoch = b.epoch ∙ sym (same_epoch kind (epoch_of (records p.steps)) going);
  records =
      let r : Record = record { kind = kind; tag = tag; name = name; reading = max (reading (records p.steps)) now } in
      ap (λ (rs : List Record). rs ++ record { kind = kind; tag = tag; name = name; reading = max s.reading now } ∷ []) b.records
      ∙ ap (λ (n : ℕ). reverse (written (records p.steps)) ++ record { kind = kind; tag = tag; name = name; reading = max n now } ∷ []) b.reading
      ∙ sym (reverse-cons r (written (records p.steps)))
      ∙ ap (λ (z : Bool). reverse (r ∷ cond z [] (written (records p.steps)))) (sym going);
  queue = sym (append_assoc p.out s.queue (option_to_list sent)) ∙ ap (λ (q : List MuxFrame). q ++ option_to_list sent) b.queue;
  entries = c.entries;
  delays = c.delays;
  distinct = c.distinct;
  held = c.held;
  lapse = c.lapse;
  lease = c.lease;
  reading = ap (λ (r : ℕ). max r now) b.reading;
  init = c.init;
  drained = c.drained;
  drains = c.drains;
  retired = c.retired;
  pings = c.pings;
  closed = c.closed;
}

-- A STEP THAT SENDS NO DISPATCH AND ENDS NONE

-- a kind of record that changes nothing of what is held
abbrev pub IsGoing : RecordKind → Type 0
IsGoing kind = (is_cut kind ≡ false) × (is_offered kind ≡ false) × ((r : Record) (ss : List Sending) → sendings_after r kind ss ≡ ss)

-- a kind that ends no dispatch answers none
none_answered : (kind : RecordKind) → ((r : Record) (ss : List Sending) → sendings_after r kind ss ≡ ss) → (r : Record) (old : List Step) (d : Delays) → delayed r kind old d ≡ d
none_answered (kinds.Settled type) same r old d = absurd (let gone = same (record { kind = kinds.SettledNack; tag = 0; name = None; reading = 0 }) (record { tag = 0; name = None; recalled = false } ∷ []) in cc)
none_answered kinds.SettledNack same r old d = absurd (let gone = same (record { kind = kinds.SettledNack; tag = 0; name = None; reading = 0 }) (record { tag = 0; name = None; recalled = false } ∷ []) in cc)
none_answered _ same r old d = refl

-- the flags after an entry without a name
pub record Flags (p : Past) (now : ℕ) (kind : RecordKind) (taken sent : Option MuxFrame) (la : Option ℕ) (begun : InitState) (dr re pi cl : Bool) : Type 0 where
  pub lapse : la ≡ leased (max (reading (records p.steps)) now) (lease_taken taken) (lease_end (entries_of p.steps))
  pub lease : (tag : ℕ) → la ≡ lease_after (record { kind = kind; tag = tag; name = None; reading = max (reading (records p.steps)) now }) kind (lease_of (records p.steps))
  pub init : (tag : ℕ) → begun ≡ init_of p.session (record { kind = kind; tag = tag; name = None; reading = max (reading (records p.steps)) now } ∷ records p.steps)
  pub drained : dr ≡ sends_rdrain sent || is_drained (entries_of p.steps)
  pub drains : dr ≡ is_drained_kind kind || (not (is_epoch kind) && stands is_drained_kind (records p.steps))
  pub retired : re ≡ is_retiring kind || (not (is_epoch kind) && stands is_retiring (records p.steps))
  pub pings : (if is_ping_sent kind then 1 else 0) + (if is_epoch kind then 0 else count_kind is_ping_sent (records p.steps))
      ≡ (if is_ping_done kind then 1 else 0) + (if is_epoch kind then 0 else count_kind is_ping_done (records p.steps)) + (if pi then 1 else 0)
  pub closed : cl ≡ ends kind || (not (is_epoch kind) && has_ended (records p.steps))

ended_no : (a e b : Bool) → e ≡ false → a || (not e && b) ≡ false → b ≡ false
ended_no true e b none h = cc
ended_no false true b none h = cc
ended_no false false b none h = h

-- after an entry without a name, after which who holds each tag is as before
pub quiet : (s : State) (p : Past) (now : ℕ) (call : Call) (kind : RecordKind) (tag : ℕ) (taken sent : Option MuxFrame)
    (lapse : Option ℕ) (init : InitState) (drained retired ping closed : Bool) → Belongs s p → IsGoing kind
    → ((t : ℕ) → holder (Server p.session.number) t (entry_of (records p.steps) now kind tag None taken sent ∷ entries_of p.steps) ≡ holder (Server p.session.number) t (entries_of p.steps))
    → Flags p now kind taken sent lapse init drained retired ping closed
    → Belongs (noted (changed s s.entries s.delays lapse init drained retired ping closed) now kind tag None sent) (add p call (entry_of (records p.steps) now kind tag None taken sent))
quiet s p now call kind tag taken sent lapse init drained retired ping closed b going holders f =
    let same = open_after call p.steps now tag kind None taken sent going.1 (sendings (records p.steps)) (going.2 (record { kind = kind; tag = tag; name = None; reading = max (reading (records p.steps)) now }) _) in
    Belongs-noted s p now call kind tag None taken sent s.entries s.delays lapse init drained retired ping closed b going.0 (record {
      entries = b.entries ∙ ap (λ (hs : List (ℕ × Dispatch)). map.from_entries {R = nat_cmp} hs) (sym same);
      delays = b.delays ∙ sym (none_answered kind going.2 (record { kind = kind; tag = tag; name = None; reading = max (reading (records p.steps)) now }) p.steps _);
      distinct = subst HasDistinctTags (sym same) b.distinct;
      held = λ up t. subst (λ (o : Option Holder). IsHeldBy o (dispatch_on t (open_of (onto call (entry_of (records p.steps) now kind tag None taken sent) p.steps)))) (sym (holders t))
          (subst (λ (hs : List (ℕ × Dispatch)). IsHeldBy (holder (Server p.session.number) t (entries_of p.steps)) (dispatch_on t hs)) (sym same)
          (b.held (ended_no (ends kind) (is_epoch kind) (has_ended (records p.steps)) (no_epoch kind going.0) up) t));
      lapse = f.lapse;
      lease = f.lease tag;
      init = f.init tag;
      drained = f.drained;
      drains = f.drains;
      retired = f.retired;
      pings = f.pings;
      closed = f.closed;
    })

-- the flags after an entry of a kind that changes none
abbrev pub IsPlain : RecordKind → Type 0
IsPlain kind =
    (is_init_done kind ≡ false) × (is_init_asked kind ≡ false) × (is_retiring kind ≡ false) × (is_ping_sent kind ≡ false) × (is_ping_done kind ≡ false)
    × (is_drained_kind kind ≡ false) × ((r : Record) (lapse : Option ℕ) → lease_after r kind lapse ≡ lapse)

pub init_kept : (mode : InitMode) (r : Record) (past : List Record) → is_init_done r.kind ≡ false → is_init_asked r.kind ≡ false → is_epoch r.kind ≡ false → init_by mode (r ∷ past) ≡ init_by mode past
init_kept modes.Plain r past d a e = refl
init_kept modes.Probe r past d a e = rw (d, a, e) refl

pub same_sum : (sent done ping : ℕ) → sent ≡ done + ping → 0 + sent ≡ 0 + done + ping
same_sum sent done ping e = omega (arith, e)

pub flags_kept : (s : State) (p : Past) (now : ℕ) (kind : RecordKind) (taken sent : Option MuxFrame) (closed : Bool) → Belongs s p
    → IsPlain kind → is_cut kind ≡ false → lease_taken taken ≡ None → sends_rdrain sent ≡ false → closed ≡ ends kind || s.closed
    → Flags p now kind taken sent s.lapse s.init s.drained s.retired s.ping closed
flags_kept s p now kind taken sent closed b plain going none quietly ended = record {
  lapse = rw none b.lapse;
  lease = λ tag. b.lease ∙ sym (plain.6 (record { kind = kind; tag = tag; name = None; reading = max (reading (records p.steps)) now }) _);
  init = λ tag. b.init ∙ sym (init_kept p.session.mode (record { kind = kind; tag = tag; name = None; reading = max (reading (records p.steps)) now }) (records p.steps) plain.0 plain.1 (no_epoch kind going));
  drained = rw quietly b.drained;
  drains = rw (plain.5, no_epoch kind going) b.drains;
  retired = rw (plain.2, no_epoch kind going) b.retired;
  pings = rw (plain.3, plain.4, no_epoch kind going) (same_sum _ _ _ b.pings);
  closed = ended ∙ rw (no_epoch kind going) (ap (λ (z : Bool). ends kind || z) b.closed);
}

pub kept_clock : (s : State) (p : Past) (now : ℕ) → Belongs s p
    → Belongs (noted s now kinds.Clock 0 None None) (add p (ClockCall now) (entry_of (records p.steps) now kinds.Clock 0 None None None))
kept_clock s p now b =
    quiet s p now (ClockCall now) kinds.Clock 0 None None s.lapse s.init s.drained s.retired s.ping s.closed b (refl, refl, λ r ss. refl) (λ t. refl)
    (flags_kept s p now kinds.Clock None None s.closed b (refl, refl, refl, refl, refl, refl, λ r l. refl) refl refl refl refl)

pub kept_retired : (s : State) (p : Past) (now : ℕ) → Belongs s p
    → Belongs (noted (record s { retired = true }) now kinds.Retired 0 None None) (add p (RetireCall now) (entry_of (records p.steps) now kinds.Retired 0 None None None))
kept_retired s p now b =
    quiet s p now (RetireCall now) kinds.Retired 0 None None s.lapse s.init s.drained true s.ping s.closed b (refl, refl, λ r ss. refl) (λ t. refl) (record {
      lapse = b.lapse;
      lease = λ tag. b.lease;
      init = λ tag. b.init ∙ sym (init_kept p.session.mode _ (records p.steps) refl refl refl);
      drained = b.drained;
      drains = b.drains;
      retired = refl;
      pings = same_sum _ _ _ b.pings;
      closed = b.closed;
    })

one_more : (z : Bool) (sent done : ℕ) → sent ≡ done + cond {A = ℕ} z 1 0 → z ≡ false → 1 + sent ≡ 0 + done + 1
one_more true sent done e is = cc
one_more false sent done e is = omega (arith, e)

pub kept_ping : (s : State) (p : Past) (now : ℕ) → Belongs s p → s.ping ≡ false
    → Belongs (noted (record s { ping = true }) now kinds.PingSent 1 None (Some (tping_on 1))) (add p (PingCall now) (entry_of (records p.steps) now kinds.PingSent 1 None None (Some (tping_on 1))))
kept_ping s p now b none =
    quiet s p now (PingCall now) kinds.PingSent 1 None (Some (tping_on 1)) s.lapse s.init s.drained s.retired true s.closed b (refl, refl, λ r ss. refl) (λ t. refl) (record {
      lapse = b.lapse;
      lease = λ tag. b.lease;
      init = λ tag. b.init ∙ sym (init_kept p.session.mode _ (records p.steps) refl refl refl);
      drained = b.drained;
      drains = b.drains;
      retired = b.retired;
      pings = one_more s.ping (count_kind is_ping_sent (records p.steps)) (count_kind is_ping_done (records p.steps)) b.pings none;
      closed = b.closed;
    })

-- THE END OF THE LIST

pub kept_closed : (s : State) (p : Past) (now : ℕ) (f : MuxFrame) (cause : Cause) → Belongs s p
    → Belongs (noted (record s { closed = true }) now (kinds.Closed cause) 0 None None) (add p (FrameCall f now) (closing (records p.steps) now cause))
kept_closed s p now f cause b =
    quiet s p now (FrameCall f now) (kinds.Closed cause) 0 None None s.lapse s.init s.drained s.retired s.ping true b (refl, refl, λ r ss. refl) (λ t. refl)
    (flags_kept s p now (kinds.Closed cause) None None true b (refl, refl, refl, refl, refl, refl, λ r l. refl) refl refl refl refl)

pub kept_lost : (s : State) (p : Past) (now : ℕ) → Belongs s p
    → Belongs (noted (record s { closed = true }) now kinds.Lost 0 None None) (add p (LoseCall now) (entry_of (records p.steps) now kinds.Lost 0 None None None))
kept_lost s p now b =
    quiet s p now (LoseCall now) kinds.Lost 0 None None s.lapse s.init s.drained s.retired s.ping true b (refl, refl, λ r ss. refl) (λ t. refl)
    (flags_kept s p now kinds.Lost None None true b (refl, refl, refl, refl, refl, refl, λ r l. refl) refl refl refl refl)

-- A DISPATCH BEGINS, ENDS OR IS RECALLED

began : (z : Bool) (tag t : ℕ) (who : Holder) (d : Dispatch) (h : Option Holder) (o : Option Dispatch) → z ≡ true → who.name ≡ d.name → IsHeldBy h o
    → IsHeldBy (cond (z && tag == t) (Some who) h) (cond (t == tag) (Some d) o)
began z tag t who d h o is name held = elim (same_or tag t) [
  | inl e ↦ rw (is, eq_true tag t e, eq_true t tag (sym e)) name
  | inr n ↦ rw (is, eq_false tag t n, eq_false t tag (λ e. n (sym e))) held
]

pub kept_offered : (s : State) (p : Past) (now tag : ℕ) (n : Name) (f : MuxFrame) (left : ℕ) → Belongs s p → kind_of f.kind ≡ Tdispatch → s.closed ≡ false → map.get s.entries tag ≡ None
    → Belongs (noted (holding s tag (beginning n (max s.reading now) (copy_of (OfferCall n f left now)))) now kinds.Offered tag (Some n) (Some (retag tag f)))
    (add p (OfferCall n f left now) (entry_of (records p.steps) now kinds.Offered tag (Some n) None (Some (retag tag f))))
kept_offered s p now tag n f left b dispatch up none =
    let call = OfferCall n f left now in
    let free = sym (get_same s p b tag) ∙ none in
    let is = open_offered call p.steps now tag (Some n) (Some (retag tag f)) free in
    let d : Dispatch = beginning n (max s.reading now) (copy_of call) in
    Belongs-noted s p now call kinds.Offered tag (Some n) None (Some (retag tag f)) (map.insert s.entries tag d) s.delays s.lapse s.init s.drained s.retired s.ping s.closed b refl (record {
      entries = ap (λ (m : map.FinMap nat_cmp Dispatch). map.insert m tag d) b.entries
          ∙ ap (λ (r : ℕ). map.insert (map.from_entries (open_of p.steps)) tag (beginning n (max r now) (copy_of call))) b.reading
          ∙ ap (λ (hs : List (ℕ × Dispatch)). map.from_entries {R = nat_cmp} hs) (sym is);
      delays = b.delays;
      distinct = subst HasDistinctTags (sym is) (find-dispatch_on tag (open_of p.steps) ∙ free, b.distinct);
      held = λ still t. subst (λ (hs : List (ℕ × Dispatch)). IsHeldBy (holder (Server p.session.number) t (entry_of (records p.steps) now kinds.Offered tag (Some n) None (Some (retag tag f)) ∷ entries_of p.steps)) (dispatch_on t hs)) (sym is)
          (began (is_dispatch (kind_of f.kind)) tag t _ (beginning n (max (reading (records p.steps)) now) (copy_of call)) _ _ (ap is_dispatch dispatch) refl (b.held still t));
      lapse = b.lapse;
      lease = b.lease;
      init = b.init ∙ sym (init_kept p.session.mode _ (records p.steps) refl refl refl);
      drained = rw dispatch b.drained;
      drains = b.drains;
      retired = b.retired;
      pings = same_sum _ _ _ b.pings;
      closed = b.closed;
    })

freed : (z : Bool) (tag t : ℕ) (h : Option Holder) (o : Option Dispatch) → z ≡ true → IsHeldBy h o → IsHeldBy (cond (z && tag == t) None h) (cond (not (t == tag)) o None)
freed z tag t h o is held = elim (same_or tag t) [
  | inl e ↦ rw (is, eq_true tag t e, eq_true t tag (sym e)) tt
  | inr n ↦ rw (is, eq_false tag t n, eq_false t tag (λ e. n (sym e))) held
]

other_on : (tag t : ℕ) (hs : List (ℕ × Dispatch)) → dispatch_on t (others tag hs) ≡ cond (not (t == tag)) (dispatch_on t hs) None
other_on tag t hs =
    sym (find-dispatch_on t (others tag hs)) ∙ find-others tag t hs ∙ ap (λ (o : Option Dispatch). cond (not (t == tag)) o None) (find-dispatch_on t hs)

no_lease : (m : Content) → is_final (kind_in m) ≡ true → lease_in (Ok m) ≡ None
no_lease (tlease unit howmuch) final = cc
no_lease _ final = refl

-- a dispatch ends on its tag
ended_on : (s : State) (p : Past) (call : Call) (now tag : ℕ) (kind : RecordKind) (name : Option Name) (taken : Option MuxFrame) (delays : Delays) → Belongs s p
    → delays ≡ delayed (record { kind = kind; tag = tag; name = name; reading = max (reading (records p.steps)) now }) kind p.steps (delays_of p.steps)
    → is_cut kind ≡ false → is_offered kind ≡ false → ((r : Record) (ss : List Sending) → sendings_after r kind ss ≡ off_tag r.tag ss)
    → IsPlain kind → ends kind ≡ false → lease_taken taken ≡ None
    → (has_ended (records p.steps) ≡ false → (t : ℕ)
    → IsHeldBy (holder (Server p.session.number) t (entry_of (records p.steps) now kind tag name taken None ∷ entries_of p.steps)) (cond (not (t == tag)) (dispatch_on t (open_of p.steps)) None))
    → Belongs (noted (record (releasing s tag) { delays = delays }) now kind tag name None) (add p call (entry_of (records p.steps) now kind tag name taken None))
ended_on s p call now tag kind name taken delays b delayed_so going none off plain on no_lease held =
    let is = open_freed call p.steps now tag kind name taken None none off in
    Belongs-noted s p now call kind tag name taken None (map.remove s.entries tag) delays s.lapse s.init s.drained s.retired s.ping s.closed b going (record {
      entries = ap (λ (m : map.FinMap nat_cmp Dispatch). map.remove m tag) b.entries ∙ sym (from_entries-others tag (open_of p.steps))
          ∙ ap (λ (hs : List (ℕ × Dispatch)). map.from_entries {R = nat_cmp} hs) (sym is);
      delays = delayed_so;
      distinct = subst HasDistinctTags (sym is) (distinct-others tag (open_of p.steps) b.distinct);
      held = λ still t. subst (λ (hs : List (ℕ × Dispatch)). IsHeldBy (holder (Server p.session.number) t (entry_of (records p.steps) now kind tag name taken None ∷ entries_of p.steps)) (dispatch_on t hs)) (sym is)
          (subst (λ (o : Option Dispatch). IsHeldBy (holder (Server p.session.number) t (entry_of (records p.steps) now kind tag name taken None ∷ entries_of p.steps)) o) (sym (other_on tag t (open_of p.steps)))
          (held (ended_no (ends kind) (is_epoch kind) (has_ended (records p.steps)) (no_epoch kind going) still) t));
      lapse = rw no_lease b.lapse;
      lease = b.lease ∙ sym (plain.6 (record { kind = kind; tag = tag; name = name; reading = max (reading (records p.steps)) now }) _);
      init = b.init ∙ sym (init_kept p.session.mode (record { kind = kind; tag = tag; name = name; reading = max (reading (records p.steps)) now }) (records p.steps) plain.0 plain.1 (no_epoch kind going));
      drained = b.drained;
      drains = rw (plain.5, no_epoch kind going) b.drains;
      retired = rw (plain.2, no_epoch kind going) b.retired;
      pings = rw (plain.3, plain.4, no_epoch kind going) (same_sum _ _ _ b.pings);
      closed = rw (on, no_epoch kind going) b.closed;
    })

-- how long it took, by the map and by the list
delayed_alike : (s : State) (p : Past) (now tag : ℕ) (nack : Bool) (d : Dispatch) → Belongs s p → map.get s.entries tag ≡ Some d
    → answered nack (max s.reading now - since_in (map.get s.entries tag)) s.delays ≡ answered nack (max (reading (records p.steps)) now - since_on tag p.steps) (delays_of p.steps)
delayed_alike s p now tag nack d b there =
    let on : dispatch_on tag (open_of p.steps) ≡ Some d = sym (get_same s p b tag) ∙ there in
    let since : since_in (map.get s.entries tag) ≡ since_on tag p.steps = ap since_in there ∙ since_there p.steps (sendings (records p.steps)) tag d on in
    λ i. answered nack (max (b.reading i) now - since i) (b.delays i)

-- the state once the dispatch on a tag is settled by a record of this kind
abbrev answered_by : State → (now tag : ℕ) → RecordKind → State
answered_by s now tag kinds.SettledNack = answering s now tag true
answered_by s now tag _ = answering s now tag false

answered_so : (s : State) (now : ℕ) (f : MuxFrame) → answering s now f.tag (is_nack f) ≡ answered_by s now f.tag (settled_kind f)
answered_so s now f = elim (is_nack f) as (λ z. answering s now f.tag z ≡ answered_by s now f.tag (cond z kinds.SettledNack (kinds.Settled f.kind))) [ true ↦ refl | false ↦ refl ]

pub kept_settled : (s : State) (p : Past) (now : ℕ) (f : MuxFrame) (m : Content) (name : Option Name) (d : Dispatch) → Belongs s p → map.get s.entries f.tag ≡ Some d
    → message_of f ≡ Ok m → kind_of f.kind ≡ kind_in m → is_final (kind_in m) ≡ true
    → Belongs (noted (answering s now f.tag (is_nack f)) now (settled_kind f) f.tag name None)
    (add p (FrameCall f now) (entry_of (records p.steps) now (settled_kind f) f.tag name (Some f) None))
kept_settled s p now f m name d b there read kind final =
    let frees : is_final (kind_of f.kind) ≡ true = ap is_final kind ∙ final in
    let quietly : lease_in (message_of f) ≡ None = rw (read, no_lease m final) refl in
    subst (λ (t : State). Belongs (noted t now (settled_kind f) f.tag name None) (add p (FrameCall f now) (entry_of (records p.steps) now (settled_kind f) f.tag name (Some f) None))) (sym (answered_so s now f))
    (settling (λ (k : RecordKind). Belongs (noted (answered_by s now f.tag k) now k f.tag name None) (add p (FrameCall f now) (entry_of (records p.steps) now k f.tag name (Some f) None)))
    (ended_on s p (FrameCall f now) now f.tag kinds.SettledNack name (Some f) _ b (delayed_alike s p now f.tag true d b there) refl refl (λ r ss. refl) (refl, refl, refl, refl, refl, refl, λ r l. refl) refl quietly
    (λ still t. freed (is_final (kind_of f.kind)) f.tag t _ _ frees (b.held still t)))
    (λ type. ended_on s p (FrameCall f now) now f.tag (kinds.Settled type) name (Some f) _ b (delayed_alike s p now f.tag false d b there) refl refl (λ r ss. refl) (refl, refl, refl, refl, refl, refl, λ r l. refl) refl quietly
    (λ still t. freed (is_final (kind_of f.kind)) f.tag t _ _ frees (b.held still t)))
    f)

pub kept_lost_one : (s : State) (p : Past) (tag : ℕ) (name : Option Name) → Belongs s p → s.closed ≡ true
    → Belongs (noted (releasing s tag) 0 kinds.LostOne tag name None) (add p LoseNextCall (entry_of (records p.steps) 0 kinds.LostOne tag name None None))
kept_lost_one s p tag name b ended =
    ended_on s p LoseNextCall 0 tag kinds.LostOne name None s.delays b b.delays refl refl (λ r ss. refl) (refl, refl, refl, refl, refl, refl, λ r l. refl) refl refl
    (λ still t. absurd (let x : true ≡ false = sym ended ∙ b.closed ∙ still in cc))

still_held : (z : Bool) (h : Option Holder) (o : Option Dispatch) → IsHeldBy h o → IsHeldBy h (recalled_option z o)
still_held true None None held = tt
still_held true None (Some d) held = absurd held
still_held true (Some h) None held = absurd held
still_held true (Some h) (Some d) held = held
still_held false h o held = held

recalled_on : (tag t : ℕ) (hs : List (ℕ × Dispatch)) → dispatch_on t (map_list (recalled_if tag) hs) ≡ recalled_option (t == tag) (dispatch_on t hs)
recalled_on tag t hs =
    sym (find-dispatch_on t (map_list (recalled_if tag) hs)) ∙ find-recalling tag t hs ∙ ap (λ (o : Option Dispatch). recalled_option (t == tag) o) (find-dispatch_on t hs)

pub kept_discarding : (s : State) (p : Past) (now tag : ℕ) (n : Name) (why : List ℕ) (d : Dispatch) → Belongs s p → map.get s.entries tag ≡ Some d
    → Belongs (noted (marking s tag) now kinds.Discarding tag (Some n) (Some (tdiscarded_for tag why)))
    (add p (RecallCall n tag why now) (entry_of (records p.steps) now kinds.Discarding tag (Some n) None (Some (tdiscarded_for tag why))))
kept_discarding s p now tag n why d b there =
    let call = RecallCall n tag why now in
    let on : dispatch_on tag (open_of p.steps) ≡ Some d = sym (get_same s p b tag) ∙ there in
    let is = open_discarding call p.steps now tag (Some n) (Some (tdiscarded_for tag why)) in
    Belongs-noted s p now call kinds.Discarding tag (Some n) None (Some (tdiscarded_for tag why)) (marked_in s.entries tag (map.get s.entries tag)) s.delays s.lapse s.init s.drained s.retired s.ping s.closed b refl (record {
      entries = ap (λ (o : Option Dispatch). marked_in s.entries tag o) there ∙ ap (λ (m : map.FinMap nat_cmp Dispatch). map.insert m tag (record d { recalled = true })) b.entries
          ∙ sym (from_entries-recalling tag (open_of p.steps) d on)
          ∙ ap (λ (hs : List (ℕ × Dispatch)). map.from_entries {R = nat_cmp} hs) (sym is);
      delays = b.delays;
      distinct = subst HasDistinctTags (sym is) (distinct-recalling tag (open_of p.steps) b.distinct);
      held = λ still t. subst (λ (hs : List (ℕ × Dispatch)). IsHeldBy (holder (Server p.session.number) t (entry_of (records p.steps) now kinds.Discarding tag (Some n) None (Some (tdiscarded_for tag why)) ∷ entries_of p.steps)) (dispatch_on t hs)) (sym is)
          (subst (λ (o : Option Dispatch). IsHeldBy (holder (Server p.session.number) t (entry_of (records p.steps) now kinds.Discarding tag (Some n) None (Some (tdiscarded_for tag why)) ∷ entries_of p.steps)) o) (sym (recalled_on tag t (open_of p.steps)))
          (still_held (t == tag) _ _ (b.held still t)));
      lapse = b.lapse;
      lease = b.lease;
      init = b.init ∙ sym (init_kept p.session.mode _ (records p.steps) refl refl refl);
      drained = b.drained;
      drains = b.drains;
      retired = b.retired;
      pings = same_sum _ _ _ b.pings;
      closed = b.closed;
    })
