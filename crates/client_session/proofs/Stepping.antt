-- The steps that a frame, a loss and a frame taken out lead to.
use Rattle.std.proofs.Common.{◌≡◌, ◌<◌, ◌-◌, ◌≤◌, ℕ, suc, Bool, true, false, cond, List, [], ◌∷◌, ◌++◌, length, Option, None, Some, Ok, Err, refl, sym, ◌∙◌, ap, subst, arith, append-nil, append_assoc}
use Rattle.std.specs.Prelude.{is_some, ◌&&◌, ◌==◌, IfSome, IsSome, get_or, ◌↔◌}
use Rattle.std.specs.Option.{option_to_list, option_copied}
use denote.Ref.{Bor}
use Rattle.std.specs.FinMap as map
use Rattle.mux_frame.specs.Spelling.{MuxFrame}
use Rattle.mux_frame.specs.Views.{FrameView}
use Rattle.mux_message.specs.Content.{Content, tdispatch, rdispatch, tdrain, rdrain, tdiscarded, rdiscarded, tlease, tinit, rinit, tping, rping, treq, rreq, rerr, other}
use Rattle.mux_message.specs.Grammar.{Spells}
use Rattle.mux_message.specs.Kinds.{kind_of, is_final}
use Rattle.mux_message.specs.Parts.{kind_in}
use Rattle.mux_message.specs.Reading.{message_of}
use Rattle.mux_message.specs.declared.fault.MessageFault.{MessageFault}
use Rattle.mux_history.specs.declared.name.Name.{Name}
use Rattle.mux_history.specs.declared.record.Record.{Record}
use Rattle.mux_history.specs.declared.kind.Cause.{Cause}
use Rattle.mux_history.specs.declared.kind.RecordKind.TheVariants as kinds
use Rattle.mux_history.specs.Readings.{has_ended, Sending, sendings, least}
use Rattle.mux_model.specs.Entries.{Exchange, said_by}
use Rattle.mux_model.specs.Steps.{FrameCall, LoseNextCall, LostOf, SettledBy, Held, Unrecorded, Recorded, entries, records, entry_of, closing, cause_of, sent_at, sent_count, is_nack}
use Rattle.mux_model.specs.Up.{up, Reaction, Drops, next_lost, lost_of, settled_kind, copy_on, plainly}
use Rattle.translate_book.specs.declared.sent.Settled.{Settled}
use Rattle.translate_book.specs.declared.refusal.StepRefusal.{StepRefusal}
use Rattle.client_session.specs.declared.answers.UpStep.{UpStep}
use Rattle.client_session.specs.declared.answers.UpStep.TheVariants as answers
use Rattle.client_session.specs.Past.{Past, Dispatch, add, sent_of, last_sent, last_queued}
use Rattle.client_session.specs.State.{State, figures_in, noted, answering, reacted_in, kind_by, sends_by, frame_in}
use Rattle.client_session.specs.Inside.{frames_of}
use Rattle.client_session.specs.Decide.{room_refusal, why_step}
use Rattle.client_session.specs.Belonging.{Belongs}
use Rattle.client_session.specs.Steps.{FrameStep, IsReplyAsItCame, TakeOutStep, TakeOutsStep, told_by, given_by}
use Rattle.client_session.proofs.Deciding.{get_same, figures_same, ping_same, holding_name, vacant, least_is, sent_at_is, first, load_same, queued_same}
use Rattle.client_session.proofs.Open.{eq_false}
use Rattle.client_session.proofs.Lists.{copy_there}
use Rattle.client_session.proofs.Keeping.{kept_settled, kept_closed}
use Rattle.client_session.proofs.Reacting.{kept_reacted}
use Rattle.client_session.proofs.Telling.{decided, settled_told, message_told, fault_told, plainly_tells}

pub kind_spelled : (f : MuxFrame) (m : Content) → Spells f m → kind_of f.kind ≡ kind_in m
kind_spelled f (tdispatch c d t b) h = h.1.0
kind_spelled f (rdispatch s c b) h = h.1.0
kind_spelled f rdiscarded h = h.1.0
kind_spelled f tdrain h = h.1.0
kind_spelled f rdrain h = h.1.0
kind_spelled f (tdiscarded t w) h = h.1.0
kind_spelled f (tlease u n) h = h.1.0
kind_spelled f (tinit v n) h = h.1.0
kind_spelled f (rinit v n) h = h.1.0
kind_spelled f tping h = h.1.0
kind_spelled f rping h = h.1.0
kind_spelled f (treq b) h = h.1.0
kind_spelled f (rreq b) h = h.1.0
kind_spelled f (rerr w) h = h.1.0
kind_spelled f (other k b) h = h.1.0

both : (a b : Bool) → a && b ≡ true → (a ≡ true) × (b ≡ true)
both true true h = (refl, refl)
both true false h = cc
both false b h = cc

some_of : {X : Type 0} (o : Option X) → is_some o ≡ true → (x : X) × (o ≡ Some x)
some_of None h = cc
some_of (Some x) h = (x, refl)

none_of : {X : Type 0} (final : Bool) (o : Option X) → final && is_some o ≡ false → final ≡ true → o ≡ None
none_of true None h f = refl
none_of true (Some x) h f = cc
none_of false o h f = cc

pub as_read : (v : FrameView) (f : MuxFrame) → v.frame ≡ f → v.as_read ≡ true → v ≡ record { frame = f; as_read = true }
as_read v f a b = rw (← a, ← b) refl

abbrev pub read_as : MuxFrame → FrameView
read_as f = record { frame = f; as_read = true }

pub settle_step : (s : State) (p : Past) (now : ℕ) (f : MuxFrame) (m : Content) (x : Settled) (new : State) → Belongs s p → s.closed ≡ false → message_of f ≡ Ok m
    → Spells f m → is_final (kind_in m) && is_some (map.get s.entries f.tag) ≡ true → x.reply ≡ read_as f
    → IfSome (map.get s.entries f.tag) (λ d. (d.name ≡ Some x.name) × (d.again ≡ frame_in x.again))
    → new ≡ noted (answering s now f.tag (is_nack f)) now (settled_kind f) f.tag (Some x.name) None
    → (q : Past) × FrameStep p (read_as f) now (Ok (answers.Settled x)) q × Belongs new q
settle_step s p now f m x new b still read spelled test came given is =
    let reply = ap (λ (v : FrameView). v.frame) came in
    let two = both (is_final (kind_in m)) (is_some (map.get s.entries f.tag)) test in
    let d = some_of (map.get s.entries f.tag) two.1 in
    let h = holding_name s p f.tag d.0 b still d.1 in
    let same : (d.0.name ≡ Some x.name) × (d.0.again ≡ frame_in x.again) = rw d.1 at given in
    let copy : copy_on f.tag p.steps ≡ frame_in x.again = sym (copy_there p.steps (sendings (records p.steps)) f.tag d.0 (sym (get_same s p b f.tag) ∙ d.1)) ∙ same.1 in
    let e = entry_of (records p.steps) now (settled_kind f) f.tag (Some x.name) (Some f) None in
    let gives : SettledBy x.name f (copy_on f.tag p.steps) ∷ [] ≡ SettledBy x.name x.reply.frame (frame_in x.again) ∷ [] =
    λ i. SettledBy x.name (sym reply i) (copy i) ∷ [] in (
      add p (FrameCall f now) e,
      (
        e,
        _,
        refl,
        ap settled_kind (sym reply),
        came,
        (settled_told p f now m h.0 x.name (sym b.closed ∙ still) read two.0 h.1 (h.2 ∙ same.0) ∙ ap (λ (hs : List Held). Recorded e hs) gives, refl),
      ),
      subst (λ (t : State). Belongs t (add p (FrameCall f now) e)) (sym is)
          (kept_settled s p now f m (Some x.name) d.0 b d.1 read (kind_spelled f m spelled) two.0),
    )

-- what is known of a message that settles nothing
unsettled : (s : State) (p : Past) (now : ℕ) (f : MuxFrame) (m : Content) → Belongs s p → s.closed ≡ false → message_of f ≡ Ok m
    → is_final (kind_in m) && is_some (map.get s.entries f.tag) ≡ false
    → (o : Option StepRefusal) → room_refusal (figures_in s) ≡ o
    → up p.session p.steps (length p.out) 0 (FrameCall f now)
    ≡ decided why_step o (Recorded
    (entry_of (records p.steps) now (kind_by (plainly s.init s.ping f.tag m)) f.tag None (Some f) (sends_by (plainly s.init s.ping f.tag m) f.tag))
    (given_by (told_by (plainly s.init s.ping f.tag m))))
unsettled s p now f m b still read test o is =
    message_told p f now m (sym b.closed ∙ still) read
    (λ final. vacant s p f.tag b still (none_of (is_final (kind_in m)) (map.get s.entries f.tag) test final))
    (plainly s.init s.ping f.tag m)
    (rw (b.init, ping_same s p b) refl)
    ∙ ap (λ (r : Option StepRefusal). decided why_step r (Recorded
    (entry_of (records p.steps) now (kind_by (plainly s.init s.ping f.tag m)) f.tag None (Some f) (sends_by (plainly s.init s.ping f.tag m) f.tag))
    (given_by (told_by (plainly s.init s.ping f.tag m))))) (ap room_refusal (sym (figures_same s p b)) ∙ is)

pub refuse_step : (s : State) (p : Past) (now : ℕ) (f : MuxFrame) (m : Content) (r : StepRefusal) (v : FrameView) → Belongs s p → s.closed ≡ false → message_of f ≡ Ok m
    → is_final (kind_in m) && is_some (map.get s.entries f.tag) ≡ false → room_refusal (figures_in s) ≡ Some r → v ≡ read_as f
    → (q : Past) × FrameStep p (read_as f) now (Err (r, v)) q × Belongs s q
refuse_step s p now f m r v b still read test why back = (p, ((unsettled s p now f m b still read test (Some r) why, refl), back), b)

no_reply : (r : Reaction) (f : FrameView) → IsReplyAsItCame (told_by r) f
no_reply Drops f = tt
no_reply _ f = tt

pub answer_step : (s : State) (p : Past) (now : ℕ) (f : MuxFrame) (m : Content) (x : UpStep) (new : State) → Belongs s p → s.closed ≡ false → message_of f ≡ Ok m → Spells f m
    → is_final (kind_in m) && is_some (map.get s.entries f.tag) ≡ false → room_refusal (figures_in s) ≡ None
    → x ≡ told_by (plainly s.init s.ping f.tag m) → new ≡ reacted_in s now f.tag (plainly s.init s.ping f.tag m)
    → (q : Past) × FrameStep p (read_as f) now (Ok x) q × Belongs new q
answer_step s p now f m x new b still read spelled test none told is =
    let r = plainly s.init s.ping f.tag m in
    let e = entry_of (records p.steps) now (kind_by r) f.tag None (Some f) (sends_by r f.tag) in (
      add p (FrameCall f now) e,
      rw told (e, _, refl, plainly_tells s.init s.ping f.tag m, no_reply r (read_as f), (unsettled s p now f m b still read test None none, refl)),
      rw is (kept_reacted s p now f m b still read (kind_spelled f m spelled) (none_of (is_final (kind_in m)) (map.get s.entries f.tag) test)),
    )

pub fault_step : (s : State) (p : Past) (now : ℕ) (f : FrameView) (fault : MessageFault) (cause : Cause) (new : State) → Belongs s p → s.closed ≡ false → message_of f.frame ≡ Err fault
    → cause ≡ cause_of fault → new ≡ noted (record s { closed = true }) now (kinds.Closed cause) 0 None None
    → (q : Past) × FrameStep p f now (Ok (answers.Closing cause)) q × Belongs new q
fault_step s p now f fault cause new b still read why is =
    let e = closing (records p.steps) now (cause_of fault) in (
      add p (FrameCall f.frame now) e,
      (e, _, refl, ap (λ (x : Cause). kinds.Closed x) (sym why), tt, (fault_told p f.frame now fault (sym b.closed ∙ still) read, refl)),
      rw (is, why) (kept_closed s p now f.frame (cause_of fault) b),
    )

-- THE LOSS OF ONE DISPATCH

pub lost_told : (s : State) (p : Past) (tag : ℕ) (d : Dispatch) (n : Name) → Belongs s p → s.closed ≡ true → map.get s.entries tag ≡ Some d → d.name ≡ Some n
    → ((q : ℕ) → q < tag → map.get s.entries q ≡ None)
    → up p.session p.steps (length p.out) 0 LoseNextCall ≡ Recorded (entry_of (records p.steps) 0 kinds.LostOne tag (Some n) None None) (LostOf n ∷ [])
lost_told s p tag d n b ended held named none =
    let on = sym (get_same s p b tag) ∙ held in
    let first = least_is p.steps (sendings (records p.steps)) tag d b.distinct on (λ q below. sym (get_same s p b q) ∙ none q below) in
    ap (λ (z : Bool). cond z (next_lost (records p.steps) (least (sendings (records p.steps)))) Unrecorded) (sym b.closed ∙ ended)
    ∙ ap (next_lost (records p.steps)) first.1
    ∙ ap (λ (t : ℕ). Recorded (entry_of (records p.steps) 0 kinds.LostOne t first.0.name None None) (lost_of first.0.name)) first.2
    ∙ ap (λ (o : Option Name). Recorded (entry_of (records p.steps) 0 kinds.LostOne tag o None None) (lost_of o)) (first.3 ∙ named)

pub no_length : {A : Type 0} (xs : List A) → length xs ≡ 0 → xs ≡ []
no_length [] e = refl
no_length (x ∷ xs) e = absurd (omega (arith, e))

none_lost : (ended : Bool) (past : List Record) → cond ended (next_lost past None) Unrecorded ≡ Unrecorded
none_lost true past = refl
none_lost false past = refl

pub none_told : (s : State) (p : Past) → Belongs s p → map.len s.entries ≡ 0 → up p.session p.steps (length p.out) 0 LoseNextCall ≡ Unrecorded
none_told s p b empty =
    ap (λ (ss : List Sending). cond (has_ended (records p.steps)) (next_lost (records p.steps) (least ss)) Unrecorded)
    (no_length (sendings (records p.steps)) (sym (load_same s p b) ∙ empty))
    ∙ none_lost (has_ended (records p.steps)) (records p.steps)

-- A FRAME IS TAKEN OUT

pub taken_step : (s : State) (p : Past) (o : Option FrameView) (items rest : List FrameView) → Belongs s p → s.closed ≡ false
    → s.queue ≡ frames_of items → items ≡ option_to_list o ++ rest → (o ≡ None → length items ≡ 0)
    → (q : Past) × TakeOutStep p o q × Belongs (record s { queue = frames_of rest }) q
taken_step s p (Some v) items rest b still is front none =
    let queue = is ∙ ap frames_of front in
    let open_now = sym b.closed ∙ still in (
      record p { out = p.out ++ v.frame ∷ [] },
      (sym (ap (λ (z : Bool). cond z None (sent_at (length p.out) (entries p.steps))) open_now ∙ sent_at_is s p b ∙ ap first queue), refl),
      record {
        server = b.server;
        limits = b.limits;
        epoch = b.epoch;
        records = b.records;
        queue = append_assoc p.out (v.frame ∷ []) (frames_of rest) ∙ ap (λ (fs : List MuxFrame). p.out ++ fs) (sym queue) ∙ b.queue;
        entries = b.entries;
        delays = b.delays;
        distinct = b.distinct;
        held = b.held;
        lapse = b.lapse;
        lease = b.lease;
        reading = b.reading;
        init = b.init;
        drained = b.drained;
        drains = b.drains;
        retired = b.retired;
        pings = b.pings;
        closed = b.closed;
      },
    )
taken_step s p None items rest b still is front none =
    let empty : items ≡ [] = no_length items (none refl) in
    let queue : s.queue ≡ [] = is ∙ ap frames_of empty in
    let open_now = sym b.closed ∙ still in (
      p,
      (
        sym (ap (λ (z : Bool). cond z None (sent_at (length p.out) (entries p.steps))) open_now ∙ sent_at_is s p b ∙ ap first queue),
        ap (λ (fs : List MuxFrame). record p { out = fs }) (sym (append-nil p.out)),
      ),
      subst (λ (fs : List MuxFrame). Belongs (record s { queue = fs }) p) (is ∙ ap frames_of front) b,
    )

-- the whole queue, one by one
pub taken_all : (s : State) (p : Past) (items : List FrameView) → Belongs s p → s.closed ≡ false → s.queue ≡ frames_of items
    → (q : Past) × TakeOutsStep p items q × Belongs (record s { queue = [] }) q
taken_all s p [] b still is = taken_step s p None [] [] b still is refl (λ e. refl)
taken_all s p (f ∷ fs) b still is =
    let one = taken_step s p (Some f) (f ∷ fs) fs b still is refl (λ e. cc) in
    let more = taken_all (record s { queue = frames_of fs }) one.0 fs one.2 still refl in
    (more.0, (one.0, one.1, more.1), more.2)

pub taken_none : (s : State) (p : Past) → Belongs s p → s.closed ≡ true → (q : Past) × TakeOutsStep p [] q × Belongs s q
taken_none s p b ended = (
  p,
  (
    sym (ap (λ (z : Bool). cond z None (sent_at (length p.out) (entries p.steps))) (sym b.closed ∙ ended)),
    ap (λ (fs : List MuxFrame). record p { out = fs }) (sym (append-nil p.out)),
  ),
  b,
)

-- THE LAST FRAME QUEUED

abbrev last_of : List MuxFrame → Option MuxFrame
last_of [] = None
last_of (f ∷ []) = Some f
last_of (f ∷ g ∷ fs) = last_of (g ∷ fs)

last_end : (fs : List MuxFrame) (f : MuxFrame) → last_of (fs ++ f ∷ []) ≡ Some f
last_end [] f = refl
last_end (g ∷ []) f = refl
last_end (g ∷ h ∷ fs) f = last_end (h ∷ fs) f

last_behind : (fs gs : List MuxFrame) (g : MuxFrame) → last_of (fs ++ g ∷ gs) ≡ last_of (g ∷ gs)
last_behind [] gs g = refl
last_behind (f ∷ []) gs g = refl
last_behind (f ∷ h ∷ fs) gs g = last_behind (h ∷ fs) gs g

last_one : (fs : List MuxFrame) (before o : Option MuxFrame) → before ≡ last_of fs → cond (is_some o) o before ≡ last_of (fs ++ option_to_list o)
last_one fs before None e = e ∙ ap last_of (sym (append-nil fs))
last_one fs before (Some f) e = sym (last_end fs f)

last_sent_is : (es : List Exchange) → last_sent es ≡ last_of (sent_of es)
last_sent_is [] = refl
last_sent_is (e ∷ old) = last_one (sent_of old) (last_sent old) e.sent (last_sent_is old)

last_item : (items : List FrameView) (v : FrameView) → 1 ≤ length items → v ≡ get_or items (length items - 1) v → last_of (frames_of items) ≡ Some v.frame
last_item [] v some is = absurd (omega (arith, some))
last_item (x ∷ []) v some is = ap (λ (w : FrameView). Some w.frame) (sym is)
last_item (x ∷ y ∷ items) v some is =
    let next : length (x ∷ y ∷ items) - 1 ≡ suc (length (y ∷ items) - 1) = omega arith in
    last_item (y ∷ items) v (omega arith) (is ∙ ap (λ (k : ℕ). get_or (x ∷ y ∷ items) k v) next)

queued_last : (s : State) (p : Past) (o : Option MuxFrame) → Belongs s p → last_of s.queue ≡ o → last_queued p ≡ o
queued_last s p o b is =
    by s.queue (queued_same s p b) b.queue is
  where
    by : (queue : List MuxFrame) → length queue ≡ sent_count (entries p.steps) - length p.out → p.out ++ queue ≡ sent_of (entries p.steps) → last_of queue ≡ o → last_queued p ≡ o
    by [] long all is = ap (λ (n : ℕ). cond (n == 0) None (last_sent (entries p.steps))) (sym long) ∙ is
    by (f ∷ fs) long all is =
        ap (λ (z : Bool). cond z None (last_sent (entries p.steps))) (eq_false (sent_count (entries p.steps) - length p.out) 0 (λ e. omega (arith, e, long)))
        ∙ last_sent_is (entries p.steps) ∙ ap last_of (sym all) ∙ last_behind p.out fs f ∙ is

pub last_step : (s : State) (p : Past) (items : List FrameView) (r : Option (Bor FrameView)) → Belongs s p → s.queue ≡ frames_of items
    → (IsSome r ↔ (0 < length items)) → IfSome r (λ x. x.now ≡ get_or items (length items - 1) x.now)
    → said_by (option_copied r) ≡ last_queued p
last_step s p [] None b is some item = sym (queued_last s p None b (ap last_of is))
last_step s p (x ∷ items) None b is some item = absurd (none_some (some.1 (omega arith)))
  where
    none_some : IsSome {T = Bor FrameView} None → ⊥
    none_some h = cc
last_step s p [] (Some v) b is some item = absurd (omega (arith, some.0 refl))
last_step s p (x ∷ items) (Some v) b is some item =
    sym (queued_last s p (Some v.now.frame) b (ap last_of is ∙ last_item (x ∷ items) v.now (omega arith) item))
