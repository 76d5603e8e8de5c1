-- A message that is neither a dispatch nor a Tdiscarded, a frame that closes the session, and one that is refused.
use Rattle.std.proofs.Common.{◌≡◌, ℕ, Bool, true, false, cond, [], Option, None, Some, Ok, Err, refl, sym, ◌∙◌, ap, arith}
use Rattle.std.specs.Prelude.{◌==◌, ◌&&◌, not, is_some, IsSome, if◌then◌else◌, pos, negsuc, codes}
use Rattle.std.proofs.lemmas.Bool.{eqb-true}
use Rattle.mux_frame.specs.Spelling.{MuxFrame}
use Rattle.mux_frame.specs.Views.{FrameView}
use Rattle.mux_message.specs.Content.{Content, tdispatch, rdispatch, tdrain, rdrain, tdiscarded, rdiscarded, tlease, tinit, rinit, tping, rping, treq, rreq, rerr, other}
use Rattle.mux_message.specs.Grammar.{Spells}
use Rattle.mux_message.specs.Kinds.{kind_of, is_asking, is_dispatch, is_final}
use Rattle.mux_message.specs.Made.{is_probe, rerr_on}
use Rattle.mux_message.specs.Parts.{kind_in}
use Rattle.mux_message.specs.Reading.{message_of}
use Rattle.mux_message.specs.declared.fault.MessageFault.{MessageFault}
use Rattle.mux_message.specs.declared.kind.MessageKind.{MessageKind}
use Rattle.mux_message.specs.declared.kind.MessageKind.TheVariants.{Tdispatch}
use Rattle.mux_history.specs.declared.kind.Cause.{Cause}
use Rattle.mux_history.specs.declared.kind.Cause.TheVariants.{TagZero, TagInUse}
use Rattle.mux_history.specs.declared.kind.RecordKind.{RecordKind}
use Rattle.mux_history.specs.declared.kind.RecordKind.TheVariants as kinds
use Rattle.mux_history.specs.declared.session.SessionId.TheVariants.{Client}
use Rattle.mux_history.specs.Readings.{stands, is_init_done, dispatches as dispatches_of}
use Rattle.mux_model.specs.Steps.{FrameCall, Recorded, records, entries, entry_of, closing as closing_line, cause_of}
use Rattle.mux_model.specs.Tags.{Holder, holder, asked, answered}
use Rattle.mux_model.specs.Down.{DownSession, Reaction, Pongs, Inits, Misplaced, Unsupports, Echoes, Acks, Ignores, asks_other}
use Rattle.gate.specs.Drains.{answers as acks}
use Rattle.session_init.specs.declared.server.ServerInit.{ServerInit}
use Rattle.session_init.specs.declared.server.ServerInit.TheVariants.{Fresh, Done}
use Rattle.session_init.specs.declared.step.InitStep.{InitStep}
use Rattle.session_init.specs.declared.step.InitStep.TheVariants as inits
use Rattle.session_init.specs.Initiation.{Given, sends, opens, passes, given as given_by, server_gives, server_after}
use Rattle.translate_book.specs.declared.refusal.StepRefusal.{StepRefusal}
use Rattle.translate_book.specs.Book.{open_at}
use Rattle.server_session.specs.declared.answers.DownStep.{DownStep}
use Rattle.server_session.specs.declared.answers.DownStep.TheVariants as answers
use Rattle.server_session.specs.Past.{Past, add}
use Rattle.server_session.specs.State.{State, figures_in, noted, closing, is_fresh_init, flagged, reacted_in, kind_by, sends_by, init_kind}
use Rattle.server_session.specs.Belonging.{Belongs, IsHeldBy}
use Rattle.server_session.specs.Decide.{closing_cause, room_refusal, is_plain, plainly, otherwise}
use Rattle.server_session.specs.Steps.{FrameStep, is_silent}
use Rattle.server_session.proofs.Naming.{given, opened}
use Rattle.server_session.proofs.Keeping.{Quiet, quiet, record_of}
use Rattle.server_session.proofs.Calls.{kept_shut}
use Rattle.server_session.proofs.Reacting.{Frames, fault_told, message_told, content_told, plain_told, row_of}

-- WHERE NO DISPATCH IS OPEN

no_holder : (c : DownSession) (h : Option Holder) (o : Option ℕ) → IsHeldBy c h o → o ≡ None → h ≡ None
no_holder c None o i e = refl
no_holder c (Some h) None i e = absurd i
no_holder c (Some h) (Some seq) i e = cc

vacant : (s : State) (p : Past) (t : ℕ) → Belongs s p → s.closed ≡ false → open_at t s.book ≡ None → holder (Client p.session.number) t (entries p.steps) ≡ None
vacant s p t b up none = no_holder p.session _ _ (b.held (sym b.closed ∙ up) t) none

second : (a z : Bool) → cond a false z ≡ true → z ≡ true
second true z h = cc
second false z h = h

-- before the first name no dispatch is open
fresh_vacant : (s : State) (p : Past) (t : ℕ) → Belongs s p → s.closed ≡ false → is_fresh_init s.init ≡ true → holder (Client p.session.number) t (entries p.steps) ≡ None
fresh_vacant s p t b up fresh = vacant s p t b up (by (open_at t s.book) refl)
  where
    zero : s.dispatches ≡ 0
    zero = b.dispatches ∙ eqb-true (dispatches_of (records p.steps)) 0 (second (stands is_init_done (records p.steps)) (dispatches_of (records p.steps) == 0) (sym b.init ∙ fresh))

    by : (o : Option ℕ) → open_at t s.book ≡ o → o ≡ None
    by None is = refl
    by (Some seq) is =
        let e = opened t 0 s.book s.dispatches seq b.rises is in
        let g = given seq 0 s.book e.0 s.dispatches b.rises e.1 in
        absurd (omega (arith, zero, g.0, g.1))

unused : (o : Option ℕ) → is_some o ≡ false → o ≡ None
unused None h = refl
unused (Some seq) h = cc

-- a message that asks for an answer, and doesn't close the session, comes on a tag on which nothing is open
pub asking_free : (t : ℕ) (kind : MessageKind) (o : Option ℕ) → closing_cause (is_some o) t kind ≡ None → is_asking kind ≡ true → o ≡ None
asking_free t kind o none asks = unused o (by (is_dispatch kind && t == 0) (is_asking kind) (is_some o) none asks)
  where
    by : (a x y : Bool) → cond a (Some TagZero) (cond (x && y) (Some TagInUse) None) ≡ None → x ≡ true → y ≡ false
    by true x y h e = cc
    by false true true h e = cc
    by false true false h e = refl
    by false false y h e = cc

-- THE STATE AFTER EACH ROW BELONGS TO THE LONGER LIST

-- a final reply goes out only on a tag on which nothing is open
abbrev Fits : Option Holder → Reaction → Type 0
Fits h Misplaced = h ≡ None
Fits h Unsupports = h ≡ None
Fits h Echoes = h ≡ None
Fits h _ = Unit {0}

asks_fit : (h : Option Holder) (t : ℕ) → h ≡ None → Fits h (asks_other t)
asks_fit h t free = by (t == 0)
  where
    by : (z : Bool) → Fits h (cond z Ignores Unsupports)
    by true = tt
    by false = free

plainly_fits : (h : Option Holder) (fresh z : Bool) (t : ℕ) (m : Content) → (is_asking (kind_in m) ≡ true → h ≡ None) → (fresh ≡ true → h ≡ None) → Fits h (plainly fresh z t m)
plainly_fits h true z t (tinit v hs) asks begins = tt
plainly_fits h false z t (tinit v hs) asks begins = asks refl
plainly_fits h fresh z t (treq body) asks begins = asks_fit h t (asks refl)
plainly_fits h fresh z t tdrain asks begins = asks_fit h t (asks refl)
plainly_fits h fresh z t (tlease u n) asks begins = asks_fit h t (asks refl)
plainly_fits h fresh z t (other (pos n) body) asks begins = by (n == 0) asks
  where
    by : (y : Bool) → (not y ≡ true → h ≡ None) → Fits h (cond y Ignores (asks_other t))
    by true free = tt
    by false free = asks_fit h t (free refl)
plainly_fits h fresh z t (other (negsuc n) body) asks begins = tt
plainly_fits h fresh z t (rerr why) asks begins = by (is_probe t why) fresh begins
  where
    by : (x y : Bool) → (y ≡ true → h ≡ None) → Fits h (cond (x && y) Echoes Ignores)
    by true true free = free refl
    by true false free = tt
    by false y free = tt
plainly_fits h fresh true t rdrain asks begins = tt
plainly_fits h fresh false t rdrain asks begins = tt
plainly_fits h fresh z t _ asks begins = tt

pub none_taken : (z : Bool) (tag t : ℕ) (who : Holder) (h : Option Holder) → z ≡ false → (if z && tag == t then Some who else h) ≡ h
none_taken true tag t who h undispatched = cc
none_taken false tag t who h undispatched = refl

none_freed : (g : MuxFrame) (held : ℕ → Option Holder) (t : ℕ) → held g.tag ≡ None → answered t (Some g) (held t) ≡ held t
none_freed g held t free = by (is_final (kind_of g.kind)) (g.tag == t) refl
  where
    by : (y z : Bool) → (g.tag == t) ≡ z → (if y && z then None else held t) ≡ held t
    by true true same = sym free ∙ ap held (eqb-true g.tag t same)
    by true false same = refl
    by false z same = refl

frees_none : (held : ℕ → Option Holder) (f : MuxFrame) (t : ℕ) (r : Reaction) → Fits (held f.tag) r → answered t (sends_by r f) (held t) ≡ held t
frees_none held f t Misplaced free = none_freed (rerr_on f.tag (codes "tinit out of place")) held t free
frees_none held f t Unsupports free = none_freed (rerr_on f.tag (codes "unsupported")) held t free
frees_none held f t Echoes free = none_freed f held t free
frees_none held f t _ free = refl

holders_stay : (p : Past) (f : MuxFrame) (who : Holder) (t : ℕ) (r : Reaction) → is_dispatch (kind_of f.kind) ≡ false
    → Fits (holder (Client p.session.number) f.tag (entries p.steps)) r
    → answered t (sends_by r f) (asked t who (Some f) (holder (Client p.session.number) t (entries p.steps))) ≡ holder (Client p.session.number) t (entries p.steps)
holders_stay p f who t r undispatched fits =
    ap (answered t (sends_by r f)) (none_taken (is_dispatch (kind_of f.kind)) f.tag t who (holder (Client p.session.number) t (entries p.steps)) undispatched)
    ∙ frees_none (λ q. holder (Client p.session.number) q (entries p.steps)) f t r fits

-- such a record is about no dispatch
is_quiet : (p : Past) (now : ℕ) (f : MuxFrame) (r : Reaction) → is_dispatch (kind_of f.kind) ≡ false
    → Fits (holder (Client p.session.number) f.tag (entries p.steps)) r
    → Quiet p (FrameCall f now) (entry_of (records p.steps) now (kind_by r) f.tag None (Some f) (sends_by r f)) (record_of p now (kind_by r) f.tag None)
is_quiet p now f r undispatched fits = by r (λ who t. holders_stay p f who t r undispatched fits)
  where
    by : (r : Reaction)
        → ((who : Holder) (t : ℕ) → answered t (sends_by r f) (asked t who (Some f) (holder (Client p.session.number) t (entries p.steps))) ≡ holder (Client p.session.number) t (entries p.steps))
        → Quiet p (FrameCall f now) (entry_of (records p.steps) now (kind_by r) f.tag None (Some f) (sends_by r f)) (record_of p now (kind_by r) f.tag None)
    by Pongs stay = record { written = refl; epoch = refl; dispatches = refl; ended = refl; book = refl; words = λ n. refl; holders = λ t. stay _ t }
    by Inits stay = record { written = refl; epoch = refl; dispatches = refl; ended = refl; book = refl; words = λ n. refl; holders = λ t. stay _ t }
    by Misplaced stay = record { written = refl; epoch = refl; dispatches = refl; ended = refl; book = refl; words = λ n. refl; holders = λ t. stay _ t }
    by Unsupports stay = record { written = refl; epoch = refl; dispatches = refl; ended = refl; book = refl; words = λ n. refl; holders = λ t. stay _ t }
    by Echoes stay = record { written = refl; epoch = refl; dispatches = refl; ended = refl; book = refl; words = λ n. refl; holders = λ t. stay _ t }
    by Acks stay = record { written = refl; epoch = refl; dispatches = refl; ended = refl; book = refl; words = λ n. refl; holders = λ t. stay _ t }
    by _ stay = record { written = refl; epoch = refl; dispatches = refl; ended = refl; book = refl; words = λ n. refl; holders = λ t. stay _ t }

pub kept_row : (s : State) (p : Past) (now : ℕ) (f : MuxFrame) (r : Reaction) → Belongs s p → is_dispatch (kind_of f.kind) ≡ false
    → Fits (holder (Client p.session.number) f.tag (entries p.steps)) r
    → Belongs (reacted_in s now f r) (add p (FrameCall f now) (entry_of (records p.steps) now (kind_by r) f.tag None (Some f) (sends_by r f)))
kept_row s p now f r b undispatched fits = by r (is_quiet p now f r undispatched fits)
  where
    by : (r : Reaction) → Quiet p (FrameCall f now) (entry_of (records p.steps) now (kind_by r) f.tag None (Some f) (sends_by r f)) (record_of p now (kind_by r) f.tag None)
        → Belongs (reacted_in s now f r) (add p (FrameCall f now) (entry_of (records p.steps) now (kind_by r) f.tag None (Some f) (sends_by r f)))
    by Pongs q = quiet s p now (FrameCall f now) kinds.Ponged f.tag None (Some f) (sends_by Pongs f) s.init s.drain b q b.init b.drain
    by Inits q = quiet s p now (FrameCall f now) kinds.InitDone f.tag None (Some f) (sends_by Inits f) Done s.drain b q refl b.drain
    by Misplaced q = quiet s p now (FrameCall f now) kinds.OutOfPlace f.tag None (Some f) (sends_by Misplaced f) s.init s.drain b q b.init b.drain
    by Unsupports q = quiet s p now (FrameCall f now) kinds.Unsupported f.tag None (Some f) (sends_by Unsupports f) s.init s.drain b q b.init b.drain
    by Echoes q = quiet s p now (FrameCall f now) kinds.Echoed f.tag None (Some f) (Some f) s.init s.drain b q b.init b.drain
    by Acks q = quiet s p now (FrameCall f now) kinds.DrainAcked f.tag None (Some f) None s.init (flagged s Acks).drain b q b.init refl
    by _ q = quiet s p now (FrameCall f now) kinds.Ignored f.tag None (Some f) None s.init s.drain b q b.init b.drain

pub kind_spelled : (f : MuxFrame) (m : Content) → Spells f m → kind_of f.kind ≡ kind_in m
kind_spelled f (tdispatch c d t b) h = h.1.0
kind_spelled f (rdispatch s c b) h = h.1.0
kind_spelled f rdiscarded h = h.1.0
kind_spelled f tdrain h = h.1.0
kind_spelled f rdrain h = h.1.0
kind_spelled f (tdiscarded t w) h = h.1.0
kind_spelled f (tlease u n) h = h.1.0
kind_spelled f (tinit v n) h = h.1.0
kind_spelled f (rinit v n) h = h.1.0
kind_spelled f tping h = h.1.0
kind_spelled f rping h = h.1.0
kind_spelled f (treq b) h = h.1.0
kind_spelled f (rreq b) h = h.1.0
kind_spelled f (rerr w) h = h.1.0
kind_spelled f (other k b) h = h.1.0

no_dispatch : (m : Content) → is_plain (kind_in m) ≡ true → is_dispatch (kind_in m) ≡ false
no_dispatch (tdispatch c d t b) h = cc
no_dispatch _ h = refl

-- THE STEPS

abbrev pub read_as : MuxFrame → FrameView
read_as f = record { frame = f; as_read = true }

pub as_read : (v : FrameView) (f : MuxFrame) → v.frame ≡ f → v.as_read ≡ true → v ≡ read_as f
as_read v f a b = rw (← a, ← b) refl

silent : (r : Reaction) → is_silent (kind_by r) ≡ true
silent Pongs = refl
silent Inits = refl
silent Misplaced = refl
silent Unsupports = refl
silent Echoes = refl
silent Acks = refl
silent _ = refl

pub plain_step : (s : State) (p : Past) (now : ℕ) (f : MuxFrame) (m : Content) (x : DownStep) (new : State) → Belongs s p → s.closed ≡ false → message_of f ≡ Ok m → Spells f m
    → is_plain (kind_in m) ≡ true → room_refusal (figures_in s) (kind_in m) ≡ None → closing_cause (is_some (open_at f.tag s.book)) f.tag (kind_in m) ≡ None
    → x ≡ answers.Nothing → new ≡ reacted_in s now f (row_of s f.tag m)
    → (q : Past) × FrameStep p (read_as f) now (Ok x) q × Belongs new q
plain_step s p now f m x new b up read spelled plain room none told is =
    let r = row_of s f.tag m in
    let e = entry_of (records p.steps) now (kind_by r) f.tag None (Some f) (sends_by r f) in
    let fits = plainly_fits (holder (Client p.session.number) f.tag (entries p.steps)) (is_fresh_init s.init) (acks f.tag s.drain) f.tag m
    (λ asks. vacant s p f.tag b up (asking_free f.tag (kind_in m) (open_at f.tag s.book) none asks))
    (λ fresh. fresh_vacant s p f.tag b up fresh) in (
      add p (FrameCall f now) e,
      rw told (e, _, refl, silent r, (plain_told s p f now m b up read none room plain, refl)),
      rw is (kept_row s p now f r b (ap is_dispatch (kind_spelled f m spelled) ∙ no_dispatch m plain) fits),
    )

pub refuse_step : (s : State) (p : Past) (now : ℕ) (f : MuxFrame) (m : Content) (r : StepRefusal) (v : FrameView) → Belongs s p → s.closed ≡ false → message_of f ≡ Ok m
    → closing_cause (is_some (open_at f.tag s.book)) f.tag (kind_in m) ≡ None → room_refusal (figures_in s) (kind_in m) ≡ Some r → v ≡ read_as f
    → (q : Past) × FrameStep p (read_as f) now (Err (r, v)) q × Belongs s q
refuse_step s p now f m r v b up read none is back = (p, ((content_told s p f now m b up read none (Some r) is, refl), back), b)

shut_step : (s : State) (p : Past) (now : ℕ) (f : FrameView) (why cause : Cause) (new : State) → Belongs s p
    → Frames p f.frame now ≡ Recorded (closing_line (records p.steps) now why) []
    → cause ≡ why → new ≡ noted (closing s) now (kinds.Closed cause) 0 None None
    → (q : Past) × FrameStep p f now (Ok (answers.Closing cause)) q × Belongs new q
shut_step s p now f why cause new b told same is =
    let e = closing_line (records p.steps) now why in (
      add p (FrameCall f.frame now) e,
      (e, _, refl, ap (λ (x : Cause). kinds.Closed x) (sym same), (told, refl)),
      rw (is, same) (kept_shut s p now f.frame why b),
    )

pub fault_step : (s : State) (p : Past) (now : ℕ) (f : FrameView) (fault : MessageFault) (cause : Cause) (new : State) → Belongs s p → s.closed ≡ false → message_of f.frame ≡ Err fault
    → cause ≡ cause_of fault → new ≡ noted (closing s) now (kinds.Closed cause) 0 None None
    → (q : Past) × FrameStep p f now (Ok (answers.Closing cause)) q × Belongs new q
fault_step s p now f fault cause new b up read why is = shut_step s p now f (cause_of fault) cause new b (fault_told p f.frame now fault (sym b.closed ∙ up) read) why is

pub close_step : (s : State) (p : Past) (now : ℕ) (f : MuxFrame) (m : Content) (cause : Cause) (new : State) → Belongs s p → s.closed ≡ false → message_of f ≡ Ok m
    → closing_cause (is_some (open_at f.tag s.book)) f.tag (kind_in m) ≡ Some cause
    → new ≡ noted (closing s) now (kinds.Closed cause) 0 None None
    → (q : Past) × FrameStep p (read_as f) now (Ok (answers.Closing cause)) q × Belongs new q
close_step s p now f m cause new b up read why is = shut_step s p now (read_as f) cause cause new b (message_told s p f now m b up read (Some cause) why) refl is

-- a dispatch on a tag that is in use closes the session, as one on tag 0 does
pub tag_in_use : (o : Option ℕ) (t : ℕ) → IsSome o → (t == 0) ≡ false → closing_cause (is_some o) t Tdispatch ≡ Some TagInUse
tag_in_use None t some h = cc
tag_in_use (Some n) t some h = rw h refl

pub tag_free : (o : Option ℕ) (t : ℕ) → o ≡ None → (t == 0) ≡ false → closing_cause (is_some o) t Tdispatch ≡ None
tag_free o t none h = rw (none, h) refl

pub tag_named : (b : Bool) (t : ℕ) → closing_cause b t Tdispatch ≡ None → (t == 0) ≡ false
tag_named b t none = by (t == 0) none
  where
    by : (z : Bool) → (if z then Some TagZero else if b then Some TagInUse else None) ≡ None → z ≡ false
    by true h = cc
    by false h = refl

-- INITIATION

-- what a message that initiation answers leads to
abbrev Initiates : State → (acked : Bool) → MuxFrame → Content → MuxFrame → Type 0
Initiates s acked f m g =
    (record s { init = server_after s.init m } ≡ flagged s (plainly (is_fresh_init s.init) acked f.tag m))
    × (init_kind (is_fresh_init s.init) (kind_in m) ≡ kind_by (plainly (is_fresh_init s.init) acked f.tag m))
    × (Some g ≡ sends_by (plainly (is_fresh_init s.init) acked f.tag m) f)

initiates : (s : State) (init : ServerInit) (acked : Bool) (f : MuxFrame) (m : Content) (g : MuxFrame) → server_gives init f m ≡ sends g
    → Initiates (record s { init = init }) acked f m g
initiates s Fresh acked f (tinit v hs) g h = (refl, refl, cc)
initiates s Done acked f (tinit v hs) g h = (refl, refl, cc)
initiates s Fresh acked f (rerr why) g h = by (is_probe f.tag why) h
  where
    by : (z : Bool) → cond z (sends f) passes ≡ sends g
        → (record s { init = Fresh } ≡ flagged (record s { init = Fresh }) (cond (z && true) Echoes Ignores))
        × (kinds.Echoed ≡ kind_by (cond (z && true) Echoes Ignores))
        × (Some g ≡ sends_by (cond (z && true) Echoes Ignores) f)
    by true is = (refl, refl, cc)
    by false is = cc
initiates s Done acked f (rerr why) g h = cc
initiates s Fresh acked f _ g h = cc
initiates s Done acked f _ g h = cc

pub reacted_send : (s : State) (now : ℕ) (f : MuxFrame) (m : Content) (g : MuxFrame) (begun : ServerInit) (kind : RecordKind) (tag : ℕ) (new : State)
    → new ≡ noted (record s { init = begun }) now kind tag None (Some g) → begun ≡ server_after s.init m → kind ≡ init_kind (is_fresh_init s.init) (kind_in m) → tag ≡ f.tag
    → server_gives s.init f m ≡ sends g → new ≡ reacted_in s now f (row_of s f.tag m)
reacted_send s now f m g begun kind tag new is after written on gives =
    let three = initiates s s.init (acks f.tag s.drain) f m g gives in
    is ∙ (λ i. noted (record s { init = after i }) now (written i) (on i) None (Some g))
    ∙ (λ i. noted (three.0 i) now (three.1 i) f.tag None (three.2 i))

-- a message that initiation doesn't answer
pub passed_by : (r : InitStep) (g : Given) → ((x : _) → r ≡ inits.Send x → ⊥) → given_by r ≡ g → (h : MuxFrame) → g ≡ sends h → ⊥
passed_by (inits.Send x) g unsent is h e = unsent x refl
passed_by inits.Opened g unsent is h e = let clash : opens ≡ sends h = is ∙ e in cc
passed_by inits.NotInit g unsent is h e = let clash : passes ≡ sends h = is ∙ e in cc

abbrev IsUntouched : ServerInit → (acked : Bool) → MuxFrame → Content → Type 0
IsUntouched init acked f m = (server_after init m ≡ init) × (plainly (is_fresh_init init) acked f.tag m ≡ otherwise acked f.tag m)

pub untouched : (init : ServerInit) (acked : Bool) (f : MuxFrame) (m : Content) → ((h : MuxFrame) → server_gives init f m ≡ sends h → ⊥) → IsUntouched init acked f m
untouched Fresh acked f (tinit v hs) unsent = absurd (unsent _ refl)
untouched Done acked f (tinit v hs) unsent = absurd (unsent _ refl)
untouched Fresh acked f (rerr why) unsent = by (is_probe f.tag why) unsent
  where
    by : (z : Bool) → ((h : MuxFrame) → cond z (sends f) passes ≡ sends h → ⊥) → (Fresh ≡ Fresh) × (cond (z && true) Echoes Ignores ≡ Ignores)
    by true unsent = absurd (unsent f refl)
    by false unsent = (refl, refl)
untouched Done acked f (rerr why) unsent = by (is_probe f.tag why)
  where
    by : (z : Bool) → (Done ≡ Done) × (cond (z && false) Echoes Ignores ≡ Ignores)
    by true = (refl, refl)
    by false = (refl, refl)
untouched Fresh acked f (other (pos n) b) unsent = (refl, refl)
untouched Fresh acked f (other (negsuc n) b) unsent = (refl, refl)
untouched Done acked f (other (pos n) b) unsent = (refl, refl)
untouched Done acked f (other (negsuc n) b) unsent = (refl, refl)
untouched Fresh acked f _ unsent = (refl, refl)
untouched Done acked f _ unsent = (refl, refl)
