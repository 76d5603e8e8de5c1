-- What is read of a session is its connection's.
use Rattle.std.proofs.Common.{◌≡◌, ◌++◌, ◌+◌, ℕ, List, [], ◌∷◌, Bool, true, Option, Some, None, Result, Ok, Err, refl, sym, ◌∙◌, ap, subst, length, length-append, reverse, arith, if◌then◌else◌}
use Rattle.std.proofs.lemmas.List.{reverse-reverse, length-reverse}
use Rattle.std.specs.Prelude.{is_some, ◌==◌, ◌&&◌, ◌-◌, option_map, IfOk}
use Rattle.std.specs.Option.{option_to_list}
use Rattle.std.proofs.lemmas.Bool.{eq-eqb}
use Rattle.mux_frame.specs.Spelling.{MuxFrame}
use Rattle.mux_history.specs.Bounds.{Bounds}
use Rattle.mux_history.specs.declared.record.Record.{Record}
use Rattle.mux_history.specs.declared.session.SessionId.{SessionId}
use Rattle.mux_history.specs.declared.session.SessionId.TheVariants.{Client, Server}
use Rattle.mux_history.specs.Readings.{epoch_of, written}
use Rattle.mux_model.specs.Entries.{Exchange}
use Rattle.mux_model.specs.Steps.{Held, TicketOf, PlacedAt, SettledBy, RecallOf, LostOf, Call, OfferCall, NackCall, UnrouteCall, NoteCall, SettleCall, FailCall, RecallCall, entries, records, sent_count, sent_at}
use Rattle.mux_model.specs.World as world
use Rattle.mux_model.specs.World.{World, Connection, same_session}
use Rattle.mux_model.specs.Events as model
use Rattle.mux_model.specs.Events.{connection_at, spent}
use Rattle.client_session.specs.State.{State as UpState}
use Rattle.client_session.specs.Past as up
use Rattle.client_session.specs.Belonging.{Belongs as BelongsUp}
use Rattle.server_session.specs.Belonging.{Belongs as BelongsDown}
use Rattle.server_session.specs.State.{State as DownState}
use Rattle.server_session.specs.Past as down
use Rattle.core_world.specs.declared.hands.Hand.{Hand}
use Rattle.core_world.specs.Hands.{shown, shown_held}
use Rattle.core_world.specs.Events.{spent_by}
use Rattle.core_world.specs.Sides.{session_at}
use Rattle.router_core.specs.declared.entering.Look.{Look}
use Rattle.router_core.specs.Entries.{IsLook, OutAt, last_out, newest, goes_to}
use Rattle.router_core.specs.Sides.{UpAt, DownAt, up_past, down_past}

newest_written : (rs : List Record) → newest (written rs) ≡ newest rs
newest_written [] = refl
newest_written (r ∷ old) = refl

-- as many messages as were sent
module _ (sent_of : List Exchange → List MuxFrame) (none : sent_of [] ≡ []) (more : (e : Exchange) (old : List Exchange) → sent_of (e ∷ old) ≡ sent_of old ++ option_to_list e.sent) where
  counted : (es : List Exchange) → length (sent_of es) ≡ sent_count es
  counted [] = ap (λ (l : List MuxFrame). length l) none
  counted (e ∷ old) = ap (λ (l : List MuxFrame). length l) (more e old) ∙ length-append (sent_of old) (option_to_list e.sent) ∙ by_sent e.sent (counted old)
    where
      by_sent : (o : Option MuxFrame) → length (sent_of old) ≡ sent_count old → length (sent_of old) + length (option_to_list o) ≡ (if is_some o then sent_count old + 1 else sent_count old)
      by_sent None h = omega (arith, h)
      by_sent (Some f) h = omega (arith, h)

  left : (out queue : List MuxFrame) (es : List Exchange) (n k : ℕ) → out ++ queue ≡ sent_of es → length out ≡ n → k ≡ length queue → k + n ≡ sent_count es
  left out queue es n k is count size =
      let all : length out + length queue ≡ sent_count es = sym (length-append out queue) ∙ ap (λ (l : List MuxFrame). length l) is ∙ counted es in omega (arith, all, count, size)

-- the message that was sent last
module _ (last_sent : List Exchange → Option MuxFrame) (none : last_sent [] ≡ None) (more : (e : Exchange) (old : List Exchange) → last_sent (e ∷ old) ≡ (if is_some e.sent then e.sent else last_sent old)) where
  at_last : (es : List Exchange) → last_sent es ≡ sent_at (sent_count es - 1) es
  at_last [] = none
  at_last (e ∷ old) = more e old ∙ by_sent e.sent (at_last old)
    where
      less_one : (n : ℕ) → (n == n + 1 - 1) ≡ true
      less_one n = eq-eqb n (n + 1 - 1) (omega arith)

      by_sent : (o : Option MuxFrame) → last_sent old ≡ sent_at (sent_count old - 1) old → (if is_some o then o else last_sent old)
          ≡ (if is_some o && sent_count old == (if is_some o then sent_count old + 1 else sent_count old) - 1 then o else sent_at ((if is_some o then sent_count old + 1 else sent_count old) - 1) old)
      by_sent None h = h
      by_sent (Some f) h = sym (ap (λ (t : Bool). if t then Some f else sent_at (sent_count old + 1 - 1) old) (less_one (sent_count old)))

last_is : (history : List Record) (past : List Record) (last : Option Record) → last ≡ newest (reverse history) → history ≡ reverse (written past) → last ≡ newest past
last_is history past last is told = is ∙ ap (λ (l : List Record). newest (reverse l)) told ∙ ap newest (reverse-reverse (written past)) ∙ newest_written past

count_is : (history past : List Record) → history ≡ reverse (written past) → length history ≡ length (written past)
count_is history past told = ap (λ (l : List Record). length l) told ∙ length-reverse (written past)

pub up_look : (limits : Bounds) (number : ℕ) (s : UpState) (c : Connection) (history : List Record) (l : Look) → UpAt limits number s c
    → l.epoch ≡ epoch_of (records c.steps) → l.count ≡ length history → history ≡ reverse (written (records c.steps)) → l.last ≡ newest (reverse history) → l.queued ≡ length s.queue → IsLook l c
up_look limits number s c history l b epoch count told last queued = record {
  epoch = epoch;
  count = count ∙ count_is history (records c.steps) told;
  last = last_is history (records c.steps) l.last last told;
  sent = left up.sent_of refl (λ e old. refl) b.out s.queue (entries c.steps) c.out l.queued b.belongs.queue b.count queued;
}

pub down_look : (limits : Bounds) (number : ℕ) (s : DownState) (c : Connection) (history : List Record) (l : Look) → DownAt limits number s c
    → l.epoch ≡ epoch_of (records c.steps) → l.count ≡ length history → history ≡ reverse (written (records c.steps)) → l.last ≡ newest (reverse history) → l.queued ≡ length s.queue → IsLook l c
down_look limits number s c history l b epoch count told last queued = record {
  epoch = epoch;
  count = count ∙ count_is history (records c.steps) told;
  last = last_is history (records c.steps) l.last last told;
  sent = left down.sent_of refl (λ e old. refl) b.out s.queue (entries c.steps) c.out l.queued b.belongs.queue b.count queued;
}

abbrev queued_last : (ℕ → Option MuxFrame → Option MuxFrame)
queued_last n o = if n == 0 then None else o

pub up_out : (limits : Bounds) (number : ℕ) (s : UpState) (c : Connection) (b : UpAt limits number s c) → up.last_queued (up_past limits number c b.out) ≡ last_out c
up_out limits number s c b =
    ap (λ n. queued_last (sent_count (entries c.steps) - n) (up.last_sent (entries c.steps))) b.count
    ∙ ap (λ o. queued_last (sent_count (entries c.steps) - c.out) o) (at_last up.last_sent refl (λ e old. refl) (entries c.steps))

pub down_out : (limits : Bounds) (number : ℕ) (s : DownState) (c : Connection) (b : DownAt limits number s c) → down.last_queued (down_past limits number c b.out) ≡ last_out c
down_out limits number s c b =
    ap (λ n. queued_last (sent_count (entries c.steps) - n) (down.last_sent (entries c.steps))) b.count
    ∙ ap (λ o. queued_last (sent_count (entries c.steps) - c.out) o) (at_last down.last_sent refl (λ e old. refl) (entries c.steps))

up_said : (limits : Bounds) (n : ℕ) (s : UpState) (c : Connection) (b : UpAt limits n s c) (o : Option MuxFrame) → o ≡ up.last_queued (up_past limits n c b.out) → o ≡ last_out c
up_said limits n s c b o e = e ∙ up_out limits n s c b

pub up_copied : (xs : List UpState) (n : ℕ) (s : UpState) (o : Option MuxFrame) → session_at xs n ≡ Some s → ((p : up.Past) → BelongsUp s p → o ≡ up.last_queued p) → OutAt UpAt xs n o
up_copied xs n s o at told t here limits c b =
    let same : t ≡ s = cc in
    let mine = subst (λ x. UpAt limits n x c) same b in up_said limits n s c mine o (told (up_past limits n c mine.out) mine.belongs)

down_said : (limits : Bounds) (n : ℕ) (s : DownState) (c : Connection) (b : DownAt limits n s c) (o : Option MuxFrame) → o ≡ down.last_queued (down_past limits n c b.out) → o ≡ last_out c
down_said limits n s c b o e = e ∙ down_out limits n s c b

pub down_copied : (xs : List DownState) (n : ℕ) (s : DownState) (o : Option MuxFrame) → session_at xs n ≡ Some s → ((p : down.Past) → BelongsDown s p → o ≡ down.last_queued p) → OutAt DownAt xs n o
down_copied xs n s o at told t here limits c b =
    let same : t ≡ s = cc in
    let mine = subst (λ x. DownAt limits n x c) same b in down_said limits n s c mine o (told (down_past limits n c mine.out) mine.belongs)

pub on_ok : {T E : Type 0} {P Q : T → Type 0} (r : Result T E) → ((x : T) → P x → Q x) → IfOk r P → IfOk r Q
on_ok (Ok x) f h = f x h
on_ok (Err e) f h = tt

-- a value in hand goes where the event that uses it goes

held_goes : (n : ℕ) (x : Held) (by : model.Use) (a : SessionId × Call) → spent x by ≡ Some a → goes_to (shown_held n x) by ≡ Some a.0
held_goes n (TicketOf name f left) (model.Offer s now) a e = (let same : (Server s, OfferCall name f left now) ≡ a = cc in ap (λ x. Some x.0) same)
held_goes n (TicketOf name f left) model.Nack a e = (let same : (Client name.client, NackCall name) ≡ a = cc in ap (λ x. Some x.0) same)
held_goes n (TicketOf name f left) model.Unroute a e = (let same : (Client name.client, UnrouteCall name) ≡ a = cc in ap (λ x. Some x.0) same)
held_goes n (PlacedAt name s t) model.Note a e = (let same : (Client name.client, NoteCall name s t) ≡ a = cc in ap (λ x. Some x.0) same)
held_goes n (SettledBy name r again) model.Settle a e = (let same : (Client name.client, SettleCall name r again) ≡ a = cc in ap (λ x. Some x.0) same)
held_goes n (LostOf name) model.Fail a e = (let same : (Client name.client, FailCall name) ≡ a = cc in ap (λ x. Some x.0) same)
held_goes n (RecallOf name s t why) (model.Recall now) a e = (let same : (Server s, RecallCall name t why now) ≡ a = cc in ap (λ x. Some x.0) same)
held_goes n _ _ a e = absurd (cc)

pub hand_goes : (o : Option world.Hand) (hand : Hand) (by : model.Use) (a : SessionId × Call) → option_map shown o ≡ Some hand → spent_by by o ≡ Some a → goes_to hand by ≡ Some a.0
hand_goes None hand by a is e = absurd (cc)
hand_goes (Some h) hand by a is e = (let same : shown h ≡ hand = cc in subst (λ x. goes_to x by ≡ Some a.0) same (held_goes h.number h.held by a e))
