-- What one event makes of the lists that are shown.
use Rattle.std.proofs.Common.{◌≡◌, ◌++◌, ◌+◌, ℕ, List, [], ◌∷◌, Option, Some, None, Result, Ok, Err, refl, sym, ◌∙◌, ap, subst, map}
use Rattle.mux_frame.specs.Spelling.{MuxFrame}
use Rattle.mux_history.specs.declared.session.SessionId.{SessionId}
use Rattle.mux_history.specs.declared.session.SessionId.TheVariants.{Client, Server}
use Rattle.mux_history.specs.declared.session.InitMode.TheVariants.{Probe, Plain}
use Rattle.mux_model.specs.Steps.{Held, TicketOf, PlacedAt, SettledBy, RecallOf, LostOf, Call, Outcome, Refused, Unrecorded, Recorded}
use Rattle.mux_model.specs.World.{World, Connection, Hand, outcome, opened, with_client, with_server, restarted, next_out}
use Rattle.mux_model.specs.Events as model
use Rattle.mux_model.specs.Events.{connection_at, replaced, happens, after_outcome, takes, after_out, spent, hand_at, plain_call}
use Rattle.core_world.specs.declared.calls.Told.{Told}
use Rattle.core_world.specs.declared.hands.Hand as shown_hand
use Rattle.core_world.specs.declared.events.Note.TheVariants as notes
use Rattle.mux_frame.specs.Views.{FrameView}
use Rattle.core_world.specs.Calls.{after}
use Rattle.core_world.specs.Events.{call_in, spent_by, left_by, Tells, CallTells}
use Rattle.core_world.proofs.Moving.{event_does, event_nowhere, changes}
use Rattle.router_core.specs.Lists.{side_of, entered_if}
use Rattle.router_core.specs.Entries.{entry_in, frame_of, frame_in, first_entries, first_sent}
use Rattle.router_core.proofs.Listing.{stepped_sides, out_sides}

-- an event that did a call of a session
pub record CalledAt (w done : World) (t : ℕ) (a : SessionId × Call) : Type 0 where
  pub c : Connection
  pub at : connection_at w.boot a.0 w.connections ≡ Some c
  pub boot : done.boot ≡ w.boot
  pub here : connection_at done.boot a.0 done.connections ≡ Some (after c a.1 (outcome w.limits c t a.1))
  pub sides : map side_of done.connections ≡ entered_if w.boot a.0 (entry_in (outcome w.limits c t a.1)) (map side_of w.connections)

module _ (w done : World) (t : ℕ) where
  abbrev Does : SessionId → Connection → Call → Outcome → Type 0
  Does id c call o =
      (done.boot ≡ w.boot) × (connection_at done.boot id done.connections ≡ Some (after c call o)) × (map side_of done.connections ≡ entered_if w.boot id (entry_in o) (map side_of w.connections))

  by_outcome : (rest : List Hand) (id : SessionId) (c : Connection) (call : Call) (o : Outcome) → connection_at w.boot id w.connections ≡ Some c → after_outcome w rest id c call o ≡ Ok done → Does id c call o
  by_outcome rest id c call (Refused why) at e = absurd (cc)
  by_outcome rest id c call Unrecorded at e =
      (let same : record w { hands = rest } ≡ done = cc in
      subst (λ (d : World). (d.boot ≡ w.boot) × (connection_at d.boot id d.connections ≡ Some c) × (map side_of d.connections ≡ map side_of w.connections)) same (refl, at, refl))
  by_outcome rest id c call (Recorded e gives) at is =
      (let steps = model.after_outcome w rest id c call (Recorded e gives) in
      subst (λ (d : Result World model.EventRefusal). OnOk d (λ d. (d.boot ≡ w.boot) × (connection_at d.boot id d.connections ≡ Some (after c call (Recorded e gives))) × (map side_of d.connections ≡ entered_if w.boot id (Some e) (map side_of w.connections)))) is
      (refl, (changes w id c call (Recorded e gives) at).here, stepped_sides w.boot id call e c w.connections at))
    where
      OnOk : Result World model.EventRefusal → (World → Type 0) → Type 0
      OnOk (Ok d) P = P d
      OnOk (Err why) P = ⊥

  pub called : (ev : model.Event) (a : SessionId × Call) → call_in w.hands ev ≡ Some a → happens w t ev ≡ Ok done → CalledAt w done t a
  called ev a is does = by_connection (connection_at w.boot a.0 w.connections) refl
    where
      by_connection : (o : Option Connection) → connection_at w.boot a.0 w.connections ≡ o → CalledAt w done t a
      by_connection None none = (let never : Ok done ≡ Err model.NoSuchSession = sym does ∙ event_nowhere w t ev a is none in absurd (cc))
      by_connection (Some c) at =
          (let d = by_outcome (left_by w.hands ev) a.0 c a.1 (outcome w.limits c t a.1) at (sym (event_does w t ev a c is at) ∙ does) in
          record { c = c; at = at; boot = d.0; here = d.1; sides = d.2 })

  tells_call : (what : Told) (hand : Option shown_hand.Hand) (o : Option (SessionId × Call)) → CallTells w t (notes.Told what hand) o → (a : SessionId × Call) × (o ≡ Some a)
  tells_call what hand None tells = absurd tells
  tells_call what hand (Some a) tells = (a, refl)

  -- what told something of a call did one
  pub told_call : (ev : model.Event) (what : Told) (hand : Option shown_hand.Hand) → Tells w t ev (notes.Told what hand) → (a : SessionId × Call) × (call_in w.hands ev ≡ Some a)
  told_call model.OpenClient what hand tells = absurd tells
  told_call (model.OpenServer mode) what hand tells = absurd tells
  told_call (model.On id step) what hand tells = ((id, plain_call step), refl)
  told_call (model.Spend k by) what hand tells = tells_call what hand (call_in w.hands (model.Spend k by)) tells
  told_call (model.TakeOutOf id) what hand tells = absurd tells
  told_call model.Restart what hand tells = absurd tells

  abbrev Opens : model.Event → SessionId → World → Type 0
  Opens ev id d = map side_of d.connections ≡ map side_of w.connections ++ record { boot = d.boot; session = id; entries = first_entries (first_sent ev) } ∷ []

  map-end : (cs : List Connection) (c : Connection) → map side_of (cs ++ c ∷ []) ≡ map side_of cs ++ side_of c ∷ []
  map-end [] c = refl
  map-end (x ∷ cs) c = ap (λ l. side_of x ∷ l) (map-end cs c)

  pub opened_sides : (ev : model.Event) (id : SessionId) → Tells w t ev (notes.Opened id) → happens w t ev ≡ Ok done → Opens ev id done
  opened_sides model.OpenClient id tells does =
      (let same : with_client w ≡ done = cc in
      subst (Opens model.OpenClient id) same (subst (λ i. Opens model.OpenClient i (with_client w)) (sym tells) (map-end w.connections (opened w (Client (w.clients + 1)) Plain))))
  opened_sides (model.OpenServer Probe) id tells does =
      (let same : with_server Probe w ≡ done = cc in
      subst (Opens (model.OpenServer Probe) id) same (subst (λ i. Opens (model.OpenServer Probe) i (with_server Probe w)) (sym tells) (map-end w.connections (opened w (Server (w.servers + 1)) Probe))))
  opened_sides (model.OpenServer Plain) id tells does =
      (let same : with_server Plain w ≡ done = cc in
      subst (Opens (model.OpenServer Plain) id) same (subst (λ i. Opens (model.OpenServer Plain) i (with_server Plain w)) (sym tells) (map-end w.connections (opened w (Server (w.servers + 1)) Plain))))
  opened_sides (model.On i step) id tells does = absurd tells
  opened_sides (model.Spend k by) id tells does = absurd tells
  opened_sides (model.TakeOutOf i) id tells does = absurd tells
  opened_sides model.Restart id tells does = absurd tells

  pub taken_sides : (ev : model.Event) (f : Option FrameView) → Tells w t ev (notes.Out f) → happens w t ev ≡ Ok done → map side_of done.connections ≡ map side_of w.connections
  taken_sides (model.TakeOutOf id) f tells does = by_connection (connection_at w.boot id w.connections) refl does
    where
      by_frame : (c : Connection) (o : Option MuxFrame) → connection_at w.boot id w.connections ≡ Some c → after_out w id c o ≡ Ok done → map side_of done.connections ≡ map side_of w.connections
      by_frame c None at e = (let same : w ≡ done = cc in ap (λ (d : World). map side_of d.connections) (sym same))
      by_frame c (Some g) at e =
          (let same : record w { connections = replaced w.boot id (record c { out = c.out + 1 }) w.connections } ≡ done = cc in
          ap (λ (d : World). map side_of d.connections) (sym same) ∙ out_sides w.boot id (c.out + 1) c w.connections at)

      by_connection : (o : Option Connection) → connection_at w.boot id w.connections ≡ o → takes w id o ≡ Ok done → map side_of done.connections ≡ map side_of w.connections
      by_connection None none e = absurd (cc)
      by_connection (Some c) at e = by_frame c (next_out c) at e
  taken_sides model.OpenClient f tells does = absurd tells
  taken_sides (model.OpenServer mode) f tells does = absurd tells
  taken_sides (model.On i step) f tells does = absurd tells
  taken_sides (model.Spend k by) f tells does = absurd tells
  taken_sides model.Restart f tells does = absurd tells

  pub booted_sides : (ev : model.Event) (n : ℕ) → Tells w t ev (notes.Booted n) → happens w t ev ≡ Ok done → map side_of done.connections ≡ map side_of w.connections
  booted_sides model.Restart n tells does = (let same : restarted w ≡ done = cc in ap (λ (d : World). map side_of d.connections) (sym same))
  booted_sides model.OpenClient n tells does = absurd tells
  booted_sides (model.OpenServer mode) n tells does = absurd tells
  booted_sides (model.On i step) n tells does = absurd tells
  booted_sides (model.Spend k by) n tells does = absurd tells
  booted_sides (model.TakeOutOf id) n tells does = absurd tells

-- the frame that a call hands in is the event's

abbrev NoFrame : Option (SessionId × Call) → Type 0
NoFrame None = Unit {0}
NoFrame (Some a) = frame_of a.1 ≡ None

spent_none : (h : Held) (by : model.Use) → NoFrame (spent h by)
spent_none (TicketOf n f left) (model.Offer s now) = refl
spent_none (TicketOf n f left) model.Nack = refl
spent_none (TicketOf n f left) model.Unroute = refl
spent_none (PlacedAt n s t) model.Note = refl
spent_none (SettledBy n r again) model.Settle = refl
spent_none (LostOf n) model.Fail = refl
spent_none (RecallOf n s t why) (model.Recall now) = refl
spent_none _ _ = tt

spent_by_none : (by : model.Use) (o : Option Hand) → NoFrame (spent_by by o)
spent_by_none by None = tt
spent_by_none by (Some h) = spent_none h.held by

bare_frame : (step : model.Bare) → frame_of (plain_call step) ≡ frame_in (model.On (Client 0) step)
bare_frame (model.Frame f now) = refl
bare_frame model.Drain = refl
bare_frame model.LoseNext = refl
bare_frame model.Seal = refl
bare_frame model.Roll = refl
bare_frame (model.Lose now) = refl
bare_frame (model.Clock now) = refl
bare_frame (model.Ping now) = refl
bare_frame (model.Retire now) = refl

pub call_frame : (hands : List Hand) (ev : model.Event) (a : SessionId × Call) → call_in hands ev ≡ Some a → frame_of a.1 ≡ frame_in ev
call_frame hands (model.On id step) a is = (let same : (id, plain_call step) ≡ a = cc in subst (λ x. frame_of x.1 ≡ frame_in (model.On id step)) same (bare_frame step))
call_frame hands (model.Spend k by) a is = subst NoFrame is (spent_by_none by (hand_at k hands))
call_frame hands model.OpenClient a is = absurd (cc)
call_frame hands (model.OpenServer mode) a is = absurd (cc)
call_frame hands (model.TakeOutOf id) a is = absurd (cc)
call_frame hands model.Restart a is = absurd (cc)
