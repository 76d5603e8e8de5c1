-- A run, event by event.
use Rattle.std.proofs.Common.{◌≡◌, ℕ, zero, suc, ◌+◌, ◌<◌, ◌≤◌, length-append, List, [], ◌∷◌, ◌++◌, Bool, true, false, Option, Some, None, Result, Ok, Err, refl, sym, ap, ◌∙◌, subst, map, drop, is_err, if◌then◌else◌, append_assoc, append-nil, length, get_or, arith}
use Rattle.std.proofs.Math.Seq.{drop-cons}
use Rattle.mux_frame.specs.Spelling.{MuxFrame}
use Rattle.mux_frame.specs.Views.{FrameView}
use Rattle.mux_history.specs.Bounds.{Bounds}
use Rattle.mux_history.specs.declared.session.SessionId.{SessionId}
use Rattle.mux_model.specs.Entries.{Exchange}
use Rattle.mux_model.specs.Steps.{Call}
use Rattle.mux_model.specs.World.{World, Connection, start, outcome}
use Rattle.mux_model.specs.Events as model
use Rattle.mux_model.specs.Events.{connection_at, happens, world_or, run, AllChooseFree, ChoosesFree, OnAccepted, IsFreeFor}
use Rattle.core_world.specs.declared.events.Event.{Event}
use Rattle.core_world.specs.declared.events.Note.{Note}
use Rattle.core_world.specs.declared.events.Note.TheVariants as notes
use Rattle.core_world.specs.declared.calls.Told.{Told}
use Rattle.core_world.specs.declared.hands.Hand.{Hand}
use Rattle.core_world.specs.declared.refusal.EventRefusal.{EventRefusal}
use Rattle.core_world.specs.declared.refusal.EventRefusal.TheVariants as refusals
use Rattle.core_world.specs.Refusals.{refusal_of}
use Rattle.core_world.specs.Hands.{shown}
use Rattle.core_world.specs.Calls.{after}
use Rattle.core_world.specs.Events.{IsRefusedBy, event_of, is_memory}
use Rattle.mux_model.proofs.Happens.{limits_kept}
use Rattle.core_world.proofs.Landing.{core_starts}
use Rattle.router_core.specs.declared.entering.Look.{Look}
use Rattle.router_core.specs.declared.meeting.Met.{Met}
use Rattle.router_core.specs.declared.sides.Side.{Side}
use Rattle.router_core.specs.declared.sides.Run.{Run}
use Rattle.router_core.specs.Entries.{IsLook, entry_by, first_entries, first_sent, frame_in, frame_of, last_out}
use Rattle.router_core.specs.Lists.{SideView, side_of, entered, entered_if}
use Rattle.router_core.specs.Promises.{KeepsPromises}
use Rattle.router_core.specs.Runs.{AllRead, Shows, IsRunOf, with_place, refused_from, IsMet, MetAt, Records, Accepted, Plays}
use Rattle.router_core.specs.Sides.{UpAt, DownAt}
use Rattle.router_core.specs.Worlds.{CoreView, IsCoreOf, Steps}
use Rattle.router_core.proofs.Making.{outcome_made}
use Rattle.router_core.proofs.Promising.{promised}
use Rattle.router_core.proofs.Entries.{entry_is}
use Rattle.router_core.proofs.Showing.{CalledAt, called, told_call, call_frame, opened_sides, taken_sides, booted_sides}

-- THE LISTS AFTER AN EVENT THAT TOLD OF A CALL

module _ (w done : World) (t : ℕ) (x : SessionId × Call) (did : CalledAt w done t x) (handed : Option MuxFrame) (frame : handed ≡ frame_of x.1) (old new : List SideView) (shows : old ≡ map side_of w.connections) where
  abbrev made : Connection
  made = after did.c x.1 (outcome w.limits did.c t x.1)

  entered_so : (met : Option Met) → MetAt x.0 did.c met → Records done met handed old new → new ≡ map side_of done.connections
  entered_so None at records = absurd at
  entered_so (Some m) at records =
      let here : connection_at done.boot m.session done.connections ≡ Some made = subst (λ id. connection_at done.boot id done.connections ≡ Some made) (sym at.0) did.here in
      let r = records m refl made here in
      let entry = entry_is did.c x.1 m.look r.0 at.1 (outcome w.limits did.c t x.1) (outcome_made w.limits did.c t x.1) r.1 in
      r.2
      ∙ ap (λ f. entered_if done.boot m.session (entry_by m.look r.0 f (last_out made)) old) frame
      ∙ (λ i. entered_if (did.boot i) (at.0 i) (entry i) (shows i))
      ∙ sym did.sides

pub told_shows : (w done : World) (event : model.Event) (what : Told) (hand : Option Hand) (met : Option Met) (handed : Option MuxFrame) (old new : List SideView)
    → old ≡ map side_of w.connections → Accepted w done event (notes.Told what hand) met handed → Records done met handed old new → new ≡ map side_of done.connections
told_shows w done event what hand met handed old new shows a records =
    let x = told_call w done a.tag event what hand a.tells in
    let did = called w done a.tag event x.0 x.1 a.does in
    entered_so w done a.tag x.0 did handed (a.frame ∙ sym (call_frame w.hands event x.0 x.1)) old new shows met (a.looked x.0 x.1 did.c did.at) records

pub opened_shows : (w done : World) (event : model.Event) (session : SessionId) (met : Option Met) (handed : Option MuxFrame) (old new : List SideView) (boot : ℕ) (first : Option MuxFrame)
    → old ≡ map side_of w.connections → Accepted w done event (notes.Opened session) met handed → boot ≡ done.boot → first ≡ first_sent event
    → new ≡ old ++ record { boot = boot; session = session; entries = first_entries first } ∷ [] → new ≡ map side_of done.connections
opened_shows w done event session met handed old new boot first shows a boots firsts is =
    is ∙ (λ i. shows i ++ record { boot = boots i; session = session; entries = first_entries (firsts i) } ∷ []) ∙ sym (opened_sides w done a.tag event session a.tells a.does)

pub taken_shows : (w done : World) (event : model.Event) (f : Option FrameView) (met : Option Met) (handed : Option MuxFrame) (old : List SideView)
    → old ≡ map side_of w.connections → Accepted w done event (notes.Out f) met handed → old ≡ map side_of done.connections
taken_shows w done event f met handed old shows a = shows ∙ sym (taken_sides w done a.tag event f a.tells a.does)

pub booted_shows : (w done : World) (event : model.Event) (n : ℕ) (met : Option Met) (handed : Option MuxFrame) (old : List SideView)
    → old ≡ map side_of w.connections → Accepted w done event (notes.Booted n) met handed → old ≡ map side_of done.connections
booted_shows w done event n met handed old shows a = shows ∙ sym (booted_sides w done a.tag event n a.tells a.does)

-- what was recorded, and goes into its list
pub entered_by : (w : World) (met : Option Met) (mine : Met) (handed : Option MuxFrame) (old new : List SideView) (boot : ℕ) (e : Exchange) (o : Option Exchange) → met ≡ Some mine → boot ≡ w.boot → o ≡ Some e
    → new ≡ entered boot mine.session e old
    → ((c : Connection) → connection_at w.boot mine.session w.connections ≡ Some c → (after : Look) × IsLook after c × (o ≡ entry_by mine.look after handed (last_out c)))
    → Records w met handed old new
entered_by w met mine handed old new boot e o is boots some into told m same =
    let one : mine ≡ m = cc in
    subst (λ (x : Met). (c : Connection) → connection_at w.boot x.session w.connections ≡ Some c
    → (after : Look) × IsLook after c × (new ≡ entered_if w.boot x.session (entry_by x.look after handed (last_out c)) old)) one
    (λ c at. let t = told c at in (t.0, t.1, into ∙ ap (λ n. entered n mine.session e old) boots ∙ ap (λ x. entered_if w.boot mine.session x old) (sym some ∙ t.2)))

-- ONE EVENT

refused_as : (w : World) (event : model.Event) (x : Result World model.EventRefusal) (why : EventRefusal) → is_memory why ≡ false → IsRefusedBy w event x why → (y : model.EventRefusal) × (x ≡ Err y)
refused_as w event x refusals.NoSuchSession other r = (model.NoSuchSession, r)
refused_as w event x refusals.NoSuchHand other r = (model.NoSuchHand, r)
refused_as w event x refusals.WrongHand other r = (model.WrongHand, r)
refused_as w event x (refusals.Session why) other r = (model.OfSession (refusal_of why), r)
refused_as w event x refusals.Memory other r = absurd (cc)

pub was_refused : (old new : CoreView) (before : List Side) (event : model.Event) (r : Result Note (EventRefusal × Event)) (why : EventRefusal) (back : Event) → r ≡ Err (why, back) → is_memory why ≡ false → new ≡ old
    → Steps old new event r → Plays old new before before event true
was_refused old new before event r why back is other same made w b shows =
    let s = subst (λ x. Steps old new event x) is made w b in
    let y = refused_as w event (happens w s.0 event) why other s.1 in (
      s.0,
      sym (ap (λ x. is_err x) y.1),
      subst (λ x. OnAccepted x (λ after. IsFreeFor w s.0 event)) (sym y.1) tt,
      subst (λ x. IsCoreOf new (world_or w x)) (sym y.1) (subst (λ v. IsCoreOf v w) (sym same) b),
      subst (λ x. Shows before (world_or w x)) (sym y.1) shows,
    )

pub was_accepted : (old new : CoreView) (before after : List Side) (event : model.Event) (r : Result Note (EventRefusal × Event)) (note : Note) (met : Option Met) (handed : Option MuxFrame) → r ≡ Ok note → Steps old new event r
    → ((w : World) → IsCoreOf old w → IsMet w event met) → handed ≡ frame_in event → ((w done : World) → Shows before w → Accepted w done event note met handed → IsCoreOf new done → Shows after done)
    → Plays old new before after event false
was_accepted old new before after event r note met handed is made looked frame lists w b shows =
    let s = subst (λ x. Steps old new event x) is made w b in
    let a : Accepted w s.1 event note met handed = record { tag = s.0; does = s.2; tells = s.4; looked = looked w b; frame = frame } in (
      s.0,
      sym (ap (λ x. is_err x) s.2),
      s.3,
      subst (λ x. IsCoreOf new (world_or w x)) (sym s.2) s.5,
      subst (λ x. Shows after (world_or w x)) (sym s.2) (lists w s.1 shows a s.5),
    )

-- ALL EVENTS

abbrev pub Chosen : Type 0
Chosen = ℕ × model.Event

run-append : (w : World) (es : List Chosen) (e : Chosen) → run w (es ++ e ∷ []) ≡ world_or (run w es) (happens (run w es) e.0 e.1)
run-append w [] e = refl
run-append w (x ∷ es) e = run-append (world_or w (happens w x.0 x.1)) es e

free-append : (w : World) (es : List Chosen) (e : Chosen) → AllChooseFree w es → ChoosesFree (run w es) e.0 e.1 → AllChooseFree w (es ++ e ∷ [])
free-append w [] e all one = (one, tt)
free-append w (x ∷ es) e all one = (all.0, free-append (world_or w (happens w x.0 x.1)) es e all.1 one)

abbrev pub one_if : Bool → ℕ → List ℕ
one_if b n = if b then n ∷ [] else []

plus_none : (n : ℕ) → n ≡ n + 0
plus_none n = omega arith

one_later : (n k : ℕ) → n + 1 + k ≡ n + suc k
one_later n k = omega arith

placed : (place : ℕ) (h : Result World model.EventRefusal) → with_place place h [] ≡ one_if (is_err h) place
placed place (Ok w) = refl
placed place (Err why) = refl

place-append : (place : ℕ) (h : Result World model.EventRefusal) (a b : List ℕ) → with_place place h (a ++ b) ≡ with_place place h a ++ b
place-append place (Ok w) a b = refl
place-append place (Err why) a b = refl

refused-append : (place : ℕ) (w : World) (es : List Chosen) (e : Chosen)
    → refused_from place w (es ++ e ∷ []) ≡ refused_from place w es ++ one_if (is_err (happens (run w es) e.0 e.1)) (place + length es)
refused-append place w [] e = placed place (happens w e.0 e.1) ∙ ap (λ n. one_if (is_err (happens w e.0 e.1)) n) (plus_none place)
refused-append place w (x ∷ es) e =
    let after = world_or w (happens w x.0 x.1) in
    ap (λ l. with_place place (happens w x.0 x.1) l) (refused-append (place + 1) after es e)
    ∙ place-append place (happens w x.0 x.1) _ _
    ∙ ap (λ n. refused_from place w (x ∷ es) ++ one_if (is_err (happens (run after es) e.0 e.1)) n) (one_later place (length es))

-- behind so many events
pub record Ran (limits : Bounds) (boot : ℕ) (all : List Event) (v : CoreView) (sides : List Side) (refused : List ℕ) (place : ℕ) : Type 0 where
  pub done : List Chosen
  pub same : map (λ (e : Chosen). e.1) done ++ map event_of (drop place all) ≡ map event_of all
  pub count : length done ≡ place
  pub free : AllChooseFree (start limits boot) done
  pub refuses : refused ≡ refused_from 0 (start limits boot) done
  pub here : IsCoreOf v (run (start limits boot) done)
  pub shows : Shows sides (run (start limits boot) done)
  pub read : AllRead (drop place all)

map-end : {A B : Type 0} (f : A → B) (xs : List A) (x : A) → map f (xs ++ x ∷ []) ≡ map f xs ++ f x ∷ []
map-end f [] x = refl
map-end f (y ∷ xs) x = ap (λ l. f y ∷ l) (map-end f xs x)

abbrev picked : List Chosen → List model.Event
picked es = map (λ (e : Chosen). e.1) es

pub ran_start : (limits : Bounds) (boot : ℕ) (all : List Event) (v : CoreView) → v ≡ record { boot = boot; limits = limits; clients = []; servers = []; hands = []; next_hand = 1 } → AllRead all
    → Ran limits boot all v [] [] 0
ran_start limits boot all v is read = record {
  done = [];
  same = refl;
  count = refl;
  free = tt;
  refuses = refl;
  here = subst (λ x. IsCoreOf x (start limits boot)) (sym is) (core_starts DownAt UpAt limits boot);
  shows = refl;
  read = read;
}

pub ran_next : (limits : Bounds) (boot : ℕ) (all : List Event) (v new : CoreView) (before after : List Side) (refused : List ℕ) (place : ℕ) (e : Event) (flag : Bool) → Ran limits boot all v before refused place
    → drop place all ≡ e ∷ drop (place + 1) all → Plays v new before after (event_of e) flag → Ran limits boot all new after (refused ++ one_if flag place) (place + 1)
ran_next limits boot all v new before after refused place e flag r split step =
    let w = run (start limits boot) r.done in
    let d = step w r.here r.shows in
    let one : Chosen = (d.0, event_of e) in
    let rest = map event_of (drop (place + 1) all) in
    record {
      done = r.done ++ one ∷ [];
      same = ap (λ l. l ++ rest) (map-end (λ (x : Chosen). x.1) r.done one) ∙ append_assoc (picked r.done) (event_of e ∷ []) rest
          ∙ ap (λ (l : List Event). picked r.done ++ map event_of l) (sym split) ∙ r.same;
      count = length-append r.done (one ∷ []) ∙ ap (λ n. n + 1) r.count;
      free = free-append (start limits boot) r.done one r.free d.2;
      refuses = ap (λ b. refused ++ one_if b place) d.1 ∙ ap (λ l. l ++ one_if (is_err (happens w d.0 (event_of e))) place) r.refuses
          ∙ ap (λ n. refused_from 0 (start limits boot) r.done ++ one_if (is_err (happens w d.0 (event_of e))) n) (place_is (length r.done) place r.count)
          ∙ sym (refused-append 0 (start limits boot) r.done one);
      here = subst (λ x. IsCoreOf new x) (sym (run-append (start limits boot) r.done one)) d.3;
      shows = subst (λ x. Shows after x) (sym (run-append (start limits boot) r.done one)) d.4;
      read = (subst (λ l. AllRead l) split r.read).1;
    }
  where
    place_is : (n place : ℕ) → n ≡ place → place ≡ 0 + n
    place_is n place e = omega (arith, e)

drop_all : (all : List Event) (place : ℕ) → length all ≤ place → drop place all ≡ []
drop_all [] zero h = refl
drop_all [] (suc n) h = refl
drop_all (x ∷ all) zero h = absurd (omega (arith, h))
drop_all (x ∷ all) (suc n) h = drop_all all n (omega (arith, h))

-- THE HEADLINE
pub is_run : (limits : Bounds) (boot : ℕ) (all : List Event) (v : CoreView) (r : Run) (place : ℕ) → Ran limits boot all v r.sides.items r.refused.items place → length all ≤ place
    → r.hands.items ≡ map shown v.hands → IsRunOf limits boot (map event_of all) r
is_run limits boot all v r place ran past hands =
    let w = run (start limits boot) ran.done in
    record {
      chosen = ran.done;
      same = sym (append-nil (picked ran.done)) ∙ ap (λ (l : List Event). picked ran.done ++ map event_of l) (sym (drop_all all place past)) ∙ ran.same;
      free = ran.free;
      sides = ran.shows;
      hands = hands ∙ ap (λ l. map shown l) ran.here.hands;
      refused = ran.refuses;
      promises = subst (λ (l : Bounds). KeepsPromises l w.connections) (limits_kept (start limits boot) ran.done) (promised ran.here.reached);
    }

pub split_at : (all : List Event) (k : ℕ) (e d : Event) → k < length all → d ≡ get_or all k d → e ≡ d → drop k all ≡ e ∷ drop (k + 1) all
split_at all k e d within at same =
    let next : suc k ≡ k + 1 = omega arith in
    drop-cons all k d within ∙ ap (λ (x : Event). x ∷ drop (suc k) all) (sym at ∙ sym same) ∙ ap (λ (n : ℕ). e ∷ drop n all) next
