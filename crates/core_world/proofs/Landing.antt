-- A step of one session of a core is an event of its world.
use Rattle.std.proofs.Common.{◌≡◌, ◌++◌, ◌+◌, ◌<◌, ℕ, suc, List, [], ◌∷◌, Option, Some, None, Ok, refl, sym, ◌∙◌, ap, subst, length, false, arith, length-append}
use Rattle.std.specs.Prelude.{◌==◌}
use Rattle.mux_frame.specs.Spelling.{MuxFrame}
use Rattle.mux_frame.specs.Views.{FrameView}
use Rattle.mux_history.specs.Bounds.{Bounds}
use Rattle.mux_history.specs.declared.session.SessionId.{SessionId}
use Rattle.mux_history.specs.declared.session.SessionId.TheVariants.{Client, Server}
use Rattle.mux_history.specs.declared.session.InitMode.{InitMode}
use Rattle.mux_history.specs.declared.session.InitMode.TheVariants.{Plain}
use Rattle.mux_model.specs.Entries.{said_by}
use Rattle.mux_model.specs.Steps.{Call}
use Rattle.mux_model.specs.World.{World, Connection, Hand, MayChooseAt, outcome, numbered, opened, next_out, same_session, start, starts, with_client, with_server, first_step, restarted, opens_client, opens_server, restarts}
use Rattle.mux_model.specs.Events as model
use Rattle.mux_model.specs.Events.{connection_at, replaced, happens, ChoosesFree, OnAccepted, hand_at, spends, on_hand, after_outcome}
use Rattle.mux_model.proofs.Happens.{accepted_all, found}
use Rattle.core_world.specs.declared.calls.Gave.{Gave}
use Rattle.core_world.specs.declared.events.Note.{Note}
use Rattle.core_world.specs.declared.events.Note.TheVariants as notes
use Rattle.core_world.specs.declared.refusal.EventRefusal.{EventRefusal}
use Rattle.core_world.specs.declared.refusal.EventRefusal.TheVariants as refusals
use Rattle.core_world.specs.Calls.{after, held_in}
use Rattle.core_world.specs.Sides.{Pointwise, session_at, put_at, CallsOne, RefusesOne, GivesOut, with_out}
use Rattle.core_world.specs.Events.{call_in, left_by, Tells, IsRefusedBy, IsLookedAt, out_at}
use Rattle.core_world.specs.Cores.{CoreView, IsCoreOf, Lands, note_of}
use Rattle.core_world.proofs.Pointwise.{Changed, replaces, stays, pushes, connection_of, no_connection, one_steps, other_side, one_more, next_free, none_at_all, length-put}
use Rattle.core_world.proofs.Moving.{moved_conns, moved_by, after_is, given_is, changes, still_later, reached_by, event_does, event_nowhere, event_chooses, event_tells, call_tells, event_grows, looked_at}

-- the sessions of one side make a step, those of the other stay
module _ {S T : Type 0} (P : Bounds → ℕ → S → Connection → Type 0) (Q : Bounds → ℕ → T → Connection → Type 0) (side other : ℕ → SessionId)
    (apart : (n k : ℕ) → same_session (side n) (side k) ≡ (n == k)) (off : (n k : ℕ) → same_session (side n) (other k) ≡ false) where
  -- the world that an event of this side leads to, and all sessions as connections of it
  pub record Landing (w : World) (event : model.Event) (note : Note) (xs new : List S) (ys : List T) (hands : List Hand) (next : ℕ) : Type 0 where
    pub tag : ℕ
    pub world : World
    pub does : happens w tag event ≡ Ok world
    pub free : ChoosesFree w tag event
    pub tells : Tells w tag event note
    pub same_boot : world.boot ≡ w.boot
    pub same_limits : world.limits ≡ w.limits
    pub same_clients : world.clients ≡ w.clients
    pub same_servers : world.servers ≡ w.servers
    pub same_hands : hands ≡ world.hands
    pub same_next : next ≡ world.next_hand
    pub here : Pointwise (P w.limits) side new w.boot world.connections
    pub there : Pointwise (Q w.limits) other ys w.boot world.connections
    pub count : length new ≡ length xs
    pub later : (b : ℕ) (id : SessionId) → w.boot < b → connection_at b id world.connections ≡ None

  pub moves : (w : World) (event : model.Event) (number : ℕ) (call : Call) (g : Gave) (xs new : List S) (ys : List T) (hands : List Hand) (next : ℕ)
      → Pointwise (P w.limits) side xs w.boot w.connections → Pointwise (Q w.limits) other ys w.boot w.connections
      → ((b : ℕ) (id : SessionId) → w.boot < b → connection_at b id w.connections ≡ None)
      → call_in w.hands event ≡ Some (side number, call) → CallsOne P xs new number call g
      → hands ≡ left_by w.hands event ++ numbered w.next_hand (held_in g) → next ≡ w.next_hand + length (held_in g)
      → Landing w event (note_of w.next_hand g) xs new ys hands next
  moves w event number call g xs new ys hands next mine theirs later goes called kept counted =
      let at = connection_of (P w.limits) side apart xs w.boot w.connections number called.0 mine called.2 in
      let c = at.0 in
      let led = called.4 w.limits number c at.2 in
      let rest = left_by w.hands event in
      let ds = moved_conns w (side number) c call led.answer in
      let changed = changes w (side number) c call led.answer at.1 in
      let given = given_is call led.answer g led.gives in
      let f = found w.boot (side number) w.connections c at.1 in
      record {
        tag = led.tag;
        world = moved_by w rest (side number) c call led.answer;
        does = event_does w led.tag event (side number, call) c goes at.1 ∙ ap (λ o. after_outcome w rest (side number) c call o) led.is
            ∙ after_is w rest (side number) c call led.answer g led.gives;
        free = event_chooses w led.tag event (side number, call) c goes at.1 (subst (λ id. MayChooseAt w.limits c id led.tag call) f.named led.may);
        tells = event_tells w led.tag event (side number, call) (note_of w.next_hand g) goes (call_tells w led.tag (side number) call c led.answer g at.1 led.is led.gives);
        same_boot = refl;
        same_limits = refl;
        same_clients = refl;
        same_servers = refl;
        same_hands = kept ∙ (λ i. rest ++ numbered w.next_hand (sym given i));
        same_next = counted ∙ (λ i. w.next_hand + length (sym given i));
        here = subst (λ l. Pointwise (P w.limits) side l w.boot ds) (sym called.3)
            (one_steps (P w.limits) side apart xs w.boot w.connections ds number called.0 called.1 (after c call led.answer) mine called.2 led.new changed);
        there = other_side (Q w.limits) other ys w.boot w.connections ds (side number) (after c call led.answer) (off number) theirs changed;
        count = ap (λ l. length l) called.3 ∙ length-put xs number called.1;
        later = still_later w (side number) (after c call led.answer) ds changed later;
      }

  -- a refusal is the world's
  pub refuses : (w : World) (event : model.Event) (number : ℕ) (call : Call) (why : EventRefusal) (xs : List S) → Pointwise (P w.limits) side xs w.boot w.connections
      → call_in w.hands event ≡ Some (side number, call) → RefusesOne P xs number call why → (t : ℕ) × IsRefusedBy w event (happens w t event) why
  refuses w event number call refusals.NoSuchSession xs mine goes none =
      (0, event_nowhere w 0 event (side number, call) goes (no_connection (P w.limits) side apart xs w.boot w.connections number mine none))
  refuses w event number call (refusals.Session why) xs mine goes called =
      let at = connection_of (P w.limits) side apart xs w.boot w.connections number called.0 mine called.1 in
      let r = called.2 w.limits number at.0 at.2 in
      (r.0, event_does w r.0 event (side number, call) at.0 goes at.1 ∙ ap (λ o. after_outcome w (left_by w.hands event) (side number) at.0 call o) r.1)
  refuses w event number call refusals.Memory xs mine goes called =
      let at = connection_of (P w.limits) side apart xs w.boot w.connections number called.0 mine called.1 in
      let looked : IsLookedAt (happens w 0 event) =
      subst (λ x. IsLookedAt x) (sym (event_does w 0 event (side number, call) at.0 goes at.1)) (looked_at w (left_by w.hands event) (side number) at.0 call (outcome w.limits at.0 0 call)) in
      (0, (event_grows w event (side number, call) goes called.2, looked))
  refuses w event number call refusals.NoSuchHand xs mine goes called = absurd called.2
  refuses w event number call refusals.WrongHand xs mine goes called = absurd called.2

  -- a frame is taken out
  takes_by : (w : World) (number : ℕ) (c : Connection) (xs new : List S) (ys : List T) (s t : S) (frame : Option FrameView)
      → connection_at w.boot (side number) w.connections ≡ Some c → (o : Option MuxFrame) → said_by frame ≡ o → next_out c ≡ o → P w.limits number t (with_out c o)
      → session_at xs number ≡ Some s → new ≡ put_at xs number t
      → Pointwise (P w.limits) side xs w.boot w.connections → Pointwise (Q w.limits) other ys w.boot w.connections
      → ((b : ℕ) (id : SessionId) → w.boot < b → connection_at b id w.connections ≡ None) → Landing w (model.TakeOutOf (side number)) (notes.Out frame) xs new ys w.hands w.next_hand
  takes_by w number c xs new ys s t frame at None said next belongs held put mine theirs later =
      let changed = stays w.boot (side number) c w.connections at in
      record {
        tag = 0;
        world = w;
        does = ap (λ o. model.takes w (side number) o) at ∙ ap (λ o. model.after_out w (side number) c o) next;
        free = accepted_all (happens w 0 (model.TakeOutOf (side number))) tt;
        tells = said ∙ sym next ∙ sym (ap (λ o. out_at o) at);
        same_boot = refl;
        same_limits = refl;
        same_clients = refl;
        same_servers = refl;
        same_hands = refl;
        same_next = refl;
        here = subst (λ l. Pointwise (P w.limits) side l w.boot w.connections) (sym put)
            (one_steps (P w.limits) side apart xs w.boot w.connections w.connections number s t c mine held belongs changed);
        there = theirs;
        count = ap (λ l. length l) put ∙ length-put xs number t;
        later = later;
      }
  takes_by w number c xs new ys s t frame at (Some f) said next belongs held put mine theirs later =
      let place = found w.boot (side number) w.connections c at in
      let d = record c { out = c.out + 1 } in
      let ds = replaced w.boot (side number) d w.connections in
      let changed = replaces w.boot (side number) d c w.connections place.present place.named at in
      record {
        tag = 0;
        world = record w { connections = ds };
        does = ap (λ o. model.takes w (side number) o) at ∙ ap (λ o. model.after_out w (side number) c o) next;
        free = accepted_all (happens w 0 (model.TakeOutOf (side number))) tt;
        tells = said ∙ sym next ∙ sym (ap (λ o. out_at o) at);
        same_boot = refl;
        same_limits = refl;
        same_clients = refl;
        same_servers = refl;
        same_hands = refl;
        same_next = refl;
        here = subst (λ l. Pointwise (P w.limits) side l w.boot ds) (sym put)
            (one_steps (P w.limits) side apart xs w.boot w.connections ds number s t d mine held belongs changed);
        there = other_side (Q w.limits) other ys w.boot w.connections ds (side number) d (off number) theirs changed;
        count = ap (λ l. length l) put ∙ length-put xs number t;
        later = still_later w (side number) d ds changed later;
      }

  pub takes : (w : World) (number : ℕ) (xs new : List S) (ys : List T) (frame : Option FrameView) (s t : S) → session_at xs number ≡ Some s → new ≡ put_at xs number t
      → GivesOut P s t (said_by frame) → Pointwise (P w.limits) side xs w.boot w.connections → Pointwise (Q w.limits) other ys w.boot w.connections
      → ((b : ℕ) (id : SessionId) → w.boot < b → connection_at b id w.connections ≡ None) → Landing w (model.TakeOutOf (side number)) (notes.Out frame) xs new ys w.hands w.next_hand
  takes w number xs new ys frame s t held put gives mine theirs later =
      let at = connection_of (P w.limits) side apart xs w.boot w.connections number s mine held in
      let out = gives w.limits number at.0 at.2 in
      takes_by w number at.0 xs new ys s t frame at.1 (said_by frame) refl out.0 out.1 held put mine theirs later

-- a core with no session, of a world that begins
pub core_starts : {C S : Type 0} (P : Bounds → ℕ → C → Connection → Type 0) (Q : Bounds → ℕ → S → Connection → Type 0) (limits : Bounds) (boot : ℕ)
    → IsCoreOf P Q (record { boot = boot; limits = limits; clients = []; servers = []; hands = []; next_hand = 1 }) (start limits boot)
core_starts P Q limits boot = record {
  boot = refl;
  limits = refl;
  client_count = refl;
  server_count = refl;
  clients = none_at_all (P limits) Client (λ n k. refl) boot [] (λ id. refl);
  servers = none_at_all (Q limits) Server (λ n k. refl) boot [] (λ id. refl);
  later = λ b id less. refl;
  hands = refl;
  next_hand = refl;
  reached = starts limits boot;
}

module _ {C S : Type 0} (P : Bounds → ℕ → C → Connection → Type 0) (Q : Bounds → ℕ → S → Connection → Type 0) (v : CoreView C S) (w : World) (b : IsCoreOf P Q v w) where
  abbrev pub To : model.Event → Note → CoreView C S → Type 0
  To event note new = Lands (λ x. IsCoreOf P Q x) w event note new

  client_landed : (event : model.Event) (note : Note) (new : List C) (hands : List Hand) (next : ℕ)
      → Landing P Q Client Server (λ n k. refl) (λ n k. refl) w event note v.clients new v.servers hands next → To event note (record v { clients = new; hands = hands; next_hand = next })
  client_landed event note new hands next m = (
    m.tag,
    m.world,
    m.does,
    m.free,
    m.tells,
    record {
      boot = b.boot ∙ sym m.same_boot;
      limits = b.limits ∙ sym m.same_limits;
      client_count = m.count ∙ b.client_count ∙ sym m.same_clients;
      server_count = b.server_count ∙ sym m.same_servers;
      clients = subst (λ l. Pointwise (P l) Client new m.world.boot m.world.connections) (sym m.same_limits) (subst (λ k. Pointwise (P w.limits) Client new k m.world.connections) (sym m.same_boot) m.here);
      servers = subst (λ l. Pointwise (Q l) Server v.servers m.world.boot m.world.connections) (sym m.same_limits) (subst (λ k. Pointwise (Q w.limits) Server v.servers k m.world.connections) (sym m.same_boot) m.there);
      later = subst (λ k. (b : ℕ) (id : SessionId) → k < b → connection_at b id m.world.connections ≡ None) (sym m.same_boot) m.later;
      hands = m.same_hands;
      next_hand = m.same_next;
      reached = reached_by w m.world m.tag event b.reached m.free m.does;
    },
  )

  server_landed : (event : model.Event) (note : Note) (new : List S) (hands : List Hand) (next : ℕ)
      → Landing Q P Server Client (λ n k. refl) (λ n k. refl) w event note v.servers new v.clients hands next → To event note (record v { servers = new; hands = hands; next_hand = next })
  server_landed event note new hands next m = (
    m.tag,
    m.world,
    m.does,
    m.free,
    m.tells,
    record {
      boot = b.boot ∙ sym m.same_boot;
      limits = b.limits ∙ sym m.same_limits;
      client_count = b.client_count ∙ sym m.same_clients;
      server_count = m.count ∙ b.server_count ∙ sym m.same_servers;
      clients = subst (λ l. Pointwise (P l) Client v.clients m.world.boot m.world.connections) (sym m.same_limits) (subst (λ k. Pointwise (P w.limits) Client v.clients k m.world.connections) (sym m.same_boot) m.there);
      servers = subst (λ l. Pointwise (Q l) Server new m.world.boot m.world.connections) (sym m.same_limits) (subst (λ k. Pointwise (Q w.limits) Server new k m.world.connections) (sym m.same_boot) m.here);
      later = subst (λ k. (b : ℕ) (id : SessionId) → k < b → connection_at b id m.world.connections ≡ None) (sym m.same_boot) m.later;
      hands = m.same_hands;
      next_hand = m.same_next;
      reached = reached_by w m.world m.tag event b.reached m.free m.does;
    },
  )

  goes_in : (event : model.Event) (a : SessionId × Call) → call_in v.hands event ≡ Some a → call_in w.hands event ≡ Some a
  goes_in event a goes = ap (λ hs. call_in hs event) (sym b.hands) ∙ goes

  hands_in : (event : model.Event) (g : Gave) (hands : List Hand) → hands ≡ left_by v.hands event ++ numbered v.next_hand (held_in g) → hands ≡ left_by w.hands event ++ numbered w.next_hand (held_in g)
  hands_in event g hands kept = kept ∙ (λ i. left_by (b.hands i) event ++ numbered (b.next_hand i) (held_in g))

  next_in : (g : Gave) (next : ℕ) → next ≡ v.next_hand + length (held_in g) → next ≡ w.next_hand + length (held_in g)
  next_in g next counted = counted ∙ ap (λ n. n + length (held_in g)) b.next_hand

  -- a step of a session, with a value or without
  pub client_lands : (event : model.Event) (number : ℕ) (call : Call) (g : Gave) (new : List C) (hands : List Hand) (next : ℕ) (note : Note) → call_in v.hands event ≡ Some (Client number, call)
      → CallsOne P v.clients new number call g → hands ≡ left_by v.hands event ++ numbered v.next_hand (held_in g) → next ≡ v.next_hand + length (held_in g) → note ≡ note_of v.next_hand g
      → To event note (record v { clients = new; hands = hands; next_hand = next })
  client_lands event number call g new hands next note goes called kept counted noted =
      let m = moves P Q Client Server (λ n k. refl) (λ n k. refl) w event number call g v.clients new v.servers hands next b.clients b.servers b.later (goes_in event (Client number, call) goes) called
      (hands_in event g hands kept) (next_in g next counted) in
      subst (λ n. To event n (record v { clients = new; hands = hands; next_hand = next })) (sym (noted ∙ ap (λ n. note_of n g) b.next_hand)) (client_landed event (note_of w.next_hand g) new hands next m)

  pub server_lands : (event : model.Event) (number : ℕ) (call : Call) (g : Gave) (new : List S) (hands : List Hand) (next : ℕ) (note : Note) → call_in v.hands event ≡ Some (Server number, call)
      → CallsOne Q v.servers new number call g → hands ≡ left_by v.hands event ++ numbered v.next_hand (held_in g) → next ≡ v.next_hand + length (held_in g) → note ≡ note_of v.next_hand g
      → To event note (record v { servers = new; hands = hands; next_hand = next })
  server_lands event number call g new hands next note goes called kept counted noted =
      let m = moves Q P Server Client (λ n k. refl) (λ n k. refl) w event number call g v.servers new v.clients hands next b.servers b.clients b.later (goes_in event (Server number, call) goes) called
      (hands_in event g hands kept) (next_in g next counted) in
      subst (λ n. To event n (record v { servers = new; hands = hands; next_hand = next })) (sym (noted ∙ ap (λ n. note_of n g) b.next_hand)) (server_landed event (note_of w.next_hand g) new hands next m)

  -- its refusals
  pub client_refused : (event : model.Event) (number : ℕ) (call : Call) (why : EventRefusal) → call_in v.hands event ≡ Some (Client number, call) → RefusesOne P v.clients number call why
      → (t : ℕ) × IsRefusedBy w event (happens w t event) why
  client_refused event number call why goes called =
      refuses P Q Client Server (λ n k. refl) (λ n k. refl) w event number call why v.clients b.clients (goes_in event (Client number, call) goes) called

  pub server_refused : (event : model.Event) (number : ℕ) (call : Call) (why : EventRefusal) → call_in v.hands event ≡ Some (Server number, call) → RefusesOne Q v.servers number call why
      → (t : ℕ) × IsRefusedBy w event (happens w t event) why
  server_refused event number call why goes called =
      refuses Q P Server Client (λ n k. refl) (λ n k. refl) w event number call why v.servers b.servers (goes_in event (Server number, call) goes) called

  -- a frame that is taken out
  pub client_out_lands : (number : ℕ) (frame : Option FrameView) (new : List C) (s t : C) → session_at v.clients number ≡ Some s → new ≡ put_at v.clients number t → GivesOut P s t (said_by frame)
      → To (model.TakeOutOf (Client number)) (notes.Out frame) (record v { clients = new })
  client_out_lands number frame new s t held put gives =
      let m = takes P Q Client Server (λ n k. refl) (λ n k. refl) w number v.clients new v.servers frame s t held put gives b.clients b.servers b.later in
      subst (λ (x : CoreView C S). To (model.TakeOutOf (Client number)) (notes.Out frame) x) (λ i. record v { clients = new; hands = sym b.hands i; next_hand = sym b.next_hand i })
      (client_landed (model.TakeOutOf (Client number)) (notes.Out frame) new w.hands w.next_hand m)

  pub server_out_lands : (number : ℕ) (frame : Option FrameView) (new : List S) (s t : S) → session_at v.servers number ≡ Some s → new ≡ put_at v.servers number t → GivesOut Q s t (said_by frame)
      → To (model.TakeOutOf (Server number)) (notes.Out frame) (record v { servers = new })
  server_out_lands number frame new s t held put gives =
      let m = takes Q P Server Client (λ n k. refl) (λ n k. refl) w number v.servers new v.clients frame s t held put gives b.servers b.clients b.later in
      subst (λ (x : CoreView C S). To (model.TakeOutOf (Server number)) (notes.Out frame) x) (λ i. record v { servers = new; hands = sym b.hands i; next_hand = sym b.next_hand i })
      (server_landed (model.TakeOutOf (Server number)) (notes.Out frame) new w.hands w.next_hand m)

  -- a restart
  pub restart_lands : (n : ℕ) → n ≡ v.boot + 1 → To model.Restart (notes.Booted n) (record { boot = v.boot + 1; limits = v.limits; clients = []; servers = []; hands = []; next_hand = v.next_hand })
  restart_lands n is =
      let less : w.boot < w.boot + 1 = omega arith in (
        0,
        restarted w,
        refl,
        tt,
        is ∙ ap (λ n. n + 1) b.boot,
        record {
          boot = ap (λ n. n + 1) b.boot;
          limits = b.limits;
          client_count = refl;
          server_count = refl;
          clients = none_at_all (P w.limits) Client (λ n k. refl) (w.boot + 1) w.connections (λ id. b.later (w.boot + 1) id less);
          servers = none_at_all (Q w.limits) Server (λ n k. refl) (w.boot + 1) w.connections (λ id. b.later (w.boot + 1) id less);
          later = λ k id past. b.later k id (omega (arith, past));
          hands = refl;
          next_hand = b.next_hand;
          reached = restarts b.reached;
        },
      )

  -- sessions that are opened
  pub client_opens : (s : C) → ((number : ℕ) → number ≡ length v.clients + 1 → (c : Connection) → c ≡ record { boot = v.boot; session = Client number; mode = Plain; steps = []; out = 0 } → P v.limits number s c)
      → (id : SessionId) → id ≡ Client (length v.clients + 1) → To model.OpenClient (notes.Opened id) (record v { clients = v.clients ++ s ∷ [] })
  client_opens s begins id named =
      let counted = b.client_count in
      let n : w.clients + 1 ≡ suc (length v.clients) = omega (arith, counted) in
      let c = opened w (Client (w.clients + 1)) Plain in
      let free : connection_at w.boot (Client (w.clients + 1)) w.connections ≡ None =
      subst (λ k. connection_at w.boot (Client k) w.connections ≡ None) (sym n) (next_free (P w.limits) Client (λ n k. refl) v.clients w.boot w.connections b.clients) in
      let changed = pushes w.boot (Client (w.clients + 1)) c w.connections refl refl free in
      let one : suc (length v.clients) ≡ length v.clients + 1 = omega arith in
      let mine : P w.limits (suc (length v.clients)) s c =
      subst (λ l. P l (suc (length v.clients)) s c) b.limits (begins (suc (length v.clients)) one c (λ i. record { boot = sym b.boot i; session = Client (n i); mode = Plain; steps = []; out = 0 })) in (
        0,
        with_client w,
        refl,
        tt,
        named ∙ ap (λ n. Client (n + 1)) b.client_count,
        record {
          boot = b.boot;
          limits = b.limits;
          client_count = length-append v.clients (s ∷ []) ∙ ap (λ n. n + 1) b.client_count;
          server_count = b.server_count;
          clients = one_more (P w.limits) Client (λ n k. refl) v.clients w.boot w.connections _ s c b.clients mine (subst (λ k. Changed w.boot (Client k) c w.connections (w.connections ++ c ∷ [])) n changed);
          servers = other_side (Q w.limits) Server v.servers w.boot w.connections _ (Client (w.clients + 1)) c (λ k. refl) b.servers changed;
          later = still_later w (Client (w.clients + 1)) c _ changed b.later;
          hands = b.hands;
          next_hand = b.next_hand;
          reached = opens_client b.reached;
        },
      )

  pub server_opens : (mode : InitMode) (s : S)
      → ((number : ℕ) → number ≡ length v.servers + 1 → (c : Connection) → c ≡ record { boot = v.boot; session = Server number; mode = mode; steps = first_step mode; out = 0 } → Q v.limits number s c)
      → (id : SessionId) → id ≡ Server (length v.servers + 1) → To (model.OpenServer mode) (notes.Opened id) (record v { servers = v.servers ++ s ∷ [] })
  server_opens mode s begins id named =
      let counted = b.server_count in
      let n : w.servers + 1 ≡ suc (length v.servers) = omega (arith, counted) in
      let c = opened w (Server (w.servers + 1)) mode in
      let free : connection_at w.boot (Server (w.servers + 1)) w.connections ≡ None =
      subst (λ k. connection_at w.boot (Server k) w.connections ≡ None) (sym n) (next_free (Q w.limits) Server (λ n k. refl) v.servers w.boot w.connections b.servers) in
      let changed = pushes w.boot (Server (w.servers + 1)) c w.connections refl refl free in
      let one : suc (length v.servers) ≡ length v.servers + 1 = omega arith in
      let mine : Q w.limits (suc (length v.servers)) s c =
      subst (λ l. Q l (suc (length v.servers)) s c) b.limits (begins (suc (length v.servers)) one c (λ i. record { boot = sym b.boot i; session = Server (n i); mode = mode; steps = first_step mode; out = 0 })) in (
        0,
        with_server mode w,
        refl,
        tt,
        named ∙ ap (λ n. Server (n + 1)) b.server_count,
        record {
          boot = b.boot;
          limits = b.limits;
          client_count = b.client_count;
          server_count = length-append v.servers (s ∷ []) ∙ ap (λ n. n + 1) b.server_count;
          clients = other_side (P w.limits) Client v.clients w.boot w.connections _ (Server (w.servers + 1)) c (λ k. refl) b.clients changed;
          servers = one_more (Q w.limits) Server (λ n k. refl) v.servers w.boot w.connections _ s c b.servers mine (subst (λ k. Changed w.boot (Server k) c w.connections (w.connections ++ c ∷ [])) n changed);
          later = still_later w (Server (w.servers + 1)) c _ changed b.later;
          hands = b.hands;
          next_hand = b.next_hand;
          reached = opens_server mode b.reached;
        },
      )
