-- The laws of one call: of each frame that it took.
use Rattle.std.proofs.Common.{arith, ◌≡◌, ◌<◌, ℕ, List, [], ◌∷◌, ◌++◌, length, Option, Some, None, Ok, inr, refl, sym, ap, ◌∙◌, subst, append_assoc, slice_get, reverse, Bool, true, false, if◌then◌else◌, ℤ}
use Rattle.std.proofs.lemmas.List.{append-nil}
use Rattle.mux_frame.specs.Spelling.{MuxFrame}
use Rattle.mux_frame.specs.Views.{FrameView}
use Rattle.mux_history.specs.declared.name.Name.{Name}
use Rattle.mux_model.specs.Down.{DownSession, Reaction, down, discarded, reacted, reaction, recall_to, noted_place}
use Rattle.mux_model.specs.Down as downs
use Rattle.mux_history.specs.declared.kind.RecordKind.{RecordKind}
use Rattle.mux_history.specs.declared.kind.RecordKind.TheVariants as kinds
use Rattle.mux_history.specs.declared.record.Record.{Record}
use Rattle.mux_history.specs.Readings.{is_cut, written}
use Rattle.mux_model.specs.Entries.{Exchange}
use Rattle.mux_model.specs.Steps.{FrameCall, Held, Recorded, Step, TicketOf, is_nack, records}
use Rattle.route_table.specs.Routes.{Change}
use Rattle.published_routes.proofs.Prefixes.{prefix_self}
use Rattle.translate_book.specs.Values.{TicketView}
use Rattle.translate_book.specs.declared.sent.Settled.{Settled}
use Rattle.client_session.specs.Past as up_past
use Rattle.client_session.specs.Steps as up_steps
use Rattle.client_session.specs.declared.answers.UpStep.{UpStep}
use Rattle.client_session.specs.declared.answers.UpStep.TheVariants as up
use Rattle.server_session.specs.Past as down_past
use Rattle.server_session.specs.Steps as down_steps
use Rattle.server_session.specs.declared.answers.DownStep.{DownStep}
use Rattle.server_session.specs.declared.answers.DownStep.TheVariants as answers
use Rattle.kept_session.specs.Reached.{Kept}
use Rattle.kept_session.specs.ReachedDown.{KeptDown}
use Rattle.kept_session.proofs.Records.{last_is, one_more}
use Rattle.hub_close.specs.declared.receipt.Stub.{Stub}
use Rattle.hub_base.specs.Errands.{errand_at, of_down, of_up, unsent}
use Rattle.hub_base.specs.declared.errands.Errand.{Errand}
use Rattle.hub_base.specs.declared.errands.Value.TheVariants as value
use Rattle.hub_steps.specs.Batches.{StepsDown, StepsUp}
use Rattle.hub_steps.specs.Batches as batches
use Rattle.hub_steps.specs.Down.{MayKeepDown, StartsDown}
use Rattle.hub_steps.specs.Up.{MayKeep, Starts}
use Rattle.hub_delivery.specs.Carrying.{place_if}
use Rattle.hub_delivery.specs.Leaving.{HasClient}
use Rattle.hub.specs.Batches.{HandsOn}
use Rattle.hub.specs.Laws.{DispatchGoesOn, EachOf, EveryDispatchGoesOn, EveryReplyGoesHome, GoesHome, GoesOn, OnDispatch, OnReply, ReplyGoesHome}
use Rattle.hub.proofs.Followed.{carried, makes_down, makes_up}
use Rattle.hub.proofs.Homeward.{Homeward, Told, came_home, is_told, refused_told, reply_follows}
use Rattle.hub.proofs.Onward.{OnItsWay, dispatch_follows, went_on}

-- LISTS

at_end : (xs zs : List Errand) (y : Errand) → errand_at (xs ++ y ∷ zs) (length xs) ≡ y
at_end [] zs y = refl
at_end (x ∷ xs) zs y = at_end xs zs y

each_more : (Of : FrameView → Stub → Type 0) (fs : List FrameView) (rs : List Stub) (f : FrameView) (r : Stub) → EachOf Of fs rs → Of f r
    → EachOf Of (fs ++ f ∷ []) (rs ++ r ∷ [])
each_more Of [] [] f r all is = (is, tt)
each_more Of [] (x ∷ rs) f r all is = absurd all
each_more Of (g ∷ fs) [] f r all is = absurd all
each_more Of (g ∷ fs) (x ∷ rs) f r all is = (all.0, each_more Of fs rs f r all.1 is)

-- the value of the next frame, between those of the frames before it and behind it
next_value : (Q : Errand → Type 0) (has had es rest : List Errand) (y : Errand) → ((i : ℕ) → Q (errand_at has i))
    → has ≡ had ++ ((es ++ y ∷ []) ++ rest) → Q y × (has ≡ had ++ (es ++ y ∷ rest))
next_value Q has had es rest y all is =
    let more : has ≡ had ++ (es ++ y ∷ rest) = is ∙ ap (λ ys. had ++ ys) (append_assoc es (y ∷ []) rest) in
    let whole : has ≡ (had ++ es) ++ y ∷ rest = more ∙ sym (append_assoc had es (y ∷ rest)) in
    (subst Q (ap (λ ys. errand_at ys (length (had ++ es))) whole ∙ at_end (had ++ es) rest y) (all (length (had ++ es))), more)

-- THE STEPS OF FRAMES

starts_up : (t u : Option Kept) (f : FrameView) (now : ℕ) (r : Stub) (step : UpStep) → Starts t u f now (Ok (r, step)) → MayKeep t → MayKeep u
starts_up None u f now r step starts kept = absurd starts
starts_up (Some s) u f now r step starts kept = makes_up (Some s) u (λ p q. up_steps.FrameStep p f now (Ok step) q) starts.0 kept

starts_down : (t u : Option KeptDown) (f : FrameView) (now : ℕ) (r : Stub) (step : DownStep) → StartsDown t u f now (Ok (r, step))
    → MayKeepDown t → MayKeepDown u
starts_down None u f now r step starts kept = absurd starts
starts_down (Some s) u f now r step starts kept = makes_down (Some s) u (λ p q. down_steps.FrameStep p f now (Ok step) q) starts.0 kept

each_up : (now : ℕ) (s : Option Kept) (Q : Errand → Type 0) (Of : FrameView → Stub → Type 0) (has had : List Errand)
    → ((i : ℕ) → Q (errand_at has i)) → MayKeep s
    → ((t u : Option Kept) (f : FrameView) (r : Stub) (step : UpStep) → MayKeep t → MayKeep u → Starts t u f now (Ok (r, step))
    → Q (of_up step) → Of f r)
    → (fs : List FrameView) (rs : List Stub) (es : List Errand) (u : Option Kept) (rest : List Errand) → has ≡ had ++ (es ++ rest)
    → StepsUp now s fs rs es u → MayKeep u × EachOf Of fs rs
each_up now s Q Of has had all kept one fs rs es u rest is batches.StepsUp.none = (kept, tt)
each_up now s Q Of has had all kept one fs rs es u rest is (batches.StepsUp.next {fs = gs} {rs = qs} {es = ds} {t} f r step starts q) =
    let (here, more) = next_value Q has had ds rest (of_up step) all is in
    let (kt, before) = each_up now s Q Of has had all kept one gs qs ds t (of_up step ∷ rest) more q in
    let ku = starts_up t u f now r step starts kt in
    (ku, each_more Of gs qs f r before (one t u f r step kt ku starts here))

each_down : (now : ℕ) (s : Option KeptDown) (Q : Errand → Type 0) (Of : FrameView → Stub → Type 0) (has had : List Errand)
    → ((i : ℕ) → Q (errand_at has i)) → MayKeepDown s
    → ((t u : Option KeptDown) (f : FrameView) (r : Stub) (step : DownStep) → MayKeepDown t → MayKeepDown u → StartsDown t u f now (Ok (r, step))
    → Q (of_down step) → Of f r)
    → (fs : List FrameView) (rs : List Stub) (es : List Errand) (u : Option KeptDown) (rest : List Errand) → has ≡ had ++ (es ++ rest)
    → StepsDown now s fs rs es u → MayKeepDown u × EachOf Of fs rs
each_down now s Q Of has had all kept one fs rs es u rest is batches.StepsDown.none = (kept, tt)
each_down now s Q Of has had all kept one fs rs es u rest is (batches.StepsDown.next {fs = gs} {rs = qs} {es = ds} {t} f r step starts q) =
    let (here, more) = next_value Q has had ds rest (of_down step) all is in
    let (kt, before) = each_down now s Q Of has had all kept one gs qs ds t (of_down step ∷ rest) more q in
    let ku = starts_down t u f now r step starts kt in
    (ku, each_more Of gs qs f r before (one t u f r step kt ku starts here))

-- no frame ends a history
uncut_up : (kind : RecordKind) → up_steps.is_silent kind ≡ true → is_cut kind ≡ false
uncut_up = grind arith

uncut_settled : (b : Bool) (type : ℤ) → is_cut (if b then kinds.SettledNack else kinds.Settled type) ≡ false
uncut_settled true type = refl
uncut_settled false type = refl

tells_up : (step : UpStep) (kind : RecordKind) → up_steps.Tells step kind → is_cut kind ≡ false
tells_up up.Nothing kind tells = uncut_up kind tells
tells_up (up.Settled x) kind tells = ap is_cut tells ∙ uncut_settled (is_nack x.reply.frame) x.reply.frame.kind
tells_up up.Dropped kind tells = ap is_cut tells
tells_up (up.Closing cause) kind tells = ap is_cut tells

-- it tells what the step gave
receipt_up : (t u : Option Kept) (f : FrameView) (now : ℕ) (r : Stub) (step : UpStep) → MayKeep t → Starts t u f now (Ok (r, step))
    → up_steps.Tells step r.kept.kind
receipt_up None u f now r step kept starts = absurd starts
receipt_up (Some s) None f now r step kept starts = absurd starts.0
receipt_up (Some s) (Some v) f now r step kept (made, epoch, place, found) =
    let (q, (e, y, is, tells, came, (told, same)), reached, b, behind) = made.2 kept.1.0 kept.1.1 kept.1.2 in
    let more =
    one_more s.state.records v.state.records kept.1.0.steps (FrameCall f.frame now) e y kept.1.2.records
    (b.records ∙ ap (λ (p : up_past.Past). reverse (written (records p.steps))) same) is (tells_up step y.kind tells) in
    last_is {E = ℕ} s.state.records v.state.records (λ x. up_steps.Tells step x.kind) (Ok step) (y, more, tells) r.kept
    (ap (λ k. slice_get v.state.records k) (sym place) ∙ found)

-- a reply is the frame as it came
same_reply : (t u : Option Kept) (f : FrameView) (now : ℕ) (r : Stub) (x : Settled) → MayKeep t → Starts t u f now (Ok (r, up.Settled x))
    → x.reply ≡ f
same_reply None u f now r x kept starts = absurd starts
same_reply (Some s) None f now r x kept starts = absurd starts.0
same_reply (Some s) (Some v) f now r x kept starts =
    (let made = starts.0.2 kept.1.0 kept.1.1 kept.1.2 in made.1.4)

-- a ticket that a frame gives has that frame, and the record ends no history
abbrev OfFrame : MuxFrame → List Held → Type 0
OfFrame f (TicketOf n g left ∷ gives) = g ≡ f
OfFrame f _ = Unit {0}

abbrev EndsNone : Option Record → Type 0
EndsNone None = Unit {0}
EndsNone (Some r) = is_cut r.kind ≡ false

IsOfFrame : MuxFrame → Exchange → List Held → Type 0
IsOfFrame f e gives = OfFrame f gives × EndsNone e.rec

told_recall : (f : MuxFrame) (n : Name) (why : List ℕ) (place : Option (ℕ × ℕ)) → OfFrame f (recall_to n why place)
told_recall f n why None = tt
told_recall f n why (Some p) = tt

told_discard : (past : List Step) (f : MuxFrame) (now t : ℕ) (why : List ℕ) (name : Option Name)
    → Told (IsOfFrame f) (discarded past now f t why name)
unfolding IsOfFrame
told_discard past f now t why None = is_told (IsOfFrame f) _ _ (tt, refl)
told_discard past f now t why (Some n) = is_told (IsOfFrame f) _ _ (told_recall f n why (noted_place n past), refl)

told_frame : (c : DownSession) (past : List Step) (f : MuxFrame) (now : ℕ) (r : Reaction) → Told (IsOfFrame f) (reacted c past f now r)
unfolding IsOfFrame
told_frame c past f now downs.Shut = refused_told (IsOfFrame f) _
told_frame c past f now downs.Full = refused_told (IsOfFrame f) _
told_frame c past f now downs.Short = refused_told (IsOfFrame f) _
told_frame c past f now (downs.Closes cause) = is_told (IsOfFrame f) _ _ (tt, refl)
told_frame c past f now downs.NacksDrained = is_told (IsOfFrame f) _ _ (tt, refl)
told_frame c past f now downs.Takes = is_told (IsOfFrame f) _ _ (refl, refl)
told_frame c past f now (downs.Discards t why) = told_discard past f now t why _
told_frame c past f now downs.Pongs = is_told (IsOfFrame f) _ _ (tt, refl)
told_frame c past f now downs.Inits = is_told (IsOfFrame f) _ _ (tt, refl)
told_frame c past f now downs.Misplaced = is_told (IsOfFrame f) _ _ (tt, refl)
told_frame c past f now downs.Unsupports = is_told (IsOfFrame f) _ _ (tt, refl)
told_frame c past f now downs.Echoes = is_told (IsOfFrame f) _ _ (tt, refl)
told_frame c past f now downs.Acks = is_told (IsOfFrame f) _ _ (tt, refl)
told_frame c past f now downs.Ignores = is_told (IsOfFrame f) _ _ (tt, refl)

frame_told : (p : down_past.Past) (f : FrameView) (now : ℕ) (e : Exchange) (gives : List Held)
    → down p.session p.steps (length p.out) (FrameCall f.frame now) ≡ Recorded e gives → IsOfFrame f.frame e gives
frame_told p f now e gives told =
    (told_frame p.session p.steps f.frame now (reaction p.session p.steps (length p.out) f.frame)).told e gives told

frame_taken : (p q : down_past.Past) (f : FrameView) (now : ℕ) (ticket : TicketView)
    → down_steps.FrameStep p f now (Ok (answers.Take ticket)) q → ticket.frame ≡ f.frame
unfolding IsOfFrame
frame_taken p q f now ticket (e, r, is, tells, (told, same)) = (frame_told p f now e _ told).0

frame_uncut : (p : down_past.Past) (f : FrameView) (now : ℕ) (e : Exchange) (gives : List Held) (r : Record)
    → down p.session p.steps (length p.out) (FrameCall f.frame now) ≡ Recorded e gives → e.rec ≡ Some r → is_cut r.kind ≡ false
unfolding IsOfFrame
frame_uncut p f now e gives r told is = subst (λ o. EndsNone o) is (frame_told p f now e gives told).1

same_dispatch : (t u : Option KeptDown) (f : FrameView) (now : ℕ) (r : Stub) (ticket : TicketView) → MayKeepDown t
    → StartsDown t u f now (Ok (r, answers.Take ticket)) → ticket.frame ≡ f.frame
same_dispatch None u f now r ticket kept starts = absurd starts
same_dispatch (Some s) None f now r ticket kept starts = absurd starts.0
same_dispatch (Some s) (Some v) f now r ticket kept starts =
    (let made = starts.0.1 kept.1.0 kept.1.1 kept.1.2 in frame_taken kept.1.0 made.0 f now ticket made.1)

receipt_down : (t u : Option KeptDown) (f : FrameView) (now : ℕ) (r : Stub) (step : DownStep) → MayKeepDown t
    → StartsDown t u f now (Ok (r, step)) → down_steps.Tells step r.kept.kind
receipt_down None u f now r step kept starts = absurd starts
receipt_down (Some s) None f now r step kept starts = absurd starts.0
receipt_down (Some s) (Some v) f now r step kept (made, epoch, place, found) =
    let (q, (e, y, is, tells, (told, same)), reached, b, behind) = made.1 kept.1.0 kept.1.1 kept.1.2 in
    let more =
    one_more s.state.records v.state.records kept.1.0.steps (FrameCall f.frame now) e y kept.1.2.records
    (b.records ∙ ap (λ (p : down_past.Past). reverse (written (records p.steps))) same) is (frame_uncut kept.1.0 f now e _ y told is) in
    last_is {E = ℕ} s.state.records v.state.records (λ x. down_steps.Tells step x.kind) (Ok step) (y, more, tells) r.kept
    (ap (λ k. slice_get v.state.records k) (sym place) ∙ found)

-- THE LAWS

-- what becomes of a value that is a dispatch, and of one that is a reply
abbrev Dispatched : (now downs ups : ℕ) → (but : Option ℕ) → (known learned : List Change) → Errand → Type 0
Dispatched now downs ups but known learned e =
    (ticket : TicketView) → e ≡ unsent ticket → HasClient downs ticket.name.client → GoesOn now ups but known learned ticket

abbrev Replied : (now downs ups : ℕ) → (but : Option ℕ) → (known learned : List Change) → Errand → Type 0
Replied now downs ups but known learned e =
    (x : Settled) → e ≡ record { to = x.name.client; value = value.Reply x } → HasClient downs x.name.client
    → GoesHome now ups but known learned x

all_dispatched : (now downs ups : ℕ) (but : Option ℕ) (known learned : List Change) (has : List Errand) (Ends : Type 0) → 0 < ups
    → HandsOn now downs ups but known learned has Ends → (i : ℕ)
    → Dispatched now downs ups (place_if ups but) known learned (errand_at has i)
all_dispatched now downs ups but known learned has Ends some (left, carries, clients, servers, refused, ends) i ticket is there =
    let P = OnItsWay now ups (place_if ups but) known learned ticket in
    went_on now downs ups (place_if ups but) known learned ticket left i (clients i) (servers i) (refused i) some there
    (carried now ups (place_if ups but) known learned P (dispatch_follows now ups (place_if ups but) known learned ticket) i has learned left carries
    (prefix_self learned) (subst P (sym is) (inr refl)))

all_replied : (now downs ups : ℕ) (but : Option ℕ) (known learned : List Change) (has : List Errand) (Ends : Type 0) → 0 < ups
    → HandsOn now downs ups but known learned has Ends → (i : ℕ)
    → Replied now downs ups (place_if ups but) known learned (errand_at has i)
all_replied now downs ups but known learned has Ends some (left, carries, clients, servers, refused, ends) i x is there =
    let P = Homeward now ups (place_if ups but) known learned x in
    came_home now downs ups (place_if ups but) known learned x left i (clients i) (servers i) (refused i) some there
    (carried now ups (place_if ups but) known learned P (reply_follows now ups (place_if ups but) known learned x) i has learned left carries
    (prefix_self learned) (inr is))

on_reply : (now downs ups : ℕ) (but : Option ℕ) (known learned : List Change) (t u : Option Kept) (f : FrameView) (r : Stub) (step : UpStep)
    → MayKeep t → Starts t u f now (Ok (r, step)) → Replied now downs ups but known learned (of_up step)
    → OnReply step (λ x. (x.reply ≡ f) × (HasClient downs x.name.client → GoesHome now ups but known learned x))
on_reply now downs ups but known learned t u f r up.Nothing kept starts replied = tt
on_reply now downs ups but known learned t u f r up.Dropped kept starts replied = tt
on_reply now downs ups but known learned t u f r (up.Settled x) kept starts replied = (same_reply t u f now r x kept starts, replied x refl)
on_reply now downs ups but known learned t u f r (up.Closing cause) kept starts replied = tt

on_dispatch : (now downs ups : ℕ) (but : Option ℕ) (known learned : List Change) (t u : Option KeptDown) (f : FrameView) (r : Stub) (step : DownStep)
    → MayKeepDown t → StartsDown t u f now (Ok (r, step)) → Dispatched now downs ups but known learned (of_down step)
    → OnDispatch step
    (λ ticket. (ticket.frame ≡ f.frame) × (HasClient downs ticket.name.client → GoesOn now ups but known learned ticket))
on_dispatch now downs ups but known learned t u f r answers.Nothing kept starts sent = tt
on_dispatch now downs ups but known learned t u f r (answers.Take ticket) kept starts sent =
    (same_dispatch t u f now r ticket kept starts, sent ticket refl)
on_dispatch now downs ups but known learned t u f r (answers.Recall recall) kept starts sent = tt
on_dispatch now downs ups but known learned t u f r (answers.Closing cause) kept starts sent = tt

pub every_reply_goes_home : EveryReplyGoesHome
every_reply_goes_home now downs ups window server before after old new had known learned some
    (has, (s, t, fs, rs, es, ks, kt, took, kept, gave, are, steps), hands) =
    let but = place_if ups (Some server) in (
      fs,
      rs,
      took,
      kept,
      (each_up now s (Replied now downs ups but known learned) (ReplyGoesHome now downs ups but known learned) has had
          (all_replied now downs ups (Some server) known learned has _ some hands) ks.0
          (λ v u f r step kv ku starts replied.
          (v, u, step, kv, ku, starts, receipt_up v u f now r step kv starts, on_reply now downs ups but known learned v u f r step kv starts replied))
          fs rs es t [] (gave ∙ ap (λ xs. had ++ xs) (sym (append-nil es))) steps).1,
    )

pub every_dispatch_goes_on : EveryDispatchGoesOn
every_dispatch_goes_on now downs ups window client before after old new had known learned some
    (has, (s, t, fs, rs, es, ks, kt, took, kept, gave, are, steps), hands) = (
      fs,
      rs,
      took,
      kept,
      (each_down now s (Dispatched now downs ups None known learned) (DispatchGoesOn now downs ups None known learned) has had
          (all_dispatched now downs ups None known learned has _ some hands) ks.0
          (λ v u f r step kv ku starts sent.
          (v, u, step, kv, ku, starts, receipt_down v u f now r step kv starts, on_dispatch now downs ups None known learned v u f r step kv starts sent))
          fs rs es t [] (gave ∙ ap (λ xs. had ++ xs) (sym (append-nil es))) steps).1,
    )
