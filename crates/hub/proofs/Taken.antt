-- What the steps of a batch under one lock are at its seat.
use Rattle.std.proofs.Common.{◌≡◌, ◌-◌, ◌<◌, ◌≤◌, ◌∷◌, ◌++◌, [], ℕ, Option, Some, None, List, length, true, refl, sym, ◌∙◌, ap, arith, subst, subst₂}
use Rattle.std.proofs.lemmas.List.{append-nil, length-append}
use Rattle.std.specs.Prelude.{◌+◌, Result, Ok, Err, OnOk, OnErr, IfErr}
use Rattle.mux_frame.specs.Spelling.{MuxFrame}
use Rattle.mux_frame.specs.Views.{FrameView}
use Rattle.mux_history.specs.declared.record.Record.{Record}
use Rattle.hub_base.specs.Batching.{Batched, empty, handed_back}
use Rattle.hub_base.specs.declared.fault.HubFault.{HubFault}
use Rattle.hub_close.specs.Receiving.{Receiving}
use Rattle.route_table.specs.Routes.{Change}
use Rattle.hub_close.specs.declared.receipt.Stub.{Stub}
use Rattle.hub_base.specs.Errands.{client_of, errand_at, is_closing, server_of}
use Rattle.hub_base.specs.declared.errands.Errand.{Errand}
use Rattle.hub_delivery.specs.Carrying.{Carries, place_if}
use Rattle.hub_delivery.specs.Carrying as carrying
use Rattle.hub_delivery.specs.Leaving.{HasClient, HasServer, NoneAt, NoneRefused}
use Rattle.hub_delivery.specs.Losing.{FailsAll, RecallsAll}
use Rattle.hub_steps.specs.Batches.{AreOf, StepsDown, StepsUp, TakesAllDown, TakesAllUp}
use Rattle.hub_steps.specs.Batches as batches
use Rattle.kept_session.specs.ReachedDown.{KeptDown}
use Rattle.hub_places.specs.Numbering.{KeepsDown, KeepsUp}
use Rattle.kept_session.specs.Reached.{Kept}
use Rattle.kept_session.specs.Recorded.{IsRecordOf}
use Rattle.kept_session.specs.RecordedDown.{IsRecordOfDown}
use Rattle.hub.specs.Seats.{Seat}
use Rattle.hub.specs.Batches.{HandsOn, RunsDown, RunsUp, StepsTakenDown, StepsTakenUp, TakesCounted}

steps_down : (now client : ℕ) (old new : Batched) (had has : Receiving)
    → (s : Option KeptDown) × (t : Option KeptDown) × KeepsDown client s × KeepsDown client t × TakesAllDown now s t old new had has
    → StepsTakenDown now client old.frames new.frames had.list has.list old.errands new.errands
steps_down now client old new had has (s, t, ks, kt, all) =
    (s, t, all.0, all.1, all.2, ks, kt, all.3, ap (λ (x : Receiving). x.list) all.4, all.5, all.6, all.7)

steps_up : (now server : ℕ) (old new : Batched) (had has : Receiving)
    → (s : Option Kept) × (t : Option Kept) × KeepsUp server s × KeepsUp server t × TakesAllUp now s t old new had has
    → StepsTakenUp now server old.frames new.frames had.list has.list old.errands new.errands
steps_up now server old new had has (s, t, ks, kt, all) =
    (s, t, all.0, all.1, all.2, ks, kt, all.3, ap (λ (x : Receiving). x.list) all.4, all.5, all.6, all.7)

pub taken_down : {A E : Type 0} (now client : ℕ) (old new : Batched) (had has : Receiving) (r : Result A E)
    → OnOk r ((s : Option KeptDown) × (t : Option KeptDown) × KeepsDown client s × KeepsDown client t × TakesAllDown now s t old new had has)
    → OnOk r (StepsTakenDown now client old.frames new.frames had.list has.list old.errands new.errands)
taken_down now client old new had has (Ok a) p = steps_down now client old new had has p
taken_down now client old new had has (Err e) p = tt

pub taken_up : {A E : Type 0} (now server : ℕ) (old new : Batched) (had has : Receiving) (r : Result A E)
    → OnOk r ((s : Option Kept) × (t : Option Kept) × KeepsUp server s × KeepsUp server t × TakesAllUp now s t old new had has)
    → OnOk r (StepsTakenUp now server old.frames new.frames had.list has.list old.errands new.errands)
taken_up now server old new had has (Ok a) p = steps_up now server old new had has p
taken_up now server old new had has (Err e) p = tt

pub stopped_down : {A : Type 0} (now client : ℕ) (old new : Batched) (had has : Receiving) (r : Result A HubFault)
    → IfErr r (λ e. (f : FrameView) × (handed_back e ≡ Some f) × (s : Option KeptDown) × (t : Option KeptDown) × KeepsDown client s × KeepsDown client t
    × TakesAllDown now s t old (record new { frames = f ∷ new.frames }) had has)
    → IfErr r (λ e. (f : FrameView) × (handed_back e ≡ Some f) × StepsTakenDown now client old.frames (f ∷ new.frames) had.list has.list old.errands new.errands)
stopped_down now client old new had has (Ok a) p = tt
stopped_down now client old new had has (Err e) (f, is, s, t, ks, kt, all) =
    (f, is, steps_down now client old (record new { frames = f ∷ new.frames }) had has (s, t, ks, kt, all))

pub stopped_up : {A : Type 0} (now server : ℕ) (old new : Batched) (had has : Receiving) (r : Result A HubFault)
    → IfErr r (λ e. (f : FrameView) × (handed_back e ≡ Some f) × (s : Option Kept) × (t : Option Kept) × KeepsUp server s × KeepsUp server t
    × TakesAllUp now s t old (record new { frames = f ∷ new.frames }) had has)
    → IfErr r (λ e. (f : FrameView) × (handed_back e ≡ Some f) × StepsTakenUp now server old.frames (f ∷ new.frames) had.list has.list old.errands new.errands)
stopped_up now server old new had has (Ok a) p = tt
stopped_up now server old new had has (Err e) (f, is, s, t, ks, kt, all) =
    (f, is, steps_up now server old (record new { frames = f ∷ new.frames }) had has (s, t, ks, kt, all))

-- and what they lead to, once the values that they gave were handed on
pub runs_down : {A E : Type 0} (now downs ups window client : ℕ) (before after : List FrameView) (old new : List Stub) (had has : List Errand)
    (known learned : List Change) (r : Result A E) → OnOk r (StepsTakenDown now client before after old new had has)
    → HandsOn now downs ups None known learned has (RecallsAll now downs ups window client)
    → OnOk r (RunsDown now downs ups window client before after old new had known learned)
runs_down now downs ups window client before after old new had has known learned (Ok a) p q = (has, p, q)
runs_down now downs ups window client before after old new had has known learned (Err e) p q = tt

pub runs_up : {A E : Type 0} (now downs ups window server : ℕ) (before after : List FrameView) (old new : List Stub) (had has : List Errand)
    (known learned : List Change) (r : Result A E) → OnOk r (StepsTakenUp now server before after old new had has)
    → HandsOn now downs ups (Some server) known learned has (FailsAll downs ups window server)
    → OnOk r (RunsUp now downs ups window server before after old new had known learned)
runs_up now downs ups window server before after old new had has known learned (Ok a) p q = (has, p, q)
runs_up now downs ups window server before after old new had has known learned (Err e) p q = tt

pub runs_stopped_down : {A : Type 0} (now downs ups window client : ℕ) (before after : List FrameView) (old new : List Stub) (had has : List Errand)
    (known learned : List Change) (r : Result A HubFault)
    → IfErr r (λ e. (f : FrameView) × (handed_back e ≡ Some f) × StepsTakenDown now client before (f ∷ after) old new had has)
    → HandsOn now downs ups None known learned has (RecallsAll now downs ups window client)
    → IfErr r (λ e. (f : FrameView) × (handed_back e ≡ Some f)
    × RunsDown now downs ups window client before (f ∷ after) old new had known learned)
runs_stopped_down now downs ups window client before after old new had has known learned (Ok a) p q = tt
runs_stopped_down now downs ups window client before after old new had has known learned (Err e) (f, is, p) q = (f, is, (has, p, q))

pub runs_stopped_up : {A : Type 0} (now downs ups window server : ℕ) (before after : List FrameView) (old new : List Stub)
    (had has : List Errand) (known learned : List Change) (r : Result A HubFault)
    → IfErr r (λ e. (f : FrameView) × (handed_back e ≡ Some f) × StepsTakenUp now server before (f ∷ after) old new had has)
    → HandsOn now downs ups (Some server) known learned has (FailsAll downs ups window server)
    → IfErr r (λ e. (f : FrameView) × (handed_back e ≡ Some f)
    × RunsUp now downs ups window server before (f ∷ after) old new had known learned)
runs_stopped_up now downs ups window server before after old new had has known learned (Ok a) p q = tt
runs_stopped_up now downs ups window server before after old new had has known learned (Err e) (f, is, p) q = (f, is, (has, p, q))

-- of a hub with so many slots
pub handed_on : (now downs ups d u : ℕ) (but b : Option ℕ) (known os learned later : List Change) (has xs left : List Errand) (Ends : Type 0)
    → d ≡ downs → u ≡ ups → b ≡ but → os ≡ known → later ≡ learned → xs ≡ has → Carries now u (place_if u b) os xs later left
    → ((i : ℕ) → NoneAt client_of (HasClient d) left i) → ((i : ℕ) → NoneAt server_of (HasServer u) left i)
    → ((i : ℕ) → NoneRefused left i) → (is_closing (errand_at left (length left - 1)).value ≡ true → Ends)
    → HandsOn now downs ups but known learned has Ends
handed_on now downs ups d u but b known os learned later has xs left Ends p q of r s t carried clients servers refused ends =
    subst₂ (λ x y. HandsOn now x y but known learned has Ends) p q
    (subst₂ (λ x y. HandsOn now d u but x y has Ends) r s
    (subst₂ (λ x y. HandsOn now d u x os later y Ends) of t (left, carried, clients, servers, refused, ends)))

-- the same of equal lists
pub moved : {X Y : Type 0} (P : X → X → Y → Y → Type 0) (a x b y : X) (c u d v : Y) → a ≡ x → b ≡ y → c ≡ u → d ≡ v → P a b c d → P x y u v
moved P a x b y c u d v p q r s w =
    subst (λ i. P i y u v) p (subst (λ i. P a i u v) q (subst (λ i. P a b i v) r (subst (λ i. P a b c i) s w)))

-- NO VALUE IN HAND: no step was made

pub append_none : {A : Type 0} (xs ys : List A) → xs ++ ys ≡ [] → (xs ≡ []) × (ys ≡ [])
append_none [] ys is = (refl, is)
append_none (x ∷ xs) ys is = absurd (cc)

none_stepped_down : (now : ℕ) (s : Option KeptDown) (fs : List FrameView) (rs : List Stub) (es : List Errand) (t : Option KeptDown)
    → StepsDown now s fs rs es t → es ≡ [] → (fs ≡ []) × (rs ≡ [])
none_stepped_down now s fs rs es t batches.StepsDown.none is = (refl, refl)
none_stepped_down now s fs rs es t (batches.StepsDown.next {fs = gs} {rs = qs} {es = ds} f r step start before) is =
    absurd (let no = (append_none ds _ is).1 in cc)

none_stepped_up : (now : ℕ) (s : Option Kept) (fs : List FrameView) (rs : List Stub) (es : List Errand) (t : Option Kept)
    → StepsUp now s fs rs es t → es ≡ [] → (fs ≡ []) × (rs ≡ [])
none_stepped_up now s fs rs es t batches.StepsUp.none is = (refl, refl)
none_stepped_up now s fs rs es t (batches.StepsUp.next {fs = gs} {rs = qs} {es = ds} f r step start before) is =
    absurd (let no = (append_none ds _ is).1 in cc)

none_taken_down : (now client : ℕ) (before after : List FrameView) (old new : List Stub) (had has : List Errand)
    → StepsTakenDown now client before after old new had has → has ≡ [] → (before ≡ after) × (new ≡ old) × (had ≡ [])
none_taken_down now client before after old new had has (s, t, fs, rs, es, ks, kt, begins, more, gave, are, steps) none =
    let both = append_none had es (sym gave ∙ none) in
    let nothing = none_stepped_down now s fs rs es t steps both.1 in
    (begins ∙ ap (λ xs. xs ++ after) nothing.0, more ∙ ap (λ xs. old ++ xs) nothing.1 ∙ append-nil old, both.0)

none_taken_up : (now server : ℕ) (before after : List FrameView) (old new : List Stub) (had has : List Errand)
    → StepsTakenUp now server before after old new had has → has ≡ [] → (before ≡ after) × (new ≡ old) × (had ≡ [])
none_taken_up now server before after old new had has (s, t, fs, rs, es, ks, kt, begins, more, gave, are, steps) none =
    let both = append_none had es (sym gave ∙ none) in
    let nothing = none_stepped_up now s fs rs es t steps both.1 in
    (begins ∙ ap (λ xs. xs ++ after) nothing.0, more ∙ ap (λ xs. old ++ xs) nothing.1 ∙ append-nil old, both.0)

-- and nothing is handed on
pub hands_none : (now downs ups : ℕ) (but : Option ℕ) (known learned : List Change) (has : List Errand) (Ends : Type 0)
    → has ≡ [] → learned ≡ known → HandsOn now downs ups but known learned has Ends
hands_none now downs ups but known learned has Ends none same =
    subst₂ (λ xs os. HandsOn now downs ups but known os xs Ends) (sym none) (sym same)
    ([], carrying.Carries.none, (λ i n found. absurd (cc)), (λ i n found. absurd (cc)), (λ i n found. absurd (cc)), (λ last. absurd (cc)))

-- the seat is as it was
pub none_counted_down : (now client : ℕ) (before after : List FrameView) (a b : Seat) (had has : List Errand)
    → StepsTakenDown now client before after a.receipts b.receipts had has → has ≡ [] → b.amount ≡ a.amount
    → TakesCounted IsRecordOfDown before after a b
none_counted_down now client before after a b had has steps none same =
    let nothing = none_taken_down now client before after a.receipts b.receipts had has steps none in
    ([], [], nothing.0, nothing.1 ∙ sym (append-nil a.receipts), tt, omega (arith, same))

pub none_counted_up : (now server : ℕ) (before after : List FrameView) (a b : Seat) (had has : List Errand)
    → StepsTakenUp now server before after a.receipts b.receipts had has → has ≡ [] → b.amount ≡ a.amount
    → TakesCounted IsRecordOf before after a b
none_counted_up now server before after a b had has steps none same =
    let nothing = none_taken_up now server before after a.receipts b.receipts had has steps none in
    ([], [], nothing.0, nothing.1 ∙ sym (append-nil a.receipts), tt, omega (arith, same))

-- THE SEAT OF A CALL, by its result

-- nothing stands before the frame of a batch of one
front_of_one : (fs : List FrameView) (g : FrameView) (after : List FrameView) (f : FrameView) → fs ++ g ∷ after ≡ f ∷ [] → fs ≡ []
front_of_one [] g after f is = refl
front_of_one (x ∷ xs) g after f is = absurd (let no = (append_none xs (g ∷ after) (cc)).1 in cc)

pub none_runs_down : {A E : Type 0} (now downs ups window client : ℕ) (before after : List FrameView) (old new : List Stub)
    (had has : List Errand) (known learned : List Change) (r : Result A E) → OnOk r (StepsTakenDown now client before after old new had has)
    → has ≡ [] → learned ≡ known → OnOk r (RunsDown now downs ups window client before after old new had known learned)
none_runs_down now downs ups window client before after old new had has known learned r steps none same =
    runs_down now downs ups window client before after old new had has known learned r steps
    (hands_none now downs ups None known learned has (RecallsAll now downs ups window client) none same)

pub none_stops_down : {A : Type 0} (now downs ups window client : ℕ) (before after : List FrameView) (old new : List Stub)
    (had has : List Errand) (known learned : List Change) (r : Result A HubFault)
    → IfErr r (λ e. (f : FrameView) × (handed_back e ≡ Some f) × StepsTakenDown now client before (f ∷ after) old new had has)
    → has ≡ [] → learned ≡ known
    → IfErr r (λ e. (f : FrameView) × (handed_back e ≡ Some f)
    × RunsDown now downs ups window client before (f ∷ after) old new had known learned)
none_stops_down now downs ups window client before after old new had has known learned r steps none same =
    runs_stopped_down now downs ups window client before after old new had has known learned r steps
    (hands_none now downs ups None known learned has (RecallsAll now downs ups window client) none same)

pub none_counts_down : {A E : Type 0} (now client : ℕ) (before after : List FrameView) (a b : Seat) (had has : List Errand) (r : Result A E)
    → OnOk r (StepsTakenDown now client before after a.receipts b.receipts had has) → has ≡ [] → b.amount ≡ a.amount
    → OnOk r (TakesCounted IsRecordOfDown before after a b)
none_counts_down now client before after a b had has (Ok done) steps none same = none_counted_down now client before after a b had has steps none same
none_counts_down now client before after a b had has (Err e) steps none same = tt

pub none_counts_stopped_down : {A : Type 0} (now client : ℕ) (before after : List FrameView) (a b : Seat) (had has : List Errand)
    (r : Result A HubFault)
    → IfErr r (λ e. (f : FrameView) × (handed_back e ≡ Some f) × StepsTakenDown now client before (f ∷ after) a.receipts b.receipts had has)
    → has ≡ [] → b.amount ≡ a.amount
    → IfErr r (λ e. (f : FrameView) × (handed_back e ≡ Some f) × TakesCounted IsRecordOfDown before (f ∷ after) a b)
none_counts_stopped_down now client before after a b had has (Ok done) steps none same = tt
none_counts_stopped_down now client before after a b had has (Err e) (f, is, steps) none same =
    (f, is, none_counted_down now client before (f ∷ after) a b had has steps none same)

counted_down : (now client : ℕ) (before after : List FrameView) (a b : Seat) (had has : List Errand)
    → StepsTakenDown now client before after a.receipts b.receipts had has → a.amount + (length b.receipts - length a.receipts) ≤ b.amount
    → TakesCounted IsRecordOfDown before after a b
counted_down now client before after a b had has (s, t, fs, rs, es, ks, kt, begins, more, gave, are, steps) amount =
    let long = ap (λ xs. length xs) more ∙ length-append a.receipts rs in (fs, rs, begins, more, are, omega (arith, amount, long))

pub counts_down : {A E : Type 0} (now client : ℕ) (before after : List FrameView) (a b : Seat) (had has : List Errand) (r : Result A E)
    → OnOk r (StepsTakenDown now client before after a.receipts b.receipts had has)
    → a.amount + (length b.receipts - length a.receipts) ≤ b.amount → OnOk r (TakesCounted IsRecordOfDown before after a b)
counts_down now client before after a b had has (Ok done) steps amount = counted_down now client before after a b had has steps amount
counts_down now client before after a b had has (Err e) steps amount = tt

pub counts_stopped_down : {A : Type 0} (now client : ℕ) (before after : List FrameView) (a b : Seat) (had has : List Errand)
    (r : Result A HubFault)
    → IfErr r (λ e. (f : FrameView) × (handed_back e ≡ Some f) × StepsTakenDown now client before (f ∷ after) a.receipts b.receipts had has)
    → a.amount + (length b.receipts - length a.receipts) ≤ b.amount
    → IfErr r (λ e. (f : FrameView) × (handed_back e ≡ Some f) × TakesCounted IsRecordOfDown before (f ∷ after) a b)
counts_stopped_down now client before after a b had has (Ok done) steps amount = tt
counts_stopped_down now client before after a b had has (Err e) (f, is, steps) amount =
    (f, is, counted_down now client before (f ∷ after) a b had has steps amount)

-- a call with one frame that is refused leaves the seat as it was
pub still_none_down : {A : Type 0} (now client : ℕ) (before after : List FrameView) (a b : Seat) (has : List Errand) (r : Result A HubFault)
    → IfErr r (λ e. (f : FrameView) × (handed_back e ≡ Some f) × StepsTakenDown now client before (f ∷ after) a.receipts b.receipts [] has)
    → has ≡ [] → b ≡ record a { receipts = b.receipts }
    → OnErr r ((f : FrameView) → before ≡ f ∷ [] → b ≡ a)
still_none_down now client before after a b has (Ok done) steps none same = tt
still_none_down now client before after a b has (Err e) (g, is, steps) none same =
    λ f one. same ∙ ap (λ (rs : List Stub). record a { receipts = rs })
    (none_taken_down now client before (g ∷ after) a.receipts b.receipts [] has steps none).1

gave_none_down : (now : ℕ) (s : Option KeptDown) (fs : List FrameView) (rs : List Stub) (es : List Errand) (t : Option KeptDown)
    → StepsDown now s fs rs es t → fs ≡ [] → es ≡ []
gave_none_down now s fs rs es t batches.StepsDown.none is = refl
gave_none_down now s fs rs es t (batches.StepsDown.next {fs = gs} {rs = qs} {es = ds} f r step start before) is =
    absurd (let no = (append_none gs _ is).1 in cc)

pub still_some_down : {A : Type 0} (now client : ℕ) (before after : List FrameView) (a b : Seat) (has : List Errand) (r : Result A HubFault)
    → IfErr r (λ e. (f : FrameView) × (handed_back e ≡ Some f) × StepsTakenDown now client before (f ∷ after) a.receipts b.receipts [] has)
    → (has ≡ [] → ⊥) → OnErr r ((f : FrameView) → before ≡ f ∷ [] → b ≡ a)
still_some_down now client before after a b has (Ok done) steps some = tt
still_some_down now client before after a b has (Err e) (g, is, (s, t, fs, rs, es, ks, kt, begins, more, gave, are, steps)) some =
    λ f one. absurd (some (gave ∙ gave_none_down now s fs rs es t steps (front_of_one fs g after f (sym begins ∙ one))))

pub none_runs_up : {A E : Type 0} (now downs ups window server : ℕ) (before after : List FrameView) (old new : List Stub)
    (had has : List Errand) (known learned : List Change) (r : Result A E) → OnOk r (StepsTakenUp now server before after old new had has)
    → has ≡ [] → learned ≡ known → OnOk r (RunsUp now downs ups window server before after old new had known learned)
none_runs_up now downs ups window server before after old new had has known learned r steps none same =
    runs_up now downs ups window server before after old new had has known learned r steps
    (hands_none now downs ups (Some server) known learned has (FailsAll downs ups window server) none same)

pub none_stops_up : {A : Type 0} (now downs ups window server : ℕ) (before after : List FrameView) (old new : List Stub)
    (had has : List Errand) (known learned : List Change) (r : Result A HubFault)
    → IfErr r (λ e. (f : FrameView) × (handed_back e ≡ Some f) × StepsTakenUp now server before (f ∷ after) old new had has)
    → has ≡ [] → learned ≡ known
    → IfErr r (λ e. (f : FrameView) × (handed_back e ≡ Some f)
    × RunsUp now downs ups window server before (f ∷ after) old new had known learned)
none_stops_up now downs ups window server before after old new had has known learned r steps none same =
    runs_stopped_up now downs ups window server before after old new had has known learned r steps
    (hands_none now downs ups (Some server) known learned has (FailsAll downs ups window server) none same)

pub none_counts_up : {A E : Type 0} (now server : ℕ) (before after : List FrameView) (a b : Seat) (had has : List Errand) (r : Result A E)
    → OnOk r (StepsTakenUp now server before after a.receipts b.receipts had has) → has ≡ [] → b.amount ≡ a.amount
    → OnOk r (TakesCounted IsRecordOf before after a b)
none_counts_up now server before after a b had has (Ok done) steps none same = none_counted_up now server before after a b had has steps none same
none_counts_up now server before after a b had has (Err e) steps none same = tt

pub none_counts_stopped_up : {A : Type 0} (now server : ℕ) (before after : List FrameView) (a b : Seat) (had has : List Errand)
    (r : Result A HubFault)
    → IfErr r (λ e. (f : FrameView) × (handed_back e ≡ Some f) × StepsTakenUp now server before (f ∷ after) a.receipts b.receipts had has)
    → has ≡ [] → b.amount ≡ a.amount
    → IfErr r (λ e. (f : FrameView) × (handed_back e ≡ Some f) × TakesCounted IsRecordOf before (f ∷ after) a b)
none_counts_stopped_up now server before after a b had has (Ok done) steps none same = tt
none_counts_stopped_up now server before after a b had has (Err e) (f, is, steps) none same =
    (f, is, none_counted_up now server before (f ∷ after) a b had has steps none same)

counted_up : (now server : ℕ) (before after : List FrameView) (a b : Seat) (had has : List Errand)
    → StepsTakenUp now server before after a.receipts b.receipts had has → a.amount + (length b.receipts - length a.receipts) ≤ b.amount
    → TakesCounted IsRecordOf before after a b
counted_up now server before after a b had has (s, t, fs, rs, es, ks, kt, begins, more, gave, are, steps) amount =
    let long = ap (λ xs. length xs) more ∙ length-append a.receipts rs in (fs, rs, begins, more, are, omega (arith, amount, long))

pub counts_up : {A E : Type 0} (now server : ℕ) (before after : List FrameView) (a b : Seat) (had has : List Errand) (r : Result A E)
    → OnOk r (StepsTakenUp now server before after a.receipts b.receipts had has)
    → a.amount + (length b.receipts - length a.receipts) ≤ b.amount → OnOk r (TakesCounted IsRecordOf before after a b)
counts_up now server before after a b had has (Ok done) steps amount = counted_up now server before after a b had has steps amount
counts_up now server before after a b had has (Err e) steps amount = tt

pub counts_stopped_up : {A : Type 0} (now server : ℕ) (before after : List FrameView) (a b : Seat) (had has : List Errand)
    (r : Result A HubFault)
    → IfErr r (λ e. (f : FrameView) × (handed_back e ≡ Some f) × StepsTakenUp now server before (f ∷ after) a.receipts b.receipts had has)
    → a.amount + (length b.receipts - length a.receipts) ≤ b.amount
    → IfErr r (λ e. (f : FrameView) × (handed_back e ≡ Some f) × TakesCounted IsRecordOf before (f ∷ after) a b)
counts_stopped_up now server before after a b had has (Ok done) steps amount = tt
counts_stopped_up now server before after a b had has (Err e) (f, is, steps) amount =
    (f, is, counted_up now server before (f ∷ after) a b had has steps amount)

-- a call with one frame that is refused leaves the seat as it was
pub still_none_up : {A : Type 0} (now server : ℕ) (before after : List FrameView) (a b : Seat) (has : List Errand) (r : Result A HubFault)
    → IfErr r (λ e. (f : FrameView) × (handed_back e ≡ Some f) × StepsTakenUp now server before (f ∷ after) a.receipts b.receipts [] has)
    → has ≡ [] → b ≡ record a { receipts = b.receipts }
    → OnErr r ((f : FrameView) → before ≡ f ∷ [] → b ≡ a)
still_none_up now server before after a b has (Ok done) steps none same = tt
still_none_up now server before after a b has (Err e) (g, is, steps) none same =
    λ f one. same ∙ ap (λ (rs : List Stub). record a { receipts = rs })
    (none_taken_up now server before (g ∷ after) a.receipts b.receipts [] has steps none).1

gave_none_up : (now : ℕ) (s : Option Kept) (fs : List FrameView) (rs : List Stub) (es : List Errand) (t : Option Kept)
    → StepsUp now s fs rs es t → fs ≡ [] → es ≡ []
gave_none_up now s fs rs es t batches.StepsUp.none is = refl
gave_none_up now s fs rs es t (batches.StepsUp.next {fs = gs} {rs = qs} {es = ds} f r step start before) is =
    absurd (let no = (append_none gs _ is).1 in cc)

pub still_some_up : {A : Type 0} (now server : ℕ) (before after : List FrameView) (a b : Seat) (has : List Errand) (r : Result A HubFault)
    → IfErr r (λ e. (f : FrameView) × (handed_back e ≡ Some f) × StepsTakenUp now server before (f ∷ after) a.receipts b.receipts [] has)
    → (has ≡ [] → ⊥) → OnErr r ((f : FrameView) → before ≡ f ∷ [] → b ≡ a)
still_some_up now server before after a b has (Ok done) steps some = tt
still_some_up now server before after a b has (Err e) (g, is, (s, t, fs, rs, es, ks, kt, begins, more, gave, are, steps)) some =
    λ f one. absurd (some (gave ∙ gave_none_up now s fs rs es t steps (front_of_one fs g after f (sym begins ∙ one))))

-- A BATCH OF ONE

pub none_left : {A : Type 0} (xs : List A) (n : ℕ) → n ≡ length xs → n ≡ 0 → xs ≡ []
none_left [] n is zero = refl
none_left (x ∷ xs) n is zero = absurd (omega (arith, is, zero))

-- one frame was put in, and none is left
pub one_run : (P : List FrameView → List FrameView → Type 0) (before old new : Batched) (f : FrameView)
    → before ≡ empty 1 → old ≡ record before { frames = before.frames ++ f ∷ [] } → length new.frames ≡ 0
    → P old.frames new.frames → P (f ∷ []) []
one_run P before old new f nothing put all run =
    let there = ap (λ (b : Batched). b.frames) put ∙ ap (λ (b : Batched). b.frames ++ f ∷ []) nothing in
    subst (λ a. P a []) there (subst (λ b. P old.frames b) (none_left new.frames 0 (sym all) refl) run)

one_of : (Of : MuxFrame → Record → Type 0) (f : FrameView) (rs : List Stub) → AreOf Of (f ∷ []) rs
    → (r : Stub) × (rs ≡ r ∷ []) × Of f.frame r.kept
one_of Of f [] are = absurd are
one_of Of f (r ∷ []) are = (r, refl, are.0)
one_of Of f (r ∷ q ∷ qs) are = absurd are.1

-- its receipt
pub one_taken : (Of : MuxFrame → Record → Type 0) (f : FrameView) (a b : Seat) → TakesCounted Of (f ∷ []) [] a b
    → (r : Stub) × (b.receipts ≡ a.receipts ++ r ∷ []) × Of f.frame r.kept × (a.amount < b.amount)
one_taken Of f a b (fs, rs, begins, more, are, amount) =
    let (r, is, of) = one_of Of f rs (subst (λ xs. AreOf Of xs rs) (sym (begins ∙ append-nil fs)) are) in
    (r, more ∙ ap (λ xs. a.receipts ++ xs) is, of, omega (arith, amount, ap (λ xs. length xs) is))
