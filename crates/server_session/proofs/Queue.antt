-- The frames that are queued.
use Rattle.std.proofs.Common.{◌≡◌, ◌≢◌, ◌<◌, ◌≤◌, ℕ, zero, suc, ◌+◌, ◌-◌, Bool, true, false, cond, List, [], ◌∷◌, ◌++◌, length, drop, Option, None, Some, refl, sym, ◌∙◌, ap, subst, arith, length-append, append-nil, append_assoc}
use Rattle.std.specs.Prelude.{is_some, ◌==◌, ◌&&◌, ◌↔◌, IsSome, IfSome, get_or}
use Rattle.std.specs.Option.{option_to_list, option_copied}
use Rattle.std.specs.Borrow.{Bor}
use Rattle.std.proofs.lemmas.Bool.Decides.{nat_tests}
use Rattle.mux_frame.specs.Spelling.{MuxFrame}
use Rattle.mux_frame.specs.Views.{FrameView}
use Rattle.mux_model.specs.Entries.{Exchange, said_by}
use Rattle.mux_model.specs.Steps.{entries, sent_count, sent_at, queued}
use Rattle.server_session.specs.Past.{Past, sent_of, last_sent, last_queued}
use Rattle.server_session.specs.State.{State}
use Rattle.server_session.specs.Inside.{frames_of}
use Rattle.server_session.specs.Belonging.{Belongs}
use Rattle.server_session.specs.Steps.{TakeOutStep, TakeOutsStep}

eq_false : (a b : ℕ) → a ≢ b → (a == b) ≡ false
eq_false a b e = grind (arith, nat_tests)

count_one : (n : ℕ) (fs : List MuxFrame) (o : Option MuxFrame) → n ≡ length fs → cond (is_some o) (n + 1) n ≡ length (fs ++ option_to_list o)
count_one n fs None h = let l = length-append fs [] in omega (arith, h, l)
count_one n fs (Some f) h = let l = length-append fs (f ∷ []) in omega (arith, h, l)

pub sent_count_is : (es : List Exchange) → sent_count es ≡ length (sent_of es)
sent_count_is [] = refl
sent_count_is (e ∷ old) = count_one (sent_count old) (sent_of old) e.sent (sent_count_is old)

pub queued_same : (s : State) (p : Past) → Belongs s p → length s.queue ≡ queued (entries p.steps) (length p.out)
queued_same s p b =
    let long = ap length b.queue in
    let count = sent_count_is (entries p.steps) in
    omega (arith, long, count, length-append p.out s.queue)

-- WHAT IS TAKEN OUT NEXT

abbrev at : {A : Type 0} → ℕ → List A → Option A
at k [] = None
at zero (x ∷ xs) = Some x
at (suc k) (x ∷ xs) = at k xs

abbrev pub first : {A : Type 0} → List A → Option A
first [] = None
first (x ∷ xs) = Some x

next_test : (l k : ℕ) → (l == k) ≡ (suc l == suc k)
next_test l k = grind (arith, nat_tests)

at_end : (xs : List MuxFrame) (k : ℕ) (f : MuxFrame) → at k (xs ++ f ∷ []) ≡ cond (length xs == k) (Some f) (at k xs)
at_end [] zero f = refl
at_end [] (suc k) f = rw (eq_false 0 (suc k) (λ e. omega (arith, e))) refl
at_end (x ∷ xs) zero f = rw (eq_false (suc (length xs)) 0 (λ e. omega (arith, e))) refl
at_end (x ∷ xs) (suc k) f = at_end xs k f ∙ ap (λ (b : Bool). cond b (Some f) (at k xs)) (next_test (length xs) k)

at_past : (xs : List MuxFrame) (k : ℕ) → at k (xs ++ []) ≡ at k xs
at_past [] k = refl
at_past (x ∷ xs) zero = refl
at_past (x ∷ xs) (suc k) = at_past xs k

index_one : (k n : ℕ) (fs : List MuxFrame) (before o : Option MuxFrame) → n ≡ length fs → before ≡ at k fs
    → cond (is_some o && n == k) o before ≡ at k (fs ++ option_to_list o)
index_one k n fs before None count rest = rest ∙ sym (at_past fs k)
index_one k n fs before (Some f) count rest =
    ap (λ (m : ℕ). cond (m == k) (Some f) before) count
    ∙ ap (λ (o : Option MuxFrame). cond (length fs == k) (Some f) o) rest
    ∙ sym (at_end fs k f)

sent_at_index : (k : ℕ) (es : List Exchange) → sent_at k es ≡ at k (sent_of es)
sent_at_index k [] = refl
sent_at_index k (e ∷ old) = index_one k (sent_count old) (sent_of old) (sent_at k old) e.sent (sent_count_is old) (sent_at_index k old)

at_length : (xs ys : List MuxFrame) → at (length xs) (xs ++ ys) ≡ first ys
at_length [] [] = refl
at_length [] (y ∷ ys) = refl
at_length (x ∷ xs) ys = at_length xs ys

pub sent_at_is : (s : State) (p : Past) → Belongs s p → sent_at (length p.out) (entries p.steps) ≡ first s.queue
sent_at_is s p b =
    sent_at_index (length p.out) (entries p.steps) ∙ ap (λ (fs : List MuxFrame). at (length p.out) fs) (sym b.queue) ∙ at_length p.out s.queue

pub no_length : {A : Type 0} (xs : List A) → length xs ≡ 0 → xs ≡ []
no_length [] e = refl
no_length (x ∷ xs) e = absurd (omega (arith, e))

-- the same session with other frames queued and taken out
pub moved : (s : State) (p : Past) (queue out : List MuxFrame) → Belongs s p → out ++ queue ≡ sent_of (entries p.steps) → Belongs (record s { queue = queue }) (record p { out = out })
moved s p queue out b all = record {
  boot = b.boot;
  client = b.client;
  limits = b.limits;
  epoch = b.epoch;
  records = b.records;
  queue = all;
  dispatches = b.dispatches;
  reading = b.reading;
  init = b.init;
  drain = b.drain;
  closed = b.closed;
  names = b.names;
  rises = b.rises;
  once = b.once;
  entries = λ seq e is. let m = b.entries seq e is in record { words = m.words; unsaid = m.unsaid; clean = m.clean };
  absent = b.absent;
  later = b.later;
  held = b.held;
  shut = b.shut;
}

pub taken_step : (s : State) (p : Past) (o : Option FrameView) (items rest : List FrameView) → Belongs s p → s.closed ≡ false
    → s.queue ≡ frames_of items → items ≡ option_to_list o ++ rest → (o ≡ None → length items ≡ 0)
    → (q : Past) × TakeOutStep p o q × Belongs (record s { queue = frames_of rest }) q
taken_step s p (Some v) items rest b still is front none =
    let queue = is ∙ ap frames_of front in
    let open_now = sym b.closed ∙ still in (
      record p { out = p.out ++ v.frame ∷ [] },
      (sym (ap (λ (z : Bool). cond z None (sent_at (length p.out) (entries p.steps))) open_now ∙ sent_at_is s p b ∙ ap first queue), refl),
      moved s p (frames_of rest) (p.out ++ v.frame ∷ []) b (append_assoc p.out (v.frame ∷ []) (frames_of rest) ∙ ap (λ (fs : List MuxFrame). p.out ++ fs) (sym queue) ∙ b.queue),
    )
taken_step s p None items rest b still is front none =
    let empty : items ≡ [] = no_length items (none refl) in
    let queue : s.queue ≡ [] = is ∙ ap frames_of empty in
    let open_now = sym b.closed ∙ still in (
      p,
      (
        sym (ap (λ (z : Bool). cond z None (sent_at (length p.out) (entries p.steps))) open_now ∙ sent_at_is s p b ∙ ap first queue),
        ap (λ (fs : List MuxFrame). record p { out = fs }) (sym (append-nil p.out)),
      ),
      subst (λ (fs : List MuxFrame). Belongs (record s { queue = fs }) p) (is ∙ ap frames_of front) b,
    )

-- ALL THAT IS QUEUED

drop_length : (xs ys : List MuxFrame) → drop (length xs) (xs ++ ys) ≡ ys
drop_length [] ys = refl
drop_length (x ∷ xs) ys = drop_length xs ys

pub outs_step : (s : State) (p : Past) → Belongs s p → s.closed ≡ false → (q : Past) × TakeOutsStep p s.queue q × Belongs (record s { queue = [] }) q
outs_step s p b still =
    let going = sym b.closed ∙ still in (
      record p { out = p.out ++ s.queue },
      (sym (ap (λ (z : Bool). cond z [] (drop (length p.out) (sent_of (entries p.steps)))) going ∙ ap (drop (length p.out)) (sym b.queue) ∙ drop_length p.out s.queue), refl),
      moved s p [] (p.out ++ s.queue) b (append-nil (p.out ++ s.queue) ∙ b.queue),
    )

pub no_outs_step : (s : State) (p : Past) → Belongs s p → s.closed ≡ true → (q : Past) × TakeOutsStep p [] q × Belongs s q
no_outs_step s p b ended =
    let over = sym b.closed ∙ ended in
    (p, (sym (ap (λ (z : Bool). cond z [] (drop (length p.out) (sent_of (entries p.steps)))) over), ap (λ (fs : List MuxFrame). record p { out = fs }) (sym (append-nil p.out))), b)

-- THE LAST FRAME QUEUED

abbrev last_of : List MuxFrame → Option MuxFrame
last_of [] = None
last_of (f ∷ []) = Some f
last_of (f ∷ g ∷ fs) = last_of (g ∷ fs)

last_end : (fs : List MuxFrame) (f : MuxFrame) → last_of (fs ++ f ∷ []) ≡ Some f
last_end [] f = refl
last_end (g ∷ []) f = refl
last_end (g ∷ h ∷ fs) f = last_end (h ∷ fs) f

last_behind : (fs gs : List MuxFrame) (g : MuxFrame) → last_of (fs ++ g ∷ gs) ≡ last_of (g ∷ gs)
last_behind [] gs g = refl
last_behind (f ∷ []) gs g = refl
last_behind (f ∷ h ∷ fs) gs g = last_behind (h ∷ fs) gs g

last_one : (fs : List MuxFrame) (before o : Option MuxFrame) → before ≡ last_of fs → cond (is_some o) o before ≡ last_of (fs ++ option_to_list o)
last_one fs before None e = e ∙ ap last_of (sym (append-nil fs))
last_one fs before (Some f) e = sym (last_end fs f)

last_sent_is : (es : List Exchange) → last_sent es ≡ last_of (sent_of es)
last_sent_is [] = refl
last_sent_is (e ∷ old) = last_one (sent_of old) (last_sent old) e.sent (last_sent_is old)

last_item : (items : List FrameView) (v : FrameView) → 1 ≤ length items → v ≡ get_or items (length items - 1) v → last_of (frames_of items) ≡ Some v.frame
last_item [] v some is = absurd (omega (arith, some))
last_item (x ∷ []) v some is = ap (λ (w : FrameView). Some w.frame) (sym is)
last_item (x ∷ y ∷ items) v some is =
    let next : length (x ∷ y ∷ items) - 1 ≡ suc (length (y ∷ items) - 1) = omega arith in
    last_item (y ∷ items) v (omega arith) (is ∙ ap (λ (k : ℕ). get_or (x ∷ y ∷ items) k v) next)

queued_last : (s : State) (p : Past) (o : Option MuxFrame) → Belongs s p → last_of s.queue ≡ o → last_queued p ≡ o
queued_last s p o b is =
    by s.queue (queued_same s p b) b.queue is
  where
    by : (queue : List MuxFrame) → length queue ≡ sent_count (entries p.steps) - length p.out → p.out ++ queue ≡ sent_of (entries p.steps) → last_of queue ≡ o → last_queued p ≡ o
    by [] long all is = ap (λ (n : ℕ). cond (n == 0) None (last_sent (entries p.steps))) (sym long) ∙ is
    by (f ∷ fs) long all is =
        ap (λ (z : Bool). cond z None (last_sent (entries p.steps))) (eq_false (sent_count (entries p.steps) - length p.out) 0 (λ e. omega (arith, e, long)))
        ∙ last_sent_is (entries p.steps) ∙ ap last_of (sym all) ∙ last_behind p.out fs f ∙ is

pub last_step : (s : State) (p : Past) (items : List FrameView) (r : Option (Bor FrameView)) → Belongs s p → s.queue ≡ frames_of items
    → (IsSome r ↔ (0 < length items)) → IfSome r (λ x. x.now ≡ get_or items (length items - 1) x.now)
    → said_by (option_copied r) ≡ last_queued p
last_step s p [] None b is some item = sym (queued_last s p None b (ap last_of is))
last_step s p (x ∷ items) None b is some item = absurd (none_some (some.1 (omega arith)))
  where
    none_some : IsSome {T = Bor FrameView} None → ⊥
    none_some h = cc
last_step s p [] (Some v) b is some item = absurd (omega (arith, some.0 refl))
last_step s p (x ∷ items) (Some v) b is some item =
    sym (queued_last s p (Some v.now.frame) b (ap last_of is ∙ last_item (x ∷ items) v.now (omega arith) item))

pub none_step : (s : State) (p : Past) → Belongs s p → s.closed ≡ true → TakeOutStep p None p × Belongs s p
none_step s p b ended =
    let over = sym b.closed ∙ ended in
    ((sym (ap (λ (z : Bool). cond z None (sent_at (length p.out) (entries p.steps))) over), ap (λ (fs : List MuxFrame). record p { out = fs }) (sym (append-nil p.out))), b)
