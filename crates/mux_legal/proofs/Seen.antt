-- What the router pairs on a connection, the lawful server at its other end pairs in its own list: the same dispatch with the same reply.
use Rattle.std.proofs.Common.{inl, inr, ℕ, List, [], ◌∷◌, ◌++◌, ◌+◌, ◌≡◌, ◌≤◌, ◌<◌, ◌⊎◌, ◌&&◌, Bool, true, false, Option, Some, None, refl, arith, ap, subst, sym, ◌∙◌}
use Rattle.std.specs.Prelude.{if◌then◌else◌, ◌==◌, is_some}
use Rattle.std.proofs.lemmas.Bool.{eqb-true, eq-eqb, and_parts, and_from}
use Rattle.mux_frame.specs.Spelling.{MuxFrame}
use Rattle.mux_message.specs.Kinds.{kind_of, is_final}
use Rattle.mux_message.specs.Made.{retag}
use Rattle.mux_message.specs.Spellings.{normal}
use Rattle.mux_history.specs.declared.name.Name.{Name}
use Rattle.mux_history.specs.declared.session.SessionId.TheVariants.{Server}
use Rattle.mux_model.specs.Entries.{Exchange}
use Rattle.mux_model.specs.Tags.{Holder, holder, name_held}
use Rattle.mux_model.specs.Steps.{entries}
use Rattle.mux_model.specs.World.{World, Reached, Connection, starts, start}
use Rattle.mux_model.specs.Runs.{lines, EachConnection}
use Rattle.mux_model.specs.Lawful.{Way, ToServer, ToClient, Joint, Sends, Takes, IsStream, IsPrefix, sent_on, taken_on, with_message, same_way, Said, with_said, passed, at_client, at_server, asks_on, ends_on, is_dispatch_on, is_final_on, count, open_on, ArePaired, before, number_held, IsLawfulServer}
use Rattle.mux_model.specs.Legal.{Line, IsLegal, Each, EachLine, SomeEntry, SomeLine, IsFair, IsTakenIn, SettlesName, IsSettledIn}
use Rattle.mux_model.proofs.Happens.{run_reached}
use Rattle.mux_legal.specs.Headline.{open_message, AnswersIn, AnswersEach, IsSeenBy, EveryReplyIsSeen}
use Rattle.mux_legal.proofs.Numbers.{numbers_tell_places}
use Rattle.mux_legal.proofs.Orderly.{none_paired, new_none}
use Rattle.mux_legal.proofs.BothEnds.{Fit, agrees, low_or_high, reached_fits}
use Rattle.mux_legal.proofs.Answered.{held_open, sent_is, legal_answers}
use Rattle.mux_legal.proofs.ReadingsHold.{reached_legal}

some_same : {A : Type 0} (x y : A) → Some x ≡ Some y → x ≡ y
some_same x y e = cc

-- the messages of one way, and the i-th of those that pass a test, the oldest being the first
abbrev of_way : Way → List Said → List MuxFrame
of_way w [] = []
of_way w (s ∷ old) = with_message (same_way s.way w) s.message (of_way w old)

abbrev how_many : (MuxFrame → Bool) → List MuxFrame → ℕ
how_many q [] = 0
how_many q (m ∷ old) = if q m then how_many q old + 1 else how_many q old

abbrev nth : (MuxFrame → Bool) → ℕ → List MuxFrame → Option MuxFrame
nth q i [] = None
nth q i (m ∷ old) =
    if q m then if how_many q old == i then Some m else nth q i old
    else nth q i old

nth_less : (q : MuxFrame → Bool) (i : ℕ) (ms : List MuxFrame) (d : MuxFrame) → nth q i ms ≡ Some d → i < how_many q ms
nth_less q i [] d h = absurd (cc)
nth_less q i (m ∷ old) d h = by_test (q m) (how_many q old == i) refl (nth_less q i old d) h
  where
    by_test : (a b : Bool) → (how_many q old == i) ≡ b → (nth q i old ≡ Some d → i < how_many q old) → (if a then (if b then Some m else nth q i old) else nth q i old) ≡ Some d →
        i < (if a then how_many q old + 1 else how_many q old)
    by_test true true e later h = omega (arith, eqb-true (how_many q old) i e)
    by_test true false e later h = omega (arith, later h)
    by_test false b e later h = later h

nth_more : (q : MuxFrame → Bool) (i : ℕ) (m : MuxFrame) (old : List MuxFrame) (d : MuxFrame) → nth q i old ≡ Some d → nth q i (m ∷ old) ≡ Some d
nth_more q i m old d h = by_test (q m) (how_many q old == i) refl
  where
    by_test : (a b : Bool) → (how_many q old == i) ≡ b → (if a then (if b then Some m else nth q i old) else nth q i old) ≡ Some d
    by_test true true e = absurd (omega (arith, eqb-true (how_many q old) i e, nth_less q i old d h))
    by_test true false e = h
    by_test false b e = h

nth_with : (q : MuxFrame → Bool) (i : ℕ) (b : Bool) (m : MuxFrame) (old : List MuxFrame) (d : MuxFrame) → nth q i old ≡ Some d → nth q i (with_message b m old) ≡ Some d
nth_with q i true m old d h = nth_more q i m old d h
nth_with q i false m old d h = h

nth_head : (q : MuxFrame → Bool) (i : ℕ) (b : Bool) (m : MuxFrame) (old : List MuxFrame) → b ≡ true → q m ≡ true → i ≡ how_many q old → nth q i (with_message b m old) ≡ Some m
nth_head q i b m old on passes is =
    ap (λ x. nth q i (with_message x m old)) on
    ∙ λ j. if passes j then (if eq-eqb (how_many q old) i (sym is) j then Some m else nth q i old) else nth q i old

nth_later : (q : MuxFrame → Bool) (i : ℕ) (later some : List MuxFrame) (d : MuxFrame) → nth q i some ≡ Some d → nth q i (later ++ some) ≡ Some d
nth_later q i [] some d h = h
nth_later q i (m ∷ later) some d h = nth_more q i m (later ++ some) d (nth_later q i later some d h)

many_counts : (w : Way) (q : MuxFrame → Bool) (ss : List Said) → count (λ s. same_way s.way w && q s.message) ss ≡ how_many q (of_way w ss)
many_counts w q [] = refl
many_counts w q (s ∷ old) = by_tests (same_way s.way w) (q s.message) refl (many_counts w q old)
  where
    by_tests : (a b : Bool) → q s.message ≡ b → count (λ s. same_way s.way w && q s.message) old ≡ how_many q (of_way w old) → (if a && b then count (λ s. same_way s.way w && q s.message) old + 1 else count (λ s. same_way s.way w && q s.message) old) ≡ how_many q (with_message a s.message (of_way w old))
    by_tests true true e same =
        ap (λ n. n + 1) same ∙ sym (ap (λ b. if b then how_many q (of_way w old) + 1 else how_many q (of_way w old)) e)
    by_tests true false e same = same ∙ sym (ap (λ b. if b then how_many q (of_way w old) + 1 else how_many q (of_way w old)) e)
    by_tests false b e same = same

module _ (t : ℕ) where
  abbrev D : MuxFrame → Bool
  D f = is_dispatch_on t f

  abbrev F : MuxFrame → Bool
  F f = is_final_on t f

  -- the open dispatch by its number, and its message
  open_number : (ss : List Said) (i : ℕ) → open_on t ss ≡ Some i → (d : MuxFrame) × (open_message t ss ≡ Some d) × (nth D i (of_way ToServer ss) ≡ Some d)
  open_number [] i h = absurd (cc)
  open_number (s ∷ old) i h = by_tests (asks_on t s) (ends_on t s) refl h (open_number old i)
    where
      grown : (d : MuxFrame) → nth D i (of_way ToServer old) ≡ Some d → nth D i (of_way ToServer (s ∷ old)) ≡ Some d
      grown d x = nth_with D i (same_way s.way ToServer) s.message (of_way ToServer old) d x

      by_tests : (a e : Bool) → asks_on t s ≡ a → (if a then Some (count (asks_on t) old) else if e then None else open_on t old) ≡ Some i →
          (open_on t old ≡ Some i → (d : MuxFrame) × (open_message t old ≡ Some d) × (nth D i (of_way ToServer old) ≡ Some d)) →
          (d : MuxFrame) × ((if a then Some s.message else if e then None else open_message t old) ≡ Some d) × (nth D i (of_way ToServer (s ∷ old)) ≡ Some d)
      by_tests true e asks h later =
          (let parts = and_parts (same_way s.way ToServer) (is_dispatch_on t s.message) asks in
          (s.message, refl, nth_head D i (same_way s.way ToServer) s.message (of_way ToServer old) parts.0 parts.1 (sym (some_same _ _ h) ∙ many_counts ToServer D old)))
      by_tests false true asks h later = absurd (cc)
      by_tests false false asks h later = (let x = later h in (x.0, x.1, grown x.0 x.2))

  -- a pair by numbers, with its messages
  pub record IsPair (i j : ℕ) (d r : MuxFrame) (ss : List Said) : Type 0 where
    pub paired : ArePaired t i j ss
    pub dispatch : nth D i (of_way ToServer ss) ≡ Some d
    pub reply : nth F j (of_way ToClient ss) ≡ Some r

  pair_more : (i j : ℕ) (d r : MuxFrame) (s : Said) (old : List Said) → IsPair i j d r old → IsPair i j d r (s ∷ old)
  pair_more i j d r s old p = record {
    paired = inr p.paired;
    dispatch = nth_with D i (same_way s.way ToServer) s.message (of_way ToServer old) d p.dispatch;
    reply = nth_with F j (same_way s.way ToClient) s.message (of_way ToClient old) r p.reply;
  }

  pair_said : (i j : ℕ) (d r : MuxFrame) (w : Way) (o : Option MuxFrame) (old : List Said) → IsPair i j d r old → IsPair i j d r (with_said w o old)
  pair_said i j d r w None old p = p
  pair_said i j d r w (Some m) old p = pair_more i j d r (record { way = w; message = m }) old p

  reply_head : (s : Said) (old : List Said) (j : ℕ) → ends_on t s ≡ true → j ≡ count (ends_on t) old → nth F j (of_way ToClient (s ∷ old)) ≡ Some s.message
  reply_head s old j ends is =
      (let parts = and_parts (same_way s.way ToClient) (is_final_on t s.message) ends in
      nth_head F j (same_way s.way ToClient) s.message (of_way ToClient old) parts.0 parts.1 (is ∙ many_counts ToClient F old))

  -- what is paired by numbers is paired by messages
  pair_messages : (i j : ℕ) (ss : List Said) → ArePaired t i j ss → (d : MuxFrame) × (r : MuxFrame) × AnswersIn t d r ss × IsPair i j d r ss
  pair_messages i j [] p = absurd p
  pair_messages i j (s ∷ old) (inl p) =
      (let x = open_number old i p.2 in (
        x.0,
        s.message,
        inl (refl, p.0, x.1),
        record {
          paired = inl p;
          dispatch = nth_with D i (same_way s.way ToServer) s.message (of_way ToServer old) x.0 x.2;
          reply = reply_head s old j p.0 p.1;
        },
      ))
  pair_messages i j (s ∷ old) (inr p) = (let x = pair_messages i j old p in (x.0, x.1, inr x.2, pair_more i j x.0 x.1 s old x.3))

  -- a lawful server's final reply is paired
  answer_paired : (j : ℕ) (r : MuxFrame) → 2 ≤ t → (ss : List Said) → IsLawfulServer ss → nth F j (of_way ToClient ss) ≡ Some r → (k : ℕ) × ArePaired t k j ss
  answer_paired j r high [] lawful h = absurd (cc)
  answer_paired j r high (s ∷ old) lawful h =
      by_tests (same_way s.way ToClient) (is_final_on t s.message) (how_many F (of_way ToClient old) == j) refl refl refl (answer_paired j r high old lawful.1) h
    where
      opened : ends_on t s ≡ true → j ≡ count (ends_on t) old → (o : Option ℕ) → open_on t old ≡ o → is_some o ≡ true → (k : ℕ) × ArePaired t k j (s ∷ old)
      opened ends is None e some = absurd (cc)
      opened ends is (Some k) e some = (k, inl (ends, is, e))

      longer : (k : ℕ) × ArePaired t k j old → (k : ℕ) × ArePaired t k j (s ∷ old)
      longer y = (y.0, inr y.1)

      by_tests : (a b c : Bool) → same_way s.way ToClient ≡ a → is_final_on t s.message ≡ b → (how_many F (of_way ToClient old) == j) ≡ c →
          (nth F j (of_way ToClient old) ≡ Some r → (k : ℕ) × ArePaired t k j old) → nth F j (with_message a s.message (of_way ToClient old)) ≡ Some r → (k : ℕ) × ArePaired t k j (s ∷ old)
      by_tests false b c x y z later h = longer (later h)
      by_tests true false c x y z later h =
          longer (later (sym (ap (λ b. if b then (if how_many F (of_way ToClient old) == j then Some s.message else nth F j (of_way ToClient old)) else nth F j (of_way ToClient old)) y) ∙ h))
      by_tests true true false x y z later h =
          longer (later (sym (λ i. if y i then (if z i then Some s.message else nth F j (of_way ToClient old)) else nth F j (of_way ToClient old)) ∙ h))
      by_tests true true true x y z later h =
          (let ends = and_from (same_way s.way ToClient) (is_final_on t s.message) x y in
          opened ends (sym (eqb-true (how_many F (of_way ToClient old)) j z) ∙ sym (many_counts ToClient F old)) (open_on t old) refl (lawful.0 t high ends))

-- what an end sends and takes, in a joint list
client_sends : (js : List Joint) → of_way ToServer (at_client js) ≡ sent_on ToServer js
client_sends [] = refl
client_sends (Sends ToServer m ∷ old) = ap (λ ms. m ∷ ms) (client_sends old)
client_sends (Takes ToClient m ∷ old) = client_sends old
client_sends (Sends ToClient m ∷ old) = client_sends old
client_sends (Takes ToServer m ∷ old) = client_sends old

client_takes : (js : List Joint) → of_way ToClient (at_client js) ≡ taken_on ToClient js
client_takes [] = refl
client_takes (Sends ToServer m ∷ old) = client_takes old
client_takes (Takes ToClient m ∷ old) = ap (λ ms. m ∷ ms) (client_takes old)
client_takes (Sends ToClient m ∷ old) = client_takes old
client_takes (Takes ToServer m ∷ old) = client_takes old

server_sends : (js : List Joint) → of_way ToClient (at_server js) ≡ sent_on ToClient js
server_sends [] = refl
server_sends (Sends ToServer m ∷ old) = server_sends old
server_sends (Takes ToClient m ∷ old) = server_sends old
server_sends (Sends ToClient m ∷ old) = ap (λ ms. m ∷ ms) (server_sends old)
server_sends (Takes ToServer m ∷ old) = server_sends old

server_takes : (js : List Joint) → of_way ToServer (at_server js) ≡ taken_on ToServer js
server_takes [] = refl
server_takes (Sends ToServer m ∷ old) = server_takes old
server_takes (Takes ToClient m ∷ old) = server_takes old
server_takes (Sends ToClient m ∷ old) = server_takes old
server_takes (Takes ToServer m ∷ old) = ap (λ ms. m ∷ ms) (server_takes old)

stream_prefix : (js : List Joint) → IsStream js → (w : Way) → IsPrefix (taken_on w js) (sent_on w js)
stream_prefix [] st w = ([], refl)
stream_prefix (j ∷ old) st w = st.0 w

nth_prefix : (q : MuxFrame → Bool) (i : ℕ) (some all : List MuxFrame) (d : MuxFrame) → IsPrefix some all → nth q i some ≡ Some d → nth q i all ≡ Some d
nth_prefix q i some all d p h = ap (nth q i) p.1 ∙ nth_later q i p.0 some d h

-- the server's own list has the same pair
seen_there : (k : ℕ) (es : List Exchange) → Fit (Server k) es → (t i j : ℕ) (d r : MuxFrame) → IsPair t i j d r (passed (Server k) es) →
    (js : List Joint) → IsStream js → at_client js ≡ passed (Server k) es → IsLawfulServer (at_server js) → AnswersIn t d r (at_server js)
seen_there k es fit t i j d r p js st is lawful = by_tag (low_or_high t)
  where
    here : IsPair t i j d r (at_client js)
    here = subst (IsPair t i j d r) (sym is) p

    sent : nth (is_final_on t) j (of_way ToClient (at_server js)) ≡ Some r
    sent =
        ap (nth (is_final_on t) j) (server_sends js)
        ∙ nth_prefix (is_final_on t) j (taken_on ToClient js) (sent_on ToClient js) r (stream_prefix js st ToClient) (ap (nth (is_final_on t) j) (sym (client_takes js)) ∙ here.reply)

    same_dispatch : (x : MuxFrame) → nth (is_dispatch_on t) i (of_way ToServer (at_server js)) ≡ Some x → x ≡ d
    same_dispatch x h =
        some_same x d (sym (ap (nth (is_dispatch_on t) i) (client_sends js)
        ∙ nth_prefix (is_dispatch_on t) i (taken_on ToServer js) (sent_on ToServer js) x (stream_prefix js st ToServer) (ap (nth (is_dispatch_on t) i) (sym (server_takes js)) ∙ h))
        ∙ here.dispatch)

    by_tag : (t + 1 ≤ 2) ⊎ (2 ≤ t) → AnswersIn t d r (at_server js)
    by_tag (inl low) = absurd (none_paired t i j (passed (Server k) es) (new_none k t low es fit) p.paired)
    by_tag (inr high) =
        (let there = answer_paired t j r high (at_server js) lawful sent in
        let number : i ≡ there.0 = (agrees (Server k) es fit js st is lawful t i j there.0 j here.paired there.1).1 refl in
        let x = pair_messages t i j (at_server js) (subst (λ n. ArePaired t n j (at_server js)) (sym number) there.1) in
        let reply : x.1 ≡ r = some_same x.1 r (sym x.3.reply ∙ sent) in
        subst (λ y. AnswersIn t d y (at_server js)) reply (subst (λ y. AnswersIn t y x.1 (at_server js)) (same_dispatch x.0 x.3.dispatch) x.2))

-- the pair of a reply that the router paired with a name
module _ (ls : List Line) (n : Name) (m : MuxFrame) (one : (m' : MuxFrame) → SomeLine (IsTakenIn n m') ls → m ≡ m') (k : ℕ) (r : MuxFrame) where
  number_of : (old : List Exchange) → (o : Option Holder) → holder (Server k) r.tag old ≡ o → name_held o ≡ Some n → (i : ℕ) × (open_on r.tag (passed (Server k) old) ≡ Some i)
  number_of old None e h = absurd (cc)
  number_of old (Some x) e h =
      (count (asks_on r.tag) (passed (Server k) (before x.place old)), numbers_tell_places (Server k) r.tag old ∙ ap (number_held (Server k) r.tag old) e)

  pair_here : (e : Exchange) (old : List Exchange) → Each (IsFair ls (Server k)) old → SettlesName (Server k) n r e old →
      (i : ℕ) × (j : ℕ) × IsPair r.tag i j (retag r.tag m) r (passed (Server k) (e ∷ old))
  pair_here e old fair s =
      let number = number_of old (holder (Server k) r.tag old) refl s.2 in
      let message = open_number r.tag (passed (Server k) old) number.0 number.1 in
      let sent = held_open k r.tag n old s.2 in
      let is : message.0 ≡ retag r.tag m = some_same message.0 sent.0 (sym message.1 ∙ sent.1) ∙ sent_is ls n m one k r.tag sent.0 old fair sent.2 in
      let said : Said = record { way = ToClient; message = r } in
      let ends : ends_on r.tag said ≡ true = and_from (is_final (kind_of r.kind)) (r.tag == r.tag) s.1 (eq-eqb r.tag r.tag refl) in
      let j = count (ends_on r.tag) (passed (Server k) old) in
      let p : IsPair r.tag number.0 j (retag r.tag m) r (said ∷ passed (Server k) old) = record {
        paired = inl (ends, refl, number.1);
        dispatch = message.2 ∙ ap Some is;
        reply = reply_head r.tag said (passed (Server k) old) j ends refl;
      } in (
        number.0,
        j,
        pair_said r.tag number.0 j (retag r.tag m) r ToServer e.sent (with_said ToClient e.taken (passed (Server k) old))
            (subst (λ x. IsPair r.tag number.0 j (retag r.tag m) r (with_said ToClient x (passed (Server k) old))) (sym s.0) p),
      )

  pair_in_list : (es : List Exchange) → Each (IsFair ls (Server k)) es → SomeEntry (SettlesName (Server k) n r) es →
      (i : ℕ) × (j : ℕ) × IsPair r.tag i j (retag r.tag m) r (passed (Server k) es)
  pair_in_list [] fair s = absurd s
  pair_in_list (e ∷ old) fair (inl s) = pair_here e old fair.1 s
  pair_in_list (e ∷ old) fair (inr s) =
      (let x = pair_in_list old fair.1 s in (
        x.0,
        x.1,
        pair_said r.tag x.0 x.1 (retag r.tag m) r ToServer e.sent (with_said ToClient e.taken (passed (Server k) old))
            (pair_said r.tag x.0 x.1 (retag r.tag m) r ToClient e.taken (passed (Server k) old) x.2),
      ))

  seen_line : (l : Line) (f : MuxFrame) → f ≡ retag f.tag (normal r) → l.session ≡ Server k → Each (IsFair ls l.session) (entries l.steps) → Fit l.session (entries l.steps) →
      SomeEntry (SettlesName (Server k) n r) (entries l.steps) → IsSeenBy n m f l
  seen_line l f is server fair fit s =
      let es = entries l.steps in
      let x = pair_in_list es (subst (λ id. Each (IsFair ls id) es) server fair) s in
      (k, server, r, s, is, λ js st passes lawful. seen_there k es (subst (λ id. Fit id es) server fit) r.tag x.0 x.1 (retag r.tag m) r x.2 js st passes lawful)

seen_lines : (ls : List Line) (n : Name) (m f r : MuxFrame) (one : (m' : MuxFrame) → SomeLine (IsTakenIn n m') ls → m ≡ m') → f ≡ retag f.tag (normal r) → (some : List Line) →
    EachLine (λ l. Each (IsFair ls l.session) (entries l.steps)) some → EachLine (λ l. Fit l.session (entries l.steps)) some → SomeLine (IsSettledIn n r) some → SomeLine (IsSeenBy n m f) some
seen_lines ls n m f r one is [] fair fit s = absurd s
seen_lines ls n m f r one is (l ∷ some) fair fit (inl s) = inl (seen_line ls n m one s.0 r l f is s.1 fair.0 fit.0 s.2)
seen_lines ls n m f r one is (l ∷ some) fair fit (inr s) = inr (seen_lines ls n m f r one is some fair.1 fit.1 s)

lines_fit : (cs : List Connection) → EachConnection (λ c. Fit c.session (entries c.steps)) cs → EachLine (λ l. Fit l.session (entries l.steps)) (lines cs)
lines_fit [] h = tt
lines_fit (c ∷ cs) h = (h.0, lines_fit cs h.1)

pub legal_seen : (retries : ℕ) (ls : List Line) → IsLegal retries ls → EachLine (λ l. Fit l.session (entries l.steps)) ls → EachLine (λ l. Each (AnswersEach IsSeenBy ls l.session) (entries l.steps)) ls
legal_seen retries ls legal fit = legal_answers retries ls legal IsSeenBy (λ n m f one p. seen_lines ls n m f p.0 one p.2 ls legal.fair fit p.1)

pub reached_seen : {w : World} → Reached w → EachLine (λ l. Each (AnswersEach IsSeenBy (lines w.connections) l.session) (entries l.steps)) (lines w.connections)
reached_seen {w} r = legal_seen w.limits.retries (lines w.connections) (reached_legal r) (lines_fit w.connections (reached_fits r))

pub every_reply_is_seen : EveryReplyIsSeen
every_reply_is_seen limits boot events free = reached_seen (run_reached (start limits boot) events free (starts limits boot))
