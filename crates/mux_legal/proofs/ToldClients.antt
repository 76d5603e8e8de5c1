-- What a client's list keeps, as its records tell it.
use Rattle.std.proofs.Common.{length, ℕ, List, [], ◌∷◌, ◌+◌, ◌≡◌, ◌&&◌, ◌⊎◌, ◌||◌, inl, inr, Bool, true, false, not, Option, Some, None, refl, sym, ◌∙◌, ap, subst, arith}
use Rattle.std.specs.Prelude.{if◌then◌else◌, ◌==◌, codes}
use Rattle.std.proofs.lemmas.Bool.{and_parts, eqb-true, or_cases}
use Rattle.mux_frame.specs.Spelling.{MuxFrame}
use Rattle.mux_message.specs.Kinds.{kind_of, is_dispatch, is_final}
use Rattle.mux_history.specs.declared.name.Name.{Name}
use Rattle.mux_history.specs.declared.record.Record.{Record}
use Rattle.mux_history.specs.declared.kind.RecordKind.{RecordKind}
use Rattle.mux_history.specs.declared.kind.RecordKind.TheVariants.{Passed, Failed}
use Rattle.mux_history.specs.declared.session.SessionId.TheVariants.{Client}
use Rattle.mux_history.specs.Readings.{has_ended, gives_name, dispatches, is_named, is_offered, is_epoch, ends}
use Rattle.mux_history.specs.Holders.{name_on, held_after, of_named}
use Rattle.mux_agree.specs.Agree.{has, answers, is_refused, is_nacked, is_replied, is_lost_one}
use Rattle.mux_model.specs.Entries.{Exchange}
use Rattle.mux_message.specs.Made.{nack_on, rerr_on, rdiscarded_on}
use Rattle.mux_model.specs.Tags.{Holder, holder, asked, answered, name_held}
use Rattle.mux_model.specs.Steps.{Step, entries, records}
use Rattle.mux_model.specs.Down.{DownSession}
use Rattle.mux_model.specs.Replay.{is_next_name}
use Rattle.mux_model.specs.Legal.{Line, Each, SomeEntry, SomeLine, OnDispatch, OnFinal, TakesUnder, IsTakenIn, IsLostIn, IsDiscardOf, IsRouterMade, IsOwnAnswer, unsent_nack, unsent_no_route, lost, discard, holder_then, reply_in, is_reply_to, replies, EachWasNacked, taken_count, dispatch_in, IsNamedInTurn, HasEnded, IsCut}
use Rattle.mux_legal.specs.Tellings.{IsDispatchOn, IsNoDispatch}
use Rattle.mux_legal.specs.KeptRuns.{IsRepliedTo, IsFairAnswer, IsFairEntry}
use Rattle.mux_legal.proofs.Basics.{named, one_if, counts_none}
use Rattle.mux_legal.proofs.ToldDown.{ToldDown, nothing, more, DownShape, takes, refuses, replies as answers_name, owns, quiet, IsOwnOn, ReplyKind, passes, nacks, unroutes, fails, discards, of_some, not_both}
use Rattle.mux_legal.proofs.ToldHolders.{occurs, no_ask, no_answer, stray_answer, ask_on, ask_here, answer_on, holds_none, on_dispatch_none, on_dispatch, on_final_none, on_final, takes_one, takes_none}
use Rattle.std.proofs.lemmas.Option.{same_Some}
use Rattle.mux_legal.proofs.Sound.{name_some}
use Rattle.mux_legal.proofs.Link.{IsNamed, named_asked, named_answered}

-- P of every record
abbrev pub Every : (Record → Type 0) → List Record → Type 0
Every P [] = Unit {0}
Every P (r ∷ rs) = P r × Every P rs

-- what all lists say for a record
pub record IsFounded (ls : List Line) (r : Record) : Type 0 where
  pub passed : r.kind ≡ Passed → (n : Name) → r.name ≡ Some n → IsRepliedTo ls n
  pub refused : is_refused r.kind ≡ true → (n : Name) → r.name ≡ Some n → EachWasNacked ls n
  pub nacked : is_nacked r.kind ≡ true → (n : Name) → r.name ≡ Some n → EachWasNacked ls n
  pub failed : r.kind ≡ Failed → (n : Name) → r.name ≡ Some n → SomeLine (IsLostIn n) ls
  pub offered : is_offered r.kind ≡ true → (n : Name) → r.name ≡ Some n → (m : MuxFrame) × SomeLine (IsTakenIn n m) ls

abbrev Linked : DownSession → List Step → Type 0
Linked c steps = (t : ℕ) → name_on t (records steps) ≡ name_held (holder (Client c.number) t (entries steps))

abbrev Named : DownSession → List Step → Type 0
Named c steps = (t : ℕ) → IsNamed (holder (Client c.number) t (entries steps))

-- the router's own answer follows no dispatch
pub own_plain : (t : ℕ) (taken sent : Option MuxFrame) → IsOwnOn t taken sent → IsNoDispatch taken
own_plain t taken sent own = subst IsNoDispatch (sym own.took) (not_both (is_dispatch (kind_of own.message.kind)) own.plain)

-- one more step
module _ (c : DownSession) (old : List Step) (linked : Linked c old) (all_named : Named c old) (r : Record) (taken sent : Option MuxFrame) where
  abbrev H : ℕ → Option Holder
  H t = holder (Client c.number) t (entries old)

  abbrev who : Holder
  who = record { place = length (entries old); name = r.name }

  abbrev e : Exchange
  e = record { rec = Some r; taken = taken; sent = sent }

  -- a tag that is free by the records is free
  free : (t : ℕ) → name_on t (records old) ≡ None → H t ≡ None
  free t n = holds_none (H t) (all_named t) (sym (linked t) ∙ n)

  refused : (t : ℕ) → name_on r.tag (records old) ≡ None → name_on t (records old) ≡ (if r.tag == t then None else (if r.tag == t then r.name else name_held (H t)))
  refused t f = by_test (r.tag == t) (eqb-true r.tag t)
    where
      by_test : (b : Bool) → (b ≡ true → r.tag ≡ t) → name_on t (records old) ≡ (if b then None else (if b then r.name else name_held (H t)))
      by_test true h = sym (ap (λ u. name_on u (records old)) (h refl)) ∙ f
      by_test false h = linked t

  link : DownShape c (records old) r r.kind taken sent → (t : ℕ) → held_after t r r.kind (name_on t (records old)) ≡ name_held (answered t sent (asked t who taken (H t)))
  link (takes g a held going f next on none) t =
      held t (name_on t (records old)) ∙ (ap (λ x. if r.tag == t then r.name else x) (linked t)
      ∙ (sym (ask_on t r.tag who taken (H t) on) ∙ sym (ap (λ (m : Option MuxFrame). name_held (answered t m (asked t who taken (H t)))) none)))
  link (refuses g a u held going f next on nack) t =
      held t (name_on t (records old)) ∙ (refused t f ∙ (ap (λ x. if r.tag == t then None else x) (sym (ask_on t r.tag who taken (H t) on))
      ∙ (sym (answer_on t r.tag (Some (nack_on r.tag)) (asked t who taken (H t)) (refl, refl)) ∙ sym (ap (λ (m : Option MuxFrame). name_held (answered t m (asked t who taken (H t)))) nack))))
  link (answers_name g a held going n is on plain f says final tag kind) t =
      held t (name_on t (records old)) ∙ (ap (λ x. if r.tag == t then None else x) (linked t ∙ sym (ap (λ (x : Option Holder). name_held x) (no_ask t who taken (H t) plain)))
      ∙ (sym (answer_on t r.tag (Some f) (asked t who taken (H t)) (final, tag)) ∙ sym (ap (λ (m : Option MuxFrame). name_held (answered t m (asked t who taken (H t)))) says)))
  link (owns g a held going f own) t =
      held t (name_on t (records old)) ∙ (linked t ∙ sym (ap (λ (x : Option Holder). name_held x)
      (ap (answered t sent) (no_ask t who taken (H t) (own_plain r.tag taken sent own)) ∙ stray_answer t sent H (on_final (λ g. H g.tag ≡ None) sent own.reply own.says (ap H own.on_tag ∙ free r.tag f)))))
  link (quiet g a held cut plain silent) t =
      held t ∙ (linked t ∙ sym (ap (λ (x : Option Holder). name_held x) (ap (answered t sent) (no_ask t who taken (H t) plain) ∙ no_answer t sent (H t) silent)))

  asks_named : DownShape c (records old) r r.kind taken sent → OnDispatch taken (λ f. (n : Name) × (r.name ≡ Some n))
  asks_named (takes g a held going f next on none) = (let x = of_some (is_next_name c (records old)) r.name next in on_dispatch (λ _. (n : Name) × (r.name ≡ Some n)) taken (λ _. (x.0, x.1)))
  asks_named (refuses g a u held going f next on nack) = (let x = of_some (is_next_name c (records old)) r.name next in on_dispatch (λ _. (n : Name) × (r.name ≡ Some n)) taken (λ _. (x.0, x.1)))
  asks_named (answers_name g a held going n is on plain f says final tag kind) = on_dispatch_none _ taken plain
  asks_named (owns g a held going f own) = on_dispatch_none _ taken (own_plain r.tag taken sent own)
  asks_named (quiet g a held cut plain silent) = on_dispatch_none _ taken plain

  names : DownShape c (records old) r r.kind taken sent → (t : ℕ) → IsNamed (answered t sent (asked t who taken (H t)))
  names s t = named_answered t sent (asked t who taken (H t)) (named_asked t who taken (H t) (asks_named s) (all_named t))

  -- a reply to the name that holds the tag
  module _ (ls : List Line) (founded : IsFounded ls r) where
    reply : (n : Name) → r.name ≡ Some n → (f : MuxFrame) → f.tag ≡ r.tag → ReplyKind r r.kind taken f → IsRepliedTo ls n ⊎ IsRouterMade ls n e f
    reply n is f tag (passes k) = inl (founded.passed k n is)
    reply n is f tag (nacks u says) = inr (unsent_nack (says ∙ ap nack_on (sym tag)) (founded.nacked u n is))
    reply n is f tag (unroutes u says) = inr (unsent_no_route (says ∙ ap (λ t. rerr_on t (codes "no route")) (sym tag)) (founded.nacked u n is))
    reply n is f tag (fails k says) = inr (lost (says ∙ ap (λ t. rerr_on t (codes "upstream lost")) (sym tag)) (founded.failed k n is))
    reply n is f tag (discards says d) = inr (discard (says ∙ ap rdiscarded_on (sym tag)) (subst (λ t. IsDiscardOf t taken) (sym tag) d))

    fair : DownShape c (records old) r r.kind taken sent → OnFinal sent (λ f. IsFairAnswer ls e f (asked f.tag who taken (H f.tag)))
    fair (takes g a held going f next on none) = subst (λ m. OnFinal m (λ f. IsFairAnswer ls e f (asked f.tag who taken (H f.tag)))) (sym none) tt
    fair (refuses g a u held going f next on nack) =
        let x = of_some (is_next_name c (records old)) r.name next in
        on_final (λ f. IsFairAnswer ls e f (asked f.tag who taken (H f.tag))) sent (nack_on r.tag) nack
        (subst (IsFairAnswer ls e (nack_on r.tag)) (sym (ask_here r.tag who taken (H r.tag) on)) (x.0, x.1, inr (unsent_nack refl (founded.refused u x.0 x.1))))
    fair (answers_name g a held going n is on plain f says final tag kind) =
        let h = name_some (H r.tag) n (sym (linked r.tag) ∙ on) in
        on_final (λ f. IsFairAnswer ls e f (asked f.tag who taken (H f.tag))) sent f says
        (subst (IsFairAnswer ls e f) (sym (no_ask f.tag who taken (H f.tag) plain ∙ (ap H tag ∙ h.1))) (n, h.2, reply n is f tag kind))
    fair (owns g a held going f own) =
        on_final (λ f. IsFairAnswer ls e f (asked f.tag who taken (H f.tag))) sent own.reply own.says
        (subst (IsFairAnswer ls e own.reply) (sym (no_ask own.reply.tag who taken (H own.reply.tag) (own_plain r.tag taken sent own) ∙ (ap H own.on_tag ∙ free r.tag f)))
        (subst (λ m. IsOwnAnswer m own.reply) (sym own.took) own.own))
    fair (quiet g a held cut plain silent) = on_final_none _ sent silent

  -- how often it answers a name
  counts : (n : Name) → DownShape c (records old) r r.kind taken sent → reply_in n (holder_then (Client c.number) e (entries old)) sent ≡ one_if (answers r.kind && is_named n r.name)
  counts n (takes g a held going f next on none) = ap (reply_in n (holder_then (Client c.number) e (entries old))) none ∙ sym (ap (λ b. one_if (b && is_named n r.name)) a)
  counts n (refuses g a u held going f next on nack) =
      ap (reply_in n (holder_then (Client c.number) e (entries old))) nack
      ∙ (ap (λ (o : Option Holder). one_if (is_reply_to n o)) (ask_here r.tag who taken (H r.tag) on) ∙ sym (ap (λ b. one_if (b && is_named n r.name)) a))
  counts n (answers_name g a held going m is on plain f says final tag kind) =
      let h = name_some (H r.tag) m (sym (linked r.tag) ∙ on) in
      ap (reply_in n (holder_then (Client c.number) e (entries old))) says
      ∙ (ap (λ b. one_if (b && is_reply_to n (asked f.tag who taken (H f.tag)))) final
      ∙ (ap (λ (o : Option Holder). one_if (is_reply_to n o)) (no_ask f.tag who taken (H f.tag) plain ∙ (ap H tag ∙ h.1))
      ∙ (ap (λ (o : Option Name). one_if (is_named n o)) (h.2 ∙ sym is) ∙ sym (ap (λ b. one_if (b && is_named n r.name)) a))))
  counts n (owns g a held going f own) =
      ap (reply_in n (holder_then (Client c.number) e (entries old))) own.says
      ∙ (ap (λ (o : Option Holder). one_if (is_final (kind_of own.reply.kind) && is_reply_to n o))
      (no_ask own.reply.tag who taken (H own.reply.tag) (own_plain r.tag taken sent own) ∙ (ap H own.on_tag ∙ free r.tag f))
      ∙ (none_both (is_final (kind_of own.reply.kind)) ∙ sym (ap (λ b. one_if (b && is_named n r.name)) a)))
    where
      none_both : (b : Bool) → one_if (b && false) ≡ 0
      none_both true = refl
      none_both false = refl
  counts n (quiet g a held cut plain silent) = by_sent sent silent ∙ sym (ap (λ b. one_if (b && is_named n r.name)) a)
    where
      by_sent : (m : Option MuxFrame) → OnFinal m (λ f. ⊥) → reply_in n (holder_then (Client c.number) e (entries old)) m ≡ 0
      by_sent None d = refl
      by_sent (Some x) d = counts_none (is_final (kind_of x.kind)) _ d

  -- how many dispatches it takes
  takings : DownShape c (records old) r r.kind taken sent → dispatch_in taken ≡ one_if (gives_name r.kind)
  takings (takes g a held going f next on none) = takes_one r.tag taken on ∙ sym (ap one_if g)
  takings (refuses g a u held going f next on nack) = takes_one r.tag taken on ∙ sym (ap one_if g)
  takings (answers_name g a held going n is on plain f says final tag kind) = takes_none taken plain ∙ sym (ap one_if g)
  takings (owns g a held going f own) = takes_none taken (own_plain r.tag taken sent own) ∙ sym (ap one_if g)
  takings (quiet g a held cut plain silent) = takes_none taken plain ∙ sym (ap one_if g)

  -- the name that it gives is the next one
  next_is : (count : ℕ) → count ≡ dispatches (records old) → of_named (is_next_name c (records old)) r.name ≡ true → r.name ≡ Some (record { boot = c.boot; client = c.number; seq = count + 1 })
  next_is count same next =
      let x = of_some (is_next_name c (records old)) r.name next in
      let p = and_parts _ _ (and_parts _ _ x.2).0 in
      let q = and_parts _ _ p.0 in
      x.1 ∙ ap Some (λ i. record { boot = eqb-true x.0.boot c.boot q.0 i; client = eqb-true x.0.client c.number q.1 i; seq = (eqb-true x.0.seq (dispatches (records old) + 1) p.1 ∙ sym (ap (λ d. d + 1) same)) i })

  in_turn : (count : ℕ) → count ≡ dispatches (records old) → DownShape c (records old) r r.kind taken sent → OnDispatch taken (λ f. r.name ≡ Some (record { boot = c.boot; client = c.number; seq = count + 1 }))
  in_turn count same (takes g a held going f next on none) = on_dispatch _ taken (λ _. next_is count same next)
  in_turn count same (refuses g a u held going f next on nack) = on_dispatch _ taken (λ _. next_is count same next)
  in_turn count same (answers_name g a held going n is on plain f says final tag kind) = on_dispatch_none _ taken plain
  in_turn count same (owns g a held going f own) = on_dispatch_none _ taken (own_plain r.tag taken sent own)
  in_turn count same (quiet g a held cut plain silent) = on_dispatch_none _ taken plain

  cuts : (HasEnded (entries old) → has_ended (records old) ≡ true) → DownShape c (records old) r r.kind taken sent → HasEnded (entries old) → (taken ≡ None) × (sent ≡ None)
  cuts over (takes g a held going f next on none) h = not_both (has_ended (records old)) going (over h)
  cuts over (refuses g a u held going f next on nack) h = not_both (has_ended (records old)) going (over h)
  cuts over (answers_name g a held going n is on plain f says final tag kind) h = not_both (has_ended (records old)) going (over h)
  cuts over (owns g a held going f own) h = not_both (has_ended (records old)) going (over h)
  cuts over (quiet g a held cut plain silent) h = cut (over h)

-- a list that has ended goes on with no epoch
pub ended_more : (r : Record) (old : List Record) (Over : Type 0) → (Over → has_ended old ≡ true) → (is_epoch r.kind ≡ true → has_ended old ≡ false) → (ends r.kind ≡ true) ⊎ Over → has_ended (r ∷ old) ≡ true
ended_more r old Over over going_on h = by_test (ends r.kind) (is_epoch r.kind) going_on h
  where
    by_test : (x y : Bool) → (y ≡ true → has_ended old ≡ false) → (x ≡ true) ⊎ Over → (x || (not y && has_ended old)) ≡ true
    by_test true y going_on h = refl
    by_test false true going_on (inl h) = absurd (cc)
    by_test false true going_on (inr h) = not_both (has_ended old) (going_on refl) (over h)
    by_test false false going_on (inl h) = absurd (cc)
    by_test false false going_on (inr h) = over h

-- whole lists
module _ (c : DownSession) where
  state : {steps : List Step} → ToldDown c steps → Linked c steps × Named c steps
  state nothing = (λ t. refl, λ t. tt)
  state (more call r taken sent old read apart count going_on shape rest) = (let s = state rest in (link c old s.0 s.1 r taken sent shape, names c old s.0 s.1 r taken sent shape))

  pub client_fair : (ls : List Line) {steps : List Step} → ToldDown c steps → Every (IsFounded ls) (records steps) → Each (IsFairEntry ls (Client c.number)) (entries steps)
  client_fair ls nothing f = tt
  client_fair ls (more call r taken sent old read apart count going_on shape rest) f = (let s = state rest in (fair c old s.0 s.1 r taken sent ls f.0 shape, client_fair ls rest f.1))

  pub client_replies : (n : Name) {steps : List Step} → ToldDown c steps → replies (Client c.number) n (entries steps) ≡ occurs answers n (records steps)
  client_replies n nothing = refl
  client_replies n (more call r taken sent old read apart count going_on shape rest) = (let s = state rest in omega (arith, counts c old s.0 s.1 r taken sent n shape, client_replies n rest))

  taken_dispatches : {steps : List Step} → ToldDown c steps → taken_count (entries steps) ≡ dispatches (records steps)
  taken_dispatches nothing = refl
  taken_dispatches (more call r taken sent old read apart count going_on shape rest) =
      (let s = state rest in omega (arith, takings c old s.0 s.1 r taken sent shape, count, taken_dispatches rest))

  ended : {steps : List Step} → ToldDown c steps → HasEnded (entries steps) → has_ended (records steps) ≡ true
  ended nothing h = absurd h
  ended (more call r taken sent old read apart count going_on shape rest) h = ended_more r (records old) (HasEnded (entries old)) (ended rest) going_on h

  pub client_named : {steps : List Step} → ToldDown c steps → Each (IsNamedInTurn c.boot (Client c.number)) (entries steps)
  client_named nothing = tt
  client_named (more call r taken sent old read apart count going_on shape rest) =
      (let s = state rest in (in_turn c old s.0 s.1 r taken sent (taken_count (entries old)) (taken_dispatches rest) shape, client_named rest))

  pub client_cut : {steps : List Step} → ToldDown c steps → Each IsCut (entries steps)
  client_cut nothing = tt
  client_cut (more call r taken sent old read apart count going_on shape rest) = (let s = state rest in (cuts c old s.0 s.1 r taken sent (ended rest) shape, client_cut rest))

  -- a record that gives a name: the list took a dispatch under it
  abbrev IsGiven : Name → List Step → Type 0
  IsGiven n steps = (c.boot ≡ n.boot) × (c.number ≡ n.client) × (m : MuxFrame) × SomeEntry (TakesUnder n m) (entries steps)

  given_here : (n : Name) (r : Record) (taken sent : Option MuxFrame) (old : List Step) → is_named n r.name ≡ true → of_named (is_next_name c (records old)) r.name ≡ true → IsDispatchOn r.tag taken →
      (c.boot ≡ n.boot) × (c.number ≡ n.client) × (m : MuxFrame) × TakesUnder n m (record { rec = Some r; taken = taken; sent = sent }) (entries old)
  given_here n r None sent old is next on = absurd on
  given_here n r (Some f) sent old is next on =
      let x = of_some (is_next_name c (records old)) r.name next in
      let p = and_parts _ _ (and_parts _ _ x.2).0 in
      let q = and_parts _ _ p.0 in
      let same : x.0 ≡ n = same_Some x.0 n (sym x.1 ∙ named n r.name is) in
      (sym (eqb-true x.0.boot c.boot q.0) ∙ ap (λ (m : Name). m.boot) same, sym (eqb-true x.0.client c.number q.1) ∙ ap (λ (m : Name). m.client) same, f, (named n r.name is, refl, on.0))

  pub client_gives : (n : Name) {steps : List Step} → ToldDown c steps → has gives_name n (records steps) ≡ true → IsGiven n steps
  client_gives n nothing h = absurd (cc)
  client_gives n (more call r taken sent old read apart count going_on shape rest) h =
      elim (or_cases (gives_name r.kind && is_named n r.name) (has gives_name n (records old)) h) [
        | inl a ↦ (let b = and_parts _ _ a in by_shape b.0 b.1 shape)
        | inr a ↦ (let g = client_gives n rest a in (g.0, g.1, g.2, inr g.3))
      ]
    where
      by_shape : gives_name r.kind ≡ true → is_named n r.name ≡ true → DownShape c (records old) r r.kind taken sent → IsGiven n (record { call = call; entry = record { rec = Some r; taken = taken; sent = sent } } ∷ old)
      by_shape g is (takes _ a held going f next on unsaid) = (let x = given_here n r taken sent old is next on in (x.0, x.1, x.2, inl x.3))
      by_shape g is (refuses _ a u held going f next on nack) = (let x = given_here n r taken sent old is next on in (x.0, x.1, x.2, inl x.3))
      by_shape g is (answers_name x _ _ _ _ _ _ _ _ _ _ _ _) = not_both (gives_name r.kind) x g
      by_shape g is (owns x _ _ _ _ _) = not_both (gives_name r.kind) x g
      by_shape g is (quiet x _ _ _ _ _) = not_both (gives_name r.kind) x g

  -- no final reply is taken, and no loss told
  no_such : (p : RecordKind → Bool) → ((k : RecordKind) → (is_replied k ≡ false) × (is_lost_one k ≡ false) → p k ≡ false) → (n : Name) {steps : List Step} → ToldDown c steps → has p n (records steps) ≡ true → ⊥
  no_such p apart_is n nothing h = absurd (cc)
  no_such p apart_is n (more call r taken sent old read apart count going_on shape rest) h =
      elim (or_cases (p r.kind && is_named n r.name) (has p n (records old)) h) [
        | inl a ↦ not_both (p r.kind) (apart_is r.kind apart) (and_parts _ _ a).0
        | inr a ↦ no_such p apart_is n rest a
      ]

  pub client_settles_none : (p : RecordKind → Bool) → ((k : RecordKind) → is_replied k ≡ false → p k ≡ false) → (n : Name) {steps : List Step} → ToldDown c steps →
      has p n (records steps) ≡ true → ⊥
  client_settles_none p of_replies n t h = no_such p (λ k a. of_replies k a.0) n t h

  pub client_loses_none : (n : Name) {steps : List Step} → ToldDown c steps → has is_lost_one n (records steps) ≡ true → ⊥
  client_loses_none n t h = no_such is_lost_one (λ k a. a.1) n t h
