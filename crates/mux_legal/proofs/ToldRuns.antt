-- Lists whose records bear each other out are a legal run, but for bodies.
use Rattle.std.proofs.Common.{ℕ, List, [], ◌∷◌, ◌≡◌, ◌≤◌, ◌+◌, inl, inr, Bool, true, false, Some, refl, sym, ◌∙◌, ap, subst, arith}
use Rattle.std.specs.Prelude.{map}
use Rattle.std.proofs.lemmas.Bool.{false_from_ne_true}
use Rattle.mux_frame.specs.Spelling.{MuxFrame}
use Rattle.mux_history.specs.Bounds.{Bounds}
use Rattle.mux_history.specs.declared.name.Name.{Name}
use Rattle.mux_history.specs.declared.record.Record.{Record}
use Rattle.mux_history.specs.declared.session.InitMode.{InitMode}
use Rattle.mux_history.specs.declared.session.SessionId.{SessionId}
use Rattle.mux_history.specs.declared.session.SessionId.TheVariants.{Client, Server}
use Rattle.mux_history.specs.declared.kind.RecordKind.{RecordKind}
use Rattle.mux_history.specs.declared.kind.RecordKind.TheVariants.{Settled, SettledNack}
use Rattle.mux_history.specs.Readings.{gives_name, is_offered, is_retried}
use Rattle.mux_agree.specs.Agree.{has, times as told_times, answers, is_refused, is_nacked, is_settled, is_settled_nack, is_replied, is_lost_one}
use Rattle.mux_agree.specs.Walk.{Stop, stops, all_records, client_records, IsFaultless, BearOut}
use Rattle.mux_model.specs.Tags.{holder, name_held}
use Rattle.mux_model.specs.Steps.{Step, entries, records, is_nack}
use Rattle.mux_model.specs.Replay.{are_histories, epochs, all_lead}
use Rattle.mux_model.specs.Legal.{Line, Each, EachStep, EachLine, SomeLine, SomeEntry, IsTakenIn, TakesUnder, SettlesName, IsSettledIn, IsLostIn, HasEnded, IsUnlapsed, IsNamedInTurn, IsCut, replies_on, all_replies, times_on, times_carried, nacks_on, times_nacked, EachWasNacked, bearers}
use Rattle.mux_legal.specs.Tellings.{IsTold}
use Rattle.mux_legal.specs.KeptRuns.{IsRecorded, history_of, IsFairEntry, IsRepliedTo, IsLegalButBodies, KeptRunsAreLegal}
use Rattle.mux_legal.proofs.Nacks.{nacked_carried}
use Rattle.mux_legal.proofs.ToldDown.{ToldDown, told_down, not_both}
use Rattle.mux_legal.proofs.KeptBook.{down_emptied}
use Rattle.mux_legal.proofs.ToldUp.{ToldUp, told_up}
use Rattle.mux_legal.proofs.ToldClients.{Every, IsFounded, client_fair, client_replies, client_named, client_cut, client_gives, client_settles_none, client_loses_none}
use Rattle.mux_legal.proofs.ToldServers.{server_fair, server_unlapsed, server_cut, server_times, server_nacks, server_gives_none, server_settles, server_loses}
use Rattle.mux_legal.proofs.ToldWalk.{found, found_client, times_occurs, total, total_all, occurs_none, EveryStop, every_stop, IsNew, once, IsClear, clear_all, lead_all, each_list, IsAmong, every_and, among, some_record, reply_kinds, replies_are, offered_was_taken, passed_was_replied, offered_few, retried_few, offered_not_nacked, failed_was_lost}
use Rattle.mux_legal.proofs.ToldHolders.{occurs}

-- a list of a side, as its records tell it
abbrev pub Told : ℕ → SessionId → List Step → Type 0
Told b (Client k) steps = (limits : Bounds) × ToldDown (record { limits = limits; boot = b; number = k }) steps
Told b (Server k) steps = (limits : Bounds) × (mode : InitMode) × ToldUp (record { limits = limits; number = k; mode = mode }) steps

told : (b : ℕ) (limits : Bounds) (mode : InitMode) (id : SessionId) (steps : List Step) → are_histories limits b mode id (epochs (records steps)) ≡ true →
    all_lead mode id (records steps) ≡ true → EachStep (IsTold id) steps → Told b id steps
told b limits mode (Client k) steps follow lead t = (limits, told_down limits b mode k (down_emptied (record { limits = limits; boot = b; number = k })) steps t follow lead)
told b limits mode (Server k) steps follow lead t = (limits, mode, told_up limits b mode k steps t follow lead)

abbrev pub ToldLine : Line → Type 0
ToldLine l = Told l.boot l.session l.steps

pub told_lines : (ls : List Line) → EachLine IsRecorded ls → EachLine (λ l. all_lead l.mode l.session (records l.steps) ≡ true) ls → EachLine ToldLine ls
told_lines [] h lead = tt
told_lines (l ∷ ls) h lead = (told l.boot h.0.limits l.mode l.session l.steps h.0.follows lead.0 h.0.told, told_lines ls h.1 lead.1)

-- on each side
fair_at : (ls : List Line) (b : ℕ) (id : SessionId) (steps : List Step) → Told b id steps → Every (IsFounded ls) (records steps) → Each (IsFairEntry ls id) (entries steps)
fair_at ls b (Client k) steps t f = client_fair _ ls t.1 f
fair_at ls b (Server k) steps t f = server_fair _ ls t.2 f

unlapsed_at : (b : ℕ) (id : SessionId) (steps : List Step) → Told b id steps → EachStep (IsUnlapsed id) steps
unlapsed_at b (Client k) steps t = none steps
  where
    none : (xs : List Step) → EachStep (IsUnlapsed (Client k)) xs
    none [] = tt
    none (x ∷ xs) = (tt, none xs)
unlapsed_at b (Server k) steps t = server_unlapsed _ t.2

named_at : (b : ℕ) (id : SessionId) (steps : List Step) → Told b id steps → Each (IsNamedInTurn b id) (entries steps)
named_at b (Client k) steps t = client_named _ t.1
named_at b (Server k) steps t = none steps
  where
    none : (xs : List Step) → Each (IsNamedInTurn b (Server k)) (entries xs)
    none [] = tt
    none (x ∷ xs) = (tt, none xs)

cut_at : (b : ℕ) (id : SessionId) (steps : List Step) → Told b id steps → Each IsCut (entries steps)
cut_at b (Client k) steps t = client_cut _ t.1
cut_at b (Server k) steps t = server_cut _ t.2

replies_at : (n : Name) (b : ℕ) (id : SessionId) (steps : List Step) → Told b id steps → replies_on id n (entries steps) ≤ occurs answers n (records steps)
replies_at n b (Client k) steps t = omega (arith, client_replies _ n t.1)
replies_at n b (Server k) steps t = omega arith

nack_replies : (k : RecordKind) → is_replied k ≡ false → is_settled_nack k ≡ false
nack_replies SettledNack e = absurd (cc)
nack_replies _ e = refl

settled_replies : (k : RecordKind) → is_replied k ≡ false → is_settled k ≡ false
settled_replies (Settled x) e = absurd (cc)
settled_replies _ e = refl

settled_kind : (k : RecordKind) → is_settled k ≡ true → (is_replied k ≡ true) × (is_settled_nack k ≡ false)
settled_kind (Settled x) e = (refl, refl)
settled_kind _ e = absurd (cc)

nack_kind : (k : RecordKind) → is_settled_nack k ≡ true → (is_replied k ≡ true) × (is_settled_nack k ≡ true)
nack_kind SettledNack e = (refl, refl)
nack_kind _ e = absurd (cc)

times_at : (n : Name) (b : ℕ) (id : SessionId) (steps : List Step) → Told b id steps → times_on id n (entries steps) ≤ occurs is_offered n (records steps)
times_at n b (Client k) steps t = omega arith
times_at n b (Server k) steps t = server_times _ n t.2

nacks_at : (n : Name) (b : ℕ) (id : SessionId) (steps : List Step) → Told b id steps → nacks_on id n (entries steps) ≡ occurs is_settled_nack n (records steps)
nacks_at n b (Client k) steps t =
    sym (occurs_none is_settled_nack n (records steps) (false_from_ne_true (has is_settled_nack n (records steps)) (λ h. client_settles_none _ is_settled_nack nack_replies n t.1 h)))
nacks_at n b (Server k) steps t = server_nacks _ n t.2

pub gives_at : (n : Name) (b : ℕ) (id : SessionId) (steps : List Step) → Told b id steps → has gives_name n (records steps) ≡ true →
    (b ≡ n.boot) × (id ≡ Client n.client) × (m : MuxFrame) × SomeEntry (TakesUnder n m) (entries steps)
gives_at n b (Client k) steps t h = (let g = client_gives _ n t.1 h in (g.0, ap Client g.1, g.2, g.3))
gives_at n b (Server k) steps t h = absurd (server_gives_none _ n t.2 h)

-- a kind of record that tells a final reply, a nack or another
record TellsReply (p : RecordKind → Bool) (nack : Bool) : Type 0 where
  comes : (k : RecordKind) → p k ≡ true → (is_replied k ≡ true) × (is_settled_nack k ≡ nack)
  alone : (k : RecordKind) → is_replied k ≡ false → p k ≡ false

of_settled : TellsReply is_settled false
of_settled = record { comes = settled_kind; alone = settled_replies }

of_nack : TellsReply is_settled_nack true
of_nack = record { comes = nack_kind; alone = nack_replies }

settles_at : (p : RecordKind → Bool) (nack : Bool) → TellsReply p nack → (n : Name) (b : ℕ) (id : SessionId) (steps : List Step) → Told b id steps → has p n (records steps) ≡ true →
    (r : MuxFrame) × (is_nack r ≡ nack) × (k : ℕ) × (id ≡ Server k) × SomeEntry (SettlesName (Server k) n r) (entries steps)
settles_at p nack so n b (Client k) steps t h = absurd (client_settles_none _ p so.alone n t.1 h)
settles_at p nack so n b (Server k) steps t h = (let g = server_settles _ p nack so.comes n t.2 h in (g.0, g.1, k, refl, g.2))

loses_at : (n : Name) (b : ℕ) (id : SessionId) (steps : List Step) → Told b id steps → has is_lost_one n (records steps) ≡ true →
    (k : ℕ) × (id ≡ Server k) × HasEnded (entries steps) × (t : ℕ) × (name_held (holder (Server k) t (entries steps)) ≡ Some n)
loses_at n b (Client k) steps t h = absurd (client_loses_none _ n t.1 h)
loses_at n b (Server k) steps t h = (let g = server_loses _ n t.2 h in (k, refl, g.0, g.1, g.2))

-- over all lists
taken_somewhere : (n : Name) (ls : List Line) → EachLine ToldLine ls → SomeLine (λ l. has gives_name n (records l.steps) ≡ true) ls → (m : MuxFrame) × SomeLine (IsTakenIn n m) ls
taken_somewhere n [] t h = absurd h
taken_somewhere n (l ∷ ls) t (inl h) = (let g = gives_at n l.boot l.session l.steps t.0 h in (g.2, inl (g.0, g.1, g.3)))
taken_somewhere n (l ∷ ls) t (inr h) = (let g = taken_somewhere n ls t.1 h in (g.0, inr g.1))

settled_somewhere : (p : RecordKind → Bool) (nack : Bool) → TellsReply p nack → (n : Name) (ls : List Line) → EachLine ToldLine ls → SomeLine (λ l. has p n (records l.steps) ≡ true) ls →
    (r : MuxFrame) × (is_nack r ≡ nack) × SomeLine (IsSettledIn n r) ls
settled_somewhere p nack so n [] t h = absurd h
settled_somewhere p nack so n (l ∷ ls) t (inl h) = (let g = settles_at p nack so n l.boot l.session l.steps t.0 h in (g.0, g.1, inl (g.2, g.3, g.4)))
settled_somewhere p nack so n (l ∷ ls) t (inr h) = (let g = settled_somewhere p nack so n ls t.1 h in (g.0, g.1, inr g.2))

lost_somewhere : (n : Name) (ls : List Line) → EachLine ToldLine ls → SomeLine (λ l. has is_lost_one n (records l.steps) ≡ true) ls → SomeLine (IsLostIn n) ls
lost_somewhere n [] t h = absurd h
lost_somewhere n (l ∷ ls) t (inl h) = inl (loses_at n l.boot l.session l.steps t.0 h)
lost_somewhere n (l ∷ ls) t (inr h) = inr (lost_somewhere n ls t.1 h)

all_replies_most : (n : Name) (ls : List Line) → EachLine ToldLine ls → all_replies n ls ≤ total answers n ls
all_replies_most n [] t = omega arith
all_replies_most n (l ∷ ls) t = omega (arith, replies_at n l.boot l.session l.steps t.0, all_replies_most n ls t.1)

times_carried_most : (n : Name) (ls : List Line) → EachLine ToldLine ls → times_carried n ls ≤ total is_offered n ls
times_carried_most n [] t = omega arith
times_carried_most n (l ∷ ls) t = omega (arith, times_at n l.boot l.session l.steps t.0, times_carried_most n ls t.1)

pub nacks_told : (n : Name) (ls : List Line) → EachLine ToldLine ls → times_nacked n ls ≡ total is_settled_nack n ls
nacks_told n [] t = refl
nacks_told n (l ∷ ls) t = omega (arith, nacks_at n l.boot l.session l.steps t.0, nacks_told n ls t.1)

each_line : (P : Line → Type 0) → ((l : Line) → ToldLine l → P l) → (ls : List Line) → EachLine ToldLine ls → EachLine P ls
each_line P go [] t = tt
each_line P go (l ∷ ls) t = (go l t.0, each_line P go ls t.1)

each_fair : (all ls : List Line) → EachLine ToldLine ls → EachLine (λ l. Every (IsFounded all) (records l.steps)) ls → EachLine (λ l. Each (IsFairEntry all l.session) (entries l.steps)) ls
each_fair all [] t f = tt
each_fair all (l ∷ ls) t f = (fair_at all l.boot l.session l.steps t.0 f.0, each_fair all ls t.1 f.1)

map_stops : (P Q : Stop → Type 0) → ((s : Stop) → P s → Q s) → (ss : List Stop) → EveryStop P ss → EveryStop Q ss
map_stops P Q go [] h = tt
map_stops P Q go (s ∷ ss) h = (go s h.0, map_stops P Q go ss h.1)

module _ (ls : List Line) (recorded : EachLine IsRecorded ls) (out : BearOut (map history_of ls)) where
  abbrev all : List Record
  all = all_records (map history_of ls)

  abbrev clients : List Record
  clients = client_records (map history_of ls)

  met : EveryStop (IsFaultless clients all) (stops [] (map history_of ls))
  met = every_stop (IsFaultless clients all) (stops [] (map history_of ls)) out

  t : EachLine ToldLine ls
  t = told_lines ls recorded (lead_all clients all [] ls met)

  clear : Every (IsClear clients all) all
  clear = clear_all clients all [] (map history_of ls) met

  -- a record that the histories have is clear
  clear_of : (p : RecordKind → Bool) (n : Name) → has p n all ≡ true → (r : Record) × IsClear clients all r × (p r.kind ≡ true) × (r.name ≡ Some n)
  clear_of p n h = some_record (IsClear clients all) p n all clear h

  abbrev offered : Name → ℕ
  offered n = told_times is_offered n all

  abbrev nacked : Name → ℕ
  nacked n = told_times is_settled_nack n all

  none_told : (p : RecordKind → Bool) (n : Name) → has p n all ≡ false → told_times p n all ≡ 0
  none_told p n h = sym (times_occurs p n all) ∙ occurs_none p n all h

  carried_offered : (n : Name) → times_carried n ls ≤ offered n
  carried_offered n = omega (arith, times_carried_most n ls t, total_all is_offered n ls, times_occurs is_offered n all)

  nacked_came : (n : Name) → nacked n ≤ times_nacked n ls
  nacked_came n = omega (arith, nacks_told n ls t, total_all is_settled_nack n ls, times_occurs is_settled_nack n all)

  -- where each offer was nacked, each sending was
  each_nacked : (n : Name) → offered n ≤ nacked n → EachWasNacked ls n
  each_nacked n h = omega (arith, h, carried_offered n, nacked_came n, nacked_carried n ls)

  not_offered : (n : Name) → has is_offered n all ≡ false → EachWasNacked ls n
  not_offered n h = each_nacked n (omega (arith, none_told is_offered n h))

  refused : (n : Name) → has is_refused n all ≡ true → EachWasNacked ls n
  refused n h = by_test (has is_offered n all) refl
    where
      by_test : (b : Bool) → has is_offered n all ≡ b → EachWasNacked ls n
      by_test false e = not_offered n e
      by_test true e = (let c = clear_of is_offered n e in not_both (has is_refused n all) (offered_not_nacked clients all c.0 c.1 n c.3 c.2).0 h)

  unsent : (n : Name) → has is_nacked n all ≡ true → EachWasNacked ls n
  unsent n h = by_test (has is_offered n all) refl
    where
      by_test : (b : Bool) → has is_offered n all ≡ b → EachWasNacked ls n
      by_test false e = not_offered n e
      by_test true e = (let c = clear_of is_offered n e in each_nacked n ((offered_not_nacked clients all c.0 c.1 n c.3 c.2).1 h))

  -- what was passed on is another reply than a nack, or each sending was nacked
  passed : (n : Name) → has is_replied n all ≡ true → offered n ≤ told_times is_replied n all → IsRepliedTo ls n
  passed n h all_replied = by_test (has is_settled n all) refl
    where
      a_nack : has is_settled n all ≡ false → has is_settled_nack n all ≡ true
      a_nack none =
          let x = some_record (IsAmong all) is_replied n all (among all) h in
          elim (reply_kinds x.0.kind x.2) [ inl s ↦ not_both (has is_settled n all) none (x.1 is_settled n s x.3) | inr s ↦ x.1 is_settled_nack n s x.3 ]

      by_test : (b : Bool) → has is_settled n all ≡ b → IsRepliedTo ls n
      by_test true e = (let r = settled_somewhere is_settled false of_settled n ls t (found is_settled n ls e) in (r.0, r.2, λ nack. not_both (is_nack r.0) r.1 nack))
      by_test false e =
          let r = settled_somewhere is_settled_nack true of_nack n ls t (found is_settled_nack n ls (a_nack e)) in (
            r.0,
            r.2,
            λ nack. each_nacked n (omega (
              arith,
              all_replied,
              times_occurs is_replied n all,
              replies_are n all,
              occurs_none is_settled n all e,
              times_occurs is_settled_nack n all,
            )),
          )

  founded : Every (IsFounded ls) all
  founded =
      every_and (IsClear clients all) (IsAmong all) (IsFounded ls)
      (λ r c a. record {
        passed = λ k n is. (let p = passed_was_replied clients all r c n is k in passed n p.0 p.1);
        refused = λ k n is. refused n (a is_refused n k is);
        nacked = λ k n is. unsent n (a is_nacked n k is);
        failed = λ k n is. lost_somewhere n ls t (found is_lost_one n ls (failed_was_lost clients all r c n is k));
        offered = λ k n is. taken_somewhere n ls t (found_client gives_name n ls (offered_was_taken clients all r c n is k));
      }) all clear (among all)

  answered_once : (n : Name) → all_replies n ls ≤ 1
  answered_once n =
      omega (
        arith,
        all_replies_most n ls t,
        total_all answers n ls,
        once answers n (map history_of ls) (map_stops (IsFaultless clients all) (IsNew answers) (λ s f. f.answered_once) (stops [] (map history_of ls)) met),
      )

  -- a name may be sent again as often as it was nacked
  retried : (n : Name) → told_times is_retried n all ≤ nacked n
  retried n = by_test (has is_retried n all) refl
    where
      by_test : (b : Bool) → has is_retried n all ≡ b → told_times is_retried n all ≤ nacked n
      by_test false e = omega (arith, none_told is_retried n e)
      by_test true e = (let c = clear_of is_retried n e in retried_few clients all c.0 c.1 n c.3 c.2)

  sent_again : (n : Name) → times_carried n ls ≤ 1 + times_nacked n ls
  sent_again n = by_test (has is_offered n all) refl
    where
      by_test : (b : Bool) → has is_offered n all ≡ b → times_carried n ls ≤ 1 + times_nacked n ls
      by_test false e = omega (arith, carried_offered n, none_told is_offered n e)
      by_test true e = (let c = clear_of is_offered n e in omega (arith, offered_few clients all c.0 c.1 n c.3 c.2, retried n, carried_offered n, nacked_came n))

  legal : ((b : ℕ) (id : SessionId) → bearers b id ls ≤ 1) → IsLegalButBodies ls
  legal one = record {
    one_connection = one;
    fair = each_fair ls ls t (each_list (IsFounded ls) ls founded);
    unlapsed = each_line (λ l. EachStep (IsUnlapsed l.session) l.steps) (λ l h. unlapsed_at l.boot l.session l.steps h) ls t;
    named = each_line (λ l. Each (IsNamedInTurn l.boot l.session) (entries l.steps)) (λ l h. named_at l.boot l.session l.steps h) ls t;
    sent_again = sent_again;
    answered_once = answered_once;
    cut = each_line (λ l. Each IsCut (entries l.steps)) (λ l h. cut_at l.boot l.session l.steps h) ls t;
  }

pub kept_runs_are_legal : KeptRunsAreLegal
kept_runs_are_legal downs ups ls same one recorded out = legal ls recorded (subst BearOut (sym same) out) one
