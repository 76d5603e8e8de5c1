-- In a client's session the records name the holders.
use Rattle.std.proofs.Common.{◌+◌, length, ℕ, List, [], ◌∷◌, ◌≡◌, inl, inr, Bool, true, false, Option, Some, None, refl, sym, ◌∙◌, ap, max}
use Rattle.std.specs.Prelude.{if◌then◌else◌, ◌==◌, nat_lt, codes}
use Rattle.std.proofs.lemmas.Bool.{eqb-true}
use Rattle.mux_frame.specs.Spelling.{MuxFrame}
use Rattle.mux_message.specs.Kinds.{kind_of, is_dispatch, is_final}
use Rattle.mux_history.specs.declared.name.Name.{Name}
use Rattle.mux_history.specs.declared.record.Record.{Record}
use Rattle.mux_history.specs.declared.kind.RecordKind.{RecordKind}
use Rattle.mux_history.specs.Standings.{down_standing}
use Rattle.mux_history.specs.declared.kind.RecordKind.TheVariants.{Retried, Discarded, Late, Noted, Recalled, Lost, DrainAsked, Closed, Ponged, InitDone, DrainAcked, Ignored, OutOfPlace, Unsupported, Echoed, Rolled}
use Rattle.mux_history.specs.declared.session.SessionId.{SessionId}
use Rattle.mux_history.specs.declared.session.SessionId.TheVariants.{Client, Server}
use Rattle.mux_model.specs.Entries.{Exchange}
use Rattle.mux_model.specs.Tags.{name_held, name_in, Holder, holder, asked}
use Rattle.mux_history.specs.Readings.{epoch_of, tag_of, is_named, has_ended, reading, stands, is_init_done, is_fresh, dispatches, book, is_epoch, gives_name, is_took, answer_kind}
use Rattle.mux_history.specs.Holders.{name_on, held_after}
use Rattle.mux_model.specs.Steps.{Call, Step, entries, records, with_record, Outcome, entry_of, sealing}
use Rattle.mux_message.specs.Made.{tdrain_on, nack_on, rerr_on, rdiscarded_on, rping_on, rinit_on}
use Rattle.mux_message.proofs.NormalKinds.{kind_normal}
use Rattle.mux_model.specs.Down.{DownSession, Reaction, Shut, Full, Short, Closes, NacksDrained, Takes, Pongs, Inits, Misplaced, Unsupports, Echoes, Acks, Ignores, Discards, reacted, discarded, recall_to, noted_place, some_of, next_name, is_held, down}
use Rattle.mux_model.specs.Legal.{Line, SomeEntry, SomeLine, IsSettledIn, SettlesName, OnDispatch}
use Rattle.mux_legal.proofs.Basics.{OnRecorded, on_both}
use Rattle.mux_legal.proofs.Sound.{asked_other}
use Rattle.mux_model.specs.Runs.{IsLinked}
use Rattle.mux_legal.proofs.Link.{Links, answered_free, answered_frees, asked_takes, still, frees_down, silent, rec_of, IsNamed, named_asked, named_answered, no_holder, open_none}
use Rattle.mux_legal.proofs.HeldDue.{AreDue, due_still, due_freed, due_answered, due_late, due_took, due_drained, due_epoch, none_held, none_fresh}
use Rattle.mux_legal.proofs.DownShapes.{down_shapes, Answers, passes, fails, nacks, unroutes, given_by, FactsOf, CallBorne}

-- a reply in hand is a final one
entry_final : (id : SessionId) (n : Name) (r : MuxFrame) (es : List Exchange) → SomeEntry (SettlesName id n r) es → is_final (kind_of r.kind) ≡ true
entry_final id n r [] s = absurd s
entry_final id n r (e ∷ es) (inl p) = p.1
entry_final id n r (e ∷ es) (inr s) = entry_final id n r es s

pub settled_final : (n : Name) (r : MuxFrame) (ls : List Line) → SomeLine (IsSettledIn n r) ls → is_final (kind_of r.kind) ≡ true
settled_final n r [] s = absurd s
settled_final n r (l ∷ ls) (inl p) = entry_final (Server p.0) n r (entries l.steps) p.2
settled_final n r (l ∷ ls) (inr s) = settled_final n r ls s

-- what a client's list keeps of its tags: the records name who holds them, and each who holds one is due an answer
pub record IsTiedDown (c : DownSession) (past : List Step) : Type 0 where
  pub linked : IsLinked (Client c.number) past
  pub names : (t : ℕ) → IsNamed (holder (Client c.number) t (entries past))
  pub due : AreDue (records past)

module _ (c : DownSession) (past : List Step) (old : IsTiedDown c past) where
  abbrev Q : Outcome → Type 0
  Q x = OnRecorded x (λ e gives. Links (Client c.number) past e)

  abbrev rs : List Record
  rs = records past

  linked : IsLinked (Client c.number) past
  linked = old.linked

  abbrev H : ℕ → Option Holder
  H t = holder (Client c.number) t (entries past)

  discarded_links : (f : MuxFrame) (now t : ℕ) (why : List ℕ) → is_dispatch (kind_of f.kind) ≡ false → (o : Option Name) → Q (discarded past now f t why o)
  discarded_links f now t why h None =
      frees_down c.number past linked (rec_of past now (Discarded false) t None) (rdiscarded_on t) (Some f) (λ u x. refl)
      (λ u. asked_other u (record { place = length (entries past); name = None }) f (H u) h) refl refl
  discarded_links f now t why h (Some n) =
      frees_down c.number past linked (rec_of past now (Discarded (some_of (recall_to n why (noted_place n past)))) t (Some n)) (rdiscarded_on t) (Some f) (λ u x. refl)
      (λ u. asked_other u (record { place = length (entries past); name = Some n }) f (H u) h) refl refl

  -- no tag is held before a name is given
  fresh_free : has_ended rs ≡ false → is_fresh rs ≡ true → (t : ℕ) → H t ≡ None
  fresh_free going fresh t = no_holder (H t) (old.names t) (sym (linked t) ∙ none_fresh rs old.due going (no_name (stands is_init_done rs) (dispatches rs) fresh) t)
    where
      no_name : (b : Bool) (d : ℕ) → (if b then false else d == 0) ≡ true → d ≡ 0
      no_name true d e = absurd (cc)
      no_name false d e = eqb-true d 0 e

  reacted_links : (going : has_ended (records past) ≡ false) (f : MuxFrame) (now : ℕ) (r : Reaction) → FactsOf c past f r → Q (reacted c past f now r)
  reacted_links going f now Shut h = tt
  reacted_links going f now Full h = tt
  reacted_links going f now Short h = tt
  reacted_links going f now (Closes cause) h = still (Client c.number) past linked now (Closed cause) 0 None None None (λ t x. refl) (λ t. refl)
  reacted_links going f now Pongs h = still (Client c.number) past linked now Ponged f.tag None (Some f) (Some (rping_on f.tag)) (λ t x. refl) (λ t. asked_other t (record { place = length (entries past); name = None }) f (H t) h)
  reacted_links going f now Inits h = still (Client c.number) past linked now InitDone f.tag None (Some f) (Some (rinit_on f.tag)) (λ t x. refl) (λ t. asked_other t (record { place = length (entries past); name = None }) f (H t) h)
  reacted_links going f now Acks h = still (Client c.number) past linked now DrainAcked f.tag None (Some f) None (λ t x. refl) (λ t. asked_other t (record { place = length (entries past); name = None }) f (H t) h)
  reacted_links going f now Ignores h = still (Client c.number) past linked now Ignored f.tag None (Some f) None (λ t x. refl) (λ t. asked_other t (record { place = length (entries past); name = None }) f (H t) h)
  reacted_links going f now Misplaced h =
      still (Client c.number) past linked now OutOfPlace f.tag None (Some f) (Some (rerr_on f.tag (codes "tinit out of place"))) (λ t x. refl)
      (λ t. answered_free (rerr_on f.tag (codes "tinit out of place")) (λ u. asked u (record { place = length (entries past); name = None }) (Some f) (H u)) (λ _. asked_other f.tag (record { place = length (entries past); name = None }) f (H f.tag) h.0 ∙ open_none _ h.1) t ∙ asked_other t (record { place = length (entries past); name = None }) f (H t) h.0)
  reacted_links going f now Unsupports h =
      still (Client c.number) past linked now Unsupported f.tag None (Some f) (Some (rerr_on f.tag (codes "unsupported"))) (λ t x. refl)
      (λ t. answered_free (rerr_on f.tag (codes "unsupported")) (λ u. asked u (record { place = length (entries past); name = None }) (Some f) (H u)) (λ _. asked_other f.tag (record { place = length (entries past); name = None }) f (H f.tag) h.0 ∙ open_none _ h.1) t ∙ asked_other t (record { place = length (entries past); name = None }) f (H t) h.0)
  reacted_links going f now Echoes h =
      still (Client c.number) past linked now Echoed f.tag None (Some f) (Some f) (λ t x. refl)
      (λ t. answered_free f (λ u. asked u (record { place = length (entries past); name = None }) (Some f) (H u)) (λ _. asked_other f.tag (record { place = length (entries past); name = None }) f (H f.tag) h.0 ∙ fresh_free going h.2 f.tag) t ∙ asked_other t (record { place = length (entries past); name = None }) f (H t) h.0)
  reacted_links going f now (Discards t why) h = discarded_links f now t why h.0 (name_held (H t))
  reacted_links going f now Takes h = λ t.
      ap (λ x. if f.tag == t then Some (next_name c past) else x) (linked t) ∙ sym (asked_takes (record { place = length (entries past); name = Some (next_name c past) }) f (H t) t h.0)
  reacted_links going f now NacksDrained h = λ t.
      linked t ∙ (by_test t (f.tag == t) (eqb-true f.tag t) ∙ (ap (λ x. if f.tag == t then None else x) (sym (asked_takes (record { place = length (entries past); name = Some (next_name c past) }) f (H t) t h.0))
      ∙ sym (answered_frees (nack_on f.tag) (asked t (record { place = length (entries past); name = Some (next_name c past) }) (Some f) (H t)) t refl)))
    where
      by_test : (t : ℕ) (b : Bool) → (b ≡ true → f.tag ≡ t) → name_held (H t) ≡ (if b then None else (if b then Some (next_name c past) else name_held (H t)))
      by_test t true g = ap (λ u. name_held (H u)) (sym (g refl)) ∙ ap (λ (x : Option Holder). name_held x) (open_none _ h.1)
      by_test t false g = refl

  answer_links : (n : Name) (kind : RecordKind) (reply : ℕ → MuxFrame) (t : ℕ) →
      ((u : ℕ) (x : Option Name) → held_after u (rec_of past 0 kind t (Some n)) kind x ≡ (if t == u then None else x)) → (reply t).tag ≡ t → is_final (kind_of (reply t).kind) ≡ true →
      Links (Client c.number) past (entry_of (records past) 0 kind t (Some n) None (Some (reply t)))
  answer_links n kind reply t frees on_tag final = frees_down c.number past linked (rec_of past 0 kind t (Some n)) (reply t) None frees (λ u. refl) on_tag final

  answered_links : (ls : List Line) (call : Call) (n : Name) (kind : RecordKind) (whole : Bool) (reply : ℕ → MuxFrame) → Answers ls n call kind whole reply → (t : ℕ) →
      Links (Client c.number) past (entry_of (records past) 0 kind t (Some n) None (Some (reply t)))
  answered_links ls call n kind whole reply (passes r again b) t = answer_links n kind reply t (λ u x. refl) refl (ap is_final (kind_normal r.kind) ∙ settled_final n r ls b)
  answered_links ls call n kind whole reply (fails b) t = answer_links n kind reply t (λ u x. refl) refl refl
  answered_links ls call n kind whole reply nacks t = answer_links n kind reply t (λ u x. refl) refl refl
  answered_links ls call n kind whole reply unroutes t = answer_links n kind reply t (λ u x. refl) refl refl

  sealed_links : has_ended rs ≡ false → nat_lt 0 (length (book rs)) ≡ false → Links (Client c.number) past (sealing rs (down_standing rs))
  sealed_links going empty = λ t. sym (none_held rs old.due going empty t) ∙ linked t

  -- after every step the records name the holders
  pub down_links : (ls : List Line) (out : ℕ) (call : Call) → CallBorne ls call → Q (down c past out call)
  down_links ls =
      down_shapes ls c past (λ call e gives. Links (Client c.number) past e) (λ out f now going r is led facts. reacted_links going f now r facts)
      (λ n server tag mine due. silent (Client c.number) past linked 0 (Noted (some_of (given_by c past n server tag))) (tag_of n (records past)) (Some n) (λ u x. refl))
      (λ call n kind whole reply a zero mine due note held. answered_links ls call n kind whole reply a (tag_of n (records past)))
      (λ call n kind whole reply a zero mine due note held. silent (Client c.number) past linked 0 (Late whole) (tag_of n (records past)) (Some n) (λ u x. refl))
      (λ n reply f b copy mine due nack held note left. silent (Client c.number) past linked 0 Retried (tag_of n (records past)) (Some n) (λ u x. refl))
      (λ going new room. still (Client c.number) past linked 0 DrainAsked 1 None None (Some (tdrain_on 1)) (λ u x. refl) (λ u. refl))
      (λ now going. silent (Client c.number) past linked now Lost 0 None (λ u x. refl))
      (λ n over e. silent (Client c.number) past linked 0 Recalled (tag_of n (records past)) (Some n) (λ u x. refl))
      (λ going empty out quiet room few. sealed_links going empty)
      (λ going fits few. silent (Client c.number) past linked 0 (Rolled (epoch_of rs + 1)) 0 None (λ u x. refl))

  -- each dispatch that is taken has a name
  abbrev Names : Exchange → Type 0
  Names e = OnDispatch e.taken (λ f. (n : Name) × (name_in e.rec ≡ Some n))

  no_dispatch : (o : Option Name) (f : MuxFrame) → is_dispatch (kind_of f.kind) ≡ false → is_dispatch (kind_of f.kind) ≡ true → (n : Name) × (o ≡ Some n)
  no_dispatch o f other is = absurd (let x : false ≡ true = sym other ∙ is in cc)

  discarded_names : (f : MuxFrame) (now t : ℕ) (why : List ℕ) → is_dispatch (kind_of f.kind) ≡ false → (o : Option Name) → OnRecorded (discarded past now f t why o) (λ e gives. Names e)
  discarded_names f now t why h None = no_dispatch _ f h
  discarded_names f now t why h (Some n) = no_dispatch _ f h

  reacted_names : (f : MuxFrame) (now : ℕ) (r : Reaction) → FactsOf c past f r → OnRecorded (reacted c past f now r) (λ e gives. Names e)
  reacted_names f now Shut h = tt
  reacted_names f now Full h = tt
  reacted_names f now Short h = tt
  reacted_names f now (Closes cause) h = tt
  reacted_names f now Pongs h = no_dispatch _ f h
  reacted_names f now Inits h = no_dispatch _ f h
  reacted_names f now Acks h = no_dispatch _ f h
  reacted_names f now Ignores h = no_dispatch _ f h
  reacted_names f now Misplaced h = no_dispatch _ f h.0
  reacted_names f now Unsupports h = no_dispatch _ f h.0
  reacted_names f now Echoes h = no_dispatch _ f h.0
  reacted_names f now (Discards t why) h = discarded_names f now t why h.0 (name_held (H t))
  reacted_names f now Takes h = λ d. (next_name c past, refl)
  reacted_names f now NacksDrained h = λ d. (next_name c past, refl)

  down_names : (ls : List Line) (out : ℕ) (call : Call) → CallBorne ls call → OnRecorded (down c past out call) (λ e gives. Names e)
  down_names ls =
      down_shapes ls c past (λ call e gives. Names e) (λ out f now going r is led facts. reacted_names f now r facts) (λ n server tag mine due. tt)
      (λ call n kind whole reply a zero mine due note held. tt) (λ call n kind whole reply a zero mine due note held. tt) (λ n reply f b copy mine due nack held note left. tt)
      (λ going new room. tt) (λ now going. tt) (λ n over e. tt) (λ going empty out quiet room few. tt) (λ going fits few. tt)

  -- each who holds a tag is due an answer
  abbrev Dues : Exchange → Type 0
  Dues e = AreDue (with_record e.rec rs)

  due_neutral : (r : Record) → is_epoch r.kind ≡ false → gives_name r.kind ≡ false → is_took r.kind ≡ false → ((t : ℕ) (x : Option Name) → held_after t r r.kind x ≡ x) → ((x : Bool) → answer_kind r.kind x ≡ x) → AreDue (r ∷ rs)
  due_neutral r e g t holds neutral = due_still rs r old.due e g t holds neutral

  discarded_dues : (f : MuxFrame) (now t : ℕ) (why : List ℕ) (o : Option Name) → OnRecorded (discarded past now f t why o) (λ e gives. Dues e)
  discarded_dues f now t why None = due_freed rs _ old.due refl refl refl (λ u x. refl) (λ x. refl)
  discarded_dues f now t why (Some n) = due_freed rs _ old.due refl refl refl (λ u x. refl) (λ x. refl)

  reacted_dues : (f : MuxFrame) (now : ℕ) (r : Reaction) → OnRecorded (reacted c past f now r) (λ e gives. Dues e)
  reacted_dues f now Shut = tt
  reacted_dues f now Full = tt
  reacted_dues f now Short = tt
  reacted_dues f now (Closes cause) = due_neutral _ refl refl refl (λ t x. refl) (λ x. refl)
  reacted_dues f now Pongs = due_neutral _ refl refl refl (λ t x. refl) (λ x. refl)
  reacted_dues f now Inits = due_neutral _ refl refl refl (λ t x. refl) (λ x. refl)
  reacted_dues f now Acks = due_neutral _ refl refl refl (λ t x. refl) (λ x. refl)
  reacted_dues f now Ignores = due_neutral _ refl refl refl (λ t x. refl) (λ x. refl)
  reacted_dues f now Misplaced = due_neutral _ refl refl refl (λ t x. refl) (λ x. refl)
  reacted_dues f now Unsupports = due_neutral _ refl refl refl (λ t x. refl) (λ x. refl)
  reacted_dues f now Echoes = due_neutral _ refl refl refl (λ t x. refl) (λ x. refl)
  reacted_dues f now (Discards t why) = discarded_dues f now t why (name_held (H t))
  reacted_dues f now Takes = due_took rs f.tag (max (reading rs) now) (next_name c past) refl old.due
  reacted_dues f now NacksDrained = due_drained rs f.tag (max (reading rs) now) (next_name c past) refl old.due

  answered_dues : (ls : List Line) (call : Call) (n : Name) (kind : RecordKind) (whole : Bool) (reply : ℕ → MuxFrame) → Answers ls n call kind whole reply →
      AreDue (rec_of past 0 kind (tag_of n rs) (Some n) ∷ rs)
  answered_dues ls call n kind whole reply (passes r again b) = due_answered rs _ old.due refl refl refl (λ u x. refl) n refl refl
  answered_dues ls call n kind whole reply (fails b) = due_answered rs _ old.due refl refl refl (λ u x. refl) n refl refl
  answered_dues ls call n kind whole reply nacks = due_answered rs _ old.due refl refl refl (λ u x. refl) n refl refl
  answered_dues ls call n kind whole reply unroutes = due_answered rs _ old.due refl refl refl (λ u x. refl) n refl refl

  unheld : (n : Name) → is_held c n past ≡ false → has_ended rs ≡ false → is_named n (name_on (tag_of n rs) rs) ≡ false
  unheld n held going = ap (is_named n) (linked (tag_of n rs)) ∙ (sym (λ i. if going i then false else is_named n (name_held (H (tag_of n rs)))) ∙ held)

  down_dues : (ls : List Line) (out : ℕ) (call : Call) → CallBorne ls call → OnRecorded (down c past out call) (λ e gives. Dues e)
  down_dues ls =
      down_shapes ls c past (λ call e gives. Dues e) (λ out f now going r is led facts. reacted_dues f now r)
      (λ n server tag mine due. due_neutral _ refl refl refl (λ t x. refl) (λ x. refl))
      (λ call n kind whole reply a zero mine due note held. answered_dues ls call n kind whole reply a)
      (λ call n kind whole reply a zero mine due note held. due_late rs _ old.due refl refl refl (λ u x. refl) n refl (unheld n held))
      (λ n reply f b copy mine due nack held note left. due_neutral _ refl refl refl (λ t x. refl) (λ x. refl))
      (λ going new room. due_neutral _ refl refl refl (λ t x. refl) (λ x. refl)) (λ now going. due_neutral _ refl refl refl (λ t x. refl) (λ x. refl))
      (λ n over e. due_neutral _ refl refl refl (λ t x. refl) (λ x. refl)) (λ going empty out quiet room few. due_epoch rs _ (λ t. refl))
      (λ going fits few. due_neutral _ refl refl refl (λ t x. refl) (λ x. refl))

  -- every step keeps it so
  pub down_ties : (ls : List Line) (out : ℕ) (call : Call) → CallBorne ls call → OnRecorded (down c past out call) (λ e gives. IsTiedDown c (record { call = call; entry = e } ∷ past))
  down_ties ls out call b =
      on_both (down c past out call) (λ e gives. Links (Client c.number) past e) (λ e gives. Names e × Dues e) (λ e gives. IsTiedDown c (record { call = call; entry = e } ∷ past))
      (λ e gives links more. record {
        linked = links;
        names = λ t. named_answered t e.sent (asked t (record { place = length (entries past); name = name_in e.rec }) e.taken (H t))
            (named_asked t (record { place = length (entries past); name = name_in e.rec }) e.taken (H t) more.0 (old.names t));
        due = more.1;
      })
      (down_links ls out call b)
      (on_both (down c past out call) (λ e gives. Names e) (λ e gives. Dues e) (λ e gives. Names e × Dues e) (λ e gives names dues. (names, dues)) (down_names ls out call b) (down_dues ls out call b))

-- nothing is held at the beginning
pub first_tied : (c : DownSession) → IsTiedDown c []
first_tied c = record { linked = λ t. refl; names = λ t. tt; due = λ going t n e. absurd (cc) }
