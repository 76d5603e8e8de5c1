-- A client's list as its records tell it: five forms of step.
use Rattle.std.proofs.Common.{ℕ, List, [], ◌∷◌, ◌≡◌, ◌&&◌, Bool, true, false, Option, Some, None, Result, Ok, Err, refl, sym, ◌∙◌, ap, subst, ◌+◌, arith, inl, inr}
use Rattle.std.specs.Prelude.{if◌then◌else◌, ◌==◌, is_none, codes, length, nat_lt, nat_le}
use Rattle.std.proofs.lemmas.Bool.{and_parts, eqb-true}
use Rattle.mux_frame.specs.Spelling.{MuxFrame}
use Rattle.mux_message.specs.Kinds.{kind_of, is_dispatch, is_final}
use Rattle.mux_message.specs.declared.fault.MessageFault.{MessageFault}
use Rattle.mux_message.specs.Content.{Content, tdispatch, rdispatch, tdrain, rdrain, tdiscarded, rdiscarded, tlease, tinit, rinit, tping, rping, treq, rreq, rerr, other}
use Rattle.mux_message.specs.Reading.{message_of}
use Rattle.mux_history.specs.Bounds.{Bounds}
use Rattle.mux_history.specs.declared.name.Name.{Name}
use Rattle.mux_history.specs.declared.record.Record.{Record}
use Rattle.mux_history.specs.declared.kind.RecordKind.{RecordKind}
use Rattle.mux_history.specs.declared.kind.RecordKind.TheVariants.{Took, TookDrained, Discarded, Ponged, InitDone, Echoed, OutOfPlace, Unsupported, DrainAcked, Ignored, Noted, Passed, Retried, Nacked, Unrouted, Failed, Late, DrainAsked, Closed, Lost, Recalled, Offered, Settled, SettledNack, Dropped, PingDone, Leased, Drained, InitAsked, Discarding, Clock, Retired, PingSent, LostOne, Epoch, Rolled}
use Rattle.mux_history.specs.declared.kind.Standing.TheVariants.{Down, Up}
use Rattle.mux_history.specs.declared.session.InitMode.{InitMode}
use Rattle.mux_history.specs.declared.session.SessionId.TheVariants.{Client}
use Rattle.mux_history.specs.Readings.{has_ended, gives_name, dispatches, counted, is_named, is_fresh, is_epoch, present, book, stands, is_init_done, tag_of}
use Rattle.mux_history.specs.Standings.{leads_to}
use Rattle.mux_history.proofs.Present.{ended_present, holder_present, dispatches_present}
use Rattle.mux_model.proofs.Epochs.{book_present}
use Rattle.mux_history.specs.Holders.{name_on, held_after, of_named}
use Rattle.mux_agree.specs.Agree.{answers, is_refused, is_nacked, is_replied, is_lost_one}
use Rattle.mux_message.specs.Made.{nack_on, rerr_on, rdiscarded_on}
use Rattle.mux_model.specs.Steps.{Call, Step, records, with_record, discard_in}
use Rattle.mux_model.specs.Down.{DownSession, for_taking, last_seq}
use Rattle.mux_model.specs.Legal.{EachStep, IsDiscardOf, IsOwnAnswer, reading_at}
use Rattle.mux_model.specs.Replay.{on_own_tag, is_open_entry, is_answered_by, is_next_name, finds_down, may_follow, is_down_history, are_histories, all_lead, epochs}
use Rattle.mux_legal.specs.Tellings.{IsDispatchOn, IsFinalOn, IsRerrOn, IsOtherOn, IsNoDispatch, IsNoFinal, TellsDown, IsTold, IsToldBy}
use Rattle.mux_legal.proofs.Basics.{named, not_true, one_if}
use Rattle.mux_legal.proofs.ToldEpochs.{each_epoch, present_history, leads_open}
use Rattle.mux_legal.proofs.Contents.{message_says}

-- which reply a record tells
pub data ReplyKind (r : Record) (k : RecordKind) (taken : Option MuxFrame) (f : MuxFrame) : Type 0 where
  passes : k ≡ Passed → ReplyKind r k taken f
  nacks : is_nacked k ≡ true → f ≡ nack_on r.tag → ReplyKind r k taken f
  unroutes : is_nacked k ≡ true → f ≡ rerr_on r.tag (codes "no route") → ReplyKind r k taken f
  fails : k ≡ Failed → f ≡ rerr_on r.tag (codes "upstream lost") → ReplyKind r k taken f
  discards : f ≡ rdiscarded_on r.tag → IsDiscardOf r.tag taken → ReplyKind r k taken f

-- the router's own answer to a message on this tag that is no Tdispatch
pub record IsOwnOn (t : ℕ) (taken sent : Option MuxFrame) : Type 0 where
  pub message : MuxFrame
  pub reply : MuxFrame
  pub took : taken ≡ Some message
  pub says : sent ≡ Some reply
  pub plain : is_dispatch (kind_of message.kind) ≡ false
  pub on_tag : reply.tag ≡ t
  pub own : IsOwnAnswer (Some message) reply

-- what a step's record tells of it
pub data DownShape (c : DownSession) (past : List Record) (r : Record) (k : RecordKind) (taken sent : Option MuxFrame) : Type 0 where
  takes : gives_name k ≡ true → answers k ≡ false → ((t : ℕ) (x : Option Name) → held_after t r k x ≡ (if r.tag == t then r.name else x)) →
      has_ended past ≡ false → name_on r.tag past ≡ None → of_named (is_next_name c past) r.name ≡ true → IsDispatchOn r.tag taken → sent ≡ None → DownShape c past r k taken sent
  refuses : gives_name k ≡ true → answers k ≡ true → is_refused k ≡ true → ((t : ℕ) (x : Option Name) → held_after t r k x ≡ x) →
      has_ended past ≡ false → name_on r.tag past ≡ None → of_named (is_next_name c past) r.name ≡ true → IsDispatchOn r.tag taken → sent ≡ Some (nack_on r.tag) → DownShape c past r k taken sent
  replies : gives_name k ≡ false → answers k ≡ true → ((t : ℕ) (x : Option Name) → held_after t r k x ≡ (if r.tag == t then None else x)) →
      has_ended past ≡ false → (n : Name) → r.name ≡ Some n → name_on r.tag past ≡ Some n → IsNoDispatch taken →
      (f : MuxFrame) → sent ≡ Some f → is_final (kind_of f.kind) ≡ true → f.tag ≡ r.tag → ReplyKind r k taken f → DownShape c past r k taken sent
  owns : gives_name k ≡ false → answers k ≡ false → ((t : ℕ) (x : Option Name) → held_after t r k x ≡ x) →
      has_ended past ≡ false → name_on r.tag past ≡ None → IsOwnOn r.tag taken sent → DownShape c past r k taken sent
  quiet : gives_name k ≡ false → answers k ≡ false → ((t : ℕ) → held_after t r k (name_on t past) ≡ name_on t past) →
      (has_ended past ≡ true → (taken ≡ None) × (sent ≡ None)) → IsNoDispatch taken → IsNoFinal sent → DownShape c past r k taken sent

-- a list of such steps
pub data ToldDown (c : DownSession) : List Step → Type 0 where
  nothing : ToldDown c []
  more : (call : Call) (r : Record) (taken sent : Option MuxFrame) (old : List Step) →
      r.reading ≡ reading_at (record { call = call; entry = record { rec = Some r; taken = taken; sent = sent } } ∷ old) →
      (is_replied r.kind ≡ false) × (is_lost_one r.kind ≡ false) → dispatches (r ∷ records old) ≡ one_if (gives_name r.kind) + dispatches (records old) →
      (is_epoch r.kind ≡ true → has_ended (records old) ≡ false) → DownShape c (records old) r r.kind taken sent → ToldDown c old →
      ToldDown c (record { call = call; entry = record { rec = Some r; taken = taken; sent = sent } } ∷ old)

pub none_of : (o : Option Name) → is_none o ≡ true → o ≡ None
none_of None e = refl
none_of (Some n) e = absurd (cc)

pub of_some : (p : Name → Bool) (o : Option Name) → of_named p o ≡ true → (n : Name) × (o ≡ Some n) × (p n ≡ true)
of_some p None e = absurd (cc)
of_some p (Some n) e = (n, refl, e)

pub no_dispatch : (m : Option MuxFrame) → m ≡ None → IsNoDispatch m
no_dispatch None e = tt
no_dispatch (Some f) e = absurd (cc)

pub no_final : (m : Option MuxFrame) → m ≡ None → IsNoFinal m
no_final None e = tt
no_final (Some f) e = absurd (cc)

either_none : (b : Bool) → ◌≡◌ {A = Option Name} (if b then None else None) None
either_none true = refl
either_none false = refl

-- a Tdiscarded is no dispatch
discards_kind : (t : ℕ) (why : List ℕ) (f : MuxFrame) (o : Result Content MessageFault) → message_of f ≡ o → discard_in o ≡ Some (t, why) → is_dispatch (kind_of f.kind) ≡ false
discards_kind t why f (Err fault) e d = absurd (cc)
discards_kind t why f (Ok (tdiscarded u w)) e d = sym (ap is_dispatch (message_says f (tdiscarded u w) e).0)
discards_kind t why f (Ok (tdispatch _ _ _ _)) e d = absurd (cc)
discards_kind t why f (Ok (rdispatch _ _ _)) e d = absurd (cc)
discards_kind t why f (Ok tdrain) e d = absurd (cc)
discards_kind t why f (Ok rdrain) e d = absurd (cc)
discards_kind t why f (Ok rdiscarded) e d = absurd (cc)
discards_kind t why f (Ok (tlease _ _)) e d = absurd (cc)
discards_kind t why f (Ok (tinit _ _)) e d = absurd (cc)
discards_kind t why f (Ok (rinit _ _)) e d = absurd (cc)
discards_kind t why f (Ok tping) e d = absurd (cc)
discards_kind t why f (Ok rping) e d = absurd (cc)
discards_kind t why f (Ok (treq _)) e d = absurd (cc)
discards_kind t why f (Ok (rreq _)) e d = absurd (cc)
discards_kind t why f (Ok (rerr _)) e d = absurd (cc)
discards_kind t why f (Ok (other _ _)) e d = absurd (cc)

pub not_both : {P : Type 0} (b : Bool) → b ≡ false → b ≡ true → P
not_both b f t = absurd (let x : false ≡ true = sym f ∙ t in cc)

pub discard_no_dispatch : (t : ℕ) (m : Option MuxFrame) → IsDiscardOf t m → IsNoDispatch m
discard_no_dispatch t None d = tt
discard_no_dispatch t (Some f) d = λ e. not_both (is_dispatch (kind_of f.kind)) (discards_kind t d.0 f (message_of f) refl d.1) e

echoed : (t : ℕ) (taken sent : Option MuxFrame) → IsRerrOn t taken → sent ≡ taken → IsOwnOn t taken sent
echoed t None sent d e = absurd d
echoed t (Some f) sent d e = record { message = f; reply = f; took = refl; says = e; plain = ap is_dispatch d.0; on_tag = d.1; own = inl (refl, d.0) }

erred : (t : ℕ) (why : List ℕ) (taken sent : Option MuxFrame) → ((m : MuxFrame) → m.tag ≡ t → IsOwnAnswer (Some m) (rerr_on t why)) → IsOtherOn t taken → sent ≡ Some (rerr_on t why) → IsOwnOn t taken sent
erred t why None sent own d e = absurd d
erred t why (Some f) sent own d e = record { message = f; reply = rerr_on t why; took = refl; says = e; plain = d.0; on_tag = refl; own = own f d.1 }

module _ (c : DownSession) (past : List Record) where
  going : (n : ℕ) → finds_down c n past ≡ true → has_ended past ≡ false
  going n h = not_true (has_ended past) (and_parts _ _ h).0

  open_entry : (n : Name) → is_open_entry past n ≡ true → (has_ended past ≡ false) × (name_on (tag_of n past) past ≡ Some n)
  open_entry n h = by_test (has_ended past) h
    where
      by_test : (b : Bool) → (if b then false else is_named n (name_on (tag_of n past) past)) ≡ true → (b ≡ false) × (name_on (tag_of n past) past ≡ Some n)
      by_test true h = absurd (cc)
      by_test false h = (refl, named n (name_on (tag_of n past) past) h)

  -- an answer to an open entry, on its own tag
  pub answered : (r : Record) → (p : Name → Bool) → ((n : Name) → p n ≡ true → is_answered_by past n ≡ true) → on_own_tag past r p ≡ true →
      (n : Name) × (r.name ≡ Some n) × (has_ended past ≡ false) × (name_on r.tag past ≡ Some n)
  answered r p is h =
      let a = of_some (λ n. p n && r.tag == tag_of n past) r.name h in
      let b = and_parts _ _ a.2 in
      let o = open_entry a.0 (and_parts _ _ (is a.0 b.0)).1 in
      (a.0, a.1, o.0, ap (λ t. name_on t past) (eqb-true r.tag (tag_of a.0 past) b.1) ∙ o.1)

  -- only a dispatch that is taken opens a tag
  still_none : (r : Record) (k : RecordKind) → may_follow c past r k ≡ true → gives_name k ≡ false → (t : ℕ) → held_after t r k None ≡ None
  still_none r Took m g t = absurd (cc)
  still_none r TookDrained m g t = absurd (cc)
  still_none r (Discarded x) m g t = either_none (r.tag == t)
  still_none r Ponged m g t = refl
  still_none r InitDone m g t = refl
  still_none r Echoed m g t = refl
  still_none r OutOfPlace m g t = refl
  still_none r Unsupported m g t = refl
  still_none r DrainAcked m g t = refl
  still_none r Ignored m g t = refl
  still_none r (Rolled number) m g t = refl
  still_none r (Noted x) m g t = refl
  still_none r Passed m g t = either_none (r.tag == t)
  still_none r Retried m g t = refl
  still_none r Nacked m g t = either_none (r.tag == t)
  still_none r Unrouted m g t = either_none (r.tag == t)
  still_none r Failed m g t = either_none (r.tag == t)
  still_none r (Late x) m g t = refl
  still_none r DrainAsked m g t = refl
  still_none r (Closed x) m g t = refl
  still_none r Lost m g t = refl
  still_none r Recalled m g t = refl
  still_none r Offered m g t = absurd (cc)
  still_none r (Settled x) m g t = absurd (cc)
  still_none r SettledNack m g t = absurd (cc)
  still_none r Dropped m g t = absurd (cc)
  still_none r PingDone m g t = absurd (cc)
  still_none r (Leased x) m g t = absurd (cc)
  still_none r Drained m g t = absurd (cc)
  still_none r InitAsked m g t = absurd (cc)
  still_none r Discarding m g t = absurd (cc)
  still_none r Clock m g t = absurd (cc)
  still_none r Retired m g t = absurd (cc)
  still_none r PingSent m g t = absurd (cc)
  still_none r LostOne m g t = absurd (cc)
  still_none r (Epoch number standing) m g t = refl

  kinds_apart : (r : Record) (k : RecordKind) → may_follow c past r k ≡ true → (is_replied k ≡ false) × (is_lost_one k ≡ false)
  kinds_apart r Took m = (refl, refl)
  kinds_apart r TookDrained m = (refl, refl)
  kinds_apart r (Discarded x) m = (refl, refl)
  kinds_apart r Ponged m = (refl, refl)
  kinds_apart r InitDone m = (refl, refl)
  kinds_apart r Echoed m = (refl, refl)
  kinds_apart r OutOfPlace m = (refl, refl)
  kinds_apart r Unsupported m = (refl, refl)
  kinds_apart r DrainAcked m = (refl, refl)
  kinds_apart r Ignored m = (refl, refl)
  kinds_apart r (Rolled number) m = (refl, refl)
  kinds_apart r (Noted x) m = (refl, refl)
  kinds_apart r Passed m = (refl, refl)
  kinds_apart r Retried m = (refl, refl)
  kinds_apart r Nacked m = (refl, refl)
  kinds_apart r Unrouted m = (refl, refl)
  kinds_apart r Failed m = (refl, refl)
  kinds_apart r (Late x) m = (refl, refl)
  kinds_apart r DrainAsked m = (refl, refl)
  kinds_apart r (Closed x) m = (refl, refl)
  kinds_apart r Lost m = (refl, refl)
  kinds_apart r Recalled m = (refl, refl)
  kinds_apart r Offered m = (refl, refl)
  kinds_apart r (Settled x) m = absurd (cc)
  kinds_apart r SettledNack m = absurd (cc)
  kinds_apart r Dropped m = (refl, refl)
  kinds_apart r PingDone m = (refl, refl)
  kinds_apart r (Leased x) m = (refl, refl)
  kinds_apart r Drained m = (refl, refl)
  kinds_apart r InitAsked m = (refl, refl)
  kinds_apart r Discarding m = (refl, refl)
  kinds_apart r Clock m = (refl, refl)
  kinds_apart r Retired m = (refl, refl)
  kinds_apart r PingSent m = (refl, refl)
  kinds_apart r LostOne m = absurd (cc)
  kinds_apart r (Epoch number standing) m = (refl, refl)

  passed : (r : Record) (taken sent : Option MuxFrame) → (n : Name) × (r.name ≡ Some n) × (has_ended past ≡ false) × (name_on r.tag past ≡ Some n) → (taken ≡ None) × IsFinalOn r.tag sent → DownShape c past r Passed taken sent
  passed r taken None s told = absurd told.1
  passed r taken (Some f) s told = replies refl refl (λ t x. refl) s.2 s.0 s.1 s.3 (no_dispatch taken told.0) f refl told.1.0 told.1.1 (passes refl)

  shape : ((t : ℕ) → is_fresh past ≡ true → name_on t past ≡ None) → (r : Record) (taken sent : Option MuxFrame) (k : RecordKind) → is_epoch k ≡ false → may_follow c past r k ≡ true → TellsDown r k taken sent → DownShape c past r k taken sent
  shape free r taken sent Took p m told = (let a = and_parts _ _ m in let b = and_parts _ _ a.0 in let d = and_parts _ _ b.0 in let e = and_parts _ _ d.0 in let w = and_parts _ _ e.0 in
      takes refl refl (λ t x. refl) (going (for_taking c.limits) w.0) (none_of (name_on r.tag past) d.1) a.1 told.0 told.1)
  shape free r taken sent TookDrained p m told = (let a = and_parts _ _ m in let b = and_parts _ _ a.0 in let d = and_parts _ _ b.0 in let e = and_parts _ _ d.0 in
      refuses refl refl refl (λ t x. refl) (going 1 e.0) (none_of (name_on r.tag past) d.1) a.1 told.0 told.1)
  shape free r taken sent (Discarded x) p m told = (let a = and_parts _ _ m in let s = of_some _ r.name a.1 in
      replies refl refl (λ t x. refl) (going 1 a.0) s.0 s.1 (named s.0 (name_on r.tag past) (and_parts _ _ s.2).0) (discard_no_dispatch r.tag taken told.0) (rdiscarded_on r.tag) told.1 refl refl (discards refl told.0))
  shape free r taken sent Ponged p m told = quiet refl refl (λ t. refl) (λ e. not_both (has_ended past) (going 1 (and_parts _ _ m).0) e) told.0 told.1
  shape free r taken sent InitDone p m told = quiet refl refl (λ t. refl) (λ e. not_both (has_ended past) (going 1 (and_parts _ _ (and_parts _ _ m).0).0) e) told.0 told.1
  shape free r taken sent Echoed p m told = (let a = and_parts _ _ m in owns refl refl (λ t x. refl) (going 1 (and_parts _ _ a.0).0) (free r.tag a.1) (echoed r.tag taken sent told.0 told.1))
  shape free r taken sent OutOfPlace p m told = (let a = and_parts _ _ m in let b = and_parts _ _ a.0 in let d = and_parts _ _ b.0 in owns refl refl (λ t x. refl) (going 1 d.0) (none_of (name_on r.tag past) a.1) (erred r.tag (codes "tinit out of place") taken sent (λ f e. inr (inr (ap (λ u. rerr_on u (codes "tinit out of place")) (sym e)))) told.0 told.1))
  shape free r taken sent Unsupported p m told = (let a = and_parts _ _ m in let b = and_parts _ _ a.0 in let d = and_parts _ _ b.0 in owns refl refl (λ t x. refl) (going 1 d.0) (none_of (name_on r.tag past) a.1) (erred r.tag (codes "unsupported") taken sent (λ f e. inr (inl (ap (λ u. rerr_on u (codes "unsupported")) (sym e)))) told.0 told.1))
  shape free r taken sent DrainAcked p m told = quiet refl refl (λ t. refl) (λ e. not_both (has_ended past) (going 1 (and_parts _ _ (and_parts _ _ m).0).0) e) told.0 told.1
  shape free r taken sent Ignored p m told = quiet refl refl (λ t. refl) (λ e. not_both (has_ended past) (going 1 (and_parts _ _ m).0) e) told.0 told.1
  shape free r taken sent (Noted x) p m told = quiet refl refl (λ t. refl) (λ e. told) (no_dispatch taken told.0) (no_final sent told.1)
  shape free r taken sent Passed p m told = (let s = answered r (is_answered_by past) (λ n h. h) m in passed r taken sent s told)
  shape free r taken sent Retried p m told = quiet refl refl (λ t. refl) (λ e. told) (no_dispatch taken told.0) (no_final sent told.1)
  shape free r taken sent Nacked p m told = (let s = answered r _ (λ n h. (and_parts _ _ h).0) m in
      replies refl refl (λ t x. refl) s.2 s.0 s.1 s.3 (no_dispatch taken told.0) (nack_on r.tag) told.1 refl refl (nacks refl refl))
  shape free r taken sent Unrouted p m told = (let s = answered r _ (λ n h. (and_parts _ _ h).0) m in
      replies refl refl (λ t x. refl) s.2 s.0 s.1 s.3 (no_dispatch taken told.0) (rerr_on r.tag (codes "no route")) told.1 refl refl (unroutes refl refl))
  shape free r taken sent Failed p m told = (let s = answered r (is_answered_by past) (λ n h. h) m in
      replies refl refl (λ t x. refl) s.2 s.0 s.1 s.3 (no_dispatch taken told.0) (rerr_on r.tag (codes "upstream lost")) told.1 refl refl (fails refl refl))
  shape free r taken sent (Late x) p m told = quiet refl refl (λ t. refl) (λ e. told) (no_dispatch taken told.0) (no_final sent told.1)
  shape free r taken sent DrainAsked p m told = quiet refl refl (λ t. refl) (λ e. not_both (has_ended past) (going 1 (and_parts _ _ (and_parts _ _ m).0).0) e) told.0 told.1
  shape free r taken sent (Closed x) p m told = quiet refl refl (λ t. refl) (λ e. told) (no_dispatch taken told.0) (no_final sent told.1)
  shape free r taken sent (Rolled number) p m told = quiet refl refl (λ t. refl) (λ e. told) (no_dispatch taken told.0) (no_final sent told.1)
  shape free r taken sent Lost p m told = quiet refl refl (λ t. refl) (λ e. told) (no_dispatch taken told.0) (no_final sent told.1)
  shape free r taken sent Recalled p m told = quiet refl refl (λ t. refl) (λ e. told) (no_dispatch taken told.0) (no_final sent told.1)
  shape free r taken sent Offered p m told = absurd (cc)
  shape free r taken sent (Settled x) p m told = absurd (cc)
  shape free r taken sent SettledNack p m told = absurd (cc)
  shape free r taken sent Dropped p m told = absurd (cc)
  shape free r taken sent PingDone p m told = absurd (cc)
  shape free r taken sent (Leased x) p m told = absurd (cc)
  shape free r taken sent Drained p m told = absurd (cc)
  shape free r taken sent InitAsked p m told = absurd (cc)
  shape free r taken sent Discarding p m told = absurd (cc)
  shape free r taken sent Clock p m told = absurd (cc)
  shape free r taken sent Retired p m told = absurd (cc)
  shape free r taken sent PingSent p m told = absurd (cc)
  shape free r taken sent LostOne p m told = absurd (cc)
  shape free r taken sent (Epoch number standing) p m told = absurd (cc)

-- an Epoch record forgets the holders, and any other counts on
pub forgets : (t : ℕ) (r : Record) (k : RecordKind) (x : Option Name) → is_epoch k ≡ true → held_after t r k x ≡ None
forgets t r (Epoch number standing) x e = refl
forgets t r _ x e = absurd (cc)

pub counts_on : (k : RecordKind) (d : ℕ) → is_epoch k ≡ false → counted k d ≡ (if gives_name k then d + 1 else d)
counts_on (Epoch number standing) d e = absurd (cc)
counts_on _ d e = refl

-- a list of which nothing was taken holds no tag
fresh_none : (c : DownSession) (past : List Record) → is_down_history c past ≡ true → dispatches past ≡ 0 → (t : ℕ) → name_on t past ≡ None
fresh_none c [] h e t = refl
fresh_none c (r ∷ old) h e t = by_epoch (λ b d. fresh_none c old b d t) (is_epoch r.kind) refl
  where
    follows : (may_follow c old r r.kind ≡ true) × (is_down_history c old ≡ true)
    follows = (let a = and_parts _ _ h in ((and_parts _ _ a.0).0, a.1))

    by_name : (is_down_history c old ≡ true → dispatches old ≡ 0 → name_on t old ≡ None) → (b : Bool) → gives_name r.kind ≡ b → (if b then dispatches old + 1 else dispatches old) ≡ 0 → held_after t r r.kind (name_on t old) ≡ None
    by_name before true g e = absurd (omega (arith, e))
    by_name before false g e = ap (held_after t r r.kind) (before follows.1 e) ∙ still_none c old r r.kind follows.0 g t

    by_epoch : (is_down_history c old ≡ true → dispatches old ≡ 0 → name_on t old ≡ None) → (b : Bool) → is_epoch r.kind ≡ b → held_after t r r.kind (name_on t old) ≡ None
    by_epoch before true p = forgets t r r.kind (name_on t old) p
    by_epoch before false p = by_name before (gives_name r.kind) refl (sym (counts_on r.kind (dispatches old) p) ∙ e)

fresh : (c : DownSession) (past : List Record) → is_down_history c past ≡ true → (t : ℕ) → is_fresh past ≡ true → name_on t past ≡ None
fresh c past h t f = by_test (stands is_init_done past) f
  where
    by_test : (b : Bool) → (if b then false else dispatches past == 0) ≡ true → name_on t past ≡ None
    by_test true f = absurd (cc)
    by_test false f = fresh_none c past h (eqb-true (dispatches past) 0 f) t

-- the same of all epochs as of the present one
module _ (c : DownSession) (rs : List Record) where
  over : has_ended (present rs) ≡ has_ended rs
  over = ended_present rs

  on : (t : ℕ) → name_on t (present rs) ≡ name_on t rs
  on t = holder_present t rs

  next_names : (o : Option Name) → of_named (is_next_name c (present rs)) o ≡ of_named (is_next_name c rs) o
  next_names None = refl
  next_names (Some n) = ap (λ d. n.boot == c.boot && n.client == c.number && n.seq == d + 1 && nat_le n.seq last_seq) (dispatches_present rs)

  carry : (r : Record) (k : RecordKind) (taken sent : Option MuxFrame) → DownShape c (present rs) r k taken sent → DownShape c rs r k taken sent
  carry r k taken sent (takes g a held going f next asks none) = takes g a held (sym over ∙ going) (sym (on r.tag) ∙ f) (sym (next_names r.name) ∙ next) asks none
  carry r k taken sent (refuses g a u held going f next asks nack) = refuses g a u held (sym over ∙ going) (sym (on r.tag) ∙ f) (sym (next_names r.name) ∙ next) asks nack
  carry r k taken sent (replies g a held going n is under plain f says final tag kind) = replies g a held (sym over ∙ going) n is (sym (on r.tag) ∙ under) plain f says final tag kind
  carry r k taken sent (owns g a held going f own) = owns g a held (sym over ∙ going) (sym (on r.tag) ∙ f) own
  carry r k taken sent (quiet g a held cut plain silent) = quiet g a (λ t. subst (λ x. held_after t r k x ≡ x) (on t) (held t)) (λ e. cut (over ∙ e)) plain silent

-- a client's session that holds no dispatch and goes on has no open tag
abbrev pub IsEmptied : DownSession → Type 0
IsEmptied c = (past : List Record) → is_down_history c past ≡ true → has_ended past ≡ false → nat_lt (length (book past)) 1 ≡ true → (t : ℕ) → name_on t past ≡ None

none_more : (d : ℕ) → 0 + d ≡ d
none_more d = omega arith

module _ (mode : InitMode) (c : DownSession) (empty : IsEmptied c) (old : List Record) (history : is_down_history c (present old) ≡ true) (r : Record) where
  -- what an Epoch record is led to by
  sealed : (taken sent : Option MuxFrame) (k : RecordKind) → is_epoch k ≡ true → leads_to mode (Client c.number) old r k ≡ true → TellsDown r k taken sent →
      DownShape c old r k taken sent × (counted k (dispatches old) ≡ one_if (gives_name k) + dispatches old)
  sealed taken sent (Epoch number (Down fresh drain dispatched)) p lead told =
      let a = and_parts _ _ lead in
      let going = leads_open mode (Client c.number) old r (Epoch number (Down fresh drain dispatched)) lead refl in
      let so = and_parts _ _ a.1 in
      let same = and_parts _ _ (and_parts _ _ so.1).0 in
      let none : (t : ℕ) → name_on t old ≡ None = λ t. sym (on c old t) ∙ empty (present old) history (over c old ∙ going) (ap (λ ns. nat_lt (length ns) 1) (book_present old) ∙ so.0) t in
      (quiet refl refl (λ t. sym (none t)) (λ e. told) (no_dispatch taken told.0) (no_final sent told.1), eqb-true dispatched (dispatches old) same.0 ∙ sym (none_more (dispatches old)))
  sealed taken sent (Epoch number (Up init drained retired ping leased lapse)) p lead told = not_both false refl (and_parts _ _ (and_parts _ _ lead).1).1
  sealed taken sent _ p lead told = absurd (cc)

  counts_more : (k : RecordKind) → is_epoch k ≡ false → counted k (dispatches old) ≡ one_if (gives_name k) + dispatches old
  counts_more k p = counts_on k (dispatches old) p ∙ by_test (gives_name k)
    where
      by_test : (b : Bool) → (if b then dispatches old + 1 else dispatches old) ≡ one_if b + dispatches old
      by_test true = omega arith
      by_test false = omega arith

  -- a record of any kind
  joined : (taken sent : Option MuxFrame) → is_down_history c (r ∷ (if is_epoch r.kind then [] else present old)) ≡ true → leads_to mode (Client c.number) old r r.kind ≡ true → TellsDown r r.kind taken sent →
      DownShape c old r r.kind taken sent × (counted r.kind (dispatches old) ≡ one_if (gives_name r.kind) + dispatches old)
  joined taken sent h lead told = by_epoch (is_epoch r.kind) refl h
    where
      by_epoch : (b : Bool) → is_epoch r.kind ≡ b → is_down_history c (r ∷ (if b then [] else present old)) ≡ true → DownShape c old r r.kind taken sent × (counted r.kind (dispatches old) ≡ one_if (gives_name r.kind) + dispatches old)
      by_epoch true p h = sealed taken sent r.kind p lead told
      by_epoch false p h =
          let m = (and_parts _ _ (and_parts _ _ h).0).0 in
          (carry c old r r.kind taken sent (shape c (present old) (fresh c (present old) history) r taken sent r.kind p m told), counts_more r.kind p)

-- a recorded list of a client is such a list
module _ (limits : Bounds) (b : ℕ) (mode : InitMode) (k : ℕ) where
  abbrev client : DownSession
  client = record { limits = limits; boot = b; number = k }

  pub told_down : IsEmptied client → (steps : List Step) → EachStep (IsTold (Client k)) steps → are_histories limits b mode (Client k) (epochs (records steps)) ≡ true →
      all_lead mode (Client k) (records steps) ≡ true → ToldDown client steps
  told_down empty [] told h lead = nothing
  told_down empty (s ∷ old) told h lead = by_record (told_down empty old told.1) s.entry.rec refl told.0 h lead
    where
      last_history : are_histories limits b mode (Client k) (epochs (records old)) ≡ true → is_down_history client (present (records old)) ≡ true
      last_history h = present_history limits b mode (Client k) (records old) h

      by_record : (are_histories limits b mode (Client k) (epochs (records old)) ≡ true → all_lead mode (Client k) (records old) ≡ true → ToldDown client old) → (o : Option Record) → s.entry.rec ≡ o →
          IsToldBy (Client k) s old o → are_histories limits b mode (Client k) (epochs (with_record o (records old))) ≡ true → all_lead mode (Client k) (with_record o (records old)) ≡ true → ToldDown client (s ∷ old)
      by_record rest None e t h lead = absurd t
      by_record rest (Some r) e t h lead =
          let a = each_epoch limits b mode (Client k) r (records old) h in
          let l = and_parts _ _ lead in
          let m = (and_parts _ _ (and_parts _ _ a.0).0).0 in
          let y = joined mode client empty (records old) (last_history a.1) r s.entry.taken s.entry.sent a.0 l.0 t.1 in
          let x =
          more s.call r s.entry.taken s.entry.sent old t.0 (kinds_apart client (if is_epoch r.kind then [] else present (records old)) r r.kind m) y.1
          (leads_open mode (Client k) (records old) r r.kind l.0) y.0 (rest a.1 l.1) in
          subst (λ o. ToldDown client (record { call = s.call; entry = record { rec = o; taken = s.entry.taken; sent = s.entry.sent } } ∷ old)) (sym e) x
