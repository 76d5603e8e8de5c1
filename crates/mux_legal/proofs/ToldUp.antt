-- A server's list as its records tell it: three forms of step.
use Rattle.std.proofs.Common.{ℕ, List, [], ◌∷◌, ◌≡◌, ◌&&◌, ◌||◌, Bool, true, false, not, Option, Some, None, Result, Ok, Err, refl, sym, ◌∙◌, ap, subst}
use Rattle.std.specs.Prelude.{if◌then◌else◌, ◌==◌, length, nat_lt, is_some, unwrap_or}
use Rattle.std.proofs.lemmas.Bool.{and_parts, eqb-true}
use Rattle.mux_frame.specs.Spelling.{MuxFrame}
use Rattle.mux_message.specs.Kinds.{kind_of, is_final}
use Rattle.mux_message.specs.declared.fault.MessageFault.{MessageFault}
use Rattle.mux_message.specs.Content.{Content, tdispatch, rdispatch, tdrain, rdrain, tdiscarded, rdiscarded, tlease, tinit, rinit, tping, rping, treq, rreq, rerr, other}
use Rattle.mux_message.specs.Reading.{message_of}
use Rattle.mux_history.specs.Bounds.{Bounds}
use Rattle.mux_history.specs.declared.name.Name.{Name}
use Rattle.mux_history.specs.declared.record.Record.{Record}
use Rattle.mux_history.specs.declared.kind.RecordKind.{RecordKind}
use Rattle.mux_history.specs.declared.kind.RecordKind.TheVariants.{Took, TookDrained, Discarded, Ponged, InitDone, Echoed, OutOfPlace, Unsupported, DrainAcked, Ignored, Noted, Passed, Retried, Nacked, Unrouted, Failed, Late, DrainAsked, Closed, Lost, Recalled, Offered, Settled, SettledNack, Dropped, PingDone, Leased, Drained, InitAsked, Discarding, Clock, Retired, PingSent, LostOne, Epoch, Rolled}
use Rattle.mux_history.specs.declared.kind.Standing.TheVariants.{Down, Up}
use Rattle.mux_history.specs.declared.session.InitMode.{InitMode}
use Rattle.mux_history.specs.declared.session.SessionId.TheVariants.{Server}
use Rattle.mux_history.specs.Lapse.{leased, has_lapsed, lease_of, lease_after}
use Rattle.mux_history.specs.Readings.{has_ended, gives_name, stands, is_epoch, present, sendings, least, is_drained_kind, is_offered}
use Rattle.mux_history.specs.Standings.{leads_to, same_test}
use Rattle.mux_history.proofs.Present.{ended_present, holder_present, stands_present, lease_present, sendings_present}
use Rattle.mux_history.specs.Holders.{name_on, held_after, of_named}
use Rattle.mux_agree.specs.Agree.{is_settled_nack, is_replied, is_lost_one}
use Rattle.mux_model.specs.Entries.{Exchange}
use Rattle.mux_model.specs.Steps.{Call, Step, entries, records, with_record, lease_in}
use Rattle.mux_model.specs.Up.{UpSession, lease_taken, sends_rdrain}
use Rattle.mux_model.specs.Legal.{EachStep, reading_at}
use Rattle.mux_model.specs.Replay.{finds_up, may_follow_up, is_up_history, is_lost_next, are_histories, all_lead, epochs}
use Rattle.mux_legal.specs.Tellings.{IsDispatchOn, IsReplyOn, IsNoDispatch, IsStray, IsNothing, TellsUp, IsTold, IsToldBy}
use Rattle.mux_legal.proofs.Basics.{named, not_true}
use Rattle.mux_legal.proofs.Contents.{message_says, rdrain_kind}
use Rattle.mux_legal.proofs.ToldDown.{none_of, of_some, no_dispatch, not_both}
use Rattle.mux_legal.proofs.ToldEpochs.{each_epoch, present_history, leads_open}
use Rattle.mux_legal.proofs.KeptSendings.{lost_holds, up_emptied, some_name}

-- what the record of a lost dispatch tells: the list has ended, and the name holds a tag
abbrev pub IsLostHere : List Record → Record → Type 0
IsLostHere past r = (has_ended past ≡ true) × (n : Name) × (r.name ≡ Some n) × (t : ℕ) × (name_on t past ≡ Some n)

-- the drain is told from before, and begins anew with an epoch
abbrev pub drained_after : RecordKind → Bool → Bool
drained_after k before = is_drained_kind k || (not (is_epoch k) && before)

-- what a step's record tells of it
pub data UpShape (s : UpSession) (es : List Exchange) (past : List Record) (r : Record) (k : RecordKind) (taken sent : Option MuxFrame) : Type 0 where
  offers : is_offered k ≡ true → is_replied k ≡ false → is_lost_one k ≡ false → ((t : ℕ) (x : Option Name) → held_after t r k x ≡ (if r.tag == t then r.name else x)) →
      ((x : Option ℕ) → lease_after r k x ≡ x) → ((x : Bool) → drained_after k x ≡ x) → has_ended past ≡ false → name_on r.tag past ≡ None → stands is_drained_kind past ≡ false →
      has_lapsed (lease_of past) r.reading ≡ false → (n : Name) → r.name ≡ Some n → taken ≡ None → IsDispatchOn r.tag sent → UpShape s es past r k taken sent
  settles : is_offered k ≡ false → is_lost_one k ≡ false → ((t : ℕ) (x : Option Name) → held_after t r k x ≡ (if r.tag == t then None else x)) →
      ((x : Option ℕ) → lease_after r k x ≡ x) → ((x : Bool) → drained_after k x ≡ x) → has_ended past ≡ false → (n : Name) → r.name ≡ Some n → name_on r.tag past ≡ Some n →
      IsReplyOn (is_settled_nack k) r.tag taken → sent ≡ None → UpShape s es past r k taken sent
  rests : is_offered k ≡ false → is_replied k ≡ false → ((t : ℕ) → held_after t r k (name_on t past) ≡ name_on t past) →
      leased r.reading (lease_taken taken) (lease_of past) ≡ lease_after r k (lease_of past) →
      (sends_rdrain sent || stands is_drained_kind past) ≡ drained_after k (stands is_drained_kind past) → (is_lost_one k ≡ true → IsLostHere past r) →
      (has_ended past ≡ true → (taken ≡ None) × (sent ≡ None)) → IsStray (Server s.number) es taken → IsNoDispatch sent → UpShape s es past r k taken sent

-- a list of such steps
pub data ToldUp (s : UpSession) : List Step → Type 0 where
  nothing : ToldUp s []
  probe : (call : Call) (sent : Option MuxFrame) → IsNoDispatch sent → sends_rdrain sent ≡ false →
      ToldUp s (record { call = call; entry = record { rec = None; taken = None; sent = sent } } ∷ [])
  more : (call : Call) (r : Record) (taken sent : Option MuxFrame) (old : List Step) →
      r.reading ≡ reading_at (record { call = call; entry = record { rec = Some r; taken = taken; sent = sent } } ∷ old) →
      gives_name r.kind ≡ false → (is_epoch r.kind ≡ true → has_ended (records old) ≡ false) → UpShape s (entries old) (records old) r r.kind taken sent → ToldUp s old →
      ToldUp s (record { call = call; entry = record { rec = Some r; taken = taken; sent = sent } } ∷ old)

-- a final reply grants no lease
no_lease : (f : MuxFrame) (o : Result Content MessageFault) → message_of f ≡ o → is_final (kind_of f.kind) ≡ true → lease_in o ≡ None
no_lease f (Err fault) e final = refl
no_lease f (Ok (tdispatch _ _ _ _)) e final = refl
no_lease f (Ok (rdispatch _ _ _)) e final = refl
no_lease f (Ok tdrain) e final = refl
no_lease f (Ok rdrain) e final = refl
no_lease f (Ok (tdiscarded _ _)) e final = refl
no_lease f (Ok rdiscarded) e final = refl
no_lease f (Ok (tinit _ _)) e final = refl
no_lease f (Ok (rinit _ _)) e final = refl
no_lease f (Ok tping) e final = refl
no_lease f (Ok rping) e final = refl
no_lease f (Ok (treq _)) e final = refl
no_lease f (Ok (rreq _)) e final = refl
no_lease f (Ok (rerr _)) e final = refl
no_lease f (Ok (other _ _)) e final = refl
no_lease f (Ok (tlease unit howmuch)) e final = not_both (is_final (kind_of f.kind)) (sym (ap is_final (message_says f (tlease unit howmuch) e).0)) final

pub final_no_lease : (f : MuxFrame) → is_final (kind_of f.kind) ≡ true → lease_taken (Some f) ≡ None
final_no_lease f e = no_lease f (message_of f) refl e

lease_stray : (s : UpSession) (es : List Exchange) (ms : ℕ) (m : Option MuxFrame) → lease_taken m ≡ Some ms → IsStray (Server s.number) es m
lease_stray s es ms None e = tt
lease_stray s es ms (Some f) e = λ final. absurd (let x : None ≡ Some ms = sym (final_no_lease f final) ∙ e in cc)

nothing_stray : (s : UpSession) (es : List Exchange) (m : Option MuxFrame) → m ≡ None → IsStray (Server s.number) es m
nothing_stray s es None e = tt
nothing_stray s es (Some f) e = absurd (cc)

rdrain_no_dispatch : (m : Option MuxFrame) → sends_rdrain m ≡ true → IsNoDispatch m
rdrain_no_dispatch None e = tt
rdrain_no_dispatch (Some f) e = rdrain_kind (kind_of f.kind) e

module _ (s : UpSession) (es : List Exchange) (past : List Record) where
  going : (n : ℕ) → finds_up s n past ≡ true → has_ended past ≡ false
  going n h = not_true (has_ended past) (and_parts _ _ h).0

  -- a dispatch that is told as lost holds its tag
  lost : is_up_history s past ≡ true → (r : Record) → has_ended past ≡ true → of_named (λ n. is_lost_next n r.tag (least (sendings past))) r.name ≡ true → IsLostHere past r
  lost history r over h =
      let a = of_some _ r.name h in
      let here = lost_holds s past history a.0 r.tag a.2 in
      (over, a.0, a.1, here.0, here.1)

  quiet : (r : Record) (taken sent : Option MuxFrame) (k : RecordKind) → is_offered k ≡ false → is_replied k ≡ false → is_lost_one k ≡ false → ((x : Bool) → drained_after k x ≡ x) →
      ((t : ℕ) (x : Option Name) → held_after t r k x ≡ x) → ((x : Option ℕ) → lease_after r k x ≡ x) → has_ended past ≡ false →
      IsStray (Server s.number) es taken × (lease_taken taken ≡ None) × IsNoDispatch sent × (sends_rdrain sent ≡ false) → UpShape s es past r k taken sent
  quiet r taken sent k o e l d held lease going told =
      rests o e (λ t. held t (name_on t past)) (ap (λ g. leased r.reading g (lease_of past)) told.1 ∙ sym (lease (lease_of past)))
      (ap (λ b. b || stands is_drained_kind past) told.3 ∙ sym (d (stands is_drained_kind past))) (not_both (is_lost_one k) l) (not_both (has_ended past) going) told.0 told.2

  still : (r : Record) (taken sent : Option MuxFrame) (k : RecordKind) → is_offered k ≡ false → is_replied k ≡ false → drained_after k (stands is_drained_kind past) ≡ stands is_drained_kind past →
      (is_lost_one k ≡ true → IsLostHere past r) → ((t : ℕ) → held_after t r k (name_on t past) ≡ name_on t past) → lease_after r k (lease_of past) ≡ lease_of past → IsNothing taken sent →
      UpShape s es past r k taken sent
  still r taken sent k o e d lost held lease told =
      rests o e held (ap (λ (m : Option MuxFrame). leased r.reading (lease_taken m) (lease_of past)) told.0 ∙ sym lease)
      (ap (λ (m : Option MuxFrame). sends_rdrain m || stands is_drained_kind past) told.1 ∙ sym d) lost (λ _. told) (nothing_stray s es taken told.0) (no_dispatch sent told.1)

  gives_none : (r : Record) (k : RecordKind) → may_follow_up s past r k ≡ true → gives_name k ≡ false
  gives_none r Took m = absurd (cc)
  gives_none r TookDrained m = absurd (cc)
  gives_none r (Discarded x) m = refl
  gives_none r Ponged m = refl
  gives_none r InitDone m = refl
  gives_none r Echoed m = refl
  gives_none r OutOfPlace m = refl
  gives_none r Unsupported m = refl
  gives_none r DrainAcked m = refl
  gives_none r Ignored m = refl
  gives_none r (Rolled number) m = refl
  gives_none r (Noted x) m = refl
  gives_none r Passed m = refl
  gives_none r Retried m = refl
  gives_none r Nacked m = refl
  gives_none r Unrouted m = refl
  gives_none r Failed m = refl
  gives_none r (Late x) m = refl
  gives_none r DrainAsked m = refl
  gives_none r (Closed x) m = refl
  gives_none r Lost m = refl
  gives_none r Recalled m = refl
  gives_none r Offered m = refl
  gives_none r (Settled x) m = refl
  gives_none r SettledNack m = refl
  gives_none r Dropped m = refl
  gives_none r PingDone m = refl
  gives_none r (Leased x) m = refl
  gives_none r Drained m = refl
  gives_none r InitAsked m = refl
  gives_none r Discarding m = refl
  gives_none r Clock m = refl
  gives_none r Retired m = refl
  gives_none r PingSent m = refl
  gives_none r LostOne m = refl
  gives_none r (Epoch number standing) m = refl

  shape : is_up_history s past ≡ true → (r : Record) (taken sent : Option MuxFrame) (k : RecordKind) → is_epoch k ≡ false → may_follow_up s past r k ≡ true → TellsUp (Server s.number) es r k taken sent → UpShape s es past r k taken sent
  shape history r taken sent Took p m told = absurd (cc)
  shape history r taken sent TookDrained p m told = absurd (cc)
  shape history r taken sent (Discarded x) p m told = absurd (cc)
  shape history r taken sent Ponged p m told = quiet r taken sent Ponged refl refl refl (λ x. refl) (λ t x. refl) (λ x. refl) (going 1 (and_parts _ _ m).0) told
  shape history r taken sent InitDone p m told = quiet r taken sent InitDone refl refl refl (λ x. refl) (λ t x. refl) (λ x. refl) (going 1 (and_parts _ _ (and_parts _ _ m).0).0) told
  shape history r taken sent Echoed p m told = absurd (cc)
  shape history r taken sent OutOfPlace p m told = absurd (cc)
  shape history r taken sent Unsupported p m told = quiet r taken sent Unsupported refl refl refl (λ x. refl) (λ t x. refl) (λ x. refl) (going 1 (and_parts _ _ (and_parts _ _ m).0).0) told
  shape history r taken sent DrainAcked p m told = absurd (cc)
  shape history r taken sent Ignored p m told = quiet r taken sent Ignored refl refl refl (λ x. refl) (λ t x. refl) (λ x. refl) (going 1 (and_parts _ _ m).0) told
  shape history r taken sent (Noted x) p m told = absurd (cc)
  shape history r taken sent Passed p m told = absurd (cc)
  shape history r taken sent Retried p m told = absurd (cc)
  shape history r taken sent Nacked p m told = absurd (cc)
  shape history r taken sent Unrouted p m told = absurd (cc)
  shape history r taken sent Failed p m told = absurd (cc)
  shape history r taken sent (Late x) p m told = absurd (cc)
  shape history r taken sent DrainAsked p m told = absurd (cc)
  shape history r taken sent (Closed x) p m told = still r taken sent (Closed x) refl refl refl (λ e. absurd (cc)) (λ t. refl) refl told
  shape history r taken sent Lost p m told = still r taken sent Lost refl refl refl (λ e. absurd (cc)) (λ t. refl) refl told
  shape history r taken sent Recalled p m told = absurd (cc)
  shape history r taken sent Offered p m told = (let lapsed = and_parts _ _ m in let retired = and_parts _ _ lapsed.0 in let drained = and_parts _ _ retired.0 in let begun = and_parts _ _ drained.0 in
      let free = and_parts _ _ begun.0 in let below = and_parts _ _ free.0 in let above = and_parts _ _ below.0 in let named = and_parts _ _ above.0 in let window = and_parts _ _ named.0 in
      let n = some_name r.name named.1 in
      offers refl refl refl (λ t x. refl) (λ x. refl) (λ x. refl) (going 3 window.0) (none_of (name_on r.tag past) free.1) (not_true (stands is_drained_kind past) drained.1) (not_true (has_lapsed (lease_of past) r.reading) lapsed.1) n.0 n.1 told.0 told.1)
  shape history r taken sent (Settled x) p m told = (let a = and_parts _ _ m in let b = and_parts _ _ a.0 in let n = of_some _ r.name b.1 in
      settles refl refl (λ t x. refl) (λ x. refl) (λ x. refl) (not_true (has_ended past) b.0) n.0 n.1 (named n.0 (name_on r.tag past) n.2) told.0 told.1)
  shape history r taken sent SettledNack p m told = (let b = and_parts _ _ m in let n = of_some _ r.name b.1 in
      settles refl refl (λ t x. refl) (λ x. refl) (λ x. refl) (not_true (has_ended past) b.0) n.0 n.1 (named n.0 (name_on r.tag past) n.2) told.0 told.1)
  shape history r taken sent Dropped p m told = quiet r taken sent Dropped refl refl refl (λ x. refl) (λ t x. refl) (λ x. refl) (going 1 (and_parts _ _ m).0) told
  shape history r taken sent PingDone p m told = quiet r taken sent PingDone refl refl refl (λ x. refl) (λ t x. refl) (λ x. refl) (going 1 (and_parts _ _ (and_parts _ _ (and_parts _ _ m).0).0).0) told
  shape history r taken sent (Leased x) p m told = (let go = going 1 (and_parts _ _ m).0 in
      rests refl refl (λ t. refl) (ap (λ g. leased r.reading g (lease_of past)) told.0) (ap (λ (m : Option MuxFrame). sends_rdrain m || stands is_drained_kind past) told.1) (λ e. absurd (cc))
      (not_both (has_ended past) go) (lease_stray s es x taken told.0) (no_dispatch sent told.1))
  shape history r taken sent Drained p m told = (let go = going 1 (and_parts _ _ m).0 in
      rests refl refl (λ t. refl) (ap (λ g. leased r.reading g (lease_of past)) told.1) (ap (λ b. b || stands is_drained_kind past) told.2) (λ e. absurd (cc))
      (not_both (has_ended past) go) told.0 (rdrain_no_dispatch sent told.2))
  shape history r taken sent InitAsked p m told = quiet r taken sent InitAsked refl refl refl (λ x. refl) (λ t x. refl) (λ x. refl) (going 1 (and_parts _ _ (and_parts _ _ m).0).0) told
  shape history r taken sent Discarding p m told = quiet r taken sent Discarding refl refl refl (λ x. refl) (λ t x. refl) (λ x. refl) (not_true (has_ended past) (and_parts _ _ m).0) told
  shape history r taken sent Clock p m told = still r taken sent Clock refl refl refl (λ e. absurd (cc)) (λ t. refl) refl told
  shape history r taken sent (Rolled number) p m told = still r taken sent (Rolled number) refl refl refl (λ e. absurd (cc)) (λ t. refl) refl told
  shape history r taken sent Retired p m told = still r taken sent Retired refl refl refl (λ e. absurd (cc)) (λ t. refl) refl told
  shape history r taken sent PingSent p m told = quiet r taken sent PingSent refl refl refl (λ x. refl) (λ t x. refl) (λ x. refl) (going 1 (and_parts _ _ (and_parts _ _ (and_parts _ _ m).0).0).0) told
  shape history r taken sent LostOne p m told = still r taken sent LostOne refl refl refl (λ e. lost history r (and_parts _ _ m).0 (and_parts _ _ m).1) (λ t. refl) refl told
  shape history r taken sent (Epoch number standing) p m told = absurd (cc)

-- the same of all epochs as of the present one
module _ (s : UpSession) (es : List Exchange) (rs : List Record) where
  over : has_ended (present rs) ≡ has_ended rs
  over = ended_present rs

  on : (t : ℕ) → name_on t (present rs) ≡ name_on t rs
  on t = holder_present t rs

  drained : stands is_drained_kind (present rs) ≡ stands is_drained_kind rs
  drained = stands_present is_drained_kind rs

  carry : (r : Record) (k : RecordKind) (taken sent : Option MuxFrame) → UpShape s es (present rs) r k taken sent → UpShape s es rs r k taken sent
  carry r k taken sent (offers o e l held lease d going f undrained unlapsed n is none asks) =
      offers o e l held lease d (sym over ∙ going) (sym (on r.tag) ∙ f) (sym drained ∙ undrained) (sym (ap (λ x. has_lapsed x r.reading) (lease_present rs)) ∙ unlapsed) n is none asks
  carry r k taken sent (settles o l held lease d going n is under final none) = settles o l held lease d (sym over ∙ going) n is (sym (on r.tag) ∙ under) final none
  carry r k taken sent (rests o e held lease d lost cut stray plain) =
      rests o e (λ t. subst (λ x. held_after t r k x ≡ x) (on t) (held t)) (subst (λ x. leased r.reading (lease_taken taken) x ≡ lease_after r k x) (lease_present rs) lease)
      (subst (λ b. (sends_rdrain sent || b) ≡ drained_after k b) drained d)
      (λ e. (let x = lost e in (sym over ∙ x.0, x.1, x.2, x.3, sym (on x.3) ∙ x.4))) (λ e. cut (over ∙ e)) stray plain

same_lease : (leased : Bool) (lapse : ℕ) (o : Option ℕ) → same_test leased (is_some o) ≡ true → (lapse == unwrap_or o 0) ≡ true → (if leased then Some lapse else None) ≡ o
same_lease false lapse None e t = refl
same_lease true lapse None e t = absurd (cc)
same_lease false lapse (Some b) e t = absurd (cc)
same_lease true lapse (Some b) e t = ap Some (eqb-true lapse b t)

same_bool : (a b : Bool) → same_test a b ≡ true → a ≡ b
same_bool true true e = refl
same_bool true false e = absurd (cc)
same_bool false true e = absurd (cc)
same_bool false false e = refl

or_none : (b : Bool) → (b || false) ≡ b
or_none true = refl
or_none false = refl

module _ (mode : InitMode) (s : UpSession) (es : List Exchange) (old : List Record) (history : is_up_history s (present old) ≡ true) (r : Record) where
  -- what an Epoch record is led to by
  sealed : (taken sent : Option MuxFrame) (k : RecordKind) → is_epoch k ≡ true → leads_to mode (Server s.number) old r k ≡ true → TellsUp (Server s.number) es r k taken sent → UpShape s es old r k taken sent
  sealed taken sent (Epoch number (Up init drained retired ping leased lapse)) p lead told =
      let a = and_parts _ _ lead in
      let going = leads_open mode (Server s.number) old r (Epoch number (Up init drained retired ping leased lapse)) lead refl in
      let so = and_parts _ _ a.1 in
      let retires = and_parts _ _ (and_parts _ _ so.1).0 in
      let drains = and_parts _ _ retires.0 in
      let lapses = and_parts _ _ drains.0 in
      let leases = and_parts _ _ lapses.0 in
      let none : (t : ℕ) → name_on t old ≡ None = λ t. sym (on s es old t) ∙ up_emptied s (present old) history (over s es old ∙ going) (ap (λ ss. nat_lt (length ss) 1) (sendings_present old) ∙ so.0) t in
      still s es old r taken sent (Epoch number (Up init drained retired ping leased lapse)) refl refl (or_none drained ∙ same_bool drained (stands is_drained_kind old) drains.1) (not_both false refl)
      (λ t. sym (none t)) (same_lease leased lapse (lease_of old) leases.1 lapses.1) told
  sealed taken sent (Epoch number (Down fresh drain dispatches)) p lead told = not_both false refl (and_parts _ _ (and_parts _ _ lead).1).1
  sealed taken sent _ p lead told = absurd (cc)

  -- a record of any kind
  joined : (taken sent : Option MuxFrame) → is_up_history s (r ∷ (if is_epoch r.kind then [] else present old)) ≡ true → leads_to mode (Server s.number) old r r.kind ≡ true →
      TellsUp (Server s.number) es r r.kind taken sent → UpShape s es old r r.kind taken sent
  joined taken sent h lead told = by_epoch (is_epoch r.kind) refl h
    where
      by_epoch : (b : Bool) → is_epoch r.kind ≡ b → is_up_history s (r ∷ (if b then [] else present old)) ≡ true → UpShape s es old r r.kind taken sent
      by_epoch true p h = sealed taken sent r.kind p lead told
      by_epoch false p h = (let m = (and_parts _ _ (and_parts _ _ h).0).0 in carry s es old r r.kind taken sent (shape s es (present old) history r taken sent r.kind p m told))

-- a recorded list of a server is such a list
module _ (limits : Bounds) (b : ℕ) (mode : InitMode) (k : ℕ) where
  abbrev server : UpSession
  server = record { limits = limits; number = k; mode = mode }

  by_probe : (call : Call) (sent : Option MuxFrame) (past : List Step) (taken : Option MuxFrame) → past ≡ [] → taken ≡ None → IsNoDispatch sent → sends_rdrain sent ≡ false →
      ToldUp server (record { call = call; entry = record { rec = None; taken = taken; sent = sent } } ∷ past)
  by_probe call sent [] None a b d e = probe call sent d e
  by_probe call sent [] (Some f) a b d e = absurd (cc)
  by_probe call sent (y ∷ ys) taken a b d e = absurd (cc)

  pub told_up : (steps : List Step) → EachStep (IsTold (Server k)) steps → are_histories limits b mode (Server k) (epochs (records steps)) ≡ true → all_lead mode (Server k) (records steps) ≡ true →
      ToldUp server steps
  told_up [] told h lead = nothing
  told_up (x ∷ old) told h lead = by_record (told_up old told.1) x.entry.rec refl told.0 h lead
    where
      by_record : (are_histories limits b mode (Server k) (epochs (records old)) ≡ true → all_lead mode (Server k) (records old) ≡ true → ToldUp server old) → (o : Option Record) → x.entry.rec ≡ o →
          IsToldBy (Server k) x old o → are_histories limits b mode (Server k) (epochs (with_record o (records old))) ≡ true → all_lead mode (Server k) (with_record o (records old)) ≡ true →
          ToldUp server (x ∷ old)
      by_record rest None e t h lead =
          subst (λ o. ToldUp server (record { call = x.call; entry = record { rec = o; taken = x.entry.taken; sent = x.entry.sent } } ∷ old)) (sym e) (by_probe x.call x.entry.sent old x.entry.taken t.0 t.1 t.2 t.3)
      by_record rest (Some r) e t h lead =
          let a = each_epoch limits b mode (Server k) r (records old) h in
          let l = and_parts _ _ lead in
          let m = (and_parts _ _ (and_parts _ _ a.0).0).0 in
          let shaped = joined mode server (entries old) (records old) (present_history limits b mode (Server k) (records old) a.1) r x.entry.taken x.entry.sent a.0 l.0 t.1 in
          let y =
          more x.call r x.entry.taken x.entry.sent old t.0 (gives_none server (entries old) (if is_epoch r.kind then [] else present (records old)) r r.kind m)
          (leads_open mode (Server k) (records old) r r.kind l.0) shaped (rest a.1 l.1) in
          subst (λ o. ToldUp server (record { call = x.call; entry = record { rec = o; taken = x.entry.taken; sent = x.entry.sent } } ∷ old)) (sym e) y
