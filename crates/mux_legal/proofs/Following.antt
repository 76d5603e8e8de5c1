-- Which record may follow is read from the present epoch; and records are joined one by one.
use Rattle.std.proofs.Common.{length, ℕ, List, [], ◌∷◌, ◌+◌, ◌-◌, ◌*◌, ◌≡◌, ◌&&◌, Bool, true, false, not, refl, sym, ◌∙◌, ap}
use Rattle.std.specs.Prelude.{if◌then◌else◌, ◌==◌, nat_le, nat_lt, is_some, is_none, sum_by, find, reverse}
use Rattle.std.proofs.lemmas.Bool.{and_parts, and_from}
use Rattle.mux_frame.specs.declared.frame.TheConstants.{MAX_TAG}
use Rattle.mux_history.specs.Bounds.{Bounds}
use Rattle.mux_history.specs.declared.name.Name.{Name}
use Rattle.mux_history.specs.declared.record.Record.{Record}
use Rattle.mux_history.specs.declared.kind.RecordKind.{RecordKind}
use Rattle.mux_history.specs.declared.kind.RecordKind.TheVariants.{Took, TookDrained, Discarded, Ponged, InitDone, Echoed, OutOfPlace, Unsupported, DrainAcked, Ignored, Noted, Passed, Retried, Nacked, Unrouted, Failed, Late, DrainAsked, Closed, Lost, Recalled, Offered, Settled, SettledNack, Dropped, PingDone, Leased, Drained, InitAsked, Discarding, Clock, Retired, PingSent, LostOne, Epoch, Rolled}
use Rattle.mux_history.specs.declared.session.InitMode.{InitMode}
use Rattle.mux_history.specs.declared.session.SessionId.{SessionId}
use Rattle.mux_history.specs.declared.session.SessionId.TheVariants.{Client, Server}
use Rattle.mux_history.specs.Readings.{written, is_cut, is_named, reading, note_kind, answer_kind, noted_kind, recall_kind, is_running, is_draining, is_acked, is_drained_kind, is_open, is_retiring, is_epoch, present, sending_on, least}
use Rattle.mux_history.specs.Standings.{leads_to, same_test}
use Rattle.mux_history.specs.Lapse.{has_lapsed}
use Rattle.mux_history.specs.Holders.{of_named}
use Rattle.mux_history.proofs.Present.{ended_present, since_present, tag_present, tries_present, sendings_present, holder_present, dispatches_present, stands_present, lease_present, reading_present, drain_present, fresh_present, init_present, ping_present}
use Rattle.mux_model.proofs.Epochs.{open_present, book_present}
use Rattle.mux_model.specs.Down.{DownSession, next_recalled, for_taking, last_seq, kept_for as kept_down}
use Rattle.mux_model.specs.Up.{UpSession, is_recallable, kept_for as kept_up}
use Rattle.mux_model.specs.Steps.{last_epoch}
use Rattle.mux_model.specs.Replay.{is_open_entry, spare_down, finds_down, finds_up, is_on_one, is_alone, is_probing, is_lost_next, is_fault, may_follow, may_follow_up, is_down_history, is_up_history, is_history, added, epochs, are_histories, is_joined}
use Rattle.mux_message.specs.Kinds.{kind_of, is_final}
use Rattle.mux_legal.proofs.Basics.{if_both}

kept_present : (limits : Bounds) (rs : List Record) (n : Name) → kept_down limits (is_open_entry (present rs)) (present rs) n ≡ kept_down limits (is_open_entry rs) rs n
kept_present limits rs n = λ i.
    (if since_present note_kind n rs i then 1 else 0)
    + (if since_present answer_kind n rs i then (if since_present recall_kind n rs i then 1 else 2) else 0)
    + (if open_present rs n i then 2 * (limits.retries - tries_present n rs i) else 0)

written_present : (rs : List Record) → written (present rs) ≡ written rs
written_present [] = refl
written_present (r ∷ old) = by r.kind (written_present old)
  where
    by : (k : RecordKind) → written (present old) ≡ written old →
        (r ∷ (if is_cut k then [] else written (if is_epoch k then [] else present old))) ≡ (r ∷ (if is_cut k then [] else written old))
    by (Epoch number standing) same = refl
    by (Rolled number) same = refl
    by _ same = ap (λ x. r ∷ x) same

spare_present : (limits : Bounds) (rs : List Record) → spare_down limits (present rs) ≡ spare_down limits rs
spare_present limits rs = λ i.
    limits.history - length (written_present rs i) - (if ended_present rs i then 0 else 1) - sum_by (λ n. kept_present limits rs n i) (book_present rs i)

recalled_present : (rs : List Record) → next_recalled (present rs) ≡ next_recalled rs
recalled_present rs = λ i.
    find (λ n. since_present noted_kind n rs i && since_present answer_kind n rs i && not (since_present recall_kind n rs i)) (reverse (book_present rs i))

-- which record may follow in a client's list
module _ (c : DownSession) (rs : List Record) (r : Record) where
  finds : (n : ℕ) → finds_down c n (present rs) ≡ finds_down c n rs
  finds n = λ i. not (ended_present rs i) && nat_le n (spare_present c.limits rs i)

  pub follow_down : (k : RecordKind) → is_epoch k ≡ false → may_follow c (present rs) r k ≡ may_follow c rs r k
  follow_down Took e = λ i.
      finds (for_taking c.limits) i && nat_lt (length (book_present rs i)) c.limits.window && nat_lt 0 r.tag && is_none (holder_present r.tag rs i)
      && not (is_acked (drain_present rs i))
      && of_named (λ n. n.boot == c.boot && n.client == c.number && n.seq == dispatches_present rs i + 1 && nat_le n.seq last_seq) r.name
  follow_down TookDrained e = λ i.
      finds 1 i && nat_lt 0 r.tag && is_none (holder_present r.tag rs i) && is_acked (drain_present rs i)
      && of_named (λ n. n.boot == c.boot && n.client == c.number && n.seq == dispatches_present rs i + 1 && nat_le n.seq last_seq) r.name
  follow_down (Discarded recalled) e = λ i.
      finds 1 i && of_named (λ n. is_named n (holder_present r.tag rs i) && same_test recalled (since_present noted_kind n rs i)) r.name
  follow_down Ponged e = λ i. finds 1 i && is_none r.name
  follow_down Ignored e = λ i. finds 1 i && is_none r.name
  follow_down InitDone e = λ i. finds 1 i && is_none r.name && fresh_present rs i
  follow_down Echoed e = λ i. finds 1 i && is_on_one r && fresh_present rs i
  follow_down OutOfPlace e = λ i. finds 1 i && is_none r.name && not (fresh_present rs i) && is_none (holder_present r.tag rs i)
  follow_down Unsupported e = λ i. finds 1 i && is_none r.name && nat_lt 0 r.tag && is_none (holder_present r.tag rs i)
  follow_down DrainAcked e = λ i. finds 1 i && is_on_one r && is_draining (drain_present rs i)
  follow_down (Noted recalled) e = λ i.
      of_named (λ n. (since_present note_kind n rs i && same_test recalled (not (open_present rs n i) && since_present answer_kind n rs i)) && r.tag == tag_present n rs i) r.name
  follow_down Passed e = λ i. of_named (λ n. (since_present answer_kind n rs i && open_present rs n i) && r.tag == tag_present n rs i) r.name
  follow_down Failed e = λ i. of_named (λ n. (since_present answer_kind n rs i && open_present rs n i) && r.tag == tag_present n rs i) r.name
  follow_down Retried e = λ i.
      of_named (λ n. ((since_present answer_kind n rs i && open_present rs n i) && not (since_present note_kind n rs i) && nat_lt 0 (c.limits.retries - tries_present n rs i))
      && r.tag == tag_present n rs i) r.name
  follow_down Nacked e = λ i.
      of_named (λ n. ((since_present answer_kind n rs i && open_present rs n i) && since_present note_kind n rs i) && r.tag == tag_present n rs i) r.name
  follow_down Unrouted e = λ i.
      of_named (λ n. ((since_present answer_kind n rs i && open_present rs n i) && since_present note_kind n rs i) && r.tag == tag_present n rs i) r.name
  follow_down (Late whole) e = λ i.
      of_named (λ n. (since_present answer_kind n rs i && not (open_present rs n i) && (if whole then since_present note_kind n rs i else true)) && r.tag == tag_present n rs i) r.name
  follow_down DrainAsked e = λ i. finds 1 i && is_on_one r && is_running (drain_present rs i)
  follow_down (Closed cause) e = λ i. not (ended_present rs i) && is_alone r
  follow_down Lost e = λ i. not (ended_present rs i) && is_alone r
  follow_down Recalled e = λ i. ended_present rs i && of_named (λ n. is_named n (recalled_present rs i) && r.tag == tag_present n rs i) r.name
  follow_down (Epoch number standing) e = absurd (cc)
  follow_down (Rolled number) e = λ i. not (ended_present rs i) && is_alone r && nat_lt 0 number && nat_le number last_epoch
  follow_down _ e = refl

-- and in a server's
module _ (s : UpSession) (rs : List Record) (r : Record) where
  finds_sent : (n : ℕ) → finds_up s n (present rs) ≡ finds_up s n rs
  finds_sent n = λ i.
      not (ended_present rs i)
      && nat_le n (s.limits.history - length (written_present rs i) - (if ended_present rs i then 0 else 1) - sum_by kept_up (sendings_present rs i))

  pub follow_up : (k : RecordKind) → is_epoch k ≡ false → may_follow_up s (present rs) r k ≡ may_follow_up s rs r k
  follow_up Offered e = λ i.
      finds_sent 3 i && nat_lt (length (sendings_present rs i)) s.limits.window && is_some r.name && nat_le 2 r.tag && nat_le r.tag MAX_TAG
      && is_none (holder_present r.tag rs i) && is_open (init_present s.mode rs i) && not (stands_present is_drained_kind rs i) && not (stands_present is_retiring rs i)
      && not (has_lapsed (lease_present rs i) r.reading)
  follow_up (Settled kind) e = λ i. not (ended_present rs i) && of_named (λ n. is_named n (holder_present r.tag rs i)) r.name && is_final (kind_of kind)
  follow_up SettledNack e = λ i. not (ended_present rs i) && of_named (λ n. is_named n (holder_present r.tag rs i)) r.name
  follow_up Dropped e = λ i. finds_sent 1 i && is_none r.name
  follow_up Ignored e = λ i. finds_sent 1 i && is_none r.name
  follow_up Ponged e = λ i. finds_sent 1 i && is_none r.name
  follow_up Unsupported e = λ i. finds_sent 1 i && is_none r.name && nat_lt 0 r.tag
  follow_up (Leased ms) e = λ i. finds_sent 1 i && is_none r.name
  follow_up Drained e = λ i. finds_sent 1 i && is_none r.name
  follow_up InitAsked e = λ i. finds_sent 1 i && is_on_one r && is_probing (init_present s.mode rs i)
  follow_up InitDone e = λ i. finds_sent 1 i && is_on_one r && not (is_open (init_present s.mode rs i))
  follow_up PingDone e = λ i. finds_sent 1 i && is_on_one r && is_open (init_present s.mode rs i) && ping_present rs i
  follow_up PingSent e = λ i. finds_sent 1 i && is_on_one r && is_open (init_present s.mode rs i) && not (ping_present rs i)
  follow_up Discarding e = λ i. not (ended_present rs i) && of_named (λ n. is_recallable n (sending_on r.tag (sendings_present rs i))) r.name
  follow_up Clock e = λ i. finds_sent 1 i && is_alone r
  follow_up Retired e = λ i. finds_sent 1 i && is_alone r
  follow_up (Closed cause) e = λ i. not (ended_present rs i) && is_alone r && is_fault cause
  follow_up Lost e = λ i. not (ended_present rs i) && is_alone r
  follow_up LostOne e = λ i. ended_present rs i && of_named (λ n. is_lost_next n r.tag (least (sendings_present rs i))) r.name
  follow_up (Epoch number standing) e = absurd (cc)
  follow_up (Rolled number) e = λ i. not (ended_present rs i) && is_alone r && nat_lt 0 number && nat_le number last_epoch
  follow_up _ e = refl

-- the records of its epoch that stand before a record
abbrev pub before_in : Record → List Record → List Record
before_in r rs = if is_epoch r.kind then [] else present rs

-- a record that may follow those of its epoch
abbrev pub FollowsDown : DownSession → List Record → Record → Type 0
FollowsDown c rs r = (may_follow c (before_in r rs) r r.kind && nat_le (reading (before_in r rs)) r.reading) ≡ true

abbrev pub FollowsUp : UpSession → List Record → Record → Type 0
FollowsUp s rs r = (may_follow_up s (before_in r rs) r r.kind && nat_le (reading (before_in r rs)) r.reading) ≡ true

pub follows_down : (c : DownSession) (rs : List Record) (r : Record) → is_epoch r.kind ≡ false → (may_follow c rs r r.kind && nat_le (reading rs) r.reading) ≡ true → FollowsDown c rs r
follows_down c rs r e h =
    (λ i. may_follow c (if e i then [] else present rs) r r.kind && nat_le (reading (if e i then [] else present rs)) r.reading)
    ∙ ((λ i. follow_down c rs r r.kind e i && nat_le (reading_present rs i) r.reading) ∙ h)

pub follows_up : (s : UpSession) (rs : List Record) (r : Record) → is_epoch r.kind ≡ false → (may_follow_up s rs r r.kind && nat_le (reading rs) r.reading) ≡ true → FollowsUp s rs r
follows_up s rs r e h =
    (λ i. may_follow_up s (if e i then [] else present rs) r r.kind && nat_le (reading (if e i then [] else present rs)) r.reading)
    ∙ ((λ i. follow_up s rs r r.kind e i && nat_le (reading_present rs i) r.reading) ∙ h)

-- a record that begins no history begins no epoch
pub uncut : (k : RecordKind) → is_cut k ≡ false → is_epoch k ≡ false
uncut (Epoch number standing) e = absurd (cc)
uncut _ e = refl

-- and is led to by any records
pub leads_other : (mode : InitMode) (id : SessionId) (rs : List Record) (r : Record) (k : RecordKind) → is_cut k ≡ false → leads_to mode id rs r k ≡ true
leads_other mode id rs r (Epoch number standing) e = absurd (cc)
leads_other mode id rs r (Rolled number) e = absurd (cc)
leads_other mode id rs r _ e = refl

-- the epochs before the present one
abbrev pub older : List Record → List (List Record)
older [] = []
older (r ∷ old) = if is_epoch r.kind then present old ∷ older old else older old

pub epochs_split : (rs : List Record) → epochs rs ≡ (present rs ∷ older rs)
epochs_split [] = refl
epochs_split (r ∷ old) = ap (added r) (epochs_split old) ∙ by_epoch (is_epoch r.kind)
  where
    by_epoch : (b : Bool) → (if b then (r ∷ []) ∷ (present old ∷ older old) else (r ∷ present old) ∷ older old) ≡ ((r ∷ (if b then [] else present old)) ∷ (if b then present old ∷ older old else older old))
    by_epoch true = refl
    by_epoch false = refl

-- one more record
joined_more : (limits : Bounds) (boot : ℕ) (mode : InitMode) (id : SessionId) (rs : List Record) (r : Record) → is_joined limits boot mode id rs ≡ true →
    (is_history limits boot mode id (present rs) ≡ true → is_history limits boot mode id (r ∷ before_in r rs) ≡ true) → leads_to mode id rs r r.kind ≡ true →
    is_joined limits boot mode id (r ∷ rs) ≡ true
joined_more limits boot mode id rs r joined next leads =
    let p = and_parts _ _ joined in
    let q : are_histories limits boot mode id (present rs ∷ older rs) ≡ true = sym (ap (are_histories limits boot mode id) (epochs_split rs)) ∙ p.0 in
    let h = and_parts _ _ q in
    let old : are_histories limits boot mode id (older (r ∷ rs)) ≡ true = if_both (λ hs. are_histories limits boot mode id hs ≡ true) (is_epoch r.kind) (present rs ∷ older rs) (older rs) (λ _. q) (λ _. h.1) in
    and_from _ _ (ap (are_histories limits boot mode id) (epochs_split (r ∷ rs)) ∙ and_from _ _ (next h.0) old) (and_from _ _ leads p.1)

pub joined_down : (limits : Bounds) (boot k : ℕ) (mode : InitMode) (rs : List Record) (r : Record) → is_joined limits boot mode (Client k) rs ≡ true →
    FollowsDown (record { limits = limits; boot = boot; number = k }) rs r → leads_to mode (Client k) rs r r.kind ≡ true → is_joined limits boot mode (Client k) (r ∷ rs) ≡ true
joined_down limits boot k mode rs r joined follows leads =
    let c : DownSession = record { limits = limits; boot = boot; number = k } in
    joined_more limits boot mode (Client k) rs r joined
    (λ h. and_from _ _ follows (if_both (λ hs. is_down_history c hs ≡ true) (is_epoch r.kind) [] (present rs) (λ _. refl) (λ _. h))) leads

pub joined_up : (limits : Bounds) (boot k : ℕ) (mode : InitMode) (rs : List Record) (r : Record) → is_joined limits boot mode (Server k) rs ≡ true →
    FollowsUp (record { limits = limits; number = k; mode = mode }) rs r → leads_to mode (Server k) rs r r.kind ≡ true → is_joined limits boot mode (Server k) (r ∷ rs) ≡ true
joined_up limits boot k mode rs r joined follows leads =
    let s : UpSession = record { limits = limits; number = k; mode = mode } in
    joined_more limits boot mode (Server k) rs r joined
    (λ h. and_from _ _ follows (if_both (λ hs. is_up_history s hs ≡ true) (is_epoch r.kind) [] (present rs) (λ _. refl) (λ _. h))) leads
