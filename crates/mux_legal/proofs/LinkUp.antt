-- In a server's session the records name the holders.
use Rattle.std.proofs.Common.{length, ℕ, List, [], ◌∷◌, ◌+◌, ◌≡◌, inl, inr, Bool, true, false, Option, Some, None, refl, sym, ◌∙◌, ap}
use Rattle.std.specs.Prelude.{if◌then◌else◌, ◌==◌, codes}
use Rattle.mux_frame.specs.Spelling.{MuxFrame}
use Rattle.mux_message.specs.Kinds.{kind_of, is_dispatch}
use Rattle.mux_history.specs.declared.name.Name.{Name}
use Rattle.mux_history.specs.declared.session.SessionId.TheVariants.{Server}
use Rattle.mux_model.specs.Entries.{Exchange}
use Rattle.mux_model.specs.Tags.{Holder, holder, name_held, name_in, answered}
use Rattle.mux_model.specs.World.{first_step}
use Rattle.mux_history.specs.declared.record.Record.{Record}
use Rattle.mux_history.specs.declared.session.InitMode.{InitMode}
use Rattle.mux_history.specs.declared.session.InitMode.TheVariants.{Probe, Plain}
use Rattle.mux_history.specs.Holders.{name_on, held_after}
use Rattle.mux_history.proofs.Sendings.{is_going_kind}
use Rattle.mux_model.specs.Steps.{Call, Step, entries, Outcome, records, with_record, entry_of, is_nack}
use Rattle.mux_message.specs.Made.{rerr_on, rping_on, rdrain_on, tinit_on, retag, tping_on, tdiscarded_for}
use Rattle.mux_model.specs.Up.{UpSession, Reaction, Shut, Full, Short, Closes, Settles, Pongs, Drains, Ignores, Unsupports, AsksInit, EndsInit, EndsPing, Drops, Leases, settled_kind, reacted, up, MayChoose}
use Rattle.mux_model.specs.Legal.{Line, SomeLine, IsTakenIn, OnDispatch}
use Rattle.mux_legal.proofs.Basics.{OnRecorded, on_both}
use Rattle.mux_legal.proofs.DownShapes.{CallBorne}
use Rattle.mux_model.specs.Legal.{TakesUnder, SomeEntry}
use Rattle.mux_model.specs.Runs.{IsLinked}
use Rattle.mux_legal.proofs.Link.{Links, answered_free, answered_frees, asked_takes, still, silent, rec_of, IsNamed, named_asked, named_answered}
use Rattle.mux_legal.proofs.HeldSent.{AreSent, AreGoing, sent_after, off_sent, going_still, going_lost, going_sealed, none_sent}
use Rattle.mux_legal.proofs.UpShapes.{up_shapes, LedTo, StrayOf}
use Rattle.mux_history.specs.Standings.{up_standing}
use Rattle.mux_history.specs.Readings.{is_epoch, is_offered, sendings, epoch_of}
use Rattle.mux_history.specs.declared.kind.RecordKind.TheVariants.{Settled, SettledNack, Epoch, Drained, Leased, Ponged, Ignored, Unsupported, InitAsked, InitDone, PingDone, Dropped, Closed, Discarding, Clock, Retired, PingSent, Lost, LostOne, Rolled}

-- a ticket in hand has a dispatch
entry_dispatch : (n : Name) (m : MuxFrame) (es : List Exchange) → SomeEntry (TakesUnder n m) es → is_dispatch (kind_of m.kind) ≡ true
entry_dispatch n m [] s = absurd s
entry_dispatch n m (e ∷ es) (inl p) = p.2
entry_dispatch n m (e ∷ es) (inr s) = entry_dispatch n m es s

pub taken_dispatch : (n : Name) (m : MuxFrame) (ls : List Line) → SomeLine (IsTakenIn n m) ls → is_dispatch (kind_of m.kind) ≡ true
taken_dispatch n m [] s = absurd s
taken_dispatch n m (l ∷ ls) (inl p) = entry_dispatch n m (entries l.steps) p.2
taken_dispatch n m (l ∷ ls) (inr s) = taken_dispatch n m ls s

-- what a server's list keeps of its tags: the records name who holds them, and until the end these are the dispatches that are sent
pub record IsTiedUp (s : UpSession) (past : List Step) : Type 0 where
  pub linked : IsLinked (Server s.number) past
  pub names : (t : ℕ) → IsNamed (holder (Server s.number) t (entries past))
  pub sent : AreSent (sendings (records past))
  pub going : AreGoing (records past)

module _ (s : UpSession) (past : List Step) (old : IsTiedUp s past) where
  abbrev Q : Outcome → Type 0
  Q x = OnRecorded x (λ e gives. Links (Server s.number) past e)

  abbrev rs : List Record
  rs = records past

  linked : IsLinked (Server s.number) past
  linked = old.linked

  abbrev H : ℕ → Option Holder
  H t = holder (Server s.number) t (entries past)

  -- a final reply frees its tag, whether it is a nack or not
  held_settled : (f : MuxFrame) (t : ℕ) (r : Record) → held_after t r (settled_kind f) (name_on t rs) ≡ (if r.tag == t then None else name_on t rs)
  held_settled f t r = by_nack (is_nack f)
    where
      by_nack : (b : Bool) → held_after t r (if b then SettledNack else Settled f.kind) (name_on t rs) ≡ (if r.tag == t then None else name_on t rs)
      by_nack true = refl
      by_nack false = refl

  reacted_links : (f : MuxFrame) (now : ℕ) (r : Reaction) → LedTo s past f r → StrayOf s past f r → Q (reacted s past f now r)
  reacted_links f now Shut led free = tt
  reacted_links f now Full led free = tt
  reacted_links f now Short led free = tt
  reacted_links f now (Closes cause) led free = still (Server s.number) past linked now (Closed cause) 0 None None None (λ t x. refl) (λ t. refl)
  reacted_links f now (Settles n again) led free = λ t.
      held_settled f t (rec_of past now (settled_kind f) f.tag n) ∙ (ap (λ x. if f.tag == t then None else x) (linked t) ∙ sym (answered_frees f (H t) t led.1))
  reacted_links f now Pongs led free = still (Server s.number) past linked now Ponged f.tag None (Some f) (Some (rping_on f.tag)) (λ t x. refl) (answered_free f H free)
  reacted_links f now Drains led free = still (Server s.number) past linked now Drained f.tag None (Some f) (Some (rdrain_on f.tag)) (λ t x. refl) (answered_free f H free)
  reacted_links f now (Leases ms) led free = still (Server s.number) past linked now (Leased ms) f.tag None (Some f) None (λ t x. refl) (answered_free f H free)
  reacted_links f now Ignores led free = still (Server s.number) past linked now Ignored f.tag None (Some f) None (λ t x. refl) (answered_free f H free)
  reacted_links f now Unsupports led free = still (Server s.number) past linked now Unsupported f.tag None (Some f) (Some (rerr_on f.tag (codes "unsupported"))) (λ t x. refl) (answered_free f H free)
  reacted_links f now AsksInit led free = still (Server s.number) past linked now InitAsked f.tag None (Some f) (Some (tinit_on 1)) (λ t x. refl) (answered_free f H free)
  reacted_links f now EndsInit led free = still (Server s.number) past linked now InitDone f.tag None (Some f) None (λ t x. refl) (answered_free f H free)
  reacted_links f now EndsPing led free = still (Server s.number) past linked now PingDone f.tag None (Some f) None (λ t x. refl) (answered_free f H free)
  reacted_links f now Drops led free = still (Server s.number) past linked now Dropped f.tag None (Some f) None (λ t x. refl) (answered_free f H free)

  -- after every step the records name the holders
  pub up_links : (ls : List Line) (out t : ℕ) (call : Call) → MayChoose s past t call → CallBorne ls call → Q (up s past out t call)
  up_links ls =
      up_shapes ls s past (λ call e gives. Links (Server s.number) past e) (λ f now going r led free. reacted_links f now r led free)
      (λ t n f left now may b going ready undrained unretired unlapsed window room u. ap (λ x. if t == u then Some n else x) (linked u)
      ∙ sym (asked_takes (record { place = length (entries past); name = Some n }) (retag t f) (H u) u (taken_dispatch n f ls b)))
      (λ n tag why now going here. still (Server s.number) past linked now Discarding tag (Some n) None (Some (tdiscarded_for tag why)) (λ u x. refl) (λ u. refl))
      (λ now going room. silent (Server s.number) past linked now Clock 0 None (λ u x. refl)) (λ now going room. silent (Server s.number) past linked now Retired 0 None (λ u x. refl))
      (λ now going ready none room. still (Server s.number) past linked now PingSent 1 None None (Some (tping_on 1)) (λ u x. refl) (λ u. refl))
      (λ now going. silent (Server s.number) past linked now Lost 0 None (λ u x. refl))
      (λ e over is. silent (Server s.number) past linked 0 LostOne e.tag e.name (λ u x. refl))
      (λ going empty out quiet room few u. sym (none_sent rs old.going going empty u) ∙ linked u)
      (λ going fits few. silent (Server s.number) past linked 0 (Rolled (epoch_of rs + 1)) 0 None (λ u x. refl))

  -- each dispatch that is sent has a name, in the messages and in the records
  record Sends (e : Exchange) : Type 0 where
    names : OnDispatch e.sent (λ f. (n : Name) × (name_in e.rec ≡ Some n))
    sent : AreSent (sendings (with_record e.rec rs))
    going : AreGoing (with_record e.rec rs)

  sends : (r : Record) (taken sent : Option MuxFrame) → OnDispatch sent (λ f. (n : Name) × (r.name ≡ Some n)) → is_epoch r.kind ≡ false → is_going_kind r.kind ≡ true →
      (is_offered r.kind ≡ true → (n : Name) × (r.name ≡ Some n)) → Sends (record { rec = Some r; taken = taken; sent = sent })
  sends r taken sent names e g offered = record {
    names = names;
    sent = sent_after r r.kind (sendings rs) offered old.sent;
    going = going_still rs r e g old.going;
  }

  settled_sends : (f : MuxFrame) (now : ℕ) (n : Option Name) → Sends (entry_of rs now (settled_kind f) f.tag n (Some f) None)
  settled_sends f now n = by_nack (is_nack f)
    where
      by_nack : (b : Bool) → Sends (entry_of rs now (if b then SettledNack else Settled f.kind) f.tag n (Some f) None)
      by_nack true = sends _ _ _ tt refl refl (λ e. absurd (cc))
      by_nack false = sends _ _ _ tt refl refl (λ e. absurd (cc))

  reacted_sends : (f : MuxFrame) (now : ℕ) (r : Reaction) → OnRecorded (reacted s past f now r) (λ e gives. Sends e)
  reacted_sends f now Shut = tt
  reacted_sends f now Full = tt
  reacted_sends f now Short = tt
  reacted_sends f now (Closes cause) = sends _ _ _ tt refl refl (λ e. absurd (cc))
  reacted_sends f now (Settles n again) = settled_sends f now n
  reacted_sends f now Pongs = sends _ _ _ (λ d. absurd (cc)) refl refl (λ e. absurd (cc))
  reacted_sends f now Drains = sends _ _ _ (λ d. absurd (cc)) refl refl (λ e. absurd (cc))
  reacted_sends f now (Leases ms) = sends _ _ _ tt refl refl (λ e. absurd (cc))
  reacted_sends f now Ignores = sends _ _ _ tt refl refl (λ e. absurd (cc))
  reacted_sends f now Unsupports = sends _ _ _ (λ d. absurd (cc)) refl refl (λ e. absurd (cc))
  reacted_sends f now AsksInit = sends _ _ _ (λ d. absurd (cc)) refl refl (λ e. absurd (cc))
  reacted_sends f now EndsInit = sends _ _ _ tt refl refl (λ e. absurd (cc))
  reacted_sends f now EndsPing = sends _ _ _ tt refl refl (λ e. absurd (cc))
  reacted_sends f now Drops = sends _ _ _ tt refl refl (λ e. absurd (cc))

  up_sends : (ls : List Line) (out t : ℕ) (call : Call) → MayChoose s past t call → CallBorne ls call → OnRecorded (up s past out t call) (λ e gives. Sends e)
  up_sends ls =
      up_shapes ls s past (λ call e gives. Sends e) (λ f now going r led free. reacted_sends f now r)
      (λ t n f left now may b going ready undrained unretired unlapsed window room. sends _ _ _ (λ d. (n, refl)) refl refl (λ e. (n, refl)))
      (λ n tag why now going here. sends _ _ _ (λ d. (n, refl)) refl refl (λ e. absurd (cc)))
      (λ now going room. sends _ _ _ tt refl refl (λ e. absurd (cc))) (λ now going room. sends _ _ _ tt refl refl (λ e. absurd (cc)))
      (λ now going ready none room. sends _ _ _ (λ d. absurd (cc)) refl refl (λ e. absurd (cc)))
      (λ now going. sends _ _ _ tt refl refl (λ e. absurd (cc)))
      (λ e over is. record { names = tt; sent = off_sent e.tag (sendings rs) old.sent; going = going_lost rs (rec_of past 0 LostOne e.tag e.name) refl over })
      (λ going empty out quiet room few. record { names = tt; sent = tt; going = going_sealed rs (rec_of past 0 (Epoch (epoch_of rs + 1) (up_standing s.mode rs)) 0 None) going refl old.going })
      (λ going fits few. sends _ _ _ tt refl refl (λ e. absurd (cc)))

  -- every step keeps it so
  pub up_ties : (ls : List Line) (out t : ℕ) (call : Call) → MayChoose s past t call → CallBorne ls call → OnRecorded (up s past out t call) (λ e gives. IsTiedUp s (record { call = call; entry = e } ∷ past))
  up_ties ls out t call may b =
      on_both (up s past out t call) (λ e gives. Links (Server s.number) past e) (λ e gives. Sends e) (λ e gives. IsTiedUp s (record { call = call; entry = e } ∷ past))
      (λ e gives links more. record {
        linked = links;
        names = λ u. named_asked u (record { place = length (entries past); name = name_in e.rec }) e.sent (answered u e.taken (H u)) more.names (named_answered u e.taken (H u) (old.names u));
        sent = more.sent;
        going = more.going;
      })
      (up_links ls out t call may b) (up_sends ls out t call may b)

-- nothing is held at the beginning
pub server_tied : (s : UpSession) → IsTiedUp s (first_step s.mode)
server_tied s = record {
  linked = λ t. by_mode_linked s.mode t;
  names = λ t. by_mode_named s.mode t;
  sent = by_mode_sent s.mode;
  going = by_mode_going s.mode;
}
  where
    by_mode_linked : (m : InitMode) (t : ℕ) → name_on t (records (first_step m)) ≡ name_held (holder (Server s.number) t (entries (first_step m)))
    by_mode_linked Probe t = refl
    by_mode_linked Plain t = refl

    by_mode_named : (m : InitMode) (t : ℕ) → IsNamed (holder (Server s.number) t (entries (first_step m)))
    by_mode_named Probe t = tt
    by_mode_named Plain t = tt

    by_mode_sent : (m : InitMode) → AreSent (sendings (records (first_step m)))
    by_mode_sent Probe = tt
    by_mode_sent Plain = tt

    by_mode_going : (m : InitMode) → AreGoing (records (first_step m))
    by_mode_going Probe = λ h. refl
    by_mode_going Plain = λ h. refl
