-- A session that is sealed.
use Rattle.std.proofs.Common.{◌≡◌, ℕ, ◌+◌, ◌-◌, Bool, true, false, cond, [], ◌∷◌, ◌++◌, length, None, Some, refl, sym, ◌∙◌, ap, arith, append-nil}
use Rattle.std.specs.Prelude.{◌||◌, if◌then◌else◌, max, nat_lt, nat_le, ◌*◌}
use Rattle.std.proofs.lemmas.Bool.Decides.{nat_tests}
use Rattle.mux_history.specs.declared.kind.RecordKind.TheVariants as kinds
use Rattle.mux_history.specs.declared.kind.Standing.TheVariants.{Down}
use Rattle.mux_history.specs.Readings.{has_ended, drain_of, reading, epoch_of}
use Rattle.mux_history.specs.Standings.{down_standing}
use Rattle.mux_history.proofs.Present.{fresh_kept, drain_kept}
use Rattle.mux_model.specs.Steps.{SealCall, records, entries, sealing, last_epoch}
use Rattle.translate_book.specs.declared.refusal.SealRefusal.TheVariants as seals
use Rattle.translate_book.specs.Book.{entry_at, open_at}
use Rattle.server_session.specs.Past.{Past, Figures, Words, add, sent_of}
use Rattle.server_session.specs.State.{State, sealed_in, standing_in, stage, asked_on_one}
use Rattle.server_session.specs.Decide.{seal_refusal, free_records}
use Rattle.server_session.specs.Belonging.{Belongs, name_in}
use Rattle.server_session.proofs.Naming.{naming_of}
use Rattle.mux_model.specs.Down.{reason_of}
use Rattle.server_session.proofs.Figures.{staged}
use Rattle.server_session.proofs.Queue.{no_length}

standing_same : (s : State) (p : Past) → Belongs s p → standing_in s ≡ down_standing (records p.steps)
standing_same s p b = λ i. Down (b.init i) ((ap stage b.drain ∙ staged (drain_of (records p.steps))) i) (b.dispatches i)

minus_none : (n : ℕ) → n - 0 ≡ n
minus_none n = omega arith

pub kept_sealed : (s : State) (p : Past) → Belongs s p → s.closed ≡ false → length s.book ≡ 0
    → Belongs (sealed_in s) (add p SealCall (sealing (records p.steps) (down_standing (records p.steps))))
kept_sealed s p b up none =
    let empty : s.book ≡ [] = no_length s.book none in
    let going : has_ended (records p.steps) ≡ false = sym b.closed ∙ up in
    record {
      boot = b.boot;
      client = b.client;
      limits = b.limits;
      epoch = ap (λ n. n + 1) b.epoch;
      records = λ i. record { kind = kinds.Epoch (b.epoch i + 1) (standing_same s p b i); tag = 0; name = None; reading = max (b.reading i) 0 } ∷ [];
      queue = ap (λ fs. p.out ++ fs) (append-nil s.queue) ∙ b.queue ∙ sym (append-nil (sent_of (entries p.steps)));
      dispatches = b.dispatches;
      reading = ap (λ r. max r 0) b.reading;
      init = b.init ∙ sym (fresh_kept (epoch_of (records p.steps) + 1) (max (reading (records p.steps)) 0) (records p.steps) (records p.steps));
      drain = b.drain ∙ ap asked_on_one (sym (drain_kept (epoch_of (records p.steps) + 1) (max (reading (records p.steps)) 0) (records p.steps) (records p.steps)));
      closed = up;
      names = ap (naming_of p.session) empty;
      rises = b.rises;
      once = b.once;
      entries = λ seq e is. absurd (let clash : None ≡ Some e = sym (ap (entry_at seq) empty) ∙ is in cc);
      absent = λ seq is. (refl, refl);
      later = λ seq above.
          let w = b.later seq above in
          λ i. record {
            taken = false;
            tag = 0;
            answer = false;
            note = false;
            noted = false;
            place = None;
            recalled = false;
            left = minus_none p.session.limits.retries i;
            why = (sym (ap (λ z. if z then [] else reason_of (name_in p.session seq) (entries p.steps)) (ap (λ (u : Words). u.recalled) w)) ∙ ap (λ (u : Words). u.why) w) i;
          };
      held = λ _ t. b.held going t;
      shut = λ end t. ap (open_at t) empty;
    }

-- what a session that may be sealed is
pub record MaySeal (f : Figures) : Type 0 where
  pub up : f.closed ≡ false
  pub quiet : f.load ≡ 0
  pub number : nat_le last_epoch f.epoch ≡ false

pub may_seal : (f : Figures) → seal_refusal f ≡ None → MaySeal f
may_seal f h = by f.closed (nat_lt 0 f.load) (nat_lt 0 f.queued) (nat_lt f.limits.history (4 * free_records f)) (nat_le last_epoch f.epoch) refl refl refl h
  where
    zero_load : (n : ℕ) → nat_lt 0 n ≡ false → n ≡ 0
    zero_load n h = grind (arith, nat_tests)

    by : (a l q c d : Bool) → f.closed ≡ a → nat_lt 0 f.load ≡ l → nat_le last_epoch f.epoch ≡ d
        → cond a (Some seals.Closed) (cond (l || q) (Some seals.NotQuiet) (cond c (Some seals.NotFull) (cond d (Some seals.LastEpoch) None))) ≡ None → MaySeal f
    by true l q c d x y z h = cc
    by false true q c d x y z h = cc
    by false false true c d x y z h = cc
    by false false false true d x y z h = cc
    by false false false false true x y z h = cc
    by false false false false false x y z h = record { up = x; quiet = zero_load f.load y; number = z }
