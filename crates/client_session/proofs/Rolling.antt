-- A session that is rolled belongs to the list in which the next history begins.
use Rattle.std.proofs.Common.{◌≡◌, ℕ, ◌+◌, ◌*◌, ◌≤◌, Bool, true, false, cond, List, [], ◌∷◌, ◌++◌, Option, None, Some, refl, sym, ◌∙◌, ap, subst, append_assoc, arith}
use Rattle.std.specs.Prelude.{max, nat_lt}
use Rattle.std.specs.Ordering.{nat_cmp}
use Rattle.std.specs.FinMap as map
use Rattle.std.proofs.lemmas.Bool.Decides.{nat_tests}
use Rattle.mux_frame.specs.Spelling.{MuxFrame}
use Rattle.mux_history.specs.declared.session.SessionId.TheVariants.{Server}
use Rattle.mux_history.specs.declared.kind.RecordKind.TheVariants.{Rolled}
use Rattle.mux_history.specs.Readings.{sendings, epoch_of}
use Rattle.mux_model.specs.Steps.{RollCall, records, entries as entries_of, rolling}
use Rattle.mux_model.specs.Tags.{holder}
use Rattle.translate_book.specs.declared.refusal.RollRefusal.{RollRefusal}
use Rattle.translate_book.specs.declared.refusal.RollRefusal.TheVariants as rolls
use Rattle.client_session.specs.Past.{Past, Dispatch, Figures, add, open_of, dispatch_on}
use Rattle.client_session.specs.State.{State, figures_in, rolled_in}
use Rattle.client_session.specs.Decide.{roll_refusal}
use Rattle.client_session.specs.Belonging.{Belongs, HasDistinctTags, IsHeldBy}
use Rattle.client_session.proofs.Keeping.{init_kept, same_sum}
use Rattle.client_session.proofs.Lists.{open_after}

-- what a session that may be rolled says of its figures
pub roll_open : (f : Figures) → roll_refusal f ≡ None → f.closed ≡ false
roll_open f h = by f.closed _ h
  where
    by : (a : Bool) (rest : Option RollRefusal) → cond a (Some rolls.Closed) rest ≡ None → a ≡ false
    by true rest h = cc
    by false rest h = refl

pub roll_fits : (f : Figures) → roll_refusal f ≡ None → 2 * (f.load + f.kept) ≤ f.limits.history
roll_fits f h = fits f.limits.history (2 * (f.load + f.kept)) (by f.closed (nat_lt f.limits.history (2 * (f.load + f.kept))) _ h)
  where
    by : (a b : Bool) (rest : Option RollRefusal) → cond a (Some rolls.Closed) (cond b (Some rolls.NoRoom) rest) ≡ None → b ≡ false
    by true b rest h = cc
    by false true rest h = cc
    by false false rest h = refl

    fits : (m n : ℕ) → nat_lt m n ≡ false → n ≤ m
    fits m n h = grind (arith, nat_tests)

pub kept_rolled : (s : State) (p : Past) → Belongs s p → roll_refusal (figures_in s) ≡ None
    → Belongs (rolled_in s) (add p RollCall (rolling (records p.steps)))
kept_rolled s p b none =
    let q = add p RollCall (rolling (records p.steps)) in
    let same : open_of q.steps ≡ open_of p.steps =
    open_after RollCall p.steps 0 0 (Rolled (epoch_of (records p.steps) + 1)) None None None refl (sendings (records p.steps)) refl in
    record {
      server = b.server;
      limits = b.limits;
      epoch = ap (λ (n : ℕ). n + 1) b.epoch;
      records = λ i. record { kind = Rolled (b.epoch i + 1); tag = 0; name = None; reading = max (b.reading i) 0 } ∷ [];
      queue = sym (append_assoc p.out s.queue []) ∙ ap (λ (q : List MuxFrame). q ++ []) b.queue;
      entries = b.entries ∙ ap (λ (hs : List (ℕ × Dispatch)). map.from_entries {R = nat_cmp} hs) (sym same);
      delays = b.delays;
      distinct = subst HasDistinctTags (sym same) b.distinct;
      held = λ still t. subst (λ (hs : List (ℕ × Dispatch)). IsHeldBy (holder (Server p.session.number) t (entries_of p.steps)) (dispatch_on t hs)) (sym same) (b.held still t);
      lapse = b.lapse;
      lease = b.lease;
      reading = ap (λ (r : ℕ). max r 0) b.reading;
      init = b.init ∙ sym (init_kept p.session.mode _ (records p.steps) refl refl refl);
      drained = b.drained;
      drains = b.drains;
      retired = b.retired;
      pings = same_sum _ _ _ b.pings;
      closed = b.closed;
    }
