-- A session that is sealed belongs to the list in which the next epoch begins.
use Rattle.std.proofs.Common.{◌≡◌, ℕ, ◌+◌, Bool, true, false, cond, List, [], ◌∷◌, ◌++◌, length, Option, None, Some, refl, sym, ◌∙◌, ap, subst, append_assoc, arith}
use Rattle.std.specs.Prelude.{◌||◌, max, map as map_list, nat_lt}
use Rattle.std.specs.Ordering.{nat_cmp}
use Rattle.std.specs.FinMap as map
use Rattle.std.proofs.lemmas.Bool.Decides.{nat_tests}
use Rattle.mux_frame.specs.Spelling.{MuxFrame}
use Rattle.mux_history.specs.declared.session.SessionId.TheVariants.{Server}
use Rattle.mux_history.specs.Readings.{sendings}
use Rattle.mux_history.specs.Standings.{up_standing, up_with}
use Rattle.mux_history.specs.declared.kind.RecordKind.TheVariants.{Epoch}
use Rattle.mux_history.proofs.Present.{init_kept, lapse_read}
use Rattle.mux_model.specs.Steps.{SealCall, records, entries as entries_of, sealing}
use Rattle.mux_model.specs.Tags.{holder}
use Rattle.translate_book.specs.declared.refusal.SealRefusal.{SealRefusal}
use Rattle.translate_book.specs.declared.refusal.SealRefusal.TheVariants as seals
use Rattle.client_session.specs.Past.{Past, Dispatch, Figures, add, open_of, dispatch_of, dispatch_on}
use Rattle.client_session.specs.State.{State, figures_in, sealed_in, standing_in}
use Rattle.client_session.specs.Decide.{seal_refusal}
use Rattle.client_session.specs.Belonging.{Belongs, IsHeldBy}
use Rattle.client_session.proofs.Deciding.{load_same, ping_same}

-- what a session that may be sealed says of its figures
pub seal_open : (f : Figures) → seal_refusal f ≡ None → f.closed ≡ false
seal_open f h = by f.closed _ h
  where
    by : (a : Bool) (rest : Option SealRefusal) → cond a (Some seals.Closed) rest ≡ None → a ≡ false
    by true rest h = cc
    by false rest h = refl

pub seal_idle : (f : Figures) → seal_refusal f ≡ None → f.load ≡ 0
seal_idle f h = none f.load (by f.closed (nat_lt 0 f.load) (nat_lt 0 f.queued) _ h)
  where
    by : (a l q : Bool) (rest : Option SealRefusal) → cond a (Some seals.Closed) (cond (l || q) (Some seals.NotQuiet) rest) ≡ None → l ≡ false
    by true l q rest h = cc
    by false true q rest h = cc
    by false false q rest h = refl

    none : (n : ℕ) → nat_lt 0 n ≡ false → n ≡ 0
    none n h = grind (arith, nat_tests)

no_length : {A : Type 0} (xs : List A) → length xs ≡ 0 → xs ≡ []
no_length [] e = refl
no_length (x ∷ xs) e = absurd (omega (arith, e))

or_false : (x : Bool) → (x || false) ≡ x
or_false true = refl
or_false false = refl

one_ping : (a b : Bool) → a ≡ b → cond {A = ℕ} b 1 0 + 0 ≡ 0 + 0 + cond {A = ℕ} a 1 0
one_ping true true e = refl
one_ping false false e = refl
one_ping true false e = cc
one_ping false true e = cc

pub kept_sealed : (s : State) (p : Past) → Belongs s p → seal_refusal (figures_in s) ≡ None
    → Belongs (sealed_in s) (add p SealCall (sealing (records p.steps) (up_standing p.session.mode (records p.steps))))
kept_sealed s p b none =
    let up : s.closed ≡ false = seal_open (figures_in s) none in
    let held : sendings (records p.steps) ≡ [] = no_length (sendings (records p.steps)) (sym (load_same s p b) ∙ seal_idle (figures_in s) none) in
    let vacant : open_of p.steps ≡ [] = ap (map_list (dispatch_of p.steps)) held in
    let stands : standing_in s ≡ up_standing p.session.mode (records p.steps) =
    λ i. up_with (b.init i) (b.drains i) (b.retired i) (ping_same s p b i) (b.lease i) in
    record {
      server = b.server;
      limits = b.limits;
      epoch = ap (λ (n : ℕ). n + 1) b.epoch;
      records = λ i. record { kind = Epoch (b.epoch i + 1) (stands i); tag = 0; name = None; reading = max (b.reading i) 0 } ∷ [];
      queue = sym (append_assoc p.out s.queue []) ∙ ap (λ (q : List MuxFrame). q ++ []) b.queue;
      entries = b.entries ∙ ap (λ (hs : List (ℕ × Dispatch)). map.from_entries {R = nat_cmp} hs) vacant;
      delays = b.delays;
      distinct = tt;
      held = λ still t. subst (λ (hs : List (ℕ × Dispatch)). IsHeldBy (holder (Server p.session.number) t (entries_of p.steps)) (dispatch_on t hs)) vacant (b.held (sym b.closed ∙ up) t);
      lapse = b.lapse;
      lease = b.lease ∙ sym (lapse_read _);
      reading = ap (λ (r : ℕ). max r 0) b.reading;
      init = b.init ∙ sym (init_kept p.session.mode _ _ (records p.steps) (records p.steps));
      drained = b.drained;
      drains = b.drains ∙ sym (or_false _);
      retired = b.retired ∙ sym (or_false _);
      pings = one_ping s.ping _ (ping_same s p b);
      closed = up;
    }
