-- A state that a session's calls led to is what its records say, and each record may follow those before it.
use Rattle.std.proofs.Common.{ℕ, List, [], ◌∷◌, ◌++◌, ◌≡◌, Bool, true, false, cond, Some, refl, sym, ◌∙◌, ap, subst}
use Rattle.std.specs.Prelude.{◌==◌, map, reverse}
use Rattle.std.proofs.lemmas.Bool.{and_parts}
use Rattle.mux_history.specs.declared.record.Record.{Record}
use Rattle.mux_history.specs.declared.session.InitMode.{InitMode}
use Rattle.mux_history.specs.declared.session.SessionId.TheVariants.{Server}
use Rattle.mux_history.specs.Readings.{present, Sending, sendings, sending_on}
use Rattle.mux_history.specs.Standings.{up_standing, up_with}
use Rattle.mux_model.specs.Steps.{Step, records}
use Rattle.mux_model.specs.Replay.{UpOutline, up_outline, is_up_history, is_joined, are_histories}
use Rattle.mux_model.proofs.Epochs.{up_outline_present}
use Rattle.mux_legal.specs.KeptHistories.{AreFaultlessAlone}
use Rattle.mux_legal.proofs.Following.{epochs_split}
use Rattle.mux_legal.proofs.KeptAlone.{kept_histories_are_faultless}
use Rattle.mux_legal.proofs.SessionsRecorded.{reached_up}
use Rattle.client_session.specs.Past.{Past, dispatch_of, dispatch_on}
use Rattle.client_session.specs.State.{State}
use Rattle.client_session.specs.Belonging.{Belongs}
use Rattle.client_session.proofs.Deciding.{get_same, load_same, ping_same}
use Rattle.client_session.proofs.Lists.{flip}
use Rattle.kept_session.specs.Reached.{Kept, IsKept, IsReached}
use Rattle.kept_session.specs.Outlined.{Shows, IsOutlined, IsHistory, IsFaultless, kept_on, told_on}
use Rattle.kept_session.proofs.Records.{rested, all_back}

told_same : (steps : List Step) (t : ℕ) (ss : List Sending) → kept_on (dispatch_on t (map (dispatch_of steps) ss)) ≡ told_on (sending_on t ss)
told_same steps t [] = refl
told_same steps t (e ∷ ss) = by (t == e.tag) (told_same steps t ss) ∙ ap (λ (z : Bool). told_on (cond z (Some e) (sending_on t ss))) (flip t e.tag)
  where
    by : (z : Bool) → kept_on (dispatch_on t (map (dispatch_of steps) ss)) ≡ told_on (sending_on t ss)
        → kept_on (cond z (Some (dispatch_of steps e).1) (dispatch_on t (map (dispatch_of steps) ss))) ≡ told_on (cond z (Some e) (sending_on t ss))
    by true same = refl
    by false same = same

pub shown : (mode : InitMode) (s : State) (p : Past) → p.session.mode ≡ mode → Belongs s p → Shows s (up_outline mode (records p.steps))
shown mode s p begun b = record {
  entries = λ t. ap kept_on (get_same s p b t) ∙ told_same p.steps t (sendings (records p.steps));
  load = load_same s p b;
  standing =
      (λ i. up_with (b.init i) (b.drains i) (b.retired i) (ping_same s p b i) (b.lease i))
      ∙ ap (λ (m : InitMode). up_standing m (records p.steps)) begun;
  closed = b.closed;
  reading = b.reading;
  epoch = b.epoch;
}

pub outlined : (k : Kept) → IsKept k → IsOutlined k
outlined k kept =
    let p = kept.0 in
    let b = kept.2 in
    record {
      whole = λ gone g. subst (λ (rs : List Record). Shows k.state (up_outline k.mode rs))
          (sym (all_back (gone ++ k.ended) k.state.records g.0.steps g.3.all)) (shown k.mode k.state g.0 g.1.0 g.2);
      joined = λ p begun b. shown k.mode k.state p begun b;
      alone = λ h. subst (λ (o : UpOutline). Shows k.state o)
          (sym (up_outline_present k.mode (records p.steps)) ∙ ap (λ (rs : List Record). up_outline k.mode rs) (rested k.state.records p.steps b.records h))
          (shown k.mode k.state p kept.1.0 b);
    }

-- each record since the session was last at rest may follow those before it
follows : (p : Past) (mode : InitMode) → IsReached mode p → is_up_history p.session (present (records p.steps)) ≡ true
follows p mode r =
    let joined = (reached_up p.session p.steps r.1).0.joined 0 in
    let all = sym (ap (are_histories p.session.limits 0 p.session.mode (Server p.session.number)) (epochs_split (records p.steps))) ∙ (and_parts _ _ joined).0 in
    (and_parts _ _ all).0

rests_faultless : (p : Past) (mode : InitMode) → IsReached mode p → AreFaultlessAlone (present (records p.steps))
rests_faultless p mode r =
    kept_histories_are_faultless p.session.limits 0 p.session.mode (Server p.session.number) (present (records p.steps)) (follows p mode r)

pub followed : (k : Kept) → IsKept k → IsHistory k
followed k kept =
    let p = kept.0 in
    let b = kept.2 in
    let mine : (p : Past) → p.session.mode ≡ k.mode → Belongs k.state p → p.session ≡ record { limits = k.state.limits; number = k.state.server; mode = k.mode } =
    λ p begun b i. record { limits = sym b.limits i; number = sym b.server i; mode = begun i } in
    record {
      whole = λ gone g boot. sym (λ i. is_joined (mine g.0 g.1.0 g.2 i).limits boot (mine g.0 g.1.0 g.2 i).mode (Server (mine g.0 g.1.0 g.2 i).number) (sym (all_back (gone ++ k.ended) k.state.records g.0.steps g.3.all) i))
          ∙ (reached_up g.0.session g.0.steps g.1.1).0.joined boot;
      joined = λ p r b boot. (reached_up p.session p.steps r.1).0.joined boot;
      alone = λ h. sym (λ i. is_up_history (mine p kept.1.0 b i) (rested k.state.records p.steps b.records h i)) ∙ follows p k.mode kept.1;
    }

-- it shows no fault by itself
pub alone : (k : Kept) → IsKept k → IsFaultless k
alone k kept = record {
  whole = λ gone g. subst (λ (rs : List Record). AreFaultlessAlone (present rs))
      (sym (all_back (gone ++ k.ended) k.state.records g.0.steps g.3.all)) (rests_faultless g.0 k.mode g.1);
  joined = λ p r b. rests_faultless p k.mode r;
  alone = λ h. kept_histories_are_faultless k.state.limits 0 k.mode (Server k.state.server) (reverse k.state.records) ((followed k kept).alone h);
}
