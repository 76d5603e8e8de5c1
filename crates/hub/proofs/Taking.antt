-- Histories that an audit takes one after the other.
use Rattle.std.proofs.Common.{Result, Ok, Err, IfErr, ℕ, List, [], ◌∷◌, ◌++◌, ◌+◌, ◌≡◌, ◌<◌, refl, sym, ◌∙◌, ap, subst, append_assoc, drop, length, get_or}
use Rattle.std.proofs.lemmas.List.{append-nil, drop_more}
use Rattle.mux_history.specs.Log.{Log}
use Rattle.mux_history.specs.declared.record.Record.{Record}
use Rattle.mux_history.specs.declared.session.SessionId.{SessionId}
use Rattle.rolling_audit.specs.declared.run.RunAudit.{RunAudit}
use Rattle.rolling_audit.specs.declared.run_fault.RunFault.{RunFault}
use Rattle.rolling_audit.specs.Covering.{LeftBy, TakesEpoch}
use Rattle.hub.specs.Rests.{Goes, Rest, StopsAmong, TakesAll, first_in, rests_from, rests_of}

pub takes_both : (a b c : RunAudit) (xs ys : List Rest) → TakesAll a xs b → TakesAll b ys c → TakesAll a (xs ++ ys) c
takes_both a b c [] ys same takes = subst (λ m. TakesAll m ys c) (sym same) takes
takes_both a b c (x ∷ xs) ys first takes = (first.0, first.1, takes_both first.0 b c xs ys first.2 takes)

-- none was taken, or some more were
pub none_yet : (a : RunAudit) (all : List Rest) → Goes a all all a
none_yet a all = record { done = []; whole = refl; taken = refl }

pub goes_on : (a b c : RunAudit) (all xs ys : List Rest) → Goes a all (xs ++ ys) b → TakesAll b xs c → Goes a all ys c
goes_on a b c all xs ys g takes =
    record {
      done = g.done ++ xs;
      whole = g.whole ∙ sym (append_assoc g.done xs ys);
      taken = takes_both a b c g.done xs g.taken takes;
    }

-- what stops among the next ones stops among all
pub stops_on : (e : RunFault) (a b : RunAudit) (all xs ys : List Rest) → Goes a all (xs ++ ys) b → StopsAmong e b xs → StopsAmong e a all
stops_on e a b all xs ys g s =
    record {
      before = s.before;
      behind = s.behind;
      at = s.at;
      later = s.later ++ ys;
      goes = record {
        done = g.done ++ s.goes.done;
        whole = g.whole
            ∙ (ap (λ l. g.done ++ (l ++ ys)) s.goes.whole
            ∙ (ap (λ l. g.done ++ l) (append_assoc s.goes.done (s.at ∷ s.later) ys)
            ∙ sym (append_assoc g.done s.goes.done (s.at ∷ (s.later ++ ys)))));
        taken = takes_both a b s.before g.done s.goes.done g.taken s.goes.taken;
      };
      left = s.left;
    }

-- one alone
pub takes_one : (a b : RunAudit) (r : Rest) → TakesEpoch a r.session (first_in a r.session) r.records b → TakesAll a (r ∷ []) b
takes_one a b r takes = (b, takes, refl)

pub stops_at : (e : RunFault) (a b : RunAudit) (r : Rest) → LeftBy e a r.session (first_in a r.session) r.records b → StopsAmong e a (r ∷ [])
stops_at e a b r left = record { before = a; behind = b; at = r; later = []; goes = none_yet a (r ∷ []); left = left }

-- the epoch at a place is next, and so is the session
pub epoch_next : (a b : RunAudit) (all : List Rest) (id : SessionId) (hs : List Log) (k : ℕ) (d h : Log) (rs : List Record) → k < length hs
    → h ≡ get_or hs k d → rs ≡ h.records → Goes a all (rests_of id (drop k hs)) b
    → Goes a all ((record { session = id; records = rs } ∷ []) ++ rests_of id (drop (k + 1) hs)) b
epoch_next a b all id hs k d h rs within is of g =
    subst (λ l. Goes a all ((record { session = id; records = l } ∷ []) ++ rests_of id (drop (k + 1) hs)) b)
    (sym (of ∙ ap (λ l. l.records) is))
    (subst (λ l. Goes a all (rests_of id l) b) (drop_more hs k d within) g)

pub session_next : {H : Type 0} (named : H → SessionId) (epochs : H → List Log) (a b : RunAudit) (all : List Rest) (hs : List H) (k : ℕ) (d h : H)
    (es : List Log) → k < length hs → h ≡ get_or hs k d → es ≡ epochs h → Goes a all (rests_from named epochs (drop k hs)) b
    → Goes a all (rests_of (named h) es ++ rests_from named epochs (drop (k + 1) hs)) b
session_next named epochs a b all hs k d h es within is of g =
    subst (λ l. Goes a all (rests_of (named h) l ++ rests_from named epochs (drop (k + 1) hs)) b) (sym of)
    (subst (λ x. Goes a all (rests_of (named x) (epochs x) ++ rests_from named epochs (drop (k + 1) hs)) b) (sym is)
    (subst (λ l. Goes a all (rests_from named epochs l) b) (drop_more hs k d within) g))

pub stops_next : {T : Type 0} (r : Result T RunFault) (a b : RunAudit) (id : SessionId) (n : ℕ) (rs : List Record) → n ≡ first_in a id →
    IfErr r (λ e. LeftBy e a id n rs b) → IfErr r (λ e. StopsAmong e a (record { session = id; records = rs } ∷ []))
stops_next (Ok x) a b id n rs is left = tt
stops_next (Err e) a b id n rs is left = stops_at e a b (record { session = id; records = rs }) (subst (λ k. LeftBy e a id k rs b) is left)

-- what stops among the last ones
pub stops_last : {T : Type 0} (r : Result T RunFault) (a b : RunAudit) (all xs : List Rest) → Goes a all xs b → IfErr r (λ e. StopsAmong e b xs)
    → IfErr r (λ e. StopsAmong e a all)
stops_last (Ok x) a b all xs g stop = tt
stops_last (Err e) a b all xs g stop = stops_on e a b all xs [] (subst (λ l. Goes a all l b) (sym (append-nil xs)) g) stop
