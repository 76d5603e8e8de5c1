-- Histories that an audit is handed one after the other.
use Rattle.std.proofs.Common.{ℕ, List, [], ◌∷◌, ◌++◌, ◌≡◌, ◌+◌, ◌<◌, ◌≤◌, refl, sym, ◌∙◌, ap, subst, append_assoc, arith, drop, length, get_or}
use Rattle.std.proofs.lemmas.List.{drop_more, length-append}
use Rattle.mux_history.specs.Log.{Log}
use Rattle.mux_history.specs.declared.record.Record.{Record}
use Rattle.mux_history.specs.declared.session.SessionId.{SessionId}
use Rattle.rolling_audit.specs.declared.run.RunAudit.{RunAudit}
use Rattle.rolling_audit.specs.Covering.{LeftBy, TakesEpoch}
use Rattle.rolling_audit.specs.declared.run_fault.RunFault.{RunFault}
use Rattle.router_state.specs.Giving.{EndsIf, Looks, StopsAt, TakesFrom, epoch_at}
use Rattle.router_state.specs.declared.given.Given.{Given}

-- one more is taken behind the others
takes_more : (a b c : RunAudit) (id : SessionId) (first n : ℕ) (hs : List Log) (h : Log) → TakesFrom a id first n hs b →
    TakesEpoch b id (epoch_at first (n + length hs)) h.records c → TakesFrom a id first n (hs ++ (h ∷ [])) c
takes_more a b c id first n [] h same last = (
  c,
  subst (λ m. TakesEpoch m id (epoch_at first n) h.records c) (sym same)
      (subst (λ k. TakesEpoch b id (epoch_at first k) h.records c) (omega (arith)) last),
  refl,
)
takes_more a b c id first n (x ∷ hs) h takes last = (
  takes.0,
  takes.1,
  takes_more takes.0 b c id first (n + 1) hs h takes.2
      (subst (λ k. TakesEpoch b id (epoch_at first k) h.records c) (omega (arith)) last),
)

-- none was looked at
pub looks_none : (g : Given) (a : RunAudit) → Looks g a g.seen a
looks_none g a = record { done = []; whole = refl; count = omega (arith); taken = refl }

-- nor the next
pub looks_more : (g : Given) (a b c : RunAudit) (k : ℕ) (d h : Log) (rs : List Record) → k < length g.histories.items →
    h ≡ get_or g.histories.items k d → rs ≡ h.records → Looks g a k b → TakesEpoch b g.session (epoch_at g.first k) rs c → Looks g a (k + 1) c
looks_more g a b c k d h rs within is of l last =
    record {
      done = l.done ++ (h ∷ []);
      whole = l.whole
          ∙ (ap (λ xs. l.done ++ xs) (drop_more g.histories.items k d within ∙ ap (λ x. x ∷ drop (k + 1) g.histories.items) (sym is))
          ∙ sym (append_assoc l.done (h ∷ []) (drop (k + 1) g.histories.items)));
      count = let count = l.count in let long = length-append l.done (h ∷ []) in omega (arith, count, long);
      taken = takes_more a b c g.session g.first g.seen l.done h l.taken
          (subst (λ n. TakesEpoch b g.session (epoch_at g.first n) h.records c) l.count
          (subst (λ r. TakesEpoch b g.session (epoch_at g.first k) r c) of last));
    }

-- of what the loop keeps
pub looks_on : (g s : Given) (a b c : RunAudit) (k n len : ℕ) (d h : Log) (rs : List Record) → s ≡ record g { seen = k } →
    len ≡ length g.histories.items → k < len → h ≡ get_or s.histories.items k d → rs ≡ h.records → n ≡ epoch_at s.first k → Looks g a k b →
    TakesEpoch b s.session n rs c → Looks g a (k + 1) c
looks_on g s a b c k n len d h rs same long within is of at l last =
    looks_more g a b c k d h rs (subst (λ m. k < m) long within) (subst (λ (x : Given). h ≡ get_or x.histories.items k d) same is) of l
    (subst (λ m. TakesEpoch b g.session m rs c) (subst (λ (x : Given). n ≡ epoch_at x.first k) same at)
    (subst (λ (x : Given). TakesEpoch b x.session n rs c) same last))

pub stops_here : (e : RunFault) (g s : Given) (a b c : RunAudit) (k n len : ℕ) (d h : Log) (rs : List Record) → s ≡ record g { seen = k } →
    len ≡ length g.histories.items → k < len → h ≡ get_or s.histories.items k d → rs ≡ h.records → n ≡ epoch_at s.first k → Looks g a k b →
    LeftBy e b s.session n rs c → StopsAt e g a s.seen c
stops_here e g s a b c k n len d h rs same long within is of at l left =
    let here = subst (λ (x : Given). h ≡ get_or x.histories.items k d) same is in
    subst (λ m. StopsAt e g a m c) (sym (ap (λ (x : Given). x.seen) same))
    (record {
      before = b;
      looks = l;
      at = h;
      is = drop_more g.histories.items k d (subst (λ m. k < m) long within) ∙ ap (λ x. x ∷ drop (k + 1) g.histories.items) (sym here);
      left = subst (λ r. LeftBy e b g.session (epoch_at g.first k) r c) of
          (subst (λ m. LeftBy e b g.session m rs c) (subst (λ (x : Given). n ≡ epoch_at x.first k) same at)
          (subst (λ (x : Given). LeftBy e b x.session n rs c) same left));
    })

pub looks_last : (g s : Given) (a b c : RunAudit) (k len : ℕ) → s ≡ record g { seen = k } → len ≡ length g.histories.items → len ≤ k →
    Looks g a k b → EndsIf s.is_all s.session b c →
    (all : RunAudit) × Looks g a s.seen all × length g.histories.items ≤ s.seen × EndsIf g.is_all g.session all c
looks_last g s a b c k len same long behind l ends = (
  b,
  subst (λ m. Looks g a m b) (sym (ap (λ (x : Given). x.seen) same)) l,
  subst (λ m. length g.histories.items ≤ m) (sym (ap (λ (x : Given). x.seen) same)) (subst (λ m. m ≤ k) long behind),
  subst (λ (x : Given). EndsIf x.is_all x.session b c) same ends,
)
