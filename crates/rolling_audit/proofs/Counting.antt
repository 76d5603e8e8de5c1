-- What was counted of a dispatch, one record further.
use Rattle.std.proofs.Common.{List, [], ◌+◌, ◌≡◌, ◌&&◌, ◌||◌, Bool, true, false, refl, sym, ◌∙◌, ap, Option, Some, None}
use Rattle.std.specs.Prelude.{IfSome, nat_lt}
use Rattle.mux_history.specs.declared.name.Name.{Name}
use Rattle.mux_history.specs.declared.record.Record.{Record}
use Rattle.mux_history.specs.declared.kind.RecordKind.{RecordKind}
use Rattle.mux_history.specs.Readings.{gives_name, is_named}
use Rattle.mux_agree.specs.Agree.{answers, has, is_failed, is_lost_one, times}
use Rattle.rolling_audit.specs.Counted.{one}
use Rattle.rolling_audit.proofs.Counts.{goes_on, has_is, has_one, own_name, times_one}
use Rattle.rolling_audit.specs.declared.life.Life.{Life}
use Rattle.rolling_audit.specs.Lives.{CountsLife, IsLife, LivesOn, is_note, is_passed, no_life}
use Rattle.rolling_audit.specs.Recalls.{gives_recall}

-- no second answer
sum_once : (a b : Bool) → (a && b) ≡ false → one a + one b ≡ one (a || b)
sum_once true true once = absurd (cc)
sum_once true false once = refl
sum_once false true once = refl
sum_once false false once = refl

pub lives_on : (l : Life) (of_client : Bool) (kind : RecordKind) (m : Life) → CountsLife l of_client kind m → (answers kind && l.answered) ≡ false → LivesOn l of_client kind m
lives_on l of_client kind m by once n clients all r is_kind is c =
    let named : is_named n r.name ≡ true = rw is (own_name n) in
    record {
      trace = goes_on l.trace of_client kind m.trace by.trace n clients all r is_kind is c.trace;
      answered = times_one answers n r all kind (one l.answered) is_kind named c.answered ∙ (sum_once (answers kind) l.answered once ∙ ap one (sym by.answered));
      passed = has_one is_passed n r all kind l.passed is_kind named c.passed ∙ sym by.passed;
      failed = has_one is_failed n r all kind l.failed is_kind named c.failed ∙ sym by.failed;
      noted = times_one is_note n r all kind l.noted is_kind named c.noted ∙ sym by.noted;
      gave_recall = has_one gives_recall n r all kind l.gave_recall is_kind named c.gave_recall ∙ sym by.gave_recall;
      lost = times_one is_lost_one n r all kind l.lost is_kind named c.lost ∙ sym by.lost;
    }

pub lives_on_if : (l : Life) (of_client : Bool) (kind : RecordKind) (o : Option Life) → IfSome o (λ m. CountsLife l of_client kind m) → (answers kind && l.answered) ≡ false →
    IfSome o (λ m. LivesOn l of_client kind m)
lives_on_if l of_client kind None h once = tt
lives_on_if l of_client kind (Some m) h once = lives_on l of_client kind m h once

-- the same counts are told of the name by other lists that have as many of its records
has_same : (p : RecordKind → Bool) (n : Name) (xs ys : List Record) (b : Bool) → times p n ys ≡ times p n xs → has p n xs ≡ b → has p n ys ≡ b
has_same p n xs ys b same is = has_is p n ys ∙ (ap (nat_lt 0) same ∙ (sym (has_is p n xs) ∙ is))

pub relife : (n : Name) (clients all others every : List Record) (l : Life) → ((p : RecordKind → Bool) → times p n others ≡ times p n clients) →
    ((p : RecordKind → Bool) → times p n every ≡ times p n all) → IsLife n clients all l → IsLife n others every l
relife n clients all others every l same_clients same_all c =
    record {
      trace = record {
        offered = same_all _ ∙ c.trace.offered;
        retried = same_all _ ∙ c.trace.retried;
        nacked_back = same_all _ ∙ c.trace.nacked_back;
        settled = same_all _ ∙ c.trace.settled;
        taken = has_same gives_name n clients others l.trace.taken (same_clients gives_name) c.trace.taken;
        missing = has_same _ n all every l.trace.missing (same_all _) c.trace.missing;
        refused = has_same _ n all every l.trace.refused (same_all _) c.trace.refused;
        nacked = has_same _ n all every l.trace.nacked (same_all _) c.trace.nacked;
        recalled = has_same _ n all every l.trace.recalled (same_all _) c.trace.recalled;
      };
      answered = same_all _ ∙ c.answered;
      passed = has_same _ n all every l.passed (same_all _) c.passed;
      failed = has_same _ n all every l.failed (same_all _) c.failed;
      gave_recall = has_same _ n all every l.gave_recall (same_all _) c.gave_recall;
      noted = same_all _ ∙ c.noted;
      lost = same_all _ ∙ c.lost;
    }

pub bare_life : (n : Name) → IsLife n [] [] no_life
bare_life n =
    record {
      trace = record {
        offered = refl;
        retried = refl;
        nacked_back = refl;
        settled = refl;
        taken = refl;
        missing = refl;
        refused = refl;
        nacked = refl;
        recalled = refl;
      };
      answered = refl;
      passed = refl;
      failed = refl;
      gave_recall = refl;
      noted = refl;
      lost = refl;
    }
