use Rattle.std.proofs.Common.{ℕ, ◌+◌, ◌∙◌, ap, arith, rules, sym}
use Rattle.std.proofs.lemmas.List.Sums.{count_by_more_no, count_by_more_yes}
use mathlib.Core.Logic.{inl, inr}
use Rattle.hub_close.specs.Packing.{is_mark, stubs}
use Rattle.hub_close.proofs.Fronts.{above_by, all_rise, all_stand, first_wrong_is, next_before, not_above, right_next}
use Rattle.hub_close.proofs.Lists.{stubs_length}
use Rattle.hub_close.proofs.wrong.first_wrong_of.Goals as goal
use Rattle.hub_close.proofs.wrong.first_wrong_of.Goals.{then-is_mark, else-is_mark}

pub returns-then-not-stands-clause-some : goal.returns-then-not-stands-clause-some
returns-then-not-stands-clause-some c =
    first_wrong_is _ _ _ _ _ c.loop-at.invariant.0 c.stub_at-stub.ensures (inl (c.stands.ensures.no (search rules)))

pub returns-then-not-is_above-clause-some : goal.returns-then-not-is_above-clause-some
returns-then-not-is_above-clause-some c =
    first_wrong_is _ _ _ _ _ c.loop-at.invariant.0 c.stub_at-stub.ensures
    (inr (not_above _ _ _ _ c.loop-at.invariant.2 c.stub_at-stub.ensures (c.is_above.ensures.no (search rules))))

pub loop-at-preserved : goal.loop-at-preserved
loop-at-preserved c = (
  right_next _ _ _ _ _ c.stub_at-stub.ensures (c.stands.ensures.yes (search rules))
      (above_by _ _ _ _ c.loop-at.invariant.2 c.stub_at-stub.ensures (c.is_above.ensures.yes (search rules)))
      c.loop-at.invariant.0,
  elim c.if-is_mark.branch [
    | then-is_mark w ↦ w.marks-is ∙ ap (λ (n : ℕ). n + 1) c.loop-at.invariant.1
        ∙ sym (count_by_more_yes is_mark _ _ _ c.loop-at-test.true (sym c.is_mark.ensures ∙ w.if-is_mark.true))
    | else-is_mark w ↦ w.marks-is ∙ c.loop-at.invariant.1
        ∙ sym (count_by_more_no is_mark _ _ _ c.loop-at-test.true (sym c.is_mark.ensures ∙ w.if-is_mark.false))
  ],
  sym (next_before (stubs c.args.boot c.args.packed.now c.args.whole.now) c.loop-at.at ∙ c.stub_at-stub.ensures),
)

pub returns-clause-stand : goal.returns-clause-stand
returns-clause-stand c =
    all_stand _ _ _ c.loop-at.at
    (omega (arith, c.loop-at-test.false, stubs_length c.args.boot c.args.packed.now c.args.whole.now))
    c.loop-at.invariant.0

pub returns-clause-rise : goal.returns-clause-rise
returns-clause-rise c =
    all_rise _ _ _ c.loop-at.at
    (omega (arith, c.loop-at-test.false, stubs_length c.args.boot c.args.packed.now c.args.whole.now))
    c.loop-at.invariant.0
