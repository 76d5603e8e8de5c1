use Rattle.std.proofs.Common.{ℕ, Option, ap, sym, subst, refl, ◌∙◌}
use Rattle.mux_history.specs.Counting.{IsSum}
use Rattle.mux_history.specs.declared.counts.KindCounts.{KindCounts}
use Rattle.router_state.specs.Counted.{OwnMore, place_of}
use Rattle.router_state.proofs.kinds.Kinds.give.Goals as goal

pub returns-in-Some : goal.returns-in-Some
returns-in-Some c =
    let us = c.args.self.now.by_server.items in
    let is = ap (λ (n : ℕ). place_of n c.args.given.now.session) (sym c.len.ensures) ∙ sym c.place_of.ensures ∙ c.in-Some.is in
    record {
      counts = c.counts-counts.result;
      are = c.counts-counts.ensures;
      all = subst (λ (k : KindCounts). IsSum c.args.self.now.given c.counts-counts.result k) (sym c.add.ensures.given) c.plus-self.ensures;
      own = subst (λ (place : Option ℕ). OwnMore place c.counts-counts.result us c.add.new.self.by_server.items) (sym is) c.add.ensures.own;
    }

pub returns-in_default : goal.returns-in_default
returns-in_default c =
    let us = c.args.self.now.by_server.items in
    let none = ap (λ (n : ℕ). place_of n c.args.given.now.session) (sym c.len.ensures) ∙ sym c.place_of.ensures ∙ c.in_default.is in
    record {
      counts = c.counts-counts.result;
      are = c.counts-counts.ensures;
      all = c.plus-self.ensures;
      own = subst (λ (place : Option ℕ). OwnMore place c.counts-counts.result us us) (sym none) refl;
    }
