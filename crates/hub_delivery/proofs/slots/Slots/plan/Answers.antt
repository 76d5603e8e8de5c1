use Rattle.std.proofs.Common.{◌≡◌, ◌<◌, List, None, Some, ap, arith, length, rules, subst, sym, true, vec_len}
use mathlib.Core.List.{IsPrefix}
use Rattle.published_routes.proofs.Prefixes.{prefix_self, prefix_trans}
use Rattle.route_table.specs.Routes.{Change}
use Rattle.hub_base.specs.Errands.{goes_with, ticket_at}
use Rattle.hub_base.specs.Batching.{Batched}
use Rattle.hub_delivery.proofs.Aiming.{all_aimed, below_next}
use Rattle.hub_delivery.proofs.Carrying.{SeenFor, aimed_next, last_next, seen_now, seen_with}
use Rattle.hub_delivery.specs.Carrying as carrying
use Rattle.hub_delivery.specs.Leaving.{reply_of}
use Rattle.hub_delivery.proofs.Leaving.{no_more_since}
use Rattle.hub_delivery.proofs.slots.Slots.plan.Goals.{then-not-goes_with, else-not-goes_with}
use Rattle.hub_delivery.proofs.slots.Slots.plan.Goals as goal

pub loop-at-init : goal.loop-at-init
loop-at-init g c = (prefix_self c.args.routes.now, search rules, λ i n found. found, carrying.Aimed.none, λ at (last : None ≡ Some at). absurd (cc), λ i (within : i < 0). absurd (omega arith), λ v has. has)

pub loop-at-preserved : goal.loop-at-preserved
loop-at-preserved g c = elim c.if-not-goes_with.branch [
  | then-not-goes_with w ↦ (
      let known = c.args.routes.now in
      let slots = vec_len c.args.self.now.ups in
      let dst = w.dst.result.now in
      let is : ticket_at c.loop-at.batch.errands c.loop-at.at ≡ Some c.in-Some.ticket.now = search rules in
      let first : SeenFor known w.find_into.new.self dst w.find_into.new.found =
      seen_now known c.loop-at.routes w.find_into.new.self dst w.find_into.new.found c.loop-at.invariant.0
      w.find_into.ensures.later w.find_into.ensures.value in
      let seen : SeenFor known c.if-not-goes_with.routes dst c.if-not-goes_with.found =
      subst (λ (s : List Change). SeenFor known s dst c.if-not-goes_with.found) (sym w.routes-is)
      (subst (λ f. SeenFor known w.find_into.new.self dst f) (sym w.found-is) first) in
      let later : IsPrefix c.loop-at.routes c.if-not-goes_with.routes =
      subst (λ (s : List Change). IsPrefix c.loop-at.routes s) (sym w.routes-is) w.find_into.ensures.later in (
        subst (λ (s : List Change). IsPrefix c.args.routes.now s) (sym w.routes-is)
            (prefix_trans _ _ _ c.loop-at.invariant.0 w.find_into.ensures.later),
        search rules,
        no_more_since reply_of c.args.batch.now.errands c.loop-at.batch.errands c.aim.new.batch.errands c.loop-at.invariant.2
            (c.aim.ensures.replies c.in-Some.ticket.now (search rules)),
        aimed_next slots c.args.but known c.loop-at.routes c.if-not-goes_with.routes c.args.batch.now.errands
            c.loop-at.batch.errands c.aim.new.batch.errands c.loop-at.at c.in-Some.ticket.now dst _ c.if-not-goes_with.found
            c.loop-at.invariant.3 later is w.dst.ensures seen c.servers.ensures.value c.aim.ensures.aims,
        last_next slots c.args.but known c.if-not-goes_with.routes c.loop-at.batch.errands c.aim.new.batch.errands c.loop-at.at
            c.in-Some.ticket.now dst _ c.if-not-goes_with.found is w.dst.ensures seen c.aim.ensures.aims,
        below_next slots c.args.but known c.loop-at.routes c.if-not-goes_with.routes c.loop-at.batch.errands
            c.aim.new.batch.errands c.loop-at.at c.in-Some.ticket.now dst _ c.if-not-goes_with.found c.loop-at.invariant.5 later
            is w.dst.ensures seen c.servers.ensures.value c.aim.ensures.aims,
        λ v has. c.aim.ensures.claims c.in-Some.ticket.now (search rules) v (c.loop-at.invariant.6 v has),
      ))
  | else-not-goes_with w ↦ (
      let known = c.args.routes.now in
      let slots = vec_len c.args.self.now.ups in
      let is : ticket_at c.loop-at.batch.errands c.loop-at.at ≡ Some c.in-Some.ticket.now = search rules in
      let goes : goes_with c.loop-at.batch.errands c.loop-at.at c.loop-at.last ≡ true = search rules in
      let (dst, of, first) = seen_with known c.loop-at.routes c.loop-at.batch.errands c.loop-at.last c.loop-at.at
      c.in-Some.ticket.now c.loop-at.found goes is c.loop-at.invariant.4 in
      let seen : SeenFor known c.if-not-goes_with.routes dst c.if-not-goes_with.found =
      subst (λ (s : List Change). SeenFor known s dst c.if-not-goes_with.found) (sym w.routes-is)
      (subst (λ f. SeenFor known c.loop-at.routes dst f) (sym w.found-is) first) in
      let later : IsPrefix c.loop-at.routes c.if-not-goes_with.routes =
      subst (λ (s : List Change). IsPrefix c.loop-at.routes s) (sym w.routes-is) (prefix_self c.loop-at.routes) in (
        subst (λ (s : List Change). IsPrefix c.args.routes.now s) (sym w.routes-is) c.loop-at.invariant.0,
        search rules,
        no_more_since reply_of c.args.batch.now.errands c.loop-at.batch.errands c.aim.new.batch.errands c.loop-at.invariant.2
            (c.aim.ensures.replies c.in-Some.ticket.now (search rules)),
        aimed_next slots c.args.but known c.loop-at.routes c.if-not-goes_with.routes c.args.batch.now.errands
            c.loop-at.batch.errands c.aim.new.batch.errands c.loop-at.at c.in-Some.ticket.now dst _ c.if-not-goes_with.found
            c.loop-at.invariant.3 later is of seen c.servers.ensures.value c.aim.ensures.aims,
        last_next slots c.args.but known c.if-not-goes_with.routes c.loop-at.batch.errands c.aim.new.batch.errands c.loop-at.at
            c.in-Some.ticket.now dst _ c.if-not-goes_with.found is of seen c.aim.ensures.aims,
        below_next slots c.args.but known c.loop-at.routes c.if-not-goes_with.routes c.loop-at.batch.errands
            c.aim.new.batch.errands c.loop-at.at c.in-Some.ticket.now dst _ c.if-not-goes_with.found c.loop-at.invariant.5 later
            is of seen c.servers.ensures.value c.aim.ensures.aims,
        λ v has. c.aim.ensures.claims c.in-Some.ticket.now (search rules) v (c.loop-at.invariant.6 v has),
      ))
]

pub returns-clause-aimed : goal.returns-clause-aimed
returns-clause-aimed g c = c.loop-at.invariant.3

pub returns-clause-chosen : goal.returns-clause-chosen
returns-clause-chosen g c =
    all_aimed (vec_len c.args.self.now.ups) c.args.but c.args.routes.now c.loop-at.routes c.loop-at.batch.errands c.loop-at.at
    (omega (arith, c.loop-at.invariant.1.1, ap (λ (b : Batched). length b.errands) c.batch.view_is, c.len-at-end.ensures, c.loop-at-test.false))
    c.loop-at.invariant.5

pub returns-clause-claims : goal.returns-clause-claims
returns-clause-claims g c = λ v has. c.loop-at.invariant.6 v has
