use Rattle.std.proofs.Common.{List, sym, ◌∙◌, ap, subst, reverse}
use Rattle.route_table.specs.Routes.{Change, LeadsTo}
use Rattle.published_routes.specs.Marks.{marked_by}
use Rattle.published_routes.proofs.Following.{newest_first}
use Rattle.published_routes.proofs.Marking.{noted_next}
use Rattle.published_routes.proofs.table.Table.take_in.Goals as goal

pub invariant_of-self-2 : goal.invariant_of-self-2
invariant_of-self-2 g c =
    let s = c.self.inside in
    let op = c.operation.inside in
    let f = c.follows.ensures c.if-not-follows.false in
    let past = newest_first s.front op.front op.order f.0 f.1 c.operation.invariant ∙ ap reverse (sym c.again.ensures) in (
      subst (λ (p : List Change). LeadsTo p c.carry_out.new.routes) past
          (c.in_ok-carry_out.ensures.after (reverse s.front) c.self.invariant.0),
      noted_next _ _ _ _ _ c.self.invariant.1 c.in_ok-given.ensures c.note.ensures ∙ ap marked_by past,
    )
