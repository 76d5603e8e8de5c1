use Rattle.std.proofs.Common.{◌∙◌, sym}
use Rattle.published_routes.proofs.Marking.{placed_as}
use Rattle.published_routes.proofs.marks.Marks.of.Goals as goal

pub returns-in-Some : goal.returns-in-Some
returns-in-Some c =
    sym c.in-Some.is ∙ placed_as c.args.dst.now c.self.inside.names.keys c.args.self.now c.get_index_of.result c.self.view_is
    c.get_index_of.ensures.index

pub returns-in-None : goal.returns-in-None
returns-in-None c =
    sym c.in-None.is ∙ placed_as c.args.dst.now c.self.inside.names.keys c.args.self.now c.get_index_of.result c.self.view_is
    c.get_index_of.ensures.index
