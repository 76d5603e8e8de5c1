use Rattle.std.proofs.Common.{ℕ, List, Vec, Option, Some, None, Bor, Global, IfSome, IsTrue, sym, ap, ◌∙◌, subst}
use Rattle.std.specs.Option.{option_copied}
use Rattle.route_table.specs.Routes.{servers_of, is_server_list}
use Rattle.route_table.proofs.Changes.{found_as}
use Rattle.route_table.proofs.routes.Routes.find.Goals as goal

pub returns-in-Some-clause-value : goal.returns-in-Some-clause-value
returns-in-Some-clause-value c =
    let looked = sym (ap (λ (o : Option (Bor (Vec ℕ Global))). option_copied o) c.in-Some.is) ∙ c.get.ensures.value in
    ap Some c.as_slice.ensures.value
    ∙ found_as c.args.dst.now c.self.inside.lists.entries c.args.self.now (Some c.in-Some.list.now) c.self.view_is looked

pub returns-in-Some-clause-last : goal.returns-in-Some-clause-last
returns-in-Some-clause-last c = λ past leads. returns-in-Some-clause-value c ∙ leads c.args.dst.now

pub returns-in-Some-clause-servers : goal.returns-in-Some-clause-servers
returns-in-Some-clause-servers c =
    subst (λ (o : Option (List ℕ)). IfSome o (λ ss. IsTrue (is_server_list ss)))
    (ap (λ rs. servers_of rs c.args.dst.now) c.self.view_is ∙ sym (returns-in-Some-clause-value c)) (c.self.invariant c.args.dst.now)

pub returns-in-None-clause-value : goal.returns-in-None-clause-value
returns-in-None-clause-value c =
    let looked = sym (ap (λ (o : Option (Bor (Vec ℕ Global))). option_copied o) c.in-None.is) ∙ c.get.ensures.value in
    found_as c.args.dst.now c.self.inside.lists.entries c.args.self.now None c.self.view_is looked

pub returns-in-None-clause-last : goal.returns-in-None-clause-last
returns-in-None-clause-last c = λ past leads. returns-in-None-clause-value c ∙ leads c.args.dst.now
