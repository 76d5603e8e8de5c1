use Rattle.std.proofs.Common.{◌≡◌, ℕ, List, Some, if◌then◌else◌, ap}
use Rattle.std.specs.Str.{bytes_eq}
use Rattle.route_table.specs.Routes.{servers_of}
use Rattle.route_table.proofs.Changes.{shown, after_set, follows, lists_after}
use Rattle.route_table.proofs.routes.Routes.set.Goals as goal
use Rattle.route_table.proofs.routes.Routes.set.Goals.{Joined-branch-4}

changed : (c : Joined-branch-4) (d : List ℕ)
    → servers_of (shown c.insert.new.self.entries) d ≡ (if bytes_eq d c.args.dst.now then Some c.args.servers.now else servers_of (shown c.self.inside.lists.entries) d)
changed c d =
    after_set d c.args.dst.now c.args.servers.now c.in_ok-key.key c.in_ok-list.list c.self.inside.lists.entries c.insert.new.self.entries
    c.in_ok-key.ensures.items c.in_ok-list.ensures.items c.in_ok-insert.ensures.updates.3 c.in_ok-insert.ensures.updates.1

pub invariant_of-self-2 : goal.invariant_of-self-2
invariant_of-self-2 c = λ d.
    lists_after d c.args.dst.now (Some c.args.servers.now) c.self.inside.lists.entries c.insert.new.self.entries c.requires c.self.invariant (changed c d)

pub returns-clause-value : goal.returns-clause-value
returns-clause-value c = λ d.
    follows (bytes_eq d c.args.dst.now) _ (Some c.args.servers.now) _ _ (changed c d) (ap (λ rs. servers_of rs d) c.self.view_is)

pub returns-clause-after : goal.returns-clause-after
returns-clause-after c = λ past leads d.
    follows (bytes_eq d c.args.dst.now) _ (Some c.args.servers.now) _ _ (returns-clause-value c d) (leads d)
