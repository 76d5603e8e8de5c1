use Rattle.std.proofs.Common.{◌++◌, ◌∷◌, [], ℕ, List, ◌∙◌, ap, sym, take, append-nil, get_or}
use Rattle.std.proofs.lemmas.Grind.{flat_map-append}
use Rattle.std.proofs.lemmas.List.{take_more}
use Rattle.router_tasks.specs.Rows.{name_at, names_at}
use Rattle.router_tasks.proofs.rows.names_of.Goals as goal

pub loop-server-preserved : goal.loop-server-preserved
loop-server-preserved c =
    let servers = c.args.servers.now in
    let names = c.args.names.now in
    let i = c.loop-server.server-index in
    let here = get_or servers i 0 in
    c.in_ok-add_named.ensures
    ∙ ap (λ (ns : List (List ℕ)). ns ++ name_at names here) c.loop-server.invariant
    ∙ ap (λ (ns : List (List ℕ)). names_at (take i servers) names ++ ns) (sym (append-nil (name_at names here)))
    ∙ sym (flat_map-append (name_at names) (take i servers) (here ∷ []))
    ∙ ap (λ (ss : List ℕ). names_at ss names) (sym (take_more servers i 0 c.loop-server-test.true))
