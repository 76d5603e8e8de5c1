use Rattle.std.proofs.Common.{◌≡◌, ◌+◌, ◌∷◌, ◌==◌, ◌&&◌, not, true, false, drop, get_or, add-one, ap, ◌∙◌, sym, arith, length, take, take_all, length-drop, ◌-◌, nat_le}
use Rattle.std.specs.List.{list_any}
use Rattle.std.proofs.Math.Seq.{drop-cons}
use Rattle.std.proofs.lemmas.Bool.{and_right}
use Rattle.route_table.specs.Routes.{none_twice}
use Rattle.route_table.proofs.servers.is_server_list.Goals as goal

pub loop-place-preserved : goal.loop-place-preserved
loop-place-preserved c =
    let servers = c.args.servers.now in
    let place = c.loop-place.place in
    let here : drop place servers ≡ get_or servers place 0 ∷ drop (place + 1) servers = rw add-one (drop-cons servers place 0 c.loop-place-test.true) in
    let whole : take (length servers - (place + 1)) (drop (place + 1) servers) ≡ drop (place + 1) servers =
    take_all _ _ (simp length-drop (omega arith)) in
    let later : list_any (λ other. other == get_or servers place 0) (drop (place + 1) servers) ≡ false =
    ap (list_any (λ other. other == get_or servers place 0)) (sym whole) ∙ sym c.contains.ensures.value ∙ c.if-contains.false in
    c.loop-place.invariant ∙ ap none_twice here ∙ ap (λ b. not b && none_twice (drop (place + 1) servers)) later

pub returns-then-contains : goal.returns-then-contains
returns-then-contains c =
    let servers = c.args.servers.now in
    let place = c.loop-place.place in
    let here : drop place servers ≡ get_or servers place 0 ∷ drop (place + 1) servers = rw add-one (drop-cons servers place 0 c.loop-place-test.true) in
    let whole : take (length servers - (place + 1)) (drop (place + 1) servers) ≡ drop (place + 1) servers =
    take_all _ _ (simp length-drop (omega arith)) in
    let later : list_any (λ other. other == get_or servers place 0) (drop (place + 1) servers) ≡ true =
    ap (list_any (λ other. other == get_or servers place 0)) (sym whole) ∙ sym c.contains.ensures.value ∙ c.if-contains.true in
    sym (and_right (nat_le 1 (length servers) && nat_le (length servers) 64) (none_twice servers)
    (c.loop-place.invariant ∙ ap none_twice here ∙ ap (λ b. not b && none_twice (drop (place + 1) servers)) later))
