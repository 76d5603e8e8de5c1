use Rattle.std.specs.Prelude.{map}
use Rattle.mux_agree.specs.Walk.{histories, kept_down, kept_up}
use Rattle.rolling_audit.proofs.Whole.{taken_each, takes_each}
use Rattle.rolling_audit.proofs.verdict.taken.Goals as goal

pub returns : goal.returns
returns c =
    let downs = map kept_down c.args.downs.now in
    let ups = map kept_up c.args.ups.now in
    taken_each c.in-Ok.audit c.take_ups.new.audit (histories c.args.downs.now c.args.ups.now) c.in-Ok.ensures.taken
    (takes_each c.in-Ok.audit c.take_downs.new.audit c.take_ups.new.audit downs ups (c.take_downs.ensures c.if-not-take_downs.false) (c.take_ups.ensures c.if-not-take_ups.false))
