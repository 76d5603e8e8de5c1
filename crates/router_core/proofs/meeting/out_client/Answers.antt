use Rattle.std.proofs.Common.{sym, ◌∙◌, ltb-true}
use Rattle.mux_model.specs.Entries.{said_by}
use Rattle.core_world.proofs.Calling.{at_number}
use Rattle.router_core.proofs.Seeing.{on_ok, down_copied}
use Rattle.router_core.proofs.meeting.out_client.Goals as goal

pub returns : goal.returns
returns c =
    let at = at_number c.args.clients.now c.args.number c.in-Some.session.now c.if-number-eq0.false (ltb-true _ _ (sym c.in-Some.ensures.lookup.0)) c.in-Some.ensures.lookup.1 in
    on_ok c.copy_of.result (λ f same. down_copied c.args.clients.now c.args.number c.in-Some.session.now (said_by f) at (λ p b. same ∙ c.last_out.ensures p b)) c.copy_of.ensures
