use Rattle.std.proofs.Common.{sym, ◌∙◌, ap, Some}
use Rattle.std.specs.Result.{result_err}
use Rattle.std.proofs.lemmas.Result.{err_from_is_err_and}
use Rattle.mux_agree.specs.Walk.{histories}
use Rattle.mux_agree.proofs.Faults.{ok_bears_out, err_is_first}
use Rattle.mux_agree.proofs.Walks.{first_fault_down, first_fault_up}
use Rattle.mux_agree.proofs.agreement.agree.Goals as goal

pub returns-in_err-clients_agree : goal.returns-in_err-clients_agree
returns-in_err-clients_agree c =
    let p = err_from_is_err_and c.from_residual.result c.from_residual.ensures.1 in
    let hs = histories c.args.downs.now c.args.ups.now in
    let at_fault = sym (ap result_err c.in_err-clients_agree.was) ∙ c.clients_agree.ensures in
    let value = ap result_err p.1 ∙ (ap Some p.2 ∙ first_fault_down c.args.downs.now c.args.ups.now _ at_fault) in
    record { ok = ok_bears_out c.from_residual.result hs value; err = err_is_first c.from_residual.result hs value; value = value }

pub returns : goal.returns
returns c =
    let hs = histories c.args.downs.now c.args.ups.now in
    let none = sym (ap result_err c.in_ok-clients_agree.was) ∙ c.clients_agree.ensures in
    let value = c.servers_agree.ensures ∙ first_fault_up c.args.downs.now c.args.ups.now none in
    record { ok = ok_bears_out c.servers_agree.result hs value; err = err_is_first c.servers_agree.result hs value; value = value }
