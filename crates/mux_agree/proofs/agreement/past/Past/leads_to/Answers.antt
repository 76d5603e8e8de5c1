use Rattle.std.proofs.Common.{sym, ◌∙◌, ◌+◌, ap, ◌&&◌, not, refl}
use Rattle.std.specs.Prelude.{◌==◌}
use Rattle.mux_history.specs.Standings.{stands_so}
use Rattle.mux_agree.specs.Seen.{past_of}
use Rattle.mux_agree.proofs.Standings.{begins_so, epoch_so, rolled_so}
use Rattle.mux_agree.proofs.agreement.past.Past.leads_to.Goals as goal

pub returns-then-leads_to : goal.returns-then-leads_to
returns-then-leads_to c =
    let past = past_of c.args.self in
    let begins = begins_so c.args.entry.now past c.outline.result c.outline.ensures c.in-Epoch.number c.args.entry.now.reading c.leads_to.result
    (c.leads_to.ensures ∙ ap (λ at. c.in-Epoch.number == c.outline.result.number + 1 && not c.outline.result.has_ended && at == c.outline.result.reading) c.reading.ensures) in
    sym (ap (λ b. b && c.stands_so.result) c.if-leads_to.true)
    ∙ epoch_so c.args.mode c.args.session past c.args.entry.now c.in-Epoch.number c.in-Epoch.standing c.leads_to.result c.stands_so.result (sym c.kind.ensures ∙ c.in-Epoch.is) begins c.stands_so.ensures

pub returns-else-leads_to : goal.returns-else-leads_to
returns-else-leads_to c =
    let past = past_of c.args.self in
    let begins = begins_so c.args.entry.now past c.outline.result c.outline.ensures c.in-Epoch.number c.args.entry.now.reading c.leads_to.result
    (c.leads_to.ensures ∙ ap (λ at. c.in-Epoch.number == c.outline.result.number + 1 && not c.outline.result.has_ended && at == c.outline.result.reading) c.reading.ensures) in
    let stands = stands_so c.args.mode c.args.session past c.in-Epoch.standing in
    c.if-leads_to.false ∙ (sym (ap (λ b. b && stands) c.if-leads_to.false)
    ∙ epoch_so c.args.mode c.args.session past c.args.entry.now c.in-Epoch.number c.in-Epoch.standing c.leads_to.result stands (sym c.kind.ensures ∙ c.in-Epoch.is) begins refl)

pub returns-in-Rolled : goal.returns-in-Rolled
returns-in-Rolled c =
    let past = past_of c.args.self in
    let begins = begins_so c.args.entry.now past c.outline-in-Rolled.result c.outline-in-Rolled.ensures c.in-Rolled.number c.args.entry.now.reading c.leads_to-in-Rolled.result
    (c.leads_to-in-Rolled.ensures ∙ ap (λ at. c.in-Rolled.number == c.outline-in-Rolled.result.number + 1 && not c.outline-in-Rolled.result.has_ended && at == c.outline-in-Rolled.result.reading) c.reading-in-Rolled.ensures) in
    rolled_so c.args.mode c.args.session past c.args.entry.now c.in-Rolled.number c.leads_to-in-Rolled.result (sym c.kind.ensures ∙ c.in-Rolled.is) begins
