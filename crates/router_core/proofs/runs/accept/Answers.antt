use Rattle.std.proofs.Common.{◌∙◌, subst, map}
use Rattle.core_world.specs.declared.events.Note.{Note}
use Rattle.core_world.specs.Events.{event_of}
use Rattle.mux_model.specs.Entries.{said_by}
use Rattle.router_core.specs.Lists.{shown_side}
use Rattle.router_core.specs.Runs.{Accepted}
use Rattle.router_core.proofs.Running.{told_shows, taken_shows, booted_shows, opened_shows}
use Rattle.router_core.proofs.Seeing.{on_ok}
use Rattle.router_core.proofs.runs.accept.Goals as goal

pub returns-in-Told : goal.returns-in-Told
returns-in-Told c = λ w done shows a b.
    let event = event_of c.args.event.now in
    let told = subst (λ (n : Note). Accepted w done event n c.args.met (said_by c.args.taken)) c.in-Told.is a in
    on_ok c.record.result
    (λ u records. told_shows w done event c.in-Told.told c.in-Told.hand c.args.met (said_by c.args.taken) (map shown_side c.args.sides.now.items) (map shown_side c.record.new.sides.items) shows told records)
    (c.record.ensures done b)

pub returns-in-Out : goal.returns-in-Out
returns-in-Out c = λ w done shows a b.
    let event = event_of c.args.event.now in
    taken_shows w done event c.in-Out.field-0 c.args.met (said_by c.args.taken) (map shown_side c.args.sides.now.items) shows
    (subst (λ (n : Note). Accepted w done event n c.args.met (said_by c.args.taken)) c.in-Out.is a)

pub returns-in-Booted : goal.returns-in-Booted
returns-in-Booted c = λ w done shows a b.
    let event = event_of c.args.event.now in
    booted_shows w done event c.in-Booted.field-0 c.args.met (said_by c.args.taken) (map shown_side c.args.sides.now.items) shows
    (subst (λ (n : Note). Accepted w done event n c.args.met (said_by c.args.taken)) c.in-Booted.is a)

pub returns-in-Opened : goal.returns-in-Opened
returns-in-Opened c = λ w done shows a b.
    let event = event_of c.args.event.now in
    let told = subst (λ (n : Note). Accepted w done event n c.args.met (said_by c.args.taken)) c.in-Opened.is a in
    on_ok c.open_side.result
    (λ u is. opened_shows w done event c.in-Opened.session c.args.met (said_by c.args.taken) (map shown_side c.args.sides.now.items) (map shown_side c.open_side.new.sides.items) c.boot.result (said_by c.first_sent.result) shows told
    (c.boot.ensures ∙ b.boot) c.first_sent.ensures is) c.open_side.ensures
