use Rattle.std.proofs.Common.{List, ◌≡◌, inl, sym, ◌∙◌, ◌+◌, ap, ◌&&◌, not, true≢false}
use Rattle.std.specs.Prelude.{◌==◌}
use Rattle.mux_history.specs.declared.record.Record.{Record}
use Rattle.mux_history.specs.Readings.{epoch_of, has_ended, is_epoch, reading}
use Rattle.mux_history.specs.Standings.{stands_so}
use Rattle.mux_agree.specs.Outlines.{outline_of}
use Rattle.mux_agree.proofs.Standings.{begins_so, epoch_so, rolled_so}
use Rattle.rolling_audit.proofs.Stands.{epoch_astray, epoch_early, rolled_astray}
use Rattle.rolling_audit.proofs.session.Session.is_led_to.Goals as goal

pub returns-then-leads_to : goal.returns-then-leads_to
returns-then-leads_to c =
    record {
      yes = λ h boot past s. (
        sym (epoch_so c.args.self.now.mode c.args.self.now.id past c.args.met.now c.in-Epoch.number c.in-Epoch.standing c.leads_to.result c.stands_so.result
            (sym c.kind.ensures ∙ c.in-Epoch.is) (begins past s.outline) (h ∙ sym (c.stands_so.ensures.yes h boot past s).0))
            ∙ (ap (λ b. b && c.stands_so.result) c.if-leads_to.true ∙ h),
        λ e. (c.stands_so.ensures.yes h boot past s).1,
      );
      no = λ h boot past s.
          epoch_early c.args.self.now.mode c.args.self.now.id past c.args.met.now c.in-Epoch.number c.in-Epoch.standing c.leads_to.result
          (sym c.kind.ensures ∙ c.in-Epoch.is) (begins past s.outline) (c.stands_so.ensures.no h boot past s);
    }
  where
    begins : (past : List Record) → c.args.self.now.outline ≡ outline_of c.args.self.now.about past → c.leads_to.result
        ≡ (c.in-Epoch.number == epoch_of past + 1 && not (has_ended past) && c.args.met.now.reading == reading past)
    begins past outline =
        let o = c.args.self.now.outline in
        begins_so c.args.self.now.about past o outline c.in-Epoch.number c.args.met.now.reading c.leads_to.result
        (c.leads_to.ensures ∙ ap (λ at. c.in-Epoch.number == o.number + 1 && not o.has_ended && at == o.reading) c.reading.ensures)

pub returns-else-leads_to-clause-no : goal.returns-else-leads_to-clause-no
returns-else-leads_to-clause-no c =
    λ h boot past s.
    let o = c.args.self.now.outline in
    let begins = begins_so c.args.self.now.about past o s.outline c.in-Epoch.number c.args.met.now.reading c.leads_to.result
    (c.leads_to.ensures ∙ ap (λ at. c.in-Epoch.number == o.number + 1 && not o.has_ended && at == o.reading) c.reading.ensures) in
    inl (epoch_astray c.args.self.now.mode c.args.self.now.id past c.args.met.now c.in-Epoch.number c.in-Epoch.standing c.leads_to.result
    (sym c.kind.ensures ∙ c.in-Epoch.is) begins (ap (λ b. b && stands_so c.args.self.now.mode c.args.self.now.id past c.in-Epoch.standing) c.if-leads_to.false))

pub returns-in-Rolled : goal.returns-in-Rolled
returns-in-Rolled c =
    record {
      yes = λ h boot past s. (
        sym (rolled_so c.args.self.now.mode c.args.self.now.id past c.args.met.now c.in-Rolled.number c.leads_to-in-Rolled.result
            (sym c.kind.ensures ∙ c.in-Rolled.is) (begins past s.outline)) ∙ h,
        λ e. absurd (true≢false (sym e ∙ ap is_epoch (sym c.kind.ensures ∙ c.in-Rolled.is))),
      );
      no = λ h boot past s.
          inl (rolled_astray c.args.self.now.mode c.args.self.now.id past c.args.met.now c.in-Rolled.number c.leads_to-in-Rolled.result
          (sym c.kind.ensures ∙ c.in-Rolled.is) (begins past s.outline) h);
    }
  where
    begins : (past : List Record) → c.args.self.now.outline ≡ outline_of c.args.self.now.about past → c.leads_to-in-Rolled.result
        ≡ (c.in-Rolled.number == epoch_of past + 1 && not (has_ended past) && c.args.met.now.reading == reading past)
    begins past outline =
        let o = c.args.self.now.outline in
        begins_so c.args.self.now.about past o outline c.in-Rolled.number c.args.met.now.reading c.leads_to-in-Rolled.result
        (c.leads_to-in-Rolled.ensures ∙ ap (λ at. c.in-Rolled.number == o.number + 1 && not o.has_ended && at == o.reading) c.reading-in-Rolled.ensures)
