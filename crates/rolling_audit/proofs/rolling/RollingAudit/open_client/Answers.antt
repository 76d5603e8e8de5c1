use Rattle.std.proofs.Common.{refl, sym, ◌∙◌, rules}
use Rattle.rolling_audit.proofs.Opening.{on_err, rests_client}
use Rattle.rolling_audit.proofs.Numbers.{numbered, used_still, was_free}
use Rattle.rolling_audit.proofs.rolling.RollingAudit.open_client.Goals as goal

pub returns-then-is_err-clause-err : goal.returns-then-is_err-clause-err
returns-then-is_err-clause-err c =
    λ h. rests_client c.args.self.now (record c.args.self.now { clients = c.insert.new.self }) (on_err c.insert.result _ c.insert.ensures.err (sym c.is_err.ensures.value ∙ c.if-is_err.true)) refl refl

pub returns-clause-ok : goal.returns-clause-ok
returns-clause-ok c =
    let lasts = c.args.self.now.lasts.items in
    let slot = c.in-Some.ensures.some in
    let free = was_free lasts c.len.result c.args.client c.in-Some.slot (search rules) slot.0 slot.1 slot.2 c.index.result.now (search rules) c.if-client-index.false in
    λ ok.
    record {
      trail = c.begin-trail.result;
      own = search rules;
      begins = search rules;
      unwritten = search rules;
      ungiven = search rules;
      others = search rules;
      rises = used_still lasts c.len.result c.args.client c.in-Some.slot (search rules) slot.0 slot.1 slot.2 free;
      numbered = numbered lasts c.len.result c.args.client c.in-Some.slot (search rules) slot.0 slot.1 slot.2 free;
      closed = search rules;
    }
