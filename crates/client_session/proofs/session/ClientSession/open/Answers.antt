use Rattle.std.proofs.Common.{[], arith, rules, sym}
use Rattle.std.specs.Ordering.{nat_cmp}
use Rattle.std.specs.FinMap as map
use Rattle.client_session.specs.Past.{Dispatch}
use Rattle.client_session.proofs.Open.{fresh_in-from_entries, none_delayed}
use Rattle.client_session.proofs.Soundness.{none_held}
use Rattle.client_session.proofs.session.ClientSession.open.Goals as goal

pub invariant_of-result : goal.invariant_of-result
invariant_of-result c =
    let none = map.len-empty nat_cmp Dispatch in
    let fresh = fresh_in-from_entries [] tt in
    rw (c.in_ok-history.ensures, c.in-Ok.ensures.ok) (record {
      history_room = c.history.ensures.value;
      pool_room = c.window.ensures.value;
      queue_room = omega (arith, c.in_ok-queue.ensures.room.0, c.out.ensures.value);
      tags = none_held;
      counted = sym fresh;
      records_kept = omega (arith, none, c.history.ensures.range.history_above);
      out_kept = omega (arith, c.in_ok-queue.ensures.room.1, c.history.ensures.range.out_above);
    })

pub returns : goal.returns
returns c = record {
  server = search rules;
  limits = search rules;
  epoch = search rules;
  records = search rules;
  queue = search rules;
  entries = search rules;
  delays = none_delayed c.args.mode _ c.none.ensures;
  distinct = search rules;
  held = search rules;
  lapse = search rules;
  lease = search rules;
  drained = search rules;
  drains = search rules;
  reading = search rules;
  init = search rules;
  retired = search rules;
  pings = search rules;
  closed = search rules;
}
