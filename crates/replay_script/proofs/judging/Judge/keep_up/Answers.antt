use Rattle.std.proofs.Common.{◌≡◌, ◌<◌, ◌≤◌, List, length, map, ap, subst, ◌∙◌}
use Rattle.std.proofs.lemmas.Bool.{false≢true}
use Rattle.std.proofs.lemmas.List.{length-map}
use Rattle.std.proofs.Math.ListN.{set}
use Rattle.mux_history.specs.declared.record.Record.{Record}
use Rattle.mux_history.specs.declared.session.SessionId.TheVariants.{Server}
use Rattle.mux_agree.specs.declared.agreement.histories.UpHistory.{UpHistory}
use Rattle.mux_agree.specs.Walk.{Kept, joined, kept_up}
use Rattle.replay_script.specs.Judged.{with_epoch, with_epoch_at}
use Rattle.replay_script.proofs.Judged.{joined_more, at_none, at_place, not_below}
use Rattle.replay_script.proofs.judging.Judge.keep_up.Goals as goal

pub returns-in_default : goal.returns-in_default
returns-in_default c =
    let items = c.args.self.now.ups.items in
    let off : c.place_of.result < length items → 1 ≤ 0 = λ w. absurd (false≢true (c.in_default.ensures.item.2 w)) in
    let beyond : length items ≤ c.place_of.result = not_below _ _ off in
    subst (λ i. map kept_up items ≡ with_epoch_at i c.args.epoch.records (map kept_up items)) c.place_of.ensures
    (at_none c.place_of.result c.args.epoch.records (map kept_up items) (rw (length-map items kept_up) beyond))

pub returns : goal.returns
returns c =
    let items = c.args.self.now.ups.items in
    let was = c.in-Some.up.now in
    let is : UpHistory = record { server = was.server; mode = was.mode; epochs = c.push.new.self } in
    let within : c.place_of.result < length items = c.in-Some.ensures.item.3.0 in
    let kept : List Record → Kept = λ rs. record { session = Server was.server; mode = was.mode; records = rs } in
    let more : kept_up is ≡ with_epoch c.args.epoch.records (kept_up was) =
    ap kept (ap joined c.in_ok-push.ensures.items ∙ joined_more was.epochs.items c.args.epoch) in
    subst (λ i. map kept_up (set items c.place_of.result is) ≡ with_epoch_at i c.args.epoch.records (map kept_up items)) c.place_of.ensures
    (at_place kept_up items c.place_of.result was is c.args.epoch.records within c.in-Some.ensures.value more)
