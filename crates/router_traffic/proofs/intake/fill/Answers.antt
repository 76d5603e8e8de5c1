use Rattle.std.proofs.Common.{◌≡◌, List, [], ◌∷◌, ◌++◌, length, ap, ◌∙◌, arith, append_assoc, length-append}
use Rattle.hub_base.specs.Batching.{Batched}
use Rattle.mux_frame.specs.Views.{FrameView}
use Rattle.tokio_sessions.proofs.RunLemmas.{TakesRun_one}
use Rattle.router_traffic.proofs.intake.fill.Goals as goal

pub loop-count-preserved : goal.loop-count-preserved
loop-count-preserved g c =
    let frame = c.in-Some.frame in
    let before = c.loop-count.batch in
    let cut = c.in-Some.ensures.cut in
    let pushed = c.in-Ok.ensures.ok in record {
      run = TakesRun_one (λ (a : Batched) (fs : List FrameView) (b : Batched). b.frames ≡ a.frames ++ fs)
          (λ a xs b ys d p q. q ∙ ap (λ zs. zs ++ ys) p ∙ append_assoc a.frames xs ys)
          _ _ _ _ frame _ _ _ _ c.loop-count.invariant.run (ap (λ (b : Batched). b.frames) pushed) cut.0 cut.1;
      errands = ap (λ (b : Batched). b.errands) pushed ∙ c.loop-count.invariant.errands;
      free = omega (
        arith,
        c.loop-count-test.true,
        c.loop-count.invariant.free,
        ap (λ (b : Batched). length b.frames) pushed,
        ap (λ (b : Batched). length b.errands) pushed,
        ap (λ (b : Batched). b.room) pushed,
        length-append before.frames (frame ∷ []),
      );
    }
