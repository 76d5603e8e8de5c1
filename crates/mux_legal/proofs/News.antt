-- Each step of a server's session sends a dispatch only on a tag from 2 that isn't open.
use Rattle.std.proofs.Common.{ℕ, List}
use Rattle.mux_frame.specs.Spelling.{MuxFrame}
use Rattle.mux_model.specs.Steps.{Call, Step, entries, Outcome}
use Rattle.mux_model.specs.Up.{UpSession, Reaction, Shut, Full, Short, Closes, Settles, Pongs, Drains, Ignores, Unsupports, AsksInit, EndsInit, EndsPing, Drops, Leases, reacted, up, MayChoose}
use Rattle.mux_legal.proofs.Basics.{OnRecorded}
use Rattle.mux_legal.proofs.Orderly.{SendsNew}
use Rattle.mux_legal.proofs.UpShapes.{up_shapes}
use Rattle.mux_legal.proofs.DownShapes.{CallBorne}
use Rattle.mux_model.specs.Legal.{Line}

module _ (s : UpSession) (past : List Step) where
  abbrev Q : Outcome → Type 0
  Q x = OnRecorded x (λ e gives. SendsNew s.number e (entries past))

  reacted_new : (f : MuxFrame) (now : ℕ) (r : Reaction) → Q (reacted s past f now r)
  reacted_new f now Shut = tt
  reacted_new f now Full = tt
  reacted_new f now Short = tt
  reacted_new f now (Closes cause) = tt
  reacted_new f now (Settles n again) = tt
  reacted_new f now Pongs = λ d. absurd (cc)
  reacted_new f now Drains = λ d. absurd (cc)
  reacted_new f now (Leases ms) = tt
  reacted_new f now Ignores = tt
  reacted_new f now Unsupports = λ d. absurd (cc)
  reacted_new f now AsksInit = λ d. absurd (cc)
  reacted_new f now EndsInit = tt
  reacted_new f now EndsPing = tt
  reacted_new f now Drops = tt

  -- every step of a server's session does
  pub up_new : (ls : List Line) (out t : ℕ) (call : Call) → MayChoose s past t call → CallBorne ls call → Q (up s past out t call)
  up_new ls =
      up_shapes ls s past (λ call e gives. SendsNew s.number e (entries past)) (λ f now going r led stray. reacted_new f now r)
      (λ t n f left now may b going ready undrained unretired unlapsed window room d. (may.0, may.2))
      (λ n tag why now going here d. absurd (cc)) (λ now going room. tt) (λ now going room. tt)
      (λ now going ready none room d. absurd (cc)) (λ now going. tt) (λ e over h. tt)
      (λ going empty out queued full few. tt) (λ going fits few. tt)
