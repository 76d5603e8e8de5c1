use Rattle.std.proofs.Common.{subst, sym, ◌∷◌, List}
use Rattle.std.specs.Prelude.{IsOk}
use Rattle.mux_agree.specs.Walk.{Kept}
use Rattle.mux_history.specs.declared.session.SessionId.TheVariants.{Client, Server}
use Rattle.rolling_audit.specs.Histories.{unwritten}
use Rattle.rolling_audit.specs.Taken.{IsTaken}
use Rattle.rolling_audit.proofs.Opening.{opens, rests}
use Rattle.rolling_audit.proofs.rolling.RollingAudit.open.Goals as goal

pub returns-in-Client-clause-ok : goal.returns-in-Client-clause-ok
returns-in-Client-clause-ok c =
    subst (λ id. IsOk c.open_client.result → (hs : List Kept) → IsTaken hs c.args.self.now → IsTaken (unwritten id c.args.mode ∷ hs) c.open_client.new.self) (sym c.in-Client.is)
    (λ h hs a. opens c.args.self.now c.open_client.new.self (Client c.in-Client.client) c.args.mode (c.open_client.ensures.ok h) c.open_client.ensures.lives hs a)

pub returns-in-Client-clause-err : goal.returns-in-Client-clause-err
returns-in-Client-clause-err c = λ h. rests c.args.self.now c.open_client.new.self (c.open_client.ensures.err h) c.open_client.ensures.lives

pub returns-in-Server-clause-ok : goal.returns-in-Server-clause-ok
returns-in-Server-clause-ok c =
    subst (λ id. IsOk c.open_server.result → (hs : List Kept) → IsTaken hs c.args.self.now → IsTaken (unwritten id c.args.mode ∷ hs) c.open_server.new.self) (sym c.in-Server.is)
    (λ h hs a. opens c.args.self.now c.open_server.new.self (Server c.in-Server.server) c.args.mode (c.open_server.ensures.ok h) c.open_server.ensures.lives hs a)

pub returns-in-Server-clause-err : goal.returns-in-Server-clause-err
returns-in-Server-clause-err c = λ h. rests c.args.self.now c.open_server.new.self (c.open_server.ensures.err h) c.open_server.ensures.lives
