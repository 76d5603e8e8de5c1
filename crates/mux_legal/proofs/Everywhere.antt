-- What every step of a session keeps holds of every list of every world.
use Rattle.std.proofs.Common.{subst, ℕ, List, [], ◌∷◌, ◌++◌, ◌+◌, ◌≡◌, ◌∙◌, ap}
use Rattle.mux_history.specs.Bounds.{Bounds}
use Rattle.mux_history.specs.declared.session.SessionId.{SessionId}
use Rattle.mux_history.specs.declared.session.SessionId.TheVariants.{Client, Server}
use Rattle.mux_history.specs.declared.session.InitMode.{InitMode}
use Rattle.mux_history.specs.declared.session.InitMode.TheVariants.{Plain}
use Rattle.mux_model.specs.Steps.{Call, Step}
use Rattle.mux_model.specs.World.{World, Connection, Reached, starts, opens_client, opens_server, moves, passes, takes_out, restarts, opened, first_step, Move, moved, outcome_at, MayChooseAt, stepped}
use Rattle.mux_model.specs.Runs.{line_of, lines, EachConnection}
use Rattle.mux_model.specs.Legal.{Line}
use Rattle.mux_legal.proofs.Basics.{OnRecorded}
use Rattle.mux_legal.proofs.Invariant.{OwnSteps, Inv}
use Rattle.mux_legal.proofs.Grow.{each_mid}
use Rattle.mux_legal.proofs.DownShapes.{CallBorne}
use Rattle.mux_legal.proofs.Worlds.{Keeps, reached_keeps, left_borne, lines-append}

module _ (P : Bounds → ℕ → SessionId → InitMode → List Step → Type 0) where
  -- what is said of a connection in a world with these limits
  abbrev pub Holds : Bounds → Connection → Type 0
  Holds limits c = P limits c.boot c.session c.mode c.steps

  conn_mid : (limits : Bounds) (a : List Connection) (c : Connection) (b : List Connection) → EachConnection (Holds limits) (a ++ c ∷ b) → Holds limits c
  conn_mid limits [] c b e = e.0
  conn_mid limits (x ∷ a) c b e = conn_mid limits a c b e.1

  conn_step : (limits : Bounds) (a : List Connection) (c d : Connection) (b : List Connection) → Holds limits d → EachConnection (Holds limits) (a ++ c ∷ b) → EachConnection (Holds limits) (a ++ d ∷ b)
  conn_step limits [] c d b p e = (p, e.1)
  conn_step limits (x ∷ a) c d b p e = (e.0, conn_step limits a c d b p e.1)

  conn_push : (limits : Bounds) (a : List Connection) (c : Connection) → Holds limits c → EachConnection (Holds limits) a → EachConnection (Holds limits) (a ++ c ∷ [])
  conn_push limits [] c p e = (p, tt)
  conn_push limits (x ∷ a) c p e = (e.0, conn_push limits a c p e.1)

  module _ (client : (limits : Bounds) (b k : ℕ) → P limits b (Client k) Plain []) (server : (limits : Bounds) (b k : ℕ) (mode : InitMode) → P limits b (Server k) mode (first_step mode))
      (step : (ls : List Line) (limits : Bounds) (c : Connection) (id : SessionId) (t : ℕ) (call : Call) → OwnSteps c.boot id c.steps → MayChooseAt limits c id t call → CallBorne ls call →
      P limits c.boot id c.mode c.steps → OnRecorded (outcome_at limits c id t call) (λ e gives. P limits c.boot id c.mode (record { call = call; entry = e } ∷ c.steps))) where
    moved_holds : (w : World) (m : Move w) → Keeps w → EachConnection (Holds w.limits) w.connections → EachConnection (Holds w.limits) (moved w m).connections
    moved_holds w m v all =
        let a = lines m.before in
        let l = line_of m.connection in
        let b = lines m.after in
        let split : lines w.connections ≡ a ++ l ∷ b = ap lines m.is ∙ lines-append m.before (m.connection ∷ m.after) in
        let v' : Inv w.boot w.clients w.servers (a ++ l ∷ b) w.hands = subst (λ ls. Inv w.boot w.clients w.servers ls w.hands) split v in
        let all' : EachConnection (Holds w.limits) (m.before ++ m.connection ∷ m.after) = subst (EachConnection (Holds w.limits)) m.is all in
        let next = subst (λ x. OnRecorded x (λ e gives. P w.limits m.connection.boot m.connection.session m.connection.mode (record { call = m.call; entry = e } ∷ m.connection.steps))) m.does
        (step (a ++ l ∷ b) w.limits m.connection m.connection.session m.tag m.call (each_mid (λ x. OwnSteps x.boot x.session x.steps) a l b v'.own) m.may
        (left_borne (a ++ l ∷ b) m.leaves v'.borne) (conn_mid w.limits m.before m.connection m.after all')) in
        conn_step w.limits m.before m.connection (stepped m.connection m.call m.entry) m.after next all'

    pub everywhere : {w : World} → Reached w → EachConnection (Holds w.limits) w.connections
    everywhere (starts limits boot) = tt
    everywhere (opens_client {w = w} r) = conn_push w.limits w.connections (opened w (Client (w.clients + 1)) Plain) (client w.limits w.boot (w.clients + 1)) (everywhere r)
    everywhere (opens_server {w = w} mode r) = conn_push w.limits w.connections (opened w (Server (w.servers + 1)) mode) (server w.limits w.boot (w.servers + 1) mode) (everywhere r)
    everywhere (moves {w = w} m r) = moved_holds w m (reached_keeps r) (everywhere r)
    everywhere (passes {w = w} q r) = everywhere r
    everywhere (takes_out {w = w} m r) =
        (let all' : EachConnection (Holds w.limits) (m.before ++ m.connection ∷ m.after) = subst (EachConnection (Holds w.limits)) m.is (everywhere r) in
        conn_step w.limits m.before m.connection (record m.connection { out = m.connection.out + 1 }) m.after (conn_mid w.limits m.before m.connection m.after all') all')
    everywhere (restarts {w = w} r) = everywhere r
