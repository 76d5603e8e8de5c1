-- The list of one session that steps lead to is recorded, whatever the others do; and every list of every run is such a list.
use Rattle.std.proofs.Common.{ℕ, pos, List, [], ◌∷◌, ◌≡◌, inl, inr, Bool, true, false, Some, None, refl, subst}
use Rattle.std.specs.Prelude.{if◌then◌else◌, ◌==◌}
use Rattle.std.proofs.lemmas.Bool.{and_parts, eq-eqb}
use Rattle.mux_frame.specs.Spelling.{MuxFrame}
use Rattle.mux_message.specs.Kinds.{kind_of, is_dispatch, is_final}
use Rattle.mux_history.specs.declared.name.Name.{Name}
use Rattle.mux_history.specs.declared.kind.RecordKind.TheVariants as kinds
use Rattle.mux_history.specs.declared.session.InitMode.{InitMode}
use Rattle.mux_history.specs.declared.session.InitMode.TheVariants.{Plain}
use Rattle.mux_history.specs.Bounds.{Bounds}
use Rattle.mux_history.specs.declared.session.SessionId.{SessionId}
use Rattle.mux_history.specs.declared.session.SessionId.TheVariants.{Client, Server}
use Rattle.mux_model.specs.Entries.{Exchange}
use Rattle.mux_model.specs.Tags.{name_held}
use Rattle.mux_model.specs.Steps.{Call, FrameCall, NoteCall, SettleCall, NackCall, UnrouteCall, FailCall, DrainCall, OfferCall, RecallCall, ClockCall, PingCall, RetireCall, LoseCall, LoseNextCall, SealCall, RollCall, ProbeCall, Step, records, Recorded, Outcome, Refused, Unrecorded}
use Rattle.mux_model.specs.Down.{DownSession, down}
use Rattle.mux_model.specs.Up.{UpSession, up, MayChoose}
use Rattle.mux_model.specs.Replay.{is_joined}
use Rattle.mux_model.specs.Legal.{Line, IsTakenIn, IsSettledIn, IsLostIn, EachLine}
use Rattle.mux_legal.specs.KeptRuns.{IsRecorded, RunsAreRecorded}
use Rattle.mux_legal.specs.Sessions.{IsDispatchBack, HandsIn, IsReachedDown, IsReachedUp, IsReachedAlone, RunsReachSessions, SessionsAreRecorded}
use Rattle.mux_legal.specs.Sessions as sessions
use Rattle.mux_legal.proofs.Basics.{OnRecorded, on_recorded}
use Rattle.mux_legal.proofs.DownShapes.{CallBorne}
use Rattle.mux_model.specs.World.{Connection, starts, start, outcome_at, MayChooseAt}
use Rattle.mux_model.specs.Events.{run}
use Rattle.mux_model.specs.Runs.{lines, EachConnection}
use Rattle.mux_model.proofs.Happens.{run_reached, limits_kept}
use Rattle.mux_legal.proofs.Everywhere.{everywhere}
use Rattle.mux_legal.proofs.LinkDown.{settled_final}
use Rattle.mux_legal.proofs.LinkUp.{taken_dispatch}
use Rattle.mux_legal.proofs.KeptDown.{IsKeptDown}
use Rattle.mux_legal.proofs.KeptUp.{IsKeptUp}
use Rattle.mux_legal.proofs.Kept.{client_kept, server_kept, down_kept, up_kept}
use Rattle.mux_legal.proofs.ToldSteps.{AreTold, NowTold, told_step, first_told, down_told, up_told}

-- lists that bear out what is handed in: a dispatch was taken, a reply came to it, its server was lost
abbrev step_of : Exchange → Step
step_of e = record { call = ProbeCall; entry = e }

abbrev taker : Name → MuxFrame → Line
taker n f = record {
  boot = n.boot;
  session = Client n.client;
  mode = Plain;
  steps = step_of (record { rec = Some (record { kind = kinds.Took; tag = f.tag; name = Some n; reading = 0 }); taken = Some f; sent = None }) ∷ [];
}

abbrev offer_on : Name → ℕ → Exchange
offer_on n t = record { rec = Some (record { kind = kinds.Offered; tag = t; name = Some n; reading = 0 }); taken = None; sent = Some (record { kind = pos 2; tag = t; body = [] }) }

abbrev settler : Name → MuxFrame → Line
settler n r = record {
  boot = 0;
  session = Server 1;
  mode = Plain;
  steps = step_of (record { rec = None; taken = Some r; sent = None }) ∷ step_of (offer_on n r.tag) ∷ [];
}

abbrev loser : Name → Line
loser n = record {
  boot = 0;
  session = Server 1;
  mode = Plain;
  steps = step_of (record { rec = Some (record { kind = kinds.Lost; tag = 0; name = None; reading = 0 }); taken = None; sent = None }) ∷ step_of (offer_on n 2) ∷ [];
}

is_taken : (n : Name) (f : MuxFrame) → is_dispatch (kind_of f.kind) ≡ true → IsTakenIn n f (taker n f)
is_taken n f d = (refl, refl, inl (refl, refl, d))

is_settled : (n : Name) (r : MuxFrame) → is_final (kind_of r.kind) ≡ true → IsSettledIn n r (settler n r)
is_settled n r final = (1, refl, inl (refl, final, by_tag (r.tag == r.tag) (eq-eqb r.tag r.tag refl)))
  where
    by_tag : (b : Bool) → b ≡ true → name_held (if b then Some (record { place = 0; name = Some n }) else None) ≡ Some n
    by_tag true e = refl
    by_tag false e = absurd (cc)

is_lost : (n : Name) → IsLostIn n (loser n)
is_lost n = (1, refl, inl refl, 2, refl)

borne : (call : Call) → HandsIn call → (ls : List Line) × CallBorne ls call
borne (SettleCall n r None) h = (settler n r ∷ [], (inl (is_settled n r h.0), tt))
borne (SettleCall n r (Some f)) h = (settler n r ∷ taker n f ∷ [], (inl (is_settled n r h.0), inr (inl (is_taken n f h.1))))
borne (FailCall n) h = (loser n ∷ [], inl (is_lost n))
borne (OfferCall n f left now) h = (taker n f ∷ [], inl (is_taken n f h))
borne (FrameCall f now) h = ([], tt)
borne (NoteCall n server tag) h = ([], tt)
borne (NackCall n) h = ([], tt)
borne (UnrouteCall n) h = ([], tt)
borne DrainCall h = ([], tt)
borne (RecallCall n tag why now) h = ([], tt)
borne (ClockCall now) h = ([], tt)
borne (PingCall now) h = ([], tt)
borne (RetireCall now) h = ([], tt)
borne (LoseCall now) h = ([], tt)
borne LoseNextCall h = ([], tt)
borne SealCall h = ([], tt)
borne RollCall h = ([], tt)
borne ProbeCall h = ([], tt)

pub reached_down : (c : DownSession) (steps : List Step) → IsReachedDown c steps → IsKeptDown c steps × AreTold (Client c.number) steps
reached_down c steps sessions.IsReachedDown.begins = (client_kept c.limits c.boot c.number Plain, record { read = refl; told = tt })
reached_down c steps (sessions.IsReachedDown.goes_on {past} out call e gives hands does r) =
    let old = reached_down c past r in
    let b = borne call hands in (
      subst (λ x. OnRecorded x (λ e gives. IsKeptDown c (record { call = call; entry = e } ∷ past))) does (down_kept b.0 c past out call b.1 old.0),
      subst (λ x. OnRecorded x (λ e gives. AreTold (Client c.number) (record { call = call; entry = e } ∷ past))) does
          (on_recorded (down c past out call) (λ e gives. NowTold (Client c.number) past call e.rec e.taken e.sent) (λ e gives. AreTold (Client c.number) (record { call = call; entry = e } ∷ past))
          (λ e gives new. told_step (Client c.number) past call e old.1 new) (down_told c past b.0 out call b.1)),
    )

pub reached_up : (s : UpSession) (steps : List Step) → IsReachedUp s steps → IsKeptUp s steps × AreTold (Server s.number) steps
reached_up s steps sessions.IsReachedUp.begins = (server_kept s.limits 0 s.number s.mode, first_told s.number s.mode)
reached_up s steps (sessions.IsReachedUp.goes_on {past} out t call e gives may hands does r) =
    let old = reached_up s past r in
    let b = borne call hands in (
      subst (λ x. OnRecorded x (λ e gives. IsKeptUp s (record { call = call; entry = e } ∷ past))) does (up_kept b.0 s past out t call may b.1 old.0),
      subst (λ x. OnRecorded x (λ e gives. AreTold (Server s.number) (record { call = call; entry = e } ∷ past))) does
          (on_recorded (up s past out t call) (λ e gives. NowTold (Server s.number) past call e.rec e.taken e.sent) (λ e gives. AreTold (Server s.number) (record { call = call; entry = e } ∷ past))
          (λ e gives new. told_step (Server s.number) past call e old.1 new) (up_told s past b.0 out t call may b.1)),
    )

down_recorded : (c : DownSession) (mode : InitMode) (steps : List Step) → IsKeptDown c steps × AreTold (Client c.number) steps →
    (is_joined c.limits c.boot mode (Client c.number) (records steps) ≡ true) × IsRecorded (record { boot = c.boot; session = Client c.number; mode = mode; steps = steps })
down_recorded c mode steps k = (k.0.joined mode, record { limits = c.limits; follows = (and_parts _ _ (k.0.joined mode)).0; told = k.1.told })

up_recorded : (s : UpSession) (boot : ℕ) (steps : List Step) → IsKeptUp s steps × AreTold (Server s.number) steps →
    (is_joined s.limits boot s.mode (Server s.number) (records steps) ≡ true) × IsRecorded (record { boot = boot; session = Server s.number; mode = s.mode; steps = steps })
up_recorded s boot steps k = (k.0.joined boot, record { limits = s.limits; follows = (and_parts _ _ (k.0.joined boot)).0; told = k.1.told })

pub sessions_are_recorded : SessionsAreRecorded
sessions_are_recorded = (λ c mode steps r. down_recorded c mode steps (reached_down c steps r), λ s boot steps r. up_recorded s boot steps (reached_up s steps r))

-- what is borne out says of its message what a value in hand says
handed : (ls : List Line) (call : Call) → CallBorne ls call → HandsIn call
handed ls (SettleCall n r None) b = (settled_final n r ls b.0, tt)
handed ls (SettleCall n r (Some f)) b = (settled_final n r ls b.0, taken_dispatch n f ls b.1)
handed ls (OfferCall n f left now) b = taken_dispatch n f ls b
handed ls _ b = tt

-- a step that is recorded goes on
down_goes_on : (c : DownSession) (past : List Step) (out : ℕ) (call : Call) → HandsIn call → IsReachedDown c past → OnRecorded (down c past out call) (λ e gives. IsReachedDown c (record { call = call; entry = e } ∷ past))
down_goes_on c past out call hands r = by_outcome (down c past out call) refl
  where
    by_outcome : (o : Outcome) → down c past out call ≡ o → OnRecorded o (λ e gives. IsReachedDown c (record { call = call; entry = e } ∷ past))
    by_outcome (Refused why) is = tt
    by_outcome Unrecorded is = tt
    by_outcome (Recorded e gives) is = sessions.IsReachedDown.goes_on out call e gives hands is r

up_goes_on : (s : UpSession) (past : List Step) (out t : ℕ) (call : Call) → MayChoose s past t call → HandsIn call → IsReachedUp s past →
    OnRecorded (up s past out t call) (λ e gives. IsReachedUp s (record { call = call; entry = e } ∷ past))
up_goes_on s past out t call may hands r = by_outcome (up s past out t call) refl
  where
    by_outcome : (o : Outcome) → up s past out t call ≡ o → OnRecorded o (λ e gives. IsReachedUp s (record { call = call; entry = e } ∷ past))
    by_outcome (Refused why) is = tt
    by_outcome Unrecorded is = tt
    by_outcome (Recorded e gives) is = sessions.IsReachedUp.goes_on out t call e gives may hands is r

abbrev Alone : Bounds → ℕ → SessionId → InitMode → List Step → Type 0
Alone limits b id mode steps = IsReachedAlone limits (record { boot = b; session = id; mode = mode; steps = steps; out = 0 }) id

alone_at : (ls : List Line) (limits : Bounds) (c : Connection) (id : SessionId) (t : ℕ) (call : Call) → MayChooseAt limits c id t call → CallBorne ls call → Alone limits c.boot id c.mode c.steps →
    OnRecorded (outcome_at limits c id t call) (λ e gives. Alone limits c.boot id c.mode (record { call = call; entry = e } ∷ c.steps))
alone_at ls limits c (Client k) t call may b old = down_goes_on (record { limits = limits; boot = c.boot; number = k }) c.steps c.out call (handed ls call b) old
alone_at ls limits c (Server k) t call may b old = up_goes_on (record { limits = limits; number = k; mode = c.mode }) c.steps c.out t call may (handed ls call b) old

pub runs_reach_sessions : RunsReachSessions
runs_reach_sessions limits boot events free =
    subst (λ l. EachConnection (λ c. Alone l c.boot c.session c.mode c.steps) (run (start limits boot) events).connections) (limits_kept (start limits boot) events)
    (everywhere Alone (λ l b k. sessions.IsReachedDown.begins) (λ l b k mode. sessions.IsReachedUp.begins)
    (λ ls limits c id t call own may b old. alone_at ls limits c id t call may b old) (run_reached (start limits boot) events free (starts limits boot)))

recorded_at : (limits : Bounds) (c : Connection) (id : SessionId) → IsReachedAlone limits c id → IsRecorded (record { boot = c.boot; session = id; mode = c.mode; steps = c.steps })
recorded_at limits c (Client k) r =
    let d : DownSession = record { limits = limits; boot = c.boot; number = k } in
    (down_recorded d c.mode c.steps (reached_down d c.steps r)).1
recorded_at limits c (Server k) r =
    let s : UpSession = record { limits = limits; number = k; mode = c.mode } in
    (up_recorded s c.boot c.steps (reached_up s c.steps r)).1

recorded_lines : (limits : Bounds) (cs : List Connection) → EachConnection (λ c. IsReachedAlone limits c c.session) cs → EachLine IsRecorded (lines cs)
recorded_lines limits [] h = tt
recorded_lines limits (c ∷ cs) h = (recorded_at limits c c.session h.0, recorded_lines limits cs h.1)

-- the lists of every run are recorded
pub runs_are_recorded : RunsAreRecorded
runs_are_recorded limits boot events free = recorded_lines limits (run (start limits boot) events).connections (runs_reach_sessions limits boot events free)
