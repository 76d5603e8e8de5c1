-- What a session towards a server does, as the log has it.
use Rattle.std.specs.Prelude.{ℕ, ◌≡◌, ◌++◌, Some, length}
use Rattle.mux_history.specs.declared.session.SessionId.TheVariants.{Server}
use Rattle.mux_model.specs.Steps.{Recorded, Unrecorded}
use Rattle.mux_model.specs.Up.{MayChoose, up}
use Rattle.mux_model.specs.World.{Connection}
use Rattle.client_session.specs.Past.{Past, add}
use Rattle.hub_log.specs.Moves.{Deed, Opened, Did, Quiet, TookOut}
use Rattle.hub_log.specs.Bag.{GivesOut}

-- a past as the world has it: it doesn't say of which boot it is
abbrev pub connection_up : (boot : ℕ) → Past → Connection
connection_up boot p = record {
  boot = boot;
  session = Server p.session.number;
  mode = p.session.mode;
  steps = p.steps;
  out = length p.out;
}

-- the deed leads from one past to the next
abbrev pub LeadsUp : Past → Deed → Past → Type 0
LeadsUp p (Opened mode) q = ⊥
LeadsUp p (Did call entry gives) q =
    (tag : ℕ) × MayChoose p.session p.steps tag call
    × (up p.session p.steps (length p.out) tag call ≡ Recorded entry gives) × (q ≡ add p call entry)
LeadsUp p (Quiet call) q =
    (tag : ℕ) × (up p.session p.steps (length p.out) tag call ≡ Unrecorded) × (q ≡ p)
LeadsUp p (TookOut frames) q =
    ((boot : ℕ) → GivesOut (connection_up boot p) frames) × (q ≡ record p { out = p.out ++ frames })
