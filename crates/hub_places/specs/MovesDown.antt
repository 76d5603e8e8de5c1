-- What a session towards a client does, as the log has it.
use Rattle.std.specs.Prelude.{◌≡◌, ◌++◌, Some, length}
use Rattle.mux_history.specs.declared.session.InitMode.TheVariants.{Plain}
use Rattle.mux_history.specs.declared.session.SessionId.TheVariants.{Client}
use Rattle.mux_model.specs.Steps.{Recorded, Unrecorded}
use Rattle.mux_model.specs.Down.{down}
use Rattle.mux_model.specs.World.{Connection}
use Rattle.server_session.specs.Past.{Past, add}
use Rattle.hub_log.specs.Moves.{Deed, Opened, Did, Quiet, TookOut}
use Rattle.hub_log.specs.Bag.{GivesOut}

-- a past as the world has it
abbrev pub connection_down : Past → Connection
connection_down p = record {
  boot = p.session.boot;
  session = Client p.session.number;
  mode = Plain;
  steps = p.steps;
  out = length p.out;
}

-- the deed leads from one past to the next: a session's step relations are of these kinds, or leave the past as it is
abbrev pub LeadsDown : Past → Deed → Past → Type 0
LeadsDown p (Opened mode) q = ⊥
LeadsDown p (Did call entry gives) q =
    (down p.session p.steps (length p.out) call ≡ Recorded entry gives) × (q ≡ add p call entry)
LeadsDown p (Quiet call) q = (down p.session p.steps (length p.out) call ≡ Unrecorded) × (q ≡ p)
LeadsDown p (TookOut frames) q = GivesOut (connection_down p) frames × (q ≡ record p { out = p.out ++ frames })
