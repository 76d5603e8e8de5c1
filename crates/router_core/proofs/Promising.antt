-- What is promised of every world of a core.
use Rattle.std.proofs.Common.{sym, subst}
use Rattle.mux_history.specs.Bounds.{Bounds}
use Rattle.mux_model.specs.World.{World, Reached}
use Rattle.mux_legal.proofs.ReadingsHold.{reached_legal}
use Rattle.mux_legal.proofs.Answered.{reached_answered}
use Rattle.mux_legal.proofs.Once.{reached_once}
use Rattle.mux_legal.proofs.Seen.{reached_seen}
use Rattle.mux_legal.proofs.BothEnds.{reached_agree}
use Rattle.router_core.specs.Promises.{KeepsPromises, IsPromised}
use Rattle.router_core.specs.Worlds.{CoreView, IsLegalCore}

pub promised : {w : World} → Reached w → KeepsPromises w.limits w.connections
promised r = record {
  legal = reached_legal r;
  answered = reached_answered r;
  once = reached_once r;
  seen = reached_seen r;
  agree = reached_agree r;
}

pub promises_of : (v : CoreView) → IsPromised v
promises_of v w h = subst (λ (l : Bounds). KeepsPromises l w.connections) (sym h.limits) (promised h.reached)

pub legal_of : (v : CoreView) → IsLegalCore v
legal_of v w h = (promises_of v w h).legal
