-- What was done in a run bears itself out.
use Rattle.std.specs.Prelude.{List}
use Rattle.mux_history.specs.Counting.{IsCount}
use Rattle.mux_history.specs.declared.counts.KindCounts.{KindCounts}
use Rattle.mux_agree.specs.declared.agreement.histories.DownHistory.{DownHistory}
use Rattle.mux_agree.specs.declared.agreement.histories.UpHistory.{UpHistory}
use Rattle.rolling_audit.specs.declared.run.RunAudit.{RunAudit}
use Rattle.hub.specs.Seats.{Seat, Orders}
use Rattle.hub.specs.declared.close.Closed.{Closed}
use Rattle.hub.specs.Closing.{IsClosed, records_in}
use Rattle.hub.specs.Rests.{TakesRests}
use Rattle.hub.specs.Run.{IsClosedRun}

-- these histories, which are left, with the seats that came back, behind those that an audit was handed before
pub record IsBehind (downs : List DownHistory) (ups : List UpHistory) (clients servers : List Seat) (orders : List Orders)
    : Type 0 where
  pub before : RunAudit
  pub after : RunAudit
  pub sums : Closed
  pub takes : TakesRests before downs ups after
  pub closed : IsClosedRun before after downs ups clients servers orders sums

-- these by themselves, with the counts of their records; or behind those
pub data IsBorneOut (downs : List DownHistory) (ups : List UpHistory) (clients servers : List Seat) (orders : List Orders)
    (counts : KindCounts) : Type 0 where
  alone : (c : Closed) → IsClosed downs ups clients servers orders c → IsCount counts (records_in downs ups)
      → IsBorneOut downs ups clients servers orders counts
  behind : IsBehind downs ups clients servers orders → IsBorneOut downs ups clients servers orders counts
