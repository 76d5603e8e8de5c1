-- What a record makes of the tags that a server holds.
use Rattle.std.proofs.Common.{ℕ, ◌≡◌, Bool}
use Rattle.mux_history.specs.declared.record.Record.{Record}
use Rattle.mux_history.specs.declared.kind.RecordKind.{RecordKind}
use Rattle.mux_history.specs.declared.kind.RecordKind.TheVariants.{Offered, Settled, SettledNack, LostOne, Epoch}
use Rattle.mux_agree.specs.Outlines.{sent_after}
use Rattle.rolling_audit.specs.Sent.{SentGoOn, UsesSent, sent_use_of}

by_kind : (old new : ℕ → Bool) (r : Record) (k : RecordKind) → UsesSent (sent_use_of k) old r new → (t : ℕ) → new t ≡ sent_after t r k (old t)
by_kind old new r Offered u = u
by_kind old new r (Settled kind) u = u
by_kind old new r SettledNack u = u
by_kind old new r LostOne u = u
by_kind old new r (Epoch number standing) u = u
by_kind old new r _ u = u

pub sent_goes_on : (old new : ℕ → Bool) (r : Record) → UsesSent (sent_use_of r.kind) old r new → SentGoOn old r new
sent_goes_on old new r u = by_kind old new r r.kind u
