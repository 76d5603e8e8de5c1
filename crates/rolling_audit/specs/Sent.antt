-- The tags on which a server holds a dispatch.
use Rattle.std.specs.Prelude.{ℕ, ◌≡◌, ◌==◌, ◌&&◌, ◌||◌, Bool, false, not}
use Rattle.mux_history.specs.declared.record.Record.{Record}
use Rattle.mux_history.specs.declared.kind.RecordKind.{RecordKind}
use Rattle.mux_history.specs.declared.kind.RecordKind.TheVariants.{Offered, Settled, SettledNack, LostOne, Epoch}
use Rattle.mux_agree.specs.Outlines.{sent_after}
use Rattle.rolling_audit.specs.declared.sent.SentUse.{SentUse}
use Rattle.rolling_audit.specs.declared.sent.SentUse.TheVariants.{Sends, Settles, Clears, Keeps}

abbrev pub sent_use_of : RecordKind → SentUse
sent_use_of Offered = Sends
sent_use_of (Settled _) = Settles
sent_use_of SettledNack = Settles
sent_use_of LostOne = Settles
sent_use_of (Epoch _ _) = Clears
sent_use_of _ = Keeps

-- whether a dispatch is out on each tag behind a record
abbrev pub UsesSent : SentUse → (ℕ → Bool) → Record → (ℕ → Bool) → Type 0
UsesSent Sends old r new = (t : ℕ) → new t ≡ (r.tag == t || old t)
UsesSent Settles old r new = (t : ℕ) → new t ≡ (not (r.tag == t) && old t)
UsesSent Clears old r new = (t : ℕ) → new t ≡ false
UsesSent Keeps old r new = (t : ℕ) → new t ≡ old t

abbrev pub SentGoOn : (ℕ → Bool) → Record → (ℕ → Bool) → Type 0
SentGoOn old r new = (t : ℕ) → new t ≡ sent_after t r r.kind (old t)
