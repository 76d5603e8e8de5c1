-- What an operator is shown of a slot.
use Rattle.std.specs.Prelude.{◌≡◌, length, Option, Some, None}
use Rattle.mux_history.specs.Lapse.{lease_of}
use Rattle.mux_history.specs.Readings.{book, sendings}
use Rattle.mux_model.specs.Steps.{records}
use Rattle.client_session.specs.Past.{Past as UpPast}
use Rattle.client_session.specs.Belonging.{Belongs as BelongsUp}
use Rattle.server_session.specs.Past.{Past as DownPast}
use Rattle.server_session.specs.Belonging.{Belongs as BelongsDown}
use Rattle.hub_close.specs.Words.{down_word, up_word}
use Rattle.kept_session.specs.Reached.{Kept}
use Rattle.kept_session.specs.ReachedDown.{KeptDown}
use Rattle.hub_steps.specs.declared.figures.DownFigures.{DownFigures}
use Rattle.hub_steps.specs.declared.figures.UpFigures.{UpFigures}

-- as all records of the session tell: those of any past that its state belongs to
pub record TellsDown (s : KeptDown) (f : DownFigures) : Type 0 where
  pub word : (p : DownPast) → BelongsDown s.state p → f.word ≡ down_word (records p.steps)
  pub entries : (p : DownPast) → BelongsDown s.state p → f.entries ≡ length (book (records p.steps))
  pub present : f.records ≡ length s.state.records
  pub epoch : f.epoch ≡ s.state.epoch
  pub queued : f.queued ≡ length s.state.queue

abbrev pub ShowsDown : Option KeptDown → Option DownFigures → Type 0
ShowsDown None None = Unit {0}
ShowsDown (Some s) (Some f) = TellsDown s f
ShowsDown _ _ = ⊥

pub record TellsUp (s : Kept) (f : UpFigures) : Type 0 where
  pub word : (p : UpPast) → p.session.mode ≡ s.mode → BelongsUp s.state p
      → f.word ≡ up_word s.mode (records p.steps)
  pub load : (p : UpPast) → BelongsUp s.state p → f.load ≡ length (sendings (records p.steps))
  pub lapse : (p : UpPast) → p.session.mode ≡ s.mode → BelongsUp s.state p
      → f.lapse ≡ lease_of (records p.steps)
  pub present : f.records ≡ length s.state.records
  pub epoch : f.epoch ≡ s.state.epoch
  pub queued : f.queued ≡ length s.state.queue

abbrev pub ShowsUp : Option Kept → Option UpFigures → Type 0
ShowsUp None None = Unit {0}
ShowsUp (Some s) (Some f) = TellsUp s f
ShowsUp _ _ = ⊥
