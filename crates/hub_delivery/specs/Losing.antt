-- What a session that is over leaves to others.
use Rattle.std.specs.Prelude.{◌≡◌, ◌+◌, ◌⊎◌, ℕ, Option, Some, None, Result, Err}
use Rattle.translate_book.specs.declared.recall.Recall.{Recall}
use Rattle.translate_book.specs.declared.sent.Lost.{Lost}
use Rattle.client_session.specs.declared.answers.Recalled.{Recalled}
use Rattle.client_session.specs.declared.answers.Recalled.TheVariants.{Stale}
use Rattle.client_session.specs.Steps as up
use Rattle.server_session.specs.declared.answers.Answer.{Answer}
use Rattle.server_session.specs.Steps as down
use Rattle.hub_slots.specs.Locked.{LockedDown, LockedUp}
use Rattle.hub_places.specs.Numbering.{KeepsDown, KeepsUp}
use Rattle.hub_delivery.specs.Leaving.{HasClient, HasServer}

-- this client's session, if it is closed, gave up the recall of its next dispatch that needs one, or had none
abbrev pub GivesRecall : (client : ℕ) → Option Recall → Type 0
GivesRecall client given = LockedDown (KeepsDown client) (λ p q. down.LoseNextStep p given q) (given ≡ None)

-- the session towards a server that a recall names was asked at this reading to discard a dispatch
abbrev pub TakesRecall : (now : ℕ) → Recall → Type 0
TakesRecall now recall =
    (result : Recalled)
    × LockedUp (KeepsUp recall.server) (λ p q. up.RecallStep p recall now result q) (result ≡ Stale)

-- this client's session gave up so many recalls, one after another, each of which was handed at this reading to the
-- server's session that it names, in a hub with so many slots for servers
pub data Recalls (now ups client : ℕ) : (many : ℕ) → Type 0 where
  none : Recalls now ups client 0
  next : {many : ℕ} (recall : Recall) → GivesRecall client (Some recall)
      → (HasServer ups recall.server → TakesRecall now recall)
      → Recalls now ups client many → Recalls now ups client (many + 1)

-- all recalls that it had, or as many as a window has dispatches
abbrev pub RecallsAll : (now downs ups window client : ℕ) → Type 0
RecallsAll now downs ups window client =
    HasClient downs client → (many : ℕ) × Recalls now ups client many × (GivesRecall client None ⊎ (many ≡ window))

-- the session towards a server that has this number, if it is closed, gave up its next dispatch, or had none
abbrev pub GivesLost : (server : ℕ) → Option Lost → Type 0
GivesLost server given = LockedUp (KeepsUp server) (λ p q. up.LoseNextStep p given q) (given ≡ None)

-- the session towards the client whose dispatch is lost was told of it
abbrev pub TakesLost : Lost → Type 0
TakesLost lost =
    (result : Result Answer Lost)
    × LockedDown (KeepsDown lost.name.client) (λ p q. down.FailStep p lost result q) (result ≡ Err lost)

-- this server's session gave up so many dispatches, one after another, of each of which its client's session was told
pub data Fails (downs server : ℕ) : (many : ℕ) → Type 0 where
  none : Fails downs server 0
  next : {many : ℕ} (lost : Lost) → GivesLost server (Some lost) → (HasClient downs lost.name.client → TakesLost lost)
      → Fails downs server many → Fails downs server (many + 1)

-- all that it had, or as many as a window has dispatches
abbrev pub FailsAll : (downs ups window server : ℕ) → Type 0
FailsAll downs ups window server =
    HasServer ups server → (many : ℕ) × Fails downs server many × (GivesLost server None ⊎ (many ≡ window))
