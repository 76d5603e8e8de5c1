-- A slot beside its pass: what the lock of a slot keeps.
use Rattle.std.specs.Prelude.{ℕ, ◌≡◌, ◌<◌, ◌≤◌, [], Option}
use Rattle.std.specs.Option.{ForSome}
use Rattle.mux_history.specs.declared.session.SessionId.{SessionId}
use Rattle.mux_history.specs.declared.session.SessionId.TheVariants.{Client, Server}
use Rattle.kept_session.specs.Reached.{Kept}
use Rattle.kept_session.specs.ReachedDown.{KeptDown}
use Rattle.hub_log.specs.declared.terms.Terms.{Terms}
use Rattle.hub_log.specs.Moves.{moves_of}
use Rattle.hub_log.specs.Views.{View, GoesOn, Owns}
use Rattle.hub_places.specs.Tied.{TiedDown, TiedUp}

-- the session of this number, if it is there, is what the log has of it; those of its slot from `next` on were never
-- opened
pub record SitsDown (t : Terms) (number next : ℕ) (slot : Option KeptDown) (v : View) : Type 0 where
  pub tied : ForSome slot (λ k. (s : TiedDown t k v) × (s.past.session.number ≡ number) × (number < next))
  pub fresh : (k : ℕ) → next ≤ k → Owns t v (Client k) → moves_of (Client k) v.seen ≡ []

pub record SitsUp (t : Terms) (number next : ℕ) (slot : Option Kept) (v : View) : Type 0 where
  pub tied : ForSome slot (λ k. (s : TiedUp t k v) × (s.past.session.number ≡ number) × (number < next))
  pub fresh : (k : ℕ) → next ≤ k → Owns t v (Server k) → moves_of (Server k) v.seen ≡ []

-- what a pass knows of the log, whatever it has in hand
abbrev pub bare_of : View → View
bare_of v = record { seen = v.seen; told = []; low = v.low; high = v.high; hands = [] }

-- a pass that had nothing in hand has taken in all that another had, and has seen what that one has
pub record Entered (t : Terms) (v carried w : View) : Type 0 where
  pub low : w.low ≡ v.low
  pub high : w.high ≡ v.high
  pub own : (id : SessionId) → Owns t v id → moves_of id w.seen ≡ moves_of id v.seen
  pub hands : w.hands ≡ carried.hands
  pub seen : GoesOn carried.seen w.seen
