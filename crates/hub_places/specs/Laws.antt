-- What holds of the place of a session, of either side.
use Rattle.std.proofs.Common.{◌≡◌, ◌≤◌, ◌<◌, ℕ, [], Option, Some, None, ap, ◌∙◌, refl, sym, subst, arith}
use Rattle.mux_history.specs.declared.session.SessionId.TheVariants.{Client, Server}
use Rattle.kept_session.specs.Reached.{Kept}
use Rattle.kept_session.specs.ReachedDown.{KeptDown}
use Rattle.hub_log.specs.declared.terms.Terms.{Terms}
use Rattle.hub_log.specs.Moves.{moves_of}
use Rattle.hub_log.specs.Views.{View}
use Rattle.hub_places.specs.Sitting.{SitsDown, SitsUp}

-- its number is that of its place
pub numbered_down : (t : Terms) (n next : ℕ) (s : KeptDown) (v : View) → SitsDown t n next (Some s) v → s.state.client ≡ n
numbered_down t n next s v sits = let r = sits.tied s refl in r.0.belongs.client ∙ r.1

pub numbered_up : (t : Terms) (n next : ℕ) (s : Kept) (v : View) → SitsUp t n next (Some s) v → s.state.server ≡ n
numbered_up t n next s v sits = let r = sits.tied s refl in r.0.belongs.server ∙ r.1

-- a place that is none of the hub's
pub nobody_down : (t : Terms) (n next : ℕ) (v : View) → v.high ≡ 0 → SitsDown t n next None v
nobody_down t n next v none = record {
  tied = λ k is. absurd (let no : None ≡ Some k = is in cc no);
  fresh = λ k least owns. absurd (omega (arith, owns.1, none));
}

pub nobody_up : (t : Terms) (n next : ℕ) (v : View) → v.high ≡ 0 → SitsUp t n next None v
nobody_up t n next v none = record {
  tied = λ k is. absurd (let no : None ≡ Some k = is in cc no);
  fresh = λ k least owns. absurd (omega (arith, owns.1, none));
}

-- nothing was done yet
pub nothing_down : (t : Terms) (n next : ℕ) (v : View) → v.seen ≡ [] → SitsDown t n next None v
nothing_down t n next v none = record {
  tied = λ k is. absurd (let no : None ≡ Some k = is in cc no);
  fresh = λ k least owns. ap (moves_of (Client k)) none;
}

pub nothing_up : (t : Terms) (n next : ℕ) (v : View) → v.seen ≡ [] → SitsUp t n next None v
nothing_up t n next v none = record {
  tied = λ k is. absurd (let no : None ≡ Some k = is in cc no);
  fresh = λ k least owns. ap (moves_of (Server k)) none;
}
