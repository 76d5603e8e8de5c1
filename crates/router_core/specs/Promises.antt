-- What is promised of the lists of a core: the headline.
use Rattle.std.specs.Prelude.{◌≡◌, ◌≤◌, List}
use Rattle.mux_history.specs.Bounds.{Bounds}
use Rattle.mux_history.specs.declared.name.Name.{Name}
use Rattle.mux_model.specs.Steps.{entries}
use Rattle.mux_model.specs.World.{World, Connection}
use Rattle.mux_model.specs.Runs.{lines, EachConnection}
use Rattle.mux_model.specs.Lawful.{EndsAgreeAt}
use Rattle.mux_model.specs.Legal.{IsLegal, EachLine, Each, times_carried}
use Rattle.router_core.specs.Worlds.{CoreView, IsCoreOf}
use Rattle.mux_legal.specs.Headline.{AnswersEach, IsRepliedIn, AnswersPlainly, IsSeenBy}

pub record KeepsPromises (limits : Bounds) (cs : List Connection) : Type 0 where
  -- the lists of all boots are a legal run
  pub legal : IsLegal limits.retries (lines cs)
  -- each Rdispatch that a client is sent is its server's reply to that very dispatch, or the router's nack of what
  -- each server nacked
  pub answered : EachLine (λ l. Each (AnswersEach (IsRepliedIn (lines cs)) (lines cs) l.session) (entries l.steps))
      (lines cs)
  -- without tries no dispatch is sent twice, and one that the router nacks by itself never
  pub once : limits.retries ≡ 0
      → ((n : Name) → times_carried n (lines cs) ≤ 1)
      × EachLine (λ l. Each (AnswersPlainly (lines cs) l.session) (entries l.steps)) (lines cs)
  -- a server that is lawful saw it so
  pub seen : EachLine (λ l. Each (AnswersEach IsSeenBy (lines cs) l.session) (entries l.steps)) (lines cs)
  -- where the far end is lawful, both ends pair each dispatch with the same reply
  pub agree : EachConnection (λ c. EndsAgreeAt c.session (entries c.steps)) cs

-- the lists of every world of the core keep it
abbrev pub IsPromised : CoreView → Type 0
IsPromised v = (w : World) → IsCoreOf v w → KeepsPromises v.limits w.connections
