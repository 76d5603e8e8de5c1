-- A session that is opened is the connection that is opened.
use Rattle.std.proofs.Common.{◌≡◌, ℕ, [], refl, sym, subst}
use Rattle.mux_history.specs.Bounds.{Bounds}
use Rattle.mux_history.specs.declared.session.SessionId.TheVariants.{Client, Server}
use Rattle.mux_history.specs.declared.session.InitMode.{InitMode}
use Rattle.mux_history.specs.declared.session.InitMode.TheVariants.{Plain}
use Rattle.mux_model.specs.World.{Connection, first_step}
use Rattle.client_session.specs.State.{State as UpState}
use Rattle.client_session.specs.Past.{begun}
use Rattle.client_session.specs.Belonging.{Belongs}
use Rattle.server_session.specs.State.{State as DownState}
use Rattle.server_session.specs.Past.{begun as begun_down}
use Rattle.server_session.specs.Belonging.{Belongs as BelongsDown}
use Rattle.router_core.specs.Sides.{UpAt, DownAt}

pub begins_server : (limits : Bounds) (number n boot : ℕ) (mode : InitMode) (s : UpState) (c : Connection) → number ≡ n → c ≡ record { boot = boot; session = Server number; mode = mode; steps = first_step mode; out = 0 }
    → Belongs s (begun (record { limits = limits; number = n; mode = mode })) → UpAt limits number s c
begins_server limits number n boot mode s c is at belongs =
    subst (λ d. UpAt limits number s d) (sym at)
    (record { session = refl; out = []; count = refl; belongs = subst (λ k. Belongs s (begun (record { limits = limits; number = k; mode = mode }))) (sym is) belongs })

pub begins_client : (limits : Bounds) (number n boot : ℕ) (s : DownState) (c : Connection) → number ≡ n → c ≡ record { boot = boot; session = Client number; mode = Plain; steps = []; out = 0 }
    → BelongsDown s (begun_down (record { limits = limits; boot = boot; number = n })) → DownAt limits number s c
begins_client limits number n boot s c is at belongs =
    subst (λ d. DownAt limits number s d) (sym at)
    (record { session = refl; out = []; count = refl; belongs = subst (λ k. BelongsDown s (begun_down (record { limits = limits; boot = boot; number = k }))) (sym is) belongs })
