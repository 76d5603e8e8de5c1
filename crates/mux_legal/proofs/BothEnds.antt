-- On every connection of a run with a lawful far end, both ends agree.
use Rattle.std.proofs.Common.{subst, ℕ, zero, suc, List, [], ◌∷◌, ◌+◌, ◌≡◌, ◌≤◌, ◌↔◌, sym, arith, ◌⊎◌, inl, inr}
use Rattle.mux_history.specs.Bounds.{Bounds}
use Rattle.mux_history.specs.declared.session.SessionId.{SessionId}
use Rattle.mux_history.specs.declared.session.SessionId.TheVariants.{Client, Server}
use Rattle.mux_model.specs.Entries.{Exchange}
use Rattle.mux_model.specs.Steps.{Call, Step, entries}
use Rattle.mux_model.specs.World.{World, Connection, Reached, starts, start, first_step, outcome_at, MayChooseAt}
use Rattle.mux_model.specs.Lawful.{Joint, IsStream, at_client, at_server, passed, is_dispatch_on, is_final_on, is_asking_on, is_answering_on, IsLawfulClient, IsLawfulServer, Agree, EndsAgreeAt}
use Rattle.mux_model.specs.Legal.{Line, Each}
use Rattle.mux_model.specs.Runs.{EachConnection, BothEndsAgree}
use Rattle.mux_legal.proofs.Basics.{OnRecorded, on_recorded}
use Rattle.mux_legal.proofs.DownShapes.{CallBorne}
use Rattle.mux_legal.proofs.Turns.{AsksInTurn, AnswersInTurn, take_turns}
use Rattle.mux_legal.proofs.Paired.{turns_agree}
use Rattle.mux_legal.proofs.Orderly.{NoneOn, none_paired, client_none, client_turns, server_turns, SendsNew, new_free, new_none, free_turns, IsPaid, paid_turns, all_asks, all_answers}
use Rattle.mux_legal.proofs.Fits.{down_paid}
use Rattle.mux_legal.proofs.News.{up_new}
use Rattle.mux_model.proofs.Happens.{run_reached}
use Rattle.mux_history.specs.declared.session.InitMode.{InitMode}
use Rattle.mux_history.specs.declared.session.InitMode.TheVariants.{Probe, Plain}
use Rattle.mux_legal.proofs.Everywhere.{everywhere}
use Rattle.mux_model.specs.Down.{down}
use Rattle.mux_model.specs.Up.{up}

-- what the router's lists keep
abbrev pub Fit : SessionId → List Exchange → Type 0
Fit (Client k) es = (t : ℕ) → Each (IsPaid k t) es
Fit (Server k) es = Each (SendsNew k) es

turned : {i k j m : ℕ} → (i ≡ k) ↔ (j ≡ m) → (k ≡ i) ↔ (m ≡ j)
turned x = ((λ e. sym (x.0 (sym e))), (λ e. sym (x.1 (sym e))))

-- the router as a server of a lawful client
client_agrees : (k : ℕ) (es : List Exchange) → ((t : ℕ) → Each (IsPaid k t) es) → (js : List Joint) → IsStream js → at_server js ≡ passed (Client k) es → IsLawfulClient (at_client js) →
    Agree (at_server js) (at_client js)
client_agrees k es paid js st is lawful zero i j a b p q = absurd (none_paired 0 a b (at_client js) (client_none (at_client js) lawful) q)
client_agrees k es paid js st is lawful (suc t) i j a b p q =
    (let one : 1 ≤ suc t = omega arith in
    let turn = take_turns (is_asking_on (suc t)) (is_answering_on (suc t)) js st (client_turns (suc t) one (at_client js) lawful)
    (subst (AnswersInTurn (is_asking_on (suc t)) (is_answering_on (suc t))) (sym is) (paid_turns k (suc t) es (paid (suc t)))) in
    turned (turns_agree (suc t) (is_asking_on (suc t)) (is_answering_on (suc t)) (all_asks (suc t)) (all_answers (suc t)) (at_client js) (at_server js) turn a b i j q p))

pub low_or_high : (t : ℕ) → (t + 1 ≤ 2) ⊎ (2 ≤ t)
low_or_high zero = inl (omega arith)
low_or_high (suc zero) = inl (omega arith)
low_or_high (suc (suc t)) = inr (omega arith)

-- the router as a client of a lawful server
server_agrees : (k : ℕ) (es : List Exchange) → Each (SendsNew k) es → (js : List Joint) → IsStream js → at_client js ≡ passed (Server k) es → IsLawfulServer (at_server js) →
    Agree (at_client js) (at_server js)
server_agrees k es new js st is lawful t i j a b p q = by_tag (low_or_high t)
  where
    by_tag : (t + 1 ≤ 2) ⊎ (2 ≤ t) → (i ≡ a) ↔ (j ≡ b)
    by_tag (inl low) = absurd (none_paired t i j (at_client js) (subst (NoneOn t) (sym is) (new_none k t low es new)) p)
    by_tag (inr high) =
        (let turn = take_turns (is_dispatch_on t) (is_final_on t) js st
        (subst (AsksInTurn (is_dispatch_on t) (is_final_on t)) (sym is) (free_turns t (passed (Server k) es) (new_free k t es new)))
        (server_turns t high (at_server js) lawful) in
        turns_agree t (is_dispatch_on t) (is_final_on t) (λ f h. h) (λ f h. h) (at_client js) (at_server js) turn i j a b p q)

pub agrees : (id : SessionId) (es : List Exchange) → Fit id es → EndsAgreeAt id es
agrees (Client k) es fit = client_agrees k es fit
agrees (Server k) es fit = server_agrees k es fit

-- the induction over worlds
abbrev FitsAll : Bounds → ℕ → SessionId → InitMode → List Step → Type 0
FitsAll limits b id mode steps = Fit id (entries steps)

pub fits_at : (ls : List Line) (limits : Bounds) (c : Connection) (id : SessionId) (t : ℕ) (call : Call) → MayChooseAt limits c id t call → CallBorne ls call → Fit id (entries c.steps) →
    OnRecorded (outcome_at limits c id t call) (λ e gives. Fit id (e ∷ entries c.steps))
fits_at ls limits c (Client k) t call may b fit = on_recorded (down (record { limits = limits; boot = c.boot; number = k }) c.steps c.out call) (λ e gives. (u : ℕ) → IsPaid k u e (entries c.steps)) (λ e gives. Fit (Client k) (e ∷ entries c.steps)) (λ e gives more u. (more u, fit u))
    (down_paid (record { limits = limits; boot = c.boot; number = k }) c.steps ls c.out call b)
fits_at ls limits c (Server k) t call may b fit = on_recorded (up (record { limits = limits; number = k; mode = c.mode }) c.steps c.out t call) (λ e gives. SendsNew k e (entries c.steps)) (λ e gives. Fit (Server k) (e ∷ entries c.steps)) (λ e gives more. (more, fit))
    (up_new (record { limits = limits; number = k; mode = c.mode }) c.steps ls c.out t call may b)

pub first_fits : (k : ℕ) (b : InitMode) → Each (SendsNew k) (entries (first_step b))
first_fits k Probe = ((λ d. absurd (cc)), tt)
first_fits k Plain = tt

pub reached_fits : {w : World} → Reached w → EachConnection (λ c. Fit c.session (entries c.steps)) w.connections
reached_fits r = everywhere FitsAll (λ l b k t. tt) (λ l b k mode. first_fits k mode) (λ ls limits c id t call own may b fit. fits_at ls limits c id t call may b fit) r

all_agree : (cs : List Connection) → EachConnection (λ c. Fit c.session (entries c.steps)) cs → EachConnection (λ c. EndsAgreeAt c.session (entries c.steps)) cs
all_agree [] h = tt
all_agree (c ∷ cs) h = (agrees c.session (entries c.steps) h.0, all_agree cs h.1)

pub reached_agree : {w : World} → Reached w → EachConnection (λ c. EndsAgreeAt c.session (entries c.steps)) w.connections
reached_agree {w} r = all_agree w.connections (reached_fits r)

pub both_ends_agree : BothEndsAgree
both_ends_agree limits boot events free = reached_agree (run_reached (start limits boot) events free (starts limits boot))
