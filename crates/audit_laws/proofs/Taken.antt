-- Each dispatch that a record of a run names was taken by a session of its client.
use Rattle.std.proofs.Common.{ℕ, List, [], ◌∷◌, ◌+◌, ◌≡◌, ◌≤◌, ◌||◌, ◌⊎◌, inl, inr, true, sym, ◌∙◌, ap, arith}
use Rattle.std.specs.Prelude.{if◌then◌else◌, filter, map, reverse}
use Rattle.std.proofs.lemmas.Bool.{and_parts}
use Rattle.mux_history.specs.Bounds.{Bounds}
use Rattle.mux_history.specs.declared.name.Name.{Name}
use Rattle.mux_history.specs.declared.kind.RecordKind.{RecordKind}
use Rattle.mux_history.specs.declared.session.SessionId.{SessionId}
use Rattle.mux_history.specs.declared.session.SessionId.TheVariants.{Client, Server}
use Rattle.mux_history.specs.Readings.{gives_name, is_offered, is_retried}
use Rattle.mux_agree.specs.Walk.{all_records, client_records, is_client}
use Rattle.mux_model.specs.Events.{run}
use Rattle.mux_model.specs.Legal.{EachLine, Line, tally, total}
use Rattle.mux_model.specs.Replay.{is_joined}
use Rattle.mux_model.specs.Runs.{lines}
use Rattle.mux_model.specs.Steps.{entries, records}
use Rattle.mux_model.specs.World.{Reached, start, starts}
use Rattle.mux_model.proofs.Happens.{run_reached}
use Rattle.mux_legal.specs.KeptRuns.{history_of}
use Rattle.mux_legal.specs.RunsBearOut.{of_boot}
use Rattle.mux_legal.proofs.Kept.{records_follow}
use Rattle.mux_legal.proofs.OfBoot.{boot_all, boot_most, each_of_boot, each_then, each_with, one_has, tally_occurs, total_count, zero_or_more}
use Rattle.mux_legal.proofs.Owed.{IsOwed, reached_owed}
use Rattle.mux_legal.proofs.ToldHolders.{occurs}
use Rattle.mux_legal.proofs.ToldWalk.{occurs-append, times_occurs, total as count, total_all}
use Rattle.mux_legal.proofs.Worlds.{Keeps, reached_keeps}
use Rattle.audit_laws.specs.Forgetting.{EveryNameIsTaken}
use Rattle.audit_laws.proofs.Complete.{bears_given, occurs_bears}
use Rattle.audit_laws.proofs.Fit.{all_mine}
use Rattle.audit_laws.proofs.Forgotten.{JoinedLine, line_boot, no_gifts, occurs-reverse}
use Rattle.audit_laws.proofs.Named.{any, bears_offered}
use Rattle.audit_laws.proofs.Refused.{joined_lines}

abbrev OfferedHere : Line → Type 0
OfferedHere l = (n : Name) → 1 ≤ occurs is_offered n (records l.steps) → n.boot ≡ l.boot

module _ (limits : Bounds) (n : Name) where
  -- a list that bears the name is of its boot, and took or was sent the dispatch
  named_in : (l : Line) → JoinedLine limits l → OfferedHere l → 1 ≤ occurs any n (records l.steps) → (n.boot ≡ l.boot) × ((1 ≤ occurs gives_name n (records l.steps)) ⊎ (1 ≤ occurs is_offered n (records l.steps)))
  named_in l joined offered one = by_session l.session joined
    where
      by_session : (id : SessionId) → is_joined limits l.boot l.mode id (records l.steps) ≡ true → (n.boot ≡ l.boot) × ((1 ≤ occurs gives_name n (records l.steps)) ⊎ (1 ≤ occurs is_offered n (records l.steps)))
      by_session (Client k) j =
          let parts = and_parts _ _ j in
          let bears = occurs_bears any n (records l.steps) one in
          ((all_mine limits l.boot k l.mode (records l.steps) parts.0 n bears).0, inl (bears_given limits l.boot k l.mode n (records l.steps) parts bears))
      by_session (Server k) j =
          let sent = bears_offered n limits l.boot l.mode k (records l.steps) (and_parts _ _ j).0 (occurs_bears any n (records l.steps) one) in
          (offered n sent, inr sent)

  named_among : (b : ℕ) (ls : List Line) → EachLine (λ l. (l.boot ≡ b) × (JoinedLine limits l × OfferedHere l)) ls → 1 ≤ count any n ls → (n.boot ≡ b) × ((1 ≤ count gives_name n ls) ⊎ (1 ≤ count is_offered n ls))
  named_among b [] each one = absurd (omega (arith, one))
  named_among b (l ∷ ls) each one =
      elim (zero_or_more (occurs any n (records l.steps))) [
        | inl z ↦ (
            let rest = named_among b ls each.1 (omega (arith, one, z)) in
            (rest.0, elim rest.1 [ inl g ↦ inl (omega (arith, g)) | inr o ↦ inr (omega (arith, o)) ]))
        | inr x ↦ (
            let here = named_in l each.0.1.0 each.0.1.1 x in
            (here.0 ∙ each.0.0, elim here.1 [ inl g ↦ inl (omega (arith, g)) | inr o ↦ inr (omega (arith, o)) ]))
      ]

  -- what may be sent again was taken
  retried_given : (ls : List Line) → EachLine (JoinedLine limits) ls → 1 ≤ count is_retried n ls → 1 ≤ count gives_name n ls
  retried_given [] each one = absurd (omega (arith, one))
  retried_given (l ∷ ls) each one =
      elim (zero_or_more (occurs is_retried n (records l.steps))) [ inl z ↦ omega (arith, retried_given ls each.1 (omega (arith, one, z))) | inr x ↦ omega (arith, by_session x l.session each.0) ]
    where
      by_session : 1 ≤ occurs is_retried n (records l.steps) → (id : SessionId) → is_joined limits l.boot l.mode id (records l.steps) ≡ true → 1 ≤ occurs gives_name n (records l.steps)
      by_session x (Client k) j = bears_given limits l.boot k l.mode n (records l.steps) (and_parts _ _ j) (occurs_bears is_retried n (records l.steps) x)
      by_session x (Server k) j = absurd (omega (arith, x, no_gifts limits l.boot k l.mode n (records l.steps) (and_parts _ _ j).0))

  -- names are given in clients' lists
  given_by_clients : (ls : List Line) → EachLine (JoinedLine limits) ls → count gives_name n ls ≤ occurs gives_name n (client_records (map history_of ls))
  given_by_clients [] each = omega arith
  given_by_clients (l ∷ ls) each = by_session l.session each.0 (given_by_clients ls each.1)
    where
      by_session : (id : SessionId) → is_joined limits l.boot l.mode id (records l.steps) ≡ true → count gives_name n ls ≤ occurs gives_name n (client_records (map history_of ls)) →
          occurs gives_name n (records l.steps) + count gives_name n ls
          ≤ occurs gives_name n (all_records (if is_client id then history_of l ∷ filter (λ h. is_client h.session) (map history_of ls) else filter (λ h. is_client h.session) (map history_of ls)))
      by_session (Client k) j rest = omega (arith, rest, occurs-append gives_name n (reverse (records l.steps)) (client_records (map history_of ls)), occurs-reverse gives_name n (records l.steps))
      by_session (Server k) j rest = omega (arith, rest, no_gifts limits l.boot k l.mode n (records l.steps) (and_parts _ _ j).0)

gift : (k : RecordKind) → gives_name k ≡ true → (gives_name k || is_retried k) ≡ true
gift k e = ap (λ y. y || is_retried k) e

pub every_name_is_taken : EveryNameIsTaken
every_name_is_taken limits boot events free b n one =
    let w = run (start limits boot) events in
    let ls = lines w.connections in
    let ms = of_boot b ls in
    let r : Reached w = run_reached (start limits boot) events free (starts limits boot) in
    let v : Keeps w = reached_keeps r in
    let o : IsOwed w.boot ls w.hands = reached_owed r in
    let joined : EachLine (JoinedLine limits) ls = joined_lines limits w.connections (records_follow limits boot events free) in
    let each : EachLine (λ l. JoinedLine limits l × OfferedHere l) ls
    = each_with (JoinedLine limits) (λ l. (m : Name) → 1 ≤ tally is_offered m (entries l.steps) → m.boot ≡ l.boot) (λ l. JoinedLine limits l × OfferedHere l)
    (λ l j sent. (j, λ m x. sent m (omega (arith, x, tally_occurs is_offered m l.steps)))) ls joined o.offered in
    let here : EachLine (λ l. (l.boot ≡ b) × (JoinedLine limits l × OfferedHere l)) ms
    = each_of_boot (λ l. JoinedLine limits l × OfferedHere l) (λ l. (l.boot ≡ b) × (JoinedLine limits l × OfferedHere l)) b (λ l e f. (e, f)) ls each in
    let there : (n.boot ≡ b) × ((1 ≤ count gives_name n ms) ⊎ (1 ≤ count is_offered n ms)) = named_among limits n b ms here (omega (arith, one, times_occurs any n (all_records (map history_of ms)), total_all any n ms)) in
    let linear : total is_offered n ls ≤ total gives_name n ls + total is_retried n ls = omega (arith, v.linear n) in
    let same : count gives_name n ls ≤ count gives_name n ms
    = boot_all gives_name n b ls (each_then (JoinedLine limits) (λ l. 1 ≤ occurs gives_name n (records l.steps) → l.boot ≡ b) (λ l j x. sym (line_boot limits n gives_name gift l j x) ∙ there.0) ls joined) in
    let given : 1 ≤ count gives_name n ms = elim there.1 [
      | inl g ↦ g
      | inr s ↦ (
          elim (zero_or_more (count is_retried n ls)) [
            | inl z ↦ omega (arith, same, linear, s, z, boot_most is_offered n b ls, total_count is_offered n ls, total_count gives_name n ls, total_count is_retried n ls)
            | inr x ↦ omega (arith, same, retried_given limits n ls joined x)
          ])
    ] in
    one_has gives_name n (client_records (map history_of ms)) (omega (arith, given, given_by_clients limits n ms (each_of_boot (JoinedLine limits) (JoinedLine limits) b (λ l e f. f) ls joined)))
