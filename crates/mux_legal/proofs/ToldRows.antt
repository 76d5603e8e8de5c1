-- The theorems on histories, on worked runs: a dispatch, its offer, its note, its reply and the answer; one that is nacked and sent
-- again; and a session that is sealed.
use Rattle.std.proofs.Common.{ℕ, List, [], ◌∷◌, ◌++◌, ◌≡◌, false, refl, ap, subst, arith}
use Rattle.std.specs.Prelude.{map, length}
use Rattle.mux_message.specs.Reading.{message_of, after_text, after_each, after_pairs, after_all, tdispatch_at, rdispatch_at, tdiscarded_at, tlease_at, init_at}
use Rattle.mux_history.specs.declared.record.Record.{Record}
use Rattle.mux_agree.specs.declared.agreement.histories.DownHistory.{DownHistory}
use Rattle.mux_agree.specs.declared.agreement.histories.UpHistory.{UpHistory}
use Rattle.mux_agree.specs.Walk.{stops, all_records, client_records, histories, IsFaultless, BearOut}
use Rattle.mux_model.proofs.Rows.{limits, begin, row_4, with_tries, with_limits}
use Rattle.mux_model.proofs.LaterRows.{row_28, client_pings, seal_client}
use Rattle.mux_model.specs.Events.{Event, OpenClient, AllChooseFree, run}
use Rattle.mux_model.specs.Replay.{epochs}
use Rattle.mux_model.specs.Runs.{lines}
use Rattle.mux_model.specs.Steps.{records}
use Rattle.mux_model.specs.Legal.{Line}
use Rattle.mux_legal.specs.KeptRuns.{history_of, IsLegalButBodies}
use Rattle.mux_legal.specs.RunsBearOut.{of_boot}
use Rattle.mux_legal.proofs.RunsBorne.{runs_bear_out}
use Rattle.mux_legal.proofs.ReadingsHold.{every_run_is_legal}
use Rattle.mux_legal.proofs.SessionsRecorded.{runs_are_recorded}
use Rattle.mux_legal.proofs.ToldRuns.{kept_runs_are_legal}
use Rattle.mux_legal.proofs.BorneWalk.{all_stops}

abbrev lists : List Line
lists = lines (run begin row_4).connections

free_4 : AllChooseFree begin row_4
unfolding message_of after_text after_each after_pairs after_all tdispatch_at rdispatch_at tdiscarded_at tlease_at init_at
free_4 = (tt, (tt, (tt, ((omega arith, omega arith, refl), (tt, (tt, (tt, tt)))))))

-- no cause, computed
borne_4 : BearOut (map history_of lists)
unfolding message_of after_text after_each after_pairs after_all tdispatch_at rdispatch_at tdiscarded_at tlease_at init_at
borne_4 =
    let all = all_records (map history_of lists) in
    let clients = client_records (map history_of lists) in
    all_stops (IsFaultless clients all) (stops [] (map history_of lists)) (record { sent_once = refl {a = false}; answered_once = refl {a = false}; founded = refl {a = false}; not_nacked = refl {a = false}; lost = refl {a = false}; on_its_tag = refl {a = false}; before_drain = refl {a = false}; on_its_lease = refl {a = false}; leads_on = refl {a = false} }, (record { sent_once = refl {a = false}; answered_once = refl {a = false}; founded = refl {a = false}; not_nacked = refl {a = false}; lost = refl {a = false}; on_its_tag = refl {a = false}; before_drain = refl {a = false}; on_its_lease = refl {a = false}; leads_on = refl {a = false} }, (record { sent_once = refl {a = false}; answered_once = refl {a = false}; founded = refl {a = false}; not_nacked = refl {a = false}; lost = refl {a = false}; on_its_tag = refl {a = false}; before_drain = refl {a = false}; on_its_lease = refl {a = false}; leads_on = refl {a = false} }, (record { sent_once = refl {a = false}; answered_once = refl {a = false}; founded = refl {a = false}; not_nacked = refl {a = false}; lost = refl {a = false}; on_its_tag = refl {a = false}; before_drain = refl {a = false}; on_its_lease = refl {a = false}; leads_on = refl {a = false} }, (record { sent_once = refl {a = false}; answered_once = refl {a = false}; founded = refl {a = false}; not_nacked = refl {a = false}; lost = refl {a = false}; on_its_tag = refl {a = false}; before_drain = refl {a = false}; on_its_lease = refl {a = false}; leads_on = refl {a = false} }, tt)))))

legal_4 : (downs : List DownHistory) (ups : List UpHistory) → map history_of lists ≡ histories downs ups → IsLegalButBodies lists
legal_4 downs ups same = kept_runs_are_legal downs ups lists same (every_run_is_legal limits 1 row_4 free_4).one_connection (runs_are_recorded limits 1 row_4 free_4) (subst BearOut same borne_4)

-- its one boot has all lists, the client's first, and no other boot has any
boot_4 : of_boot 1 lists ≡ lists
unfolding message_of after_text after_each after_pairs after_all tdispatch_at rdispatch_at tdiscarded_at tlease_at init_at
boot_4 = refl

no_boot_4 : of_boot 2 lists ≡ []
unfolding message_of after_text after_each after_pairs after_all tdispatch_at rdispatch_at tdiscarded_at tlease_at init_at
no_boot_4 = refl

-- what the walk finds of this run, found by the theorem on every run
run_borne_4 : BearOut (map history_of lists)
run_borne_4 = subst BearOut (ap (map history_of) boot_4) (runs_bear_out limits 1 row_4 free_4 1)

-- a dispatch that one server nacks and that goes to another, whose nack is passed on
abbrev lists_28 : List Line
lists_28 = lines (run (with_tries 8 16 64 1) row_28).connections

free_28 : AllChooseFree (with_tries 8 16 64 1) row_28
unfolding message_of after_text after_each after_pairs after_all tdispatch_at rdispatch_at tdiscarded_at tlease_at init_at
free_28 = (tt, (tt, (tt, (tt, ((omega arith, omega arith, refl), (tt, (tt, (tt, ((omega arith, omega arith, refl), (tt, (tt, (tt, tt))))))))))))

boot_28 : of_boot 1 lists_28 ≡ lists_28
unfolding message_of after_text after_each after_pairs after_all tdispatch_at rdispatch_at tdiscarded_at tlease_at init_at
boot_28 = refl

borne_28 : BearOut (map history_of lists_28)
borne_28 = subst BearOut (ap (map history_of) boot_28) (runs_bear_out (with_tries 8 16 64 1).limits 1 row_28 free_28 1)

legal_28 : (downs : List DownHistory) (ups : List UpHistory) → map history_of lists_28 ≡ histories downs ups → IsLegalButBodies lists_28
legal_28 downs ups same =
    kept_runs_are_legal downs ups lists_28 same (every_run_is_legal (with_tries 8 16 64 1).limits 1 row_28 free_28).one_connection (runs_are_recorded (with_tries 8 16 64 1).limits 1 row_28 free_28) (subst BearOut same borne_28)

-- a client that is sealed: its list is told by two epochs
abbrev row_sealed : List (ℕ × Event)
row_sealed = (0, OpenClient) ∷ client_pings 11 ++ seal_client ∷ client_pings 1

abbrev lists_sealed : List Line
lists_sealed = lines (run (with_limits 1 5 16) row_sealed).connections

abbrev lengths : List (List Record) → List ℕ
lengths [] = []
lengths (h ∷ hs) = length h ∷ lengths hs

abbrev cuts : List Line → List (List ℕ)
cuts [] = []
cuts (l ∷ ls) = lengths (epochs (records l.steps)) ∷ cuts ls

sealed_twice : cuts lists_sealed ≡ (2 ∷ 11 ∷ []) ∷ []
unfolding message_of after_text after_each after_pairs after_all tdispatch_at rdispatch_at tdiscarded_at tlease_at init_at
sealed_twice = refl
