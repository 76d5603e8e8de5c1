-- Worked examples of sessions that are rolled, which the checker computes: all that a session holds goes on.
use Rattle.std.specs.Prelude.{ℕ, negsuc, List, [], ◌∷◌, ◌++◌, ◌≡◌, ◌-◌, ◌^◌, Bool, true, false, Some, None, refl, codes}
use Rattle.std.proofs.Common.{replicate}
use Rattle.mux_history.specs.declared.name.Name.{Name}
use Rattle.mux_history.specs.declared.record.Record.{Record}
use Rattle.mux_history.specs.declared.kind.RecordKind.TheVariants.{Took, Discarded, Noted, Passed, Retried, Late, Lost, Ignored, Offered, Settled, SettledNack, Discarding, Leased, Epoch, Rolled}
use Rattle.mux_history.specs.declared.kind.Standing.TheVariants.{Down}
use Rattle.mux_history.specs.declared.session.SessionId.TheVariants.{Client, Server}
use Rattle.mux_history.specs.declared.session.InitMode.TheVariants.{Probe, Plain}
use Rattle.mux_history.specs.declared.session.DrainState.TheVariants.{Running}
use Rattle.mux_message.specs.Reading.{message_of, after_text, after_each, after_pairs, after_all, tdispatch_at, rdispatch_at, tdiscarded_at, tlease_at, init_at}
use Rattle.mux_message.specs.Made.{frame_of, nack_on, rerr_on, rdiscarded_on, rping_on, rdrain_on, tdrain_on, tping_on, tinit_on, probe, tdiscarded_for}
use Rattle.mux_model.specs.Steps.{TicketOf, PlacedAt, SettledBy, RecallOf, RollCall, Step, Refused, Recorded, entry_of, IsClosed, IsBusy, IsSpent, IsDrained, IsLapsed, Outstanding, NoRoom, LastEpoch}
use Rattle.mux_model.specs.World.{World}
use Rattle.mux_model.specs.Down.{down}
use Rattle.mux_model.specs.Up.{up}
use Rattle.mux_model.specs.Events.{Event, OpenClient, OpenServer, On, Frame, Roll, Drain, Lose, LoseNext, Ping, run, Spend, TakeOutOf, Offer, Note, Settle, Nack, Fail, Recall, OfSession}
use Rattle.mux_model.specs.Replay.{is_joined}
use Rattle.mux_model.proofs.Rows.{name, tdispatch, rdispatch, discarding, from_client, from_server, lease, with_tries, with_limits, refusals, sent_all, held_all}
use Rattle.mux_model.proofs.EdgeRows.{next_of}
use Rattle.mux_model.proofs.LaterRows.{all_joined, records_all, of, n1, lone, newest, client_pings, server_pings, seal_client, kept_down, kept_up}

abbrev pub roll_client : ℕ × Event
roll_client = (0, On (Client 1) Roll)

abbrev pub roll_server : ℕ × Event
roll_server = (0, On (Server 1) Roll)

abbrev pub roll_both : List (ℕ × Event)
roll_both = roll_client ∷ roll_server ∷ []

abbrev small : World
small = with_limits 8 16 16

abbrev small_again : World
small_again = with_tries 8 16 16 1

abbrev n2 : Name
n2 = name 1 1 2

-- a dispatch that is taken; offered; noted
abbrev taken : List (ℕ × Event)
taken = (0, OpenClient) ∷ (0, OpenServer Plain) ∷ from_client 1 (tdispatch 5) ∷ []

abbrev offered : List (ℕ × Event)
offered = taken ++ (2, Spend 1 (Offer 1 0)) ∷ []

abbrev noted : List (ℕ × Event)
noted = offered ++ (0, Spend 2 Note) ∷ []

-- rolled with an answer and a note due
abbrev pub roll_asked : List (ℕ × Event)
roll_asked = taken ++ roll_client ∷ (2, Spend 1 (Offer 1 0)) ∷ (0, Spend 2 Note) ∷ from_server 1 (rdispatch 2) ∷ (0, Spend 3 Settle) ∷ []

roll_asked_sent : sent_all (run small roll_asked).connections ≡ (rdispatch 5 ∷ []) ∷ (tdispatch 2 ∷ []) ∷ []
unfolding message_of after_text after_each after_pairs after_all tdispatch_at rdispatch_at tdiscarded_at tlease_at init_at
roll_asked_sent = refl

roll_asked_hands : held_all (run small roll_asked).hands ≡ []
unfolding message_of after_text after_each after_pairs after_all tdispatch_at rdispatch_at tdiscarded_at tlease_at init_at
roll_asked_hands = refl

roll_asked_refused : refusals small roll_asked ≡ []
unfolding message_of after_text after_each after_pairs after_all tdispatch_at rdispatch_at tdiscarded_at tlease_at init_at
roll_asked_refused = refl

roll_asked_records : records_all (run small roll_asked).connections ≡
    (of n1 Passed 5 ∷ of n1 (Noted false) 5 ∷ lone (Rolled 1) ∷ of n1 Took 5 ∷ [])
    ∷ (of n1 (Settled (negsuc 1)) 2 ∷ of n1 Offered 2 ∷ []) ∷ []
unfolding message_of after_text after_each after_pairs after_all tdispatch_at rdispatch_at tdiscarded_at tlease_at init_at
roll_asked_records = refl

roll_asked_joined : all_joined small.limits (run small roll_asked).connections ≡ true
unfolding message_of after_text after_each after_pairs after_all tdispatch_at rdispatch_at tdiscarded_at tlease_at init_at
roll_asked_joined = refl

-- rolled at both ends with an answer due
abbrev pub roll_noted : List (ℕ × Event)
roll_noted = noted ++ roll_both ++ from_server 1 (rdispatch 2) ∷ (0, Spend 3 Settle) ∷ []

roll_noted_sent : sent_all (run small roll_noted).connections ≡ (rdispatch 5 ∷ []) ∷ (tdispatch 2 ∷ []) ∷ []
unfolding message_of after_text after_each after_pairs after_all tdispatch_at rdispatch_at tdiscarded_at tlease_at init_at
roll_noted_sent = refl

roll_noted_hands : held_all (run small roll_noted).hands ≡ []
unfolding message_of after_text after_each after_pairs after_all tdispatch_at rdispatch_at tdiscarded_at tlease_at init_at
roll_noted_hands = refl

roll_noted_refused : refusals small roll_noted ≡ []
unfolding message_of after_text after_each after_pairs after_all tdispatch_at rdispatch_at tdiscarded_at tlease_at init_at
roll_noted_refused = refl

roll_noted_joined : all_joined small.limits (run small roll_noted).connections ≡ true
unfolding message_of after_text after_each after_pairs after_all tdispatch_at rdispatch_at tdiscarded_at tlease_at init_at
roll_noted_joined = refl

-- a dispatch that was discarded before its note is rolled: the recall is given at the note, with the reason of the Tdiscarded
abbrev until_note : List (ℕ × Event)
until_note = offered ++ from_client 1 (discarding 5) ∷ roll_both ++ (0, Spend 2 Note) ∷ []

roll_discarded_gives : held_all (run small until_note).hands ≡ (3, RecallOf n1 1 2 (120 ∷ [])) ∷ []
unfolding message_of after_text after_each after_pairs after_all tdispatch_at rdispatch_at tdiscarded_at tlease_at init_at
roll_discarded_gives = refl

abbrev pub roll_discarded : List (ℕ × Event)
roll_discarded = until_note ++ (0, Spend 3 (Recall 0)) ∷ []

roll_discarded_sent : sent_all (run small roll_discarded).connections ≡ (rdiscarded_on 5 ∷ []) ∷ (tdispatch 2 ∷ tdiscarded_for 2 (120 ∷ []) ∷ []) ∷ []
unfolding message_of after_text after_each after_pairs after_all tdispatch_at rdispatch_at tdiscarded_at tlease_at init_at
roll_discarded_sent = refl

roll_discarded_hands : held_all (run small roll_discarded).hands ≡ []
unfolding message_of after_text after_each after_pairs after_all tdispatch_at rdispatch_at tdiscarded_at tlease_at init_at
roll_discarded_hands = refl

roll_discarded_refused : refusals small roll_discarded ≡ []
unfolding message_of after_text after_each after_pairs after_all tdispatch_at rdispatch_at tdiscarded_at tlease_at init_at
roll_discarded_refused = refl

roll_discarded_records : records_all (run small roll_discarded).connections ≡
    (of n1 (Noted true) 5 ∷ lone (Rolled 1) ∷ of n1 (Discarded false) 5 ∷ of n1 Took 5 ∷ [])
    ∷ (of n1 Discarding 2 ∷ lone (Rolled 1) ∷ of n1 Offered 2 ∷ []) ∷ []
unfolding message_of after_text after_each after_pairs after_all tdispatch_at rdispatch_at tdiscarded_at tlease_at init_at
roll_discarded_records = refl

roll_discarded_joined : all_joined small.limits (run small roll_discarded).connections ≡ true
unfolding message_of after_text after_each after_pairs after_all tdispatch_at rdispatch_at tdiscarded_at tlease_at init_at
roll_discarded_joined = refl

-- rolled behind its recall: the reply settles, and is late
abbrev pub roll_recalled : List (ℕ × Event)
roll_recalled = noted ++ from_client 1 (discarding 5) ∷ (0, Spend 3 (Recall 0)) ∷ roll_both ++ from_server 1 (rdispatch 2) ∷ (0, Spend 4 Settle) ∷ []

roll_recalled_sent : sent_all (run small roll_recalled).connections ≡ (rdiscarded_on 5 ∷ []) ∷ (tdispatch 2 ∷ tdiscarded_for 2 (120 ∷ []) ∷ []) ∷ []
unfolding message_of after_text after_each after_pairs after_all tdispatch_at rdispatch_at tdiscarded_at tlease_at init_at
roll_recalled_sent = refl

roll_recalled_hands : held_all (run small roll_recalled).hands ≡ []
unfolding message_of after_text after_each after_pairs after_all tdispatch_at rdispatch_at tdiscarded_at tlease_at init_at
roll_recalled_hands = refl

roll_recalled_refused : refusals small roll_recalled ≡ []
unfolding message_of after_text after_each after_pairs after_all tdispatch_at rdispatch_at tdiscarded_at tlease_at init_at
roll_recalled_refused = refl

roll_recalled_records : records_all (run small roll_recalled).connections ≡
    (of n1 (Late false) 5 ∷ lone (Rolled 1) ∷ of n1 (Discarded true) 5 ∷ of n1 (Noted false) 5 ∷ of n1 Took 5 ∷ [])
    ∷ (of n1 (Settled (negsuc 1)) 2 ∷ lone (Rolled 1) ∷ of n1 Discarding 2 ∷ of n1 Offered 2 ∷ []) ∷ []
unfolding message_of after_text after_each after_pairs after_all tdispatch_at rdispatch_at tdiscarded_at tlease_at init_at
roll_recalled_records = refl

roll_recalled_joined : all_joined small.limits (run small roll_recalled).connections ≡ true
unfolding message_of after_text after_each after_pairs after_all tdispatch_at rdispatch_at tdiscarded_at tlease_at init_at
roll_recalled_joined = refl

-- rolled with its note alone due
abbrev pub roll_early : List (ℕ × Event)
roll_early = offered ++ from_server 1 (rdispatch 2) ∷ (0, Spend 3 Settle) ∷ roll_client ∷ (0, Spend 2 Note) ∷ []

roll_early_sent : sent_all (run small roll_early).connections ≡ (rdispatch 5 ∷ []) ∷ (tdispatch 2 ∷ []) ∷ []
unfolding message_of after_text after_each after_pairs after_all tdispatch_at rdispatch_at tdiscarded_at tlease_at init_at
roll_early_sent = refl

roll_early_hands : held_all (run small roll_early).hands ≡ []
unfolding message_of after_text after_each after_pairs after_all tdispatch_at rdispatch_at tdiscarded_at tlease_at init_at
roll_early_hands = refl

roll_early_refused : refusals small roll_early ≡ []
unfolding message_of after_text after_each after_pairs after_all tdispatch_at rdispatch_at tdiscarded_at tlease_at init_at
roll_early_refused = refl

roll_early_records : records_all (run small roll_early).connections ≡
    (of n1 (Noted false) 5 ∷ lone (Rolled 1) ∷ of n1 Passed 5 ∷ of n1 Took 5 ∷ [])
    ∷ (of n1 (Settled (negsuc 1)) 2 ∷ of n1 Offered 2 ∷ []) ∷ []
unfolding message_of after_text after_each after_pairs after_all tdispatch_at rdispatch_at tdiscarded_at tlease_at init_at
roll_early_records = refl

roll_early_joined : all_joined small.limits (run small roll_early).connections ≡ true
unfolding message_of after_text after_each after_pairs after_all tdispatch_at rdispatch_at tdiscarded_at tlease_at init_at
roll_early_joined = refl

-- a place that was noted before the roll: the recall goes there
abbrev pub roll_place : List (ℕ × Event)
roll_place = noted ++ roll_both ++ from_client 1 (discarding 5) ∷ (0, Spend 3 (Recall 0)) ∷ []

roll_place_sent : sent_all (run small roll_place).connections ≡ (rdiscarded_on 5 ∷ []) ∷ (tdispatch 2 ∷ tdiscarded_for 2 (120 ∷ []) ∷ []) ∷ []
unfolding message_of after_text after_each after_pairs after_all tdispatch_at rdispatch_at tdiscarded_at tlease_at init_at
roll_place_sent = refl

roll_place_hands : held_all (run small roll_place).hands ≡ []
unfolding message_of after_text after_each after_pairs after_all tdispatch_at rdispatch_at tdiscarded_at tlease_at init_at
roll_place_hands = refl

roll_place_refused : refusals small roll_place ≡ []
unfolding message_of after_text after_each after_pairs after_all tdispatch_at rdispatch_at tdiscarded_at tlease_at init_at
roll_place_refused = refl

roll_place_joined : all_joined small.limits (run small roll_place).connections ≡ true
unfolding message_of after_text after_each after_pairs after_all tdispatch_at rdispatch_at tdiscarded_at tlease_at init_at
roll_place_joined = refl

-- a server that is lost behind the roll: its loss is told
abbrev pub roll_lost : List (ℕ × Event)
roll_lost = noted ++ roll_both ++ (0, On (Server 1) (Lose 0)) ∷ (0, On (Server 1) LoseNext) ∷ (0, Spend 3 Fail) ∷ []

roll_lost_sent : sent_all (run small roll_lost).connections ≡ (rerr_on 5 (codes "upstream lost") ∷ []) ∷ (tdispatch 2 ∷ []) ∷ []
unfolding message_of after_text after_each after_pairs after_all tdispatch_at rdispatch_at tdiscarded_at tlease_at init_at
roll_lost_sent = refl

roll_lost_hands : held_all (run small roll_lost).hands ≡ []
unfolding message_of after_text after_each after_pairs after_all tdispatch_at rdispatch_at tdiscarded_at tlease_at init_at
roll_lost_hands = refl

roll_lost_refused : refusals small roll_lost ≡ []
unfolding message_of after_text after_each after_pairs after_all tdispatch_at rdispatch_at tdiscarded_at tlease_at init_at
roll_lost_refused = refl

roll_lost_joined : all_joined small.limits (run small roll_lost).connections ≡ true
unfolding message_of after_text after_each after_pairs after_all tdispatch_at rdispatch_at tdiscarded_at tlease_at init_at
roll_lost_joined = refl

-- a client that is lost behind the roll: its recall goes to the place that was noted before
abbrev pub roll_left : List (ℕ × Event)
roll_left = noted ++ roll_both ++ (0, On (Client 1) (Lose 0)) ∷ (0, On (Client 1) LoseNext) ∷ (0, Spend 3 (Recall 0)) ∷ []

roll_left_sent : sent_all (run small roll_left).connections ≡ [] ∷ (tdispatch 2 ∷ tdiscarded_for 2 (codes "client gone") ∷ []) ∷ []
unfolding message_of after_text after_each after_pairs after_all tdispatch_at rdispatch_at tdiscarded_at tlease_at init_at
roll_left_sent = refl

roll_left_hands : held_all (run small roll_left).hands ≡ []
unfolding message_of after_text after_each after_pairs after_all tdispatch_at rdispatch_at tdiscarded_at tlease_at init_at
roll_left_hands = refl

roll_left_refused : refusals small roll_left ≡ []
unfolding message_of after_text after_each after_pairs after_all tdispatch_at rdispatch_at tdiscarded_at tlease_at init_at
roll_left_refused = refl

roll_left_joined : all_joined small.limits (run small roll_left).connections ≡ true
unfolding message_of after_text after_each after_pairs after_all tdispatch_at rdispatch_at tdiscarded_at tlease_at init_at
roll_left_joined = refl

-- the copy is kept: a nack behind the roll gives the dispatch again
abbrev until_nacked : List (ℕ × Event)
until_nacked =
    (0, OpenClient) ∷ (0, OpenServer Plain) ∷ (0, OpenServer Plain) ∷ from_client 1 (tdispatch 5) ∷ (2, Spend 1 (Offer 1 0)) ∷ (0, Spend 2 Note)
    ∷ roll_server ∷ from_server 1 (nack_on 2) ∷ []

roll_copy_settled : held_all (run small_again until_nacked).hands ≡ (3, SettledBy n1 (nack_on 2) (Some (tdispatch 5))) ∷ []
unfolding message_of after_text after_each after_pairs after_all tdispatch_at rdispatch_at tdiscarded_at tlease_at init_at
roll_copy_settled = refl

abbrev until_copy : List (ℕ × Event)
until_copy = until_nacked ++ (0, Spend 3 Settle) ∷ []

roll_copy_again : held_all (run small_again until_copy).hands ≡ (4, TicketOf n1 (tdispatch 5) 0) ∷ []
unfolding message_of after_text after_each after_pairs after_all tdispatch_at rdispatch_at tdiscarded_at tlease_at init_at
roll_copy_again = refl

abbrev pub roll_copy : List (ℕ × Event)
roll_copy = until_copy ++ (2, Spend 4 (Offer 2 0)) ∷ (0, Spend 5 Note) ∷ from_server 2 (rdispatch 2) ∷ (0, Spend 6 Settle) ∷ []

roll_copy_sent : sent_all (run small_again roll_copy).connections ≡ (rdispatch 5 ∷ []) ∷ (tdispatch 2 ∷ []) ∷ (tdispatch 2 ∷ []) ∷ []
unfolding message_of after_text after_each after_pairs after_all tdispatch_at rdispatch_at tdiscarded_at tlease_at init_at
roll_copy_sent = refl

roll_copy_hands : held_all (run small_again roll_copy).hands ≡ []
unfolding message_of after_text after_each after_pairs after_all tdispatch_at rdispatch_at tdiscarded_at tlease_at init_at
roll_copy_hands = refl

roll_copy_refused : refusals small_again roll_copy ≡ []
unfolding message_of after_text after_each after_pairs after_all tdispatch_at rdispatch_at tdiscarded_at tlease_at init_at
roll_copy_refused = refl

roll_copy_records : records_all (run small_again roll_copy).connections ≡
    (of n1 Passed 5 ∷ of n1 (Noted false) 5 ∷ of n1 Retried 5 ∷ of n1 (Noted false) 5 ∷ of n1 Took 5 ∷ [])
    ∷ (of n1 SettledNack 2 ∷ lone (Rolled 1) ∷ of n1 Offered 2 ∷ []) ∷ (of n1 (Settled (negsuc 1)) 2 ∷ of n1 Offered 2 ∷ []) ∷ []
unfolding message_of after_text after_each after_pairs after_all tdispatch_at rdispatch_at tdiscarded_at tlease_at init_at
roll_copy_records = refl

roll_copy_joined : all_joined small_again.limits (run small_again roll_copy).connections ≡ true
unfolding message_of after_text after_each after_pairs after_all tdispatch_at rdispatch_at tdiscarded_at tlease_at init_at
roll_copy_joined = refl

-- a try that was used stays so: behind the roll the second nack is passed on
abbrev pub roll_tries : List (ℕ × Event)
roll_tries = until_copy ++ roll_client ∷ (2, Spend 4 (Offer 2 0)) ∷ (0, Spend 5 Note) ∷ from_server 2 (nack_on 2) ∷ (0, Spend 6 Settle) ∷ []

roll_tries_sent : sent_all (run small_again roll_tries).connections ≡ (nack_on 5 ∷ []) ∷ (tdispatch 2 ∷ []) ∷ (tdispatch 2 ∷ []) ∷ []
unfolding message_of after_text after_each after_pairs after_all tdispatch_at rdispatch_at tdiscarded_at tlease_at init_at
roll_tries_sent = refl

roll_tries_hands : held_all (run small_again roll_tries).hands ≡ []
unfolding message_of after_text after_each after_pairs after_all tdispatch_at rdispatch_at tdiscarded_at tlease_at init_at
roll_tries_hands = refl

roll_tries_refused : refusals small_again roll_tries ≡ []
unfolding message_of after_text after_each after_pairs after_all tdispatch_at rdispatch_at tdiscarded_at tlease_at init_at
roll_tries_refused = refl

roll_tries_joined : all_joined small_again.limits (run small_again roll_tries).connections ≡ true
unfolding message_of after_text after_each after_pairs after_all tdispatch_at rdispatch_at tdiscarded_at tlease_at init_at
roll_tries_joined = refl

-- the lease is kept: an offer just before its lapse is taken, and one at it is refused
abbrev pub roll_lease : List (ℕ × Event)
roll_lease =
    (0, OpenClient) ∷ (0, OpenServer Plain) ∷ (0, lease 1000) ∷ roll_server ∷ (0, On (Client 1) (Frame (tdispatch 5) 10999))
    ∷ (2, Spend 1 (Offer 1 10999)) ∷ (0, On (Client 1) (Frame (tdispatch 6) 11000)) ∷ (3, Spend 3 (Offer 1 11000)) ∷ []

roll_lease_sent : sent_all (run small roll_lease).connections ≡ [] ∷ (tdispatch 2 ∷ []) ∷ []
unfolding message_of after_text after_each after_pairs after_all tdispatch_at rdispatch_at tdiscarded_at tlease_at init_at
roll_lease_sent = refl

roll_lease_hands : held_all (run small roll_lease).hands ≡ (2, PlacedAt n1 1 2) ∷ (3, TicketOf n2 (tdispatch 6) 0) ∷ []
unfolding message_of after_text after_each after_pairs after_all tdispatch_at rdispatch_at tdiscarded_at tlease_at init_at
roll_lease_hands = refl

roll_lease_refused : refusals small roll_lease ≡ OfSession IsLapsed ∷ []
unfolding message_of after_text after_each after_pairs after_all tdispatch_at rdispatch_at tdiscarded_at tlease_at init_at
roll_lease_refused = refl

abbrev at : ℕ → Record → Record
at now r = record r { reading = now }

roll_lease_records : records_all (run small roll_lease).connections ≡
    (at 11000 (of n2 Took 6) ∷ at 10999 (of n1 Took 5) ∷ [])
    ∷ (at 10999 (of n1 Offered 2) ∷ at 1000 (lone (Rolled 1)) ∷ at 1000 (lone (Leased 10000)) ∷ []) ∷ []
unfolding message_of after_text after_each after_pairs after_all tdispatch_at rdispatch_at tdiscarded_at tlease_at init_at
roll_lease_records = refl

roll_lease_joined : all_joined small.limits (run small roll_lease).connections ≡ true
unfolding message_of after_text after_each after_pairs after_all tdispatch_at rdispatch_at tdiscarded_at tlease_at init_at
roll_lease_joined = refl

-- a ping that is out stays so, until its Rping
abbrev pub roll_ping : List (ℕ × Event)
roll_ping =
    (0, OpenServer Plain) ∷ (0, On (Server 1) (Ping 0)) ∷ roll_server ∷ (0, On (Server 1) (Ping 0)) ∷ from_server 1 (rping_on 1)
    ∷ (0, On (Server 1) (Ping 0)) ∷ []

roll_ping_sent : sent_all (run small roll_ping).connections ≡ (tping_on 1 ∷ tping_on 1 ∷ []) ∷ []
unfolding message_of after_text after_each after_pairs after_all tdispatch_at rdispatch_at tdiscarded_at tlease_at init_at
roll_ping_sent = refl

roll_ping_refused : refusals small roll_ping ≡ OfSession Outstanding ∷ []
unfolding message_of after_text after_each after_pairs after_all tdispatch_at rdispatch_at tdiscarded_at tlease_at init_at
roll_ping_refused = refl

roll_ping_joined : all_joined small.limits (run small roll_ping).connections ≡ true
unfolding message_of after_text after_each after_pairs after_all tdispatch_at rdispatch_at tdiscarded_at tlease_at init_at
roll_ping_joined = refl

-- frames that are queued are taken out behind the roll, once, in their order, and before those that are sent later
abbrev pub roll_queued : List (ℕ × Event)
roll_queued = offered ++ from_client 1 (tping_on 1) ∷ from_client 1 (tping_on 2) ∷ roll_both ++ from_client 1 (tping_on 3) ∷ []

abbrev take_both : List (ℕ × Event)
take_both = (0, TakeOutOf (Client 1)) ∷ (0, TakeOutOf (Server 1)) ∷ []

roll_queued_first : next_of (run small roll_queued).connections ≡ Some (rping_on 1) ∷ Some (tdispatch 2) ∷ []
unfolding message_of after_text after_each after_pairs after_all tdispatch_at rdispatch_at tdiscarded_at tlease_at init_at
roll_queued_first = refl

roll_queued_second : next_of (run small (roll_queued ++ take_both)).connections ≡ Some (rping_on 2) ∷ None ∷ []
unfolding message_of after_text after_each after_pairs after_all tdispatch_at rdispatch_at tdiscarded_at tlease_at init_at
roll_queued_second = refl

roll_queued_third : next_of (run small (roll_queued ++ take_both ++ take_both)).connections ≡ Some (rping_on 3) ∷ None ∷ []
unfolding message_of after_text after_each after_pairs after_all tdispatch_at rdispatch_at tdiscarded_at tlease_at init_at
roll_queued_third = refl

roll_queued_fourth : next_of (run small (roll_queued ++ take_both ++ take_both ++ take_both)).connections ≡ None ∷ None ∷ []
unfolding message_of after_text after_each after_pairs after_all tdispatch_at rdispatch_at tdiscarded_at tlease_at init_at
roll_queued_fourth = refl

roll_queued_joined : all_joined small.limits (run small roll_queued).connections ≡ true
unfolding message_of after_text after_each after_pairs after_all tdispatch_at rdispatch_at tdiscarded_at tlease_at init_at
roll_queued_joined = refl

abbrev pinged : ℕ × Event
pinged = from_client 1 (tping_on 1)

-- a full queue is full behind the roll
abbrev pub roll_busy : List (ℕ × Event)
roll_busy = (0, OpenClient) ∷ pinged ∷ pinged ∷ pinged ∷ pinged ∷ pinged ∷ roll_client ∷ pinged ∷ []

roll_busy_refused : refusals (with_limits 1 5 16) roll_busy ≡ OfSession IsBusy ∷ []
unfolding message_of after_text after_each after_pairs after_all tdispatch_at rdispatch_at tdiscarded_at tlease_at init_at
roll_busy_refused = refl

-- initiation goes on
abbrev pub roll_probing : List (ℕ × Event)
roll_probing =
    (0, OpenServer Probe) ∷ roll_server ∷ from_server 1 probe ∷ roll_server ∷ from_server 1 (frame_of (negsuc 67) 1 (0 ∷ 1 ∷ [])) ∷ roll_server
    ∷ (0, On (Server 1) (Ping 0)) ∷ []

roll_probing_sent : sent_all (run small roll_probing).connections ≡ (probe ∷ tinit_on 1 ∷ tping_on 1 ∷ []) ∷ []
unfolding message_of after_text after_each after_pairs after_all tdispatch_at rdispatch_at tdiscarded_at tlease_at init_at
roll_probing_sent = refl

roll_probing_refused : refusals small roll_probing ≡ []
unfolding message_of after_text after_each after_pairs after_all tdispatch_at rdispatch_at tdiscarded_at tlease_at init_at
roll_probing_refused = refl

roll_probing_joined : all_joined small.limits (run small roll_probing).connections ≡ true
unfolding message_of after_text after_each after_pairs after_all tdispatch_at rdispatch_at tdiscarded_at tlease_at init_at
roll_probing_joined = refl

-- the draining of a client goes on
abbrev pub roll_draining : List (ℕ × Event)
roll_draining =
    (0, OpenClient) ∷ (0, On (Client 1) Drain) ∷ roll_client ∷ from_client 1 (rdrain_on 1) ∷ roll_client ∷ from_client 1 (tdispatch 6) ∷ []

roll_draining_sent : sent_all (run small roll_draining).connections ≡ (tdrain_on 1 ∷ nack_on 6 ∷ []) ∷ []
unfolding message_of after_text after_each after_pairs after_all tdispatch_at rdispatch_at tdiscarded_at tlease_at init_at
roll_draining_sent = refl

roll_draining_hands : held_all (run small roll_draining).hands ≡ []
unfolding message_of after_text after_each after_pairs after_all tdispatch_at rdispatch_at tdiscarded_at tlease_at init_at
roll_draining_hands = refl

roll_draining_refused : refusals small roll_draining ≡ []
unfolding message_of after_text after_each after_pairs after_all tdispatch_at rdispatch_at tdiscarded_at tlease_at init_at
roll_draining_refused = refl

roll_draining_joined : all_joined small.limits (run small roll_draining).connections ≡ true
unfolding message_of after_text after_each after_pairs after_all tdispatch_at rdispatch_at tdiscarded_at tlease_at init_at
roll_draining_joined = refl

-- a server that has drained takes no dispatch behind the roll; what it holds is answered
abbrev pub roll_drained : List (ℕ × Event)
roll_drained =
    noted ++ from_server 1 (tdrain_on 1) ∷ roll_server ∷ from_client 1 (tdispatch 6) ∷ (3, Spend 3 (Offer 1 0)) ∷ from_server 1 (rdispatch 2)
    ∷ (0, Spend 4 Settle) ∷ []

roll_drained_sent : sent_all (run small roll_drained).connections ≡ (rdispatch 5 ∷ []) ∷ (tdispatch 2 ∷ rdrain_on 1 ∷ []) ∷ []
unfolding message_of after_text after_each after_pairs after_all tdispatch_at rdispatch_at tdiscarded_at tlease_at init_at
roll_drained_sent = refl

roll_drained_hands : held_all (run small roll_drained).hands ≡ (3, TicketOf n2 (tdispatch 6) 0) ∷ []
unfolding message_of after_text after_each after_pairs after_all tdispatch_at rdispatch_at tdiscarded_at tlease_at init_at
roll_drained_hands = refl

roll_drained_refused : refusals small roll_drained ≡ OfSession IsDrained ∷ []
unfolding message_of after_text after_each after_pairs after_all tdispatch_at rdispatch_at tdiscarded_at tlease_at init_at
roll_drained_refused = refl

roll_drained_joined : all_joined small.limits (run small roll_drained).connections ≡ true
unfolding message_of after_text after_each after_pairs after_all tdispatch_at rdispatch_at tdiscarded_at tlease_at init_at
roll_drained_joined = refl

-- a session that has ended is not rolled
abbrev pub roll_closed : List (ℕ × Event)
roll_closed = taken ++ (0, On (Client 1) (Lose 0)) ∷ (0, On (Server 1) (Lose 0)) ∷ roll_both

roll_closed_refused : refusals small roll_closed ≡ OfSession IsClosed ∷ OfSession IsClosed ∷ []
unfolding message_of after_text after_each after_pairs after_all tdispatch_at rdispatch_at tdiscarded_at tlease_at init_at
roll_closed_refused = refl

-- a client with two dispatches is rolled, with three it finds no room, and once one of them is answered it does
abbrev pub roll_held : List (ℕ × Event)
roll_held = taken ++ from_client 1 (tdispatch 6) ∷ roll_client ∷ from_client 1 (tdispatch 7) ∷ roll_client ∷ (0, Spend 3 Nack) ∷ roll_client ∷ []

roll_held_refused : refusals small roll_held ≡ OfSession NoRoom ∷ []
unfolding message_of after_text after_each after_pairs after_all tdispatch_at rdispatch_at tdiscarded_at tlease_at init_at
roll_held_refused = refl

roll_held_newest : newest (records_all (run small roll_held).connections) ≡ lone (Rolled 2) ∷ []
unfolding message_of after_text after_each after_pairs after_all tdispatch_at rdispatch_at tdiscarded_at tlease_at init_at
roll_held_newest = refl

roll_held_joined : all_joined small.limits (run small roll_held).connections ≡ true
unfolding message_of after_text after_each after_pairs after_all tdispatch_at rdispatch_at tdiscarded_at tlease_at init_at
roll_held_joined = refl

-- a server with three dispatches finds no room; once one of them is recalled it is rolled
abbrev pub roll_load : List (ℕ × Event)
roll_load =
    taken ++ from_client 1 (tdispatch 6) ∷ from_client 1 (tdispatch 7) ∷ (2, Spend 1 (Offer 1 0)) ∷ (3, Spend 2 (Offer 1 0))
    ∷ (4, Spend 3 (Offer 1 0)) ∷ roll_server ∷ (0, Spend 4 Note) ∷ from_client 1 (discarding 5) ∷ (0, Spend 7 (Recall 0)) ∷ roll_server ∷ []

roll_load_refused : refusals small roll_load ≡ OfSession NoRoom ∷ []
unfolding message_of after_text after_each after_pairs after_all tdispatch_at rdispatch_at tdiscarded_at tlease_at init_at
roll_load_refused = refl

roll_load_newest : newest (records_all (run small roll_load).connections) ≡ of n1 (Discarded true) 5 ∷ lone (Rolled 1) ∷ []
unfolding message_of after_text after_each after_pairs after_all tdispatch_at rdispatch_at tdiscarded_at tlease_at init_at
roll_load_newest = refl

roll_load_joined : all_joined small.limits (run small roll_load).connections ≡ true
unfolding message_of after_text after_each after_pairs after_all tdispatch_at rdispatch_at tdiscarded_at tlease_at init_at
roll_load_joined = refl

-- a roll right behind a roll
abbrev pub roll_twice : List (ℕ × Event)
roll_twice = taken ++ roll_both ++ roll_both

roll_twice_refused : refusals small roll_twice ≡ []
unfolding message_of after_text after_each after_pairs after_all tdispatch_at rdispatch_at tdiscarded_at tlease_at init_at
roll_twice_refused = refl

roll_twice_records : records_all (run small roll_twice).connections ≡ (lone (Rolled 2) ∷ lone (Rolled 1) ∷ of n1 Took 5 ∷ []) ∷ (lone (Rolled 2) ∷ lone (Rolled 1) ∷ []) ∷ []
unfolding message_of after_text after_each after_pairs after_all tdispatch_at rdispatch_at tdiscarded_at tlease_at init_at
roll_twice_records = refl

roll_twice_joined : all_joined small.limits (run small roll_twice).connections ≡ true
unfolding message_of after_text after_each after_pairs after_all tdispatch_at rdispatch_at tdiscarded_at tlease_at init_at
roll_twice_joined = refl

-- the numbers of rolls and seals are one sequence, and that of the names goes on
abbrev pub roll_sealed : List (ℕ × Event)
roll_sealed =
    (0, OpenClient) ∷ from_client 1 (tdispatch 5) ∷ roll_client ∷ (0, Spend 1 Nack) ∷ (0, TakeOutOf (Client 1)) ∷ client_pings 9 ++ seal_client
    ∷ roll_client ∷ from_client 1 (tdispatch 5) ∷ []

roll_sealed_refused : refusals (with_limits 1 5 16) roll_sealed ≡ []
unfolding message_of after_text after_each after_pairs after_all tdispatch_at rdispatch_at tdiscarded_at tlease_at init_at
roll_sealed_refused = refl

roll_sealed_hands : held_all (run (with_limits 1 5 16) roll_sealed).hands ≡ (2, TicketOf n2 (tdispatch 5) 0) ∷ []
unfolding message_of after_text after_each after_pairs after_all tdispatch_at rdispatch_at tdiscarded_at tlease_at init_at
roll_sealed_hands = refl

abbrev newest_three : List (List Record) → List (List Record)
newest_three ((x ∷ y ∷ z ∷ old) ∷ all) = (x ∷ y ∷ z ∷ []) ∷ newest_three all
newest_three _ = []

roll_sealed_newest : newest_three (records_all (run (with_limits 1 5 16) roll_sealed).connections) ≡
    (of n2 Took 5 ∷ lone (Rolled 3) ∷ lone (Epoch 2 (Down false Running 1)) ∷ []) ∷ []
unfolding message_of after_text after_each after_pairs after_all tdispatch_at rdispatch_at tdiscarded_at tlease_at init_at
roll_sealed_newest = refl

roll_sealed_joined : all_joined (with_limits 1 5 16).limits (run (with_limits 1 5 16) roll_sealed).connections ≡ true
unfolding message_of after_text after_each after_pairs after_all tdispatch_at rdispatch_at tdiscarded_at tlease_at init_at
roll_sealed_joined = refl

-- behind the last number no history begins
abbrev rolled_to : ℕ → List Step
rolled_to number = record { call = RollCall; entry = entry_of [] 0 (Rolled number) 0 None None None } ∷ []

roll_down_last : down (record { limits = small.limits; boot = 1; number = 1 }) (rolled_to (2 ^ 32 - 2)) 0 RollCall ≡ Recorded (entry_of [] 0 (Rolled (2 ^ 32 - 1)) 0 None None None) []
roll_down_last = refl

roll_down_past : down (record { limits = small.limits; boot = 1; number = 1 }) (rolled_to (2 ^ 32 - 1)) 0 RollCall ≡ Refused LastEpoch
roll_down_past = refl

roll_up_last : up (record { limits = small.limits; number = 1; mode = Plain }) (rolled_to (2 ^ 32 - 2)) 0 0 RollCall ≡ Recorded (entry_of [] 0 (Rolled (2 ^ 32 - 1)) 0 None None None) []
roll_up_last = refl

roll_up_past : up (record { limits = small.limits; number = 1; mode = Plain }) (rolled_to (2 ^ 32 - 1)) 0 0 RollCall ≡ Refused LastEpoch
roll_up_past = refl

-- counts: a history that is full, with a dispatch that is held throughout; behind the roll there is room again
abbrev pub roll_room : List (ℕ × Event)
roll_room = noted ++ client_pings 12 ++ roll_client ∷ client_pings 13 ++ from_server 1 (rdispatch 2) ∷ (0, Spend 3 Settle) ∷ []

roll_room_sent : sent_all (run (with_limits 1 5 16) roll_room).connections ≡ (replicate 23 (rping_on 1) ++ rdispatch 5 ∷ []) ∷ (tdispatch 2 ∷ []) ∷ []
unfolding message_of after_text after_each after_pairs after_all tdispatch_at rdispatch_at tdiscarded_at tlease_at init_at
roll_room_sent = refl

roll_room_hands : held_all (run (with_limits 1 5 16) roll_room).hands ≡ []
unfolding message_of after_text after_each after_pairs after_all tdispatch_at rdispatch_at tdiscarded_at tlease_at init_at
roll_room_hands = refl

roll_room_refused : refusals (with_limits 1 5 16) roll_room ≡ OfSession IsSpent ∷ OfSession IsSpent ∷ []
unfolding message_of after_text after_each after_pairs after_all tdispatch_at rdispatch_at tdiscarded_at tlease_at init_at
roll_room_refused = refl

roll_room_joined : all_joined (with_limits 1 5 16).limits (run (with_limits 1 5 16) roll_room).connections ≡ true
unfolding message_of after_text after_each after_pairs after_all tdispatch_at rdispatch_at tdiscarded_at tlease_at init_at
roll_room_joined = refl

-- the same of a server's session
abbrev pub roll_server_room : List (ℕ × Event)
roll_server_room = noted ++ server_pings 13 ++ roll_server ∷ server_pings 13 ++ from_server 1 (rdispatch 2) ∷ (0, Spend 3 Settle) ∷ []

roll_server_room_sent : sent_all (run (with_limits 1 5 16) roll_server_room).connections ≡ (rdispatch 5 ∷ []) ∷ (tdispatch 2 ∷ replicate 24 (rping_on 1)) ∷ []
unfolding message_of after_text after_each after_pairs after_all tdispatch_at rdispatch_at tdiscarded_at tlease_at init_at
roll_server_room_sent = refl

roll_server_room_hands : held_all (run (with_limits 1 5 16) roll_server_room).hands ≡ []
unfolding message_of after_text after_each after_pairs after_all tdispatch_at rdispatch_at tdiscarded_at tlease_at init_at
roll_server_room_hands = refl

roll_server_room_refused : refusals (with_limits 1 5 16) roll_server_room ≡ OfSession IsSpent ∷ OfSession IsSpent ∷ []
unfolding message_of after_text after_each after_pairs after_all tdispatch_at rdispatch_at tdiscarded_at tlease_at init_at
roll_server_room_refused = refl

roll_server_room_joined : all_joined (with_limits 1 5 16).limits (run (with_limits 1 5 16) roll_server_room).connections ≡ true
unfolding message_of after_text after_each after_pairs after_all tdispatch_at rdispatch_at tdiscarded_at tlease_at init_at
roll_server_room_joined = refl

-- histories, the newest record first, in which the last record may or may not stand
rolled_while_held : kept_down 16 0 (lone (Rolled 1) ∷ of n1 Took 5 ∷ []) ≡ true
rolled_while_held = refl

rolled_0 : kept_down 16 0 (lone (Rolled 0) ∷ of n1 Took 5 ∷ []) ≡ false
rolled_0 = refl

rolled_past_the_last : kept_down 16 0 (lone (Rolled (2 ^ 32)) ∷ of n1 Took 5 ∷ []) ≡ false
rolled_past_the_last = refl

rolled_ended : kept_down 16 0 (lone (Rolled 1) ∷ lone Lost ∷ []) ≡ false
rolled_ended = refl

rolled_tagged : kept_down 16 0 (record (lone (Rolled 1)) { tag = 5 } ∷ of n1 Took 5 ∷ []) ≡ false
rolled_tagged = refl

rolled_up : kept_up (lone (Rolled 1) ∷ of n1 Offered 2 ∷ []) ≡ true
rolled_up = refl

rolled_up_ended : kept_up (lone (Rolled 1) ∷ lone Lost ∷ []) ≡ false
rolled_up_ended = refl

took_behind_roll : kept_down 9 0 (of n2 Took 6 ∷ lone (Rolled 1) ∷ of n1 Took 5 ∷ lone Ignored ∷ []) ≡ true
took_behind_roll = refl

took_without_roll : kept_down 9 0 (of n2 Took 6 ∷ of n1 Took 5 ∷ lone Ignored ∷ []) ≡ false
took_without_roll = refl

-- the number is the next
abbrev joined : List Record → Bool
joined rs = is_joined small.limits 1 Plain (Client 1) rs

rolled_next : joined (lone (Rolled 2) ∷ lone (Rolled 1) ∷ []) ≡ true
rolled_next = refl

rolled_same : joined (lone (Rolled 1) ∷ lone (Rolled 1) ∷ []) ≡ false
rolled_same = refl

rolled_over_one : joined (lone (Rolled 3) ∷ lone (Rolled 1) ∷ []) ≡ false
rolled_over_one = refl
