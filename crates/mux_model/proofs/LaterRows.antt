-- Worked examples of dispatches that are sent again, and of epochs, which the checker computes.
use Rattle.std.specs.Prelude.{ℕ, zero, suc, pos, List, [], ◌∷◌, ◌++◌, ◌≡◌, ◌-◌, ◌^◌, ◌&&◌, Bool, true, false, Some, None, refl, length}
use Rattle.mux_frame.specs.Spelling.{MuxFrame}
use Rattle.mux_history.specs.Bounds.{Bounds}
use Rattle.mux_history.specs.declared.name.Name.{Name}
use Rattle.mux_history.specs.declared.record.Record.{Record}
use Rattle.mux_history.specs.declared.kind.RecordKind.{RecordKind}
use Rattle.mux_history.specs.declared.kind.RecordKind.TheVariants.{Took, Noted, Retried, Passed, Offered, SettledNack, Discarding, Clock, Epoch}
use Rattle.mux_history.specs.declared.kind.Standing.TheVariants.{Down, Up}
use Rattle.mux_history.specs.declared.session.SessionId.TheVariants.{Client, Server}
use Rattle.mux_history.specs.declared.session.InitMode.TheVariants.{Plain}
use Rattle.mux_history.specs.declared.session.InitState.TheVariants.{Open}
use Rattle.mux_history.specs.declared.session.DrainState.TheVariants.{Running}
use Rattle.mux_message.specs.Reading.{message_of, after_text, after_each, after_pairs, after_all, tdispatch_at, rdispatch_at, tdiscarded_at, tlease_at, init_at}
use Rattle.mux_message.specs.Made.{frame_of, nack_on}
use Rattle.mux_model.specs.Steps.{TicketOf, SettledBy, records, IsLapsed, IsSpent, NotQuiet, NotFull}
use Rattle.mux_model.specs.World.{Connection}
use Rattle.mux_model.specs.Events.{Event, OpenClient, OpenServer, On, Frame, Seal, run, Spend, TakeOutOf, Offer, Note, Settle, Nack, OfSession}
use Rattle.mux_model.specs.Replay.{is_joined, is_down_history, is_up_history}
use Rattle.mux_model.proofs.Rows.{name, tdispatch, rdispatch, discarding, from_client, from_server, lease, with_tries, with_limits, refusals, sent_all, held_all}

abbrev pub all_joined : Bounds → List Connection → Bool
all_joined limits [] = true
all_joined limits (c ∷ cs) = is_joined limits c.boot c.mode c.session (records c.steps) && all_joined limits cs

abbrev pub records_all : List Connection → List (List Record)
records_all [] = []
records_all (c ∷ cs) = records c.steps ∷ records_all cs

abbrev pub of : Name → RecordKind → ℕ → Record
of n kind t = record { kind = kind; tag = t; name = Some n; reading = 0 }

-- a nacked dispatch is sent to the other server, and its second nack is passed on
abbrev pub row_28 : List (ℕ × Event)
row_28 =
    (0, OpenClient) ∷ (0, OpenServer Plain) ∷ (0, OpenServer Plain) ∷ from_client 1 (tdispatch 5) ∷ (2, Spend 1 (Offer 1 0)) ∷ (0, Spend 2 Note)
    ∷ from_server 1 (nack_on 2) ∷ (0, Spend 3 Settle) ∷ (2, Spend 4 (Offer 2 0)) ∷ (0, Spend 5 Note) ∷ from_server 2 (nack_on 2) ∷ (0, Spend 6 Settle) ∷ []

row_28_sent : sent_all (run (with_tries 8 16 64 1) row_28).connections ≡ (nack_on 5 ∷ []) ∷ (tdispatch 2 ∷ []) ∷ (tdispatch 2 ∷ []) ∷ []
unfolding message_of after_text after_each after_pairs after_all tdispatch_at rdispatch_at tdiscarded_at tlease_at init_at
row_28_sent = refl

row_28_refused : refusals (with_tries 8 16 64 1) row_28 ≡ []
unfolding message_of after_text after_each after_pairs after_all tdispatch_at rdispatch_at tdiscarded_at tlease_at init_at
row_28_refused = refl

row_28_records : records_all (run (with_tries 8 16 64 1) row_28).connections ≡
    (of (name 1 1 1) Passed 5 ∷ of (name 1 1 1) (Noted false) 5 ∷ of (name 1 1 1) Retried 5 ∷ of (name 1 1 1) (Noted false) 5 ∷ of (name 1 1 1) Took 5 ∷ [])
    ∷ (of (name 1 1 1) SettledNack 2 ∷ of (name 1 1 1) Offered 2 ∷ []) ∷ (of (name 1 1 1) SettledNack 2 ∷ of (name 1 1 1) Offered 2 ∷ []) ∷ []
unfolding message_of after_text after_each after_pairs after_all tdispatch_at rdispatch_at tdiscarded_at tlease_at init_at
row_28_records = refl

row_28_joined : all_joined (with_tries 8 16 64 1).limits (run (with_tries 8 16 64 1) row_28).connections ≡ true
unfolding message_of after_text after_each after_pairs after_all tdispatch_at rdispatch_at tdiscarded_at tlease_at init_at
row_28_joined = refl

-- the values on the way: the ticket that comes back is the dispatch as it was taken, with one try less
abbrev until_again : List (ℕ × Event)
until_again =
    (0, OpenClient) ∷ (0, OpenServer Plain) ∷ (0, OpenServer Plain) ∷ from_client 1 (tdispatch 5) ∷ (2, Spend 1 (Offer 1 0)) ∷ (0, Spend 2 Note)
    ∷ from_server 1 (nack_on 2) ∷ []

settled_again : held_all (run (with_tries 8 16 64 1) until_again).hands ≡ (3, SettledBy (name 1 1 1) (nack_on 2) (Some (tdispatch 5))) ∷ []
unfolding message_of after_text after_each after_pairs after_all tdispatch_at rdispatch_at tdiscarded_at tlease_at init_at
settled_again = refl

again : held_all (run (with_tries 8 16 64 1) (until_again ++ (0, Spend 3 Settle) ∷ [])).hands ≡ (4, TicketOf (name 1 1 1) (tdispatch 5) 0) ∷ []
unfolding message_of after_text after_each after_pairs after_all tdispatch_at rdispatch_at tdiscarded_at tlease_at init_at
again = refl

-- the same name on the same session and tag once more
abbrev pub row_same_server : List (ℕ × Event)
row_same_server = until_again ++ (0, Spend 3 Settle) ∷ (2, Spend 4 (Offer 1 0)) ∷ (0, Spend 5 Note) ∷ from_server 1 (rdispatch 2) ∷ (0, Spend 6 Settle) ∷ []

row_same_server_sent : sent_all (run (with_tries 8 16 64 1) row_same_server).connections ≡ (rdispatch 5 ∷ []) ∷ (tdispatch 2 ∷ tdispatch 2 ∷ []) ∷ [] ∷ []
unfolding message_of after_text after_each after_pairs after_all tdispatch_at rdispatch_at tdiscarded_at tlease_at init_at
row_same_server_sent = refl

row_same_server_joined : all_joined (with_tries 8 16 64 1).limits (run (with_tries 8 16 64 1) row_same_server).connections ≡ true
unfolding message_of after_text after_each after_pairs after_all tdispatch_at rdispatch_at tdiscarded_at tlease_at init_at
row_same_server_joined = refl

-- a dispatch that may go again, and that is discarded before its new place is noted, gives its recall at the note
abbrev pub row_discarded_again : List (ℕ × Event)
row_discarded_again = until_again ++ (0, Spend 3 Settle) ∷ from_client 1 (discarding 5) ∷ (2, Spend 4 (Offer 2 0)) ∷ (0, Spend 5 Note) ∷ []

row_discarded_again_hands : length (run (with_tries 8 16 64 1) row_discarded_again).hands ≡ 1
unfolding message_of after_text after_each after_pairs after_all tdispatch_at rdispatch_at tdiscarded_at tlease_at init_at
row_discarded_again_hands = refl

-- a nack that is settled before its note is passed on
abbrev pub row_29 : List (ℕ × Event)
row_29 =
    (0, OpenClient) ∷ (0, OpenServer Plain) ∷ from_client 1 (tdispatch 5) ∷ (2, Spend 1 (Offer 1 0)) ∷ from_server 1 (nack_on 2) ∷ (0, Spend 3 Settle)
    ∷ (0, Spend 2 Note) ∷ []

row_29_sent : sent_all (run (with_tries 8 16 64 1) row_29).connections ≡ (nack_on 5 ∷ []) ∷ (tdispatch 2 ∷ []) ∷ []
unfolding message_of after_text after_each after_pairs after_all tdispatch_at rdispatch_at tdiscarded_at tlease_at init_at
row_29_sent = refl

row_29_hands : held_all (run (with_tries 8 16 64 1) row_29).hands ≡ []
unfolding message_of after_text after_each after_pairs after_all tdispatch_at rdispatch_at tdiscarded_at tlease_at init_at
row_29_hands = refl

-- so many pings of a client, or of a server, each answered and taken out
abbrev pinged : ℕ → (ℕ → MuxFrame → ℕ × Event) → Event → List (ℕ × Event)
pinged zero from out = []
pinged (suc n) from out = from 1 (frame_of (pos 65) 1 []) ∷ (0, out) ∷ pinged n from out

abbrev pub client_pings : ℕ → List (ℕ × Event)
client_pings n = pinged n from_client (TakeOutOf (Client 1))

abbrev pub server_pings : ℕ → List (ℕ × Event)
server_pings n = pinged n from_server (TakeOutOf (Server 1))

abbrev pub seal_client : ℕ × Event
seal_client = (0, On (Client 1) Seal)

abbrev pub seal_server : ℕ × Event
seal_server = (0, On (Server 1) Seal)

-- counts: a quarter is left, an epoch begins, and the counts begin again
abbrev pub row_30 : List (ℕ × Event)
row_30 = (0, OpenClient) ∷ client_pings 10 ++ seal_client ∷ client_pings 1 ++ seal_client ∷ client_pings 14 ++ from_client 1 (frame_of (pos 65) 1 []) ∷ []

row_30_refused : refusals (with_limits 1 5 16) row_30 ≡ OfSession NotFull ∷ OfSession IsSpent ∷ []
unfolding message_of after_text after_each after_pairs after_all tdispatch_at rdispatch_at tdiscarded_at tlease_at init_at
row_30_refused = refl

abbrev sent_counts : List (List MuxFrame) → List ℕ
sent_counts [] = []
sent_counts (fs ∷ all) = length fs ∷ sent_counts all

row_30_sent : sent_counts (sent_all (run (with_limits 1 5 16) row_30).connections) ≡ 25 ∷ []
unfolding message_of after_text after_each after_pairs after_all tdispatch_at rdispatch_at tdiscarded_at tlease_at init_at
row_30_sent = refl

row_30_joined : all_joined (with_limits 1 5 16).limits (run (with_limits 1 5 16) row_30).connections ≡ true
unfolding message_of after_text after_each after_pairs after_all tdispatch_at rdispatch_at tdiscarded_at tlease_at init_at
row_30_joined = refl

-- the sequence goes on
abbrev pub row_31 : List (ℕ × Event)
row_31 =
    (0, OpenClient) ∷ from_client 1 (tdispatch 5) ∷ seal_client ∷ (0, Spend 1 Nack) ∷ (0, TakeOutOf (Client 1)) ∷ client_pings 9 ++ seal_client
    ∷ from_client 1 (tdispatch 5) ∷ []

row_31_refused : refusals (with_limits 1 5 16) row_31 ≡ OfSession NotQuiet ∷ []
unfolding message_of after_text after_each after_pairs after_all tdispatch_at rdispatch_at tdiscarded_at tlease_at init_at
row_31_refused = refl

row_31_hands : held_all (run (with_limits 1 5 16) row_31).hands ≡ (2, TicketOf (name 1 1 2) (tdispatch 5) 0) ∷ []
unfolding message_of after_text after_each after_pairs after_all tdispatch_at rdispatch_at tdiscarded_at tlease_at init_at
row_31_hands = refl

row_31_joined : all_joined (with_limits 1 5 16).limits (run (with_limits 1 5 16) row_31).connections ≡ true
unfolding message_of after_text after_each after_pairs after_all tdispatch_at rdispatch_at tdiscarded_at tlease_at init_at
row_31_joined = refl

-- the lease is kept
abbrev pub row_32 : List (ℕ × Event)
row_32 =
    (0, OpenClient) ∷ (0, OpenServer Plain) ∷ (0, lease 1000) ∷ server_pings 10 ++ seal_server ∷ (0, On (Client 1) (Frame (tdispatch 5) 11000))
    ∷ (2, Spend 1 (Offer 1 11000)) ∷ []

row_32_refused : refusals (with_limits 1 5 16) row_32 ≡ OfSession IsLapsed ∷ []
unfolding message_of after_text after_each after_pairs after_all tdispatch_at rdispatch_at tdiscarded_at tlease_at init_at
row_32_refused = refl

row_32_joined : all_joined (with_limits 1 5 16).limits (run (with_limits 1 5 16) row_32).connections ≡ true
unfolding message_of after_text after_each after_pairs after_all tdispatch_at rdispatch_at tdiscarded_at tlease_at init_at
row_32_joined = refl

abbrev sealed : ℕ → Record
sealed lapse = record {
  kind = Epoch 1 (Up Open false false false true lapse);
  tag = 0;
  name = None;
  reading = 1000;
}

abbrev pub newest : List (List Record) → List Record
newest [] = []
newest ([] ∷ rest) = newest rest
newest ((r ∷ older) ∷ rest) = r ∷ newest rest

row_32_epoch : newest (records_all (run (with_limits 1 5 16) ((0, OpenServer Plain) ∷ (0, lease 1000) ∷ server_pings 10 ++ seal_server ∷ [])).connections) ≡ sealed 11000 ∷ []
unfolding message_of after_text after_each after_pairs after_all tdispatch_at rdispatch_at tdiscarded_at tlease_at init_at
row_32_epoch = refl

-- histories, the newest record first, in which the last record may or may not stand
abbrev pub kept_down : (history retries : ℕ) → List Record → Bool
kept_down h tries rs =
    is_down_history (record { limits = record { max_frame = 32; window = 8; out = 64; history = h; retries = tries }; boot = 1; number = 1 }) rs

abbrev pub kept_up : List Record → Bool
kept_up rs = is_up_history (record { limits = record { max_frame = 32; window = 8; out = 64; history = 16; retries = 1 }; number = 1; mode = Plain }) rs

abbrev pub n1 : Name
n1 = name 1 1 1

abbrev pub lone : RecordKind → Record
lone kind = record { kind = kind; tag = 0; name = None; reading = 0 }

retried_with_tries : kept_down 16 1 (of n1 Retried 5 ∷ of n1 (Noted false) 5 ∷ of n1 Took 5 ∷ []) ≡ true
retried_with_tries = refl

retried_without_tries : kept_down 16 0 (of n1 Retried 5 ∷ of n1 (Noted false) 5 ∷ of n1 Took 5 ∷ []) ≡ false
retried_without_tries = refl

retried_once_only : kept_down 16 1 (of n1 Retried 5 ∷ of n1 (Noted false) 5 ∷ of n1 Retried 5 ∷ of n1 (Noted false) 5 ∷ of n1 Took 5 ∷ []) ≡ false
retried_once_only = refl

retried_before_note : kept_down 16 1 (of n1 Retried 5 ∷ of n1 Took 5 ∷ []) ≡ false
retried_before_note = refl

took_with_room : kept_down 11 3 (of n1 Took 5 ∷ []) ≡ true
took_with_room = refl

took_without_room : kept_down 10 3 (of n1 Took 5 ∷ []) ≡ false
took_without_room = refl

-- the same name on the same tag, and a recall of the second sending alone
offered_again : kept_up (of n1 Discarding 2 ∷ of n1 Offered 2 ∷ of n1 SettledNack 2 ∷ of n1 Discarding 2 ∷ of n1 Offered 2 ∷ []) ≡ true
offered_again = refl

recalled_twice : kept_up (of n1 Discarding 2 ∷ of n1 Discarding 2 ∷ of n1 Offered 2 ∷ []) ≡ false
recalled_twice = refl

-- an Epoch begins a history
abbrev begins : ℕ → Record
begins number = lone (Epoch number (Up Open true false false false 0))

epoch_first : kept_up (begins 1 ∷ []) ≡ true
epoch_first = refl

epoch_0 : kept_up (begins 0 ∷ []) ≡ false
epoch_0 = refl

epoch_behind : kept_up (begins 1 ∷ lone Clock ∷ []) ≡ false
epoch_behind = refl

-- drained in an epoch before
offered_drained : kept_up (of n1 Offered 2 ∷ begins 1 ∷ []) ≡ false
offered_drained = refl

-- a name that was taken in an epoch before isn't taken again
abbrev goes_on : ℕ → Record
goes_on dispatches = lone (Epoch 1 (Down false Running dispatches))

took_next : kept_down 16 0 (of (name 1 1 8) Took 5 ∷ goes_on 7 ∷ []) ≡ true
took_next = refl

took_first : kept_down 16 0 (of n1 Took 5 ∷ goes_on 7 ∷ []) ≡ false
took_first = refl

took_past_the_last : kept_down 16 0 (of (name 1 1 (2 ^ 64 - 1)) Took 5 ∷ goes_on (2 ^ 64 - 2) ∷ []) ≡ false
took_past_the_last = refl

took_the_last : kept_down 16 0 (of (name 1 1 (2 ^ 64 - 2)) Took 5 ∷ goes_on (2 ^ 64 - 3) ∷ []) ≡ true
took_the_last = refl
