-- Worked examples, which the checker computes.
use Rattle.std.specs.Prelude.{ℕ, pos, negsuc, List, [], ◌∷◌, ◌+◌, ◌≡◌, ◌^◌, ◌==◌, if◌then◌else◌, Option, Some, None, Result, Ok, Err, refl, codes}
use Rattle.mux_frame.specs.Spelling.{MuxFrame}
use Rattle.mux_history.specs.declared.name.Name.{Name}
use Rattle.mux_history.specs.Bounds.{Bounds}
use Rattle.mux_history.specs.declared.session.SessionId.TheVariants.{Client, Server}
use Rattle.mux_message.specs.declared.fault.MessageFault.TheVariants.{Fragment, BadBody}
use Rattle.mux_message.specs.Reading.{message_of, after_text, after_each, after_pairs, after_all, tdispatch_at, rdispatch_at, tdiscarded_at, tlease_at, init_at}
use Rattle.mux_model.specs.Entries.{Exchange}
use Rattle.mux_model.specs.declared.pairing.Pair.{Pair}
use Rattle.mux_model.specs.Tags.{pairs_of}
use Rattle.mux_history.specs.declared.session.InitMode.TheVariants.{Probe, Plain}
use Rattle.mux_message.specs.Made.{frame_of, rping_on, rdiscarded_on, nack_on, rerr_on, tdiscarded_for}
use Rattle.mux_model.specs.Steps.{Held, TicketOf, PlacedAt, SettledBy, RecallOf, entries, IsDrained, IsLapsed, IsRetired, AlreadyDraining, IsBusy, IsSpent, IsFull, Outstanding}
use Rattle.mux_model.specs.World.{World, Connection, Hand, start}
use Rattle.mux_model.specs.Events.{Event, OpenClient, OpenServer, On, Frame, Lose, LoseNext, Drain, Clock, Ping, Retire, run, Spend, TakeOutOf, Restart, Offer, Note, Settle, Nack, Unroute, Fail, Recall, EventRefusal, NoSuchHand, WrongHand, OfSession, happens}

abbrev pub limits : Bounds
limits = record { max_frame = 1048576; window = 1024; out = 2048; history = 65536; retries = 0 }

-- the tag that an offer chooses in these examples is written with the event, else 0
abbrev or_same : World → Result World EventRefusal → World
or_same w (Ok after) = after
or_same w (Err why) = w

abbrev with_refusal : Result World EventRefusal → List EventRefusal → List EventRefusal
with_refusal (Ok w) rs = rs
with_refusal (Err why) rs = why ∷ rs

abbrev pub refusals : World → List (ℕ × Event) → List EventRefusal
refusals w [] = []
refusals w (e ∷ es) = with_refusal (happens w e.0 e.1) (refusals (or_same w (happens w e.0 e.1)) es)

-- what each connection sent, in order
abbrev with_sent : Option MuxFrame → List MuxFrame → List MuxFrame
with_sent None fs = fs
with_sent (Some f) fs = f ∷ fs

abbrev sent_by : List Exchange → List MuxFrame → List MuxFrame
sent_by [] fs = fs
sent_by (e ∷ old) fs = sent_by old (with_sent e.sent fs)

abbrev pub sent_all : List Connection → List (List MuxFrame)
sent_all [] = []
sent_all (c ∷ cs) = sent_by (entries c.steps) [] ∷ sent_all cs

abbrev pub held_all : List Hand → List (ℕ × Held)
held_all [] = []
held_all (h ∷ hs) = (h.number, h.held) ∷ held_all hs

-- the value with a number
abbrev pub held_of : ℕ → List Hand → Option Held
held_of k [] = None
held_of k (h ∷ hs) = if h.number == k then Some h.held else held_of k hs

abbrev pub pairs_all : List Connection → List (List Pair)
pairs_all [] = []
pairs_all (c ∷ cs) = pairs_of c.session (entries c.steps) ∷ pairs_all cs

abbrev pub begin : World
begin = start limits 1

abbrev pub tdispatch : ℕ → MuxFrame
tdispatch t = frame_of (pos 2) t (0 ∷ 0 ∷ 0 ∷ 4 ∷ 47 ∷ 115 ∷ 47 ∷ 97 ∷ 0 ∷ 0 ∷ 104 ∷ 105 ∷ [])

abbrev pub rdispatch : ℕ → MuxFrame
rdispatch t = frame_of (negsuc 1) t (0 ∷ 0 ∷ 0 ∷ 121 ∷ 111 ∷ [])

abbrev pub discarding : ℕ → MuxFrame
discarding t = frame_of (pos 66) 0 (0 ∷ 0 ∷ t ∷ 120 ∷ [])

abbrev pub from_client : ℕ → MuxFrame → ℕ × Event
from_client k f = (0, On (Client k) (Frame f 0))

abbrev pub from_server : ℕ → MuxFrame → ℕ × Event
from_server k f = (0, On (Server k) (Frame f 0))

abbrev pub name : ℕ → ℕ → ℕ → Name
name b c s = record { boot = b; client = c; seq = s }

abbrev pair : ℕ → ℕ → Pair
pair d r = record { dispatch = d; reply = r }

-- a ping is answered
abbrev pub row_1 : List (ℕ × Event)
row_1 = (0, OpenClient) ∷ from_client 1 (frame_of (pos 65) 1 []) ∷ []

row_1_sent : sent_all (run begin row_1).connections ≡ (rping_on 1 ∷ []) ∷ []
unfolding message_of after_text after_each after_pairs after_all tdispatch_at rdispatch_at tdiscarded_at tlease_at init_at
row_1_sent = refl

-- type 0 is an unknown R: it is ignored from a client, and its tag doesn't matter
type_0_sent : sent_all (run begin ((0, OpenClient) ∷ from_client 1 (tdispatch 5) ∷ from_client 1 (frame_of (pos 0) 5 []) ∷ from_client 1 (frame_of (pos 0) 3 []) ∷ [])).connections ≡ [] ∷ []
unfolding message_of after_text after_each after_pairs after_all tdispatch_at rdispatch_at tdiscarded_at tlease_at init_at
type_0_sent = refl

-- a dispatch there and back
abbrev pub row_4 : List (ℕ × Event)
row_4 =
    (0, OpenClient) ∷ (0, OpenServer Plain) ∷ from_client 1 (tdispatch 5) ∷ (2, Spend 1 (Offer 1 0)) ∷ (0, Spend 2 Note)
    ∷ from_server 1 (rdispatch 2) ∷ (0, Spend 3 Settle) ∷ []

row_4_sent : sent_all (run begin row_4).connections ≡ (rdispatch 5 ∷ []) ∷ (tdispatch 2 ∷ []) ∷ []
unfolding message_of after_text after_each after_pairs after_all tdispatch_at rdispatch_at tdiscarded_at tlease_at init_at
row_4_sent = refl

row_4_hands : held_all (run begin row_4).hands ≡ []
unfolding message_of after_text after_each after_pairs after_all tdispatch_at rdispatch_at tdiscarded_at tlease_at init_at
row_4_hands = refl

row_4_refused : refusals begin row_4 ≡ []
unfolding message_of after_text after_each after_pairs after_all tdispatch_at rdispatch_at tdiscarded_at tlease_at init_at
row_4_refused = refl

-- a discarded dispatch's reply is late, and the tag is used again
abbrev pub row_7 : List (ℕ × Event)
row_7 =
    (0, OpenClient) ∷ (0, OpenServer Plain) ∷ from_client 1 (tdispatch 5) ∷ (2, Spend 1 (Offer 1 0)) ∷ (0, Spend 2 Note)
    ∷ from_client 1 (discarding 5) ∷ from_client 1 (tdispatch 5) ∷ (3, Spend 4 (Offer 1 0)) ∷ from_server 1 (rdispatch 2)
    ∷ (0, Spend 6 Settle) ∷ from_server 1 (rdispatch 3) ∷ (0, Spend 7 Settle) ∷ []

row_7_sent : sent_all (run begin row_7).connections ≡ (rdiscarded_on 5 ∷ rdispatch 5 ∷ []) ∷ (tdispatch 2 ∷ tdispatch 3 ∷ []) ∷ []
unfolding message_of after_text after_each after_pairs after_all tdispatch_at rdispatch_at tdiscarded_at tlease_at init_at
row_7_sent = refl

row_7_hands : held_all (run begin row_7).hands ≡ (3, RecallOf (name 1 1 1) 1 2 (120 ∷ [])) ∷ (5, PlacedAt (name 1 1 2) 1 3) ∷ []
unfolding message_of after_text after_each after_pairs after_all tdispatch_at rdispatch_at tdiscarded_at tlease_at init_at
row_7_hands = refl

row_7_refused : refusals begin row_7 ≡ []
unfolding message_of after_text after_each after_pairs after_all tdispatch_at rdispatch_at tdiscarded_at tlease_at init_at
row_7_refused = refl

row_7_pairs : pairs_all (run begin row_7).connections ≡ (pair 0 2 ∷ pair 3 5 ∷ []) ∷ (pair 0 2 ∷ pair 1 3 ∷ []) ∷ []
unfolding message_of after_text after_each after_pairs after_all tdispatch_at rdispatch_at tdiscarded_at tlease_at init_at
row_7_pairs = refl

-- a note after the discard gives the recall
abbrev pub row_8a : List (ℕ × Event)
row_8a =
    (0, OpenClient) ∷ (0, OpenServer Plain) ∷ from_client 1 (tdispatch 5) ∷ from_client 1 (discarding 5) ∷ (2, Spend 1 (Offer 1 0))
    ∷ (0, Spend 2 Note) ∷ (0, Spend 3 (Recall 0)) ∷ []

row_8a_sent : sent_all (run begin row_8a).connections ≡ (rdiscarded_on 5 ∷ []) ∷ (tdispatch 2 ∷ tdiscarded_for 2 (120 ∷ []) ∷ []) ∷ []
unfolding message_of after_text after_each after_pairs after_all tdispatch_at rdispatch_at tdiscarded_at tlease_at init_at
row_8a_sent = refl

-- the note after a late reply gives none
abbrev pub row_8b : List (ℕ × Event)
row_8b =
    (0, OpenClient) ∷ (0, OpenServer Plain) ∷ from_client 1 (tdispatch 5) ∷ (2, Spend 1 (Offer 1 0)) ∷ from_client 1 (discarding 5)
    ∷ from_server 1 (rdispatch 2) ∷ (0, Spend 3 Settle) ∷ (0, Spend 2 Note) ∷ []

row_8b_sent : sent_all (run begin row_8b).connections ≡ (rdiscarded_on 5 ∷ []) ∷ (tdispatch 2 ∷ []) ∷ []
unfolding message_of after_text after_each after_pairs after_all tdispatch_at rdispatch_at tdiscarded_at tlease_at init_at
row_8b_sent = refl

row_8b_hands : held_all (run begin row_8b).hands ≡ []
unfolding message_of after_text after_each after_pairs after_all tdispatch_at rdispatch_at tdiscarded_at tlease_at init_at
row_8b_hands = refl

-- a recall of a name that has gone from the tag is stale
abbrev pub row_9 : List (ℕ × Event)
row_9 =
    (0, OpenClient) ∷ (0, OpenClient) ∷ (0, OpenServer Plain) ∷ from_client 1 (tdispatch 5) ∷ (2, Spend 1 (Offer 1 0)) ∷ (0, Spend 2 Note)
    ∷ from_client 1 (discarding 5) ∷ from_server 1 (rdispatch 2) ∷ from_client 2 (tdispatch 5) ∷ (2, Spend 5 (Offer 1 0))
    ∷ (0, Spend 3 (Recall 0)) ∷ (0, Spend 4 Settle) ∷ []

row_9_sent : sent_all (run begin row_9).connections ≡ (rdiscarded_on 5 ∷ []) ∷ [] ∷ (tdispatch 2 ∷ tdispatch 2 ∷ []) ∷ []
unfolding message_of after_text after_each after_pairs after_all tdispatch_at rdispatch_at tdiscarded_at tlease_at init_at
row_9_sent = refl

row_9_hands : held_all (run begin row_9).hands ≡ (6, PlacedAt (name 1 2 1) 1 2) ∷ []
unfolding message_of after_text after_each after_pairs after_all tdispatch_at rdispatch_at tdiscarded_at tlease_at init_at
row_9_hands = refl

row_9_refused : refusals begin row_9 ≡ []
unfolding message_of after_text after_each after_pairs after_all tdispatch_at rdispatch_at tdiscarded_at tlease_at init_at
row_9_refused = refl

-- a lease lapses by the greatest reading
abbrev pub lease : ℕ → Event
lease now = On (Server 1) (Frame (frame_of (pos 67) 0 (0 ∷ 0 ∷ 0 ∷ 0 ∷ 0 ∷ 0 ∷ 0 ∷ 39 ∷ 16 ∷ [])) now)

abbrev pub row_10 : List (ℕ × Event)
row_10 =
    (0, OpenClient) ∷ (0, OpenServer Plain) ∷ (0, lease 1000) ∷ (0, On (Client 1) (Frame (tdispatch 5) 10999))
    ∷ (2, Spend 1 (Offer 1 10999)) ∷ (0, On (Server 1) (Clock 11000)) ∷ (0, On (Client 1) (Frame (tdispatch 6) 11000))
    ∷ (3, Spend 3 (Offer 1 11000)) ∷ (3, Spend 3 (Offer 1 5000)) ∷ (0, lease 5000) ∷ (3, Spend 3 (Offer 1 5000)) ∷ []

row_10_sent : sent_all (run begin row_10).connections ≡ [] ∷ (tdispatch 2 ∷ tdispatch 3 ∷ []) ∷ []
unfolding message_of after_text after_each after_pairs after_all tdispatch_at rdispatch_at tdiscarded_at tlease_at init_at
row_10_sent = refl

row_10_refused : refusals begin row_10 ≡ OfSession IsLapsed ∷ OfSession IsLapsed ∷ []
unfolding message_of after_text after_each after_pairs after_all tdispatch_at rdispatch_at tdiscarded_at tlease_at init_at
row_10_refused = refl

-- a drained session takes no more dispatches, whatever its lease; what is outstanding is answered
abbrev pub row_11 : List (ℕ × Event)
row_11 =
    (0, OpenClient) ∷ (0, OpenServer Plain) ∷ from_client 1 (tdispatch 5) ∷ (2, Spend 1 (Offer 1 0)) ∷ (0, Spend 2 Note)
    ∷ from_server 1 (frame_of (pos 64) 1 []) ∷ from_client 1 (tdispatch 6) ∷ (3, Spend 3 (Offer 1 0)) ∷ (0, lease 0)
    ∷ (3, Spend 3 (Offer 1 0)) ∷ from_server 1 (rdispatch 2) ∷ (0, Spend 4 Settle) ∷ []

row_11_sent : sent_all (run begin row_11).connections ≡ (rdispatch 5 ∷ []) ∷ (tdispatch 2 ∷ frame_of (negsuc 63) 1 [] ∷ []) ∷ []
unfolding message_of after_text after_each after_pairs after_all tdispatch_at rdispatch_at tdiscarded_at tlease_at init_at
row_11_sent = refl

row_11_refused : refusals begin row_11 ≡ OfSession IsDrained ∷ OfSession IsDrained ∷ []
unfolding message_of after_text after_each after_pairs after_all tdispatch_at rdispatch_at tdiscarded_at tlease_at init_at
row_11_refused = refl

-- draining a client
abbrev pub row_12 : List (ℕ × Event)
row_12 =
    (0, OpenClient) ∷ (0, On (Client 1) Drain) ∷ from_client 1 (tdispatch 5) ∷ from_client 1 (frame_of (negsuc 63) 1 [])
    ∷ from_client 1 (tdispatch 6) ∷ (0, On (Client 1) Drain) ∷ []

row_12_sent : sent_all (run begin row_12).connections ≡ (frame_of (pos 64) 1 [] ∷ nack_on 6 ∷ []) ∷ []
unfolding message_of after_text after_each after_pairs after_all tdispatch_at rdispatch_at tdiscarded_at tlease_at init_at
row_12_sent = refl

row_12_refused : refusals begin row_12 ≡ OfSession AlreadyDraining ∷ []
unfolding message_of after_text after_each after_pairs after_all tdispatch_at rdispatch_at tdiscarded_at tlease_at init_at
row_12_refused = refl

-- a lost server's dispatches are failed, the discarded one late
abbrev pub row_13 : List (ℕ × Event)
row_13 =
    (0, OpenClient) ∷ (0, OpenServer Plain) ∷ from_client 1 (tdispatch 5) ∷ from_client 1 (tdispatch 6) ∷ from_client 1 (tdispatch 7)
    ∷ (2, Spend 1 (Offer 1 0)) ∷ (3, Spend 2 (Offer 1 0)) ∷ (4, Spend 3 (Offer 1 0)) ∷ (0, Spend 4 Note) ∷ (0, Spend 5 Note) ∷ (0, Spend 6 Note)
    ∷ from_client 1 (discarding 6) ∷ (0, Spend 7 (Recall 0)) ∷ (0, On (Server 1) (Lose 0))
    ∷ (0, On (Server 1) LoseNext) ∷ (0, On (Server 1) LoseNext) ∷ (0, On (Server 1) LoseNext)
    ∷ (0, Spend 8 Fail) ∷ (0, Spend 9 Fail) ∷ (0, Spend 10 Fail) ∷ (0, On (Server 1) LoseNext) ∷ []

row_13_sent : sent_all (run begin row_13).connections ≡ (rdiscarded_on 6 ∷ rerr_on 5 (codes "upstream lost") ∷ rerr_on 7 (codes "upstream lost") ∷ []) ∷ (tdispatch 2 ∷ tdispatch 3 ∷ tdispatch 4 ∷ tdiscarded_for 3 (120 ∷ []) ∷ []) ∷ []
unfolding message_of after_text after_each after_pairs after_all tdispatch_at rdispatch_at tdiscarded_at tlease_at init_at
row_13_sent = refl

row_13_refused : refusals begin row_13 ≡ []
unfolding message_of after_text after_each after_pairs after_all tdispatch_at rdispatch_at tdiscarded_at tlease_at init_at
row_13_refused = refl

-- a tag in use closes the session, and what was placed is recalled
abbrev pub row_14 : List (ℕ × Event)
row_14 =
    (0, OpenClient) ∷ (0, OpenServer Plain) ∷ from_client 1 (tdispatch 5) ∷ (2, Spend 1 (Offer 1 0)) ∷ (0, Spend 2 Note)
    ∷ from_client 1 (tdispatch 5) ∷ (0, On (Client 1) LoseNext) ∷ (0, Spend 3 (Recall 0)) ∷ []

row_14_sent : sent_all (run begin row_14).connections ≡ [] ∷ (tdispatch 2 ∷ tdiscarded_for 2 (codes "client gone") ∷ []) ∷ []
unfolding message_of after_text after_each after_pairs after_all tdispatch_at rdispatch_at tdiscarded_at tlease_at init_at
row_14_sent = refl

-- numbers begin again at a restart, and names don't
abbrev pub row_18 : List (ℕ × Event)
row_18 =
    (0, OpenClient) ∷ from_client 1 (tdispatch 5) ∷ from_client 1 (tdispatch 6) ∷ (0, Restart) ∷ (0, Spend 1 Nack) ∷ (0, OpenClient)
    ∷ from_client 1 (tdispatch 5) ∷ []

row_18_hands : held_all (run begin row_18).hands ≡ (3, TicketOf (name 2 1 1) (tdispatch 5) 0) ∷ []
unfolding message_of after_text after_each after_pairs after_all tdispatch_at rdispatch_at tdiscarded_at tlease_at init_at
row_18_hands = refl

row_18_refused : refusals begin row_18 ≡ NoSuchHand ∷ []
unfolding message_of after_text after_each after_pairs after_all tdispatch_at rdispatch_at tdiscarded_at tlease_at init_at
row_18_refused = refl

-- what is no message
no_message_1 : message_of (frame_of (pos 2) 5 (0 ∷ 0 ∷ 0 ∷ 4 ∷ 47 ∷ 115 ∷ [])) ≡ Err (BadBody 2)
unfolding message_of after_text after_each after_pairs after_all tdispatch_at rdispatch_at tdiscarded_at tlease_at init_at
no_message_1 = refl

no_message_2 : message_of (frame_of (pos 2) 5 (0 ∷ 0 ∷ 0 ∷ 0 ∷ 0 ∷ 1 ∷ 0 ∷ 0 ∷ [])) ≡ Err (BadBody 8)
unfolding message_of after_text after_each after_pairs after_all tdispatch_at rdispatch_at tdiscarded_at tlease_at init_at
no_message_2 = refl

no_message_3 : message_of (frame_of (pos 68) 1 (0 ∷ 1 ∷ 0 ∷ 0 ∷ 0 ∷ 5 ∷ [])) ≡ Err (BadBody 2)
unfolding message_of after_text after_each after_pairs after_all tdispatch_at rdispatch_at tdiscarded_at tlease_at init_at
no_message_3 = refl

no_message_4 : message_of (frame_of (pos 67) 0 (0 ∷ 0 ∷ 0 ∷ 0 ∷ 0 ∷ 0 ∷ 0 ∷ 39 ∷ [])) ≡ Err (BadBody 1)
unfolding message_of after_text after_each after_pairs after_all tdispatch_at rdispatch_at tdiscarded_at tlease_at init_at
no_message_4 = refl

no_message_5 : message_of (frame_of (pos 67) 0 (0 ∷ 0 ∷ 0 ∷ 0 ∷ 0 ∷ 0 ∷ 0 ∷ 0 ∷ 39 ∷ 16 ∷ [])) ≡ Err (BadBody 9)
unfolding message_of after_text after_each after_pairs after_all tdispatch_at rdispatch_at tdiscarded_at tlease_at init_at
no_message_5 = refl

no_message_6 : message_of (frame_of (pos 65) (2 ^ 23 + 1) []) ≡ Err Fragment
unfolding message_of after_text after_each after_pairs after_all tdispatch_at rdispatch_at tdiscarded_at tlease_at init_at
no_message_6 = refl

-- a fresh client's probe comes back as it was spelled, and a Tinit may follow
abbrev pub row_6 : List (ℕ × Event)
row_6 = (0, OpenClient) ∷ from_client 1 (frame_of (pos 127) 1 (codes "tinit check")) ∷ from_client 1 (frame_of (pos 68) 1 (0 ∷ 1 ∷ [])) ∷ []

row_6_sent : sent_all (run begin row_6).connections ≡ (frame_of (pos 127) 1 (codes "tinit check") ∷ frame_of (negsuc 67) 1 (0 ∷ 1 ∷ []) ∷ []) ∷ []
unfolding message_of after_text after_each after_pairs after_all tdispatch_at rdispatch_at tdiscarded_at tlease_at init_at
row_6_sent = refl

-- the other spelling of a Tdiscarded, and of an Rerr that is passed on
abbrev pub row_15a : List (ℕ × Event)
row_15a =
    (0, OpenClient) ∷ (0, OpenServer Plain) ∷ from_client 1 (tdispatch 5) ∷ from_client 1 (frame_of (negsuc 61) 0 (0 ∷ 0 ∷ 5 ∷ 120 ∷ [])) ∷ (2, Spend 1 (Offer 1 0))
    ∷ (0, Spend 2 Note) ∷ (0, Spend 3 (Recall 0)) ∷ []

row_15a_sent : sent_all (run begin row_15a).connections ≡ sent_all (run begin row_8a).connections
unfolding message_of after_text after_each after_pairs after_all tdispatch_at rdispatch_at tdiscarded_at tlease_at init_at
row_15a_sent = refl

abbrev pub row_15b : List (ℕ × Event)
row_15b =
    (0, OpenClient) ∷ (0, OpenServer Plain) ∷ from_client 1 (tdispatch 5) ∷ (2, Spend 1 (Offer 1 0)) ∷ (0, Spend 2 Note)
    ∷ from_server 1 (frame_of (pos 127) 2 (110 ∷ 111 ∷ [])) ∷ (0, Spend 3 Settle) ∷ []

row_15b_sent : sent_all (run begin row_15b).connections ≡ (frame_of (negsuc 127) 5 (110 ∷ 111 ∷ []) ∷ []) ∷ (tdispatch 2 ∷ []) ∷ []
unfolding message_of after_text after_each after_pairs after_all tdispatch_at rdispatch_at tdiscarded_at tlease_at init_at
row_15b_sent = refl

abbrev pub with_tries : ℕ → ℕ → ℕ → ℕ → World
with_tries w o h r = start (record { max_frame = 65536; window = w; out = o; history = h; retries = r }) 1

abbrev pub with_limits : ℕ → ℕ → ℕ → World
with_limits w o h = with_tries w o h 0

-- a full window; a stray reply is dropped
abbrev pub row_17 : List (ℕ × Event)
row_17 =
    (0, OpenClient) ∷ (0, OpenClient) ∷ (0, OpenServer Plain) ∷ from_client 1 (tdispatch 5) ∷ (2, Spend 1 (Offer 1 0)) ∷ (0, TakeOutOf (Server 1))
    ∷ from_client 2 (tdispatch 5) ∷ (3, Spend 3 (Offer 1 0)) ∷ from_server 1 (frame_of (negsuc 1) 9 (0 ∷ 0 ∷ 0 ∷ [])) ∷ from_server 1 (rdispatch 2) ∷ []

row_17_refused : refusals (with_limits 1 8 64) row_17 ≡ OfSession IsFull ∷ []
unfolding message_of after_text after_each after_pairs after_all tdispatch_at rdispatch_at tdiscarded_at tlease_at init_at
row_17_refused = refl

row_17_hands : held_all (run (with_limits 1 8 64) row_17).hands ≡ (2, PlacedAt (name 1 1 1) 1 2) ∷ (3, TicketOf (name 1 2 1) (tdispatch 5) 0) ∷ (4, SettledBy (name 1 1 1) (rdispatch 2) None) ∷ []
unfolding message_of after_text after_each after_pairs after_all tdispatch_at rdispatch_at tdiscarded_at tlease_at init_at
row_17_hands = refl

-- what the router doesn't do
abbrev pub row_21 : List (ℕ × Event)
row_21 = (0, OpenClient) ∷ from_client 1 (frame_of (pos 1) 3 []) ∷ from_client 1 (frame_of (pos 1) 0 []) ∷ []

row_21_sent : sent_all (run begin row_21).connections ≡ (rerr_on 3 (codes "unsupported") ∷ []) ∷ []
unfolding message_of after_text after_each after_pairs after_all tdispatch_at rdispatch_at tdiscarded_at tlease_at init_at
row_21_sent = refl

-- a Tinit after a name is out of place
abbrev pub row_22 : List (ℕ × Event)
row_22 = (0, OpenClient) ∷ from_client 1 (tdispatch 5) ∷ from_client 1 (frame_of (pos 68) 1 (0 ∷ 1 ∷ [])) ∷ (0, Spend 1 Unroute) ∷ []

row_22_sent : sent_all (run begin row_22).connections ≡ (rerr_on 1 (codes "tinit out of place") ∷ rerr_on 5 (codes "no route") ∷ []) ∷ []
unfolding message_of after_text after_each after_pairs after_all tdispatch_at rdispatch_at tdiscarded_at tlease_at init_at
row_22_sent = refl

-- initiation towards a server, and pings
abbrev pub row_23 : List (ℕ × Event)
row_23 =
    (0, OpenServer Probe) ∷ from_server 1 (rerr_on 1 (codes "tinit check")) ∷ from_server 1 (frame_of (negsuc 67) 1 (0 ∷ 1 ∷ [])) ∷ (0, On (Server 1) (Ping 0))
    ∷ (0, On (Server 1) (Ping 0)) ∷ from_server 1 (rping_on 1) ∷ (0, On (Server 1) (Ping 0)) ∷ []

row_23_sent : sent_all (run begin row_23).connections ≡ (rerr_on 1 (codes "tinit check") ∷ frame_of (pos 68) 1 (0 ∷ 1 ∷ []) ∷ frame_of (pos 65) 1 [] ∷ frame_of (pos 65) 1 [] ∷ []) ∷ []
unfolding message_of after_text after_each after_pairs after_all tdispatch_at rdispatch_at tdiscarded_at tlease_at init_at
row_23_sent = refl

row_23_refused : refusals begin row_23 ≡ OfSession Outstanding ∷ []
unfolding message_of after_text after_each after_pairs after_all tdispatch_at rdispatch_at tdiscarded_at tlease_at init_at
row_23_refused = refl

-- a spent history; the last place is for what needs one
abbrev pub row_24 : List (ℕ × Event)
row_24 =
    (0, OpenClient) ∷ from_client 1 (tdispatch 5) ∷ from_client 1 (tdispatch 6) ∷ from_client 1 (tdispatch 7) ∷ from_client 1 (tdispatch 8) ∷ from_client 1 (frame_of (pos 65) 1 []) ∷ []

row_24_refused : refusals (with_limits 8 16 16) row_24 ≡ OfSession IsSpent ∷ []
unfolding message_of after_text after_each after_pairs after_all tdispatch_at rdispatch_at tdiscarded_at tlease_at init_at
row_24_refused = refl

-- a full queue, and a full book
abbrev pub row_25 : List (ℕ × Event)
row_25 =
    (0, OpenClient) ∷ from_client 1 (frame_of (pos 65) 1 []) ∷ from_client 1 (frame_of (pos 65) 1 []) ∷ from_client 1 (frame_of (pos 65) 1 []) ∷ from_client 1 (frame_of (pos 65) 1 [])
    ∷ from_client 1 (frame_of (pos 65) 1 []) ∷ from_client 1 (frame_of (pos 65) 1 []) ∷ []

row_25_refused : refusals (with_limits 1 5 64) row_25 ≡ OfSession IsBusy ∷ []
unfolding message_of after_text after_each after_pairs after_all tdispatch_at rdispatch_at tdiscarded_at tlease_at init_at
row_25_refused = refl

row_25b_refused : refusals (with_limits 1 5 64) ((0, OpenClient) ∷ from_client 1 (tdispatch 5) ∷ from_client 1 (tdispatch 6) ∷ []) ≡ OfSession IsBusy ∷ []
unfolding message_of after_text after_each after_pairs after_all tdispatch_at rdispatch_at tdiscarded_at tlease_at init_at
row_25b_refused = refl

-- a retired server, a value of another kind, a nack
abbrev pub row_27 : List (ℕ × Event)
row_27 =
    (0, OpenClient) ∷ (0, OpenServer Plain) ∷ (0, On (Server 1) (Retire 0)) ∷ from_client 1 (tdispatch 5) ∷ (2, Spend 1 (Offer 1 0)) ∷ (0, Spend 1 Settle) ∷ (0, Spend 1 Nack) ∷ []

row_27_refused : refusals begin row_27 ≡ OfSession IsRetired ∷ WrongHand ∷ []
unfolding message_of after_text after_each after_pairs after_all tdispatch_at rdispatch_at tdiscarded_at tlease_at init_at
row_27_refused = refl

row_27_sent : sent_all (run begin row_27).connections ≡ (nack_on 5 ∷ []) ∷ [] ∷ []
unfolding message_of after_text after_each after_pairs after_all tdispatch_at rdispatch_at tdiscarded_at tlease_at init_at
row_27_sent = refl

-- a spent server: five offers, the sixth refused, and a reply still settles
abbrev pub row_spent : List (ℕ × Event)
row_spent =
    (0, OpenClient) ∷ (0, OpenClient) ∷ (0, OpenServer Plain) ∷ from_client 1 (tdispatch 5) ∷ from_client 1 (tdispatch 6) ∷ from_client 1 (tdispatch 7)
    ∷ from_client 2 (tdispatch 5) ∷ from_client 2 (tdispatch 6) ∷ from_client 2 (tdispatch 7)
    ∷ (2, Spend 1 (Offer 1 0)) ∷ (3, Spend 2 (Offer 1 0)) ∷ (4, Spend 3 (Offer 1 0)) ∷ (5, Spend 4 (Offer 1 0)) ∷ (6, Spend 5 (Offer 1 0)) ∷ (7, Spend 6 (Offer 1 0))
    ∷ (0, TakeOutOf (Server 1)) ∷ (0, TakeOutOf (Server 1)) ∷ (0, TakeOutOf (Server 1)) ∷ (0, TakeOutOf (Server 1)) ∷ (0, TakeOutOf (Server 1)) ∷ from_server 1 (rdispatch 2) ∷ []

row_spent_refused : refusals (with_limits 8 16 16) row_spent ≡ OfSession IsSpent ∷ []
unfolding message_of after_text after_each after_pairs after_all tdispatch_at rdispatch_at tdiscarded_at tlease_at init_at
row_spent_refused = refl

row_spent_reply : held_of 12 (run (with_limits 8 16 16) row_spent).hands ≡ Some (SettledBy (name 1 1 1) (rdispatch 2) None)
unfolding message_of after_text after_each after_pairs after_all tdispatch_at rdispatch_at tdiscarded_at tlease_at init_at
row_spent_reply = refl

-- a stray: the second reply on a tag settles nothing and is dropped
abbrev pub row_stray : List (ℕ × Event)
row_stray =
    (0, OpenClient) ∷ (0, OpenServer Plain) ∷ from_client 1 (tdispatch 5) ∷ (2, Spend 1 (Offer 1 0))
    ∷ from_server 1 (rdispatch 2) ∷ from_server 1 (rdispatch 2) ∷ []

row_stray_hands : held_all (run begin row_stray).hands ≡ (2, PlacedAt (name 1 1 1) 1 2) ∷ (3, SettledBy (name 1 1 1) (rdispatch 2) None) ∷ []
unfolding message_of after_text after_each after_pairs after_all tdispatch_at rdispatch_at tdiscarded_at tlease_at init_at
row_stray_hands = refl

row_stray_refused : refusals begin row_stray ≡ []
unfolding message_of after_text after_each after_pairs after_all tdispatch_at rdispatch_at tdiscarded_at tlease_at init_at
row_stray_refused = refl

-- a Tdiscarded that comes twice is answered once
abbrev pub row_discarded_twice : List (ℕ × Event)
row_discarded_twice =
    (0, OpenClient) ∷ from_client 1 (tdispatch 5) ∷ from_client 1 (discarding 5) ∷ from_client 1 (discarding 5) ∷ []

row_discarded_twice_sent : sent_all (run begin row_discarded_twice).connections ≡ (rdiscarded_on 5 ∷ []) ∷ []
unfolding message_of after_text after_each after_pairs after_all tdispatch_at rdispatch_at tdiscarded_at tlease_at init_at
row_discarded_twice_sent = refl
