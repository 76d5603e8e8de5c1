-- The smallest case of a rule each, which the checker computes.
use Rattle.std.specs.Prelude.{ℕ, pos, negsuc, List, [], ◌∷◌, ◌≡◌, ◌+◌, ◌^◌, Bool, true, false, Option, Some, None, refl}
use Rattle.mux_frame.specs.Spelling.{MuxFrame}
use Rattle.mux_message.specs.Reading.{message_of, after_text, after_each, after_pairs, tdispatch_at}
use Rattle.mux_history.specs.declared.name.Name.{Name}
use Rattle.mux_history.specs.declared.record.Record.{Record}
use Rattle.mux_history.specs.declared.kind.Cause.TheVariants.{Fragment, TagZero}
use Rattle.mux_history.specs.declared.kind.RecordKind.{RecordKind}
use Rattle.mux_history.specs.declared.kind.RecordKind.TheVariants.{Took, Noted, DrainAsked, Closed, Recalled, Lost, Offered, Settled, InitAsked, InitDone, PingSent, Clock, LostOne}
use Rattle.mux_history.specs.declared.session.SessionId.TheVariants.{Client, Server}
use Rattle.mux_history.specs.declared.session.InitMode.{InitMode}
use Rattle.mux_history.specs.declared.session.InitMode.TheVariants.{Probe, Plain}
use Rattle.mux_message.specs.Made.{frame_of, rping_on}
use Rattle.mux_model.specs.Steps.{records, IsRetired}
use Rattle.mux_model.specs.World.{Connection, next_out}
use Rattle.mux_model.specs.Events.{Event, OpenClient, OpenServer, On, Spend, TakeOutOf, Retire, Lose, Offer, NoSuchSession, NoSuchHand, OfSession, AllChooseFree, run}
use Rattle.mux_model.specs.Replay.{is_down_history, is_up_history}
use Rattle.mux_model.proofs.Rows.{begin, refusals, tdispatch, from_client}

-- an offer's session is looked for before its value
no_session : refusals begin ((0, Spend 9 (Offer 9 0)) ∷ []) ≡ NoSuchSession ∷ []
no_session = refl

no_value : refusals begin ((0, OpenServer Plain) ∷ (0, Spend 9 (Offer 1 0)) ∷ []) ≡ NoSuchHand ∷ []
no_value = refl

-- a refused offer chooses no tag
abbrev retired : List (ℕ × Event)
retired = (0, OpenClient) ∷ (0, OpenServer Plain) ∷ (0, On (Server 1) (Retire 0)) ∷ from_client 1 (tdispatch 5) ∷ (0, Spend 1 (Offer 1 0)) ∷ []

retired_refused : refusals begin retired ≡ OfSession IsRetired ∷ []
unfolding message_of tdispatch_at after_pairs after_each after_text
retired_refused = refl

retired_free : AllChooseFree begin retired
unfolding message_of tdispatch_at after_pairs after_each after_text
retired_free = (tt, (tt, (tt, (tt, (tt, tt)))))

-- frames are taken out in the order in which they were sent, and none from a session that was lost
abbrev pub next_of : List Connection → List (Option MuxFrame)
next_of [] = []
next_of (c ∷ cs) = next_out c ∷ next_of cs

abbrev pings : List (ℕ × Event)
pings = (0, OpenClient) ∷ from_client 1 (frame_of (pos 65) 1 []) ∷ from_client 1 (frame_of (pos 65) 2 []) ∷ []

first_out : next_of (run begin pings).connections ≡ Some (rping_on 1) ∷ []
unfolding message_of
first_out = refl

second_out : next_of (run (run begin pings) ((0, TakeOutOf (Client 1)) ∷ [])).connections ≡ Some (rping_on 2) ∷ []
unfolding message_of
second_out = refl

third_out : next_of (run (run begin pings) ((0, TakeOutOf (Client 1)) ∷ (0, TakeOutOf (Client 1)) ∷ [])).connections ≡ None ∷ []
unfolding message_of
third_out = refl

lost_out : next_of (run (run begin pings) ((0, On (Client 1) (Lose 0)) ∷ [])).connections ≡ None ∷ []
unfolding message_of
lost_out = refl

-- a frame that closes the session counts as no message
abbrev records_all : List Connection → List (List Record)
records_all [] = []
records_all (c ∷ cs) = records c.steps ∷ records_all cs

abbrev lone : RecordKind → ℕ → Record
lone kind t = record { kind = kind; tag = t; name = None; reading = 0 }

fragment_closes : records_all (run begin ((0, OpenClient) ∷ from_client 1 (frame_of (pos 65) (2 ^ 23 + 1) []) ∷ [])).connections ≡ (lone (Closed Fragment) 0 ∷ []) ∷ []
unfolding message_of
fragment_closes = refl

-- histories, the newest record first, in which the last record may not stand, and beside each the one that may
abbrev n1 : Name
n1 = record { boot = 1; client = 1; seq = 1 }

abbrev n2 : Name
n2 = record { boot = 1; client = 1; seq = 2 }

abbrev of : Name → RecordKind → ℕ → Record
of n kind t = record { kind = kind; tag = t; name = Some n; reading = 0 }

abbrev kept_down : (window history : ℕ) → List Record → Bool
kept_down w h rs =
    is_down_history (record { limits = record { max_frame = 32; window = w; out = 64; history = h; retries = 0 }; boot = 1; number = 1 }) rs

abbrev kept_up : InitMode → (window history : ℕ) → List Record → Bool
kept_up mode w h rs =
    is_up_history (record { limits = record { max_frame = 32; window = w; out = 64; history = h; retries = 0 }; number = 1; mode = mode }) rs

-- room
took_in_window : kept_down 2 16 (of n2 Took 6 ∷ of n1 Took 5 ∷ []) ≡ true
took_in_window = refl

took_past_window : kept_down 1 16 (of n2 Took 6 ∷ of n1 Took 5 ∷ []) ≡ false
took_past_window = refl

took_in_room : kept_down 9 9 (of n2 Took 6 ∷ of n1 Took 5 ∷ []) ≡ true
took_in_room = refl

took_past_room : kept_down 9 8 (of n2 Took 6 ∷ of n1 Took 5 ∷ []) ≡ false
took_past_room = refl

offered_past_window : kept_up Plain 1 16 (of n2 Offered 3 ∷ of n1 Offered 2 ∷ []) ≡ false
offered_past_window = refl

offered_in_room : kept_up Plain 9 7 (of n2 Offered 3 ∷ of n1 Offered 2 ∷ []) ≡ true
offered_in_room = refl

offered_past_room : kept_up Plain 9 6 (of n2 Offered 3 ∷ of n1 Offered 2 ∷ []) ≡ false
offered_past_room = refl

clock_past_room : kept_up Plain 9 4 (lone Clock 0 ∷ of n1 Offered 2 ∷ []) ≡ false
clock_past_room = refl

settled_past_room : kept_up Plain 9 4 (of n1 (Settled (negsuc 1)) 2 ∷ of n1 Offered 2 ∷ []) ≡ true
settled_past_room = refl

-- tags
drain_on_one : kept_down 9 16 (lone DrainAsked 1 ∷ []) ≡ true
drain_on_one = refl

drain_on_none : kept_down 9 16 (lone DrainAsked 0 ∷ []) ≡ false
drain_on_none = refl

noted_on_another : kept_down 9 16 (of n1 (Noted false) 6 ∷ of n1 Took 5 ∷ []) ≡ false
noted_on_another = refl

asked_on_none : kept_up Probe 9 16 (lone InitAsked 0 ∷ []) ≡ false
asked_on_none = refl

-- kinds
settled_by_a_ping : kept_up Plain 9 16 (of n1 (Settled (negsuc 64)) 2 ∷ of n1 Offered 2 ∷ []) ≡ false
settled_by_a_ping = refl

closed_by_tag_zero : kept_up Plain 9 16 (lone (Closed TagZero) 0 ∷ []) ≡ false
closed_by_tag_zero = refl

ping_while_probing : kept_up Probe 9 16 (lone PingSent 1 ∷ []) ≡ false
ping_while_probing = refl

ping_when_begun : kept_up Probe 9 16 (lone PingSent 1 ∷ lone InitDone 1 ∷ []) ≡ true
ping_when_begun = refl

-- what is told of a session that has ended, in its order
least_lost : kept_up Plain 9 16 (of n2 LostOne 2 ∷ lone Lost 0 ∷ of n1 Offered 3 ∷ of n2 Offered 2 ∷ []) ≡ true
least_lost = refl

greater_lost : kept_up Plain 9 16 (of n1 LostOne 3 ∷ lone Lost 0 ∷ of n1 Offered 3 ∷ of n2 Offered 2 ∷ []) ≡ false
greater_lost = refl

abbrev two_noted : List Record
two_noted = lone Lost 0 ∷ of n2 (Noted false) 6 ∷ of n1 (Noted false) 5 ∷ of n2 Took 6 ∷ of n1 Took 5 ∷ []

least_recalled : kept_down 9 16 (of n1 Recalled 5 ∷ two_noted) ≡ true
least_recalled = refl

greater_recalled : kept_down 9 16 (of n2 Recalled 6 ∷ two_noted) ≡ false
greater_recalled = refl
