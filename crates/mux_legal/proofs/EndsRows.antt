-- Worked joint lists: one with a lawful client, and two that show why the far end has to be lawful.
use Rattle.std.proofs.Common.{subst, inl, inr, ℕ, List, [], ◌∷◌, ◌≡◌, Bool, true, false, refl, ap, arith}
use Rattle.std.proofs.lemmas.Bool.{eqb-true, and_parts}
use Rattle.mux_frame.specs.Spelling.{MuxFrame}
use Rattle.mux_history.specs.declared.session.SessionId.TheVariants.{Client, Server}
use Rattle.mux_model.specs.Entries.{Exchange}
use Rattle.mux_model.specs.Steps.{entries}
use Rattle.mux_message.specs.Made.{rdiscarded_on}
use Rattle.mux_model.specs.World.{Connection}
use Rattle.mux_model.specs.Events.{AllChooseFree, Event, run, OpenClient, OpenServer, Spend, Offer}
use Rattle.mux_model.specs.Lawful.{Way, ToServer, ToClient, Joint, Sends, Takes, with_message, same_way, sent_on, taken_on, IsPrefix, IsStream, Said, at_client, at_server, passed, asks_on, is_asked, is_answered, count, ArePaired, Agree, MayAsk, IsLawfulClient}
use Rattle.mux_legal.proofs.BothEnds.{both_ends_agree}
use Rattle.mux_model.proofs.Rows.{limits, begin, row_7, tdispatch, rdispatch, discarding, from_client, from_server}
use Rattle.mux_history.specs.declared.session.InitMode.TheVariants.{Plain}
use Rattle.mux_message.specs.Reading.{message_of, after_text, after_each, after_pairs, after_all, tdispatch_at, rdispatch_at, tdiscarded_at, tlease_at, init_at}

abbrev first_list : List Connection → List Exchange
first_list [] = []
first_list (c ∷ cs) = entries c.steps

abbrev second_list : List Connection → List Exchange
second_list [] = []
second_list (c ∷ cs) = first_list cs

-- streams, place by place
prefix_now : (js : List Joint) → IsStream js → (w : Way) → IsPrefix (taken_on w js) (sent_on w js)
prefix_now [] st w = ([], refl)
prefix_now (j ∷ js) st w = st.0 w

sends : (v : Way) (m : MuxFrame) (js : List Joint) → IsStream js → IsStream (Sends v m ∷ js)
sends v m js st = ((λ w. later w (same_way w v)), st)
  where
    later : (w : Way) (b : Bool) → IsPrefix (taken_on w js) (with_message b m (sent_on w js))
    later w true = (let p = prefix_now js st w in (m ∷ p.0, ap (λ ms. m ∷ ms) p.1))
    later w false = prefix_now js st w

takes_by_server : (m : MuxFrame) (js : List Joint) → IsPrefix (m ∷ taken_on ToServer js) (sent_on ToServer js) → IsStream js → IsStream (Takes ToServer m ∷ js)
takes_by_server m js p st = (by_way, st)
  where
    by_way : (w : Way) → IsPrefix (taken_on w (Takes ToServer m ∷ js)) (sent_on w js)
    by_way ToServer = p
    by_way ToClient = prefix_now js st ToClient

takes_by_client : (m : MuxFrame) (js : List Joint) → IsPrefix (m ∷ taken_on ToClient js) (sent_on ToClient js) → IsStream js → IsStream (Takes ToClient m ∷ js)
takes_by_client m js p st = (by_way, st)
  where
    by_way : (w : Way) → IsPrefix (taken_on w (Takes ToClient m ∷ js)) (sent_on w js)
    by_way ToClient = p
    by_way ToServer = prefix_now js st ToServer

-- row 7 with a lawful client: it discards, and asks again on the tag once it has taken the Rdiscarded
abbrev one : List Joint
one = Sends ToServer (tdispatch 5) ∷ []

abbrev two : List Joint
two = Sends ToServer (discarding 5) ∷ one

abbrev three : List Joint
three = Takes ToServer (tdispatch 5) ∷ two

abbrev four : List Joint
four = Takes ToServer (discarding 5) ∷ three

abbrev five : List Joint
five = Sends ToClient (rdiscarded_on 5) ∷ four

abbrev six : List Joint
six = Takes ToClient (rdiscarded_on 5) ∷ five

abbrev seven : List Joint
seven = Sends ToServer (tdispatch 5) ∷ six

abbrev eight : List Joint
eight = Takes ToServer (tdispatch 5) ∷ seven

abbrev nine : List Joint
nine = Sends ToClient (rdispatch 5) ∷ eight

abbrev ten : List Joint
ten = Takes ToClient (rdispatch 5) ∷ nine

ten_router : at_server ten ≡ passed (Client 1) (first_list (run begin row_7).connections)
unfolding message_of after_text after_each after_pairs after_all tdispatch_at rdispatch_at tdiscarded_at tlease_at init_at
ten_router = refl

four_stream : IsStream four
four_stream =
    takes_by_server (discarding 5) three ([], refl) (takes_by_server (tdispatch 5) two (discarding 5 ∷ [], refl)
    (sends ToServer (discarding 5) one (sends ToServer (tdispatch 5) [] tt)))

ten_stream : IsStream ten
ten_stream =
    takes_by_client (rdispatch 5) nine ([], refl) (sends ToClient (rdispatch 5) eight (takes_by_server (tdispatch 5) seven ([], refl)
    (sends ToServer (tdispatch 5) six (takes_by_client (rdiscarded_on 5) five ([], refl) (sends ToClient (rdiscarded_on 5) four four_stream)))))

asks_when : (f : MuxFrame) (old : List Said) → count (is_asked f.tag) old ≡ count (is_answered f.tag) old → asks_on 0 (record { way = ToServer; message = f }) ≡ false →
    MayAsk (record { way = ToServer; message = f }) old
asks_when f old e z =
    ((λ t one h. subst (λ u. count (is_asked u) old ≡ count (is_answered u) old) (eqb-true f.tag t (and_parts _ _ h).1) e), z)

ten_lawful : IsLawfulClient (at_client ten)
ten_lawful = (
  ((λ t one h. absurd (cc)), refl),
  (
    asks_when (tdispatch 5) (at_client six) refl refl,
    (
      ((λ t one h. absurd (cc)), refl),
      (
        ((λ t one h. absurd (cc)), refl),
        (asks_when (tdispatch 5) [] refl refl, tt),
      ),
    ),
  ),
)

ten_pairs : ArePaired 5 0 0 (at_server ten) × ArePaired 5 1 1 (at_server ten) × ArePaired 5 0 0 (at_client ten) × ArePaired 5 1 1 (at_client ten)
ten_pairs = (inr (inr (inl (refl, refl, refl))), inl (refl, refl, refl), inr (inr (inl (refl, refl, refl))), inl (refl, refl, refl))

-- the theorem on this run
free_7 : AllChooseFree begin row_7
unfolding message_of after_text after_each after_pairs after_all tdispatch_at rdispatch_at tdiscarded_at tlease_at init_at
free_7 = (tt, (tt, (tt, ((omega arith, omega arith, refl), (tt, (tt, (tt, ((omega arith, omega arith, refl), (tt, (tt, (tt, (tt, tt))))))))))))

ten_agrees : Agree (at_server ten) (at_client ten)
unfolding message_of after_text after_each after_pairs after_all tdispatch_at rdispatch_at tdiscarded_at tlease_at init_at
ten_agrees = (both_ends_agree limits 1 row_7 free_7).0 ten ten_stream ten_router ten_lawful

-- a client that asks again before it has taken the Rdiscarded: it pairs the Rdiscarded with its second dispatch
abbrev hasty : List Joint
hasty = Takes ToClient (rdiscarded_on 5) ∷ Takes ToServer (tdispatch 5) ∷ Sends ToServer (tdispatch 5) ∷ five

abbrev hasty_events : List (ℕ × Event)
hasty_events = (0, OpenClient) ∷ from_client 1 (tdispatch 5) ∷ from_client 1 (discarding 5) ∷ from_client 1 (tdispatch 5) ∷ []

hasty_router : at_server hasty ≡ passed (Client 1) (first_list (run begin hasty_events).connections)
unfolding message_of after_text after_each after_pairs after_all tdispatch_at rdispatch_at tdiscarded_at tlease_at init_at
hasty_router = refl

hasty_stream : IsStream hasty
hasty_stream =
    takes_by_client (rdiscarded_on 5) (Takes ToServer (tdispatch 5) ∷ Sends ToServer (tdispatch 5) ∷ five) ([], refl)
    (takes_by_server (tdispatch 5) (Sends ToServer (tdispatch 5) ∷ five) ([], refl)
    (sends ToServer (tdispatch 5) five (sends ToClient (rdiscarded_on 5) four four_stream)))

hasty_disagrees : Agree (at_server hasty) (at_client hasty) → ⊥
hasty_disagrees agree =
    omega (arith, (agree 5 0 0 1 0 (inr (inl (refl, refl, refl))) (inl (refl, refl, refl))).1 refl)

-- a server that answers a dispatch twice: the router pairs the second answer with its next dispatch on the tag
abbrev twice : List Joint
twice = Sends ToClient (rdispatch 2) ∷ Sends ToClient (rdispatch 2) ∷ Takes ToServer (tdispatch 2) ∷ Sends ToServer (tdispatch 2) ∷ []

abbrev crossed : List Joint
crossed = Takes ToClient (rdispatch 2) ∷ Sends ToServer (tdispatch 2) ∷ Takes ToClient (rdispatch 2) ∷ twice

abbrev double : List Joint
double = Sends ToClient (rdispatch 2) ∷ Takes ToServer (tdispatch 2) ∷ crossed

twice_stream : IsStream twice
twice_stream =
    sends ToClient (rdispatch 2) (Sends ToClient (rdispatch 2) ∷ Takes ToServer (tdispatch 2) ∷ Sends ToServer (tdispatch 2) ∷ [])
    (sends ToClient (rdispatch 2) (Takes ToServer (tdispatch 2) ∷ Sends ToServer (tdispatch 2) ∷ [])
    (takes_by_server (tdispatch 2) (Sends ToServer (tdispatch 2) ∷ []) ([], refl) (sends ToServer (tdispatch 2) [] tt)))

crossed_stream : IsStream crossed
crossed_stream =
    takes_by_client (rdispatch 2) (Sends ToServer (tdispatch 2) ∷ Takes ToClient (rdispatch 2) ∷ twice) ([], refl)
    (sends ToServer (tdispatch 2) (Takes ToClient (rdispatch 2) ∷ twice) (takes_by_client (rdispatch 2) twice (rdispatch 2 ∷ [], refl) twice_stream))

double_stream : IsStream double
double_stream =
    sends ToClient (rdispatch 2) (Takes ToServer (tdispatch 2) ∷ crossed) (takes_by_server (tdispatch 2) crossed ([], refl) crossed_stream)

abbrev double_events : List (ℕ × Event)
double_events =
    (0, OpenClient) ∷ (0, OpenServer Plain) ∷ from_client 1 (tdispatch 5) ∷ (2, Spend 1 (Offer 1 0)) ∷ from_server 1 (rdispatch 2) ∷ from_client 1 (tdispatch 6)
    ∷ (2, Spend 4 (Offer 1 0)) ∷ from_server 1 (rdispatch 2) ∷ []

double_router : at_client double ≡ passed (Server 1) (second_list (run begin double_events).connections)
unfolding message_of after_text after_each after_pairs after_all tdispatch_at rdispatch_at tdiscarded_at tlease_at init_at
double_router = refl

double_disagrees : Agree (at_client double) (at_server double) → ⊥
double_disagrees agree =
    omega (arith, (agree 2 1 1 1 2 (inl (refl, refl, refl)) (inl (refl, refl, refl))).0 refl)
