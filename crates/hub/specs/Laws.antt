-- What becomes of the frames that one call took: a reply is handed to the session of the client whose dispatch it
-- answers, and a dispatch is offered to servers of its route, or goes back to its client. Neither is changed on the
-- way. What a session hands back, since it isn't due there, is dropped.
use Rattle.std.specs.Prelude.{◌≡◌, ◌<◌, ◌⊎◌, ℕ, List, [], ◌∷◌, ◌++◌, Option, Some, None, Result, Ok, Err, true, false}
use Rattle.mux_frame.specs.Views.{FrameView}
use Rattle.mux_message.specs.Made.{retag}
use Rattle.mux_message.specs.Spellings.{normal}
use Rattle.mux_history.specs.Readings.{tag_of}
use Rattle.mux_model.specs.Down.{is_held, is_mine}
use Rattle.mux_model.specs.Entries.{Exchange}
use Rattle.mux_model.specs.Steps.{is_nack, records}
use Rattle.route_table.specs.Routes.{Change}
use Rattle.translate_book.specs.Values.{TicketView}
use Rattle.translate_book.specs.declared.placed.Placed.{Placed}
use Rattle.translate_book.specs.declared.refusal.OfferRefusal.{OfferRefusal}
use Rattle.translate_book.specs.declared.sent.Settled.{Settled}
use Rattle.client_session.specs.declared.answers.UpStep.{UpStep}
use Rattle.client_session.specs.declared.answers.UpStep.TheVariants as up
use Rattle.client_session.specs.Steps.{Tells as TellsUp}
use Rattle.server_session.specs.Past.{Past, add}
use Rattle.server_session.specs.Steps.{NackStep, SettleStep, UnrouteStep, frame_in, settling, Tells as TellsDown}
use Rattle.server_session.specs.declared.answers.Answer.{Answer}
use Rattle.server_session.specs.declared.answers.Answer.TheVariants.{Again, Answered, Late}
use Rattle.server_session.specs.declared.answers.DownStep.{DownStep}
use Rattle.server_session.specs.declared.answers.DownStep.TheVariants as down
use Rattle.kept_session.specs.Reached.{Kept}
use Rattle.kept_session.specs.ReachedDown.{KeptDown}
use Rattle.hub_close.specs.declared.receipt.Stub.{Stub}
use Rattle.hub_base.specs.declared.errands.Errand.{Errand}
use Rattle.hub_steps.specs.Down.{MayKeepDown, StartsDown}
use Rattle.hub_steps.specs.Up.{MayKeep, Starts}
use Rattle.hub_slots.specs.Choosing.{Chooses}
use Rattle.hub_slots.specs.Locked.{LockedDown}
use Rattle.hub_places.specs.Numbering.{KeepsDown}
use Rattle.hub_delivery.specs.Carrying.{HasRoute, IsChosen, OffersTo, TriesOthers, place_if}
use Rattle.hub_delivery.specs.Leaving.{HasClient, server_place}
use Rattle.std.specs.List.{AllByRecursion}
use Rattle.mux_frame.specs.Spelling.{MuxFrame}
use Rattle.mux_history.specs.declared.session.SessionId.TheVariants.{Client}
use Rattle.hub_log.specs.declared.terms.Terms.{Terms}
use Rattle.hub_log.specs.Moves.{Move, TookOut}
use Rattle.hub_log.specs.Bag.{IsBag}
use Rattle.hub_log.specs.Sources.{StandsFor}
use Rattle.hub_log.specs.Views.{View}
use Rattle.hub_places.specs.Holding.{IsGone}
use Rattle.hub.specs.Batches.{RunsDown, RunsUp}

-- WHERE A DISPATCH GOES

-- that server refused it, and it was offered to others of its route in turn, which led to this
abbrev pub TriedOthers : (now ups : ℕ) → (but : Option ℕ) → (known learned : List Change) → TicketView
    → Result Placed TicketView → Type 0
TriedOthers now ups but known learned ticket result =
    (server : ℕ) × (refusal : OfferRefusal) × (servers : List ℕ) × IsChosen ups but known learned ticket server
    × OffersTo now server ticket (Err (refusal, ticket)) × HasRoute known learned ticket (Some servers)
    × TriesOthers now ups servers but (server_place ups server) ticket result

-- why no server took it: none of the route could be chosen, or one refused it and none of the others took it
abbrev pub HasNoServer : (now ups : ℕ) → (but : Option ℕ) → (known learned : List Change) → TicketView → Type 0
HasNoServer now ups but known learned ticket =
    ((servers : List ℕ) × HasRoute known learned ticket (Some servers) × Chooses ups but servers None)
    ⊎ TriedOthers now ups but known learned ticket (Err ticket)

-- a dispatch went on as it is: a server's session took it by its own step on the offer, at this reading; or it went
-- back to the session of its client, which answered by its own step, with a nack or with `no route`
pub data GoesOn (now ups : ℕ) (but : Option ℕ) (known learned : List Change) (ticket : TicketView) : Type 0 where
  taken : (server : ℕ) (placed : Placed) → IsChosen ups but known learned ticket server
      → OffersTo now server ticket (Ok placed)
      → GoesOn now ups but known learned ticket
  taken_by_other : (placed : Placed) → TriedOthers now ups but known learned ticket (Ok placed)
      → GoesOn now ups but known learned ticket
  nacked : (result : Result Answer TicketView) → HasNoServer now ups but known learned ticket
      → LockedDown (KeepsDown ticket.name.client) (λ p q. NackStep p ticket result q) (result ≡ Err ticket)
      → GoesOn now ups but known learned ticket
  unrouted : (result : Result Answer TicketView) → HasRoute known learned ticket None
      → LockedDown (KeepsDown ticket.name.client) (λ p q. UnrouteStep p ticket result q) (result ≡ Err ticket)
      → GoesOn now ups but known learned ticket

-- WHERE A REPLY GOES

-- what a session sends that is handed a reply. If the dispatch is of its client and due, it sends the server's frame,
-- in the type that is written, with the tag of the dispatch in place of its own and nothing else changed; or nothing,
-- if the client waits no more, or the reply is a nack and the same dispatch is to be sent again. Else it hands the
-- reply back, and is unchanged
abbrev pub Sends : Past → Settled → Result Answer Settled → Past → Type 0
Sends p x (Ok Answered) q =
    (e : Exchange) × (q ≡ add p (settling x) e) × (is_mine p.session x.name ≡ true)
    × (e.sent ≡ Some (retag (tag_of x.name (records p.steps)) (normal x.reply.frame)))
Sends p x (Ok Late) q =
    (e : Exchange) × (q ≡ add p (settling x) e) × (is_mine p.session x.name ≡ true)
    × (e.sent ≡ None) × (is_held p.session x.name p.steps ≡ false)
Sends p x (Ok (Again ticket)) q =
    (e : Exchange) × (q ≡ add p (settling x) e) × (is_mine p.session x.name ≡ true)
    × (e.sent ≡ None) × (is_nack x.reply.frame ≡ true)
    × (ticket.name ≡ x.name) × (frame_in x.again ≡ Some ticket.frame)
Sends p x (Err back) q = (q ≡ p) × (back ≡ x)

-- what a reply gave, if the dispatch is sent again
abbrev pub OnAgain : Result Answer Settled → (TicketView → Type 0) → Type 0
OnAgain (Ok (Again ticket)) P = P ticket
OnAgain _ P = Unit {0}

-- a reply was handed, as it is, to the session of the client that its name has, and settled there by that session's
-- own step; a slot with no session hands it back. A dispatch that is to be sent again goes on
abbrev pub GoesHome : (now ups : ℕ) → (but : Option ℕ) → (known learned : List Change) → Settled → Type 0
GoesHome now ups but known learned x =
    (result : Result Answer Settled)
    × LockedDown (KeepsDown x.name.client) (λ p q. SettleStep p x result q × Sends p x result q) (result ≡ Err x)
    × OnAgain result (GoesOn now ups but known learned)

-- THE FRAMES OF A CALL

-- each frame with its receipt
abbrev pub EachOf : (FrameView → Stub → Type 0) → List FrameView → List Stub → Type 0
EachOf Of [] [] = Unit {0}
EachOf Of [] (r ∷ rs) = ⊥
EachOf Of (f ∷ fs) [] = ⊥
EachOf Of (f ∷ fs) (r ∷ rs) = Of f r × EachOf Of fs rs

-- frames were taken off the front, their receipts stand behind the others, and this is so of each
abbrev pub EachTaken : (FrameView → Stub → Type 0) → (before after : List FrameView) → (old new : List Stub) → Type 0
EachTaken Of before after old new =
    (fs : List FrameView) × (rs : List Stub) × (before ≡ fs ++ after) × (new ≡ old ++ rs) × EachOf Of fs rs

-- the reply to a dispatch that a server's frame gave, and the dispatch that a client's frame gave
abbrev pub OnReply : UpStep → (Settled → Type 0) → Type 0
OnReply (up.Settled x) P = P x
OnReply _ P = Unit {0}

abbrev pub OnDispatch : DownStep → (TicketView → Type 0) → Type 0
OnDispatch (down.Take ticket) P = P ticket
OnDispatch _ P = Unit {0}

-- the session made its own step on the frame, with this receipt, whose record tells what the step gave. If it settled
-- a dispatch, then the reply is the frame as it came, and went home if the hub has a slot for the client of that name
abbrev pub ReplyGoesHome : (now downs ups : ℕ) → (but : Option ℕ) → (known learned : List Change) → FrameView → Stub
    → Type 0
ReplyGoesHome now downs ups but known learned f r =
    (s : Option Kept) × (t : Option Kept) × (step : UpStep) × MayKeep s × MayKeep t × Starts s t f now (Ok (r, step))
    × TellsUp step r.kept.kind
    × OnReply step
    (λ x. (x.reply ≡ f) × (HasClient downs x.name.client → GoesHome now ups but known learned x))

-- the same of a client's frame. If it is a dispatch that was taken, then the ticket has this very frame and went on
abbrev pub DispatchGoesOn : (now downs ups : ℕ) → (but : Option ℕ) → (known learned : List Change) → FrameView → Stub
    → Type 0
DispatchGoesOn now downs ups but known learned f r =
    (s : Option KeptDown) × (t : Option KeptDown) × (step : DownStep) × MayKeepDown s × MayKeepDown t
    × StartsDown s t f now (Ok (r, step)) × TellsDown step r.kept.kind
    × OnDispatch step
    (λ ticket. (ticket.frame ≡ f.frame)
    × (HasClient downs ticket.name.client → GoesOn now ups but known learned ticket))

-- THE LAWS. Whatever a call with frames of a server says of itself, each reply among them went home
abbrev pub EveryReplyGoesHome : Type 0
EveryReplyGoesHome =
    (now downs ups window server : ℕ) (before after : List FrameView) (old new : List Stub) (had : List Errand)
    (known learned : List Change) → 0 < ups
    → RunsUp now downs ups window server before after old new had known learned
    → EachTaken (ReplyGoesHome now downs ups (place_if ups (Some server)) known learned) before after old new

-- and whatever a call with frames of a client says of itself, each dispatch among them went on
abbrev pub EveryDispatchGoesOn : Type 0
EveryDispatchGoesOn =
    (now downs ups window client : ℕ) (before after : List FrameView) (old new : List Stub) (had : List Errand)
    (known learned : List Change) → 0 < ups
    → RunsDown now downs ups window client before after old new had known learned
    → EachTaken (DispatchGoesOn now downs ups None known learned) before after old new

-- WHAT GOES OUT. Whatever a pass knows that came with frames of a client's session, each of them stands in the hub's
-- log before they went out
abbrev pub WhatGoesOutStands : Type 0
WhatGoesOutStands =
    (t : Terms) (n : ℕ) (frames : List MuxFrame) (v : View) → IsGone t (Client n) frames v
    → (before : List Move)
    × (v.seen ≡ record { session = Client n; deed = TookOut frames; uses = None } ∷ before) × IsBag t v.seen
    × AllByRecursion (StandsFor n before) frames
