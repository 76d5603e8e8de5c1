-- One dispatch and its reply, move by move.
use Rattle.std.specs.Prelude.{ℕ, pos, negsuc, List, [], ◌∷◌, ◌≡◌, Option, Some, None, length}
use Rattle.mux_frame.specs.Spelling.{MuxFrame}
use Rattle.mux_message.specs.Made.{frame_of, retag}
use Rattle.mux_history.specs.Bounds.{Bounds}
use Rattle.mux_history.specs.declared.name.Name.{Name}
use Rattle.mux_history.specs.declared.kind.RecordKind.{RecordKind}
use Rattle.mux_history.specs.declared.kind.RecordKind.TheVariants as kinds
use Rattle.mux_history.specs.declared.session.InitMode.TheVariants.{Plain}
use Rattle.mux_history.specs.declared.session.SessionId.{SessionId}
use Rattle.mux_history.specs.declared.session.SessionId.TheVariants.{Client, Server}
use Rattle.mux_model.specs.Entries.{Exchange}
use Rattle.mux_model.specs.Steps.{FrameCall, OfferCall, SettleCall, TicketOf, PlacedAt, SettledBy}
use Rattle.hub_log.specs.declared.terms.Terms.{Terms}
use Rattle.hub_log.specs.Moves.{Claim, Opened, Did, TookOut, Move, moves_of}
use Rattle.hub_log.specs.Views.{View, Owns}

abbrev pub bounds : Bounds
bounds = record { max_frame = 1024; window = 4; out = 8; history = 64; retries = 0 }

abbrev pub example : Terms
example = record { boot = 1; limits = bounds; server_limits = bounds; clients = 1; servers = 1 }

-- client 1's first dispatch, on its tag 5, and the server's reply on tag 2
abbrev pub first_name : Name
first_name = record { boot = 1; client = 1; seq = 1 }

abbrev pub asked : MuxFrame
asked = frame_of (pos 2) 5 (0 ∷ 0 ∷ 0 ∷ 4 ∷ 47 ∷ 115 ∷ 47 ∷ 97 ∷ 0 ∷ 0 ∷ 104 ∷ 105 ∷ [])

abbrev pub replied : MuxFrame
replied = frame_of (negsuc 1) 2 (0 ∷ 0 ∷ 0 ∷ 121 ∷ 111 ∷ [])

abbrev pub written : RecordKind → (tag : ℕ) → Name → (taken sent : Option MuxFrame) → Exchange
written kind tag name taken sent = record {
  rec = Some (record { kind = kind; tag = tag; name = Some name; reading = 0 });
  taken = taken;
  sent = sent;
}

-- the moves
abbrev pub client_opens : Move
client_opens = record { session = Client 1; deed = Opened Plain; uses = None }

abbrev pub takes : Move
takes = record {
  session = Client 1;
  deed = Did (FrameCall asked 0) (written kinds.Took 5 first_name (Some asked) None)
      (TicketOf first_name asked 0 ∷ []);
  uses = None;
}

abbrev pub server_opens : Move
server_opens = record { session = Server 0; deed = Opened Plain; uses = None }

abbrev pub offers : Claim → Move
offers c = record {
  session = Server 0;
  deed = Did (OfferCall first_name asked 0 0) (written kinds.Offered 2 first_name None (Some (retag 2 asked)))
      (PlacedAt first_name 0 2 ∷ []);
  uses = Some c;
}

abbrev pub replies : Move
replies = record {
  session = Server 0;
  deed = Did (FrameCall replied 0) (written (kinds.Settled (negsuc 1)) 2 first_name (Some replied) None)
      (SettledBy first_name replied None ∷ []);
  uses = None;
}

abbrev pub settles : Name → Claim → Move
settles name c = record {
  session = Client 1;
  deed = Did (SettleCall name replied None) (written kinds.Passed 5 name None (Some (retag 5 replied))) [];
  uses = Some c;
}

abbrev pub goes_out : Move
goes_out = record { session = Client 1; deed = TookOut (retag 5 replied ∷ []); uses = None }

-- a pass that adds for this session has seen these moves of it, and has these claims in hand
pub record Knows (v : View) (id : SessionId) (own : List Move) (has : List Claim) : Type 0 where
  pub owns : Owns example v id
  pub moves : moves_of id v.seen ≡ own
  pub hands : v.hands ≡ has

-- a pass that has seen this move last, and has its first value in hand alone
pub record Carries (v : View) (m : Move) : Type 0 where
  pub before : List Move
  pub seen : v.seen ≡ m ∷ before
  pub hands : v.hands ≡ record { place = length before; which = 0 } ∷ []

-- the move stands at the end
abbrev pub Ends : View → Move → Type 0
Ends v m = (before : List Move) × (v.seen ≡ m ∷ before)
