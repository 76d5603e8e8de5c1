-- What each answer makes of what is known of its dispatch.
use Rattle.std.proofs.Common.{ℕ, true, false, Option, Some, None, refl}
use Rattle.mux_frame.specs.Spelling.{MuxFrame}
use Rattle.mux_history.specs.declared.kind.RecordKind.TheVariants as kinds
use Rattle.mux_model.specs.Steps.{SettleCall, NackCall, UnrouteCall, FailCall}
use Rattle.server_session.specs.Past.{Past}
use Rattle.server_session.specs.Belonging.{name_in}
use Rattle.server_session.proofs.Naming.{named_same}
use Rattle.server_session.proofs.Answering.{Shape}

pub failed : (p : Past) (tag seq : ℕ) (sent : MuxFrame) → Shape p (FailCall (name_in p.session seq)) kinds.Failed tag seq false (Some sent)
failed p tag seq sent = record {
  written = refl;
  epoch = refl;
  dispatches = refl;
  ended = refl;
  fresh = refl;
  drain = refl;
  took = refl;
  mine = rw (named_same (name_in p.session seq)) refl;
  others = λ m other. rw other refl;
}

pub failed_late : (p : Past) (tag seq : ℕ) → Shape p (FailCall (name_in p.session seq)) (kinds.Late false) tag seq false None
failed_late p tag seq = record {
  written = refl;
  epoch = refl;
  dispatches = refl;
  ended = refl;
  fresh = refl;
  drain = refl;
  took = refl;
  mine = rw (named_same (name_in p.session seq)) refl;
  others = λ m other. rw other refl;
}

pub nacked : (p : Past) (tag seq : ℕ) (sent : MuxFrame) → Shape p (NackCall (name_in p.session seq)) kinds.Nacked tag seq true (Some sent)
nacked p tag seq sent = record {
  written = refl;
  epoch = refl;
  dispatches = refl;
  ended = refl;
  fresh = refl;
  drain = refl;
  took = refl;
  mine = rw (named_same (name_in p.session seq)) refl;
  others = λ m other. rw other refl;
}

pub nacked_late : (p : Past) (tag seq : ℕ) → Shape p (NackCall (name_in p.session seq)) (kinds.Late true) tag seq true None
nacked_late p tag seq = record {
  written = refl;
  epoch = refl;
  dispatches = refl;
  ended = refl;
  fresh = refl;
  drain = refl;
  took = refl;
  mine = rw (named_same (name_in p.session seq)) refl;
  others = λ m other. rw other refl;
}

pub unrouted : (p : Past) (tag seq : ℕ) (sent : MuxFrame) → Shape p (UnrouteCall (name_in p.session seq)) kinds.Unrouted tag seq true (Some sent)
unrouted p tag seq sent = record {
  written = refl;
  epoch = refl;
  dispatches = refl;
  ended = refl;
  fresh = refl;
  drain = refl;
  took = refl;
  mine = rw (named_same (name_in p.session seq)) refl;
  others = λ m other. rw other refl;
}

pub unrouted_late : (p : Past) (tag seq : ℕ) → Shape p (UnrouteCall (name_in p.session seq)) (kinds.Late true) tag seq true None
unrouted_late p tag seq = record {
  written = refl;
  epoch = refl;
  dispatches = refl;
  ended = refl;
  fresh = refl;
  drain = refl;
  took = refl;
  mine = rw (named_same (name_in p.session seq)) refl;
  others = λ m other. rw other refl;
}

pub passed : (p : Past) (tag seq : ℕ) (reply : MuxFrame) (again : Option MuxFrame) (sent : MuxFrame) → Shape p (SettleCall (name_in p.session seq) reply again) kinds.Passed tag seq false (Some sent)
passed p tag seq reply again sent = record {
  written = refl;
  epoch = refl;
  dispatches = refl;
  ended = refl;
  fresh = refl;
  drain = refl;
  took = refl;
  mine = rw (named_same (name_in p.session seq)) refl;
  others = λ m other. rw other refl;
}

pub passed_late : (p : Past) (tag seq : ℕ) (reply : MuxFrame) (again : Option MuxFrame) → Shape p (SettleCall (name_in p.session seq) reply again) (kinds.Late false) tag seq false None
passed_late p tag seq reply again = record {
  written = refl;
  epoch = refl;
  dispatches = refl;
  ended = refl;
  fresh = refl;
  drain = refl;
  took = refl;
  mine = rw (named_same (name_in p.session seq)) refl;
  others = λ m other. rw other refl;
}
