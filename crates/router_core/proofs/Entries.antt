-- What a step left in its session's list is read from the session before and after it.
use Rattle.std.proofs.Common.{◌≡◌, ◌+◌, ◌-◌, ℕ, suc, List, [], ◌∷◌, Bool, true, false, Option, Some, None, refl, sym, ◌∙◌, ap, length, arith, if◌then◌else◌, not, ◌||◌}
use Rattle.std.specs.Prelude.{is_some, ◌==◌, ◌&&◌}
use Rattle.std.proofs.lemmas.Bool.{eq-eqb, ne_eqb, lt-ltb, le-ltb}
use Rattle.mux_frame.specs.Spelling.{MuxFrame}
use Rattle.mux_history.specs.declared.record.Record.{Record}
use Rattle.mux_history.specs.Readings.{is_cut, epoch_of, written}
use Rattle.mux_model.specs.Entries.{Exchange}
use Rattle.mux_model.specs.Steps.{Call, Outcome, Refused, Unrecorded, Recorded, entries, records, with_record, sent_count, sent_at}
use Rattle.mux_model.specs.World.{Connection, stepped}
use Rattle.core_world.specs.Calls.{after}
use Rattle.router_core.specs.declared.entering.Look.{Look}
use Rattle.router_core.specs.Entries.{IsLook, newest, last_out, has_grown, was_sent, closes_by, entry_by, frame_of, entry_in}
use Rattle.router_core.proofs.Making.{Made, MadeBy, makes, passes, refuses}

or_true : (x : Bool) → (x || true) ≡ true
or_true true = refl
or_true false = refl

-- another epoch, or one record more
module _ (b a : Look) where
  other_epoch : a.epoch ≡ b.epoch + 1 → has_grown b a ≡ true
  other_epoch e = ap (λ x. not x || not (a.count == b.count)) (ne_eqb a.epoch b.epoch (λ s. absurd (omega (arith, e, s))))

  more_records : a.count ≡ suc b.count → has_grown b a ≡ true
  more_records e = ap (λ x. not (a.epoch == b.epoch) || not x) (ne_eqb a.count b.count (λ s. absurd (omega (arith, e, s)))) ∙ or_true (not (a.epoch == b.epoch))

  same_records : a.epoch ≡ b.epoch → a.count ≡ b.count → has_grown b a ≡ false
  same_records e c = ap (λ x. not x || not (a.count == b.count)) (eq-eqb a.epoch b.epoch e) ∙ ap (λ x. not x) (eq-eqb a.count b.count c)

grows : (b a : Look) (past : List Record) (r : Record) → b.epoch ≡ epoch_of past → b.count ≡ length (written past) → a.epoch ≡ epoch_of (r ∷ past) → a.count ≡ length (written (r ∷ past))
    → (is_cut r.kind ≡ true → epoch_of (r ∷ past) ≡ epoch_of past + 1) → has_grown b a ≡ true
grows b a past r be bc ae ac next = by_cut (is_cut r.kind) refl
  where
    by_cut : (x : Bool) → is_cut r.kind ≡ x → has_grown b a ≡ true
    by_cut true is = other_epoch b a (ae ∙ next is ∙ ap (λ n. n + 1) (sym be))
    by_cut false is = more_records b a (ac ∙ ap (λ x. suc (length (if x then [] else written past))) is ∙ ap suc (sym bc))

-- the message sent is the last one queued, where the queue has grown
sends : (b a : Look) (out : ℕ) (es : List Exchange) (e : Exchange) → b.queued + out ≡ sent_count es → a.queued + out ≡ sent_count (e ∷ es)
    → (if was_sent b a then (if sent_count (e ∷ es) - out == 0 then None else sent_at (sent_count (e ∷ es) - 1) (e ∷ es)) else None) ≡ e.sent
sends b a out es e before behind = by_sent e.sent before behind
  where
    less_one : (n : ℕ) → (n == n + 1 - 1) ≡ true
    less_one n = eq-eqb n (n + 1 - 1) (omega arith)

    by_sent : (o : Option MuxFrame) → b.queued + out ≡ sent_count es → a.queued + out ≡ (if is_some o then sent_count es + 1 else sent_count es)
        → (if was_sent b a
        then (if (if is_some o then sent_count es + 1 else sent_count es) - out == 0
        then None
        else (if is_some o && sent_count es == (if is_some o then sent_count es + 1 else sent_count es) - 1 then o else sent_at ((if is_some o then sent_count es + 1 else sent_count es) - 1) es))
        else None) ≡ o
    by_sent None x y = ap (λ (t : Bool). if t then (if sent_count es - out == 0 then None else sent_at (sent_count es - 1) es) else None) (le-ltb b.queued a.queued (omega (arith, x, y)))
    by_sent (Some f) x y =
        ap (λ (t : Bool). if t then (if sent_count es + 1 - out == 0 then None else (if sent_count es == sent_count es + 1 - 1 then Some f else sent_at (sent_count es + 1 - 1) es)) else None) (lt-ltb b.queued a.queued (omega (arith, x, y)))
        ∙ ap (λ (t : Bool). if t then None else (if sent_count es == sent_count es + 1 - 1 then Some f else sent_at (sent_count es + 1 - 1) es)) (ne_eqb (sent_count es + 1 - out) 0 (λ z. absurd (omega (arith, x, y, z))))
        ∙ ap (λ (t : Bool). if t then Some f else sent_at (sent_count es + 1 - 1) es) (less_one (sent_count es))

module _ (c : Connection) (call : Call) (b a : Look) (before : IsLook b c) where
  recorded : (e : Exchange) → Made (records c.steps) (frame_of call) e → IsLook a (stepped c call e) → entry_by b a (frame_of call) (last_out (stepped c call e)) ≡ Some e
  recorded e m behind =
      let more = grows b a (records c.steps) m.rec_ before.epoch before.count
      (behind.epoch ∙ ap (λ (r : Option Record). epoch_of (with_record r (records c.steps))) m.rec)
      (behind.count ∙ ap (λ (r : Option Record). length (written (with_record r (records c.steps)))) m.rec) m.next in
      let last : a.last ≡ Some m.rec_ = behind.last ∙ ap (λ (r : Option Record). newest (with_record r (records c.steps))) m.rec in
      let sent = sends b a c.out (entries c.steps) e before.sent behind.sent in
      ap (λ (t : Bool). if t then Some (record {
        rec = a.last;
        taken = if closes_by a.last then None else frame_of call;
        sent = if was_sent b a then last_out (stepped c call e) else None;
      }) else None) more
      ∙ (λ i. Some (record { rec = (last ∙ sym m.rec) i; taken = ((ap (λ (r : Option Record). if closes_by r then None else frame_of call) last) ∙ sym m.taken) i; sent = sent i }))

  unchanged : IsLook a c → entry_by b a (frame_of call) (last_out c) ≡ None
  unchanged behind = ap (λ (t : Bool). if t then Some (record {
    rec = a.last;
    taken = if closes_by a.last then None else frame_of call;
    sent = if was_sent b a then last_out c else None;
  }) else None) (same_records b a (behind.epoch ∙ sym before.epoch) (behind.count ∙ sym before.count))

  pub entry_is : (o : Outcome) → MadeBy (records c.steps) (frame_of call) o → IsLook a (after c call o) → entry_by b a (frame_of call) (last_out (after c call o)) ≡ entry_in o
  entry_is (Recorded e gives) (makes made) behind = recorded e made behind
  entry_is Unrecorded passes behind = unchanged behind
  entry_is (Refused why) refuses behind = unchanged behind
