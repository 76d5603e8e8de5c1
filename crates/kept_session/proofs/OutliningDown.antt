-- A state that the calls of a session towards a client led to is what its records say, and each record may follow those before it.
use Rattle.std.proofs.Common.{ℕ, List, [], ◌∷◌, ◌++◌, ◌≡◌, true, false, cond, Some, refl, sym, ◌∙◌, ap, subst, arith}
use Rattle.std.specs.Prelude.{map, reverse, if◌then◌else◌}
use Rattle.std.proofs.lemmas.Bool.{and_parts, eq-eqb, ne_eqb}
use Rattle.std.proofs.lemmas.List.{map-append}
use mathlib.Core.List.{reverse-cons, map-map}
use Rattle.mux_history.specs.declared.name.Name.{Name}
use Rattle.mux_history.specs.declared.record.Record.{Record}
use Rattle.mux_history.specs.declared.session.InitMode.TheVariants.{Plain}
use Rattle.mux_history.specs.declared.session.SessionId.TheVariants.{Client}
use Rattle.mux_history.specs.Readings.{present, has_ended, is_named, tag_of, drain_of, book as book_of}
use Rattle.mux_model.specs.Steps.{records}
use Rattle.mux_history.specs.declared.kind.Standing.TheVariants.{Down}
use Rattle.mux_model.specs.Down.{is_held}
use Rattle.mux_model.specs.Replay.{DownOutline, down_entry, down_outline, is_open_entry, is_down_history, is_joined, are_histories}
use Rattle.mux_model.proofs.Epochs.{down_outline_present}
use Rattle.mux_legal.specs.KeptHistories.{AreFaultlessAlone}
use Rattle.mux_legal.proofs.Following.{epochs_split}
use Rattle.mux_legal.proofs.KeptAlone.{kept_histories_are_faultless}
use Rattle.mux_legal.proofs.SessionsRecorded.{reached_down}
use Rattle.translate_book.specs.declared.entry.Entry.{Entry}
use Rattle.translate_book.specs.Book.{entry_at, Rises}
use Rattle.server_session.specs.Past.{Past, Words}
use Rattle.mux_history.specs.Standings.{down_standing}
use Rattle.mux_history.specs.Bounds.{Bounds}
use Rattle.server_session.specs.State.{State, stage, standing_in}
use Rattle.server_session.specs.Belonging.{Belongs, name_in}
use Rattle.server_session.proofs.Naming.{given}
use Rattle.server_session.proofs.Dispatches.{open_same}
use Rattle.server_session.proofs.Figures.{staged}
use Rattle.kept_session.specs.ReachedDown.{IsLedDown, KeptDown, IsKeptDown}
use Rattle.kept_session.specs.OutlinedDown.{ShowsDown, IsOutlinedDown, IsHistoryDown, IsFaultlessDown, told_of}
use Rattle.kept_session.proofs.Records.{rested, all_back}

map_reverse : {A B : Type 0} (f : A → B) (xs : List A) → map f (reverse xs) ≡ reverse (map f xs)
map_reverse f [] = refl
map_reverse f (x ∷ xs) =
    ap (map f) (reverse-cons x xs) ∙ map-append f (reverse xs) (x ∷ []) ∙ ap (λ ys. ys ++ f x ∷ []) (map_reverse f xs) ∙ sym (reverse-cons (f x) (map f xs))

-- two maps of an ordered list agree where they agree at each entry of it
agrees : {B : Type 0} (f g : ℕ × Entry → B) (low : ℕ) (es : List (ℕ × Entry)) (high : ℕ) → Rises low es high
    → ((seq : ℕ) (e : Entry) → entry_at seq es ≡ Some e → f (seq, e) ≡ g (seq, e)) → map f es ≡ map g es
agrees f g low [] high h same = refl
agrees f g low (x ∷ es) high h same =
    let here = same x.0 x.1 (ap (λ b. cond b (Some x.1) (entry_at x.0 es)) (eq-eqb x.0 x.0 refl)) in
    let rest = agrees f g x.0 es high h.1 (λ seq e at.
    let above = (given seq x.0 es e high h.1 at).0 in
    same seq e (ap (λ b. cond b (Some x.1) (entry_at seq es)) (ne_eqb seq x.0 (λ e. omega (arith, e, above))) ∙ at)) in
    λ i. here i ∷ rest i

-- it stands as its records say
pub stood : (s : State) (p : Past) → Belongs s p → standing_in s ≡ down_standing (records p.steps)
stood s p b = λ i. Down (b.init i) ((ap stage b.drain ∙ staged (drain_of (records p.steps))) i) (b.dispatches i)

module _ (s : State) (p : Past) (led : IsLedDown p) (b : Belongs s p) where
  abbrev rs : List Record
  rs = records p.steps

  -- an entry is open by its tag's holder, which the records tell
  open_told : (n : Name) → is_open_entry rs n ≡ is_held p.session n p.steps
  open_told n =
      let kept = (reached_down p.session p.steps led).0 in
      λ i. if has_ended rs then false else is_named n (kept.tied.linked (tag_of n rs) i)

  entry_told : (seq : ℕ) (e : Entry) → entry_at seq s.book ≡ Some e → told_of s (seq, e) ≡ down_entry p.session.limits rs (name_in p.session seq)
  entry_told seq e at =
      let words = (b.entries seq e at).words in
      let n = name_in p.session seq in
      λ i. record {
        name = record { boot = b.boot i; client = b.client i; seq = seq };
        tag = ap (λ (w : Words). w.tag) words i;
        is_open = (sym (open_same s p seq e b at) ∙ sym (open_told n)) i;
        noted = ap (λ (w : Words). w.noted) words i;
        note_due = ap (λ (w : Words). w.note) words i;
        answer_due = ap (λ (w : Words). w.answer) words i;
        recalled = ap (λ (w : Words). w.recalled) words i;
        left = ap (λ (w : Words). w.left) words i;
      }

  book_told : map (told_of s) s.book ≡ reverse (map (down_entry p.session.limits rs) (book_of rs))
  book_told =
      agrees (told_of s) (λ x. down_entry p.session.limits rs (name_in p.session x.0)) 0 s.book s.dispatches b.rises entry_told
      ∙ sym (map-map (down_entry p.session.limits rs) (λ x. name_in p.session x.0) s.book)
      ∙ ap (λ (ns : List Name). map (down_entry p.session.limits rs) ns) b.names
      ∙ map_reverse (down_entry p.session.limits rs) (book_of rs)

  shown : ShowsDown s (down_outline s.limits rs)
  shown = subst (λ (l : Bounds). ShowsDown s (down_outline l rs)) (sym b.limits) (record {
    book = book_told;
    standing = stood s p b;
    closed = b.closed;
    reading = b.reading;
    epoch = b.epoch;
  })

-- each record since the session was last at rest may follow those before it
follows : (p : Past) → IsLedDown p → is_down_history p.session (present (records p.steps)) ≡ true
follows p led =
    let joined = (reached_down p.session p.steps led).0.joined Plain in
    let all = sym (ap (are_histories p.session.limits p.session.boot Plain (Client p.session.number)) (epochs_split (records p.steps))) ∙ (and_parts _ _ joined).0 in
    (and_parts _ _ all).0

rests_faultless : (p : Past) → IsLedDown p → AreFaultlessAlone (present (records p.steps))
rests_faultless p led =
    kept_histories_are_faultless p.session.limits p.session.boot Plain (Client p.session.number) (present (records p.steps)) (follows p led)

pub outlined : (k : KeptDown) → IsKeptDown k → IsOutlinedDown k
outlined k kept =
    let p = kept.0 in
    let b = kept.2 in
    let s = k.state in
    record {
      whole = λ gone g. subst (λ (rs : List Record). ShowsDown s (down_outline s.limits rs))
          (sym (all_back (gone ++ k.ended) s.records g.0.steps g.3.all)) (shown s g.0 g.1 g.2);
      joined = λ p led b. shown s p led b;
      alone = λ h. subst (λ (o : DownOutline). ShowsDown s o)
          (sym (down_outline_present s.limits (records p.steps)) ∙ ap (λ (rs : List Record). down_outline s.limits rs) (rested s.records p.steps b.records h))
          (shown s p kept.1 b);
    }

pub followed : (k : KeptDown) → IsKeptDown k → IsHistoryDown k
followed k kept =
    let p = kept.0 in
    let b = kept.2 in
    let s = k.state in
    let mine : (p : Past) → Belongs s p → p.session ≡ record { limits = s.limits; boot = s.boot; number = s.client } =
    λ p b i. record { limits = sym b.limits i; boot = sym b.boot i; number = sym b.client i } in
    record {
      whole = λ gone g mode. sym (λ i. is_joined (mine g.0 g.2 i).limits (mine g.0 g.2 i).boot mode (Client (mine g.0 g.2 i).number) (sym (all_back (gone ++ k.ended) s.records g.0.steps g.3.all) i))
          ∙ (reached_down g.0.session g.0.steps g.1).0.joined mode;
      joined = λ p led b mode. (reached_down p.session p.steps led).0.joined mode;
      alone = λ h. sym (λ i. is_down_history (mine p b i) (rested s.records p.steps b.records h i)) ∙ follows p kept.1;
    }

-- it shows no fault by itself
pub alone : (k : KeptDown) → IsKeptDown k → IsFaultlessDown k
alone k kept = record {
  whole = λ gone g. subst (λ (rs : List Record). AreFaultlessAlone (present rs))
      (sym (all_back (gone ++ k.ended) k.state.records g.0.steps g.3.all)) (rests_faultless g.0 g.1);
  joined = λ p led b. rests_faultless p led;
  alone = λ h. kept_histories_are_faultless k.state.limits k.state.boot Plain (Client k.state.client) (reverse k.state.records) ((followed k kept).alone h);
}
