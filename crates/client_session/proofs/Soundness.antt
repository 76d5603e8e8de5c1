-- What a change of the entries leaves of the invariant and of the free places.
use Rattle.std.proofs.Common.{◌≡◌, ℕ, ◌+◌, ◌-◌, ◌≤◌, Bool, true, false, cond, None, Some, ap, arith, ◌∙◌, refl, sym, subst, inl, inr}
use Rattle.std.specs.Prelude.{not, ◌<◌, ◌^◌, IsSome, Option}
use Rattle.std.specs.FinMap as map
use Rattle.std.specs.Prelude.{map as map_list, length}
use Rattle.std.specs.VecDeque.{deque_len}
use Rattle.std.proofs.lemmas.List.{length-map}
use Rattle.std.specs.Ordering.{nat_cmp, eq_by_cmp}
use Rattle.std.specs.Cmp.{nat_cmp_total}
use Rattle.tag_pool.specs.Pool.{Pool}
use Rattle.client_session.specs.Past.{Dispatch}
use Rattle.client_session.specs.Decide.{free_out, free_records}
use Rattle.client_session.specs.declared.session.ClientSession.TheInside.{Inside}
use Rattle.client_session.specs.State.{figures_in, fresh_in}
use Rattle.client_session.specs.Inside.{state_of, IsSound}
use Rattle.client_session.proofs.Entries.{same_or, no_tie, fresh_in-insert, fresh_in-remove, len-insert_new, len-remove_held, fresh_in-replace, len-replace}

-- the frames queued, counted
pub queued_in : (i : Inside) → length (map_list (λ f. f.frame) i.queue.items) ≡ deque_len i.queue
queued_in i = length-map i.queue.items (λ f. f.frame) ∙ sym i.queue.ok.0

-- the tags held, once one is given back or taken
abbrev pub InTags : map.FinMap nat_cmp Dispatch → Type 0
InTags m = (t : ℕ) → IsSome (map.get m t) → t < 2 ^ 24

some_none : (b : Bool) (o : Option Dispatch) → IsSome (cond b None o) → IsSome o
some_none true o h = cc
some_none false o h = h

tags_removed : (m : map.FinMap nat_cmp Dispatch) (tag : ℕ) → InTags m → InTags (map.remove m tag)
tags_removed m tag in_tags t h =
    in_tags t (some_none (eq_by_cmp nat_cmp t tag) (map.get m t) (rw (map.get-remove nat_cmp_total m tag t) at h))

some_either : (b : Bool) (d : Dispatch) (o : Option Dispatch) (A : Type 0) → (b ≡ true → A) → (IsSome o → A) → IsSome (cond b (Some d) o) → A
some_either true d o A here there h = here refl
some_either false d o A here there h = there h

tags_inserted : (m : map.FinMap nat_cmp Dispatch) (tag : ℕ) (d : Dispatch) → tag < 2 ^ 24 → InTags m → InTags (map.insert m tag d)
tags_inserted m tag d range in_tags t h =
    some_either (eq_by_cmp nat_cmp t tag) d (map.get m t) (t < 2 ^ 24)
    (λ e. subst (λ (k : ℕ). k < 2 ^ 24) (sym (tie t tag e)) range)
    (in_tags t)
    (rw (map.get-insert nat_cmp_total m tag d t) at h)
  where
    tie : (a b : ℕ) → eq_by_cmp nat_cmp a b ≡ true → a ≡ b
    tie a b e = elim (same_or a b) [ inl is ↦ is | inr not ↦ absurd (let x : false ≡ true = sym (no_tie a b not) ∙ e in cc) ]

-- the fields with other entries and another count
abbrev pub with_entries : Inside → Pool Dispatch → ℕ → Inside
with_entries i pool fresh = record i { entries = pool; fresh = fresh }

pub record Released (i : Inside) (pool : Pool Dispatch) (fresh : ℕ) : Type 0 where
  pub sound : IsSound (with_entries i pool fresh)
  pub records : free_records (figures_in (state_of i)) + 1 ≤ free_records (figures_in (state_of (with_entries i pool fresh)))

released : (i : Inside) (pool : Pool Dispatch) (fresh tag : ℕ) (h : Dispatch) → IsSound i
    → map.get i.entries.entries tag ≡ Some h → pool ≡ record i.entries { entries = map.remove i.entries.entries tag }
    → fresh + cond (not h.recalled) 1 0 ≡ i.fresh → Released i pool fresh
released i pool fresh tag h s held is count =
    let fewer = fresh_in-remove i.entries.entries tag h held in
    let less = len-remove_held i.entries.entries tag h held in
    rw is record {
      sound = record {
        history_room = s.history_room;
        pool_room = s.pool_room;
        queue_room = s.queue_room;
        tags = tags_removed i.entries.entries tag s.tags;
        counted = omega (arith, s.counted);
        records_kept = omega (arith, s.records_kept);
        out_kept = omega (arith, s.out_kept);
      };
      records = omega (arith, s.records_kept, s.counted);
    }

-- what goes was not recalled, so it had places kept for its Tdiscarded
pub released_fresh : (i : Inside) (pool : Pool Dispatch) (tag : ℕ) (h : Dispatch) → IsSound i
    → map.get i.entries.entries tag ≡ Some h → pool ≡ record i.entries { entries = map.remove i.entries.entries tag }
    → h.recalled ≡ false → (1 ≤ i.fresh) × Released i pool (i.fresh - 1)
released_fresh i pool tag h s held is new =
    let fewer : fresh_in i.entries.entries ≡ 1 + fresh_in (map.remove i.entries.entries tag) =
    fresh_in-remove i.entries.entries tag h held ∙ ap (λ (b : Bool). cond (not b) 1 0 + fresh_in (map.remove i.entries.entries tag)) new in
    let one : ◌≡◌ {A = ℕ} (cond (not h.recalled) 1 0) 1 = ap (λ (b : Bool). cond (not b) 1 0) new in (
      omega (arith, fewer, s.counted),
      released i pool (i.fresh - 1) tag h s held is (omega (arith, fewer, one, s.counted)),
    )

pub released_recalled : (i : Inside) (pool : Pool Dispatch) (tag : ℕ) (h : Dispatch) → IsSound i
    → map.get i.entries.entries tag ≡ Some h → pool ≡ record i.entries { entries = map.remove i.entries.entries tag }
    → h.recalled ≡ true → Released i pool i.fresh
released_recalled i pool tag h s held is old =
    let none : ◌≡◌ {A = ℕ} (cond (not h.recalled) 1 0) 0 = ap (λ (b : Bool). cond (not b) 1 0) old in
    released i pool i.fresh tag h s held is (omega (arith, none))

pub record Accepted (i : Inside) (pool : Pool Dispatch) : Type 0 where
  pub sound : IsSound (with_entries i pool (i.fresh + 1))
  pub records : 1 ≤ free_records (figures_in (state_of (with_entries i pool (i.fresh + 1))))
  pub out : 1 ≤ free_out (figures_in (state_of (with_entries i pool (i.fresh + 1))))

pub accepted : (i : Inside) (pool : Pool Dispatch) (tag : ℕ) (h : Dispatch) → IsSound i → h.recalled ≡ false
    → map.get i.entries.entries tag ≡ None → tag < 2 ^ 24 → pool ≡ record i.entries { entries = map.insert i.entries.entries tag h }
    → 2 ≤ free_out (figures_in (state_of i)) → 3 ≤ free_records (figures_in (state_of i)) → Accepted i pool
accepted i pool tag h s new vacant range is out records =
    let more : fresh_in (map.insert i.entries.entries tag h) ≡ 1 + fresh_in i.entries.entries =
    fresh_in-insert i.entries.entries tag h vacant ∙ ap (λ (b : Bool). cond (not b) 1 0 + fresh_in i.entries.entries) new in
    let longer = len-insert_new i.entries.entries tag h vacant in
    let long = queued_in i in
    rw is record {
      sound = record {
        history_room = s.history_room;
        pool_room = s.pool_room;
        queue_room = s.queue_room;
        tags = tags_inserted i.entries.entries tag h range s.tags;
        counted = omega (arith, s.counted);
        records_kept = omega (arith, s.records_kept, s.counted, longer, more);
        out_kept = omega (arith, s.out_kept, s.counted);
      };
      records = omega (arith, s.counted, longer, more);
      out = omega (arith, s.counted, more);
    }

pub record Marked (i : Inside) (pool : Pool Dispatch) : Type 0 where
  pub some : 1 ≤ i.fresh
  pub sound : IsSound (with_entries i pool (i.fresh - 1))
  pub records : free_records (figures_in (state_of i)) + 1 ≤ free_records (figures_in (state_of (with_entries i pool (i.fresh - 1))))
  pub out : free_out (figures_in (state_of i)) + 1 ≤ free_out (figures_in (state_of (with_entries i pool (i.fresh - 1))))

pub marked : (i : Inside) (pool : Pool Dispatch) (tag : ℕ) (h : Dispatch) → IsSound i → map.get i.entries.entries tag ≡ Some h → h.recalled ≡ false
    → pool ≡ record i.entries { entries = map.insert i.entries.entries tag (record h { recalled = true }) } → Marked i pool
marked i pool tag h s held new is =
    let before : fresh_in i.entries.entries ≡ 1 + fresh_in (map.remove i.entries.entries tag) =
    fresh_in-remove i.entries.entries tag h held ∙ ap (λ (b : Bool). cond (not b) 1 0 + fresh_in (map.remove i.entries.entries tag)) new in
    let after = fresh_in-replace i.entries.entries tag (record h { recalled = true }) in
    let long = len-remove_held i.entries.entries tag h held in
    let same = len-replace i.entries.entries tag (record h { recalled = true }) in
    let queued = queued_in i in
    rw is (record {
      some = omega (arith, s.counted);
      sound = record {
        history_room = s.history_room;
        pool_room = s.pool_room;
        queue_room = s.queue_room;
        tags = tags_inserted i.entries.entries tag (record h { recalled = true }) (s.tags tag (rw held refl)) s.tags;
        counted = omega (arith, s.counted);
        records_kept = omega (arith, s.records_kept, s.counted, long, same, after, before);
        out_kept = omega (arith, s.out_kept, s.counted);
      };
      records = omega (arith, s.records_kept, s.counted, long, same, after, before);
      out = omega (arith, s.out_kept, s.counted, after, before);
    })

pub none_held : InTags map.empty
none_held t h = absurd (not_held (map.get map.empty t) (map.get-empty nat_cmp t) h)
  where
    not_held : (o : Option Dispatch) → o ≡ None → IsSome o → ⊥
    not_held None e h = cc
    not_held (Some d) e h = cc
