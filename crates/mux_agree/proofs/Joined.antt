-- Epochs joined, one epoch further.
use Rattle.std.proofs.Common.{ℕ, List, [], ◌∷◌, ◌++◌, ◌+◌, ◌≡◌, ◌<◌, ◌≤◌, refl, sym, ◌∙◌, ap, length, take, get_or, append_assoc}
use Rattle.std.specs.Prelude.{map, reverse}
use Rattle.std.proofs.lemmas.List.{take_more, take_all, append-nil, reverse-append}
use Rattle.std.proofs.lemmas.Grind.{flat_map-append}
use Rattle.mux_history.specs.Log.{Log}
use Rattle.mux_history.specs.declared.record.Record.{Record}
use Rattle.mux_agree.specs.Walk.{Kept, all_records, joined}
use Rattle.mux_agree.specs.Outlines.{read}

pub joined_more : (hs : List Log) (k : ℕ) (d : Log) → k < length hs → joined (take (k + 1) hs) ≡ joined (take k hs) ++ (get_or hs k d).records
joined_more hs k d h =
    ap joined (take_more hs k d h)
    ∙ (flat_map-append (λ l. l.records) (take k hs) (get_or hs k d ∷ [])
    ∙ ap (λ rs. joined (take k hs) ++ rs) (append-nil (get_or hs k d).records))

pub map-append_one : {H : Type 0} (kept : H → Kept) (hs : List H) (h : H) →
    all_records (map kept (hs ++ h ∷ [])) ≡ all_records (map kept hs) ++ (kept h).records
map-append_one kept [] h = append-nil (kept h).records
map-append_one kept (x ∷ xs) h =
    ap (λ rs. (kept x).records ++ rs) (map-append_one kept xs h) ∙ sym (append_assoc (kept x).records (all_records (map kept xs)) (kept h).records)

pub read-append : {S : Type 0} (step : Record → S → S) (start : S) (xs ys : List Record) → read step start (xs ++ ys) ≡ read step (read step start ys) xs
read-append step start [] ys = refl
read-append step start (r ∷ xs) ys = ap (step r) (read-append step start xs ys)

pub read_all : {S : Type 0} (step : Record → S → S) (start : S) (older present : List Record) →
    read step (read step start (reverse older)) (reverse present) ≡ read step start (reverse (older ++ present))
read_all step start older present =
    sym (ap (read step start) (reverse-append older present) ∙ read-append step start (reverse present) (reverse older))

-- one record further
pub read_next : {S : Type 0} (step : Record → S → S) (start : S) (rs : List Record) (k : ℕ) (d : Record) → k < length rs →
    step (get_or rs k d) (read step start (reverse (take k rs))) ≡ read step start (reverse (take (k + 1) rs))
read_next step start rs k d h =
    sym (ap (λ l. read step start (reverse l)) (take_more rs k d h) ∙ ap (read step start) (reverse-append (take k rs) (get_or rs k d ∷ [])))

-- one epoch further, where the program lends its records
pub read_more : {S : Type 0} (step : Record → S → S) (start : S) (hs : List Log) (k : ℕ) (d : Log) → k < length hs → d ≡ get_or hs k d →
    (rs : List Record) → rs ≡ d.records → (o : S) → o ≡ read step start (reverse (joined (take k hs))) →
    read step o (reverse rs) ≡ read step start (reverse (joined (take (k + 1) hs)))
read_more step start hs k d h is rs value o e =
    ap (λ x. read step x (reverse rs)) e
    ∙ (ap (λ x. read step (read step start (reverse (joined (take k hs)))) (reverse x)) (value ∙ ap (λ x. x.records) is)
    ∙ (read_all step start (joined (take k hs)) (get_or hs k d).records
    ∙ ap (λ x. read step start (reverse x)) (sym (joined_more hs k d h))))

-- behind all epochs
pub read_end : {S : Type 0} (step : Record → S → S) (start : S) (hs : List Log) (k : ℕ) → length hs ≤ k → (present : List Record) →
    (o : S) → o ≡ read step start (reverse (joined (take k hs))) → read step o (reverse present) ≡ read step start (reverse (joined hs ++ present))
read_end step start hs k h present o e =
    ap (λ x. read step x (reverse present)) (e ∙ ap (λ l. read step start (reverse (joined l))) (take_all k hs h))
    ∙ read_all step start (joined hs) present
