-- Counts of records, one epoch and one history further.
use Rattle.std.proofs.Common.{ℕ, List, ◌++◌, ◌+◌, ◌≡◌, ◌<◌, ◌∙◌, ap, sym, subst, length, take, get_or}
use Rattle.std.specs.Prelude.{map}
use Rattle.std.proofs.lemmas.List.{take_more}
use Rattle.mux_history.specs.Counting.{IsCount, IsSum}
use Rattle.mux_history.specs.declared.counts.KindCounts.{KindCounts}
use Rattle.mux_history.specs.Log.{Log}
use Rattle.mux_history.specs.declared.record.Record.{Record}
use Rattle.mux_history.proofs.Counting.{counts-append}
use Rattle.mux_agree.specs.declared.agreement.histories.DownHistory.{DownHistory}
use Rattle.mux_agree.specs.declared.agreement.histories.UpHistory.{UpHistory}
use Rattle.mux_agree.specs.Walk.{Kept, joined, kept_down, kept_up, histories, all_records}
use Rattle.mux_agree.proofs.Searches.{all_records-append}
use Rattle.mux_agree.proofs.Joined.{joined_more, map-append_one}

-- counts of each kind, one epoch further
pub kinds_epoch : (old one new : KindCounts) (hs : List Log) (k : ℕ) (d h : Log) → k < length hs → IsCount old (joined (take k hs))
    → h ≡ get_or hs k d → IsCount one h.records → IsSum old one new → IsCount new (joined (take (k + 1) hs))
kinds_epoch old one new hs k d h is was met more sum =
    subst (IsCount new) (ap (λ x. joined (take k hs) ++ x.records) met ∙ sym (joined_more hs k d is))
    (counts-append old one new (joined (take k hs)) h.records was more sum)

-- one history further
pub kinds_kept : {H : Type 0} (kept : H → Kept) (old one new : KindCounts) (hs : List H) (k : ℕ) (d h : H) (rs : List Record) → k < length hs
    → IsCount old (all_records (map kept (take k hs))) → h ≡ get_or hs k d → IsCount one rs → rs ≡ (kept h).records → IsSum old one new
    → IsCount new (all_records (map kept (take (k + 1) hs)))
kinds_kept kept old one new hs k d h rs is was met more of sum =
    subst (IsCount new)
    (ap (λ xs. all_records (map kept (take k hs)) ++ xs) (of ∙ ap (λ x. (kept x).records) met)
    ∙ sym (ap (λ xs. all_records (map kept xs)) (take_more hs k d is) ∙ map-append_one kept (take k hs) (get_or hs k d)))
    (counts-append old one new (all_records (map kept (take k hs))) rs was more sum)

pub kinds_all : (a b c : KindCounts) (downs : List DownHistory) (ups : List UpHistory) → IsCount a (all_records (map kept_down downs))
    → IsCount b (all_records (map kept_up ups)) → IsSum a b c → IsCount c (all_records (histories downs ups))
kinds_all a b c downs ups is_a is_b sum =
    subst (IsCount c) (sym (all_records-append (map kept_down downs) (map kept_up ups)))
    (counts-append a b c (all_records (map kept_down downs)) (all_records (map kept_up ups)) is_a is_b sum)
