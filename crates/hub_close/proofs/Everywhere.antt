-- What holds of every record of all histories.
use Rattle.std.proofs.Common.{List, [], ◌∷◌, ◌≡◌, ◌&&◌, Bool, refl, ◌∙◌, ap}
use Rattle.std.specs.Prelude.{map}
use Rattle.std.specs.List.{list_all}
use Rattle.std.proofs.lemmas.List.Folds.{list_all-append}
use Rattle.mux_history.specs.Log.{Log}
use Rattle.mux_history.specs.declared.record.Record.{Record}
use Rattle.mux_agree.specs.declared.agreement.histories.DownHistory.{DownHistory}
use Rattle.mux_agree.specs.declared.agreement.histories.UpHistory.{UpHistory}
use Rattle.mux_agree.specs.Walk.{Kept, joined, kept_down, kept_up, histories, all_records}
use Rattle.mux_agree.proofs.Searches.{all_records-append}

all_joined : (p : Record → Bool) (hs : List Log) → list_all p (joined hs) ≡ list_all (λ h. list_all p h.records) hs
all_joined p [] = refl
all_joined p (h ∷ hs) = list_all-append p h.records (joined hs) ∙ ap (λ b. list_all p h.records && b) (all_joined p hs)

all_kept : {H : Type 0} (kept : H → Kept) (epochs : H → List Log) (p : Record → Bool) →
    ((h : H) → (kept h).records ≡ joined (epochs h)) → (hs : List H) →
    list_all p (all_records (map kept hs)) ≡ list_all (λ h. list_all (λ e. list_all p e.records) (epochs h)) hs
all_kept kept epochs p is [] = refl
all_kept kept epochs p is (h ∷ hs) =
    list_all-append p (kept h).records (all_records (map kept hs))
    ∙ λ i. (ap (list_all p) (is h) ∙ all_joined p (epochs h)) i && all_kept kept epochs p is hs i

-- in the clients' histories and in the servers'
pub all_records_all : (p : Record → Bool) (downs : List DownHistory) (ups : List UpHistory) →
    list_all p (all_records (histories downs ups))
    ≡ (list_all (λ h. list_all (λ e. list_all p e.records) h.epochs.items) downs && list_all (λ h. list_all (λ e. list_all p e.records) h.epochs.items) ups)
all_records_all p downs ups =
    ap (list_all p) (all_records-append (map kept_down downs) (map kept_up ups))
    ∙ (list_all-append p (all_records (map kept_down downs)) (all_records (map kept_up ups))
    ∙ λ i. all_kept kept_down (λ h. h.epochs.items) p (λ h. refl) downs i && all_kept kept_up (λ h. h.epochs.items) p (λ h. refl) ups i)
