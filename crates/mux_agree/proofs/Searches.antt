-- What is found in histories is found in one of them.
use Rattle.std.proofs.Common.{List, [], ◌∷◌, ◌++◌, ◌≡◌, ◌||◌, Bool, refl, ◌∙◌, ap}
use Rattle.std.specs.Prelude.{map, reverse, filter}
use Rattle.std.specs.List.{list_any}
use Rattle.std.proofs.lemmas.List.Folds.{list_any-append}
use Rattle.std.proofs.lemmas.Grind.{flat_map-append}
use Rattle.mux_history.specs.Log.{Log}
use Rattle.mux_history.specs.declared.name.Name.{Name}
use Rattle.mux_history.specs.declared.record.Record.{Record}
use Rattle.mux_history.specs.declared.kind.RecordKind.{RecordKind}
use Rattle.mux_agree.specs.declared.agreement.histories.DownHistory.{DownHistory}
use Rattle.mux_agree.specs.declared.agreement.histories.UpHistory.{UpHistory}
use Rattle.mux_agree.specs.Agree.{has}
use Rattle.mux_agree.specs.Walk.{Kept, joined, kept_down, kept_up, histories, all_records, client_records, is_client}
use Rattle.mux_agree.proofs.Backwards.{list_any-reverse}

pub has_append : (p : RecordKind → Bool) (n : Name) (rs ss : List Record) → has p n (rs ++ ss) ≡ (has p n rs || has p n ss)
has_append p n rs ss = list_any-append _ rs ss

pub all_records-append : (hs ks : List Kept) → all_records (hs ++ ks) ≡ all_records hs ++ all_records ks
all_records-append hs ks = flat_map-append (λ h. h.records) hs ks

-- in one of the epochs
has_joined : (p : RecordKind → Bool) (n : Name) (hs : List Log) → has p n (joined hs) ≡ list_any (λ h. has p n h.records) hs
has_joined p n [] = refl
has_joined p n (h ∷ hs) = has_append p n h.records (joined hs) ∙ ap (λ b. has p n h.records || b) (has_joined p n hs)

-- before a record: in an epoch before its own, or in its own
pub has_past : (p : RecordKind → Bool) (n : Name) (older : List Log) (present : List Record) →
    has p n (reverse (joined older ++ present)) ≡ (list_any (λ h. has p n h.records) older || has p n present)
has_past p n older present =
    list_any-reverse _ (joined older ++ present)
    ∙ (has_append p n (joined older) present ∙ ap (λ b. b || has p n present) (has_joined p n older))

has-kept : {H : Type 0} (kept : H → Kept) (epochs : H → List Log) (p : RecordKind → Bool) (n : Name) →
    ((h : H) → (kept h).records ≡ joined (epochs h)) → (hs : List H) →
    has p n (all_records (map kept hs)) ≡ list_any (λ h. list_any (λ e. has p n e.records) (epochs h)) hs
has-kept kept epochs p n is [] = refl
has-kept kept epochs p n is (h ∷ hs) =
    has_append p n (kept h).records (all_records (map kept hs))
    ∙ λ i. (ap (has p n) (is h) ∙ has_joined p n (epochs h)) i || has-kept kept epochs p n is hs i

has-downs : (p : RecordKind → Bool) (n : Name) (downs : List DownHistory) →
    has p n (all_records (map kept_down downs)) ≡ list_any (λ h. list_any (λ e. has p n e.records) h.epochs.items) downs
has-downs p n downs = has-kept kept_down (λ h. h.epochs.items) p n (λ h. refl) downs

has-ups : (p : RecordKind → Bool) (n : Name) (ups : List UpHistory) →
    has p n (all_records (map kept_up ups)) ≡ list_any (λ h. list_any (λ e. has p n e.records) h.epochs.items) ups
has-ups p n ups = has-kept kept_up (λ h. h.epochs.items) p n (λ h. refl) ups

-- in the clients' histories or in the servers'
pub has_all : (p : RecordKind → Bool) (n : Name) (downs : List DownHistory) (ups : List UpHistory) →
    has p n (all_records (histories downs ups))
    ≡ (list_any (λ h. list_any (λ e. has p n e.records) h.epochs.items) downs || list_any (λ h. list_any (λ e. has p n e.records) h.epochs.items) ups)
has_all p n downs ups =
    ap (has p n) (all_records-append (map kept_down downs) (map kept_up ups))
    ∙ (has_append p n (all_records (map kept_down downs)) (all_records (map kept_up ups))
    ∙ λ i. has-downs p n downs i || has-ups p n ups i)

-- the clients' histories alone
only_downs : (ups : List UpHistory) (downs : List DownHistory) → filter (λ h. is_client h.session) (histories downs ups) ≡ map kept_down downs
only_downs [] [] = refl
only_downs (u ∷ ups) [] = only_downs ups []
only_downs ups (d ∷ downs) = ap (λ hs. kept_down d ∷ hs) (only_downs ups downs)

pub client_records_are : (downs : List DownHistory) (ups : List UpHistory) → client_records (histories downs ups) ≡ all_records (map kept_down downs)
client_records_are downs ups = ap all_records (only_downs ups downs)

pub has_clients : (p : RecordKind → Bool) (n : Name) (downs : List DownHistory) (ups : List UpHistory) →
    has p n (client_records (histories downs ups)) ≡ list_any (λ h. list_any (λ e. has p n e.records) h.epochs.items) downs
has_clients p n downs ups = ap (has p n) (client_records_are downs ups) ∙ has-downs p n downs
