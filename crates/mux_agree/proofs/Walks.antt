-- The walk, one record and one history further.
use Rattle.std.proofs.Common.{length, get_or, take, drop, ℕ, List, [], ◌∷◌, ◌++◌, ◌+◌, ◌≡◌, ◌<◌, refl, sym, ◌∙◌, ap, append_assoc, Option, Some, None, add-one}
use Rattle.std.specs.Prelude.{map, reverse}
use Rattle.std.proofs.lemmas.List.{take_more, append-nil, reverse-append}
use Rattle.std.proofs.Math.Seq.{drop-cons}
use Rattle.mux_history.specs.Log.{Log}
use Rattle.mux_history.specs.declared.record.Record.{Record}
use Rattle.mux_history.specs.declared.session.InitMode.{InitMode}
use Rattle.mux_history.specs.declared.session.InitMode.TheVariants.{Plain}
use Rattle.mux_history.specs.declared.session.SessionId.{SessionId}
use Rattle.mux_agree.specs.declared.agreement.disagreement.Disagreement.{Disagreement}
use Rattle.mux_agree.specs.declared.agreement.disagreement.DisagreementCause.{DisagreementCause}
use Rattle.mux_agree.specs.Agree.{cause_of}
use Rattle.mux_agree.specs.declared.agreement.histories.DownHistory.{DownHistory}
use Rattle.mux_agree.specs.declared.agreement.histories.UpHistory.{UpHistory}
use Rattle.mux_history.specs.declared.session.SessionId.TheVariants.{Client, Server}
use Rattle.mux_agree.specs.Walk.{kept_down, kept_up, histories, first_fault, Kept, Stop, stops_in, stops, told, cause_at, or_else, first_among, all_records, client_records, joined}
use Rattle.mux_agree.proofs.Joined.{joined_more, map-append_one}
use Rattle.mux_agree.proofs.Searches.{all_records-append}

-- what is left behind a place
pub drop_more : {A : Type 0} (xs : List A) (k : ℕ) (d : A) → k < length xs → drop k xs ≡ get_or xs k d ∷ drop (k + 1) xs
drop_more xs k d h = drop-cons xs k d h ∙ ap (λ n. get_or xs k d ∷ drop n xs) (sym (add-one k))

-- the records before a place, the newest first
abbrev pub past_at : (older rs : List Record) → ℕ → List Record
past_at older rs k = reverse (older ++ take k rs)

past_more : (older rs : List Record) (k : ℕ) (d : Record) → k < length rs → get_or rs k d ∷ past_at older rs k ≡ past_at older rs (k + 1)
past_more older rs k d h =
    sym (ap (λ xs. reverse (older ++ xs)) (take_more rs k d h)
    ∙ (ap reverse (sym (append_assoc older (take k rs) (get_or rs k d ∷ []))) ∙ reverse-append (older ++ take k rs) (get_or rs k d ∷ [])))

-- the first fault of what is left of an epoch
abbrev pub first_left : (clients all earlier : List Record) → SessionId → InitMode → (older rs : List Record) → ℕ → Option Disagreement
first_left clients all earlier id mode older rs k = first_among clients all (stops_in earlier id mode (past_at older rs k) (drop k rs))

pub left_from : (clients all earlier : List Record) (id : SessionId) (mode : InitMode) (older rs : List Record) →
    first_left clients all earlier id mode older rs 0 ≡ first_among clients all (stops_in earlier id mode (reverse older) rs)
left_from clients all earlier id mode older rs = ap (λ p. first_among clients all (stops_in earlier id mode (reverse p) rs)) (append-nil older)

-- it is that of the record at the place, else that of what is left behind it
pub left_more : (clients all earlier : List Record) (id : SessionId) (mode : InitMode) (older rs : List Record) (k : ℕ) (d : Record) → k < length rs → d ≡ get_or rs k d →
    (o : Option DisagreementCause) → o ≡ cause_of mode id clients all (past_at older rs k ++ earlier) (past_at older rs k) d →
    first_left clients all earlier id mode older rs k
    ≡ or_else (told id (length (past_at older rs k)) o) (first_left clients all earlier id mode older rs (k + 1))
left_more clients all earlier id mode older rs k d h is o e =
    ap (λ xs. first_among clients all (stops_in earlier id mode (past_at older rs k) xs)) (drop_more rs k d h)
    ∙ λ i. or_else
    (told id (length (past_at older rs k)) ((ap (cause_of mode id clients all (past_at older rs k ++ earlier) (past_at older rs k)) (sym is) ∙ sym e) i))
    (first_among clients all (stops_in earlier id mode (past_more older rs k d h i) (drop (k + 1) rs)))

-- a fault at the place, else one behind it
abbrev pub told_else : SessionId → (older rs : List Record) → ℕ → Option DisagreementCause → Option Disagreement → Option Disagreement
told_else id older rs k cause behind = or_else (told id (length (past_at older rs k)) cause) behind

stops_in-append : (earlier : List Record) (id : SessionId) (mode : InitMode) (past xs ys : List Record) →
    stops_in earlier id mode past (xs ++ ys) ≡ stops_in earlier id mode past xs ++ stops_in earlier id mode (reverse xs ++ past) ys
stops_in-append earlier id mode past [] ys = refl
stops_in-append earlier id mode past (r ∷ xs) ys =
    ap (λ ss. record { session = id; mode = mode; earlier = earlier; past = past; entry = r } ∷ ss)
    (stops_in-append earlier id mode (r ∷ past) xs ys
    ∙ ap (λ p. stops_in earlier id mode (r ∷ past) xs ++ stops_in earlier id mode p ys) (shift xs r past))
  where
    shift : (xs : List Record) (r : Record) (past : List Record) → reverse xs ++ (r ∷ past) ≡ reverse (r ∷ xs) ++ past
    shift xs r past = sym (ap (λ l. l ++ past) (reverse-append (r ∷ []) xs) ∙ append_assoc (reverse xs) (r ∷ []) past)

pub first_among-append : (clients all : List Record) (ss ts : List Stop) → first_among clients all (ss ++ ts) ≡ or_else (first_among clients all ss) (first_among clients all ts)
first_among-append clients all [] ts = refl
first_among-append clients all (s ∷ ss) ts =
    ap (or_else (told s.session (length s.past) (cause_at clients all s))) (first_among-append clients all ss ts) ∙ or_else_assoc (told s.session (length s.past) (cause_at clients all s)) (first_among clients all ss) (first_among clients all ts)
  where
    or_else_assoc : (a b c : Option Disagreement) → or_else a (or_else b c) ≡ or_else (or_else a b) c
    or_else_assoc None b c = refl
    or_else_assoc (Some x) b c = refl

pub stops-append : (earlier : List Record) (hs ks : List Kept) → stops earlier (hs ++ ks) ≡ stops earlier hs ++ stops (earlier ++ all_records hs) ks
stops-append earlier [] ks = ap (λ e. stops e ks) (sym (append-nil earlier))
stops-append earlier (h ∷ hs) ks =
    let now = stops_in earlier h.session h.mode [] h.records in
    ap (λ ss. now ++ ss) (stops-append (earlier ++ h.records) hs ks)
    ∙ (sym (append_assoc now (stops (earlier ++ h.records) hs) (stops ((earlier ++ h.records) ++ all_records hs) ks))
    ∙ ap (λ e. (now ++ stops (earlier ++ h.records) hs) ++ stops e ks) (append_assoc earlier h.records (all_records hs)))

-- the records before a history, behind those of others
abbrev pub records_before : {H : Type 0} → (H → Kept) → List Record → List H → ℕ → List Record
records_before kept others hs k = others ++ all_records (map kept (take k hs))

-- the first fault of the histories that are left
abbrev pub first_behind : {H : Type 0} → (clients all : List Record) → (H → Kept) → List Record → List H → ℕ → Option Disagreement
first_behind clients all kept others hs k = first_among clients all (stops (records_before kept others hs k) (map kept (drop k hs)))

before_more : {H : Type 0} (kept : H → Kept) (others : List Record) (hs : List H) (k : ℕ) (d : H) → k < length hs →
    records_before kept others hs (k + 1) ≡ records_before kept others hs k ++ (kept (get_or hs k d)).records
before_more kept others hs k d h =
    ap (λ xs. others ++ all_records (map kept xs)) (take_more hs k d h)
    ∙ (ap (λ rs. others ++ rs) (map-append_one kept (take k hs) (get_or hs k d))
    ∙ sym (append_assoc others (all_records (map kept (take k hs))) (kept (get_or hs k d)).records))

-- it is that of the next history, else that of the histories behind it
pub first_behind_more : {H : Type 0} (clients all : List Record) (kept : H → Kept) (others : List Record) (hs : List H) (k : ℕ) (d : H) → k < length hs →
    (first : Option Disagreement) →
    first ≡ first_among clients all (stops_in (records_before kept others hs k) (kept (get_or hs k d)).session (kept (get_or hs k d)).mode [] (kept (get_or hs k d)).records) →
    first_behind clients all kept others hs k ≡ or_else first (first_behind clients all kept others hs (k + 1))
first_behind_more clients all kept others hs k d h first e =
    let before = records_before kept others hs k in
    let next = kept (get_or hs k d) in
    let now = stops_in before next.session next.mode [] next.records in
    let rest = map kept (drop (k + 1) hs) in
    ap (λ xs. first_among clients all (stops before (map kept xs))) (drop_more hs k d h)
    ∙ (first_among-append clients all now (stops (before ++ next.records) rest)
    ∙ (ap (λ f. or_else f (first_among clients all (stops (before ++ next.records) rest))) (sym e)
    ∙ ap (λ b. or_else first (first_among clients all (stops b rest))) (sym (before_more kept others hs k d h))))

-- one client further
pub client_more : (clients all : List Record) (downs : List DownHistory) (k : ℕ) (d : DownHistory) → k < length downs → d ≡ get_or downs k d →
    (es : List Log) → es ≡ d.epochs.items → (first : Option Disagreement) →
    first ≡ first_among clients all (stops_in (all_records (histories (take k downs) [])) (Client d.client) Plain [] (joined es)) →
    first_behind clients all kept_down [] downs k ≡ or_else first (first_behind clients all kept_down [] downs (k + 1))
client_more clients all downs k d h is es lent first e =
    first_behind_more clients all kept_down [] downs k d h first (e
    ∙ (ap (λ x. first_among clients all (stops_in (all_records (histories (take k downs) [])) (Client d.client) Plain [] (joined x))) lent
    ∙ (ap (λ x. first_among clients all (stops_in (all_records x) (Client d.client) Plain [] (joined d.epochs.items))) (append-nil (map kept_down (take k downs)))
    ∙ ap (λ x. first_among clients all (stops_in (all_records (map kept_down (take k downs))) (Client x.client) Plain [] (joined x.epochs.items))) is)))

-- one server further
pub server_more : (clients all : List Record) (downs : List DownHistory) (ups : List UpHistory) (k : ℕ) (d : UpHistory) → k < length ups → d ≡ get_or ups k d →
    (es : List Log) → es ≡ d.epochs.items → (first : Option Disagreement) →
    first ≡ first_among clients all (stops_in (all_records (histories downs (take k ups))) (Server d.server) d.mode [] (joined es)) →
    first_behind clients all kept_up (all_records (map kept_down downs)) ups k
    ≡ or_else first (first_behind clients all kept_up (all_records (map kept_down downs)) ups (k + 1))
server_more clients all downs ups k d h is es lent first e =
    let before = all_records (map kept_down downs) in
    first_behind_more clients all kept_up before ups k d h first (e
    ∙ (ap (λ x. first_among clients all (stops_in (all_records (histories downs (take k ups))) (Server d.server) d.mode [] (joined x))) lent
    ∙ (ap (λ x. first_among clients all (stops_in x (Server d.server) d.mode [] (joined d.epochs.items))) (all_records-append (map kept_down downs) (map kept_up (take k ups)))
    ∙ ap (λ x. first_among clients all (stops_in (before ++ all_records (map kept_up (take k ups))) (Server x.server) x.mode [] (joined x.epochs.items))) is)))

-- the first fault of the epochs that are left
abbrev pub first_epochs : (clients all earlier : List Record) → SessionId → InitMode → List Log → ℕ → Option Disagreement
first_epochs clients all earlier id mode hs k = first_among clients all (stops_in earlier id mode (reverse (joined (take k hs))) (joined (drop k hs)))

-- one epoch further, where the program lends its records
pub epochs_more : (clients all earlier : List Record) (id : SessionId) (mode : InitMode) (hs : List Log) (k : ℕ) (d : Log) → k < length hs → d ≡ get_or hs k d →
    (rs : List Record) → rs ≡ d.records → (first : Option Disagreement) →
    first ≡ first_among clients all (stops_in earlier id mode (reverse (joined (take k hs))) rs) →
    first_epochs clients all earlier id mode hs k ≡ or_else first (first_epochs clients all earlier id mode hs (k + 1))
epochs_more clients all earlier id mode hs k d h is rs value first e =
    let past = reverse (joined (take k hs)) in
    let now = (get_or hs k d).records in
    let rest = joined (drop (k + 1) hs) in
    ap (λ xs. first_among clients all (stops_in earlier id mode past (joined xs))) (drop_more hs k d h)
    ∙ (ap (first_among clients all) (stops_in-append earlier id mode past now rest)
    ∙ (first_among-append clients all (stops_in earlier id mode past now) (stops_in earlier id mode (reverse now ++ past) rest)
    ∙ λ i. or_else
    ((ap (λ x. first_among clients all (stops_in earlier id mode past x)) (sym (value ∙ ap (λ x. x.records) is)) ∙ sym e) i)
    (first_among clients all (stops_in earlier id mode ((sym (reverse-append (joined (take k hs)) now) ∙ ap reverse (sym (joined_more hs k d h))) i) rest))))

-- the first fault of the clients, or else of the servers
first_fault_split : (downs : List DownHistory) (ups : List UpHistory) → let clients = client_records (histories downs ups) in
    let all = all_records (histories downs ups) in
    first_fault (histories downs ups)
    ≡ or_else (first_among clients all (stops [] (map kept_down downs))) (first_among clients all (stops (all_records (map kept_down downs)) (map kept_up ups)))
first_fault_split downs ups =
    let clients = client_records (histories downs ups) in
    let all = all_records (histories downs ups) in
    ap (first_among clients all) (stops-append [] (map kept_down downs) (map kept_up ups))
    ∙ first_among-append clients all (stops [] (map kept_down downs)) (stops (all_records (map kept_down downs)) (map kept_up ups))

-- where a client is at fault, it is the first one's
pub first_fault_down : (downs : List DownHistory) (ups : List UpHistory) (d : Disagreement) →
    Some d ≡ first_among (client_records (histories downs ups)) (all_records (histories downs ups)) (stops [] (map kept_down downs)) → Some d ≡ first_fault (histories downs ups)
first_fault_down downs ups d e =
    let ups_first = first_among (client_records (histories downs ups)) (all_records (histories downs ups)) (stops (all_records (map kept_down downs)) (map kept_up ups)) in
    sym (first_fault_split downs ups ∙ ap (λ f. or_else f ups_first) (sym e))

-- where none is, it is that of the servers
pub first_fault_up : (downs : List DownHistory) (ups : List UpHistory) →
    None ≡ first_among (client_records (histories downs ups)) (all_records (histories downs ups)) (stops [] (map kept_down downs)) →
    first_among (client_records (histories downs ups)) (all_records (histories downs ups)) (stops (all_records (map kept_down downs)) (map kept_up ups)) ≡ first_fault (histories downs ups)
first_fault_up downs ups e =
    let ups_first = first_among (client_records (histories downs ups)) (all_records (histories downs ups)) (stops (all_records (map kept_down downs)) (map kept_up ups)) in
    sym (first_fault_split downs ups ∙ ap (λ f. or_else f ups_first) (sym e))
