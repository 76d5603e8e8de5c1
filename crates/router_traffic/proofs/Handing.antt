-- What one step of a reader hands in.
use Rattle.std.proofs.Common.{◌≡◌, ℕ, false, true, List, [], ◌∷◌, ◌++◌, Option, Some, None, length, refl, sym, ap, subst, ◌∙◌, append-nil, append_assoc}
use Rattle.std.proofs.lemmas.List.{nil_from_length}
use Rattle.mux_frame.specs.Views.{FrameView}
use Rattle.router_traffic.specs.Handing.{in_front, waits_in, HandsIn, Inflow, Runs, Steps}
use Rattle.router_traffic.specs.Handing.HandsIn.{none, comes, opens, run, ends}
use Rattle.router_traffic.specs.HandingLaws.{hands_then}

-- the same seat
pub seat_same : {H S : Type 0} {r : Runs H S} {i g : Steps H S} (a : Inflow H S) (o : Option S) → a.seat ≡ o
    → HandsIn r i g a [] (record a { seat = o })
seat_same {S = S} {r = r} {i = i} {g = g} a o is =
    subst (λ (x : Option S). HandsIn r i g a [] (record a { seat = x })) is none

-- the same frames wait
pub waits_same : {H S : Type 0} {r : Runs H S} {i g : Steps H S} (a : Inflow H S) (ws : List FrameView) → a.waits ≡ ws
    → HandsIn r i g a [] (record a { waits = ws })
waits_same {r = r} {i = i} {g = g} a ws is =
    subst (λ (xs : List FrameView). HandsIn r i g a [] (record a { waits = xs })) is none

-- no frame waited, and there is no batch
pub none_waits : {H S : Type 0} {r : Runs H S} {i g : Steps H S} (a : Inflow H S) (o : Option (List FrameView))
    → length a.waits ≡ 0 → o ≡ None → HandsIn r i g a [] (record a { waits = waits_in o })
none_waits a o is gone = waits_same a (waits_in o) (nil_from_length a.waits is ∙ sym (ap waits_in gone))

-- frames came, one after another
pub all_came : {H S : Type 0} {r : Runs H S} {i g : Steps H S} (a : Inflow H S) (had fs ws : List FrameView)
    → a.waits ≡ had → ws ≡ had ++ fs → HandsIn r i g a fs (record a { waits = ws })
all_came a had [] ws has is = waits_same a ws (has ∙ sym (append-nil had) ∙ sym is)
all_came a had (f ∷ fs) ws has is =
    hands_then (f ∷ []) fs (comes none f)
    (all_came (record a { waits = a.waits ++ f ∷ [] }) (had ++ f ∷ []) fs ws (ap (λ xs. xs ++ f ∷ []) has)
    (is ∙ sym (append_assoc had (f ∷ []) fs)))

-- the session was opened
pub opened : {H S : Type 0} {r : Runs H S} {i g : Steps H S} (a : Inflow H S) (t : S) (o : Option S) → a.seat ≡ None
    → o ≡ Some t → HandsIn r i g a [] (record a { seat = o })
opened {S = S} {r = r} {i = i} {g = g} a t o shut is =
    subst (λ (x : Option S). HandsIn r i g a [] (record a { seat = x })) (sym is) (opens none shut t)

-- nothing more is handed in
pub over : {H S : Type 0} {r : Runs H S} {i g : Steps H S} (a : Inflow H S)
    → HandsIn r i g a [] (record a { is_over = true })
over a = ends none [] a.waits refl

-- nor is the frame that came back
pub lost : {H S : Type 0} {r : Runs H S} {i g : Steps H S} (a : Inflow H S) (o : Option FrameView)
    → HandsIn r i g (in_front o a) [] (record a { is_over = true })
lost a None = ends none [] a.waits refl
lost a (Some f) = ends none (f ∷ []) a.waits refl

-- the frame that came back stands in front again
pub back_in_front : {H S : Type 0} {r : Runs H S} {i g : Steps H S} (a : Inflow H S) (f : FrameView)
    (had ws : List FrameView) → a.waits ≡ had → ws ≡ f ∷ had
    → HandsIn r i g (in_front (Some f) a) [] (record a { waits = ws })
back_in_front a f had ws has is = waits_same (in_front (Some f) a) ws (ap (λ xs. f ∷ xs) has ∙ sym is)

-- frames were handed in
pub handed : {H S : Type 0} {r : Runs H S} {i g : Steps H S} (a : Inflow H S) (s t : S) (now : ℕ)
    (had left : List FrameView) → a.is_over ≡ false → a.seat ≡ Some s → a.waits ≡ had
    → r a.router now had left s t → i a.router s t → HandsIn r i g a [] (record a { seat = Some t; waits = left })
handed {r = r} a s t now had left still seat has on same =
    run none still s t seat now left (subst (λ (ws : List FrameView). r a.router now ws left s t) (sym has) on) same

-- frames were handed in up to one that came back
pub handed_up_to : {H S : Type 0} {r : Runs H S} {i g : Steps H S} (a c : Inflow H S) (s t : S) (now : ℕ)
    (had left : List FrameView) (o : Option FrameView) → a.is_over ≡ false → a.seat ≡ Some s → a.waits ≡ had
    → (f : FrameView) × (o ≡ Some f) × r a.router now had (f ∷ left) s t → i a.router s t
    → HandsIn r i g (in_front o (record a { seat = Some t; waits = left })) [] c → HandsIn r i g a [] c
handed_up_to {r = r} {i = i} {g = g} a c s t now had left o still seat has on same then =
    let a' = record a { seat = Some t; waits = left } in
    hands_then [] [] (handed a s t now had (on.0 ∷ left) still seat has on.2 same)
    (subst (λ (x : Option FrameView). HandsIn r i g (in_front x a') [] c) on.1 then)
