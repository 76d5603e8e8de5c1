-- Frames that are handed in one after another.
use Rattle.std.proofs.Common.{List, [], ◌∷◌, ◌++◌, sym, subst, append-nil, append_assoc}
use Rattle.mux_frame.specs.Views.{FrameView}
use Rattle.router_traffic.specs.Handing.{HandsIn, Inflow, Runs, Steps}
use Rattle.router_traffic.specs.Handing.HandsIn.{none, comes, opens, goes, run, ends}

-- nothing came, and nothing was handed in
pub nothing : {H S : Type 0} {r : Runs H S} {i g : Steps H S} (a : Inflow H S) → HandsIn r i g a [] a
nothing a = none

pub hands_then : {H S : Type 0} {r : Runs H S} {i g : Steps H S} {a b c : Inflow H S} (xs ys : List FrameView)
    → HandsIn r i g a xs b → HandsIn r i g b ys c → HandsIn r i g a (xs ++ ys) c
hands_then {r = r} {i = i} {g = g} {a = a} {b = b} xs ys p none =
    subst (λ zs. HandsIn r i g a zs b) (sym (append-nil xs)) p
hands_then {r = r} {i = i} {g = g} {a = a} {c = c} xs ys p (comes {fs = fs} q f) =
    subst (λ zs. HandsIn r i g a zs c) (append_assoc xs fs (f ∷ [])) (comes (hands_then xs fs p q) f)
hands_then xs ys p (opens q is t) = opens (hands_then xs ys p q) is t
hands_then xs ys p (goes q s t is on) = goes (hands_then xs ys p q) s t is on
hands_then xs ys p (run q still s t is now left on same) =
    run (hands_then xs ys p q) still s t is now left on same
hands_then xs ys p (ends q lost left is) = ends (hands_then xs ys p q) lost left is
