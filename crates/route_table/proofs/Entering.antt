-- Entries that are read one after another.
use Rattle.std.proofs.Common.{◌≡◌, ◌⊎◌, ℕ, ◌+◌, ◌<◌, ◌≤◌, ◌∷◌, [], ◌++◌, if◌then◌else◌, List, map, length, drop, get_or, is_some, Bool, true, false, cond, ◌||◌, Option, Some, None, Result, Ok, Err, string_bytes, refl, sym, ap, ◌∙◌, inl, inr}
use Rattle.std.specs.List.{list_any, position}
use Rattle.std.specs.Str.{bytes_eq}
use Rattle.std.proofs.lemmas.List.{map-append, drop_all}
use Rattle.toml.specs.Data.{Data}
use Rattle.toml.specs.View.{view}
use Rattle.toml.specs.declared.value.Value.{Value}
use Rattle.route_table.specs.declared.server.Server.{Server}
use Rattle.route_table.specs.declared.route.Route.{Route}
use Rattle.route_table.specs.Fault.{Fault, memory, double_name, double_route, IsUnlessMemory, and_then}
use Rattle.route_table.specs.Entries.{each, unless, is_named, name_clash, is_to, dst_clash}
use Rattle.route_table.specs.Views.{server_view, servers_view, route_view, routes_view}
use Rattle.route_table.proofs.Values.{position_map, next_value}

same_fault : {A : Type 0} (f g : Fault) (r s : Result A Fault) → r ≡ Err f → s ≡ Err g → r ≡ s → f ≡ g
same_fault f g r s first second same = cc

surely : {A : Type 0} (a : A) (r : Result A Fault) → (Ok a ≡ Err memory) ⊎ (Ok a ≡ r) → r ≡ Ok a
surely a r (inl refused) = cc
surely a r (inr is) = sym is

module _ {A : Type 0} (read : Data → Result A Fault) (clash : A → List A → Option Fault) (total : Result (List A) Fault) (before : List A)
    (vs : List Value) (i : ℕ) (so_far : total ≡ each read clash before (map view (drop i vs))) where
  -- an entry with a fault ends the reading
  pub failing : (v : Value) (fault : Fault) → i < length vs → v ≡ get_or vs i v → IsUnlessMemory (Err fault) (read (view v))
      → IsUnlessMemory (Err fault) total
  failing v fault within here (inl refused) = inl (ap Err (same_fault fault memory _ _ refl refl refused))
  failing v fault within here (inr is) =
      inr (sym (so_far ∙ ap (λ ws. each read clash before (map view ws)) (next_value vs i v within here)
      ∙ ap (λ r. and_then r (λ a. unless (clash a before) (each read clash (before ++ a ∷ []) (map view (drop (i + 1) vs))))) (sym is)))

  -- one that is read and clashes with none before it is added
  pub entering : (v : Value) (a : A) (new : List A) → i < length vs → v ≡ get_or vs i v → IsUnlessMemory (Ok a) (read (view v)) → clash a before ≡ None
      → new ≡ before ++ a ∷ [] → total ≡ each read clash new (map view (drop (i + 1) vs))
  entering v a new within here read_is free added =
      so_far ∙ ap (λ ws. each read clash before (map view ws)) (next_value vs i v within here)
      ∙ ap (λ r. and_then r (λ b. unless (clash b before) (each read clash (before ++ b ∷ []) (map view (drop (i + 1) vs))))) (surely a (read (view v)) read_is)
      ∙ ap (λ o. unless o (each read clash (before ++ a ∷ []) (map view (drop (i + 1) vs)))) free
      ∙ ap (λ bs. each read clash bs (map view (drop (i + 1) vs))) (sym added)

  -- and behind the last entry it is done
  pub finished : length vs ≤ i → Ok before ≡ total
  finished past = sym (so_far ∙ ap (λ ws. each read clash before (map view ws)) (drop_all i vs past))

module _ {A X : Type 0} (show : X → A) (read : Data → Result A Fault) (clash : A → List A → Option Fault) (total : Result (List A) Fault)
    (items : List X) (vs : List Value) (i : ℕ) (v : Value) (x : X)
    (so_far : total ≡ each read clash (map show items) (map view (drop i vs))) (within : i < length vs) (here : v ≡ get_or vs i v)
    (read_is : (Ok (show x) ≡ Err memory) ⊎ (Ok (show x) ≡ read (view v))) where
  next_entry : total ≡ unless (clash (show x) (map show items)) (each read clash (map show items ++ show x ∷ []) (map view (drop (i + 1) vs)))
  next_entry =
      so_far ∙ ap (λ ws. each read clash (map show items) (map view ws)) (next_value vs i v within here)
      ∙ ap (λ r. and_then r (λ a. unless (clash a (map show items)) (each read clash (map show items ++ a ∷ []) (map view (drop (i + 1) vs))))) (surely (show x) (read (view v)) read_is)

  -- an entry that clashes ends the reading
  pub clashing : (fault : Fault) → clash (show x) (map show items) ≡ Some fault → Err fault ≡ total
  clashing fault is = sym (next_entry ∙ ap (λ o. unless o (each read clash (map show items ++ show x ∷ []) (map view (drop (i + 1) vs)))) is)

  -- another one is added
  pub adding : (new : List X) → clash (show x) (map show items) ≡ None → new ≡ items ++ x ∷ [] → total ≡ each read clash (map show new) (map view (drop (i + 1) vs))
  adding new is added =
      next_entry ∙ ap (λ o. unless o (each read clash (map show items ++ show x ∷ []) (map view (drop (i + 1) vs)))) is
      ∙ ap (λ before. each read clash before (map view (drop (i + 1) vs))) (sym (ap (map show) added ∙ map-append show items (x ∷ [])))

-- whether a server's name is taken
pub name_taken : (server : Server) (servers seen : List Server) (taken : Bool) → seen ≡ servers
    → taken ≡ is_some (position (λ s. is_named (string_bytes server.name) (server_view s)) seen)
    → name_clash (server_view server) (servers_view servers) ≡ (if taken then Some (double_name (string_bytes server.name)) else None)
name_taken server servers seen taken seen_is is =
    let asked : taken ≡ is_some (position (λ s. is_named (string_bytes server.name) (server_view s)) servers) =
    is ∙ ap (λ ss. is_some (position (λ s. is_named (string_bytes server.name) (server_view s)) ss)) seen_is in
    ap (λ b. if b then Some (double_name (string_bytes server.name)) else None)
    (ap (λ (o : Option ℕ). is_some o) (position_map (is_named (string_bytes server.name)) server_view servers) ∙ sym asked)

either : (a b r : Bool) → cond b true (a || r) ≡ (a || cond b true r)
either true true r = refl
either true false r = refl
either false b r = refl

alone : (b : Bool) → cond b true false ≡ (b || false)
alone true = refl
alone false = refl

-- one of a list and one more
one_more : {X Y : Type 0} (p : Y → Bool) (f : X → Y) (xs : List X) (x : X) → cond (p (f x)) true (list_any p (map f xs)) ≡ list_any p (map f (xs ++ x ∷ []))
one_more p f [] x = alone (p (f x))
one_more p f (y ∷ ys) x = either (p (f y)) (p (f x)) (list_any p (map f ys)) ∙ ap (λ b. p (f y) || b) (one_more p f ys x)

-- whether a route's destination is taken
pub dst_taken : (route : Route) (routes : List Route) (taken known : Bool) → taken ≡ known
    → known ≡ list_any (is_to (string_bytes route.dst)) (routes_view routes)
    → dst_clash (route_view route) (routes_view routes) ≡ (if taken then Some (double_route (string_bytes route.dst)) else None)
dst_taken route routes taken known taken_is known_is =
    ap (λ b. if b then Some (double_route (string_bytes route.dst)) else None) (sym (taken_is ∙ known_is))

-- and the destinations that are taken from then on
pub dst_noted : (d : List ℕ) (route : Route) (routes new : List Route) (before after : Bool) → new ≡ routes ++ route ∷ []
    → after ≡ cond (bytes_eq (string_bytes route.dst) d) true before → before ≡ list_any (is_to d) (routes_view routes)
    → after ≡ list_any (is_to d) (routes_view new)
dst_noted d route routes new before after added after_is before_is =
    after_is ∙ ap (λ b. cond (bytes_eq (string_bytes route.dst) d) true b) before_is
    ∙ one_more (is_to d) route_view routes route ∙ sym (ap (λ rs. list_any (is_to d) (routes_view rs)) added)
