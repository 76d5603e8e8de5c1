-- Lists of values.
use Rattle.std.proofs.Common.{◌≡◌, ℕ, suc, ◌+◌, ◌<◌, nat_le, nat_lt, ◌∷◌, [], ◌||◌, ◌&&◌, not, cond, if◌then◌else◌, List, map, length, drop, get_or, Bool, Option, Some, None, ok_or, Ok, Err, String, Global, string_bytes, refl, sym, ap, subst, ◌∙◌, add-one}
use Rattle.std.specs.List.{list_any, list_all, position, position_or_len}
use Rattle.std.proofs.Math.Seq.{drop-cons}
use Rattle.std.proofs.lemmas.List.{length-map}
use Rattle.toml.specs.Data.{Data, string, Members}
use Rattle.toml.specs.View.{items_of, view}
use Rattle.toml.specs.declared.value.Value.{Value, String as TextValue}
use Rattle.toml.proofs.Views.{view-String}
use Rattle.route_table.specs.declared.key.Key.{Key}
use Rattle.route_table.specs.declared.key.Key.TheVariants.{RouteServers}
use Rattle.route_table.specs.declared.server.Server.{Server}
use Rattle.route_table.specs.Fault.{bad_value, unknown_server}
use Rattle.route_table.specs.Table.{value_at, is_text}
use Rattle.route_table.specs.Entries.{datas, list_of, is_table, tables_in, tables_of, tables_at, are_texts, are_names, names_in, names_of, names_at, is_named, place_of}
use Rattle.route_table.specs.Views.{server_view, servers_view}

pub list_all_map : {X Y : Type 0} (p : Y → Bool) (f : X → Y) (xs : List X) → list_all p (map f xs) ≡ list_all (λ x. p (f x)) xs
list_all_map p f [] = refl
list_all_map p f (x ∷ xs) = ap (λ b. p (f x) && b) (list_all_map p f xs)

pub list_any_map : {X Y : Type 0} (p : Y → Bool) (f : X → Y) (xs : List X) → list_any p (map f xs) ≡ list_any (λ x. p (f x)) xs
list_any_map p f [] = refl
list_any_map p f (x ∷ xs) = ap (λ b. p (f x) || b) (list_any_map p f xs)

-- a list as items, and back
pub datas_of_list : (ds : List Data) → datas (items_of ds) ≡ ds
datas_of_list [] = refl
datas_of_list (d ∷ ds) = ap (λ rest. d ∷ rest) (datas_of_list ds)

pub position_or_len_map : {X Y : Type 0} (p : Y → Bool) (f : X → Y) (xs : List X) → position_or_len p (map f xs) ≡ position_or_len (λ x. p (f x)) xs
position_or_len_map p f [] = refl
position_or_len_map p f (x ∷ xs) = ap (λ n. cond (not (p (f x))) (1 + n) 0) (position_or_len_map p f xs)

pub position_map : {X Y : Type 0} (p : Y → Bool) (f : X → Y) (xs : List X) → position p (map f xs) ≡ position (λ x. p (f x)) xs
position_map p f xs =
    ap (λ n. cond (nat_lt n (length (map f xs))) (Some n) None) (position_or_len_map p f xs)
    ∙ ap (λ m. cond (nat_lt (position_or_len (λ x. p (f x)) xs) m) (Some (position_or_len (λ x. p (f x)) xs)) None) (length-map xs f)

-- an array that was judged
pub tables_judged : (doc : Members) (key : Key) (most : ℕ) (d : Data) (vs : List Value) (fits known : Bool) → Some d ≡ value_at doc key → Some (map view vs) ≡ list_of d
    → fits ≡ (nat_le (length vs) most && list_all (λ v. is_table (view v)) vs) → fits ≡ known
    → (if known then Ok (map view vs) else Err (bad_value key)) ≡ tables_at doc key most
unfolding tables_at
tables_judged doc key most d vs fits known valued listed judged is =
    let same : (nat_le (length (map view vs)) most && list_all is_table (map view vs)) ≡ known =
    ap (λ n. nat_le n most && list_all is_table (map view vs)) (length-map vs view)
    ∙ ap (λ b. nat_le (length vs) most && b) (list_all_map is_table view vs) ∙ sym judged ∙ is in
    ap (λ b. if b then Ok (map view vs) else Err (bad_value key)) (sym same) ∙ ap (tables_in key most) listed ∙ ap (tables_of key most) valued

-- names that were judged
pub names_judged : (doc : Members) (d : Data) (vs : List Value) (fits known : Bool) → Some d ≡ value_at doc RouteServers → Some (map view vs) ≡ list_of d
    → fits ≡ are_names (map view vs) → fits ≡ known → (if known then Ok (map view vs) else Err (bad_value RouteServers)) ≡ names_at doc
unfolding names_at
names_judged doc d vs fits known valued listed judged is =
    ap (λ b. if b then Ok (map view vs) else Err (bad_value RouteServers)) (sym is ∙ judged) ∙ ap names_in listed ∙ ap names_of valued

-- the next value, and those after it
pub next_value : (vs : List Value) (i : ℕ) (v : Value) → i < length vs → v ≡ get_or vs i v → drop i vs ≡ v ∷ drop (i + 1) vs
next_value vs i v within here = rw (add-one) (subst (λ w. drop i vs ≡ w ∷ drop (suc i) vs) (sym here) (drop-cons vs i v within))

-- the next value is a text
pub next_text : (vs rest : List Value) (i : ℕ) (v : Value) (text : String Global) (bytes : List ℕ) (later : Bool) → i < length vs → v ≡ get_or vs i v
    → v ≡ TextValue text → bytes ≡ string_bytes text → rest ≡ drop (i + 1) vs → later ≡ list_any (λ w. is_text bytes (view w)) rest
    → are_texts (map view (drop i vs)) ≡ (not later && are_texts (map view (drop (i + 1) vs)))
next_text vs rest i v text bytes later within here is bytes_is rest_is later_is =
    let seen : view v ≡ string bytes = ap view is ∙ view-String text ∙ ap string (sym bytes_is) in
    let found : list_any (is_text bytes) (map view (drop (i + 1) vs)) ≡ later =
    list_any_map (is_text bytes) view (drop (i + 1) vs) ∙ ap (list_any (λ w. is_text bytes (view w))) (sym rest_is) ∙ sym later_is in
    ap (λ ws. are_texts (map view ws)) (next_value vs i v within here)
    ∙ ap (λ e. are_texts (e ∷ map view (drop (i + 1) vs))) seen
    ∙ ap (λ b. not b && are_texts (map view (drop (i + 1) vs))) found

-- the place of the server of a name
pub placed : (servers : List Server) (v : Value) (name : String Global) (bytes : List ℕ) (o : Option ℕ) → v ≡ TextValue name → bytes ≡ string_bytes name
    → o ≡ position (λ s. is_named bytes (server_view s)) servers
    → ok_or o (unknown_server bytes) ≡ place_of (servers_view servers) (view v)
placed servers v name bytes o is bytes_is found =
    ap (λ p. ok_or p (unknown_server bytes)) (found ∙ sym (position_map (is_named bytes) server_view servers))
    ∙ ap (place_of (servers_view servers)) (sym (ap view is ∙ view-String name ∙ ap string (sym bytes_is)))
