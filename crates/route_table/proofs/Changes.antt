-- What routes hold after a change of their map.
use Rattle.std.proofs.Common.{◌≡◌, ◌∷◌, ℕ, List, [], Vec, map, Option, Some, None, Bool, true, false, cond, if◌then◌else◌, IfSome, IsTrue, is_some, Global, refl, sym, ap, ◌∙◌, subst}
use Rattle.std.specs.Option.{option_map}
use Rattle.std.specs.Str.{bytes_eq}
use Rattle.std.specs.Map.{lookup, KeepsOthers, IsKeyTest, AreApart}
use Rattle.std.proofs.lemmas.Slice.Eq.{bytes_eq-Decides}
use Rattle.route_table.specs.Routes.{servers_of, AreServerLists, is_server_list}

abbrev pub Entry : Type 0
Entry = Vec ℕ Global × Vec ℕ Global

-- the entries as routes
abbrev pub shown : List Entry → List (List ℕ × List ℕ)
shown es = map (λ e. (e.0.items, e.1.items)) es

-- the test for a key of these bytes
abbrev pub has_bytes : List ℕ → Vec ℕ Global → Bool
has_bytes dst k = bytes_eq dst k.items

abbrev pub same_bytes : Vec ℕ Global → Vec ℕ Global → Bool
same_bytes a b = bytes_eq a.items b.items

picked : (b : Bool) (v : Vec ℕ Global) (r : Option (List ℕ)) (o : Option (Vec ℕ Global)) → r ≡ option_map (λ v. v.items) o
    → (if b then Some v.items else r) ≡ option_map (λ v. v.items) (cond b (Some v) o)
picked true v r o same = refl
picked false v r o same = same

-- a look-up in the map finds the servers
pub found : (dst : List ℕ) (es : List Entry) → servers_of (shown es) dst ≡ option_map (λ v. v.items) (lookup (has_bytes dst) es)
found dst [] = refl
found dst (e ∷ es) = picked (has_bytes dst e.0) e.1 _ _ (found dst es)

-- of another destination nothing changes
other_kept : (dst changed : List ℕ) (old new : List Entry) → KeepsOthers same_bytes (has_bytes changed) old new → bytes_eq dst changed ≡ false
    → lookup (has_bytes dst) new ≡ lookup (has_bytes dst) old
unfolding KeepsOthers
other_kept dst changed old new kept other =
    let key : IsKeyTest same_bytes (has_bytes dst) = λ x y is. ap (λ bs. bytes_eq bs y.items) ((bytes_eq-Decides dst x.items).0 is) in
    let apart : AreApart (has_bytes changed) (has_bytes dst) = λ k is. subst (λ bs. bytes_eq dst bs ≡ false) ((bytes_eq-Decides changed k.items).0 is) other in
    kept (has_bytes dst) key apart

after_if : (b : Bool) (dst changed : List ℕ) (old new : List Entry) (left : Option (Vec ℕ Global)) → bytes_eq dst changed ≡ b
    → KeepsOthers same_bytes (has_bytes changed) old new → lookup (has_bytes changed) new ≡ left
    → servers_of (shown new) dst ≡ (if b then option_map (λ v. v.items) left else servers_of (shown old) dst)
after_if true dst changed old new left is kept at =
    let same : dst ≡ changed = (bytes_eq-Decides dst changed).0 is in
    found dst new ∙ ap (λ d. option_map (λ (v : Vec ℕ Global). v.items) (lookup (has_bytes d) new)) same ∙ ap (option_map (λ (v : Vec ℕ Global). v.items)) at
after_if false dst changed old new left is kept at =
    found dst new ∙ ap (option_map (λ (v : Vec ℕ Global). v.items)) (other_kept dst changed old new kept is) ∙ sym (found dst old)

-- the servers of each destination after a change of one
pub after_change : (dst changed : List ℕ) (old new : List Entry) (left : Option (Vec ℕ Global)) → KeepsOthers same_bytes (has_bytes changed) old new
    → lookup (has_bytes changed) new ≡ left
    → servers_of (shown new) dst ≡ (if bytes_eq dst changed then option_map (λ v. v.items) left else servers_of (shown old) dst)
after_change dst changed old new left kept at = after_if (bytes_eq dst changed) dst changed old new left refl kept at

-- either of two lists of servers is one
pub either_list : (b : Bool) (left old : Option (List ℕ)) → IfSome left (λ ss. IsTrue (is_server_list ss)) → IfSome old (λ ss. IsTrue (is_server_list ss))
    → IfSome (if b then left else old) (λ ss. IsTrue (is_server_list ss))
either_list true left old l o = l
either_list false left old l o = o

-- a changed list of routes follows the change
pub follows : (b : Bool) (x y o p : Option (List ℕ)) → x ≡ (if b then y else o) → o ≡ p → x ≡ (if b then y else p)
follows true x y o p is same = is
follows false x y o p is same = is ∙ same

-- what a look-up found
pub found_as : (dst : List ℕ) (es : List Entry) (routes : List (List ℕ × List ℕ)) (o : Option (Vec ℕ Global)) → shown es ≡ routes → o ≡ lookup (has_bytes dst) es
    → option_map (λ v. v.items) o ≡ servers_of routes dst
found_as dst es routes o view is =
    ap (option_map (λ (v : Vec ℕ Global). v.items)) is ∙ sym (found dst es) ∙ ap (λ rs. servers_of rs dst) view

pub is_some_items : (o : Option (Vec ℕ Global)) → is_some o ≡ is_some (option_map (λ v. v.items) o)
is_some_items (Some v) = refl
is_some_items None = refl

-- the servers of each destination after those of one were set
pub after_set : (dst changed servers : List ℕ) (key list : Vec ℕ Global) (old new : List Entry) → key.items ≡ changed → list.items ≡ servers
    → KeepsOthers same_bytes (has_bytes key.items) old new → lookup (has_bytes key.items) new ≡ Some list
    → servers_of (shown new) dst ≡ (if bytes_eq dst changed then Some servers else servers_of (shown old) dst)
after_set dst changed servers key list old new key_is list_is kept at =
    subst (λ ss. servers_of (shown new) dst ≡ (if bytes_eq dst changed then Some ss else servers_of (shown old) dst)) list_is (
    subst (λ ks. servers_of (shown new) dst ≡ (if bytes_eq dst ks then Some list.items else servers_of (shown old) dst)) key_is (
    after_change dst key.items old new (Some list) kept at))

-- and a destination that has servers afterwards has a list of them
pub lists_after : (dst changed : List ℕ) (left : Option (List ℕ)) (old new : List Entry) → IfSome left (λ ss. IsTrue (is_server_list ss)) → AreServerLists (shown old)
    → servers_of (shown new) dst ≡ (if bytes_eq dst changed then left else servers_of (shown old) dst)
    → IfSome (servers_of (shown new) dst) (λ ss. IsTrue (is_server_list ss))
lists_after dst changed left old new fits lists is =
    subst (λ o. IfSome o (λ ss. IsTrue (is_server_list ss))) (sym is) (either_list (bytes_eq dst changed) left (servers_of (shown old) dst) fits (lists dst))
