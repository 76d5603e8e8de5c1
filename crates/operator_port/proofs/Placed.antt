-- The line that gives a server an address.
use Rattle.std.proofs.Common.{◌≡◌, ◌++◌, ◌∷◌, [], ℕ, List, true, false, ◌&&◌, nat_le, length, Option, Some, None, MatchOption, codes, refl, sym, ap, subst, ◌∙◌, append-nil}
use Rattle.std.proofs.lemmas.Bool.{and_parts}
use Rattle.std.proofs.lemmas.List.{append_cancel_left}
use Rattle.std.specs.Option.{option_map}
use Rattle.std.specs.declared.net.socket_addr.SocketAddr.{SocketAddr}
use Rattle.mux_history.specs.declared.session.InitMode.{InitMode}
use Rattle.mux_history.specs.declared.session.InitMode.TheVariants.{Probe, Plain}
use Rattle.route_table.specs.Address.{address_of}
use Rattle.line_session.specs.Words.{is_name, lacks}
use Rattle.line_session.proofs.Cuts.{cut_once, lacks_no}
use Rattle.operator_port.specs.Questions.{Places, Stands}

no_space : (name : List ℕ) → is_name name ≡ true → lacks 32 name ≡ true
no_space name h =
    (and_parts (lacks 32 name) (lacks 44 name) (and_parts (nat_le 1 (length name)) (lacks 32 name && lacks 44 name) h).1).0

spelled_none : (text : List ℕ) (address : SocketAddr) → address_of text ≡ None → address_of text ≡ Some address → ⊥
spelled_none text address none some = absurd (cc)

-- with no space it is an address alone
pub alone_none : (place : List ℕ) → lacks 32 place ≡ true → address_of place ≡ None → (address : SocketAddr) (init : InitMode) → Stands address init place → ⊥
alone_none place h none address Probe (text, is, _, at) =
    spelled_none text address (ap address_of (sym (append-nil text) ∙ sym is) ∙ none) at
alone_none place h none address Plain (text, is, _, at) = lacks_no 32 text (codes "plain") (ap (lacks 32) (sym is) ∙ h)

pub alone_some : (place : List ℕ) (address : SocketAddr) → lacks 32 place ≡ true → address_of place ≡ Some address → Stands address Probe place
alone_some place address h at = (place, sym (append-nil place), h, at)

-- with a space it is an address and a word
module _ (place text word : List ℕ) (cut : place ≡ text ++ (32 ∷ word)) (front : lacks 32 text ≡ true) where
  not_alone : (whole : List ℕ) → place ≡ whole ++ [] → lacks 32 whole ≡ true → ⊥
  not_alone whole is h = lacks_no 32 text word (ap (lacks 32) (sym cut ∙ is ∙ append-nil whole) ∙ h)

  other : (whole : List ℕ) → place ≡ whole ++ codes " plain" → lacks 32 whole ≡ true → (whole ≡ text) × (codes "plain" ≡ word)
  other whole is h = cut_once 32 whole (codes "plain") text word h front (sym is ∙ cut)

  pub other_word : (word ≡ codes "plain" → ⊥) → (address : SocketAddr) (init : InitMode) → Stands address init place → ⊥
  other_word unlike address Probe (whole, is, h, at) = not_alone whole is h
  other_word unlike address Plain (whole, is, h, at) = unlike (sym (other whole is h).1)

  pub plain_none : address_of text ≡ None → (address : SocketAddr) (init : InitMode) → Stands address init place → ⊥
  plain_none none address Probe (whole, is, h, at) = not_alone whole is h
  plain_none none address Plain (whole, is, h, at) = spelled_none whole address (ap address_of (other whole is h).0 ∙ none) at

  pub plain_some : word ≡ codes "plain" → (address : SocketAddr) → address_of text ≡ Some address → Stands address Plain place
  plain_some is address at = (text, cut ∙ ap (λ w. text ++ (32 ∷ w)) is, front, at)

  -- so what stands behind the word `plain` is no place, or the address has it
  pub plain_whole : word ≡ codes "plain" → (o : Option SocketAddr) (r : Option (SocketAddr × InitMode)) → o ≡ address_of text
      → r ≡ option_map (λ a. (a, Plain)) o
      → MatchOption r ((address : SocketAddr) (init : InitMode) → Stands address init place → ⊥) (λ at. Stands at.0 at.1 place)
  plain_whole is None r read made = rw made (plain_none (sym read))
  plain_whole is (Some address) r read made = rw made (plain_some is address (sym read))

-- one place has one address and one way to begin
stands_text : (a b : SocketAddr) (text other : List ℕ) → text ≡ other → address_of text ≡ Some a → address_of other ≡ Some b → a ≡ b
stands_text a b text other same first second = cc

pub stands_one : (a b : SocketAddr) (i j : InitMode) (place : List ℕ) → Stands a i place → Stands b j place → (a ≡ b) × (i ≡ j)
stands_one a b Probe Probe place (t, is, _, at) (u, same, _, also) =
    (stands_text a b t u (sym (append-nil t) ∙ sym is ∙ same ∙ append-nil u) at also, refl)
stands_one a b Probe Plain place (t, is, h, at) (u, same, k, also) =
    absurd (not_alone place u (codes "plain") same k t is h)
stands_one a b Plain Probe place (t, is, h, at) (u, same, k, also) =
    absurd (not_alone place t (codes "plain") is h u same k)
stands_one a b Plain Plain place (t, is, h, at) (u, same, k, also) =
    (stands_text a b t u (cut_once 32 t (codes "plain") u (codes "plain") h k (sym is ∙ same)).0 at also, refl)

-- behind its word a line is cut in one way
word_gone : (xs ys : List ℕ) → codes "server " ++ xs ≡ codes "server " ++ ys → xs ≡ ys
word_gone xs ys same = append_cancel_left (codes "server ") xs ys same

pub parts_one : (name other place there line : List ℕ) → lacks 32 name ≡ true → lacks 32 other ≡ true
    → line ≡ codes "server " ++ (name ++ (32 ∷ place)) → line ≡ codes "server " ++ (other ++ (32 ∷ there)) → (name ≡ other) × (place ≡ there)
parts_one name other place there line h k is same =
    cut_once 32 name place other there h k (word_gone (name ++ (32 ∷ place)) (other ++ (32 ∷ there)) (sym is ∙ same))

module _ (line rest : List ℕ) (is : line ≡ codes "server " ++ rest) where
  -- no space, no name
  pub no_parts : lacks 32 rest ≡ true → (name : List ℕ) (address : SocketAddr) (init : InitMode) → Places name address init line → ⊥
  no_parts h name address init (place, spelled, named, _) =
      lacks_no 32 name place (ap (lacks 32) (word_gone (name ++ (32 ∷ place)) rest (sym spelled ∙ is)) ∙ h)

  module _ (front place : List ℕ) (cut : rest ≡ front ++ (32 ∷ place)) (whole : lacks 32 front ≡ true) where
    same_parts : (name there : List ℕ) → line ≡ codes "server " ++ (name ++ (32 ∷ there)) → is_name name ≡ true → (name ≡ front) × (there ≡ place)
    same_parts name there spelled named =
        parts_one name front there place line (no_space name named) whole spelled (is ∙ ap (λ r. codes "server " ++ r) cut)

    pub no_name : is_name front ≡ false → (name : List ℕ) (address : SocketAddr) (init : InitMode) → Places name address init line → ⊥
    no_name unnamed name address init (there, spelled, named, _) =
        let same = (same_parts name there spelled named).0 in
        absurd (cc)

    pub no_place : ((address : SocketAddr) (init : InitMode) → Stands address init place → ⊥) → (name : List ℕ) (address : SocketAddr) (init : InitMode)
        → Places name address init line → ⊥
    no_place none name address init (there, spelled, named, stands) =
        none address init (subst (λ p. Stands address init p) (same_parts name there spelled named).1 stands)

    pub placed : is_name front ≡ true → (address : SocketAddr) (init : InitMode) → Stands address init place → Places front address init line
    placed named address init stands = (place, is ∙ ap (λ r. codes "server " ++ r) cut, named, stands)

-- and a line gives one server one address
pub places_one : (name other : List ℕ) (a b : SocketAddr) (i j : InitMode) (line : List ℕ) → Places name a i line → Places other b j line
    → (name ≡ other) × (a ≡ b) × (i ≡ j)
places_one name other a b i j line (place, is, named, stands) (there, same, called, lies) =
    let parts = parts_one name other place there line (no_space name named) (no_space other called) is same in
    let one = stands_one a b i j there (subst (λ p. Stands a i p) parts.1 stands) lies in
    (parts.0, one.0, one.1)
