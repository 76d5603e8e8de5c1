-- How receipts lie in two lists: most in three words, and each other one whole, at whose place stands a mark.
use Rattle.std.specs.Prelude.{ℕ, zero, suc, List, [], ◌∷◌, Option, Some, None, Bool, ◌≡◌, ◌≢◌, ◌<◌, ◌/◌, ◌%◌, ◌^◌, ◌==◌, if◌then◌else◌, negsuc, drop, get_or, slice_get}
use Rattle.mux_history.specs.declared.name.Name.{Name}
use Rattle.mux_history.specs.declared.kind.RecordKind.{RecordKind}
use Rattle.mux_history.specs.declared.kind.RecordKind.TheVariants as kinds
use Rattle.hub_close.specs.declared.packed.Packed.{Packed}
use Rattle.hub_close.specs.declared.receipt.Stub.{Stub}

-- the kinds that lie in three words have numbers from 1, and all others 0: a Settled with an Rdispatch has one
abbrev pub sort_of : RecordKind → ℕ
sort_of kinds.Took = 1
sort_of kinds.TookDrained = 2
sort_of (kinds.Settled (negsuc n)) = if n == 1 then 3 else 0
sort_of kinds.SettledNack = 4
sort_of _ = 0

abbrev pub kind_in : ℕ → RecordKind
kind_in sort =
    if sort == 1 then kinds.Took
    else if sort == 2 then kinds.TookDrained
    else if sort == 3 then kinds.Settled (negsuc 1)
    else kinds.SettledNack

abbrev pub unpack : (boot : ℕ) → Packed → Stub
unpack boot p = record {
  kept = record {
    kind = kind_in (p.name / 2 ^ 60);
    tag = p.name / 2 ^ 44 % 2 ^ 16;
    name = Some (record { boot = boot; client = p.client; seq = p.name % 2 ^ 44 });
    reading = p.time % 2 ^ 40;
  };
  place = p.time / 2 ^ 40;
  epoch = p.epoch;
}

-- whose numbers fit into three words
abbrev pub Fits : (boot : ℕ) → Stub → Type 0
Fits boot s =
    (n : Name) × (s.kept.name ≡ Some n) × (n.boot ≡ boot) × (n.client < 2 ^ 32) × (n.seq < 2 ^ 44)
    × (sort_of s.kept.kind ≢ 0) × (s.kept.tag < 2 ^ 16) × (s.kept.reading < 2 ^ 40) × (s.place < 2 ^ 24)

abbrev pub is_mark : Packed → Bool
is_mark p = p.name / 2 ^ 60 == 0

-- where a mark has no whole receipt: that never is
abbrev pub missing : Stub
missing = record { kept = record { kind = kinds.Lost; tag = 0; name = None; reading = 0 }; place = 0; epoch = 0 }

-- the receipt at a place, and the whole ones that are left behind it
abbrev pub stub_in : (boot : ℕ) → Packed → List Stub → Stub
stub_in boot p whole = if is_mark p then get_or whole 0 missing else unpack boot p

abbrev pub behind : Packed → List Stub → List Stub
behind p whole = if is_mark p then drop 1 whole else whole

abbrev pub stubs : (boot : ℕ) → List Packed → (whole : List Stub) → List Stub
stubs boot [] whole = []
stubs boot (p ∷ ps) whole = stub_in boot p whole ∷ stubs boot ps (behind p whole)

-- the receipt before this place, if there is one
abbrev pub before : List Stub → ℕ → Option Stub
before rs zero = None
before rs (suc k) = slice_get rs k
