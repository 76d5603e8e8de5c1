-- What a book keeps true of its entries and of the map of its tags.
use Rattle.std.specs.Prelude.{◌≡◌, ℕ, ◌+◌, ◌*◌, ◌≤◌, List, length, nat_eq}
use Rattle.translate_book.specs.declared.near.NearHasher.{NearHasher}
use Rattle.std.specs.declared.hash.BuildHasherDefault.{BuildHasherDefault}
use Rattle.indexmap.specs.IndexMap.{IndexMap, get, spare, index_map_len}
use Rattle.translate_book.specs.declared.entry.Entry.{Entry}
use Rattle.translate_book.specs.Book.{held_in, open_at, open_count, IsOnce, Rises}

abbrev pub Tags : Type 0
Tags = IndexMap ℕ ℕ (BuildHasherDefault NearHasher)

pub record IsSound (entries : List (ℕ × Entry)) (places held : ℕ) (tags : Tags) (room last : ℕ) : Type 0 where
  -- so many entries are in the book, and behind it is room for those that left
  pub held_count : held ≡ length (held_in entries)
  pub tail : length entries ≤ held + room
  pub full : held ≤ room
  -- both have room for all entries that may come
  pub entries_room : 2 * room ≤ places
  pub tags_room : room ≤ index_map_len tags + spare tags
  -- the tags that are listed are those of the open entries
  pub listed : (t : ℕ) → get nat_eq tags t ≡ open_at t (held_in entries)
  pub count : index_map_len tags ≤ open_count (held_in entries)
  pub once : IsOnce (held_in entries)
  -- those that left stand in the order too
  pub rises : Rises 0 entries last
