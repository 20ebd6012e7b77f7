-- Document 02, E5: an entry of the set, and the key by which entries are sorted and counted once. This is the one place that knows it.
use Rattle.std.specs.Prelude.{ℕ, List, [], ◌∷◌, ◌++◌, Bool, ◌&&◌, ◌||◌, ltb}
use Rattle.bytes_order.specs.Order.{before, same}

-- a tag with its adding author ("set entry" is document 02's term)
pub record SetEntry : Type 0 where
  pub tag : List ℕ
  pub author : ℕ

-- "Count a set entry as the same only if tag and adding author both agree. Set lines .. ordered by tag, then author.": the tag's bytes, then the author as
-- a number
unfoldable pub entry_key : SetEntry → List ℕ
entry_key e = e.tag ++ (e.author ∷ [])

-- e comes before f: by tag, then by author as a number. (The order of keys, where tags have one length, as those of well-formed updates do: `entry-order`.)
abbrev pub entry_before : SetEntry → SetEntry → Bool
entry_before e f = before e.tag f.tag || (same e.tag f.tag && ltb e.author f.author)
