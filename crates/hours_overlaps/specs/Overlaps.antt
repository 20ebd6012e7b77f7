-- Document 02, E12: the byte of each set entry, which tells whether it overlaps another on its pond. "For each set entry we want one byte: 3 if there is at least one other
-- hours entry on its pond that it surely overlaps, else 2 if there is at least one that it may, 1 if none, 0 if plain; the bytes stand in set order."
use Rattle.std.specs.Prelude.{Option, None, Some, ℕ, ◌≡◌, List, map, Bool, true, false, not, ◌&&◌, eqb}
use Rattle.bytes_order.specs.Order.{same}
use Rattle.bytes_order.specs.Member.{◌∈◌, any}
use Rattle.rules.specs.SetEntry.{SetEntry, entry_key}
use Rattle.hours_tags.specs.declared.Limits.{Limits}
use Rattle.hours_tags.specs.Hours.{HoursTag, read_tag}
use Rattle.hours_runs.specs.Runs.{Surely, May, surely, may}

abbrev pub plain_byte : ℕ
plain_byte = 0

abbrev pub none_byte : ℕ
none_byte = 1

abbrev pub may_byte : ℕ
may_byte = 2

abbrev pub surely_byte : ℕ
surely_byte = 3

module _ (es : List SetEntry) (e : SetEntry) where
  -- "at least one other hours entry on its pond" to which e, an hours entry of the set es, stands in the relation R. Another entry is one whose tag or author is another.
  pub record Other (R : Limits → Limits → Type 0) : Type 0 where
    pub own-limits : Limits
    pub own-hours : HoursTag e.tag own-limits
    pub other : SetEntry
    pub in-set : other ∈ es
    pub differs : e ≡ other → ⊥
    pub limits : Limits
    pub hours : HoursTag other.tag limits
    pub same-pond : own-limits.pond ≡ limits.pond
    pub related : R own-limits limits

  -- the byte of e
  pub data OverlapByte : ℕ → Type 0 where
    byte-surely : Other Surely → OverlapByte surely_byte
    byte-may : (Other Surely → ⊥) → Other May → OverlapByte may_byte
    byte-none : (h : Limits) → HoursTag e.tag h → (Other Surely → ⊥) → (Other May → ⊥) → OverlapByte none_byte
    byte-plain : ((h : Limits) → HoursTag e.tag h → ⊥) → OverlapByte plain_byte

-- The same, computed: what is read is hours on the pond of g, to which g stands in the relation that r tests.
unfoldable pub meets : (Limits → Limits → Bool) → Limits → Option Limits → Bool
meets r g None = false
meets r g (Some h) = eqb g.pond h.pond && r g h

-- the byte of hours, by whether there is one that they surely overlap, and one that they may
unfoldable pub byte_by : Bool → Bool → ℕ
byte_by true m = surely_byte
byte_by false true = may_byte
byte_by false false = none_byte

-- the byte of a reading, by two tests of limits
unfoldable pub reading_byte : (Limits → Bool) → (Limits → Bool) → Option Limits → ℕ
reading_byte always ever None = plain_byte
reading_byte always ever (Some g) = byte_by (always g) (ever g)

abbrev pub reading_of : SetEntry → Option Limits
reading_of e = read_tag e.tag

module _ (es : List SetEntry) where
  unfoldable pub some_other : SetEntry → (Limits → Limits → Bool) → Limits → Bool
  some_other e r g = any (λ (f : SetEntry). not (same (entry_key e) (entry_key f)) && meets r g (reading_of f)) es

  unfoldable pub overlap_byte : SetEntry → ℕ
  overlap_byte e = reading_byte (some_other e surely) (some_other e may) (reading_of e)

  -- "the bytes stand in set order"
  abbrev pub overlap_bytes : List ℕ
  overlap_bytes = map overlap_byte es
