-- The terms of a ledger: what it is made with, and what the definitions take in place of document 01's numbers.
use Rattle.std.specs.Prelude.{ℕ, Bool, ◌&&◌, ◌||◌, leb, eqb}
use Rattle.update_format.specs.declared.Bounds.{Bounds}
use Rattle.update_format.specs.Update.{document_bounds}

-- how many places there are, and the bounds of an update
pub record Terms : Type 0 where
  pub places : ℕ
  pub bounds : Bounds

-- document 01's own: "There are 64 places."
abbrev pub places : ℕ
places = 64

abbrev pub document_terms : Terms
document_terms = record { places = places; bounds = document_bounds }

-- document 02, E6: "places 64, 256 or 1,024; authors 16 to 256; predecessors 8 to 16"
unfoldable pub allowed_places : ℕ → Bool
allowed_places n = eqb n 64 || (eqb n 256 || eqb n 1024)

abbrev pub fewest_authors : ℕ
fewest_authors = 16

abbrev pub most_authors : ℕ
most_authors = 256

abbrev pub fewest_predecessors : ℕ
fewest_predecessors = 8

abbrev pub most_predecessors : ℕ
most_predecessors = 16

unfoldable pub allowed_bounds : Bounds → Bool
allowed_bounds b =
    (leb fewest_authors b.authors && leb b.authors most_authors)
    && (leb fewest_predecessors b.predecessors && leb b.predecessors most_predecessors)

unfoldable pub allowed : Terms → Bool
allowed t = allowed_places t.places && allowed_bounds t.bounds
