-- Row 1 of document 01's table, exactly: "store not 34,112 bytes, over 64 places taken, or a taken place whose length is outside 20 to 533 or whose
-- ancestor word names a place not taken". The numbers are those of the ledger's terms, and document 02, E6, puts before them: "A ledger handed in later with parameters that 14
-- refuses .. is row 1." Document 01's own are not refused (`document-allowed`), so that of a ledger made with them only document 01's words are left.
use Rattle.std.specs.Prelude.{ℕ, List, Bool, ◌&&◌, length, leb, eqb}
use Rattle.update_format.specs.Update.{min_length, max_length}
use Rattle.bitset.specs.Below.{all_below}
use Rattle.bitset.specs.Bits.{within}
use Rattle.rules.specs.Terms.{allowed}
use Rattle.ledger_state.specs.State.{Terms, store_length_of, Place, Book, place_at}

unfoldable pub sound_place : Terms → ℕ → Place → Bool
sound_place t used p = leb min_length p.length && (leb p.length (max_length t.bounds) && within p.ancestors used)

-- row 1 does not apply
unfoldable pub sound : Book → List ℕ → Bool
sound l s =
    allowed l.terms
    && (eqb (length s) (store_length_of l.terms)
    && (leb l.used l.terms.places && all_below l.used (λ (k : ℕ). sound_place l.terms l.used (place_at l k))))
