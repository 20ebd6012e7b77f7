-- What an offer answers, from what the calls within it answered.
use Rattle.std.proofs.Common.{◌≡◌, sym, ap, subst, ◌∙◌, ℕ, ◌-◌, List, true, false}
use Rattle.std.specs.Prelude.{None, Some, Result, Ok, Err}
use Rattle.sha256_fips180.specs.Fips180.{SHA-256}
use Rattle.update_format.specs.Update.{Id}
use Rattle.update_format.specs.Decode.{decode}
use Rattle.update_format.specs.ParseResult.{malformed_number, decoded_of, value_of}
use Rattle.update_format.specs.declared.Malformed.{Malformed}
use Rattle.update_format.specs.declared.Parsed.{Parsed}
use Rattle.ledger_state.specs.declared.Ledger.{Ledger}
use Rattle.bytes_copy.specs.Overwritten.{overwritten}
use Rattle.ledger_state.specs.State.{room_in, place_at, find_in, start_of}
use Rattle.ledger_state.specs.View.{book_of}
use Rattle.ledger_state.specs.Row1.{sound}
use Rattle.ledger_refusals.specs.declared.Refusal.TheVariants.{Malformed as Bad, Full}
use Rattle.ledger_offering.specs.declared.Answer.TheVariants.{Taken, Known}
use Rattle.ledger_offering.specs.Values.{offer_values}
use Rattle.ledger_offering.proofs.TakeLaws.{TookWith}
use Rattle.ledger_offering.specs.Offer.{Took, Formed, OfferRow, malformed, known, full, taken}

module _ (l : Ledger) (s b : List ℕ) where
  -- by what reading the bytes answered
  module _ (fits : sound (book_of l) s ≡ true) (r : Result Parsed Malformed) (read : decoded_of b r ≡ decode (book_of l).terms.bounds b) where
    pub offered-malformed : (m : Malformed) → r ≡ Err m → OfferRow l s b (offer_values (Err (Bad m))) l s
    offered-malformed m h = malformed (malformed_number m) fits (sym read ∙ ap (decoded_of b) h)

    pub read-formed : (p : Parsed) → r ≡ Ok p → Formed (book_of l) s b
    read-formed p h = record { is_sound = fits; value = value_of b p; decodes = sym read ∙ ap (decoded_of b) h }

  -- by where the id was found
  module _ (f : Formed (book_of l) s b) (i : Id) (hashed : i ≡ SHA-256 b) where
    pub offered-known : (k : ℕ) → find_in (book_of l) i ≡ Some k → OfferRow l s b (offer_values (Ok (Known (place_at (book_of l) k).standing))) l s
    offered-known k h = known f.value k f.is_sound f.decodes (ap (find_in (book_of l)) (sym hashed) ∙ h)

    pub offered-full : find_in (book_of l) i ≡ None → room_in (book_of l) s f.value ≡ false → OfferRow l s b (offer_values (Err Full)) l s
    offered-full h n = full f.value f.is_sound f.decodes (ap (find_in (book_of l)) (sym hashed) ∙ h) n

    -- a place is taken: the new place, and the two counts
    pub offered-taken : find_in (book_of l) i ≡ None → room_in (book_of l) s f.value ≡ true → {r : Ledger} {s' : List ℕ} {held void : ℕ}
        → TookWith (book_of l) s b f.value held void (book_of r) s' → s' ≡ overwritten s (start_of (book_of l).terms (book_of l).used) b
        → OfferRow l s b (offer_values (Ok (Taken (place_at (book_of r) (book_of l).used).standing held void))) r s'
    offered-taken h n {r} t w =
        rw (t.held_right, t.void_right, w)
        (taken f.value r f.is_sound f.decodes (ap (find_in (book_of l)) (sym hashed) ∙ h) n (subst (Took (book_of l) s b f.value (book_of r)) w t.took))
