-- What row 1 asks, as facts; a ledger that holds updates has them. The length of a store, as document 01 has it.
use Rattle.std.specs.Prelude.{◌≡◌, refl, ℕ, ◌+◌, ◌*◌, ◌≤◌, ◌<◌, List, Bool, true, ◌&&◌, length, leb, eqb}
use Rattle.std.proofs.Common.{sym, subst, mul-suc, mul_comm, mul-le-mul_left, arith}
use borrow.Author.Tests.{leb-true, le-leb, eqb-true, eq-eqb}
use Rattle.bytes_order.specs.BoolLaws.{and-true→, and-true}
use Rattle.bytes_order.specs.MemberLaws.{get_or-∈}
use Rattle.update_format.specs.Update.{Update, min_length, max_length}
use Rattle.update_format.specs.Laws.{encode-within}
use Rattle.bitset.specs.Below.{all_below}
use Rattle.bitset.specs.BelowLaws.{all_below→, all_below←}
use Rattle.bitset.specs.Bits.{within}
use Rattle.rules.specs.Terms.{allowed}
use Rattle.ledger_state.specs.State.{Terms, document_terms, start_of, store_length_of, Place, Book, place_at}
use Rattle.ledger_state.specs.Row1.{sound_place, sound}
use Rattle.ledger_state.specs.Stands.{no_update, update_at, Holds}

-- "the lent store, which has 34,112 bytes"
pub store_bytes : store_length_of document_terms ≡ 34112
store_bytes = refl

-- "from byte 533 × k"
pub start-bytes : (k : ℕ) → start_of document_terms k ≡ 533 * k
unfolding start_of
start-bytes k = refl

pub record SoundPlace (t : Terms) (used : ℕ) (p : Place) : Type 0 where
  pub long : min_length ≤ p.length
  pub short : p.length ≤ max_length t.bounds
  pub inside : within p.ancestors used ≡ true

pub record Sound (l : Book) (s : List ℕ) : Type 0 where
  pub terms_allowed : allowed l.terms ≡ true
  pub store : length s ≡ store_length_of l.terms
  pub few : l.used ≤ l.terms.places
  pub each : (k : ℕ) → k < l.used → SoundPlace l.terms l.used (place_at l k)

place→ : (t : Terms) (n : ℕ) (p : Place) → sound_place t n p ≡ true → SoundPlace t n p
unfolding sound_place
place→ t n p e =
    let a = and-true→ (leb min_length p.length) (leb p.length (max_length t.bounds) && within p.ancestors n) e in
    let b = and-true→ (leb p.length (max_length t.bounds)) (within p.ancestors n) a.1 in
    record { long = leb-true min_length p.length a.0; short = leb-true p.length (max_length t.bounds) b.0; inside = b.1 }

place← : (t : Terms) (n : ℕ) (p : Place) → SoundPlace t n p → sound_place t n p ≡ true
unfolding sound_place
place← t n p h =
    and-true (leb min_length p.length) (leb p.length (max_length t.bounds) && within p.ancestors n) (le-leb min_length p.length h.long)
    (and-true (leb p.length (max_length t.bounds)) (within p.ancestors n) (le-leb p.length (max_length t.bounds) h.short) h.inside)

module _ (l : Book) (s : List ℕ) where
  place_sound : ℕ → Bool
  place_sound k = sound_place l.terms l.used (place_at l k)

  abbrev places_sound : Bool
  places_sound = leb l.used l.terms.places && all_below l.used place_sound

  pub sound→ : sound l s ≡ true → Sound l s
  unfolding sound place_sound
  sound→ e =
      let t = and-true→ (allowed l.terms) (eqb (length s) (store_length_of l.terms) && places_sound) e in
      let a = and-true→ (eqb (length s) (store_length_of l.terms)) places_sound t.1 in
      let b = and-true→ (leb l.used l.terms.places) (all_below l.used place_sound) a.1 in
      record {
        terms_allowed = t.0;
        store = eqb-true (length s) (store_length_of l.terms) a.0;
        few = leb-true l.used l.terms.places b.0;
        each = λ k h. place→ l.terms l.used (place_at l k) (all_below→ l.used place_sound b.1 k h);
      }

  pub sound← : Sound l s → sound l s ≡ true
  unfolding sound place_sound
  sound← h =
      and-true (allowed l.terms) (eqb (length s) (store_length_of l.terms) && places_sound) h.terms_allowed
      (and-true (eqb (length s) (store_length_of l.terms)) places_sound (eq-eqb (length s) (store_length_of l.terms) h.store)
      (and-true (leb l.used l.terms.places) (all_below l.used place_sound) (le-leb l.used l.terms.places h.few)
      (all_below← l.used place_sound (λ k g. place← l.terms l.used (place_at l k) (h.each k g)))))

-- the bytes of a later place begin after those of an earlier one, and those of the last end with the store
pub start-next : (t : Terms) (j k : ℕ) → j < k → start_of t j + max_length t.bounds ≤ start_of t k
unfolding start_of
start-next t j k h = subst (λ (m : ℕ). m ≤ start_of t k) (mul-suc (max_length t.bounds) j) (mul-le-mul_left (max_length t.bounds) h)

pub start-inside : (t : Terms) (k : ℕ) → k < t.places → start_of t k + max_length t.bounds ≤ store_length_of t
unfolding start_of
start-inside t k h = subst (λ (m : ℕ). start_of t k + max_length t.bounds ≤ m) (mul_comm (max_length t.bounds) t.places) (start-next t k t.places h)

pub holds-sound : (l : Book) (s : List ℕ) (us : List Update) → Holds l s us → Sound l s
holds-sound l s us h =
    record {
      terms_allowed = h.terms_allowed;
      store = h.store_whole;
      few = omega (arith, h.number, h.room.few);
      each = λ k g.
          let i = subst (λ (n : ℕ). k < n) h.number g in
          let sized = encode-within (update_at us k) (h.bounded (update_at us k) (get_or-∈ us k no_update i)) in
          record {
            long = omega (arith, h.lengths k i, sized.0);
            short = omega (arith, h.lengths k i, sized.1);
            inside = subst (λ (n : ℕ). within (place_at l k).ancestors n ≡ true) (sym h.number) (h.inside k i);
          };
    }

-- no more places are taken than there are
pub few_taken : (l : Book) (s : List ℕ) → sound l s ≡ true → l.used ≤ l.terms.places
few_taken l s e = (sound→ l s e).few
