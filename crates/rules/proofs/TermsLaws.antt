-- What allowed terms are, as facts; document 01's are allowed; and the values at the edges of what is allowed, by computing.
use Rattle.std.specs.Prelude.{ℕ, ◌≤◌, ◌<◌, ◌≡◌, refl, ◌⊎◌, [], ◌∷◌, map, true, false, ◌&&◌, ◌||◌, leb, eqb}
use Rattle.std.proofs.Common.{inl, inr, ⊎_elim, leb-true, le-leb, eqb-true, arith}
use Rattle.bytes_order.specs.BoolLaws.{and-true→, and-true, or-true→}
use Rattle.bytes_ascii.specs.Ascii.{decimal_limit}
use Rattle.update_format.specs.declared.Bounds.{Bounds}
use Rattle.update_format.specs.Update.{document_bounds, max_count}
use Rattle.rules.specs.Terms.{Terms, places, document_terms, fewest_authors, most_authors, fewest_predecessors, most_predecessors, allowed_places, allowed_bounds, allowed}

pub record AllowedBounds (b : Bounds) : Type 0 where
  pub authors_least : fewest_authors ≤ b.authors
  pub authors_most : b.authors ≤ most_authors
  pub predecessors_least : fewest_predecessors ≤ b.predecessors
  pub predecessors_most : b.predecessors ≤ most_predecessors

pub record Allowed (t : Terms) : Type 0 where
  pub places_among : (t.places ≡ 64) ⊎ ((t.places ≡ 256) ⊎ (t.places ≡ 1024))
  pub within : AllowedBounds t.bounds

allowed-bounds→ : (b : Bounds) → allowed_bounds b ≡ true → AllowedBounds b
unfolding allowed_bounds
allowed-bounds→ b e =
    let h =
    and-true→ (leb fewest_authors b.authors && leb b.authors most_authors) (leb fewest_predecessors b.predecessors && leb b.predecessors most_predecessors) e in
    let a = and-true→ (leb fewest_authors b.authors) (leb b.authors most_authors) h.0 in
    let p = and-true→ (leb fewest_predecessors b.predecessors) (leb b.predecessors most_predecessors) h.1 in
    record {
      authors_least = leb-true fewest_authors b.authors a.0;
      authors_most = leb-true b.authors most_authors a.1;
      predecessors_least = leb-true fewest_predecessors b.predecessors p.0;
      predecessors_most = leb-true b.predecessors most_predecessors p.1;
    }

→allowed-bounds : (b : Bounds) → AllowedBounds b → allowed_bounds b ≡ true
unfolding allowed_bounds
→allowed-bounds b h =
    and-true (leb fewest_authors b.authors && leb b.authors most_authors) (leb fewest_predecessors b.predecessors && leb b.predecessors most_predecessors)
    (and-true (leb fewest_authors b.authors) (leb b.authors most_authors) (le-leb fewest_authors b.authors h.authors_least) (le-leb b.authors most_authors h.authors_most))
    (and-true (leb fewest_predecessors b.predecessors) (leb b.predecessors most_predecessors)
    (le-leb fewest_predecessors b.predecessors h.predecessors_least) (le-leb b.predecessors most_predecessors h.predecessors_most))

allowed-places→ : (n : ℕ) → allowed_places n ≡ true → (n ≡ 64) ⊎ ((n ≡ 256) ⊎ (n ≡ 1024))
unfolding allowed_places
allowed-places→ n e =
    ⊎_elim (λ (h : eqb n 64 ≡ true). inl (eqb-true n 64 h))
    (λ (h : (eqb n 256 || eqb n 1024) ≡ true).
    inr (⊎_elim (λ (k : eqb n 256 ≡ true). inl (eqb-true n 256 k)) (λ (k : eqb n 1024 ≡ true). inr (eqb-true n 1024 k)) (or-true→ (eqb n 256) (eqb n 1024) h)))
    (or-true→ (eqb n 64) (eqb n 256 || eqb n 1024) e)

→allowed-places : (n : ℕ) → (n ≡ 64) ⊎ ((n ≡ 256) ⊎ (n ≡ 1024)) → allowed_places n ≡ true
unfolding allowed_places
→allowed-places n h = ⊎_elim (λ (e : n ≡ 64). rw e) (⊎_elim (λ (e : n ≡ 256). rw e) (λ (e : n ≡ 1024). rw e)) h

pub allowed→ : (t : Terms) → allowed t ≡ true → Allowed t
unfolding allowed
allowed→ t e =
    let h = and-true→ (allowed_places t.places) (allowed_bounds t.bounds) e in
    record { places_among = allowed-places→ t.places h.0; within = allowed-bounds→ t.bounds h.1 }

pub places-least : {t : Terms} → Allowed t → 64 ≤ t.places
places-least a =
    ⊎_elim (λ e. omega arith) (⊎_elim (λ e. omega arith) (λ e. omega arith)) a.places_among

pub places-most : {t : Terms} → Allowed t → t.places ≤ 1024
places-most a =
    ⊎_elim (λ e. omega arith) (⊎_elim (λ e. omega arith) (λ e. omega arith)) a.places_among

pub →allowed : (t : Terms) → Allowed t → allowed t ≡ true
unfolding allowed
→allowed t a =
    and-true (allowed_places t.places) (allowed_bounds t.bounds) (→allowed-places t.places a.places_among) (→allowed-bounds t.bounds a.within)

-- there is an author, an update may name a predecessor, a count byte can say how many it names, and authors can be printed
pub some-authors : (t : Terms) → allowed t ≡ true → 0 < t.bounds.authors
some-authors t e = omega (arith, (allowed→ t e).within.authors_least)

pub some-predecessors : (t : Terms) → allowed t ≡ true → 0 < t.bounds.predecessors
some-predecessors t e = omega (arith, (allowed→ t e).within.predecessors_least)

pub predecessors-counted : (t : Terms) → allowed t ≡ true → t.bounds.predecessors ≤ max_count
predecessors-counted t e = omega (arith, (allowed→ t e).within.predecessors_most)

pub authors-printed : (t : Terms) → allowed t ≡ true → t.bounds.authors ≤ decimal_limit
authors-printed t e = omega (arith, (allowed→ t e).within.authors_most)

pub document-allowed : allowed document_terms ≡ true
unfolding allowed allowed_places allowed_bounds
document-allowed = refl

-- which of some numbers of places, of authors and of predecessors are allowed, the others being document 01's
abbrev with_places : ℕ → Terms
with_places n = record { places = n; bounds = document_bounds }

abbrev with_authors : ℕ → Terms
with_authors n = record { places = places; bounds = record { authors = n; predecessors = document_bounds.predecessors } }

abbrev with_predecessors : ℕ → Terms
with_predecessors n = record { places = places; bounds = record { authors = document_bounds.authors; predecessors = n } }

pub places-computed :
    map (λ (n : ℕ). allowed (with_places n)) (0 ∷ 63 ∷ 64 ∷ 65 ∷ 128 ∷ 256 ∷ 512 ∷ 1024 ∷ 2048 ∷ [])
    ≡ false ∷ false ∷ true ∷ false ∷ false ∷ true ∷ false ∷ true ∷ false ∷ []
unfolding allowed allowed_places allowed_bounds
places-computed = refl

pub authors-computed :
    map (λ (n : ℕ). allowed (with_authors n)) (0 ∷ 15 ∷ 16 ∷ 17 ∷ 255 ∷ 256 ∷ 257 ∷ []) ≡ false ∷ false ∷ true ∷ true ∷ true ∷ true ∷ false ∷ []
unfolding allowed allowed_places allowed_bounds
authors-computed = refl

pub predecessors-computed :
    map (λ (n : ℕ). allowed (with_predecessors n)) (0 ∷ 7 ∷ 8 ∷ 9 ∷ 16 ∷ 17 ∷ []) ≡ false ∷ false ∷ true ∷ true ∷ true ∷ false ∷ []
unfolding allowed allowed_places allowed_bounds
predecessors-computed = refl
