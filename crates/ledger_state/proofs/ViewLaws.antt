-- The view of a declared ledger: what a stored place makes of it, and that nothing of the ledger is lost in it.
use Rattle.std.specs.Prelude.{ℕ, ◌<◌, ◌≡◌, refl, List, Bool, true, false, cond, length, get_or, set, eqb}
use Rattle.std.proofs.Common.{◌∙◌, ap, ap₂, get_or-set_same, get_or-set_other, ext_get_or, eqb-true, eq-eqb}
use Rattle.std.proofs.Math.Path.{fun_ext}
use Rattle.bytes_order.specs.BoolLaws.{true-false}
use Rattle.ledger_state.specs.declared.Ledger.{Ledger}
use Rattle.ledger_state.specs.declared.Place.{Place as DeclaredPlace}
use Rattle.ledger_state.specs.State.{document_terms, Place, Book, replaced}
use Rattle.ledger_state.specs.View.{place_of, no_place, book_of}

-- a place stored in the array, if it is one of the array's
view-set : (ps : List DeclaredPlace) (k : ℕ) (p : DeclaredPlace) → k < length ps
    → (j : ℕ) → place_of (get_or (set ps k p) j no_place) ≡ replaced (λ (i : ℕ). place_of (get_or ps i no_place)) k (place_of p) j
unfolding replaced
view-set ps k p h j = go (eqb j k) refl
  where
    go : (b : Bool) → eqb j k ≡ b → place_of (get_or (set ps k p) j no_place) ≡ cond b (place_of p) (place_of (get_or ps j no_place))
    go true e = ap place_of (ap (λ (i : ℕ). get_or (set ps k p) i no_place) (eqb-true j k e) ∙ get_or-set_same ps k p no_place h)
    go false e = ap place_of (get_or-set_other ps k j p no_place (λ (q : j ≡ k). true-false (eq-eqb j k q) e))

-- the view of the ledger with another place k, and another number of taken places
pub stored-view : (l : Ledger) (n k : ℕ) (p : DeclaredPlace) → k < length l.places
    → book_of (record { used = n; places = set l.places k p }) ≡ record { terms = document_terms; used = n; place = replaced (book_of l).place k (place_of p) }
stored-view l n k p h = ap (λ (f : ℕ → Place). record { terms = document_terms; used = n; place = f }) (fun_ext (view-set l.places k p h))

-- Two ledgers with the same view and as many places are the same ledger.
pub view-faithful : (l m : Ledger) → length l.places ≡ length m.places → book_of l ≡ book_of m → l ≡ m
view-faithful l m e v =
    let declared : Place → DeclaredPlace = λ p. record { id = p.id; length = p.length; ancestors = p.ancestors; standing = p.standing } in
    ap₂ (λ (n : ℕ) (ps : List DeclaredPlace). record { used = n; places = ps }) (ap (λ (b : Book). b.used) v)
    (ext_get_or no_place l.places m.places e (λ i _. ap (λ (b : Book). declared (b.place i)) v))
