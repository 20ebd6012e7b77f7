-- What is chosen, for every ledger: of the places taken at most as many as an update may name, strictly ascending by id.
use Rattle.std.specs.Prelude.{ℕ, ◌-◌, ◌≤◌, ◌<◌, ◌≡◌, List, [], ◌∷◌, ◌++◌, Bool, cond, length, get_or, take}
use Rattle.std.proofs.Common.{arith, ⊎_elim, length-append, length-take}
use Rattle.std.proofs.Math.Path.{refl}
use Rattle.std.specs.Prelude.{Option, None, Some}
use Rattle.std.proofs.Math.Bool.{true, false}
use Rattle.std.proofs.Math.Dec.{leb, ltb}
use borrow.Author.Tests.{leb-true, ltb-false}
use Rattle.bytes_order.specs.Member.{◌∈◌}
use Rattle.bytes_order.specs.Ascending.{Ascending}
use Rattle.bytes_order.specs.MemberLaws.{∈-cast, ∈-singleton, append-∈, keep-∈, get_or-∈, take-∈}
use Rattle.bytes_order.specs.SortLaws.{ascending-keep, sort-∈, sort-ascending}
use Rattle.bitset.specs.Below.{up_to, first_below}
use Rattle.bitset.specs.BelowLaws.{up_to-∈, first_below-some→}
use Rattle.ledger_state.specs.State.{Book}
use Rattle.ledger_relations.specs.PlaceTests.{id_at, head_at, id_order}
use Rattle.write_highest.specs.Top.{top_below}
use Rattle.write_predecessors.specs.Choose.{heads_of, above_at, most_with, most_for, chosen_places}
use Rattle.write_predecessors.specs.FrontLaws.{ascending-take, front-ascending}

module _ (l : Book) (s : List ℕ) where
  abbrev H : List ℕ
  H = heads_of l s

  pub heads-ascending : Ascending (id_at l s) (heads_of l s)
  unfolding heads_of id_order
  heads-ascending = ascending-keep (head_at l s) (sort-ascending (id_at l s) (up_to l.used))

  pub head-taken : {k : ℕ} → k ∈ heads_of l s → k < l.used
  unfolding heads_of id_order
  head-taken m = up_to-∈ l.used (sort-∈ (id_at l s) (up_to l.used) (keep-∈ (head_at l s) (id_order l s) m).0)

  -- heads that an update may name
  pub record Nameable (ks : List ℕ) : Type 0 where
    pub few : length ks ≤ l.terms.bounds.predecessors
    pub ordered : Ascending (id_at l s) ks
    pub among : (k : ℕ) → k ∈ ks → k ∈ heads_of l s

  first-most : Nameable (take l.terms.bounds.predecessors H)
  first-most = record {
    few = omega (arith, length-take l.terms.bounds.predecessors H);
    ordered = ascending-take l.terms.bounds.predecessors heads-ascending;
    among = λ k m. take-∈ l.terms.bounds.predecessors H m;
  }

  -- one less, and a later one
  front-and : 0 < l.terms.bounds.predecessors → (j : ℕ) → j < length H → l.terms.bounds.predecessors ≤ j → Nameable (take (l.terms.bounds.predecessors - 1) H ++ (get_or H j 0 ∷ []))
  front-and one j h g = record {
    few = omega (arith, length-append (take (l.terms.bounds.predecessors - 1) H) (get_or H j 0 ∷ []), length-take (l.terms.bounds.predecessors - 1) H);
    ordered = front-ascending (l.terms.bounds.predecessors - 1) j 0 heads-ascending (omega arith) h;
    among = λ k m.
        ⊎_elim (λ (i : k ∈ take (l.terms.bounds.predecessors - 1) H). take-∈ (l.terms.bounds.predecessors - 1) H i)
        (λ (i : k ∈ get_or H j 0 ∷ []). ∈-cast (∈-singleton i) (get_or-∈ H j 0 h)) (append-∈ (take (l.terms.bounds.predecessors - 1) H) m);
  }

  most-with : 0 < l.terms.bounds.predecessors → (o : Option ℕ) → ((j : ℕ) → o ≡ Some j → j < length H) → Nameable (most_with l s o)
  unfolding most_with
  most-with one None f = first-most
  most-with one (Some j) f = step (ltb j l.terms.bounds.predecessors) refl
    where
      step : (b : Bool) → ltb j l.terms.bounds.predecessors ≡ b → Nameable (cond b (take l.terms.bounds.predecessors H) (take (l.terms.bounds.predecessors - 1) H ++ (get_or H j 0 ∷ [])))
      step true e = first-most
      step false e = front-and one j (f j refl) (ltb-false j l.terms.bounds.predecessors e)

  most-for : 0 < l.terms.bounds.predecessors → (o : Option ℕ) → Nameable (most_for l s o)
  unfolding most_for
  most-for one None = first-most
  most-for one (Some t) = most-with one (first_below (length H) (above_at l s t)) (λ j e. (first_below-some→ (length H) (above_at l s t) e).0)

  pub chosen-nameable : 0 < l.terms.bounds.predecessors → (a : ℕ) → Nameable (chosen_places l s a)
  unfolding chosen_places
  chosen-nameable one a = step (leb (length H) l.terms.bounds.predecessors) refl
    where
      step : (b : Bool) → leb (length H) l.terms.bounds.predecessors ≡ b → Nameable (cond b H (most_for l s (top_below l s a l.used)))
      step true e = record { few = leb-true (length H) l.terms.bounds.predecessors e; ordered = heads-ascending; among = λ k m. m }
      step false e = most-for one (top_below l s a l.used)
