-- The marked authors, place by place.
use Prim.Native.Nat.{ℕ, ◌+◌, ◌≤◌, ◌<◌}
use mathlib.Core.Path.{◌≡◌, sym, ap, ap₂, ◌∙◌}
use mathlib.Core.List.{List}
use mathlib.Core.Bool.{Bool, true, ◌&&◌, ◌||◌}
use borrow.Author.Tests.{eq-eqb, eqb-true}
use lib.Dec.{eqb}
use Rattle.bytes_order.specs.BoolLaws.{test-ext}
use Rattle.bytes_order.specs.MemberLaws.{concat_map-cong}
use Rattle.bitset.specs.Below.{any_below, up_to}
use Rattle.bitset.specs.BelowLaws.{any_below-more, any_below-none, any_below-end}
use Rattle.bitset.specs.Bits.{has, including_below}
use Rattle.bitset.specs.BitsLaws.{included, has-including, has-none}
use Rattle.update_fields.specs.Fields.{author_in}
use Rattle.rules.specs.Mark.{marks_by}
use Rattle.ledger_state.specs.State.{Book, decoded_at}
use Rattle.ledger_relations.specs.PlaceTests.{author_at}
use Rattle.ledger_relations.proofs.Testing.{with-true}
use Rattle.report_parts.specs.declared.Evidence.{Evidence}
use Rattle.report_parts.specs.declared.Evidence.TheVariants.{Fork, Fault}
use Rattle.report_parts.specs.PlaceParts.{author_marks, evidence_at, marked_by, marks_of}

eqb-sym : (a b : ℕ) → eqb a b ≡ eqb b a
eqb-sym a b = test-ext (eqb a b) (eqb b a) (λ e. eq-eqb b a (sym (eqb-true a b e))) (λ e. eq-eqb a b (sym (eqb-true b a e)))

module _ (l : Book) (s : List ℕ) (v : Evidence) where
  -- place k is such evidence against author a
  abbrev pub against : ℕ → ℕ → Bool
  against a k = eqb (author_at l s k) a && evidence_at l s v k

  -- a set of authors that has room for n of them gets the author of place k
  pub author-added : (n w k a : ℕ) {b : Bool} {c m : ℕ} → b ≡ evidence_at l s v k → b ≡ true → c ≡ author_in (decoded_at l s k) → c < n → m ≡ including_below n w c
      → has m a ≡ has w a || against a k
  unfolding author_at
  author-added n w k a e t f h g =
      ap (λ (x : ℕ). has x a) (g ∙ included n w _ h)
      ∙ has-including w _ a
      ∙ ap (λ (x : Bool). has w a || x) (eqb-sym a _ ∙ ap (λ (c : ℕ). eqb c a) f ∙ sym (with-true (eqb (author_at l s k) a)) ∙ ap (λ (x : Bool). eqb (author_at l s k) a && x) (sym (sym e ∙ t)))

  pub marked_start : (a : ℕ) → has 0 a ≡ any_below 0 (against a)
  marked_start a = has-none a ∙ sym (any_below-none (against a))

  pub marked_more : (w w' k : ℕ) → ((a : ℕ) → has w a ≡ any_below k (against a)) → ((a : ℕ) → has w' a ≡ has w a || against a k) → (a : ℕ) → has w' a ≡ any_below (k + 1) (against a)
  marked_more w w' k i e a = e a ∙ ap (λ (x : Bool). x || against a k) (i a) ∙ sym (any_below-more k (against a))

  pub marked-end : (w k : ℕ) → k ≤ l.used → l.used ≤ k → ((a : ℕ) → has w a ≡ any_below k (against a)) → (a : ℕ) → has w a ≡ marked_by l s v a
  unfolding marked_by
  marked-end w k h g i a = any_below-end l.used (against a) k h g (sym (i a))

-- the marks by the two sets of authors
pub marks-are : (l : Book) (s : List ℕ) (w v : ℕ) → ((a : ℕ) → has w a ≡ marked_by l s Fork a) → ((a : ℕ) → has v a ≡ marked_by l s Fault a)
    → author_marks l.terms.bounds.authors (has w) (has v) ≡ marks_of l s
unfolding marks_of
marks-are l s w v e f = concat_map-cong _ _ (up_to l.terms.bounds.authors) (λ a m. ap₂ (marks_by a) (e a) (f a))
