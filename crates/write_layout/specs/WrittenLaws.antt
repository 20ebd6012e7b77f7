-- What is written is laid out as the format asks, for every ledger whose ids have 32 bytes and whose updates may name predecessors.
use Rattle.std.specs.Prelude.{ℕ, ◌≤◌, ◌<◌, ◌≡◌, List, length}
use Rattle.std.proofs.Common.{sym, ap, subst, ◌∙◌}
use Rattle.std.proofs.lemmas.List.{length-map}
use Rattle.bytes_order.specs.MemberLaws.{map-∈}
use Rattle.bytes_order.specs.SortLaws.{Ascending→ascending}
use Rattle.update_format.specs.Update.{id_length, Operation, BoundedOperation, Bounded}
use Rattle.update_format.specs.Slices.{SizedIds}
use Rattle.ledger_state.specs.State.{Book, place_at}
use Rattle.ledger_relations.specs.PlaceTests.{id_at}
use Rattle.write_predecessors.specs.Choose.{chosen_places}
use Rattle.write_predecessors.specs.ShapeLaws.{head-taken, chosen-nameable}
use Rattle.write_layout.specs.Written.{written_at}

-- .. where the ids that it names have 32 bytes
pub laid_by : (l : Book) (s : List ℕ) → 0 < l.terms.bounds.predecessors → (a : ℕ) (o : Operation) → a < l.terms.bounds.authors → BoundedOperation o
    → SizedIds (written_at l s a o).preds → Bounded l.terms.bounds (written_at l s a o)
unfolding written_at
laid_by l s one a o small op sized =
    let chosen = chosen-nameable l s one a in
    record {
      author_small = small;
      preds_bounded = record {
        few = subst (λ (n : ℕ). n ≤ l.terms.bounds.predecessors) (sym (length-map (chosen_places l s a) (id_at l s))) chosen.few;
        sized = sized;
        ordered = Ascending→ascending chosen.ordered;
      };
      op_bounded = op;
    }

pub laid_out : (l : Book) (s : List ℕ) → 0 < l.terms.bounds.predecessors → ((k : ℕ) → k < l.used → length (place_at l k).id ≡ id_length) → (a : ℕ) (o : Operation)
    → a < l.terms.bounds.authors → BoundedOperation o → Bounded l.terms.bounds (written_at l s a o)
unfolding written_at
laid_out l s one sized a o small op =
    let chosen = chosen-nameable l s one a in
    laid_by l s one a o small op (λ i m. let f = map-∈ (id_at l s) (chosen_places l s a) m in ap length (sym f.2) ∙ sized f.0 (head-taken l s (chosen.among f.0 f.1)))
