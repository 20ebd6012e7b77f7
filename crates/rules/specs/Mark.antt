-- Document 02, E7: a mark, the key by which marks are sorted and counted once, and the marks of an author from two tests.
use Rattle.std.specs.Prelude.{ℕ, List, [], ◌∷◌, map, Bool, true, false}
use Rattle.rules.specs.declared.MarkKind.{MarkKind}
use Rattle.rules.specs.declared.MarkKind.TheVariants.{Fork, Fault, Both}

-- an author and what it is marked for ("mark" is document 01's term, "fork" and "fault" are document 02's; a fork is an equivocation)
pub record Mark : Type 0 where
  pub author : ℕ
  pub kind : MarkKind

-- marks stand ascending by author, and an author has one
unfoldable pub mark_key : Mark → List ℕ
mark_key m = m.author ∷ []

-- for what an author is marked, from two tests: it has a fork; it has a fault
unfoldable pub kinds_by : Bool → Bool → List MarkKind
kinds_by true true = Both ∷ []
kinds_by true false = Fork ∷ []
kinds_by false true = Fault ∷ []
kinds_by false false = []

unfoldable pub marks_by : ℕ → Bool → Bool → List Mark
marks_by a fork fault = map (λ (k : MarkKind). record { author = a; kind = k }) (kinds_by fork fault)
