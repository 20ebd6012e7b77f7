-- Lines as a lent buffer keeps them, assembled from pieces of the input.
use Rattle.std.specs.Prelude.{◌≡◌, ℕ, ◌+◌, ◌≤◌, ◌<◌, List, [], ◌∷◌, ◌++◌, Bool, true, false, length, take, drop, eqb}
use Rattle.bytes_order.specs.Member.{any}
use Rattle.command_lines.specs.declared.Assembled.{Assembled}
use Rattle.command_syntax.specs.Syntax.{max_line}

-- is there a newline?
unfoldable pub broken : List ℕ → Bool
broken xs = any (λ (b : ℕ). eqb b 10) xs

-- n is the index of the first newline, or the length where there is none
pub record FirstNewline (xs : List ℕ) (n : ℕ) : Type 0 where
  pub within : n ≤ length xs
  pub none_before : broken (take n xs) ≡ false
  pub here : n < length xs → drop n xs ≡ 10 ∷ drop (n + 1) xs

-- The line so far, as a line buffer of max_line bytes keeps it: its length and its bytes, up to max_line of them; a greater length stands for every line that is longer.
pub record Keeps (buffer : List ℕ) (fill : ℕ) (line : List ℕ) : Type 0 where
  pub sized : length buffer ≡ max_line
  pub kept : fill ≤ max_line → take fill buffer ≡ line
  pub longer : max_line < fill → max_line < length line

-- a line goes on with the text
pub record Appends (buffer : List ℕ) (fill : ℕ) (text : List ℕ) (r : ℕ) (buffer' : List ℕ) : Type 0 where
  pub keeps : (line : List ℕ) → Keeps buffer fill line → Keeps buffer' r (line ++ text)

-- the newline that ends a line
abbrev pub ending : Bool → List ℕ
ending true = 10 ∷ []
ending false = []

-- a line goes on with the text, up to and with the first newline of the input
pub record TakesLine (buffer : List ℕ) (fill : ℕ) (input : List ℕ) (r : Assembled) (buffer' : List ℕ) : Type 0 where
  pub text : List ℕ
  pub whole : broken text ≡ false
  pub within : r.consumed ≤ length input
  pub consumes : take r.consumed input ≡ text ++ ending r.ended
  pub goes_on : r.ended ≡ false → r.consumed ≡ length input
  pub some_taken : 0 < length input → 0 < r.consumed
  pub keeps : (line : List ℕ) → Keeps buffer fill line → Keeps buffer' r.fill (line ++ text)
