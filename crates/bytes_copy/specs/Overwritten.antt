-- Bytes put over others.
use Rattle.std.specs.Prelude.{ℕ, ◌+◌, List, ◌++◌, length, take, drop}

-- s with the bytes b at byte at; no other byte changes
abbrev pub overwritten : List ℕ → ℕ → List ℕ → List ℕ
overwritten s at b = take at s ++ (b ++ drop (at + length b) s)
