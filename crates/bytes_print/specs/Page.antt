-- What it is to print a text on a page.
use Rattle.std.specs.Prelude.{◌≡◌, ℕ, ◌+◌, ◌≤◌, ◌<◌, List, length}
use Rattle.bytes_ascii.specs.Ascii.{decimal_limit}
use Rattle.bytes_copy.specs.Overwritten.{overwritten}
use Rattle.bytes_print.specs.declared.Page.{Page}

-- no byte beyond this one is printed at, so that no sum wraps: the whole report is far shorter
abbrev pub farthest : ℕ
farthest = 1000000

-- Printing the text at byte `at` of a page: the next byte is past it, and where it fits the page then holds it there, with no other byte changed. (On a
-- page where it does not fit, what is written is left free: where a text is not known to fit, its length is asked first, of a page that is too short for any.)
pub record Prints (page : List ℕ) (at : ℕ) (text page' : List ℕ) (next : ℕ) : Type 0 where
  pub past : next ≡ at + length text
  pub fits : next ≤ length page → page' ≡ overwritten page at text

-- the text is printed on a page from the byte that it was printed to so far; it is still the page that was lent
pub record Printed (old : Page) (text : List ℕ) (new : Page) : Type 0 where
  pub prints : Prints old.bytes.now old.at text new.bytes.now new.at
  pub same_page : new.bytes.ghost_name ≡ old.bytes.ghost_name

-- what is asked to print a number at byte `at`
pub record DecimalAt (at n : ℕ) : Type 0 where
  pub at_within : at ≤ farthest
  pub number_within : n < decimal_limit
