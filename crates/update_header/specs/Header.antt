-- The bytes that say how an update is laid out, as a reader finds them on its way.
use Rattle.std.specs.Prelude.{ℕ, ◌≤◌, ◌≡◌, List, get_or}
use Rattle.update_format.specs.Update.{max_count}
use Rattle.update_format.specs.Decode.{author_of, count_of, kind_of, body_at, named_count_of}
use Rattle.update_header.specs.declared.Header.{Header}

abbrev pub header_of : List ℕ → Header
header_of b = record { version = get_or b 0 0; author = author_of b; count = count_of b; kind = kind_of b; body = body_at b; named = named_count_of b }

-- what is known of a header where its kind byte is tested
pub record AtKind (b : List ℕ) (h : Header) : Type 0 where
  pub found : h ≡ header_of b
  pub few : h.count ≤ max_count
