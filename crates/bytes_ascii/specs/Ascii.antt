-- Text as bytes: plain ASCII, hexadecimal and decimal digits.
use Rattle.std.specs.Prelude.{ℕ, zero, suc, ◌+◌, ◌/◌, ◌%◌, List, [], ◌∷◌, ◌++◌, cond, ltb}
use Prim.Native.String.{String, len, char_at}
use Prim.Native.Char.{code}
use Rattle.bytes_order.specs.Member.{concat_map}

-- the bytes of a text of plain ASCII
unfoldable pub codes : String → ℕ → ℕ → List ℕ
codes s i zero = []
codes s i (suc n) = code (char_at s i) ∷ codes s (i + 1) n

unfoldable pub ascii : String → List ℕ
ascii s = codes s 0 (len s)

-- one hexadecimal digit, lowercase; a byte's two
unfoldable pub digit : ℕ → ℕ
digit n = cond (ltb n 10) (48 + n) (87 + n)

unfoldable pub hex_byte : ℕ → List ℕ
hex_byte b = digit (b / 16) ∷ digit (b % 16) ∷ []

unfoldable pub hex : List ℕ → List ℕ
hex bs = concat_map hex_byte bs

-- base ten, of a number of at most k digits
unfoldable pub decimal_in : ℕ → ℕ → List ℕ
decimal_in zero n = []
decimal_in (suc k) n = cond (ltb n 10) (digit n ∷ []) (decimal_in k (n / 10) ++ (digit (n % 10) ∷ []))

unfoldable pub decimal : ℕ → List ℕ
decimal n = decimal_in 20 n

-- numbers below this are printed: they have at most four decimal digits
abbrev pub decimal_limit : ℕ
decimal_limit = 10000
