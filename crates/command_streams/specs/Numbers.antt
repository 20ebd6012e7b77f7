-- The number of an error.
use Rattle.std.specs.Prelude.{ℕ, zero, suc, ℤ, pos, negsuc, Option, None, Some}
use Rattle.std.specs.IoError.{raw_os_error}
use Rattle.std.specs.declared.io.Error.{Error}

-- the number of an error, of C's errno: EIO where that is no number above 0
unfoldable pub errno_of : ℤ → ℕ
errno_of (pos zero) = 5
errno_of (pos (suc n)) = suc n
errno_of (negsuc n) = 5

-- .. of an error of std: EIO where it has no number of C's errno
abbrev number_in : Option ℤ → ℕ
number_in None = 5
number_in (Some errno) = errno_of errno

abbrev pub number_of : Error → ℕ
number_of e = number_in (raw_os_error e)
