-- The standard's words and hash values from their parts, as the code makes them one by one.
use Rattle.std.proofs.Common.{◌≡◌, ℕ, List}
use Rattle.sha256_fips180.specs.Fips180.{Working, words, schedule, steps, added, compress}

pub compressed
    : (H : Working) (b : List ℕ) {w : List ℕ} {s r : Working}
    → w ≡ schedule (words 16 b) 48
    → s ≡ steps 64 w H
    → r ≡ added s H
    → r ≡ compress H b
unfolding compress
compressed H b i j k = rw (k, j, i)
