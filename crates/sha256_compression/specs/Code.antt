-- What the contracts say besides the standard's definitions: of the code's words and its schedule.
use Rattle.sha256_compression.specs.declared.State.{State}
use Rattle.std.specs.Prelude.{◌≡◌, ℕ, ◌+◌, ◌<◌, List, length, take}
use Rattle.sha256_fips180.specs.Fips180.{Working, schedule, steps}

-- the code's eight words as the standard's
abbrev pub working : State → Working
working s = record { a = s.a; b = s.b; c = s.c; d = s.d; e = s.e; f = s.f; g = s.g; h = s.h }

-- w is an array of 64 words, and the first 16 + n are the schedule of the block's words M so far
pub record Scheduled (M : List ℕ) (n : ℕ) (w : List ℕ) : Type 0 where
  pub size : length w ≡ 64
  pub front : take (16 + n) w ≡ schedule M n

-- w has the first 16 + t words of the schedule of M, and s is the working variables after t steps from H, with the whole schedule
pub record Underway (M : List ℕ) (H : Working) (t : ℕ) (w : List ℕ) (s : Working) : Type 0 where
  pub scheduled : Scheduled M t w
  pub stepped : s ≡ steps t (schedule M 48) H

-- what is asked for a rotation by n
pub record Rotation (n : ℕ) : Type 0 where
  pub positive : 0 < n
  pub within_word : n < 32
