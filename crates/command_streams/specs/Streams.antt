-- What reading and writing promise of the numbers of bytes and of errors. What a call of C read or wrote is not said, nor that one was made: no contract can. What is
-- made of its answer is.
use Rattle.std.specs.Prelude.{◌≡◌, ℕ, zero, suc, ◌+◌, ◌-◌, ◌≤◌, ◌<◌, min, Bool, false, cond, ◌||◌, eqb, Option, None, Some, Result, Ok, Err, IfOk, IfErr, IfSome, IsSome}
use Rattle.command_streams.specs.declared.errors.Errno.{Errno}
use Rattle.command_streams.specs.declared.Moved.{Moved}
use Rattle.command_streams.specs.declared.Input.{Input}
use Rattle.std.proofs.Common.{lit<}

-- whether a call with this error is made again: it was interrupted (EINTR), or would block (EAGAIN)
abbrev pub passing : Errno → Bool
passing error = eqb error.number 4 || eqb error.number 11

-- EIO
abbrev pub eio : Errno
eio = record { number = 5; failed = lit< tt }

-- what a call that was handed n bytes came to, of its answer
abbrev pub came_to : ℕ → Result ℕ Errno → Result ℕ Errno
came_to n (Ok k) = Ok (min k n)
came_to n (Err e) = Err e

-- what a write came to: one that took nothing has failed
abbrev pub took_some : Result ℕ Errno → Result ℕ Errno
took_some (Ok zero) = Err eio
took_some (Ok (suc k)) = Ok (suc k)
took_some (Err e) = Err e

-- what a call came to that is not made again, though its error may pass
abbrev pub lasting : Result ℕ Errno → Result ℕ Errno
lasting (Ok k) = Ok k
lasting (Err e) = cond (passing e) (Err eio) (Err e)

-- what a read came to, of which the limit left `left` bytes
abbrev pub taken_from : ℕ → Result ℕ Errno → Input
taken_from left (Ok k) = record { got = k; left = left - k; error = None }
taken_from left (Err e) = record { got = 0; left = left; error = Some e }

-- what writing came to, where `at` bytes were taken before and the next write came to `wrote`
abbrev pub taken_after : ℕ → Result ℕ Errno → Moved
taken_after at (Ok k) = record { count = at + k; error = None }
taken_after at (Err e) = record { count = at; error = Some e }

-- a call that may move n bytes: no more, and none where it failed
abbrev pub MovesAtMost : ℕ → Result ℕ Errno → Type 0
MovesAtMost n r = IfOk r (λ k. k ≤ n)

-- a call that is to take n bytes: at least one, unless it failed, and then none
abbrev pub TakesSome : ℕ → Result ℕ Errno → Type 0
TakesSome n r = IfOk r (λ k. (0 < k) × (k ≤ n))

-- a call made again while its error passes
abbrev pub Lasts : Result ℕ Errno → Type 0
Lasts r = IfErr r (λ e. passing e ≡ false)

-- .. a read, and a write
pub record ReadsAgain (n : ℕ) (r : Result ℕ Errno) : Type 0 where
  pub moves : MovesAtMost n r
  pub lasts : Lasts r

pub record WritesAgain (n : ℕ) (r : Result ℕ Errno) : Type 0 where
  pub takes : TakesSome n r
  pub lasts : Lasts r

-- an error that is none that passes
abbrev pub ErrorLasts : Option Errno → Type 0
ErrorLasts error = IfSome error (λ e. passing e ≡ false)

-- reading into a buffer of n bytes, where `limit` bytes may be read: what is left of the limit falls by what was got
pub record Reads (limit n : ℕ) (r : Input) : Type 0 where
  pub within : r.got ≤ n
  pub falls : r.got + r.left ≡ limit
  pub none : IsSome r.error → r.got ≡ 0
  pub lasts : ErrorLasts r.error

-- writing n bytes: all of them are taken, unless a write failed, and then fewer
pub record Writes (n taken : ℕ) (error : Option Errno) : Type 0 where
  pub within : taken ≤ n
  pub all : error ≡ None → taken ≡ n
  pub fewer : IsSome error → taken < n
  pub lasts : ErrorLasts error
