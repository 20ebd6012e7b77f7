-- What is made of a call's answer moves no more than it may.
use Rattle.std.specs.Prelude.{◌≡◌, ℕ, zero, suc, ◌+◌, ◌-◌, ◌≤◌, ◌<◌, List, length, take, drop, Bool, true, false, cond, Result, Ok, Err, None, Some, refl}
use Rattle.std.proofs.Math.Nat.{min-le_right}
use Rattle.std.proofs.Common.{arith, ap, length-take, length-drop}
use Rattle.command_streams.specs.declared.errors.Errno.{Errno}
use Rattle.command_streams.specs.Streams.{passing, eio, came_to, took_some, lasting, taken_after, MovesAtMost, TakesSome, Lasts, ReadsAgain, WritesAgain, Reads, Writes}

-- what a call came to: no more than it was handed
pub came-at-most : (n : ℕ) (called : Result ℕ Errno) → MovesAtMost n (came_to n called)
came-at-most n (Ok k) = min-le_right k n
came-at-most n (Err e) = tt

-- .. and for a write some, unless it failed
pub took-takes : (n : ℕ) (m : Result ℕ Errno) → MovesAtMost n m → TakesSome n (took_some m)
took-takes n (Ok zero) a = tt
took-takes n (Ok (suc k)) a = (omega arith, a)
took-takes n (Err e) a = tt

-- .. and, made again while its error passes, no error that does
lasts : (e : Errno) (p : Bool) → passing e ≡ p → Lasts (cond {A = Result ℕ Errno} p (Err eio) (Err e))
lasts e true h = refl
lasts e false h = h

pub lasting-lasts : (m : Result ℕ Errno) → Lasts (lasting m)
lasting-lasts (Ok k) = tt
lasting-lasts (Err e) = lasts e (passing e) refl

moves : (n : ℕ) (e : Errno) (p : Bool) → MovesAtMost n (cond p (Err eio) (Err e))
moves n e true = tt
moves n e false = tt

takes : (n : ℕ) (e : Errno) (p : Bool) → TakesSome n (cond p (Err eio) (Err e))
takes n e true = tt
takes n e false = tt

pub lasting-reads : (n : ℕ) (m : Result ℕ Errno) → MovesAtMost n m → ReadsAgain n (lasting m)
lasting-reads n (Ok k) a = record { moves = a; lasts = tt }
lasting-reads n (Err e) a = record { moves = moves n e (passing e); lasts = lasting-lasts (Err e) }

pub lasting-writes : (n : ℕ) (m : Result ℕ Errno) → TakesSome n m → WritesAgain n (lasting m)
lasting-writes n (Ok k) a = record { takes = a; lasts = tt }
lasting-writes n (Err e) a = record { takes = takes n e (passing e); lasts = lasting-lasts (Err e) }

-- computed: four bytes after three are seven; where the next write failed there are three, and its error
pub counts-add : taken_after 3 (Ok 4) ≡ record { count = 7; error = None }
counts-add = refl

pub counts-stay : (e : Errno) → taken_after 3 (Err e) ≡ record { count = 3; error = Some e }
counts-stay e = refl

-- an error that does not pass is told as it is
pub lasting-same : (e : Errno) → passing e ≡ false → lasting (Err e) ≡ Err e
lasting-same e h = ap (λ (b : Bool). cond {A = Result ℕ Errno} b (Err eio) (Err e)) h

-- how many bytes are left from byte `at` on
pub rest-length : (at : ℕ) (bytes : List ℕ) → at ≤ length bytes → at + length (take (length bytes - at) (drop at bytes)) ≡ length bytes
rest-length at bytes within = simp (length-take, length-drop) (omega arith)

-- where `at` of n bytes were taken, and a write of the k that are left failed
pub failed-writes : {n k at : ℕ} {e : Errno} → at < n → at + k ≡ n → WritesAgain k (Err e) → Writes n at (Some e)
failed-writes less rest w = record { within = omega arith; all = λ z. cc; fewer = λ _. less; lasts = w.lasts }

-- where all n bytes were taken
pub all-written : {n at : ℕ} → at ≤ n → n ≤ at → Writes n at None
all-written within all = record { within = within; all = λ _. omega arith; fewer = λ h. cc; lasts = tt }

-- where nothing is read
pub reads_none : {left n : ℕ} → Reads left n (record { got = 0; left = left; error = None })
reads_none = record { within = omega arith; falls = omega arith; none = λ _. refl; lasts = tt }
