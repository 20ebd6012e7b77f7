-- The steps of the compression: one more alone, and one more after one more word of the schedule.
use Rattle.std.proofs.Common.{◌≡◌, ℕ, ◌+◌, ◌<◌, List, get_or, sym, ap, ◌∙◌, add-one, arith}
use Rattle.sha256_fips180.specs.Fips180.{Working, K, schedule, step, steps}
use Rattle.sha256_compression.specs.Code.{Scheduled, Underway}
use Rattle.sha256_compression.proofs.Schedule.{made, complete}

steps-one : (t : ℕ) (W : List ℕ) (H : Working) → steps (t + 1) W H ≡ step (steps t W H) (get_or K t 0) (get_or W t 0)
unfolding steps
steps-one t W H = rw add-one

-- one more step
pub step-on
    : (t : ℕ) (W : List ℕ) (H : Working) {s r : Working}
    → s ≡ steps t W H
    → r ≡ step s (get_or K t 0) (get_or W t 0)
    → r ≡ steps (t + 1) W H
step-on t W H j l = rw (l, j, steps-one t W H)

-- one more step, after one more word: w has word t already, as the whole schedule has it
pub turned
    : {M v w : List ℕ} {H : Working} (t : ℕ) {s r : Working}
    → t < 48
    → Underway M H t v s
    → Scheduled M (t + 1) w
    → r ≡ step s (get_or K t 0) (get_or w t 0)
    → Underway M H (t + 1) w r
turned {M} {v} {w} {H} t {s} h u l e =
    record {
      scheduled = l;
      stepped = step-on t (schedule M 48) H u.stepped (e ∙ ap (step s (get_or K t 0)) (made l (omega arith) t (omega arith)));
    }

-- after 48 of these the array has the whole schedule
pub all-turned : {M w : List ℕ} {H s : Working} → Underway M H 48 w s → s ≡ steps 48 w H
all-turned {H = H} u = u.stepped ∙ ap (λ (W : List ℕ). steps 48 W H) (sym (complete u.scheduled))
