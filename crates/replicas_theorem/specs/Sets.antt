-- Document 01, "Two mills side by side": the set of a list of offers.
use Rattle.std.specs.Prelude.{◌≡◌, ℕ, List, ◌++◌, map, Bool, true, false}
use Rattle.bytes_order.specs.Member.{◌∈◌, keep}
use Rattle.bytes_order.specs.Sort.{sort}
use Rattle.sha256_fips180.specs.Fips180.{SHA-256}
use Rattle.update_format.specs.declared.Bounds.{Bounds}
use Rattle.update_format.specs.Update.{Update}
use Rattle.update_format.specs.Decode.{Decoded, refused, update, decode, update_of}
use Rattle.rules.specs.declared.Form.{Form}
use Rattle.rules.specs.Report.{report_of}
use Rattle.rules.specs.Terms.{Terms}
use Rattle.rules.specs.Room.{RoomForAll}
use Rattle.ledger_state.specs.Stands.{rules}

unfoldable pub is_update : Decoded → Bool
is_update (refused n) = false
is_update (update u) = true

-- the bytes are a well-formed update (`well-formed-decoded` of update_format)
unfoldable pub well_formed : Bounds → List ℕ → Bool
well_formed bounds b = is_update (decode bounds b)

-- "A mill's set is those offers of its list whose bytes are a well-formed update, equal ones counted once." As a list: ascending, each once.
unfoldable pub set_of : Bounds → List (List ℕ) → List (List ℕ)
set_of bounds bs = sort (λ (b : List ℕ). b) (keep (well_formed bounds) bs)

-- the updates of a set
abbrev pub updates_of : Bounds → List (List ℕ) → List Update
updates_of bounds bs = map update_of (set_of bounds bs)

-- "The report that the rules give for a set"
unfoldable pub report_for : Form → List (List ℕ) → List ℕ
report_for form set = report_of form rules (map update_of set)

-- the list holds no more distinct well-formed updates than a ledger of these terms has room for
abbrev pub Fits : Terms → List (List ℕ) → Type 0
Fits t bs = RoomForAll t (updates_of t.bounds bs)

-- no two different well-formed updates of both lists together share a SHA-256
abbrev pub NoCollision : Bounds → List (List ℕ) → List (List ℕ) → Type 0
NoCollision bounds xs ys = (b c : List ℕ) → b ∈ set_of bounds (xs ++ ys) → c ∈ set_of bounds (xs ++ ys) → SHA-256 b ≡ SHA-256 c → b ≡ c
