-- Worked examples, by hand from the request's sentence. Ids are of one byte here.
use Rattle.std.specs.Prelude.{◌≡◌, refl, [], ◌∷◌, ℕ}
use Rattle.bytes_order.specs.Order.{before, same}
use Rattle.bytes_order.specs.Member.{keep}
use Rattle.bytes_order.specs.Sort.{insert, sort}
use Rattle.bytes_order.specs.Compare.{order_of}
use Rattle.update_format.specs.Update.{Id}
use Rattle.lookup_merge.specs.Merge.{Stored, merge_from, merge}
use Rattle.lookup_merge.specs.ClosedForm.{last_of, closed_form}

-- an id, and a stored one with its byte
abbrev an_id : ℕ → Id
an_id n = n ∷ []

abbrev held : ℕ → Stored
held n = record { id = an_id n; byte = 0 }

abbrev waiting : ℕ → Stored
waiting n = record { id = an_id n; byte = 1 }

abbrev void : ℕ → Stored
void n = record { id = an_id n; byte = 2 }

-- 2 and 1: 1 is passed; 2 and 2: both are; 4 and 3: 3 is; 4 and 6: 4 is; 6 and 6: both are. The stored ids have ended, and 7 is unknown without a comparison.
pub each-kind : merge (held 2 ∷ waiting 4 ∷ void 6 ∷ []) (an_id 1 ∷ an_id 2 ∷ an_id 3 ∷ an_id 6 ∷ an_id 7 ∷ [])
    ≡ record { answers = 3 ∷ 0 ∷ 3 ∷ 2 ∷ 3 ∷ []; comparisons = 5 }
unfolding merge merge_from order_of before same
each-kind = refl

-- 1, 2, 3, 4 and 6 are not above 6, the smaller of 6 and 7
pub each-kind-closed : closed_form (an_id 2 ∷ an_id 4 ∷ an_id 6 ∷ []) (an_id 1 ∷ an_id 2 ∷ an_id 3 ∷ an_id 6 ∷ an_id 7 ∷ []) ≡ 5
unfolding closed_form last_of keep sort insert before same
each-kind-closed = refl

-- one that waits is asked for alone: 2 and 4, and 4 and 4; the asked ids have ended, and 6 is not looked at
pub asked-end-first : merge (held 2 ∷ waiting 4 ∷ void 6 ∷ []) (an_id 4 ∷ []) ≡ record { answers = 1 ∷ []; comparisons = 2 }
unfolding merge merge_from order_of before same
asked-end-first = refl

-- nothing stored; nothing asked
pub nothing_stored : merge [] (an_id 1 ∷ an_id 2 ∷ []) ≡ record { answers = 3 ∷ 3 ∷ []; comparisons = 0 }
unfolding merge
nothing_stored = refl

pub nothing-asked : merge (held 2 ∷ waiting 4 ∷ []) [] ≡ record { answers = []; comparisons = 0 }
unfolding merge merge_from
nothing-asked = refl

-- The best bound is reached, at 2 + 2 - 1 and at 3 + 1 - 1: no two ids are equal, and where one list ends, one id of the other is left.
pub most-in-turn : merge (held 1 ∷ held 3 ∷ []) (an_id 2 ∷ an_id 4 ∷ []) ≡ record { answers = 3 ∷ 3 ∷ []; comparisons = 3 }
unfolding merge merge_from order_of before same
most-in-turn = refl

pub most-for-one : merge (held 1 ∷ held 2 ∷ held 4 ∷ []) (an_id 3 ∷ []) ≡ record { answers = 3 ∷ []; comparisons = 3 }
unfolding merge merge_from order_of before same
most-for-one = refl
