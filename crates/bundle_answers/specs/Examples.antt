-- Worked examples: the six bytes of each kind of answer.
use Rattle.std.specs.Prelude.{◌≡◌, refl, [], ◌∷◌}
use Rattle.bytes_order.specs.Member.{concat_map}
use Rattle.bytes_words.specs.Words.{bytes_in}
use Rattle.rules.specs.declared.Standing.TheVariants.{Held, Waiting, Void}
use Rattle.ledger_offering.specs.Values.{taken_as, known_as, refused_as}
use Rattle.bundle_answers.specs.AnswerBytes.{answer_bytes, answers_bytes}

-- taken, and held with 257 others: the higher byte of a count is the first
pub taken-held : answer_bytes (taken_as Held 258 3) ≡ 0 ∷ 0 ∷ 1 ∷ 2 ∷ 0 ∷ 3 ∷ []
unfolding answer_bytes bytes_in
taken-held = refl

-- taken, and void
pub taken-void : answer_bytes (taken_as Void 0 1) ≡ 0 ∷ 2 ∷ 0 ∷ 0 ∷ 0 ∷ 1 ∷ []
unfolding answer_bytes bytes_in
taken-void = refl

-- one that waits, the same again, and one that is refused by row 10
pub in_order : answers_bytes (taken_as Waiting 0 0 ∷ known_as Waiting ∷ refused_as 10 ∷ []) ≡
    0 ∷ 1 ∷ 0 ∷ 0 ∷ 0 ∷ 0 ∷ 1 ∷ 1 ∷ 0 ∷ 0 ∷ 0 ∷ 0 ∷ 2 ∷ 10 ∷ 0 ∷ 0 ∷ 0 ∷ 0 ∷ []
unfolding concat_map answer_bytes bytes_in
in_order = refl

-- one that was held, and one that was void before
pub known-held : answer_bytes (known_as Held) ≡ 1 ∷ 0 ∷ 0 ∷ 0 ∷ 0 ∷ 0 ∷ []
unfolding answer_bytes bytes_in
known-held = refl

pub known-void : answer_bytes (known_as Void) ≡ 1 ∷ 2 ∷ 0 ∷ 0 ∷ 0 ∷ 0 ∷ []
unfolding answer_bytes bytes_in
known-void = refl
