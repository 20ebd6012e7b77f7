-- The bytes of answers: six for each, and those of no other answer of an offer.
use Rattle.std.specs.Prelude.{ℕ, suc, ◌-◌, ◌*◌, ◌^◌, ◌<◌, ◌≡◌, refl, List, [], ◌∷◌, ◌++◌, Bool, true, cond, length, get_or, take, drop, eqb}
use Rattle.std.proofs.Common.{arith, sym, ap, ◌∙◌, append-nil, length-append, take_at, take_all, drop_at}
use Rattle.bytes_order.specs.Member.{concat_map}
use Rattle.bytes_order.specs.MemberLaws.{concat_map-append}
use Rattle.bytes_words.specs.Words.{bytes_in, big_of}
use Rattle.bytes_words.proofs.WordsLaws.{length-bytes_in, big-bytes_in}
use Rattle.bitset.specs.BelowLaws.{count_below-le}
use Rattle.rules.proofs.TermsLaws.{allowed→, places-most}
use Rattle.rules.specs.declared.Standing.{Standing}
use Rattle.standing_bytes.proofs.StandingByteLaws.{standing_of, standing-back}
use Rattle.ledger_state.specs.declared.Ledger.{Ledger}
use Rattle.ledger_state.specs.State.{Book, place_at, is_held, is_void, standing_count}
use Rattle.ledger_state.specs.View.{book_of}
use Rattle.ledger_state.specs.Row1.{sound}
use Rattle.ledger_state.proofs.Row1Laws.{sound→}
use Rattle.ledger_offering.specs.Values.{OfferValues, taken_as, known_as, refused_as}
use Rattle.ledger_offering.specs.Offer.{OfferRow, unfit, malformed, known, full, taken}
use Rattle.ledger_offering.specs.Calls.{Calls}
use Rattle.ledger_offering.specs.CallsLaws.{calls_count}
use Rattle.bundle_answers.specs.AnswerBytes.{answer_length, count_bytes, answer_bytes, answers_bytes}

counts-length : (h w : ℕ) → length (count_bytes h w) ≡ 4
counts-length h w = omega (arith, length-append (bytes_in 2 h) (bytes_in 2 w), length-bytes_in 2 h, length-bytes_in 2 w)

pub answer-length : (v : OfferValues) → length (answer_bytes v) ≡ answer_length
unfolding answer_bytes
answer-length (taken_as v h w) = ap (λ (n : ℕ). suc (suc n)) (counts-length h w)
answer-length (known_as v) = ap (λ (n : ℕ). suc (suc n)) (counts-length 0 0)
answer-length (refused_as n) = ap (λ (n : ℕ). suc (suc n)) (counts-length 0 0)

pub answers-length : (vs : List OfferValues) → length (answers_bytes vs) ≡ answer_length * length vs
unfolding concat_map
answers-length [] = refl
answers-length (v ∷ vs) = let h = answers-length vs in omega (arith, length-append (answer_bytes v) (answers_bytes vs), answer-length v)

-- those of offers one after the other: six for each offer
pub calls-answers-length : {l l' : Ledger} {s s' : List ℕ} {bs : List (List ℕ)} {vs : List OfferValues} → Calls l s bs vs l' s'
    → length (answers_bytes vs) ≡ answer_length * length bs
calls-answers-length {vs = vs} c = answers-length vs ∙ ap (λ (n : ℕ). answer_length * n) (calls_count c)

-- one more answer
pub answers-then : (vs : List OfferValues) (v : OfferValues) → answers_bytes (vs ++ (v ∷ [])) ≡ answers_bytes vs ++ answer_bytes v
unfolding concat_map
answers-then vs v = concat_map-append answer_bytes vs (v ∷ []) ∙ ap (λ (b : List ℕ). answers_bytes vs ++ b) (append-nil (answer_bytes v))

-- reading an answer back from its bytes
answer_of : List ℕ → OfferValues
answer_of b =
    cond (eqb (get_or b 0 0) 0) (taken_as (standing_of (get_or b 1 0)) (big_of (take 2 (drop 2 b))) (big_of (take 2 (drop 4 b))))
    (cond (eqb (get_or b 0 0) 1) (known_as (standing_of (get_or b 1 0))) (refused_as (get_or b 1 0)))

-- the counts, where there are some, are numbers of 16 bits
abbrev pub CountsFit : OfferValues → Type 0
CountsFit v = (standing : Standing) (held void : ℕ) → v ≡ taken_as standing held void → (held < 2 ^ 16) × (void < 2 ^ 16)

count-back : (h w : ℕ) → h < 2 ^ 16 → big_of (take 2 (count_bytes h w)) ≡ h
count-back h w k = ap big_of (take_at (bytes_in 2 h) (bytes_in 2 w) 2 (length-bytes_in 2 h)) ∙ big-bytes_in 2 k

second_back : (h w : ℕ) → w < 2 ^ 16 → big_of (take 2 (drop 2 (count_bytes h w))) ≡ w
second_back h w k =
    ap (λ (b : List ℕ). big_of (take 2 b)) (drop_at (bytes_in 2 h) (bytes_in 2 w) 2 (length-bytes_in 2 h))
    ∙ ap big_of (take_all 2 (bytes_in 2 w) (omega (arith, length-bytes_in 2 w)))
    ∙ big-bytes_in 2 k

answer_back : (v : OfferValues) → CountsFit v → answer_of (answer_bytes v) ≡ v
unfolding answer_of answer_bytes
answer_back (taken_as v h w) f =
    let k = f v h w refl in
    λ i. taken_as (standing-back v i) (count-back h w k.0 i) (second_back h w k.1 i)
answer_back (known_as v) f = ap known_as (standing-back v)
answer_back (refused_as n) f = refl

-- Six bytes are those of one answer.
pub answer-one : (v w : OfferValues) → CountsFit v → CountsFit w → answer_bytes v ≡ answer_bytes w → v ≡ w
answer-one v w f g e = sym (answer_back v f) ∙ ap answer_of e ∙ answer_back w g

-- The counts of every offer fit: there are at most as many updates as places.
count_fits : (p : Standing → Bool) (l : Book) (s : List ℕ) → sound l s ≡ true → standing_count p l < 2 ^ 16
unfolding standing_count
count_fits p l s h =
    let a = sound→ l s h in
    omega (arith, count_below-le l.used (λ (k : ℕ). p (place_at l k).standing), a.few, places-most (allowed→ l.terms a.terms_allowed))

pub offer-counts : {l r : Ledger} {s b s' : List ℕ} {v : OfferValues} → OfferRow l s b v r s' → CountsFit v
offer-counts (unfit e) x h w q = let z : ◌≡◌ {A = ℕ} 0 1 = cc in absurd (omega arith)
offer-counts (malformed n e d) x h w q = let z : ◌≡◌ {A = ℕ} 0 1 = cc in absurd (omega arith)
offer-counts (known u k e d f) x h w q = let z : ◌≡◌ {A = ℕ} 0 1 = cc in absurd (omega arith)
offer-counts (full u e d f n) x h w q = let z : ◌≡◌ {A = ℕ} 0 1 = cc in absurd (omega arith)
offer-counts {l = l} (taken u r e d f n t) x h w q =
    let a : standing_count is_held (book_of r) - standing_count is_held (book_of l) ≡ h = cc in
    let b : standing_count is_void (book_of r) - standing_count is_void (book_of l) ≡ w = cc in (
      omega (arith, count_fits is_held (book_of r) _ t.still_sound),
      omega (arith, count_fits is_void (book_of r) _ t.still_sound),
    )
