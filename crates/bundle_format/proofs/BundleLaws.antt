-- Bundles: reading them item by item; and that the bytes which items are laid out in read back to these, and that no other bytes are a bundle.
use Rattle.std.specs.Prelude.{ℕ, zero, suc, ◌+◌, ◌≤◌, ◌<◌, ◌≡◌, refl, Bool, true, false}
use Rattle.std.proofs.Common.{arith, sym, subst, ◌∙◌, ⊎_elim, length-drop, take-append-drop, length-take-le, take_at, drop-drop, leb-true, le-leb}
use Rattle.std.proofs.Math.Path.{ap, ap₂}
use mathlib.Core.List.Memᴰ
use mathlib.Core.List.{List, [], ◌∷◌, ◌++◌, append_assoc}
use Rattle.std.specs.Prelude.{Option, None, Some}
use Rattle.std.proofs.Math.ListN.{length, take, drop, length-append}
use Rattle.std.proofs.Math.Seq.{drop_at, take-append_seam}
use Rattle.bytes_order.specs.Member.{◌∈◌, concat_map}
use Rattle.bytes_words.specs.Words.{Bytes, bytes_in, big_of}
use Rattle.bytes_words.proofs.WordsLaws.{length-bytes_in, bytes_take, bytes_drop, big_of-fits, big-bytes_in, bytes_in-big}
use Rattle.bundle_format.specs.Bundle.{length_bytes, longest_item, first_length, first_item, after_first, first_whole, with_first, items_within, item_bytes, bundle_of}

-- reading bytes from the front: the end; a first item; an item that is not whole; one too many
pub items-end : (n : ℕ) (b : List ℕ) → length b ≡ 0 → items_within n b ≡ Some []
unfolding items_within
items-end zero [] e = refl
items-end (suc n) [] e = refl
items-end n (x ∷ b) e = absurd (omega arith)

pub items-next : (n : ℕ) (b : List ℕ) → 0 < length b → first_whole b ≡ true → items_within (suc n) b ≡ with_first (first_item b) (items_within n (after_first b))
unfolding items_within
items-next n [] h e = absurd (omega arith)
items-next n (x ∷ b) h e = rw e

pub items-cut : (n : ℕ) (b : List ℕ) → 0 < length b → first_whole b ≡ false → items_within n b ≡ None
unfolding items_within
items-cut n [] h e = absurd (omega arith)
items-cut zero (x ∷ b) h e = refl
items-cut (suc n) (x ∷ b) h e = rw e

pub items-many : (b : List ℕ) → 0 < length b → items_within 0 b ≡ None
unfolding items_within
items-many [] h = absurd (omega arith)
items-many (x ∷ b) h = refl

-- what bytes that have items, and are not at their end, begin with
pub record First (n : ℕ) (b : List ℕ) (xs : List (List ℕ)) : Type 0 where
  pub rest : List (List ℕ)
  pub most : ℕ
  pub fewer : n ≡ suc most
  pub whole : length_bytes + first_length b ≤ length b
  pub items : xs ≡ first_item b ∷ rest
  pub reads : items_within most (after_first b) ≡ Some rest

none-some : {A C : Type 0} {x : A} → None ≡ Some x → C
none-some e = let z : ◌≡◌ {A = ℕ} 0 1 = cc in absurd (omega arith)

pub some_one : {A : Type 0} {x y : A} → Some x ≡ Some y → x ≡ y
some_one e = cc

module _ (n : ℕ) (b : List ℕ) (xs : List (List ℕ)) (whole : first_whole b ≡ true) where
  -- by what the rest reads to
  first_of : (o : Option (List (List ℕ))) → items_within n (after_first b) ≡ o → with_first (first_item b) o ≡ Some xs → First (suc n) b xs
  first_of None r e = none-some e
  first_of (Some ys) r e =
      record { rest = ys; most = n; fewer = refl; whole = leb-true (length_bytes + first_length b) (length b) whole; items = sym (some_one e); reads = r }

pub items-first : (n : ℕ) (b : List ℕ) (xs : List (List ℕ)) → 0 < length b → items_within n b ≡ Some xs → First n b xs
items-first zero b xs h e = none-some (sym (items-many b h) ∙ e)
items-first (suc n) b xs h e = by_whole (first_whole b) refl
  where
    by_whole : (t : Bool) → first_whole b ≡ t → First (suc n) b xs
    by_whole true w = first_of n b xs w (items_within n (after_first b)) refl (sym (items-next n b h w) ∙ e)
    by_whole false w = none-some (sym (items-cut (suc n) b h w) ∙ e)

-- at most n items
none-few : (n : ℕ) {xs : List (List ℕ)} → Some [] ≡ Some xs → length xs ≤ n
none-few n {xs} e = let q : [] ≡ xs = some_one e in rw (← q) (omega arith)

pub items-few : (n : ℕ) (b : List ℕ) (xs : List (List ℕ)) → items_within n b ≡ Some xs → length xs ≤ n
items-few zero [] xs e = none-few zero (sym (items-end zero [] refl) ∙ e)
items-few zero (x ∷ b) xs e = none-some (sym (items-many (x ∷ b) (omega arith)) ∙ e)
items-few (suc n) [] xs e = none-few (suc n) (sym (items-end (suc n) [] refl) ∙ e)
items-few (suc n) (x ∷ b) xs e =
    let f = items-first (suc n) (x ∷ b) xs (omega arith) e in
    let k : f.most ≡ n = let h = f.fewer in omega arith in
    let h = items-few n (after_first (x ∷ b)) f.rest (sym (ap (λ (m : ℕ). items_within m (after_first (x ∷ b))) k) ∙ f.reads) in
    omega (arith, ap length f.items)

-- of an item, that it is at most so long
abbrev pub ItemSized : List ℕ → Type 0
ItemSized x = length x ≤ longest_item

-- an item that is laid out, with bytes after it
module _ (x : List ℕ) (sized : ItemSized x) (q : List ℕ) where
  laid : List ℕ
  laid = item_bytes x ++ q

  head-length : length (bytes_in length_bytes (length x)) ≡ length_bytes
  head-length = length-bytes_in length_bytes (length x)

  laid-length : length laid ≡ length_bytes + length x + length q
  unfolding laid
  laid-length = omega (arith, length-append (item_bytes x) q, length-append (bytes_in length_bytes (length x)) x, head-length)

  laid-first : first_length laid ≡ length x
  unfolding laid
  laid-first =
      ap (λ (b : List ℕ). big_of (take length_bytes b)) (append_assoc (bytes_in length_bytes (length x)) x q)
      ∙ ap big_of (take_at (bytes_in length_bytes (length x)) (x ++ q) length_bytes head-length)
      ∙ big-bytes_in length_bytes (omega arith)

  laid-item : first_item laid ≡ x
  unfolding laid
  laid-item =
      ap (λ (k : ℕ). take k (drop length_bytes laid)) laid-first
      ∙ ap (λ (b : List ℕ). take (length x) (drop length_bytes b)) (append_assoc (bytes_in length_bytes (length x)) x q)
      ∙ ap (take (length x)) (drop_at (bytes_in length_bytes (length x)) (x ++ q) length_bytes head-length)
      ∙ take-append_seam x q

  laid-after : after_first laid ≡ q
  unfolding laid
  laid-after =
      ap (λ (k : ℕ). drop (length_bytes + k) laid) laid-first
      ∙ drop_at (item_bytes x) q (length_bytes + length x) (omega (arith, length-append (bytes_in length_bytes (length x)) x, head-length))

  laid-whole : first_whole laid ≡ true
  laid-whole = le-leb (length_bytes + first_length laid) (length laid) (omega (arith, laid-first, laid-length))

  pub laid_next : (n : ℕ) → items_within (suc n) (item_bytes x ++ q) ≡ with_first x (items_within n q)
  unfolding laid
  laid_next n =
      items-next n laid (omega (arith, laid-length)) laid-whole
      ∙ ap₂ (λ (y b : List ℕ). with_first y (items_within n b)) laid-item laid-after

-- the bytes of at most n items read back to them
pub items_back : (n : ℕ) (xs : List (List ℕ)) → length xs ≤ n → ((x : List ℕ) → x ∈ xs → ItemSized x) → items_within n (bundle_of xs) ≡ Some xs
unfolding concat_map
items_back n [] few sized = items-end n [] refl
items_back zero (x ∷ xs) few sized = absurd (omega arith)
items_back (suc n) (x ∷ xs) few sized =
    laid_next x (sized x (Memᴰ.head refl)) (bundle_of xs) n
    ∙ ap (with_first x) (items_back n xs (omega arith) (λ y m. sized y (Memᴰ.tail m)))

-- bytes that read to items: they are these laid out
pub record IsBundle (n : ℕ) (b : List ℕ) (xs : List (List ℕ)) : Type 0 where
  pub laid_out : b ≡ bundle_of xs
  pub few : length xs ≤ n
  pub sized : (x : List ℕ) → x ∈ xs → ItemSized x

-- the first item of bytes, laid out
module _ (b : List ℕ) (bytes : Bytes b) (whole : length_bytes + first_length b ≤ length b) where
  two : length (take length_bytes b) ≡ length_bytes
  two = length-take-le length_bytes b (omega arith)

  item-length : length (first_item b) ≡ first_length b
  item-length = length-take-le (first_length b) (drop length_bytes b) (omega (arith, length-drop length_bytes b))

  item-sized : ItemSized (first_item b)
  item-sized = omega (arith, item-length, big_of-fits length_bytes (take length_bytes b) (bytes_take length_bytes b bytes) (omega (arith, two)))

  head-back : bytes_in length_bytes (length (first_item b)) ≡ take length_bytes b
  head-back =
      ap (bytes_in length_bytes) item-length
      ∙ ap (λ (n : ℕ). bytes_in n (first_length b)) (sym two)
      ∙ bytes_in-big (take length_bytes b) (bytes_take length_bytes b bytes)

  first-laid : b ≡ item_bytes (first_item b) ++ after_first b
  first-laid =
      sym
      (append_assoc (bytes_in length_bytes (length (first_item b))) (first_item b) (after_first b)
      ∙ ap₂ ◌++◌ head-back
      (ap (λ (r : List ℕ). first_item b ++ r) (sym (drop-drop (first_length b) length_bytes b)) ∙ take-append-drop (first_length b) (drop length_bytes b))
      ∙ take-append-drop length_bytes b)

-- none, where the bytes end
bundle-end : (n : ℕ) {xs : List (List ℕ)} → items_within n [] ≡ Some xs → IsBundle n [] xs
unfolding concat_map
bundle-end n {xs} e =
    let q : [] ≡ xs = some_one (sym (items-end n [] refl) ∙ e) in
    rw (← q) (record { laid_out = refl; few = omega arith; sized = λ x m. absurd (Memᴰ.not-nil m) })

-- one more, before a bundle
bundle-next : (n : ℕ) (b : List ℕ) {xs : List (List ℕ)} → Bytes b → (f : First (suc n) b xs) → IsBundle n (after_first b) f.rest → IsBundle (suc n) b xs
unfolding concat_map
bundle-next n b bytes f i =
    let r = f.rest in
    rw f.items
    (record {
      laid_out = first-laid b bytes f.whole ∙ ap (λ (q : List ℕ). item_bytes (first_item b) ++ q) i.laid_out;
      few = let h = i.few in omega arith;
      sized =
          λ x m.
          ⊎_elim (λ (e : x ≡ first_item b). subst ItemSized (sym e) (item-sized b bytes f.whole)) (λ (k : x ∈ r). i.sized x k) (Memᴰ.cases_cons m);
    })

-- bytes that read to items are these items laid out, and no others
pub items-only : (n : ℕ) (b : List ℕ) (xs : List (List ℕ)) → Bytes b → items_within n b ≡ Some xs → IsBundle n b xs
items-only zero [] xs bytes e = bundle-end zero e
items-only zero (x ∷ b) xs bytes e = none-some (sym (items-many (x ∷ b) (omega arith)) ∙ e)
items-only (suc n) [] xs bytes e = bundle-end (suc n) e
items-only (suc n) (x ∷ b) xs bytes e =
    let f = items-first (suc n) (x ∷ b) xs (omega arith) e in
    let k : n ≡ f.most = let h = f.fewer in omega arith in
    bundle-next n (x ∷ b) bytes f
    (items-only n (after_first (x ∷ b)) f.rest (bytes_drop (length_bytes + first_length (x ∷ b)) (x ∷ b) bytes) (ap (λ (m : ℕ). items_within m (after_first (x ∷ b))) k ∙ f.reads))
