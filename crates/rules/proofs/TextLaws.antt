-- The report's text can be read back: no digit is a separator, so equal texts have the same lines, part by part.
use Rattle.std.specs.Prelude.{ℕ, ◌<◌, refl}
use Prim.Native.String.{String}
use native.Mathlib.Omega.{arith}
use Rattle.std.proofs.Math.Path.{◌≡◌, sym, ap}
use Rattle.std.proofs.Common.{◌∙◌}
use mathlib.Core.List.{List, [], ◌∷◌, ◌++◌, map, append_assoc, append_cancel_left, head-eq_of_cons-eq, tail-eq_of_cons-eq}
use Rattle.bytes_order.specs.Member.{concat_map}
use Rattle.rules.specs.Standing.{Rules}
use Rattle.rules.specs.declared.Form.{Form}
use Rattle.rules.specs.declared.Form.TheVariants.{Full, Short}
use Rattle.rules.specs.declared.MarkKind.{MarkKind}
use Rattle.rules.specs.declared.MarkKind.TheVariants.{Fork, Fault, Both}
use Rattle.rules.specs.SetEntry.{SetEntry}
use Rattle.rules.specs.Mark.{Mark}
use Rattle.rules.specs.Parts.{Parts}
use Rattle.bytes_ascii.specs.Ascii.{codes, ascii, hex, decimal, decimal_limit}
use Rattle.bytes_ascii.specs.AsciiLaws.{Digits, digits-nil, digits-cons, hex-injective, hex-digits, decimal-digits, decimal_injective, cut}
use Rattle.rules.specs.Report.{pair_line, author_line, update_line, set_line, bytes_line, id_line, mark_word, mark_line, part_text, read_offs_text, opening, report_text}

-- the words of the marks: letters, and one for each kind

word-letters : (k : MarkKind) → Digits (mark_word k)
unfolding mark_word ascii codes
word-letters Fork = digits-cons (omega arith) (digits-cons (omega arith) (digits-cons (omega arith) (digits-cons (omega arith) digits-nil)))
word-letters Fault = digits-cons (omega arith) (digits-cons (omega arith) (digits-cons (omega arith) (digits-cons (omega arith) (digits-cons (omega arith) digits-nil))))
word-letters Both = digits-cons (omega arith) (digits-cons (omega arith) (digits-cons (omega arith) (digits-cons (omega arith) digits-nil)))

word-injective : (k k' : MarkKind) → mark_word k ≡ mark_word k' → k ≡ k'
unfolding mark_word ascii codes
word-injective Fork Fork e = refl
word-injective Fork Fault e = absurd (let q : ◌≡◌ {A = ℕ} 111 97 = head-eq_of_cons-eq (tail-eq_of_cons-eq e) in omega arith)
word-injective Fork Both e = absurd (let q : ◌≡◌ {A = ℕ} 102 98 = head-eq_of_cons-eq e in omega arith)
word-injective Fault Fork e = absurd (let q : ◌≡◌ {A = ℕ} 97 111 = head-eq_of_cons-eq (tail-eq_of_cons-eq e) in omega arith)
word-injective Fault Fault e = refl
word-injective Fault Both e = absurd (let q : ◌≡◌ {A = ℕ} 102 98 = head-eq_of_cons-eq e in omega arith)
word-injective Both Fork e = absurd (let q : ◌≡◌ {A = ℕ} 98 102 = head-eq_of_cons-eq e in omega arith)
word-injective Both Fault e = absurd (let q : ◌≡◌ {A = ℕ} 98 102 = head-eq_of_cons-eq e in omega arith)
word-injective Both Both e = refl

-- Lines that can be read back: each begins with a bracket, and shows its key, wherever it stands.
pub record Readable {A : Type 0} (line key : A → List ℕ) : Type 0 where
  pub opens : (x : A) → (t : List ℕ) × (line x ≡ 40 ∷ t)
  pub reads : (x y : A) (r r' : List ℕ) → line x ++ r ≡ line y ++ r' → (key x ≡ key y) × (r ≡ r')

module _ {A : Type 0} {line key : A → List ℕ} (readable : Readable line key) where
  -- the closing bracket begins no line
  closed : (y : A) (ys : List A) (r r' : List ℕ) → 41 ∷ 10 ∷ r ≡ concat_map line (y ∷ ys) ++ r' → ⊥
  unfolding concat_map
  closed y ys r r' e =
      let o = readable.opens y in
      let q : ◌≡◌ {A = ℕ} 41 40 = head-eq_of_cons-eq (e ∙ ap (λ (l : List ℕ). l ++ concat_map line ys ++ r') o.1) in
      omega arith

  lines-read : (xs ys : List A) (r r' : List ℕ) → concat_map line xs ++ 41 ∷ 10 ∷ r ≡ concat_map line ys ++ 41 ∷ 10 ∷ r' → (map key xs ≡ map key ys) × (r ≡ r')
  unfolding concat_map
  lines-read [] [] r r' e = (refl, tail-eq_of_cons-eq (tail-eq_of_cons-eq e))
  lines-read [] (y ∷ ys) r r' e = absurd (closed y ys r (41 ∷ 10 ∷ r') e)
  lines-read (x ∷ xs) [] r r' e = absurd (closed x xs r' (41 ∷ 10 ∷ r) (sym e))
  lines-read (x ∷ xs) (y ∷ ys) r r' e =
      let q = sym (append_assoc (line x) (concat_map line xs) (41 ∷ 10 ∷ r)) ∙ e ∙ append_assoc (line y) (concat_map line ys) (41 ∷ 10 ∷ r') in
      let h = readable.reads x y (concat_map line xs ++ 41 ∷ 10 ∷ r) (concat_map line ys ++ 41 ∷ 10 ∷ r') q in
      let k = lines-read xs ys r r' h.1 in
      (λ i. h.0 i ∷ k.0 i, k.1)

  -- a part shows the keys of its elements, and then comes the rest
  pub part-reads : (word : String) (xs ys : List A) (r r' : List ℕ) → part_text word line xs r ≡ part_text word line ys r' → (map key xs ≡ map key ys) × (r ≡ r')
  unfolding part_text ascii codes
  part-reads word xs ys r r' e =
      lines-read xs ys r r' (append_cancel_left (ascii word) (concat_map line xs ++ 41 ∷ 10 ∷ r) (concat_map line ys ++ 41 ∷ 10 ∷ r') e)

-- lines of two words, neither of which has a separator: they show both

pair_line_lem : (x y rest : List ℕ) → pair_line x y ++ rest ≡ 40 ∷ (x ++ 32 ∷ (y ++ 41 ∷ 10 ∷ rest))
unfolding ascii codes
pair_line_lem x y rest =
    ap {B = List ℕ} (λ l. 40 ∷ l)
    (append_assoc x (32 ∷ (y ++ 41 ∷ 10 ∷ [])) rest
    ∙ ap {B = List ℕ} (λ l. x ++ 32 ∷ l) (append_assoc y (41 ∷ 10 ∷ []) rest))

pair-line-reads : (x x' y y' r r' : List ℕ) → Digits x → Digits x' → Digits y → Digits y' → pair_line x y ++ r ≡ pair_line x' y' ++ r' → (x ≡ x') × (y ≡ y') × (r ≡ r')
pair-line-reads x x' y y' r r' dx dx' dy dy' e =
    let h = cut x x' dx dx' (omega arith) (omega arith) (tail-eq_of_cons-eq (sym (pair_line_lem x y r) ∙ e ∙ pair_line_lem x' y' r')) in
    let k = cut y y' dy dy' (omega arith) (omega arith) h.1 in
    (h.0, k.0, tail-eq_of_cons-eq k.1)

author-line-reads : (bs cs : List ℕ) (a b : ℕ) (r r' : List ℕ) → author_line bs a ++ r ≡ author_line cs b ++ r' → (bs ≡ cs) × (decimal a ≡ decimal b) × (r ≡ r')
author-line-reads bs cs a b r r' e =
    let h = pair-line-reads (hex bs) (hex cs) (decimal a) (decimal b) r r' (hex-digits bs) (hex-digits cs) (decimal-digits a) (decimal-digits b) e in
    (hex-injective bs cs h.0, h.1, h.2)

mark-line-reads : (m n : Mark) (r r' : List ℕ) → mark_line m ++ r ≡ mark_line n ++ r'
    → (decimal m.author ≡ decimal n.author) × (mark_word m.kind ≡ mark_word n.kind) × (r ≡ r')
unfolding mark_line
mark-line-reads m n r r' e =
    pair-line-reads (decimal m.author) (decimal n.author) (mark_word m.kind) (mark_word n.kind) r r'
    (decimal-digits m.author) (decimal-digits n.author) (word-letters m.kind) (word-letters n.kind) e

update-readable : (rules : Rules) → Readable (update_line rules) rules.ident
unfolding update_line ascii codes
update-readable rules =
    record {
      opens = λ u. (hex (rules.ident u) ++ (ascii " " ++ (decimal u.author ++ ascii ")\n")), refl);
      reads = λ x y r r' e. let h = author-line-reads (rules.ident x) (rules.ident y) x.author y.author r r' e in (h.0, h.2);
    }

-- a line of the set shows its entry
pub set-line-injective : (e f : SetEntry) → e.author < decimal_limit → f.author < decimal_limit → set_line e ≡ set_line f → e ≡ f
unfolding set_line
set-line-injective e f h g p =
    let q = author-line-reads e.tag f.tag e.author f.author [] [] (ap (λ (l : List ℕ). l ++ []) p) in
    let a = decimal_injective e.author f.author (omega arith) (omega arith) q.1 in
    λ i. record { tag = q.0 i; author = a i }

set-readable : Readable set_line set_line
unfolding set_line ascii codes
set-readable =
    record {
      opens = λ e. (hex e.tag ++ (ascii " " ++ (decimal e.author ++ ascii ")\n")), refl);
      reads = λ e f r r' p.
          let h = author-line-reads e.tag f.tag e.author f.author r r' p in
          (λ i. pair_line (hex (h.0 i)) (h.1 i), h.2);
    }

-- other lines

bytes-line : (bs rest : List ℕ) → bytes_line bs ++ rest ≡ 40 ∷ (hex bs ++ 41 ∷ 10 ∷ rest)
unfolding bytes_line ascii codes
bytes-line bs rest = ap {B = List ℕ} (λ l. 40 ∷ l) (append_assoc (hex bs) (41 ∷ 10 ∷ []) rest)

pub bytes-readable : Readable bytes_line (λ (bs : List ℕ). bs)
unfolding bytes_line ascii codes
bytes-readable =
    record {
      opens = λ bs. (hex bs ++ ascii ")\n", refl);
      reads = λ x y r r' e. reads x y r r' (tail-eq_of_cons-eq (sym (bytes-line x r) ∙ e ∙ bytes-line y r'));
    }
  where
    reads : (x y r r' : List ℕ) → hex x ++ 41 ∷ 10 ∷ r ≡ hex y ++ 41 ∷ 10 ∷ r' → (x ≡ y) × (r ≡ r')
    reads x y r r' e =
        let h = cut (hex x) (hex y) (hex-digits x) (hex-digits y) (omega arith) (omega arith) e in
        (hex-injective x y h.0, tail-eq_of_cons-eq h.1)

id-readable : (rules : Rules) → Readable (id_line rules) rules.ident
unfolding id_line
id-readable rules = record { opens = λ u. bytes-readable.opens (rules.ident u); reads = λ x y. bytes-readable.reads (rules.ident x) (rules.ident y) }

-- a line of the marks shows its mark
pub mark-line-injective : (m n : Mark) → m.author < decimal_limit → n.author < decimal_limit → mark_line m ≡ mark_line n → m ≡ n
mark-line-injective m n h g p =
    let q = mark-line-reads m n [] [] (ap (λ (l : List ℕ). l ++ []) p) in
    let a = decimal_injective m.author n.author (omega arith) (omega arith) q.0 in
    let k = word-injective m.kind n.kind q.1 in
    λ i. record { author = a i; kind = k i }

mark-readable : Readable mark_line mark_line
unfolding mark_line ascii codes
mark-readable =
    record {
      opens = λ m. (decimal m.author ++ (ascii " " ++ (mark_word m.kind ++ ascii ")\n")), refl);
      reads = λ m n r r' p.
          let h = mark-line-reads m n r r' p in
          (λ i. pair_line (h.0 i) (h.1 i), h.2);
    }

-- What the parts of both forms show: the lines of the marks and of the set, and the list.
pub record SameReadOffs (P Q : Parts) : Type 0 where
  pub mark_lines : map mark_line P.marks ≡ map mark_line Q.marks
  pub set_lines : map set_line P.set ≡ map set_line Q.set
  pub list_values : map (λ (v : List ℕ). v) P.list ≡ map (λ (v : List ℕ). v) Q.list

-- .. and what the full form shows too: the ids, part by part
pub record SameShown (rules : Rules) (P Q : Parts) : Type 0 where
  pub held_ids : map rules.ident P.held ≡ map rules.ident Q.held
  pub waiting_ids : map rules.ident P.waiting ≡ map rules.ident Q.waiting
  pub void_ids : map rules.ident P.void ≡ map rules.ident Q.void
  pub read-offs : SameReadOffs P Q

read-offs-show : (P Q : Parts) → read_offs_text P ≡ read_offs_text Q → SameReadOffs P Q
read-offs-show P Q e =
    let m = part-reads mark-readable "(marks\n" _ _ _ _ e in
    let s = part-reads set-readable "(set\n" _ _ _ _ m.1 in
    let l = part-reads bytes-readable "(list\n" _ _ _ _ s.1 in
    record { mark_lines = m.0; set_lines = s.0; list_values = l.0 }

-- equal texts show the same
pub text-shows : (rules : Rules) (P Q : Parts) → report_text Full rules P ≡ report_text Full rules Q → SameShown rules P Q
unfolding report_text
text-shows rules P Q e =
    let h = part-reads (update-readable rules) "(held\n" _ _ _ _ (append_cancel_left opening _ _ e) in
    let t = part-reads (id-readable rules) "(heads\n" _ _ _ _ h.1 in
    let w = part-reads (update-readable rules) "(waiting\n" _ _ _ _ t.1 in
    let v = part-reads (update-readable rules) "(void\n" _ _ _ _ w.1 in
    record { held_ids = h.0; waiting_ids = w.0; void_ids = v.0; read-offs = read-offs-show P Q v.1 }

pub text-shows-read-offs : (form : Form) (rules : Rules) (P Q : Parts) → report_text form rules P ≡ report_text form rules Q → SameReadOffs P Q
unfolding report_text
text-shows-read-offs Full rules P Q e = (text-shows rules P Q e).read-offs
text-shows-read-offs Short rules P Q e = read-offs-show P Q (append_cancel_left opening _ _ e)
