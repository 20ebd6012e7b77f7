-- Printing one text after another on a page that is lent: the laws of `Printing`, of pages.
use Rattle.std.proofs.Common.{ℕ, List, [], ◌++◌, ◌≡◌, refl, ◌∙◌}
use Rattle.bytes_print.specs.Page.{Prints, Printed}
use Rattle.bytes_print.specs.declared.Page.{Page}
use Rattle.bytes_print.proofs.Printing as prints

pub both : {p q r : Page} {t t' : List ℕ} → Printed p t q → Printed q t' r → Printed p (t ++ t') r
both a b = record { prints = prints.both a.prints b.prints; same_page = b.same_page ∙ a.same_page }

-- no text
pub nothing : (p : Page) → Printed p [] p
nothing p = record { prints = prints.nothing p.bytes.now p.at; same_page = refl }

-- a text by another name
pub same_text : {p q : Page} {t t' : List ℕ} → t ≡ t' → Printed p t q → Printed p t' q
same_text e a = record { prints = prints.same_text e a.prints; same_page = a.same_page }

-- the word of a case k, where k is the case j and the text is the word of j
pub same_word : {K : Type 0} (word : K → List ℕ) {k j : K} {p q : Page} {t : List ℕ} → k ≡ j → Printed p t q → t ≡ word j → Printed p (word k) q
same_word word e a same = record { prints = prints.same_word word e a.prints same; same_page = a.same_page }
