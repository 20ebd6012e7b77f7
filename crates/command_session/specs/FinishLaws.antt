-- The end of the input, where the ledger, its store and the line buffer are where a machine is: with room for the longest end there is a report, and what is put out is
-- what the machine ends with.
use Rattle.std.specs.Prelude.{◌≡◌, refl, ℕ, ◌+◌, ◌≤◌, length, take, drop}
use Rattle.std.proofs.Math.Path.{sym, ap}
use Rattle.std.proofs.Common.{subst, ◌∙◌, le_trans, arith, length-append, length-drop, take_at}
use mathlib.Core.List.{List, ◌++◌, append_assoc}
use Rattle.bytes_order.specs.BoolLaws.{true-false}
use Rattle.update_format.specs.Update.{Update}
use Rattle.rules.specs.declared.Form.TheVariants.{Full}
use Rattle.rules.specs.Report.{report_of, report_size, max_report}
use Rattle.rules.specs.ReportLaws.{document-size}
use Rattle.rules.proofs.ReportLaws.{terms-report-length}
use Rattle.ledger_state.specs.declared.Ledger.{Ledger}
use Rattle.ledger_state.specs.State.{Terms, document_terms, Book}
use Rattle.ledger_state.specs.View.{book_of}
use Rattle.ledger_state.specs.Stands.{rules, Stands}
use Rattle.ledger_state.specs.FindLaws.{ident-length}
use Rattle.ledger_state.proofs.TakeLaws.{stands-sound}
use Rattle.ledger_refusals.specs.Numbers.{Output, put_bytes}
use Rattle.ledger.specs.Report.{ReportRow, unfit, short, written}
use Rattle.ledger.specs.BufferLaws.{buffer-length, report-within}
use Rattle.command_session.specs.Session.{Machine, last_line, finish}
use Rattle.command_session.specs.Finishing.{max_end, EndValues, with_report, put_out, ReportsAt, reported, unreported, LastLine, FinishRow, ended}
use Rattle.command_session.specs.Finishing as finishing
use Rattle.command_session.specs.MachineLaws.{last-answers, Follows}

-- a report of a ledger of document 01's terms that stands has at most 12,000 bytes
report-few : {l : Book} {s : List ℕ} (us : List Update) → l.terms ≡ document_terms → Stands l s us → length (report_of Full rules us) ≤ max_report
report-few {l} us at h =
    le_trans (terms-report-length l.terms Full rules ident-length us h.holds.distinct h.holds.room h.holds.bounded)
    (subst (λ (t : Terms). report_size t.bounds t.places Full ≤ max_report) (sym at) (document-size Full))

module _ {l : Book} {s : List ℕ} {us : List Update} (at : l.terms ≡ document_terms) (h : Stands l s us) (out : List ℕ) where
  -- .. and so it is written where there is room for 12,000
  report-written : max_report ≤ length out → {v : Output} {out' : List ℕ} → ReportRow Full l s out v out'
      → (v ≡ put_bytes (length (report_of Full rules us))) × (out' ≡ report_of Full rules us ++ drop (length (report_of Full rules us)) out)
  report-written room (unfit e) = absurd (true-false (stands-sound l s us h) e)
  report-written room (short text e t j) = absurd (omega (arith, report-few us at h, ap length (t.of_rules us h)))
  report-written room (written text e t j) =
      let q = t.of_rules us h in (ap (λ (x : List ℕ). put_bytes (length x)) q, ap (λ (x : List ℕ). x ++ drop (length x) out) q)

-- the output of the whole is what the machine had put out, and the first n bytes of the output buffer
pub record EndOutputs (m : Machine) (v : EndValues) (out' : List ℕ) : Type 0 where
  pub count : ℕ
  pub answer : v ≡ with_report count
  pub output : m.out ++ take count out' ≡ finish m

module _ {l l' : Ledger} {s s' buffer : List ℕ} {fill : ℕ} (m : Machine) (f : Follows l s buffer fill m) (out put : List ℕ) (room : max_end ≤ length out)
    (last : LastLine l s buffer fill l' s' put) where
  abbrev after : Machine
  after = last_line m m.line

  abbrev text : List ℕ
  text = report_of Full rules after.stored

  abbrev page : List ℕ
  page = put ++ drop (length put) out

  stands : Stands (book_of l') s' after.stored
  stands = (last-answers m m.line refl f.stands (last.answers m.line f.keeps)).0

  answered : after.out ≡ m.out ++ put
  answered = (last-answers m m.line refl f.stands (last.answers m.line f.keeps)).1

  enough : max_report ≤ length (drop (length put) page)
  enough = omega (arith, length-drop (length put) page, length-append put (drop (length put) out), length-drop (length put) out, last.short)

  whole : m.out ++ (put ++ text) ≡ finish m
  unfolding finish
  whole = sym (append_assoc m.out put text) ∙ ap (λ (x : List ℕ). x ++ text) (sym answered)

  pub reports-output : {v : EndValues} {out' : List ℕ} → ReportsAt (book_of l') s' (length put) page v out' → EndOutputs m v out'
  reports-output (reported n o p) =
      let q = report-written refl stands (drop (length put) page) enough p in
      let e : n ≡ length text = cc in
      let front : take (length put) page ++ text ≡ put ++ text =
      ap (λ (x : List ℕ). x ++ text) (take_at put (drop (length put) out) (length put) refl) in
      let both : take (length put) page ++ o ≡ (put ++ text) ++ drop (length text) (drop (length put) page) =
      ap (λ (x : List ℕ). take (length put) page ++ x) q.1
      ∙ sym (append_assoc (take (length put) page) text (drop (length text) (drop (length put) page)))
      ∙ ap (λ (x : List ℕ). x ++ drop (length text) (drop (length put) page)) front in
      let n-both : length (put ++ text) ≡ length put + n = omega (arith, length-append put text) in
      record {
        count = length put + n;
        answer = refl;
        output =
            ap (λ (x : List ℕ). m.out ++ x)
            (ap (take (length put + n)) both ∙ take_at (put ++ text) (drop (length text) (drop (length put) page)) (length put + n) n-both)
            ∙ whole;
      }
  reports-output (unreported e o p) =
      let q = report-written refl stands (drop (length put) page) enough p in
      let z : ◌≡◌ {A = ℕ} 0 1 = cc in
      absurd (omega arith)

-- with room for the longest end there is a report, and the output is the machine's
pub finishes-output : {l : Ledger} {s buffer out s' out' : List ℕ} {fill : ℕ} {v : EndValues} (m : Machine) → Follows l s buffer fill m → max_end ≤ length out
    → FinishRow l s buffer fill out v s' out' → EndOutputs m v out'
finishes-output m f room (finishing.unfit-line n) = absurd (n f.keeps.sized)
finishes-output m f room (finishing.short e n) = absurd (omega arith)
finishes-output {out = out} m f room (ended v l' s' put out' e h last p) = reports-output m f out put h last p

-- a report that is put out is the machine's, whatever the room
pub finish-output : {l : Ledger} {s buffer out s' out' : List ℕ} {fill n : ℕ} (m : Machine) → Follows l s buffer fill m
    → FinishRow l s buffer fill out (with_report n) s' out' → m.out ++ take n out' ≡ finish m
finish-output {out = out} {n = n} m f (ended v l' s' put out' e h last p) =
    let o = reports-output m f out put h last p in
    let i : o.count ≡ n = cc in
    subst (λ (k : ℕ). m.out ++ take k out' ≡ finish m) i o.output

-- what is put out lies within the output buffer
reports-within : {l : Book} {s out out' : List ℕ} {at : ℕ} {v : EndValues} → at ≤ length out → ReportsAt l s at out v out' → put_out v ≤ length out
reports-within {out = out} {at = at} h (reported n o p) = omega (arith, report-within p n refl, buffer-length p, length-drop at out)
reports-within h (unreported e o p) = h

pub finishes-within : {l : Ledger} {s buffer out s' out' : List ℕ} {fill : ℕ} {v : EndValues} → FinishRow l s buffer fill out v s' out' → put_out v ≤ length out
finishes-within (finishing.unfit-line n) = omega arith
finishes-within (finishing.short e n) = omega arith
finishes-within {out = out} (ended v l' s' put out' e h last p) =
    let long : length (put ++ drop (length put) out) ≡ length out =
    omega (arith, length-append put (drop (length put) out), length-drop (length put) out, last.short) in
    subst (λ (n : ℕ). put_out v ≤ n) long (reports-within (omega (arith, last.short)) p)
