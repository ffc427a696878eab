-- A closing on top of a journal: its month, and the months before it.
use Rattle.std.proofs.Common.{◌≡◌, ℕ, ◌+◌, eqb, List, ◌∷◌, sum_by, count_by, sym, refl, ap, ◌∙◌, arith}
use Rattle.std.specs.List.{range_with_len}
use Rattle.std.proofs.lemmas.Bool.{cond-true, cond-false, eq-eqb, ne_eqb}
use Rattle.calendar.specs.Calendar.{Calendar}
use Rattle.sharing.specs.declared.rows.Row.{Row}
use Rattle.sharing.specs.Steps.{sum_by-counting_more, sum_by-counting_same}
use Rattle.sharing.specs.Rule.{RuleMeaning}
use Rattle.ledger.specs.declared.state.Line.{Line}
use Rattle.ledger.proofs.CountingSums.{sum_by-counting_shift}
use Rattle.journal.specs.Acts.{Act, closed, is_closing, before_nth}
use Rattle.journal.specs.Law.{facilities, line_then, all_lines, all_months}
use Rattle.journal.proofs.LatestActs.{one_more}

module _ (h : List Act) (rule : RuleMeaning) (rows : List Row) (total : ℕ) (left : List Row) where
  abbrev act : Act
  act = closed rule rows total left

  abbrev n : ℕ
  n = count_by is_closing h

  pub one_closed : count_by is_closing (act ∷ h) ≡ n + 1
  one_closed = one_more is_closing act h refl

  -- the month that is closed stood before this closing, and every other month before its own
  pub this_month : (k : ℕ) → k ≡ n + 1 → before_nth is_closing k (act ∷ h) ≡ h
  this_month k same = cond-true (eqb k (n + 1)) h (before_nth is_closing k h) (eq-eqb k (n + 1) same)

  pub other_month : (k : ℕ) → (k ≡ n + 1 → ⊥) → before_nth is_closing k (act ∷ h) ≡ before_nth is_closing k h
  other_month k other = cond-false (eqb k (n + 1)) h (before_nth is_closing k h) (ne_eqb k (n + 1) other)

  -- a figure of all lines has that of the month's lines more
  pub months_more : (figure : Line → ℕ) (c : Calendar) → all_months figure c (act ∷ h) ≡ all_months figure c h + sum_by (λ f. figure (line_then c h (n + 1) f)) facilities
  months_more figure c =
      let each : List Act → ℕ → ℕ = λ x k. sum_by (λ f. figure (line_then c x k f)) facilities in
      let now = all_lines figure c (act ∷ h) in
      let earlier : sum_by now (range_with_len 1 n) ≡ all_months figure c h =
      sum_by-counting_shift now n
      ∙ sum_by-counting_same (λ i. now (i + 1)) (λ i. all_lines figure c h (i + 1)) n (λ i lt. ap (λ x. each x (i + 1)) (other_month (i + 1) (λ same. omega (arith, same, lt))))
      ∙ sym (sum_by-counting_shift (all_lines figure c h) n) in
      ap (λ k. sum_by now (range_with_len 1 k)) one_closed
      ∙ sum_by-counting_more now 1 n (n + 1) (omega arith)
      ∙ (λ i. earlier i + each (this_month (n + 1) refl i) (n + 1))
