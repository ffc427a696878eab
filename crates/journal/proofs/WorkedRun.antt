-- The worked run, recorded step by step by computing what each call answers and leaves.
use Rattle.std.proofs.Common.{◌≡◌, ℕ, ◌-◌, true, [], ◌∷◌, refl, ◌∙◌, subst, arith, lit≤}
use Rattle.std.proofs.lemmas.List.{length-set}
use Rattle.calendar.specs.Form.{is_year, in_form, right_share, IsInForm}
use Rattle.calendar.specs.Filling.{given_runs, given_year}
use Rattle.calendar.specs.Months.{first_months}
use Rattle.sharing.specs.RunningLaws.{running_lawful}
use Rattle.sharing.specs.RemainderLaws.{remainder_lawful}
use Rattle.ledger.specs.declared.kept.Ledger.{Ledger}
use Rattle.ledger.specs.declared.state.Stage.TheVariants.{Month}
use Rattle.ledger.specs.declared.state.Phase.TheVariants.{Trading, Metering, Claims}
use Rattle.ledger.specs.Changes.{with_stage, with_month}
use Rattle.ledger.specs.Making.{blank}
use Rattle.ledger.specs.Opening as opening
use Rattle.ledger.specs.Registering as registering
use Rattle.ledger.specs.Switching as switching
use Rattle.ledger.specs.Awarding as awarding
use Rattle.ledger.specs.Ceding as ceding
use Rattle.ledger.specs.Reporting.{put_report}
use Rattle.ledger.specs.Rights.{rights_of}
use Rattle.ledger.specs.Booking.{month_lines}
use Rattle.ledger.specs.Closing as closing
use Rattle.ledger.specs.Runs.{Recorded, made, noted}
use Rattle.ledger.proofs.Blank.{blank_kept}
use Rattle.ledger.proofs.Traded.{awardable, cedable}
use Rattle.ledger.proofs.After.{ledger_of, filled_kept, registered_kept, switched_kept, awarded_kept, ceded_kept, staged_kept, month_kept, closed_kept}
use Rattle.journal.specs.Worked.{month_one, journal}

-- a calendar of one run, by its year, its run and its share
pub one_run : (year first len : ℕ) → is_year year ≡ true → in_form year (given_runs (first ∷ []) (len ∷ [])) 0 ≡ true → right_share year (given_runs (first ∷ []) (len ∷ [])) ≡ true → IsInForm (given_year year (first ∷ []) (len ∷ []))
one_run year first len right run share =
    let runs = given_runs (first ∷ []) (len ∷ []) in record {
      year = right;
      few = lit≤ tt;
      formed = λ k there. let at_first : 0 ≡ k = omega (arith, there) in subst (λ i. in_form year runs i ≡ true) at_first run;
      share = share;
    }

abbrev fresh : Ledger
fresh = ledger_of blank (blank_kept (one_run 8_760 0 744 refl refl refl))

abbrev opened : Ledger
opened = ledger_of (opening.opened fresh.book 8_760 (1_415 ∷ []) (438 ∷ [])) (filled_kept fresh (given_year 8_760 (1_415 ∷ []) (438 ∷ [])) (Month 1 Trading) (one_run 8_760 1_415 438 refl refl refl) (lit≤ tt, lit≤ tt))

-- the facilities, and the first switched on
abbrev one : Ledger
one = ledger_of (registering.registered opened.book 84 2_000) (registered_kept opened 84 2_000 (lit≤ tt) (lit≤ tt))

abbrev two : Ledger
two = ledger_of (registering.registered one.book 84 2_000) (registered_kept one 84 2_000 (lit≤ tt) (lit≤ tt))

abbrev on : Ledger
on = ledger_of (switching.switched two.book 1 true) (switched_kept two 1 true (lit≤ tt))

-- the award, and month 1 up to its closing
abbrev won : Ledger
won = ledger_of (awarding.awarded on.book 1 1_000 12) (awarded_kept on 1 1_000 12 (awardable on.book 1 1_000 12 1 1 refl))

abbrev cut_one : Ledger
cut_one = ledger_of (with_stage won.book (Month 1 Metering)) (staged_kept won (Month 1 Metering) (lit≤ tt, lit≤ tt))

abbrev claims_one : Ledger
claims_one = ledger_of (with_stage cut_one.book (Month 1 Claims)) (staged_kept cut_one (Month 1 Claims) (lit≤ tt, lit≤ tt))

abbrev closed_one : Ledger
closed_one = ledger_of (closing.closed claims_one.book) (closed_kept claims_one)

month_one_recorded : Recorded month_one closed_one
unfolding month_lines rights_of first_months
month_one_recorded =
    noted _ _ claims_one closed_one
    (noted _ _ cut_one claims_one
    (noted _ _ won cut_one
    (noted _ _ on won
    (noted _ _ on on
    (noted _ _ two on
    (noted _ _ one two (noted _ _ opened one (noted _ _ fresh opened (made fresh refl) record { answer = refl; after = refl }) record { answer = refl; after = refl }) record { answer = refl; after = refl })
    record { answer = refl; after = refl })
    record { answer = refl; after = refl })
    record { answer = refl; after = refl })
    record { answer = refl; after = refl })
    (running_lawful, record { answer = refl; after = refl; rows = refl }))
    (running_lawful, record { answer = refl; after = refl; rows = refl })

-- month 2: the cession, and the reports
abbrev both_on : Ledger
both_on = ledger_of (switching.switched closed_one.book 2 true) (switched_kept closed_one 2 true (lit≤ tt))

abbrev ceded : Ledger
ceded = ledger_of (ceding.ceded both_on.book 1 1 2 500) (ceded_kept both_on 1 1 2 500 (cedable both_on.book 1 1 2 500 refl))

abbrev cut_two : Ledger
cut_two = ledger_of (with_stage ceded.book (Month 2 Metering)) (staged_kept ceded (Month 2 Metering) (lit≤ tt, lit≤ tt))

-- the ledger with a report of one hour, credited with these kWh, of the facility f
abbrev with_report : Ledger → ℕ → ℕ → Ledger
with_report l f credited =
    let month = put_report l.book.month f (record { counted = 1; credited = credited }) in
    ledger_of (with_month l.book month) (month_kept l month (length-set l.book.month (f - 1) _ ∙ l.shaped.0))

abbrev first_report : Ledger
first_report = with_report cut_two 1 500

abbrev second_report : Ledger
second_report = with_report first_report 2 0

abbrev third_report : Ledger
third_report = with_report second_report 2 240

abbrev claims_two : Ledger
claims_two = ledger_of (with_stage third_report.book (Month 2 Claims)) (staged_kept third_report (Month 2 Claims) (lit≤ tt, lit≤ tt))

abbrev pub closed_two : Ledger
closed_two = ledger_of (closing.closed claims_two.book) (closed_kept claims_two)

pub recorded : Recorded journal closed_two
unfolding month_lines rights_of first_months
recorded =
    noted _ _ claims_two closed_two
    (noted _ _ third_report claims_two
    (noted _ _ second_report third_report
    (noted _ _ first_report second_report
    (noted _ _ cut_two first_report
    (noted _ _ ceded cut_two
    (noted _ _ both_on ceded
    (noted _ _ closed_one both_on month_one_recorded record { answer = refl; after = refl })
    record { answer = refl; after = refl })
    record { answer = refl; after = refl })
    record { answer = refl; after = refl })
    record { answer = refl; after = refl })
    record { answer = refl; after = refl })
    (running_lawful, record { answer = refl; after = refl; rows = refl }))
    (remainder_lawful, record { answer = refl; after = refl; rows = refl })
