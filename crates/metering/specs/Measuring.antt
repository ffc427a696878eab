-- What a report comes to: counted hours and credited energy. Serves src/measuring.rt.
use Rattle.std.specs.Prelude.{ℕ, Bool, true, cond, not, ◌&&◌, ◌||◌, List, length, Some, None, Ok, Err, sum_by, count_by, filter, Option, Result, ◌==◌}
use Rattle.std.specs.List.{zip, range_with_len}
use Rattle.calendar.specs.Calendar.{Calendar}
use Rattle.calendar.specs.Months.{month_begins, month_ends, month_hours}
use Rattle.calendar.specs.Stress.{is_stress, stress_hours}
use Rattle.metering.specs.declared.report.Energy.{Energy}
use Rattle.metering.specs.declared.report.Test.{Test}
use Rattle.metering.specs.declared.measuring.Measured.{Measured}
use Rattle.metering.specs.declared.fault.MeteringFault.{MeteringFault}
use Rattle.metering.specs.declared.fault.MeteringFault.TheVariants as fault
use Rattle.metering.specs.Meaning.{ReportMeaning}
use Rattle.metering.specs.Testing.{failed_at, failed_in, wrong_place, in_order}

-- the hours that count: those of the month that are stress hours or failed in the test, so each of them once
abbrev pub counted_hours : Calendar → ℕ → (ℕ → Bool) → List ℕ
counted_hours c m fails = filter (λ h. is_stress c h || fails h) (month_hours c.year_hours m)

-- whether an hour of the test that begins at `first` failed and is no stress hour
abbrev pub only_failed : Calendar → ℕ → List Energy → ℕ → Bool
only_failed c first es h = failed_at first es h && not (is_stress c h)

-- how many hours of the test failed and are no stress hours
abbrev pub failed_outside : Calendar → ℕ → List Energy → ℕ
failed_outside c first es = count_by (only_failed c first es) (range_with_len first (length es))

-- the credits, under a commitment of k kW, of the hours that did not fail, each hour with its own
abbrev pub credited_energy : ℕ → (ℕ → Bool) → List ℕ → List (ℕ → ℕ) → ℕ
credited_energy k fails hours credits = sum_by (λ p. p.1 k) (filter (λ p. not (fails p.0)) (zip hours credits))

-- the credits, under a commitment of k kW, of the records that are not marked as of a failed hour
abbrev pub unfailed_energy : {H : Type 0} → (H → ℕ → ℕ) → ℕ → List Bool → List H → ℕ
unfailed_energy credit k failed records = sum_by (λ p. credit p.0 k) (filter (λ p. not p.1) (zip records failed))

-- whether the test, if there is one, is in order for the month m
abbrev pub test_in_order : ℕ → ℕ → Calendar → ℕ → Option Test → Bool
test_in_order shortest longest c m None = true
test_in_order shortest longest c m (Some t) =
    in_order shortest longest (month_begins c.year_hours m) (month_ends c.year_hours m) t.first t.hours.now

-- the place of a test's refusal
abbrev pub test_place : Option Test → Option ℕ
test_place None = None
test_place (Some t) = wrong_place t.hours.now

-- how many hours count with the report's test, or the refusal of the test
abbrev pub counting : ReportMeaning → Calendar → ℕ → Result ℕ MeteringFault
counting x c m =
    cond (test_in_order x.shortest x.longest c m x.test)
    (Ok (length (counted_hours c m (failed_in x.test))))
    (Err (fault.Test (test_place x.test)))

-- the energy credited for the report under a commitment of k kW
abbrev pub crediting : ReportMeaning → Calendar → ℕ → ℕ → ℕ
crediting x c m k = credited_energy k (failed_in x.test) (stress_hours c m) x.credits

-- What measuring answers for the month m and a commitment of k kW: refused unless there is one record a stress hour, then
-- unless the test is in order; else the number of counted hours, and the credited energy.
abbrev pub measuring : ReportMeaning → Calendar → ℕ → ℕ → Result Measured MeteringFault
measuring x c m k =
    cond (not (length x.credits == length (stress_hours c m))) (Err fault.Records)
    (cond (not (test_in_order x.shortest x.longest c m x.test)) (Err (fault.Test (test_place x.test)))
    (Ok (record { counted = length (counted_hours c m (failed_in x.test)); credited = crediting x c m k })))
