-- Tests: which of their hours failed, and when a test is in order. Serves src/testing.rt.
use Rattle.std.specs.Prelude.{ℕ, ◌+◌, ◌-◌, ◌*◌, ◌^◌, min, Bool, false, not, ◌&&◌, List, length, Some, None, Option, is_none, position, nat_le, nat_lt, slice_index_or}
use Rattle.std.specs.Option.{option_map}
use Rattle.metering.specs.declared.report.Energy.{Energy}
use Rattle.metering.specs.declared.report.Test.{Test}

-- an hour failed whose delivered energy is at most 95 per cent of the ordered: 950 of 1,000 fails, and 951 passes
abbrev pub failed : Energy → Bool
failed e = nat_le (100 * e.delivered) (95 * e.ordered)

-- what stands for the energy past the end of a test
abbrev pub no_energy : Energy
no_energy = record { ordered = 0; delivered = 0 }

-- whether the hour h of the year is a failed hour of the test that begins at `first`
abbrev pub failed_at : ℕ → List Energy → ℕ → Bool
failed_at first es h = (nat_le first h && nat_lt (h - first) (length es)) && failed (slice_index_or es (h - first) no_energy)

-- the same of a test or none; without a test no hour failed
abbrev pub failed_in : Option Test → ℕ → Bool
failed_in None h = false
failed_in (Some t) h = failed_at t.first t.hours.now h

-- ordered energy is 1 to 1,000,000 kWh
abbrev pub right_order : Energy → Bool
right_order e = nat_le 1 e.ordered && nat_le e.ordered 1_000_000

-- the first hour of a test whose ordered energy is not right, counted from 1; none where each is right. A place has 32 bits,
-- so one beyond them is given as the largest number of 32 bits
abbrev pub wrong_place : List Energy → Option ℕ
wrong_place es = option_map (λ i. min (i + 1) (2 ^ 32 - 1)) (position (λ e. not (right_order e)) es)

-- whether a test is in order: as long as the kind wants it, from `begins` on and before `ends`, its ordered energies right
abbrev pub in_order : ℕ → ℕ → ℕ → ℕ → ℕ → List Energy → Bool
in_order shortest longest begins ends first es =
    (is_none (wrong_place es) && (nat_le shortest (length es) && nat_le (length es) longest))
    && (nat_le begins first && nat_le (first + length es) ends)
