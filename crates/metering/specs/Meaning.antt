-- What a report means. Serves src/measuring.rt.
use Rattle.std.specs.Prelude.{ℕ, List, map, Option}
use Rattle.metering.specs.declared.kind.Kind.{Ghosts}
use Rattle.metering.specs.declared.report.Report.{Report}
use Rattle.metering.specs.declared.report.Test.{Test}

-- The letter of the report's kind and the lengths of that kind's tests; for each hour the credit, under each commitment, that
-- the hour's record earns; and the report's test.
pub record ReportMeaning : Type 0 where
  pub letter : ℕ
  pub shortest : ℕ
  pub longest : ℕ
  pub credits : List (ℕ → ℕ)
  pub test : Option Test

-- what a report by a kind means
abbrev pub report_meaning : {K H : Type 0} → Ghosts K H → Report K H → ReportMeaning
report_meaning kind report = record {
  letter = kind.LETTER;
  shortest = kind.SHORTEST;
  longest = kind.LONGEST;
  credits = map kind.credit report.hours.now;
  test = report.test;
}
