-- A calendar as a clause sees it.
use Rattle.std.specs.Prelude.{ℕ, List}
use Rattle.calendar.specs.declared.run.Run.{Run}

-- the hours of a year, and its runs of stress hours, in order
pub record Calendar : Type 0 where
  pub year_hours : ℕ
  pub runs : List Run
