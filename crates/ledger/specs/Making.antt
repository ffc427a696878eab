-- A ledger as it is made. Serves src/making.rt.
use Rattle.std.specs.Prelude.{List, [], replicate}
use Rattle.calendar.specs.Filling.{new_calendar}
use Rattle.ledger.specs.declared.state.Stage.TheVariants.{Unopened}
use Rattle.ledger.specs.declared.state.Filed.{Filed}
use Rattle.ledger.specs.declared.state.Line.{Line}
use Rattle.ledger.specs.declared.state.Book.{Book}
use Rattle.ledger.specs.Form.{nothing_filed}

-- a month for which nothing has come in
abbrev pub new_month : List Filed
new_month = replicate 64 nothing_filed

-- a line on which nothing is booked
abbrev pub no_line : Line
no_line = record { right = 0; penalty = 0 }

-- a book with no entry in it, over a new calendar
abbrev pub blank : Book
blank = record {
  calendar = new_calendar;
  stage = Unopened;
  register = record { items = [] };
  trade = record { items = [] };
  month = new_month;
  lines = replicate 12 (replicate 64 no_line);
}
