-- A book with one part changed.
use Rattle.std.specs.Prelude.{List}
use Rattle.calendar.specs.Calendar.{Calendar}
use Rattle.ledger.specs.declared.state.Stage.{Stage}
use Rattle.ledger.specs.declared.state.Filed.{Filed}
use Rattle.ledger.specs.declared.state.Book.{Book}
use Rattle.ledger.specs.Form.{Register, Trade}

abbrev pub with_calendar : Book → Calendar → Book
with_calendar b x = record b { calendar = x }

abbrev pub with_stage : Book → Stage → Book
with_stage b x = record b { stage = x }

abbrev pub with_register : Book → Register → Book
with_register b x = record b { register = x }

abbrev pub with_trade : Book → Trade → Book
with_trade b x = record b { trade = x }

abbrev pub with_month : Book → List Filed → Book
with_month b x = record b { month = x }
