-- All that a ledger keeps of its book, in the order in which `Ledger` has it.
use Rattle.calendar.specs.Form.{IsInForm}
use Rattle.ledger.specs.declared.state.Book.{Book}
use Rattle.ledger.specs.Form.{month_of, Sized, Shaped, Wide, Lined, Booked, Firm, Within, Whole, Priced, Dated}

abbrev pub Kept : Book → Type 0
Kept b = record {
  formed : IsInForm b.calendar;
  sized : Sized b;
  shaped : Shaped b;
  wide : Wide b.trade;
  lined : Lined b;
  booked : Booked b;
  firm : Firm b.register;
  within : Within b;
  whole : Whole b.trade;
  priced : Priced b.trade;
  dated : Dated (month_of b.stage);
}
