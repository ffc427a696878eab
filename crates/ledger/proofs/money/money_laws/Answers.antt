use Rattle.ledger.proofs.AmountLaws.{months_add_up, amount_bounded}
use Rattle.ledger.proofs.RightLaws.{shares_add_up, rights_add_up, none_for_nothing}
use Rattle.ledger.proofs.PenaltyLaws.{penalty_within}
use Rattle.ledger.proofs.MonthBounds.{month_bounded}
use Rattle.ledger.proofs.money.money_laws.Goals as goal

pub returns : goal.returns
returns c = record {
  months_add_up = months_add_up;
  shares_add_up = shares_add_up;
  rights_add_up = rights_add_up;
  none_for_nothing = none_for_nothing;
  penalty_within = penalty_within;
  amount_bounded = amount_bounded;
  month_bounded = month_bounded;
}
