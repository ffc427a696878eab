-- The numbers of the ledger's own refusals. Serves src/refusal.rt.
use Rattle.std.specs.Prelude.{ℕ}
use Rattle.ledger.specs.declared.refusal.Refusal.{Refusal}
use Rattle.ledger.specs.declared.refusal.Refusal.TheVariants as refusal

abbrev pub number : Refusal → ℕ
number refusal.NotOpened = 1
number refusal.OpenedTwice = 2
number refusal.YearOver = 6
number refusal.WrongPhase = 7
number refusal.NoFacility = 8
number refusal.NoAward = 9
number refusal.NoRoom = 10
number refusal.OutOfLimits = 11
number refusal.GiverIsTaker = 12
number refusal.TakerOff = 13
number refusal.HoldsLess = 14
number refusal.OverFirm = 15
number refusal.OtherLetter = 16
number refusal.ClaimedTwice = 19
number refusal.NoClaim = 20
number refusal.ClaimOpen = 21
number refusal.RowsOutOfLimits = 22
number refusal.NotClosed = 24
