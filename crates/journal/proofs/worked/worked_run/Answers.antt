use Rattle.journal.specs.Worked.{journal}
use Rattle.journal.proofs.LawHolds.{law}
use Rattle.journal.proofs.WorkedRun.{closed_two, recorded}
use Rattle.journal.proofs.WorkedFigures as figures
use Rattle.journal.proofs.worked.worked_run.Goals as goal

-- the figures by the words of the law, and what the law says of every book with them
pub returns : goal.returns
returns c =
    let holds = law journal closed_two recorded in
    let calendar = closed_two.book.calendar in
    record {
      ledger = closed_two;
      recorded = recorded;
      first_firm = figures.first_firm;
      first_held = figures.first_held;
      second_held = figures.second_held;
      first_january = figures.first_january calendar holds.calendar;
      second_january = figures.second_january calendar holds.calendar;
      first_february = figures.first_february calendar holds.calendar;
      second_february = figures.second_february calendar holds.calendar;
      earned = figures.earned;
      all_charged = figures.all_charged;
      figures = figures.figures;
      own_figures = figures.figures closed_two.book holds;
    }
