-- Cutting off. Serves src/cutting.rt.
use Rattle.std.specs.Prelude.{Ok}
use Rattle.ledger.specs.declared.course.Call.TheVariants as call
use Rattle.ledger.specs.declared.state.Book.{Book}
use Rattle.ledger.specs.Judged.{Rows, Answer, Does}
use Rattle.ledger.specs.Course.{course, moved}
use Rattle.ledger.specs.Changes.{with_stage}

abbrev pub cut_rows : Book → Rows
cut_rows b = course call.CutOff b.stage

abbrev pub cut : Book → Book
cut b = with_stage b (moved call.CutOff b.stage)

-- a cut-off on the book b answers r and leaves the book b'
abbrev pub CutsOff : Book → Answer (Unit {0}) → Book → Type 0
CutsOff b r b' = Does (cut_rows b) (Ok tt) (cut b) b r b'
