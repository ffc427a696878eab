use Rattle.std.proofs.Common.{◌≡◌, ◌+◌, ◌*◌, ◌≤◌, drop}
use Rattle.metering.specs.Measuring.{unfailed_energy}
use Rattle.metering.proofs.report.Report.credited.Given as goal

abbrev pub invariant-loop-i : goal.invariant-loop-i
invariant-loop-i g l =
    let energy = unfailed_energy g.K.Kind.credit l.commitment in
    let records = l.self.hours.now in record {
      so_far : l.credited + energy (drop l.i l.failed) (drop l.i records) ≡ energy l.failed records;
      bound : l.credited ≤ 4_294_967_295 * l.i;
    }
