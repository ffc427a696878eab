use Rattle.std.proofs.Common.{◌≡◌, ◌^◌, ◌<◌, ◌≤◌, true, sum_by, mul-le-mul, arith, rules}
use Rattle.std.proofs.iter.runs.Made.{chains}
use Rattle.std.proofs.lemmas.List.Sums.{sum_by-le, AllPass-from_list_all}
use Rattle.std.proofs.lemmas.Bool.Decides.{nat_tests}
use Rattle.ledger.specs.declared.registering.Module.{Module}
use Rattle.ledger.specs.Registering.{right_module, watts}
use Rattle.ledger.proofs.registering.watts_together.Goals as goal

-- a right module has at most a million kW
watts_few : (m : Module) → right_module m ≡ true → watts m ≤ 1_000_000_000
watts_few m right =
    let kw : m.installed ≤ 1_000_000 = grind (arith, nat_tests) in
    let part : m.coefficient ≤ 1_000 = grind (arith, nat_tests) in
    mul-le-mul kw part

pub sum-requires-clause-fits : goal.sum-requires-clause-fits
sum-requires-clause-fits c =
    let ms = c.args.modules.now in
    let all = sum_by-le watts 1_000_000_000 ms (λ k d l. watts_few _ (AllPass-from_list_all right_module ms c.requires.right k d l)) in
    let fits : sum_by watts ms < 2 ^ 64 = omega arith in
    search (rules, chains)
