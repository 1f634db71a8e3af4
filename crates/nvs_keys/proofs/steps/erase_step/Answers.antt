use Rattle.std.proofs.Common.{◌≤◌, ◌<◌, ◌/◌, sym, arith}
use Rattle.nvs_keys.specs.Banks.{bank_at}
use Rattle.nvs_keys.proofs.StepLemmas.{erase_past, erase_there}
use Rattle.nvs_keys.proofs.steps.erase_step.Goals as goal

-- the erase of this number
pub returns-then-number-place : goal.returns-then-number-place
returns-then-number-place c =
    let inside : c.args.number < c.args.place.half / 4096 = omega arith in
    let e = erase_there (bank_at c.args.place c.args.bank) c.args.place.half c.args.number inside in
    record { exact = cc }

-- there is none
pub returns-else-number-place : goal.returns-else-number-place
returns-else-number-place c =
    let past : c.args.place.half / 4096 ≤ c.args.number = omega arith in
    record { exact = sym (erase_past (bank_at c.args.place c.args.bank) c.args.place.half c.args.number past) }
