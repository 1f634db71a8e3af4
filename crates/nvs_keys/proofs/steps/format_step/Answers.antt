use Rattle.std.proofs.Common.{◌≡◌, ◌≤◌, ◌<◌, ◌+◌, ◌/◌, ◌∙◌, ap, length, sym, arith}
use Rattle.nvs_keys.specs.Banks.{header_bytes}
use Rattle.nvs_keys.proofs.ActiveLemmas.{length_header}
use Rattle.nvs_keys.proofs.StepLemmas.{format_erase, format_header, format_past}
use Rattle.nvs_keys.proofs.steps.format_step.Goals as goal

-- a header is a page
pub program-requires : goal.program-requires
program-requires c =
    let header : c.as_slice.result.now ≡ header_bytes 1 = cc in
    let size : length c.as_slice.result.now ≡ 8 = ap length header ∙ length_header 1 in
    record { page = (omega arith, omega arith) }

-- an erase of the first bank
pub returns-then-number-sectors : goal.returns-then-number-sectors
returns-then-number-sectors c =
    let some : 1 ≤ c.args.number = omega arith in
    let most : c.args.number ≤ c.args.place.half / 4096 = omega arith in
    let e = format_erase c.args.place c.args.number some most in
    record { exact = cc }

-- its header
pub returns-then-number-sectors-2 : goal.returns-then-number-sectors-2
returns-then-number-sectors-2 c =
    let last : c.args.number ≡ c.args.place.half / 4096 + 1 = omega arith in
    let e = format_header c.args.place c.args.number last in
    record { exact = cc }

-- there is none
pub returns-else-number-sectors-2 : goal.returns-else-number-sectors-2
returns-else-number-sectors-2 c =
    let past : c.args.place.half / 4096 + 1 < c.args.number = omega arith in
    record { exact = sym (format_past c.args.place c.args.number past) }
