use Rattle.std.proofs.Common.{rules, ◌≡◌, ◌≤◌, arith, length, length-drop, refl, take, ap, subst, ℕ, List}
use Rattle.std.proofs.lemmas.List.{length-take}
use Rattle.nor_device.specs.Flash.{IsPageLength}
use Rattle.flash_steps.specs.Steps.{room_at}
use Rattle.flash_steps.proofs.WriteLemmas.{no_page, write_next}
use Rattle.flash_steps.proofs.steps.next_program.Goals as goal

-- a page of the first bytes
pub returns-in-Some-clause-exact : goal.returns-in-Some-clause-exact
returns-in-Some-clause-exact c =
    let front : c.in-Some.bytes ≡ take (room_at c.args.at) c.args.bytes.now = search rules in
    let some : 1 ≤ length c.args.bytes.now =
    omega (arith, c.in-Some.ensures.fits.0, ap length front, length-take (room_at c.args.at) c.args.bytes.now) in
    rw (c.split_at_page.ensures.rest, front) (write_next c.args.at c.args.bytes.now some)

-- it takes a byte at least
pub returns-in-Some-clause-shorter : goal.returns-in-Some-clause-shorter
returns-in-Some-clause-shorter c =
    let front : c.in-Some.bytes ≡ take (room_at c.args.at) c.args.bytes.now = search rules in
    omega (
      arith,
      c.in-Some.ensures.fits.0,
      ap length front,
      length-take (room_at c.args.at) c.args.bytes.now,
      ap length c.split_at_page.ensures.rest,
      length-drop (room_at c.args.at) c.args.bytes.now,
    )

-- no byte is no page
pub returns-in-None-clause-exact : goal.returns-in-None-clause-exact
returns-in-None-clause-exact c =
    no_page c.args.at c.args.bytes.now
    (subst (λ (bytes : List ℕ). IsPageLength bytes → ⊥) c.split_at_page.ensures.first
    (c.in-None.ensures.none.0 refl))
