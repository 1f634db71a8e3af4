use Rattle.std.proofs.Common.{◌∙◌, ap, refl, sym, List, ◌∷◌, ◌++◌, []}
use Rattle.power_cut.specs.declared.legs.Leg.{Leg}
use Rattle.power_cut.specs.Kept.{KeepsConfirm}
use Rattle.power_cut.proofs.WholeLemmas.{booted_some, confirm_may, last_placed, last_small, last_some, outcome_boot, outcome_confirm, outcome_session}
use Rattle.power_cut.proofs.run.run.Goals as goal

-- the session was the last leg
pub returns-then-not-goes_on : goal.returns-then-not-goes_on
returns-then-not-goes_on g c =
    let ran = c.in_ok-dev.field-0 in
    let keeps = c.requires.written ran c.in_ok-dev.ensures.has in
    record {
      outcome = outcome_session c.whole_images_show_no_fault.ensures c.args.layout.now
          c.args.aim.now c.args.image.now c.args.dev c.requires.opens c.args.upto ran keeps _ _
          c.close.result c.push.new.self.items c.in_ok-dev.ensures.has
          (c.push.ensures.items ∙ ap (λ (l : List Leg). l ++ ran.leg ∷ []) c.new-legs.ensures)
          (sym c.goes_on.ensures.exact ∙ c.if-not-goes_on.true) c.close.ensures.closed;
    }

-- the boot leaves a flash of which some application boots
pub close-requires-in_default-clause-some : goal.close-requires-in_default-clause-some
close-requires-in_default-clause-some g c =
    let ran = c.in_ok-dev.field-0 in
    let keeps = c.requires.written ran c.in_ok-dev.ensures.has in
    booted_some c.whole_images_show_no_fault.ensures c.args.layout.now c.args.aim.now
    c.args.image.now c.args.dev c.requires.opens c.args.upto ran keeps
    (sym c.goes_on.ensures.exact ∙ c.if-not-goes_on.false) c.restart-dev.result
    c.boot_leg-booted.new.dev c.restart-dev.ensures.exact c.boot_leg-booted.result.0
    c.boot_leg-booted.result.1 c.boot_leg-booted.ensures.left

-- the boot was the last leg
pub returns-in_default : goal.returns-in_default
returns-in_default g c =
    let ran = c.in_ok-dev.field-0 in
    let keeps = c.requires.written ran c.in_ok-dev.ensures.has in
    record {
      outcome = outcome_boot c.whole_images_show_no_fault.ensures c.args.layout.now
          c.args.aim.now c.args.image.now c.args.dev c.requires.opens c.args.upto ran keeps
          (sym c.goes_on.ensures.exact ∙ c.if-not-goes_on.false) c.restart-dev.result
          c.boot_leg-booted.new.dev c.restart-dev.ensures.exact c.boot_leg-booted.result.0
          c.boot_leg-booted.result.1 c.boot_leg-booted.ensures.left
          c.boot_leg-booted.ensures.booted _ _ c.close-in_default.result c.push-2.new.self.items
          c.in_ok-dev.ensures.has
          (c.push-2.ensures.items ∙ ap (λ (l : List Leg). l ++ c.boot_leg-booted.result.0 ∷ [])
          (c.push.ensures.items ∙ ap (λ (l : List Leg). l ++ ran.leg ∷ []) c.new-legs.ensures))
          c.boot_leg-booted.ensures.leg (sym c.booted_for.ensures.exact ∙ c.in_default.is)
          c.close-in_default.ensures.closed;
    }

-- what was booted may be confirmed
pub confirm-requires : goal.confirm-requires
confirm-requires g c =
    let ran = c.in_ok-dev.field-0 in
    let keeps = c.requires.written ran c.in_ok-dev.ensures.has in
    record {
      may = c.requires.may_confirm c.boot_leg-booted.new.dev _ _
          (confirm_may c.whole_images_show_no_fault.ensures c.args.layout.now c.args.aim.now
          c.args.image.now c.args.dev c.requires.opens c.args.upto ran keeps
          (sym c.goes_on.ensures.exact ∙ c.if-not-goes_on.false) c.restart-dev.result
          c.boot_leg-booted.new.dev c.restart-dev.ensures.exact c.boot_leg-booted.result.0
          c.boot_leg-booted.result.1 c.boot_leg-booted.ensures.left
          c.boot_leg-booted.ensures.booted c.in-Some.at
          (sym c.booted_for.ensures.exact ∙ c.in-Some.is) c.confirmation.result
          c.confirmation.ensures.exact);
    }

-- the confirmation leaves an idle device
pub close-requires-2-clause-idle : goal.close-requires-2-clause-idle
close-requires-2-clause-idle g c =
    let ran = c.in_ok-dev.field-0 in
    let keeps = c.requires.written ran c.in_ok-dev.ensures.has in
    let may = confirm_may c.whole_images_show_no_fault.ensures c.args.layout.now c.args.aim.now
    c.args.image.now c.args.dev c.requires.opens c.args.upto ran keeps
    (sym c.goes_on.ensures.exact ∙ c.if-not-goes_on.false) c.restart-dev.result
    c.boot_leg-booted.new.dev c.restart-dev.ensures.exact c.boot_leg-booted.result.0
    c.boot_leg-booted.result.1 c.boot_leg-booted.ensures.left
    c.boot_leg-booted.ensures.booted c.in-Some.at
    (sym c.booted_for.ensures.exact ∙ c.in-Some.is) c.confirmation.result
    c.confirmation.ensures.exact in
    let kept : KeepsConfirm c.args.layout.now c.confirmation.result c.boot_leg-booted.new.dev
    c.in_ok-ran.ran =
    c.requires.confirmed c.boot_leg-booted.new.dev _ _ c.in_ok-ran.ran may
    c.in_ok-ran.ensures.has in
    kept.ran_is.idle

-- of its size
pub close-requires-2-clause-placed : goal.close-requires-2-clause-placed
close-requires-2-clause-placed g c =
    let ran = c.in_ok-dev.field-0 in
    let keeps = c.requires.written ran c.in_ok-dev.ensures.has in
    let may = confirm_may c.whole_images_show_no_fault.ensures c.args.layout.now c.args.aim.now
    c.args.image.now c.args.dev c.requires.opens c.args.upto ran keeps
    (sym c.goes_on.ensures.exact ∙ c.if-not-goes_on.false) c.restart-dev.result
    c.boot_leg-booted.new.dev c.restart-dev.ensures.exact c.boot_leg-booted.result.0
    c.boot_leg-booted.result.1 c.boot_leg-booted.ensures.left
    c.boot_leg-booted.ensures.booted c.in-Some.at
    (sym c.booted_for.ensures.exact ∙ c.in-Some.is) c.confirmation.result
    c.confirmation.ensures.exact in
    let kept : KeepsConfirm c.args.layout.now c.confirmation.result c.boot_leg-booted.new.dev
    c.in_ok-ran.ran =
    c.requires.confirmed c.boot_leg-booted.new.dev _ _ c.in_ok-ran.ran may
    c.in_ok-ran.ensures.has in
    last_placed c.whole_images_show_no_fault.ensures c.args.layout.now
    c.args.aim.now c.args.image.now c.args.dev c.requires.opens c.args.upto ran keeps
    (sym c.goes_on.ensures.exact ∙ c.if-not-goes_on.false) c.restart-dev.result
    c.boot_leg-booted.new.dev c.restart-dev.ensures.exact c.boot_leg-booted.result.0
    c.boot_leg-booted.result.1 c.boot_leg-booted.ensures.left
    c.boot_leg-booted.ensures.booted c.in-Some.at
    (sym c.booted_for.ensures.exact ∙ c.in-Some.is) c.confirmation.result
    c.confirmation.ensures.exact c.in_ok-ran.ran kept

-- which is less than 4 GiB
pub close-requires-2-clause-small : goal.close-requires-2-clause-small
close-requires-2-clause-small g c =
    let ran = c.in_ok-dev.field-0 in
    let keeps = c.requires.written ran c.in_ok-dev.ensures.has in
    let may = confirm_may c.whole_images_show_no_fault.ensures c.args.layout.now c.args.aim.now
    c.args.image.now c.args.dev c.requires.opens c.args.upto ran keeps
    (sym c.goes_on.ensures.exact ∙ c.if-not-goes_on.false) c.restart-dev.result
    c.boot_leg-booted.new.dev c.restart-dev.ensures.exact c.boot_leg-booted.result.0
    c.boot_leg-booted.result.1 c.boot_leg-booted.ensures.left
    c.boot_leg-booted.ensures.booted c.in-Some.at
    (sym c.booted_for.ensures.exact ∙ c.in-Some.is) c.confirmation.result
    c.confirmation.ensures.exact in
    let kept : KeepsConfirm c.args.layout.now c.confirmation.result c.boot_leg-booted.new.dev
    c.in_ok-ran.ran =
    c.requires.confirmed c.boot_leg-booted.new.dev _ _ c.in_ok-ran.ran may
    c.in_ok-ran.ensures.has in
    last_small c.whole_images_show_no_fault.ensures c.args.layout.now
    c.args.aim.now c.args.image.now c.args.dev c.requires.opens c.args.upto ran keeps
    (sym c.goes_on.ensures.exact ∙ c.if-not-goes_on.false) c.restart-dev.result
    c.boot_leg-booted.new.dev c.restart-dev.ensures.exact c.boot_leg-booted.result.0
    c.boot_leg-booted.result.1 c.boot_leg-booted.ensures.left
    c.boot_leg-booted.ensures.booted c.in-Some.at
    (sym c.booted_for.ensures.exact ∙ c.in-Some.is) c.confirmation.result
    c.confirmation.ensures.exact c.in_ok-ran.ran kept c.requires.small

-- and some application boots of its flash
pub close-requires-2-clause-some : goal.close-requires-2-clause-some
close-requires-2-clause-some g c =
    let ran = c.in_ok-dev.field-0 in
    let keeps = c.requires.written ran c.in_ok-dev.ensures.has in
    let may = confirm_may c.whole_images_show_no_fault.ensures c.args.layout.now c.args.aim.now
    c.args.image.now c.args.dev c.requires.opens c.args.upto ran keeps
    (sym c.goes_on.ensures.exact ∙ c.if-not-goes_on.false) c.restart-dev.result
    c.boot_leg-booted.new.dev c.restart-dev.ensures.exact c.boot_leg-booted.result.0
    c.boot_leg-booted.result.1 c.boot_leg-booted.ensures.left
    c.boot_leg-booted.ensures.booted c.in-Some.at
    (sym c.booted_for.ensures.exact ∙ c.in-Some.is) c.confirmation.result
    c.confirmation.ensures.exact in
    let kept : KeepsConfirm c.args.layout.now c.confirmation.result c.boot_leg-booted.new.dev
    c.in_ok-ran.ran =
    c.requires.confirmed c.boot_leg-booted.new.dev _ _ c.in_ok-ran.ran may
    c.in_ok-ran.ensures.has in
    last_some c.whole_images_show_no_fault.ensures c.args.layout.now
    c.args.aim.now c.args.image.now c.args.dev c.requires.opens c.args.upto ran keeps
    (sym c.goes_on.ensures.exact ∙ c.if-not-goes_on.false) c.restart-dev.result
    c.boot_leg-booted.new.dev c.restart-dev.ensures.exact c.boot_leg-booted.result.0
    c.boot_leg-booted.result.1 c.boot_leg-booted.ensures.left
    c.boot_leg-booted.ensures.booted c.in-Some.at
    (sym c.booted_for.ensures.exact ∙ c.in-Some.is) c.confirmation.result
    c.confirmation.ensures.exact c.in_ok-ran.ran kept

-- the confirmation was the last leg
pub returns : goal.returns
returns g c =
    let ran = c.in_ok-dev.field-0 in
    let keeps = c.requires.written ran c.in_ok-dev.ensures.has in
    let may = confirm_may c.whole_images_show_no_fault.ensures c.args.layout.now c.args.aim.now
    c.args.image.now c.args.dev c.requires.opens c.args.upto ran keeps
    (sym c.goes_on.ensures.exact ∙ c.if-not-goes_on.false) c.restart-dev.result
    c.boot_leg-booted.new.dev c.restart-dev.ensures.exact c.boot_leg-booted.result.0
    c.boot_leg-booted.result.1 c.boot_leg-booted.ensures.left
    c.boot_leg-booted.ensures.booted c.in-Some.at
    (sym c.booted_for.ensures.exact ∙ c.in-Some.is) c.confirmation.result
    c.confirmation.ensures.exact in
    let kept : KeepsConfirm c.args.layout.now c.confirmation.result c.boot_leg-booted.new.dev
    c.in_ok-ran.ran =
    c.requires.confirmed c.boot_leg-booted.new.dev _ _ c.in_ok-ran.ran may
    c.in_ok-ran.ensures.has in
    record {
      outcome = outcome_confirm c.whole_images_show_no_fault.ensures c.args.layout.now
          c.args.aim.now c.args.image.now c.args.dev c.requires.opens c.args.upto ran keeps
          (sym c.goes_on.ensures.exact ∙ c.if-not-goes_on.false) c.restart-dev.result
          c.boot_leg-booted.new.dev c.restart-dev.ensures.exact c.boot_leg-booted.result.0
          c.boot_leg-booted.result.1 c.boot_leg-booted.ensures.left
          c.boot_leg-booted.ensures.booted c.in-Some.at
          (sym c.booted_for.ensures.exact ∙ c.in-Some.is) c.confirmation.result
          c.confirmation.ensures.exact c.in_ok-ran.ran kept _ _ c.close-2.result
          c.push-3.new.self.items c.in_ok-dev.ensures.has
          (c.push-3.ensures.items ∙ ap (λ (l : List Leg). l ++ c.in_ok-ran.ran.leg ∷ [])
          (c.push-2.ensures.items ∙ ap (λ (l : List Leg). l ++ c.boot_leg-booted.result.0 ∷ [])
          (c.push.ensures.items ∙ ap (λ (l : List Leg). l ++ ran.leg ∷ []) c.new-legs.ensures)))
          c.boot_leg-booted.ensures.leg _ _ c.in_ok-ran.ensures.has refl refl
          c.close-2.ensures.closed;
    }
