-- What a good flash means for the purpose of a leg, whatever step its duty has come to.
use Rattle.std.proofs.Common.{◌≡◌, ◌≢◌, ◌==◌, Bool, true, false, ℕ, List, ◌++◌, Option, None, sym, ap, ◌∙◌, subst}
use Rattle.std.specs.Prelude.{if◌then◌else◌}
use Rattle.nor_device.specs.declared.step.Step.{Step}
use Rattle.partition_table.specs.declared.row.Row.{Row}
use Rattle.partition_table.specs.Layout.{Places}
use Rattle.boot_select.specs.Boots.{entries_in, images_in}
use Rattle.rollback.specs.Boots.{boots_in}
use Rattle.rollback.proofs.PairLemmas.{boots_holds}
use Rattle.image_verify.specs.Held.{held}
use Rattle.boot_run.specs.declared.aims.Aim.{Aim}
use Rattle.flash_steps.specs.Parts.{open_addresses}
use Rattle.update_steps.specs.Beside.{StandsBeside}
use Rattle.update_steps.specs.Session.{BootsOldOrNew, IsOpening}
use Rattle.ota_session.specs.Course.{Confirm, Course, Install, IsFor, IsGood, LeavesBoot, Purpose, course_after, driven, steps_for}
use Rattle.power_cut.specs.Update.{bytes_or_none, image_of, size_or_none, slot_size}
use Rattle.duo_run.specs.Jobs.{HoldsFor}

-- no step changes what the duty was made for
pub record IsOf (rows : List Row) (layout : Places) (purpose : Purpose) (course : Course)
    : Type 0 where
  pub rows_are : course.rows ≡ rows
  pub layout_is : course.layout ≡ layout
  pub purpose_is : course.purpose ≡ purpose

module _ (rows : List Row) (layout : Places) (purpose : Purpose) where
  pub stays_of : (course : Course) (c : ℕ) (step : Step) → IsOf rows layout purpose course
      → IsOf rows layout purpose (course_after course c step)
  stays_of course c step is = by (c == course.driver)
    where
      by : (own : Bool)
          → IsOf rows layout purpose (if own then driven course step else course)
      by true = record {
        rows_are = is.rows_are;
        layout_is = is.layout_is;
        purpose_is = is.purpose_is;
      }
      by false = is

-- what of a flash is good, in the words of the leg
record Good (first : List ℕ) (rows : List Row) (layout : Places) (purpose : Purpose)
    (flash : List ℕ) : Type 0 where
  made : List Step
  rest : List Step
  split : steps_for layout purpose ≡ made ++ rest
  stands : StandsBeside first made rest (open_addresses rows) flash
  boots : LeavesBoot layout first purpose flash
  some : boots_in held layout flash ≢ None

good_as : (first : List ℕ) (rows : List Row) (layout : Places) (purpose : Purpose)
    (course : Course) (flash : List ℕ) → IsOf rows layout purpose course
    → IsGood first course flash → Good first rows layout purpose flash
good_as first rows layout purpose course flash is good = record {
  made = course.made;
  rest = course.rest;
  split = (λ i. steps_for (sym is.layout_is i) (sym is.purpose_is i)) ∙ good.made_for.steps;
  stands = subst (λ (r : List Row). StandsBeside first course.made course.rest (open_addresses r)
      flash) is.rows_are good.stands;
  boots = subst (λ (p : Purpose). LeavesBoot layout first p flash) is.purpose_is
      (subst (λ (l : Places). LeavesBoot l first course.purpose flash) is.layout_is good.boots);
  some = subst (λ (l : Places). boots_in held l flash ≢ None) is.layout_is good.some;
}

-- the image of the application that runs is the old one
old_image : (layout : Places) (first : List ℕ) (aim : Aim) (old image : List ℕ)
    → IsOpening layout first aim old image → image_of layout first aim.running ≡ old
old_image layout first aim old image opens =
    ap (λ (o : Option (List ℕ)). bytes_or_none o)
    (boots_holds layout (images_in held layout first) (entries_in layout first) aim.running
    opens.begins.image opens.begins.settled.booted)
    ∙ opens.old_is

holds_as : (first : List ℕ) (rows : List Row) (layout : Places) (purpose : Purpose)
    (flash : List ℕ) → IsFor layout first purpose → Good first rows layout purpose flash
    → HoldsFor layout first purpose (open_addresses rows) flash
holds_as first rows layout (Install aim image) flash for good =
    let opens = for.opens in
    let row : Row = opens.begins.row in
    let same = old_image layout first aim for.old image opens in
    record {
      made = good.made;
      rest = good.rest;
      split = good.split;
      stands = good.stands;
      boots = subst (λ (old : List ℕ). BootsOldOrNew layout first aim (slot_size layout aim.slot)
          old
          image flash) (sym same)
          (subst (λ (size : ℕ). BootsOldOrNew layout first aim size for.old image flash)
          (sym (ap (λ (o : Option Row). size_or_none o) opens.begins.row_is))
          (good.boots for.old row opens opens.begins.row_is));
      some = good.some;
    }
holds_as first rows layout (Confirm write) flash for good = record {
  made = good.made;
  rest = good.rest;
  split = good.split;
  stands = good.stands;
  boots = good.boots;
  some = good.some;
}

-- what is good by the duty, at whatever step, holds
pub good_holds : (first : List ℕ) (rows : List Row) (layout : Places) (purpose : Purpose)
    → IsFor layout first purpose → (course : Course) (flash : List ℕ)
    → IsOf rows layout purpose course → IsGood first course flash
    → HoldsFor layout first purpose (open_addresses rows) flash
good_holds first rows layout purpose for course flash is good =
    holds_as first rows layout purpose flash for
    (good_as first rows layout purpose course flash is good)
