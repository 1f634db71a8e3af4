-- What boots behind all steps of the driver.
use Rattle.std.proofs.Common.{◌≡◌, ℕ, ◌<◌, List, [], ◌∷◌, ◌++◌, length, Option, Some, IfSome, lit<, sym, ap, ◌∙◌, subst, arith, append-nil}
use Rattle.std.specs.Prelude.{slice_get}
use Rattle.std.specs.List.{All}
use Rattle.nor_device.specs.declared.step.Step.{Step}
use Rattle.nor_device.specs.Flash.{after_steps}
use Rattle.crash_images.proofs.LeftLaws.{left_end}
use Rattle.partition_table.specs.declared.app.App.TheVariants.{Ota}
use Rattle.partition_table.specs.declared.row.Row.{Row}
use Rattle.partition_table.specs.Layout.{IsPlaced, Places}
use Rattle.otadata.specs.Choice.{active_of}
use Rattle.otadata.specs.Entry.{IsStored}
use Rattle.otadata.proofs.ChoiceLemmas.{active-lt}
use Rattle.otadata.proofs.EntryLemmas.{entry_in-stored}
use Rattle.boot_select.specs.Boots.{entries_in, images_in}
use Rattle.boot_select.specs.Choice.{slot_app}
use Rattle.rollback.specs.declared.rewrite.Rewrite.{Rewrite}
use Rattle.rollback.specs.Boots.{boots, boots_in, in_state}
use Rattle.rollback.specs.Rewrite.{restated}
use Rattle.rollback.proofs.EntriesLemmas.{boots_same}
use Rattle.rollback.proofs.LifeLemmas.{confirmed_boots}
use Rattle.image_layout.specs.Whole.{Whole}
use Rattle.image_verify.specs.Held.{held}
use Rattle.boot_run.specs.declared.aims.Aim.{Aim}
use Rattle.boot_run.specs.Rewriting.{rewrite, rewrites}
use Rattle.boot_run.proofs.FrameLemmas.{left_images}
use Rattle.boot_run.proofs.StoredLemmas.{entries_changed}
use Rattle.flash_steps.specs.Parts.{open_addresses}
use Rattle.update_steps.specs.Beside.{StandsBeside}
use Rattle.update_steps.proofs.SparedLemmas.{beside_done}
use Rattle.update_steps.proofs.VerdictLemmas.{beside_all}
use Rattle.ota_session.specs.Course.{Confirm, Confirms, Course, Install, Installs, IsFor, IsGood, Purpose, steps_for}
use Rattle.ota_session.specs.GoodLaws.{apart, placed, shown}

module _ (first : List ℕ) (course : Course) (flash : List ℕ) (good : IsGood first course flash)
    (none : course.rest ≡ []) where
  -- all steps are made
  all_made : (purpose : Purpose) → course.purpose ≡ purpose
      → StandsBeside first (steps_for course.layout purpose) [] (open_addresses course.rows) flash
  all_made purpose is =
      let all : steps_for course.layout purpose ≡ course.made =
      ap (steps_for course.layout) (sym is) ∙ good.made_for.steps
      ∙ ap (λ (l : List Step). course.made ++ l) none ∙ append-nil course.made in
      subst (λ (l : List Step). StandsBeside first l [] (open_addresses course.rows) flash) (sym all)
      (subst (λ (l : List Step). StandsBeside first course.made l (open_addresses course.rows) flash)
      none good.stands)

  -- the new application boots, where its image is whole
  pub installed_boots : (aim : Aim) (image : List ℕ) (row : Row)
      → course.purpose ≡ Install aim image → slice_get course.layout.slots aim.slot ≡ Some row
      → Whole image row.size → boots_in held course.layout flash ≡ Some (Ota aim.slot, image)
  installed_boots aim image row for is whole =
      let installs : Installs course.layout first aim image =
      subst (λ (p : Purpose). IsFor course.layout first p) for good.made_for.purpose in
      beside_done shown course.layout first flash aim installs.old image
      (open_addresses course.rows) row installs.opens (apart first course good.made_for) is whole
      (all_made (Install aim image) for)

  -- what boots is what boots of the flash that the rewrite leaves
  pub confirmation_boots : (write : Rewrite) → course.purpose ≡ Confirm write
      → boots_in held course.layout flash
      ≡ boots_in held course.layout (after_steps first (rewrite course.layout.otadata write))
  confirmation_boots write for =
      beside_all course.layout first flash (rewrite course.layout.otadata write)
      (open_addresses course.rows) (apart first course good.made_for)
      (all_made (Confirm write) for)

-- the rewrite of the active entry with VALID leaves its application to boot
restated_boots : (layout : Places) (first : List ℕ) (y : ℕ) (image : List ℕ)
    → IsPlaced layout (length first) → All (λ b. b < 256) first → y < 2
    → active_of (entries_in layout first 0) (entries_in layout first 1) ≡ Some y
    → images_in held layout first (slot_app layout (entries_in layout first y)) ≡ Some image
    → boots_in held layout (after_steps first
    (rewrite layout.otadata (restated 2 y (entries_in layout first y))))
    ≡ Some (slot_app layout (entries_in layout first y), image)
restated_boots layout first y image placed small two active holds =
    let es = entries_in layout first in
    let write = restated 2 y (es y) in
    let left = after_steps first (rewrite layout.otadata write) in
    let stored : IsStored (es y) =
    entry_in-stored first layout.otadata y (omega (arith, placed.inside)) small in
    let written : IsStored write.entry = record {
      sized = record {
        seq = stored.sized.seq;
        label = stored.sized.label;
        state = lit< tt;
        crc = stored.sized.crc;
      };
      label = stored.label;
    } in
    let images : images_in held layout left ≡ images_in held layout first =
    left_images held layout (length first) first left (write ∷ []) placed
    ((two, omega (arith, stored.sized.label)), tt)
    (left_end first (rewrites layout.otadata (write ∷ []))) in
    ap (λ h. boots layout h (entries_in layout left)) images
    ∙ boots_same layout (images_in held layout first) (in_state 2 y es) (entries_in layout left)
    (entries_changed layout first write placed two written 0 (omega arith))
    (entries_changed layout first write placed two written 1 (omega arith))
    ∙ confirmed_boots layout (images_in held layout first) es y image two active holds

-- behind a confirmation the application of the active entry boots, where its slot holds an image
pub confirmed_now : (first : List ℕ) (course : Course) (flash : List ℕ) (write : Rewrite)
    (sector : ℕ) (image : List ℕ) → IsGood first course flash → course.rest ≡ []
    → course.purpose ≡ Confirm write → All (λ b. b < 256) first
    → active_of (entries_in course.layout first 0) (entries_in course.layout first 1) ≡ Some sector
    → images_in held course.layout first
    (slot_app course.layout (entries_in course.layout first sector)) ≡ Some image
    → boots_in held course.layout flash
    ≡ Some (slot_app course.layout (entries_in course.layout first sector), image)
confirmed_now first course flash write sector image good none for small active holds =
    let layout = course.layout in
    let es = entries_in layout first in
    let confirms : Confirms layout first write =
    subst (λ (p : Purpose). IsFor layout first p) for good.made_for.purpose in
    let same : confirms.sector ≡ sector = let both = sym confirms.active ∙ active in cc in
    let two : sector < 2 = subst (λ (o : Option ℕ). IfSome o (λ number. number < 2)) active
    (active-lt (es 0) (es 1)) in
    confirmation_boots first course flash good none write for
    ∙ ap (λ (w : Rewrite). boots_in held layout (after_steps first (rewrite layout.otadata w)))
    (confirms.is ∙ ap (λ (y : ℕ). restated 2 y (es y)) same)
    ∙ restated_boots layout first sector image (placed first course good.made_for) small two active
    holds
