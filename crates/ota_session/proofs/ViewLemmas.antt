-- What a duty keeps, and how a step moves it.
use Rattle.std.proofs.Common.{◌≡◌, ◌≤◌, ◌<◌, ◌==◌, Bool, true, false, ℕ, suc, ◌+◌, ◌/◌, ◌%◌, ◌^◌, List, [], ◌∷◌, ◌++◌, length, take, drop, Option, Some, None, sym, ap, ◌∙◌, subst, arith}
use Rattle.std.specs.Prelude.{◌↔◌, if◌then◌else◌, IsTrue, slice_get}
use Rattle.std.proofs.Common.{Bor}
use Rattle.std.proofs.lemmas.Bool.Decides.{nat_tests}
use Rattle.std.proofs.lemmas.Option.{slice_get_within}
use Rattle.nor_device.specs.declared.step.Step.{Step}
use Rattle.partition_table.specs.declared.row.Row.{Row}
use Rattle.partition_table.specs.Layout.{Places}
use Rattle.boot_run.specs.declared.aims.Aim.{Aim}
use Rattle.flash_steps.specs.Steps.{pages_in}
use Rattle.update_steps.specs.Driver.{driver_steps, image_steps, next_rewrite, steps_to}
use Rattle.update_steps.proofs.SessionLemmas.{driver_is}
use Rattle.ota_session.specs.declared.part.UpdatePart.{UpdatePart}
use Rattle.ota_session.specs.declared.task.Task.{Task}
use Rattle.ota_session.specs.declared.task.Task.TheVariants as tasks
use Rattle.ota_session.specs.Course.{Grants, course_after, driven, part_of, steps_for}
use Rattle.ota_session.specs.DutyView.{IsTask, course_by, purpose_of}
use Rattle.ota_session.proofs.ImageLemmas.{most_steps, moved_test, never}
use Rattle.ota_session.proofs.NumberLemmas.{drop_one_more, next_to, take_one_more}
use Rattle.ota_session.proofs.PartLemmas.{driver_part}

-- ---- how many steps there are

few_pages : (at len : ℕ) → pages_in at len ≤ (len + 510) / 256
unfolding pages_in
few_pages at len = by (len == 0)
  where
    by : (none : Bool)
        → (if none then 0 else (at % 256 + len + 255) / 256) ≤ (len + 510) / 256
    by true = omega arith
    by false = omega arith

few_steps : (layout : Places) (aim : Aim) (image : List ℕ) → length image < 2 ^ 32
    → length (driver_steps layout aim image) + 1 < 2 ^ 32
unfolding driver_steps
few_steps layout aim image small = by (slice_get layout.slots aim.slot)
  where
    by : (found : Option Row)
        → length (steps_to layout.otadata found (next_rewrite aim) image) + 1 < 2 ^ 32
    by None = omega arith
    by (Some row) = omega (
      arith,
      small,
      few_pages row.offset (length image),
      most_steps layout.otadata row (next_rewrite aim) image,
    )

-- without a slot there is none
no_slot : (layout : Places) (aim : Aim) (image : List ℕ) → slice_get layout.slots aim.slot ≡ None
    → driver_steps layout aim image ≡ []
unfolding driver_steps
no_slot layout aim image none =
    ap (λ (found : Option Row). steps_to layout.otadata found (next_rewrite aim) image) none

task_small : (layout : Places) (task : Task) → IsTask layout task
    → length (steps_for layout (purpose_of task)) + 1 < 2 ^ 32
task_small layout (tasks.Install aim image) is = few_steps layout aim.now image.now is
task_small layout (tasks.Confirm rewrite) is = omega arith

-- ---- a test of the step with a number

module _ (layout : Places) (task : Task) (aim : Bor Aim) (image : Bor (List ℕ))
    (is : task ≡ tasks.Install aim image) (number : ℕ) (step : Step) (test : Bool) where
  -- in the partition of the slot
  pub install_test : (otadata : ℕ) (row : Row) → layout.otadata ≡ otadata
      → slice_get layout.slots aim.now.slot ≡ Some row
      → (IsTrue test ↔ (slice_get (image_steps otadata row (next_rewrite aim.now) image.now) number
      ≡ Some step))
      → (IsTrue test ↔ (slice_get (steps_for layout (purpose_of task)) number ≡ Some step))
  install_test otadata row place found tells =
      moved_test (steps_for layout (purpose_of task))
      (image_steps otadata row (next_rewrite aim.now) image.now) number number step test
      (ap (λ (t : Task). slice_get (steps_for layout (purpose_of t)) number) is
      ∙ ap (λ (l : List Step). slice_get l number) (driver_is layout aim.now image.now row found)
      ∙ ap (λ (o : ℕ). slice_get (image_steps o row (next_rewrite aim.now) image.now) number)
      place)
      tells

  -- where there is no such slot
  pub nowhere_test : slice_get layout.slots aim.now.slot ≡ None
      → (IsTrue false ↔ (slice_get (steps_for layout (purpose_of task)) number ≡ Some step))
  nowhere_test none =
      never (steps_for layout (purpose_of task)) number step
      (ap (λ (t : Task). slice_get (steps_for layout (purpose_of t)) number) is
      ∙ ap (λ (l : List Step). slice_get l number) (no_slot layout aim.now image.now none))

-- ---- one step more

module _ (driver : ℕ) (rows : List Row) (layout : Places) (task : Task) (done c : ℕ) (step : Step)
    (own : c ≡ driver)
    (may : Grants (part_of (course_by driver rows layout task done) c) step) where
  abbrev steps : List Step
  steps = steps_for layout (purpose_of task)

  -- the step is the next one
  next : slice_get steps done ≡ Some step
  next = next_to steps done step
      (subst (λ (p : UpdatePart). Grants p step)
      (driver_part (course_by driver rows layout task done) c own) may)

  -- its number fits
  pub one_more_fits : IsTask layout task → done + 1 < 2 ^ 32
  one_more_fits is = omega (arith, slice_get_within steps done step next, task_small layout task is)

  -- and the course goes on by it
  pub one_more_is : course_by driver rows layout task (done + 1)
      ≡ course_after (course_by driver rows layout task done) c step
  one_more_is =
      let count : done + 1 ≡ suc done = omega arith in
      let front : take (done + 1) steps ≡ take done steps ++ (step ∷ []) =
      ap (λ (n : ℕ). take n steps) count ∙ take_one_more steps done step next in
      let back : drop (done + 1) steps ≡ drop 1 (drop done steps) =
      ap (λ (n : ℕ). drop n steps) count ∙ drop_one_more steps done in
      let test : (c == driver) ≡ true = grind (arith, nat_tests) in
      (λ i. record {
        driver = driver;
        rows = rows;
        layout = layout;
        purpose = purpose_of task;
        made = front i;
        rest = back i;
      })
      ∙ sym (ap (λ (t : Bool). if t then driven (course_by driver rows layout task done) step
      else course_by driver rows layout task done) test)
