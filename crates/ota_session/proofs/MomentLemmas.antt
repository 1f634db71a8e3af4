-- What boots and what stands at every moment of a log, and behind all steps, by the duty at the
-- opening.
use Rattle.std.proofs.Common.{◌≡◌, ◌≢◌, ◌==◌, Bool, true, false, ℕ, ◌<◌, List, [], ◌∷◌, ◌++◌, Option, Some, None, refl, sym, ◌∙◌, subst, append-nil}
use Rattle.std.specs.Prelude.{if◌then◌else◌, slice_get}
use Rattle.std.specs.List.{All}
use Rattle.core_state.specs.Sharing.{in_order}
use Rattle.nor_device.specs.declared.step.Step.{Step}
use Rattle.nor_device.specs.declared.nor.StepEnd.{StepEnd}
use Rattle.nor_device.specs.declared.nor.NorFault.{NorFault}
use Rattle.crash_images.specs.Crash.{LeavesNow}
use Rattle.partition_table.specs.declared.app.App.TheVariants.{Ota}
use Rattle.partition_table.specs.declared.row.Row.{Row}
use Rattle.partition_table.specs.Layout.{Places}
use Rattle.otadata.specs.Choice.{active_of}
use Rattle.boot_select.specs.Boots.{entries_in, images_in}
use Rattle.boot_select.specs.Choice.{slot_app}
use Rattle.rollback.specs.declared.rewrite.Rewrite.{Rewrite}
use Rattle.rollback.specs.Boots.{boots_in}
use Rattle.image_layout.specs.Whole.{Whole}
use Rattle.image_verify.specs.Held.{held}
use Rattle.boot_run.specs.declared.aims.Aim.{Aim}
use Rattle.flash_steps.specs.Parts.{open_addresses}
use Rattle.bus_hub.specs.declared.did.Base.{Base}
use Rattle.bus_hub.specs.declared.did.Did.{Did}
use Rattle.bus_hub.specs.declared.did.Did.TheVariants.{Opened, Closed, Broken, Fetched, Noted, Denied, Mapping, Unmapping, Missed, Masked, Unfetched}
use Rattle.bus_hub.specs.declared.did.Running.{Running}
use Rattle.bus_hub.specs.Hub.{Hub, begun, step_of}
use Rattle.bus_hub.specs.Log.{Item, State, change, made_whole, of_core, reached}
use Rattle.bus_hub.specs.Moments.{MayBeLeft}
use Rattle.bus_hub.specs.Shares.{made}
use Rattle.bus_hub.proofs.Forgetting.{Still, free_base, free_reached}
use Rattle.bus_hub.proofs.Logs.{Keeps, ruled-front}
use Rattle.bus_hub.proofs.Parts.{known_by_log}
use Rattle.bus_hub.proofs.Prefixes.{good_at_all}
use Rattle.update_steps.specs.Beside.{StandsBeside}
use Rattle.ota_session.specs.Course.{Confirm, Course, Grants, Install, IsGood, LeavesBoot, Purpose, course_after, driven, part_after, part_of}
use Rattle.ota_session.specs.DutyLaws.{made_good, other_stays, own_moves, torn_good}
use Rattle.ota_session.specs.GoodLaws.{good_of}
use Rattle.ota_session.proofs.BootLemmas.{confirmed_now, installed_boots}
use Rattle.ota_session.proofs.PartLemmas.{driver_now, part_tells}
use Rattle.ota_session.proofs.ReadLemmas.{StandsBy, first_good, stands_beside}

-- ---- what no step changes

-- the rows, the layout and what the steps are for
pub record IsSame (one two : Course) : Type 0 where
  pub rows : two.rows ≡ one.rows
  pub layout : two.layout ≡ one.layout
  pub purpose : two.purpose ≡ one.purpose

same_self : (course : Course) → IsSame course course
same_self course = record { rows = refl; layout = refl; purpose = refl }

same_twice : (one two three : Course) → IsSame one two → IsSame two three → IsSame one three
same_twice one two three first then_ = record {
  rows = then_.rows ∙ first.rows;
  layout = then_.layout ∙ first.layout;
  purpose = then_.purpose ∙ first.purpose;
}

-- a step of a core
same_after : (course : Course) (c : ℕ) (step : Step) → IsSame course (course_after course c step)
same_after course c step = by (c == course.driver)
  where
    by : (own : Bool) → IsSame course (if own then driven course step else course)
    by true = record { rows = refl; layout = refl; purpose = refl }
    by false = same_self course

-- an item of a log
same_change : (s : State Course) (c : ℕ) (did : Did)
    → IsSame s.duty (change course_after s c did).duty
same_change s c (Opened k regs step) = same_self s.duty
same_change s c (Closed k regs) = by s.running
  where
    by : (run : Option Running) → IsSame s.duty (made_whole course_after s c run).duty
    by None = same_self s.duty
    by (Some run) = same_after s.duty c run.step
same_change s c (Broken k regs why left) = same_self s.duty
same_change s c (Fetched k regs at bytes) = same_self s.duty
same_change s c (Noted k regs act) = same_self s.duty
same_change s c (Denied why) = same_self s.duty
same_change s c (Mapping flash_page n space answer) = same_self s.duty
same_change s c (Unmapping at answer) = same_self s.duty
same_change s c (Missed at len) = same_self s.duty
same_change s c (Masked at len) = same_self s.duty
same_change s c (Unfetched at len why) = same_self s.duty

-- a log
pub same_reached : (s : State Course) (log : List Item)
    → IsSame s.duty (reached course_after s log).duty
same_reached s [] = same_self s.duty
same_reached s (x ∷ log) =
    let next = change course_after s x.core x.did in
    same_twice s.duty next.duty (reached course_after next log).duty (same_change s x.core x.did)
    (same_reached next log)

-- ---- what boots

-- a flash boots what the purpose says, and in every case some application
pub record Boots (first : List ℕ) (course : Course) (flash : List ℕ) : Type 0 where
  pub boots : LeavesBoot course.layout first course.purpose flash
  pub some : boots_in held course.layout flash ≢ None

-- where a flash is good by a later duty, it boots what the duty at the opening says
pub good_boots : (first : List ℕ) (course later : Course) (flash : List ℕ) → IsSame course later
    → IsGood first later flash → Boots first course flash
good_boots first course later flash same good = record {
  boots = subst (λ (p : Purpose). LeavesBoot course.layout first p flash) same.purpose
      (subst (λ (l : Places). LeavesBoot l first later.purpose flash) same.layout good.boots);
  some = subst (λ (l : Places). boots_in held l flash ≢ None) same.layout good.some;
}

-- what a loss of power leaves of a flash and the step that runs
now_left : (flash : List ℕ) (run : Option Running) (left : List ℕ)
    → LeavesNow flash (step_of run) left → MayBeLeft flash run left
now_left flash None left leaves = leaves
now_left flash (Some run) left leaves = leaves

module _ {D S : Type 0}
    (bytes : D → Option (List ℕ)) (off : D → Bool) (steps faults : D → ℕ) (setting : D → S)
    (may_end : S → ℕ → StepEnd → Type 0) (may_tear : S → ℕ → List ℕ → Step → List ℕ → Type 0)
    (may_refuse : S → ℕ → NorFault → Type 0) (must_refuse : S → ℕ → Type 0) where
  abbrev Stood : Hub D Course → Base S Course → List Did → List Did → Type 0
  Stood = StandsBy bytes off steps faults setting may_end may_tear may_refuse must_refuse

  -- the log of a bus keeps its rules
  ruled_as : (h : Hub D Course) (b : Base S Course) (left right : List Did)
      (s : Stood h b left right) (log : List Item) → s.stood.log ≡ log
      → Keeps may_end may_tear may_refuse must_refuse part_of Grants course_after b.setting (begun b)
      log
  ruled_as h b left right s log is =
      subst (λ (log : List Item). Keeps may_end may_tear may_refuse must_refuse part_of Grants
      course_after b.setting (begun b) log) is s.stood.ruled

  -- behind every first part of the log of a bus, every flash that a loss of power may leave is good
  -- by the duty of that moment
  moment_good : (h : Hub D Course) (b : Base S Course) (left right : List Did)
      (s : Stood h b left right) (before later : List Item) (flash : List ℕ)
      → s.stood.log ≡ before ++ later
      → MayBeLeft (reached course_after (begun b) before).flash
      (reached course_after (begun b) before).running flash
      → IsGood b.flash (reached course_after (begun b) before).duty flash
  moment_good h b left right s before later flash split leaves =
      good_at_all may_end may_tear may_refuse must_refuse part_of Grants course_after IsGood
      torn_good made_good b.flash b.setting (begun b) before later flash
      (ruled_as h b left right s (before ++ later) split) s.good_first refl leaves

  -- so it boots what the purpose says, and in every case some application
  pub moment_boots : (h : Hub D Course) (b : Base S Course) (left right : List Did)
      (s : Stood h b left right) (before later : List Item) (flash : List ℕ)
      → s.stood.log ≡ before ++ later
      → MayBeLeft (reached course_after (begun b) before).flash
      (reached course_after (begun b) before).running flash
      → Boots b.flash b.duty flash
  moment_boots h b left right s before later flash split leaves =
      good_boots b.flash b.duty (reached course_after (begun b) before).duty flash
      (same_reached (begun b) before)
      (moment_good h b left right s before later flash split leaves)

  -- the same of a log without a duty, and of what a loss of power leaves of a flash and a step
  pub free_moment_boots : {L : Type 0} (free : L) (h : Hub D Course) (b : Base S Course)
      (left right : List Did) (s : Stood h b left right) (before later : List Item)
      (flash : List ℕ) → s.stood.log ≡ before ++ later
      → LeavesNow (reached Still (begun (free_base free b)) before).flash
      (step_of (reached Still (begun (free_base free b)) before).running) flash
      → Boots b.flash b.duty flash
  free_moment_boots {L} free h b left right s before later flash split leaves =
      let there = reached course_after (begun b) before in
      let same = free_reached free course_after (begun b) before in
      moment_boots h b left right s before later flash split
      (now_left there.flash there.running flash
      (subst (λ (t : State L). LeavesNow t.flash (step_of t.running) flash) (sym same) leaves))

  -- the duty behind a first part of the log in which the driver made these of its steps
  moment_parts : (h : Hub D Course) (b : Base S Course) (left right : List Did)
      (s : Stood h b left right) (before later : List Item) (done rest : List Step)
      → s.stood.log ≡ before ++ later → b.duty.rest ≡ done ++ rest
      → made (of_core b.duty.driver before) ≡ done
      → ((reached course_after (begun b) before).duty.made ≡ b.duty.made ++ done)
      × ((reached course_after (begun b) before).duty.rest ≡ rest)
  moment_parts h b left right s before later done rest split parts did =
      let known = known_by_log may_end may_tear may_refuse must_refuse part_of Grants part_after
      course_after own_moves other_stays b.setting (begun b) b.duty.driver before
      (ruled-front may_end may_tear may_refuse must_refuse part_of Grants course_after b.setting
      (begun b) before later (ruled_as h b left right s (before ++ later) split)) in
      part_tells (reached course_after (begun b) before).duty b.duty.driver (b.duty.made ++ done)
      rest
      (known.part_is
      ∙ driver_now b b.duty.driver (of_core b.duty.driver before) done rest refl parts did)

  -- behind every first part of the log in which the driver made all of its steps, beside the other
  -- core every flash that a loss of power may leave is the one at the opening after them
  pub moment_stands : (h : Hub D Course) (b : Base S Course) (left right : List Did)
      (s : Stood h b left right) (before later : List Item) (flash : List ℕ)
      → s.stood.log ≡ before ++ later → made (of_core b.duty.driver before) ≡ b.duty.rest
      → MayBeLeft (reached course_after (begun b) before).flash
      (reached course_after (begun b) before).running flash
      → StandsBeside b.flash (b.duty.made ++ b.duty.rest) [] (open_addresses b.duty.rows) flash
  moment_stands h b left right s before later flash split all leaves =
      let duty : Course = (reached course_after (begun b) before).duty in
      let parts = moment_parts h b left right s before later b.duty.rest [] split
      (sym (append-nil b.duty.rest)) all in
      let good = moment_good h b left right s before later flash split leaves in
      subst (λ (rows : List Row). StandsBeside b.flash (b.duty.made ++ b.duty.rest) []
      (open_addresses rows) flash) (same_reached (begun b) before).rows
      (subst (λ (l : List Step). StandsBeside b.flash l [] (open_addresses duty.rows) flash)
      parts.0
      (subst (λ (l : List Step). StandsBeside b.flash duty.made l (open_addresses duty.rows) flash)
      parts.1 good.stands))

  -- the same of a log without a duty, and of what a loss of power leaves of a flash and a step
  pub free_moment_stands : {L : Type 0} (free : L) (h : Hub D Course) (b : Base S Course)
      (left right : List Did) (s : Stood h b left right) (before later : List Item)
      (flash : List ℕ) → s.stood.log ≡ before ++ later
      → made (of_core b.duty.driver before) ≡ b.duty.rest
      → LeavesNow (reached Still (begun (free_base free b)) before).flash
      (step_of (reached Still (begun (free_base free b)) before).running) flash
      → StandsBeside b.flash (b.duty.made ++ b.duty.rest) [] (open_addresses b.duty.rows) flash
  free_moment_stands {L} free h b left right s before later flash split all leaves =
      let there = reached course_after (begun b) before in
      let same = free_reached free course_after (begun b) before in
      moment_stands h b left right s before later flash split all
      (now_left there.flash there.running flash
      (subst (λ (t : State L). LeavesNow t.flash (step_of t.running) flash) (sym same) leaves))

  -- where the driver's share has made all of the driver's steps, the flash of a bus is good by a duty
  -- that has none to come
  all_good : (h : Hub D Course) (b : Base S Course) (c : ℕ) (mine theirs : List Did)
      (flash : List ℕ) → c < 2 → in_order (Stood h b) c mine theirs → c ≡ b.duty.driver
      → made mine ≡ b.duty.rest → bytes h.dev ≡ Some flash
      → IsGood b.flash (record b.duty { made = b.duty.made ++ b.duty.rest; rest = [] }) flash
  all_good h b c mine theirs flash small stands own all told =
      let for = (first_good bytes off steps faults setting may_end may_tear may_refuse must_refuse h b
      c mine theirs small stands).made_for in
      good_of b.flash (record b.duty { made = b.duty.made ++ b.duty.rest; rest = [] }) flash
      (record {
        table = for.table;
        layout = for.layout;
        purpose = for.purpose;
        steps = for.steps ∙ sym (append-nil (b.duty.made ++ b.duty.rest));
      })
      (stands_beside bytes off steps faults setting may_end may_tear may_refuse must_refuse h b c
      mine theirs b.duty.rest [] flash small stands own (sym (append-nil b.duty.rest)) all told)

  -- then the new application boots, where its image is whole
  pub stands_installed : (h : Hub D Course) (b : Base S Course) (c : ℕ) (mine theirs : List Did)
      (aim : Aim) (image : List ℕ) (row : Row) (flash : List ℕ) → c < 2
      → in_order (Stood h b) c mine theirs → c ≡ b.duty.driver → made mine ≡ b.duty.rest
      → b.duty.purpose ≡ Install aim image → slice_get b.duty.layout.slots aim.slot ≡ Some row
      → Whole image row.size → bytes h.dev ≡ Some flash
      → boots_in held b.duty.layout flash ≡ Some (Ota aim.slot, image)
  stands_installed h b c mine theirs aim image row flash small stands own all for is whole told =
      installed_boots b.flash (record b.duty { made = b.duty.made ++ b.duty.rest; rest = [] }) flash
      (all_good h b c mine theirs flash small stands own all told) refl aim image row for is whole

  -- or the one that is confirmed, where its slot holds an image
  pub stands_confirmed : (h : Hub D Course) (b : Base S Course) (c : ℕ) (mine theirs : List Did)
      (write : Rewrite) (sector : ℕ) (image flash : List ℕ) → c < 2
      → in_order (Stood h b) c mine theirs → c ≡ b.duty.driver → made mine ≡ b.duty.rest
      → b.duty.purpose ≡ Confirm write → All (λ byte. byte < 256) b.flash
      → active_of (entries_in b.duty.layout b.flash 0) (entries_in b.duty.layout b.flash 1)
      ≡ Some sector
      → images_in held b.duty.layout b.flash
      (slot_app b.duty.layout (entries_in b.duty.layout b.flash sector)) ≡ Some image
      → bytes h.dev ≡ Some flash
      → boots_in held b.duty.layout flash
      ≡ Some (slot_app b.duty.layout (entries_in b.duty.layout b.flash sector), image)
  stands_confirmed h b c mine theirs write sector image flash small stands own all for byte active
      holds told =
      confirmed_now b.flash (record b.duty { made = b.duty.made ++ b.duty.rest; rest = [] }) flash
      write sector image (all_good h b c mine theirs flash small stands own all told) refl for byte
      active holds
