-- What a cut leaves beside a script that makes no step, and what boots behind each cut of a sweep.
use Rattle.std.proofs.Common.{◌≡◌, inl, inr, ◌≤◌, ◌<◌, Bool, true, false, ℕ, suc, ◌+◌, All, List, [], ◌∷◌, ◌++◌, length, length-append, Option, Some, None, Ok, refl, sym, ap, ◌∙◌, subst, arith}
use Rattle.std.specs.Prelude.{◌&&◌, if◌then◌else◌, slice_get}
use Rattle.std.specs.Borrow.{Bor}
use Rattle.nor_device.specs.declared.step.Step.{Step}
use Rattle.nor_device.specs.Flash.{after_steps}
use Rattle.nor_device.specs.Ram.{Ram}
use Rattle.crash_images.specs.Cut.{CutDevice, NotBoth}
use Rattle.partition_table.specs.declared.app.App.{App}
use Rattle.partition_table.specs.Layout.{Places, layout_in}
use Rattle.otadata.specs.declared.next.NextEntry.{NextEntry}
use Rattle.boot_select.specs.Boots.{entries_in}
use Rattle.rollback.specs.declared.rewrite.Rewrite.{Rewrite}
use Rattle.rollback.specs.Boots.{boots_in}
use Rattle.rollback.specs.Rewrite.{restated}
use Rattle.image_verify.specs.Held.{held}
use Rattle.boot_run.specs.declared.aims.Aim.{Aim}
use Rattle.boot_run.specs.declared.booted.Booted.{Booted}
use Rattle.boot_run.specs.Rewriting.{rewrite}
use Rattle.boot_run.specs.Verified.{Starts}
use Rattle.update_steps.specs.Driver.{driver_steps, next_rewrite, steps_to}
use Rattle.update_steps.proofs.SessionLemmas.{ShowsNone}
use Rattle.power_cut.specs.declared.legs.Leg.{Leg}
use Rattle.power_cut.specs.declared.legs.LegEnd.{LegEnd}
use Rattle.power_cut.specs.declared.legs.LegEnd.TheVariants.{Done, Device, Cut, FirstByte, Empty, Bad}
use Rattle.power_cut.specs.declared.legs.Ran.{Ran}
use Rattle.power_cut.specs.declared.legs.Upto.TheVariants.{Confirm}
use Rattle.power_cut.specs.declared.outcome.Trial.{Trial}
use Rattle.power_cut.specs.declared.swept.Sweep.{Sweep}
use Rattle.power_cut.specs.Device.{HasEnd}
use Rattle.power_cut.specs.Sweep.{AreCutFrom}
use Rattle.power_cut.specs.Update.{Opens, session_end, slot_size}
use Rattle.power_cut.specs.Whole.{AreDone, BehindSession, IsTrial, is_done, wants_boot}
use Rattle.boot_run.specs.BootSteps.{boot_steps}
use Rattle.duo_run.specs.Both.{HasTable}
use Rattle.duo_run.specs.Worker.{worker_steps}
use Rattle.duo_run.proofs.FewStepsLemmas.{update_few}
use Rattle.duo_run.proofs.OpeningLemmas.{aimed_opens, table_lays}
use Rattle.power_cut.specs.CutFlash.{all_steps, cut_flash, cut_in}
use Rattle.update_run.specs.Legs.{Confirms, Writes}
use Rattle.update_run.specs.Opening.{AimsIn, Opening}
use Rattle.power_cut.specs.StepCount.{update_count}
use Rattle.update_run.specs.CutLaws.{AreBootsFrom, AreSameSweeps, CutUpdatesAreByFiles, IsByFiles, IsSilent, SilentSweepsAreByFiles, SilentSweepsAreOne, SweepOf, cut_boots}
use Rattle.update_run.specs.Sweeping.{IsSweptUpdate}
use Rattle.update_run.specs.Updating.{last_end}
use Rattle.update_run.proofs.CutLemmas.{trial_cut}
use Rattle.update_run.proofs.EndLemmas.{done_is, second_true}
use Rattle.update_run.proofs.OpenedLemmas.{opened}
use Rattle.update_run.proofs.SweepCountLemmas.{IsCountable, cut_ends, same_end, started, sweep_counts}
use Rattle.update_run.proofs.AimLaws.{next_same, slot_same}
use Rattle.update_run.proofs.UpdateLaws.{cut_reached}

-- the session of an update that was made whole was made whole
session_done : (confirms : CutDevice Ram → Bor Booted → Bor Rewrite → Ran → Type 0)
    (layout : Places) (flash : List ℕ) (aim : Aim) (image : List ℕ) (leg : Leg)
    (dev : CutDevice Ram) (t : Trial) (goes : Bool)
    → (wants_boot Confirm && is_done leg.end) ≡ goes
    → BehindSession confirms layout flash aim image goes Confirm leg dev t → AreDone t.legs.items
    → leg.end ≡ Done
session_done confirms layout flash aim image leg dev t false halts ends done =
    (subst AreDone ends.legs_are done).0
session_done confirms layout flash aim image leg dev t true goes ends done =
    done_is leg.end (second_true (wants_boot Confirm) (is_done leg.end) goes)

-- an update may begin so, with this aim, and its script makes no step
record IsQuiet (o : Opening) (aim : Aim) : Type 0 where
  table : HasTable o.rows o.layout o.flash
  bytes : All (λ b. b < 256) o.image
  aims : AimsIn o.flash o.layout (length o.image) aim
  silent : worker_steps o.rows o.script ≡ []

-- what these files give
quiet : (flash image text : List ℕ) (o : Opening) (aim : Aim) → IsSilent flash image text o aim
    → IsQuiet o aim
quiet flash image text o aim may =
    let is = opened flash image text o may.given in
    record {
      table = is.table;
      bytes = subst (All (λ b. b < 256)) (sym is.image_is) may.bytes;
      aims = subst (λ (f : List ℕ). AimsIn f o.layout (length o.image) aim) (sym is.flash_is)
          (subst (λ (i : List ℕ). AimsIn flash o.layout (length i) aim) (sym is.image_is) may.aims);
      silent = may.silent;
    }

module _ (shown : ShowsNone) (o : Opening) (driver tear : ℕ) (aim : Aim) (below : driver < 2)
    (may : IsQuiet o aim) where
  abbrev work : List Step
  work = worker_steps o.rows o.script

  opens : Opens o.layout o.flash aim o.image
  opens = aimed_opens o.flash o.rows o.layout aim o.image may.table may.bytes may.aims

  abbrev total : ℕ
  total = length (all_steps o.layout aim o.image o.flash)

  abbrev whole : LegEnd
  whole = session_end (slot_size o.layout aim.slot) o.image

  -- the steps of an update whose session is made whole
  count_is : whole ≡ Done → update_count o.layout aim o.image work Confirm o.flash ≡ total
  count_is done =
      let driver_list = driver_steps o.layout aim o.image in
      let boot_list = boot_steps o.layout (after_steps o.flash driver_list) in
      let confirm_list = rewrite o.layout.otadata
      (restated 2 aim.next.sector aim.next.entry) in
      let quiet : update_count o.layout aim o.image work Confirm o.flash
      ≡ update_count o.layout aim o.image [] Confirm o.flash =
      ap (λ (w : List Step). update_count o.layout aim o.image w Confirm o.flash) may.silent in
      let all : update_count o.layout aim o.image [] Confirm o.flash
      ≡ length driver_list + 0 + (length boot_list + 2) =
      ap (λ e. length driver_list + 0 + (if is_done e then length boot_list + 2 else 0)) done in
      let one = length-append driver_list (boot_list ++ confirm_list) in
      let two = length-append boot_list confirm_list in
      omega (arith, quiet, all, one, two)

  countable : IsCountable o aim
  countable = record {
    table = may.table;
    opens = opens;
    few = (let none = ap (λ (w : List Step). length w) may.silent in omega (arith, none));
  }

  -- what a cut in step k leaves
  cut_leaves : (k : ℕ) (t : Trial) → (u : IsSweptUpdate o driver tear aim (Some k) t)
      → whole ≡ Done → k ≤ total
      → t.flash.items ≡ cut_flash o.layout aim o.image o.flash tear k
  cut_leaves k t u done within =
      let here = started o driver tear aim countable (Some k) t u in
      trial_cut shown o.rows o.script driver below o.layout aim o.image u.dev here.table here.laid
      here.opens may.silent k here.chooses here.short Confirm t here.trial
      (cut_ends o driver tear aim countable shown below k t u
      (subst (λ n. k ≤ n) (sym (count_is done)) within))
      ∙ ap (λ n. cut_flash o.layout aim o.image u.dev.inner.bytes n k)
      (ap (λ (d : CutDevice Ram). d.tear) u.fresh.same)
      ∙ ap (λ (f : List ℕ). cut_flash o.layout aim o.image f tear k) u.fresh.bytes

  cuts_boot : whole ≡ Done → (k : ℕ) (answers : List Booted)
      → AreCutFrom (Writes o driver aim) (Confirms o driver) o.layout o.flash tear aim o.image k
      answers
      → k + length answers ≤ total + 1
      → AreBootsFrom (cut_boots o.layout aim o.image o.flash tear) k answers
  cuts_boot done k [] cuts within = tt
  cuts_boot done k (booted ∷ more) cuts within = (
    subst (λ (f : List ℕ). Starts (boots_in held o.layout f) booted.app booted.info)
        (cut_leaves k cuts.0.t cuts.0.update done (omega (arith, within))) cuts.0.shows,
    cuts_boot done (suc k) more cuts.1 (omega (arith, within)),
  )

  by_files_of : (s : Sweep) → SweepOf o driver tear aim s
      → IsByFiles o.layout aim o.image o.flash tear s
  by_files_of s sweep =
      let trial = sweep.update.trial in
      let end = session_done (Confirms o driver) o.layout o.flash aim o.image trial.session.leg
      trial.session.dev sweep.whole (wants_boot Confirm && is_done trial.session.leg.end) refl
      trial.behind sweep.done in
      let done : whole ≡ Done =
      (subst (HasEnd sweep.update.dev trial.session.dev.steps whole) end
      trial.written.leg.ran_is.end).1 in
      let steps : s.steps ≡ total =
      sweep_counts o driver tear aim countable shown below s sweep ∙ count_is done in
      record {
        steps = steps;
        places = sweep.places;
        boots = cuts_boot done 1 s.after.items sweep.cuts
            (let places = sweep.places in omega (arith, steps, places));
      }

pub by_files : ShowsNone → SilentSweepsAreByFiles
by_files shown flash image text o driver tear aim s below may sweep =
    let is = opened flash image text o may.given in
    subst (λ (f : List ℕ). IsByFiles o.layout aim image f tear s) is.flash_is
    (subst (λ (i : List ℕ). IsByFiles o.layout aim i o.flash tear s) is.image_is
    (by_files_of shown o driver tear aim below (quiet flash image text o aim may) s sweep))

-- ---- one update

-- then no failure is chosen
no_failure : (cut fail : Option ℕ) (k : ℕ) → NotBoth cut fail → cut ≡ Some k → fail ≡ None
no_failure cut fail k (inl none) is = absurd cc
no_failure cut fail k (inr none) is = none

pub cut_by_files : ShowsNone → CutUpdatesAreByFiles
cut_by_files shown flash image text options o t k is silent end =
    let sound = is.sound in
    let of = opened flash image text o silent.given in
    let may = quiet flash image text o is.aim silent in
    let dev = is.device in
    let chosen : options.cut ≡ Some k = ((cut_reached options o t k is).0 end).0 in
    let back : o.flash ≡ dev.inner.bytes = sym is.fresh.bytes in
    let table : HasTable o.rows o.layout dev.inner.bytes =
    subst (HasTable o.rows o.layout) back may.table in
    let opens : Opens o.layout dev.inner.bytes is.aim o.image =
    aimed_opens dev.inner.bytes o.rows o.layout is.aim o.image table may.bytes
    (subst (λ (f : List ℕ). AimsIn f o.layout (length o.image) is.aim) back may.aims) in
    let few = update_few o.layout dev.inner.bytes is.aim o.image opens table.size in
    trial_cut shown o.rows o.script options.driver
    (let driver = sound.driver in omega (arith, driver)) o.layout is.aim o.image dev table
    (table_lays dev.inner.bytes o.rows o.layout table) opens may.silent k
    (record {
      cut_is = is.fresh.cut ∙ chosen;
      fail_is = is.fresh.fail ∙ no_failure options.cut options.fail k sound.one chosen;
      steps_are = is.fresh.steps;
    })
    (omega (arith, few)) options.upto t
    (subst (λ (f : List ℕ). IsTrial (Writes o options.driver is.aim dev)
    (Confirms o options.driver) o.layout f is.aim o.image options.upto t) back is.trial)
    (same_end t.legs.items ∙ end)
    ∙ ap (λ n. cut_flash o.layout is.aim o.image dev.inner.bytes n k) is.fresh.tear
    ∙ ap (λ (f : List ℕ). cut_flash o.layout is.aim o.image f options.tear k) is.fresh.bytes
    ∙ ap (λ (i : List ℕ). cut_flash o.layout is.aim i o.flash options.tear k) of.image_is
    ∙ ap (λ (f : List ℕ). cut_flash o.layout is.aim image f options.tear k) of.flash_is

-- ---- two sweeps

-- what is aimed at is one slot and one entry, so it has one list of the driver's steps
driver_same : (layout : Places) (a b : Aim) (image : List ℕ) → a.slot ≡ b.slot → a.next ≡ b.next
    → driver_steps layout a image ≡ driver_steps layout b image
unfolding driver_steps
driver_same layout a b image slot next =
    ap (λ n. steps_to layout.otadata (slice_get layout.slots n) (next_rewrite a) image) slot
    ∙ ap (λ (e : NextEntry). steps_to layout.otadata (slice_get layout.slots b.slot)
    (record { sector = e.sector; entry = e.entry }) image) next

-- and one of all steps
steps_same : (layout : Places) (a b : Aim) (image flash : List ℕ) → a.slot ≡ b.slot
    → a.next ≡ b.next → all_steps layout a image flash ≡ all_steps layout b image flash
steps_same layout a b image flash slot next =
    ap (λ (l : List Step). l ++ (boot_steps layout (after_steps flash l)
    ++ rewrite layout.otadata (restated 2 a.next.sector a.next.entry)))
    (driver_same layout a b image slot next)
    ∙ ap (λ (e : NextEntry). driver_steps layout b image
    ++ (boot_steps layout (after_steps flash (driver_steps layout b image))
    ++ rewrite layout.otadata (restated 2 e.sector e.entry))) next

-- two updates of one flash and one image have one layout and one list of steps
module _ (flash image a_text b_text : List ℕ) (a b : Opening) (a_aim b_aim : Aim)
    (one : IsSilent flash image a_text a a_aim) (two : IsSilent flash image b_text b b_aim) where
  layout_by : (text : List ℕ) (o : Opening) (aim : Aim) → IsSilent flash image text o aim
      → layout_in flash ≡ Ok o.layout
  layout_by text o aim may =
      let is = opened flash image text o may.given in
      sym (ap layout_in is.flash_is) ∙ table_lays o.flash o.rows o.layout is.table

  layout_same : a.layout ≡ b.layout
  layout_same =
      let same : Ok a.layout ≡ Ok b.layout =
      sym (layout_by a_text a a_aim one) ∙ layout_by b_text b b_aim two in cc

  -- what the second aims at, by the layout of the first
  aims_back : AimsIn flash a.layout (length image) b_aim
  aims_back = subst (λ (l : Places). AimsIn flash l (length image) b_aim) (sym layout_same) two.aims

  list_same : all_steps a.layout a_aim image flash ≡ all_steps b.layout b_aim image flash
  list_same =
      steps_same a.layout a_aim b_aim image flash
      (slot_same flash a.layout (length image) a_aim b_aim one.aims aims_back)
      (next_same flash a.layout (length image) a_aim b_aim one.aims aims_back)
      ∙ ap (λ (l : Places). all_steps l b_aim image flash) layout_same

  boots_same : (tear k : ℕ) → cut_boots a.layout a_aim image flash tear k
      ≡ cut_boots b.layout b_aim image flash tear k
  boots_same tear k =
      ap (λ (l : Places). boots_in held l (cut_flash a.layout a_aim image flash tear k)) layout_same
      ∙ ap (λ (l : List Step). boots_in held b.layout (cut_in flash l k tear)) list_same

-- answers of what boots are those of what boots the same
boots_by : (a b : ℕ → Option (App × List ℕ)) → ((k : ℕ) → a k ≡ b k) → (k : ℕ)
    → (answers : List Booted) → AreBootsFrom b k answers → AreBootsFrom a k answers
boots_by a b same k [] boots = tt
boots_by a b same k (booted ∷ more) boots = (
  subst (λ found. Starts found booted.app booted.info) (sym (same k)) boots.0,
  boots_by a b same (suc k) more boots.1,
)

pub are_one : ShowsNone → SilentSweepsAreOne
are_one shown flash image a_text b_text a b a_driver b_driver tear a_aim b_aim s t a_below b_below
    one two s_is t_is =
    let first = by_files shown flash image a_text a a_driver tear a_aim s a_below one s_is in
    let second = by_files shown flash image b_text b b_driver tear b_aim t b_below two t_is in
    let steps : s.steps ≡ t.steps =
    first.steps
    ∙ ap (λ (l : List Step). length l)
    (list_same flash image a_text b_text a b a_aim b_aim one two)
    ∙ sym second.steps in
    record {
      boots = cut_boots a.layout a_aim image flash tear;
      steps = steps;
      places = first.places ∙ steps ∙ sym second.places;
      first = first.boots;
      second = boots_by (cut_boots a.layout a_aim image flash tear)
          (cut_boots b.layout b_aim image flash tear)
          (boots_same flash image a_text b_text a b a_aim b_aim one two tear) 1 t.after.items
          second.boots;
    }
