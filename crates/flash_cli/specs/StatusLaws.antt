-- What follows for the status of an update and for the text of a sweep, over every update and sweep.
use Rattle.std.specs.Prelude.{◌≡◌, ◌↔◌, ◌≤◌, ◌<◌, ℕ, List, Some}
use Rattle.crash_images.specs.Cut.{IsAhead}
use Rattle.boot_run.specs.declared.aims.Aim.{Aim}
use Rattle.power_cut.specs.declared.outcome.Trial.{Trial}
use Rattle.power_cut.specs.declared.swept.Sweep.{Sweep}
use Rattle.power_cut.specs.CutFlash.{cut_flash}
use Rattle.power_cut.specs.Update.{session_end, slot_size}
use Rattle.flash_text.specs.SweepText.{sweep_text}
use Rattle.update_run.specs.declared.options.Options.{Options}
use Rattle.update_run.specs.Opening.{Opening}
use Rattle.update_run.specs.Updating.{IsUpdate, count_of, last_end}
use Rattle.update_run.specs.CutLaws.{IsSilent, SweepOf}
use Rattle.flash_cli.specs.declared.status.Status.TheVariants.{DeviceFault, Done, PowerCut}
use Rattle.flash_cli.specs.Updating.{status_by}

-- an update is a loss of power in a step exactly where that was chosen for one, and it has so many
abbrev pub PowerCutIsReached : Type 0
PowerCutIsReached = (options : Options) (o : Opening) (t : Trial) (k : ℕ)
    → (is : IsUpdate options o t) → (status_by (last_end t.legs.items) ≡ PowerCut k)
    ↔ ((options.cut ≡ Some k) × (k ≤ count_of options o is.aim))

-- it is a failure of the device in a step exactly where that was chosen for one, and it has so many
abbrev pub DeviceFaultIsReached : Type 0
DeviceFaultIsReached = (options : Options) (o : Opening) (t : Trial) (k : ℕ)
    → (is : IsUpdate options o t) → (status_by (last_end t.legs.items) ≡ DeviceFault k)
    ↔ ((options.fail ≡ Some k) × (k ≤ count_of options o is.aim))

-- where it has fewer than either, its status is by what the bytes of the image show
abbrev pub ElseStatusIsByImage : Type 0
ElseStatusIsByImage = (options : Options) (o : Opening) (t : Trial) (is : IsUpdate options o t)
    → IsAhead options.cut (count_of options o is.aim)
    → IsAhead options.fail (count_of options o is.aim)
    → status_by (last_end t.legs.items)
    ≡ status_by (session_end (slot_size o.layout is.aim.slot) o.image)

-- two updates of one opening that go as far and are done leave one and the same flash, whichever cores
-- drive and however the cores took their turns
abbrev pub DoneLeavesOneFlash : Type 0
DoneLeavesOneFlash = (o : Opening) (a b : Options) (s t : Trial) → a.upto ≡ b.upto
    → IsUpdate a o s → IsUpdate b o t → status_by (last_end s.legs.items) ≡ Done
    → status_by (last_end t.legs.items) ≡ Done → s.flash.items ≡ t.flash.items

-- where the script makes no step, an update that lost its power in step k leaves the flash of its list
-- whose k-th step is torn
abbrev pub PowerCutLeavesCutFlash : Type 0
PowerCutLeavesCutFlash = (flash image text : List ℕ) (options : Options) (o : Opening) (t : Trial)
    (k : ℕ) → (is : IsUpdate options o t)
    → IsSilent flash image text o is.aim → status_by (last_end t.legs.items) ≡ PowerCut k
    → t.flash.items ≡ cut_flash o.layout is.aim image flash options.tear k

-- and two sweeps of one flash and one image by one tear number have one text, whatever stands in
-- their scripts and whichever core drives
abbrev pub SilentSweepsHaveOneText : Type 0
SilentSweepsHaveOneText = (flash image a_text b_text : List ℕ) (a b : Opening)
    (a_driver b_driver tear : ℕ) (a_aim b_aim : Aim) (s t : Sweep) → a_driver < 2 → b_driver < 2
    → IsSilent flash image a_text a a_aim → IsSilent flash image b_text b b_aim
    → SweepOf a a_driver tear a_aim s → SweepOf b b_driver tear b_aim t
    → sweep_text s ≡ sweep_text t
