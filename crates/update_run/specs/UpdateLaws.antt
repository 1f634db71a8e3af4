-- What follows from an update's trial, over every update: in which step it ends, and how else; and
-- that the files and the words give one flash.
use Rattle.std.specs.Prelude.{◌≡◌, ◌↔◌, ◌≤◌, ℕ, length, Some}
use Rattle.crash_images.specs.Cut.{IsAhead}
use Rattle.boot_run.specs.declared.aims.Aim.{Aim}
use Rattle.power_cut.specs.declared.outcome.Trial.{Trial}
use Rattle.power_cut.specs.Update.{session_end, slot_size}
use Rattle.power_cut.specs.declared.legs.LegEnd.TheVariants.{Cut, Device, Done}
use Rattle.update_run.specs.declared.options.Options.{Options}
use Rattle.update_run.specs.Opening.{AimsIn, Opening}
use Rattle.update_run.specs.Updating.{IsUpdate, count_of, last_end}

-- an update is a loss of power in a step exactly where that was chosen for one, and it has so many
abbrev pub CutIsReached : Type 0
CutIsReached = (options : Options) (o : Opening) (t : Trial) (k : ℕ)
    → (is : IsUpdate options o t) → (last_end t.legs.items ≡ Cut k)
    ↔ ((options.cut ≡ Some k) × (k ≤ count_of options o is.aim))

-- it is a failure of the device in a step exactly where that was chosen for one, and it has so many
abbrev pub FailureIsReached : Type 0
FailureIsReached = (options : Options) (o : Opening) (t : Trial) (k : ℕ)
    → (is : IsUpdate options o t) → (last_end t.legs.items ≡ Device k)
    ↔ ((options.fail ≡ Some k) × (k ≤ count_of options o is.aim))

-- where it has fewer than either, it ends by what the bytes of the image show
abbrev pub ElseByImage : Type 0
ElseByImage = (options : Options) (o : Opening) (t : Trial) (is : IsUpdate options o t)
    → IsAhead options.cut (count_of options o is.aim)
    → IsAhead options.fail (count_of options o is.aim)
    → last_end t.legs.items ≡ session_end (slot_size o.layout is.aim.slot) o.image

-- what an update of one opening aims at is one and the same
abbrev pub AimsAreOne : Type 0
AimsAreOne = (o : Opening) (a b : Aim) → AimsIn o.flash o.layout (length o.image) a
    → AimsIn o.flash o.layout (length o.image) b → a ≡ b

-- so two updates of one opening that go as far and are done leave one and the same flash, whichever
-- cores drive and however the cores took their turns
abbrev pub DoneUpdatesLeaveOneFlash : Type 0
DoneUpdatesLeaveOneFlash = (o : Opening) (a b : Options) (s t : Trial) → a.upto ≡ b.upto
    → IsUpdate a o s → IsUpdate b o t → last_end s.legs.items ≡ Done
    → last_end t.legs.items ≡ Done → s.flash.items ≡ t.flash.items
