-- An update whose power is cut at each of its steps in turn.
use Rattle.std.specs.Prelude.{◌≡◌, ℕ, suc, ◌+◌, Bool, false, List, [], ◌∷◌, length, slice_get, Option, Some, None, if◌then◌else◌}
use Rattle.std.specs.Borrow.{Bor}
use Rattle.nor_device.specs.Ram.{Ram}
use Rattle.crash_images.specs.Agrees.{Agrees, IsBeside}
use Rattle.crash_images.specs.declared.cut.Health.TheVariants.{Sound}
use Rattle.crash_images.specs.Cut.{CutDevice, IsAhead, cut_device}
use Rattle.partition_table.specs.declared.row.Row.{Row}
use Rattle.partition_table.specs.Layout.{Places}
use Rattle.boot_select.specs.Boots.{entries_in, images_in}
use Rattle.rollback.specs.declared.rewrite.Rewrite.{Rewrite}
use Rattle.image_verify.specs.Held.{held}
use Rattle.boot_run.specs.declared.aims.Aim.{Aim}
use Rattle.boot_run.specs.declared.booted.Booted.{Booted}
use Rattle.boot_run.specs.Booted.{IsBoot}
use Rattle.update_steps.specs.Driver.{whole_sectors}
use Rattle.power_cut.specs.declared.legs.Leg.{Leg}
use Rattle.power_cut.specs.declared.legs.LegEnd.{LegEnd}
use Rattle.power_cut.specs.declared.legs.Ran.{Ran}
use Rattle.power_cut.specs.declared.legs.Upto.TheVariants.{Confirm}
use Rattle.power_cut.specs.declared.outcome.Trial.{Trial}
use Rattle.power_cut.specs.declared.swept.Sweep.{Sweep}
use Rattle.power_cut.specs.declared.swept.SweepNo.{SweepNo}
use Rattle.power_cut.specs.declared.swept.SweepNo.TheVariants.{Refused, Memory}
use Rattle.power_cut.specs.Update.{BootsEither, session_end, slot_size}
use Rattle.power_cut.specs.Kept.{KeepsConfirm, KeepsSession, MayConfirm}
use Rattle.power_cut.specs.Whole.{AreDone, BootsNew, EndsAsChosen, IsTrial, is_done, total_steps}

-- a device over these bytes on which no step was made: each step ends at its first poll, and the
-- power goes off in the step of this number, where one is given, by this tear number
pub record IsFresh (flash : List ℕ) (cut : Option ℕ) (tear : ℕ) (dev : CutDevice Ram) : Type 0 where
  pub bytes : dev.inner.bytes ≡ flash
  pub polls : dev.inner.polls ≡ 0
  pub idle : dev.inner.running ≡ None
  pub none_made : dev.inner.steps ≡ 0
  pub ahead : IsAhead cut 0
  pub same : dev ≡ cut_device dev.inner cut tear None 0 0 Sound

-- where a slot begins, 0 where there is none
abbrev pub offset_or_none : Option Row → ℕ
offset_or_none None = 0
offset_or_none (Some row) = row.offset

abbrev pub slot_offset : Places → ℕ → ℕ
slot_offset layout slot = offset_or_none (slice_get layout.slots slot)

-- no step of an update changes this address: it lies beside the sectors of the slot that the image
-- needs and beside the OTA data, and the other core may not write to it
pub record IsUntouched (layout : Places) (aim : Aim) (others : ℕ → Bool) (at : ℕ) : Type 0 where
  pub slot : IsBeside (slot_offset layout aim.slot)
      (slot_offset layout aim.slot + whole_sectors aim.length) at
  pub otadata : IsBeside layout.otadata (layout.otadata + 0x2000) at
  pub spared : others at ≡ false

-- the end of the session, where it was not made whole
abbrev pub refusal_in : List Leg → Option LegEnd
refusal_in [] = None
refusal_in (leg ∷ legs) = if is_done leg.end then None else Some leg.end

-- `begins` tells on which devices the runner may be asked for a session, `writes` which it answers,
-- `may` which confirmations it may be asked for, and `confirms` which it answers
module _ (begins : CutDevice Ram → Type 0) (writes : CutDevice Ram → Ran → Type 0)
    (may : CutDevice Ram → Bor Booted → Bor Rewrite → Type 0)
    (confirms : CutDevice Ram → Bor Booted → Bor Rewrite → Ran → Type 0) where
  -- it may be asked for an update of each fresh device over this flash, keeps what one needs, and
  -- changes no byte that no step changes; `others` tells where the other core may write
  pub record MaySweep (layout : Places) (flash : List ℕ) (tear : ℕ) (aim : Aim) (image : List ℕ)
      (others : ℕ → Bool) : Type 0 where
    pub may_write : (cut : Option ℕ) (dev : CutDevice Ram) → IsFresh flash cut tear dev
        → begins dev
    pub written : (cut : Option ℕ) (dev : CutDevice Ram) (ran : Ran) → IsFresh flash cut tear dev
        → writes dev ran → KeepsSession layout aim image dev ran
    pub written_beside : (cut : Option ℕ) (dev : CutDevice Ram) (ran : Ran)
        → IsFresh flash cut tear dev → writes dev ran
        → Agrees (IsUntouched layout aim others) dev.inner.bytes ran.dev.inner.bytes
    pub may_confirm : (dev : CutDevice Ram) (at : Bor Booted) (write : Bor Rewrite)
        → MayConfirm layout flash dev at.now write.now → may dev at write
    pub confirmed : (dev : CutDevice Ram) (at : Bor Booted) (write : Bor Rewrite) (ran : Ran)
        → MayConfirm layout flash dev at.now write.now → confirms dev at write ran
        → KeepsConfirm layout write.now dev ran
    pub confirmed_beside : (dev : CutDevice Ram) (at : Bor Booted) (write : Bor Rewrite)
        (ran : Ran) → MayConfirm layout flash dev at.now write.now → confirms dev at write ran
        → Agrees (IsUntouched layout aim others) dev.inner.bytes ran.dev.inner.bytes

module _ (writes : CutDevice Ram → Ran → Type 0)
    (confirms : CutDevice Ram → Bor Booted → Bor Rewrite → Ran → Type 0) (layout : Places)
    (flash : List ℕ) (tear : ℕ) (aim : Aim) (image : List ℕ) where
  -- an update of a fresh device, up to the confirmation: it ends with a cut exactly where the chosen
  -- step was begun
  pub record IsUpdateOf (cut : Option ℕ) (t : Trial) : Type 0 where
    pub dev : CutDevice Ram
    pub fresh : IsFresh flash cut tear dev
    pub trial : IsTrial (writes dev) confirms layout flash aim image Confirm t
    pub end : EndsAsChosen dev t.legs.items

  -- so boots what an update has left whose power is cut in step k: the application that ran or the
  -- new one, but for a chance match
  pub record IsCutAt (k : ℕ) (booted : Booted) : Type 0 where
    pub t : Trial
    pub update : IsUpdateOf (Some k) t
    pub after : booted ≡ t.after
    pub boots : BootsEither layout flash aim image t.flash.items
    pub shows : IsBoot layout (images_in held layout t.flash.items)
        (entries_in layout t.flash.items) (Some booted)

  -- for the step k and those behind it, in order
  abbrev pub AreCutFrom : ℕ → List Booted → Type 0
  AreCutFrom k [] = Unit {0}
  AreCutFrom k (booted ∷ more) = IsCutAt k booted × AreCutFrom (suc k) more

  -- the steps of an update that was made whole, and what boots behind a cut in each of them
  pub record IsSweep (s : Sweep) : Type 0 where
    pub whole : Trial
    pub update : IsUpdateOf None whole
    pub done : AreDone whole.legs.items
    pub installed : BootsNew layout aim image whole.flash.items
    pub steps : s.steps ≡ total_steps whole.legs.items
    pub places : length s.after.items ≡ s.steps
    pub cuts : AreCutFrom 1 s.after.items

  -- the session of an update that is not cut ends so, by what its bytes show, and is the only leg
  pub record IsRefused (end : LegEnd) : Type 0 where
    pub t : Trial
    pub update : IsUpdateOf None t
    pub leg : Leg
    pub only : t.legs.items ≡ leg ∷ []
    pub end_is : leg.end ≡ end
    pub session : session_end (slot_size layout aim.slot) image ≡ end
    pub not_done : is_done end ≡ false

  abbrev pub IsRefusedBy : SweepNo → Type 0
  IsRefusedBy (Refused end) = IsRefused end
  IsRefusedBy Memory = Unit {0}
