-- An update changes no byte beside its slot, the OTA data and what the other core may write to.
use Rattle.std.proofs.Common.{◌≡◌, inl, inr, Bool, true, false, ℕ, ◌+◌, ◌==◌, ◌%◌, ◌<◌, ◌≤◌, List, [], ◌∷◌, ◌++◌, length, slice_get, Option, Some, None, Result, sym, ap, ◌∙◌, subst, arith}
use Rattle.std.specs.Prelude.{if◌then◌else◌}
use Rattle.nor_device.specs.declared.step.Step.{Step}
use Rattle.nor_device.specs.declared.nor.NorFault.{NorFault}
use Rattle.nor_device.specs.Flash.{after_steps}
use Rattle.nor_device.specs.Ram.{Ram}
use Rattle.crash_images.specs.Agrees.{Agrees, IsBeside, StepsWithin}
use Rattle.crash_images.specs.Crash.{LeftAfter}
use Rattle.crash_images.specs.Cut.{CutDevice}
use Rattle.crash_images.proofs.AgreesLaws.{agrees_fewer, agrees_self, agrees_twice, left_agrees}
use Rattle.crash_images.proofs.LeftLaws.{left_append, left_end, left_none}
use Rattle.partition_table.specs.declared.app.App.TheVariants.{Ota}
use Rattle.partition_table.specs.declared.row.Row.{Row}
use Rattle.partition_table.specs.Layout.{IsPlaced, Places}
use Rattle.boot_select.specs.Boots.{entries_in}
use Rattle.rollback.specs.declared.rewrite.Rewrite.{Rewrite}
use Rattle.rollback.specs.Boot.{boot_writes}
use Rattle.image_verify.specs.declared.bad.BadImage.{BadImage}
use Rattle.image_verify.specs.Bad.{bad}
use Rattle.mmu_map.specs.Map.{Map}
use Rattle.bus_hub.specs.declared.did.Did.{Did}
use Rattle.boot_run.specs.declared.aims.Aim.{Aim}
use Rattle.boot_run.specs.Rewriting.{rewrite}
use Rattle.boot_run.proofs.CrashLemmas.{label_short}
use Rattle.boot_run.proofs.FrameLemmas.{rewrites_within}
use Rattle.boot_run.proofs.MadeLemmas.{made_by_left}
use Rattle.boot_run.proofs.WritesLemmas.{boot_are, boot_short}
use Rattle.update_steps.specs.Beside.{IsSpared, StandsBeside}
use Rattle.update_steps.specs.Driver.{data_steps, image_steps, next_rewrite, sealed_steps, slot_erases, whole_sectors}
use Rattle.update_steps.proofs.BesideLemmas.{alone, alone_agrees, alone_left}
use Rattle.update_steps.proofs.DataLemmas.{aligned_row, data_within, erases_within}
use Rattle.update_steps.proofs.SessionLemmas.{driver_is}
use Rattle.power_cut.specs.declared.legs.Leg.{Leg}
use Rattle.power_cut.specs.declared.legs.Ran.{Ran}
use Rattle.power_cut.specs.Device.{MayEnd, MayRefuse, MayTear, MustRefuse, setting_of}
use Rattle.power_cut.specs.Kept.{IsConfirming, IsConfirmLeg, IsSessionLeg}
use Rattle.power_cut.specs.Sweep.{IsUntouched, offset_or_none}
use Rattle.power_cut.specs.Update.{HoldsRewrite, HoldsUpdate, Opens}
use Rattle.power_cut.specs.Whole.{IsBootLeg}
use Rattle.boot_run.specs.BootSteps.{boot_steps}
use Rattle.power_cut.proofs.BehindLemmas.{two}
use Rattle.power_cut.proofs.LegLemmas.{holds_behind}

-- what agrees with the flash without the other core agrees with the one beside it, where that may
-- not write
agrees_beside : (first : List ℕ) (made rest : List Step) (others : ℕ → Bool) (now : List ℕ)
    (stands : StandsBeside first made rest others now) (Stays : ℕ → Type 0)
    → ((i : ℕ) → Stays i → others i ≡ false)
    → Agrees Stays first (alone first made rest others now stands) → Agrees Stays first now
agrees_beside first made rest others now stands Stays spared agrees =
    agrees_twice Stays first (alone first made rest others now stands) now agrees
    (agrees_fewer (IsSpared others) Stays (alone first made rest others now stands) now spared
    (alone_agrees first made rest others now stands))

-- ---- the steps of an update

-- an address beside the sectors of the slot that the image needs, and beside the OTA data
record IsBesideBoth (at len otadata i : ℕ) : Type 0 where
  slot : IsBeside at (at + len) i
  entries : IsBeside otadata (otadata + 8192) i

module _ (flash : List ℕ) (at otadata : ℕ) (image : List ℕ) where
  abbrev len : ℕ
  len = whole_sectors (length image)

  abbrev Both : ℕ → Type 0
  Both = IsBesideBoth at len otadata

  -- what is left of steps in the slot
  slot_left : (steps : List Step) (left : List ℕ) → StepsWithin at (at + len) steps
      → LeftAfter flash steps left → Agrees Both flash left
  slot_left steps left within after =
      agrees_fewer (IsBeside at (at + len)) Both flash left (λ i is. is.slot)
      (left_agrees at (at + len) flash steps left within after)

  -- and of steps in the OTA data behind them
  both_left : (front back : List Step) (left : List ℕ) → StepsWithin at (at + len) front
      → StepsWithin otadata (otadata + 8192) back → LeftAfter flash (front ++ back) left
      → Agrees Both flash left
  both_left front back left one two after = elim (left_append flash front back left after) [
    | inl here ↦ slot_left front left one here
    | inr later ↦ agrees_twice Both flash (after_steps flash front) left
        (slot_left front (after_steps flash front) one (left_end flash front))
        (agrees_fewer (IsBeside otadata (otadata + 8192)) Both (after_steps flash front) left
        (λ i is. is.entries)
        (left_agrees otadata (otadata + 8192) (after_steps flash front) back left two later))
  ]

-- so of what is left of an update
image_left : (flash left : List ℕ) (otadata : ℕ) (row : Row) (next : Rewrite) (image : List ℕ)
    → row.offset % 4096 ≡ 0 → otadata % 4096 ≡ 0 → next.sector < 2
    → length next.entry.label ≤ 20 → LeftAfter flash (image_steps otadata row next image) left
    → Agrees (IsBesideBoth row.offset (whole_sectors (length image)) otadata) flash left
image_left flash left otadata row next [] begins aligned small short after =
    subst (Agrees (IsBesideBoth row.offset (whole_sectors 0) otadata) flash)
    (sym (left_none flash left after))
    (agrees_self (IsBesideBoth row.offset (whole_sectors 0) otadata) flash)
image_left flash left otadata row next (byte ∷ bytes) begins aligned small short after =
    by (byte == 0xE9) (bad row.size (byte ∷ bytes)) after
  where
    image : List ℕ
    image = byte ∷ bytes

    sectors : Row
    sectors = record {
      kind = row.kind;
      subtype = row.subtype;
      offset = row.offset;
      size = whole_sectors (length (byte ∷ bytes));
      label = row.label;
      flags = row.flags;
    }

    loads : StepsWithin row.offset (row.offset + whole_sectors (length (byte ∷ bytes)))
        (data_steps row.offset (byte ∷ bytes))
    loads = data_within sectors (byte ∷ bytes) begins (omega arith) (omega arith)

    erases : StepsWithin row.offset (row.offset + whole_sectors (length (byte ∷ bytes)))
        (slot_erases row.offset (byte ∷ bytes))
    erases = erases_within sectors (byte ∷ bytes) begins (omega arith) (omega arith)

    entry : StepsWithin otadata (otadata + 8192) (rewrite otadata next)
    entry = rewrites_within otadata (next ∷ []) aligned ((small, short), tt)

    by : (marked : Bool) (found : Option BadImage)
        → LeftAfter flash (if marked
        then sealed_steps found (data_steps row.offset (byte ∷ bytes)) (rewrite otadata next)
        else slot_erases row.offset (byte ∷ bytes)) left
        → Agrees (IsBesideBoth row.offset (whole_sectors (length (byte ∷ bytes))) otadata) flash
        left
    by false found after = slot_left flash row.offset otadata (byte ∷ bytes)
        (slot_erases row.offset (byte ∷ bytes)) left erases after
    by true (Some why) after = slot_left flash row.offset otadata (byte ∷ bytes)
        (data_steps row.offset (byte ∷ bytes)) left loads after
    by true None after = both_left flash row.offset otadata (byte ∷ bytes)
        (data_steps row.offset (byte ∷ bytes)) (rewrite otadata next) left loads entry after

-- ---- the legs

-- the flash that a boot leaves is one that a loss of power may leave of its steps
pub boot_left : (layout : Places) (old new : CutDevice Ram) (leg : Leg)
    → IsBootLeg layout old new leg
    → LeftAfter old.inner.bytes (boot_steps layout old.inner.bytes) new.inner.bytes
boot_left layout old new leg boot =
    let flash = old.inner.bytes in
    let left = made_by_left MayEnd MayTear MayRefuse MustRefuse (setting_of old)
    (boot_steps layout flash) old.steps new.steps (Some flash) (Some new.inner.bytes) boot.answer
    boot.made in
    let same : left.0 ≡ new.inner.bytes = let e = left.1 in cc in
    subst (λ (f : List ℕ). LeftAfter flash (boot_steps layout flash) f) same left.2

module _ (layout : Places) (aim : Aim) (others : ℕ → Bool) where
  abbrev Stays : ℕ → Type 0
  Stays = IsUntouched layout aim others

  -- at every moment of a session
  pub update_beside : (flash : List ℕ) (image : List ℕ) (now : List ℕ) → Opens layout flash aim image
      → HoldsUpdate layout flash aim image others now → Agrees Stays flash now
  update_beside flash image now opens holds =
      agrees_beside flash holds.made holds.rest others now holds.stands Stays (λ i is. is.spared)
      (agrees_fewer (IsBesideBoth row.offset (whole_sectors (length image)) layout.otadata) Stays
      flash left both
      (image_left flash left layout.otadata row (next_rewrite aim) image
      (aligned_row (length flash) row (opens.placed.stands (Ota aim.slot) row is)).0
      opens.placed.aligned (two layout flash aim image opens)
      (omega (arith, opens.stored.sized.label))
      (subst (λ (steps : List Step). LeftAfter flash steps left)
      (sym holds.split ∙ driver_is layout aim image row is)
      (alone_left flash holds.made holds.rest others now holds.stands))))
    where
      row : Row
      row = opens.begins.row

      is : slice_get layout.slots aim.slot ≡ Some row
      is = opens.begins.row_is

      left : List ℕ
      left = alone flash holds.made holds.rest others now holds.stands

      both : (i : ℕ) → Stays i
          → IsBesideBoth row.offset (whole_sectors (length image)) layout.otadata i
      both i stays = record {
        slot = subst (λ n. IsBeside row.offset (row.offset + whole_sectors n) i)
            (sym opens.length_is)
            (subst (λ n. IsBeside n (n + whole_sectors aim.length) i) (ap offset_or_none is)
            stays.slot);
        entries = stays.otadata;
      }

  -- steps in the OTA data
  data_beside : (flash left : List ℕ) (steps : List Step)
      → StepsWithin layout.otadata (layout.otadata + 8192) steps → LeftAfter flash steps left
      → Agrees Stays flash left
  data_beside flash left steps within after =
      agrees_fewer (IsBeside layout.otadata (layout.otadata + 8192)) Stays flash left
      (λ i is. is.otadata)
      (left_agrees layout.otadata (layout.otadata + 8192) flash steps left within after)

  -- at every moment of a boot
  pub booting_beside : (size : ℕ) (flash left : List ℕ) → IsPlaced layout size
      → LeftAfter flash (boot_steps layout flash) left → Agrees Stays flash left
  booting_beside size flash left placed after =
      data_beside flash left (boot_steps layout flash)
      (rewrites_within layout.otadata (boot_writes (entries_in layout flash)) placed.aligned
      (boot_short (entries_in layout flash) (λ y below. label_short layout flash y)
      (boot_writes (entries_in layout flash)) (boot_are (entries_in layout flash)))) after

  -- and behind it
  pub boot_beside : (size : ℕ) (old new : CutDevice Ram) (leg : Leg) → IsPlaced layout size
      → IsBootLeg layout old new leg → Agrees Stays old.inner.bytes new.inner.bytes
  boot_beside size old new leg placed boot =
      booting_beside size old.inner.bytes new.inner.bytes placed (boot_left layout old new leg boot)

  -- at every moment of a confirmation
  pub rewrite_beside : (size : ℕ) (flash now : List ℕ) (write : Rewrite) → IsPlaced layout size
      → IsConfirming layout flash write → HoldsRewrite layout flash write others now
      → Agrees Stays flash now
  rewrite_beside size flash now write placed confirming holds =
      agrees_beside flash holds.made holds.rest others now holds.stands Stays (λ i is. is.spared)
      (data_beside flash (alone flash holds.made holds.rest others now holds.stands)
      (rewrite layout.otadata write)
      (rewrites_within layout.otadata (write ∷ []) placed.aligned ((confirming.two, short), tt))
      (subst (λ (steps : List Step). LeftAfter flash steps
      (alone flash holds.made holds.rest others now holds.stands))
      (sym holds.split) (alone_left flash holds.made holds.rest others now holds.stands)))
    where
      short : length write.entry.label ≤ 20
      short = subst (λ (w : Rewrite). length w.entry.label ≤ 20) (sym confirming.write_is)
          (label_short layout flash write.sector)

  module _ (drives works : Result (Unit {0}) NorFault → List Did → Type 0) (driver : ℕ)
      (pages : Map → Type 0) where
    -- a session of both cores changes nothing there
    pub session_beside : (image : List ℕ) (old : CutDevice Ram) (ran : Ran)
        → Opens layout old.inner.bytes aim image
        → IsSessionLeg drives works driver pages layout others aim image old ran
        → Agrees Stays old.inner.bytes ran.dev.inner.bytes
    session_beside image old ran opens is =
        update_beside old.inner.bytes image ran.dev.inner.bytes opens
        (holds_behind drives works driver pages
        (HoldsUpdate layout old.inner.bytes aim image others) old ran.dev ran.journal is.leg)

    -- and neither does a confirmation
    pub confirm_beside : (size : ℕ) (write : Rewrite) (old : CutDevice Ram) (ran : Ran)
        → IsPlaced layout size → IsConfirming layout old.inner.bytes write
        → IsConfirmLeg drives works driver pages layout others write old ran
        → Agrees Stays old.inner.bytes ran.dev.inner.bytes
    confirm_beside size write old ran placed confirming is =
        rewrite_beside size old.inner.bytes ran.dev.inner.bytes write placed confirming
        (holds_behind drives works driver pages
        (HoldsRewrite layout old.inner.bytes write others) old ran.dev ran.journal is.leg)
