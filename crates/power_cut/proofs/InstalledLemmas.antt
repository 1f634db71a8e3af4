-- Where nothing broke off, the flash of an update is the one that its lists of steps leave, one
-- after the other.
use Rattle.std.proofs.Common.{◌≡◌, Bool, true, false, ℕ, ◌+◌, ◌*◌, ◌-◌, ◌%◌, ◌<◌, ◌≤◌, List, [], ◌∷◌, ◌++◌, length, Option, Some, None, Result, Ok, Err, refl, sym, ap, ◌∙◌, subst, arith}
use Rattle.std.specs.Prelude.{◌&&◌}
use Rattle.std.specs.Borrow.{Bor}
use Rattle.nor_device.specs.declared.step.Step.{Step}
use Rattle.nor_device.specs.declared.nor.NorFault.{NorFault}
use Rattle.nor_device.specs.declared.nor.NorFault.TheVariants.{Failed, Off}
use Rattle.nor_device.specs.Flash.{after_steps}
use Rattle.nor_device.specs.Ram.{Ram}
use Rattle.crash_images.specs.Agrees.{Covers, StepsWithin}
use Rattle.crash_images.specs.Cut.{CutDevice, restarted}
use Rattle.mmu_map.specs.Map.{Map}
use Rattle.bus_hub.specs.declared.did.Did.{Did}
use Rattle.bus_hub.specs.Shares.{made}
use Rattle.partition_table.specs.declared.app.App.TheVariants.{Ota}
use Rattle.partition_table.specs.Layout.{Places}
use Rattle.boot_select.specs.Boots.{entries_in}
use Rattle.rollback.specs.declared.rewrite.Rewrite.{Rewrite}
use Rattle.rollback.specs.Rewrite.{restated}
use Rattle.image_layout.specs.Whole.{Whole}
use Rattle.otadata.specs.declared.entry.Entry.{Entry}
use Rattle.boot_run.specs.declared.aims.Aim.{Aim}
use Rattle.boot_run.specs.declared.booted.Booted.{Booted}
use Rattle.boot_run.specs.Made.{AreMadeBy}
use Rattle.boot_run.specs.Rewriting.{rewrite, rewrites}
use Rattle.boot_run.proofs.FrameLemmas.{rewrite_within}
use Rattle.update_steps.specs.Beside.{IsApart, IsSpared}
use Rattle.update_steps.specs.Driver.{data_steps, driver_steps, next_rewrite}
use Rattle.update_steps.proofs.DataLemmas.{aligned_row, data_within}
use Rattle.update_steps.proofs.SessionLemmas.{ShowsNone, driver_is, image_whole}
use Rattle.power_cut.specs.declared.legs.Leg.{Leg}
use Rattle.power_cut.specs.declared.legs.LegEnd.TheVariants.{Done}
use Rattle.power_cut.specs.declared.legs.Ran.{Ran}
use Rattle.power_cut.specs.declared.legs.Upto.{Upto}
use Rattle.power_cut.specs.declared.legs.Upto.TheVariants.{Session, Boot, Confirm}
use Rattle.power_cut.specs.declared.outcome.Trial.{Trial}
use Rattle.power_cut.specs.Behind.{IsAnnounced}
use Rattle.power_cut.specs.Device.{HasEnd, IsWholeEnd, MayEnd, MayRefuse, MayTear, MustRefuse, setting_of}
use Rattle.power_cut.specs.Installed.{AllLieIn, booted_flash, confirmed_flash, installed_flash, written_flash}
use Rattle.power_cut.specs.Kept.{IsConfirmLeg, IsSessionLeg, MayConfirm}
use Rattle.power_cut.specs.Leg.{share_of}
use Rattle.power_cut.specs.Update.{Opens, session_end, slot_size}
use Rattle.power_cut.specs.Whole.{AreDone, BehindBoot, BehindSession, EndsBooted, EndsWith, IsBootLeg, IsTrial, end_by, is_done, wants_boot}
use Rattle.boot_run.specs.BootSteps.{boot_steps}
use Rattle.power_cut.proofs.BehindLemmas.{announced_active, announced_writes, booted_waits, session_announced, size_is, two, waiting}
use Rattle.power_cut.proofs.MergeLemmas.{leg_installs}
use Rattle.power_cut.proofs.WholeLemmas.{sealed_whole}

-- ---- where the steps lie

within_lies : (others : ℕ → Bool) (start len : ℕ) (steps : List Step)
    → Covers (IsSpared others) start len → StepsWithin start (start + len) steps
    → AllLieIn others false steps
within_lies others start len [] covers within = tt
within_lies others start len (step ∷ steps) covers within = (
  (λ i from to. covers i (let a = within.0.from in omega arith)
      (let b = within.0.to in omega arith)),
  within_lies others start len steps covers within.1,
)

append_lies : (others : ℕ → Bool) (may : Bool) (front back : List Step)
    → AllLieIn others may front → AllLieIn others may back → AllLieIn others may (front ++ back)
append_lies others may [] back one two = two
append_lies others may (step ∷ front) back one two =
    (one.0, append_lies others may front back one.1 two)

module _ (layout : Places) (others : ℕ → Bool) (apart : IsApart layout others) where
  -- a rewrite lies in the OTA data
  rewrite_lies : (write : Rewrite) → layout.otadata % 4096 ≡ 0 → write.sector < 2
      → length write.entry.label ≤ 20 → AllLieIn others false (rewrite layout.otadata write)
  rewrite_lies write aligned below short =
      within_lies others (layout.otadata + 4096 * write.sector) 4096 (rewrite layout.otadata write)
      (λ i from to. apart.otadata i (omega arith) (omega arith))
      (rewrite_within layout.otadata write aligned short)

-- ---- the legs

module _ (shown : ShowsNone) (layout : Places) (aim : Aim) (image : List ℕ) (old : CutDevice Ram)
    (opens : Opens layout old.inner.bytes aim image) (others : ℕ → Bool)
    (apart : IsApart layout others) (work : List Step) (theirs : AllLieIn others true work)
    (driver : ℕ) (below : driver < 2) where
  abbrev first : List ℕ
  first = old.inner.bytes

  label : length aim.next.entry.label ≤ 20
  label = omega (arith, opens.stored.sized.label)

  -- those of an update lie in its slot and in the OTA data
  driver_lies : Whole image (slot_size layout aim.slot)
      → AllLieIn others false (driver_steps layout aim image)
  driver_lies sound =
      let row = opens.begins.row in
      let whole : Whole image row.size =
      subst (Whole image) (size_is layout first aim image opens) sound in
      let split : driver_steps layout aim image
      ≡ data_steps row.offset image ++ rewrite layout.otadata (next_rewrite aim) =
      driver_is layout aim image row opens.begins.row_is
      ∙ image_whole shown layout.otadata row (next_rewrite aim) image whole in
      let sectors = aligned_row (length first) row
      (opens.placed.stands (Ota aim.slot) row opens.begins.row_is) in
      subst (AllLieIn others false) (sym split)
      (append_lies others false (data_steps row.offset image)
      (rewrite layout.otadata (next_rewrite aim))
      (within_lies others row.offset row.size (data_steps row.offset image)
      (apart.apps (Ota aim.slot) row opens.begins.row_is)
      (data_within row image sectors.0 sectors.1
      (let less = opens.begins.fits in let same = opens.length_is in omega arith)))
      (rewrite_lies layout others apart (next_rewrite aim) opens.placed.aligned
      (two layout first aim image opens) label))

  -- a session that is made whole
  module _ (drives works : Result (Unit {0}) NorFault → List Did → Type 0) (pages : Map → Type 0)
      (ran : Ran) (is : IsSessionLeg drives works driver pages layout others aim image old ran)
      (end : ran.leg.end ≡ Done)
      (drove : (share : List Did) → drives (Ok tt) share
      → made share ≡ driver_steps layout aim image)
      (worked : (share : List Did) → works (Ok tt) share → made share ≡ work) where
    whole_end : IsWholeEnd ran.leg.end
    whole_end = subst IsWholeEnd (sym end) tt

    ended : HasEnd old ran.dev.steps (session_end (slot_size layout aim.slot) image) Done
    ended = subst (HasEnd old ran.dev.steps (session_end (slot_size layout aim.slot) image)) end
        is.ran_is.end

    sound : Whole image (slot_size layout aim.slot)
    sound = sealed_whole shown (slot_size layout aim.slot) image ended.1

    pub session_leaves : ran.dev.inner.bytes ≡ written_flash layout aim image work first
    session_leaves =
        let both = is.both whole_end in
        leg_installs drives works driver pages _ old ran.dev ran.journal is.leg below ended.0 others
        (driver_steps layout aim image) work
        (drove (share_of driver is.leg.left is.leg.right)
        (subst (λ r. drives r (share_of driver is.leg.left is.leg.right)) both.0
        is.leg.driver_share))
        (worked (share_of (1 - driver) is.leg.left is.leg.right)
        (subst (λ r. works r (share_of (1 - driver) is.leg.left is.leg.right)) both.1
        is.leg.worker_share))
        (driver_lies sound) theirs

    pub session_announces : IsAnnounced layout first aim image 0 ran.dev.inner.bytes
    session_announces = session_announced layout first aim image opens shown others
        ran.dev.inner.bytes apart sound (is.done whole_end)

  -- a boot that is made whole
  module _ (mid dev : CutDevice Ram) (leg : Leg) (boot : IsBootLeg layout mid dev leg)
      (end : leg.end ≡ Done) where
    pub boot_leaves : dev.inner.bytes ≡ booted_flash layout mid.inner.bytes
    boot_leaves = at boot.answer boot.made (sym end ∙ boot.end)
      where
        at : (answer : Result (Option Booted) NorFault)
            → AreMadeBy MayEnd MayTear MayRefuse MustRefuse (setting_of mid)
            (boot_steps layout mid.inner.bytes) mid.steps dev.steps (Some mid.inner.bytes)
            (Some dev.inner.bytes) answer
            → Done ≡ end_by dev.steps answer
            → dev.inner.bytes ≡ booted_flash layout mid.inner.bytes
        at (Ok booted) made is = let e = made.bytes in cc
        at (Err Failed) made is = absurd cc
        at (Err Off) made is = absurd cc

  -- a confirmation that is made whole
  module _ (drives works : Result (Unit {0}) NorFault → List Did → Type 0) (pages : Map → Type 0)
      (dev : CutDevice Ram) (write : Rewrite) (write_is : write
      ≡ restated 2 aim.next.sector aim.next.entry)
      (ran : Ran) (is : IsConfirmLeg drives works driver pages layout others write dev ran)
      (end : ran.leg.end ≡ Done)
      (drove : (share : List Did) → drives (Ok tt) share
      → made share ≡ rewrite layout.otadata write)
      (worked : (share : List Did) → works (Ok tt) share → made share ≡ work) where
    confirm_whole : IsWholeEnd ran.leg.end
    confirm_whole = subst IsWholeEnd (sym end) tt

    pub confirm_leaves : ran.dev.inner.bytes ≡ confirmed_flash layout aim work dev.inner.bytes
    confirm_leaves =
        let both = is.both confirm_whole in
        let ended : HasEnd dev ran.dev.steps Done Done =
        subst (HasEnd dev ran.dev.steps Done) end is.ran_is.end in
        let lies : AllLieIn others false (rewrite layout.otadata write) =
        subst (λ (w : Rewrite). AllLieIn others false (rewrite layout.otadata w)) (sym write_is)
        (rewrite_lies layout others apart (restated 2 aim.next.sector aim.next.entry)
        opens.placed.aligned (two layout first aim image opens) label) in
        leg_installs drives works driver pages _ dev ran.dev ran.journal is.leg below ended.0 others
        (rewrite layout.otadata write) work
        (drove (share_of driver is.leg.left is.leg.right)
        (subst (λ r. drives r (share_of driver is.leg.left is.leg.right)) both.0
        is.leg.driver_share))
        (worked (share_of (1 - driver) is.leg.left is.leg.right)
        (subst (λ r. works r (share_of (1 - driver) is.leg.left is.leg.right)) both.1
        is.leg.worker_share))
        lies theirs
        ∙ ap (λ (w : Rewrite). after_steps (after_steps dev.inner.bytes
        (rewrite layout.otadata w)) work) write_is

  -- the rewrite of a confirmation is that of the new application's entry
  pub confirms_new : (dev : CutDevice Ram) (at : Booted) (write : Rewrite)
      → IsAnnounced layout first aim image 1 dev.inner.bytes → MayConfirm layout first dev at write
      → write ≡ restated 2 aim.next.sector aim.next.entry
  confirms_new dev at write is may =
      let active = announced_active layout first aim image opens 1 dev.inner.bytes (omega arith) is
      in
      let same : write.sector ≡ aim.next.sector =
      (let one = may.confirming.active in cc) in
      may.confirming.write_is
      ∙ ap (λ k. restated 2 k (entries_in layout dev.inner.bytes k)) same
      ∙ ap (λ (e : Entry). restated 2 aim.next.sector e) is.here

  -- ---- the update

  module _ (drives works : Result (Unit {0}) NorFault → List Did → Type 0)
      (confirm_drives : Rewrite → Result (Unit {0}) NorFault → List Did → Type 0)
      (pages confirm_pages : Map → Type 0)
      (writes : Ran → Type 0) (confirms : CutDevice Ram → Bor Booted → Bor Rewrite → Ran → Type 0)
      (session_is : (ran : Ran) → writes ran
      → IsSessionLeg drives works driver pages layout others aim image old ran)
      (confirm_is : (dev : CutDevice Ram) (at : Bor Booted) (write : Bor Rewrite) (ran : Ran)
      → confirms dev at write ran
      → IsConfirmLeg (confirm_drives write.now) works driver confirm_pages layout others write.now
      dev ran)
      (drove : (share : List Did) → drives (Ok tt) share
      → made share ≡ driver_steps layout aim image)
      (confirm_drove : (write : Rewrite) (share : List Did) → confirm_drives write (Ok tt) share
      → made share ≡ rewrite layout.otadata write)
      (worked : (share : List Did) → works (Ok tt) share → made share ≡ work) where
    -- an update whose legs are all made whole leaves the flash of its lists of steps
    pub trial_installs : (upto : Upto) (t : Trial)
        → IsTrial writes confirms layout first aim image upto t
        → AreDone t.legs.items
        → t.flash.items ≡ installed_flash layout aim image work upto first
    trial_installs upto t trial done =
        behind upto trial.behind
      where
        ran : Ran
        ran = trial.session

        is : IsSessionLeg drives works driver pages layout others aim image old ran
        is = session_is ran trial.written

        leaves : ran.leg.end ≡ Done
            → ran.dev.inner.bytes ≡ written_flash layout aim image work first
        leaves end = session_leaves drives works pages ran is end drove worked

        announces : ran.leg.end ≡ Done → IsAnnounced layout first aim image 0 ran.dev.inner.bytes
        announces end = session_announces drives works pages ran is end drove worked

        -- the flash behind the boot
        booted : (dev : CutDevice Ram) (leg : Leg) → ran.leg.end ≡ Done → leg.end ≡ Done
            → IsBootLeg layout (restarted ran.dev) dev leg
            → dev.inner.bytes ≡ booted_flash layout (written_flash layout aim image work first)
        booted dev leg end boot_end boot =
            boot_leaves (restarted ran.dev) dev leg boot boot_end
            ∙ ap (booted_flash layout) (leaves end)

        waits : (dev : CutDevice Ram) (leg : Leg) → ran.leg.end ≡ Done → leg.end ≡ Done
            → IsBootLeg layout (restarted ran.dev) dev leg
            → IsAnnounced layout first aim image 1 dev.inner.bytes
        waits dev leg end boot_end boot =
            let before = announces end in
            let steps : boot_steps layout ran.dev.inner.bytes
            ≡ rewrite layout.otadata (waiting layout first aim image opens) =
            ap (rewrites layout.otadata)
            (announced_writes layout first aim image opens ran.dev.inner.bytes before) in
            subst (IsAnnounced layout first aim image 1)
            (sym (boot_leaves (restarted ran.dev) dev leg boot boot_end
            ∙ ap (after_steps ran.dev.inner.bytes) steps))
            (booted_waits layout first aim image opens ran.dev.inner.bytes before)

        alone : (legs : List Leg) → EndsWith legs None ran.dev t → AreDone legs
        alone legs ends = subst AreDone ends.legs_are done

        behind : (u : Upto)
            → BehindSession confirms layout first aim image (wants_boot u && is_done ran.leg.end) u
            ran.leg ran.dev t
            → t.flash.items ≡ installed_flash layout aim image work u first
        behind Session ends =
            ends.flash_is ∙ leaves (alone (ran.leg ∷ []) ends).0
        behind Boot later = boot_case (is_done ran.leg.end) refl later
          where
            boot_case : (b : Bool) → is_done ran.leg.end ≡ b
                → BehindSession confirms layout first aim image b Boot ran.leg ran.dev t
                → t.flash.items ≡ installed_flash layout aim image work Boot first
            boot_case false halts ends =
                absurd (let e = ap is_done (alone (ran.leg ∷ []) ends).0 in cc)
            boot_case true goes ends =
                let legs = subst AreDone ends.behind.legs_are done in
                ends.behind.flash_is ∙ booted ends.new ends.leg legs.0 legs.1.0 ends.booted
        behind Confirm later = confirm_case (is_done ran.leg.end) refl later
          where
            last_case : (ends : EndsBooted confirms layout first aim image Confirm ran.leg
                ran.dev t) (b : Bool)
                → is_done ends.leg.end ≡ b
                → BehindBoot confirms layout first aim image b (ran.leg ∷ ends.leg ∷ []) ends.new t
                → t.flash.items ≡ installed_flash layout aim image work Confirm first
            last_case ends false halts stops =
                absurd (let legs = subst AreDone stops.legs_are done in
                let e = ap is_done legs.1.0 in cc)
            last_case ends true goes last =
                let legs = subst AreDone last.ends.legs_are done in
                let here = waits ends.new ends.leg legs.0 legs.1.0 ends.booted in
                let write_is = confirms_new ends.new last.at.now last.write.now here last.may in
                last.ends.flash_is
                ∙ confirm_leaves (confirm_drives last.write.now) works confirm_pages ends.new
                last.write.now write_is last.ran
                (confirm_is ends.new last.at last.write last.ran last.confirmed) legs.1.1.0
                (confirm_drove last.write.now) worked
                ∙ ap (confirmed_flash layout aim work)
                (booted ends.new ends.leg legs.0 legs.1.0 ends.booted)

            confirm_case : (b : Bool) → is_done ran.leg.end ≡ b
                → BehindSession confirms layout first aim image b Confirm ran.leg ran.dev t
                → t.flash.items ≡ installed_flash layout aim image work Confirm first
            confirm_case false halts ends =
                absurd (let e = ap is_done (alone (ran.leg ∷ []) ends).0 in cc)
            confirm_case true goes ends =
                last_case ends (is_done ends.leg.end) refl ends.behind
