-- What an update aims at is one and the same for the same files, and so is the flash that it leaves.
use Rattle.std.proofs.Common.{◌≡◌, ◌<◌, Bool, true, false, ℕ, List, length, Option, Some, Ok, refl, sym, ap, ◌∙◌, subst}
use Rattle.std.specs.Prelude.{◌↔◌, IsTrue}
use Rattle.arrayvec.specs.ArrayVec.{ArrayVec}
use Rattle.partition_table.specs.Layout.{Places}
use Rattle.boot_select.specs.Boots.{entries_in, images_in}
use Rattle.boot_select.specs.Target.{target_of}
use Rattle.image_verify.specs.declared.info.ImageInfo.{ImageInfo}
use Rattle.image_verify.specs.declared.info.SegmentNote.{SegmentNote}
use Rattle.image_verify.specs.Held.{held}
use Rattle.image_verify.specs.Info.{IsInfo}
use Rattle.boot_run.specs.declared.aims.Aim.{Aim}
use Rattle.boot_run.specs.Aim.{aim_at}
use Rattle.power_cut.specs.declared.legs.Upto.{Upto}
use Rattle.power_cut.specs.Installed.{installed_flash}
use Rattle.duo_run.specs.Worker.{worker_steps}
use Rattle.update_run.specs.Opening.{AimsIn, Opening}
use Rattle.update_run.specs.UpdateLaws.{AimsAreOne, DoneUpdatesLeaveOneFlash}
use Rattle.update_run.proofs.DoneLemmas.{all_done}

-- ---- what is told of an image

-- tests of one fact are one
flag_same : (a b : Bool) (P : Type 0) → (IsTrue a ↔ P) → (IsTrue b ↔ P) → a ≡ b
flag_same true true P one two = refl
flag_same true false P one two = absurd (let is = two.1 (one.0 refl) in cc)
flag_same false true P one two = absurd (let is = one.1 (two.0 refl) in cc)
flag_same false false P one two = refl

-- so are lists in vectors
notes_same : (a b : ArrayVec SegmentNote) → a.items ≡ b.items → a ≡ b
notes_same a b same = λ i. record { items = same i }

info_same : (bytes : List ℕ) (a b : ImageInfo) → IsInfo bytes a → IsInfo bytes b → a ≡ b
info_same bytes a b one two =
    let long : a.length ≡ b.length = one.long ∙ sym two.long in
    let entry : a.entry ≡ b.entry = one.entry ∙ sym two.entry in
    let flagged : a.flagged ≡ b.flagged = flag_same a.flagged b.flagged _ one.flagged two.flagged in
    let segments : a.segments ≡ b.segments =
    notes_same a.segments b.segments (one.heads ∙ sym two.heads) in
    let desc : a.desc ≡ b.desc = one.desc ∙ sym two.desc in
    λ i. record {
      length = long i;
      entry = entry i;
      flagged = flagged i;
      segments = segments i;
      desc = desc i;
    }

-- ---- what is aimed at

module _ (flash : List ℕ) (layout : Places) (n : ℕ) (a b : Aim)
    (one : AimsIn flash layout n a) (two : AimsIn flash layout n b) where
  running_same : a.running ≡ b.running
  running_same =
      let same : Ok a.running ≡ Ok b.running = sym one.runs ∙ two.runs in cc

  pub slot_same : a.slot ≡ b.slot
  slot_same =
      one.slot
      ∙ ap (target_of layout (entries_in layout flash 0) (entries_in layout flash 1)) running_same
      ∙ sym two.slot

  pub next_same : a.next ≡ b.next
  next_same =
      let same : Ok a.next ≡ Ok b.next =
      sym one.next
      ∙ ap (λ r. aim_at layout (entries_in layout flash 0) (entries_in layout flash 1) r n a.slot)
      running_same
      ∙ ap (aim_at layout (entries_in layout flash 0) (entries_in layout flash 1) b.running n)
      slot_same
      ∙ two.next in cc

  -- what is told of the application that runs
  told_same : a.info ≡ b.info
  told_same =
      let same : Some one.info.bytes ≡ Some two.info.bytes =
      sym one.info.is ∙ ap (images_in held layout flash) running_same ∙ two.info.is in
      let bytes : one.info.bytes ≡ two.info.bytes = cc in
      info_same two.info.bytes a.info b.info
      (subst (λ (l : List ℕ). IsInfo l a.info) bytes one.info.told) two.info.told

  pub aim_same : a ≡ b
  aim_same =
      let long : a.length ≡ b.length = one.length ∙ sym two.length in
      λ i. record {
        running = running_same i;
        info = told_same i;
        slot = slot_same i;
        next = next_same i;
        length = long i;
      }

pub aims_are_one : AimsAreOne
aims_are_one o a b one two = aim_same o.flash o.layout (length o.image) a b one two

-- ---- the flash that is left

pub one_flash : DoneUpdatesLeaveOneFlash
one_flash o a b s t upto one two s_done t_done =
    one.leaves (all_done a o s one s_done)
    ∙ ap (λ (aim : Aim). installed_flash o.layout aim o.image (worker_steps o.rows o.script) a.upto
    o.flash) (aims_are_one o one.aim two.aim one.aims two.aims)
    ∙ ap (λ (u : Upto). installed_flash o.layout two.aim o.image (worker_steps o.rows o.script) u
    o.flash) upto
    ∙ sym (two.leaves (all_done b o t two t_done))
