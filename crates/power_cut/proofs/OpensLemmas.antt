-- When an update begins, from the image that the running application has; and a device that was
-- looked at is ready.
use Rattle.std.proofs.Common.{◌≡◌, ◌<◌, Bool, true, false, ℕ, List, [], Option, Some, None, Result, Ok, refl, sym, ap, ◌∙◌, subst}
use Rattle.std.specs.Prelude.{All, IsErrOf, IsTrue, length}
use Rattle.nor_device.specs.declared.nor.NorFault.{NorFault}
use Rattle.nor_device.specs.declared.nor.NorFault.TheVariants.{Off}
use Rattle.nor_device.specs.Ram.{Ram}
use Rattle.crash_images.specs.declared.cut.CutSetting.{CutSetting}
use Rattle.crash_images.specs.Cut.{CutDevice, IsAhead}
use Rattle.partition_table.specs.Layout.{Places, layout_in}
use Rattle.boot_select.specs.Boots.{entries_in, images_in}
use Rattle.rollback.proofs.PairLemmas.{boots_holds}
use Rattle.image_verify.specs.Held.{held}
use Rattle.boot_run.specs.declared.aims.Aim.{Aim}
use Rattle.boot_run.specs.Aim.{IsAimed}
use Rattle.update_steps.specs.Session.{IsOpening}
use Rattle.power_cut.specs.Device.{IsReady, is_off, running_in, setting_of}
use Rattle.power_cut.specs.Update.{Opens, bytes_or_none}

-- an opening is one from the image that the flash has
pub opens_by : (layout : Places) (flash : List ℕ) (aim : Aim) (old image : List ℕ)
    → IsOpening layout flash aim old image → Opens layout flash aim image
opens_by layout flash aim old image opening =
    let holds : images_in held layout flash aim.running ≡ Some opening.begins.image =
    boots_holds layout (images_in held layout flash) (entries_in layout flash) aim.running
    opening.begins.image opening.begins.settled.booted in
    subst (λ (run : List ℕ). IsOpening layout flash aim run image)
    (sym (ap bytes_or_none holds ∙ opening.old_is)) opening

-- a call that answered, and left setting and number of steps, leaves a ready device
pub still_ready : {T : Type 0} (old new : CutDevice Ram) (r : Result T NorFault) (x : T)
    → IsReady old → r ≡ Ok x → running_in new ≡ None → setting_of new ≡ setting_of old
    → new.steps ≡ old.steps
    → (IsErrOf r Off → IsTrue (is_off new)) × (IsTrue (is_off new) → IsErrOf r Off) → IsReady new
still_ready old new r x ready answered idle setting steps off = record {
  idle = idle;
  on = at (is_off new) refl;
  ahead = record {
    cut_ahead = subst (λ (n : ℕ). IsAhead new.cut n) (sym steps)
        (subst (λ (c : Option ℕ). IsAhead c old.steps)
        (sym (ap (λ (set : CutSetting (Unit {0})). set.cut) setting)) ready.ahead.cut_ahead);
    fail_ahead = subst (λ (n : ℕ). IsAhead new.fail n) (sym steps)
        (subst (λ (c : Option ℕ). IsAhead c old.steps)
        (sym (ap (λ (set : CutSetting (Unit {0})). set.fail) setting)) ready.ahead.fail_ahead);
  };
}
  where
    at : (b : Bool) → is_off new ≡ b → is_off new ≡ false
    at false is = is
    at true is = absurd (let e = off.1 is in cc (e, answered))

-- what is answered for a flash by its own table opens an update there, of no byte
pub aimed_opens : ((flash : List ℕ) (layout : Places) (aim : Aim) (new : List ℕ)
    → layout_in flash ≡ Ok layout → All (λ b. b < 256) new
    → IsAimed layout (images_in held layout flash) (entries_in layout flash) (length new) aim
    → (old : List ℕ) × IsOpening layout flash aim old new)
    → (layout : Places) (told flash now : List ℕ) (aim : Aim) → layout_in told ≡ Ok layout
    → flash ≡ told → Some now ≡ Some flash → All (λ b. b < 256) []
    → IsAimed layout (images_in held layout flash) (entries_in layout flash) 0 aim
    → Opens layout now aim []
aimed_opens law layout told flash now aim laid is same small aimed =
    let opening = law flash layout aim [] (ap layout_in is ∙ laid) small aimed in
    let here : now ≡ flash = cc in
    subst (λ (f : List ℕ). Opens layout f aim []) (sym here)
    (opens_by layout flash aim opening.0 [] opening.1)
