-- An update whose last leg was made whole was made whole.
use Rattle.std.proofs.Common.{◌≡◌, ℕ, Bool, true, false, [], ◌∷◌, refl, sym, ap, ◌∙◌, subst}
use Rattle.nor_device.specs.Ram.{Ram}
use Rattle.crash_images.specs.Cut.{CutDevice}
use Rattle.boot_run.specs.declared.aims.Aim.{Aim}
use Rattle.power_cut.specs.declared.legs.Leg.{Leg}
use Rattle.power_cut.specs.declared.legs.LegEnd.TheVariants.{Done as DoneEnd}
use Rattle.power_cut.specs.declared.legs.Upto.{Upto}
use Rattle.power_cut.specs.declared.outcome.Trial.{Trial}
use Rattle.power_cut.specs.Whole.{AreDone, BehindBoot, BehindSession, is_done, wants_boot, wants_confirm}
use Rattle.update_run.specs.declared.options.Options.{Options}
use Rattle.update_run.specs.Opening.{Opening}
use Rattle.update_run.specs.Legs.{Confirms}
use Rattle.update_run.specs.Updating.{IsUpdate, last_end}
use Rattle.update_run.proofs.EndLemmas.{done_is, second_true}

done_behind_boot : (o : Opening) (aim : Aim) (driver : ℕ) (b : Bool) (s l : Leg)
    (dev : CutDevice Ram) (t : Trial) → s.end ≡ DoneEnd → (b ≡ true → l.end ≡ DoneEnd)
    → BehindBoot (Confirms o driver) o.layout o.flash aim o.image b (s ∷ l ∷ []) dev t
    → last_end t.legs.items ≡ DoneEnd → AreDone t.legs.items
done_behind_boot o aim driver false s l dev t before test ends last =
    let this : l.end ≡ DoneEnd = sym (ap last_end ends.legs_are) ∙ last in
    subst AreDone (sym ends.legs_are) (before, (this, tt))
done_behind_boot o aim driver true s l dev t before test ends last =
    let this : ends.ran.leg.end ≡ DoneEnd = sym (ap last_end ends.ends.legs_are) ∙ last in
    subst AreDone (sym ends.ends.legs_are) (before, (test refl, (this, tt)))

done_behind_session : (o : Opening) (aim : Aim) (driver : ℕ) (b : Bool) (upto : Upto) (s : Leg)
    (dev : CutDevice Ram) (t : Trial) → (b ≡ true → s.end ≡ DoneEnd)
    → BehindSession (Confirms o driver) o.layout o.flash aim o.image b upto s dev t
    → last_end t.legs.items ≡ DoneEnd → AreDone t.legs.items
done_behind_session o aim driver false upto s dev t test ends last =
    let this : s.end ≡ DoneEnd = sym (ap last_end ends.legs_are) ∙ last in
    subst AreDone (sym ends.legs_are) (this, tt)
done_behind_session o aim driver true upto s dev t test ends last =
    done_behind_boot o aim driver _ s ends.leg ends.new t (test refl)
    (λ both. done_is ends.leg.end (second_true (wants_confirm upto) (is_done ends.leg.end) both))
    ends.behind last

pub all_done : (options : Options) (o : Opening) (t : Trial) → IsUpdate options o t
    → last_end t.legs.items ≡ DoneEnd → AreDone t.legs.items
all_done options o t is last =
    let leg = is.trial.session.leg in
    done_behind_session o is.aim options.driver _ options.upto leg is.trial.session.dev t
    (λ both. done_is leg.end (second_true (wants_boot options.upto) (is_done leg.end) both))
    is.trial.behind last
