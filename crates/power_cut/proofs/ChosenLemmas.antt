-- An update ends with a cut or a failure exactly where the chosen step was begun in it.
use Rattle.std.proofs.Common.{◌≡◌, true, ℕ, ◌+◌, ◌≤◌, [], ◌∷◌, Option, Some, None, refl, sym, ap, ◌∙◌, subst, arith}
use Rattle.std.specs.Prelude.{nat_lt, if◌then◌else◌}
use Rattle.std.proofs.lemmas.Bool.Decides.{nat_tests}
use Rattle.nor_device.specs.Ram.{Ram}
use Rattle.crash_images.specs.declared.cut.CutSetting.{CutSetting}
use Rattle.crash_images.specs.Cut.{CutDevice, IsAhead, restarted, unspent_of}
use Rattle.power_cut.specs.declared.legs.Leg.{Leg}
use Rattle.power_cut.specs.declared.legs.LegEnd.{LegEnd}
use Rattle.power_cut.specs.declared.legs.LegEnd.TheVariants.{Done, Device, Cut, FirstByte, Empty, Bad}
use Rattle.power_cut.specs.declared.legs.Ran.{Ran}
use Rattle.power_cut.specs.Device.{BrokeAt, HasEnd, IsRan, IsUnbroken, setting_of}
use Rattle.power_cut.specs.Whole.{EndsAsChosen}

-- the end as it is, whatever a whole leg's would be
end_free : (old : CutDevice Ram) (now : ℕ) (whole end : LegEnd) → HasEnd old now whole end
    → HasEnd old now end end
end_free old now whole Done has = (has.0, refl)
end_free old now whole (Device k) has = has
end_free old now whole (Cut k) has = has
end_free old now whole (FirstByte byte) has = (has.0, refl)
end_free old now whole Empty has = (has.0, refl)
end_free old now whole (Bad why) has = (has.0, refl)

-- seen from an earlier device of this setting
module _ (old mid : CutDevice Ram) (now : ℕ) (cut_is : mid.cut ≡ old.cut)
    (fail_is : mid.fail ≡ old.fail) (before : old.steps ≤ mid.steps) where
  broke_back : (chosen from : Option ℕ) (k : ℕ) → from ≡ chosen → BrokeAt from mid.steps now k
      → BrokeAt chosen old.steps now k
  broke_back chosen from k same broke = record {
    chosen_is = sym same ∙ broke.chosen_is;
    later = let less = broke.later in omega arith;
    last = broke.last;
  }

  ahead_back : IsUnbroken mid now → IsUnbroken old now
  ahead_back is = record {
    cut_ahead = subst (λ (c : Option ℕ). IsAhead c now) cut_is is.cut_ahead;
    fail_ahead = subst (λ (c : Option ℕ). IsAhead c now) fail_is is.fail_ahead;
  }

  end_back : (end : LegEnd) → HasEnd mid now end end → HasEnd old now end end
  end_back Done has = (ahead_back has.0, refl)
  end_back (Device k) has = broke_back old.fail mid.fail k fail_is has
  end_back (Cut k) has = broke_back old.cut mid.cut k cut_is has
  end_back (FirstByte byte) has = (ahead_back has.0, refl)
  end_back Empty has = (ahead_back has.0, refl)
  end_back (Bad why) has = (ahead_back has.0, refl)

-- a number that is ahead is not spent
unspent_same : (chosen : Option ℕ) (n : ℕ) → IsAhead chosen n → unspent_of chosen n ≡ chosen
unspent_same None n ahead = refl
unspent_same (Some k) n ahead =
    let test : nat_lt n k ≡ true = grind (arith, nat_tests) in
    ap (λ t. if t then Some k else None) test

cut_of : (set other : CutSetting (Unit {0})) → set ≡ other → set.cut ≡ other.cut
cut_of set other is = ap (λ (s : CutSetting (Unit {0})). s.cut) is

fail_of : (set other : CutSetting (Unit {0})) → set ≡ other → set.fail ≡ other.fail
fail_of set other is = ap (λ (s : CutSetting (Unit {0})). s.fail) is

module _ (old : CutDevice Ram) (ran : Ran) (whole : LegEnd) (is : IsRan old ran.dev whole ran.leg)
  where
    -- the session is the last leg
    pub session_chosen : EndsAsChosen old (ran.leg ∷ [])
    session_chosen =
        let now : ran.dev.steps ≡ old.steps + (ran.leg.steps + 0) =
        (let s = is.steps in omega arith) in
        subst (λ n. HasEnd old n ran.leg.end ran.leg.end) now
        (end_free old ran.dev.steps whole ran.leg.end is.end)

    module _ (done : ran.leg.end ≡ Done) (dev : CutDevice Ram) (leg : Leg)
        (boot : IsRan (restarted ran.dev) dev Done leg) where
      ahead : IsUnbroken old ran.dev.steps
      ahead = (subst (HasEnd old ran.dev.steps whole) done is.end).0

      here_cut : ran.dev.cut ≡ old.cut
      here_cut = cut_of (setting_of ran.dev) (setting_of old) is.setting

      here_fail : ran.dev.fail ≡ old.fail
      here_fail = fail_of (setting_of ran.dev) (setting_of old) is.setting

      mid_cut : (restarted ran.dev).cut ≡ old.cut
      mid_cut = ap (λ (c : Option ℕ). unspent_of c ran.dev.steps) here_cut
          ∙ unspent_same old.cut ran.dev.steps ahead.cut_ahead

      mid_fail : (restarted ran.dev).fail ≡ old.fail
      mid_fail = ap (λ (c : Option ℕ). unspent_of c ran.dev.steps) here_fail
          ∙ unspent_same old.fail ran.dev.steps ahead.fail_ahead

      boot_steps_are : dev.steps ≡ ran.dev.steps + leg.steps
      boot_steps_are = boot.steps

      -- the boot is
      pub boot_chosen : EndsAsChosen old (ran.leg ∷ leg ∷ [])
      boot_chosen =
          let now : dev.steps ≡ old.steps + (ran.leg.steps + (leg.steps + 0)) =
          (let s = is.steps in let b = boot_steps_are in omega arith) in
          subst (λ n. HasEnd old n leg.end leg.end) now
          (end_back old (restarted ran.dev) dev.steps mid_cut mid_fail
          (let s = is.steps in omega arith) leg.end
          (end_free (restarted ran.dev) dev.steps Done leg.end boot.end))

      -- the confirmation is
      pub confirm_chosen : (last : Ran) → IsRan dev last.dev Done last.leg
          → EndsAsChosen old (ran.leg ∷ leg ∷ last.leg ∷ [])
      confirm_chosen last confirm =
          let now : last.dev.steps
          ≡ old.steps + (ran.leg.steps + (leg.steps + (last.leg.steps + 0))) =
          (let s = is.steps in let b = boot_steps_are in let l = confirm.steps in omega arith) in
          subst (λ n. HasEnd old n last.leg.end last.leg.end) now
          (end_back old dev last.dev.steps
          (cut_of (setting_of dev) (setting_of (restarted ran.dev)) boot.setting ∙ mid_cut)
          (fail_of (setting_of dev) (setting_of (restarted ran.dev)) boot.setting ∙ mid_fail)
          (let s = is.steps in let b = boot_steps_are in omega arith) last.leg.end
          (end_free dev last.dev.steps Done last.leg.end confirm.end))
