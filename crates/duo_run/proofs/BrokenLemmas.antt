-- The flash behind a log: the steps that it began are made, or the last one is torn, by the tear
-- number.
use Rattle.std.proofs.Common.{◌≡◌, ◌⊎◌, inl, inr, ◌≤◌, ◌<◌, ℕ, zero, suc, ◌+◌, ◌-◌, ◌^◌, List, [], ◌∷◌, ◌++◌, length, length-append, append_assoc, Option, Some, None, Result, Ok, refl, sym, ap, ◌∙◌, subst, arith}
use Rattle.nor_device.specs.declared.step.Step.{Step}
use Rattle.nor_device.specs.declared.nor.StepEnd.TheVariants as ends
use Rattle.nor_device.specs.declared.nor.NorFault.{NorFault}
use Rattle.nor_device.specs.declared.nor.NorFault.TheVariants.{Failed, Off}
use Rattle.nor_device.specs.Flash.{after_steps}
use Rattle.nor_device.specs.Nor as nor
use Rattle.nor_device.specs.Ram.{Ram}
use Rattle.nor_device.specs.Torn.{Torn}
use Rattle.crash_images.specs.declared.cut.CutSetting.{CutSetting}
use Rattle.crash_images.specs.Cut.{CutDevice, EndsBy, IsAhead, IsBad}
use Rattle.crash_images.specs.Tear.{torn_by}
use Rattle.crash_images.proofs.CutLaws.{chosen_tears}
use Rattle.mmu_map.specs.Map.{Map}
use Rattle.bus_hub.specs.declared.did.Did.{Did}
use Rattle.bus_hub.specs.declared.did.Did.TheVariants.{Opened, Closed, Broken, Fetched, Noted, Denied, Mapping, Unmapping, Missed, Masked, Unfetched}
use Rattle.bus_hub.specs.declared.did.Running.{Running}
use Rattle.bus_hub.specs.declared.duty.AnyDuty.{AnyDuty}
use Rattle.bus_hub.specs.Hub.{begun}
use Rattle.bus_hub.specs.Log.{Item, Rule, Ruled, Runs, State, change, made_whole, reached}
use Rattle.bus_hub.specs.Room.{Kept}
use Rattle.bus_hub.specs.Shares.{all_of, begun_of, steps_of}
use Rattle.power_cut.specs.Device.{BrokeAt, IsUnbroken, MayEnd, MayRefuse, MayTear, MustRefuse, RamMayEnd, RamMayRefuse, setting_of}
use Rattle.power_cut.specs.Leg.{AnyGrants, IsLeg, any_after, any_part, share_of}
use Rattle.power_cut.proofs.EndsLemmas.{by_choice}
use Rattle.power_cut.proofs.MergeLemmas.{not_bad}
use Rattle.duo_run.proofs.BegunLemmas.{AreOfTwo, BeginsFirst, BeginsSteps, begins_first, begun_by, begun_in, left_begins, right_begins}

-- the last of these steps is torn, and those before it are made
record IsTornLast (flash : List ℕ) (steps : List Step) (tear : ℕ) (left : List ℕ) : Type 0 where
  made : List Step
  step : Step
  is : steps ≡ made ++ step ∷ []
  left_is : left ≡ torn_by (after_steps flash made) step tear

-- one of these steps is torn, and those before it are made; with it the number of steps rose so
pub record IsTornIn (flash : List ℕ) (steps : List Step) (tear before now : ℕ) (left : List ℕ)
    : Type 0 where
  pub made : List Step
  pub step : Step
  pub rest : List Step
  pub split : steps ≡ made ++ step ∷ rest
  pub counted : now ≡ before + (length made + 1)
  pub left_is : left ≡ torn_by (after_steps flash made) step tear

-- all of these steps are made, and the number of steps rose by them
pub record AreAllMade (flash : List ℕ) (steps : List Step) (before now : ℕ) (left : List ℕ)
    : Type 0 where
  pub counted : now ≡ before + length steps
  pub left_is : left ≡ after_steps flash steps

-- ---- a log

-- no step runs
abbrev at_rest : Option Running
at_rest = None

module _ {K P : Type 0} (part : K → ℕ → P) (grants : P → Step → Type 0)
    (after : K → ℕ → Step → K) (set : CutSetting (Unit {0})) where
  abbrev Obeys : State K → ℕ → Did → Type 0
  Obeys = Rule MayEnd MayTear MayRefuse MustRefuse part grants after set

  abbrev IsRuled : State K → List Item → Type 0
  IsRuled = Ruled MayEnd MayTear MayRefuse MustRefuse part grants after set

  abbrev Ahead : ℕ → Type 0
  Ahead n = IsAhead set.cut n × IsAhead set.fail n

  abbrev Bad : ℕ → Type 0
  Bad n = IsBad set.cut set.fail n

  bad_end : (n : ℕ) (why : NorFault) → EndsBy set.cut set.fail n (nor.end_by why) → Bad n
  bad_end n Failed is = inr is
  bad_end n Off is = inl is

  none_runs : (c : ℕ) (Q : Running → Type 0) (o : Option Running) → o ≡ None → Runs c Q o → ⊥
  none_runs c Q None none runs = runs
  none_runs c Q (Some run) none runs = absurd cc

  -- behind a chosen step an item begins none, and leaves flash and number
  record Rests (s t : State K) (begins : List Step) : Type 0 where
    none : begins ≡ []
    flash : t.flash ≡ s.flash
    idle : t.running ≡ None
    steps : t.steps ≡ s.steps

  rests_item : (s : State K) (c : ℕ) (did : Did) → Bad s.steps → s.running ≡ None → Obeys s c did
      → Rests s (change after s c did) (begun_by did)
  rests_item s c (Opened k regs step) bad idle rule = absurd (rule.2 bad)
  rests_item s c (Closed k regs) bad idle rule =
      absurd (none_runs c (λ run. run.k ≡ k) s.running idle rule.0)
  rests_item s c (Broken k regs why left) bad idle rule =
      absurd (none_runs c (λ run. (run.k ≡ k) × Torn s.flash run.step left
      × MayTear set s.steps s.flash run.step left) s.running idle rule.0)
  rests_item s c (Fetched k regs at bytes) bad idle rule =
      record { none = refl; flash = refl; idle = idle; steps = refl }
  rests_item s c (Noted k regs act) bad idle rule =
      record { none = refl; flash = refl; idle = idle; steps = refl }
  rests_item s c (Denied why) bad idle rule =
      record { none = refl; flash = refl; idle = idle; steps = refl }
  rests_item s c (Mapping flash_page m space answer) bad idle rule =
      record { none = refl; flash = refl; idle = idle; steps = refl }
  rests_item s c (Unmapping at answer) bad idle rule =
      record { none = refl; flash = refl; idle = idle; steps = refl }
  rests_item s c (Missed at len) bad idle rule =
      record { none = refl; flash = refl; idle = idle; steps = refl }
  rests_item s c (Masked at len) bad idle rule =
      record { none = refl; flash = refl; idle = idle; steps = refl }
  rests_item s c (Unfetched at len why) bad idle rule =
      record { none = refl; flash = refl; idle = idle; steps = refl }

  -- and so does a log
  rests_log : (s : State K) (log : List Item) → Bad s.steps → s.running ≡ None → IsRuled s log
      → Rests s (reached after s log) (begun_in (all_of log))
  rests_log s [] bad idle ruled = record { none = refl; flash = refl; idle = idle; steps = refl }
  rests_log s (x ∷ log) bad idle ruled =
      let here = rests_item s x.core x.did bad idle ruled.1 in
      let later = rests_log (change after s x.core x.did) log (subst Bad (sym here.steps) bad)
      here.idle ruled.2 in
      record {
        none = ap (λ (l : List Step). l ++ begun_in (all_of log)) here.none ∙ later.none;
        flash = later.flash ∙ here.flash;
        idle = later.idle;
        steps = later.steps ∙ here.steps;
      }

  -- all of these steps are made, and the chosen numbers are ahead; or the last one is torn, whose
  -- number is a chosen one
  abbrev Ends : List ℕ → List Step → Type 0 → State K → Type 0
  Ends flash steps sure t =
      ((t.flash ≡ after_steps flash steps) × (sure → Ahead t.steps))
      ⊎ (IsTornLast flash steps set.tear t.flash × Bad t.steps)

  -- seen from a state, with the step that runs in front
  abbrev EndsFrom : State K → List Step → State K → Type 0
  EndsFrom s steps t =
      Ends s.flash (steps_of (begun_of s.running) ++ steps) (s.running ≡ None → Ahead s.steps) t

  ends_item : (s : State K) (c : ℕ) (did : Did) (log : List Item) → Obeys s c did
      → IsRuled (change after s c did) log
      → EndsFrom (change after s c did) (begun_in (all_of log))
      (reached after (change after s c did) log)
      → EndsFrom s (begun_by did ++ begun_in (all_of log))
      (reached after (change after s c did) log)
  ends_item s c (Opened k regs step) log rule ruled later = at later
    where
      front : steps_of (begun_of s.running) ++ step ∷ begun_in (all_of log)
          ≡ step ∷ begun_in (all_of log)
      front = ap (λ (o : Option Running). steps_of (begun_of o) ++ step ∷ begun_in (all_of log))
          rule.0

      t : State K
      t = reached after (change after s c (Opened k regs step)) log

      at : EndsFrom (change after s c (Opened k regs step)) (begun_in (all_of log)) t
          → EndsFrom s (step ∷ begun_in (all_of log)) t
      at (inl made) = inl (
        made.0 ∙ sym (ap (after_steps s.flash) front),
        λ sure. made.1 (λ none. absurd cc),
      )
      at (inr torn) = inr (
        record {
          made = torn.0.made;
          step = torn.0.step;
          is = front ∙ torn.0.is;
          left_is = torn.0.left_is;
        },
        torn.1,
      )
  ends_item s c (Closed k regs) log rule ruled later = at s.running rule.0 later
    where
      t : State K
      t = reached after (change after s c (Closed k regs)) log

      ahead : Ahead s.steps
      ahead = by_choice set s.steps ends.Done rule.1

      at : (o : Option Running) → Runs c (λ run. run.k ≡ k) o
          → Ends (made_whole after s c o).flash (begun_in (all_of log))
          (at_rest ≡ None → Ahead (made_whole after s c o).steps) t
          → Ends s.flash (steps_of (begun_of o) ++ begun_in (all_of log))
          (o ≡ None → Ahead s.steps) t
      at None runs later = absurd runs
      at (Some run) runs later = elim later [
        | inl made ↦ inl (made.0, λ sure. made.1 (λ none. ahead))
        | inr torn ↦ inr (
          record {
            made = run.step ∷ torn.0.made;
            step = torn.0.step;
            is = ap (λ (l : List Step). run.step ∷ l) torn.0.is;
            left_is = torn.0.left_is;
          },
          torn.1,
        )
      ]
  ends_item s c (Broken k regs why left) log rule ruled later = at s.running rule.0
    where
      t : State K
      t = reached after (change after s c (Broken k regs why left)) log

      bad : Bad s.steps
      bad = bad_end s.steps why (by_choice set s.steps (nor.end_by why) rule.1)

      rests : Rests (change after s c (Broken k regs why left)) t (begun_in (all_of log))
      rests = rests_log (change after s c (Broken k regs why left)) log bad refl ruled

      at : (o : Option Running) → Runs c (λ run. (run.k ≡ k) × Torn s.flash run.step left
          × MayTear set s.steps s.flash run.step left) o
          → Ends s.flash (steps_of (begun_of o) ++ begun_in (all_of log))
          (o ≡ None → Ahead s.steps) t
      at None runs = absurd runs
      at (Some run) (core_is, (k_is, torn, tears)) = inr (
        record {
          made = [];
          step = run.step;
          is = ap (λ (l : List Step). run.step ∷ l) rests.none;
          left_is = rests.flash ∙ (chosen_tears RamMayEnd RamMayRefuse (λ u m e is. is)
              (λ u m w no. no) set s.steps s.flash run.step left).0 tears;
        },
        subst Bad (sym rests.steps) bad,
      )
  ends_item s c (Fetched k regs at bytes) log rule ruled later = later
  ends_item s c (Noted k regs act) log rule ruled later = later
  ends_item s c (Denied why) log rule ruled later = later
  ends_item s c (Mapping flash_page n space answer) log rule ruled later = later
  ends_item s c (Unmapping at answer) log rule ruled later = later
  ends_item s c (Missed at len) log rule ruled later = later
  ends_item s c (Masked at len) log rule ruled later = later
  ends_item s c (Unfetched at len why) log rule ruled later = later

  -- a log behind which no step runs
  log_ends : (s : State K) (log : List Item) → IsRuled s log
      → (reached after s log).running ≡ None
      → EndsFrom s (begun_in (all_of log)) (reached after s log)
  log_ends s [] ruled idle = inl (
    ap (λ (o : Option Running). after_steps s.flash (steps_of (begun_of o) ++ [])) (sym idle),
    λ sure. sure idle,
  )
  log_ends s (x ∷ log) ruled idle =
      ends_item s x.core x.did log ruled.1 ruled.2
      (log_ends (change after s x.core x.did) log ruled.2 idle)

  two_of : (s : State K) (log : List Item) → IsRuled s log → AreOfTwo log
  two_of s [] ruled = tt
  two_of s (x ∷ log) ruled = (ruled.0, two_of (change after s x.core x.did) log ruled.2)

  -- ---- its number of steps

  whole_steps : (s : State K) (c : ℕ) (o : Option Running)
      → (made_whole after s c o).steps ≡ s.steps
  whole_steps s c None = refl
  whole_steps s c (Some run) = refl

  item_counts : (s : State K) (c : ℕ) (did : Did)
      → s.steps + length (begun_by did) ≤ 2 ^ 64 - 1
      → (change after s c did).steps ≡ s.steps + length (begun_by did)
  item_counts s c (Opened k regs step) small = grind (arith, small)
  item_counts s c (Closed k regs) small =
      let same = whole_steps s c s.running in omega (arith, same)
  item_counts s c (Broken k regs why left) small = omega arith
  item_counts s c (Fetched k regs at bytes) small = omega arith
  item_counts s c (Noted k regs act) small = omega arith
  item_counts s c (Denied why) small = omega arith
  item_counts s c (Mapping flash_page n space answer) small = omega arith
  item_counts s c (Unmapping at answer) small = omega arith
  item_counts s c (Missed at len) small = omega arith
  item_counts s c (Masked at len) small = omega arith
  item_counts s c (Unfetched at len why) small = omega arith

  -- each step that is begun is counted, as long as the count can show them
  log_counts : (s : State K) (log : List Item)
      → s.steps + length (begun_in (all_of log)) ≤ 2 ^ 64 - 1
      → (reached after s log).steps ≡ s.steps + length (begun_in (all_of log))
  log_counts s [] small = omega arith
  log_counts s (x ∷ log) small =
      let both = length-append (begun_by x.did) (begun_in (all_of log)) in
      let here = item_counts s x.core x.did (omega (arith, small, both)) in
      let later = log_counts (change after s x.core x.did) log (omega (arith, small, both, here)) in
      omega (arith, both, here, later)

-- ---- a leg in which the other core begins no step

module _ (drives works : Result (Unit {0}) NorFault → List Did → Type 0) (driver : ℕ)
    (pages : Map → Type 0) (holds : List ℕ → Type 0) (old new : CutDevice Ram) (journal : Kept)
    (leg : IsLeg drives works driver pages holds old new journal) (below : driver < 2)
    (steps : List Step) (drove : BeginsSteps steps leg.drove (share_of driver leg.left leg.right))
    (worked : begun_in (share_of (1 - driver) leg.left leg.right) ≡ [])
    (small : old.steps + length steps ≤ 2 ^ 64 - 1) where
  abbrev log : List Item
  log = leg.stands.stood.log

  abbrev last : State AnyDuty
  last = reached any_after (begun leg.base) log

  abbrev mine : List Did
  mine = share_of driver leg.left leg.right

  of_two : AreOfTwo log
  of_two = two_of any_part AnyGrants any_after leg.base.setting (begun leg.base) log
      leg.stands.stood.ruled

  -- its log begins what the driver does
  all_mine : begun_in (all_of log) ≡ begun_in mine
  all_mine = by driver below worked
    where
      by : (d : ℕ) → d < 2 → begun_in (share_of (1 - d) leg.left leg.right) ≡ []
          → begun_in (all_of log) ≡ begun_in (share_of d leg.left leg.right)
      by zero two none =
          left_begins log of_two (ap begun_in leg.stands.stood.right_is ∙ none)
          ∙ ap begun_in leg.stands.stood.left_is
      by (suc zero) two none =
          right_begins log of_two (ap begun_in leg.stands.stood.left_is ∙ none)
          ∙ ap begun_in leg.stands.stood.right_is
      by (suc (suc d)) two none = absurd (omega (arith, two))

  first : BeginsFirst steps mine
  first = begins_first steps leg.drove mine drove

  few : length (begun_in (all_of log)) ≤ length steps
  few =
      let same = ap (λ (l : List Step). length l) all_mine in
      let all = ap (λ (l : List Step). length l) first.1 in
      let both = length-append (begun_in mine) first.0 in
      omega (arith, same, all, both)

  from_old : leg.base.flash ≡ old.inner.bytes
  from_old = let e = leg.opening.flash_is in cc

  at_end : last.flash ≡ new.inner.bytes
  at_end =
      let told : leg.stands.flash ≡ leg.back.inner.bytes = let e = leg.stands.told in cc in
      ap (λ (t : State AnyDuty). t.flash) leg.stands.stood.leads ∙ told ∙ leg.same.bytes

  steps_end : last.steps ≡ new.steps
  steps_end = ap (λ (t : State AnyDuty). t.steps) leg.stands.stood.leads ∙ leg.same.steps

  counts : new.steps ≡ old.steps + length (begun_in (all_of log))
  counts =
      let begins : leg.base.steps ≡ old.steps = leg.opening.steps_are in
      let all = log_counts any_part AnyGrants any_after leg.base.setting (begun leg.base) log
      (omega (arith, begins, few, small)) in
      omega (arith, begins, all, steps_end)

  abbrev EndsSo : Type 0
  EndsSo = EndsFrom any_part AnyGrants any_after leg.base.setting (begun leg.base)
      (begun_in (all_of log)) last

  ends_so : EndsSo
  ends_so = log_ends any_part AnyGrants any_after leg.base.setting (begun leg.base) log
      leg.stands.stood.ruled (ap (λ (t : State AnyDuty). t.running) leg.stands.stood.leads)

  -- where nothing broke off, all steps are made
  pub leg_made : IsUnbroken old new.steps → leg.drove ≡ Ok tt
      → AreAllMade old.inner.bytes steps old.steps new.steps new.inner.bytes
  leg_made sound fine = at ends_so
    where
      whole : begun_in (all_of log) ≡ steps
      whole = all_mine ∙ subst (λ r. BeginsSteps steps r mine) fine drove

      at : EndsSo → AreAllMade old.inner.bytes steps old.steps new.steps new.inner.bytes
      at (inl made) = record {
        counted = counts ∙ ap (λ (l : List Step). old.steps + length l) whole;
        left_is = sym at_end ∙ made.0 ∙ ap (after_steps leg.base.flash) whole
            ∙ ap (λ (f : List ℕ). after_steps f steps) from_old;
      }
      at (inr torn) =
          absurd (not_bad drives works driver pages holds old new journal leg sound torn.1)

  -- where the power went off in it, the chosen step is torn
  pub leg_torn : (k : ℕ) → BrokeAt old.cut old.steps new.steps k → old.fail ≡ None
      → IsTornIn old.inner.bytes steps old.tear old.steps new.steps new.inner.bytes
  leg_torn k broke none = at ends_so
    where
      set : leg.base.setting ≡ setting_of old
      set = leg.opening.setting_is

      cut_is : leg.base.setting.cut ≡ Some k
      cut_is = ap (λ (c : CutSetting (Unit {0})). c.cut) set ∙ broke.chosen_is

      fail_is : leg.base.setting.fail ≡ None
      fail_is = ap (λ (c : CutSetting (Unit {0})). c.fail) set ∙ none

      sure : IsAhead leg.base.setting.cut leg.base.steps
          × IsAhead leg.base.setting.fail leg.base.steps
      sure = (
        subst (λ (c : Option ℕ). IsAhead c leg.base.steps) (sym cut_is)
            (let later = broke.later in let same = leg.opening.steps_are in
            omega (arith, later, same)),
        subst (λ (c : Option ℕ). IsAhead c leg.base.steps) (sym fail_is) tt,
      )

      at : EndsSo
          → IsTornIn old.inner.bytes steps old.tear old.steps new.steps new.inner.bytes
      at (inl made) =
          let ahead : last.steps < k =
          subst (λ (c : Option ℕ). IsAhead c last.steps) cut_is (made.1 (λ idle. sure)).0 in
          let there = broke.last in absurd (omega (arith, ahead, there, steps_end))
      at (inr torn) =
          let begun_are : begun_in (all_of log) ≡ torn.0.made ++ torn.0.step ∷ [] = torn.0.is in
          let long = ap (λ (l : List Step). length l) begun_are in
          let both = length-append torn.0.made (torn.0.step ∷ []) in
          record {
            made = torn.0.made;
            step = torn.0.step;
            rest = first.0;
            split = first.1
                ∙ ap (λ (l : List Step). l ++ first.0) (sym all_mine ∙ begun_are)
                ∙ append_assoc torn.0.made (torn.0.step ∷ []) first.0;
            counted = let all = counts in omega (arith, all, long, both);
            left_is = sym at_end ∙ torn.0.left_is
                ∙ ap (torn_by (after_steps leg.base.flash torn.0.made) torn.0.step)
                (ap (λ (c : CutSetting (Unit {0})). c.tear) set)
                ∙ ap (λ (f : List ℕ). torn_by (after_steps f torn.0.made) torn.0.step old.tear)
                from_old;
          }
