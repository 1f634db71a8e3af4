-- How many steps a leg begins: no more than both cores were to make, and all of these where nothing
-- broke off.
use Rattle.std.proofs.Common.{◌==◌, ◌≡◌, ◌≤◌, ◌<◌, ℕ, zero, suc, ◌+◌, ◌-◌, ◌^◌, cond, List, [], ◌∷◌, length, Option, Some, None, Result, Ok, refl, ap, ◌∙◌, subst, arith}
use Rattle.nor_device.specs.declared.step.Step.{Step}
use Rattle.nor_device.specs.declared.nor.NorFault.{NorFault}
use Rattle.nor_device.specs.Ram.{Ram}
use Rattle.crash_images.specs.declared.cut.CutSetting.{CutSetting}
use Rattle.crash_images.specs.Cut.{CutDevice}
use Rattle.mmu_map.specs.Map.{Map}
use Rattle.bus_hub.specs.declared.did.Did.{Did}
use Rattle.bus_hub.specs.declared.did.Did.TheVariants.{Opened, Closed, Broken, Fetched, Noted, Denied, Mapping, Unmapping, Missed, Masked, Unfetched}
use Rattle.bus_hub.specs.declared.did.Running.{Running}
use Rattle.bus_hub.specs.declared.duty.AnyDuty.{AnyDuty}
use Rattle.bus_hub.specs.Hub.{begun}
use Rattle.bus_hub.specs.Log.{Item, Ruled, State, change, made_whole, of_core, reached}
use Rattle.bus_hub.specs.Room.{Kept}
use Rattle.bus_hub.specs.Shares.{all_of}
use Rattle.power_cut.specs.Counts.{opened_by, opened_in}
use Rattle.power_cut.specs.Device.{MayEnd, MayRefuse, MayTear, MustRefuse}
use Rattle.power_cut.specs.Leg.{AnyGrants, IsLeg, any_after, any_part, share_of}
use Rattle.power_cut.proofs.CountLemmas.{leg_counts}
use Rattle.duo_run.proofs.TakenLemmas.{HasTaken, taken_few}

-- ---- a log

module _ {K : Type 0} (after : K → ℕ → Step → K) where
  whole_few : (s : State K) (c : ℕ) (o : Option Running)
      → (made_whole after s c o).steps ≡ s.steps
  whole_few s c None = refl
  whole_few s c (Some run) = refl

  -- an item counts up by no more than the step that it begins
  item_few : (s : State K) (c : ℕ) (did : Did)
      → (change after s c did).steps ≤ s.steps + opened_by did
  item_few s c (Opened k regs step) = grind arith
  item_few s c (Closed k regs) = let same = whole_few s c s.running in omega (arith, same)
  item_few s c (Broken k regs why left) = omega arith
  item_few s c (Fetched k regs at bytes) = omega arith
  item_few s c (Noted k regs act) = omega arith
  item_few s c (Denied why) = omega arith
  item_few s c (Mapping flash_page n space answer) = omega arith
  item_few s c (Unmapping at answer) = omega arith
  item_few s c (Missed at len) = omega arith
  item_few s c (Masked at len) = omega arith
  item_few s c (Unfetched at len why) = omega arith

  log_few : (s : State K) (log : List Item)
      → (reached after s log).steps ≤ s.steps + opened_in (all_of log)
  log_few s [] = omega arith
  log_few s (x ∷ log) =
      let here = item_few s x.core x.did in
      let later = log_few (change after s x.core x.did) log in
      omega (arith, here, later)

-- what a core begins, it begins in one of both shares
item_shared : (c : ℕ) (did : Did) (left right : List Did) → c < 2
    → opened_in (cond (c == 0) (did ∷ left) left) + opened_in (cond (c == 1) (did ∷ right) right)
    ≡ opened_by did + (opened_in left + opened_in right)
item_shared zero did left right small = omega arith
item_shared (suc zero) did left right small = omega arith
item_shared (suc (suc c)) did left right small = absurd (omega (arith, small))

log_shared : (set : CutSetting (Unit {0})) (s : State AnyDuty) (log : List Item)
    → Ruled MayEnd MayTear MayRefuse MustRefuse any_part AnyGrants any_after set s log
    → opened_in (all_of log) ≡ opened_in (of_core 0 log) + opened_in (of_core 1 log)
log_shared set s [] ruled = omega arith
log_shared set s (x ∷ log) ruled =
    let here = item_shared x.core x.did (of_core 0 log) (of_core 1 log) ruled.0 in
    let later = log_shared set (change any_after s x.core x.did) log ruled.2 in
    omega (arith, here, later)

-- ---- a leg

module _ (drives works : Result (Unit {0}) NorFault → List Did → Type 0) (driver : ℕ)
    (pages : Map → Type 0) (holds : List ℕ → Type 0) (old new : CutDevice Ram) (journal : Kept)
    (leg : IsLeg drives works driver pages holds old new journal) where
  abbrev log : List Item
  log = leg.stands.stood.log

  abbrev mine : List Did
  mine = share_of driver leg.left leg.right

  abbrev theirs : List Did
  theirs = share_of (1 - driver) leg.left leg.right

  -- what both shares begin, its log begins
  both_begin : driver < 2 → opened_in (all_of log) ≡ opened_in mine + opened_in theirs
  both_begin below = by driver below
    where
      all : opened_in (all_of log) ≡ opened_in leg.left + opened_in leg.right
      all =
          let split = log_shared leg.base.setting (begun leg.base) log leg.stands.stood.ruled in
          let one = ap opened_in leg.stands.stood.left_is in
          let two = ap opened_in leg.stands.stood.right_is in
          omega (arith, split, one, two)

      by : (d : ℕ) → d < 2 → opened_in (all_of log)
          ≡ opened_in (share_of d leg.left leg.right)
          + opened_in (share_of (1 - d) leg.left leg.right)
      by zero small = all
      by (suc zero) small = let here = all in omega (arith, here)
      by (suc (suc d)) small = absurd (omega (arith, small))

  module _ (below : driver < 2) (list work : List Step)
      (drove : HasTaken list leg.drove (share_of driver leg.left leg.right))
      (worked : HasTaken work leg.worked (share_of (1 - driver) leg.left leg.right)) where
    -- no more steps than both were to make
    pub leg_few : new.steps ≤ old.steps + (length list + length work)
    leg_few =
        let ends : (reached any_after (begun leg.base) log).steps ≡ new.steps =
        ap (λ (t : State AnyDuty). t.steps) leg.stands.stood.leads ∙ leg.same.steps in
        let first : leg.base.steps ≡ old.steps = leg.opening.steps_are in
        let few = log_few any_after (begun leg.base) log in
        let both = both_begin below in
        let one = taken_few list leg.drove mine drove in
        let two = taken_few work leg.worked theirs worked in
        omega (arith, ends, first, few, both, one, two)

    -- and these where nothing broke off, as long as the count can show them
    pub leg_all : old.steps + (length list + length work) < 2 ^ 64 - 1
        → leg.drove ≡ Ok tt → leg.worked ≡ Ok tt
        → new.steps ≡ old.steps + (length list + length work)
    leg_all small fine good =
        let few = leg_few in
        let counts = leg_counts drives works driver pages holds old new journal leg
        (omega (arith, few, small)) in
        let both = both_begin below in
        let one = (subst (λ r. HasTaken list r mine) fine drove).1 in
        let two = (subst (λ r. HasTaken work r theirs) good worked).1 in
        omega (arith, counts, both, one, two)
