-- How many steps a leg has: those that both shares begin; and, where nothing broke off, those of
-- both lists.
use Rattle.std.proofs.Common.{◌≡◌, ◌⊎◌, inl, inr, ℕ, suc, ◌+◌, ◌-◌, ◌^◌, ◌<◌, ◌≤◌, min, List, [], ◌∷◌, length, Option, Some, None, Result, refl, ap, ◌∙◌, arith}
use Rattle.nor_device.specs.declared.step.Step.{Step}
use Rattle.nor_device.specs.declared.nor.NorFault.{NorFault}
use Rattle.nor_device.specs.Ram.{Ram}
use Rattle.crash_images.specs.declared.cut.CutSetting.{CutSetting}
use Rattle.crash_images.specs.Cut.{CutDevice, IsBad}
use Rattle.mmu_map.specs.Map.{Map}
use Rattle.bus_hub.specs.declared.did.Did.{Did}
use Rattle.bus_hub.specs.declared.did.Did.TheVariants.{Opened, Closed, Broken, Fetched, Noted, Denied, Mapping, Unmapping, Missed, Masked, Unfetched}
use Rattle.bus_hub.specs.declared.did.Running.{Running}
use Rattle.bus_hub.specs.declared.duty.AnyDuty.{AnyDuty}
use Rattle.bus_hub.specs.Hub.{begun}
use Rattle.bus_hub.specs.Log.{Item, Rule, Ruled, Runs, State, change, made_whole, reached}
use Rattle.bus_hub.specs.Room.{Kept}
use Rattle.bus_hub.specs.Shares.{AreUnbroken, all_of, begun_of, made, made_from}
use Rattle.power_cut.specs.Counts.{opened_by, opened_in}
use Rattle.power_cut.specs.Device.{IsUnbroken, MayEnd, MayRefuse, MayTear, MustRefuse}
use Rattle.power_cut.specs.Leg.{AnyGrants, IsLeg, any_after, any_part}
use Rattle.power_cut.proofs.MergeLemmas.{Merges, merged_shares, not_bad, unbroken_log}

-- ---- the number of steps behind a log

module _ {K P : Type 0} (part : K → ℕ → P) (grants : P → Step → Type 0)
    (after : K → ℕ → Step → K) where
  abbrev IsRuled : CutSetting (Unit {0}) → State K → List Item → Type 0
  IsRuled = Ruled MayEnd MayTear MayRefuse MustRefuse part grants after

  whole_count : (s : State K) (c : ℕ) (o : Option Running)
      → (made_whole after s c o).steps ≡ s.steps
  whole_count s c None = refl
  whole_count s c (Some run) = refl

  -- an item counts up by one at most, unless the count stands at its end
  item_count : (s : State K) (c : ℕ) (did : Did) → (change after s c did).steps
      ≡ min (s.steps + opened_by did) (2 ^ 64 - 1) ⊎ ((change after s c did).steps ≡ s.steps
      × (opened_by did ≡ 0))
  item_count s c (Opened k regs step) = inl refl
  item_count s c (Closed k regs) = inr (whole_count s c s.running, refl)
  item_count s c (Broken k regs why left) = inr (refl, refl)
  item_count s c (Fetched k regs at bytes) = inr (refl, refl)
  item_count s c (Noted k regs act) = inr (refl, refl)
  item_count s c (Denied why) = inr (refl, refl)
  item_count s c (Mapping flash_page n space answer) = inr (refl, refl)
  item_count s c (Unmapping at answer) = inr (refl, refl)
  item_count s c (Missed at len) = inr (refl, refl)
  item_count s c (Masked at len) = inr (refl, refl)
  item_count s c (Unfetched at len why) = inr (refl, refl)

  -- so many steps were begun, where the count has not come to its end
  log_count : (s : State K) (log : List Item)
      → ((reached after s log).steps ≡ s.steps + opened_in (all_of log))
      ⊎ (2 ^ 64 - 1 ≤ (reached after s log).steps)
  log_count s [] = inl (omega arith)
  log_count s (x ∷ log) =
      let here = item_count s x.core x.did in
      let later = log_count (change after s x.core x.did) log in
      by (change after s x.core x.did) (reached after (change after s x.core x.did) log)
      (opened_by x.did) (opened_in (all_of log)) here later
      (rises (change after s x.core x.did) log)
    where
      by : (t u : State K) (one more : ℕ)
          → (t.steps ≡ min (s.steps + one) (2 ^ 64 - 1)) ⊎ ((t.steps ≡ s.steps) × (one ≡ 0))
          → (u.steps ≡ t.steps + more) ⊎ (2 ^ 64 - 1 ≤ u.steps)
          → min t.steps (2 ^ 64 - 1) ≤ u.steps
          → (u.steps ≡ s.steps + (one + more)) ⊎ (2 ^ 64 - 1 ≤ u.steps)
      by t u one more here later up = grind arith

      rises : (t : State K) (log : List Item)
          → min t.steps (2 ^ 64 - 1) ≤ (reached after t log).steps
      rises t [] = omega arith
      rises t (x ∷ log) =
          let here = item_count t x.core x.did in
          let later = rises (change after t x.core x.did) log in
          grind (arith, here, later)

  -- ---- steps that were begun and made

  abbrev runs_count : Option Running → ℕ
  runs_count None = 0
  runs_count (Some run) = 1

  item_made : (set : CutSetting (Unit {0})) (s : State K) (c : ℕ) (did : Did) (rest : List Did)
      (end : ℕ) → Rule MayEnd MayTear MayRefuse MustRefuse part grants after set s c did
      → AreUnbroken (did ∷ rest)
      → opened_in rest + runs_count (change after s c did).running
      ≡ length (made_from (begun_of (change after s c did).running) rest) + end
      → opened_in (did ∷ rest) + runs_count s.running
      ≡ length (made_from (begun_of s.running) (did ∷ rest)) + end
  item_made set s c (Opened k regs step) rest end rule whole later =
      let none : runs_count s.running ≡ 0 = ap runs_count rule.0 in omega (arith, later, none)
  item_made set s c (Closed k regs) rest end rule whole later = at s.running rule.0
    where
      at : (o : Option Running) → Runs c (λ run. run.k ≡ k) o
          → opened_in (Closed k regs ∷ rest) + runs_count o
          ≡ length (made_from (begun_of o) (Closed k regs ∷ rest)) + end
      at None runs = absurd runs
      at (Some run) runs = omega (arith, later)
  item_made set s c (Broken k regs why left) rest end rule whole later = absurd whole
  item_made set s c (Fetched k regs at bytes) rest end rule whole later =
      omega (arith, later)
  item_made set s c (Noted k regs act) rest end rule whole later =
      omega (arith, later)
  item_made set s c (Denied why) rest end rule whole later =
      omega (arith, later)
  item_made set s c (Mapping flash_page n space answer) rest end rule whole later =
      omega (arith, later)
  item_made set s c (Unmapping at answer) rest end rule whole later =
      omega (arith, later)
  item_made set s c (Missed at len) rest end rule whole later =
      omega (arith, later)
  item_made set s c (Masked at len) rest end rule whole later =
      omega (arith, later)
  item_made set s c (Unfetched at len why) rest end rule whole later =
      omega (arith, later)

  -- a step that was begun was made, or still runs
  made_count : (set : CutSetting (Unit {0})) (s : State K) (log : List Item) → IsRuled set s log
      → ¬ IsBad set.cut set.fail (reached after s log).steps
      → opened_in (all_of log) + runs_count s.running
      ≡ length (made_from (begun_of s.running) (all_of log))
      + runs_count (reached after s log).running
  made_count set s [] ruled sound = refl
  made_count set s (x ∷ log) ruled sound =
      item_made set s x.core x.did (all_of log)
      (runs_count (reached after (change after s x.core x.did) log).running) ruled.1
      (unbroken_log part grants after set s (x ∷ log) ruled sound)
      (made_count set (change after s x.core x.did) log ruled.2 sound)

merged_length : (zs xs ys : List Step) → Merges xs ys zs → length zs ≡ length xs + length ys
merged_length [] xs ys merged =
    let none_left : length xs ≡ 0 = ap (λ (l : List Step). length l) merged.0 in
    let none_right : length ys ≡ 0 = ap (λ (l : List Step). length l) merged.1 in
    omega (arith, none_left, none_right)
merged_length (z ∷ zs) xs ys (inl (rest, is, merged)) =
    let same : length xs ≡ suc (length rest) = ap (λ (l : List Step). length l) is in
    let later = merged_length zs rest ys merged in
    omega (arith, same, later)
merged_length (z ∷ zs) xs ys (inr (rest, is, merged)) =
    let same : length ys ≡ suc (length rest) = ap (λ (l : List Step). length l) is in
    let later = merged_length zs xs rest merged in
    omega (arith, same, later)

-- ---- of a leg

module _ (drives works : Result (Unit {0}) NorFault → List Did → Type 0) (driver : ℕ)
    (pages : Map → Type 0) (holds : List ℕ → Type 0) (old new : CutDevice Ram) (journal : Kept)
    (leg : IsLeg drives works driver pages holds old new journal) (below : new.steps < 2 ^ 64 - 1)
  where
    abbrev log : List Item
    log = leg.stands.stood.log

    steps_end : (reached any_after (begun leg.base) log).steps ≡ new.steps
    steps_end = ap (λ (t : State AnyDuty). t.steps) leg.stands.stood.leads ∙ leg.same.steps

    -- as many steps were begun in its log
    pub leg_counts : new.steps ≡ old.steps + opened_in (all_of log)
    leg_counts =
        let first : leg.base.steps ≡ old.steps = leg.opening.steps_are in
        elim (log_count any_part AnyGrants any_after (begun leg.base) log) [
          | inl is ↦ omega (arith, is, steps_end, first)
          | inr much ↦ absurd (omega (arith, much, steps_end, below))
        ]

    -- where nothing broke off, they are those that both shares made
    pub whole_leg_counts : IsUnbroken old new.steps
        → new.steps ≡ old.steps + (length (made leg.left) + length (made leg.right))
    whole_leg_counts sound =
        let idle : runs_count any_part AnyGrants any_after
        (reached any_after (begun leg.base) log).running ≡ 0 =
        ap (λ (t : State AnyDuty). runs_count any_part AnyGrants any_after t.running)
        leg.stands.stood.leads in
        let count = made_count any_part AnyGrants any_after leg.base.setting (begun leg.base) log
        leg.stands.stood.ruled
        (not_bad drives works driver pages holds old new journal leg sound) in
        let merged = merged_length (made (all_of log)) (made leg.left) (made leg.right)
        (merged_shares drives works driver pages holds old new journal leg) in
        let here = leg_counts in
        omega (arith, idle, count, merged, here)
