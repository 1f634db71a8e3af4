-- The flash at an entry: the first one after the steps that were made before it.
use Rattle.std.specs.Prelude.{◌≡◌, ℕ, List, [], ◌∷◌, ◌++◌, refl, Option, Some, None}
use Rattle.std.proofs.Common.{◌∙◌, sym, ap, subst}
use Rattle.nor_device.specs.declared.step.Step.{Step}
use Rattle.nor_device.specs.declared.nor.StepEnd.{StepEnd}
use Rattle.nor_device.specs.declared.nor.NorFault.{NorFault}
use Rattle.nor_device.specs.Flash.{after_steps}
use Rattle.nor_device.proofs.FlashLaws.{after_steps_append}
use Rattle.mmu_map.specs.Map.{Map}
use Rattle.bus_hub.specs.declared.did.Running.{Running}
use Rattle.bus_hub.specs.declared.did.Did.{Did}
use Rattle.bus_hub.specs.declared.did.Did.TheVariants.{Opened, Closed, Broken, Fetched, Noted, Denied, Mapping, Unmapping, Missed, Masked, Unfetched}
use Rattle.bus_hub.specs.Fetch.{IsRead}
use Rattle.bus_hub.specs.Log.{Item, item, State, Runs, Rule, change, made_whole, reached}
use Rattle.bus_hub.specs.Shares.{Begun, begun_of, steps_of, open_after, made_by, made_from, made, all_of, AreUnbroken, map_after_item, map_after_all, ShowsFlash}
use Rattle.bus_hub.proofs.Logs.{Keeps, ruled-front, ruled-back}

module _ {S K P : Type 0}
    (may_end : S → ℕ → StepEnd → Type 0) (may_tear : S → ℕ → List ℕ → Step → List ℕ → Type 0)
    (may_refuse : S → ℕ → NorFault → Type 0) (must_refuse : S → ℕ → Type 0)
    (part : K → ℕ → P) (grants : P → Step → Type 0) (after : K → ℕ → Step → K) where
  abbrev Obeys : S → State K → ℕ → Did → Type 0
  Obeys = Rule may_end may_tear may_refuse must_refuse part grants after

  -- what an item makes of flash, open step and map
  pub record Leaves (s t : State K) (did : Did) : Type 0 where
    pub flash_is : t.flash ≡ after_steps s.flash (made_by (begun_of s.running) did)
    pub open_is : begun_of t.running ≡ open_after (begun_of s.running) did
    pub map_is : t.map ≡ map_after_item s.map did

  whole_flash : (s : State K) (c : ℕ) (Q : Running → Type 0) (o : Option Running) → Runs c Q o
      → (made_whole after s c o).flash ≡ after_steps s.flash (steps_of (begun_of o))
  whole_flash s c Q None runs = absurd runs
  whole_flash s c Q (Some run) runs = refl

  whole_map : (s : State K) (c : ℕ) (o : Option Running) → (made_whole after s c o).map ≡ s.map
  whole_map s c None = refl
  whole_map s c (Some run) = refl

  leaves_item : (set : S) (s : State K) (c : ℕ) (did : Did) → AreUnbroken (did ∷ [])
      → Obeys set s c did → Leaves s (change after s c did) did
  leaves_item set s c (Opened k regs step) whole rule = record {
    flash_is = refl;
    open_is = refl;
    map_is = refl;
  }
  leaves_item set s c (Closed k regs) whole rule = record {
    flash_is = whole_flash s c (λ run. run.k ≡ k) s.running rule.0;
    open_is = refl;
    map_is = whole_map s c s.running;
  }
  leaves_item set s c (Broken k regs why left) whole rule = absurd whole
  leaves_item set s c (Fetched k regs at bytes) whole rule = record {
    flash_is = refl;
    open_is =
        refl;
    map_is = refl;
  }
  leaves_item set s c (Noted k regs act) whole rule = record {
    flash_is = refl;
    open_is = refl;
    map_is = refl;
  }
  leaves_item set s c (Denied why) whole rule = record {
    flash_is = refl;
    open_is = refl;
    map_is
        = refl;
  }
  leaves_item set s c (Mapping flash_page n space answer) whole rule = record {
    flash_is = refl;
    open_is = refl;
    map_is = refl;
  }
  leaves_item set s c (Unmapping at answer) whole rule = record {
    flash_is = refl;
    open_is =
        refl;
    map_is = refl;
  }
  leaves_item set s c (Missed at len) whole rule = record {
    flash_is = refl;
    open_is = refl;
    map_is = refl;
  }
  leaves_item set s c (Masked at len) whole rule = record {
    flash_is = refl;
    open_is = refl;
    map_is = refl;
  }
  leaves_item set s c (Unfetched at len why) whole rule = record {
    flash_is = refl;
    open_is = refl;
    map_is
        = refl;
  }

  -- of a log without a break, its first item and the others
  unbroken_first : (did : Did) (share : List Did) → AreUnbroken (did ∷ share)
      → AreUnbroken (did ∷ [])
  unbroken_first (Opened k regs step) share whole = tt
  unbroken_first (Closed k regs) share whole = tt
  unbroken_first (Broken k regs why left) share whole = whole
  unbroken_first (Fetched k regs at bytes) share whole = tt
  unbroken_first (Noted k regs act) share whole = tt
  unbroken_first (Denied why) share whole = tt
  unbroken_first (Mapping flash_page n space answer) share whole = tt
  unbroken_first (Unmapping at answer) share whole = tt
  unbroken_first (Missed at len) share whole = tt
  unbroken_first (Masked at len) share whole = tt
  unbroken_first (Unfetched at len why) share whole = tt

  unbroken_later : (did : Did) (share : List Did) → AreUnbroken (did ∷ share) → AreUnbroken share
  unbroken_later (Opened k regs step) share whole = whole
  unbroken_later (Closed k regs) share whole = whole
  unbroken_later (Broken k regs why left) share whole = absurd whole
  unbroken_later (Fetched k regs at bytes) share whole = whole
  unbroken_later (Noted k regs act) share whole = whole
  unbroken_later (Denied why) share whole = whole
  unbroken_later (Mapping flash_page n space answer) share whole = whole
  unbroken_later (Unmapping at answer) share whole = whole
  unbroken_later (Missed at len) share whole = whole
  unbroken_later (Masked at len) share whole = whole
  unbroken_later (Unfetched at len why) share whole = whole

  -- the flash and the map after a log
  pub flash_of_log : (set : S) (s : State K) (log : List Item)
      → Keeps may_end may_tear may_refuse must_refuse part grants after set s log
      → AreUnbroken (all_of log)
      → ((reached after s log).flash
      ≡ after_steps s.flash (made_from (begun_of s.running) (all_of log)))
      × ((reached after s log).map ≡ map_after_all s.map (all_of log))
  flash_of_log set s [] all whole = (refl, refl)
  flash_of_log set s (x ∷ log) all whole =
      let t = change after s x.core x.did in
      let now = leaves_item set s x.core x.did (unbroken_first x.did (all_of log) whole) all.1 in
      let later = flash_of_log set t log all.2 (unbroken_later x.did (all_of log) whole) in (
        later.0
            ∙ ap (λ (o : Option Begun). after_steps t.flash (made_from o (all_of log))) now.open_is
            ∙ ap (λ (f : List ℕ). after_steps f (made_from (open_after (begun_of s.running) x.did)
            (all_of log))) now.flash_is
            ∙ sym (after_steps_append s.flash (made_by (begun_of s.running) x.did)
            (made_from (open_after (begun_of s.running) x.did) (all_of log))),
        later.1 ∙ ap (λ (m : Map). map_after_all m (all_of log)) now.map_is,
      )

  -- each fetch shows the flash at its entry
  pub shows_log : (set : S) (s : State K) (log : List Item)
      → Keeps may_end may_tear may_refuse must_refuse part grants after set s log
      → begun_of s.running ≡ None → ShowsFlash s.map s.flash log
  shows_log set s log all idle before later c k regs at bytes split whole =
      let parts : Keeps may_end may_tear may_refuse must_refuse part grants after set s
      (before ++ item c (Fetched k regs at bytes) ∷ later) =
      subst (λ (l : List Item). Keeps may_end may_tear may_refuse must_refuse part grants after
      set s l)
      split all in
      let front = ruled-front may_end may_tear may_refuse must_refuse part grants after set s before
      (item c (Fetched k regs at bytes) ∷ later) parts in
      let back = ruled-back may_end may_tear may_refuse must_refuse part grants after set s before
      (item c (Fetched k regs at bytes) ∷ later) parts in
      let there = flash_of_log set s before front whole in
      let flash_is : (reached after s before).flash ≡ after_steps s.flash (made (all_of before)) =
      there.0 ∙ ap (λ (o : Option Begun). after_steps s.flash (made_from o (all_of before))) idle in
      subst (λ (m : Map). IsRead m (after_steps s.flash (made (all_of before))) at bytes) there.1
      (subst (λ (f : List ℕ). IsRead (reached after s before).map f at bytes) flash_is back.1.2)
