-- What was fixed at the opening is fixed now, and so ranges in it can be fetched.
use Rattle.std.specs.Prelude.{◌≡◌, ℕ, ◌+◌, ◌-◌, ◌*◌, ◌≤◌, Bool, List, length, Option, Some, None, refl}
use Rattle.std.proofs.Common.{sym, ap, subst, arith}
use Rattle.nor_device.specs.declared.step.Step.{Step}
use Rattle.nor_device.specs.declared.nor.StepEnd.{StepEnd}
use Rattle.nor_device.specs.declared.nor.NorFault.{NorFault}
use Rattle.mmu_map.specs.Map.{Map, IsWhole, IsForGood, IsFixedAt, IsFreeRun, use_in, translated, flash_address, fixed}
use Rattle.mmu_map.specs.Place.{place_of}
use Rattle.mmu_map.specs.Runs.{flash_page_of}
use Rattle.mmu_map.specs.declared.page_use.PageUse.{PageUse}
use Rattle.mmu_map.specs.Calls.{FixedAt}
use Rattle.mmu_map.proofs.Fixed.{KeepsFixed, keeps_nothing_new, keeps_then, keeps, map_keeps, unmap_keeps, fixed_there, leads_there}
use Rattle.bus_hub.specs.declared.did.Running.{Running}
use Rattle.bus_hub.specs.declared.did.Did.{Did}
use Rattle.bus_hub.specs.declared.did.Did.TheVariants.{Opened, Closed, Broken, Fetched, Noted, Denied, Mapping, Unmapping, Missed, Masked, Unfetched}
use Rattle.bus_hub.specs.declared.did.Base.{Base}
use Rattle.bus_hub.specs.Fetch.{IsFixed, IsInFlash, IsUnmapped}
use Rattle.bus_hub.specs.Log.{State, Rule, change, made_whole}
use Rattle.bus_hub.specs.Hub.{Hub, Stands, begun}
use Rattle.bus_hub.proofs.Logs.{kept}
use Rattle.bus_hub.proofs.Stops.{size_now}

-- an address of a page that is kept leads where it led
same_address : (m after : Map) (at : ℕ)
    → use_in after (place_of at) ≡ use_in m (place_of at) → translated after at ≡ translated m at
same_address m after at same =
    ap (λ (used : PageUse). flash_address at (flash_page_of used)) same

-- a range that is fixed stays so in a map that keeps what is fixed
pub range_kept : (m after : Map) (size at len : ℕ) → KeepsFixed m after → IsFixed m size at len
    → IsFixed after size at len
range_kept m after size at len keeping range = record {
  fixed = λ i within. subst IsForGood (sym (keeping.same (at + i) (range.fixed i within)))
      (range.fixed i within);
  inside = λ i within. subst (λ (to : Option ℕ). IsInFlash to size)
      (sym (same_address m after (at + i) (keeping.same (at + i) (range.fixed i within))))
      (range.inside i within);
}

pub range_fixed : (m : Map) (at f n size from len : ℕ) → IsWhole m → IsFreeRun m at n
    → IsFixed m size from len → IsFixed (fixed m at f n) size from len
range_fixed m at f n size from len good free range =
    range_kept m (fixed m at f n) size from len (keeps m (FixedAt at f n) good free) range

-- a range inside pages that were just fixed
pub range_there : (m : Map) (at f n size from len : ℕ) → IsWhole m → IsFreeRun m at n
    → at ≤ from → from + len ≤ at + n * 65536 → f * 65536 + (from - at) + len ≤ size
    → IsFixed (fixed m at f n) size from len
range_there m at f n size from len good free after before small = record {
  fixed = λ i within. fixed_there m at f n (from + i) good free (omega arith) (omega arith);
  inside = λ i within. subst (λ (to : Option ℕ). IsInFlash to size)
      (sym (leads_there m at f n (from + i) good free (omega arith) (omega arith))) (omega arith);
}

-- a range that is fixed is not refused as unmapped
pub not_unmapped : (m : Map) (size at len : ℕ) → IsFixed m size at len → ¬ IsUnmapped m size at len
not_unmapped m size at len range none = none.beyond (range.inside none.place none.within)

module _ {S K P : Type 0}
    (may_end : S → ℕ → StepEnd → Type 0) (may_tear : S → ℕ → List ℕ → Step → List ℕ → Type 0)
    (may_refuse : S → ℕ → NorFault → Type 0) (must_refuse : S → ℕ → Type 0)
    (part : K → ℕ → P) (grants : P → Step → Type 0) (after : K → ℕ → Step → K) where
  whole_map : (s : State K) (c : ℕ) (o : Option Running) → (made_whole after s c o).map ≡ s.map
  whole_map s c None = refl
  whole_map s c (Some run) = refl

  -- each item keeps what is fixed
  item_keeps : (set : S) (s : State K) (c : ℕ) (did : Did)
      → Rule may_end may_tear may_refuse must_refuse part grants after set s c did
      → IsWhole s.map → KeepsFixed s.map (change after s c did).map
  item_keeps set s c (Opened k regs step) rule good = keeps_nothing_new s.map good
  item_keeps set s c (Closed k regs) rule good =
      subst (λ (m : Map). KeepsFixed s.map m) (sym (whole_map s c s.running))
      (keeps_nothing_new s.map good)
  item_keeps set s c (Broken k regs why left) rule good = keeps_nothing_new s.map good
  item_keeps set s c (Fetched k regs at bytes) rule good = keeps_nothing_new s.map good
  item_keeps set s c (Noted k regs act) rule good = keeps_nothing_new s.map good
  item_keeps set s c (Denied why) rule good = keeps_nothing_new s.map good
  item_keeps set s c (Mapping flash_page n space answer) rule good =
      map_keeps s.map flash_page n space answer good rule.1
  item_keeps set s c (Unmapping at answer) rule good = unmap_keeps s.map at answer good rule.1
  item_keeps set s c (Missed at len) rule good = keeps_nothing_new s.map good
  item_keeps set s c (Masked at len) rule good = keeps_nothing_new s.map good
  item_keeps set s c (Unfetched at len why) rule good = keeps_nothing_new s.map good

  module _ {D : Type 0} (bytes : D → Option (List ℕ)) (size : D → ℕ) (off : D → Bool)
      (steps faults : D → ℕ) (setting : D → S) (good : List ℕ → K → List ℕ → Type 0)
      (sized : (device : D) (flash : List ℕ) → bytes device ≡ Some flash
      → length flash ≡ size device) where
    abbrev StandsBy : Hub D K → Base S K → List Did → List Did → Type 0
    StandsBy = Stands bytes off steps faults setting may_end may_tear may_refuse must_refuse
        part grants after good

    -- so does the log
    pub keeps_now : (h : Hub D K) (b : Base S K) (left right : List Did) → StandsBy h b left right
        → KeepsFixed b.map h.map
    keeps_now h b left right s =
        subst (λ (t : State K). KeepsFixed b.map t.map) s.stood.leads
        (kept may_end may_tear may_refuse must_refuse part grants after b.setting
        (λ t. KeepsFixed b.map t.map)
        (λ t c did small rule keeping. keeps_then b.map t.map (change after t c did).map keeping
        (item_keeps b.setting t c did rule keeping.good))
        (begun b) s.stood.log s.stood.ruled (keeps_nothing_new b.map s.whole_first))

    pub pages_now : (h : Hub D K) (b : Base S K) (left right : List Did) (at : ℕ)
        → StandsBy h b left right → IsFixedAt b.map at
        → use_in h.map (place_of at) ≡ use_in b.map (place_of at)
    pages_now h b left right at s is_fixed = (keeps_now h b left right s).same at is_fixed

    pub range_now : (h : Hub D K) (b : Base S K) (left right : List Did) (at len : ℕ)
        → StandsBy h b left right → IsFixed b.map (length b.flash) at len
        → IsFixed h.map (size h.dev) at len
    range_now h b left right at len s range =
        subst (λ (n : ℕ). IsFixed h.map n at len)
        (size_now may_end may_tear may_refuse must_refuse part grants after bytes size off steps
        faults setting good sized h b left right s)
        (range_kept b.map h.map (length b.flash) at len (keeps_now h b left right s) range)
