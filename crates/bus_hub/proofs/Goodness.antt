-- Every flash that a loss of power may leave is good.
use Rattle.std.specs.Prelude.{◌≡◌, ◌↔◌, ℕ, ◌<◌, Bool, List, Option, Some, None}
use Rattle.std.proofs.Common.{sym, subst}
use Rattle.nor_device.specs.declared.step.Step.{Step}
use Rattle.nor_device.specs.declared.nor.StepEnd.{StepEnd}
use Rattle.nor_device.specs.declared.nor.NorFault.{NorFault}
use Rattle.nor_device.specs.Flash.{applied}
use Rattle.nor_device.specs.Torn.{Torn}
use Rattle.bus_hub.specs.declared.did.Running.{Running}
use Rattle.bus_hub.specs.declared.did.Did.{Did}
use Rattle.bus_hub.specs.declared.did.Did.TheVariants.{Opened, Closed, Broken, Fetched, Noted, Denied, Mapping, Unmapping, Missed, Masked, Unfetched}
use Rattle.bus_hub.specs.declared.did.Base.{Base}
use Rattle.bus_hub.specs.Log.{State, Runs, Rule, change, made_whole}
use Rattle.bus_hub.specs.Hub.{Hub, Stands, begun, state_of, step_of}
use Rattle.bus_hub.specs.HubView.{IsGranted}
use Rattle.bus_hub.specs.Told.{IsSafe}
use Rattle.bus_hub.proofs.Logs.{kept}

module _ {S K P : Type 0}
    (may_end : S → ℕ → StepEnd → Type 0) (may_tear : S → ℕ → List ℕ → Step → List ℕ → Type 0)
    (may_refuse : S → ℕ → NorFault → Type 0) (must_refuse : S → ℕ → Type 0)
    (part : K → ℕ → P) (grants : P → Step → Type 0) (after : K → ℕ → Step → K)
    (good : List ℕ → K → List ℕ → Type 0)
    (torn_good : (first : List ℕ) (duty : K) (c : ℕ) (step : Step) (flash left : List ℕ)
    → good first duty flash → grants (part duty c) step → Torn flash step left
    → good first duty left)
    (made_good : (first : List ℕ) (duty : K) (c : ℕ) (step : Step) (flash : List ℕ)
    → good first duty flash → grants (part duty c) step
    → good first (after duty c step) (applied flash step)) where
  -- the flash is good, and the step that runs was allowed
  pub record IsGoodState (first : List ℕ) (s : State K) : Type 0 where
    pub flash_good : good first s.duty s.flash
    pub granted : IsGranted part grants s.duty s.running

  abbrev Obeys : S → State K → ℕ → Did → Type 0
  Obeys = Rule may_end may_tear may_refuse must_refuse part grants after

  -- a step made whole
  whole_good : (first : List ℕ) (s : State K) (c : ℕ) (Q : Running → Type 0) (o : Option Running)
      → Runs c Q o → good first s.duty s.flash → IsGranted part grants s.duty o
      → good first (made_whole after s c o).duty (made_whole after s c o).flash
  whole_good first s c Q None runs is granted = absurd runs
  whole_good first s c Q (Some run) runs is granted =
      made_good first s.duty c run.step s.flash is
      (subst (λ (n : ℕ). grants (part s.duty n) run.step) runs.0 granted.1)

  -- a step broken off
  broken_good : (first : List ℕ) (s : State K) (c k : ℕ) (left : List ℕ)
      (T : Running → Type 0) (o : Option Running)
      → Runs c (λ run. (run.k ≡ k) × Torn s.flash run.step left × T run) o
      → good first s.duty s.flash → IsGranted part grants s.duty o → good first s.duty left
  broken_good first s c k left T None runs is granted = absurd runs
  broken_good first s c k left T (Some run) runs is granted =
      torn_good first s.duty run.core run.step s.flash left is granted.1 runs.1.1

  -- what an item leaves
  pub item_good : (first : List ℕ) (set : S) (s : State K) (c : ℕ) (did : Did) → c < 2
      → Obeys set s c did → IsGoodState first s → IsGoodState first (change after s c did)
  item_good first set s c (Opened k regs step) small rule is = record {
    flash_good = is.flash_good;
    granted = (small, rule.1);
  }
  item_good first set s c (Closed k regs) small rule is = record {
    flash_good = whole_good first s c (λ run. run.k ≡ k) s.running rule.0 is.flash_good is.granted;
    granted = tt;
  }
  item_good first set s c (Broken k regs why left) small rule is = record {
    flash_good = broken_good first s c k left
        (λ run. may_tear set s.steps s.flash run.step left) s.running rule.0
        is.flash_good is.granted;
    granted = tt;
  }
  item_good first set s c (Fetched k regs at bytes) small rule is = record {
    flash_good = is.flash_good;
    granted = is.granted;
  }
  item_good first set s c (Noted k regs act) small rule is = record {
    flash_good = is.flash_good;
    granted = is.granted;
  }
  item_good first set s c (Denied why) small rule is = record {
    flash_good = is.flash_good;
    granted = is.granted;
  }
  item_good first set s c (Mapping flash_page n space answer) small rule is = record {
    flash_good = is.flash_good;
    granted = is.granted;
  }
  item_good first set s c (Unmapping at answer) small rule is = record {
    flash_good = is.flash_good;
    granted = is.granted;
  }
  item_good first set s c (Missed at len) small rule is = is
  item_good first set s c (Masked at len) small rule is = is
  item_good first set s c (Unfetched at len why) small rule is = record {
    flash_good = is.flash_good;
    granted = is.granted;
  }

  module _ {D : Type 0} (bytes : D → Option (List ℕ)) (running : D → Option Step)
      (off : D → Bool) (steps faults : D → ℕ) (setting : D → S) (may_leave : D → List ℕ → Type 0)
      (idle_leaves : (device : D) (flash left : List ℕ) → running device ≡ None
      → bytes device ≡ Some flash → may_leave device left ↔ (left ≡ flash))
      (torn_leaves : (device : D) (step : Step) (flash left : List ℕ)
      → running device ≡ Some step → bytes device ≡ Some flash
      → may_leave device left ↔ Torn flash step left) where
    abbrev StandsBy : Hub D K → Base S K → List Did → List Did → Type 0
    StandsBy = Stands bytes off steps faults setting may_end may_tear may_refuse must_refuse
        part grants after good

    -- by the step that runs
    leaves_good : (first : List ℕ) (duty : K) (dev : D) (flash left : List ℕ) (o : Option Running)
        → running dev ≡ step_of o → bytes dev ≡ Some flash → IsGranted part grants duty o
        → good first duty flash → may_leave dev left → good first duty left
    leaves_good first duty dev flash left None runs told granted is leaves =
        subst (λ (g : List ℕ). good first duty g)
        (sym ((idle_leaves dev flash left runs told).0 leaves)) is
    leaves_good first duty dev flash left (Some run) runs told granted is leaves =
        torn_good first duty run.core run.step flash left is granted.1
        ((torn_leaves dev run.step flash left runs told).0 leaves)

    pub good_now : (h : Hub D K) → running h.dev ≡ step_of h.running
        → IsSafe StandsBy may_leave good h
    good_now h runs b left right flash s leaves =
        let there : IsGoodState b.flash (state_of h s.flash (steps h.dev) s.noted s.is_off) =
        subst (λ (state : State K). IsGoodState b.flash state) s.stood.leads
        (kept may_end may_tear may_refuse must_refuse part grants after b.setting
        (λ state. IsGoodState b.flash state)
        (λ state c did small rule is. item_good b.flash b.setting state c did small rule is)
        (begun b) s.stood.log s.stood.ruled (record {
          flash_good = s.good_first;
          granted = tt;
        })) in
        leaves_good b.flash h.duty h.dev s.flash flash h.running runs s.told there.granted
        there.flash_good leaves
