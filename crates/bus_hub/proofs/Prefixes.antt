-- What is good at every moment of a log.
use Rattle.std.specs.Prelude.{◌≡◌, ℕ, List, ◌++◌, Option, Some, None}
use Rattle.std.proofs.Common.{subst, sym}
use Rattle.nor_device.specs.declared.step.Step.{Step}
use Rattle.nor_device.specs.declared.nor.StepEnd.{StepEnd}
use Rattle.nor_device.specs.declared.nor.NorFault.{NorFault}
use Rattle.nor_device.specs.Flash.{applied}
use Rattle.nor_device.specs.Torn.{Torn}
use Rattle.bus_hub.specs.declared.did.Running.{Running}
use Rattle.bus_hub.specs.Log.{Item, State, reached}
use Rattle.bus_hub.specs.HubView.{IsGranted}
use Rattle.bus_hub.specs.Moments.{MayBeLeft}
use Rattle.bus_hub.proofs.Logs.{kept, Keeps, ruled-front}
use Rattle.bus_hub.proofs.Goodness.{IsGoodState, item_good}

module _ {S K P : Type 0}
    (may_end : S → ℕ → StepEnd → Type 0) (may_tear : S → ℕ → List ℕ → Step → List ℕ → Type 0)
    (may_refuse : S → ℕ → NorFault → Type 0) (must_refuse : S → ℕ → Type 0)
    (part : K → ℕ → P) (grants : P → Step → Type 0) (after : K → ℕ → Step → K)
    (good : List ℕ → K → List ℕ → Type 0)
    (torn_good : (first : List ℕ) (duty : K) (c : ℕ) (step : Step) (flash left : List ℕ)
    → good first duty flash → grants (part duty c) step → Torn flash step left
    → good first duty left)
    (made_good : (first : List ℕ) (duty : K) (c : ℕ) (step : Step) (flash : List ℕ)
    → good first duty flash → grants (part duty c) step
    → good first (after duty c step) (applied flash step)) where
  abbrev IsGoodAt : List ℕ → State K → Type 0
  IsGoodAt = IsGoodState may_end may_tear may_refuse must_refuse part grants after good torn_good made_good

  -- a flash that may be left is good by the duty of that moment
  left_good : (first : List ℕ) (duty : K) (flash left : List ℕ) (o : Option Running)
      → good first duty flash → IsGranted part grants duty o → MayBeLeft flash o left
      → good first duty left
  left_good first duty flash left None is granted leaves =
      subst (λ (g : List ℕ). good first duty g) (sym leaves) is
  left_good first duty flash left (Some run) is granted leaves =
      torn_good first duty run.core run.step flash left is granted.1 leaves

  -- behind every first part of a log, every flash that a loss of power may leave is good by the
  -- duty of that moment
  pub good_at_all : (first : List ℕ) (set : S) (s : State K) (before later : List Item)
      (left : List ℕ)
      → Keeps may_end may_tear may_refuse must_refuse part grants after set s (before ++ later)
      → good first s.duty s.flash → s.running ≡ None
      → MayBeLeft (reached after s before).flash (reached after s before).running left
      → good first (reached after s before).duty left
  good_at_all first set s before later left ruled is idle leaves =
      let here : IsGoodAt first (reached after s before) =
      kept may_end may_tear may_refuse must_refuse part grants after set (IsGoodAt first)
      (item_good may_end may_tear may_refuse must_refuse part grants after good torn_good
      made_good first set) s before
      (ruled-front may_end may_tear may_refuse must_refuse part grants after set s before later
      ruled)
      (record {
        flash_good = is;
        granted = subst (λ (o : Option Running). IsGranted part grants s.duty o) (sym idle) tt;
      }) in
      left_good first (reached after s before).duty (reached after s before).flash left
      (reached after s before).running here.flash_good here.granted leaves
