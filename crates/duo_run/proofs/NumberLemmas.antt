-- The number of steps of a device does not fall in a leg.
use Rattle.std.proofs.Common.{◌≡◌, ℕ, ◌+◌, ◌-◌, ◌^◌, ◌<◌, ◌≤◌, List, [], ◌∷◌, Option, Some, None, ap, subst, arith}
use Rattle.std.proofs.Math.Nat.{le-min, min-le_right}
use Rattle.nor_device.specs.declared.step.Step.{Step}
use Rattle.nor_device.specs.Ram.{Ram}
use Rattle.crash_images.specs.declared.cut.CutSetting.{CutSetting}
use Rattle.crash_images.specs.Cut.{CutDevice}
use Rattle.bus_hub.specs.declared.did.Base.{Base}
use Rattle.bus_hub.specs.declared.did.Did.{Did}
use Rattle.bus_hub.specs.declared.did.Did.TheVariants.{Opened, Closed, Broken, Fetched, Noted, Denied, Mapping, Unmapping, Missed, Masked, Unfetched}
use Rattle.bus_hub.specs.declared.did.Running.{Running}
use Rattle.bus_hub.specs.Hub.{Hub, begun}
use Rattle.bus_hub.specs.Log.{Item, State, change, made_whole, reached}
use Rattle.cache_gate.specs.Own.{OnBase}
use Rattle.ota_session.specs.Course.{Course, course_after}
use Rattle.duo_run.specs.Both.{StandsFor}

module _ {K : Type 0} (after : K → ℕ → Step → K) (before : ℕ) where
  -- as many steps as before at least, and no more than are counted
  record Grown (s : State K) : Type 0 where
    least : before ≤ s.steps
    most : s.steps ≤ 2 ^ 64 - 1

  grown_whole : (s : State K) (c : ℕ) (o : Option Running) → Grown s
      → Grown (made_whole after s c o)
  grown_whole s c None g = g
  grown_whole s c (Some run) g = record { least = g.least; most = g.most }

  grown_item : (s : State K) (c : ℕ) (did : Did) → Grown s → Grown (change after s c did)
  grown_item s c (Opened k regs step) g = record {
    least = le-min (let l = g.least in omega arith)
        (let l = g.least in let m = g.most in omega arith);
    most = min-le_right (s.steps + 1) (2 ^ 64 - 1);
  }
  grown_item s c (Closed k regs) g =
      let w = grown_whole s c s.running g in record { least = w.least; most = w.most }
  grown_item s c (Broken k regs why left) g = record { least = g.least; most = g.most }
  grown_item s c (Fetched k regs at bytes) g = record { least = g.least; most = g.most }
  grown_item s c (Noted k regs act) g = record { least = g.least; most = g.most }
  grown_item s c (Denied why) g = record { least = g.least; most = g.most }
  grown_item s c (Mapping flash_page n space answer) g =
      record { least = g.least; most = g.most }
  grown_item s c (Unmapping at answer) g = record { least = g.least; most = g.most }
  grown_item s c (Missed at len) g = g
  grown_item s c (Masked at len) g = g
  grown_item s c (Unfetched at len why) g = record { least = g.least; most = g.most }

  grown_log : (s : State K) (log : List Item) → Grown s → Grown (reached after s log)
  grown_log s [] g = g
  grown_log s (x ∷ log) g =
      grown_log (change after s x.core x.did) log (grown_item s x.core x.did g)

-- a bus over which both cores are closed
pub in_step : (o : Option (Base (CutSetting (Unit {0})) Course)) (before : ℕ)
    (h : Hub (CutDevice Ram) Course) (left right : List Did) → before < 2 ^ 64
    → OnBase o (λ b. b.steps ≡ before) → OnBase o (λ b. StandsFor h b left right)
    → before ≤ h.dev.steps
in_step None before h left right small is stands = absurd is
in_step (Some b) before h left right small is stands =
    let grown = grown_log course_after before (begun b) stands.stood.log
    (record { least = omega arith; most = omega arith }) in
    let steps : (reached course_after (begun b) stands.stood.log).steps ≡ h.dev.steps =
    ap (λ (s : State Course). s.steps) stands.stood.leads in
    subst (λ (n : ℕ). before ≤ n) steps grown.least
