-- Power, size and number of steps by the log, and that nothing comes behind a stop.
use Rattle.std.specs.Prelude.{◌≡◌, ℕ, Bool, List, [], ◌∷◌, ◌++◌, length, refl, Option, Some, None}
use Rattle.std.proofs.Common.{◌∙◌, sym, ap, subst}
use Rattle.nor_device.specs.declared.step.Step.{Step}
use Rattle.nor_device.specs.declared.nor.StepEnd.{StepEnd}
use Rattle.nor_device.specs.declared.nor.NorFault.{NorFault}
use Rattle.nor_device.specs.Torn.{Torn}
use Rattle.nor_device.proofs.FlashLaws.{length_applied}
use Rattle.bus_hub.specs.declared.did.Running.{Running}
use Rattle.bus_hub.specs.declared.did.Did.{Did}
use Rattle.bus_hub.specs.declared.did.Did.TheVariants.{Opened, Closed, Broken, Fetched, Noted, Denied, Mapping, Unmapping, Missed, Masked, Unfetched}
use Rattle.bus_hub.specs.declared.did.Base.{Base}
use Rattle.bus_hub.specs.Log.{Item, State, Runs, Rule, change, made_whole, reached}
use Rattle.bus_hub.specs.Hub.{Hub, Stands, PowerIs, begun}
use Rattle.bus_hub.specs.Shares.{Begun, begun_of, open_after, open_from, all_of, off_after, off_after_all, count_after, count_after_all, IsStill, AreStill, StopsAt}
use Rattle.bus_hub.proofs.Logs.{Keeps, kept, ruled-back}

module _ {K : Type 0} (after : K → ℕ → Step → K) where
  -- one item: the open step, the power, the number of steps
  pub record Follows (s t : State K) (did : Did) : Type 0 where
    pub open_is : begun_of t.running ≡ open_after (begun_of s.running) did
    pub off_is : t.is_off ≡ off_after s.is_off did
    pub count_is : t.steps ≡ count_after s.steps did

  whole_steps : (s : State K) (c : ℕ) (o : Option Running) → (made_whole after s c o).steps
      ≡ s.steps
  whole_steps s c None = refl
  whole_steps s c (Some run) = refl

  follows : (s : State K) (c : ℕ) (did : Did) → Follows s (change after s c did) did
  follows s c (Opened k regs step) = record { open_is = refl; off_is = refl; count_is = refl }
  follows s c (Closed k regs) = record {
    open_is = refl;
    off_is = refl;
    count_is = whole_steps s c s.running;
  }
  follows s c (Broken k regs why left) = record { open_is = refl; off_is = refl; count_is = refl }
  follows s c (Fetched k regs at bytes) = record { open_is = refl; off_is = refl; count_is = refl }
  follows s c (Noted k regs act) = record { open_is = refl; off_is = refl; count_is = refl }
  follows s c (Denied why) = record { open_is = refl; off_is = refl; count_is = refl }
  follows s c (Mapping flash_page n space answer) = record {
    open_is = refl;
    off_is = refl;
    count_is = refl;
  }
  follows s c (Unmapping at answer) = record { open_is = refl; off_is = refl; count_is = refl }
  follows s c (Missed at len) = record { open_is = refl; off_is = refl; count_is = refl }
  follows s c (Masked at len) = record { open_is = refl; off_is = refl; count_is = refl }
  follows s c (Unfetched at len why) = record { open_is = refl; off_is = refl; count_is = refl }

  -- a log
  pub open_log : (s : State K) (log : List Item)
      → begun_of (reached after s log).running ≡ open_from (begun_of s.running) (all_of log)
  open_log s [] = refl
  open_log s (x ∷ log) =
      open_log (change after s x.core x.did) log
      ∙ ap (λ (o : Option Begun). open_from o (all_of log)) (follows s x.core x.did).open_is

  pub off_log : (s : State K) (log : List Item)
      → (reached after s log).is_off ≡ off_after_all s.is_off (all_of log)
  off_log s [] = refl
  off_log s (x ∷ log) =
      off_log (change after s x.core x.did) log
      ∙ ap (λ (o : Bool). off_after_all o (all_of log)) (follows s x.core x.did).off_is

  pub count_log : (s : State K) (log : List Item)
      → (reached after s log).steps ≡ count_after_all s.steps (all_of log)
  count_log s [] = refl
  count_log s (x ∷ log) =
      count_log (change after s x.core x.did) log
      ∙ ap (λ (n : ℕ). count_after_all n (all_of log)) (follows s x.core x.did).count_is

-- no open step is no running one
none_runs : (o : Option Running) → begun_of o ≡ None → o ≡ None
none_runs None idle = refl
none_runs (Some run) idle = cc

module _ {S K P : Type 0}
    (may_end : S → ℕ → StepEnd → Type 0) (may_tear : S → ℕ → List ℕ → Step → List ℕ → Type 0)
    (may_refuse : S → ℕ → NorFault → Type 0) (must_refuse : S → ℕ → Type 0)
    (part : K → ℕ → P) (grants : P → Step → Type 0) (after : K → ℕ → Step → K) where
  abbrev Obeys : S → State K → ℕ → Did → Type 0
  Obeys = Rule may_end may_tear may_refuse must_refuse part grants after

  not_running : (c : ℕ) (Q : Running → Type 0) (o : Option Running) → o ≡ None → ¬ Runs c Q o
  not_running c Q None idle runs = runs
  not_running c Q (Some run) idle runs = cc

  -- where every read and start is refused and no step runs, an item is still, and so it stays
  still_item : (set : S) (s : State K) (c : ℕ) (did : Did) → Obeys set s c did
      → s.running ≡ None → must_refuse set s.steps
      → IsStill did × ((change after s c did).running ≡ None)
      × ((change after s c did).steps ≡ s.steps)
  still_item set s c (Opened k regs step) rule idle stops = absurd (rule.2 stops)
  still_item set s c (Closed k regs) rule idle stops =
      absurd (not_running c (λ run. run.k ≡ k) s.running idle rule.0)
  still_item set s c (Broken k regs why left) rule idle stops =
      absurd (not_running c (λ run. (run.k ≡ k) × Torn s.flash run.step left
      × may_tear set s.steps s.flash run.step left) s.running idle rule.0)
  still_item set s c (Fetched k regs at bytes) rule idle stops = absurd (rule.1 stops)
  still_item set s c (Noted k regs act) rule idle stops = (tt, idle, refl)
  still_item set s c (Denied why) rule idle stops = (tt, idle, refl)
  still_item set s c (Mapping flash_page n space answer) rule idle stops = (tt, idle, refl)
  still_item set s c (Unmapping at answer) rule idle stops = (tt, idle, refl)
  still_item set s c (Missed at len) rule idle stops = (tt, idle, refl)
  still_item set s c (Masked at len) rule idle stops = (tt, idle, refl)
  still_item set s c (Unfetched at len why) rule idle stops = (tt, idle, refl)

  pub still_log : (set : S) (s : State K) (log : List Item)
      → Keeps may_end may_tear may_refuse must_refuse part grants after set s log
      → s.running ≡ None → must_refuse set s.steps → AreStill (all_of log)
  still_log set s [] all idle stops = tt
  still_log set s (x ∷ log) all idle stops =
      let now = still_item set s x.core x.did all.1 idle stops in (
        now.0,
        still_log set (change after s x.core x.did) log all.2 now.1
            (subst (λ (n : ℕ). must_refuse set n) (sym now.2) stops),
      )

  pub stops_log : (set : S) (s : State K) (log : List Item)
      → Keeps may_end may_tear may_refuse must_refuse part grants after set s log
      → begun_of s.running ≡ None → StopsAt (must_refuse set) s.steps log
  stops_log set s log all idle before later split closed stops =
      let parts : Keeps may_end may_tear may_refuse must_refuse part grants after set s (before
      ++ later) =
      subst (λ (l : List Item). Keeps may_end may_tear may_refuse must_refuse part grants after
      set s l)
      split all in
      let back = ruled-back may_end may_tear may_refuse must_refuse part grants after set s before
      later parts in
      let none : begun_of (reached after s before).running ≡ None =
      open_log after s before
      ∙ ap (λ (o : Option Begun). open_from o (all_of before)) idle ∙ closed in
      still_log set (reached after s before) later back
      (none_runs (reached after s before).running none)
      (subst (λ (n : ℕ). must_refuse set n) (sym (count_log after s before)) stops)

  -- the flash keeps its length
  whole_length : (s : State K) (c : ℕ) (o : Option Running)
      → length (made_whole after s c o).flash ≡ length s.flash
  whole_length s c None = refl
  whole_length s c (Some run) = length_applied s.flash run.step

  torn_length : (s : State K) (c : ℕ) (left : List ℕ) (Q : Running → Type 0) (T : Running → Type 0)
      (o : Option Running) → Runs c (λ run. Q run × Torn s.flash run.step left × T run) o
      → length left ≡ length s.flash
  torn_length s c left Q T None runs = absurd runs
  torn_length s c left Q T (Some run) runs = runs.1.1.same_length

  length_item : (set : S) (s : State K) (c : ℕ) (did : Did) → Obeys set s c did
      → length (change after s c did).flash ≡ length s.flash
  length_item set s c (Opened k regs step) rule = refl
  length_item set s c (Closed k regs) rule = whole_length s c s.running
  length_item set s c (Broken k regs why left) rule =
      torn_length s c left (λ run. run.k ≡ k) (λ run. may_tear set s.steps s.flash run.step left)
      s.running rule.0
  length_item set s c (Fetched k regs at bytes) rule = refl
  length_item set s c (Noted k regs act) rule = refl
  length_item set s c (Denied why) rule = refl
  length_item set s c (Mapping flash_page n space answer) rule = refl
  length_item set s c (Unmapping at answer) rule = refl
  length_item set s c (Missed at len) rule = refl
  length_item set s c (Masked at len) rule = refl
  length_item set s c (Unfetched at len why) rule = refl

  pub length_log : (set : S) (s : State K) (log : List Item)
      → Keeps may_end may_tear may_refuse must_refuse part grants after set s log
      → length (reached after s log).flash ≡ length s.flash
  length_log set s log all =
      kept may_end may_tear may_refuse must_refuse part grants after set
      (λ t. length t.flash ≡ length s.flash)
      (λ t c did small rule is. length_item set t c did rule ∙ is) s log all refl

  module _ {D : Type 0} (bytes : D → Option (List ℕ)) (size : D → ℕ) (off : D → Bool)
      (steps faults : D → ℕ) (setting : D → S) (good : List ℕ → K → List ℕ → Type 0)
      (sized : (device : D) (flash : List ℕ) → bytes device ≡ Some flash
      → length flash ≡ size device) where
    abbrev StandsBy : Hub D K → Base S K → List Did → List Did → Type 0
    StandsBy = Stands bytes off steps faults setting may_end may_tear may_refuse must_refuse
        part grants after good

    pub size_now : (h : Hub D K) (b : Base S K) (left right : List Did) → StandsBy h b left right
        → length b.flash ≡ size h.dev
    size_now h b left right s =
        sym (length_log b.setting (begun b) s.stood.log s.stood.ruled)
        ∙ ap (λ (t : State K). length t.flash) s.stood.leads ∙ sized h.dev s.flash s.told

    pub power_now : (h : Hub D K) (b : Base S K) (left right : List Did)
        (s : StandsBy h b left right)
        → PowerIs (off h.dev) (off_after_all b.off (all_of s.stood.log))
        (must_refuse (setting h.dev) (steps h.dev))
    power_now h b left right s =
        let is : s.is_off ≡ off_after_all b.off (all_of s.stood.log) =
        sym (ap (λ (t : State K). t.is_off) s.stood.leads) ∙ off_log after (begun b) s.stood.log in
        subst (λ (o : Bool). PowerIs (off h.dev) o (must_refuse (setting h.dev) (steps h.dev))) is
        (subst (λ (set : S). PowerIs (off h.dev) s.is_off (must_refuse set (steps h.dev)))
        (sym s.setting_is) s.power)

    pub count_now : (h : Hub D K) (b : Base S K) (left right : List Did)
        (s : StandsBy h b left right)
        → steps h.dev ≡ count_after_all b.steps (all_of s.stood.log)
    count_now h b left right s =
        sym (ap (λ (t : State K). t.steps) s.stood.leads) ∙ count_log after (begun b) s.stood.log

    pub stops_now : (h : Hub D K) (b : Base S K) (left right : List Did)
        (s : StandsBy h b left right)
        → StopsAt (must_refuse (setting h.dev)) b.steps s.stood.log
    stops_now h b left right s =
        subst (λ (set : S). StopsAt (must_refuse set) b.steps s.stood.log) (sym s.setting_is)
        (stops_log b.setting (begun b) s.stood.log s.stood.ruled refl)
