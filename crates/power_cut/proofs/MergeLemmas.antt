-- Where nothing broke off, a leg leaves the first flash after the driver's steps and then those of
-- the other core, whatever the order of turns.
use Rattle.std.proofs.Common.{◌==◌, ◌≡◌, ◌≢◌, ◌⊎◌, inl, inr, Bool, true, false, ℕ, zero, suc, ◌-◌, ◌<◌, cond, List, [], ◌∷◌, length, slice_index, Option, Some, None, Result, refl, sym, ap, ◌∙◌, subst, arith}
use Rattle.std.proofs.lemmas.Bool.{cases_Bool, cases_lt}
use Rattle.std.proofs.lemmas.List.{ext_get_or}
use Rattle.nor_device.specs.declared.step.Step.{Step}
use Rattle.nor_device.specs.declared.nor.NorFault.{NorFault}
use Rattle.nor_device.specs.Flash.{after_steps, applied, byte_after, end_of, start_of}
use Rattle.nor_device.specs.Ram.{Ram}
use Rattle.nor_device.proofs.FlashLaws.{byte_after_outside, byte_applied, length_applied}
use Rattle.crash_images.specs.declared.cut.CutSetting.{CutSetting}
use Rattle.crash_images.specs.Cut.{CutDevice, IsAhead, IsBad}
use Rattle.mmu_map.specs.Map.{Map}
use Rattle.bus_hub.specs.declared.did.Did.{Did}
use Rattle.bus_hub.specs.declared.did.Did.TheVariants.{Opened, Closed, Broken, Fetched, Noted, Denied, Mapping, Unmapping, Missed, Masked, Unfetched}
use Rattle.bus_hub.specs.declared.did.Running.{Running}
use Rattle.bus_hub.specs.declared.duty.AnyDuty.{AnyDuty}
use Rattle.bus_hub.specs.Hub.{begun}
use Rattle.bus_hub.specs.Log.{Item, Rule, Ruled, Runs, State, change, of_core, reached}
use Rattle.bus_hub.specs.Room.{Kept}
use Rattle.bus_hub.specs.Shares.{AreUnbroken, Begun, all_of, begun_of, made, made_from, own_begun}
use Rattle.bus_hub.proofs.FlashLog.{flash_of_log}
use Rattle.power_cut.specs.Device.{IsUnbroken, MayEnd, MayRefuse, MayTear, MustRefuse}
use Rattle.power_cut.specs.Installed.{AllLieIn, LiesIn}
use Rattle.power_cut.specs.Leg.{AnyGrants, IsLeg, any_after, any_part, share_of}
use Rattle.power_cut.proofs.LogLemmas.{refused_here, stopped_log}

-- ---- steps of two lists, each in its order

abbrev pub Merges : List Step → List Step → List Step → Type 0
Merges xs ys [] = (xs ≡ []) × (ys ≡ [])
Merges xs ys (z ∷ zs) =
    ((rest : List Step) × (xs ≡ z ∷ rest) × Merges rest ys zs)
    ⊎ ((rest : List Step) × (ys ≡ z ∷ rest) × Merges xs rest zs)

module _ {K P : Type 0} (part : K → ℕ → P) (grants : P → Step → Type 0)
    (after : K → ℕ → Step → K) where
  abbrev Obeys : CutSetting (Unit {0}) → State K → ℕ → Did → Type 0
  Obeys = Rule MayEnd MayTear MayRefuse MustRefuse part grants after

  abbrev IsRuled : CutSetting (Unit {0}) → State K → List Item → Type 0
  IsRuled = Ruled MayEnd MayTear MayRefuse MustRefuse part grants after

  -- the steps that both cores still make, merged, behind the step that runs
  abbrev Merged : Option Running → List Did → List Did → List Did → Type 0
  Merged o left right all =
      Merges (made_from (own_begun 0 o) left) (made_from (own_begun 1 o) right)
      (made_from (begun_of o) all)

  -- the running step of one core is none of the other
  other_none : (run : Running) (c d : ℕ) → run.core ≡ c → (c == d) ≡ false
      → own_begun d (Some run) ≡ None
  other_none run c d is apart =
      ap (λ n. cond (n == d) (begun_of (Some run)) None) is
      ∙ ap (λ t. cond t (begun_of (Some run)) None) apart

  own_some : (run : Running) (c : ℕ) → run.core ≡ c → (c == c) ≡ true
      → own_begun c (Some run) ≡ begun_of (Some run)
  own_some run c is same =
      ap (λ n. cond (n == c) (begun_of (Some run)) None) is
      ∙ ap (λ t. cond t (begun_of (Some run)) None) same

  -- what an item of core 0 adds
  item_left : (set : CutSetting (Unit {0})) (s : State K) (did : Did) → Obeys set s 0 did
      → (left right all : List Did) → Merged (change after s 0 did).running left right all
      → Merges (made_from (own_begun 0 s.running) (did ∷ left))
      (made_from (own_begun 1 s.running) right) (made_from (begun_of s.running) (did ∷ all))
  item_left set s (Opened k regs step) rule left right all merged =
      subst (λ (o : Option Running).
      Merges (made_from (Some (record { k = k; step = step })) left)
      (made_from (own_begun 1 o) right)
      (made_from (Some (record { k = k; step = step })) all)) (sym rule.0) merged
  item_left set s (Closed k regs) rule left right all merged = at s.running rule.0
    where
      at : (o : Option Running) → Runs 0 (λ run. run.k ≡ k) o
          → Merges (made_from (own_begun 0 o) (Closed k regs ∷ left))
          (made_from (own_begun 1 o) right) (made_from (begun_of o) (Closed k regs ∷ all))
      at None runs = absurd runs
      at (Some run) runs =
          subst (λ (b : Option Begun). Merges (made_from b (Closed k regs ∷ left))
          (made_from (own_begun 1 (Some run)) right)
          (made_from (begun_of (Some run)) (Closed k regs ∷ all)))
          (sym (own_some run 0 runs.0 refl))
          (subst (λ (b : Option Begun). Merges (run.step ∷ made_from None left)
          (made_from b right) (run.step ∷ made_from None all))
          (sym (other_none run 0 1 runs.0 refl))
          (inl (made_from None left, refl, merged)))
  item_left set s (Broken k regs why torn) rule left right all merged = at _ s.running rule.0
    where
      at : (Q : Running → Type 0) (o : Option Running) → Runs 0 Q o
          → Merges (made_from (own_begun 0 o) (Broken k regs why torn ∷ left))
          (made_from (own_begun 1 o) right) (made_from (begun_of o) (Broken k regs why torn ∷ all))
      at Q None runs = absurd runs
      at Q (Some run) runs =
          subst (λ (b : Option Begun). Merges (made_from None left) (made_from b right)
          (made_from None all)) (sym (other_none run 0 1 runs.0 refl)) merged
  item_left set s (Fetched k regs at bytes) rule left right all merged = merged
  item_left set s (Noted k regs act) rule left right all merged = merged
  item_left set s (Denied why) rule left right all merged = merged
  item_left set s (Mapping flash_page n space answer) rule left right all merged = merged
  item_left set s (Unmapping at answer) rule left right all merged = merged
  item_left set s (Missed at len) rule left right all merged = merged
  item_left set s (Masked at len) rule left right all merged = merged
  item_left set s (Unfetched at len why) rule left right all merged = merged

  -- and one of core 1
  item_right : (set : CutSetting (Unit {0})) (s : State K) (did : Did) → Obeys set s 1 did
      → (left right all : List Did) → Merged (change after s 1 did).running left right all
      → Merges (made_from (own_begun 0 s.running) left)
      (made_from (own_begun 1 s.running) (did ∷ right)) (made_from (begun_of s.running) (did ∷ all))
  item_right set s (Opened k regs step) rule left right all merged =
      subst (λ (o : Option Running).
      Merges (made_from (own_begun 0 o) left)
      (made_from (Some (record { k = k; step = step })) right)
      (made_from (Some (record { k = k; step = step })) all)) (sym rule.0) merged
  item_right set s (Closed k regs) rule left right all merged = at s.running rule.0
    where
      at : (o : Option Running) → Runs 1 (λ run. run.k ≡ k) o
          → Merges (made_from (own_begun 0 o) left)
          (made_from (own_begun 1 o) (Closed k regs ∷ right))
          (made_from (begun_of o) (Closed k regs ∷ all))
      at None runs = absurd runs
      at (Some run) runs =
          subst (λ (b : Option Begun). Merges (made_from (own_begun 0 (Some run)) left)
          (made_from b (Closed k regs ∷ right))
          (made_from (begun_of (Some run)) (Closed k regs ∷ all)))
          (sym (own_some run 1 runs.0 refl))
          (subst (λ (b : Option Begun). Merges (made_from b left)
          (run.step ∷ made_from None right) (run.step ∷ made_from None all))
          (sym (other_none run 1 0 runs.0 refl))
          (inr (made_from None right, refl, merged)))
  item_right set s (Broken k regs why torn) rule left right all merged = at _ s.running rule.0
    where
      at : (Q : Running → Type 0) (o : Option Running) → Runs 1 Q o
          → Merges (made_from (own_begun 0 o) left)
          (made_from (own_begun 1 o) (Broken k regs why torn ∷ right))
          (made_from (begun_of o) (Broken k regs why torn ∷ all))
      at Q None runs = absurd runs
      at Q (Some run) runs =
          subst (λ (b : Option Begun). Merges (made_from b left) (made_from None right)
          (made_from None all)) (sym (other_none run 1 0 runs.0 refl)) merged
  item_right set s (Fetched k regs at bytes) rule left right all merged = merged
  item_right set s (Noted k regs act) rule left right all merged = merged
  item_right set s (Denied why) rule left right all merged = merged
  item_right set s (Mapping flash_page n space answer) rule left right all merged = merged
  item_right set s (Unmapping at answer) rule left right all merged = merged
  item_right set s (Missed at len) rule left right all merged = merged
  item_right set s (Masked at len) rule left right all merged = merged
  item_right set s (Unfetched at len why) rule left right all merged = merged

  -- the steps that a log makes are those of both shares, merged
  pub merged_log : (set : CutSetting (Unit {0})) (s : State K) (log : List Item) → IsRuled set s log
      → Merged s.running (of_core 0 log) (of_core 1 log) (all_of log)
  merged_log set s [] ruled = (refl, refl)
  merged_log set s (x ∷ log) ruled =
      at x.core ruled.0 ruled.1
      (merged_log set (change after s x.core x.did) log ruled.2)
    where
      at : (c : ℕ) → c < 2 → Obeys set s c x.did
          → Merged (change after s c x.did).running (of_core 0 log) (of_core 1 log) (all_of log)
          → Merges (made_from (own_begun 0 s.running)
          (cond (c == 0) (x.did ∷ of_core 0 log) (of_core 0 log)))
          (made_from (own_begun 1 s.running)
          (cond (c == 1) (x.did ∷ of_core 1 log) (of_core 1 log)))
          (made_from (begun_of s.running) (x.did ∷ all_of log))
      at zero small rule merged =
          item_left set s x.did rule (of_core 0 log) (of_core 1 log) (all_of log) merged
      at (suc zero) small rule merged =
          item_right set s x.did rule (of_core 0 log) (of_core 1 log) (all_of log) merged
      at (suc (suc n)) small rule merged = absurd (omega arith)

  -- ---- no step is broken off where no chosen step was begun

  unbroken_by : (set : CutSetting (Unit {0})) (s : State K) (c : ℕ) (did : Did) (log : List Item)
      → Obeys set s c did → IsRuled set (change after s c did) log
      → ¬ IsBad set.cut set.fail (reached after (change after s c did) log).steps
      → AreUnbroken (all_of log) → AreUnbroken (did ∷ all_of log)
  unbroken_by set s c (Opened k regs step) log rule ruled sound later = later
  unbroken_by set s c (Closed k regs) log rule ruled sound later = later
  unbroken_by set s c (Broken k regs why left) log rule ruled sound later =
      let here = refused_here part grants after set s c (Broken k regs why left) tt rule in
      let end = stopped_log part grants after set s.steps
      (change after s c (Broken k regs why left)) log here.0 ruled here.1 in
      sound (subst (IsBad set.cut set.fail) (sym end.steps) here.0)
  unbroken_by set s c (Fetched k regs at bytes) log rule ruled sound later = later
  unbroken_by set s c (Noted k regs act) log rule ruled sound later = later
  unbroken_by set s c (Denied why) log rule ruled sound later = later
  unbroken_by set s c (Mapping flash_page n space answer) log rule ruled sound later = later
  unbroken_by set s c (Unmapping at answer) log rule ruled sound later = later
  unbroken_by set s c (Missed at len) log rule ruled sound later = later
  unbroken_by set s c (Masked at len) log rule ruled sound later = later
  unbroken_by set s c (Unfetched at len why) log rule ruled sound later = later

  pub unbroken_log : (set : CutSetting (Unit {0})) (s : State K) (log : List Item)
      → IsRuled set s log
      → ¬ IsBad set.cut set.fail (reached after s log).steps → AreUnbroken (all_of log)
  unbroken_log set s [] ruled sound = tt
  unbroken_log set s (x ∷ log) ruled sound =
      unbroken_by set s x.core x.did log ruled.1 ruled.2 sound
      (unbroken_log set (change after s x.core x.did) log ruled.2 sound)

-- ---- steps that lie apart

-- outside its addresses a step leaves a byte
left_alone : (others : ℕ → Bool) (may : Bool) (step : Step) (i byte : ℕ) → LiesIn others may step
    → others i ≢ may → byte_after step i byte ≡ byte
left_alone others may step i byte lies apart = byte_after_outside step i byte
    (elim (cases_lt i (start_of step)) [
      | inl low ↦ inl low
      | inr from ↦ elim (cases_lt i (end_of step)) [
        | inl to ↦ absurd (apart (lies i from to))
        | inr past ↦ inr past
      ]
    ])

-- so two steps of both kinds can be exchanged
exchanged : (others : ℕ → Bool) (flash : List ℕ) (own other : Step) → LiesIn others false own
    → LiesIn others true other
    → applied (applied flash other) own ≡ applied (applied flash own) other
exchanged others flash own other mine theirs =
    ext_get_or 0 (applied (applied flash other) own) (applied (applied flash own) other)
    (length_applied (applied flash other) own ∙ length_applied flash other
    ∙ sym (length_applied flash own) ∙ sym (length_applied (applied flash own) other))
    (λ i inside.
    let here : i < length flash =
    omega (arith, inside, length_applied (applied flash other) own, length_applied flash other) in
    let one : i < length (applied flash other) = omega (arith, here, length_applied flash other) in
    let two : i < length (applied flash own) = omega (arith, here, length_applied flash own) in
    byte_applied (applied flash other) own i one
    ∙ ap (byte_after own i) (byte_applied flash other i here)
    ∙ at i (slice_index flash i) (cases_Bool (others i))
    ∙ sym (ap (byte_after other i) (byte_applied flash own i here))
    ∙ sym (byte_applied (applied flash own) other i two))
  where
    at : (i byte : ℕ) → (others i ≡ true) ⊎ (others i ≡ false)
        → byte_after own i (byte_after other i byte) ≡ byte_after other i (byte_after own i byte)
    at i byte (inl p) =
        left_alone others false own i (byte_after other i byte) mine (λ q. cc)
        ∙ sym (ap (byte_after other i) (left_alone others false own i byte mine (λ q. cc)))
    at i byte (inr p) =
        ap (byte_after own i) (left_alone others true other i byte theirs (λ q. cc))
        ∙ sym (left_alone others true other i (byte_after own i byte) theirs (λ q. cc))

-- one of them past several
past_all : (others : ℕ → Bool) (flash : List ℕ) (own : List Step) (other : Step)
    → AllLieIn others false own → LiesIn others true other
    → after_steps (applied flash other) own ≡ applied (after_steps flash own) other
past_all others flash [] other mine theirs = refl
past_all others flash (step ∷ own) other mine theirs =
    ap (λ (f : List ℕ). after_steps f own) (exchanged others flash step other mine.0 theirs)
    ∙ past_all others (applied flash step) own other mine.1 theirs

-- merged steps of both kinds leave what those of one and then those of the other leave
merged_after : (others : ℕ → Bool) (zs own work : List Step) (flash : List ℕ)
    → AllLieIn others false own → AllLieIn others true work → Merges own work zs
    → after_steps flash zs ≡ after_steps (after_steps flash own) work
merged_after others [] own work flash mine theirs merged =
    sym (ap (after_steps (after_steps flash own)) merged.1 ∙ ap (after_steps flash) merged.0)
merged_after others (z ∷ zs) own work flash mine theirs (inl (rest, is, merged)) =
    merged_after others zs rest work (applied flash z)
    (subst (AllLieIn others false) is mine).1 theirs merged
    ∙ sym (ap (λ (l : List Step). after_steps (after_steps flash l) work) is)
merged_after others (z ∷ zs) own work flash mine theirs (inr (rest, is, merged)) =
    let lie = subst (AllLieIn others true) is theirs in
    merged_after others zs own rest (applied flash z) mine lie.1 merged
    ∙ ap (λ (f : List ℕ). after_steps f rest) (past_all others flash own z mine lie.0)
    ∙ sym (ap (after_steps (after_steps flash own)) is)

-- ---- a leg in which nothing broke off

swapped : (xs ys zs : List Step) → Merges xs ys zs → Merges ys xs zs
swapped xs ys [] m = (m.1, m.0)
swapped xs ys (z ∷ zs) (inl (rest, is, m)) = inr (rest, is, swapped rest ys zs m)
swapped xs ys (z ∷ zs) (inr (rest, is, m)) = inl (rest, is, swapped xs rest zs m)

not_here : (chosen : Option ℕ) (n : ℕ) → IsAhead chosen n → chosen ≡ Some n → ⊥
not_here None n ahead is = cc is
not_here (Some k) n ahead is = let same : k ≡ n = cc is in absurd (omega arith)

module _ (drives works : Result (Unit {0}) NorFault → List Did → Type 0) (driver : ℕ)
    (pages : Map → Type 0) (holds : List ℕ → Type 0) (old new : CutDevice Ram) (journal : Kept)
    (leg : IsLeg drives works driver pages holds old new journal) where
  abbrev log : List Item
  log = leg.stands.stood.log

  steps_end : (reached any_after (begun leg.base) log).steps ≡ new.steps
  steps_end = ap (λ (t : State AnyDuty). t.steps) leg.stands.stood.leads ∙ leg.same.steps

  -- the last step is no chosen one
  pub not_bad : IsUnbroken old new.steps
      → ¬ IsBad leg.base.setting.cut leg.base.setting.fail
      (reached any_after (begun leg.base) log).steps
  not_bad sound bad = elim (subst (λ n. IsBad old.cut old.fail n) steps_end
      (subst (λ (set : CutSetting (Unit {0})). IsBad set.cut set.fail
      (reached any_after (begun leg.base) log).steps) leg.opening.setting_is bad)) [
        | inl is ↦ not_here old.cut new.steps sound.cut_ahead is
        | inr is ↦ not_here old.fail new.steps sound.fail_ahead is
      ]

  unbroken : IsUnbroken old new.steps → AreUnbroken (all_of log)
  unbroken sound = unbroken_log any_part AnyGrants any_after leg.base.setting (begun leg.base) log
      leg.stands.stood.ruled (not_bad sound)

  -- the steps that its log makes are those of both shares, merged
  pub merged_shares : Merges (made leg.left) (made leg.right) (made (all_of log))
  merged_shares = subst (λ (l : List Did). Merges (made l) (made leg.right) (made (all_of log)))
      leg.stands.stood.left_is
      (subst (λ (r : List Did). Merges (made (of_core 0 log)) (made r) (made (all_of log)))
      leg.stands.stood.right_is
      (merged_log any_part AnyGrants any_after leg.base.setting (begun leg.base) log
      leg.stands.stood.ruled))

  module _ (below : driver < 2) (sound : IsUnbroken old new.steps) (others : ℕ → Bool)
      (list work : List Step)
      (drove : made (share_of driver leg.left leg.right) ≡ list)
      (worked : made (share_of (1 - driver) leg.left leg.right) ≡ work)
      (mine : AllLieIn others false list) (theirs : AllLieIn others true work) where
    merged_here : Merges list work (made (all_of log))
    merged_here = subst (λ (l : List Step). Merges l work (made (all_of log))) drove
        (subst (λ (w : List Step). Merges (made (share_of driver leg.left leg.right)) w
        (made (all_of log))) worked (at driver below))
      where
        at : (d : ℕ) → d < 2 → Merges (made (share_of d leg.left leg.right))
            (made (share_of (1 - d) leg.left leg.right)) (made (all_of log))
        at zero small = merged_shares
        at (suc zero) small =
            swapped (made leg.left) (made leg.right) (made (all_of log)) merged_shares
        at (suc (suc n)) small = absurd (omega arith)

    -- the flash is the first one after the driver's steps and then those of the other core
    pub leg_installs : new.inner.bytes ≡ after_steps (after_steps old.inner.bytes list) work
    leg_installs =
        let told : leg.stands.flash ≡ leg.back.inner.bytes = let e = leg.stands.told in cc in
        let first : old.inner.bytes ≡ leg.base.flash = let e = leg.opening.flash_is in cc in
        sym leg.same.bytes ∙ sym told
        ∙ sym (ap (λ (t : State AnyDuty). t.flash) leg.stands.stood.leads)
        ∙ (flash_of_log MayEnd MayTear MayRefuse MustRefuse any_part AnyGrants any_after
        leg.base.setting (begun leg.base) log leg.stands.stood.ruled (unbroken sound)).0
        ∙ merged_after others (made (all_of log)) list work leg.base.flash mine theirs merged_here
        ∙ ap (λ (f : List ℕ). after_steps (after_steps f list) work) (sym first)
