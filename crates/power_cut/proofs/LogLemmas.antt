-- How a device comes back from a log: where a chosen step was begun, it is the last one.
use Rattle.std.proofs.Common.{◌==◌, ◌≡◌, ◌⊎◌, inl, inr, true, false, ℕ, cond, List, [], ◌∷◌, ◌++◌, Option, Some, None, refl, sym, ap, ◌∙◌, subst}
use Rattle.std.proofs.lemmas.Bool.{cases_Bool}
use Rattle.nor_device.specs.declared.step.Step.{Step}
use Rattle.nor_device.specs.declared.nor.StepEnd.TheVariants as ends
use Rattle.nor_device.specs.declared.nor.NorFault.{NorFault}
use Rattle.nor_device.specs.declared.nor.NorFault.TheVariants.{Failed, Off}
use Rattle.nor_device.specs.Nor as nor
use Rattle.nor_device.specs.Ram.{Ram}
use Rattle.nor_device.specs.Torn.{Torn}
use Rattle.crash_images.specs.declared.cut.CutSetting.{CutSetting}
use Rattle.crash_images.specs.Cut.{CutDevice, EndsBy, IsAhead, IsBad}
use Rattle.bus_hub.specs.declared.did.Base.{Base}
use Rattle.bus_hub.specs.declared.did.Did.{Did}
use Rattle.bus_hub.specs.declared.did.Did.TheVariants.{Opened, Closed, Broken, Fetched, Noted, Denied, Mapping, Unmapping, Missed, Masked, Unfetched}
use Rattle.bus_hub.specs.declared.did.Running.{Running}
use Rattle.bus_hub.specs.Hub.{Hub, Stands, begun}
use Rattle.bus_hub.specs.Log.{Item, Rule, Ruled, Runs, State, change, made_whole, of_core, reached}
use Rattle.bus_hub.proofs.Logs.{kept}
use Rattle.power_cut.specs.Device.{MayEnd, MayRefuse, MayTear, MustRefuse, told_bytes, faults_of, is_off, setting_of}
use Rattle.power_cut.specs.Refused.{IsRefusal}
use Rattle.power_cut.proofs.EndsLemmas.{by_choice, refused_by_choice}

abbrev Choice : Type 0
Choice = CutSetting (Unit {0})

-- both chosen numbers are ahead
abbrev Ahead : Choice → ℕ → Type 0
Ahead set n = IsAhead set.cut n × IsAhead set.fail n

-- this number is a chosen one
abbrev Bad : Choice → ℕ → Type 0
Bad set n = IsBad set.cut set.fail n

-- an end that is no whole one is of a chosen number
bad_end : (set : Choice) (n : ℕ) (why : NorFault) → EndsBy set.cut set.fail n (nor.end_by why)
    → Bad set n
bad_end set n Failed is = inr is
bad_end set n Off is = inl is

module _ {K P : Type 0} (part : K → ℕ → P) (grants : P → Step → Type 0)
    (after : K → ℕ → Step → K) where
  abbrev Obeys : Choice → State K → ℕ → Did → Type 0
  Obeys = Rule MayEnd MayTear MayRefuse MustRefuse part grants after

  abbrev IsRuled : Choice → State K → List Item → Type 0
  IsRuled = Ruled MayEnd MayTear MayRefuse MustRefuse part grants after

  whole_steps : (s : State K) (c : ℕ) (o : Option Running)
      → (made_whole after s c o).steps ≡ s.steps
  whole_steps s c None = refl
  whole_steps s c (Some run) = refl

  -- ---- where no step runs, the chosen numbers are ahead, or the last one is chosen

  abbrev Told : Choice → State K → Type 0
  Told set s = s.running ≡ None → Ahead set s.steps ⊎ Bad set s.steps

  told_item : (set : Choice) (s : State K) (c : ℕ) (did : Did) → Obeys set s c did → Told set s
      → Told set (change after s c did)
  told_item set s c (Opened k regs step) rule told = λ none. absurd cc
  told_item set s c (Closed k regs) rule told =
      λ none. inl (subst (Ahead set) (sym (whole_steps s c s.running))
      (by_choice set s.steps ends.Done rule.1))
  told_item set s c (Broken k regs why left) rule told =
      λ none. inr (bad_end set s.steps why (by_choice set s.steps (nor.end_by why) rule.1))
  told_item set s c (Fetched k regs at bytes) rule told = told
  told_item set s c (Noted k regs act) rule told = told
  told_item set s c (Denied why) rule told = told
  told_item set s c (Mapping flash_page n space answer) rule told = told
  told_item set s c (Unmapping at answer) rule told = told
  told_item set s c (Missed at len) rule told = told
  told_item set s c (Masked at len) rule told = told
  told_item set s c (Unfetched at len why) rule told = told

  pub told_log : (set : Choice) (s : State K) (log : List Item) → IsRuled set s log
      → Told set s → Told set (reached after s log)
  told_log set s log ruled told =
      kept MayEnd MayTear MayRefuse MustRefuse part grants after set (Told set)
      (λ t c did small rule is. told_item set t c did rule is) s log ruled told

  -- ---- behind a chosen step nothing is begun any more

  pub record Stopped (set : Choice) (n : ℕ) (s : State K) : Type 0 where
    pub idle : s.running ≡ None
    pub steps : s.steps ≡ n

  none_runs : (c : ℕ) (Q : Running → Type 0) (o : Option Running) → o ≡ None → Runs c Q o → ⊥
  none_runs c Q None none runs = runs
  none_runs c Q (Some run) none runs = absurd cc

  stopped_item : (set : Choice) (n : ℕ) (s : State K) (c : ℕ) (did : Did) → Bad set n
      → Obeys set s c did → Stopped set n s → Stopped set n (change after s c did)
  stopped_item set n s c (Opened k regs step) bad rule is =
      absurd (rule.2 (subst (Bad set) (sym is.steps) bad))
  stopped_item set n s c (Closed k regs) bad rule is =
      absurd (none_runs c (λ run. run.k ≡ k) s.running is.idle rule.0)
  stopped_item set n s c (Broken k regs why left) bad rule is =
      absurd (none_runs c (λ run. (run.k ≡ k) × Torn s.flash run.step left
      × MayTear set s.steps s.flash run.step left) s.running is.idle rule.0)
  stopped_item set n s c (Fetched k regs at bytes) bad rule is =
      record { idle = is.idle; steps = is.steps }
  stopped_item set n s c (Noted k regs act) bad rule is =
      record { idle = is.idle; steps = is.steps }
  stopped_item set n s c (Denied why) bad rule is = record { idle = is.idle; steps = is.steps }
  stopped_item set n s c (Mapping flash_page m space answer) bad rule is =
      record { idle = is.idle; steps = is.steps }
  stopped_item set n s c (Unmapping at answer) bad rule is =
      record { idle = is.idle; steps = is.steps }
  stopped_item set n s c (Missed at len) bad rule is = is
  stopped_item set n s c (Masked at len) bad rule is = is
  stopped_item set n s c (Unfetched at len why) bad rule is = record { idle = is.idle; steps = is.steps }

  pub stopped_log : (set : Choice) (n : ℕ) (s : State K) (log : List Item) → Bad set n
      → IsRuled set s log → Stopped set n s → Stopped set n (reached after s log)
  stopped_log set n s log bad ruled is =
      kept MayEnd MayTear MayRefuse MustRefuse part grants after set (Stopped set n)
      (λ t c did small rule q. stopped_item set n t c did bad rule q) s log ruled is

  -- a refusal comes behind a chosen step, or of it
  pub refused_here : (set : Choice) (s : State K) (c : ℕ) (did : Did) → IsRefusal did
      → Obeys set s c did → Bad set s.steps × Stopped set s.steps (change after s c did)
  refused_here set s c (Opened k regs step) refusal rule = absurd refusal
  refused_here set s c (Closed k regs) refusal rule = absurd refusal
  refused_here set s c (Broken k regs why left) refusal rule = (
    bad_end set s.steps why (by_choice set s.steps (nor.end_by why) rule.1),
    record { idle = refl; steps = refl },
  )
  refused_here set s c (Fetched k regs at bytes) refusal rule = absurd refusal
  refused_here set s c (Noted k regs act) refusal rule = absurd refusal
  refused_here set s c (Denied why) refusal rule = (
    bad_end set s.steps why (refused_by_choice set s.steps why rule.1),
    record { idle = rule.0; steps = refl },
  )
  refused_here set s c (Mapping flash_page n space answer) refusal rule = absurd refusal
  refused_here set s c (Unmapping at answer) refusal rule = absurd refusal
  refused_here set s c (Missed at len) refusal rule = absurd refusal
  refused_here set s c (Masked at len) refusal rule = absurd refusal
  refused_here set s c (Unfetched at len why) refusal rule = (
    bad_end set s.steps why (refused_by_choice set s.steps why rule.1),
    record { idle = rule.0; steps = refl },
  )

  -- so the last step is a chosen one, where a refusal stands anywhere in what one core did
  share_in : (set : Choice) (c : ℕ) (did : Did) (back : List Did) (log : List Item)
      (front : List Did) (s : State K) → IsRefusal did → IsRuled set s log
      → of_core c log ≡ front ++ did ∷ back → Bad set (reached after s log).steps
  share_in set c did back [] [] s refusal ruled is = absurd cc
  share_in set c did back [] (d ∷ front) s refusal ruled is = absurd cc
  share_in set c did back (x ∷ log) front s refusal ruled is =
      by (cases_Bool (x.core == c))
      (λ rest split. share_in set c did back log rest (change after s x.core x.did) refusal
      ruled.2 split)
    where
      Later : Type 0
      Later = (rest : List Did) → of_core c log ≡ rest ++ did ∷ back
          → Bad set (reached after (change after s x.core x.did) log).steps

      here : (front : List Did) → x.did ∷ of_core c log ≡ front ++ did ∷ back → Later
          → Bad set (reached after s (x ∷ log)).steps
      here [] is later =
          let same : x.did ≡ did = cc in
          let refused = refused_here set s x.core x.did (subst IsRefusal (sym same) refusal)
          ruled.1 in
          let end = stopped_log set s.steps (change after s x.core x.did) log refused.0 ruled.2
          refused.1 in
          subst (Bad set) (sym end.steps) refused.0
      here (d ∷ front) is later = later front cc

      by : ((x.core == c) ≡ true) ⊎ ((x.core == c) ≡ false) → Later
          → Bad set (reached after s (x ∷ log)).steps
      by (inl p) later = here front
          (subst (λ t. cond t (x.did ∷ of_core c log) (of_core c log) ≡ front ++ did ∷ back)
          p is) later
      by (inr p) later = later front
          (subst (λ t. cond t (x.did ∷ of_core c log) (of_core c log) ≡ front ++ did ∷ back) p is)

  -- ---- of a bus

  module _ (good : List ℕ → K → List ℕ → Type 0) (h : Hub (CutDevice Ram) K)
      (b : Base Choice K) (left right : List Did)
      (stands : Stands told_bytes is_off (λ dev. dev.steps) faults_of setting_of MayEnd MayTear
      MayRefuse MustRefuse part grants after good h b left right) where
    steps_end : (reached after (begun b) stands.stood.log).steps ≡ h.dev.steps
    steps_end = ap (λ (t : State K). t.steps) stands.stood.leads

    -- once no step runs, the chosen numbers are ahead, or the last one is chosen
    pub bus_told : h.running ≡ None → Ahead b.setting b.steps
        → Ahead b.setting h.dev.steps ⊎ Bad b.setting h.dev.steps
    bus_told idle ahead =
        subst (λ n. Ahead b.setting n ⊎ Bad b.setting n) steps_end
        (told_log b.setting (begun b) stands.stood.log stands.stood.ruled (λ none. inl ahead)
        (ap (λ (t : State K). t.running) stands.stood.leads ∙ idle))

    -- where a share has a refusal, the last number is chosen
    pub share_refused : (c : ℕ) (share front back : List Did) (did : Did)
        → of_core c stands.stood.log ≡ share → share ≡ front ++ did ∷ back → IsRefusal did
        → Bad b.setting h.dev.steps
    share_refused c share front back did share_is split refusal =
        subst (Bad b.setting) steps_end
        (share_in b.setting c did back stands.stood.log front (begun b) refusal
        stands.stood.ruled (share_is ∙ split))
