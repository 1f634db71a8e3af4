-- The journal of a log is legal.
use Rattle.std.specs.Prelude.{◌≡◌, ℕ, ◌<◌, List, [], ◌∷◌, ◌++◌, length, refl, Option, Some, None}
use Rattle.std.proofs.Common.{◌∙◌, sym, ap, subst}
use Rattle.nor_device.specs.declared.step.Step.{Step}
use Rattle.nor_device.specs.declared.nor.StepEnd.{StepEnd}
use Rattle.nor_device.specs.declared.nor.StepEnd.TheVariants as ends
use Rattle.nor_device.specs.Nor.{end_by}
use Rattle.nor_device.specs.declared.nor.NorFault.{NorFault}
use Rattle.nor_device.specs.Torn.{Torn}
use Rattle.bus_hub.specs.declared.entry.Act.{Act}
use Rattle.bus_hub.specs.declared.entry.Act.TheVariants.{Open, Close, Fetch, Set, Mapped, Unmapped, Wrote, Refused}
use Rattle.bus_hub.specs.declared.entry.Entry.{Entry}
use Rattle.bus_hub.specs.declared.did.Running.{Running}
use Rattle.bus_hub.specs.declared.did.Did.{Did}
use Rattle.bus_hub.specs.declared.did.Did.TheVariants.{Opened, Closed, Broken, Fetched, Noted, Denied, Mapping, Unmapping, Missed, Masked, Unfetched}
use Rattle.bus_hub.specs.Log.{Item, State, Runs, Rule, IsPlain, change, made_whole, reached, entry_of, opening}
use Rattle.bus_hub.specs.Hub.{core_of}
use Rattle.bus_hub.specs.Legal.{MayStand, core_after, LegalTo}
use Rattle.bus_hub.proofs.Logs.{Keeps, kept}

-- one more entry
legal_more : (o : Option ℕ) (entries : List Entry) (p : Option ℕ) (e : Entry)
    → LegalTo o entries p → e.core < 2 → MayStand e.core e.act p
    → LegalTo o (entries ++ e ∷ []) (core_after e.core e.act)
legal_more o [] p e legal small may =
    (small, subst (λ (q : Option ℕ). MayStand e.core e.act q) (sym legal) may, refl)
legal_more o (x ∷ entries) p e legal small may =
    (legal.0, legal.1, legal_more (core_after x.core x.act) entries p e legal.2 small may)

-- a plain act stands where no step is open, and leaves none open
plain_stands : (c : ℕ) (act : Act) (o : Option ℕ) → IsPlain act → o ≡ None
    → MayStand c act o × (core_after c act ≡ None)
plain_stands c (Open erase at len) o plain idle = absurd plain
plain_stands c (Close end) o plain idle = absurd plain
plain_stands c (Fetch at start len) o plain idle = absurd plain
plain_stands c Set o plain idle = (idle, refl)
plain_stands c (Mapped at) o plain idle = (idle, refl)
plain_stands c (Unmapped at) o plain idle = (idle, refl)
plain_stands c Wrote o plain idle = (idle, refl)
plain_stands c (Refused why) o plain idle = (idle, refl)

module _ {S K P : Type 0}
    (may_end : S → ℕ → StepEnd → Type 0) (may_tear : S → ℕ → List ℕ → Step → List ℕ → Type 0)
    (may_refuse : S → ℕ → NorFault → Type 0) (must_refuse : S → ℕ → Type 0)
    (part : K → ℕ → P) (grants : P → Step → Type 0) (after : K → ℕ → Step → K) where
  abbrev Obeys : S → State K → ℕ → Did → Type 0
  Obeys = Rule may_end may_tear may_refuse must_refuse part grants after

  -- the journal so far is legal, with the step that runs open
  abbrev pub IsLegalState : State K → Type 0
  IsLegalState s = LegalTo None s.entries (core_of s.running)

  core_runs : (c : ℕ) (Q : Running → Type 0) (o : Option Running) → Runs c Q o → core_of o ≡ Some c
  core_runs c Q None runs = absurd runs
  core_runs c Q (Some run) runs = ap (λ (n : ℕ). Some n) runs.0

  core_none : (o : Option Running) → o ≡ None → core_of o ≡ None
  core_none o idle = ap core_of idle

  same_entries : (s : State K) (c : ℕ) (o : Option Running) → (made_whole after s c o).entries
      ≡ s.entries
  same_entries s c None = refl
  same_entries s c (Some run) = refl

  legal_item : (set : S) (s : State K) (c : ℕ) (did : Did) → c < 2 → Obeys set s c did
      → IsLegalState s → IsLegalState (change after s c did)
  legal_item set s c (Opened k regs step) small rule is =
      legal_more None s.entries (core_of s.running) (entry_of c k regs (opening step)) is small
      (core_none s.running rule.0)
  legal_item set s c (Closed k regs) small rule is =
      subst (λ (entries : List Entry). LegalTo None (entries
      ++ entry_of c k regs (Close ends.Done) ∷ []) None)
      (sym (same_entries s c s.running))
      (legal_more None s.entries (core_of s.running) (entry_of c k regs (Close ends.Done)) is small
      (core_runs c (λ run. run.k ≡ k) s.running rule.0))
  legal_item set s c (Broken k regs why left) small rule is =
      legal_more None s.entries (core_of s.running) (entry_of c k regs (Close (end_by why))) is
      small
      (core_runs c (λ run. (run.k ≡ k) × Torn s.flash run.step left
      × may_tear set s.steps s.flash run.step left) s.running rule.0)
  legal_item set s c (Fetched k regs at bytes) small rule is =
      subst (λ (o : Option ℕ). LegalTo None (s.entries ++ entry_of c k regs
      (Fetch at (length s.bytes) (length bytes)) ∷ []) o) (sym (core_none s.running rule.0))
      (legal_more None s.entries (core_of s.running) (entry_of c k regs
      (Fetch at (length s.bytes) (length bytes))) is small (core_none s.running rule.0))
  legal_item set s c (Noted k regs act) small rule is =
      let stands = plain_stands c act (core_of s.running) rule.1 (core_none s.running rule.0) in
      subst (λ (o : Option ℕ). LegalTo None (s.entries ++ entry_of c k regs act ∷ []) o)
      (stands.1 ∙ sym (core_none s.running rule.0))
      (legal_more None s.entries (core_of s.running) (entry_of c k regs act) is small stands.0)
  legal_item set s c (Denied why) small rule is = is
  legal_item set s c (Mapping flash_page n space answer) small rule is = is
  legal_item set s c (Unmapping at answer) small rule is = is
  legal_item set s c (Missed at len) small rule is = is
  legal_item set s c (Masked at len) small rule is = is
  legal_item set s c (Unfetched at len why) small rule is = is

  pub legal_log : (set : S) (s : State K) (log : List Item)
      → Keeps may_end may_tear may_refuse must_refuse part grants after set s log
      → IsLegalState s → IsLegalState (reached after s log)
  legal_log set s log all is =
      kept may_end may_tear may_refuse must_refuse part grants after set IsLegalState
      (λ t c did small rule legal. legal_item set t c did small rule legal) s log all is
