-- The journal is as long as both shares need.
use Rattle.std.specs.Prelude.{◌≡◌, ◌==◌, ℕ, zero, suc, ◌+◌, ◌<◌, Bool, true, false, cond, List, [], ◌∷◌, ◌++◌, length, refl, Option, Some, None}
use Rattle.std.proofs.Common.{ap, arith, length-append}
use Rattle.nor_device.specs.declared.step.Step.{Step}
use Rattle.nor_device.specs.declared.nor.StepEnd.{StepEnd}
use Rattle.nor_device.specs.declared.nor.NorFault.{NorFault}
use Rattle.nor_device.specs.Torn.{Torn}
use Rattle.bus_hub.specs.declared.entry.Entry.{Entry}
use Rattle.bus_hub.specs.declared.did.Running.{Running}
use Rattle.bus_hub.specs.declared.did.Did.{Did}
use Rattle.bus_hub.specs.declared.did.Did.TheVariants.{Opened, Closed, Broken, Fetched, Noted, Denied, Mapping, Unmapping, Missed, Masked, Unfetched}
use Rattle.bus_hub.specs.Log.{Item, of_core, State, Runs, Rule, change, made_whole, reached}
use Rattle.bus_hub.specs.Hub.{entries_needed, bytes_needed, needs, byte_needs, owed}
use Rattle.bus_hub.proofs.Logs.{Keeps}

-- a list with one more
one_longer : {A : Type 0} (xs : List A) (x : A) → length (xs ++ x ∷ []) ≡ length xs + 1
one_longer xs x = length-append xs (x ∷ [])

-- the entries so far and the one that is owed
abbrev pub spent : {K : Type 0} → State K → ℕ
spent s = length s.entries + owed s.running

-- of an item of core 0 or 1, the need of either share
need_more : (c : ℕ) (n left right : ℕ) → c < 2
    → n + (left + right) ≡ cond (c == 0) (n + left) left + cond (c == 1) (n + right) right
need_more zero n left right small = omega arith
need_more (suc zero) n left right small = omega arith
need_more (suc (suc c)) n left right small = absurd (omega arith)

needs_cond : (b : Bool) (did : Did) (share : List Did)
    → needs (cond b (did ∷ share) share) ≡ cond b (entries_needed did + needs share) (needs share)
needs_cond true did share = refl
needs_cond false did share = refl

byte_needs_cond : (b : Bool) (did : Did) (share : List Did)
    → byte_needs (cond b (did ∷ share) share)
    ≡ cond b (bytes_needed did + byte_needs share) (byte_needs share)
byte_needs_cond true did share = refl
byte_needs_cond false did share = refl

module _ {S K P : Type 0}
    (may_end : S → ℕ → StepEnd → Type 0) (may_tear : S → ℕ → List ℕ → Step → List ℕ → Type 0)
    (may_refuse : S → ℕ → NorFault → Type 0) (must_refuse : S → ℕ → Type 0)
    (part : K → ℕ → P) (grants : P → Step → Type 0) (after : K → ℕ → Step → K) where
  abbrev Obeys : S → State K → ℕ → Did → Type 0
  Obeys = Rule may_end may_tear may_refuse must_refuse part grants after

  -- a step that runs is owed one entry, and none is owed where none runs
  owed_runs : (c : ℕ) (Q : Running → Type 0) (o : Option Running) → Runs c Q o → owed o ≡ 1
  owed_runs c Q None runs = absurd runs
  owed_runs c Q (Some run) runs = refl

  owed_none : (o : Option Running) → o ≡ None → owed o ≡ 0
  owed_none o idle = ap owed idle

  same_entries : (s : State K) (c : ℕ) (o : Option Running) → (made_whole after s c o).entries
      ≡ s.entries
  same_entries s c None = refl
  same_entries s c (Some run) = refl

  same_bytes : (s : State K) (c : ℕ) (o : Option Running) → (made_whole after s c o).bytes ≡ s.bytes
  same_bytes s c None = refl
  same_bytes s c (Some run) = refl

  -- what an item spends
  spends : (set : S) (s : State K) (c : ℕ) (did : Did) → Obeys set s c did
      → spent (change after s c did) ≡ spent s + entries_needed did
  spends set s c (Opened k regs step) rule =
      omega (arith, one_longer {A = Entry}, owed_none s.running rule.0)
  spends set s c (Closed k regs) rule =
      let e = ap (λ (entries : List Entry). length entries) (same_entries s c s.running) in
      omega (arith, one_longer {A = Entry}, owed_runs c (λ run. run.k ≡ k) s.running rule.0, e)
  spends set s c (Broken k regs why left) rule =
      omega (
        arith,
        one_longer {A = Entry},
        owed_runs c (λ run. (run.k ≡ k) × Torn s.flash run.step left
            × may_tear set s.steps s.flash run.step left) s.running rule.0,
      )
  spends set s c (Fetched k regs at bytes) rule = omega (arith, one_longer {A = Entry})
  spends set s c (Noted k regs act) rule = omega (arith, one_longer {A = Entry})
  spends set s c (Denied why) rule = omega arith
  spends set s c (Mapping flash_page n space answer) rule = omega arith
  spends set s c (Unmapping at answer) rule = omega arith
  spends set s c (Missed at len) rule = omega arith
  spends set s c (Masked at len) rule = omega arith
  spends set s c (Unfetched at len why) rule = omega arith

  spends_bytes : (set : S) (s : State K) (c : ℕ) (did : Did) → Obeys set s c did
      → length (change after s c did).bytes ≡ length s.bytes + bytes_needed did
  spends_bytes set s c (Opened k regs step) rule = omega arith
  spends_bytes set s c (Closed k regs) rule =
      let e = ap (λ (bytes : List ℕ). length bytes) (same_bytes s c s.running) in
      omega (arith, e)
  spends_bytes set s c (Broken k regs why left) rule = omega arith
  spends_bytes set s c (Fetched k regs at bytes) rule = length-append s.bytes bytes
  spends_bytes set s c (Noted k regs act) rule = omega arith
  spends_bytes set s c (Denied why) rule = omega arith
  spends_bytes set s c (Mapping flash_page n space answer) rule = omega arith
  spends_bytes set s c (Unmapping at answer) rule = omega arith
  spends_bytes set s c (Missed at len) rule = omega arith
  spends_bytes set s c (Masked at len) rule = omega arith
  spends_bytes set s c (Unfetched at len why) rule = omega arith

  -- what a log spends
  pub spent_log : (set : S) (s : State K) (log : List Item)
      → Keeps may_end may_tear may_refuse must_refuse part grants after set s log
      → spent (reached after s log) ≡ spent s + (needs (of_core 0 log) + needs (of_core 1 log))
  spent_log set s [] all = omega arith
  spent_log set s (x ∷ log) all =
      omega (
        arith,
        spent_log set (change after s x.core x.did) log all.2,
        spends set s x.core x.did all.1,
        need_more x.core (entries_needed x.did) (needs (of_core 0 log)) (needs (of_core 1 log)) all.0,
        needs_cond (x.core == 0) x.did (of_core 0 log),
        needs_cond (x.core == 1) x.did (of_core 1 log),
      )

  pub bytes_log : (set : S) (s : State K) (log : List Item)
      → Keeps may_end may_tear may_refuse must_refuse part grants after set s log
      → length (reached after s log).bytes
      ≡ length s.bytes + (byte_needs (of_core 0 log) + byte_needs (of_core 1 log))
  bytes_log set s [] all = omega arith
  bytes_log set s (x ∷ log) all =
      omega (
        arith,
        bytes_log set (change after s x.core x.did) log all.2,
        spends_bytes set s x.core x.did all.1,
        need_more x.core (bytes_needed x.did) (byte_needs (of_core 0 log))
            (byte_needs (of_core 1 log)) all.0,
        byte_needs_cond (x.core == 0) x.did (of_core 0 log),
        byte_needs_cond (x.core == 1) x.did (of_core 1 log),
      )
