-- What stands by a duty stands by one that allows every step.
use Rattle.std.specs.Prelude.{◌≡◌, ℕ, zero, suc, Bool, false, List, [], ◌∷◌, Option, Some, None, refl}
use Rattle.std.proofs.Common.{◌∙◌, ap, sym, subst}
use Rattle.nor_device.specs.declared.step.Step.{Step}
use Rattle.nor_device.specs.declared.nor.StepEnd.{StepEnd}
use Rattle.nor_device.specs.declared.nor.StepEnd.TheVariants as ends
use Rattle.nor_device.specs.declared.nor.NorFault.{NorFault}
use Rattle.bus_hub.specs.declared.did.Running.{Running}
use Rattle.bus_hub.specs.declared.did.Did.{Did}
use Rattle.bus_hub.specs.declared.did.Did.TheVariants.{Opened, Closed, Broken, Fetched, Noted, Denied, Mapping, Unmapping, Missed, Masked, Unfetched}
use Rattle.bus_hub.specs.declared.did.Base.{Base}
use Rattle.bus_hub.specs.declared.entry.Act.TheVariants.{Close}
use Rattle.bus_hub.specs.Log.{Item, State, Rule, Ruled, change, entry_of, made_whole, reached, with_one}
use Rattle.bus_hub.specs.Hub.{Fits, Hub, Stands, begun}

-- a duty that no step changes
abbrev pub Still : {L : Type 0} → L → ℕ → Step → L
Still d c step = d

module _ {K L : Type 0} (free : L) where
  -- the same place of the log, by another duty
  abbrev pub free_state : State K → State L
  free_state s = record {
    flash = s.flash;
    running = s.running;
    map = s.map;
    duty = free;
    steps = s.steps;
    noted = s.noted;
    is_off = s.is_off;
    entries = s.entries;
    bytes = s.bytes;
  }

  -- the same base
  abbrev pub free_base : {S : Type 0} → Base S K → Base S L
  free_base b = record {
    flash = b.flash;
    map = b.map;
    duty = free;
    left_room = b.left_room;
    right_room = b.right_room;
    setting = b.setting;
    steps = b.steps;
    faults = b.faults;
    off = b.off;
  }

  -- the same bus
  abbrev pub free_hub : {D : Type 0} → Hub D K → Hub D L
  free_hub h = record {
    dev = h.dev;
    map = h.map;
    journal = h.journal;
    duty = free;
    running = h.running;
    left = h.left;
    right = h.right;
  }

  free_fits : {S : Type 0} (b : Base S K) (c : ℕ) (share : List Did) → Fits b c share
      → Fits (free_base b) c share
  free_fits b zero share fits = record { entries_fit = fits.entries_fit; bytes_fit = fits.bytes_fit }
  free_fits b (suc c) share fits =
      record { entries_fit = fits.entries_fit; bytes_fit = fits.bytes_fit }

  module _ (after : K → ℕ → Step → K) where
    free_whole : (s : State K) (c : ℕ) (o : Option Running)
        → free_state (made_whole after s c o) ≡ made_whole Still (free_state s) c o
    free_whole s c None = refl
    free_whole s c (Some run) = refl

    free_change : (s : State K) (c : ℕ) (did : Did)
        → free_state (change after s c did) ≡ change Still (free_state s) c did
    free_change s c (Opened k regs step) = refl
    free_change s c (Closed k regs) =
        ap (λ (z : State L). record (with_one z (entry_of c k regs (Close ends.Done))) {
          running = None;
          is_off = false;
        }) (free_whole s c s.running)
    free_change s c (Broken k regs why left) = refl
    free_change s c (Fetched k regs at bytes) = refl
    free_change s c (Noted k regs act) = refl
    free_change s c (Denied why) = refl
    free_change s c (Mapping flash_page n space answer) = refl
    free_change s c (Unmapping at answer) = refl
    free_change s c (Missed at len) = refl
    free_change s c (Masked at len) = refl
    free_change s c (Unfetched at len why) = refl

    pub free_reached : (s : State K) (log : List Item)
        → free_state (reached after s log) ≡ reached Still (free_state s) log
    free_reached s [] = refl
    free_reached s (x ∷ log) =
        free_reached (change after s x.core x.did) log
        ∙ ap (λ (z : State L). reached Still z log) (free_change s x.core x.did)

    module _ {S P Q : Type 0}
        (may_end : S → ℕ → StepEnd → Type 0)
        (may_tear : S → ℕ → List ℕ → Step → List ℕ → Type 0)
        (may_refuse : S → ℕ → NorFault → Type 0) (must_refuse : S → ℕ → Type 0)
        (part : K → ℕ → P) (grants : P → Step → Type 0)
        (free_part : L → ℕ → Q) (free_grants : Q → Step → Type 0)
        (all : (c : ℕ) (step : Step) → free_grants (free_part free c) step) where
      abbrev Obeys : S → State K → ℕ → Did → Type 0
      Obeys = Rule may_end may_tear may_refuse must_refuse part grants after

      abbrev ObeysFreely : S → State L → ℕ → Did → Type 0
      ObeysFreely = Rule may_end may_tear may_refuse must_refuse free_part free_grants Still

      free_rule : (set : S) (s : State K) (c : ℕ) (did : Did) → Obeys set s c did
          → ObeysFreely set (free_state s) c did
      free_rule set s c (Opened k regs step) rule = (rule.0, all c step, rule.2)
      free_rule set s c (Closed k regs) rule = rule
      free_rule set s c (Broken k regs why left) rule = rule
      free_rule set s c (Fetched k regs at bytes) rule = rule
      free_rule set s c (Noted k regs act) rule = rule
      free_rule set s c (Denied why) rule = rule
      free_rule set s c (Mapping flash_page n space answer) rule = rule
      free_rule set s c (Unmapping at answer) rule = rule
      free_rule set s c (Missed at len) rule = rule
      free_rule set s c (Masked at len) rule = rule
      free_rule set s c (Unfetched at len why) rule = rule

      abbrev IsRuled : S → State K → List Item → Type 0
      IsRuled = Ruled may_end may_tear may_refuse must_refuse part grants after

      abbrev IsRuledFreely : S → State L → List Item → Type 0
      IsRuledFreely = Ruled may_end may_tear may_refuse must_refuse free_part free_grants Still

      free_ruled : (set : S) (s : State K) (log : List Item) → IsRuled set s log
          → IsRuledFreely set (free_state s) log
      free_ruled set s [] ruled = tt
      free_ruled set s (x ∷ log) ruled = (
        ruled.0,
        free_rule set s x.core x.did ruled.1,
        subst (λ (z : State L). IsRuledFreely set z log) (free_change s x.core x.did)
            (free_ruled set (change after s x.core x.did) log ruled.2),
      )

      module _ {D : Type 0} (bytes : D → Option (List ℕ)) (off : D → Bool) (steps faults : D → ℕ)
          (setting : D → S) (good : List ℕ → K → List ℕ → Type 0)
          (free_good : List ℕ → L → List ℕ → Type 0)
          (any : (first flash : List ℕ) → free_good first free flash) where
        -- so stands the bus, and the log is the same
        pub free_stands : (h : Hub D K) (b : Base S K) (left right : List Did)
            → Stands bytes off steps faults setting may_end may_tear may_refuse must_refuse
            part grants after good h b left right
            → Stands bytes off steps faults setting may_end may_tear may_refuse must_refuse
            free_part free_grants Still free_good (free_hub h) (free_base b) left right
        free_stands h b left right s = record {
          flash = s.flash;
          told = s.told;
          noted = s.noted;
          counted = s.counted;
          is_off = s.is_off;
          power = s.power;
          setting_is = s.setting_is;
          left_room = s.left_room;
          right_room = s.right_room;
          left_fits = free_fits b 0 left s.left_fits;
          right_fits = free_fits b 1 right s.right_fits;
          good_first = any b.flash b.flash;
          whole_first = s.whole_first;
          stood = record {
            log = s.stood.log;
            left_is = s.stood.left_is;
            right_is = s.stood.right_is;
            ruled = free_ruled b.setting (begun b) s.stood.log s.stood.ruled;
            leads = sym (free_reached (begun b) s.stood.log)
                ∙ ap (λ (z : State K). free_state z) s.stood.leads;
          };
        }
