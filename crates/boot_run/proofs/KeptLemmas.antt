-- What boots, confirmations and rejections leave of a flash that is a pair.
use Rattle.std.proofs.Common.{◌==◌, ◌≡◌, ◌≢◌, ◌⊎◌, inl, inr, Bool, true, false, ℕ, zero, suc, ◌<◌, List, [], ◌∷◌, Option, Some, None, Ok, Err, refl, sym, subst, arith, if◌then◌else◌}
use Rattle.std.proofs.lemmas.Bool.Decides.{nat_tests}
use Rattle.crash_images.specs.Crash.{LeftAfter}
use Rattle.crash_images.proofs.LeftLaws.{left_none}
use Rattle.otadata.specs.declared.entry.Entry.{Entry}
use Rattle.otadata.specs.Choice.{IsValid, active_of}
use Rattle.otadata.proofs.ChoiceLemmas.{active-first, active-second}
use Rattle.partition_table.specs.declared.app.App.{App}
use Rattle.partition_table.specs.Layout.{IsPlaced, Places}
use Rattle.boot_select.specs.Choice.{slot_app}
use Rattle.boot_select.specs.Settled.{sectors}
use Rattle.boot_select.specs.Boots.{entries_in, images_in}
use Rattle.rollback.specs.declared.rewrite.Rewrite.{Rewrite}
use Rattle.rollback.specs.declared.verdict.NoOtaApp.{NoOtaApp}
use Rattle.rollback.specs.declared.verdict.RejectNo.TheVariants as no
use Rattle.rollback.specs.Rewrite.{restated, with_state}
use Rattle.rollback.specs.Boot.{boot_writes}
use Rattle.rollback.specs.Boots.{IsChance}
use Rattle.rollback.specs.Pair.{IsPair, RewritesOnly, aborts_it, begins_it, is_quiet}
use Rattle.rollback.specs.Verdict.{confirm_of, reject_as, reject_of, started_after}
use Rattle.rollback.proofs.LifeLemmas.{pair_writes, rewrite_pair}
use Rattle.image_verify.specs.Held.{held}
use Rattle.boot_run.specs.Paired.{IsActiveIn, IsPairIn, KeepsPair, Pairing}
use Rattle.boot_run.specs.Rewriting.{rewrite, rewrites}
use Rattle.boot_run.specs.Verdict.{confirmation, just_one, one_of, rejection, writes_of}
use Rattle.boot_run.proofs.CrashLemmas.{label_short}
use Rattle.boot_run.proofs.FrameLemmas.{left_images, left_other}

-- ---- which rewrites there are

-- there is none, or one of the entry of this sector, which is neither INVALID nor ABORTED
data RewritesEntry (es : ℕ → Entry) (sector : ℕ) (writes : List Rewrite) : Type 0 where
  none : writes ≡ [] → RewritesEntry es sector writes
  one : (state : ℕ) → writes ≡ restated state sector (es sector) ∷ [] → (es sector).state ≢ 3
      → (es sector).state ≢ 4 → RewritesEntry es sector writes

-- those of a boot of a pair
boot_entry : (es : ℕ → Entry) (sector : ℕ) → RewritesOnly es sector
    → RewritesEntry es sector (boot_writes es)
boot_entry es sector (is_quiet quiet) = none quiet
boot_entry es sector (aborts_it is made) = one 4 made (omega arith) (omega arith)
boot_entry es sector (begins_it is active made) = one 1 made (omega arith) (omega arith)

-- the active entry is one of the two sectors, counts, and is neither INVALID nor ABORTED
record Counts (es : ℕ → Entry) (sector : ℕ) : Type 0 where
  entry : sectors (es 0) (es 1) sector ≡ es sector
  valid : IsValid (es sector)

active_counts : (es : ℕ → Entry) (sector : ℕ) → active_of (es 0) (es 1) ≡ Some sector
    → sector < 2 → Counts es sector
active_counts es zero is two = record
    { entry = refl; valid = ((active-first (es 0) (es 1)).0 is).valid }
active_counts es (suc zero) is two = record
    { entry = refl; valid = ((active-second (es 0) (es 1)).0 is).valid }
active_counts es (suc (suc n)) is two = absurd (omega arith)

-- those of a confirmation are of the active entry
pub confirm_entry : (es : ℕ → Entry) (sector : ℕ) → active_of (es 0) (es 1) ≡ Some sector → sector < 2
    → (((es sector).state ≡ 2) × (writes_of (confirmation es) ≡ []))
    ⊎ (writes_of (confirmation es) ≡ restated 2 sector (es sector) ∷ [])
unfolding confirm_of
confirm_entry es sector is two =
    let counts = active_counts es sector is two in
    rw (is, counts.entry) (by ((es sector).state == 2) refl)
  where
    by : (done : Bool) → ((es sector).state == 2) ≡ done
        → (((es sector).state ≡ 2) × (writes_of (one_of {E = NoOtaApp}
        (Ok (if done then None else Some (restated 2 sector (es sector))))) ≡ []))
        ⊎ (writes_of (one_of {E = NoOtaApp}
        (Ok (if done then None else Some (restated 2 sector (es sector)))))
        ≡ restated 2 sector (es sector) ∷ [])
    by true told = inl (grind (arith, nat_tests, told), refl)
    by false told = inr refl

-- so are those of a rejection
reject_entry : (layout : Places) (whole : App → Bool) (es : ℕ → Entry) (sector : ℕ)
    → active_of (es 0) (es 1) ≡ Some sector → sector < 2
    → (writes_of (rejection layout whole es) ≡ [])
    ⊎ (writes_of (rejection layout whole es) ≡ restated 3 sector (es sector) ∷ [])
unfolding reject_of
reject_entry layout whole es sector is two =
    let counts = active_counts es sector is two in
    rw (is, counts.entry) (by (slot_app layout (es sector))
    (started_after layout whole (sectors (es 0) (es 1)) (restated 3 sector (es sector))))
  where
    tested : (other : Bool)
        → (writes_of (just_one
        (if other then Ok (restated 3 sector (es sector)) else Err no.NothingElse)) ≡ [])
        ⊎ (writes_of (just_one
        (if other then Ok (restated 3 sector (es sector)) else Err no.NothingElse))
        ≡ restated 3 sector (es sector) ∷ [])
    tested true = inr refl
    tested false = inl refl

    by : (app : App) (started : Option App)
        → (writes_of (just_one (reject_as (restated 3 sector (es sector)) app started)) ≡ [])
        ⊎ (writes_of (just_one (reject_as (restated 3 sector (es sector)) app started))
        ≡ restated 3 sector (es sector) ∷ [])
    by app started = tested _

-- ---- what a loss of power leaves of them

module _ (layout : Places) (size : ℕ) (flash : List ℕ) (pair : Pairing)
    (placed : IsPlaced layout size) (is : IsPairIn layout flash pair) where
  abbrev es : ℕ → Entry
  es = entries_in layout flash

  -- of a rewrite of the entry of a pair
  kept_state : (state : ℕ) (left : List ℕ) → (es pair.sector).state ≢ 3
      → (es pair.sector).state ≢ 4
      → LeftAfter flash (rewrite layout.otadata (restated state pair.sector (es pair.sector))) left
      → IsChance (es pair.sector) (with_state state (es pair.sector))
      (entries_in layout left pair.sector)
      ⊎ IsPairIn layout left pair
  kept_state state left not_rejected not_aborted after =
      let write = restated state pair.sector (es pair.sector) in
      let short = label_short layout flash pair.sector in
      let images : images_in held layout left ≡ images_in held layout flash =
      left_images held layout size flash left (write ∷ []) placed ((is.two, short), tt) after in
      let other = left_other layout flash left write placed.aligned is.two short after in
      subst (λ h. IsChance (es pair.sector) (with_state state (es pair.sector))
      (entries_in layout left pair.sector)
      ⊎ IsPair layout h (entries_in layout left) pair.sector pair.app pair.image pair.slot
      pair.target)
      (sym images)
      (rewrite_pair layout (images_in held layout flash) es (entries_in layout left) pair.sector
      state pair.app pair.image pair.slot pair.target is not_rejected not_aborted other)

  -- of rewrites of that entry alone
  kept : (writes : List Rewrite) (left : List ℕ) → RewritesEntry es pair.sector writes
      → LeftAfter flash (rewrites layout.otadata writes) left
      → KeepsPair layout flash writes pair left
  kept writes left (none nothing) after =
      let same : left ≡ flash = left_none flash left
      (subst (λ ws. LeftAfter flash (rewrites layout.otadata ws) left) nothing after) in
      inl (subst (λ f. IsPairIn layout f pair) (sym same) is)
  kept writes left (one state alone not_rejected not_aborted) after =
      elim (kept_state state left not_rejected not_aborted
      (subst (λ ws. LeftAfter flash (rewrites layout.otadata ws) left) alone after)) [
        | inl chance ↦ inr (record { state = state; alone = alone; chance = chance })
        | inr still ↦ inl still
      ]

  -- of those of a boot
  pub kept_boot : (left : List ℕ)
      → LeftAfter flash (rewrites layout.otadata (boot_writes es)) left
      → KeepsPair layout flash (boot_writes es) pair left
  kept_boot left after = kept (boot_writes es) left
      (boot_entry es pair.sector
      (pair_writes layout (images_in held layout flash) es pair.sector pair.app pair.image pair.slot
      pair.target is)) after

  -- of that of a confirmation of its active entry
  pub kept_confirm : IsActiveIn layout flash pair.sector → (left : List ℕ)
      → LeftAfter flash (rewrites layout.otadata (writes_of (confirmation es))) left
      → KeepsPair layout flash (writes_of (confirmation es)) pair left
  kept_confirm active left after = kept (writes_of (confirmation es)) left
      (by (confirm_entry es pair.sector active is.two)) after
    where
      by : (((es pair.sector).state ≡ 2) × (writes_of (confirmation es) ≡ []))
          ⊎ (writes_of (confirmation es) ≡ restated 2 pair.sector (es pair.sector) ∷ [])
          → RewritesEntry es pair.sector (writes_of (confirmation es))
      by (inl done) = none done.1
      by (inr made) =
          let valid = (active_counts es pair.sector active is.two).valid in
          one 2 made valid.not_rejected valid.not_given_up

  -- and of that of a rejection
  pub kept_reject : IsActiveIn layout flash pair.sector → (whole : App → Bool) (left : List ℕ)
      → LeftAfter flash (rewrites layout.otadata (writes_of (rejection layout whole es))) left
      → KeepsPair layout flash (writes_of (rejection layout whole es)) pair left
  kept_reject active whole left after = kept (writes_of (rejection layout whole es)) left
      (by (reject_entry layout whole es pair.sector active is.two)) after
    where
      by : (writes_of (rejection layout whole es) ≡ [])
          ⊎ (writes_of (rejection layout whole es) ≡ restated 3 pair.sector (es pair.sector) ∷ [])
          → RewritesEntry es pair.sector (writes_of (rejection layout whole es))
      by (inl nothing) = none nothing
      by (inr made) =
          let valid = (active_counts es pair.sector active is.two).valid in
          one 3 made valid.not_rejected valid.not_given_up
