-- What a loss of power leaves of rewrites.
use Rattle.std.proofs.Common.{◌≡◌, ◌≢◌, ◌⊎◌, inl, inr, ℕ, ◌+◌, ◌*◌, ◌<◌, ◌≤◌, List, [], ◌∷◌, length, take, drop, Option, Some, None, IfSome, refl, sym, ap, ◌∙◌, subst, arith}
use Rattle.std.proofs.lemmas.List.{length-take}
use Rattle.nor_device.specs.Flash.{after_steps}
use Rattle.crash_images.specs.Crash.{LeftAfter, IsLeftOf}
use Rattle.crash_images.proofs.LeftLaws.{left_none, left_append, left_end}
use Rattle.partition_table.specs.Layout.{Places, IsPlaced}
use Rattle.otadata.specs.Entry.{entry_of}
use Rattle.boot_select.specs.Boots.{entries_in, images_in}
use Rattle.boot_select.proofs.StartLemmas.{images_are_placed}
use Rattle.rollback.specs.declared.rewrite.Rewrite.{Rewrite}
use Rattle.rollback.specs.Rewrite.{restated, with_state}
use Rattle.rollback.specs.Boots.{boots, boots_in, BootsByVerdict, IsChance}
use Rattle.rollback.proofs.ChanceLemmas.{verdict-or_chance}
use Rattle.rollback.proofs.PairLemmas.{still_boots}
use Rattle.image_verify.specs.Held.{held}
use Rattle.boot_run.specs.Rewriting.{AreShort, rewrite, rewrites}
use Rattle.boot_run.specs.Above.{StillBootsAbove, held_above}
use Rattle.boot_run.specs.Crashed.{IsRestated, LeavesVerdict, LeavesVerdicts, IsLeftByVerdicts, StillBoots}
use Rattle.boot_run.proofs.FrameLemmas.{left_images, left_other}
use Rattle.boot_run.proofs.WritesLemmas.{AreRewrites}

-- the label of an entry of a flash is no longer than an entry's
pub label_short : (layout : Places) (flash : List ℕ) (y : ℕ)
    → length (entries_in layout flash y).label ≤ 20
unfolding entry_of
label_short layout flash y =
    omega (arith, length-take 20 (drop 4 (take 32 (drop (layout.otadata + 4096 * y) flash))))

-- of what is left in a rewrite boots what a verdict gives, or the entry matches by chance
restated_verdict : (layout : Places) (size : ℕ) (flash left : List ℕ) (y state : ℕ)
    → IsPlaced layout size
    → y < 2 → LeftAfter flash
    (rewrite layout.otadata (restated state y (entries_in layout flash y))) left
    → LeavesVerdict layout flash (restated state y (entries_in layout flash y)) left
restated_verdict layout size flash left y state placed two after =
    let write = restated state y (entries_in layout flash y) in
    let short = label_short layout flash y in
    let images : images_in held layout left ≡ images_in held layout flash =
    left_images held layout size flash left (write ∷ []) placed ((two, short), tt)
    (subst (λ steps. LeftAfter flash steps left) (sym refl) after) in
    let other = left_other layout flash left write placed.aligned two short after in
    subst (λ h. IsChance (entries_in layout flash y) (with_state state (entries_in layout flash y))
    (entries_in layout left y)
    ⊎ BootsByVerdict layout (images_in held layout flash) (entries_in layout flash) y
    (boots layout h (entries_in layout left)))
    (sym images)
    (verdict-or_chance layout (images_in held layout flash) (entries_in layout flash)
    (entries_in layout left) y state two other)

pub left_verdict : (layout : Places) (size : ℕ) (flash left : List ℕ) (write : Rewrite)
    → IsPlaced layout size
    → IsRestated (entries_in layout flash) write → LeftAfter flash (rewrite layout.otadata write)
    left
    → LeavesVerdict layout flash write left
left_verdict layout size flash left write placed is after =
    subst (λ w. LeavesVerdict layout flash w left) (sym is.is)
    (restated_verdict layout size flash left write.sector is.state placed is.two
    (subst (λ w. LeftAfter flash (rewrite layout.otadata w) left) is.is after))

-- each of the rewrites gives the entry that stands in its sector by then another state
abbrev pub AreRestatedOn : Places → List ℕ → List Rewrite → Type 0
AreRestatedOn layout flash [] = Unit {0}
AreRestatedOn layout flash (write ∷ writes) =
    IsRestated (entries_in layout flash) write
    × AreRestatedOn layout (after_steps flash (rewrite layout.otadata write)) writes

-- so does each rewrite of a boot
pub boot_restated : (layout : Places) (size : ℕ) (flash : List ℕ) (writes : List Rewrite)
    → IsPlaced layout size
    → AreRewrites (entries_in layout flash) writes → AreRestatedOn layout flash writes
boot_restated layout size flash [] placed are = tt
boot_restated layout size flash (w ∷ []) placed are = (are, tt)
boot_restated layout size flash (w ∷ v ∷ []) placed are =
    let steps = rewrite layout.otadata w in
    let label : length w.entry.label ≤ 20 =
    (let same = ap (λ (x : Rewrite). length x.entry.label) are.0.is in
    let short = label_short layout flash w.sector in omega arith) in
    let other = left_other layout flash (after_steps flash steps) w placed.aligned are.0.two label
    (left_end flash steps) in
    let same : entries_in layout (after_steps flash steps) v.sector ≡ entries_in layout flash
    v.sector =
    subst (λ y. entries_in layout (after_steps flash steps) y ≡ entries_in layout flash y)
    (sym are.2) other in (
      are.0,
      (
        record {
          two = are.1.two;
          state = are.1.state;
          fits = are.1.fits;
          is = are.1.is ∙ ap (restated are.1.state v.sector) (sym same);
        },
        tt,
      ),
    )
boot_restated layout size flash (w ∷ v ∷ u ∷ ws) placed are = absurd are

-- of what is left of rewrites boots what a verdict on one of them gives
pub left_verdicts : (layout : Places) (size : ℕ) (flash left : List ℕ) (writes : List Rewrite)
    → IsPlaced layout size
    → AreRestatedOn layout flash writes → LeftAfter flash (rewrites layout.otadata writes) left
    → LeavesVerdicts layout flash writes left
left_verdicts layout size flash left [] placed are after = left_none flash left after
left_verdicts layout size flash left (write ∷ writes) placed are after =
    elim (left_append flash (rewrite layout.otadata write) (rewrites layout.otadata writes) left
    after) [
      | inl here ↦ inl (left_verdict layout size flash left write placed are.0 here)
      | inr later ↦ inr (left_verdicts layout size
          (after_steps flash (rewrite layout.otadata write)) left writes placed are.1 later)
    ]

-- where an application boots, one boots at every moment of rewrites, whatever counts as an image
pub left_boots_by : (holds : List ℕ → Option (List ℕ)) (layout : Places) (size : ℕ)
    (flash left : List ℕ) (writes : List Rewrite) → IsPlaced layout size
    → AreShort writes → LeftAfter flash (rewrites layout.otadata writes) left
    → boots_in holds layout flash ≢ None → boots_in holds layout left ≢ None
left_boots_by holds layout size flash left writes placed short after some =
    subst (λ h. boots layout h (entries_in layout left) ≢ None)
    (sym (left_images holds layout size flash left writes placed short after))
    (still_boots layout (images_in holds layout flash) (entries_in layout flash)
    (entries_in layout left)
    (images_are_placed holds layout flash) some)

pub left_boots : (layout : Places) (size : ℕ) (flash left : List ℕ) (writes : List Rewrite)
    → IsPlaced layout size
    → AreShort writes → LeftAfter flash (rewrites layout.otadata writes) left
    → boots_in held layout flash ≢ None → boots_in held layout left ≢ None
left_boots = left_boots_by held

-- ---- the same of a device that tells its bytes

-- a boot that was broken off
pub told_verdicts : (layout : Places) (size : ℕ) (writes : List ℕ → List Rewrite)
    (old new : Option (List ℕ))
    → IsPlaced layout size → ((flash : List ℕ) → old ≡ Some flash → AreRestatedOn layout flash
    (writes flash))
    → IfSome old (λ flash. IsLeftOf (rewrites layout.otadata (writes flash)) old new)
    → IsLeftByVerdicts layout writes old new
told_verdicts layout size writes None new placed are left = tt
told_verdicts layout size writes (Some flash) new placed are left = (
  left.0,
  left.1,
  left_verdicts layout size flash left.0 (writes flash) placed (are flash refl)
      left.2,
)

-- and an application that boots of what is left
pub told_boots : (layout : Places) (size : ℕ) (writes : List Rewrite) (old new : Option (List ℕ))
    → IsPlaced layout size → AreShort writes → IsLeftOf (rewrites layout.otadata writes) old new
    → StillBoots layout old new
told_boots layout size writes None new placed short left = tt
told_boots layout size writes (Some flash) new placed short left =
    λ some. (left.0, left.1, left_boots layout size flash left.0 writes placed short left.2 some)

-- above a level too
pub told_boots_above : (level : ℕ) (layout : Places) (size : ℕ) (writes : List Rewrite)
    (old new : Option (List ℕ))
    → IsPlaced layout size → AreShort writes → IsLeftOf (rewrites layout.otadata writes) old new
    → StillBootsAbove level level layout old new
told_boots_above level layout size writes None new placed short left = tt
told_boots_above level layout size writes (Some flash) new placed short left =
    λ some. (
      left.0,
      left.1,
      left_boots_by (held_above level) layout size flash left.0 writes placed short left.2 some,
    )
