-- What is rewritten and what boots depends on the entries of the two sectors alone; and each rewrite of a
-- boot gives the entry that stands there another state.
use Rattle.std.proofs.Common.{◌==◌, ◌≡◌, ◌⊎◌, inl, inr, ℕ, zero, suc, ◌<◌, true, false, List, [], ◌∷◌, ◌++◌, Option, Some, None, refl, sym, ap, ◌∙◌, arith}
use Rattle.std.proofs.lemmas.Bool.{cases_Bool}
use Rattle.otadata.specs.declared.entry.Entry.{Entry}
use Rattle.otadata.specs.Choice.{active_of}
use Rattle.partition_table.specs.Layout.{Places}
use Rattle.boot_select.specs.Choice.{named_of}
use Rattle.boot_select.specs.Candidates.{candidates}
use Rattle.boot_select.specs.Boots.{Images, first_held}
use Rattle.rollback.specs.declared.rewrite.Rewrite.{Rewrite}
use Rattle.rollback.specs.Rewrite.{AreRestated, changed, written}
use Rattle.rollback.specs.Boot.{abort, aborts, begin, begin_by, begin_in, boot_writes}
use Rattle.rollback.specs.Boots.{after_boot, boots}
use Rattle.rollback.proofs.BootLemmas.{boot_writes-parts}
use Rattle.rollback.proofs.ChanceLemmas.{same_votes}

-- the rewrites of a boot are the same by the same entries
pub writes_same : (es gs : ℕ → Entry) → gs 0 ≡ es 0 → gs 1 ≡ es 1 → boot_writes gs ≡ boot_writes es
writes_same es gs first second = boot_writes-parts gs ∙ rw (first, second) refl
    ∙ sym (boot_writes-parts es)

-- so are the entries after rewrites
pub written_same : (ws : List Rewrite) (es gs : ℕ → Entry) (k : ℕ) → gs k ≡ es k
    → written ws gs k ≡ written ws es k
written_same [] es gs k same = same
written_same (w ∷ ws) es gs k same = written_same ws (changed w es)
    (changed w gs) k (at (cases_Bool (k == w.sector)))
  where
    at : ((k == w.sector) ≡ true) ⊎ ((k == w.sector) ≡ false) → changed w gs k ≡ changed w es k
    at (inl p) = rw p refl
    at (inr p) = rw p same

-- and those once a boot has made its rewrites
pub after_boot_same : (es gs : ℕ → Entry) (k : ℕ) → gs 0 ≡ es 0 → gs 1 ≡ es 1 → gs k ≡ es k
    → after_boot gs k ≡ after_boot es k
after_boot_same es gs k first second same =
    ap (λ ws. written ws gs k) (writes_same es gs first second)
    ∙ written_same (boot_writes es) es gs k same

-- and what boots
pub boots_same : (layout : Places) (images : Images) (es gs : ℕ → Entry) → gs 0 ≡ es 0 → gs 1 ≡ es 1
    → boots layout images gs ≡ boots layout images es
boots_same layout images es gs first second =
    same_votes layout images es gs 0 (omega arith) (rw first refl) (rw second refl)

-- what boots, by the entries once a boot has made its rewrites
pub boots_after : (layout : Places) (images : Images) (es : ℕ → Entry) (first second : Entry)
    → first ≡ after_boot es 0 → second ≡ after_boot es 1
    → boots layout images es ≡ first_held images (candidates layout (named_of layout first second))
unfolding boots
boots_after layout images es first second is_first is_second = rw (is_first, is_second) refl

-- what boots where a boot rewrites nothing
pub quiet_boots : (layout : Places) (images : Images) (es : ℕ → Entry) → boot_writes es ≡ []
    → boots layout images es ≡ first_held images (candidates layout (named_of layout (es 0) (es 1)))
quiet_boots layout images es quiet =
    boots_after layout images es (es 0) (es 1) (sym (ap (λ ws. written ws es 0) quiet))
    (sym (ap (λ ws. written ws es 1) quiet))

-- ---- each rewrite gives an entry another state

-- rewrites one after the other
restated_append : (ws vs : List Rewrite) (es : ℕ → Entry) → AreRestated ws es
    → AreRestated vs (written ws es)
    → AreRestated (ws ++ vs) es
restated_append [] vs es first then = then
restated_append (w ∷ ws) vs es first then = (first.0, first.1, restated_append ws vs (changed w es) first.2 then)

-- an abort, where the entry is the one that stands there
abort_restated : (y : ℕ) (e : Entry) (es : ℕ → Entry) → y < 2 → es y ≡ e
    → AreRestated (abort y e) es
abort_restated y e es two same = at (cases_Bool (e.state == 1))
  where
    at : ((e.state == 1) ≡ true) ⊎ ((e.state == 1) ≡ false) → AreRestated (abort y e) es
    at (inl p) = rw p (two, rw same refl, tt)
    at (inr p) = rw p tt

-- that an entry begins to wait
begin_restated : (y : ℕ) (es : ℕ → Entry) → y < 2 → AreRestated (begin_in y (es y)) es
begin_restated y es two = at (cases_Bool ((es y).state == 0))
  where
    at : (((es y).state == 0) ≡ true) ⊎ (((es y).state == 0) ≡ false)
        → AreRestated (begin_in y (es y)) es
    at (inl p) = rw p (two, refl, tt)
    at (inr p) = rw p tt

-- the second entry is not changed by an abort of the first
abort_beside : (es : ℕ → Entry) → written (abort 0 (es 0)) es 1 ≡ es 1
abort_beside es = at (cases_Bool ((es 0).state == 1))
  where
    at : (((es 0).state == 1) ≡ true) ⊎ (((es 0).state == 1) ≡ false)
        → written (abort 0 (es 0)) es 1 ≡ es 1
    at (inl p) = rw p refl
    at (inr p) = rw p refl

-- each rewrite of a boot gives the entry that stands in its sector another state
pub boot_restates : (es : ℕ → Entry) → AreRestated (boot_writes es) es
unfolding boot_writes
boot_restates es =
    let gs = written (aborts es) es in
    restated_append (aborts es) (begin (gs 0) (gs 1)) es
    (restated_append (abort 0 (es 0))
    (abort 1 (es 1)) es (abort_restated 0 (es 0) es (omega arith) refl)
    (abort_restated 1 (es 1) (written (abort 0 (es 0)) es) (omega arith) (abort_beside es)))
    (at (active_of (gs 0) (gs 1)))
  where
    at : (active : Option ℕ)
        → AreRestated (begin_by (written (aborts es) es 0) (written (aborts es) es 1) active)
        (written (aborts es) es)
    at None = tt
    at (Some zero) = begin_restated 0 (written (aborts es) es) (omega arith)
    at (Some (suc n)) = begin_restated 1 (written (aborts es) es) (omega arith)
