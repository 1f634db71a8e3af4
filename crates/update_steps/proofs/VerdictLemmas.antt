-- A rewrite of an entry boots by a verdict beside another core, too.
use Rattle.std.proofs.Common.{◌≡◌, ◌≢◌, inl, inr, Bool, ℕ, ◌≤◌, List, [], ◌∷◌, ◌++◌, length, None, sym, ap, ◌∙◌, subst, arith}
use Rattle.nor_device.specs.declared.step.Step.{Step}
use Rattle.nor_device.specs.Flash.{after_steps}
use Rattle.crash_images.specs.Crash.{LeftAfter}
use Rattle.crash_images.specs.Agrees.{Agrees}
use Rattle.partition_table.specs.Layout.{IsPlaced, Places}
use Rattle.boot_select.specs.Boots.{entries_in, images_in}
use Rattle.rollback.specs.declared.rewrite.Rewrite.{Rewrite}
use Rattle.rollback.specs.Boots.{BootsByVerdict, IsChance, boots_in}
use Rattle.image_verify.specs.Held.{held}
use Rattle.boot_run.specs.Rewriting.{rewrite}
use Rattle.boot_run.specs.Crashed.{IsRestated, LeavesVerdict}
use Rattle.boot_run.proofs.CrashLemmas.{label_short, left_boots, left_verdict}
use Rattle.update_steps.specs.Beside.{IsApart, IsSpared, StandsBeside}
use Rattle.update_steps.proofs.BesideLemmas.{alone, alone_agrees, alone_left, alone_none}
use Rattle.update_steps.proofs.SparedLemmas.{spared_boots, spared_entry}

module _ (layout : Places) (flash now : List ℕ) (write : Rewrite) (made rest : List Step)
    (others : ℕ → Bool) (placed : IsPlaced layout (length flash))
    (is : IsRestated (entries_in layout flash) write) (apart : IsApart layout others)
    (split : rewrite layout.otadata write ≡ made ++ rest)
    (stands : StandsBeside flash made rest others now) where
  abbrev left : List ℕ
  left = alone flash made rest others now stands

  agrees : Agrees (IsSpared others) left now
  agrees = alone_agrees flash made rest others now stands

  after : LeftAfter flash (rewrite layout.otadata write) left
  after = subst (λ (list : List Step). LeftAfter flash list left) (sym split)
      (alone_left flash made rest others now stands)

  -- what a verdict gives boots, or the entry matches by chance
  pub beside_verdict : LeavesVerdict layout flash write now
  beside_verdict = elim (left_verdict layout (length flash) flash left write placed is after) [
    | inl chance ↦ inl (subst (λ e. IsChance (entries_in layout flash write.sector) write.entry e)
        (sym (spared_entry layout others left now apart agrees write.sector is.two)) chance)
    | inr verdict ↦ inr (subst (λ booted. BootsByVerdict layout (images_in held layout flash)
        (entries_in layout flash) write.sector booted)
        (sym (spared_boots layout others left now apart agrees)) verdict)
  ]

  -- some application boots, if one did
  pub beside_still : boots_in held layout flash ≢ None → boots_in held layout now ≢ None
  beside_still some = subst (λ booted. booted ≢ None)
      (sym (spared_boots layout others left now apart agrees))
      (left_boots layout (length flash) flash left (write ∷ []) placed ((is.two, short), tt) after
      some)
    where
      short : length write.entry.label ≤ 20
      short = let same = ap (λ (w : Rewrite). length w.entry.label) is.is in
          let label = label_short layout flash write.sector in omega arith

-- behind all steps of any list boots what boots of the flash that they leave
pub beside_all : (layout : Places) (flash now : List ℕ) (steps : List Step) (others : ℕ → Bool)
    → IsApart layout others → StandsBeside flash steps [] others now
    → boots_in held layout now ≡ boots_in held layout (after_steps flash steps)
beside_all layout flash now steps others apart stands =
    spared_boots layout others (alone flash steps [] others now stands) now apart
    (alone_agrees flash steps [] others now stands)
    ∙ ap (boots_in held layout) (alone_none flash steps others now stands)
