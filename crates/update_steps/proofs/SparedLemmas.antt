-- An update boots the old application or the new one beside another core, too.
use Rattle.std.proofs.Common.{◌≡◌, ◌≢◌, ◌⊎◌, inl, inr, Bool, ℕ, ◌+◌, ◌*◌, ◌<◌, List, [], ◌++◌, slice_get, Some, None, sym, ap, ◌∙◌, subst, arith}
use Rattle.nor_device.specs.declared.step.Step.{Step}
use Rattle.crash_images.specs.Crash.{LeftAfter}
use Rattle.crash_images.specs.Agrees.{Agrees, Covers}
use Rattle.partition_table.specs.declared.app.App.TheVariants.{Ota}
use Rattle.partition_table.specs.declared.row.Row.{Row}
use Rattle.partition_table.specs.Layout.{Places, layout_in}
use Rattle.boot_select.specs.Boots.{entries_in, images_in}
use Rattle.rollback.specs.Boots.{IsChance, boots_in}
use Rattle.rollback.specs.Pair.{IsPair}
use Rattle.image_layout.specs.Whole.{Whole}
use Rattle.image_verify.specs.Held.{held}
use Rattle.boot_run.specs.declared.aims.Aim.{Aim}
use Rattle.boot_run.proofs.FrameLemmas.{boots_agree, same_entry, same_images, same_layout}
use Rattle.update_steps.specs.Driver.{data_steps, driver_steps}
use Rattle.update_steps.specs.Session.{BootsOldOrNew, IsOpening, LeavesPair, MatchesByChance}
use Rattle.update_steps.specs.Beside.{IsApart, IsSpared, StandsBeside}
use Rattle.update_steps.proofs.SessionLemmas.{ShowsNone, left_layout, left_pair, left_some, pair_same, sector_two, session_before, session_boots, session_done}
use Rattle.update_steps.proofs.BesideLemmas.{alone, alone_agrees, alone_left, alone_none}

-- ---- flashes that agree where the other core may not write

module _ (layout : Places) (others : ℕ → Bool) (old new : List ℕ) (apart : IsApart layout others)
    (agrees : Agrees (IsSpared others) old new) where
  entry_spared : (sector : ℕ) → sector < 2
      → Covers (IsSpared others) (layout.otadata + 4096 * sector) 32
  entry_spared sector two i from to = apart.otadata i (omega arith) (omega arith)

  -- they have the same entries
  pub spared_entry : (sector : ℕ) → sector < 2
      → entries_in layout new sector ≡ entries_in layout old sector
  spared_entry sector two =
      same_entry (IsSpared others) layout old new sector (entry_spared sector two) agrees

  -- and images
  spared_images : images_in held layout new ≡ images_in held layout old
  spared_images = same_images held (IsSpared others) layout old new apart.apps agrees

  -- so they boot the same
  pub spared_boots : boots_in held layout new ≡ boots_in held layout old
  spared_boots = boots_agree held (IsSpared others) layout old new entry_spared apart.apps agrees

  -- by the same layout
  spared_layout : layout_in new ≡ layout_in old
  spared_layout = same_layout (IsSpared others) old new apart.table agrees

-- ---- the laws

module _ (shown : ShowsNone) (layout : Places) (flash now : List ℕ) (aim : Aim) (old new : List ℕ)
    (made rest : List Step) (others : ℕ → Bool) (opening : IsOpening layout flash aim old new)
    (apart : IsApart layout others) (stands : StandsBeside flash made rest others now) where
  abbrev left : List ℕ
  left = alone flash made rest others now stands

  agrees : Agrees (IsSpared others) left now
  agrees = alone_agrees flash made rest others now stands

  after : (steps : List Step) → steps ≡ made ++ rest → LeftAfter flash steps left
  after steps is = subst (λ (list : List Step). LeftAfter flash list left) (sym is)
      (alone_left flash made rest others now stands)

  -- within the data the old application boots
  pub beside_before : (row : Row) → slice_get layout.slots aim.slot ≡ Some row
      → data_steps row.offset new ≡ made ++ rest
      → boots_in held layout now ≡ Some (aim.running, old)
  beside_before row is split = spared_boots layout others left now apart agrees
      ∙ session_before shown layout flash left aim old new row opening is
      (after (data_steps row.offset new) split)

  -- at every moment the old one boots or the new one, or the entry matches by chance
  pub beside_boots : (row : Row) → slice_get layout.slots aim.slot ≡ Some row
      → driver_steps layout aim new ≡ made ++ rest
      → BootsOldOrNew layout flash aim row.size old new now
  beside_boots row is split = by (session_boots shown layout flash left aim old new row opening is
      (after (driver_steps layout aim new) split))
    where
      same : boots_in held layout now ≡ boots_in held layout left
      same = spared_boots layout others left now apart agrees

      by : BootsOldOrNew layout flash aim row.size old new left
          → BootsOldOrNew layout flash aim row.size old new now
      by (inl runs) = inl (same ∙ runs)
      by (inr more) = inr (
        more.0,
        elim more.1 [
          | inl one ↦ inl (same ∙ one)
          | inr chance ↦ inr (subst (λ e. IsChance (entries_in layout flash aim.next.sector)
              aim.next.entry e)
              (sym (spared_entry layout others left now apart agrees aim.next.sector
              (sector_two layout flash aim old new opening))) chance)
        ],
      )

  -- there is a pair, or the entry matches by chance
  pub beside_pair : driver_steps layout aim new ≡ made ++ rest
      → LeavesPair layout aim old new now ⊎ MatchesByChance layout flash aim now
  beside_pair split = elim (left_pair layout flash aim old new opening shown left
      (after (driver_steps layout aim new) split)) [
        | inl pair ↦ inl (subst (λ images. IsPair layout images (entries_in layout now)
            aim.next.sector aim.running old aim.slot new)
            (sym (spared_images layout others left now apart agrees))
            (pair_same layout (images_in held layout left) (entries_in layout left)
            (entries_in layout now) aim.next.sector aim.running old aim.slot new pair.two
            (spared_entry layout others left now apart agrees) pair))
        | inr chance ↦ inr (subst (λ e. IsChance (entries_in layout flash aim.next.sector)
            aim.next.entry e)
            (sym (spared_entry layout others left now apart agrees aim.next.sector
            (sector_two layout flash aim old new opening))) chance)
      ]

  -- some application boots
  pub beside_some : driver_steps layout aim new ≡ made ++ rest → boots_in held layout now ≢ None
  beside_some split = subst (λ booted. booted ≢ None)
      (sym (spared_boots layout others left now apart agrees))
      (left_some layout flash aim old new opening shown left
      (after (driver_steps layout aim new) split))

  -- the layout stays
  pub beside_layout : driver_steps layout aim new ≡ made ++ rest
      → layout_in now ≡ layout_in flash
  beside_layout split = spared_layout layout others left now apart agrees
      ∙ left_layout layout flash aim old new opening shown left
      (after (driver_steps layout aim new) split)

-- behind all of the steps the new application boots
pub beside_done : ShowsNone → (layout : Places) (flash now : List ℕ) (aim : Aim)
    (old new : List ℕ) (others : ℕ → Bool) (row : Row) → IsOpening layout flash aim old new
    → IsApart layout others → slice_get layout.slots aim.slot ≡ Some row → Whole new row.size
    → StandsBeside flash (driver_steps layout aim new) [] others now
    → boots_in held layout now ≡ Some (Ota aim.slot, new)
beside_done shown layout flash now aim old new others row opening apart is whole stands =
    let steps = driver_steps layout aim new in
    spared_boots layout others (alone flash steps [] others now stands) now apart
    (alone_agrees flash steps [] others now stands)
    ∙ ap (boots_in held layout) (alone_none flash steps others now stands)
    ∙ session_done shown layout flash flash aim old new row opening is whole
