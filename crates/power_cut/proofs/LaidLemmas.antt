-- A flash that no update has changed but where one may has the layout that it had; and how many steps
-- a boot has behind a session.
use Rattle.std.proofs.Common.{◌≡◌, inl, Bool, ℕ, ◌<◌, ◌≤◌, List, length, sym, ap, subst, arith}
use Rattle.crash_images.specs.Agrees.{Agrees}
use Rattle.crash_images.proofs.AgreesLaws.{agrees_fewer}
use Rattle.partition_table.specs.declared.app.App.TheVariants.{Ota}
use Rattle.partition_table.specs.Layout.{Places, layout_in}
use Rattle.rollback.specs.declared.rewrite.Rewrite.{Rewrite}
use Rattle.boot_run.specs.declared.aims.Aim.{Aim}
use Rattle.boot_run.specs.Rewriting.{rewrites}
use Rattle.boot_run.proofs.FrameLemmas.{same_layout}
use Rattle.update_steps.specs.Beside.{IsApart}
use Rattle.power_cut.specs.Sweep.{IsUntouched, offset_or_none, slot_offset}
use Rattle.power_cut.specs.Update.{Opens}
use Rattle.power_cut.specs.Behind.{AnnouncedBootHasTwoSteps}
use Rattle.power_cut.proofs.BehindLemmas.{announced_writes, row_behind}

-- an address of the table
record IsOfTable (i : ℕ) : Type 0 where
  from : 0x8000 ≤ i
  to : i < 0x8C00

module _ (layout : Places) (first : List ℕ) (aim : Aim) (image : List ℕ) (others : ℕ → Bool)
    (opens : Opens layout first aim image) (apart : IsApart layout others) where
  -- the slot begins behind the table
  slot_from : 0x9000 ≤ slot_offset layout aim.slot
  slot_from =
      subst (λ (n : ℕ). 0x9000 ≤ n) (sym (ap offset_or_none opens.begins.row_is))
      (row_behind (length first) opens.begins.row
      (opens.placed.stands (Ota aim.slot) opens.begins.row opens.begins.row_is))

  -- no step changes the table
  table_untouched : (i : ℕ) → IsOfTable i → IsUntouched layout aim others i
  table_untouched i of = record {
    slot = inl (let behind = slot_from in let below = of.to in omega arith);
    otadata = inl (let behind = opens.placed.behind in let below = of.to in omega arith);
    spared = apart.table i of.from (let below = of.to in omega arith);
  }

  -- so the layout stays
  pub untouched_layout : (now : List ℕ) → Agrees (IsUntouched layout aim others) first now
      → layout_in now ≡ layout_in first
  untouched_layout now agrees =
      same_layout IsOfTable first now
      (λ i from to. record { from = from; to = omega arith })
      (agrees_fewer (IsUntouched layout aim others) IsOfTable first now table_untouched agrees)

-- the one rewrite of a boot behind a session has two steps
pub announced_steps : AnnouncedBootHasTwoSteps
announced_steps layout first aim image now opens announced =
    ap (λ (writes : List Rewrite). length (rewrites layout.otadata writes))
    (announced_writes layout first aim image opens now announced)
