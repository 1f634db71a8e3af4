-- Of a flash at the opening and of what stands of it, all that makes a flash good.
use Rattle.std.proofs.Common.{◌≡◌, ◌≢◌, ℕ, ◌<◌, List, ◌++◌, length, take, drop, Option, None, IfSome, lit<, refl, sym, subst}
use Rattle.partition_table.specs.Layout.{IsPlaced, Places}
use Rattle.partition_table.specs.Rules.{FitsFlash}
use Rattle.otadata.proofs.ChoiceLemmas.{active-lt}
use Rattle.boot_select.specs.Boots.{entries_in}
use Rattle.rollback.specs.declared.rewrite.Rewrite.{Rewrite}
use Rattle.rollback.specs.Boots.{boots_in}
use Rattle.image_verify.specs.Held.{held}
use Rattle.image_verify.proofs.WholeFacts.{whole_from_none, whole_shows_none}
use Rattle.boot_run.specs.Crashed.{IsRestated}
use Rattle.flash_steps.specs.Parts.{open_addresses}
use Rattle.update_steps.specs.Beside.{IsApart, StandsBeside}
use Rattle.update_steps.proofs.SessionLemmas.{ShowsNone}
use Rattle.update_steps.proofs.SparedLemmas.{beside_boots, beside_some}
use Rattle.update_steps.proofs.ApartLemmas.{rows_apart}
use Rattle.update_steps.proofs.TableLemmas.{layout_placed, table_fits}
use Rattle.update_steps.proofs.VerdictLemmas.{beside_still, beside_verdict}
use Rattle.ota_session.specs.Course.{Confirm, Confirms, Course, Install, IsFor, IsGood, IsMadeFor, LeavesBoot, Purpose, steps_for}

-- bytes show no fault exactly where they are a whole image
pub shown : ShowsNone
shown = λ limit bytes. record {
  0 = whole_from_none limit bytes;
  1 = whole_shows_none limit bytes;
}

module _ (first : List ℕ) (course : Course) (made_for : IsMadeFor first course) where
  obeyed : FitsFlash (length first) course.rows
  obeyed = table_fits (take 0xC00 (drop 0x8000 first)) (length first) course.rows made_for.table

  -- the other core is apart from all that boots
  pub apart : IsApart course.layout (open_addresses course.rows)
  apart = rows_apart (length first) course.rows course.layout obeyed made_for.layout

  -- the layout of the table lies in order in the flash
  pub placed : IsPlaced course.layout (length first)
  placed = layout_placed (length first) course.rows course.layout obeyed made_for.layout

-- a confirmation gives an entry another state
confirm_restated : (layout : Places) (first : List ℕ) (write : Rewrite)
    → Confirms layout first write → IsRestated (entries_in layout first) write
confirm_restated layout first write confirms =
    let entries = entries_in layout first in
    subst (λ (w : Rewrite). IsRestated entries w) (sym confirms.is) (record {
      two = subst (λ (o : Option ℕ). IfSome o (λ number. number < 2)) confirms.active
          (active-lt (entries 0) (entries 1));
      state = 2;
      fits = lit< tt;
      is = refl;
    })

module _ (first : List ℕ) (course : Course) (flash : List ℕ) (made_for : IsMadeFor first course)
    (stands : StandsBeside first course.made course.rest (open_addresses course.rows) flash) where
  boots : LeavesBoot course.layout first course.purpose flash
  boots = by course.purpose made_for.purpose made_for.steps
    where
      by : (purpose : Purpose) → IsFor course.layout first purpose
          → steps_for course.layout purpose ≡ course.made ++ course.rest
          → LeavesBoot course.layout first purpose flash
      by (Install aim image) for split = λ old row opens is.
          beside_boots shown course.layout first flash aim old image course.made course.rest
          (open_addresses course.rows) opens (apart first course made_for) stands row is split
      by (Confirm write) for split =
          beside_verdict course.layout first flash write course.made course.rest
          (open_addresses course.rows) (placed first course made_for)
          (confirm_restated course.layout first write for) (apart first course made_for) split
          stands

  some : boots_in held course.layout flash ≢ None
  some = by course.purpose made_for.purpose made_for.steps
    where
      by : (purpose : Purpose) → IsFor course.layout first purpose
          → steps_for course.layout purpose ≡ course.made ++ course.rest
          → boots_in held course.layout flash ≢ None
      by (Install aim image) for split =
          beside_some shown course.layout first flash aim for.old image course.made course.rest
          (open_addresses course.rows) for.opens (apart first course made_for) stands split
      by (Confirm write) for split =
          beside_still course.layout first flash write course.made course.rest
          (open_addresses course.rows) (placed first course made_for)
          (confirm_restated course.layout first write for) (apart first course made_for) split
          stands for.boots

  -- a flash is good, where the duty was made for the first one and this one stands
  pub good_of : IsGood first course flash
  good_of = record { made_for = made_for; stands = stands; boots = boots; some = some }
