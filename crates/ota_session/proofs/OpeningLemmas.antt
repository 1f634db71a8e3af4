-- When a duty is good at its opening, as the bus asks where it is made.
use Rattle.std.proofs.Common.{◌≡◌, ℕ, ◌<◌, List, length, take, drop, Ok, refl}
use Rattle.std.specs.List.{All}
use Rattle.partition_table.specs.declared.row.Row.{Row}
use Rattle.partition_table.specs.Layout.{Places, layout_in, layout_of}
use Rattle.partition_table.specs.Table.{table_of}
use Rattle.boot_select.specs.Boots.{entries_in, images_in}
use Rattle.image_verify.specs.Held.{held}
use Rattle.boot_run.specs.declared.aims.Aim.{Aim}
use Rattle.boot_run.specs.Aim.{IsAimed}
use Rattle.flash_steps.specs.Parts.{open_addresses}
use Rattle.update_steps.proofs.BesideLemmas.{beside_first}
use Rattle.update_steps.proofs.TableLemmas.{table_opens}
use Rattle.ota_session.specs.Course.{Installs, IsFor, IsGood, Purpose, course_from, steps_for}
use Rattle.ota_session.specs.GoodLaws.{good_of}

-- the flash at the opening is good, where the table stands there and it is one for the purpose
pub opening_good : (first : List ℕ) (driver : ℕ) (rows : List Row) (layout : Places)
    (purpose : Purpose)
    → table_of (take 0xC00 (drop 0x8000 first)) (length first) ≡ Ok rows
    → layout_of rows ≡ Ok layout → IsFor layout first purpose
    → IsGood first (course_from driver rows layout purpose) first
opening_good first driver rows layout purpose table laid for =
    good_of first (course_from driver rows layout purpose) first
    (record { table = table; layout = laid; purpose = for; steps = refl })
    (beside_first first (steps_for layout purpose) (open_addresses rows))

-- what is aimed for a flash, and bytes as many as it was asked for, are to be installed there
pub aimed_installs : (first : List ℕ) (layout : Places) (aim : Aim) (image : List ℕ)
    → layout_in first ≡ Ok layout → All (λ b. b < 256) image
    → IsAimed layout (images_in held layout first) (entries_in layout first) (length image) aim
    → Installs layout first aim image
aimed_installs first layout aim image laid bytes aimed =
    let opens = table_opens first layout aim image laid bytes aimed in
    record { old = opens.0; opens = opens.1 }
