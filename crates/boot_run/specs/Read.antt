-- The entries that a device has, and which of its applications are whole.
use Rattle.std.specs.Prelude.{◌≡◌, ℕ, Bool, List, Option, IfSome}
use Rattle.otadata.specs.declared.entry.Entry.{Entry}
use Rattle.partition_table.specs.declared.app.App.{App}
use Rattle.partition_table.specs.Layout.{Places}
use Rattle.boot_select.specs.Boots.{AreTold, entries_in, has_image, images_in}
use Rattle.image_verify.specs.Held.{held}

-- this holds of the entries of a device: of those in its bytes, where it tells them, else of some
pub record OfEntries (layout : Places) (told : Option (List ℕ))
    (P : (ℕ → Entry) → Type 0) : Type 0 where
  pub entries : ℕ → Entry
  pub read : IfSome told (λ flash. entries ≡ entries_in layout flash)
  pub holds : P entries

-- whether an application of a flash is whole
abbrev pub whole_in : Places → List ℕ → App → Bool
whole_in layout flash = has_image (images_in held layout flash)

-- this holds of the entries of a device, and of truth values that tell which applications are whole
pub record OfWhole (layout : Places) (told : Option (List ℕ))
    (P : (ℕ → Entry) → (App → Bool) → Type 0) : Type 0 where
  pub entries : ℕ → Entry
  pub whole : App → Bool
  pub read : IfSome told (λ flash. entries ≡ entries_in layout flash)
  pub tells : IfSome told (λ flash. AreTold layout whole (images_in held layout flash))
  pub holds : P entries whole
