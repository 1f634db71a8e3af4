-- What a flash says to a bootloader: the entries of its OTA data and the images of its
-- applications; and the first application that has an image.
use Rattle.std.specs.Prelude.{◌≡◌, ◌≢◌, ℕ, Bool, List, [], ◌∷◌, take, drop, Option, Some, None}
use Rattle.std.specs.Option.{is_some}
use Rattle.otadata.specs.declared.entry.Entry.{Entry}
use Rattle.otadata.specs.Entry.{entry_in}
use Rattle.partition_table.specs.declared.app.App.{App}
use Rattle.partition_table.specs.declared.row.Row.{Row}
use Rattle.partition_table.specs.Layout.{Places, row_for}
use Rattle.boot_select.specs.Choice.{named_of}

-- the entries of the OTA data of a flash, by the number of their sector
abbrev pub entries_in : Places → List ℕ → ℕ → Entry
entries_in layout flash sector = entry_in flash layout.otadata sector

-- the bytes of a partition
abbrev pub slot_in : List ℕ → Row → List ℕ
slot_in flash row = take row.size (drop row.offset flash)

-- the image that a partition holds, where there is one; `held` tells the whole image that bytes
-- begin with
abbrev pub image_by : (List ℕ → Option (List ℕ)) → List ℕ → Option Row → Option (List ℕ)
image_by held flash None = None
image_by held flash (Some row) = held (slot_in flash row)

-- what each application holds: its image, or none
abbrev pub Images : Type 0
Images = App → Option (List ℕ)

-- what each application of a layout holds in a flash
abbrev pub images_in : (List ℕ → Option (List ℕ)) → Places → List ℕ → Images
images_in held layout flash app = image_by held flash (row_for layout app)

-- the application that entries name, by the number of their sector
abbrev pub names : Places → (ℕ → Entry) → App
names layout entries = named_of layout (entries 0) (entries 1)

-- an application with its image; another answer where it has none
abbrev pub held_or : App → Option (List ℕ) → Option (App × List ℕ) → Option (App × List ℕ)
held_or app None other = other
held_or app (Some image) other = Some (app, image)

-- the first of these applications that has an image, with that image
abbrev pub first_held : Images → List App → Option (App × List ℕ)
first_held images [] = None
first_held images (app ∷ apps) = held_or app (images app) (first_held images apps)

-- the application of an application with its image
abbrev pub app_of : Option (App × List ℕ) → Option App
app_of None = None
app_of (Some booted) = Some booted.0

-- whether an application has an image
abbrev pub has_image : Images → App → Bool
has_image images app = is_some (images app)

-- of each application of a layout the truth value tells whether it has an image
abbrev pub AreTold : Places → (App → Bool) → Images → Type 0
AreTold layout whole images =
    (app : App) → row_for layout app ≢ None → whole app ≡ has_image images app

-- only applications of the layout have an image
abbrev pub AreOf : Places → Images → Type 0
AreOf layout images = (app : App) → row_for layout app ≡ None → images app ≡ None
