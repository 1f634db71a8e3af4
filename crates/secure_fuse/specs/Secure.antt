-- The secure version that an image has in its description (`esp_app_desc_t`, `secure_version`).
use Rattle.std.specs.Prelude.{ℕ, List, Option, Some, None}
use Rattle.image_layout.specs.declared.description.AppDesc.{AppDesc}
use Rattle.image_layout.specs.Description.{description_of}

-- the secure version of a description, 0 without one
abbrev pub secure_in : Option AppDesc → ℕ
secure_in None = 0
secure_in (Some desc) = desc.secure

-- the secure version of an image
abbrev pub secure_of : List ℕ → ℕ
secure_of image = secure_in (description_of image)
