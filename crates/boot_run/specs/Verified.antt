-- What verifying the partitions of applications tells.
use Rattle.std.specs.Prelude.{◌≡◌, ℕ, List, Option, Some, None}
use Rattle.partition_table.specs.declared.app.App.{App}
use Rattle.boot_select.specs.Boots.{first_held}
use Rattle.image_verify.specs.declared.info.ImageInfo.{ImageInfo}
use Rattle.image_verify.specs.Held.{held}
use Rattle.image_verify.specs.Info.{IsInfo, HoldsWith}

-- there is an image, and this is told of it
pub record HasInfo (image : Option (List ℕ)) (info : ImageInfo) : Type 0 where
  pub bytes : List ℕ
  pub is : image ≡ Some bytes
  pub told : IsInfo bytes info

-- what the image is that the bytes of a partition begin with, or that they begin with none
abbrev pub IsVerified : List ℕ → Option ImageInfo → Type 0
IsVerified slot None = held slot ≡ None
IsVerified slot (Some info) = HoldsWith slot info

-- what is told of an image, or that there is none
abbrev pub IsImage : Option (List ℕ) → Option ImageInfo → Type 0
IsImage image None = image ≡ None
IsImage image (Some info) = HasInfo image info

-- this application has an image, of which this is told
pub record Starts (booted : Option (App × List ℕ)) (app : App) (info : ImageInfo) : Type 0 where
  pub image : List ℕ
  pub is : booted ≡ Some (app, image)
  pub told : IsInfo image info

-- the first of these applications that has an image, and what is told of it, or that none has one
abbrev pub IsFirst : (App → Option (List ℕ)) → List App → Option (App × ImageInfo) → Type 0
IsFirst images apps None = first_held images apps ≡ None
IsFirst images apps (Some started) = Starts (first_held images apps) started.0 started.1
