-- What is held above a level.
use Rattle.std.proofs.Common.{◌≡◌, ℕ, ◌≤◌, ◌<◌, Bool, true, false, nat_le, List, Option, Some, None, IfSome, refl, sym, ap, ◌∙◌, subst, arith, if◌then◌else◌}
use Rattle.std.proofs.lemmas.Bool.Decides.{nat_tests}
use Rattle.partition_table.specs.declared.app.App.{App}
use Rattle.partition_table.specs.declared.row.Row.{Row}
use Rattle.partition_table.specs.Layout.{Places, row_for}
use Rattle.boot_select.specs.Boots.{image_by, images_in}
use Rattle.image_verify.specs.declared.info.ImageInfo.{ImageInfo}
use Rattle.image_verify.specs.Held.{held}
use Rattle.secure_fuse.specs.Secure.{secure_in, secure_of}
use Rattle.boot_run.specs.Verified.{HasInfo, IsImage}
use Rattle.boot_run.specs.Above.{held_above, no_older}

-- above level 0 all images are held
none_older : (image : Option (List ℕ)) → no_older 0 image ≡ image
none_older None = refl
none_older (Some image) =
    let yes : nat_le 0 (secure_of image) ≡ true = grind (arith, nat_tests) in
    ap (λ b. if b then Some image else None) yes

pub held_all : held_above 0 ≡ held
held_all = λ i slot. none_older (held slot) i

-- what an application holds above a level is what it holds, where that is no older
pub images_no_older : (level : ℕ) (layout : Places) (flash : List ℕ) (app : App)
    → images_in (held_above level) layout flash app ≡ no_older level (images_in held layout flash app)
images_no_older level layout flash app = at (row_for layout app)
  where
    at : (row : Option Row) → image_by (held_above level) flash row ≡ no_older level (image_by held flash row)
    at None = refl
    at (Some row) = refl

-- what is no older is there, and is no older
pub kept_no_older : (level : ℕ) (image : Option (List ℕ)) (bytes : List ℕ)
    → no_older level image ≡ Some bytes → (image ≡ Some bytes) × (level ≤ secure_of bytes)
kept_no_older level None bytes is = absurd cc
kept_no_older level (Some found) bytes is = at (nat_le level (secure_of found)) refl is
  where
    at : (b : Bool) → nat_le level (secure_of found) ≡ b
        → (if b then Some found else None) ≡ Some bytes
        → (Some found ≡ Some bytes) × (level ≤ secure_of bytes)
    at true more is =
        let same : found ≡ bytes = cc in
        let newer : level ≤ secure_of found = grind (arith, nat_tests) in
        (is, subst (λ (o : List ℕ). level ≤ secure_of o) same newer)
    at false less is = absurd cc

-- what was found of an application, where it is no older than a level
pub none_kept : (level : ℕ) (image : Option (List ℕ)) → image ≡ None → no_older level image ≡ None
none_kept level image is = ap (no_older level) is

pub kept_found : (level : ℕ) (image : Option (List ℕ)) (info : ImageInfo) → HasInfo image info
    → level ≤ secure_in info.desc → HasInfo (no_older level image) info
kept_found level image info has more =
    let newer : level ≤ secure_of has.bytes = subst (λ d. level ≤ secure_in d) has.told.desc more in
    let yes : nat_le level (secure_of has.bytes) ≡ true = grind (arith, nat_tests) in
    record {
      bytes = has.bytes;
      is = ap (no_older level) has.is ∙ ap (λ b. if b then Some has.bytes else None) yes;
      told = has.told;
    }

pub older_found : (level : ℕ) (image : Option (List ℕ)) (info : ImageInfo) → HasInfo image info
    → secure_in info.desc < level → no_older level image ≡ None
older_found level image info has less =
    let older : secure_of has.bytes < level = subst (λ d. secure_in d < level) has.told.desc less in
    let no : nat_le level (secure_of has.bytes) ≡ false = grind (arith, nat_tests) in
    ap (no_older level) has.is ∙ ap (λ b. if b then Some has.bytes else None) no

-- an image that is no older than a level is held above it
pub holds_above : (level : ℕ) (layout : Places) (flash : List ℕ) (app : App) (image : List ℕ)
    → images_in held layout flash app ≡ Some image → level ≤ secure_of image
    → images_in (held_above level) layout flash app ≡ Some image
holds_above level layout flash app image is more =
    let yes : nat_le level (secure_of image) ≡ true = grind (arith, nat_tests) in
    images_no_older level layout flash app ∙ ap (no_older level) is
    ∙ ap (λ b. if b then Some image else None) yes

-- so what was found of an application of a device, where it is no older
pub told_no_older : (layout : Places) (told : Option (List ℕ)) (level : ℕ) (app : App)
    (found left : Option ImageInfo)
    → IfSome told (λ flash. IsImage (images_in held layout flash app) found)
    → ((image : Option (List ℕ)) → IsImage image found → IsImage (no_older level image) left)
    → IfSome told (λ flash. IsImage (images_in (held_above level) layout flash app) left)
told_no_older layout None level app found left is keeps = tt
told_no_older layout (Some flash) level app found left is keeps =
    subst (λ image. IsImage image left) (sym (images_no_older level layout flash app))
    (keeps (images_in held layout flash app) is)
