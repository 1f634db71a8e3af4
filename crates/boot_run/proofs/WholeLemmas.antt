-- Truth values tell which applications have an image.
use Rattle.std.proofs.Common.{◌≡◌, ◌≢◌, inl, inr, ℕ, ◌+◌, ◌<◌, ◌≤◌, Bool, true, false, List, length, get_or, slice_get, Option, Some, None, IfSome, refl, sym, ap, ◌∙◌, subst, arith}
use Rattle.std.specs.Option.{is_some}
use Rattle.std.proofs.Math.ListN.{set}
use Rattle.std.proofs.lemmas.Bool.{cases_lt}
use Rattle.std.proofs.lemmas.List.{get_or-set_same, get_or-set_other, length-set}
use Rattle.std.proofs.lemmas.Option.{unwrap_or-slice_get, slice_get_past}
use Rattle.partition_table.specs.declared.app.App.{App}
use Rattle.partition_table.specs.declared.app.App.TheVariants.{Ota, Factory, Test}
use Rattle.partition_table.specs.Layout.{Places, row_for}
use Rattle.boot_select.specs.Candidates.{is_whole, place_of}
use Rattle.boot_select.specs.Boots.{AreTold, images_in}
use Rattle.image_verify.specs.declared.info.ImageInfo.{ImageInfo}
use Rattle.image_verify.specs.Held.{held}
use Rattle.boot_run.specs.Verified.{IsImage}

-- what is told of an image tells whether there is one
pub image_some : (image : Option (List ℕ)) (found : Option ImageInfo) → IsImage image found
    → is_some found ≡ is_some image
image_some image None is = sym (ap (λ (o : Option (List ℕ)). is_some o) is)
image_some image (Some info) is = sym (ap (λ (o : Option (List ℕ)). is_some o) is.is)

-- this place tells of this application, where the device tells its bytes
abbrev pub TellsOf : Places → Option (List ℕ) → Bool → App → Type 0
TellsOf layout told value app = IfSome told
    (λ flash. value ≡ is_some (images_in held layout flash app))

-- what was found of an application
pub found_tells : (layout : Places) (told mid : Option (List ℕ)) (app : App)
    (found : Option ImageInfo)
    → mid ≡ told → IfSome mid (λ flash. IsImage (images_in held layout flash app) found)
    → TellsOf layout told (is_some found) app
found_tells layout None mid app found same is = tt
found_tells layout (Some flash) mid app found same is =
    image_some (images_in held layout flash app) found
    (subst (λ (m : Option (List ℕ)). IfSome m (λ f. IsImage (images_in held layout f app) found))
    same is)

-- one slot more
pub slots_more : (layout : Places) (told : Option (List ℕ)) (whole : List Bool) (slot k : ℕ)
    (value : Bool)
    → slot < length whole → k < slot + 1
    → ((j : ℕ) → j < slot → TellsOf layout told (get_or whole j false) (Ota j))
    → TellsOf layout told value (Ota slot)
    → TellsOf layout told (get_or (set whole slot value) k false) (Ota k)
slots_more layout told whole slot k value inside below before here = elim (cases_lt k slot) [
  | inl less ↦
      subst (λ b. TellsOf layout told b (Ota k))
      (sym (get_or-set_other whole slot k value false (omega arith))) (before k less)
  | inr more ↦
      let same : k ≡ slot = omega arith in
      subst (λ j. TellsOf layout told (get_or (set whole slot value) j false) (Ota j)) (sym same)
      (subst (λ b. TellsOf layout told b (Ota slot))
      (sym (get_or-set_same whole slot value false inside)) here)
]

-- a slot with a partition is one of the slots
slot_within : (layout : Places) (slot : ℕ) → slice_get layout.slots slot ≢ None
    → slot < length layout.slots
slot_within layout slot found = elim (cases_lt slot (length layout.slots)) [
  | inl less ↦ less
  | inr more ↦ absurd (found (slice_get_past layout.slots slot (omega arith)))
]

-- the truth value of an application stands in its place
at_place : (whole : List Bool) (app : App) → is_whole whole app ≡ get_or whole (place_of app) false
unfolding is_whole
at_place whole app = unwrap_or-slice_get whole (place_of app) false

-- all of them are told
pub all_told : (layout : Places) (told : Option (List ℕ)) (whole : List Bool)
    → ((slot : ℕ) → slot < length layout.slots → TellsOf layout told (get_or whole slot false)
    (Ota slot))
    → TellsOf layout told (get_or whole 16 false) Factory
    → (layout.test ≢ None → TellsOf layout told (get_or whole 17 false) Test)
    → IfSome told (λ flash. AreTold layout (is_whole whole) (images_in held layout flash))
all_told layout None whole slots factory test = tt
all_told layout (Some flash) whole slots factory test = at
  where
    at : (app : App) → row_for layout app ≢ None → is_whole whole app
        ≡ is_some (images_in held layout flash app)
    at (Ota slot) found = at_place whole (Ota slot) ∙ slots slot (slot_within layout slot found)
    at Factory found = at_place whole Factory ∙ factory
    at Test found = at_place whole Test ∙ test found

-- behind the slots, the factory application and the test application
pub both_told : (layout : Places) (told : Option (List ℕ)) (whole : List Bool) (factory test : Bool)
    → length whole ≡ 18 → length layout.slots ≤ 16
    → ((slot : ℕ) → slot < length layout.slots → TellsOf layout told (get_or whole slot false)
    (Ota slot))
    → TellsOf layout told factory Factory → TellsOf layout told test Test
    → IfSome told (λ flash. AreTold layout (is_whole (set (set whole 16 factory) 17 test))
    (images_in held layout flash))
both_told layout told whole factory test long most slots one two =
    let first = set whole 16 factory in
    let first_long : length first ≡ 18 = length-set whole 16 factory ∙ long in
    all_told layout told (set first 17 test)
    (λ slot less. subst (λ b. TellsOf layout told b (Ota slot))
    (sym (get_or-set_other first 17 slot test false (omega arith) ∙ get_or-set_other whole 16 slot
    factory false (omega arith)))
    (slots slot less))
    (subst (λ b. TellsOf layout told b Factory)
    (sym (get_or-set_other first 17 16 test false (omega arith) ∙ get_or-set_same whole 16 factory
    false (omega arith))) one)
    (λ found. subst (λ b. TellsOf layout told b Test)
    (sym (get_or-set_same first 17 test false (omega arith))) two)

-- the same where there is no test application
pub factory_told : (layout : Places) (told : Option (List ℕ)) (whole : List Bool) (factory : Bool)
    → length whole ≡ 18 → length layout.slots ≤ 16 → layout.test ≡ None
    → ((slot : ℕ) → slot < length layout.slots → TellsOf layout told (get_or whole slot false)
    (Ota slot))
    → TellsOf layout told factory Factory
    → IfSome told (λ flash. AreTold layout (is_whole (set whole 16 factory))
    (images_in held layout flash))
factory_told layout told whole factory long most none slots one =
    all_told layout told (set whole 16 factory)
    (λ slot less. subst (λ b. TellsOf layout told b (Ota slot))
    (sym (get_or-set_other whole 16 slot factory false (omega arith))) (slots slot less))
    (subst (λ b. TellsOf layout told b Factory)
    (sym (get_or-set_same whole 16 factory false (omega arith))) one)
    (λ found. absurd (found none))

-- there is none
pub none_of : {A : Type 0} (o : Option A) → is_some o ≡ false → o ≡ None
none_of None is = refl
none_of (Some x) is = absurd (let no : true ≡ false = is in cc)
