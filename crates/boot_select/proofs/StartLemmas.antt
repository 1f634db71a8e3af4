-- Which applications are tried, and which one starts by its image.
use Rattle.std.proofs.Common.{◌∙◌, ◌≡◌, ◌≢◌, ◌⊎◌, inl, inr, ℕ, zero, suc, ◌+◌, ◌-◌, ◌<◌, ◌≤◌, Bool, List, [], ◌∷◌, ◌++◌, length, slice_get, Option, Some, None, IsSome, All, refl, sym, ap, subst, arith}
use Rattle.std.specs.List.{find}
use Rattle.std.specs.Option.{is_some}
use Rattle.std.proofs.Math.Nat.{mod-lt}
use Rattle.std.proofs.lemmas.Bool.{cases_lt}
use Rattle.std.proofs.lemmas.List.Elements.{All-nil, All-cons}
use Rattle.otadata.specs.declared.entry.Entry.{Entry}
use Rattle.otadata.specs.Choice.{active_of}
use Rattle.partition_table.specs.declared.app.App.{App}
use Rattle.partition_table.specs.declared.app.App.TheVariants.{Ota, Factory, Test}
use Rattle.partition_table.specs.declared.row.Row.{Row}
use Rattle.partition_table.specs.Layout.{Places, row_for}
use Rattle.boot_select.specs.Choice.{named_by, named_of}
use Rattle.boot_select.specs.Settled.{sectors, settled_by, settled_of, waiting_of}
use Rattle.boot_select.specs.Candidates.{IsStart, after_front, candidates, down, front, started_from, tests, up}
use Rattle.boot_select.specs.Boots.{AreOf, AreTold, Images, app_of, first_held, has_image, held_or, images_in, names}

-- the application is one of these
abbrev pub Among : App → List App → Type 0
Among app [] = ⊥
Among app (x ∷ xs) = (app ≡ x) ⊎ Among app xs

-- it is one of these and more
among_left : (app : App) (xs ys : List App) → Among app xs → Among app (xs ++ ys)
among_left app [] ys among = absurd among
among_left app (x ∷ xs) ys (inl is) = inl is
among_left app (x ∷ xs) ys (inr later) = inr (among_left app xs ys later)

-- it is one of more and these
among_right : (app : App) (xs ys : List App) → Among app ys → Among app (xs ++ ys)
among_right app [] ys among = among
among_right app (x ∷ xs) ys among = inr (among_right app xs ys among)

-- a slot is one of those below a higher one
among_down : (slot end : ℕ) → slot < end → Among (Ota slot) (down end)
unfolding down
among_down slot zero below = absurd (omega arith)
among_down slot (suc end) below = elim (cases_lt slot end) [
  | inl less ↦ inr (among_down slot end less)
  | inr more ↦ inl (let same : slot ≡ end = omega arith in ap Ota same)
]

-- a slot is one of those from a lower one on
among_up : (slot start n : ℕ) → start ≤ slot → slot < start + n → Among (Ota slot) (up start n)
unfolding up
among_up slot start zero from to = absurd (omega arith)
among_up slot start (suc n) from to = elim (cases_lt start slot) [
  | inl less ↦ inr (among_up slot (start + 1) n (omega arith) (omega arith))
  | inr more ↦ inl (let same : slot ≡ start = omega arith in ap Ota same)
]

-- a slot is tried before factory, where it does not lie behind the start's
among_front : (slot : ℕ) (start : App) → slot < after_front start → Among (Ota slot) (front start)
among_front slot (Ota first) below = elim (cases_lt slot first) [
  | inl less ↦ inr (among_down slot first less)
  | inr more ↦ inl (let same : slot ≡ first = omega arith in ap Ota same)
]
among_front slot Factory below = absurd (omega arith)
among_front slot Test below = absurd (omega arith)

-- a place in a list lies within it
get-lt : (rows : List Row) (i : ℕ) → slice_get rows i ≢ None → i < length rows
get-lt [] i found = absurd (found refl)
get-lt (row ∷ rows) zero found = omega arith
get-lt (row ∷ rows) (suc i) found = let less = get-lt rows i found in omega arith

-- each application of the layout is tried, from wherever
pub all_tried : (layout : Places) (start app : App) → row_for layout app ≢ None
    → Among app (candidates layout start)
unfolding candidates
all_tried layout start (Ota slot) found =
    let within : slot < length layout.slots = get-lt layout.slots slot found in
    elim (cases_lt slot (after_front start)) [
      | inl less ↦ among_left (Ota slot) (front start) _ (among_front slot start less)
      | inr more ↦ among_right (Ota slot) (front start) _
          (inr (among_left (Ota slot) (up (after_front start)
          (length layout.slots - after_front start)) (tests layout.test)
          (among_up slot (after_front start)
          (length layout.slots - after_front start) more (omega arith))))
    ]
all_tried layout start Factory found = among_right Factory (front start) _ (inl refl)
all_tried layout start Test found =
    among_right Test (front start) _
    (inr (among_right Test (up (after_front start) (length layout.slots - after_front start))
    (tests layout.test) (at layout.test found)))
  where
    at : (row : Option Row) → row ≢ None → Among Test (tests row)
    at None found = absurd (found refl)
    at (Some row) found = inl refl

-- what boots is what its application holds
pub first_holds : (images : Images) (apps : List App) (app : App) (image : List ℕ)
    → first_held images apps ≡ Some (app, image) → images app ≡ Some image
first_holds images [] app image is = absurd cc
first_holds images (x ∷ xs) app image is = at (images x) refl is (first_holds images xs app image)
  where
    at : (held : Option (List ℕ)) → images x ≡ held
        → held_or x held (first_held images xs) ≡ Some (app, image)
        → (first_held images xs ≡ Some (app, image) → images app ≡ Some image)
        → images app ≡ Some image
    at None held is rest = rest is
    at (Some found) held is rest =
        let pair : (x, found) ≡ (app, image) = cc in
        subst (λ (p : App × List ℕ). images p.0 ≡ Some p.1) pair held

-- where one of the applications has an image, some application starts
pub some_held : (images : Images) (apps : List App) (app : App) → Among app apps → images app ≢ None
    → first_held images apps ≢ None
some_held images [] app among held = absurd among
some_held images (x ∷ xs) app (inl is) held = at (images x) (subst (λ a. images a ≢ None) is held)
  where
    at : (found : Option (List ℕ)) → found ≢ None → held_or x found (first_held images xs) ≢ None
    at None held = absurd (held refl)
    at (Some image) held = λ none. absurd cc
some_held images (x ∷ xs) app (inr later) held = at (images x) (some_held images xs app later held)
  where
    at : (found : Option (List ℕ)) → first_held images xs ≢ None
        → held_or x found (first_held images xs) ≢ None
    at None rest = rest
    at (Some image) rest = λ none. absurd cc

-- the application that is tried first starts where it has an image
pub front_held : (layout : Places) (images : Images) (start : App) (image : List ℕ) → start ≢ Test
    → images start ≡ Some image → first_held images (candidates layout start) ≡ Some (start, image)
unfolding candidates
front_held layout images (Ota slot) image other held = rw held refl
front_held layout images Factory image other held = rw held refl
front_held layout images Test image other held = absurd (other refl)

-- the application that is named is factory, or that of a slot
pub names_a_start : (layout : Places) (entries : ℕ → Entry) → 0 < length layout.slots
    → IsStart layout (names layout entries)
unfolding named_of
names_a_start layout entries some = at (active_of (entries 0) (entries 1))
  where
    at : (active : Option ℕ) → IsStart layout (named_by layout (entries 0) (entries 1) active)
    at None = tt
    at (Some zero) = mod-lt ((entries 0).seq - 1) some
    at (Some (suc n)) = mod-lt ((entries 1).seq - 1) some

-- ---- by truth values

-- a property of each of these
abbrev pub Each : (App → Type 0) → List App → Type 0
Each P [] = Unit {0}
Each P (x ∷ xs) = P x × Each P xs

each_append : (P : App → Type 0) (xs ys : List App) → Each P xs → Each P ys → Each P (xs ++ ys)
each_append P [] ys all more = more
each_append P (x ∷ xs) ys all more = (all.0, each_append P xs ys all.1 more)

each_down : (P : App → Type 0) (end : ℕ) → ((slot : ℕ) → slot < end → P (Ota slot))
    → Each P (down end)
unfolding down
each_down P zero all = tt
each_down P (suc end) all = (all end (omega arith), each_down P end (λ slot less. all slot (omega arith)))

each_up : (P : App → Type 0) (start n : ℕ) → ((slot : ℕ) → slot < start + n → P (Ota slot))
    → Each P (up start n)
unfolding up
each_up P start zero all = tt
each_up P start (suc n) all =
    (all start (omega arith), each_up P (start + 1) n (λ slot less. all slot (omega arith)))

-- what is below the length of a list is a place in it
get-some : (rows : List Row) (i : ℕ) → i < length rows → slice_get rows i ≢ None
get-some [] i less = absurd (omega arith)
get-some (row ∷ rows) zero less = λ none. absurd cc
get-some (row ∷ rows) (suc i) less = get-some rows i (omega arith)

-- each application that is tried is one of the layout
pub tried_are_placed : (layout : Places) (start : App) → IsStart layout start
    → Each (λ app. row_for layout app ≢ None) (candidates layout start)
unfolding candidates
tried_are_placed layout start is =
    let P : App → Type 0 = λ app. row_for layout app ≢ None in
    let n = length layout.slots - after_front start in
    each_append P (front start) (Factory ∷ (up (after_front start) n ++ tests layout.test))
    (before start is) (
      λ none. absurd cc,
      each_append P (up (after_front start) n) (tests layout.test)
          (each_up P (after_front start) n (λ slot less. get-some layout.slots slot (within start is slot less)))
          (last layout.test (λ i. i)),
    )
  where
    before : (start : App) → IsStart layout start
        → Each (λ app. row_for layout app ≢ None) (front start)
    before (Ota slot) is = (
      get-some layout.slots slot is,
      each_down (λ app. row_for layout app ≢ None) slot (λ lower less. get-some layout.slots lower (omega arith)),
    )
    before Factory is = tt
    before Test is = absurd is

    within : (start : App) → IsStart layout start → (slot : ℕ)
        → slot < after_front start + (length layout.slots - after_front start)
        → slot < length layout.slots
    within (Ota first) is slot less = omega arith
    within Factory is slot less = omega arith
    within Test is slot less = absurd is

    last : (row : Option Row) → (layout.test ≡ None → row ≡ None)
        → Each (λ app. row_for layout app ≢ None) (tests row)
    last None same = tt
    last (Some row) same = (λ none. absurd (let is = same none in cc), tt)

-- so each of them has a partition
pub tried_have_rows : (layout : Places) (start : App) (apps : List App) → IsStart layout start → apps ≡ candidates layout start
    → All (λ app. IsSome (row_for layout app)) apps
tried_have_rows layout start apps is same =
    subst (All (λ app. IsSome (row_for layout app))) (sym same) (by (candidates layout start) (tried_are_placed layout start is))
  where
    some : (row : Option Row) → row ≢ None → IsSome row
    some None found = absurd (found refl)
    some (Some row) found = refl

    by : (xs : List App) → Each (λ app. row_for layout app ≢ None) xs → All (λ app. IsSome (row_for layout app)) xs
    by [] all = All-nil (λ app. IsSome (row_for layout app))
    by (x ∷ xs) all = All-cons (λ app. IsSome (row_for layout app)) x xs (some (row_for layout x) all.0) (by xs all.1)

-- the first whole one is the first that has an image
find_held : (layout : Places) (whole : App → Bool) (images : Images) → AreTold layout whole images
    → (apps : List App) → Each (λ app. row_for layout app ≢ None) apps
    → find whole apps ≡ app_of (first_held images apps)
find_held layout whole images told [] placed = refl
find_held layout whole images told (x ∷ xs) placed =
    at (images x) (told x placed.0) (find_held layout whole images told xs placed.1)
  where
    at : (held : Option (List ℕ)) → whole x ≡ is_some held
        → find whole xs ≡ app_of (first_held images xs)
        → find whole (x ∷ xs) ≡ app_of (held_or x held (first_held images xs))
    at None is rest = rw is rest
    at (Some image) is rest = rw is refl

-- truth values tell which application starts
pub started-held : (layout : Places) (whole : App → Bool) (images : Images) (start : App)
    → AreTold layout whole images → IsStart layout start
    → started_from layout whole start ≡ app_of (first_held images (candidates layout start))
unfolding started_from
started-held layout whole images start told is =
    find_held layout whole images told (candidates layout start) (tried_are_placed layout start is)

-- only applications of the layout have an image in a flash
pub images_are_placed : (held : List ℕ → Option (List ℕ)) (layout : Places) (flash : List ℕ)
    → AreOf layout (images_in held layout flash)
images_are_placed held layout flash = λ app none. rw none refl

-- so the first whole candidate is the one by the images
pub started-told : (layout : Places) (whole : App → Bool) (images : Images) (start : App)
    → AreTold layout whole images → IsStart layout start
    → started_from layout whole start ≡ started_from layout (has_image images) start
started-told layout whole images start told is =
    started-held layout whole images start told is
    ∙ sym (started-held layout (has_image images) images start (λ app placed. refl) is)

-- and truth values tell whether an update may begin
pub settled-told : (layout : Places) (whole : App → Bool) (images : Images) (e0 e1 : Entry)
    → AreTold layout whole images → 0 < length layout.slots
    → settled_of layout whole e0 e1 ≡ settled_of layout (has_image images) e0 e1
unfolding settled_of
settled-told layout whole images e0 e1 told some =
    ap (settled_by (waiting_of e0 e1) (named_of layout e0 e1))
    (started-told layout whole images (named_of layout e0 e1) told (names_a_start layout (sectors e0 e1) some))
