-- The parts of a layout lie in order where the rows obey the rules.
use Rattle.std.proofs.Common.{◌≡◌, ◌≢◌, ℕ, zero, suc, ◌+◌, ◌%◌, ◌<◌, ◌≤◌, List, [], ◌∷◌, Bool, true, false, length, Option, Some, None, Ok, Err, refl, sym, ap, subst, ◌∙◌, ◌⊎◌, inl, inr, arith}
use Rattle.std.specs.Prelude.{◌==◌, ⊤, if◌then◌else◌, not}
use Rattle.std.specs.List.{AllByRecursion, find, slice_get}
use Rattle.std.specs.Option.{option_map}
use Rattle.std.proofs.lemmas.Bool.Decides.{nat_tests}
use Rattle.partition_table.specs.declared.app.App.{App}
use Rattle.partition_table.specs.declared.app.App.TheVariants.{Ota, Factory, Test}
use Rattle.partition_table.specs.declared.row.Row.{Row}
use Rattle.partition_table.specs.declared.bad.TableBad.TheVariants.{AppHigh, OtadataFlags, OtadataSize, SlotGap}
use Rattle.partition_table.specs.Rules.{AllPairs, FitsFlash, Stands, alignment_of, is_aligned, is_within, ranges_meet}
use Rattle.partition_table.specs.First.{first_place}
use Rattle.partition_table.specs.Layout.{Apart, IsPlaced, Places, is_gap, is_high, is_of, layout_of, row_for, row_with, slots_from, with_factory, with_otadata, with_slot, with_slots}
use Rattle.partition_table.specs.Table.{unless}
use Rattle.partition_table.proofs.RuleLemmas.{none_place}

-- ---- what a search finds

-- a row of this type and subtype
record Is (kind subtype : ℕ) (row : Row) : Type 0 where
  kind_is : row.kind ≡ kind
  subtype_is : row.subtype ≡ subtype

is_of-means : (kind subtype : ℕ) (row : Row) → is_of kind subtype row ≡ true → Is kind subtype row
unfolding is_of
is_of-means kind subtype row is = record
    { kind_is = grind (arith, nat_tests); subtype_is = grind (arith, nat_tests) }

-- what all elements have, the one that is found has, and it passes the test
record Found {A : Type 0} (P : A → Type 0) (test : A → Bool) (x : A) : Type 0 where
  has : P x
  passes : test x ≡ true

found : {A : Type 0} (P : A → Type 0) (test : A → Bool) (xs : List A) (x : A) → AllByRecursion P xs
    → find test xs ≡ Some x → Found P test x
found P test [] x all is = absurd (cc)
found P test (y ∷ ys) x all is = by (test y) refl is (λ e. found P test ys x all.1 e)
  where
    by : (b : Bool) → test y ≡ b → (if b then Some y else find test ys) ≡ Some x
        → (find test ys ≡ Some x → Found P test x) → Found P test x
    by true told e more = let same : y
        ≡ x = cc in subst (Found P test) same (record { has = all.0; passes = told })
    by false told e more = more e

-- ---- two that are found by different tests are two elements

-- of each two elements a symmetric relation holds
two : {A : Type 0} (P : A → A → Type 0) → ((x y : A) → P x y → P y x)
    → (a b : A → Bool) → ((x : A) → a x ≡ true → b x ≡ true → ⊥)
    → (xs : List A) → AllPairs P xs → (x y : A) → find a xs ≡ Some x → find b xs ≡ Some y → P x y
two P flip a b other [] all x y fx fy = absurd (cc)
two P flip a b other (z ∷ zs) all x y fx fy =
    by (a z) (b z) refl refl fx fy (λ ex ey. two P flip a b other zs all.1 x y ex ey)
  where
    by : (p q : Bool) → a z ≡ p → b z ≡ q → (if p then Some z else find a zs) ≡ Some x
        → (if q then Some z else find b zs) ≡ Some y
        → (find a zs ≡ Some x → find b zs ≡ Some y → P x y) → P x y
    by true true ap bq ex ey more = absurd (other z ap bq)
    by true false ap bq ex ey more =
        let same : z ≡ x = cc in subst (λ w. P w y) same (found (P z) b zs y all.0 ey).has
    by false true ap bq ex ey more =
        let same : z
        ≡ y = cc in subst (λ w. P x w) same (flip z x (found (P z) a zs x all.0 ex).has)
    by false false ap bq ex ey more = more ex ey

-- ---- apart

-- rows whose ranges do not meet, where neither is empty, are apart
apart : (a b : Row) → ranges_meet a b ≡ false → Apart a.offset a.size b.offset b.size
unfolding ranges_meet
apart a b none = grind (arith, nat_tests)

-- and the other way round
meet_flip : (a b : Row) → ranges_meet a b ≡ false → ranges_meet b a ≡ false
unfolding ranges_meet
meet_flip a b none = grind (arith, nat_tests)

-- ---- the subtype of an application

abbrev subtype_for : App → ℕ
subtype_for (Ota slot) = 0x10 + slot
subtype_for Factory = 0
subtype_for Test = 0x20

-- the slot of this number is a row of its subtype
slot_row : (n k i : ℕ) (rows : List Row) (row : Row) → slice_get (slots_from n k rows) i ≡ Some row
    → (row_with 0 (0x10 + (k + i)) rows ≡ Some row) × (i < n)
unfolding slots_from
slot_row zero k i rows row is = absurd (cc)
slot_row (suc n) k i rows row is = by (row_with 0 (0x10 + k) rows) refl i is
    (λ j e. slot_row n (k + 1) j rows row e)
  where
    by : (o : Option Row) → row_with 0 (0x10 + k) rows ≡ o → (j : ℕ)
        → slice_get (with_slot o (slots_from n (k + 1) rows)) j ≡ Some row
        → ((m : ℕ) → slice_get (slots_from n (k + 1) rows) m ≡ Some row
        → (row_with 0 (0x10 + ((k + 1) + m)) rows ≡ Some row) × (m < n))
        → (row_with 0 (0x10 + (k + j)) rows ≡ Some row) × (j < suc n)
    by None told j e more = absurd (cc)
    by (Some first) told zero e more =
        let here : k + zero ≡ k = omega arith in
        (ap (λ m. row_with 0 (0x10 + m) rows) here ∙ told ∙ cc, omega arith)
    by (Some first) told (suc j) e more =
        let rest = more j e in
        let here : k + suc j ≡ (k + 1) + j = omega arith in
        (ap (λ m. row_with 0 (0x10 + m) rows) here ∙ rest.0, omega arith)

-- ---- a layout by its rows

-- the parts of a layout are these rows
pub record IsLayout (rows : List Row) (layout : Places) : Type 0 where
  pub otadata : Row
  pub otadata_found : row_with 1 0 rows ≡ Some otadata
  pub otadata_size : otadata.size ≡ 0x2000
  pub otadata_flags : otadata.flags % 4 ≡ 0
  pub otadata_is : layout.otadata ≡ otadata.offset
  pub factory : row_with 0 0 rows ≡ Some layout.factory
  pub slots : layout.slots ≡ slots_from 16 0 rows
  pub test : layout.test ≡ row_with 0 0x20 rows
  pub no_gap : is_gap (length (slots_from 16 0 rows)) rows ≡ false
  pub no_high : first_place is_high 0 rows ≡ None

-- those of a layout that is answered
pub layout_of-means : (rows : List Row) (layout : Places) → layout_of rows ≡ Ok layout
    → IsLayout rows layout
unfolding layout_of with_slots
layout_of-means rows layout is = by_otadata (row_with 1 0 rows) refl is
  where
    whole : Row → Row → Places
    whole row factory = record {
      otadata = row.offset;
      factory = factory;
      slots = slots_from 16 0 rows;
      test = row_with 0 0x20 rows;
    }

    by_high : (row factory : Row) → row_with 1 0 rows ≡ Some row → row.size ≡ 0x2000
        → row.flags % 4 ≡ 0 → row_with 0 0 rows ≡ Some factory
        → is_gap (length (slots_from 16 0 rows)) rows ≡ false
        → (high : Option ℕ) → first_place is_high 0 rows ≡ high
        → unless (option_map AppHigh high) (whole row factory) ≡ Ok layout
        → IsLayout rows layout
    by_high row factory found_row size flags found_factory gap (Some high) told e = absurd (cc)
    by_high row factory found_row size flags found_factory gap None told e =
        let same : whole row factory ≡ layout = cc in
        record {
          otadata = row;
          otadata_found = found_row;
          otadata_size = size;
          otadata_flags = flags;
          otadata_is = ap (λ (p : Places). p.otadata) (sym same);
          factory = found_factory ∙ ap (λ (p : Places). Some p.factory) same;
          slots = ap (λ (p : Places). p.slots) (sym same);
          test = ap (λ (p : Places). p.test) (sym same);
          no_gap = gap;
          no_high = told;
        }

    by_gap : (row factory : Row) → row_with 1 0 rows ≡ Some row → row.size ≡ 0x2000
        → row.flags % 4 ≡ 0 → row_with 0 0 rows ≡ Some factory
        → (g : Bool) → is_gap (length (slots_from 16 0 rows)) rows ≡ g
        → (if g then Err (SlotGap (length (slots_from 16 0 rows)))
        else unless (option_map AppHigh (first_place is_high 0 rows)) (whole row factory)) ≡ Ok layout
        → IsLayout rows layout
    by_gap row factory found_row size flags found_factory true told e = absurd (cc)
    by_gap row factory found_row size flags found_factory false told e =
        by_high row factory found_row size flags found_factory told (first_place is_high 0 rows)
        refl e

    by_factory : (row : Row) → row_with 1 0 rows ≡ Some row → row.size ≡ 0x2000 → row.flags % 4 ≡ 0
        → (o : Option Row) → row_with 0 0 rows ≡ o → with_factory row.offset o rows ≡ Ok layout
        → IsLayout rows layout
    by_factory row found_row size flags None told e = absurd (cc)
    by_factory row found_row size flags (Some factory) told e =
        by_gap row factory found_row size flags told (is_gap (length (slots_from 16 0 rows)) rows)
        refl e

    by_tests : (row : Row) → row_with 1 0 rows ≡ Some row → (a b : Bool) → (row.size == 0x2000) ≡ a
        → (row.flags % 4 == 0) ≡ b
        → (if not a then Err (OtadataSize row.size)
        else (if not b then Err (OtadataFlags row.flags) else with_factory row.offset
        (row_with 0 0 rows) rows)) ≡ Ok layout
        → IsLayout rows layout
    by_tests row found_row false b ea eb e = absurd (cc)
    by_tests row found_row true false ea eb e = absurd (cc)
    by_tests row found_row true true ea eb e =
        by_factory row found_row (grind (arith, nat_tests, ea)) (grind (arith, nat_tests, eb))
        (row_with 0 0 rows) refl e

    by_otadata : (o : Option Row) → row_with 1 0 rows ≡ o → with_otadata o rows ≡ Ok layout
        → IsLayout rows layout
    by_otadata None told e = absurd (cc)
    by_otadata (Some row) told e = by_tests row told (row.size == 0x2000) (row.flags % 4 == 0) refl
        refl e

-- the number of a slot is one that a layout has
abbrev InRange : App → Type 0
InRange (Ota slot) = slot < 16
InRange Factory = ⊤
InRange Test = ⊤

-- the row of an application is that of its subtype
app_row : (rows : List Row) (layout : Places) → IsLayout rows layout → (app : App) (row : Row)
    → row_for layout app ≡ Some row
    → (row_with 0 (subtype_for app) rows ≡ Some row) × InRange app
app_row rows layout is (Ota slot) row e =
    let here : slice_get (slots_from 16 0 rows) slot
    ≡ Some row = ap (λ (s : List Row). slice_get s slot) (sym is.slots) ∙ e in
    let told = slot_row 16 0 slot rows row here in
    let number : slot ≡ 0 + slot = omega arith in
    (ap (λ m. row_with 0 (0x10 + m) rows) number ∙ told.0, told.1)
app_row rows layout is Factory row e = (is.factory ∙ e, tt)
app_row rows layout is Test row e = (sym is.test ∙ e, tt)

-- different applications have different subtypes
subtypes_differ : (a b : App) → InRange a → InRange b → a ≢ b → subtype_for a ≢ subtype_for b
subtypes_differ (Ota i) (Ota j) ra rb differ same = differ (ap Ota (omega arith))
subtypes_differ (Ota i) Factory ra rb differ same = omega arith
subtypes_differ (Ota i) Test ra rb differ same = omega arith
subtypes_differ Factory (Ota j) ra rb differ same = omega arith
subtypes_differ Factory Factory ra rb differ same = differ refl
subtypes_differ Factory Test ra rb differ same = omega arith
subtypes_differ Test (Ota j) ra rb differ same = omega arith
subtypes_differ Test Factory ra rb differ same = omega arith
subtypes_differ Test Test ra rb differ same = differ refl

-- a row is not of two types, nor of two subtypes
not_both : (k s m t : ℕ) → (k ≢ m) ⊎ (s ≢ t) → (row : Row) → is_of k s row ≡ true
    → is_of m t row ≡ true → ⊥
not_both k s m t differ row first second =
    let one = is_of-means k s row first in
    let other = is_of-means m t row second in
    by differ (sym one.kind_is ∙ other.kind_is) (sym one.subtype_is ∙ other.subtype_is)
  where
    by : (k ≢ m) ⊎ (s ≢ t) → k ≡ m → s ≡ t → ⊥
    by (inl d) e f = d e
    by (inr d) e f = d f

-- the OTA data stand at a sector
at_sector : (row : Row) → row.kind ≡ 1 → is_aligned row ≡ true → row.offset % 0x1000 ≡ 0
unfolding is_aligned alignment_of
at_sector row kind is = let here = rw kind at is in grind (arith, nat_tests, here)

-- a row within the flash
record Within (flash : ℕ) (row : Row) : Type 0 where
  behind : 0x9000 ≤ row.offset
  inside : row.offset + row.size ≤ flash

within : (flash : ℕ) (row : Row) → is_within flash row ≡ true → Within flash row
unfolding is_within
within flash row is = record
    { behind = grind (arith, nat_tests); inside = grind (arith, nat_tests) }

-- an application that is not high ends in the first 16 MiB
ends_low : (row : Row) → row.kind ≡ 0 → is_high row ≡ false → row.offset + row.size ≤ 0x1000000
unfolding is_high
ends_low row kind low = let here = rw kind at low in grind (arith, nat_tests, here)

-- the parts lie in order
pub placed : (flash : ℕ) (rows : List Row) (layout : Places) → FitsFlash flash rows
    → IsLayout rows layout → IsPlaced layout flash
placed flash rows layout fits is =
    let data_row = is.otadata in
    let held = found (Stands flash) (is_of 1 0) rows data_row fits.each is.otadata_found in
    let kind = (is_of-means 1 0 data_row held.passes).kind_is in
    let inner = within flash data_row held.has.within in
    let behind : 0x9000 ≤ data_row.offset = inner.behind in
    let inside : data_row.offset + data_row.size ≤ flash = inner.inside in
    let size : data_row.size ≡ 0x2000 = is.otadata_size in
    let at : layout.otadata ≡ data_row.offset = is.otadata_is in
    record {
      aligned = rw at (at_sector data_row kind held.has.aligned);
      behind = omega arith;
      inside = omega arith;
      stands = λ app row e.
          (found (Stands flash) (is_of 0 (subtype_for app)) rows row fits.each
          (app_row rows layout is app row e).0).has;
      low = λ app row e.
          let one = found (λ r. is_high r ≡ false) (is_of 0 (subtype_for app)) rows row
          (none_place is_high 0 rows is.no_high) (app_row rows layout is app row e).0 in
          ends_low row (is_of-means 0 (subtype_for app) row one.passes).kind_is one.has;
      app_apart = λ app row e.
          rw (at, sym size) (apart row data_row
          (two (λ a b. ranges_meet a b ≡ false) meet_flip (is_of 0 (subtype_for app)) (is_of 1 0)
          (not_both 0 (subtype_for app) 1 0 (inl (omega arith))) rows fits.apart row data_row
          (app_row rows layout is app row e).0 is.otadata_found));
      apps_apart = λ a b r s er es differ.
          let first = app_row rows layout is a r er in
          let second = app_row rows layout is b s es in
          apart r s
          (two (λ a b. ranges_meet a b
          ≡ false) meet_flip (is_of 0 (subtype_for a)) (is_of 0 (subtype_for b))
          (not_both 0 (subtype_for a) 0 (subtype_for b)
          (inr (subtypes_differ a b first.1 second.1 differ))) rows fits.apart r s
          first.0 second.0);
    }
