-- When an application may not confirm itself or reject itself, in facts.
use Rattle.std.proofs.Common.{ap, ◌<◌, length, ◌==◌, ◌≡◌, ◌≢◌, ◌↔◌, ℕ, Bool, true, false, Option, Some, None, Ok, Err, refl, ◌∙◌, ◌⊎◌, inl, inr, subst, arith}
use Rattle.std.proofs.lemmas.Bool.{cases_Bool}
use Rattle.std.proofs.lemmas.Bool.Decides.{nat_tests}
use Rattle.otadata.specs.declared.entry.Entry.{Entry}
use Rattle.otadata.specs.Choice.{AreBothInvalid, active_of}
use Rattle.otadata.proofs.ChoiceLemmas.{active-none}
use Rattle.partition_table.specs.declared.app.App.{App}
use Rattle.partition_table.specs.Layout.{Places}
use Rattle.boot_select.specs.Choice.{slot_app}
use Rattle.boot_select.specs.Settled.{is_same, sectors}
use Rattle.boot_select.proofs.SettledLemmas.{is_same-true}
use Rattle.boot_select.specs.Boots.{AreTold, Images, has_image, names}
use Rattle.boot_select.proofs.StartLemmas.{names_a_start, started-told}
use Rattle.rollback.specs.declared.rewrite.Rewrite.{Rewrite}
use Rattle.rollback.specs.declared.verdict.NoOtaApp.{NoOtaApp}
use Rattle.rollback.specs.declared.verdict.RejectNo.TheVariants as no
use Rattle.rollback.specs.Rewrite.{changed, restated}
use Rattle.rollback.specs.Verdict.{HasNothingElse, IsConfirmed, confirm_by, confirm_of, is_other, reject_as, reject_by, reject_of, started_after}

-- ---- a confirmation

-- it is refused where no entry is active
confirm_by-err : (es : ℕ → Entry) (active : Option ℕ) (why : NoOtaApp) → (confirm_by es active ≡ Err why) ↔ (active ≡ None)
confirm_by-err es None why = (λ err. refl, λ none. refl)
confirm_by-err es (Some sector) why = (λ err. absurd cc, λ none. absurd cc)

-- it rewrites nothing where the active entry is VALID
confirm_by-none : (es : ℕ → Entry) (active : Option ℕ)
    → (confirm_by es active ≡ Ok None) ↔ ((sector : ℕ) × (active ≡ Some sector) × ((es sector).state ≡ 2))
confirm_by-none es None = (λ ok. absurd cc, λ has. absurd (let some = has.1 in cc))
confirm_by-none es (Some y) = at (cases_Bool ((es y).state == 2))
  where
    at : (((es y).state == 2) ≡ true) ⊎ (((es y).state == 2) ≡ false)
        → (confirm_by es (Some y) ≡ Ok None) ↔ ((sector : ℕ) × (◌≡◌ {A = Option ℕ} (Some y) (Some sector)) × ((es sector).state ≡ 2))
    at (inl p) =
        let valid : (es y).state ≡ 2 = grind (arith, nat_tests) in
        rw p (λ ok. (y, refl, valid), λ has. refl)
    at (inr p) =
        let other : (es y).state ≢ 2 = grind (arith, nat_tests) in
        rw p (
          λ ok. absurd cc,
          λ has.
              let some = has.1 in
              let same : has.0 ≡ y = cc in
              let P : ℕ → Type 0 = λ k. (es k).state ≡ 2 in
              absurd (other (subst P same has.2)),
        )

-- a confirmation is refused exactly where neither entry is valid
pub confirm-err : (e0 e1 : Entry) (why : NoOtaApp) → (confirm_of e0 e1 ≡ Err why) ↔ AreBothInvalid e0 e1
unfolding confirm_of
confirm-err e0 e1 why =
    let by = confirm_by-err (sectors e0 e1) (active_of e0 e1) why in
    let none = active-none e0 e1 in
    (λ err. none.0 (by.0 err), λ both. by.1 (none.1 both))

-- it rewrites nothing exactly where the active entry is VALID already
pub confirm-none : (e0 e1 : Entry) → (confirm_of e0 e1 ≡ Ok None) ↔ IsConfirmed e0 e1
unfolding confirm_of
confirm-none e0 e1 =
    let by = confirm_by-none (sectors e0 e1) (active_of e0 e1) in (
      λ ok. let has = by.0 ok in record { sector = has.0; active = has.1; confirmed = has.2 },
      λ fact. by.1 (fact.sector, fact.active, fact.confirmed),
    )

-- ---- a rejection

-- there is nothing else than this application
nothing_else : (write : Rewrite) (app : App) (started : Option App)
    → (reject_as write app started ≡ Err no.NothingElse) ↔ ((other : App) → started ≡ Some other → other ≡ app)
nothing_else write app None = (λ err other is. absurd cc, λ all. refl)
nothing_else write app (Some one) = at (cases_Bool (is_same one app))
  where
    at : (is_same one app ≡ true) ⊎ (is_same one app ≡ false)
        → (reject_as write app (Some one) ≡ Err no.NothingElse)
        ↔ ((other : App) → ◌≡◌ {A = Option App} (Some one) (Some other) → other ≡ app)
    at (inl p) =
        let same : one ≡ app = (is_same-true one app).0 p in
        rw p (λ err other is. let equal : other ≡ one = cc in equal ∙ same, λ all. refl)
    at (inr p) =
        rw p (
          λ err. absurd cc,
          λ all.
              let same = (is_same-true one app).1 (all one refl) in absurd cc,
        )

-- it gives no other reason there
other_reason : (write : Rewrite) (app : App) (started : Option App) → reject_as write app started ≢ Err no.NoOtaApp
other_reason write app started = at (cases_Bool (is_other app started))
  where
    at : (is_other app started ≡ true) ⊎ (is_other app started ≡ false) → reject_as write app started ≢ Err no.NoOtaApp
    at (inl p) = rw p (λ err. absurd cc)
    at (inr p) = rw p (λ err. absurd cc)

-- a rejection is refused where no entry is active
reject_by-err : (layout : Places) (whole : App → Bool) (es : ℕ → Entry) (active : Option ℕ)
    → (reject_by layout whole es active ≡ Err no.NoOtaApp) ↔ (active ≡ None)
reject_by-err layout whole es None = (λ err. refl, λ none. refl)
reject_by-err layout whole es (Some sector) =
    let write = restated 3 sector (es sector) in
    (λ err. absurd (other_reason write (slot_app layout (es sector)) (started_after layout whole es write) err), λ none. absurd cc)

-- it is refused where an entry is active, and there is nothing else
reject_by-nothing : (layout : Places) (whole : App → Bool) (es : ℕ → Entry) (active : Option ℕ)
    → (reject_by layout whole es active ≡ Err no.NothingElse)
    ↔ ((sector : ℕ) × (active ≡ Some sector)
    × ((app : App) → started_after layout whole es (restated 3 sector (es sector)) ≡ Some app → app ≡ slot_app layout (es sector)))
reject_by-nothing layout whole es None = (λ err. absurd cc, λ has. absurd (let some = has.1 in cc))
reject_by-nothing layout whole es (Some y) =
    let write = restated 3 y (es y) in
    let is = nothing_else write (slot_app layout (es y)) (started_after layout whole es write) in
    let P : ℕ → Type 0 = λ k. (app : App) → started_after layout whole es (restated 3 k (es k)) ≡ Some app → app ≡ slot_app layout (es k) in
    (λ err. (y, refl, is.0 err), λ has. let some = has.1 in let same : has.0 ≡ y = cc in is.1 (subst P same has.2))

-- a rejection has no application to reject exactly where neither entry is valid
pub reject-err : (layout : Places) (whole : App → Bool) (e0 e1 : Entry)
    → (reject_of layout whole e0 e1 ≡ Err no.NoOtaApp) ↔ AreBothInvalid e0 e1
unfolding reject_of
reject-err layout whole e0 e1 =
    let by = reject_by-err layout whole (sectors e0 e1) (active_of e0 e1) in
    let none = active-none e0 e1 in
    (λ err. none.0 (by.0 err), λ both. by.1 (none.1 both))

-- it is refused for want of another exactly where there is none
pub reject-nothing : (layout : Places) (whole : App → Bool) (e0 e1 : Entry)
    → (reject_of layout whole e0 e1 ≡ Err no.NothingElse) ↔ HasNothingElse layout whole e0 e1
unfolding reject_of
reject-nothing layout whole e0 e1 =
    let by = reject_by-nothing layout whole (sectors e0 e1) (active_of e0 e1) in (
      λ err. let has = by.0 err in record { sector = has.0; active = has.1; nothing_else = has.2 },
      λ fact. by.1 (fact.sector, fact.active, fact.nothing_else),
    )

-- ---- what is rewritten

-- a confirmation makes the active entry VALID
pub confirm-some : (e0 e1 : Entry) (write : Rewrite) → confirm_of e0 e1 ≡ Ok (Some write)
    → (sector : ℕ) × (active_of e0 e1 ≡ Some sector) × (write ≡ restated 2 sector (sectors e0 e1 sector))
unfolding confirm_of
confirm-some e0 e1 write is = at (active_of e0 e1) refl is
  where
    at : (active : Option ℕ) → active_of e0 e1 ≡ active → confirm_by (sectors e0 e1) active ≡ Ok (Some write)
        → (sector : ℕ) × (active_of e0 e1 ≡ Some sector) × (write ≡ restated 2 sector (sectors e0 e1 sector))
    at None active is = absurd cc
    at (Some y) active is = elim (cases_Bool ((sectors e0 e1 y).state == 2)) [
      | inl p ↦ let none = rw p at is in absurd cc
      | inr p ↦ let some = rw p at is in (y, active, cc)
    ]

-- a rejection makes it INVALID
pub reject-ok : (layout : Places) (whole : App → Bool) (e0 e1 : Entry) (write : Rewrite)
    → reject_of layout whole e0 e1 ≡ Ok write
    → (sector : ℕ) × (active_of e0 e1 ≡ Some sector) × (write ≡ restated 3 sector (sectors e0 e1 sector))
unfolding reject_of
reject-ok layout whole e0 e1 write is = at (active_of e0 e1) refl is
  where
    at : (active : Option ℕ) → active_of e0 e1 ≡ active → reject_by layout whole (sectors e0 e1) active ≡ Ok write
        → (sector : ℕ) × (active_of e0 e1 ≡ Some sector) × (write ≡ restated 3 sector (sectors e0 e1 sector))
    at None active is = absurd cc
    at (Some y) active is =
        let restates = restated 3 y (sectors e0 e1 y) in
        elim (cases_Bool (is_other (slot_app layout (sectors e0 e1 y)) (started_after layout whole (sectors e0 e1) restates))) [
          | inl p ↦ let ok = rw p at is in (y, active, cc)
          | inr p ↦ let err = rw p at is in absurd cc
        ]

-- truth values tell whether an application may reject itself
pub reject-told : (layout : Places) (whole : App → Bool) (images : Images) (e0 e1 : Entry)
    → AreTold layout whole images → 0 < length layout.slots
    → reject_of layout whole e0 e1 ≡ reject_of layout (has_image images) e0 e1
unfolding reject_of
reject-told layout whole images e0 e1 told some = at (active_of e0 e1)
  where
    at : (active : Option ℕ) → reject_by layout whole (sectors e0 e1) active
        ≡ reject_by layout (has_image images) (sectors e0 e1) active
    at None = refl
    at (Some y) =
        let write = restated 3 y (sectors e0 e1 y) in
        let rejected = changed write (sectors e0 e1) in
        ap (reject_as write (slot_app layout (sectors e0 e1 y)))
        (started-told layout whole images (names layout rejected) told (names_a_start layout rejected some))
