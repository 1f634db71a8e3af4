-- Truth values tell what boots, and whether an update may begin.
use Rattle.std.proofs.Common.{◌≡◌, ◌≢◌, ◌↔◌, ℕ, ◌<◌, Bool, List, [], length, Option, Some, None, Ok, Err, refl, sym, ap, ◌∙◌}
use Rattle.otadata.specs.declared.entry.Entry.{Entry}
use Rattle.partition_table.specs.declared.app.App.{App}
use Rattle.partition_table.specs.Layout.{Places}
use Rattle.boot_select.specs.declared.settling.Unsettled.TheVariants.{Fallback, NoApp}
use Rattle.boot_select.specs.Candidates.{started_from}
use Rattle.boot_select.specs.Settled.{settled_of}
use Rattle.boot_select.specs.Boots.{AreTold, Images, app_of, names}
use Rattle.boot_select.proofs.SettledLemmas.{settled-none, settled-ok, settled-other}
use Rattle.boot_select.proofs.StartLemmas.{names_a_start, started-held}
use Rattle.rollback.specs.Boot.{boot_writes}
use Rattle.rollback.specs.Boots.{IsSettled, after_boot, boots}
use Rattle.rollback.proofs.BootLemmas.{boot_writes-none}
use Rattle.rollback.proofs.EntriesLemmas.{quiet_boots}

-- an application with some image
app_of-some : (booted : Option (App × List ℕ)) (app : App) → app_of booted ≡ Some app
    → (image : List ℕ) × (booted ≡ Some (app, image))
app_of-some None app is = absurd cc
app_of-some (Some booted) app is =
    let same : booted.0 ≡ app = cc in
    (booted.1, ap (λ (a : App). Some (a, booted.1)) same)

app_of-none : (booted : Option (App × List ℕ)) → app_of booted ≡ None → booted ≡ None
app_of-none None is = refl
app_of-none (Some booted) is = absurd cc

-- once a boot has made its rewrites, the first whole candidate is the one that boots
pub started-boots : (layout : Places) (whole : App → Bool) (images : Images) (es : ℕ → Entry)
    → AreTold layout whole images → 0 < length layout.slots
    → started_from layout whole (names layout (after_boot es)) ≡ app_of (boots layout images es)
unfolding boots
started-boots layout whole images es told some =
    started-held layout whole images (names layout (after_boot es)) told (names_a_start layout (after_boot es) some)

-- the first whole candidate is the one that boots, where a boot rewrites nothing
quiet_started : (layout : Places) (whole : App → Bool) (images : Images) (es : ℕ → Entry)
    → AreTold layout whole images → 0 < length layout.slots → boot_writes es ≡ []
    → started_from layout whole (names layout es) ≡ app_of (boots layout images es)
quiet_started layout whole images es told some quiet =
    started-held layout whole images (names layout es) told (names_a_start layout es some)
    ∙ sym (ap app_of (quiet_boots layout images es quiet))

-- an update may begin exactly where it is settled by the images
pub settled-images : (layout : Places) (whole : App → Bool) (images : Images) (es : ℕ → Entry)
    (app : App)
    → AreTold layout whole images → 0 < length layout.slots
    → (settled_of layout whole (es 0) (es 1) ≡ Ok app) ↔ ((image : List ℕ)
    × IsSettled layout images es app image)
settled-images layout whole images es app told some =
    let by = settled-ok layout whole (es 0) (es 1) app in
    let rewrites = boot_writes-none es in (
      λ ok.
          let fact = by.0 ok in
          let quiet : boot_writes es ≡ [] = rewrites.1 fact.none_waits in
          let started = quiet_started layout whole images es told some quiet in
          let with_image = app_of-some (boots layout images es) app (sym started ∙ fact.started) in
          (with_image.0, record { quiet = quiet; named = fact.named; booted = with_image.1 }),
      λ has.
          let fact = has.1 in
          let started = quiet_started layout whole images es told some fact.quiet in
          by.1 (record {
            none_waits = rewrites.0 fact.quiet;
            named = fact.named;
            started = started ∙ ap app_of fact.booted;
          }),
    )

-- no application starts exactly where nothing boots
pub no_app-images : (layout : Places) (whole : App → Bool) (images : Images) (es : ℕ → Entry)
    → AreTold layout whole images → 0 < length layout.slots
    → (settled_of layout whole (es 0) (es 1) ≡ Err NoApp) ↔ ((boot_writes es ≡ [])
    × (boots layout images es ≡ None))
no_app-images layout whole images es told some =
    let by = settled-none layout whole (es 0) (es 1) in
    let rewrites = boot_writes-none es in (
      λ err.
          let fact = by.0 err in
          let quiet : boot_writes es ≡ [] = rewrites.1 fact.none_waits in
          let started = quiet_started layout whole images es told some quiet in
          (quiet, app_of-none (boots layout images es) (sym started ∙ fact.none_started)),
      λ has.
          let started = quiet_started layout whole images es told some has.0 in
          by.1 (record { none_waits = rewrites.0 has.0; none_started = started ∙ ap app_of has.1 }),
    )

-- another application starts than the one that is named exactly where that boots
pub fallback-images : (layout : Places) (whole : App → Bool) (images : Images) (es : ℕ → Entry)
    (named other : App)
    → AreTold layout whole images → 0 < length layout.slots
    → (settled_of layout whole (es 0) (es 1) ≡ Err (Fallback named other))
    ↔ ((boot_writes es ≡ []) × (names layout es ≡ named)
    × (app_of (boots layout images es) ≡ Some other) × (other ≢ named))
fallback-images layout whole images es named other told some =
    let by = settled-other layout whole (es 0) (es 1) named other in
    let rewrites = boot_writes-none es in (
      λ err.
          let fact = by.0 err in
          let quiet : boot_writes es ≡ [] = rewrites.1 fact.none_waits in
          let started = quiet_started layout whole images es told some quiet in
          (quiet, fact.named_is, sym started ∙ fact.started_is, fact.differs),
      λ has.
          let started = quiet_started layout whole images es told some has.0 in
          by.1 (record {
            none_waits = rewrites.0 has.0;
            named_is = has.1;
            started_is = started ∙ has.2;
            differs = has.3;
          }),
    )
