-- What boots, by the entries and the images; when an update may begin; and what a loss of power in
-- the rewrite of an entry may make of it.
use Rattle.std.specs.Prelude.{◌≡◌, ◌≢◌, ◌⊎◌, ℕ, List, [], Option, Some}
use Rattle.otadata.specs.declared.entry.Entry.{Entry}
use Rattle.otadata.specs.Choice.{Matches}
use Rattle.partition_table.specs.declared.app.App.{App}
use Rattle.partition_table.specs.Layout.{Places}
use Rattle.boot_select.specs.Candidates.{candidates}
use Rattle.boot_select.specs.Boots.{Images, entries_in, first_held, images_in, names}
use Rattle.rollback.specs.Rewrite.{changed, restated, written}
use Rattle.rollback.specs.Boot.{boot_writes}

-- the entries once a boot has made its rewrites
abbrev pub after_boot : (ℕ → Entry) → ℕ → Entry
after_boot entries = written (boot_writes entries) entries

-- what boots: once the rewrites are made, the first candidate that has an image, with that image
unfoldable pub boots : Places → Images → (ℕ → Entry) → Option (App × List ℕ)
boots layout images entries =
    first_held images (candidates layout (names layout (after_boot entries)))

-- what boots of a flash; `held` tells the whole image that bytes begin with
abbrev pub boots_in : (List ℕ → Option (List ℕ)) → Places → List ℕ → Option (App × List ℕ)
boots_in held layout flash = boots layout (images_in held layout flash) (entries_in layout flash)

-- an update may begin: a boot rewrites nothing, and the application that the entries name is the
-- one that boots, with this image
pub record IsSettled (layout : Places) (images : Images) (entries : ℕ → Entry) (app : App)
    (image : List ℕ) : Type 0 where
  pub quiet : boot_writes entries ≡ []
  pub named : names layout entries ≡ app
  pub booted : boots layout images entries ≡ Some (app, image)

-- the entry that is found in a sector matches by chance: its sequence is neither that of the entry
-- that stood there nor that of the new one, as far as these match
pub record IsChance (old new found : Entry) : Type 0 where
  pub matches : Matches found
  pub not_old : Matches old → found.seq ≢ old.seq
  pub not_new : Matches new → found.seq ≢ new.seq

-- the entries with the one of this sector in another state
abbrev pub in_state : ℕ → ℕ → (ℕ → Entry) → ℕ → Entry
in_state state sector entries = changed (restated state sector (entries sector)) entries

-- what boots is what boots where the entry of this sector is VALID, or is INVALID
abbrev pub BootsByVerdict : Places → Images → (ℕ → Entry) → ℕ → Option (App × List ℕ) → Type 0
BootsByVerdict layout images entries sector booted =
    (booted ≡ boots layout images (in_state 2 sector entries))
    ⊎ (booted ≡ boots layout images (in_state 3 sector entries))
