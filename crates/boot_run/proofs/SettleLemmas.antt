-- A boot and a confirmation of a flash that is a pair settle it, where all of their steps are made.
use Rattle.std.proofs.Common.{◌≡◌, ◌⊎◌, inl, inr, ℕ, ◌<◌, List, [], ◌∷◌, length, All, sym, ap, ◌∙◌, subst, arith, lit<}
use Rattle.nor_device.specs.Flash.{after_steps}
use Rattle.crash_images.proofs.LeftLaws.{left_end}
use Rattle.otadata.specs.declared.entry.Entry.{Entry}
use Rattle.otadata.specs.Choice.{active_of}
use Rattle.otadata.specs.Entry.{IsStored}
use Rattle.otadata.proofs.EntryLemmas.{entry_in-stored}
use Rattle.partition_table.specs.declared.app.App.{App}
use Rattle.partition_table.specs.Layout.{IsPlaced, Places}
use Rattle.boot_select.specs.Choice.{named_of}
use Rattle.boot_select.specs.Boots.{Images, entries_in, images_in}
use Rattle.rollback.specs.declared.rewrite.Rewrite.{Rewrite}
use Rattle.rollback.specs.Rewrite.{restated}
use Rattle.rollback.specs.Boot.{boot_writes}
use Rattle.rollback.specs.Boots.{IsSettled, after_boot, in_state}
use Rattle.rollback.specs.Pair.{SettlesOneOf}
use Rattle.rollback.proofs.EntriesLemmas.{boots_same, writes_same}
use Rattle.rollback.proofs.LifeLemmas.{boot_settles, confirm_settles, second_boot_settles}
use Rattle.image_verify.specs.Held.{held}
use Rattle.boot_run.specs.Paired.{IsActiveIn, IsPairIn, IsSettledPair, IsWaiting, Pairing}
use Rattle.boot_run.specs.Rewriting.{rewrite, rewrites}
use Rattle.boot_run.specs.Verdict.{confirmation, writes_of}
use Rattle.boot_run.proofs.CrashLemmas.{label_short}
use Rattle.boot_run.proofs.FrameLemmas.{left_images}
use Rattle.boot_run.proofs.WritesLemmas.{boot_are, boot_short}
use Rattle.boot_run.proofs.StoredLemmas.{boot_stored, entries_changed, entries_written}
use Rattle.boot_run.proofs.KeptLemmas.{confirm_entry}
use Rattle.boot_run.proofs.ConfirmedLemmas.{in_state_same}

-- an update may begin by the same entries
settled_same : (layout : Places) (images : Images) (es gs : ℕ → Entry) (app : App)
    (image : List ℕ) → gs 0 ≡ es 0 → gs 1 ≡ es 1 → IsSettled layout images es app image
    → IsSettled layout images gs app image
settled_same layout images es gs app image first second settled = record {
  quiet = writes_same es gs first second ∙ settled.quiet;
  named = (λ i. named_of layout (first i) (second i)) ∙ settled.named;
  booted = boots_same layout images es gs first second ∙ settled.booted;
}

one_same : (layout : Places) (images : Images) (es gs : ℕ → Entry) (pair : Pairing)
    → gs 0 ≡ es 0 → gs 1 ≡ es 1
    → SettlesOneOf layout images es pair.app pair.image pair.slot pair.target
    → SettlesOneOf layout images gs pair.app pair.image pair.slot pair.target
one_same layout images es gs pair first second (inl settled) =
    inl (settled_same layout images es gs _ _ first second settled)
one_same layout images es gs pair first second (inr settled) =
    inr (settled_same layout images es gs _ _ first second settled)

module _ (layout : Places) (flash : List ℕ) (pair : Pairing) (placed : IsPlaced layout (length flash))
    (stored : (sector : ℕ) → sector < 2 → IsStored (entries_in layout flash sector))
    (is : IsPairIn layout flash pair) where
  abbrev es : ℕ → Entry
  es = entries_in layout flash

  abbrev images : Images
  images = images_in held layout flash

  -- the flash behind a boot
  abbrev booted : List ℕ
  booted = after_steps flash (rewrites layout.otadata (boot_writes es))

  booted_entry : (sector : ℕ) → sector < 2 → entries_in layout booted sector ≡ after_boot es sector
  booted_entry sector two = entries_written layout flash (boot_writes es) placed
      (boot_stored es stored (boot_writes es) (boot_are es)) sector two

  booted_images : images_in held layout booted ≡ images
  booted_images = left_images held layout (length flash) flash booted (boot_writes es) placed
      (boot_short es (λ y two. label_short layout flash y) (boot_writes es) (boot_are es))
      (left_end flash (rewrites layout.otadata (boot_writes es)))

  settles : SettlesOneOf layout images (after_boot es) pair.app pair.image pair.slot pair.target
      → IsSettledPair layout booted pair
  settles one = subst (λ h. SettlesOneOf layout h (entries_in layout booted) pair.app pair.image
      pair.slot pair.target) (sym booted_images)
      (one_same layout images (after_boot es) (entries_in layout booted) pair
      (booted_entry 0 (omega arith)) (booted_entry 1 (omega arith)) one)

  -- one boot settles a pair, or its entry waits
  pub settled_boot : IsSettledPair layout booted pair ⊎ IsWaiting layout booted pair.sector
  settled_boot = elim (boot_settles layout images es pair.sector pair.app pair.image pair.slot
      pair.target is) [
        | inl one ↦ inl (settles one)
        | inr waits ↦ inr (record {
          active = (λ i. active_of (booted_entry 0 (omega arith) i) (booted_entry 1 (omega arith) i))
              ∙ waits.0;
          waits = ap (λ (e : Entry). e.state) (booted_entry pair.sector is.two) ∙ waits.1;
        })
      ]

  -- where it waited before, it is settled
  pub settled_second : (es pair.sector).state ≡ 1 → IsSettledPair layout booted pair
  settled_second waits = settles
      (second_boot_settles layout images es pair.sector pair.app pair.image pair.slot pair.target is
      waits)

  -- so is it behind a confirmation of its active entry
  pub settled_confirm : IsActiveIn layout flash pair.sector
      → IsSettledPair layout
      (after_steps flash (rewrites layout.otadata (writes_of (confirmation es)))) pair
  settled_confirm active = by (confirm_entry es pair.sector active is.two)
    where
      one : SettlesOneOf layout images (in_state 2 pair.sector es) pair.app pair.image pair.slot
          pair.target
      one = confirm_settles layout images es pair.sector pair.app pair.image pair.slot pair.target is
          active

      write : Rewrite
      write = restated 2 pair.sector (es pair.sector)

      held_entry : IsStored write.entry
      held_entry =
          let e = stored pair.sector is.two in
          record {
            sized = record {
              seq = e.sized.seq;
              label = e.sized.label;
              state = lit< tt;
              crc = e.sized.crc;
            };
            label = e.label;
          }

      left : List ℕ
      left = after_steps flash (rewrite layout.otadata write)

      same : images_in held layout left ≡ images
      same = left_images held layout (length flash) flash left (write ∷ []) placed
          ((is.two, label_short layout flash pair.sector), tt)
          (left_end flash (rewrites layout.otadata (write ∷ [])))

      by : (((es pair.sector).state ≡ 2) × (writes_of (confirmation es) ≡ []))
          ⊎ (writes_of (confirmation es) ≡ restated 2 pair.sector (es pair.sector) ∷ [])
          → IsSettledPair layout
          (after_steps flash (rewrites layout.otadata (writes_of (confirmation es)))) pair
      by (inl done) =
          subst (λ ws. IsSettledPair layout (after_steps flash (rewrites layout.otadata ws)) pair)
          (sym done.1)
          (one_same layout images (in_state 2 pair.sector es) es pair
          (in_state_same es pair.sector 0 done.0) (in_state_same es pair.sector 1 done.0) one)
      by (inr made) =
          subst (λ ws. IsSettledPair layout (after_steps flash (rewrites layout.otadata ws)) pair)
          (sym made)
          (subst (λ h. SettlesOneOf layout h (entries_in layout left) pair.app pair.image pair.slot
          pair.target) (sym same)
          (one_same layout images (in_state 2 pair.sector es) (entries_in layout left) pair
          (entries_changed layout flash write placed is.two held_entry 0 (omega arith))
          (entries_changed layout flash write placed is.two held_entry 1 (omega arith)) one))

-- the entries of a flash of bytes are stored
pub bytes_stored : (layout : Places) (flash : List ℕ) → IsPlaced layout (length flash)
    → All (λ b. b < 256) flash → (sector : ℕ) → sector < 2
    → IsStored (entries_in layout flash sector)
bytes_stored layout flash placed small sector two =
    entry_in-stored flash layout.otadata sector (omega (arith, placed.inside, two)) small
