-- What an update began with, by its files: the bytes of both, and the table of the flash.
use Rattle.std.proofs.Common.{◌≡◌, Bool, true, false, ℕ, List, length, Result, Ok, Err, refl, sym, ap, subst, arith}
use Rattle.std.specs.Prelude.{if◌then◌else◌}
use Rattle.std.proofs.lemmas.Bool.Decides.{nat_tests}
use Rattle.nor_device.specs.FlashSize.{IsFlashSize, is_flash_size}
use Rattle.partition_table.specs.declared.row.Row.{Row}
use Rattle.partition_table.specs.Layout.{Places, layout_of}
use Rattle.core_script.specs.declared.action.Action.{Action}
use Rattle.core_script.specs.ScriptText.{script_of_text}
use Rattle.duo_run.specs.Both.{HasTable}
use Rattle.update_run.specs.declared.refusal.UpdateNo.{UpdateNo}
use Rattle.update_run.specs.Opening.{Opening, layout_or_refusal, on_ok, next_in, opening_from, opening_of, rows_in, script_or_refusal}
use Rattle.update_run.proofs.OpeningLemmas.{has_table}

-- what was given, and what followed on it
given : {A B : Type 0} (first : Result A UpdateNo) (next : A → Result B UpdateNo) (end : B)
    → on_ok first next ≡ Ok end → (value : A) × (first ≡ Ok value) × (next value ≡ Ok end)
given (Ok value) next last is = (value, refl, is)
given (Err why) next last is = absurd cc

-- one of the sizes that a flash may have
size_of : (n : ℕ) → is_flash_size n ≡ true → IsFlashSize n
unfolding is_flash_size
size_of n is = grind (arith, nat_tests, is)

-- a value behind a test: the test holds
sized : {A : Type 0} (test : Bool) (read : Result A UpdateNo) (why : UpdateNo) (value : A)
    → (if test then read else Err why) ≡ Ok value → test ≡ true
sized true read why value is = refl
sized false read why value is = absurd cc

-- a flash whose table has rows has one of these sizes
rows_sized : (flash : List ℕ) (rows : List Row) → rows_in flash ≡ Ok rows
    → IsFlashSize (length flash)
unfolding rows_in
rows_sized flash rows is =
    size_of (length flash) (sized (is_flash_size (length flash)) _ _ rows is)

-- these parts, as what an update begins with
abbrev opening : List ℕ → List ℕ → List Action → List Row → Places → Opening
opening flash image script rows layout = record {
  flash = flash;
  image = image;
  script = script;
  rows = rows;
  layout = layout;
}

-- what an update of these files began with
pub record IsOf (flash image : List ℕ) (o : Opening) : Type 0 where
  pub flash_is : o.flash ≡ flash
  pub image_is : o.image ≡ image
  pub table : HasTable o.rows o.layout o.flash

-- by the actions of its script
opened_from : (flash image : List ℕ) (script : List Action) (o : Opening)
    → opening_from flash image script ≡ Ok o → IsOf flash image o
unfolding opening_from
opened_from flash image script o is =
    let rows = given (rows_in flash) _ o is in
    let layout = given (layout_or_refusal (layout_of rows.0)) _ o rows.2 in
    let next = given (next_in flash layout.0 (length image)) _ o layout.2 in
    let same = next.2 in
    let back : opening flash image script rows.0 layout.0 ≡ o = cc in
    record {
      flash_is = sym (ap (λ (x : Opening). x.flash) back);
      image_is = sym (ap (λ (x : Opening). x.image) back);
      table = subst (λ (x : Opening). HasTable x.rows x.layout x.flash) back
          (has_table flash rows.0 layout.0 (rows_sized flash rows.0 rows.1) rows.1 layout.1);
    }

-- by the text of its script
pub opened : (flash image text : List ℕ) (o : Opening) → opening_of flash image text ≡ Ok o
    → IsOf flash image o
opened flash image text o is =
    let script = given (script_or_refusal (script_of_text text)) (opening_from flash image) o is in
    opened_from flash image script.0 o script.2
