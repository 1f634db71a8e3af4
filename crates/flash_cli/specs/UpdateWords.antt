-- The words of `update`: its names and its options.
use Rattle.std.specs.Prelude.{ℕ, Bool, true, false, ◌==◌, List, [], ◌∷◌, Option, Some, None, if◌then◌else◌, codes, bytes_eq, String}
use Rattle.std.specs.declared.alloc.Global.{Global}
use Rattle.pipe_ends.specs.Number.{number_of_text, number_up_to}
use Rattle.power_cut.specs.declared.legs.Upto.{Upto}
use Rattle.power_cut.specs.declared.legs.Upto.TheVariants.{Session, Boot as FirstBoot, Confirm as Confirmation}
use Rattle.flash_cli.specs.declared.command.Kind.{Kind}
use Rattle.flash_cli.specs.declared.command.Kind.TheVariants.{Update as UpdateKind}
use Rattle.update_run.specs.declared.options.Options.{Options}
use Rattle.flash_cli.specs.declared.update_words.Update.{Update as Parsed}
use Rattle.flash_cli.specs.Command.{cores_of, words_of}

-- the names of an update's files, and its options
pub record Update : Type 0 where
  pub flash : List ℕ
  pub image : List ℕ
  pub script : List ℕ
  pub out : List ℕ
  pub options : Options

-- the same without the borrow of its words
abbrev pub shown_update : Parsed → Update
shown_update update = record {
  flash = update.flash.now;
  image = update.image.now;
  script = update.script.now;
  out = update.out.now;
  options = update.options;
}

-- the value of an option among options with their values, if it is there
abbrev pub value_of : List ℕ → List (List ℕ) → Option (List ℕ)
value_of option [] = None
value_of option (word ∷ []) = None
value_of option (word ∷ value ∷ more) =
    if bytes_eq word option then Some value else value_of option more

-- the core that writes: 0 or 1, and 0 where nothing is said
abbrev pub driver_by : Option (List ℕ) → Option ℕ
driver_by None = Some 0
driver_by (Some word) = number_up_to 1 word

-- a number from 1
abbrev pub from_one : Option ℕ → Option (Option ℕ)
from_one None = None
from_one (Some n) = if n == 0 then None else Some (Some n)

-- the number of a step, which may be left out
abbrev pub step_by : Option (List ℕ) → Option (Option ℕ)
step_by None = Some None
step_by (Some word) = from_one (number_of_text word)

-- the tear number, 0 where nothing is said
abbrev pub tear_by : Option (List ℕ) → Option ℕ
tear_by None = Some 0
tear_by (Some word) = number_of_text word

-- how far the update that a word names is to go
abbrev pub upto_named : List ℕ → Option Upto
upto_named word =
    if bytes_eq word (codes "session") then Some Session
    else (if bytes_eq word (codes "boot") then Some FirstBoot
    else (if bytes_eq word (codes "confirm") then Some Confirmation else None))

-- how far it is to go: to its end where nothing is said
abbrev pub upto_by : Option (List ℕ) → Option Upto
upto_by None = Some Confirmation
upto_by (Some word) = upto_named word

-- what a value gives, or none
abbrev pub with_value : {A B : Type 0} → Option A → (A → Option B) → Option B
with_value None next = None
with_value (Some value) next = next value

-- both a step in which the power goes off, and one in which the device fails
abbrev pub are_both : Option ℕ → Option ℕ → Bool
are_both None fail = false
are_both (Some cut) None = false
are_both (Some cut) (Some fail) = true

-- the options that words are, where each value is one, and at most one step is to end badly
unfoldable pub options_of : List (List ℕ) → Option Options
options_of words =
    with_value (driver_by (value_of (codes "--driver") words)) (λ driver.
    with_value (step_by (value_of (codes "--cut") words)) (λ cut.
    with_value (tear_by (value_of (codes "--tear") words)) (λ tear.
    with_value (step_by (value_of (codes "--fail") words)) (λ fail.
    with_value (upto_by (value_of (codes "--upto") words)) (λ upto.
    if are_both cut fail then None
    else Some (record { driver = driver; cut = cut; tear = tear; fail = fail; upto = upto }))))))

-- the update of these names with these options
abbrev pub named : List (List ℕ) → Options → Option Update
named (flash ∷ image ∷ script ∷ out ∷ []) options =
    Some (record { flash = flash; image = image; script = script; out = out; options = options })
named _ options = None

-- the update that a command of this kind is, with these names and options
abbrev pub update_made : Kind → List (List ℕ) → List (List ℕ) → Option Update
update_made UpdateKind names options = with_value (options_of options) (named names)
update_made _ names options = None

-- the update that words are, where they are one
abbrev pub update_of : List (List ℕ) → Option Update
update_of words = cores_of update_made words

-- the update that is asked for by these words, where they are one
abbrev pub asked_update : List (String Global) → Option Update
asked_update words = update_of (words_of words)
