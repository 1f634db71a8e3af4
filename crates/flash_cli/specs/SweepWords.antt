-- The words of `sweep`: its names and its option; and words that start no cores.
use Rattle.std.specs.Prelude.{◌≡◌, ℕ, List, [], ◌∷◌, Option, Some, None, codes, String}
use Rattle.std.specs.declared.alloc.Global.{Global}
use Rattle.flash_cli.specs.declared.command.Kind.{Kind}
use Rattle.flash_cli.specs.declared.command.Kind.TheVariants.{Sweep as SweepKind}
use Rattle.flash_cli.specs.declared.sweep_words.Sweep.{Sweep as Parsed}
use Rattle.flash_cli.specs.Command.{cores_of, words_of}
use Rattle.flash_cli.specs.UpdateWords.{asked_update, tear_by, value_of, with_value}

-- the names of a sweep's files, and its tear number
pub record Sweep : Type 0 where
  pub flash : List ℕ
  pub image : List ℕ
  pub script : List ℕ
  pub tear : ℕ

-- the same without the borrow of its words
abbrev pub shown_sweep : Parsed → Sweep
shown_sweep sweep = record {
  flash = sweep.flash.now;
  image = sweep.image.now;
  script = sweep.script.now;
  tear = sweep.tear;
}

-- the sweep of these names with this tear number
abbrev pub sweep_named : List (List ℕ) → ℕ → Option Sweep
sweep_named (flash ∷ image ∷ script ∷ []) tear =
    Some (record { flash = flash; image = image; script = script; tear = tear })
sweep_named _ tear = None

-- the sweep that a command of this kind is, with these names and options
abbrev pub sweep_made : Kind → List (List ℕ) → List (List ℕ) → Option Sweep
sweep_made SweepKind names options =
    with_value (tear_by (value_of (codes "--tear") options)) (sweep_named names)
sweep_made _ names options = None

-- the sweep that words are, where they are one
abbrev pub sweep_of : List (List ℕ) → Option Sweep
sweep_of words = cores_of sweep_made words

-- the sweep that is asked for by these words, where they are one
abbrev pub asked_sweep : List (String Global) → Option Sweep
asked_sweep words = sweep_of (words_of words)

-- words that are neither an update nor a sweep
pub record IsPlain (words : List (String Global)) : Type 0 where
  pub no_update : asked_update words ≡ None
  pub no_sweep : asked_sweep words ≡ None
