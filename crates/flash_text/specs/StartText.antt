-- Why an update doesn't begin, in words: a line of its script, and what stands in its flash.
use Rattle.std.specs.Prelude.{ℕ, List, ◌++◌, codes, decimal}
use Rattle.core_script.specs.declared.refusal.ScriptWhy.{ScriptWhy}
use Rattle.core_script.specs.declared.refusal.ScriptWhy.TheVariants as why
use Rattle.partition_table.specs.declared.app.App.{App}
use Rattle.partition_table.specs.declared.app.App.TheVariants.{Ota}
use Rattle.boot_select.specs.declared.settling.Unsettled.{Unsettled}
use Rattle.boot_select.specs.declared.settling.Unsettled.TheVariants.{Waiting, NoApp, Fallback}
use Rattle.flash_text.specs.Names.{app_text, state_text}

-- what is wrong with a line of a script, in a word
unfoldable pub script_why_text : ScriptWhy → List ℕ
script_why_text why.Word = codes "word"
script_why_text why.Count = codes "count"
script_why_text why.Space = codes "space"
script_why_text why.Number = codes "number"
script_why_text why.Label = codes "label"
script_why_text why.Hex = codes "hex"
script_why_text why.Length = codes "length"
script_why_text why.TooMany = codes "toomany"
script_why_text why.TooMuch = codes "toomuch"

-- words and a number
unfoldable pub number_behind : List ℕ → ℕ → List ℕ
number_behind text number = text ++ decimal number

-- what is wrong with the line of this number
unfoldable pub script_text : ℕ → ScriptWhy → List ℕ
script_text line reason =
    number_behind (codes "script line ") line ++ codes " " ++ script_why_text reason

-- that an entry waits, with its state
unfoldable pub waiting_text : ℕ → ℕ → List ℕ
waiting_text entry state =
    number_behind (codes "entry ") entry ++ codes " state " ++ state_text state

-- words and an application
unfoldable pub app_behind : List ℕ → App → List ℕ
app_behind text app = text ++ app_text app

-- that another application is started than the one that is named
unfoldable pub fallback_text : App → App → List ℕ
fallback_text named started =
    app_behind (codes "named ") named ++ app_behind (codes " started ") started

-- why a flash isn't settled, without the words in front
unfoldable pub unsettled_why_text : Unsettled → List ℕ
unsettled_why_text (Waiting entry state) = waiting_text entry state
unsettled_why_text NoApp = codes "no application"
unsettled_why_text (Fallback named started) = fallback_text named started

-- words and why a flash isn't settled
unfoldable pub unsettled_behind : List ℕ → Unsettled → List ℕ
unsettled_behind text reason = text ++ unsettled_why_text reason

-- why a flash isn't settled
abbrev pub unsettled_text : Unsettled → List ℕ
unsettled_text reason = unsettled_behind (codes "not settled ") reason

-- that the only slot is the one that runs
unfoldable pub conflict_text : ℕ → List ℕ
conflict_text slot = app_behind (codes "conflict ") (Ota slot)

-- that a slot may not be written, with its flags
unfoldable pub slot_flags_text : ℕ → ℕ → List ℕ
slot_flags_text slot flags =
    app_behind (codes "slot flags ") (Ota slot) ++ codes " " ++ decimal flags
