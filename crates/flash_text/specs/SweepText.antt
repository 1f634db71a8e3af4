-- The lines of a sweep: the steps of the update, and what boots behind a cut in each of them.
use Rattle.std.specs.Prelude.{ℕ, suc, List, [], ◌∷◌, ◌++◌, codes, decimal}
use Rattle.boot_run.specs.declared.booted.Booted.{Booted}
use Rattle.power_cut.specs.declared.swept.Sweep.{Sweep}
use Rattle.flash_text.specs.BootText.{boots_line, steps_line}

-- the line of what boots behind a cut in step k
unfoldable pub cut_line : ℕ → Booted → List ℕ
cut_line k booted =
    codes "cut " ++ decimal k ++ codes " " ++ boots_line booted.app booted.info.length

-- the lines of what boots behind a cut in step k and in those behind it, in order
abbrev pub cut_lines : ℕ → List Booted → List ℕ
cut_lines k [] = []
cut_lines k (booted ∷ more) = cut_line k booted ++ cut_lines (suc k) more

-- the lines of a sweep; the first step is step 1
unfoldable pub sweep_text : Sweep → List ℕ
sweep_text sweep = steps_line sweep.steps ++ cut_lines 1 sweep.after.items
