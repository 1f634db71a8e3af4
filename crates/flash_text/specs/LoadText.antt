-- The lines of a stream that was loaded. Each ends by a line feed.
use Rattle.std.specs.Prelude.{ℕ, List, ◌++◌, codes, decimal}
use Rattle.flash_text.specs.BootText.{steps_line}

-- how many requests were answered, and how many steps were made
unfoldable pub loaded_lines : ℕ → ℕ → List ℕ
loaded_lines frames steps = codes "frames " ++ decimal frames ++ codes "\n" ++ steps_line steps
