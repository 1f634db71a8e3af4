-- A field without the blanks at its ends.
use Rattle.std.specs.Prelude.{ℕ, zero, suc, ◌+◌, Bool, ◌||◌, ◌==◌, List, [], ◌∷◌, length, take, slice_index, if◌then◌else◌}

-- whether a byte is a space or a tab
abbrev pub is_blank : ℕ → Bool
is_blank c = (c == 32) || (c == 9)

-- a text without the blanks at its start
abbrev pub trim_front : List ℕ → List ℕ
trim_front [] = []
trim_front (c ∷ cs) = if is_blank c then trim_front cs else c ∷ cs

-- how many of the first n bytes are kept where the blanks at their end go
abbrev pub kept : ℕ → List ℕ → ℕ
kept zero text = 0
kept (suc n) text = if is_blank (slice_index text n) then kept n text else n + 1

-- a text without the blanks at its end
abbrev pub trim_back : List ℕ → List ℕ
trim_back text = take (kept (length text) text) text

-- a text without the blanks at its ends
unfoldable pub trim : List ℕ → List ℕ
trim text = trim_back (trim_front text)
