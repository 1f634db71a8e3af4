-- The parts of a plan by their number.
use Rattle.std.proofs.Common.{◌≡◌, ℕ, zero, suc, ◌+◌, ◌<◌, ◌≤◌, List, [], ◌∷◌, length, drop, get_or, refl, sym, ap, ◌∙◌, arith, drop-cons}
use Rattle.std.proofs.lemmas.List.{drop_all}
use Rattle.std.specs.Prelude.{Vec, map, string_bytes}
use Rattle.std.specs.declared.alloc.Global.{Global}
use Rattle.image_maker.specs.declared.part.PartLine.{PartLine}
use Rattle.image_maker.specs.Parts.{all_parts}
use Rattle.image_maker.specs.Placing.{Part}
use Rattle.image_maker.specs.Plan.{PlannedPart, parts_of}

-- there are as many as lines
pub length-all_parts : (lines : List PartLine) (files : List (Vec ℕ Global)) → length lines ≡ length files
    → length (all_parts lines files) ≡ length lines
length-all_parts [] files same = refl
length-all_parts (line ∷ lines) [] same = absurd (omega arith)
length-all_parts (line ∷ lines) (file ∷ files) same = ap suc (length-all_parts lines files (omega arith))

-- the part with which those from a number on begin
pub part_at : (i : ℕ) (lines : List PartLine) (files : List (Vec ℕ Global)) (line : PartLine) (file : Vec ℕ Global)
    → length lines ≡ length files → i < length lines → file ≡ get_or files i file
    → drop i (all_parts lines files)
    ≡ record { load = (get_or lines i line).load; content = file.items } ∷ drop (i + 1) (all_parts lines files)
part_at i lines files line file same below is =
    let next : i + 1 ≡ suc i = omega arith in
    by i lines files line file same below is ∙ ap (λ n. here i lines line file ∷ drop n (all_parts lines files)) (sym next)
  where
    here : ℕ → List PartLine → PartLine → Vec ℕ Global → Part
    here i lines line file = record { load = (get_or lines i line).load; content = file.items }

    by : (i : ℕ) (lines : List PartLine) (files : List (Vec ℕ Global)) (line : PartLine) (file : Vec ℕ Global)
        → length lines ≡ length files → i < length lines → file ≡ get_or files i file
        → drop i (all_parts lines files)
        ≡ record { load = (get_or lines i line).load; content = file.items } ∷ drop (suc i) (all_parts lines files)
    by i [] files line file same below is = absurd (omega arith)
    by i (l ∷ lines) [] line file same below is = absurd (omega arith)
    by zero (l ∷ lines) (f ∷ files) line file same below is =
        λ i. record { load = l.load; content = (sym is i).items } ∷ all_parts lines files
    by (suc i) (l ∷ lines) (f ∷ files) line file same below is =
        by i lines files line file (omega arith) (omega arith) is

-- no part is left
pub none_left : (i : ℕ) (lines : List PartLine) (files : List (Vec ℕ Global)) → length lines ≡ length files
    → length lines ≤ i → drop i (all_parts lines files) ≡ []
none_left i lines files same past =
    drop_all i (all_parts lines files) (omega (arith, length-all_parts lines files same))

-- the length of a vector
pub long : (file : Vec ℕ Global) → file.len ≡ length file.items
long file = file.ok.0

-- a line has its name
pub name_at : (i : ℕ) (lines : List PartLine) (line : PartLine) (name : List ℕ)
    → i < length lines → line ≡ get_or lines i line → name ≡ string_bytes line.name
    → name ≡ get_or (map (λ (part : PlannedPart). part.name) (parts_of lines)) i []
name_at i [] line name below is named = absurd (omega arith)
name_at zero (l ∷ lines) line name below is named = named ∙ ap (λ (x : PartLine). string_bytes x.name) is
name_at (suc i) (l ∷ lines) line name below is named = name_at i lines line name (omega arith) is named

-- parts are left from a number on
pub begins : (i : ℕ) (lines : List PartLine) (files : List (Vec ℕ Global)) → length lines ≡ length files
    → i < length lines → (p : Part) × (drop i (all_parts lines files) ≡ p ∷ drop (i + 1) (all_parts lines files))
begins i lines files same below =
    let all = all_parts lines files in
    let none : Part = record { load = 0; content = [] } in
    let long : i < length all = omega (arith, length-all_parts lines files same) in
    let next : i + 1 ≡ suc i = omega arith in
    (get_or all i none, drop-cons all i none long ∙ ap (λ n. get_or all i none ∷ drop n all) (sym next))

-- there are as many segments as lines
pub length-parts : (lines : List PartLine) → length (parts_of lines) ≡ length lines
length-parts [] = refl
length-parts (line ∷ lines) = ap suc (length-parts lines)
