-- The files of a plan's parts, as they are read one after the other behind the plan.
use Rattle.std.proofs.Common.{◌≡◌, ◌≤◌, ◌<◌, ◌+◌, ℕ, suc, List, [], ◌∷◌, ◌++◌, length, drop, get_or, refl, sym, ap, subst, ◌∙◌, arith, drop-cons}
use Rattle.std.specs.Prelude.{Option, Some, None, Result, Err, Vec, string_bytes}
use Rattle.std.specs.declared.alloc.Global.{Global}
use Rattle.std.proofs.lemmas.List.{length-map, map-append}
use Rattle.pipe_ends.specs.Store.{Files}
use Rattle.image_maker.specs.Plan.{Planned, PlannedPart, part_names}
use Rattle.image_maker.specs.declared.refusal.PlanNo.{PlanNo}
use Rattle.image_maker.specs.declared.refusal.PlanNo.TheVariants.{Bad, Memory as NoMemory}
use Rattle.image_maker.specs.PlanText.{IsPlanOrMemory}
use Rattle.image_maker.specs.Parts.{files_of}
use Rattle.flash_text.specs.declared.refusal.Refusal.{Refusal}
use Rattle.flash_cli.specs.declared.error.Failure.TheVariants.{Store, Memory}
use Rattle.flash_cli.specs.declared.error.CommandError.{CommandError}
use Rattle.flash_cli.specs.declared.error.CommandError.TheVariants.{Absent, Refused, Failed}
use Rattle.flash_cli.specs.Answer.{Answer}
use Rattle.flash_cli.specs.Reading.{Reading, Absence, ComesTo, TellsAnswer, asks_all}
use Rattle.flash_cli.specs.ImageMake.{plan_reading}
use Rattle.flash_cli.specs.Report.{AreNotRead, IsEnd, IsNotRead, IsPlanError}

-- a text that means no plan is refused before any part is read
pub refused_plan : (told : Option Files) (out : List ℕ) (meant : Result Planned PlanNo) (why : PlanNo)
    (error : CommandError) (before now : ℕ) → IsPlanOrMemory (Err why) meant → IsPlanError why error
    → IsEnd told 1 (plan_reading out meant) before now (Err error)
refused_plan told out meant (Bad line why) error before now is error_is = rw (error_is, ← is) refl
refused_plan told out meant NoMemory error before now is error_is = rw error_is tt

-- a plan's parts have as many names
pub as_many : (plan : Planned) → length (part_names plan) ≡ length plan.parts
as_many plan = length-map plan.parts (λ (part : PlannedPart). part.name)

-- what the files from a number on come to behind those before it, all of them do
abbrev pub ReadSoFar : Option Files → List (List ℕ) → ℕ → List (Vec ℕ Global) → Type 0
ReadSoFar told names i read = (next : List (List ℕ) → Reading (Result Answer Refusal))
    (result : Result (Result Answer Refusal) Absence)
    → ComesTo told (1 + i) (asks_all (drop i names) (files_of read) next) result
    → ComesTo told 1 (asks_all names [] next) result

-- the files from a number on begin with the one of that number
begin : (names : List (List ℕ)) (i : ℕ) (name : List ℕ) → i < length names → name ≡ get_or names i []
    → drop i names ≡ name ∷ drop (i + 1) names
begin names i name below is =
    let next : suc i ≡ i + 1 = omega arith in
    drop-cons names i [] below ∙ (λ j. sym is j ∷ drop (next j) names)

-- one more file was read
pub read_more : (told now_told : Option Files) (names : List (List ℕ)) (i : ℕ) (name : List ℕ)
    (read more : List (Vec ℕ Global)) (file : Vec ℕ Global) → i < length names → name ≡ get_or names i []
    → now_told ≡ told → TellsAnswer now_told name (Some file.items) → more ≡ read ++ file ∷ []
    → ReadSoFar told names i read → ReadSoFar told names (i + 1) more
read_more told now_told names i name read more file below named same tells is so_far next result comes =
    let number : 1 + (i + 1) ≡ suc (1 + i) = omega arith in
    let grown : files_of more ≡ files_of read ++ file.items ∷ [] =
    ap files_of is ∙ map-append (λ (f : Vec ℕ Global). f.items) read (file ∷ []) in
    let rest : ComesTo told (suc (1 + i)) (asks_all (drop (i + 1) names) (files_of read ++ file.items ∷ []) next) result =
    subst (λ (n : ℕ). ComesTo told n (asks_all (drop (i + 1) names) (files_of read ++ file.items ∷ []) next) result) number
    (subst (λ (all : List (List ℕ)). ComesTo told (1 + (i + 1)) (asks_all (drop (i + 1) names) all next) result) grown comes) in
    let here : TellsAnswer told name (Some file.items) =
    subst (λ (t : Option Files). TellsAnswer t name (Some file.items)) same tells in
    so_far next result
    (subst (λ (ns : List (List ℕ)). ComesTo told (1 + i) (asks_all ns (files_of read) next) result)
    (sym (begin names i name below named)) (Some file.items, (here, rest)))

-- the file of a number is absent, and so all of them come to this
none_there : (told : Option Files) (names : List (List ℕ)) (i : ℕ) (name absent : List ℕ) (number : ℕ)
    (read : List (Vec ℕ Global)) → i < length names → name ≡ get_or names i []
    → TellsAnswer told name None → number ≡ 1 + i → absent ≡ name
    → (next : List (List ℕ) → Reading (Result Answer Refusal))
    → ComesTo told (1 + i) (asks_all (drop i names) (files_of read) next) (Err (record { file = number; name = absent }))
none_there told names i name absent number read below named tells number_is absent_is next =
    subst (λ (ns : List (List ℕ)). ComesTo told (1 + i) (asks_all ns (files_of read) next) (Err (record { file = number; name = absent })))
    (sym (begin names i name below named))
    (None, (tells, λ j. Err (record { file = number_is j; name = absent_is j })))

-- the file of a number was not read
pub not_read : (told now_told : Option Files) (names : List (List ℕ)) (i : ℕ) (name : List ℕ)
    (read : List (Vec ℕ Global)) (start before now : ℕ) (error : CommandError)
    → i < length names → name ≡ get_or names i [] → now_told ≡ told → start ≤ before
    → ReadSoFar told names i read → IsNotRead now_told (1 + i) name before now error
    → AreNotRead told 1 names start now error
not_read told now_told names i name read start before now (Refused why) below named same later so_far not next = absurd not
not_read told now_told names i name read start before now (Absent file absent) below named same later so_far not next =
    let here : TellsAnswer told name None = subst (λ (t : Option Files). TellsAnswer t name None) same not.0 in
    so_far next _ (none_there told names i name (string_bytes absent) file read below named here not.1.0 not.1.1 next)
not_read told now_told names i name read start before now (Failed Store) below named same later so_far not next =
    omega (arith, not)
not_read told now_told names i name read start before now (Failed Memory) below named same later so_far not next = tt
