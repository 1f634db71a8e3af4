-- What the commands put, other commands accept.
use Rattle.std.proofs.Common.{◌≡◌, ℕ, suc, List, [], ◌∷◌, ◌++◌, length, cond, Option, Some, None, Result, Ok, Err, refl, sym, ap, ◌∙◌}
use Rattle.std.specs.Prelude.{◌↔◌}
use Rattle.std.specs.Cmp.{eq_by_cmp_equiv}
use Rattle.std.specs.Cmp.Lexicographic.{nat_list_cmp_total}
use Rattle.std.specs.FinMap.{get, insert, get-insert}
use Rattle.pipe_ends.specs.Store.{Files}
use Rattle.image_layout.specs.Whole.{Whole}
use Rattle.image_maker.specs.declared.refusal.MakeNo.{MakeNo}
use Rattle.image_maker.specs.declared.refusal.PlanNo.{PlanNo}
use Rattle.image_maker.specs.Plan.{Planned, part_names}
use Rattle.image_maker.specs.PlanText.{plan_of_text}
use Rattle.image_maker.specs.Image.{IsMade, image_of}
use Rattle.image_verify.specs.Bad.{bad}
use Rattle.flash_text.specs.declared.refusal.Refusal.{Refusal}
use Rattle.flash_text.specs.ImageText.{length_line}
use Rattle.flash_cli.specs.declared.status.Status.TheVariants.{Done}
use Rattle.flash_cli.specs.Command.{ImageMake, ImageCheck}
use Rattle.flash_cli.specs.Answer.{Answer, files_after}
use Rattle.flash_cli.specs.Reading.{Reading, Absence, asks_all, by_answer, read_in}
use Rattle.flash_cli.specs.ImageMake.{answer_of_image, plan_reading}
use Rattle.flash_cli.specs.Report.{outcome_in, outcome_of, reading_of}
use Rattle.flash_cli.specs.Laws.{MadeIsWhole}

-- a file that was put is there
get_put : (files : Files) (name bytes : List ℕ) → get (insert files name bytes) name ≡ Some bytes
get_put files name bytes =
    get-insert nat_list_cmp_total files name bytes name
    ∙ ap (λ b. cond b (Some bytes) (get files name)) ((eq_by_cmp_equiv nat_list_cmp_total).refl name)

-- files by which a reading came to a value
record CameBy {A : Type 0} (files : Files) (next : List (List ℕ) → Reading A) (value : A) : Type 0 where
  read : List (List ℕ)
  number : ℕ
  comes : read_in files number (next read) ≡ Ok value

-- a reading that asks for files of some names came to its value by some files
came_by : {A : Type 0} (files : Files) (names read : List (List ℕ)) (number : ℕ)
    (next : List (List ℕ) → Reading A) (value : A)
    → read_in files number (asks_all names read next) ≡ Ok value → CameBy files next value
came_by files [] read number next value is = record { read = read; number = number; comes = is }
came_by files (name ∷ names) read number next value is =
    by (get files name) is (λ bytes e. came_by files names (read ++ bytes ∷ []) (suc number) next value e)
  where
    by : (answer : Option (List ℕ))
        → by_answer (Err (record { file = number; name = name }))
        (λ bytes. read_in files (suc number) (asks_all names (read ++ bytes ∷ []) next)) answer ≡ Ok value
        → ((bytes : List ℕ) → read_in files (suc number) (asks_all names (read ++ bytes ∷ []) next) ≡ Ok value
        → CameBy files next value)
        → CameBy files next value
    by None is more = absurd (cc)
    by (Some bytes) is more = more bytes is

-- a reading came to this value
abbrev IsAnswered : Result (Result Answer Refusal) Absence → Result Answer Refusal → Type 0
IsAnswered result value = result ≡ Ok value

-- which is the one that it ended with
unwrapped : (x y : Result Answer Refusal) → IsAnswered (Ok x) y → x ≡ y
unwrapped x y is = cc

-- an answer puts one file, a whole image of at most 16 MiB
record PutsWhole (out : List ℕ) (answer : Answer) : Type 0 where
  image : List ℕ
  puts : answer.puts ≡ (out, image) ∷ []
  none : bad 16777216 image ≡ None

-- From what the makers and the verifier of images promise.
module _ (no_fault : (limit : ℕ) (bytes : List ℕ) → (bad limit bytes ≡ None ↔ Whole bytes limit))
    (made : (text : List ℕ) (plan : Planned) (files : List (List ℕ)) (image : List ℕ)
    → plan_of_text text ≡ Ok plan → image_of plan files ≡ Ok image → IsMade plan files image) where
  -- what the plan of a text makes of its files is put whole
  puts_whole : (text out : List ℕ) (plan : Planned) (parts : List (List ℕ)) (answer : Answer)
      (result : Result (List ℕ) MakeNo) → plan_of_text text ≡ Ok plan → image_of plan parts ≡ result
      → answer_of_image out result ≡ Ok answer → PutsWhole out answer
  puts_whole text out plan parts answer (Err why) meant is told = absurd (cc)
  puts_whole text out plan parts answer (Ok image) meant is told =
      let same : record { text = length_line (length image); puts = (out, image) ∷ [] } ≡ answer = cc in
      record {
        image = image;
        puts = sym (ap (λ (a : Answer). a.puts) same);
        none = (no_fault 16777216 image).1 (made text plan parts image meant is).whole;
      }

  -- what a plan's text comes to, if it is an answer, puts a whole image
  text_puts : (files : Files) (text out : List ℕ) (meant : Result Planned PlanNo) (answer : Answer)
      → plan_of_text text ≡ meant → read_in files 1 (plan_reading out meant) ≡ Ok (Ok answer)
      → PutsWhole out answer
  text_puts files text out (Err why) answer meant_is is = absurd (cc)
  text_puts files text out (Ok plan) answer meant_is is =
      let came = came_by files (part_names plan) [] 1 _ (Ok answer) is in
      let told : answer_of_image out (image_of plan came.read) ≡ Ok answer = unwrapped _ _ came.comes in
      puts_whole text out plan came.read answer (image_of plan came.read) meant_is refl told

  -- what a plan's file comes to, if it is an answer, puts a whole image
  file_puts : (files : Files) (plan out : List ℕ) (answer : Answer)
      → read_in files 0 (reading_of (ImageMake plan out)) ≡ Ok (Ok answer) → PutsWhole out answer
  file_puts files plan out answer is = by (get files plan) is
    where
      by : (file : Option (List ℕ))
          → by_answer (Err (record { file = 0; name = plan }))
          (λ text. read_in files 1 (plan_reading out (plan_of_text text))) file ≡ Ok (Ok answer)
          → PutsWhole out answer
      by None is = absurd (cc)
      by (Some text) is = text_puts files text out (plan_of_text text) answer refl is

  -- the file that was put is found whole
  found_whole : (files : Files) (out : List ℕ) (result : Result (Result Answer Refusal) Absence)
      → ((answer : Answer) → result ≡ Ok (Ok answer) → PutsWhole out answer)
      → (outcome_of result).status ≡ Done
      → (outcome_in (files_after files (outcome_of result).answer.puts) (Some (ImageCheck out))).status ≡ Done
  found_whole files out (Ok (Err why)) puts done = absurd (cc)
  found_whole files out (Err absence) puts done = absurd (cc)
  found_whole files out (Ok (Ok answer)) puts done =
      let whole = puts answer refl in
      rw (whole.puts, get_put files out whole.image, whole.none) refl

  pub made_whole : MadeIsWhole
  made_whole files plan out done =
      found_whole files out (read_in files 0 (reading_of (ImageMake plan out))) (file_puts files plan out) done
