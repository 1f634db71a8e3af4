-- What the command `image-make PLAN OUT` comes to.
use Rattle.std.specs.Prelude.{ℕ, List, [], ◌∷◌, length, Result, Ok, Err}
use Rattle.image_maker.specs.declared.refusal.MakeNo.{MakeNo}
use Rattle.image_maker.specs.declared.refusal.PlanNo.{PlanNo}
use Rattle.image_maker.specs.declared.refusal.PlanNo.TheVariants as no_plan
use Rattle.image_maker.specs.declared.refusal.PlanWhy.TheVariants as why
use Rattle.image_maker.specs.Plan.{Planned, part_names}
use Rattle.image_maker.specs.PlanText.{plan_of_text}
use Rattle.image_maker.specs.Image.{image_of}
use Rattle.flash_text.specs.declared.refusal.Refusal.{Refusal}
use Rattle.flash_text.specs.declared.refusal.Refusal.TheVariants.{Plan, Make}
use Rattle.flash_text.specs.ImageText.{length_line}
use Rattle.flash_cli.specs.Answer.{Answer}
use Rattle.flash_cli.specs.Reading.{Reading, Ended, asks_all}

-- the refusal of a plan. That memory ran out is none of a plan's, and what stands there plays no
-- part
abbrev pub plan_refusal : PlanNo → Refusal
plan_refusal (no_plan.Bad line reason) = Plan line reason
plan_refusal no_plan.Memory = Plan 0 why.Word

-- the answer of the command with an image: the file with it, and how long it is
abbrev pub answer_of_image : List ℕ → Result (List ℕ) MakeNo → Result Answer Refusal
answer_of_image out (Ok image) =
    Ok (record { text = length_line (length image); puts = (out, image) ∷ [] })
answer_of_image out (Err reason) = Err (Make reason)

-- what the command comes to with a plan: its parts are read in the plan's order, and make the image
abbrev pub planned_reading : List ℕ → Planned → Reading (Result Answer Refusal)
planned_reading out plan =
    asks_all (part_names plan) [] (λ parts. Ended (answer_of_image out (image_of plan parts)))

-- what the command comes to with a plan, or with the refusal of one before any part is read
abbrev pub plan_reading : List ℕ → Result Planned PlanNo → Reading (Result Answer Refusal)
plan_reading out (Ok plan) = planned_reading out plan
plan_reading out (Err reason) = Ended (Err (plan_refusal reason))

-- what the command comes to on the text of a plan
abbrev pub image_make_reading : List ℕ → List ℕ → Reading (Result Answer Refusal)
image_make_reading out text = plan_reading out (plan_of_text text)
