-- What bytes make that end no request, or one.
use Rattle.std.specs.Prelude.{◌≡◌, ◌≤◌, ℕ, List, [], ◌∷◌, length, Option, Some, None, IfSome, Bool, true, false, not}
use Rattle.std.proofs.Common.{refl, sym, ap, ◌∙◌, arith}
use Rattle.std.proofs.lemmas.Bool.Decides.{nat_tests}
use Rattle.std.proofs.lemmas.List.{append-nil}
use Rattle.partition_table.specs.declared.row.Row.{Row}
use Rattle.slip_loader.specs.declared.plan.Begun.{Begun}
use Rattle.slip_loader.specs.Frames.{Behind, behind_after, is_request, requests_from, within}
use Rattle.slip_loader.specs.Plans.{begun_by, command_of, plan_of, plan_steps}
use Rattle.slip_loader.specs.Answers.{plan_answer}
use Rattle.slip_loader.specs.Loads.{State, begun_after, load_answers, load_steps, request_answers, request_steps, state_after}

-- what holds of every flash holds of the one that is told
pub of_told : (told : Option (List ℕ)) (P : List ℕ → Type 0) → ((flash : List ℕ) → P flash)
    → IfSome told P
of_told None P all = tt
of_told (Some flash) P all = all flash

pub told_weaker : (told : Option (List ℕ)) (P Q : List ℕ → Type 0)
    → ((flash : List ℕ) → P flash → Q flash) → IfSome told P → IfSome told Q
told_weaker None P Q weaker holds = tt
told_weaker (Some flash) P Q weaker holds = weaker flash holds

-- a test that is turned round
pub is_false : (b : Bool) → not b ≡ true → b ≡ false
is_false true is = cc
is_false false is = refl

pub is_true : (b : Bool) → not b ≡ false → b ≡ true
is_true true is = refl
is_true false is = cc

-- a request has a head
pub request_long : (frame : List ℕ) → is_request frame ≡ true → 8 ≤ length frame
unfolding is_request
request_long frame is = grind (arith, nat_tests)

-- what a loader holds of these
abbrev pub state_of : ℕ → Option (List Row) → Option Begun → Behind → State
state_of size table begun behind = record {
  size = size;
  table = table;
  begun = begun;
  behind = behind;
}

-- ---- no request

pub state_none : (size : ℕ) (table : Option (List Row)) (begun : Option Begun)
    (behind next : Behind) (bytes : List ℕ) → requests_from behind bytes ≡ []
    → next ≡ behind_after behind bytes
    → state_of size table begun next ≡ state_after (state_of size table begun behind) bytes
unfolding state_after begun_after
state_none size table begun behind next bytes none is =
    let opened : begun ≡ begun_after size table begun (requests_from behind bytes) =
    sym (ap (begun_after size table begun) none) in
    λ i. record { size = size; table = table; begun = opened i; behind = is i }

pub steps_none : (size : ℕ) (table : Option (List Row)) (begun : Option Begun)
    (behind : Behind) (bytes : List ℕ) → requests_from behind bytes ≡ []
    → load_steps (state_of size table begun behind) bytes ≡ []
unfolding load_steps request_steps
steps_none size table begun behind bytes none = ap (request_steps size table begun) none

pub answers_none : (size : ℕ) (table : Option (List Row)) (begun : Option Begun)
    (behind : Behind) (flash bytes : List ℕ) → requests_from behind bytes ≡ []
    → load_answers (state_of size table begun behind) flash bytes ≡ []
unfolding load_answers request_answers
answers_none size table begun behind flash bytes none =
    ap (request_answers size table begun flash) none

-- ---- one

pub state_one : (size : ℕ) (table : Option (List Row)) (begun after : Option Begun)
    (behind next : Behind) (bytes frame : List ℕ) → requests_from behind bytes ≡ frame ∷ []
    → after ≡ begun_by (plan_of size table begun frame) begun
    → next ≡ within [] → behind_after behind bytes ≡ within []
    → state_of size table after next ≡ state_after (state_of size table begun behind) bytes
unfolding state_after begun_after
state_one size table begun after behind next bytes frame one opens restarts ends =
    let opened : after ≡ begun_after size table begun (requests_from behind bytes) =
    opens ∙ sym (ap (begun_after size table begun) one) in
    let stands : next ≡ behind_after behind bytes = restarts ∙ sym ends in
    λ i. record { size = size; table = table; begun = opened i; behind = stands i }

pub steps_one : (size : ℕ) (table : Option (List Row)) (begun : Option Begun)
    (behind : Behind) (bytes frame : List ℕ) → requests_from behind bytes ≡ frame ∷ []
    → load_steps (state_of size table begun behind) bytes
    ≡ plan_steps (plan_of size table begun frame) frame
unfolding load_steps request_steps
steps_one size table begun behind bytes frame one =
    ap (request_steps size table begun) one
    ∙ append-nil (plan_steps (plan_of size table begun frame) frame)

pub answers_one : (size : ℕ) (table : Option (List Row)) (begun : Option Begun)
    (behind : Behind) (flash bytes frame : List ℕ) → requests_from behind bytes ≡ frame ∷ []
    → load_answers (state_of size table begun behind) flash bytes
    ≡ plan_answer flash (plan_of size table begun frame) (command_of frame) ∷ []
unfolding load_answers request_answers
answers_one size table begun behind flash bytes frame one =
    ap (request_answers size table begun flash) one
