-- A stream in two pieces, and in any pieces.
use Rattle.std.specs.Prelude.{◌≡◌, ℕ, List, [], ◌∷◌, ◌++◌, Option}
use Rattle.std.specs.List.{concat}
use Rattle.std.specs.Option.{option_to_list}
use Rattle.std.proofs.Common.{refl, sym, ap, ◌∙◌, append_assoc}
use Rattle.nor_device.specs.declared.step.Step.{Step}
use Rattle.nor_device.specs.Flash.{after_steps}
use Rattle.nor_device.proofs.FlashLaws.{after_steps_append}
use Rattle.partition_table.specs.declared.row.Row.{Row}
use Rattle.slip_loader.specs.declared.plan.Begun.{Begun}
use Rattle.slip_loader.specs.Frames.{Behind, after_byte, behind_after, request_at, requests_from}
use Rattle.slip_loader.specs.Plans.{begun_by, command_of, plan_of, plan_steps}
use Rattle.slip_loader.specs.Answers.{plan_answer}
use Rattle.slip_loader.specs.Loads.{State, begun_after, load_answers, load_steps, pieces_answers, pieces_state, pieces_steps, request_answers, request_steps, state_after}

-- ---- frames

pub requests_append : (behind : Behind) (first second : List ℕ)
    → requests_from behind (first ++ second)
    ≡ requests_from behind first ++ requests_from (behind_after behind first) second
unfolding requests_from behind_after
requests_append behind [] second = refl
requests_append behind (byte ∷ bytes) second =
    ap (λ (rest : List (List ℕ)). option_to_list (request_at behind byte) ++ rest)
    (requests_append (after_byte behind byte) bytes second)
    ∙ sym (append_assoc (option_to_list (request_at behind byte))
    (requests_from (after_byte behind byte) bytes)
    (requests_from (behind_after (after_byte behind byte) bytes) second))

pub behind_append : (behind : Behind) (first second : List ℕ)
    → behind_after behind (first ++ second) ≡ behind_after (behind_after behind first) second
unfolding behind_after
behind_append behind [] second = refl
behind_append behind (byte ∷ bytes) second = behind_append (after_byte behind byte) bytes second

-- ---- requests

begun_append : (size : ℕ) (table : Option (List Row)) (begun : Option Begun)
    (first second : List (List ℕ))
    → begun_after size table begun (first ++ second)
    ≡ begun_after size table (begun_after size table begun first) second
unfolding begun_after
begun_append size table begun [] second = refl
begun_append size table begun (frame ∷ frames) second =
    begun_append size table (begun_by (plan_of size table begun frame) begun) frames second

steps_append : (size : ℕ) (table : Option (List Row)) (begun : Option Begun)
    (first second : List (List ℕ))
    → request_steps size table begun (first ++ second)
    ≡ request_steps size table begun first
    ++ request_steps size table (begun_after size table begun first) second
unfolding begun_after request_steps
steps_append size table begun [] second = refl
steps_append size table begun (frame ∷ frames) second =
    let now = plan_steps (plan_of size table begun frame) frame in
    let next = begun_by (plan_of size table begun frame) begun in
    ap (λ (rest : List Step). now ++ rest) (steps_append size table next frames second)
    ∙ sym (append_assoc now (request_steps size table next frames)
    (request_steps size table (begun_after size table next frames) second))

answers_append : (size : ℕ) (table : Option (List Row)) (begun : Option Begun) (flash : List ℕ)
    (first second : List (List ℕ))
    → request_answers size table begun flash (first ++ second)
    ≡ request_answers size table begun flash first
    ++ request_answers size table (begun_after size table begun first)
    (after_steps flash (request_steps size table begun first)) second
unfolding begun_after request_steps request_answers
answers_append size table begun flash [] second = refl
answers_append size table begun flash (frame ∷ frames) second =
    let plan = plan_of size table begun frame in
    let now = plan_steps plan frame in
    let next = begun_by plan begun in
    let rest = request_steps size table next frames in
    ap (λ (others : List (List ℕ)). plan_answer flash plan (command_of frame) ∷ others)
    (answers_append size table next (after_steps flash now) frames second
    ∙ ap (λ (left : List ℕ). request_answers size table next (after_steps flash now) frames
    ++ request_answers size table (begun_after size table next frames) left second)
    (sym (after_steps_append flash now rest)))

-- ---- a stream in two pieces

pub state_append : (state : State) (first second : List ℕ)
    → state_after state (first ++ second) ≡ state_after (state_after state first) second
unfolding state_after
state_append state first second =
    let begun : begun_after state.size state.table state.begun
    (requests_from state.behind (first ++ second))
    ≡ begun_after state.size state.table
    (begun_after state.size state.table state.begun (requests_from state.behind first))
    (requests_from (behind_after state.behind first) second) =
    ap (begun_after state.size state.table state.begun)
    (requests_append state.behind first second)
    ∙ begun_append state.size state.table state.begun (requests_from state.behind first)
    (requests_from (behind_after state.behind first) second) in
    let behind = behind_append state.behind first second in
    λ i. record state { begun = begun i; behind = behind i }

pub load_steps_append : (state : State) (first second : List ℕ)
    → load_steps state (first ++ second)
    ≡ load_steps state first ++ load_steps (state_after state first) second
unfolding load_steps state_after
load_steps_append state first second =
    ap (request_steps state.size state.table state.begun)
    (requests_append state.behind first second)
    ∙ steps_append state.size state.table state.begun (requests_from state.behind first)
    (requests_from (behind_after state.behind first) second)

pub load_answers_append : (state : State) (flash first second : List ℕ)
    → load_answers state flash (first ++ second)
    ≡ load_answers state flash first
    ++ load_answers (state_after state first) (after_steps flash (load_steps state first)) second
unfolding load_answers load_steps state_after
load_answers_append state flash first second =
    ap (request_answers state.size state.table state.begun flash)
    (requests_append state.behind first second)
    ∙ answers_append state.size state.table state.begun flash (requests_from state.behind first)
    (requests_from (behind_after state.behind first) second)

-- ---- a stream in any pieces

state_of_none : (state : State) → state_after state [] ≡ state
unfolding state_after begun_after behind_after requests_from
state_of_none state = refl

steps_of_none : (state : State) → load_steps state [] ≡ []
unfolding load_steps request_steps requests_from
steps_of_none state = refl

answers_of_none : (state : State) (flash : List ℕ) → load_answers state flash [] ≡ []
unfolding load_answers request_answers requests_from
answers_of_none state flash = refl

pub state_of_pieces : (state : State) (pieces : List (List ℕ))
    → pieces_state state pieces ≡ state_after state (concat pieces)
unfolding pieces_state
state_of_pieces state [] = sym (state_of_none state)
state_of_pieces state (piece ∷ pieces) =
    state_of_pieces (state_after state piece) pieces ∙ sym (state_append state piece (concat pieces))

pub steps_of_pieces : (state : State) (pieces : List (List ℕ))
    → pieces_steps state pieces ≡ load_steps state (concat pieces)
unfolding pieces_steps
steps_of_pieces state [] = sym (steps_of_none state)
steps_of_pieces state (piece ∷ pieces) =
    ap (λ (rest : List Step). load_steps state piece ++ rest)
    (steps_of_pieces (state_after state piece) pieces)
    ∙ sym (load_steps_append state piece (concat pieces))

pub answers_of_pieces : (state : State) (flash : List ℕ) (pieces : List (List ℕ))
    → pieces_answers state flash pieces ≡ load_answers state flash (concat pieces)
unfolding pieces_answers
answers_of_pieces state flash [] = sym (answers_of_none state flash)
answers_of_pieces state flash (piece ∷ pieces) =
    ap (λ (rest : List (List ℕ)). load_answers state flash piece ++ rest)
    (answers_of_pieces (state_after state piece)
    (after_steps flash (load_steps state piece)) pieces)
    ∙ sym (load_answers_append state flash piece (concat pieces))
