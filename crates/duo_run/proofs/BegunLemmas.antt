-- The steps that a share begins: all that its core was to make, or the first of them.
use Rattle.std.proofs.Common.{◌==◌, ◌≡◌, ◌<◌, ◌≤◌, ℕ, zero, suc, cond, List, [], ◌∷◌, ◌++◌, append-nil, Result, Ok, Err, inl, inr, refl, sym, ap, ◌∙◌, arith}
use Rattle.core_state.specs.declared.registers.Regs.{Regs}
use Rattle.nor_device.specs.declared.step.Step.{Step}
use Rattle.nor_device.specs.declared.nor.NorFault.{NorFault}
use Rattle.bus_hub.specs.declared.did.Did.{Did}
use Rattle.bus_hub.specs.declared.did.Did.TheVariants.{Opened, Closed, Broken, Fetched, Noted, Denied, Mapping, Unmapping, Missed, Masked, Unfetched}
use Rattle.bus_hub.specs.Log.{Item, of_core}
use Rattle.bus_hub.specs.Shares.{all_of}
use Rattle.flash_ops.specs.Moves.{Ask, Follows, Look, Make, Move, Ran as HasMoved, Stops, steps_of}
use Rattle.power_cut.specs.Counts.{opened_in}

-- the steps that an item begins
abbrev pub begun_by : Did → List Step
begun_by (Opened k regs step) = step ∷ []
begun_by (Closed k regs) = []
begun_by (Broken k regs why left) = []
begun_by (Fetched k regs at bytes) = []
begun_by (Noted k regs act) = []
begun_by (Denied why) = []
begun_by (Mapping flash_page n space answer) = []
begun_by (Unmapping at answer) = []
begun_by (Missed at len) = []
begun_by (Masked at len) = []
begun_by (Unfetched at len why) = []

-- those that a share begins, in order
abbrev pub begun_in : List Did → List Step
begun_in [] = []
begun_in (did ∷ share) = begun_by did ++ begun_in share

-- a first part of these steps was begun
abbrev pub BeginsFirst : List Step → List Did → Type 0
BeginsFirst steps share = (rest : List Step) × (steps ≡ begun_in share ++ rest)

-- what a core that was to make these steps leaves: it began all of them, or, where the device ended
-- it, the first of them
abbrev pub BeginsSteps : List Step → Result (Unit {0}) NorFault → List Did → Type 0
BeginsSteps steps (Ok u) share = begun_in share ≡ steps
BeginsSteps steps (Err why) share = BeginsFirst steps share

-- in every case it began the first ones
pub begins_first : (steps : List Step) (r : Result (Unit {0}) NorFault) (share : List Did)
    → BeginsSteps steps r share → BeginsFirst steps share
begins_first steps (Ok u) share begun = ([], sym begun ∙ sym (append-nil (begun_in share)))
begins_first steps (Err why) share begun = begun

-- ---- moves

-- moves that were all made begin all their steps
follows_begun : (k : ℕ) (regs : Regs) (ms : List Move) (items : List Did)
    → Follows k regs ms items → begun_in items ≡ steps_of ms
follows_begun k regs [] items f = ap begun_in f
follows_begun k regs (Make step ∷ ms) items f =
    ap begun_in f.1 ∙ ap (λ (l : List Step). step ∷ l) (follows_begun k regs ms f.0 f.2)
follows_begun k regs (Look at ∷ ms) items f = ap begun_in f.3 ∙ follows_begun k regs ms f.1 f.4
follows_begun k regs (Ask ∷ ms) items f = follows_begun k regs ms items f

-- items that are these begin the first of the steps where these do
first_by : (steps : List Step) (items same : List Did) → items ≡ same → BeginsFirst steps same
    → BeginsFirst steps items
first_by steps items same is first =
    (first.0, first.1 ∙ sym (ap (λ (l : List Did). begun_in l ++ first.0) is))

-- of moves that stopped, the first steps were begun
stops_begun : (k : ℕ) (regs : Regs) (why : NorFault) (ms : List Move) (items : List Did)
    → Stops k regs why ms items → BeginsFirst (steps_of ms) items
stops_begun k regs why [] items s = absurd s
stops_begun k regs why (Make step ∷ ms) items (inl is) =
    first_by _ items _ is (step ∷ steps_of ms, refl)
stops_begun k regs why (Make step ∷ ms) items (inr (inl (left, is))) =
    first_by _ items _ is (steps_of ms, refl)
stops_begun k regs why (Make step ∷ ms) items (inr (inr (rest, is, s))) =
    let later = stops_begun k regs why ms rest s in
    first_by _ items _ is (later.0, ap (λ (l : List Step). step ∷ l) later.1)
stops_begun k regs why (Look at ∷ ms) items (inl is) =
    first_by _ items _ is (steps_of ms, refl)
stops_begun k regs why (Look at ∷ ms) items (inr (bytes, rest, four, is, s)) =
    first_by _ items _ is (stops_begun k regs why ms rest s)
stops_begun k regs why (Ask ∷ ms) items (inl is) = first_by _ items _ is (steps_of ms, refl)
stops_begun k regs why (Ask ∷ ms) items (inr s) = stops_begun k regs why ms items s

-- the share of moves, whose steps these are
pub moved_begun : (k : ℕ) (regs : Regs) (ms : List Move) (steps : List Step)
    (r : Result (Unit {0}) NorFault) (share : List Did) → steps_of ms ≡ steps
    → HasMoved k regs ms r share → BeginsSteps steps r share
moved_begun k regs ms steps (Ok u) share is moved = follows_begun k regs ms share moved ∙ is
moved_begun k regs ms steps (Err why) share is moved =
    let first = stops_begun k regs why ms share moved in (first.0, sym is ∙ first.1)

-- ---- both shares

-- a share that begins no step
pub none_begun : (share : List Did) → opened_in share ≤ 0 → begun_in share ≡ []
none_begun [] none = refl
none_begun (Opened k regs step ∷ share) none = absurd (omega (arith, none))
none_begun (Closed k regs ∷ share) none = none_begun share (omega (arith, none))
none_begun (Broken k regs why left ∷ share) none = none_begun share (omega (arith, none))
none_begun (Fetched k regs at bytes ∷ share) none = none_begun share (omega (arith, none))
none_begun (Noted k regs act ∷ share) none = none_begun share (omega (arith, none))
none_begun (Denied why ∷ share) none = none_begun share (omega (arith, none))
none_begun (Mapping flash_page n space answer ∷ share) none =
    none_begun share (omega (arith, none))
none_begun (Unmapping at answer ∷ share) none = none_begun share (omega (arith, none))
none_begun (Missed at len ∷ share) none = none_begun share (omega (arith, none))
none_begun (Masked at len ∷ share) none = none_begun share (omega (arith, none))
none_begun (Unfetched at len why ∷ share) none = none_begun share (omega (arith, none))

-- the first of both lists is empty where the lists joined are
front_none : (front back : List Step) → front ++ back ≡ [] → front ≡ []
front_none [] back is = refl
front_none (step ∷ front) back is = absurd cc

back_none : (front back : List Step) → front ++ back ≡ [] → back ≡ []
back_none [] back is = is
back_none (step ∷ front) back is = absurd cc

-- each item is of core 0 or of core 1
abbrev pub AreOfTwo : List Item → Type 0
AreOfTwo [] = Unit {0}
AreOfTwo (x ∷ log) = (x.core < 2) × AreOfTwo log

-- where core 1 begins none, a log begins the steps of core 0
pub left_begins : (log : List Item) → AreOfTwo log → begun_in (of_core 1 log) ≡ []
    → begun_in (all_of log) ≡ begun_in (of_core 0 log)
left_begins [] two none = refl
left_begins (x ∷ log) two none = at (λ rest. left_begins log two.1 rest) x.core two.0 none
  where
    at : (begun_in (of_core 1 log) ≡ [] → begun_in (all_of log) ≡ begun_in (of_core 0 log))
        → (c : ℕ) → c < 2
        → begun_in (cond (c == 1) (x.did ∷ of_core 1 log) (of_core 1 log)) ≡ []
        → begun_by x.did ++ begun_in (all_of log)
        ≡ begun_in (cond (c == 0) (x.did ∷ of_core 0 log) (of_core 0 log))
    at later zero small rest =
        ap (λ (l : List Step). begun_by x.did ++ l) (later rest)
    at later (suc zero) small rest =
        ap (λ (l : List Step). l ++ begun_in (all_of log))
        (front_none (begun_by x.did) (begun_in (of_core 1 log)) rest)
        ∙ later (back_none (begun_by x.did) (begun_in (of_core 1 log)) rest)
    at later (suc (suc c)) small rest = absurd (omega (arith, small))

-- and the other way round
pub right_begins : (log : List Item) → AreOfTwo log → begun_in (of_core 0 log) ≡ []
    → begun_in (all_of log) ≡ begun_in (of_core 1 log)
right_begins [] two none = refl
right_begins (x ∷ log) two none = at (λ rest. right_begins log two.1 rest) x.core two.0 none
  where
    at : (begun_in (of_core 0 log) ≡ [] → begun_in (all_of log) ≡ begun_in (of_core 1 log))
        → (c : ℕ) → c < 2
        → begun_in (cond (c == 0) (x.did ∷ of_core 0 log) (of_core 0 log)) ≡ []
        → begun_by x.did ++ begun_in (all_of log)
        ≡ begun_in (cond (c == 1) (x.did ∷ of_core 1 log) (of_core 1 log))
    at later zero small rest =
        ap (λ (l : List Step). l ++ begun_in (all_of log))
        (front_none (begun_by x.did) (begun_in (of_core 0 log)) rest)
        ∙ later (back_none (begun_by x.did) (begun_in (of_core 0 log)) rest)
    at later (suc zero) small rest =
        ap (λ (l : List Step). begun_by x.did ++ l) (later rest)
    at later (suc (suc c)) small rest = absurd (omega (arith, small))
