-- What a loss of power leaves of a key store.
use Rattle.std.specs.Prelude.{◌≡◌, ◌≤◌, ◌<◌, ◌⊎◌, ℕ, ◌*◌, List, [], ◌∷◌, ◌++◌, length, Option, Some}
use Rattle.byteorder.specs.Endian.{little_number}
use Rattle.nor_device.specs.declared.step.Step.{Step}
use Rattle.nor_device.specs.declared.step.Step.TheVariants.{Erase, Program, Block}
use Rattle.nor_device.specs.Flash.{after_steps}
use Rattle.nor_device.specs.Torn.{Torn}
use Rattle.nvs_keys.specs.declared.bank.Bank.{Bank}
use Rattle.nvs_keys.specs.Changes.{Change, IsChange, Map, map_after}
use Rattle.nvs_keys.specs.declared.place.Place.{Place}
use Rattle.nvs_keys.specs.Banks.{IsPlace, active_in, bank_at, keys_in, live_in, mark_in, records, used_in}
use Rattle.nvs_keys.specs.Steps.{change_steps}

-- a header at this address matches, and with a generation that is not known
pub record IsChance (p : Place) (left : List ℕ) (at : ℕ) (Known : Bank → ℕ → Type 0) : Type 0 where
  pub bank : Bank
  pub here : at ≡ bank_at p bank
  pub generation : ℕ
  pub matches : mark_in p left bank ≡ Some generation
  pub unknown : ¬ Known bank generation

-- an interrupted step has left a header that matches by chance: by an erase, with a generation that the
-- header did not have as the call began; by a program, with another generation than was programmed
abbrev pub KeyChance : Place → List ℕ → Step → List ℕ → Type 0
KeyChance p first (Erase sector) left =
    IsChance p left (sector * 4096) (λ bank generation. mark_in p first bank ≡ Some generation)
KeyChance p first (Program at page) left =
    IsChance p left at (λ bank generation. generation ≡ little_number 4 page)
KeyChance p first (Block block) left = ⊥

-- one of the steps of a call was interrupted, and has left a header that matches by chance
pub record ChanceIn (p : Place) (first : List ℕ) (steps : List Step) (left : List ℕ) : Type 0 where
  pub made : List Step
  pub step : Step
  pub rest : List Step
  pub split : steps ≡ made ++ step ∷ rest
  pub torn : Torn (after_steps first made) step left
  pub chance : KeyChance p first step left

-- the keys that are left are those before a call or those behind it, unless a header matches by chance
abbrev pub IsBeforeOrAfter : Place → List ℕ → List Step → Option Map → List ℕ → Type 0
IsBeforeOrAfter p first steps behind left =
    (keys_in p left ≡ keys_in p first) ⊎ ((keys_in p left ≡ behind) ⊎ ChanceIn p first steps left)

-- a bank is active, with this generation
pub record Knows (p : Place) (flash : List ℕ) (bank : Bank) (generation : ℕ) : Type 0 where
  pub place : IsPlace p (length flash)
  pub active : active_in p flash ≡ Some bank
  pub mark : mark_in p flash bank ≡ Some generation

-- no slot of a bank is free
abbrev pub IsUsedUp : Place → List ℕ → Bank → Type 0
IsUsedUp p flash bank = records p ≤ used_in p flash bank

-- no slot of a bank is free, and each holds a value of the map
pub record IsFull (p : Place) (flash : List ℕ) (bank : Bank) : Type 0 where
  pub used_up : IsUsedUp p flash bank
  pub live : records p ≤ live_in p flash bank

-- a change may be made: the bank is not full, and where no slot is free there is a next generation
pub record HasRoom (p : Place) (flash : List ℕ) (bank : Bank) (generation : ℕ) : Type 0 where
  pub room : ¬ IsFull p flash bank
  pub next : IsUsedUp p flash bank → generation < 0xFFFFFFFE

-- these are the steps of a change that is accepted
pub record IsAccepted (p : Place) (flash : List ℕ) (c : Change) (steps : List Step) : Type 0 where
  pub bank : Bank
  pub generation : ℕ
  pub knows : Knows p flash bank generation
  pub change : IsChange c
  pub room : HasRoom p flash bank generation
  pub steps_are : steps ≡ change_steps p flash bank generation c

-- these are the steps of changes that are accepted, one after the other, each by the flash that those
-- before it leave
abbrev pub AreAccepted : Place → List ℕ → List Change → List (List Step) → Type 0
AreAccepted p flash [] [] = Unit {0}
AreAccepted p flash [] (steps ∷ later) = ⊥
AreAccepted p flash (c ∷ cs) [] = ⊥
AreAccepted p flash (c ∷ cs) (steps ∷ later) =
    IsAccepted p flash c steps × AreAccepted p (after_steps flash steps) cs later

-- a loss of power left the keys after so many of the changes: those that were acknowledged, and perhaps
-- the one under way
pub record IsAfterSome (p : Place) (m : Map) (cs : List Change) (left : List ℕ) : Type 0 where
  pub done : List Change
  pub rest : List Change
  pub split : cs ≡ done ++ rest
  pub keys : keys_in p left ≡ Some (map_after m done)

-- one of several calls was interrupted, and has left a header that matches by chance
abbrev pub ChanceAt : Place → List ℕ → List (List Step) → List ℕ → Type 0
ChanceAt p flash [] left = ⊥
ChanceAt p flash (steps ∷ later) left =
    ChanceIn p flash steps left ⊎ ChanceAt p (after_steps flash steps) later left
