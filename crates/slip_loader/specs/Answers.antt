-- What a request is answered.
use Rattle.std.specs.Prelude.{ℕ, ◌+◌, ◌==◌, if◌then◌else◌, List, [], ◌∷◌, ◌++◌, length, Result, Ok, Err}
use Rattle.std.specs.List.{flat_map}
use Rattle.byteorder.specs.Endian.{little_bytes}
use Rattle.md5.specs.Md5.{md5}
use Rattle.nor_device.specs.Nor.{part_of}
use Rattle.slip_loader.specs.declared.plan.Plan.{Plan}
use Rattle.slip_loader.specs.declared.plan.Work.{Work}
use Rattle.slip_loader.specs.declared.plan.Work.TheVariants.{Nothing, Erase, Program, Digest}
use Rattle.slip_loader.specs.declared.plan.Refusal.{Refusal}
use Rattle.slip_loader.specs.declared.plan.Refusal.TheVariants.{Form, Bounds, Checksum, Encrypted, NotOpen, Order}

-- the error numbers of the protocol
abbrev pub number_of : Refusal → ℕ
number_of Form = 5
number_of Bounds = 6
number_of Checksum = 7
number_of Encrypted = 8
number_of NotOpen = 9
number_of Order = 10

-- a byte as it stands in a frame
abbrev pub escaped : ℕ → List ℕ
escaped byte =
    if byte == 0xC0 then 0xDB ∷ 0xDC ∷ []
    else (if byte == 0xDB then 0xDB ∷ 0xDD ∷ [] else byte ∷ [])

-- bytes as a frame
abbrev pub framed : List ℕ → List ℕ
framed bytes = 0xC0 ∷ (flat_map escaped bytes ++ 0xC0 ∷ [])

-- an answer before it is a frame: direction 1, command, size, four zeros, a digest where one is given,
-- status and error
abbrev pub answer_text : ℕ → List ℕ → ℕ → ℕ → List ℕ
answer_text command digest status error =
    (0x01 ∷ command ∷ [])
    ++ (little_bytes 2 (length digest + 2)
    ++ ((0 ∷ 0 ∷ 0 ∷ 0 ∷ []) ++ (digest ++ (status ∷ error ∷ []))))

-- the digest of a work, if it asks for one
abbrev pub work_digest : List ℕ → Work → List ℕ
work_digest flash Nothing = []
work_digest flash (Erase at len) = []
work_digest flash (Program at) = []
work_digest flash (Digest at len) = md5 (part_of flash at len)

-- the answer to a request with this command, by its plan in this flash
abbrev pub plan_answer : List ℕ → Result Plan Refusal → ℕ → List ℕ
plan_answer flash (Ok plan) command = framed (answer_text command (work_digest flash plan.work) 0 0)
plan_answer flash (Err why) command = framed (answer_text command [] 1 (number_of why))
