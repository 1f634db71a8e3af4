-- The frames of a stream of the serial protocol.
use Rattle.std.specs.Prelude.{ℕ, suc, ◌+◌, ◌==◌, ◌&&◌, nat_le, nat_lt, Bool, true, false, if◌then◌else◌, List, [], ◌∷◌, ◌++◌, length, drop, slice_index, Option, Some, None, is_some}
use Rattle.std.specs.List.{flat_map}
use Rattle.std.specs.Option.{option_map, option_to_list}
use Rattle.byteorder.specs.Endian.{little_number}
use Rattle.slip_loader.specs.declared.frame.Mode.{Mode}
use Rattle.slip_loader.specs.declared.frame.Mode.TheVariants as modes

-- the byte that ends a frame and begins the next
abbrev pub end_byte : ℕ
end_byte = 0xC0

-- the byte that begins an escape
abbrev pub escape_byte : ℕ
escape_byte = 0xDB

-- the byte that means C0 behind the escape
abbrev pub escaped_end : ℕ
escaped_end = 0xDC

-- the byte that means DB behind the escape
abbrev pub escaped_escape : ℕ
escaped_escape = 0xDD

-- the most bytes that a frame has, its escapes read
abbrev pub frame_limit : ℕ
frame_limit = 4120

-- the bytes in front of a request's data: direction, command, size (2), checksum (4)
abbrev pub head_length : ℕ
head_length = 8

-- whether a frame is a request: a head and its data, direction 0, and the size that of the data
unfoldable pub is_request : List ℕ → Bool
is_request frame =
    nat_le head_length (length frame) && nat_le (length frame) frame_limit
    && (slice_index frame 0 == 0)
    && (little_number 2 (drop 2 frame) + head_length == length frame)

-- ---- the frames by the parts between two ends

-- one more byte in front of the first part
abbrev pub onto_first : ℕ → List (List ℕ) → List (List ℕ)
onto_first byte [] = (byte ∷ []) ∷ []
onto_first byte (part ∷ parts) = (byte ∷ part) ∷ parts

-- a stream, split at each C0
abbrev pub parts_of : List ℕ → List (List ℕ)
parts_of [] = [] ∷ []
parts_of (byte ∷ bytes) =
    if byte == end_byte then [] ∷ parts_of bytes else onto_first byte (parts_of bytes)

-- all but the last
abbrev pub without_last : List (List ℕ) → List (List ℕ)
without_last [] = []
without_last (part ∷ []) = []
without_last (part ∷ (next ∷ parts)) = part ∷ without_last (next ∷ parts)

-- the parts that stand between two C0: neither the one before the first nor the one behind the last
abbrev pub parts_between : List ℕ → List (List ℕ)
parts_between stream = without_last (drop 1 (parts_of stream))

-- the bytes that a part means, its escapes read; none where DB stands in front of anything but DC and
-- DD. The truth value says that a DB stood in front.
abbrev pub decoded_by : List ℕ → Bool → Option (List ℕ)
decoded_by [] true = None
decoded_by [] false = Some []
decoded_by (byte ∷ bytes) true =
    if byte == escaped_end then option_map (λ rest. end_byte ∷ rest) (decoded_by bytes false)
    else (if byte == escaped_escape
    then option_map (λ rest. escape_byte ∷ rest) (decoded_by bytes false) else None)
decoded_by (byte ∷ bytes) false =
    if byte == escape_byte then decoded_by bytes true
    else option_map (λ rest. byte ∷ rest) (decoded_by bytes false)

-- a frame, where it is a request
abbrev pub asked_by : Option (List ℕ) → List (List ℕ)
asked_by None = []
asked_by (Some frame) = if is_request frame then frame ∷ [] else []

-- the requests of a stream, in order
unfoldable pub requests_of : List ℕ → List (List ℕ)
requests_of stream = flat_map (λ (part : List ℕ). asked_by (decoded_by part false)) (parts_between stream)

-- ---- the same, byte by byte

-- what stands behind the last C0: the mode, and the bytes of the frame so far, its escapes read
pub record Behind : Type 0 where
  pub mode : Mode
  pub bytes : List ℕ

-- there was no C0 yet
abbrev pub before : Behind
before = record { mode = modes.Before; bytes = [] }

-- these bytes
abbrev pub within : List ℕ → Behind
within bytes = record { mode = modes.Within; bytes = bytes }

-- these bytes, and behind them an open escape
abbrev pub escaping : List ℕ → Behind
escaping bytes = record { mode = modes.Escaping; bytes = bytes }

-- a frame that is dropped, whatever follows
abbrev pub dropped : Behind
dropped = record { mode = modes.Dropped; bytes = [] }

-- one byte more of a frame, which is dropped where it would get too long
abbrev pub with_byte : List ℕ → ℕ → Behind
with_byte bytes byte =
    if nat_lt (length bytes) frame_limit then within (bytes ++ byte ∷ []) else dropped

-- a byte behind an open escape
abbrev pub with_escaped : List ℕ → ℕ → Behind
with_escaped bytes byte =
    if byte == escaped_end then with_byte bytes end_byte
    else (if byte == escaped_escape then with_byte bytes escape_byte else dropped)

-- a byte other than C0
abbrev pub with_next : Mode → List ℕ → ℕ → Behind
with_next modes.Before bytes byte = before
with_next modes.Within bytes byte =
    if byte == escape_byte then escaping bytes else with_byte bytes byte
with_next modes.Escaping bytes byte = with_escaped bytes byte
with_next modes.Dropped bytes byte = dropped

-- what stands behind the last C0 after one more byte
unfoldable pub after_byte : Behind → ℕ → Behind
after_byte behind byte =
    if byte == end_byte then within [] else with_next behind.mode behind.bytes byte

-- the request that a C0 ends here, if there is one
abbrev pub ended_by : Mode → List ℕ → Option (List ℕ)
ended_by modes.Before bytes = None
ended_by modes.Within bytes = if is_request bytes then Some bytes else None
ended_by modes.Escaping bytes = None
ended_by modes.Dropped bytes = None

-- the request that one more byte ends, if it ends one
unfoldable pub request_at : Behind → ℕ → Option (List ℕ)
request_at behind byte = if byte == end_byte then ended_by behind.mode behind.bytes else None

-- what stands behind the last C0 after more bytes
unfoldable pub behind_after : Behind → List ℕ → Behind
behind_after behind [] = behind
behind_after behind (byte ∷ bytes) = behind_after (after_byte behind byte) bytes

-- the requests that more bytes end, in order
unfoldable pub requests_from : Behind → List ℕ → List (List ℕ)
requests_from behind [] = []
requests_from behind (byte ∷ bytes) =
    option_to_list (request_at behind byte) ++ requests_from (after_byte behind byte) bytes

-- how many bytes there are up to the first C0 that ends a request, else of all
unfoldable pub taken_from : Behind → List ℕ → ℕ
taken_from behind [] = 0
taken_from behind (byte ∷ bytes) =
    suc (if is_some (request_at behind byte) then 0
    else taken_from (after_byte behind byte) bytes)
