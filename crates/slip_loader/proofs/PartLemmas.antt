-- Read byte by byte, the requests of a stream are those of the parts between two C0.
use Rattle.std.specs.Prelude.{◌≡◌, ◌≤◌, ◌<◌, ℕ, ◌==◌, nat_lt, if◌then◌else◌, Bool, true, false, List, [], ◌∷◌, ◌++◌, length, drop, Option, Some, None}
use Rattle.std.specs.List.{flat_map}
use Rattle.std.specs.Option.{option_map, option_to_list}
use Rattle.std.proofs.Common.{refl, sym, ap, subst, ◌∙◌, append_assoc, arith, length-append}
use Rattle.std.proofs.lemmas.Bool.Decides.{nat_tests}
use Rattle.std.proofs.lemmas.List.{append-nil}
use Rattle.slip_loader.specs.declared.frame.Mode.TheVariants as modes
use Rattle.slip_loader.specs.Frames.{Behind, after_byte, asked_by, before, decoded_by, dropped, ended_by, end_byte, escape_byte, escaped_end, escaped_escape, escaping, frame_limit, is_request, onto_first, parts_between, parts_of, request_at, requests_from, requests_of, with_byte, with_next, within, without_last}

-- what stands behind the last C0 after bytes none of which is one
part_after : Behind → List ℕ → Behind
part_after behind [] = behind
part_after behind (byte ∷ bytes) = part_after (with_next behind.mode behind.bytes byte) bytes

-- the request that a part ends, read from there on
gives : Behind → List ℕ → List (List ℕ)
unfolding part_after
gives behind part =
    option_to_list (ended_by (part_after behind part).mode (part_after behind part).bytes)

-- the requests of parts, of which the first is read from there on
of_parts : Behind → List (List ℕ) → List (List ℕ)
of_parts behind [] = []
of_parts behind (part ∷ []) = []
of_parts behind (part ∷ (next ∷ parts)) =
    gives behind part ++ flat_map (gives (within [])) (without_last (next ∷ parts))

-- ---- a stream and its parts

-- there is always a part
some_part : (bytes : List ℕ)
    → (part : List ℕ) × (parts : List (List ℕ)) × (parts_of bytes ≡ part ∷ parts)
some_part [] = ([], [], refl)
some_part (byte ∷ bytes) = by (byte == end_byte) refl (some_part bytes)
  where
    by : (t : Bool) → (byte == end_byte) ≡ t
        → (part : List ℕ) × (parts : List (List ℕ)) × (parts_of bytes ≡ part ∷ parts)
        → (part : List ℕ) × (parts : List (List ℕ)) × (parts_of (byte ∷ bytes) ≡ part ∷ parts)
    by true is rest = ([], parts_of bytes, rw is refl)
    by false is rest = (
      byte ∷ rest.0,
      rest.1,
      rw is (ap (onto_first byte) rest.2),
    )

-- the first part from an end on is read as the others are
first_alike : (parts : List (List ℕ))
    → of_parts (within []) parts ≡ flat_map (gives (within [])) (without_last parts)
unfolding of_parts
first_alike [] = refl
first_alike (part ∷ []) = refl
first_alike (part ∷ (next ∷ parts)) = refl

-- an end in front
end_first : (behind : Behind) (parts : List (List ℕ)) (part : List ℕ) (others : List (List ℕ))
    → parts ≡ part ∷ others
    → of_parts behind ([] ∷ parts)
    ≡ option_to_list (ended_by behind.mode behind.bytes) ++ of_parts (within []) parts
unfolding of_parts gives part_after
end_first behind parts part others is =
    subst (λ (ps : List (List ℕ)). of_parts behind ([] ∷ ps)
    ≡ option_to_list (ended_by behind.mode behind.bytes) ++ of_parts (within []) ps) (sym is)
    (ap (λ (rest : List (List ℕ)). option_to_list (ended_by behind.mode behind.bytes) ++ rest)
    (sym (first_alike (part ∷ others))))

-- another byte in front
byte_first : (behind : Behind) (byte : ℕ) (parts : List (List ℕ))
    → of_parts behind (onto_first byte parts)
    ≡ of_parts (with_next behind.mode behind.bytes byte) parts
unfolding of_parts gives part_after
byte_first behind byte [] = refl
byte_first behind byte (part ∷ []) = refl
byte_first behind byte (part ∷ (next ∷ parts)) = refl

-- byte by byte, and by parts
from_parts : (behind : Behind) (bytes : List ℕ)
    → requests_from behind bytes ≡ of_parts behind (parts_of bytes)
unfolding of_parts requests_from request_at after_byte
from_parts behind [] = refl
from_parts behind (byte ∷ bytes) =
    by (byte == end_byte) refl (from_parts (within []) bytes)
    (from_parts (with_next behind.mode behind.bytes byte) bytes)
  where
    by : (t : Bool) → (byte == end_byte) ≡ t
        → requests_from (within []) bytes ≡ of_parts (within []) (parts_of bytes)
        → requests_from (with_next behind.mode behind.bytes byte) bytes
        ≡ of_parts (with_next behind.mode behind.bytes byte) (parts_of bytes)
        → requests_from behind (byte ∷ bytes) ≡ of_parts behind (parts_of (byte ∷ bytes))
    by true is ended other =
        let some = some_part bytes in
        rw is (ap (λ (rest : List (List ℕ)). option_to_list (ended_by behind.mode behind.bytes) ++ rest) ended
        ∙ sym (end_first behind (parts_of bytes) some.0 some.1 some.2))
    by false is ended other =
        rw is (other ∙ sym (byte_first behind byte (parts_of bytes)))

-- ---- one part

-- a frame that is too long is no request
too_long : (frame : List ℕ) → 4120 < length frame → is_request frame ≡ false
unfolding is_request
too_long frame long = grind (arith, nat_tests)

-- nothing comes of a dropped frame
gives_none : (part : List ℕ) → gives dropped part ≡ []
unfolding gives part_after
gives_none [] = refl
gives_none (byte ∷ part) = gives_none part

-- nor of bytes before the first C0
gives_before : (part : List ℕ) → gives before part ≡ []
unfolding gives part_after
gives_before [] = refl
gives_before (byte ∷ part) = gives_before part

-- bytes so far and a rest that is read to its end
joined : List ℕ → Option (List ℕ) → List (List ℕ)
joined front rest = asked_by (option_map (λ back. front ++ back) rest)

-- one byte more so far
joined_byte : (front : List ℕ) (byte : ℕ) (rest : Option (List ℕ))
    → joined (front ++ byte ∷ []) rest
    ≡ joined front (option_map (λ (back : List ℕ). byte ∷ back) rest)
unfolding joined
joined_byte front byte None = refl
joined_byte front byte (Some back) =
    ap (λ (frame : List ℕ). asked_by (Some frame)) (append_assoc front (byte ∷ []) back)

-- no room for it
joined_long : (front : List ℕ) (byte : ℕ) (rest : Option (List ℕ)) → frame_limit ≤ length front
    → joined front (option_map (λ (back : List ℕ). byte ∷ back) rest) ≡ []
unfolding joined
joined_long front byte None long = refl
joined_long front byte (Some back) long =
    rw (too_long (front ++ byte ∷ back)
    (omega (arith, length-append front (byte ∷ back), long))) refl

-- what a part means, from a frame under way on, and from an open escape on
abbrev Means : List ℕ → List ℕ → Type 0
Means part front =
    (gives (within front) part ≡ joined front (decoded_by part false))
    × (gives (escaping front) part ≡ joined front (decoded_by part true))

-- a byte that is kept, in front of a part
kept_more : (front part : List ℕ) (byte : ℕ) (t : Bool) → nat_lt (length front) frame_limit ≡ t
    → ((longer : List ℕ) → Means part longer)
    → gives (with_byte front byte) part
    ≡ joined front (option_map (λ (back : List ℕ). byte ∷ back) (decoded_by part false))
kept_more front part byte true room rest =
    rw room ((rest (front ++ byte ∷ [])).0 ∙ joined_byte front byte (decoded_by part false))
kept_more front part byte false room rest =
    let long : frame_limit ≤ length front = grind (arith, nat_tests) in
    rw room (gives_none part ∙ sym (joined_long front byte (decoded_by part false) long))

-- one byte is read, and then the rest
gives_next : (behind : Behind) (byte : ℕ) (part : List ℕ)
    → gives behind (byte ∷ part) ≡ gives (with_next behind.mode behind.bytes byte) part
unfolding gives part_after
gives_next behind byte part = refl

-- a byte in front of a part
plain_byte : (byte : ℕ) (part front : List ℕ) → ((longer : List ℕ) → Means part longer)
    → (t : Bool) → gives (if t then escaping front else with_byte front byte) part
    ≡ joined front (if t then decoded_by part true
    else option_map (λ (back : List ℕ). byte ∷ back) (decoded_by part false))
plain_byte byte part front rest true = (rest front).1
plain_byte byte part front rest false =
    kept_more front part byte (nat_lt (length front) frame_limit) refl rest

escaped_byte : (part front : List ℕ) → ((longer : List ℕ) → Means part longer)
    → (t u : Bool) → gives (if t then with_byte front end_byte
    else (if u then with_byte front escape_byte else dropped)) part
    ≡ joined front (if t then option_map (λ (back : List ℕ). end_byte ∷ back) (decoded_by part false)
    else (if u then option_map (λ (back : List ℕ). escape_byte ∷ back) (decoded_by part false)
    else None))
unfolding joined
escaped_byte part front rest true u =
    kept_more front part end_byte (nat_lt (length front) frame_limit) refl rest
escaped_byte part front rest false true =
    kept_more front part escape_byte (nat_lt (length front) frame_limit) refl rest
escaped_byte part front rest false false = gives_none part

both_more : (byte : ℕ) (part front : List ℕ) → ((longer : List ℕ) → Means part longer)
    → Means (byte ∷ part) front
both_more byte part front rest = (
  gives_next (within front) byte part ∙ plain_byte byte part front rest (byte == escape_byte),
  gives_next (escaping front) byte part
      ∙ escaped_byte part front rest (byte == escaped_end) (byte == escaped_escape),
)

-- a frame that ends here
asked_if : (t : Bool) (frame : List ℕ)
    → option_to_list (if t then Some frame else None) ≡ (if t then frame ∷ [] else [])
asked_if true frame = refl
asked_if false frame = refl

asked_same : (frame : List ℕ)
    → option_to_list (ended_by modes.Within frame) ≡ asked_by (Some frame)
asked_same frame = asked_if (is_request frame) frame

both_parts : (part front : List ℕ)
    → (gives (within front) part ≡ joined front (decoded_by part false))
    × (gives (escaping front) part ≡ joined front (decoded_by part true))
unfolding gives part_after joined
both_parts [] front = (
  asked_same front ∙ ap (λ (frame : List ℕ). asked_by (Some frame)) (sym (append-nil front)),
  refl,
)
both_parts (byte ∷ part) front =
    both_more byte part front (λ longer. both_parts part longer)

-- what a whole part means
same_rest : (rest : Option (List ℕ)) → joined [] rest ≡ asked_by rest
unfolding joined
same_rest None = refl
same_rest (Some frame) = refl

part_means : (part : List ℕ) → gives (within []) part ≡ asked_by (decoded_by part false)
part_means part = (both_parts part []).0 ∙ same_rest (decoded_by part false)

all_mean : (parts : List (List ℕ))
    → flat_map (gives (within [])) parts
    ≡ flat_map (λ (part : List ℕ). asked_by (decoded_by part false)) parts
all_mean [] = refl
all_mean (part ∷ parts) =
    ap (λ (front : List (List ℕ)). front ++ flat_map (gives (within [])) parts) (part_means part)
    ∙ ap (λ (back : List (List ℕ)). asked_by (decoded_by part false) ++ back) (all_mean parts)

-- ---- the whole stream

from_before : (parts : List (List ℕ))
    → of_parts before parts ≡ flat_map (gives (within [])) (without_last (drop 1 parts))
unfolding of_parts
from_before [] = refl
from_before (part ∷ []) = refl
from_before (part ∷ (next ∷ parts)) =
    ap (λ (front : List (List ℕ)). front
    ++ flat_map (gives (within [])) (without_last (next ∷ parts))) (gives_before part)

pub requests_by_parts : (stream : List ℕ) → requests_from before stream ≡ requests_of stream
unfolding requests_of
requests_by_parts stream =
    from_parts before stream ∙ from_before (parts_of stream) ∙ all_mean (parts_between stream)
