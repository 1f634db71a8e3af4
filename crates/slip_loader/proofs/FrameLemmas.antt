-- A scan, byte by byte.
use Rattle.std.specs.Prelude.{◌≡◌, ℕ, ◌+◌, List, [], ◌∷◌, ◌++◌, Option, Some, None, Bool, true, false, is_some, if◌then◌else◌, ◌==◌}
use Rattle.std.specs.Option.{option_to_list}
use Rattle.std.proofs.Common.{refl, ap, ◌∙◌, arith}
use Rattle.std.proofs.lemmas.List.{append-nil}
use Rattle.slip_loader.specs.declared.frame.Mode.{Mode}
use Rattle.slip_loader.specs.declared.frame.Mode.TheVariants as modes
use Rattle.slip_loader.specs.Frames.{Behind, after_byte, behind_after, end_byte, ended_by, is_request, request_at, requests_from, taken_from, with_next, within}
use Rattle.slip_loader.proofs.StreamLemmas.{behind_append, requests_append}

-- where a byte ends a request, the next frame begins
pub after_request : (behind : Behind) (byte : ℕ) (frame : List ℕ)
    → request_at behind byte ≡ Some frame → after_byte behind byte ≡ within []
unfolding request_at after_byte
after_request behind byte frame ends = by (byte == end_byte) ends
  where
    by : (t : Bool)
        → (if t then ended_by behind.mode behind.bytes else None) ≡ Some frame
        → (if t then within [] else with_next behind.mode behind.bytes byte) ≡ within []
    by true same = refl
    by false same = cc

-- one byte that ends a request
pub taken_ended : (behind : Behind) (byte : ℕ) (bytes : List ℕ) (frame : List ℕ)
    → request_at behind byte ≡ Some frame → taken_from behind (byte ∷ bytes) ≡ 1
unfolding taken_from
taken_ended behind byte bytes frame ends = rw ends refl

-- one that ends none
pub taken_more : (behind : Behind) (byte : ℕ) (bytes : List ℕ)
    → is_some (request_at behind byte) ≡ false
    → taken_from behind (byte ∷ bytes) ≡ 1 + taken_from (after_byte behind byte) bytes
unfolding taken_from
taken_more behind byte bytes none = rw none (omega arith)

-- the requests of one byte more
pub requests_more : (behind : Behind) (front : List ℕ) (byte : ℕ)
    → requests_from behind front ≡ []
    → requests_from behind (front ++ (byte ∷ []))
    ≡ option_to_list (request_at (behind_after behind front) byte)
unfolding requests_from
requests_more behind front byte none =
    requests_append behind front (byte ∷ [])
    ∙ ap (λ (rest : List (List ℕ)). rest
    ++ (option_to_list (request_at (behind_after behind front) byte) ++ [])) none
    ∙ append-nil (option_to_list (request_at (behind_after behind front) byte))

-- what stands behind it
pub behind_more : (behind : Behind) (front : List ℕ) (byte : ℕ)
    → behind_after behind (front ++ (byte ∷ []))
    ≡ after_byte (behind_after behind front) byte
unfolding behind_after
behind_more behind front byte = behind_append behind front (byte ∷ [])

-- what ends is a request
ended_is : (mode : Mode) (bytes frame : List ℕ) → ended_by mode bytes ≡ Some frame
    → is_request frame ≡ true
ended_is modes.Before bytes frame ends = cc
ended_is modes.Within bytes frame ends = by (is_request bytes) refl ends
  where
    by : (t : Bool) → is_request bytes ≡ t → (if t then Some bytes else None) ≡ Some frame
        → is_request frame ≡ true
    by true is same = cc
    by false is same = cc
ended_is modes.Escaping bytes frame ends = cc
ended_is modes.Dropped bytes frame ends = cc

pub request_is : (behind : Behind) (byte : ℕ) (frame : List ℕ)
    → request_at behind byte ≡ Some frame → is_request frame ≡ true
unfolding request_at
request_is behind byte frame ends = by (byte == end_byte) ends
  where
    by : (t : Bool)
        → (if t then ended_by behind.mode behind.bytes else None) ≡ Some frame
        → is_request frame ≡ true
    by true same = ended_is behind.mode behind.bytes frame same
    by false same = cc

-- where no request ends there is none
pub none_ended : (request : Option (List ℕ)) → is_some request ≡ false → option_to_list request ≡ []
none_ended None none = refl
none_ended (Some frame) none = cc
