-- The head of a segment and its 8 bytes say the same.
use Rattle.std.proofs.Common.{◌≡◌, ℕ, ◌<◌, ◌≤◌, List, [], ◌++◌, length, take, drop, get_or, sym, ap, ◌∙◌, arith}
use Rattle.std.proofs.lemmas.List.{append-nil, drop_at, length-drop, take_all}
use Rattle.std.proofs.lemmas.List.Elements.{All-drop, All-from_get_or}
use Rattle.std.specs.List.{All}
use Rattle.byteorder.specs.Endian.{little_bytes, little_number}
use Rattle.byteorder.specs.Numbers.{length-bytes_low_first, little_number-reads_back}
use Rattle.image_layout.specs.declared.segment.SegmentHead.{SegmentHead}
use Rattle.image_layout.specs.Segment.{Segment, IsSegment, IsHead, head_of, head_bytes, load_of}
use Rattle.image_layout.proofs.Bytes.{little_four, with_part}

-- the bytes of the head that was read are those that it was read from
head_bytes-of : (bytes : List ℕ) → 8 ≤ length bytes → All (λ b. b < 256) bytes
    → head_bytes (head_of bytes) ≡ take 8 bytes
unfolding head_bytes head_of
head_bytes-of bytes long small =
    let P : ℕ → Type 0 = λ b. b < 256 in
    with_part bytes _ _ 4 4 (little_four bytes (omega arith) small)
    (little_four (drop 4 bytes) (omega (arith, length-drop 4 bytes)) (All-drop P 4 bytes small))

-- 8 bytes are those of the head that they are
pub head_bytes-all : (bytes : List ℕ) (h : SegmentHead) → h ≡ head_of bytes → length bytes ≡ 8
    → ((i : ℕ) → get_or bytes i 0 < 256) → head_bytes h ≡ bytes
head_bytes-all bytes h is long small =
    let below : All (λ b. b < 256) bytes =
    All-from_get_or (λ (b : ℕ). b < 256) bytes 0 (λ i inside. small i) in
    ap head_bytes is ∙ head_bytes-of bytes (omega arith) below ∙ take_all 8 bytes (omega arith)

-- a head is its two fields
same_head : (h : SegmentHead) (load len : ℕ) → load ≡ h.load → len ≡ h.length
    → ◌≡◌ {A = SegmentHead} (record { load = load; length = len }) h
same_head h load len p q = λ i. record { load = p i; length = q i }

-- the bytes of a head are the head
pub head_of-all : (bytes : List ℕ) (h : SegmentHead) → bytes ≡ head_bytes h → IsHead h → head_of bytes ≡ h
unfolding head_bytes head_of
head_of-all bytes h is fits =
    let first = little_bytes 4 h.load in
    let second = little_bytes 4 h.length in
    let at_4 : drop 4 bytes ≡ second = ap (drop 4) is
    ∙ drop_at first second 4 (length-bytes_low_first 0 4 h.load) in
    same_head h _ _
    (ap (little_number 4) is ∙ little_number-reads_back 4 h.load second fits.load)
    (ap (little_number 4) (at_4 ∙ sym (append-nil second)) ∙ little_number-reads_back 4 h.length [] fits.length)

-- the head of a segment is the bytes of its load address and of its data's length
pub head_is : (at : ℕ) (s : Segment) → IsSegment at s → All (λ b. b < 256) s.head
    → s.head ≡ little_bytes 4 (load_of s) ++ little_bytes 4 (length s.content)
head_is at s segment small =
    let P : ℕ → Type 0 = λ b. b < 256 in
    let bytes = s.head in
    let first = little_four bytes (omega (arith, segment.head)) small in
    let second = little_four (drop 4 bytes) (omega (arith, segment.head, length-drop 4 bytes))
    (All-drop P 4 bytes small) in
    sym (take_all 8 bytes (omega (arith, segment.head))) ∙ sym (with_part bytes _ _ 4 4 first second)
    ∙ ap (λ n. little_bytes 4 (load_of s) ++ little_bytes 4 n) segment.counted
