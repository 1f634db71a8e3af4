-- The header and its 24 bytes say the same.
use Rattle.std.proofs.Common.{◌≡◌, ℕ, ◌+◌, ◌<◌, ◌≤◌, List, [], ◌∷◌, ◌++◌, length, take, drop, get_or, refl, sym, ap, ◌∙◌, arith}
use Rattle.std.proofs.lemmas.List.{append_assoc, append-nil, drop-drop, drop_at, length-drop, take_all, take_at, get_or-drop}
use Rattle.std.proofs.lemmas.List.Elements.{All-drop, All-from_get_or}
use Rattle.std.specs.List.{All}
use Rattle.byteorder.specs.Endian.{little_bytes, little_number}
use Rattle.byteorder.specs.Numbers.{length-bytes_low_first, little_number-reads_back}
use Rattle.image_layout.specs.declared.header.Header.{Header}
use Rattle.image_layout.specs.Header.{IsSized, header_of, header_bytes}
use Rattle.image_layout.proofs.Bytes.{little_two, little_four, first_four, with_part, with_item}

-- the bytes of the header that was read are those that it was read from
pub header_bytes-of : (bytes : List ℕ) → 24 ≤ length bytes → All (λ b. b < 256) bytes
    → header_bytes (header_of bytes) ≡ take 24 bytes
unfolding header_bytes header_of
header_bytes-of bytes long small =
    let P : ℕ → Type 0 = λ b. b < 256 in
    let two : (a : ℕ) → a + 2 ≤ length bytes → little_bytes 2 (little_number 2 (drop a bytes)) ≡ take 2 (drop a bytes) =
    λ a inside. little_two (drop a bytes) (omega (arith, length-drop a bytes)) (All-drop P a bytes small) in
    let upto_4 = first_four bytes (omega arith) in
    let upto_8 = with_part bytes _ _ 4 4 upto_4
    (little_four (drop 4 bytes) (omega (arith, length-drop 4 bytes)) (All-drop P 4 bytes small)) in
    let upto_9 = with_item bytes _ 8 (omega arith) upto_8 in
    let upto_12 = with_part bytes _ _ 9 3 upto_9 refl in
    let upto_14 = with_part bytes _ _ 12 2 upto_12 (two 12 (omega arith)) in
    let upto_15 = with_item bytes _ 14 (omega arith) upto_14 in
    let upto_17 = with_part bytes _ _ 15 2 upto_15 (two 15 (omega arith)) in
    let upto_19 = with_part bytes _ _ 17 2 upto_17 (two 17 (omega arith)) in
    let upto_23 = with_part bytes _ _ 19 4 upto_19 refl in
    with_item bytes _ 23 (omega arith) upto_23

-- 24 bytes are those of the header that they are
pub header_bytes-all : (bytes : List ℕ) (h : Header) → h ≡ header_of bytes → length bytes ≡ 24
    → ((i : ℕ) → get_or bytes i 0 < 256) → header_bytes h ≡ bytes
header_bytes-all bytes h is long small =
    let below : All (λ b. b < 256) bytes =
    All-from_get_or (λ (b : ℕ). b < 256) bytes 0 (λ i inside. small i) in
    ap header_bytes is ∙ header_bytes-of bytes (omega arith) below ∙ take_all 24 bytes (omega arith)

-- the header is read where its bytes stand first
pub header_of-bytes : (h : Header) (rest : List ℕ) → IsSized h → header_of (header_bytes h ++ rest) ≡ h
unfolding header_bytes header_of
header_of-bytes h rest sized =
    let all = header_bytes h ++ rest in
    let entry = little_bytes 4 h.entry in
    let chip = little_bytes 2 h.chip in
    let min_rev = little_bytes 2 h.min_rev in
    let max_rev = little_bytes 2 h.max_rev in
    let from_23 : List ℕ = h.flag ∷ rest in
    let from_19 : List ℕ = h.reserved ++ from_23 in
    let from_17 : List ℕ = max_rev ++ from_19 in
    let from_15 : List ℕ = min_rev ++ from_17 in
    let from_14 : List ℕ = h.old_rev ∷ from_15 in
    let from_12 : List ℕ = chip ++ from_14 in
    let from_9 : List ℕ = h.drive ++ from_12 in
    let from_8 : List ℕ = h.wp ∷ from_9 in
    let from_4 : List ℕ = entry ++ from_8 in
    let from_0 : List ℕ = h.magic ∷ h.segments ∷ h.mode ∷ h.size_freq ∷ from_4 in
    let at_0 : all ≡ from_0 = simp append_assoc in
    let at_4 : drop 4 all ≡ from_4 = ap (drop 4) at_0 in
    let at_8 : drop 8 all ≡ from_8 = sym (drop-drop 4 4 all) ∙ ap (drop 4) at_4
    ∙ drop_at entry from_8 4 (length-bytes_low_first 0 4 h.entry) in
    let at_9 : drop 9 all ≡ from_9 = sym (drop-drop 1 8 all) ∙ ap (drop 1) at_8 in
    let at_12 : drop 12 all ≡ from_12 = sym (drop-drop 3 9 all) ∙ ap (drop 3) at_9
    ∙ drop_at h.drive from_12 3 sized.drive in
    let at_14 : drop 14 all ≡ from_14 = sym (drop-drop 2 12 all) ∙ ap (drop 2) at_12
    ∙ drop_at chip from_14 2 (length-bytes_low_first 0 2 h.chip) in
    let at_15 : drop 15 all ≡ from_15 = sym (drop-drop 1 14 all) ∙ ap (drop 1) at_14 in
    let at_17 : drop 17 all ≡ from_17 = sym (drop-drop 2 15 all) ∙ ap (drop 2) at_15
    ∙ drop_at min_rev from_17 2 (length-bytes_low_first 0 2 h.min_rev) in
    let at_19 : drop 19 all ≡ from_19 = sym (drop-drop 2 17 all) ∙ ap (drop 2) at_17
    ∙ drop_at max_rev from_19 2 (length-bytes_low_first 0 2 h.max_rev) in
    let at_23 : drop 23 all ≡ from_23 = sym (drop-drop 4 19 all) ∙ ap (drop 4) at_19
    ∙ drop_at h.reserved from_23 4 sized.reserved in
    let one : (a : ℕ) (x : ℕ) (xs : List ℕ) → drop a all ≡ x ∷ xs → get_or all a 0 ≡ x =
    λ a x xs is. item_at all a x xs is in
    same_header h
    (ap (λ (xs : List ℕ). get_or xs 0 0) at_0) (ap (λ (xs : List ℕ). get_or xs 1 0) at_0)
    (ap (λ (xs : List ℕ). get_or xs 2 0) at_0) (ap (λ (xs : List ℕ). get_or xs 3 0) at_0)
    (ap (little_number 4) at_4 ∙ little_number-reads_back 4 h.entry from_8 sized.entry)
    (one 8 h.wp from_9 at_8)
    (ap (take 3) at_9 ∙ take_at h.drive from_12 3 sized.drive)
    (ap (little_number 2) at_12 ∙ little_number-reads_back 2 h.chip from_14 sized.chip)
    (one 14 h.old_rev from_15 at_14)
    (ap (little_number 2) at_15 ∙ little_number-reads_back 2 h.min_rev from_17 sized.min_rev)
    (ap (little_number 2) at_17 ∙ little_number-reads_back 2 h.max_rev from_19 sized.max_rev)
    (ap (take 4) at_19 ∙ take_at h.reserved from_23 4 sized.reserved)
    (one 23 h.flag rest at_23)
  where
    -- the item with which the rest of a list begins
    item_at : (xs : List ℕ) (a x : ℕ) (ys : List ℕ) → drop a xs ≡ x ∷ ys → get_or xs a 0 ≡ x
    item_at xs a x ys is =
        let there : a ≡ a + 0 = omega arith in
        ap (λ (n : ℕ). get_or xs n 0) there ∙ sym (get_or-drop a xs 0 0) ∙ ap (λ (zs : List ℕ). get_or zs 0 0) is

    -- a header is its fields
    same_header : (h : Header) {magic segments mode size_freq entry wp : ℕ} {drive : List ℕ}
        {chip old_rev min_rev max_rev : ℕ} {reserved : List ℕ} {flag : ℕ}
        → magic ≡ h.magic → segments ≡ h.segments → mode ≡ h.mode → size_freq ≡ h.size_freq
        → entry ≡ h.entry → wp ≡ h.wp → drive ≡ h.drive → chip ≡ h.chip → old_rev ≡ h.old_rev
        → min_rev ≡ h.min_rev → max_rev ≡ h.max_rev → reserved ≡ h.reserved → flag ≡ h.flag
        → ◌≡◌ {A = Header} (record {
          magic = magic;
          segments = segments;
          mode = mode;
          size_freq = size_freq;
          entry = entry;
          wp = wp;
          drive = drive;
          chip = chip;
          old_rev = old_rev;
          min_rev = min_rev;
          max_rev = max_rev;
          reserved = reserved;
          flag = flag;
        }) h
    same_header h m s o f e w d c r n x v g = λ i. record {
      magic = m i;
      segments = s i;
      mode = o i;
      size_freq = f i;
      entry = e i;
      wp = w i;
      drive = d i;
      chip = c i;
      old_rev = r i;
      min_rev = n i;
      max_rev = x i;
      reserved = v i;
      flag = g i;
    }

-- the bytes of a header are the header
pub header_of-all : (bytes : List ℕ) (h : Header) → bytes ≡ header_bytes h → IsSized h → header_of bytes ≡ h
header_of-all bytes h is sized =
    ap header_of (is ∙ sym (append-nil (header_bytes h))) ∙ header_of-bytes h [] sized
