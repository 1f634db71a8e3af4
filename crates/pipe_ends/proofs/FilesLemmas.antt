-- A list of files against the map that it is told as.
use Rattle.std.proofs.Common.{◌≡◌, ◌≢◌, ℕ, ◌<◌, ◌≤◌, ◌-◌, Bool, true, false, cond, List, [], ◌∷◌, ◌++◌, map, length, get_or, set, zero, suc, true≢false, Some, None, Option, arith, refl, sym, ap, ◌∙◌}
use Rattle.std.proofs.lemmas.Grind.{common_steps}
use Rattle.std.specs.Ordering.{nat_cmp, eq_by_cmp}
use Rattle.std.specs.Cmp.{IsTotalOrder, eq_by_cmp_equiv}
use Rattle.std.specs.Cmp.Lexicographic.{slice_cmp, texts_ties, bytes_decides, nat_list_cmp_total}
use Rattle.std.specs.FinMap.{IsAntisymmetric, get, insert, find, from_entries, get-from_entries, get-insert, same_map, from_entries_push, nat_cmp-IsAntisymmetric, slice_cmp-IsAntisymmetric}
use Rattle.std.specs.List.{position, position_or_len, Any}
use Rattle.std.proofs.lemmas.List.{map-append}
use Rattle.std.proofs.lemmas.List.Quantifiers.{position-Some}
use Rattle.std.specs.String.{string_bytes}
use Rattle.pipe_ends.specs.declared.file.File.{File}
use Rattle.pipe_ends.specs.MemStore.{StoreState, named_bytes, files_of, has_name, HasNoneNamed, AreDistinct, TellsJust}

-- two names tie in the order of bytes where they are equal
abbrev same : List ℕ → List ℕ → Bool
same a b = eq_by_cmp (slice_cmp nat_cmp) a b

-- the test of the code is the test of the map
ties : (name : List ℕ) (f : File) → same name (string_bytes f.name) ≡ has_name name f
ties name f = (eq_by_cmp_equiv nat_list_cmp_total).symm name (string_bytes f.name) ∙ sym (texts_ties (string_bytes f.name) name)

-- a file that has the name has that very name
named : (name : List ℕ) (f : File) → has_name name f ≡ true → string_bytes f.name ≡ name
named name f = (bytes_decides (string_bytes f.name) name).0

-- where no file has the name, the map has none
find_none : (name : List ℕ) (fs : List File) → length fs ≤ position_or_len (has_name name) fs → find (slice_cmp nat_cmp) name (map named_bytes fs) ≡ None
find_none name [] h = refl
find_none name (f ∷ fs) h = grind (arith, common_steps, ties name f, find_none name fs)

-- the first file that has the name gives the bytes
find_some : (name : List ℕ) (fs : List File) (i : ℕ) (d : File) → i ≡ position_or_len (has_name name) fs → i < length fs → find (slice_cmp nat_cmp) name (map named_bytes fs) ≡ Some (get_or fs i d).bytes.items
find_some name [] i d e h = absurd (omega arith)
find_some name (f ∷ fs) i d e h = grind (arith, common_steps, ties name f, find_some name fs (i - 1) d)

-- a name ties with itself
same_itself : (a : List ℕ) → same a a ≡ true
same_itself a = (eq_by_cmp_equiv nat_list_cmp_total).refl a

-- names that tie in the order of bytes are equal
equal : (a b : List ℕ) → same a b ≡ true → a ≡ b
equal a b e = (bytes_decides a b).0 (texts_ties a b ∙ e)

-- a test that is made twice decides once
twice : (a : Bool) (x y z : Option (List ℕ)) → cond a x z ≡ cond a x (cond a y z)
twice true x y z = refl
twice false x y z = refl

-- two tests that never both hold may be made in either order
apart : (a b : Bool) (x y z : Option (List ℕ)) → (a ≡ true → b ≡ true → ⊥) → cond a x (cond b y z) ≡ cond b y (cond a x z)
apart true true x y z never = absurd (never refl refl)
apart true false x y z never = refl
apart false b x y z never = refl

-- the first file that has the name gets other bytes: the map has them under the name, and the rest as it was
find_set : (name : List ℕ) (fs : List File) (i : ℕ) (d g : File) (q : List ℕ) → i < length fs → has_name name (get_or fs i d) ≡ true → ((k : ℕ) → k < i → has_name name (get_or fs k d) ≡ false) → string_bytes g.name ≡ name → find (slice_cmp nat_cmp) q (map named_bytes (set fs i g)) ≡ cond (same q name) (Some g.bytes.items) (find (slice_cmp nat_cmp) q (map named_bytes fs))
find_set name [] i d g q within has before it = absurd (omega arith)
find_set name (f ∷ fs) zero d g q within has before it =
    rw (it, named name f has) (twice (same q name) _ _ _)
find_set name (f ∷ fs) (suc i) d g q within has before it =
    let rest = find_set name fs i d g q (omega arith) has (λ k below. before (suc k) (omega arith)) it in
    let other : has_name name f ≡ false = before 0 (omega arith) in
    rw rest (apart (same q (string_bytes f.name)) (same q name) _ _ _
    (λ first second. true≢false (sym ((bytes_decides (string_bytes f.name) name).1 (sym (equal q (string_bytes f.name) first) ∙ equal q name second)) ∙ other)))

-- the order of names is total, and only equal names tie in it
order_total : IsTotalOrder (slice_cmp nat_cmp)
order_total = nat_list_cmp_total

order_strict : IsAntisymmetric (slice_cmp nat_cmp)
order_strict = slice_cmp-IsAntisymmetric nat_cmp-IsAntisymmetric

-- no place for the name: the map has no file of it
pub get_none : (name : List ℕ) (fs : List File) → position (has_name name) fs ≡ None → get (files_of fs) name ≡ None
get_none name fs none = get-from_entries order_total (map named_bytes fs) name ∙ find_none name fs (grind (arith, none))

-- a place for the name: the map has its bytes
pub get_some : (name : List ℕ) (fs : List File) (i : ℕ) (d : File) → position (has_name name) fs ≡ Some i → get (files_of fs) name ≡ Some (get_or fs i d).bytes.items
get_some name fs i d some =
    let within = (position-Some (has_name name) fs i d some).0 in
    let it : i ≡ position_or_len (has_name name) fs = grind (arith, some) in
    get-from_entries order_total (map named_bytes fs) name ∙ find_some name fs i d it within

-- other bytes at the place of the name: the map has them there
pub files_of-set : (name : List ℕ) (fs : List File) (i : ℕ) (d g : File) → position (has_name name) fs ≡ Some i → string_bytes g.name ≡ string_bytes (get_or fs i d).name → files_of (set fs i g) ≡ insert (files_of fs) name g.bytes.items
files_of-set name fs i d g some kept =
    let (within, has, before) = position-Some (has_name name) fs i d some in
    let it : string_bytes g.name ≡ name = kept ∙ named name (get_or fs i d) has in
    same_map order_total order_strict _ _ (λ q.
    get-from_entries order_total (map named_bytes (set fs i g)) q
    ∙ find_set name fs i d g q within has before it
    ∙ sym (get-insert order_total (files_of fs) name g.bytes.items q
    ∙ ap (cond (same q name) (Some g.bytes.items)) (get-from_entries order_total (map named_bytes fs) q)))

-- no place for the name, and a file of it after the others: the map has it besides
pub files_of_push : (fs : List File) (g : File) → position (has_name (string_bytes g.name)) fs ≡ None → files_of (fs ++ g ∷ []) ≡ insert (files_of fs) (string_bytes g.name) g.bytes.items
files_of_push fs g none =
    ap from_entries (map-append named_bytes fs (g ∷ []))
    ∙ from_entries_push order_total order_strict (map named_bytes fs) (string_bytes g.name) g.bytes.items (find_none (string_bytes g.name) fs (grind (arith, none)))

-- two stores with the same files and the same calls are one
pub same_state : (a b : StoreState) → a.files ≡ b.files → a.calls ≡ b.calls → a ≡ b
same_state a b files calls = λ i. record { files = files i; calls = calls i }

-- a name that none of the files has is not that of the file at a place
none_named : (name : List ℕ) (fs : List File) (k : ℕ) (d : File) → HasNoneNamed name fs → k < length fs → string_bytes (get_or fs k d).name ≢ name
none_named name [] k d none within = absurd (omega arith)
none_named name (f ∷ fs) zero d none within = none.0
none_named name (f ∷ fs) (suc k) d none within = none_named name fs k d none.1 (omega arith)

-- a test that is not true is false
not_true : (b : Bool) → (b ≡ true → ⊥) → b ≡ false
not_true true never = absurd (never refl)
not_true false never = refl

-- where no two names are the same, each file is found by its name
find_each : (fs : List File) (k : ℕ) (d : File) → AreDistinct fs → k < length fs → find (slice_cmp nat_cmp) (string_bytes (get_or fs k d).name) (map named_bytes fs) ≡ Some (get_or fs k d).bytes.items
find_each [] k d distinct within = absurd (omega arith)
find_each (f ∷ fs) zero d distinct within = rw (same_itself (string_bytes f.name)) refl
find_each (f ∷ fs) (suc k) d distinct within =
    let other : string_bytes (get_or fs k d).name ≢ string_bytes f.name = none_named (string_bytes f.name) fs k d distinct.0 (omega arith) in
    let differs : same (string_bytes (get_or fs k d).name) (string_bytes f.name) ≡ false = not_true _ (λ e. other (equal _ _ e)) in
    rw differs (find_each fs k d distinct.1 (omega arith))

-- a name that is found is that of one of the files
find_only : (name : List ℕ) (fs : List File) → find (slice_cmp nat_cmp) name (map named_bytes fs) ≢ None → Any (λ file. string_bytes file.name ≡ name) fs
find_only name [] some = absurd (some refl)
find_only name (f ∷ fs) some =
    elim (same name (string_bytes f.name)) as (λ b. same name (string_bytes f.name) ≡ b → Any (λ file. string_bytes file.name ≡ name) (f ∷ fs)) [
      | true ↦ λ is. (0, f, omega arith, refl, sym (equal name (string_bytes f.name) is))
      | false ↦ λ is. let (k, x, within, at, named) = find_only name fs (λ none. some (rw is none)) in (suc k, x, omega arith, at, named)
    ] refl

-- files whose names differ are told just as their list gives them
pub tells_just : (fs : List File) → AreDistinct fs → TellsJust (files_of fs) fs
tells_just fs distinct = record {
  each = λ k d within. get-from_entries order_total (map named_bytes fs) _ ∙ find_each fs k d distinct within;
  only = λ name some. find_only name fs (λ none. some (get-from_entries order_total (map named_bytes fs) name ∙ none));
}

-- a name that has a place is found
find_found : (name : List ℕ) (fs : List File) → position_or_len (has_name name) fs < length fs → find (slice_cmp nat_cmp) name (map named_bytes fs) ≢ None
find_found name [] within = absurd (omega arith)
find_found name (f ∷ fs) within = grind (arith, common_steps, ties name f, find_found name fs)

-- a name that has a place is told
pub found : (name : List ℕ) (fs : List File) (i : ℕ) → position (has_name name) fs ≡ Some i → get (files_of fs) name ≢ None
found name fs i some none = find_found name fs (grind (arith, some)) (sym (get-from_entries order_total (map named_bytes fs) name) ∙ none)
