-- A script is read from its lines, each by itself.
use Rattle.std.proofs.Common.{◌≡◌, ◌≤◌, ℕ, ◌+◌, Bool, true, false, List, [], ◌∷◌, ◌++◌, length, length-append, append_assoc, Result, Ok, Err, refl, sym, ap, ◌∙◌, arith}
use Rattle.std.specs.Prelude.{nat_le, map}
use Rattle.std.proofs.lemmas.Bool.Decides.{nat_tests}
use Rattle.std.proofs.lemmas.List.{append-nil}
use Rattle.core_script.specs.declared.action.Action.{Action}
use Rattle.core_script.specs.declared.refusal.ScriptWhy.{ScriptWhy}
use Rattle.core_script.specs.Action.{sectors_in, sectors_in_all}
use Rattle.core_script.specs.Lines.{IsScriptOf, told_of}
use Rattle.core_script.specs.ScriptText.{action_of, after_line, after_lines, joined, script_of_text}
use Rattle.core_script.proofs.ActionLemmas.{sectors_in_all-append, sectors_in_all-snoc}
use Rattle.pipe_ends.specs.Words.{is_skipped, lines_of, words_of}

-- lines add to the actions before them their own, and keep to the limits
record Grown (lines : List (List ℕ)) (before after : List Action) : Type 0 where
  rest : List Action
  is : after ≡ before ++ rest
  lines_are : map action_of (told_of lines) ≡ map Ok rest
  few : length after ≤ 4096
  sectors : sectors_in_all after ≤ 65536

-- a line that says something has its action
told_one : (line : List ℕ) (lines : List (List ℕ)) (action : Action) (rest : List Action)
    → is_skipped (words_of line) ≡ false → action_of (words_of line) ≡ Ok action
    → map action_of (told_of lines) ≡ map Ok rest
    → map action_of (told_of (line ∷ lines)) ≡ map Ok (action ∷ rest)
told_one line lines action rest told is others =
    rw (told, is) (ap (λ all. Ok action ∷ all) others)

-- one that says nothing has none
told_none : (line : List ℕ) (lines : List (List ℕ)) (rest : List Action)
    → is_skipped (words_of line) ≡ true → map action_of (told_of lines) ≡ map Ok rest
    → map action_of (told_of (line ∷ lines)) ≡ map Ok rest
told_none line lines rest told others = rw told others

module _ (number : ℕ) (line : List ℕ) (lines : List (List ℕ)) (before after : List Action)
    (few : length before ≤ 4096) (sectors : sectors_in_all before ≤ 65536)
    (later : (next : List Action) → length next ≤ 4096 → sectors_in_all next ≤ 65536
    → after_lines (number + 1) next lines ≡ Ok after → Grown lines next after) where
  -- a line with an action, by the two limits
  grown_by : (action : Action) (many much : Bool) → is_skipped (words_of line) ≡ false
      → action_of (words_of line) ≡ Ok action → nat_le 4096 (length before) ≡ many
      → nat_le (sectors_in_all before + sectors_in action) 65536 ≡ much
      → after_lines number before (line ∷ lines) ≡ Ok after → Grown (line ∷ lines) before after
  unfolding after_line joined
  grown_by action true much told is many_is much_is so_far =
      absurd (let no = rw (told, is, many_is) at so_far in cc)
  grown_by action false false told is many_is much_is so_far =
      absurd (let no = rw (told, is, many_is, much_is) at so_far in cc)
  grown_by action false true told is many_is much_is so_far =
      let next = before ++ action ∷ [] in
      let here = rw (told, is, many_is, much_is) at so_far in
      let long : length next ≤ 4096 =
      grind (arith, nat_tests, length-append before (action ∷ [])) in
      let much : sectors_in_all next ≤ 65536 = grind (arith, nat_tests, sectors_in_all-snoc before action) in
      let grown = later next long much here in
      record {
        rest = action ∷ grown.rest;
        is = grown.is ∙ append_assoc before (action ∷ []) grown.rest;
        lines_are = told_one line lines action grown.rest told is grown.lines_are;
        few = grown.few;
        sectors = grown.sectors;
      }

  -- a line, by what it says
  grown_line : (skipped : Bool) (meant : Result Action ScriptWhy) → is_skipped (words_of line) ≡ skipped
      → action_of (words_of line) ≡ meant
      → after_lines number before (line ∷ lines) ≡ Ok after → Grown (line ∷ lines) before after
  unfolding after_line
  grown_line true meant told is so_far =
      let here = rw told at so_far in
      let grown = later before few sectors here in
      record {
        rest = grown.rest;
        is = grown.is;
        lines_are = told_none line lines grown.rest told grown.lines_are;
        few = grown.few;
        sectors = grown.sectors;
      }
  grown_line false (Err why) told is so_far = absurd (let no = rw (told, is) at so_far in cc)
  grown_line false (Ok action) told is so_far = grown_by action _ _ told is refl refl so_far

-- what is read has an action a line
grown : (number : ℕ) (lines : List (List ℕ)) (before after : List Action)
    → length before ≤ 4096 → sectors_in_all before ≤ 65536
    → after_lines number before lines ≡ Ok after → Grown lines before after
grown number [] before after few sectors so_far =
    let same : before ≡ after = cc in
    record {
      rest = [];
      is = sym same ∙ sym (append-nil before);
      lines_are = refl;
      few = rw (← same) few;
      sectors = rw (← same) sectors;
    }
grown number (line ∷ lines) before after few sectors so_far =
    grown_line number line lines before after few sectors
    (λ next long much is. grown (number + 1) lines next after long much is)
    _ _ refl refl so_far

-- the actions of a text are those of its lines
pub script_has_lines : (text : List ℕ) (actions : List Action) → script_of_text text ≡ Ok actions
    → IsScriptOf text actions
unfolding script_of_text
script_has_lines text actions is =
    let all = grown 1 (lines_of text) [] actions (omega arith) (omega arith) is in
    record {
      lines = all.lines_are ∙ ap (map Ok) (sym all.is);
      few = all.few;
      sectors = all.sectors;
    }

module _ (number : ℕ) (line : List ℕ) (lines : List (List ℕ)) (before : List Action)
    (later : (next rest : List Action) → map action_of (told_of lines) ≡ map Ok rest
    → length (next ++ rest) ≤ 4096 → sectors_in_all (next ++ rest) ≤ 65536
    → after_lines (number + 1) next lines ≡ Ok (next ++ rest)) where
  -- a line that says something is read
  read_one : (action : Action) (rest : List Action) → is_skipped (words_of line) ≡ false
      → action_of (words_of line) ≡ Ok action → map action_of (told_of lines) ≡ map Ok rest
      → length (before ++ (action ∷ rest)) ≤ 4096 → sectors_in_all (before ++ (action ∷ rest)) ≤ 65536
      → after_lines number before (line ∷ lines) ≡ Ok (before ++ (action ∷ rest))
  unfolding after_line joined
  read_one action rest told is others few sectors =
      let whole : before ++ action ∷ [] ++ rest ≡ before ++ (action ∷ rest) =
      append_assoc before (action ∷ []) rest in
      let many : nat_le 4096 (length before) ≡ false =
      grind (arith, nat_tests, length-append before (action ∷ rest)) in
      let much : nat_le (sectors_in_all before + sectors_in action) 65536 ≡ true =
      grind (arith, nat_tests, sectors_in_all-append before (action ∷ rest)) in
      let next = later (before ++ action ∷ []) rest others (rw whole few) (rw whole sectors) in
      rw (told, is, many, much) (next ∙ ap Ok whole)

  -- a line is read, by what it says
  read_line : (skipped : Bool) (rest : List Action) → is_skipped (words_of line) ≡ skipped
      → map action_of (told_of (line ∷ lines)) ≡ map Ok rest
      → length (before ++ rest) ≤ 4096 → sectors_in_all (before ++ rest) ≤ 65536
      → after_lines number before (line ∷ lines) ≡ Ok (before ++ rest)
  unfolding after_line
  read_line true rest told others few sectors =
      let others' = rw told at others in
      rw told (later before rest others' few sectors)
  read_line false [] told others few sectors =
      absurd (let no = rw told at others in cc)
  read_line false (action ∷ rest) told others few sectors =
      let both : action_of (words_of line) ∷ map action_of (told_of lines) ≡ Ok action ∷ map Ok rest =
      rw told at others in
      let is : action_of (words_of line) ≡ Ok action = cc in
      let others' : map action_of (told_of lines) ≡ map Ok rest = cc in
      read_one action rest told is others' few sectors

-- lines that have these actions are read so
read : (number : ℕ) (lines : List (List ℕ)) (before rest : List Action)
    → map action_of (told_of lines) ≡ map Ok rest
    → length (before ++ rest) ≤ 4096 → sectors_in_all (before ++ rest) ≤ 65536
    → after_lines number before lines ≡ Ok (before ++ rest)
read number [] before [] others few sectors = ap Ok (sym (append-nil before))
read number [] before (action ∷ rest) others few sectors = absurd cc
read number (line ∷ lines) before rest others few sectors =
    read_line number line lines before (read (number + 1) lines) _ rest refl others few sectors

-- lines with these actions are a text of them
pub lines_are_script : (text : List ℕ) (actions : List Action) → IsScriptOf text actions
    → script_of_text text ≡ Ok actions
unfolding script_of_text
lines_are_script text actions is =
    read 1 (lines_of text) [] actions is.lines is.few is.sectors
