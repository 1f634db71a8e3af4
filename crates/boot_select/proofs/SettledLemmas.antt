-- What it says that an update may begin, in facts.
use Rattle.std.proofs.Common.{IfSome, ◌==◌, ◌≡◌, ◌≢◌, ◌↔◌, ◌<◌, ℕ, zero, suc, Bool, true, false, Option, Some, None, Ok, Err, refl, sym, ap, ◌∙◌, ◌⊎◌, inl, inr, subst, arith}
use Rattle.std.proofs.lemmas.Bool.{cases_Bool}
use Rattle.std.proofs.lemmas.Bool.Decides.{nat_tests}
use Rattle.otadata.specs.declared.entry.Entry.{Entry}
use Rattle.otadata.specs.Choice.{active_of}
use Rattle.otadata.proofs.ChoiceLemmas.{active-lt}
use Rattle.partition_table.specs.declared.app.App.{App}
use Rattle.partition_table.specs.declared.app.App.TheVariants.{Ota, Factory, Test}
use Rattle.partition_table.specs.Layout.{Places}
use Rattle.boot_select.specs.declared.settling.Unsettled.{Unsettled}
use Rattle.boot_select.specs.declared.settling.Unsettled.TheVariants.{Waiting, NoApp, Fallback}
use Rattle.boot_select.specs.Choice.{named_of}
use Rattle.boot_select.specs.Candidates.{started_from}
use Rattle.boot_select.specs.Settled.{FallsBack, NoneStarts, NoneWaits, Settles, Waits, is_same, or_else, sectors, settled_by, settled_of, started_as, waiting_in, waiting_new, waiting_of}

-- the test of two applications is the fact
pub is_same-true : (a b : App) → (is_same a b ≡ true) ↔ (a ≡ b)
is_same-true (Ota a) (Ota b) = grind (arith, nat_tests)
is_same-true (Ota a) Factory = grind arith
is_same-true (Ota a) Test = grind arith
is_same-true Factory (Ota b) = grind arith
is_same-true Factory Factory = grind arith
is_same-true Factory Test = grind arith
is_same-true Test (Ota b) = grind arith
is_same-true Test Factory = grind arith
is_same-true Test Test = grind arith

-- an entry doesn't wait in a state that it hasn't
waiting_in-none : (sector : ℕ) (e : Entry) (state : ℕ) → (waiting_in sector e state ≡ None) ↔ (e.state ≢ state)
waiting_in-none sector e state = grind (arith, nat_tests)

-- neither is something
or_else-none : (one other : Option Unsettled) → (or_else one other ≡ None) ↔ ((one ≡ None) × (other ≡ None))
or_else-none None other = (λ none. (refl, none), λ both. both.1)
or_else-none (Some why) other = (λ none. (none, absurd cc), λ both. both.0)

-- the active entry isn't new
new-none : (e0 e1 : Entry) (active : Option ℕ)
    → (waiting_new e0 e1 active ≡ None) ↔ ((y : ℕ) → active ≡ Some y → (sectors e0 e1 y).state ≢ 0)
new-none e0 e1 None = (λ none y is. absurd cc, λ all. refl)
new-none e0 e1 (Some zero) =
    let test = waiting_in-none 0 e0 0 in
    let P : ℕ → Type 0 = λ y. (sectors e0 e1 y).state ≢ 0 in
    (λ none y is. let same : 0 ≡ y = cc in subst P same (test.0 none), λ all. test.1 (all 0 refl))
new-none e0 e1 (Some (suc n)) =
    let test = waiting_in-none 1 e1 0 in
    let P : ℕ → Type 0 = λ y. (sectors e0 e1 y).state ≢ 0 in
    (λ none y is. let same : suc n ≡ y = cc in subst P same (test.0 none), λ all. test.1 (all (suc n) refl))

-- the test that no entry waits is the fact
pub none-waits : (e0 e1 : Entry) → (waiting_of e0 e1 ≡ None) ↔ NoneWaits e0 e1
unfolding waiting_of
none-waits e0 e1 =
    let new = waiting_new e0 e1 (active_of e0 e1) in
    let outer = or_else-none (waiting_in 0 e0 1) (or_else (waiting_in 1 e1 1) new) in
    let inner = or_else-none (waiting_in 1 e1 1) new in
    let first = waiting_in-none 0 e0 1 in
    let second = waiting_in-none 1 e1 1 in
    let active = new-none e0 e1 (active_of e0 e1) in (
      λ none. let both = outer.0 none in
          let rest = inner.0 both.1 in
          record { first = first.0 both.0; second = second.0 rest.0; active = active.0 rest.1 },
      λ fact. outer.1 (first.1 fact.first, inner.1 (second.1 fact.second, active.1 fact.active)),
    )

-- ---- what settled answers

-- the answer where no entry waits, and some application starts
started_as-ok : (named started app : App) → (started_as named (Some started) ≡ Ok app) ↔ ((named ≡ app) × (started ≡ app))
started_as-ok named started app = at (cases_Bool (is_same started named))
  where
    at : (is_same started named ≡ true) ⊎ (is_same started named ≡ false)
        → (started_as named (Some started) ≡ Ok app) ↔ ((named ≡ app) × (started ≡ app))
    at (inl same) =
        let equal : started ≡ named = (is_same-true started named).0 same in
        rw same (λ ok. let is : named ≡ app = cc in (is, equal ∙ is), λ both. ap Ok both.0)
    at (inr differs) =
        rw differs (
          λ ok. absurd cc,
          λ both.
              let equal : started ≡ named = both.1 ∙ sym both.0 in
              let same = (is_same-true started named).1 equal in
              absurd cc,
        )

-- that another application starts than the one that is named
started_as-other : (named started n s : App)
    → (started_as named (Some started) ≡ Err (Fallback n s)) ↔ ((named ≡ n) × (started ≡ s) × (s ≢ n))
started_as-other named started n s = at (cases_Bool (is_same started named))
  where
    at : (is_same started named ≡ true) ⊎ (is_same started named ≡ false)
        → (started_as named (Some started) ≡ Err (Fallback n s)) ↔ ((named ≡ n) × (started ≡ s) × (s ≢ n))
    at (inl same) =
        let equal : started ≡ named = (is_same-true started named).0 same in
        rw same (λ ok. absurd cc, λ parts. absurd (parts.2 (sym parts.1 ∙ equal ∙ parts.0)))
    at (inr differs) =
        rw differs (
          λ err. let one : named ≡ n = cc in
              let other : started ≡ s = cc in
              (one, other, λ equal. let same = (is_same-true started named).1 (other ∙ equal ∙ sym one) in absurd cc),
          λ parts. let one = parts.0 in let other = parts.1 in cc,
        )

-- it is no other answer than that no application starts
started_as-none : (named : App) (started : Option App) → (started_as named started ≡ Err NoApp) ↔ (started ≡ None)
started_as-none named None = (λ err. refl, λ none. refl)
started_as-none named (Some started) = at (cases_Bool (is_same started named))
  where
    at : (is_same started named ≡ true) ⊎ (is_same started named ≡ false)
        → (started_as named (Some started) ≡ Err NoApp) ↔ (◌≡◌ {A = Option App} (Some started) None)
    at (inl same) = rw same (λ ok. absurd cc, λ none. absurd cc)
    at (inr differs) = rw differs (λ ok. absurd cc, λ none. absurd cc)

-- the application that runs
by-ok : (w : Option Unsettled) (named : App) (started : Option App) (app : App)
    → (settled_by w named started ≡ Ok app) ↔ ((w ≡ None) × (named ≡ app) × (started ≡ Some app))
by-ok (Some why) named started app = (λ ok. absurd cc, λ parts. absurd (let none = parts.0 in cc))
by-ok None named None app = (λ ok. absurd cc, λ parts. absurd (let none = parts.2 in cc))
by-ok None named (Some started) app =
    let is = started_as-ok named started app in
    (λ ok. (refl, (is.0 ok).0, ap Some (is.0 ok).1), λ parts. let some = parts.2 in is.1 (parts.1, cc))

-- that none does
by-none : (w : Option Unsettled) (named : App) (started : Option App)
    → (w ≢ Some NoApp)
    → (settled_by w named started ≡ Err NoApp) ↔ ((w ≡ None) × (started ≡ None))
by-none (Some why) named started other = (λ err. absurd (other cc), λ parts. absurd (let none = parts.0 in cc))
by-none None named started other =
    let is = started_as-none named started in
    (λ err. (refl, is.0 err), λ parts. is.1 parts.1)

-- that another one does than the one that is named
by-other : (w : Option Unsettled) (named : App) (started : Option App) (n s : App)
    → (w ≢ Some (Fallback n s))
    → (settled_by w named started ≡ Err (Fallback n s)) ↔ ((w ≡ None) × (named ≡ n) × (started ≡ Some s) × (s ≢ n))
by-other (Some why) named started n s other = (λ err. absurd (other cc), λ parts. absurd (let none = parts.0 in cc))
by-other None named None n s other = (λ err. absurd cc, λ parts. absurd (let none = parts.2 in cc))
by-other None named (Some started) n s other =
    let is = started_as-other named started n s in (
      λ err. (refl, (is.0 err).0, ap Some (is.0 err).1, (is.0 err).2),
      λ parts. let some = parts.2 in is.1 (parts.1, cc, parts.3),
    )

-- that an entry waits
by-waiting : (w : Option Unsettled) (named : App) (started : Option App) (sector state : ℕ)
    → (settled_by w named started ≡ Err (Waiting sector state)) ↔ (w ≡ Some (Waiting sector state))
by-waiting (Some why) named started sector state = (λ err. cc, λ some. cc)
by-waiting None named None sector state = (λ err. absurd cc, λ some. absurd cc)
by-waiting None named (Some started) sector state = at (cases_Bool (is_same started named))
  where
    at : (is_same started named ≡ true) ⊎ (is_same started named ≡ false)
        → (started_as named (Some started) ≡ Err (Waiting sector state))
        ↔ (◌≡◌ {A = Option Unsettled} None (Some (Waiting sector state)))
    at (inl same) = rw same (λ ok. absurd cc, λ none. absurd cc)
    at (inr differs) = rw differs (λ ok. absurd cc, λ none. absurd cc)

-- the entry in a sector as one that waits: which answers it gives
waiting_in-some : (sector : ℕ) (e : Entry) (state : ℕ) (why : Unsettled)
    → (waiting_in sector e state ≡ Some why) ↔ ((e.state ≡ state) × (why ≡ Waiting sector state))
waiting_in-some sector e state why = at (cases_Bool (e.state == state))
  where
    at : ((e.state == state) ≡ true) ⊎ ((e.state == state) ≡ false)
        → (waiting_in sector e state ≡ Some why) ↔ ((e.state ≡ state) × (why ≡ Waiting sector state))
    at (inl same) =
        let equal : e.state ≡ state = grind (arith, nat_tests) in
        rw same (λ some. (equal, cc), λ both. let is = both.1 in cc)
    at (inr differs) =
        let other : e.state ≢ state = grind (arith, nat_tests) in
        rw differs (λ some. absurd cc, λ both. absurd (other both.0))

-- the first of two, or the second where the first is none
or_else-some : (one other : Option Unsettled) (why : Unsettled)
    → (or_else one other ≡ Some why) ↔ ((one ≡ Some why) ⊎ ((one ≡ None) × (other ≡ Some why)))
or_else-some None other why =
    (λ is. inr (refl, is), λ either. elim either [ inl some ↦ absurd cc | inr both ↦ both.1 ])
or_else-some (Some one) other why =
    (λ is. inl is, λ either. elim either [ inl some ↦ some | inr both ↦ absurd (let none = both.0 in cc) ])

-- the active entry waits where it is new
new-some : (e0 e1 : Entry) (active : Option ℕ) (sector state : ℕ) → ((y : ℕ) → active ≡ Some y → y < 2)
    → (waiting_new e0 e1 active ≡ Some (Waiting sector state))
    ↔ ((state ≡ 0) × (active ≡ Some sector) × ((sectors e0 e1 sector).state ≡ 0))
new-some e0 e1 None sector state two = (λ some. absurd cc, λ parts. absurd (let none = parts.1 in cc))
new-some e0 e1 (Some zero) sector state two =
    let test = waiting_in-some 0 e0 0 (Waiting sector state) in
    let P : ℕ → Type 0 = λ y. (sectors e0 e1 y).state ≡ 0 in (
      λ some. let why = (test.0 some).1 in
          let is : 0 ≡ sector = cc in
          let last : state ≡ 0 = cc in
          (last, ap Some is, subst P is (test.0 some).0),
      λ parts. let is = parts.1 in
          let same : sector ≡ 0 = cc in
          let last = parts.0 in
          test.1 (subst P same parts.2, cc),
    )
new-some e0 e1 (Some (suc zero)) sector state two =
    let test = waiting_in-some 1 e1 0 (Waiting sector state) in
    let P : ℕ → Type 0 = λ y. (sectors e0 e1 y).state ≡ 0 in (
      λ some. let why = (test.0 some).1 in
          let is : 1 ≡ sector = cc in
          let last : state ≡ 0 = cc in
          (last, ap Some is, subst P is (test.0 some).0),
      λ parts. let is = parts.1 in
          let same : sector ≡ 1 = cc in
          let last = parts.0 in
          test.1 (subst P same parts.2, cc),
    )
new-some e0 e1 (Some (suc (suc n))) sector state two = let less = two (suc (suc n)) refl in absurd (omega arith)

-- the active entry is one of the two
two_entries : (e0 e1 : Entry) (y : ℕ) → active_of e0 e1 ≡ Some y → y < 2
two_entries e0 e1 y is = let P : Option ℕ → Type 0 = λ o. IfSome o (λ number. number < 2) in subst P is (active-lt e0 e1)

-- which entry waits
pub waits-some : (e0 e1 : Entry) (sector state : ℕ)
    → (waiting_of e0 e1 ≡ Some (Waiting sector state)) ↔ Waits e0 e1 sector state
unfolding waiting_of
waits-some e0 e1 sector state =
    let new = waiting_new e0 e1 (active_of e0 e1) in
    let why = Waiting sector state in
    let outer = or_else-some (waiting_in 0 e0 1) (or_else (waiting_in 1 e1 1) new) why in
    let inner = or_else-some (waiting_in 1 e1 1) new why in
    let first = waiting_in-some 0 e0 1 why in
    let second = waiting_in-some 1 e1 1 why in
    let active = new-some e0 e1 (active_of e0 e1) sector state (two_entries e0 e1) in
    let no_first = waiting_in-none 0 e0 1 in
    let no_second = waiting_in-none 1 e1 1 in (
      λ some. elim (outer.0 some) [
        | inl one ↦ let is = (first.0 one).1 in inl (cc, cc, (first.0 one).0)
        | inr rest ↦ elim (inner.0 rest.1) [
          | inl two ↦ let is = (second.0 two).1 in inr (inl (cc, cc, no_first.0 rest.0, (second.0 two).0))
          | inr three ↦ let last = active.0 three.1 in
              inr (inr (last.0, no_first.0 rest.0, no_second.0 three.0, last.1, last.2))
        ]
      ],
      λ waits. elim waits [
        | inl one ↦ let p = one.0 in let q = one.1 in outer.1 (inl (first.1 (one.2, cc)))
        | inr rest ↦ elim rest [
          | inl two ↦ let p = two.0 in let q = two.1 in
              outer.1 (inr (no_first.1 two.2, inner.1 (inl (second.1 (two.3, cc)))))
          | inr three ↦
              outer.1 (inr (no_first.1 three.1, inner.1 (inr (no_second.1 three.2, active.1 (three.0, three.3, three.4)))))
        ]
      ],
    )

-- it is nothing else than an entry that waits
waits-only : (e0 e1 : Entry) (why : Unsettled) → waiting_of e0 e1 ≡ Some why
    → (why ≢ NoApp) × ((n s : App) → why ≢ Fallback n s)
unfolding waiting_of
waits-only e0 e1 why some =
    let new = waiting_new e0 e1 (active_of e0 e1) in
    let outer = or_else-some (waiting_in 0 e0 1) (or_else (waiting_in 1 e1 1) new) why in
    let inner = or_else-some (waiting_in 1 e1 1) new why in
    elim (outer.0 some) [
      | inl one ↦ let is = ((waiting_in-some 0 e0 1 why).0 one).1 in (λ e. absurd cc, λ n s e. absurd cc)
      | inr rest ↦ elim (inner.0 rest.1) [
        | inl two ↦ let is = ((waiting_in-some 1 e1 1 why).0 two).1 in (λ e. absurd cc, λ n s e. absurd cc)
        | inr three ↦ new_only e0 e1 (active_of e0 e1) why three.1
      ]
    ]
  where
    new_only : (e0 e1 : Entry) (active : Option ℕ) (why : Unsettled) → waiting_new e0 e1 active ≡ Some why
        → (why ≢ NoApp) × ((n s : App) → why ≢ Fallback n s)
    new_only e0 e1 None why is = absurd cc
    new_only e0 e1 (Some zero) why some =
        let is = ((waiting_in-some 0 e0 0 why).0 some).1 in (λ e. absurd cc, λ n s e. absurd cc)
    new_only e0 e1 (Some (suc n)) why some =
        let is = ((waiting_in-some 1 e1 0 why).0 some).1 in (λ e. absurd cc, λ n s e. absurd cc)

-- ---- the four answers

-- which application runs
pub settled-ok : (layout : Places) (whole : App → Bool) (e0 e1 : Entry) (app : App)
    → (settled_of layout whole e0 e1 ≡ Ok app) ↔ Settles layout whole e0 e1 app
unfolding settled_of
settled-ok layout whole e0 e1 app =
    let named = named_of layout e0 e1 in
    let by = by-ok (waiting_of e0 e1) named (started_from layout whole named) app in
    let quiet = none-waits e0 e1 in (
      λ ok. record { none_waits = quiet.0 (by.0 ok).0; named = (by.0 ok).1; started = (by.0 ok).2 },
      λ fact. by.1 (quiet.1 fact.none_waits, fact.named, fact.started),
    )

-- that none does
pub settled-none : (layout : Places) (whole : App → Bool) (e0 e1 : Entry)
    → (settled_of layout whole e0 e1 ≡ Err NoApp) ↔ NoneStarts layout whole e0 e1
unfolding settled_of
settled-none layout whole e0 e1 =
    let named = named_of layout e0 e1 in
    let by = by-none (waiting_of e0 e1) named (started_from layout whole named) (λ is. (waits-only e0 e1 NoApp is).0 refl) in
    let quiet = none-waits e0 e1 in (
      λ err. record { none_waits = quiet.0 (by.0 err).0; none_started = (by.0 err).1 },
      λ fact. by.1 (quiet.1 fact.none_waits, fact.none_started),
    )

-- that another one does than the one that is named
pub settled-other : (layout : Places) (whole : App → Bool) (e0 e1 : Entry) (n s : App)
    → (settled_of layout whole e0 e1 ≡ Err (Fallback n s)) ↔ FallsBack layout whole e0 e1 n s
unfolding settled_of
settled-other layout whole e0 e1 n s =
    let named = named_of layout e0 e1 in
    let by = by-other (waiting_of e0 e1) named (started_from layout whole named) n s (λ is. (waits-only e0 e1 (Fallback n s) is).1 n s refl) in
    let quiet = none-waits e0 e1 in (
      λ err. let parts = by.0 err in
          record { none_waits = quiet.0 parts.0; named_is = parts.1; started_is = parts.2; differs = parts.3 },
      λ fact. by.1 (quiet.1 fact.none_waits, fact.named_is, fact.started_is, fact.differs),
    )

-- that an entry waits
pub settled-waiting : (layout : Places) (whole : App → Bool) (e0 e1 : Entry) (sector state : ℕ)
    → (settled_of layout whole e0 e1 ≡ Err (Waiting sector state)) ↔ Waits e0 e1 sector state
unfolding settled_of
settled-waiting layout whole e0 e1 sector state =
    let named = named_of layout e0 e1 in
    let by = by-waiting (waiting_of e0 e1) named (started_from layout whole named) sector state in
    let waits = waits-some e0 e1 sector state in
    (λ err. waits.0 (by.0 err), λ fact. by.1 (waits.1 fact))
