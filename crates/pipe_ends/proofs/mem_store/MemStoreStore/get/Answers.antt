use Rattle.std.proofs.Common.{◌≡◌, None, Some, ap, arith, sym, refl, ◌∙◌}
use Rattle.std.proofs.lemmas.Grind.{common_steps}
use Rattle.std.specs.FinMap.{get}
use Rattle.std.specs.List.{position}
use Rattle.pipe_ends.specs.declared.file.File.{File}
use Rattle.pipe_ends.specs.Calls.{fails_next}
use Rattle.pipe_ends.specs.MemStore.{StoreState, files_of, has_name}
use Rattle.pipe_ends.specs.Store.{Files}
use Rattle.pipe_ends.proofs.FilesLemmas.{get_none, get_some, found}
use Rattle.pipe_ends.proofs.mem_store.MemStoreStore.get.Goals as goal

-- The call does not fail, and no file of the list has the name.
pub returns-in_default-clause-absent : goal.returns-in_default-clause-absent
returns-in_default-clause-absent c =
    let seen : files_of c.self.inside.files.items ≡ c.args.self.now.files = ap (λ (s : StoreState). s.files) c.self.view_is in
    let none : position (has_name c.args.name.now) c.self.inside.files.items ≡ None = cc in
    let calls : fails_next c.self.inside.calls ≡ fails_next c.args.self.now.calls = ap (λ (s : StoreState). fails_next s.calls) c.self.view_is in
    (λ _. (sym calls ∙ sym c.next_fails.ensures.exact ∙ c.if-next_fails.false, rw (← seen) (get_none _ _ none)), λ _. refl)

-- A file of the list has the name.
pub returns-in_err-from_slice-clause-absent : goal.returns-in_err-from_slice-clause-absent
returns-in_err-from_slice-clause-absent c =
    let seen : files_of c.self.inside.files.items ≡ c.args.self.now.files = ap (λ (s : StoreState). s.files) c.self.view_is in
    let some : position (has_name c.args.name.now) c.self.inside.files.items ≡ Some c.in-Some.place = cc in
    (λ is. absurd (grind (arith, common_steps, is)), λ lacks. absurd (found _ _ _ some (ap (λ (all : Files). get all c.args.name.now) seen ∙ lacks.1)))

-- A file of the list has the name.
pub returns-clause-absent : goal.returns-clause-absent
returns-clause-absent c =
    let seen : files_of c.self.inside.files.items ≡ c.args.self.now.files = ap (λ (s : StoreState). s.files) c.self.view_is in
    let some : position (has_name c.args.name.now) c.self.inside.files.items ≡ Some c.in-Some.place = cc in
    (λ is. cc, λ lacks. absurd (found _ _ _ some (ap (λ (all : Files). get all c.args.name.now) seen ∙ lacks.1)))

-- The bytes are those of the first file that has the name.
pub returns-clause-bytes : goal.returns-clause-bytes
returns-clause-bytes c =
    let seen : files_of c.self.inside.files.items ≡ c.args.self.now.files = ap (λ (s : StoreState). s.files) c.self.view_is in
    let some : position (has_name c.args.name.now) c.self.inside.files.items ≡ Some c.in-Some.place = cc in
    let has = get_some c.args.name.now c.self.inside.files.items c.in-Some.place c.index.result.now some in
    rw (← seen) (has ∙ ap Some (ap (λ (f : File). f.bytes.items) (sym c.index.ensures) ∙ sym c.deref-2.ensures.value ∙ sym c.in_ok-from_slice.ensures.items))
