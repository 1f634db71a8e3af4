use Rattle.std.proofs.Common.{◌≡◌, ℕ, List, None, Some, ap, ◌∙◌}
use Rattle.std.specs.FinMap.{insert}
use Rattle.std.specs.List.{position}
use Rattle.std.specs.String.{string_bytes}
use Rattle.pipe_ends.specs.declared.file.File.{File}
use Rattle.pipe_ends.specs.Calls.{after_call}
use Rattle.pipe_ends.specs.MemStore.{StoreState, files_of, has_name}
use Rattle.pipe_ends.specs.Store.{Files}
use Rattle.pipe_ends.proofs.FilesLemmas.{files_of-set, files_of_push, same_state}
use Rattle.pipe_ends.proofs.mem_store.MemStoreStore.put.Goals as goal

-- The first file that has the name gets the bytes.
pub returns-in-Some-clause-ok : goal.returns-in-Some-clause-ok
returns-in-Some-clause-ok c =
    let files = c.self.inside.files.items in
    let name = c.args.name.now in
    let some : position (has_name name) files ≡ Some c.in-Some.place = cc in
    let file : File = record { name = c.index_mut.result.now.name; bytes = c.in_ok-bytes.bytes } in
    let kept = ap (λ (f : File). string_bytes f.name) c.index_mut.ensures.value in
    same_state _ _ (
    files_of-set name files c.in-Some.place c.index_mut.result.now file some kept
    ∙ ap (insert (files_of files) name) c.in_ok-bytes.ensures.items
    ∙ ap (λ (all : Files). insert all name c.args.bytes.now) (ap (λ (s : StoreState). s.files) c.self.view_is)
    ) (c.next_fails.ensures.counted ∙ ap after_call (ap (λ (s : StoreState). s.calls) c.self.view_is))

-- A file of the name stands after the others.
pub returns-in_ok-push-in-None-clause-ok : goal.returns-in_ok-push-in-None-clause-ok
returns-in_ok-push-in-None-clause-ok c =
    let files = c.self.inside.files.items in
    let name = c.args.name.now in
    let none : position (has_name name) files ≡ None = cc in
    let file : File = record { name = c.in_ok-name-in-None.name; bytes = c.in_ok-bytes.bytes } in
    let named : string_bytes file.name ≡ name = c.in_ok-name-in-None.ensures.ok in
    same_state _ _ (
    ap files_of c.in_ok-push-in-None.ensures.items
    ∙ files_of_push files file (rw named none)
    ∙ ap (λ (n : List ℕ). insert (files_of files) n file.bytes.items) named
    ∙ ap (insert (files_of files) name) c.in_ok-bytes.ensures.items
    ∙ ap (λ (all : Files). insert all name c.args.bytes.now) (ap (λ (s : StoreState). s.files) c.self.view_is)
    ) (c.next_fails.ensures.counted ∙ ap after_call (ap (λ (s : StoreState). s.calls) c.self.view_is))
