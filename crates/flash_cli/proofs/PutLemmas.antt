-- Files that are put one after the other.
use Rattle.std.proofs.Common.{◌≡◌, ℕ, zero, suc, ◌+◌, ◌<◌, List, [], ◌∷◌, map, length, take, get_or, Option, Some, None, refl, sym, ap, ◌∙◌, arith, add-one}
use Rattle.std.specs.FinMap.{insert}
use Rattle.pipe_ends.specs.declared.file.File.{File}
use Rattle.pipe_ends.specs.Store.{Files, TellsPut}
use Rattle.pipe_ends.specs.MemStore.{named_bytes}
use Rattle.flash_cli.specs.Answer.{TellsPuts, files_after}

-- the first files and one more are put as one more after the first
files_after-next : (files : Files) (given : List File) (i : ℕ) (file : File) → i < length given
    → file ≡ get_or given i file
    → files_after files (take (suc i) (map named_bytes given))
    ≡ insert (files_after files (take i (map named_bytes given))) (named_bytes file).0 (named_bytes file).1
files_after-next files [] i file within is = absurd (omega arith)
files_after-next files (first ∷ given) zero file within is =
    rw (← is) refl
files_after-next files (first ∷ given) (suc i) file within is =
    files_after-next (insert files (named_bytes first).0 (named_bytes first).1) given i file (omega arith) is

-- where the first files were put, and then the next one, one more is put
pub puts_next : (before now after : Option Files) (given : List File) (i : ℕ) (file : File)
    → i < length given → file ≡ get_or given i file
    → TellsPuts before (take i (map named_bytes given)) now
    → TellsPut now (named_bytes file).0 (named_bytes file).1 after
    → TellsPuts before (take (i + 1) (map named_bytes given)) after
puts_next None now after given i file within is puts put = tt
puts_next (Some files) now after given i file within is puts put =
    rw puts at put ∙ ap Some (sym (rw add-one (files_after-next files given i file within is)))

-- no file was put so far
pub puts_none : (before : Option Files) → TellsPuts before [] before
puts_none None = tt
puts_none (Some files) = refl
