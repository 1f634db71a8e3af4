-- A sink in memory: the bytes that it took, and which calls fail.
use Rattle.std.specs.Prelude.{ℕ, List, ◌++◌, refl}
use Rattle.std.specs.Coded.{Coded, code_by, coded×, coded_ℕ, coded_list}
use Rattle.pipe_ends.specs.Calls.{Counts, counts_code, after_call}

-- what a sink in memory has: the bytes pushed so far, and its calls
pub record SinkState : Type 0 where
  pub bytes : List ℕ
  pub calls : Counts

-- it is told apart by its two parts
abbrev pub sink_code : Coded SinkState
sink_code =
    code_by (List ℕ × Counts) (coded× (coded_list coded_ℕ) counts_code)
    (λ sink. (sink.bytes, sink.calls))
    (λ parts. record { bytes = parts.0; calls = parts.1 }) (λ _. refl)

-- one more call came, and the bytes stayed
abbrev pub refused : SinkState → SinkState
refused sink = record { bytes = sink.bytes; calls = after_call sink.calls }

-- one more call came, and its bytes stand after the others
abbrev pub appended : SinkState → List ℕ → SinkState
appended sink bytes = record { bytes = sink.bytes ++ bytes; calls = after_call sink.calls }
