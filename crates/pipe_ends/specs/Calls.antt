-- Calls that are counted, of which some fail: how the store and the sink in memory make faults.
use Rattle.std.specs.Prelude.{ℕ, ◌+◌, ◌-◌, ◌^◌, min, nat_eq, Bool, if◌then◌else◌, List, refl}
use Rattle.std.specs.Coded.{Coded, code_by, coded×, coded_ℕ, coded_list}
use Rattle.std.specs.List.{list_any}

-- which calls fail, by their numbers from 1; how many calls came; and how many of them failed
pub record Counts : Type 0 where
  pub failing : List ℕ
  pub made : ℕ
  pub faults : ℕ

-- they are told apart by their three parts
abbrev pub counts_code : Coded Counts
counts_code =
    code_by (List ℕ × (ℕ × ℕ)) (coded× (coded_list coded_ℕ) (coded× coded_ℕ coded_ℕ))
    (λ c. (c.failing, (c.made, c.faults)))
    (λ p. record { failing = p.0; made = p.1.0; faults = p.1.1 }) (λ _. refl)

-- a count with one more, or its last value
abbrev pub one_more : ℕ → ℕ
one_more n = min (n + 1) (2 ^ 64 - 1)

-- whether the next call is one that fails
abbrev pub fails_next : Counts → Bool
fails_next c = list_any (λ number. nat_eq number (one_more c.made)) c.failing

-- the counts after the next call
abbrev pub after_call : Counts → Counts
after_call c = record {
  failing = c.failing;
  made = one_more c.made;
  faults = if fails_next c then one_more c.faults else c.faults;
}
