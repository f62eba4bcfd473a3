-- Names of lines, by the rule of RevLib's `.variables`.
use Rattle.std.specs.Prelude.{ℕ, ◌≢◌, ◌≤◌, Bool, not, List, ◌∷◌, length, map, ◌==◌, ◌&&◌, slice_index, nat_lt, All, AllPairs, IsTrue, decimal}
use Rattle.std.specs.List.{list_all, range_with_len}
use Rattle.rv_gate.specs.declared.word.TheConstants.{MOST_LINES}

-- no space, tab, CR, LF, `#` or `"`
abbrev pub is_name_byte : ℕ → Bool
is_name_byte byte =
    not (byte == 32) && not (byte == 9) && not (byte == 13) && not (byte == 10) && not (byte == 35) && not (byte == 34)

-- one or more such bytes, the first not `-` or `.`
abbrev pub is_name : List ℕ → Bool
is_name name =
    nat_lt 0 (length name) && not (slice_index name 0 == 45) && not (slice_index name 0 == 46)
    && list_all is_name_byte name

abbrev pub IsName : List ℕ → Type 0
IsName name = IsTrue (is_name name)

-- what the names of a circuit's lines keep
pub record AreNames (names : List (List ℕ)) : Type 0 where
  pub few : length names ≤ MOST_LINES
  pub each : All IsName names
  pub apart : AllPairs (λ x y. x ≢ y) names

-- the prefix, then the digits of the line
abbrev pub numbered_name : ℕ → ℕ → List ℕ
numbered_name prefix line = prefix ∷ decimal line

-- the names of the lines 0, 1, .. below a count
abbrev pub numbered : ℕ → ℕ → List (List ℕ)
numbered prefix count = map (numbered_name prefix) (range_with_len 0 count)

-- the prefix is a lower-case ASCII letter
abbrev pub IsPrefixByte : ℕ → Type 0
IsPrefixByte byte = (97 ≤ byte) × (byte ≤ 122)
