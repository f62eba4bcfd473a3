-- The characters of a term: its input part, and then its output part.
use Rattle.std.specs.Prelude.{ℕ, Bool, ◌==◌, ◌||◌, ◌&&◌, List, take, drop, map}
use Rattle.std.specs.List.{list_all}
use Rattle.rv_gate.specs.Word.{ones_of}
use Rattle.rv_pla.specs.Pla.{Term}

-- 0 1 - 2
abbrev pub is_input : ℕ → Bool
is_input c = c == 48 || c == 49 || c == 45 || c == 50

-- 0 1 - ~ 2 3 4
abbrev pub is_output : ℕ → Bool
is_output c = c == 48 || c == 49 || c == 45 || c == 126 || c == 50 || c == 51 || c == 52

abbrev pub is_row : ℕ → List ℕ → Bool
is_row inputs row = list_all is_input (take inputs row) && list_all is_output (drop inputs row)

-- one of two characters
abbrev pub either : ℕ → ℕ → ℕ → Bool
either a b c = c == a || c == b

-- the places at which one of two characters stands, as a set
abbrev pub places_of : ℕ → ℕ → List ℕ → ℕ
places_of a b row = ones_of (map (either a b) row)

-- An input is asked for by `0` and `1`. `2` is `-` too, and at an output `4` is `1`.
abbrev pub term_of : ℕ → ℕ → List ℕ → Term
term_of inputs number row =
    let ins = take inputs row in
    let outs = drop inputs row in
    record {
      line = number;
      cube = record { care = places_of 48 49 ins; want = places_of 49 49 ins; outs = places_of 49 52 outs };
      zero_outs = places_of 48 48 outs;
      dash_outs = places_of 45 50 outs;
    }
