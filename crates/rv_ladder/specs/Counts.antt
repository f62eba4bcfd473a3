-- How many operations the network of a circuit has, and how many of them are T or its inverse, and H.
use Rattle.std.specs.Prelude.{ℕ, ◌+◌, ◌-◌, ◌*◌, ◌/◌, ◌==◌, ◌&&◌, not, List, nat_lt, if◌then◌else◌}
use Rattle.std.specs.List.{sum_by}
use Rattle.rv_gate.specs.Circuit.{Cascade}
use Rattle.rv_gate.specs.Word.{has}
use Rattle.rv_gate.specs.declared.gate.Shape.{Shape}
use Rattle.rv_gate.specs.declared.gate.Shape.TheVariants.{Flip, Swap, Peres}
use Rattle.rv_gate.specs.declared.word.TheConstants.{MOST_LINES}
use Rattle.rv_mct.specs.Blocks.{count, count_lines, flips_of, is_free}
use Rattle.rv_mct.specs.Widened.{lines_with_helpers}
use Rattle.rv_mct.specs.declared.aux.Aux.{Aux}
use Rattle.rv_mct.specs.declared.aux.Aux.TheVariants.{Borrowed, Clean}

-- What is counted: of an X round a control that wants 0; of a flip with at most two controls that want 1; and of one
-- with three or more, over borrowed lines enough, and over clean ones.
pub record Counted : Type 0 where
  pub zero : ℕ
  pub plain : ℕ → ℕ
  pub borrowed : ℕ → ℕ
  pub clean : ℕ → ℕ

-- all operations
abbrev pub operations : Counted
operations = record {
  zero = 1;
  plain = λ n. if n == 2 then 15 else 1;
  borrowed = λ n. 20 * n - 24;
  clean = λ n. 18 * n - 21;
}

-- T and its inverse
abbrev pub turns : Counted
turns = record {
  zero = 0;
  plain = λ n. if n == 2 then 7 else 0;
  borrowed = λ n. 8 * n - 8;
  clean = λ n. 8 * n - 9;
}

-- H
abbrev pub hadamards : Counted
hadamards = record {
  zero = 0;
  plain = λ n. if n == 2 then 2 else 0;
  borrowed = λ n. 4 * n - 6;
  clean = λ n. 4 * n - 6;
}

-- how many controls want 0
abbrev pub zero_count : ℕ → ℕ → ℕ
zero_count care want = count (λ line. has care line && not (has want line)) MOST_LINES

module _ (counted : Counted) where
  -- with borrowed lines enough
  abbrev pub ladder_count : ℕ → ℕ
  ladder_count controls = if nat_lt controls 3 then counted.plain controls else counted.borrowed controls

  -- by the free lines, the controls and those of them that want 0; a split has each half twice
  abbrev pub long_count : Aux → ℕ → ℕ → ℕ → ℕ
  long_count Clean free controls zeros = counted.clean controls + 2 * (counted.zero * zeros)
  long_count Borrowed free controls zeros =
      if nat_lt (free + 2) controls
      then 2 * ladder_count ((controls + 1) / 2) + 2 * ladder_count (controls / 2 + 1) + 4 * (counted.zero * zeros)
      else ladder_count controls + 2 * (counted.zero * zeros)

  -- of a flip, by the free lines among all
  abbrev pub flip_count : Aux → ℕ → Shape → ℕ
  flip_count aux lines (Flip care want target) =
      if nat_lt (count_lines care) 3
      then counted.plain (count_lines care) + 2 * (counted.zero * zero_count care want)
      else long_count aux (count (is_free care target) lines) (count_lines care) (zero_count care want)
  flip_count aux lines (Swap care want a b) = 0
  flip_count aux lines (Peres a b c) = 0

  abbrev pub gate_count : Aux → ℕ → Shape → ℕ
  gate_count aux lines g = sum_by (flip_count aux lines) (flips_of g)

  abbrev pub gates_count : Aux → ℕ → List Shape → ℕ
  gates_count aux lines gates = sum_by (gate_count aux lines) gates

  -- of a circuit, with as many helper lines as it wants
  abbrev pub relative_count : Aux → Cascade → ℕ
  relative_count aux c = gates_count aux (lines_with_helpers aux c) c.gates
