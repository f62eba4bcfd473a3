-- What it takes to replace a flip.
use Rattle.std.specs.Prelude.{◌≡◌, ◌+◌, ◌/◌, ◌^◌, ◌<◌, ◌≤◌, ℕ, false, bit_or}
use Rattle.rv_gate.specs.Word.{has}
use Rattle.rv_gate.specs.declared.word.TheConstants.{MOST_LINES}
use Rattle.rv_gate.specs.Gate.{IsFlipOn, Within}
use Rattle.rv_gate.specs.declared.gate.Shape.TheVariants.{Flip}
use Rattle.rv_mct.specs.declared.aux.Aux.{Aux}
use Rattle.rv_mct.specs.Blocks.{count, is_free, count_lines, below, from, flip_wish}

-- the premises of a long flip
pub record IsLong (n care target : ℕ) : Type 0 where
  pub few : n ≤ MOST_LINES
  pub within : Within care n
  pub aimed : target < n
  pub free : has care target ≡ false

-- the parts of a long flip with too few free lines, but one
pub record IsCut (n care target line helper : ℕ) : Type 0 where
  pub first : IsLong n (below care line) helper
  pub second : IsLong n (bit_or (from care line) (2 ^ helper)) target
  pub half : count_lines (below care line) ≡ (count_lines care + 1) / 2
  pub other : count_lines (bit_or (from care line) (2 ^ helper)) ≡ count_lines care / 2 + 1
  pub enough_first : count_lines (below care line) ≤ count (is_free (below care line) helper) n + 2
  pub enough_second : count_lines (bit_or (from care line) (2 ^ helper))
      ≤ count (is_free (bit_or (from care line) (2 ^ helper)) target) n + 2

-- what it takes to replace a flip
pub record Ready (aux : Aux) (n extra care want target : ℕ) : Type 0 where
  pub few : n + extra ≤ MOST_LINES
  pub own : IsFlipOn n (Flip care want target)
  pub enough : flip_wish aux n (Flip care want target) ≤ extra
