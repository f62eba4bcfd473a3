-- What the code keeps of a gate's name and of its operands.
use Rattle.std.specs.Prelude.{◌≡◌, ℕ, ◌+◌, ◌^◌, ◌||◌, if◌then◌else◌, bit_or, ◌-◌, ◌<◌, ◌≤◌, Bool, true, false, List, length, take, All, Option, Some, None, Result, Ok, Err}
use Rattle.rv_gate.specs.Word.{has}
use Rattle.rv_reader.specs.declared.stop.Stop.{Stop}
use Rattle.rv_reader.specs.Gives.{Fails}
use Rattle.rv_real.specs.declared.gate_name.Kind.{Kind}
use Rattle.rv_real.specs.declared.gate_name.Kind.TheVariants as kinds
use Rattle.rv_real.specs.declared.gate_name.GateName.{GateName}
use Rattle.rv_real.specs.declared.operands.Operand.{Operand as AnOperand}
use Rattle.rv_real.specs.declared.operands.Operands.{Operands}
use Rattle.rv_real.specs.Body.{Operand, letter_of, operand_count, is_known, line_set, wanting_one, has_repeated, line_at}

-- ---- the name of a gate

abbrev pub letter_in : Kind → ℕ
letter_in kinds.Flip = 116
letter_in kinds.Swap = 102
letter_in kinds.Peres = 112

-- a gate of a kind has so many operands
abbrev pub TakesOperands : Kind → ℕ → Type 0
TakesOperands kinds.Flip n = 1 ≤ n
TakesOperands kinds.Swap n = 2 ≤ n
TakesOperands kinds.Peres n = n ≡ 3

-- what a known name says
pub record Says (name : List ℕ) (says : GateName) : Type 0 where
  pub known : is_known name ≡ true
  pub letter : letter_of name ≡ letter_in says.kind
  pub operands : operand_count name ≡ says.operands
  pub takes : TakesOperands says.kind says.operands

abbrev pub IsNamed : List ℕ → Option GateName → Type 0
IsNamed name None = is_known name ≡ false
IsNamed name (Some says) = Says name says

-- ---- the operands

abbrev pub operand_in : AnOperand → Operand
operand_in operand = record { line = operand.line; is_negative = operand.is_negative }

-- what is kept after one more operand, which may be a control
abbrev pub pushed : Operands → Operand → Bool → Operands
pushed kept operand is_control =
    record {
      count = kept.count + 1;
      lines = bit_or kept.lines (2 ^ operand.line);
      is_repeated = kept.is_repeated || has kept.lines operand.line;
      care = if is_control then bit_or kept.care (2 ^ operand.line) else kept.care;
      want =
          if is_control then (if operand.is_negative then kept.want else bit_or kept.want (2 ^ operand.line))
          else kept.want;
      first = kept.second;
      second = kept.third;
      third = operand.line;
    }

-- the sets of lines, and the last three lines, of operands of which so many are controls
pub record Gathers (lines controls : ℕ) (operands : List Operand) (kept : Operands) : Type 0 where
  pub count : kept.count ≡ length operands
  pub below : All (λ operand. operand.line < lines) operands
  pub all : kept.lines ≡ line_set operands
  pub is_repeated : kept.is_repeated ≡ has_repeated operands
  pub care : kept.care ≡ line_set (take controls operands)
  pub want : kept.want ≡ line_set (wanting_one (take controls operands))
  pub first : 3 ≤ length operands → kept.first ≡ line_at operands (length operands - 3)
  pub second : 2 ≤ length operands → kept.second ≡ line_at operands (length operands - 2)
  pub third : 1 ≤ length operands → kept.third ≡ line_at operands (length operands - 1)

-- a step that gathered the operands that were wanted, unless memory ran out
abbrev pub GivesOperands : ℕ → ℕ → Result Operands Stop → Result (List Operand) ℕ → Type 0
GivesOperands lines controls (Ok kept) want =
    (operands : List Operand) × (want ≡ Ok operands) × Gathers lines controls operands kept
GivesOperands lines controls (Err e) want = Fails e want
