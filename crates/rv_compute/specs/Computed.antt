-- What the circuit of a logic network does.
use Rattle.std.specs.Prelude.{ℕ, ◌≡◌, ◌≤◌, Bool, false, List, ◌++◌, length, replicate}
use Rattle.rv_gate.specs.Gate.{run}
use Rattle.rv_gate.specs.Circuit.{Cascade}
use Rattle.rv_gate.specs.Marks.{with_constants, without_garbage}
use Rattle.rv_blif.specs.Logic.{Logic, outputs_of}
use Rattle.rv_forms.specs.Followed.{xor_each}
use Rattle.rv_compute.specs.Lines.{logic_lines}

-- the circuit has the network's lines; whatever the lines of the outputs hold, it adds the network's outputs to them,
-- bit by bit, keeps the inputs, and leaves the work lines at 0
pub record IsComputed (logic : Logic) (c : Cascade) : Type 0 where
  pub work : ℕ
  pub lines : c ≡ record (logic_lines logic work) { gates = c.gates }
  pub adds : (x y : List Bool) → length x ≡ length logic.inputs → length y ≡ length logic.outputs
      → run c.gates ((x ++ y) ++ replicate work false) ≡ (x ++ xor_each y (outputs_of logic x)) ++ replicate work false

-- by its marks the circuit gives the network's outputs at each input word
abbrev pub Gives : Logic → Cascade → Type 0
Gives logic c =
    (x : List Bool) → length x ≡ length logic.inputs
    → without_garbage c.garbage (run c.gates (with_constants c.constants x)) ≡ outputs_of logic x

-- the same, on at most so many lines
pub record IsComputedWithin (logic : Logic) (lines : ℕ) (c : Cascade) : Type 0 where
  pub computed : IsComputed logic c
  pub few : length c.names ≤ lines
