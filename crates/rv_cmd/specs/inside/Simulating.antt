-- A circuit that was read before words are answered by it.
use Rattle.std.specs.Prelude.{◌≡◌, ℕ, ◌≤◌, true, List, length, Some, Ok}
use Rattle.rv_gate.specs.Circuit.{Cascade}
use Rattle.rv_io.specs.Files.{FilesView, Keeps}
use Rattle.rv_text.specs.declared.lines.TheConstants.{MOST_BYTES}
use Rattle.rv_inputs.specs.Formats.{circuit}

pub record IsReady (c : Cascade) (name : List ℕ) (old mid : FilesView) : Type 0 where
  pub text : List ℕ
  pub told : old.tells ≡ true → old.held name ≡ Some text
  pub short : length text ≤ MOST_BYTES
  pub is : circuit text ≡ Ok c
  pub keeps : Keeps old mid
