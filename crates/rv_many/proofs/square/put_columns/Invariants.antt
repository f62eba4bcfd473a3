use Rattle.std.proofs.Common.{◌≡◌, ◌≢◌, ℕ, ◌+◌, ◌*◌, ◌<◌}
use Rattle.rv_gate.specs.Word.{has}
use Rattle.rv_many.specs.Square.{AreEight, byte_of}
use Rattle.rv_many.proofs.square.put_columns.Given as goal

abbrev pub invariant-loop-i : goal.invariant-loop-i
invariant-loop-i l = record {
  numbers : AreEight l.numbers;
  columns : (i j : ℕ) → i < l.i → j < 8 → has (byte_of l.numbers i l.at) j ≡ has l.rows (8 * i + j);
  others : (i k : ℕ) → k ≢ l.at → byte_of l.numbers i k ≡ byte_of l.initial.numbers i k;
}
