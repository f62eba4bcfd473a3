use Rattle.std.proofs.Common.{◌≡◌, ℕ, ◌<◌, Bool, true, false, length}
use Rattle.rv_gate.specs.Word.{has}
use Rattle.rv_net.specs.declared.op.Op.{Op}
use Rattle.rv_pairs.specs.inside.Cells.{StandsAt}
use Rattle.rv_pairs.specs.inside.Chained.{AreChains}
use Rattle.rv_pairs.proofs.chains.Chains.is_free.Given as goal

abbrev pub invariant-loop-left : goal.invariant-loop-left
invariant-loop-left l = record {
  count : length l.self.heads.items ≡ length l.initial.self.heads.items;
  among : (slot : ℕ) → slot < 64 → has l.left slot ≡ true → has l.set slot ≡ true;
  chains : (belongs : ℕ → Op → Bool) → AreChains belongs l.cells (length l.cells) l.initial.self → AreChains belongs l.cells (length l.cells) l.self;
  done : (belongs : ℕ → Op → Bool) → AreChains belongs l.cells (length l.cells) l.initial.self
      → (slot k : ℕ) (o : Op) → slot < 64 → has l.set slot ≡ true → has l.left slot ≡ false → l.place < k → StandsAt l.cells k o → belongs slot o ≡ false;
}

abbrev pub decreases-loop-left : goal.decreases-loop-left
decreases-loop-left l = l.left
