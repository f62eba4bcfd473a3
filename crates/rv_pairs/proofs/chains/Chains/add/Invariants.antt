use Rattle.std.proofs.Common.{◌≡◌, ℕ, ◌+◌, ◌<◌, Bool, true, cond, Some, get_or, length}
use Rattle.std.specs.Prelude.{slice_get}
use Rattle.rv_gate.specs.Word.{has}
use Rattle.rv_net.specs.declared.op.Op.{Op}
use Rattle.rv_pairs.specs.inside.Cells.{Cells}
use Rattle.rv_pairs.specs.inside.Chained.{AreChains, Chain}
use Rattle.rv_pairs.proofs.chains.Chains.add.Given as goal

abbrev pub invariant-loop-left : goal.invariant-loop-left
invariant-loop-left l = record {
  count : length l.self.heads.items ≡ length l.initial.self.heads.items;
  among : (slot : ℕ) → slot < 64 → has l.left slot ≡ true → has l.set slot ≡ true;
  chains : (belongs : ℕ → Op → Bool) (cells : Cells) (op : Op) → slice_get cells l.place ≡ Some (Some op) → ((slot : ℕ) → belongs slot op ≡ has l.set slot)
      → AreChains belongs cells l.place l.initial.self
      → (slot : ℕ) → slot < length l.self.heads.items → Chain cells l.self.nodes.items (belongs slot) (get_or l.self.heads.items slot 0) (cond (has l.left slot) l.place (l.place + 1));
}

abbrev pub decreases-loop-left : goal.decreases-loop-left
decreases-loop-left l = l.left
