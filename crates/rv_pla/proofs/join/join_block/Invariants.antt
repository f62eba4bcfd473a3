use Rattle.std.proofs.Common.{◌≡◌, ◌≤◌, ◌<◌, ℕ, get_or}
use Rattle.std.specs.Prelude.{bit_or, bit_xor}
use Rattle.rv_pla.proofs.join.join_block.Given as goal

abbrev pub invariant-loop-x : goal.invariant-loop-x
invariant-loop-x l = record {
  done : (k : ℕ) → k < l.x → get_or l.table k 0 ≡ bit_xor (get_or l.initial.table k 0) (get_or l.block k 0);
  rest : (k : ℕ) → l.x ≤ k → get_or l.table k 0 ≡ get_or l.initial.table k 0;
}

abbrev pub invariant-loop-x-else-odd : goal.invariant-loop-x-else-odd
invariant-loop-x-else-odd l = record {
  done : (k : ℕ) → k < l.x → get_or l.table k 0 ≡ bit_or (get_or l.initial.table k 0) (get_or l.block k 0);
  rest : (k : ℕ) → l.x ≤ k → get_or l.table k 0 ≡ get_or l.initial.table k 0;
}
