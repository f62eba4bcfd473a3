use Rattle.std.proofs.Common.{◌≡◌, ℕ, ◌<◌, length, get_or}
use Rattle.rv_many.proofs.Columns.{blank}
use Rattle.rv_blif.specs.Logic.{Output}
use Rattle.rv_compare.proofs.logic.agreement_with.Given as goal

abbrev pub invariant-loop-line : goal.invariant-loop-line
invariant-loop-line l = record {
  count : length l.given ≡ length l.rows;
  each : (k : ℕ) (d : Output) → k < l.line → get_or l.given k blank ≡ get_or l.values (get_or l.outputs k d).signal blank;
}
