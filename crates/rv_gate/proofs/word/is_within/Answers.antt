use Rattle.std.proofs.Common.{◌≡◌, ◌/◌, ◌^◌, arith, eq-eqb}
use Rattle.std.proofs.lemmas.Bool.{eqb-true}
use Rattle.std.proofs.lemmas.Nat.{pow_pos}
use Rattle.std.proofs.Math.Nat.{div-eq_of_lt}
use Rattle.rv_gate.proofs.word.is_within.Goals as goal

pub returns-then-len-lt-MOST_LINES : goal.returns-then-len-lt-MOST_LINES
returns-then-len-lt-MOST_LINES c = (
  λ none. let zero : c.args.bits / 2 ^ c.args.len ≡ 0 = eqb-true _ 0 none in (omega arith, grind (arith, zero, pow_pos c.args.len)),
  λ within. eq-eqb _ 0 (div-eq_of_lt within.1),
)
