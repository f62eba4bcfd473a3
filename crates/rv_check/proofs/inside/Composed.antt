-- An operation that is done by three others.
use Rattle.std.proofs.lemmas.Grind.{common_steps}
use Rattle.std.proofs.Common.{arith, ◌≡◌, ℕ, ◌<◌, Bool, cond, not, map}
use Rattle.rv_gate.specs.Word.{bit_of}
use Rattle.rv_net.specs.Cyclotomic.{Cyclotomic, times_w_power}
use Rattle.rv_net.specs.declared.op.Op.TheVariants.{X, Y, S, Sdg}
use Rattle.rv_check.specs.Reduced.{words}
use Rattle.rv_check.specs.inside.Dense.{moved_at}
use Rattle.rv_check.proofs.inside.Numbers.{same_map}
use Rattle.rv_check.proofs.inside.Sparse.{Word}

-- ---- Y

y_turned : (b : Bool) (u : Cyclotomic) → times_w_power (cond b 2 0) (times_w_power (cond (not b) 6 0) u) ≡ times_w_power (cond (not b) 6 2) u
unfolding times_w_power
y_turned b u = grind arith

pub y_of_three : (n q : ℕ) (f : Word → Cyclotomic) → q < n → map (moved_at (S q) (moved_at (X q) (moved_at (Sdg q) f))) (words n) ≡ map (moved_at (Y q) f) (words n)
unfolding times_w_power
y_of_three n q f lt = grind (arith, common_steps, same_map, bit_of, times_w_power, y_turned)
