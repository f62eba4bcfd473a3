use Rattle.std.proofs.Common.{◌≡◌, ◌*◌, ◌%◌, ◌<◌, ◌^◌, ℕ, ap, arith}
use Rattle.std.specs.Prelude.{bit_xor}
use Rattle.std.proofs.lemmas.Nat.{one_shl}
use Rattle.std.proofs.lemmas.Result.{on_ok_weaker}
use Rattle.rv_cube.proofs.inside.IdleSlots.{drop_some}
use Rattle.rv_cube.proofs.reduction.Reduction.drop_in.Goals as goal

-- the set with one output
one_output : (outs j : ℕ) → j < 16 → bit_xor outs (1 * 2 ^ j % 2 ^ 16) ≡ bit_xor outs (2 ^ j)
one_output outs j h = let p : 1 * 2 ^ j % 2 ^ 16 ≡ 2 ^ j = omega (arith, one_shl j 16 h) in ap (bit_xor outs) p

pub returns-then-cube-ne0-clause-dropped : goal.returns-then-cube-ne0-clause-dropped
returns-then-cube-ne0-clause-dropped c =
    let e = one_output c.cube-cube.result.outs c.args.output c.requires.output in
    on_ok_weaker c.put.result
    (drop_some c.self.inside.slots c.args.self.now c.clear.new.self c.put.new.self c.args.i c.args.output _ c.cube-cube.result c.self.view_is c.requires.stands c.self.invariant.keyed
    c.cube-cube.ensures.value e c.if-cube-ne0.true c.clear.ensures)
    c.put.ensures.ok
