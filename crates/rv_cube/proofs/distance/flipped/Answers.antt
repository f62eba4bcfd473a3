use Rattle.std.proofs.Common.{◌≡◌, ◌∙◌, ℕ, ◌<◌, ◌*◌, ◌^◌, ◌%◌, ap, arith}
use Rattle.std.specs.Prelude.{bit_and, bit_xor}
use Rattle.std.proofs.lemmas.Nat.{one_shl}
use Rattle.rv_cube.proofs.inside.Turned.{flipped}
use Rattle.rv_cube.proofs.distance.flipped.Goals as goal

one_line : (set by j : ℕ) → j < 16 → bit_xor set (bit_and by (1 * 2 ^ j % 2 ^ 16)) ≡ bit_xor set (bit_and by (2 ^ j))
one_line set by j h = let p : 1 * 2 ^ j % 2 ^ 16 ≡ 2 ^ j = omega (arith, one_shl j 16 h) in ap (λ n. bit_xor set (bit_and by n)) p

pub returns : goal.returns
returns c = one_line c.args.set c.args.by c.args.line c.requires ∙ flipped c.args.set c.args.by c.args.line
