-- Bounds of sums.
use Rattle.std.proofs.Common.{ℕ, ◌+◌, ◌≤◌, arith}
use Rattle.std.proofs.lemmas.Int.{ints}
use Rattle.rv_net.specs.Cyclotomic.{Cyclotomic, plus, negated}
use Rattle.rv_check.specs.inside.Small.{AreSmall}

pub plus_small : (p q most : ℕ) (u v : Cyclotomic) → AreSmall p u → AreSmall q v → p + q ≤ most → AreSmall most (plus u v)
unfolding plus
plus_small p q most u v g h le = record {
  a = omega (arith, ints, g.a, h.a);
  b = omega (arith, ints, g.b, h.b);
  c = omega (arith, ints, g.c, h.c);
  d = omega (arith, ints, g.d, h.d);
}

pub negated_small : (p : ℕ) (u : Cyclotomic) → AreSmall p u → AreSmall p (negated u)
unfolding negated
negated_small p u g = record {
  a = omega (arith, ints, g.a);
  b = omega (arith, ints, g.b);
  c = omega (arith, ints, g.c);
  d = omega (arith, ints, g.d);
}

pub small_wider : (p most : ℕ) (u : Cyclotomic) → p ≤ most → AreSmall p u → AreSmall most u
small_wider p most u le g = record { a = omega (arith, g.a); b = omega (arith, g.b); c = omega (arith, g.c); d = omega (arith, g.d) }
