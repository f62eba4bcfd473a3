-- The ring Z[w] of cyclotomic integers, where w is the eighth root of one with w^4 = -1: a + b w + c w^2 + d w^3.
use Rattle.std.specs.Prelude.{ℕ, zero, suc, ℤ, pos, ◌+ℤ◌, ◌-ℤ◌, ◌*ℤ◌, neg_ℤ}

pub record Cyclotomic : Type 0 where
  pub a : ℤ
  pub b : ℤ
  pub c : ℤ
  pub d : ℤ

unfoldable pub nought : Cyclotomic
nought = record { a = pos 0; b = pos 0; c = pos 0; d = pos 0 }

unfoldable pub unity : Cyclotomic
unity = record { a = pos 1; b = pos 0; c = pos 0; d = pos 0 }

-- w - w^3, whose square is 2
unfoldable pub root2 : Cyclotomic
root2 = record { a = pos 0; b = pos 1; c = pos 0; d = neg_ℤ (pos 1) }

unfoldable pub plus : Cyclotomic → Cyclotomic → Cyclotomic
plus u v = record { a = u.a +ℤ v.a; b = u.b +ℤ v.b; c = u.c +ℤ v.c; d = u.d +ℤ v.d }

unfoldable pub negated : Cyclotomic → Cyclotomic
negated u = record { a = neg_ℤ u.a; b = neg_ℤ u.b; c = neg_ℤ u.c; d = neg_ℤ u.d }

-- times w
unfoldable pub times_w : Cyclotomic → Cyclotomic
times_w u = record { a = neg_ℤ u.d; b = u.a; c = u.b; d = u.c }

-- times w^p
unfoldable pub times_w_power : ℕ → Cyclotomic → Cyclotomic
unfolding times_w
times_w_power zero u = u
times_w_power (suc p) u = times_w (times_w_power p u)

-- the product, by distribution
unfoldable pub times : Cyclotomic → Cyclotomic → Cyclotomic
times u v = record {
  a = u.a *ℤ v.a -ℤ u.b *ℤ v.d -ℤ u.c *ℤ v.c -ℤ u.d *ℤ v.b;
  b = u.a *ℤ v.b +ℤ u.b *ℤ v.a -ℤ u.c *ℤ v.d -ℤ u.d *ℤ v.c;
  c = u.a *ℤ v.c +ℤ u.b *ℤ v.b +ℤ u.c *ℤ v.a -ℤ u.d *ℤ v.d;
  d = u.a *ℤ v.d +ℤ u.b *ℤ v.c +ℤ u.c *ℤ v.b +ℤ u.d *ℤ v.a;
}

-- as a sum with itself, so many times
unfoldable pub doubled : ℕ → Cyclotomic → Cyclotomic
doubled zero u = u
doubled (suc n) u = plus (doubled n u) (doubled n u)

unfoldable pub power : Cyclotomic → ℕ → Cyclotomic
unfolding times unity
power u zero = unity
power u (suc n) = times u (power u n)
