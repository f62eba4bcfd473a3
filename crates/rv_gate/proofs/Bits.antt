-- Laws of bits.
use mir.Val.{bool_byte}
use Rattle.std.proofs.Common.{◌≡◌, ℕ, zero, suc, ◌^◌, ◌<◌, ◌≤◌, Bool, true, false, not, cond, ◌&&◌, ◌||◌, eqb, refl, sym, arith, eq-eqb}
use Rattle.std.proofs.Math.Nat.{pow-suc}
use Rattle.rv_gate.specs.Gate.{same, xor}

-- two bits that are implied by each other
pub same_bool : (x y : Bool) → (x ≡ true → y ≡ true) → (y ≡ true → x ≡ true) → x ≡ y
same_bool true y f g = sym (f refl)
same_bool false true f g = g refl
same_bool false false f g = refl

pub same_true : (a b : Bool) → same a b ≡ true → a ≡ b
same_true a b h = grind arith

pub same_from : (a b : Bool) → a ≡ b → same a b ≡ true
same_from a b h = grind arith

pub same_self : (b : Bool) → same b b ≡ true
same_self b = grind arith

-- ---- not, and, or

pub not_not : (b : Bool) → not (not b) ≡ b
not_not b = grind arith

pub and_true : (b : Bool) → (b && true) ≡ b
and_true b = grind arith

pub and_false : (b : Bool) → (b && false) ≡ false
and_false b = grind arith

pub and_comm : (x y : Bool) → (x && y) ≡ (y && x)
and_comm x y = grind arith

pub and_assoc : (x y z : Bool) → ((x && y) && z) ≡ (x && (y && z))
and_assoc x y z = grind arith

pub or_true : (b : Bool) → (b || true) ≡ true
or_true b = grind arith

pub or_false : (b : Bool) → (b || false) ≡ b
or_false b = grind arith

pub or_comm : (x y : Bool) → (x || y) ≡ (y || x)
or_comm x y = grind arith

pub or_assoc : (x y z : Bool) → (x || (y || z)) ≡ ((x || y) || z)
or_assoc x y z = grind arith

pub or_same : (b : Bool) → (b || b) ≡ b
or_same b = grind arith

-- the second is off
pub or_off : (x y : Bool) → y ≡ false → (x || y) ≡ x
or_off x y h = grind arith

-- ---- exclusive or

pub xor_comm : (x y : Bool) → xor x y ≡ xor y x
xor_comm x y = grind arith

pub xor_assoc : (a b c : Bool) → xor (xor a b) c ≡ xor a (xor b c)
xor_assoc a b c = grind arith

pub xor_false : (x : Bool) → xor x false ≡ x
xor_false x = grind arith

pub false_xor : (x : Bool) → xor false x ≡ x
false_xor x = grind arith

pub xor_true : (x : Bool) → xor x true ≡ not x
xor_true x = grind arith

pub xor_same : (x : Bool) → xor x x ≡ false
xor_same x = grind arith

-- twice the same is nothing
pub xor_back : (x y : Bool) → xor x (xor x y) ≡ y
xor_back x y = grind arith

pub xor_around : (x y : Bool) → xor x (xor y x) ≡ y
xor_around x y = grind arith

pub xor_and : (a b r : Bool) → (xor a b && r) ≡ xor (a && r) (b && r)
xor_and a b r = grind arith

-- ---- bits as numbers

pub eqb_refl : (n : ℕ) → eqb n n ≡ true
eqb_refl n = eq-eqb n n refl

pub flag_small : (b : Bool) → cond b 1 0 ≤ 1
flag_small b = grind arith

pub bool_byte-flag : (b : Bool) → bool_byte b ≡ cond b 1 0
bool_byte-flag b = grind arith

pub bool_byte-le : (b : Bool) → bool_byte b ≤ 1
bool_byte-le b = grind arith

pub below_power : (n : ℕ) → n < 2 ^ n
below_power zero = omega arith
below_power (suc n) = omega (arith, below_power n, pow-suc 2 n)
