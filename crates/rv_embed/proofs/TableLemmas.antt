-- Tables that are made one entry after another.
use Rattle.std.proofs.lemmas.Grind.{common_steps}
use Rattle.std.proofs.Common.{◌≡◌, ℕ, suc, ◌+◌, ◌-◌, ◌^◌, ◌<◌, ◌≤◌, List, ◌++◌, set, replicate, arith, append_assoc, append-nil}
use Rattle.std.proofs.lemmas.Bool.{cases_lt}
use Rattle.std.proofs.lemmas.List.{set_at, length-append, length-replicate, replicate_more, replicate-append-replicate}
use Rattle.std.proofs.lemmas.Nat.{pow_below}

pub pow_le : (a b : ℕ) → a ≤ b → 2 ^ a ≤ 2 ^ b
pow_le a b h = grind (arith, cases_lt, pow_below)

-- ---- marks of lines in a row

-- a lines have one mark, the b lines after them another, and c more lines a third
abbrev pub in_turn : {A : Type 0} → ℕ → ℕ → ℕ → A → A → A → List A
in_turn a b c x y z = replicate a x ++ replicate b y ++ replicate c z

pub in_turn_more : {A : Type 0} (a b c line : ℕ) (x y z : A) → a + b ≡ line → set (in_turn a b (suc c) x y z) line y ≡ in_turn a (b + 1) c x y z
in_turn_more a b c line x y z e =
    grind (arith, common_steps, set_at, length-append, length-replicate, append_assoc, replicate_more)

-- no line has the second mark yet
pub in_turn_none : {A : Type 0} (a n : ℕ) (x y : A) → a ≤ n → replicate n x ≡ in_turn a (a - a) (n - a) x y x
in_turn_none a n x y h = grind (arith, replicate-append-replicate, append-nil)

-- one more line has it
pub in_turn_step : {A : Type 0} (a n line : ℕ) (x y z : A) → a ≤ line → line < n → set (in_turn a (line - a) (n - line) x y z) line y ≡ in_turn a (line + 1 - a) (n - (line + 1)) x y z
in_turn_step a n line x y z le lt =
    let left : n - line ≡ suc (n - (line + 1)) = omega arith in
    let more : (line - a) + 1 ≡ line + 1 - a = omega arith in
    rw (left, ← more) (in_turn_more a (line - a) (n - (line + 1)) line x y z (omega arith))

-- all of them have it
pub in_turn_all : {A : Type 0} (a n line : ℕ) (x y z : A) → n ≡ line → in_turn a (line - a) (n - line) x y z ≡ replicate a x ++ replicate (n - a) y
in_turn_all a n line x y z all = grind (arith, append-nil)
