-- A symbol that is turned by its bits.
use Rattle.std.proofs.Common.{◌≡◌, ◌||◌, ℕ, ◌-◌, ◌+◌, ◌%◌, ◌<◌, ◌^◌, ◌*◌, Bool, cond, not, ◌&&◌, eqb, ◌∙◌, ap, arith, eq-eqb}
use Rattle.std.specs.Prelude.{bit_and, bit_or, bit_xor, min}
use Rattle.std.specs.Int.{bit_at, bit_not, w16}
use Rattle.std.specs.Int.Bits.{xor_zero_r}
use Rattle.std.proofs.lemmas.Nat.{and_le_l, xor_lt}
use Rattle.std.proofs.lemmas.Nat.Bits.{bit_at-lt, bit_at_and, bit_at_xor, bit_at_not, and_pow}
use Rattle.rv_gate.specs.Word.{has}
use Rattle.rv_gate.specs.Gate.{same}
use Rattle.rv_pla.specs.Cube.{symbol_of}
use Rattle.rv_gate.proofs.LineSets.{has-or}
use Rattle.rv_cube.specs.Distance.{cares, wants_one, put, third}
use Rattle.rv_cube.specs.inside.Slotted.{turn}
use Rattle.rv_cube.proofs.inside.Neighbours.{third_turn}

-- a line goes in or out where another set holds it
flipped_at : (set k bit : ℕ) → bit < 2 → bit_xor set (bit * k) ≡ cond (eqb bit 1) (bit_xor set k) set
flipped_at set k bit h = grind (arith, bit_xor, xor_zero_r)

pub flipped : (set by line : ℕ) → bit_xor set (bit_and by (2 ^ line)) ≡ cond (has by line) (bit_xor set (2 ^ line)) set
flipped set by line = ap (bit_xor set) (and_pow by line) ∙ flipped_at set (2 ^ line) (bit_at by line) (bit_at-lt by line)

not_both_at : (x y z : ℕ) → x < 2 → y < 2 → z ≡ 1 - min x y → eqb z 1 ≡ not (eqb x 1 && eqb y 1)
not_both_at x y z h h2 h3 = grind (arith, eq-eqb, eqb)

not_one_at : (x y z : ℕ) → x < 2 → y < 2 → z ≡ 1 - (x + y) % 2 → eqb z 1 ≡ same (eqb x 1) (eqb y 1)
not_one_at x y z h h2 h3 = grind (arith, eq-eqb, eqb)

not_at : (x z : ℕ) → x < 2 → z ≡ 1 - x → eqb z 1 ≡ not (eqb x 1)
not_at x z h h2 = grind (arith, eq-eqb, eqb)

pub has_not_both : (a b line : ℕ) → a < 2 ^ 16 → b < 2 ^ 16 → line < 16 → has (bit_not w16 (bit_and a b)) line ≡ not (has a line && has b line)
has_not_both a b line la lb h =
    let le = and_le_l a b in
    let n = bit_at_not w16 (bit_and a b) line (omega arith) h in
    let s = bit_at_and a b line in
    not_both_at (bit_at a line) (bit_at b line) _ (bit_at-lt a line) (bit_at-lt b line) (n ∙ ap (λ m. 1 - m) s)

pub has_not_one : (a b line : ℕ) → a < 2 ^ 16 → b < 2 ^ 16 → line < 16 → has (bit_not w16 (bit_xor a b)) line ≡ same (has a line) (has b line)
has_not_one a b line la lb h =
    let n = bit_at_not w16 (bit_xor a b) line (xor_lt 16 a b la lb) h in
    let s = bit_at_xor a b line in
    not_one_at (bit_at a line) (bit_at b line) _ (bit_at-lt a line) (bit_at-lt b line) (n ∙ ap (λ m. 1 - m) s)

care_by : (set k : ℕ) (care want : Bool)
    → cond (not (care && want)) (bit_xor set k) set ≡ cond (same care (cares (turn (symbol_of care want)))) set (bit_xor set k)
care_by set k care want = grind arith

want_by : (set k : ℕ) (care want : Bool)
    → cond (same care want) (bit_xor set k) set ≡ cond (same want (wants_one (turn (symbol_of care want)))) set (bit_xor set k)
want_by set k care want = grind arith

-- the bits of the symbol that comes next
pub turned_care : (care want line : ℕ) → care < 2 ^ 16 → want < 2 ^ 16 → line < 16
    → cond (has (bit_not w16 (bit_and care want)) line) (bit_xor care (2 ^ line)) care
    ≡ put care line (cares (turn (symbol_of (has care line) (has want line))))
turned_care care want line lc lw h = grind (arith, bit_xor, has_not_both, care_by)

pub turned_want : (care want line : ℕ) → care < 2 ^ 16 → want < 2 ^ 16 → line < 16
    → cond (has (bit_not w16 (bit_xor care want)) line) (bit_xor want (2 ^ line)) want
    ≡ put want line (wants_one (turn (symbol_of (has care line) (has want line))))
turned_want care want line lc lw h = grind (arith, bit_xor, has_not_one, want_by)

-- ---- the symbol that comes after that

has_not_only : (a line : ℕ) → a < 2 ^ 16 → line < 16 → has (bit_not w16 a) line ≡ not (has a line)
has_not_only a line la h = not_at (bit_at a line) (bit_at (bit_not w16 a) line) (bit_at-lt a line) (bit_at_not w16 a line la h)

care_twice_by : (set k : ℕ) (care want : Bool)
    → cond (not care || want) (bit_xor set k) set
    ≡ cond (same care (cares (third (symbol_of care want) (turn (symbol_of care want))))) set (bit_xor set k)
care_twice_by set k care want = grind arith

want_twice_by : (set k : ℕ) (care want : Bool)
    → cond (care || want) (bit_xor set k) set
    ≡ cond (same want (wants_one (third (symbol_of care want) (turn (symbol_of care want))))) set (bit_xor set k)
want_twice_by set k care want = grind arith

pub twice_care : (care want line : ℕ) → care < 2 ^ 16 → line < 16
    → cond (has (bit_or (bit_not w16 care) want) line) (bit_xor care (2 ^ line)) care
    ≡ put care line (cares (third (symbol_of (has care line) (has want line)) (turn (symbol_of (has care line) (has want line)))))
twice_care care want line lc h = grind (arith, bit_xor, has-or, bit_not, has_not_only, care_twice_by)

pub twice_want : (care want line : ℕ)
    → cond (has (bit_or care want) line) (bit_xor want (2 ^ line)) want
    ≡ put want line (wants_one (third (symbol_of (has care line) (has want line)) (turn (symbol_of (has care line) (has want line)))))
twice_want care want line = grind (arith, bit_xor, has-or, want_twice_by)

-- a symbol that is turned twice
pub ruleset turned_twice = (third_turn, twice_care, twice_want)
