-- Operations that are no H, bit by bit: what they read decides which bits they change, and no bit changes that they do not write.
use Rattle.std.proofs.Common.{arith}
use Rattle.std.proofs.Common.{◌≡◌, ◌≢◌, ℕ, ◌<◌, ◌^◌, Bool, true, false, cond, not, ◌&&◌, eqb, length, set, refl, sym, ap, ◌∙◌, length-set, get_or-set_other, eq-eqb, ne_eqb}
use Rattle.std.specs.Prelude.{◌||◌, bit_or}
use Rattle.std.proofs.lemmas.Bool.{cases_eq, or_left, or_right}
use Rattle.rv_gate.specs.Gate.{xor}
use Rattle.rv_gate.specs.Word.{has}
use Rattle.rv_gate.proofs.LineSets.{has-line, has-lines, has-or, has_self, has_first, has_second}
use Rattle.rv_net.specs.declared.op.Op.{Op}
use Rattle.rv_net.specs.declared.op.Op.TheVariants.{X, Y, Z, H, S, Sdg, T, Tdg, Cx, Cz, Ccx, Swap, Cswap}
use Rattle.rv_net.specs.Op.{goes_to, phase_of, OpFitsIn}
use Rattle.rv_net.proofs.Step.{Word, bit}
use Rattle.rv_pairs.specs.Commuting.{reads, writes}
use Rattle.rv_gate.proofs.Acting.{bit_of-set}
use Rattle.rv_gate.proofs.Bits.{false_xor, and_true}

-- ---- sets of lines

has_in_first : (s t l : ℕ) → has s l ≡ true → has (bit_or s t) l ≡ true
has_in_first s t l h = has-or s t l ∙ or_left (has s l) (has t l) h

has_in_second : (s t l : ℕ) → has t l ≡ true → has (bit_or s t) l ≡ true
has_in_second s t l h = has-or s t l ∙ or_right (has s l) (has t l) h

-- words with the same bits on the lines of a set
pub record Agree (lines : ℕ) (x y : Word) : Type 0 where
  pub each : (l : ℕ) → has lines l ≡ true → bit x l ≡ bit y l

-- ---- the phase

pub phase_agrees : (o : Op) (x y : Word) → Agree (reads o) x y → phase_of o x ≡ phase_of o y
phase_agrees o x y h = grind (arith, has_self, has_first, has_second)

-- ---- which bits change

-- whether the operation changes the bit of a line
unfoldable pub flips : Op → Word → ℕ → Bool
flips (X q) x l = eqb l q
flips (Y q) x l = eqb l q
flips (Cx a b) x l = eqb l b && bit x a
flips (Ccx a b c) x l = eqb l c && (bit x a && bit x b)
flips (Swap a b) x l = (eqb l a || eqb l b) && xor (bit x a) (bit x b)
flips (Cswap c a b) x l = (eqb l a || eqb l b) && (bit x c && xor (bit x a) (bit x b))
flips (Z q) x l = false
flips (H q) x l = false
flips (S q) x l = false
flips (Sdg q) x l = false
flips (T q) x l = false
flips (Tdg q) x l = false
flips (Cz a b) x l = false

pub flips_agrees : (o : Op) (x y : Word) (l : ℕ) → Agree (reads o) x y → flips o x l ≡ flips o y l
unfolding flips
flips_agrees o x y l h = grind (arith, has_self, has_first, has_second, has_in_second, bit_or, has_in_first)

not_line : (q l : ℕ) → has (2 ^ q) l ≡ false → eqb l q ≡ false
not_line q l h = sym (has-line q l) ∙ h

not_lines : (a b l : ℕ) → has (bit_or (2 ^ a) (2 ^ b)) l ≡ false → (eqb l a || eqb l b) ≡ false
not_lines a b l h = sym (has-lines a b l) ∙ h

-- no bit changes that is not written
pub flips_unwritten : (o : Op) (x : Word) (l : ℕ) → has (writes o) l ≡ false → flips o x l ≡ false
unfolding flips
flips_unwritten o x l h = grind (arith, not_line, not_lines)

-- a line whose bit is changed, and one whose bit is not
changed_one : (x : Word) (q l : ℕ) (b f : Bool) → q < length x → b ≡ xor f (bit x q) → bit (set x q b) l ≡ xor (eqb l q && f) (bit x l)
changed_one x q l b f h is = grind (arith, bit_of-set, cases_eq, eq-eqb, ne_eqb, false_xor)

not_xor : (b : Bool) → not b ≡ xor true b
not_xor true = refl
not_xor false = refl

first_xor : (s t : Bool) → t ≡ xor (xor s t) s
first_xor s t = grind arith

second_xor : (s t : Bool) → s ≡ xor (xor s t) t
second_xor s t = grind arith

first_swapped : (r s t : Bool) → cond r t s ≡ xor (r && xor s t) s
first_swapped true s t = first_xor s t
first_swapped false s t = sym (false_xor s)

second_swapped : (r s t : Bool) → cond r s t ≡ xor (r && xor s t) t
second_swapped true s t = second_xor s t
second_swapped false s t = sym (false_xor t)

either : (s t f b : Bool) → (s && t) ≡ false → xor (t && f) (xor (s && f) b) ≡ xor ((s || t) && f) b
either s t f b h = grind arith

-- two lines whose bits are changed together
changed_two : (x : Word) (p q l : ℕ) (a b f : Bool) → p < length x → q < length x → p ≢ q → a ≡ xor f (bit x p) → b ≡ xor f (bit x q)
    → bit (set (set x p a) q b) l ≡ xor ((eqb l p || eqb l q) && f) (bit x l)
changed_two x p q l a b f hp hq apart isp isq =
    grind (arith, changed_one, length-set, get_or-set_other, either, cases_eq, eq-eqb, ne_eqb)

pub goes-bit : (o : Op) (x : Word) (l : ℕ) → OpFitsIn o (length x) → bit (goes_to o x) l ≡ xor (flips o x l) (bit x l)
unfolding flips
goes-bit (X q) x l h = changed_one x q l (not (bit x q)) true h (not_xor (bit x q)) ∙ ap (λ t. xor t (bit x l)) (and_true (eqb l q))
goes-bit (Y q) x l h = changed_one x q l (not (bit x q)) true h (not_xor (bit x q)) ∙ ap (λ t. xor t (bit x l)) (and_true (eqb l q))
goes-bit (Z q) x l h = sym (false_xor (bit x l))
goes-bit (H q) x l h = sym (false_xor (bit x l))
goes-bit (S q) x l h = sym (false_xor (bit x l))
goes-bit (Sdg q) x l h = sym (false_xor (bit x l))
goes-bit (T q) x l h = sym (false_xor (bit x l))
goes-bit (Tdg q) x l h = sym (false_xor (bit x l))
goes-bit (Cx a b) x l h = changed_one x b l (xor (bit x a) (bit x b)) (bit x a) h.1 refl
goes-bit (Cz a b) x l h = sym (false_xor (bit x l))
goes-bit (Ccx a b c) x l h = changed_one x c l (xor (bit x a && bit x b) (bit x c)) (bit x a && bit x b) h.2 refl
goes-bit (Swap a b) x l h =
    changed_two x a b l (bit x b) (bit x a) (xor (bit x a) (bit x b)) h.0 h.1 h.2 (first_xor (bit x a) (bit x b)) (second_xor (bit x a) (bit x b))
goes-bit (Cswap c a b) x l h =
    changed_two x a b l (cond (bit x c) (bit x b) (bit x a)) (cond (bit x c) (bit x a) (bit x b)) (bit x c && xor (bit x a) (bit x b)) h.1 h.2 h.5
    (first_swapped (bit x c) (bit x a) (bit x b)) (second_swapped (bit x c) (bit x a) (bit x b))

pub goes-length : (o : Op) (x : Word) → length (goes_to o x) ≡ length x
goes-length o x = grind (arith, length-set)
