-- Squares of bits, turned by three exchanges.
use Rattle.std.proofs.Common.{◌≡◌, ◌≢◌, ℕ, zero, suc, ◌+◌, ◌-◌, ◌*◌, ◌/◌, ◌%◌, ◌^◌, ◌<◌, ◌≤◌, Bool, true, false, not, cond, ◌&&◌, eqb, ltb, leb, List, [], length, get_or, set, refl, sym, ◌∙◌, ap, inl, inr, arith, get_or-set_same, get_or-set_other, eq-eqb, w64}
use Rattle.std.specs.Int.{bit_at, from_le_bytes, to_le_bytes}
use Rattle.std.specs.Prelude.{bit_and, bit_or, bit_xor}
use Rattle.std.proofs.lemmas.Bool.{cases_eq, cases_lt, and_parts, eqb-true, false≢true, le-leb, lt-leb, lt-ltb, ltb-true, not-true}
use Rattle.std.proofs.lemmas.Nat.Bits.{bit_at_cat_low, bit_at_ones}
use Rattle.std.proofs.lemmas.Nat.{and_le_r, le_bytes_8}
use Rattle.rv_gate.proofs.Bits.{and_comm, and_false, and_true, or_false, same_bool}
use Rattle.rv_gate.specs.Gate.{all_below, xor}
use Rattle.rv_gate.specs.Word.{has}
use Rattle.rv_gate.proofs.AllBelow.{all_below-at}
use Rattle.rv_gate.proofs.LineSets.{bit_at-shr, has-above, has-and, has-none, has-or, has-shl, has-shl_below, has-xor}
use Rattle.rv_many.specs.Square.{HaveBits, IsSquare, byte_of, came_from, is_apart}

-- ---- one exchange

-- the bits of a mask in which a number differs from itself some places above
abbrev pub differ : ℕ → ℕ → ℕ → ℕ
differ x mask apart = bit_and (bit_xor x (x / 2 ^ apart)) mask

has-differ : (x mask apart k : ℕ) → has (differ x mask apart) k ≡ (xor (has x k) (has x (k + apart)) && has mask k)
has-differ x mask apart k =
    let e : apart + k ≡ k + apart = omega arith in
    has-and (bit_xor x (x / 2 ^ apart)) mask k
    ∙ ap (λ b. b && has mask k) (has-xor x (x / 2 ^ apart) k ∙ ap (xor (has x k)) (ap (λ b. eqb b 1) (bit_at-shr x apart k ∙ ap (bit_at x) e)))

-- the bit that comes up, if one does
abbrev comes_up : ℕ → ℕ → ℕ → Bool
comes_up mask apart k = leb apart k && has mask (k - apart)

has-up : (x mask apart k : ℕ) → k < 64 → has (differ x mask apart * 2 ^ apart % 2 ^ 64) k ≡ (comes_up mask apart k && xor (has x (k - apart)) (has x k))
has-up x mask apart k lt =
    elim (cases_lt k apart) [
      | inl below ↦ has-shl_below (differ x mask apart) apart k lt below ∙ sym (ap (λ b. (b && has mask (k - apart)) && xor (has x (k - apart)) (has x k)) (lt-leb apart k below))
      | inr le ↦
          let back : k - apart + apart ≡ k = omega arith in
          has-shl (differ x mask apart) apart k lt le
          ∙ has-differ x mask apart (k - apart)
          ∙ ap (λ i. xor (has x (k - apart)) (has x i) && has mask (k - apart)) back
          ∙ and_comm (xor (has x (k - apart)) (has x k)) (has mask (k - apart))
          ∙ sym (ap (λ b. (b && has mask (k - apart)) && xor (has x (k - apart)) (has x k)) (le-leb apart k le))
    ]

mixed : (below up a b c : Bool) → (below && up) ≡ false → xor (xor a (xor a b && below)) (up && xor c a) ≡ cond below b (cond up c a)
mixed true true a b c h = absurd (false≢true (sym h))
mixed true false true true c h = refl
mixed true false true false c h = refl
mixed true false false true c h = refl
mixed true false false false c h = refl
mixed false true true true true h = refl
mixed false true true true false h = refl
mixed false true true false true h = refl
mixed false true true false false h = refl
mixed false true false true true h = refl
mixed false true false true false h = refl
mixed false true false false true h = refl
mixed false true false false false h = refl
mixed false false true true c h = refl
mixed false false true false c h = refl
mixed false false false true c h = refl
mixed false false false false c h = refl

chosen : (x : ℕ) (below up : Bool) (u v w : ℕ) → cond below (has x u) (cond up (has x v) (has x w)) ≡ has x (cond below u (cond up v w))
chosen x true up u v w = refl
chosen x false true u v w = refl
chosen x false false u v w = refl

not_both : (mask apart k : ℕ) → is_apart mask apart ≡ true → k < 64 → (has mask k && comes_up mask apart k) ≡ false
not_both mask apart k once lt =
    elim (cases_lt k apart) [
      | inl below ↦ ap (λ b. has mask k && (b && has mask (k - apart))) (lt-leb apart k below) ∙ and_false (has mask k)
      | inr le ↦
          let back : k - apart + apart ≡ k = omega arith in
          ap (λ b. has mask k && (b && has mask (k - apart))) (le-leb apart k le)
          ∙ and_comm (has mask k) (has mask (k - apart))
          ∙ sym (ap (λ i. has mask (k - apart) && has mask i) back)
          ∙ not-true _ (all_below-at (λ i. not (has mask i && has mask (i + apart))) 64 (k - apart) once (omega arith))
    ]

pub exchanged_bit : (x mask apart k : ℕ) → is_apart mask apart ≡ true → k < 64
    → has (bit_xor (bit_xor x (differ x mask apart)) (differ x mask apart * 2 ^ apart % 2 ^ 64)) k ≡ has x (came_from mask apart k)
exchanged_bit x mask apart k once lt =
    has-xor (bit_xor x (differ x mask apart)) _ k
    ∙ rw (has-xor x (differ x mask apart) k, has-differ x mask apart k, has-up x mask apart k lt) (mixed (has mask k) (comes_up mask apart k) (has x k) (has x (k + apart)) (has x (k - apart)) (not_both mask apart k once lt))
    ∙ chosen x (has mask k) (comes_up mask apart k) (k + apart) (k - apart) k

-- ---- three exchanges

abbrev pub after_pairs : ℕ → ℕ
after_pairs k = came_from 0xF0F0F0F0 28 k

abbrev pub after_bits : ℕ → ℕ
after_bits k = came_from 0xCCCC0000CCCC 14 (after_pairs k)

abbrev is_turned : ℕ → Bool
is_turned k = ltb (after_pairs k) 64 && (ltb (after_bits k) 64 && eqb (came_from 0xAA00AA00AA00AA 7 (after_bits k)) (8 * (k % 8) + k / 8))

all_turned : all_below is_turned 64 ≡ true
all_turned = refl

pub turned_from : (i j : ℕ) → i < 8 → j < 8 → (after_pairs (8 * i + j) < 64) × (after_bits (8 * i + j) < 64) × (came_from 0xAA00AA00AA00AA 7 (after_bits (8 * i + j)) ≡ 8 * j + i)
turned_from i j li lj =
    let k : ℕ = 8 * i + j in
    let all = all_below-at is_turned 64 k all_turned (omega arith) in
    let first = and_parts (ltb (after_pairs k) 64) _ all in
    let second = and_parts (ltb (after_bits k) 64) _ first.1 in
    let at : 8 * (k % 8) + k / 8 ≡ 8 * j + i = omega arith in
    (ltb-true _ _ first.0, ltb-true _ _ second.0, eqb-true _ _ second.1 ∙ at)

-- ---- the bytes of numbers

abbrev pub with_byte : List (List ℕ) → ℕ → ℕ → ℕ → List (List ℕ)
with_byte numbers i at byte = set numbers i (set (get_or numbers i []) at byte)

pub byte_other : (numbers : List (List ℕ)) (i at byte other k : ℕ) → i < length numbers → k ≢ at → byte_of (with_byte numbers i at byte) other k ≡ byte_of numbers other k
byte_other numbers i at byte other k lt apart =
    elim (cases_eq other i) [
      | inl same ↦ rw (same, get_or-set_same numbers i (set (get_or numbers i []) at byte) [] lt) (get_or-set_other (get_or numbers i []) at k byte 0 apart)
      | inr else ↦ ap (λ bytes. get_or bytes k 0) (get_or-set_other numbers i other _ [] else)
    ]

has-low_byte : (n j : ℕ) → j < 8 → has (bit_and n 255) j ≡ has n j
has-low_byte n j lt = has-and n 255 j ∙ ap (λ b. has n j && b) (eq-eqb _ 1 (bit_at_ones 8 j lt)) ∙ and_true (has n j)

-- `n >> k & 0xFF`
pub has-byte : (n k j : ℕ) → j < 8 → has (bit_and (n / 2 ^ k) 255) j ≡ has n (k + j)
has-byte n k j lt = has-low_byte (n / 2 ^ k) j lt ∙ ap (λ b. eqb b 1) (bit_at-shr n k j)

-- the bit of a place of a number of eight bytes
byte_bit : (n k j : ℕ) → j < 8 → has n (8 * k + j) ≡ has (n / 2 ^ (8 * k) % 256) j
byte_bit n k j lt =
    let high : ℕ = n / 2 ^ (8 * k) in
    let e : high / 256 * 2 ^ 8 + high % 256 ≡ high = omega arith in
    ap (λ b. eqb b 1) (sym (bit_at-shr n (8 * k) j) ∙ ap (λ m. bit_at m j) (sym e) ∙ bit_at_cat_low (high / 256) 8 (high % 256) j lt)

of_eight : (P : ℕ → Type 0) → P 0 → P 1 → P 2 → P 3 → P 4 → P 5 → P 6 → P 7 → (k : ℕ) → k < 8 → P k
of_eight P a b c d e f g h zero lt = a
of_eight P a b c d e f g h (suc zero) lt = b
of_eight P a b c d e f g h (suc (suc zero)) lt = c
of_eight P a b c d e f g h (suc (suc (suc zero))) lt = d
of_eight P a b c d e f g h (suc (suc (suc (suc zero)))) lt = e
of_eight P a b c d e f g h (suc (suc (suc (suc (suc zero))))) lt = f
of_eight P a b c d e f g h (suc (suc (suc (suc (suc (suc zero)))))) lt = g
of_eight P a b c d e f g h (suc (suc (suc (suc (suc (suc (suc zero))))))) lt = h
of_eight P a b c d e f g h (suc (suc (suc (suc (suc (suc (suc (suc k)))))))) lt = absurd (omega arith)

pub le_bits : (bytes : List ℕ) (n j : ℕ) → length bytes ≡ 8 → ((i : ℕ) → get_or bytes i 0 < 256) → n ≡ from_le_bytes w64 bytes → j < 64 → has n j ≡ has (get_or bytes (j / 8) 0) (j % 8)
le_bits bytes n j long small is lt =
    let at : 8 * (j / 8) + j % 8 ≡ j = omega arith in
    let byte : n / 2 ^ (8 * (j / 8)) % 256 ≡ get_or (to_le_bytes w64 n) (j / 8) 0 =
    of_eight (λ k. n / 2 ^ (8 * k) % 256 ≡ get_or (to_le_bytes w64 n) k 0) (omega arith) (omega arith) (omega arith) (omega arith) (omega arith) (omega arith) (omega arith) (omega arith) (j / 8) (omega arith) in
    ap (has n) (sym at)
    ∙ byte_bit n (j / 8) (j % 8) (omega arith)
    ∙ ap (λ b. has b (j % 8)) (byte ∙ ap (λ bytes. get_or bytes (j / 8) 0) (le_bytes_8 bytes n long small is))

-- ---- a square whose rows are put behind one another

-- a row that comes before the others: some bits of a number
pub square_more : (square n from : ℕ) (old new : ℕ → ℕ → Bool) → IsSquare square old → ((j : ℕ) → j < 8 → has n (from + j) ≡ new 0 j) → ((i j : ℕ) → old i j ≡ new (suc i) j)
    → IsSquare (bit_or (square * 2 ^ 8 % 2 ^ 64) (bit_and (n / 2 ^ from) 255)) new
square_more square n from old new is first rest zero j li lj =
    let at : 8 * 0 + j ≡ j = omega arith in
    has-or (square * 2 ^ 8 % 2 ^ 64) (bit_and (n / 2 ^ from) 255) (8 * 0 + j)
    ∙ rw (at, has-shl_below square 8 j (omega arith) lj, has-byte n from j lj) (first j lj)
square_more square n from old new is first rest (suc i) j li lj =
    let k : ℕ = 8 * suc i + j in
    let at : k - 8 ≡ 8 * i + j = omega arith in
    let byte : ℕ = bit_and (n / 2 ^ from) 255 in
    let small : byte < 2 ^ 8 = omega (arith, and_le_r (n / 2 ^ from) 255) in
    has-or (square * 2 ^ 8 % 2 ^ 64) byte k
    ∙ rw (has-shl square 8 k (omega arith) (omega arith), has-above byte 8 k small (omega arith), at) (or_false (has square (8 * i + j)) ∙ is i j (omega arith) lj ∙ rest i j)

-- no row
pub square_none : (bit : ℕ → ℕ → Bool) → ((i j : ℕ) → bit i j ≡ false) → IsSquare 0 bit
square_none bit none i j li lj = has-none (8 * i + j) ∙ sym (none i j)

-- a square of bits in eight numbers, whose lower bytes are there
pub numbers_more : (old new : List (List ℕ)) (square at : ℕ) (rows bit : ℕ → ℕ → Bool) → IsSquare square rows
    → ((i j : ℕ) → i < 8 → j < 8 → has (byte_of new i at) j ≡ has square (8 * j + i)) → ((i k : ℕ) → k ≢ at → byte_of new i k ≡ byte_of old i k)
    → HaveBits old (λ i j. ltb j (8 * at) && bit i j) → ((i j : ℕ) → i < 8 → j < 8 → rows j i ≡ bit i (8 * at + j)) → HaveBits new (λ i j. ltb j (8 * (at + 1)) && bit i j)
numbers_more old new square at rows bit is columns others before here i j li lj =
    elim (cases_eq (j / 8) at) [
      | inl same ↦
          let whole : 8 * at + j % 8 ≡ j = omega arith in
          ap (λ k. has (byte_of new i k) (j % 8)) same
          ∙ columns i (j % 8) li (omega arith)
          ∙ is (j % 8) i (omega arith) li
          ∙ here i (j % 8) li (omega arith)
          ∙ ap (bit i) whole
          ∙ sym (ap (λ b. b && bit i j) (lt-ltb j (8 * (at + 1)) (omega arith)))
      | inr apart ↦
          ap (λ byte. has byte (j % 8)) (others i (j / 8) apart)
          ∙ before i j li lj
          ∙ ap (λ b. b && bit i j) (same_bool _ _ (λ t. let lt = ltb-true j (8 * at) t in lt-ltb j (8 * (at + 1)) (omega arith)) (λ t. let lt = ltb-true j (8 * (at + 1)) t in lt-ltb j (8 * at) (omega arith)))
    ]

-- all bits are there
pub numbers_all : (numbers : List (List ℕ)) (at : ℕ) (bit : ℕ → ℕ → Bool) → HaveBits numbers (λ i j. ltb j (8 * at) && bit i j) → ((i j : ℕ) → j < 64 → 8 * at ≤ j → bit i j ≡ false) → HaveBits numbers bit
numbers_all numbers at bit is past i j li lj =
    is i j li lj
    ∙ (elim (cases_lt j (8 * at)) [
      | inl lt ↦ ap (λ b. b && bit i j) (lt-ltb j (8 * at) lt)
      | inr ge ↦ ap (λ b. ltb j (8 * at) && b) (past i j lj ge) ∙ and_false (ltb j (8 * at)) ∙ sym (past i j lj ge)
    ])
