-- Gates on registers.
use Rattle.std.proofs.lemmas.Grind.{common_steps}
use Rattle.std.proofs.Common.{◌≡◌, ℕ, zero, suc, ◌+◌, ◌-◌, ◌*◌, ◌%◌, ◌^◌, ◌<◌, ◌≤◌, min, Bool, true, false, bit_or, List, [], ◌∷◌, ◌++◌, length, map, take, drop, get_or, slice_range, Option, Result, Ok, refl, sym, ap, ◌∙◌, arith, add-one, codes}
use Rattle.std.proofs.lemmas.Bool.{and_parts, eqb-true, lt-ltb, ne_eqb}
use Rattle.std.proofs.lemmas.List.{drop-drop, take_all}
use Rattle.std.proofs.lemmas.List.Folds.{list_all-map, list_all_at}
use Rattle.std.proofs.lemmas.List.Sums.{AllPass-from_list_all}
use Rattle.std.proofs.lemmas.Nat.{one_shl}
use Rattle.std.specs.List.{fold, list_all, range_with_len, position_or_len, before_first, after_first}
use Rattle.rv_text.specs.Decimal.{decimal_value, is_count, is_decimal}
use Rattle.rv_text.proofs.inside.Decimal.{decimal_value-lt}
use Rattle.rv_reader.specs.Rules.{◌>>=◌}
use Rattle.rv_qasm.specs.Registers.{RegisterOperand, is_token, register_operand}
use Rattle.rv_qasm.specs.Registers.{QubitRange as Qubits}
use Rattle.rv_qasm.specs.Rules.{SoFar, agrees_with, has_twice, measure_read, op_read, ops_read, repeats, sizes_agree, with_qubit}
use Rattle.rv_qasm.specs.inside.Parts.{both_read}
use Rattle.rv_qasm.specs.inside.Views.{named_qubits}
use Rattle.rv_qasm.specs.declared.registers.QubitRange.{QubitRange}

-- a number of at most nine digits that is not 0 is a size
pub counted : (bytes : List ℕ) (n : ℕ) → is_decimal bytes ≡ true → n ≡ min (decimal_value bytes) 4294967296 → length bytes ≤ 9 → 0 < n
    → (is_count bytes ≡ true) × (n ≡ decimal_value bytes)
counted bytes n is e few some = grind (arith, decimal_value-lt, and_parts, decimal_value, lt-ltb)

pub counted_small : (bytes : List ℕ) (n : ℕ) → is_decimal bytes ≡ true → n ≡ min (decimal_value bytes) 4294967296 → length bytes ≤ 9 → n < 1000000000
counted_small bytes n is e few = grind (arith, decimal_value-lt, and_parts)

-- ---- sets of qubits

fold_more : (f : ℕ → ℕ → ℕ) (x a n : ℕ) → fold f x (range_with_len a (suc n)) ≡ f (fold f x (range_with_len a n)) (a + n)
fold_more f x a zero = let e : a + 0 ≡ a = omega arith in rw e refl
fold_more f x a (suc n) = let e : a + 1 + n ≡ a + suc n = omega arith in fold_more f (f x a) (a + 1) n ∙ ap (λ (q : ℕ). f (fold f (f x a) (range_with_len (a + 1) n)) q) e

-- one qubit more
pub one_more : (set first i : ℕ) → first + i < 64
    → bit_or (fold with_qubit set (range_with_len first i)) (1 * 2 ^ (first + i) % 2 ^ 64) ≡ fold with_qubit set (range_with_len first (i + 1))
one_more set first i few = rw (one_shl (first + i) 64 few, add-one) (sym (fold_more with_qubit set first i))

-- ---- what operands name

abbrev pub prepended : List Qubits → Result (List Qubits) ℕ → Result (List Qubits) ℕ
prepended done rest = rest >>= λ others. Ok (done ++ others)

-- ---- sizes and qubits

-- few qubits have none twice
pub few_apart : (all : List ℕ) → length all ≤ 1 → false ≡ has_twice all
few_apart [] few = refl
few_apart (q ∷ []) few = refl
few_apart (q ∷ r ∷ all) few = absurd (omega arith)

-- ---- operation by operation

pub ops_first : (name : List ℕ) (so_far next : SoFar) (f : ℕ → List ℕ) (j left : ℕ) → op_read name so_far (f j) ≡ Ok next
    → ops_read name so_far (map f (range_with_len j (left + 1))) ≡ ops_read name next (map f (range_with_len (j + 1) left))
ops_first name so_far next f j left is = rw (add-one, is) refl

-- ---- `measure`

pub before_mark : (p : List ℕ → Bool) (tokens : List (List ℕ)) (mark : ℕ) → mark ≡ 1 + position_or_len p (drop 1 tokens)
    → before_first p (drop 1 tokens) ≡ slice_range tokens 1 mark
before_mark p tokens mark e = let n : mark - 1 ≡ position_or_len p (drop 1 tokens) = omega arith in rw n refl

pub after_mark : (p : List ℕ → Bool) (tokens : List (List ℕ)) (mark : ℕ) → mark ≡ 1 + position_or_len p (drop 1 tokens)
    → after_first p (drop 1 tokens) ≡ drop (mark + 1) tokens
after_mark p tokens mark e = grind (arith, common_steps, position_or_len, drop-drop)

pub measure_is : (so_far : SoFar) (tokens : List (List ℕ)) (mark : ℕ) (from to : Option RegisterOperand) → mark ≡ 1 + position_or_len (is_token (codes "->")) (drop 1 tokens)
    → from ≡ register_operand (slice_range tokens 1 mark) → to ≡ register_operand (drop (mark + 1) tokens)
    → measure_read so_far (drop 1 tokens) ≡ both_read so_far from to
measure_is so_far tokens mark from to e is_from is_to =
    rw (before_mark (is_token (codes "->")) tokens mark e, after_mark (is_token (codes "->")) tokens mark e, sym is_from, sym is_to) refl

-- ---- sizes that agree

own_sizes : (operands : List QubitRange) → sizes_agree (map named_qubits operands) ≡ list_all (λ p. agrees_with (repeats (map named_qubits operands)) (named_qubits p)) operands
own_sizes operands = list_all-map (agrees_with (repeats (map named_qubits operands))) named_qubits operands

pub disagree : (operands : List QubitRange) (i count : ℕ) (d : QubitRange) → count ≡ repeats (map named_qubits operands) → i < length operands
    → (get_or operands i d).is_whole ≡ true → ((get_or operands i d).count ≡ count → ⊥) → false ≡ sizes_agree (map named_qubits operands)
disagree operands i count d e lt whole other = grind (arith, named_qubits, own_sizes, list_all_at, agrees_with, ne_eqb)

pub agree : (operands : List QubitRange) (i count : ℕ) → count ≡ repeats (map named_qubits operands) → length operands ≤ i
    → list_all (λ p. agrees_with count (named_qubits p)) (take i operands) ≡ true → true ≡ sizes_agree (map named_qubits operands)
agree operands i count e past all = grind (arith, own_sizes, list_all, agrees_with, named_qubits, take_all)

pub agreed : (operands : List QubitRange) (i j : ℕ) (d : QubitRange) → i < length operands → j < repeats (map named_qubits operands) → sizes_agree (map named_qubits operands) ≡ true
    → (get_or operands i d).is_whole ≡ true → j < (get_or operands i d).count
agreed operands i j d lt below all whole = grind (arith, AllPass-from_list_all, agrees_with, named_qubits, own_sizes, eqb-true)
