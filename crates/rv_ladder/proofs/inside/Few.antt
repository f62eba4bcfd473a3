-- A gate has few operations.
use Rattle.std.proofs.Common.{◌≡◌, ℕ, ◌+◌, ◌-◌, ◌*◌, ◌/◌, ◌^◌, ◌<◌, ◌≤◌, Bool, true, false, cond, eqb}
use Rattle.std.proofs.Common.{ne_eqb, [], ◌∷◌, nat_lt, ap, inl, inr, arith}
use Rattle.std.specs.Prelude.{bit_or}
use Rattle.std.proofs.lemmas.Bool.{cases_lt, lt-ltb}
use Rattle.std.proofs.lemmas.List.Sums.{sum_by-cons}
use Rattle.rv_gate.specs.Gate.{flip_under}
use Rattle.rv_gate.specs.Word.{has}
use Rattle.rv_gate.specs.declared.gate.Shape.{Shape}
use Rattle.rv_gate.specs.declared.gate.Shape.TheVariants.{Flip, Swap, Peres}
use Rattle.rv_gate.proofs.LineSets.{has-line}
use Rattle.rv_mct.specs.Blocks.{count, count_lines, is_free}
use Rattle.rv_mct.specs.declared.aux.Aux.{Aux}
use Rattle.rv_mct.specs.declared.aux.Aux.TheVariants.{Borrowed, Clean}
use Rattle.rv_mct.proofs.inside.Splits.{count_none, count_one, count_same}
use Rattle.rv_ladder.specs.Counts.{flip_count, gate_count, ladder_count, long_count, operations, zero_count}
use Rattle.rv_mct.proofs.Walks.{count_few}

one_few : (b : Bool) → cond {A = ℕ} b 1 0 ≤ 1
one_few true = omega arith
one_few false = omega arith

plain-few : (n : ℕ) → operations.plain n ≤ 15
plain-few n = go (eqb n 2)
  where
    go : (b : Bool) → cond {A = ℕ} b 15 1 ≤ 15
    go true = omega arith
    go false = omega arith

ladder-few : (n : ℕ) → ladder_count operations n ≤ 15 + (20 * n - 24)
ladder-few n = go (nat_lt n 3)
  where
    go : (b : Bool) → cond {A = ℕ} b (operations.plain n) (20 * n - 24) ≤ 15 + (20 * n - 24)
    go true = omega (arith, plain-few n)
    go false = omega arith

long-few : (aux : Aux) (free n z : ℕ) → n ≤ 64 → z ≤ 64 → long_count operations aux free n z ≤ 2900
long-few Clean free n z few zeros = omega (arith, few, zeros)
long-few Borrowed free n z few zeros = go (nat_lt (free + 2) n)
  where
    go : (b : Bool)
        → cond {A = ℕ} b (2 * ladder_count operations ((n + 1) / 2) + 2 * ladder_count operations (n / 2 + 1) + 4 * (1 * z)) (ladder_count operations n + 2 * (1 * z)) ≤ 2900
    go true = omega (arith, few, zeros, ladder-few ((n + 1) / 2), ladder-few (n / 2 + 1))
    go false = omega (arith, few, zeros, ladder-few n)

flip-few : (aux : Aux) (lines : ℕ) (g : Shape) → flip_count operations aux lines g ≤ 2900
flip-few aux lines (Flip care want t) = go (nat_lt (count_lines care) 3)
  where
    z : zero_count care want ≤ 64
    z = count_few _ 64

    go : (b : Bool) → cond {A = ℕ} b (operations.plain (count_lines care) + 2 * (1 * zero_count care want))
        (long_count operations aux (count (is_free care t) lines) (count_lines care) (zero_count care want)) ≤ 2900
    go true = omega (arith, z, plain-few (count_lines care))
    go false = long-few aux (count (is_free care t) lines) (count_lines care) (zero_count care want) (count_few (has care) 64) z
flip-few aux lines (Swap care want a b) = omega arith
flip-few aux lines (Peres a b c) = omega arith

-- with at most two controls
plain-flip-few : (aux : Aux) (lines care want t : ℕ) → count_lines care ≤ 2 → flip_count operations aux lines (Flip care want t) ≤ 143
plain-flip-few aux lines care want t plain =
    let z : zero_count care want ≤ 64 = count_few _ 64 in
    let few : ℕ = operations.plain (count_lines care) + 2 * (1 * zero_count care want) in
    let many : ℕ = long_count operations aux (count (is_free care t) lines) (count_lines care) (zero_count care want) in
    let e : flip_count operations aux lines (Flip care want t) ≡ few = ap (λ b. cond b few many) (lt-ltb (count_lines care) 3 (omega (arith, plain))) in
    omega (arith, e, z, plain-few (count_lines care))

under-one : (a : ℕ) → count_lines (2 ^ a) ≤ 2
under-one a =
    omega (
      arith,
      count_same (has (2 ^ a)) (λ x. eqb x a) 64 (λ x lt. has-line a x),
      few a,
    )
  where
    few : (a : ℕ) → count (λ x. eqb x a) 64 ≤ 1
    few a =
        elim (cases_lt a 64) [
          | inl lt ↦ omega (arith, count_one a 64 lt)
          | inr ge ↦ omega (arith, count_none (λ x. eqb x a) 64 (λ x lt. other x lt ge))
        ]
      where
        other : (x : ℕ) → x < 64 → 64 ≤ a → eqb x a ≡ false
        other x lt ge = ne_eqb x a (λ e. omega (arith, e, lt, ge))

pub gate-few : (aux : Aux) (lines : ℕ) (g : Shape) → gate_count operations aux lines g ≤ 4095
gate-few aux lines (Flip care want t) = omega (arith, sum_by-cons (flip_count operations aux lines) (Flip care want t) [], flip-few aux lines (Flip care want t))
gate-few aux lines (Swap care want a b) =
    let f : Shape → ℕ = flip_count operations aux lines in
    let outer : Shape = flip_under (2 ^ b) a in
    let inner : Shape = Flip (bit_or care (2 ^ a)) (bit_or want (2 ^ a)) b in
    omega (
      arith,
      sum_by-cons f outer (inner ∷ (outer ∷ [])),
      sum_by-cons f inner (outer ∷ []),
      sum_by-cons f outer [],
      flip-few aux lines inner,
      plain-flip-few aux lines (2 ^ b) (2 ^ b) a (under-one b),
    )
gate-few aux lines (Peres a b c) =
    let f : Shape → ℕ = flip_count operations aux lines in
    let double : Shape = flip_under (bit_or (2 ^ a) (2 ^ b)) c in
    let single : Shape = flip_under (2 ^ a) b in
    omega (
      arith,
      sum_by-cons f double (single ∷ []),
      sum_by-cons f single [],
      flip-few aux lines double,
      plain-flip-few aux lines (2 ^ a) (2 ^ a) b (under-one a),
    )
