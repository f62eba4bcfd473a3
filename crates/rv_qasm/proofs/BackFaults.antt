-- Why operations are no circuit.
use Rattle.std.proofs.Common.{◌≡◌, ◌↔◌, ℕ, ◌+◌, ◌<◌, ◌≤◌, Bool, true, false, List, length, Option, Some, None, if◌then◌else◌, nat_lt, refl, ap, arith}
use Rattle.std.proofs.lemmas.Bool.{ltb-false, ltb-true}
use Rattle.rv_gate.specs.declared.circuit.TheConstants.{MOST_GATES}
use Rattle.rv_net.specs.declared.op.Op.{Op}
use Rattle.rv_qasm.specs.Back.{back_fault, classical_length}
use Rattle.rv_qasm.specs.declared.back.BackFault.{BackFault}
use Rattle.rv_qasm.specs.declared.back.BackFault.TheVariants.{NotClassical, TooManyGates}

module _ (ops : List Op) where
  abbrev fault_by : Bool → Bool → Option BackFault
  fault_by other many = if other then Some (NotClassical (classical_length ops + 1)) else (if many then Some (TooManyGates (length ops)) else None)

  -- one is not classical
  pub not-classical : (place : ℕ) → (back_fault ops ≡ Some (NotClassical place)) ↔ ((classical_length ops + 1 ≡ place) × (classical_length ops < length ops))
  not-classical place = by (nat_lt (classical_length ops) (length ops)) (nat_lt MOST_GATES (length ops)) refl
    where
      by : (other many : Bool) → nat_lt (classical_length ops) (length ops) ≡ other
          → (fault_by other many ≡ Some (NotClassical place)) ↔ ((classical_length ops + 1 ≡ place) × (classical_length ops < length ops))
      by true many is = (λ told. (let z = told in cc, ltb-true _ _ is), λ why. ap (λ n. Some (NotClassical n)) why.0)
      by false true is = (λ told. absurd (let z = told in cc), λ why. absurd (omega (arith, ltb-false _ _ is, why.1)))
      by false false is = (λ told. absurd (let z = told in cc), λ why. absurd (omega (arith, ltb-false _ _ is, why.1)))

  -- or they are too many
  pub too-many : (n : ℕ) → (back_fault ops ≡ Some (TooManyGates n)) ↔ ((length ops ≤ classical_length ops) × (length ops ≡ n) × (MOST_GATES < n))
  too-many n = by (nat_lt (classical_length ops) (length ops)) (nat_lt MOST_GATES (length ops)) refl refl
    where
      by : (other many : Bool) → nat_lt (classical_length ops) (length ops) ≡ other → nat_lt MOST_GATES (length ops) ≡ many
          → (fault_by other many ≡ Some (TooManyGates n)) ↔ ((length ops ≤ classical_length ops) × (length ops ≡ n) × (MOST_GATES < n))
      by true many is over = (λ told. absurd (let z = told in cc), λ why. absurd (omega (arith, ltb-true _ _ is, why.0)))
      by false true is over = (
        λ told. (let same : length ops ≡ n = let z = told in cc in (ltb-false _ _ is, same, omega (arith, ltb-true _ _ over, same))),
        λ why. ap (λ n. Some (TooManyGates n)) why.1,
      )
      by false false is over = (λ told. absurd (let z = told in cc), λ why. absurd (omega (arith, ltb-false _ _ over, why.1, why.2)))
