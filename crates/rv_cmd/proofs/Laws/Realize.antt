-- What `realize` writes: the text of any circuit that is found; or why there is none.
use Rattle.std.proofs.Common.{◌≡◌, ℕ, Bool, ◌<◌, ◌≤◌, [], ◌∷◌, List, Err, refl, ap, sym, subst, arith}
use Rattle.rv_io.specs.Files.{FilesView}
use Rattle.rv_gate.specs.Circuit.{Cascade, IsCascade}
use Rattle.rv_gate.specs.declared.circuit.TheConstants.{MOST_GATES}
use Rattle.rv_perm.specs.Marked.{Marked}
use Rattle.rv_pla.specs.Pla.{TwoLevel}
use Rattle.rv_price.specs.declared.goal.Goal.{Goal}
use Rattle.rv_curve.specs.Report.{curve_text}
use Rattle.rv_curve.specs.declared.report.Curve.{Curve}
use Rattle.rv_realize.specs.Realized.{IsInPlace, IsRealized, IsTooFew, IsTooLong}
use Rattle.rv_realize.specs.declared.options.RealizeFault.{RealizeFault}
use Rattle.rv_realize.specs.declared.options.RealizeFault.TheVariants as fault
use Rattle.rv_faults.specs.Fault.{unmade_by}
use Rattle.rv_faults.specs.declared.fault.InputFault.TheVariants.{MoreGates, TooManyLines}
use Rattle.rv_faults.specs.declared.fault.Unmade.{Unmade}
use Rattle.rv_words.specs.declared.command.Form.{Form}
use Rattle.rv_words.specs.declared.command.Form.TheVariants as form
use Rattle.rv_inputs.specs.Formats.{permutation, table}
use Rattle.rv_inputs.specs.Reading.{HasObject, ReadsOnly}
use Rattle.rv_real.specs.Text.{text_of}
use Rattle.rv_real.proofs.inside.ReadBack.{read_back}
use Rattle.rv_cmd.specs.declared.product.Product.TheVariants as product
use Rattle.rv_cmd.specs.Commands.Realize.{EndsInVain, IsCurve, IsRealization, IsRealizedInPlace, in_place_limits, in_vain, realize_limits, realize_row, table_row}
use Rattle.rv_cmd.specs.Limits.{found_within}
use Rattle.rv_cmd.specs.Row.{always, finds}
use Rattle.rv_cmd.specs.inside.Making.{Makes}
use Rattle.rv_cmd.specs.inside.Products.{IsProductOf, product_text}
use Rattle.rv_cmd.proofs.inside.Limits.{refused-first}
use Rattle.rv_cmd.proofs.inside.Made.{finds-none, finds-refused}

-- what is no permutation is a table
pub of-table : (origin : Form) (curve : Bool) (asked : Goal) (seed most : ℕ) → (origin ≡ form.Perm → ⊥)
    → realize_row origin curve asked seed most ≡ table_row curve asked seed most
of-table form.Perm curve asked seed most other = absurd (other refl)
of-table _ curve asked seed most other = refl

-- ---- of a truth table

module _ (most : ℕ) (pla : TwoLevel) where
  -- a circuit is found
  pub realize-answers : (circuit : Cascade) → IsCascade circuit → IsRealized pla most circuit
      → IsProductOf (found_within (realize_limits pla) (text_of circuit)) (IsRealization most pla) (product.Circuit circuit)
  realize-answers circuit valid realized = record {
    kept = tt;
    is = refl;
    means = record { circuit = circuit; is = refl; read_back = read_back circuit valid; realized = realized };
  }

  -- circuits are found on more and more lines
  pub curve-answers : (asked : Goal) (seed : ℕ) (curve : Curve) → IsCurve asked seed most pla (curve_text curve.search curve.goal curve.seed curve.rows.items)
      → IsProductOf (found_within (realize_limits pla) (product_text (product.Curve curve))) (IsCurve asked seed most pla) (product.Curve curve)
  curve-answers asked seed curve meant = record { kept = tt; is = refl; means = meant }

  -- none is
  pub realize-refuses : (Means : TwoLevel → List ℕ → Type 0) (why : RealizeFault) (name : List ℕ) (old new : FilesView) (it : Unmade)
      → ((count : ℕ) → why ≡ fault.TooManyLines count → IsTooFew pla most count) → (why ≡ fault.TooManyGates → IsTooLong pla most)
      → it ≡ unmade_by (in_vain most why) → ReadsOnly (name ∷ []) old new → HasObject table (name ∷ []) old new pla
      → Makes (finds table realize_limits (EndsInVain most) Means) (name ∷ []) old new (Err it)
  realize-refuses Means (fault.TooManyLines count) name old new it lines gates is keeps has =
      finds-none table realize_limits (EndsInVain most) Means name old new pla (TooManyLines count most) it is keeps has tt
      (refl, (refl, lines count refl))
  realize-refuses Means fault.TooManyGates name old new it lines gates is keeps has =
      finds-none table realize_limits (EndsInVain most) Means name old new pla (MoreGates MOST_GATES) it is keeps has tt
      (refl, (refl, gates refl))
  realize-refuses Means fault.Mem name old new it lines gates is keeps has =
      finds-refused table realize_limits (EndsInVain most) Means name old new pla (in_vain most fault.Mem) it is keeps has tt

-- ---- of a permutation

module _ (most : ℕ) (spec : Marked) where
  -- a circuit is found
  pub in_place-answers : (circuit : Cascade) → IsCascade circuit → spec.table.lines ≤ most → IsInPlace spec circuit
      → IsProductOf (found_within (in_place_limits most spec) (text_of circuit)) (IsRealizedInPlace spec) (product.Circuit circuit)
  in_place-answers circuit valid few in_place = record {
    kept = (few, tt);
    is = refl;
    means = record { circuit = circuit; is = refl; read_back = read_back circuit valid; in_place = in_place };
  }

  -- it has too many lines
  pub in_place-refuses : (why : RealizeFault) (name : List ℕ) (old new : FilesView) (it : Unmade)
      → ((count : ℕ) → why ≡ fault.TooManyLines count → (count ≡ spec.table.lines) × (most < count)) → (why ≡ fault.TooManyGates → ⊥)
      → it ≡ unmade_by (in_vain most why) → ReadsOnly (name ∷ []) old new → HasObject permutation (name ∷ []) old new spec
      → Makes (finds permutation (in_place_limits most) always IsRealizedInPlace) (name ∷ []) old new (Err it)
  in_place-refuses (fault.TooManyLines count) name old new it lines gates is keeps has =
      let many = lines count refl in
      finds-refused permutation (in_place_limits most) always IsRealizedInPlace name old new spec (in_vain most (fault.TooManyLines count)) it is keeps has (
        omega arith,
        refused-first 0 spec.table.lines most (TooManyLines spec.table.lines most) (TooManyLines count most) []
            (ap (λ n. TooManyLines n most) (sym many.0)) (subst (λ n. most < n) many.0 many.1),
      )
  in_place-refuses fault.TooManyGates name old new it lines gates is keeps has = absurd (gates refl)
  in_place-refuses fault.Mem name old new it lines gates is keeps has =
      finds-refused permutation (in_place_limits most) always IsRealizedInPlace name old new spec (in_vain most fault.Mem) it is keeps has tt
