-- What `compute` writes: the text of any circuit that is found for the network; or why none is.
use Rattle.std.proofs.Common.{◌≡◌, ℕ, ◌<◌, ◌≤◌, [], ◌∷◌, length, List, Err, refl, subst, sym, arith}
use Rattle.std.proofs.lemmas.Bool.{lt-ltb}
use Rattle.rv_io.specs.Files.{FilesView}
use Rattle.rv_gate.specs.Circuit.{Cascade, IsCascade}
use Rattle.rv_gate.specs.declared.circuit.TheConstants.{MOST_GATES}
use Rattle.rv_blif.specs.Logic.{Logic}
use Rattle.rv_compute.specs.Bounds.{gate_bound, line_bound}
use Rattle.rv_compute.specs.Computed.{Gives, IsComputed}
use Rattle.rv_compute.specs.declared.circuit.ComputeFault.{ComputeFault}
use Rattle.rv_compute.specs.declared.circuit.ComputeFault.TheVariants as fault
use Rattle.rv_curve.specs.Report.{curve_text}
use Rattle.rv_curve.specs.declared.report.Curve.{Curve}
use Rattle.rv_price.specs.declared.goal.Goal.{Goal}
use Rattle.rv_faults.specs.Fault.{unmade_by}
use Rattle.rv_faults.specs.declared.fault.InputFault.TheVariants.{MoreGates, TooManyEnds, TooManyLines}
use Rattle.rv_faults.specs.declared.fault.Refusal.TheVariants.{Refused}
use Rattle.rv_faults.specs.declared.fault.Unmade.{Unmade}
use Rattle.rv_inputs.specs.Formats.{logic}
use Rattle.rv_inputs.specs.Reading.{HasObject, ReadsOnly}
use Rattle.rv_real.specs.Text.{text_of}
use Rattle.rv_real.proofs.inside.ReadBack.{read_back}
use Rattle.rv_cmd.specs.declared.product.Product.TheVariants as product
use Rattle.rv_cmd.specs.Commands.Compute.{EndsInVain, IsComputation, IsCurve, compute_limits, ends_of, in_vain}
use Rattle.rv_cmd.specs.Row.{finds}
use Rattle.rv_cmd.specs.Limits.{found_within}
use Rattle.rv_cmd.specs.inside.Making.{Makes}
use Rattle.rv_cmd.specs.inside.Products.{IsProductOf, IsRefusalOf, product_text}
use Rattle.rv_cmd.proofs.inside.Made.{finds-none, finds-refused}

module _ (most : ℕ) (network : Logic) where
  -- a circuit is found
  pub compute-answers : (circuit : Cascade) → IsCascade circuit → IsComputed network circuit → Gives network circuit
      → length circuit.names ≤ most → ends_of network ≤ most
      → IsProductOf (found_within (compute_limits most network) (text_of circuit)) (IsComputation most network) (product.Circuit circuit)
  compute-answers circuit valid computed gives lines kept = record {
    kept = (kept, tt);
    is = refl;
    means = record { circuit = circuit; is = refl; read_back = read_back circuit valid; computed = computed; gives = gives; lines = lines };
  }

  -- circuits are found on more and more lines
  pub curve-answers : (asked : Goal) (effort seed : ℕ) (curve : Curve)
      → IsCurve asked effort seed most network (curve_text curve.search curve.goal curve.seed curve.rows.items) → ends_of network ≤ most
      → IsProductOf (found_within (compute_limits most network) (product_text (product.Curve curve))) (IsCurve asked effort seed most network) (product.Curve curve)
  curve-answers asked effort seed curve meant kept = record { kept = (kept, tt); is = refl; means = meant }

  -- none is
  pub compute-refuses : (Means : Logic → List ℕ → Type 0) (why : ComputeFault) (name : List ℕ) (old new : FilesView) (it : Unmade)
      → ((found : ℕ) → why ≡ fault.TooManyLines found → (most < found) × (found ≤ line_bound network)) → (why ≡ fault.TooManyGates → MOST_GATES < gate_bound network)
      → ends_of network ≤ most → it ≡ unmade_by (in_vain most why) → ReadsOnly (name ∷ []) old new → HasObject logic (name ∷ []) old new network
      → Makes (finds logic (compute_limits most) (EndsInVain most) Means) (name ∷ []) old new (Err it)
  compute-refuses Means (fault.TooManyLines found) name old new it lines gates kept is keeps has =
      finds-none logic (compute_limits most) (EndsInVain most) Means name old new network (TooManyLines found most) it is keeps has (kept, tt)
      (refl, (refl, (lines found refl).0, (lines found refl).1))
  compute-refuses Means fault.TooManyGates name old new it lines gates kept is keeps has =
      finds-none logic (compute_limits most) (EndsInVain most) Means name old new network (MoreGates MOST_GATES) it is keeps has (kept, tt)
      (refl, (refl, gates refl))
  compute-refuses Means fault.Mem name old new it lines gates kept is keeps has =
      finds-refused logic (compute_limits most) (EndsInVain most) Means name old new network (in_vain most fault.Mem) it is keeps has tt

  -- with too few lines for the inputs and outputs
  pub compute-cramped : (Means : Logic → List ℕ → Type 0) (name : List ℕ) (old new : FilesView) (count : ℕ) (it : Unmade) → count ≡ ends_of network → most < count
      → it ≡ unmade_by (Refused 0 (TooManyEnds count most)) → ReadsOnly (name ∷ []) old new → HasObject logic (name ∷ []) old new network
      → Makes (finds logic (compute_limits most) (EndsInVain most) Means) (name ∷ []) old new (Err it)
  compute-cramped Means name old new count it counted many is keeps has =
      let over : most < ends_of network = subst (λ (n : ℕ). most < n) counted many in
      finds-refused logic (compute_limits most) (EndsInVain most) Means name old new network (Refused 0 (TooManyEnds count most)) it is keeps has
      (subst (λ (n : ℕ). IsRefusalOf 1 (compute_limits most network) (Refused 0 (TooManyEnds n most))) (sym counted)
      (omega arith, rw (lt-ltb most (ends_of network) over) refl))
