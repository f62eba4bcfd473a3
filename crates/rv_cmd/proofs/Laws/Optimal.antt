-- What `optimal` writes: the text of any shortest circuit for the permutation; or why there is none.
use Rattle.std.proofs.Common.{◌≡◌, ℕ, ◌+◌, ◌<◌, ◌≤◌, [], ◌∷◌, List, Err, refl, ap, sym, subst, arith}
use Rattle.rv_io.specs.Files.{FilesView}
use Rattle.rv_gate.specs.Circuit.{Cascade, IsCascade}
use Rattle.rv_perm.specs.Marked.{Marked}
use Rattle.rv_optimal.specs.Circuit.{IsOptimal, most_gates}
use Rattle.rv_optimal.specs.Shortest.{TakesAtLeast}
use Rattle.rv_optimal.specs.declared.circuit.OptimalFault.{OptimalFault}
use Rattle.rv_optimal.specs.declared.circuit.OptimalFault.TheVariants as fault
use Rattle.rv_optimal.specs.declared.library.Library.{Library}
use Rattle.rv_optimal.specs.declared.library.TheConstants.{MOST_OPTIMAL_LINES}
use Rattle.rv_faults.specs.Fault.{unmade_by}
use Rattle.rv_faults.specs.declared.fault.InputFault.TheVariants.{MoreGates, TooManyLines}
use Rattle.rv_faults.specs.declared.fault.Unmade.{Unmade}
use Rattle.rv_inputs.specs.Formats.{permutation}
use Rattle.rv_inputs.specs.Reading.{HasObject, ReadsOnly}
use Rattle.rv_real.specs.Text.{text_of}
use Rattle.rv_real.proofs.inside.ReadBack.{read_back}
use Rattle.rv_cmd.specs.declared.product.Product.TheVariants as product
use Rattle.rv_cmd.specs.Commands.Optimal.{EndsInVain, IsOptimalSynthesis, in_vain, optimal_limits, optimal_row}
use Rattle.rv_cmd.specs.Limits.{found_within}
use Rattle.rv_cmd.specs.inside.Making.{Makes}
use Rattle.rv_cmd.specs.inside.Products.{IsProductOf}
use Rattle.rv_cmd.proofs.inside.Limits.{refused-first}
use Rattle.rv_cmd.proofs.inside.Made.{finds-none, finds-refused}

-- a circuit is found
pub optimal-answers : (library : Library) (spec : Marked) (circuit : Cascade) → IsCascade circuit → spec.table.lines ≤ MOST_OPTIMAL_LINES → IsOptimal library spec circuit
    → IsProductOf (found_within (optimal_limits spec) (text_of circuit)) (IsOptimalSynthesis library spec) (product.Circuit circuit)
optimal-answers library spec circuit valid few optimal = record {
  kept = (few, tt);
  is = refl;
  means = record { circuit = circuit; is = refl; read_back = read_back circuit valid; optimal = optimal };
}

-- there is none
pub optimal-refuses : (library : Library) (spec : Marked) (why : OptimalFault) (name : List ℕ) (old new : FilesView) (it : Unmade)
    → ((lines : ℕ) → why ≡ fault.TooManyLines lines → (spec.table.lines ≡ lines) × (MOST_OPTIMAL_LINES < lines))
    → ((most : ℕ) → why ≡ fault.MoreGates most → (most ≡ most_gates library) × (spec.table.lines ≤ MOST_OPTIMAL_LINES)
    × TakesAtLeast library spec.table.lines spec.table.images (most + 1))
    → it ≡ unmade_by (in_vain why) → ReadsOnly (name ∷ []) old new → HasObject permutation (name ∷ []) old new spec
    → Makes (optimal_row library) (name ∷ []) old new (Err it)
optimal-refuses library spec (fault.TooManyLines lines) name old new it wide gates is keeps has =
    let many = wide lines refl in
    finds-refused permutation optimal_limits (EndsInVain library) (IsOptimalSynthesis library) name old new spec (in_vain (fault.TooManyLines lines)) it is keeps has (
      omega arith,
      refused-first 0 spec.table.lines MOST_OPTIMAL_LINES (TooManyLines spec.table.lines MOST_OPTIMAL_LINES) (TooManyLines lines MOST_OPTIMAL_LINES) []
          (ap (λ n. TooManyLines n MOST_OPTIMAL_LINES) many.0) (subst (λ n. MOST_OPTIMAL_LINES < n) (sym many.0) many.1),
    )
optimal-refuses library spec (fault.MoreGates most) name old new it wide gates is keeps has =
    let more = gates most refl in
    finds-none permutation optimal_limits (EndsInVain library) (IsOptimalSynthesis library) name old new spec (MoreGates most) it is keeps has (more.1, tt)
    (refl, (more.0, more.2))
optimal-refuses library spec fault.Mem name old new it wide gates is keeps has =
    finds-refused permutation optimal_limits (EndsInVain library) (IsOptimalSynthesis library) name old new spec (in_vain fault.Mem) it is keeps has tt
