-- What `resynth` writes: the text of any circuit that is found for the circuit.
use Rattle.std.proofs.Common.{◌≡◌, ℕ, false, true, refl}
use Rattle.rv_gate.specs.Circuit.{Cascade, IsCascade}
use Rattle.rv_real.specs.Text.{text_of}
use Rattle.rv_real.proofs.inside.ReadBack.{read_back}
use Rattle.rv_resynth.specs.Resynthesis.{IsResynthesis, IsResynthesisByMarks}
use Rattle.rv_search.specs.declared.goal.Goal.{Goal}
use Rattle.rv_cmd.specs.declared.product.Product.TheVariants as product
use Rattle.rv_cmd.specs.Commands.Resynth.{IsResynthReport, resynth_limits}
use Rattle.rv_cmd.specs.Limits.{found_within}
use Rattle.rv_cmd.specs.inside.Products.{IsProductOf}

-- on all lines nothing is refused
pub resynth-answers : (goal : Goal) (effort : ℕ) (c new : Cascade) → IsCascade new → IsResynthesis goal c new → (effort ≡ 0 → new ≡ c)
    → IsProductOf (found_within (resynth_limits c) (text_of new)) (IsResynthReport false goal effort c) (product.Circuit new)
resynth-answers goal effort c new valid resynthesis idle = record {
  kept = tt;
  is = refl;
  means = record { new = new; is = refl; read_back = read_back new valid; resynthesis = resynthesis; idle = idle };
}

-- by the marks neither
pub marks-answers : (goal : Goal) (effort : ℕ) (c new : Cascade) → IsCascade new → IsResynthesisByMarks goal c new → (effort ≡ 0 → new ≡ c)
    → IsProductOf (found_within (resynth_limits c) (text_of new)) (IsResynthReport true goal effort c) (product.Circuit new)
marks-answers goal effort c new valid resynthesis idle = record {
  kept = tt;
  is = refl;
  means = record { new = new; is = refl; read_back = read_back new valid; resynthesis = resynthesis; idle = idle };
}
