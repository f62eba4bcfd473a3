-- A circuit that is written.
use Rattle.std.proofs.Common.{◌≡◌, ℕ, List, Ok, ap, subst}
use Rattle.rv_gate.specs.Circuit.{Cascade, IsCascade}
use Rattle.rv_real.specs.Reading.{real_of}
use Rattle.rv_real.specs.Text.{text_of}
use Rattle.rv_real.proofs.inside.ReadBack.{read_back}
use Rattle.rv_cmd.specs.declared.product.Product.TheVariants.{Circuit}
use Rattle.rv_cmd.specs.Limits.{AreKept, Limit}
use Rattle.rv_cmd.specs.inside.Products.{IsProductOf}

-- it is the circuit that is asked for, and its text is read back as this
pub circuit-written : (limits : List Limit) (Means : List ℕ → Type 0) (c made : Cascade) → AreKept limits → made ≡ c → IsCascade made
    → (real_of (text_of c) ≡ Ok c → Means (text_of c)) → IsProductOf (record { limits = limits; text = text_of c }) Means (Circuit made)
circuit-written limits Means c made kept is valid meant =
    record { kept = kept; is = ap text_of is; means = meant (read_back c (subst IsCascade is valid)) }
