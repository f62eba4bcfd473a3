-- What a command's code answers, where a text within limits is asked for and memory may be wanting.
use Rattle.std.specs.Prelude.{◌≡◌, ◌⊎◌, ℕ, ◌<◌, false, List, Some, Result, Ok}
use Rattle.rv_real.specs.Text as real
use Rattle.rv_perm.specs.Text as perm
use Rattle.rv_pla.specs.Text.{esop_text}
use Rattle.rv_qasm.specs.Text as qasm
use Rattle.rv_curve.specs.Report.{curve_text}
use Rattle.rv_faults.specs.declared.fault.Refusal.{Refusal}
use Rattle.rv_faults.specs.declared.fault.Refusal.TheVariants.{Refused, OutOfMemory}
use Rattle.rv_cmd.specs.declared.product.Made.{Made}
use Rattle.rv_cmd.specs.declared.product.Product.{Product}
use Rattle.rv_cmd.specs.declared.product.Product.TheVariants.{Circuit, Permutation, Cubes, Network, Expansion, Toffolis, CircuitCost, NetCost, Summary, Verdict, Witness, Comparison, Curve, Drawing, NetDrawing}
use Rattle.rv_cmd.specs.Commands.Check.{verdict_text, witness_text}
use Rattle.rv_cmd.specs.Commands.Compare.{comparison_text}
use Rattle.rv_cmd.specs.Commands.Cost.{circuit_cost_text, net_cost_text}
use Rattle.rv_cmd.specs.Commands.Demo.{summary_text}
use Rattle.rv_cmd.specs.Commands.Draw.{circuit_text, network_text}
use Rattle.rv_cmd.specs.Limits.{AreKept, Limit, LimitedText, Report, first_refused}

-- the text that is written of a product
abbrev pub product_text : Product → List ℕ
product_text (Circuit circuit) = real.text_of circuit
product_text (Permutation spec) = perm.text_of spec
product_text (Cubes list) = esop_text list.inputs list.outputs list.cubes
product_text (Network net) = qasm.text_of net
product_text (Expansion net) = qasm.text_of net
product_text (Toffolis net) = qasm.text_of net
product_text (CircuitCost form cost) = circuit_cost_text form cost
product_text (NetCost form cost) = net_cost_text form cost
product_text (Summary summary) = summary_text summary
product_text (Verdict lines verdict) = verdict_text lines verdict
product_text (Witness lines word) = witness_text lines word
product_text (Comparison inputs answer) = comparison_text inputs answer
product_text (Curve curve) = curve_text curve.search curve.goal curve.seed curve.rows.items
product_text (Drawing circuit picture wrap) = circuit_text picture wrap circuit
product_text (NetDrawing lines net picture wrap) = network_text picture wrap lines net.ops

-- the limits are kept, and the text of a product is the one that is asked for, with its meaning
pub record IsProductOf (asked : LimitedText) (IsMeant : List ℕ → Type 0) (product : Product) : Type 0 where
  pub kept : AreKept asked.limits
  pub is : product_text product ≡ asked.text
  pub means : IsMeant asked.text

-- one of so many inputs is refused by the first limit that is not kept, or memory was wanting
abbrev pub IsRefusalOf : ℕ → List Limit → Refusal → Type 0
IsRefusalOf count limits (Refused input why) = (input < count) × (first_refused limits ≡ Some (Refused input why))
IsRefusalOf count limits OutOfMemory = Unit {0}

-- for a reason of one of so many inputs there is no report, though the limits are kept
abbrev pub IsLackOf : ℕ → List Limit → (Refusal → Type 0) → Refusal → Type 0
IsLackOf count limits Lacks (Refused input why) = (input < count) × AreKept limits × Lacks (Refused input why)
IsLackOf count limits Lacks OutOfMemory = ⊥

abbrev pub IsUntoldOf : ℕ → List Limit → (Refusal → Type 0) → Refusal → Type 0
IsUntoldOf count limits Lacks refused = IsRefusalOf count limits refused ⊎ IsLackOf count limits Lacks refused

-- the report that is written of what was made
abbrev pub report_of : Made → Report
report_of made = record { text = product_text made.product; differs = made.differs }

-- of a product that doesn't say that two inputs differ
abbrev pub alike : Product → Made
alike product = record { product = product; differs = false }

-- the report of what was made is what is asked for, with its meaning
pub record IsReportOf (asked : Result Report Refusal) (IsMeant : List ℕ → Type 0) (made : Made) : Type 0 where
  pub is : asked ≡ Ok (report_of made)
  pub means : IsMeant (product_text made.product)
