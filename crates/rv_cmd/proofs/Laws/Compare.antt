-- What `compare` answers: by the definitions alone, what its report tells of both sides is what holds of them.
use Rattle.std.proofs.Common.{◌≡◌, ◌≢◌, ◌↔◌, ◌++◌, ℕ, codes, if◌then◌else◌, ne_eqb, Bool, true, false, List, [], refl, ap, sym, subst, ◌∙◌, inl, inr, arith}
use Rattle.std.proofs.lemmas.Bool.{true≢false}
use Rattle.rv_gate.specs.Circuit.{Cascade}
use Rattle.rv_gate.specs.Marks.{input_count}
use Rattle.rv_perm.specs.Marked.{Marked}
use Rattle.rv_pla.specs.Pla.{TwoLevel}
use Rattle.rv_blif.specs.Logic.{Logic}
use Rattle.rv_compare.specs.Compare.{AreSame, EndsFor, GivesAllowed, GivesImage, GivesOutputs, HasManyInputs, IsAnswer, Size, asked}
use Rattle.rv_compare.specs.Compare.{circuits_answer, logic_answer, perm_answer, size_by, size_for, size_in, size_of, table_answer}
use Rattle.rv_compare.specs.declared.comparison.CompareFault.{CompareFault}
use Rattle.rv_compare.specs.declared.comparison.CompareFault.TheVariants as fault
use Rattle.rv_compare.specs.declared.comparison.Comparison.{Comparison}
use Rattle.rv_compare.specs.declared.comparison.Comparison.TheVariants.{Differs, Inputs, Outputs, Same}
use Rattle.rv_compare.proofs.inside.Found.{circuits_answer-is, logic_answer-is, perm_answer-is, table_answer-is}
use Rattle.rv_compare.proofs.inside.Least.{exact_answer}
use Rattle.rv_faults.specs.Fault.{bits_of}
use Rattle.rv_faults.specs.declared.fault.Refusal.{Refusal}
use Rattle.rv_cmd.specs.declared.product.Product.{Product}
use Rattle.rv_cmd.specs.declared.product.Product.TheVariants as product
use Rattle.rv_cmd.specs.Commands.Compare.{LacksAnswer, TellsCircuits, TellsComparison, TellsLogic, TellsPerm, TellsTable, circuits_report}
use Rattle.rv_cmd.specs.Commands.Compare.{comparison_text, differs_said, logic_report, no_answer, perm_report, says_apart, table_report}
use Rattle.rv_cmd.specs.Limits.{AreKept, Limit}
use Rattle.rv_cmd.specs.inside.Products.{IsProductOf, IsUntoldOf, product_text}

-- ---- the report

-- only `same` is no difference
same-only : (answer : Comparison) → (says_apart answer ≡ false) ↔ (answer ≡ Same)
same-only Same = (λ is. refl, λ is. refl)
same-only (Inputs n m) = (λ is. absurd (true≢false is), λ is. absurd (let z = is in cc))
same-only (Outputs n m) = (λ is. absurd (true≢false is), λ is. absurd (let z = is in cc))
same-only (Differs word) = (λ is. absurd (true≢false is), λ is. absurd (let z = is in cc))

-- a word that is not empty
pub differs-some : (inputs word : ℕ) → inputs ≢ 0 → differs_said inputs word ≡ codes "differs at word " ++ bits_of inputs word
differs-some inputs word some =
    ap (λ (test : Bool). if test then codes "differs at the empty word" else codes "differs at word " ++ bits_of inputs word) (ne_eqb inputs 0 some)

tells : (a b : Size) (Agree : List Bool → Type 0) (answer : Comparison) → IsAnswer a b Agree answer → TellsComparison a b Agree answer (comparison_text a.inputs answer)
tells a b Agree answer holds = record { is = refl; exact = exact_answer a b Agree answer holds; status = same-only answer }

-- the code found this answer of a circuit with so many inputs
made-of : (limits : List Limit) (Means : List ℕ → Type 0) (count inputs : ℕ) (want answer : Comparison) (made : Product) → AreKept limits → inputs ≡ count
    → answer ≡ want → made ≡ product.Comparison inputs answer → Means (comparison_text count want)
    → IsProductOf (record { limits = limits; text = comparison_text count want }) Means made
made-of limits Means count inputs want answer made kept counted is what meant = record {
  kept = kept;
  is = ap product_text what ∙ ap (λ n. comparison_text n answer) counted ∙ ap (comparison_text count) is;
  means = meant;
}

pub circuits-made : (a b : Cascade) (inputs : ℕ) (answer : Comparison) (made : Product) → inputs ≡ input_count a.constants
    → answer ≡ circuits_answer a b → made ≡ product.Comparison inputs answer → IsProductOf (circuits_report a b) (TellsCircuits a b) made
circuits-made a b inputs answer made counted is what =
    made-of [] (TellsCircuits a b) (input_count a.constants) inputs (circuits_answer a b) answer made tt counted is what
    (tells (size_of a) (size_of b) (AreSame a b) (circuits_answer a b) (circuits_answer-is a b))

pub perm-made : (c : Cascade) (m : Marked) (inputs : ℕ) (answer : Comparison) (made : Product) → inputs ≡ input_count c.constants → answer ≡ perm_answer c m
    → made ≡ product.Comparison inputs answer → IsProductOf (perm_report c m) (TellsPerm c m) made
perm-made c m inputs answer made counted is what =
    made-of [] (TellsPerm c m) (input_count c.constants) inputs (perm_answer c m) answer made tt counted is what
    (tells (size_of c) (size_by m) (GivesImage c m) (perm_answer c m) (perm_answer-is c m))

pub table-made : (c : Cascade) (pla : TwoLevel) (inputs : ℕ) (answer : Comparison) (made : Product) → inputs ≡ input_count c.constants → answer ≡ table_answer c pla
    → made ≡ product.Comparison inputs answer → IsProductOf (table_report c pla) (TellsTable c pla) made
table-made c pla inputs answer made counted is what =
    made-of [] (TellsTable c pla) (input_count c.constants) inputs (table_answer c pla) answer made tt counted is what
    (tells (size_of c) (size_for pla) (GivesAllowed c pla) (table_answer c pla) (table_answer-is c pla))

pub logic-made : (c : Cascade) (network : Logic) (inputs : ℕ) (answer : Comparison) (made : Product) → inputs ≡ input_count c.constants
    → answer ≡ logic_answer c network → made ≡ product.Comparison inputs answer → IsProductOf (logic_report c network) (TellsLogic c network) made
logic-made c network inputs answer made counted is what =
    made-of [] (TellsLogic c network) (input_count c.constants) inputs (logic_answer c network) answer made tt counted is what
    (tells (size_of c) (size_in network) (GivesOutputs c network) (logic_answer c network) (logic_answer-is c network))

-- ---- where there is no answer

untold-by : {X : Type 0} (nodes : ℕ) (all : Bool) (c : Cascade) (other : X) (of : CompareFault) → EndsFor (asked all c) of → IsUntoldOf 2 [] (LacksAnswer nodes all c other) (no_answer nodes of)
untold-by nodes all c other fault.Undecided many = inr (omega arith, tt, (refl, refl, many))
untold-by nodes all c other fault.Mem ends = inl tt

pub compare-untold : {X : Type 0} (nodes : ℕ) (all : Bool) (c : Cascade) (other : X) (of : CompareFault) (refusal : Refusal) → EndsFor (asked all c) of → refusal ≡ no_answer nodes of
    → IsUntoldOf 2 [] (LacksAnswer nodes all c other) refusal
compare-untold nodes all c other of refusal ends is =
    let P : Refusal → Type 0 = IsUntoldOf 2 [] (LacksAnswer nodes all c other) in subst P (sym is) (untold-by nodes all c other of ends)

pub many-ends : (c : Cascade) (of : CompareFault) → HasManyInputs c → EndsFor c of
many-ends c fault.Undecided many = many
many-ends c fault.Mem many = tt
