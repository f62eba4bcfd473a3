-- Images of words, and circuits and permutations without marks.
use Rattle.std.proofs.Common.{arith}
use Rattle.std.proofs.Common.{◌≡◌, ℕ, ◌^◌, ◌<◌, List, Bool, false, length, replicate, sym, ◌∙◌, ap, subst}
use Rattle.std.specs.Prelude.{◌↔◌}
use Rattle.rv_gate.specs.Circuit.{Cascade}
use Rattle.rv_gate.specs.Gate.{run}
use Rattle.rv_gate.specs.Marks.{input_count, output_count, with_constants, without_garbage}
use Rattle.rv_gate.specs.Word.{number_of}
use Rattle.rv_gate.specs.inside.laws.WordLaws.{length-word_of, number_of-lt}
use Rattle.rv_gate.specs.declared.circuit.Mark.TheVariants.{Input}
use Rattle.rv_gate.proofs.inside.GateLemmas.{length-run}
use Rattle.rv_gate.proofs.Marks.{input_count-inputs, output_count-outputs, with_constants-inputs, without_garbage-outputs}
use Rattle.rv_perm.specs.Marked.{Marked, unmarked}
use Rattle.rv_perm.specs.Perm.{Computes, Table, permuted}
use Rattle.rv_compare.specs.Compare.{IsUnmarked, PermAnswer, function_by, function_of}
use Rattle.rv_compare.specs.declared.comparison.Comparison.TheVariants.{Same}

-- and a word has a small number
pub small_number : (word : List Bool) (n : ℕ) → length word ≡ n → number_of word < 2 ^ n
small_number word n len = let P : ℕ → Type 0 = λ m. number_of word < 2 ^ m in subst P len (number_of-lt word)

pub length-permuted : (table : Table) (word : List Bool) → length (permuted table word) ≡ table.lines
length-permuted table word = length-word_of table.lines _

-- ---- without marks

-- where each line takes a bit and none is garbage, all is what is done to the whole word
whole : (n : ℕ) (f : List Bool → List Bool) (x : List Bool) → length x ≡ n → length (f x) ≡ n → without_garbage (replicate n false) (f (with_constants (replicate n Input) x)) ≡ f x
whole n f x len long = grind (arith, without_garbage, with_constants, with_constants-inputs, without_garbage-outputs)

function_of-unmarked : (c : Cascade) (x : List Bool) → IsUnmarked c → length x ≡ length c.names → function_of c x ≡ run c.gates x
function_of-unmarked c x free len = grind (arith, without_garbage, with_constants, whole, length-run)

function_by-unmarked : (table : Table) (x : List Bool) → length x ≡ table.lines → function_by (unmarked table) x ≡ permuted table x
function_by-unmarked table x len = whole table.lines (permuted table) x len (length-permuted table x)

-- without marks they are the same if the gates compute the permutation
unmarked_same : (c : Cascade) (table : Table) → IsUnmarked c → PermAnswer c (unmarked table) Same ↔ ((length c.names ≡ table.lines) × Computes table.lines c.gates table.images)
unmarked_same c table free =
    let inputs : input_count c.constants ≡ length c.names = ap input_count free.constants ∙ input_count-inputs (length c.names) in
    let outputs : output_count c.garbage ≡ length c.names = ap output_count free.garbage ∙ output_count-outputs (length c.names) in (
      λ h.
          let lines : length c.names ≡ table.lines = sym inputs ∙ h.0 ∙ input_count-inputs table.lines in (
            lines,
            λ word len.
                let long : length word ≡ length c.names = len ∙ sym lines in
                sym (function_of-unmarked c word free long) ∙ h.2 word (long ∙ sym inputs) ∙ function_by-unmarked table word len,
          ),
      λ h. (
        inputs ∙ h.0 ∙ sym (input_count-inputs table.lines),
        outputs ∙ h.0 ∙ sym (output_count-outputs table.lines),
        λ x len.
            let long : length x ≡ length c.names = len ∙ inputs in
            function_of-unmarked c x free long ∙ h.1 x (long ∙ h.0) ∙ sym (function_by-unmarked table x (long ∙ h.0)),
      ),
    )

pub marked_same : (c : Cascade) (m : Marked) → IsUnmarked c → m ≡ unmarked m.table → PermAnswer c m Same ↔ ((length c.names ≡ m.table.lines) × Computes m.table.lines c.gates m.table.images)
marked_same c m free is = grind (arith, unmarked_same)
