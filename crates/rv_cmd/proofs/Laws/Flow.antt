-- What `flow` writes: the text of a network that carries the permutation.
use Rattle.std.proofs.Common.{◌≡◌, ℕ, ◌+◌, ◌≤◌, ◌∙◌, Bool, List, [], ◌∷◌, length, Result, Ok, Err, ap, refl, subst, sym, arith}
use Rattle.std.specs.Prelude.{IfOk, IfErr}
use Rattle.rv_gate.specs.Circuit.{Cascade}
use Rattle.rv_gate.specs.declared.word.TheConstants.{MOST_LINES}
use Rattle.rv_perm.specs.Marked.{IsMarked, Marked}
use Rattle.rv_pla.specs.Pla.{TwoLevel}
use Rattle.rv_embed.specs.Embedding.{embedding_of}
use Rattle.rv_embed.proofs.Embeds.{embedding-embeds}
use Rattle.rv_mct.specs.Widened.{helper_count, lines_with_helpers}
use Rattle.rv_mct.specs.declared.aux.Aux.{Aux}
use Rattle.rv_flow.specs.Flow.{circuit_for}
use Rattle.rv_flow.specs.declared.synthesis.Synthesis.{Synthesis}
use Rattle.rv_flow.proofs.Carrying.{carries-permutation}
use Rattle.rv_flow.proofs.Circuits.{circuit-lines}
use Rattle.rv_faults.specs.declared.fault.Refusal.{Refusal}
use Rattle.rv_faults.specs.declared.fault.Refusal.TheVariants.{OutOfMemory, Refused}
use Rattle.rv_words.specs.declared.command.Blocks.{Blocks}
use Rattle.rv_words.specs.declared.command.Blocks.TheVariants.{Joined}
use Rattle.rv_words.specs.declared.command.Form.{Form}
use Rattle.rv_words.specs.declared.command.Form.TheVariants as form
use Rattle.rv_inputs.specs.Formats.{table}
use Rattle.rv_cmd.specs.declared.product.Product.{Product}
use Rattle.rv_cmd.specs.Commands.Embed.{embed_limits}
use Rattle.rv_cmd.specs.Commands.Flow.{IsFlow, IsFunctionFlow, flow_limits, flow_report, flow_row, function_limits, function_report, joined_row, ruled_row}
use Rattle.rv_cmd.specs.Commands.Map.{IsMapping, map_limits, map_report, network_limits}
use Rattle.rv_cmd.specs.Row.{always, finds, one}
use Rattle.rv_cmd.specs.Limits.{AreKept, found_within, of_lines}
use Rattle.rv_cmd.specs.inside.Products.{IsProductOf, IsRefusalOf, product_text}
use Rattle.rv_cmd.proofs.Laws.Map.{maps-on}
use Rattle.rv_cmd.proofs.inside.Limits.{kept-append, refusal-after, refused-after}

module _ (method : Synthesis) (simplify : Bool) (blocks : Blocks) (aux : Aux) where
  abbrev found : Marked → Cascade
  found spec = circuit_for method simplify spec

  -- ---- of a permutation

  -- the network of its circuit
  of-circuit : (spec : Marked) (text : List ℕ) → IsMarked spec → helper_count aux (found spec) ≤ 13 → IsMapping blocks aux (found spec) text
      → IsFlow method simplify blocks aux spec text
  of-circuit spec text valid few m =
      let on = maps-on blocks aux (found spec) m.net m.maps in
      let extra : ℕ = helper_count aux (found spec) in
      let width : length (found spec).names ≡ spec.table.lines = circuit-lines method simplify spec in
      let lines : m.net.lines ≡ spec.table.lines + extra = on.lines ∙ ap (λ n. n + extra) width in
      record {
        net = m.net;
        is = m.is;
        read_back = m.read_back;
        maps = m.maps;
        valid = on.valid;
        lines = lines;
        few = omega (arith, lines, few);
        carries = carries-permutation method simplify aux spec m.net.ops valid on.carries;
      }

  -- the code makes it of this circuit
  module _ (spec : Marked) (c : Cascade) (is : c ≡ found spec) where
    pub flow-answers : (result : Result Product Refusal) → IsMarked spec → helper_count aux c ≤ 13 → IfOk result (IsProductOf (map_report blocks aux c) (IsMapping blocks aux c))
        → IfOk result (IsProductOf (flow_report method simplify blocks aux spec) (IsFlow method simplify blocks aux spec))
    flow-answers (Err refused) valid few made = tt
    flow-answers (Ok product) valid few made =
        let Maps : Cascade → Type 0 = λ d. IsProductOf (map_report blocks aux d) (IsMapping blocks aux d) product in
        let of_circuit : Maps (found spec) = subst Maps is made in
        let helpers : helper_count aux (found spec) ≤ 13 = subst (λ d. helper_count aux d ≤ 13) is few in
        record { kept = of_circuit.kept.1; is = of_circuit.is; means = of-circuit spec _ valid helpers of_circuit.means }

    -- or finds it
    pub flow-found : (result : Result Product Refusal) → IsMarked spec → helper_count aux c ≤ 13
        → IfOk result (λ product. IsProductOf (found_within (map_limits blocks aux c) (product_text product)) (IsMapping blocks aux c) product)
        → IfOk result (λ product.
        IsProductOf (found_within (flow_limits method simplify blocks aux spec) (product_text product)) (IsFlow method simplify blocks aux spec) product)
    flow-found (Err refused) valid few made = tt
    flow-found (Ok product) valid few made =
        let text : List ℕ = product_text product in
        let Maps : Cascade → Type 0 = λ d. IsProductOf (found_within (map_limits blocks aux d) text) (IsMapping blocks aux d) product in
        let of_circuit : Maps (found spec) = subst Maps is made in
        let helpers : helper_count aux (found spec) ≤ 13 = subst (λ d. helper_count aux d ≤ 13) is few in
        record { kept = of_circuit.kept.1; is = refl; means = of-circuit spec text valid helpers of_circuit.means }

    pub flow-refuses : (result : Result Product Refusal) → lines_with_helpers aux c ≤ MOST_LINES → IfErr result (IsRefusalOf 1 (map_limits blocks aux c))
        → IfErr result (IsRefusalOf 1 (flow_limits method simplify blocks aux spec))
    flow-refuses (Ok product) few unmade = tt
    flow-refuses (Err refused) few unmade =
        subst (λ d. IsRefusalOf 1 (network_limits blocks aux d) refused) is (later refused unmade)
      where
        later : (refusal : Refusal) → IsRefusalOf 1 (map_limits blocks aux c) refusal → IsRefusalOf 1 (network_limits blocks aux c) refusal
        later (Refused input why) r = (r.0, sym (refused-after (of_lines (lines_with_helpers aux c) MOST_LINES ∷ []) (network_limits blocks aux c) (few, tt)) ∙ r.1)
        later OutOfMemory r = tt

  -- ---- of a PLA

  module _ (pla : TwoLevel) (spec : Marked) (kept : AreKept (embed_limits pla)) (embedded : spec ≡ embedding_of pla) where
    pub function-answers : (result : Result Product Refusal) → IfOk result (IsProductOf (flow_report method simplify blocks aux spec) (IsFlow method simplify blocks aux spec))
        → IfOk result (IsProductOf (function_report method simplify blocks aux pla) (IsFunctionFlow method simplify blocks aux pla))
    function-answers (Err refused) is = tt
    function-answers (Ok made) is =
        let Flows : Marked → Type 0 = λ s. IsProductOf (flow_report method simplify blocks aux s) (IsFlow method simplify blocks aux s) made in
        let of_function : Flows (embedding_of pla) = subst Flows embedded is in
        record {
          kept = kept-append (embed_limits pla) (flow_limits method simplify blocks aux (embedding_of pla)) kept of_function.kept;
          is = of_function.is;
          means = record { embeds = embedding-embeds pla; carried = of_function.means };
        }

    pub function-found : (result : Result Product Refusal)
        → IfOk result (λ product.
        IsProductOf (found_within (flow_limits method simplify blocks aux spec) (product_text product)) (IsFlow method simplify blocks aux spec) product)
        → IfOk result (λ product.
        IsProductOf (found_within (function_limits method simplify blocks aux pla) (product_text product)) (IsFunctionFlow method simplify blocks aux pla)
        product)
    function-found (Err refused) is = tt
    function-found (Ok made) is =
        let Flows : Marked → Type 0 = λ s.
        IsProductOf (found_within (flow_limits method simplify blocks aux s) (product_text made)) (IsFlow method simplify blocks aux s) made in
        let of_function : Flows (embedding_of pla) = subst Flows embedded is in
        record {
          kept = kept-append (embed_limits pla) (flow_limits method simplify blocks aux (embedding_of pla)) kept of_function.kept;
          is = refl;
          means = record { embeds = embedding-embeds pla; carried = of_function.means };
        }

    pub function-refuses : (result : Result Product Refusal) → IfErr result (IsRefusalOf 1 (flow_limits method simplify blocks aux spec))
        → IfErr result (IsRefusalOf 1 (function_limits method simplify blocks aux pla))
    function-refuses (Ok made) is = tt
    function-refuses (Err refused) is =
        let Refuses : Marked → Type 0 = λ s. IsRefusalOf 1 (flow_limits method simplify blocks aux s) refused in
        refusal-after 1 (embed_limits pla) (flow_limits method simplify blocks aux (embedding_of pla)) refused kept (subst Refuses embedded is)

-- ---- rows

-- from a truth table
pub flow-of-table : (origin : Form) (method : Synthesis) (simplify : Bool) (blocks : Blocks) (aux : Aux) → (origin ≡ form.Perm → ⊥)
    → ruled_row origin method simplify blocks aux ≡ one table (function_report method simplify blocks aux) (IsFunctionFlow method simplify blocks aux)
flow-of-table form.Perm method simplify blocks aux other = absurd (other refl)
flow-of-table _ method simplify blocks aux other = refl

pub joined-of-table : (origin : Form) (method : Synthesis) (simplify : Bool) (aux : Aux) → (origin ≡ form.Perm → ⊥)
    → joined_row origin method simplify aux
    ≡ finds table (function_limits method simplify Joined aux) always (IsFunctionFlow method simplify Joined aux)
joined-of-table form.Perm method simplify aux other = absurd (other refl)
joined-of-table _ method simplify aux other = refl

-- by a rule
pub flow-by-rule : (origin : Form) (method : Synthesis) (simplify : Bool) (blocks : Blocks) (aux : Aux) → (blocks ≡ Joined → ⊥)
    → flow_row origin method simplify blocks aux ≡ ruled_row origin method simplify blocks aux
flow-by-rule origin method simplify Joined aux other = absurd (other refl)
flow-by-rule origin method simplify _ aux other = refl
