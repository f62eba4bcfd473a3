-- What the sizes of templates say of windows.
use Rattle.std.proofs.Common.{◌≡◌, ℕ, zero, suc, ◌+◌, ◌*◌, ◌<◌, ◌≤◌, true, List, ◌∷◌, length, take, drop, refl, sym, ◌∙◌, ap, arith}
use Rattle.std.specs.Prelude.{bit_or, count_ones, Option, Some, None}
use Rattle.std.proofs.lemmas.Bool.{or_left}
use Rattle.std.proofs.lemmas.List.{length-take, length-take-le, get_or-take, get_or-drop, drop-drop}
use Rattle.std.proofs.lemmas.Nat.{ones_le_self}
use Rattle.rv_gate.specs.Word.{has}
use Rattle.rv_gate.specs.declared.gate.Shape.{Shape}
use Rattle.rv_gate.proofs.FirstAnswer.{none_first}
use Rattle.rv_links.specs.Order.{NoTwice, next_in}
use Rattle.rv_links.specs.Nodes.{Node, live, node_gate, ids_in}
use Rattle.rv_templ.specs.Choices.{template_in, window_at, at_count, at_most}
use Rattle.rv_templ.specs.Folds.{union_below}
use Rattle.rv_templ.specs.Gates.{gate_in, no_gate}
use Rattle.rv_templ.specs.Templates.{AreTemplates}
use Rattle.rv_templ.specs.inside.Linking.{coming}
use Rattle.rv_templ.specs.inside.Pruning.{varied_at, varied}
use Rattle.rv_templ.specs.inside.Sizes.{AreSizes}
use Rattle.rv_templ.proofs.inside.ChoiceLemmas.{are_at, too_short, too_long}
use Rattle.rv_templ.proofs.inside.FoldLemmas.{union_part, part_of_union}
use Rattle.rv_templ.proofs.inside.Incidences.{count_ones-within}
use Rattle.rv_templ.proofs.inside.LinkedWindows.{coming_next}
use Rattle.rv_templ.proofs.inside.VariedLines.{varied_more, none_wide}
use Rattle.rv_templ.proofs.inside.WindowSteps.{window_begun}

-- ---- lines that vary

union_same : (f g : ℕ → ℕ) (n : ℕ) → ((i : ℕ) → i < n → f i ≡ g i) → union_below f n ≡ union_below g n
unfolding union_below
union_same f g zero e = refl
union_same f g (suc n) e = ap (λ s. bit_or s (f n)) (union_same f g n (λ i lt. e i (omega arith))) ∙ ap (bit_or (union_below g n)) (e n (omega arith))

varied_taken : (gates : List Shape) (k : ℕ) → varied (take k gates) k ≡ varied gates k
varied_taken gates k = grind (arith, union_same, varied_at, gate_in, get_or-take, no_gate)

-- in more gates no fewer lines vary
pub varied_most : (gates : List Shape) (i k wide : ℕ) → i ≤ k → wide < count_ones (varied gates i) → wide < count_ones (varied gates k)
varied_most gates i k wide le more =
    let f : ℕ → ℕ = λ j. varied_at (gate_in gates j) (gate_in gates 0) in
    let few = count_ones-within (varied gates i) (varied gates k) 0 (λ line on. or_left (has (varied gates k) line) (has 0 line)
    (let p = part_of_union f i line on in union_part f k p.0 line (omega (arith, p.1)) p.2)) in
    omega (arith, few, ones_le_self 0)

-- the gate at a place, and those after it
pub one_on : (gates here next : List Shape) (g : Shape) (i : ℕ) → here ≡ drop i gates → here ≡ g ∷ next → (g ≡ gate_in gates i) × (next ≡ drop (i + 1) gates)
one_on gates here next g i e h =
    let z : i + 0 ≡ i = omega arith in (
      ap (λ l. gate_in l 0) (sym h ∙ e) ∙ get_or-drop i gates 0 no_gate ∙ ap (gate_in gates) z,
      ap (drop 1) (sym h ∙ e) ∙ drop-drop 1 i gates,
    )

-- ---- the walk from a node on

pub reach_set : (a b i set lines : ℕ) (at : Option ℕ) (nodes : List Node) (g first : Shape) → NoTwice (ids_in nodes) → live a nodes ≡ true → live b nodes ≡ true → at ≡ Some b
    → first ≡ node_gate a nodes → g ≡ node_gate b nodes → coming at nodes ≡ drop i (coming (Some a) nodes) → set ≡ varied (coming (Some a) nodes) i → lines ≡ varied_at g first
    → bit_or set lines ≡ varied (coming (Some a) nodes) (i + 1)
reach_set a b i set lines at nodes g first d on_a on_b e ef eg rest es el =
    let gates : List Shape = coming (Some a) nodes in
    let here = one_on gates (coming at nodes) (coming (next_in b (ids_in nodes)) nodes) g i rest (ap (λ q. coming q nodes) e ∙ coming_next b nodes (next_in b (ids_in nodes)) g d on_b refl eg) in
    let start = one_on gates gates (coming (next_in a (ids_in nodes)) nodes) first 0 refl (coming_next a nodes (next_in a (ids_in nodes)) first d on_a refl ef) in
    varied_more gates set i lines g first es here.0 start.0 el

pub reach_rest : (a b i : ℕ) (at next : Option ℕ) (nodes : List Node) (g : Shape) → NoTwice (ids_in nodes) → live b nodes ≡ true → at ≡ Some b → g ≡ node_gate b nodes → next ≡ next_in b (ids_in nodes)
    → coming at nodes ≡ drop i (coming (Some a) nodes) → coming next nodes ≡ drop (i + 1) (coming (Some a) nodes)
reach_rest a b i at next nodes g d on e eg en rest =
    (one_on (coming (Some a) nodes) (coming at nodes) (coming next nodes) g i rest (ap (λ q. coming q nodes) e ∙ coming_next b nodes next g d on en eg)).1

-- ---- windows

-- so many gates are no window if more lines vary in them than a template touches
wide_none : (most least wide : ℕ) (library : List (List Shape)) (gates : List Shape) (k : ℕ) → AreTemplates library → AreSizes most least wide library → 0 < k → k ≤ length gates
    → (k ≤ most → wide < count_ones (varied gates k)) → at_count gates library k ≡ None
unfolding at_count
wide_none most least wide library gates k are sizes some le more = grind (arith, length-take-le, none_first, too_short, varied_taken, none_wide, are_at, too_long)

-- the window at a place is one of its first gates, if in more of them too many lines vary
pub window_near : (most least wide n : ℕ) (library : List (List Shape)) (gates : List Shape) → AreTemplates library → AreSizes most least wide library
    → ((k : ℕ) → n < k → k ≤ most → k ≤ length gates → wide < count_ones (varied gates k)) → window_at (take n gates) library ≡ window_at gates library
window_near most least wide n library gates are sizes beyond =
    window_begun n library gates (λ k more le. wide_none most least wide library gates k are sizes (omega arith) le (λ few. beyond k more few le))

few_none : (least n : ℕ) (library : List (List Shape)) (gates : List Shape) → ((t : ℕ) → t < length library → least ≤ length (template_in library t)) → 2 * n ≤ least → at_most gates library n ≡ None
unfolding at_most at_count
few_none least zero library gates long few = refl
few_none least (suc n) library gates long few = let i0 = few_none least n library gates long in grind (arith, i0, none_first, too_long, length-take)

-- so few gates are no window
pub window_few : (most least wide n : ℕ) (library : List (List Shape)) (gates : List Shape) → AreSizes most least wide library → 2 * n ≤ least → window_at (take n gates) library ≡ None
window_few most least wide n library gates sizes few = grind (arith, few_none, length-take)
