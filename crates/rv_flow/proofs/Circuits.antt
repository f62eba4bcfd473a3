-- The circuit of a permutation: its gates fit, they compute the permutation, and they are not many.
use Rattle.std.proofs.Common.{◌≡◌, ℕ, suc, ◌-◌, ◌*◌, ◌^◌, ◌≤◌, Bool, true, false, List, [], ◌∷◌, length, All, refl, sym, ◌∙◌, ap, arith, le_of_eq, le_trans}
use Rattle.std.proofs.Math.Nat.{mul-le-mul_right, pow-suc}
use Rattle.std.proofs.lemmas.List.Elements.{All-head, All-tail}
use Rattle.rv_gate.specs.Gate.{IsFlip, run}
use Rattle.rv_gate.specs.declared.gate.Shape.{Shape}
use Rattle.rv_gate.proofs.NameLemmas.{length-numbered}
use Rattle.rv_perm.specs.Marked.{IsMarked, Marked}
use Rattle.rv_tbs.specs.Synthesis.{gates_of, synthesis_of}
use Rattle.rv_tbs.specs.declared.method.Method.{Method}
use Rattle.rv_tbs.proofs.inside.BothSides.{Synthesizes}
use Rattle.rv_tbs.proofs.Methods.{gates_of-synthesizes}
use Rattle.rv_tbs.proofs.Turning as turning
use Rattle.rv_dbs.specs.Meaning.{IsSingles}
use Rattle.rv_dbs.specs.Singles.{single_synthesis_of, singles}
use Rattle.rv_dbs.proofs.Stepped.{all_singles}
use Rattle.rv_templ.specs.BuiltIn.{built_in}
use Rattle.rv_templ.specs.Gates.{AreGates, Flips}
use Rattle.rv_templ.specs.Simplified.{simplified}
use Rattle.rv_templ.proofs.BuiltInLaws.{built_in_are}
use Rattle.rv_templ.proofs.LinkedGates.{all_gates}
use Rattle.rv_perm.specs.Perm.{permuted}
use Rattle.rv_flow.specs.Flow.{circuit_for, synthesized}
use Rattle.rv_flow.specs.declared.synthesis.Synthesis.{Synthesis}
use Rattle.rv_flow.specs.declared.synthesis.Synthesis.TheVariants.{Rows, SingleTargets}
use Rattle.rv_flow.proofs.Flips.{of_simplified}
use Rattle.rv_flow.proofs.Kept.{Keeps, by_simplifying}

fitting : (n : ℕ) (gates : List Shape) → turning.Flips n gates → AreGates n gates
fitting n [] flips = tt
fitting n (g ∷ rest) flips = (flips.0.1, flips.0.2, fitting n rest flips.1)

all_flips : (n : ℕ) (gates : List Shape) → turning.Flips n gates → Flips gates
all_flips n [] flips = tt
all_flips n (g ∷ rest) flips = (flips.0.0, all_flips n rest flips.1)

pub record IsFor (spec : Marked) (gates : List Shape) : Type 0 where
  pub good : AreGates spec.table.lines gates
  pub flips : Flips gates
  pub few : length gates ≤ spec.table.lines * 2 ^ spec.table.lines
  pub computes : (word : List Bool) → length word ≡ spec.table.lines → run gates word ≡ permuted spec.table word

by-rows : (method : Method) (spec : Marked) → IsMarked spec → IsFor spec (synthesis_of method spec).gates
by-rows method spec is =
    let n : ℕ = spec.table.lines in
    let gates : List Shape = gates_of method n spec.table.images in
    let s : Synthesizes n spec.table.images gates = gates_of-synthesizes method n spec.table.images is.permutes in
    record { good = fitting n gates s.flips; flips = all_flips n gates s.flips; few = s.few; computes = s.computes }

-- 2n - 1 single-target gates of at most 2^(n - 1) flips each
doubled : (n m : ℕ) → 2 * n * m ≡ n * (m * 2)
doubled n m = omega arith

singles-few : (n : ℕ) → 1 ≤ n → (2 * n - 1) * 2 ^ (n - 1) ≤ n * 2 ^ n
singles-few n some =
    let m : ℕ = 2 ^ (n - 1) in
    let fewer : (2 * n - 1) * m ≤ 2 * n * m = mul-le-mul_right m (omega arith) in
    let back : suc (n - 1) ≡ n = omega (arith, some) in
    le_trans fewer (le_of_eq (doubled n m ∙ ap (λ k. n * k) (sym (pow-suc 2 (n - 1)) ∙ ap (λ k. 2 ^ k) back)))

flips_in : (gates : List Shape) → All IsFlip gates → Flips gates
flips_in [] flips = tt
flips_in (g ∷ rest) flips = (All-head IsFlip g rest flips, flips_in rest (All-tail IsFlip g rest flips))

by-single-targets : (spec : Marked) → IsMarked spec → IsFor spec (single_synthesis_of spec).gates
by-single-targets spec is =
    let n : ℕ = spec.table.lines in
    let gates : List Shape = singles n spec.table.images in
    let s : IsSingles n spec.table.images gates = all_singles n spec.table.images is.permutes in
    record {
      good = all_gates n gates s.flips.valid s.flips.fits;
      flips = flips_in gates s.flips.flips;
      few = le_trans s.flips.few (singles-few n is.permutes.0);
      computes = s.computes;
    }

synthesized-is : (synthesis : Synthesis) (spec : Marked) → IsMarked spec → IsFor spec (synthesized synthesis spec).gates
synthesized-is (Rows method) spec is = by-rows method spec is
synthesized-is SingleTargets spec is = by-single-targets spec is

simplified_too : (spec : Marked) (gates : List Shape) → IsMarked spec → IsFor spec gates → IsFor spec (simplified built_in gates)
simplified_too spec gates is for =
    let most : spec.table.lines ≤ 64 = omega (arith, is.permutes.1) in
    let k : Keeps spec.table.lines gates (simplified built_in gates) = by_simplifying spec.table.lines built_in gates built_in_are most for.good in
    record {
      good = k.good;
      flips = of_simplified built_in gates for.flips;
      few = let x = k.fewer in let y = for.few in omega arith;
      computes = λ word len. sym (k.same word len) ∙ for.computes word len;
    }

pub circuit-is : (synthesis : Synthesis) (simplify : Bool) (spec : Marked) → IsMarked spec → IsFor spec (circuit_for synthesis simplify spec).gates
circuit-is synthesis false spec is = synthesized-is synthesis spec is
circuit-is synthesis true spec is = simplified_too spec (synthesized synthesis spec).gates is (synthesized-is synthesis spec is)

synthesized-lines : (synthesis : Synthesis) (spec : Marked) → length (synthesized synthesis spec).names ≡ spec.table.lines
synthesized-lines (Rows method) spec = length-numbered 120 spec.table.lines
synthesized-lines SingleTargets spec = length-numbered 120 spec.table.lines

pub circuit-lines : (synthesis : Synthesis) (simplify : Bool) (spec : Marked) → length (circuit_for synthesis simplify spec).names ≡ spec.table.lines
circuit-lines synthesis false spec = synthesized-lines synthesis spec
circuit-lines synthesis true spec = synthesized-lines synthesis spec
