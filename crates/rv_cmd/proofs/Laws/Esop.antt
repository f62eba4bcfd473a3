-- What `esop` writes: by the definitions alone, it has the function of the PLA, wherever its entries aren't free.
use Rattle.std.proofs.Common.{◌≡◌, ◌<◌, ◌≤◌, ℕ, Bool, List, [], ◌∷◌, ◌++◌, length, Result, Ok, Err, ap, ap₂, refl, sym, subst, ◌∙◌, arith}
use Rattle.std.specs.Prelude.{All, IsOkAnd, IsTrue}
use Rattle.std.proofs.lemmas.List.Elements.{All-nil, All-cons, All-head, All-tail}
use Rattle.rv_gate.specs.Circuit as circuits
use Rattle.rv_gate.specs.Gate.{IsFlip, run}
use Rattle.rv_gate.specs.Word.{has}
use Rattle.rv_gate.specs.declared.circuit.TheConstants.{MOST_GATES}
use Rattle.rv_pla.specs.Cube.{IsCube}
use Rattle.rv_pla.specs.declared.cube.Cube.{Cube}
use Rattle.rv_pla.specs.FreeEntries.{allows}
use Rattle.rv_pla.specs.Pla.{TwoLevel, entry, is_esop}
use Rattle.rv_pla.specs.Reading.{pla_of}
use Rattle.rv_pla.specs.Text.{IsEsopOf, esop_text}
use Rattle.rv_pla.specs.Zeros.{bit_for}
use Rattle.rv_pla.specs.declared.fault.PlaFault.{PlaFault}
use Rattle.rv_pla.proofs.inside.ReadBack as back_again
use Rattle.rv_cube.specs.Esop.{Esop, IsEsop, IsTerm, esop_value, terms_of}
use Rattle.rv_cube.specs.ReductionFor.{IsRight, IsSettledFor}
use Rattle.rv_cube.proofs.inside.Entries.{value-sum}
use Rattle.rv_esop.specs.Cascade.{cascade_of, esop_lines, flip_count, xor_set}
use Rattle.rv_esop.specs.Shared.{IsOnLines, cost_of}
use Rattle.rv_esop.proofs.AllFlips.{cascade-flips}
use Rattle.rv_exorlink.specs.Found.{IsFound}
use Rattle.rv_exorlink.specs.Weight.{IsNoWorse, most_of}
use Rattle.rv_exorlink.specs.declared.goal.Goal.{Goal}
use Rattle.rv_exorlink.specs.declared.goal.Goal.TheVariants as goals
use Rattle.rv_cube.specs.declared.list.TheConstants.{MOST_CUBES}
use Rattle.rv_real.specs.Text.{text_of}
use Rattle.rv_real.proofs.inside.ReadBack.{read_back}
use Rattle.rv_words.specs.declared.command.Form.{Form}
use Rattle.rv_words.specs.declared.command.Form.TheVariants.{Real, Pla, Qasm, Perm, Blif}
use Rattle.rv_cube.proofs.Irreducible.{irreducible_for}
use Rattle.rv_cmd.specs.declared.product.Product.{Product}
use Rattle.rv_cmd.specs.declared.product.Product.TheVariants.{Circuit, Cubes}
use Rattle.rv_cmd.specs.Commands.Esop.{Adds, Gives, IsEsopCascade, IsEsopReport, IsFoundCascade, IsFoundList, IsFoundReport, IsList, cascade_report, esop_report, found_limits, reduced_list}
use Rattle.rv_faults.specs.declared.fault.Refusal.{Refusal}
use Rattle.rv_cmd.specs.Limits.{found_within, unlimited}
use Rattle.rv_cmd.specs.inside.Products.{IsProductOf, IsRefusalOf, product_text}
use Rattle.rv_cmd.proofs.Laws.Cascade.{cascade-gives}
use Rattle.rv_exorlink.proofs.Finds.{no_worse_self, terms_all}

-- ---- as a circuit

-- the law
pub cascade-means : (pla : TwoLevel) → IsRight pla (reduced_list pla).cubes → Adds (reduced_list pla) (cascade_of (reduced_list pla)) → circuits.IsCascade (cascade_of (reduced_list pla))
    → IsEsopCascade pla (text_of (cascade_of (reduced_list pla)))
cascade-means pla value adds valid = record {
  read_back = read_back (cascade_of (reduced_list pla)) valid;
  adds = adds;
  value = value;
  gives = cascade-gives pla (reduced_list pla) (cascade_of (reduced_list pla)).gates refl refl value adds;
}

-- the code found this circuit
pub cascade-answers : (pla : TwoLevel) (list : Esop) (circuit : circuits.Cascade) → list ≡ reduced_list pla → IsRight pla list.cubes
    → flip_count list ≤ MOST_GATES → circuit ≡ cascade_of list → Adds list circuit → circuits.IsCascade circuit
    → IsProductOf (cascade_report (reduced_list pla)) (IsEsopCascade pla) (Circuit circuit)
cascade-answers pla list circuit is value few made adds valid =
    let Values : Esop → Type 0 = λ e. IsRight pla e.cubes in
    let Few : Esop → Type 0 = λ e. flip_count e ≤ MOST_GATES in
    let AddsBy : Esop → Type 0 = λ e. Adds e (cascade_of e) in
    let Valid : Esop → Type 0 = λ e. circuits.IsCascade (cascade_of e) in record {
      kept = (subst Few is few, tt);
      is = ap text_of (made ∙ ap cascade_of is);
      means = cascade-means pla (subst Values is value) (subst AddsBy is (subst (Adds list) made adds)) (subst Valid is (subst circuits.IsCascade made valid));
    }

-- any form but a PLA is written as a circuit
pub not_listed : (to : Form) (pla : TwoLevel) (product : Product) → (to ≡ Pla → ⊥) → IsProductOf (cascade_report (reduced_list pla)) (IsEsopCascade pla) product
    → IsProductOf (esop_report to pla) (IsEsopReport to pla) product
not_listed Real pla product other is = is
not_listed Pla pla product other is = absurd (other refl)
not_listed Qasm pla product other is = is
not_listed Perm pla product other is = is
not_listed Blif pla product other is = is

pub not_listed-refused : (to : Form) (pla : TwoLevel) (refused : Refusal) → (to ≡ Pla → ⊥) → IsRefusalOf 1 (cascade_report (reduced_list pla)).limits refused
    → IsRefusalOf 1 (esop_report to pla).limits refused
not_listed-refused Real pla refused other is = is
not_listed-refused Pla pla refused other is = absurd (other refl)
not_listed-refused Qasm pla refused other is = is
not_listed-refused Perm pla refused other is = is
not_listed-refused Blif pla refused other is = is

-- ---- as a PLA

cubes_of_terms : (i o : ℕ) (cubes : List Cube) → All (IsTerm i o) cubes → All (IsCube i o) cubes
cubes_of_terms i o [] all = All-nil (IsCube i o)
cubes_of_terms i o (cube ∷ cubes) all =
    All-cons (IsCube i o) cube cubes (All-head (IsTerm i o) cube cubes all).is_cube (cubes_of_terms i o cubes (All-tail (IsTerm i o) cube cubes all))

terms_of-some : (cube : Cube) (cubes : List Cube) → 0 < cube.outs → terms_of (cube ∷ cubes) ≡ cube ∷ terms_of cubes
terms_of-some cube cubes some = grind arith

-- what is read back
record IsBack (result : Result TwoLevel PlaFault) (P : TwoLevel → Type 0) : Type 0 where
  back : TwoLevel
  is : result ≡ Ok back
  fact : P back

back_of : (result : Result TwoLevel PlaFault) (P : TwoLevel → Type 0) → IsOkAnd result P → IsBack result P
back_of (Ok pla) P h = record { back = pla; is = refl; fact = h }
back_of (Err fault) P h = absurd h

-- the entries of a PLA of type esop are the value of its cubes
entry-esop : (back : TwoLevel) (i o : ℕ) (cubes : List Cube) (x : List Bool) (output : ℕ) → IsEsopOf i o cubes back → All (IsTerm i o) cubes
    → bit_for (entry back x output) ≡ has (esop_value cubes x) output
entry-esop back i o cubes x output is all =
    let Value : List Cube → Bool = λ c. has (esop_value (terms_of c) x) output in
    let Sum : List Cube → Bool = λ c. has (esop_value c x) output in
    sym (value-sum back x output (ap is_esop is.esop)) ∙ ap Value is.same_cubes ∙ ap Sum (terms_all i o cubes all)

-- the law
pub list-means : (pla : TwoLevel) → IsEsop (reduced_list pla) → IsRight pla (reduced_list pla).cubes → IsSettledFor pla (reduced_list pla).cubes
    → IsList pla (esop_text pla.inputs pla.outputs (reduced_list pla).cubes)
list-means pla valid value settled =
    let list = reduced_list pla in
    let b = back_of (pla_of (esop_text pla.inputs pla.outputs list.cubes)) (IsEsopOf pla.inputs pla.outputs list.cubes)
    (back_again.esop_back pla.inputs pla.outputs list.cubes valid.some_inputs valid.few_inputs valid.some_outputs valid.few_outputs (cubes_of_terms pla.inputs pla.outputs list.cubes valid.valid) (omega (arith, valid.bounded))) in record {
      back = b.back;
      read_back = b.is;
      has_cubes = b.fact;
      function =
          λ x count output lt.
          let Allowed : Bool → Type 0 = λ bit. IsTrue (allows (entry pla x output) bit) in
          subst Allowed (sym (entry-esop b.back pla.inputs pla.outputs list.cubes x output b.fact valid.valid)) (value x count output lt);
      settled = settled;
      irreducible = irreducible_for pla (reduced_list pla).cubes settled;
    }

-- the code found this list
pub list-answers : (pla : TwoLevel) (list : Esop) → list ≡ reduced_list pla → IsRight pla list.cubes → IsSettledFor pla list.cubes → IsEsop list
    → IsProductOf (unlimited (esop_text pla.inputs pla.outputs (reduced_list pla).cubes)) (IsList pla) (Cubes list)
list-answers pla list is value settled valid =
    let Text : Esop → List ℕ = λ e. esop_text e.inputs e.outputs e.cubes in
    let Values : Esop → Type 0 = λ e. IsRight pla e.cubes in
    let Settled : Esop → Type 0 = λ e. IsSettledFor pla e.cubes in record {
      kept = tt;
      is = ap Text is;
      means = list-means pla (subst IsEsop is valid) (subst Values is value) (subst Settled is settled);
    }

-- ---- what a search finds

-- the code found this circuit, on these lines, for this list
pub found-cascade : (goal : Goal) (pla : TwoLevel) (list : Esop) (circuit : circuits.Cascade) → flip_count (reduced_list pla) ≤ MOST_GATES → IsFound goal pla list
    → IsOnLines list.inputs list.outputs circuit → Adds list circuit → cost_of goal circuit.gates ≤ cost_of goal (cascade_of list).gates
    → cost_of goal circuit.gates ≤ cost_of goal (cascade_of (reduced_list pla)).gates → All IsFlip circuit.gates → circuits.IsCascade circuit
    → IsProductOf (found_within (cascade_report (reduced_list pla)).limits (text_of circuit)) (IsFoundCascade goal pla) (Circuit circuit)
found-cascade goal pla list circuit few found lines adds cheap cheaper flips valid =
    let on : IsOnLines pla.inputs pla.outputs circuit = lines ∙ ap₂ (λ (i o : ℕ). record (esop_lines i o) { gates = circuit.gates }) found.inputs found.outputs in
    record {
      kept = (few, tt);
      is = refl;
      means = record {
        circuit = circuit;
        is = refl;
        read_back = read_back circuit valid;
        lines = on;
        list = list;
        found = found;
        adds = adds;
        flips = flips;
        no_dearer = cheap;
        no_dearer_than_reduced = cheaper;
        gives = subst (Gives pla) (sym on) (cascade-gives pla list circuit.gates found.inputs found.outputs found.right (subst (Adds list) on adds));
      };
    }

-- the cascade of the reduced list itself
pub found-plain : (goal : Goal) (pla : TwoLevel) (list : Esop) (circuit : circuits.Cascade) → list ≡ reduced_list pla → IsRight pla list.cubes → length list.cubes ≤ MOST_CUBES
    → flip_count list ≤ MOST_GATES → circuit ≡ cascade_of list → Adds list circuit → circuits.IsCascade circuit
    → IsProductOf (found_within (cascade_report (reduced_list pla)).limits (text_of circuit)) (IsFoundCascade goal pla) (Circuit circuit)
found-plain goal pla list circuit is right bounded few made adds valid =
    let Few : Esop → Type 0 = λ e. flip_count e ≤ MOST_GATES in
    let Found : Esop → Type 0 = λ e. IsFound goal pla e in
    let found : IsFound goal pla (reduced_list pla) = record {
      inputs = refl;
      outputs = refl;
      right = subst (λ (e : Esop). IsRight pla e.cubes) is right;
      no_worse = no_worse_self goal (reduced_list pla).cubes (subst (λ (e : Esop). length e.cubes ≤ MOST_CUBES) is bounded);
    } in
    found-cascade goal pla list circuit (subst Few is few) (subst Found (sym is) found)
    (made ∙ ap (λ (c : circuits.Cascade). record (esop_lines list.inputs list.outputs) { gates = c.gates }) (sym made)) adds
    (omega (arith, ap (λ (c : circuits.Cascade). cost_of goal c.gates) made))
    (omega (arith, ap (λ (c : circuits.Cascade). cost_of goal c.gates) made, ap (λ (e : Esop). cost_of goal (cascade_of e).gates) is))
    (subst (λ (c : circuits.Cascade). All IsFlip c.gates) (sym made) (cascade-flips list)) valid

-- the code found this list
pub found-list : (goal : Goal) (pla : TwoLevel) (list : Esop) → IsFound goal pla list → IsEsop list
    → IsProductOf (found_within [] (esop_text list.inputs list.outputs list.cubes)) (IsFoundList goal pla) (Cubes list)
found-list goal pla list found valid =
    let b = back_of (pla_of (esop_text list.inputs list.outputs list.cubes)) (IsEsopOf list.inputs list.outputs list.cubes)
    (back_again.esop_back list.inputs list.outputs list.cubes valid.some_inputs valid.few_inputs valid.some_outputs valid.few_outputs
    (cubes_of_terms list.inputs list.outputs list.cubes valid.valid) (omega (arith, valid.bounded))) in
    let HasCubes : ℕ → ℕ → Type 0 = λ inputs outputs. IsEsopOf inputs outputs list.cubes b.back in record {
      kept = tt;
      is = refl;
      means = record {
        list = list;
        is = refl;
        found = found;
        valid = valid;
        back = b.back;
        read_back = b.is;
        has_cubes = subst (λ inputs. HasCubes inputs pla.outputs) found.inputs (subst (HasCubes list.inputs) found.outputs b.fact);
        function =
            λ x count output lt.
            let Allowed : Bool → Type 0 = λ bit. IsTrue (allows (entry pla x output) bit) in
            subst Allowed (sym (entry-esop b.back list.inputs list.outputs list.cubes x output b.fact valid.valid)) (found.right x count output lt);
      };
    }

-- any form but a PLA is written as a circuit
pub not_listed-found : (to : Form) (goal : Goal) (pla : TwoLevel) (product : Product) → (to ≡ Pla → ⊥)
    → IsProductOf (found_within (cascade_report (reduced_list pla)).limits (product_text product)) (IsFoundCascade goal pla) product
    → IsProductOf (found_within (found_limits to pla) (product_text product)) (IsFoundReport to goal pla) product
not_listed-found Real goal pla product other is = is
not_listed-found Pla goal pla product other is = absurd (other refl)
not_listed-found Qasm goal pla product other is = is
not_listed-found Perm goal pla product other is = is
not_listed-found Blif goal pla product other is = is

pub not_listed-limits : (to : Form) (pla : TwoLevel) (refused : Refusal) → (to ≡ Pla → ⊥) → IsRefusalOf 1 (cascade_report (reduced_list pla)).limits refused
    → IsRefusalOf 1 (found_limits to pla) refused
not_listed-limits Real pla refused other is = is
not_listed-limits Pla pla refused other is = absurd (other refl)
not_listed-limits Qasm pla refused other is = is
not_listed-limits Perm pla refused other is = is
not_listed-limits Blif pla refused other is = is
