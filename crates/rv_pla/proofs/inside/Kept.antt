-- What every state of the reading keeps.
use Rattle.std.proofs.Common.{◌≡◌, ℕ, ◌+◌, ◌<◌, Bool, true, false, ◌||◌, List, [], ◌∷◌, ◌++◌, length, get_or, take, drop, Some, refl, sym, ◌∙◌, inl, inr, arith, nat_eq, length-append}
use Rattle.std.proofs.lemmas.Bool.{cases_lt, eqb-true, or_right}
use Rattle.std.proofs.lemmas.List.{nil_from_length, length-drop, length-take-le}
use Rattle.std.proofs.lemmas.List.Elements.{All-append}
use Rattle.std.specs.Option.{unwrap_or}
use Rattle.rv_gate.proofs.LineSets.{has-above}
use Rattle.rv_pla.specs.Cube.{IsCube}
use Rattle.rv_pla.specs.Pla.{Term}
use Rattle.rv_pla.specs.declared.pla.TheConstants.{MOST_TERMS}
use Rattle.rv_pla.specs.declared.cube.TheConstants.{MOST_INPUTS, MOST_OUTPUTS}
use Rattle.rv_pla.specs.inside.State.{Given, IsGiven, IsSize}
use Rattle.rv_pla.specs.Row.{places_of, term_of}
use Rattle.rv_pla.proofs.Rows.{places_of-lt, has-places_of}
use Rattle.rv_gate.proofs.Bits.{or_same}

-- the cube of a term
pub term_of-cube : (i o number : ℕ) (row : List ℕ) → length row ≡ i + o → IsCube i o (term_of i number row).cube
term_of-cube i o number row size =
    let ins : List ℕ = take i row in
    let len : length ins ≡ i = length-take-le i row (omega arith) in
    let rest : length (drop i row) ≡ o = length-drop i row ∙ (omega arith) in
    record {
      asked = let h = places_of-lt 48 49 ins in rw len at h;
      wanted = λ line on. elim (cases_lt line i) [
        | inl below ↦
            let lt : line < length ins = omega arith in
            let one : nat_eq (get_or ins line 0) 49 ≡ true = sym (or_same _) ∙ sym (has-places_of 49 49 ins line lt) ∙ on in
            has-places_of 48 49 ins line lt ∙ or_right (nat_eq (get_or ins line 0) 48) _ one
        | inr above ↦ absurd (let z = has-above (places_of 49 49 ins) i line (let h = places_of-lt 49 49 ins in rw len at h) above in cc)
      ];
      carried = let h = places_of-lt 49 52 (drop i row) in rw rest at h;
    }

pub none_given : (terms : List Term) (n : ℕ) (empty : Bool) → n ≡ length terms → empty ≡ nat_eq n 0 → empty ≡ true → terms ≡ []
none_given terms n empty count is h = nil_from_length terms (sym count ∙ eqb-true n 0 (sym is ∙ h))

module _ (given : Given) (kept : IsGiven given) where
  -- before every term a size is given
  pub with_inputs : (n : ℕ) → IsSize MOST_INPUTS n → given.terms ≡ [] → IsGiven (record given { inputs = Some n })
  with_inputs n size none = record {
    inputs_in = size;
    outputs_in = kept.outputs_in;
    few_terms = kept.few_terms;
    cubes = rw none (λ k d h. absurd (omega arith));
  }

  pub with_outputs : (n : ℕ) → IsSize MOST_OUTPUTS n → given.terms ≡ [] → IsGiven (record given { outputs = Some n })
  with_outputs n size none = record {
    inputs_in = kept.inputs_in;
    outputs_in = size;
    few_terms = kept.few_terms;
    cubes = rw none (λ k d h. absurd (omega arith));
  }

  -- one term more
  pub with_term : (i o number : ℕ) (more : List Term) (row : List ℕ) → given.inputs ≡ Some i → given.outputs ≡ Some o
      → length row ≡ i + o → length given.terms < MOST_TERMS → more ≡ given.terms ++ term_of i number row ∷ [] → IsGiven (record given { terms = more })
  with_term i o number more row inputs outputs size few is = rw is (record {
    inputs_in = kept.inputs_in;
    outputs_in = kept.outputs_in;
    few_terms = rw length-append (omega arith);
    cubes = All-append (λ (term : Term). IsCube (unwrap_or given.inputs 0) (unwrap_or given.outputs 0) term.cube) given.terms (term_of i number row ∷ []) kept.cubes
        (λ k d h. let first : k ≡ 0 = omega arith in rw first (rw (inputs, outputs) (term_of-cube i o number row size)));
  })
