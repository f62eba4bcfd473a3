-- A CNOT between two inputs before gates and after them.
use Rattle.std.proofs.Common.{◌≡◌, ◌≢◌, ℕ, ◌+◌, ◌<◌, ◌≤◌, ◌^◌, Bool, true, false, List, [], ◌∷◌, ◌++◌, length, inl, inr, refl, sym, ◌∙◌, ap, subst, arith, append_assoc, ne_eqb}
use Rattle.std.proofs.lemmas.Bool.{or_cases, eqb-true}
use Rattle.rv_gate.specs.Word.{has, number_of, word_of}
use Rattle.rv_gate.specs.Gate.{act, act_on_number, run, FitsIn, IsGate}
use Rattle.rv_gate.specs.Circuit.{Cascade}
use Rattle.rv_gate.specs.declared.gate.Shape.{Shape}
use Rattle.rv_gate.specs.inside.laws.WordLaws.{word_of-number_of, number_of-lt}
use Rattle.rv_gate.proofs.inside.GateLemmas.{run-append, length-act, act_twice, word_of-act_on_number}
use Rattle.rv_gate.proofs.LineSets.{has-line}
use Rattle.rv_gate.proofs.Longer.{act_append}
use Rattle.rv_cube.specs.Esop.{Esop, esop_value}
use Rattle.rv_esop.specs.Cascade.{xor_set}
use Rattle.rv_esop.specs.Shared.{Adds, Appends}
use Rattle.rv_esop.specs.inside.Bends.{bend, GivesBent}
use Rattle.rv_esop.proofs.Marks.{with_gates}

pub bend_fits : (from to n : ℕ) (gate : Shape) → gate ≡ bend from to → from < n → to < n → FitsIn gate n
bend_fits from to n gate e hf ht =
    let P : Shape → Type 0 = λ g. FitsIn g n in
    subst P (sym e) (λ line on.
    elim (or_cases _ _ on) [
      | inl care ↦ let at = eqb-true line from (sym (has-line from line) ∙ care) in omega arith
      | inr target ↦ let at = eqb-true line to target in omega arith
    ])

bend_is : (from to : ℕ) → to < 64 → from ≢ to → IsGate (bend from to)
bend_is from to h apart = (omega arith, has-line from to ∙ ne_eqb to from (λ e. apart (sym e)), λ line on. on)

adds_bent : (n o from to : ℕ) (f f' : List Bool → ℕ) (g : List Shape) → n ≤ 64 → from < n → to < n → from ≢ to
    → ((x : List Bool) → length x ≡ n → f' (act (bend from to) x) ≡ f x) → Adds n o f' g
    → Adds n o f (bend from to ∷ g ++ bend from to ∷ [])
adds_bent n o from to f f' g few hf ht apart value h = record {
  adds = λ x v lx lv.
      let gate : Shape = bend from to in
      let y : List Bool = act gate x in
      let ly : length y ≡ n = length-act gate x ∙ lx in
      let fits : FitsIn gate n = bend_fits from to n gate refl hf ht in
      let P : ℕ → Type 0 = λ k. FitsIn gate k in
      let w : List Bool = xor_set v (f' y) in
      ap (run (g ++ gate ∷ [])) (act_append gate x v refl (subst P (sym lx) fits))
      ∙ run-append g (gate ∷ []) (y ++ v)
      ∙ ap (act gate) (h.adds y v ly lv)
      ∙ act_append gate y w refl (subst P (sym ly) fits)
      ∙ ap (λ z. z ++ w) (act_twice gate n x refl (bend_is from to (omega arith) apart) fits lx)
      ∙ ap (λ s. x ++ xor_set v s) (value x lx);
}

pub appends_bent : (n o from to : ℕ) (f f' : List Bool → ℕ) (old first mid new : Cascade) (gate : Shape) → n ≤ 64
    → from < n → to < n → from ≢ to → gate ≡ bend from to
    → ((x : List Bool) → length x ≡ n → f' (act (bend from to) x) ≡ f x)
    → first ≡ record old { gates = old.gates ++ gate ∷ [] } → Appends n o f' first mid
    → new ≡ record mid { gates = mid.gates ++ gate ∷ [] }
    → Appends n o f old new
appends_bent n o from to f f' old first mid new gate few hf ht apart e value pushed h last = record {
  block = gate ∷ h.block ++ gate ∷ [];
  is =
      last ∙ ap (λ (t : Cascade). with_gates t (t.gates ++ gate ∷ [])) h.is
      ∙ ap (λ (t : Cascade). with_gates t ((t.gates ++ h.block) ++ gate ∷ [])) pushed
      ∙ ap (with_gates old)
      (append_assoc (old.gates ++ gate ∷ []) h.block (gate ∷ [])
      ∙ append_assoc old.gates (gate ∷ []) (h.block ++ gate ∷ []));
  added =
      (let P : Shape → Type 0 = λ g. Adds n o f (g ∷ h.block ++ g ∷ []) in
      subst P (sym e) (adds_bent n o from to f f' h.block few hf ht apart value h.added));
}

-- on other sizes that are the same
pub appends_sizes : (n m o p : ℕ) (f : List Bool → ℕ) (old new : Cascade) → m ≡ n → p ≡ o → Appends m p f old new
    → Appends n o f old new
appends_sizes n m o p f old new e e' a =
    let P : ℕ → Type 0 = λ k. Appends k p f old new in
    let Q : ℕ → Type 0 = λ k. Appends n k f old new in
    subst Q e' (subst P e a)

-- by the numbers of the words
pub bent_by_number : (from to : ℕ) (old new : Esop)
    → ((x : ℕ) → x < 2 ^ old.inputs
    → esop_value new.cubes (word_of old.inputs (act_on_number (bend from to) old.inputs x))
    ≡ esop_value old.cubes (word_of old.inputs x)) → GivesBent from to old new
bent_by_number from to old new h word len =
    let n = old.inputs in
    let x : ℕ = number_of word in
    let e : word_of n x ≡ word = ap (λ k. word_of k x) (sym len) ∙ word_of-number_of word in
    let lt : x < 2 ^ n = let l = number_of-lt word in let k : 2 ^ length word ≡ 2 ^ n =
    ap (λ m. 2 ^ m) len in omega arith in
    ap (λ w. esop_value new.cubes (act (bend from to) w)) (sym e)
    ∙ ap (esop_value new.cubes) (sym (word_of-act_on_number (bend from to) n x))
    ∙ h x lt
    ∙ ap (esop_value old.cubes) e
