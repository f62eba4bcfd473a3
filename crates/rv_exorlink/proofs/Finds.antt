-- What is found for a PLA is right for it.
use Rattle.std.proofs.Common.{◌≡◌, ℕ, ◌<◌, ◌≤◌, ◌/◌, ◌^◌, Bool, false, not, cond, eqb, List, [], ◌∷◌, length, get_or, refl, sym, ◌∙◌, ap, subst, arith, ne_eqb}
use Rattle.std.specs.Prelude.{All, bit_and}
use Rattle.std.proofs.lemmas.List.Elements.{All-head, All-tail, All-weaker}
use Rattle.rv_gate.specs.Word.{has, number_of, word_of}
use Rattle.rv_gate.specs.inside.laws.WordLaws.{word_of-number_of, number_of-lt}
use Rattle.rv_gate.proofs.LineSets.{below-Within, Within-shr, subset_from_and}
use Rattle.rv_pla.specs.Cube.{IsCube}
use Rattle.rv_pla.specs.declared.cube.Cube.{Cube}
use Rattle.rv_pla.specs.Pla.{TwoLevel, entry}
use Rattle.rv_pla.specs.FreeEntries.{allows, IsAllowed}
use Rattle.rv_pla.proofs.FreeEntries.{allows_own}
use Rattle.rv_cube.specs.Esop.{Esop, esop_value, IsTerm, terms_of}
use Rattle.rv_cube.specs.First.{first_of, values_of}
use Rattle.rv_cube.specs.ReductionFor.{IsRight, reduced_for}
use Rattle.rv_cube.specs.declared.list.TheConstants.{MOST_CUBES}
use Rattle.rv_cube.proofs.inside.Entries.{value-table, small_values}
use Rattle.rv_exorlink.specs.declared.goal.Goal.{Goal}
use Rattle.rv_exorlink.specs.declared.goal.Goal.TheVariants.{Cubes, Gates, Quantum, T}
use Rattle.rv_exorlink.specs.Weight.{IsNoWorse, most_of}
use Rattle.rv_exorlink.specs.Free.{AreFree}
use Rattle.rv_exorlink.specs.Lists.{IsSameBut}
use Rattle.rv_exorlink.specs.Found.{IsFound, MayReplace}
use Rattle.rv_exorlink.proofs.Steps.{few_for}
use Rattle.rv_exorlink.proofs.inside.FreeCubes.{still_right}

-- a list with the values of the table is right
pub table_right : (pla : TwoLevel) (values : List ℕ) (cubes : List Cube) → values ≡ values_of pla
    → ((word : List Bool) → length word ≡ pla.inputs → esop_value cubes word ≡ get_or values (number_of word) 0)
    → IsRight pla cubes
table_right pla values cubes is told word len output lt =
    ap (allows (entry pla word output))
    (ap (λ s. has s output) (told word len)
    ∙ ap (λ vs. has (get_or vs (number_of word) 0) output) is
    ∙ value-table pla word output len lt)
    ∙ allows_own (entry pla word output)

-- ---- weights

most_of-trans : (goal : Goal) (a b c : ℕ) → b ≤ most_of goal a → c ≤ most_of goal b → c ≤ most_of goal a
most_of-trans Cubes a b c h l = omega arith
most_of-trans Gates a b c h l = l
most_of-trans Quantum a b c h l = l
most_of-trans T a b c h l = l

most_of-self : (goal : Goal) (a : ℕ) → a ≤ MOST_CUBES → a ≤ most_of goal a
most_of-self Cubes a h = omega arith
most_of-self Gates a h = h
most_of-self Quantum a h = h
most_of-self T a h = h

pub no_worse_self : (goal : Goal) (cubes : List Cube) → length cubes ≤ MOST_CUBES → IsNoWorse goal cubes cubes
no_worse_self goal cubes few = record { lighter = omega arith; few = most_of-self goal (length cubes) few }

pub no_worse_trans : (goal : Goal) (old mid new : List Cube) → IsNoWorse goal old mid → IsNoWorse goal mid new
    → IsNoWorse goal old new
no_worse_trans goal old mid new a b = record {
  lighter = (let l = a.lighter in let m = b.lighter in omega arith);
  few = most_of-trans goal (length old) (length mid) (length new) a.few b.few;
}

-- ---- lists

pub may_replace_self : (goal : Goal) (pla : TwoLevel) (cubes new : List Cube) → new ≡ cubes → IsRight pla cubes
    → All (IsTerm pla.inputs pla.outputs) cubes
    → length cubes ≤ MOST_CUBES → MayReplace goal pla cubes new
may_replace_self goal pla cubes new e right terms few =
    let P : List Cube → Type 0 = MayReplace goal pla cubes in
    subst P (sym e) (record { right = right; terms = terms; no_worse = no_worse_self goal cubes few })

pub replaced : (goal : Goal) (pla : TwoLevel) (free : List ℕ) (n : ℕ) (old mid new : List Cube)
    → MayReplace goal pla old mid → n ≡ pla.inputs → AreFree pla free
    → IsSameBut n free mid new → IsNoWorse goal mid new → MayReplace goal pla old new
replaced goal pla free n old mid new m e f s w =
    let P : ℕ → Type 0 = λ k. IsSameBut k free mid new in
    let same : IsSameBut pla.inputs free mid new = subst P e s in
    record {
      right = still_right pla free mid new f same m.right;
      terms = same.terms pla.outputs m.terms;
      no_worse = no_worse_trans goal old mid new m.no_worse w;
    }

pub few_replaced : (goal : Goal) (pla : TwoLevel) (old new : List Cube) → length old ≤ MOST_CUBES
    → MayReplace goal pla old new → length new ≤ MOST_CUBES
few_replaced goal pla old new few m = few_for goal (length old) (length new) few m.no_worse.few

-- each cube carries an output
pub terms_all : (n outputs : ℕ) (cubes : List Cube) → All (IsTerm n outputs) cubes → terms_of cubes ≡ cubes
terms_all n outputs [] all = refl
terms_all n outputs (cube ∷ rest) all =
    let term : IsTerm n outputs cube = All-head (IsTerm n outputs) cube rest all in
    let some = term.some in
    let e : eqb cube.outs 0 ≡ false = ne_eqb cube.outs 0 (λ z. absurd (omega arith)) in
    ap (λ b. cond (not b) (cube ∷ terms_of rest) (terms_of rest)) e
    ∙ ap (λ l. cube ∷ l) (terms_all n outputs rest (All-tail (IsTerm n outputs) cube rest all))

pub found : (goal : Goal) (pla : TwoLevel) (cubes : List Cube) (list : Esop)
    → MayReplace goal pla (reduced_for pla (first_of pla).cubes) cubes
    → list ≡ record { inputs = pla.inputs; outputs = pla.outputs; cubes = terms_of cubes } → IsFound goal pla list
found goal pla cubes list m e =
    let P : Esop → Type 0 = IsFound goal pla in
    let Q : List Cube → Type 0 =
    λ l. IsFound goal pla (record { inputs = pla.inputs; outputs = pla.outputs; cubes = l }) in
    subst P (sym e)
    (subst Q (sym (terms_all pla.inputs pla.outputs cubes m.terms))
    (record { inputs = refl; outputs = refl; right = m.right; no_worse = m.no_worse }))

-- the list from the table
pub table_replaces : (goal : Goal) (pla : TwoLevel) (old : List Cube) (values : List ℕ) (n : ℕ) (cubes read : List Cube)
    → values ≡ values_of pla → n ≡ pla.inputs
    → ((word : List Bool) → length word ≡ n → esop_value cubes word ≡ get_or values (number_of word) 0)
    → ((outputs : ℕ) → All (λ x. x < 2 ^ outputs) values → All (IsTerm n outputs) cubes)
    → read ≡ cubes → IsNoWorse goal old read → MayReplace goal pla old cubes
table_replaces goal pla old values n cubes read is e told terms same no_worse =
    let P : List Cube → Type 0 = IsNoWorse goal old in
    let Q : ℕ → Type 0 = λ k. All (IsTerm k pla.outputs) cubes in
    let R : List ℕ → Type 0 = λ l. All (λ x. x < 2 ^ pla.outputs) l in
    record {
      right = table_right pla values cubes is (λ word len. told word (len ∙ sym e));
      terms = subst Q e (terms pla.outputs (subst R (sym is) (small_values pla)));
      no_worse = subst P same no_worse;
    }

pub cubes_of_terms : (n outputs m o : ℕ) (cubes : List Cube) → m ≡ n → o ≡ outputs → All (IsTerm n outputs) cubes
    → All (IsCube m o) cubes
cubes_of_terms n outputs m o cubes e f all =
    let P : ℕ → Type 0 = λ k. All (IsCube k o) cubes in
    let Q : ℕ → Type 0 = λ k. All (IsCube n k) cubes in
    subst P (sym e) (subst Q (sym f) (All-weaker (IsTerm n outputs) (IsCube n outputs) (λ c t. t.is_cube) cubes all))

-- what tests say of a cube
pub tested_cube : (n outputs : ℕ) (cube : Cube) → cube.care / 2 ^ n ≡ 0 → bit_and cube.want cube.care ≡ cube.want
    → cube.outs / 2 ^ outputs ≡ 0 → IsCube n outputs cube
tested_cube n outputs cube care want outs = record {
  asked = below-Within cube.care n (Within-shr cube.care n care);
  wanted = subset_from_and cube.want cube.care want;
  carried = below-Within cube.outs outputs (Within-shr cube.outs outputs outs);
}

-- by the numbers of the words
pub right_by_number : (pla : TwoLevel) (cubes : List Cube)
    → ((x : ℕ) → x < 2 ^ pla.inputs
    → IsAllowed pla (word_of pla.inputs x) (has (esop_value cubes (word_of pla.inputs x)))) → IsRight pla cubes
right_by_number pla cubes h word len =
    let P : List Bool → Type 0 = λ w. IsAllowed pla w (has (esop_value cubes w)) in
    let e : word_of pla.inputs (number_of word) ≡ word =
    ap (λ n. word_of n (number_of word)) (sym len) ∙ word_of-number_of word in
    let lt : number_of word < 2 ^ pla.inputs = let l = number_of-lt word in let k : 2 ^ length word ≡ 2 ^ pla.inputs =
    ap (λ n. 2 ^ n) len in omega arith in
    subst P e (h (number_of word) lt)
