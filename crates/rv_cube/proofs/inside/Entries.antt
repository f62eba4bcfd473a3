-- The first list of a PLA has the PLA's value.
use Rattle.std.proofs.Common.{◌≡◌, ℕ, ◌+◌, ◌*◌, ◌%◌, ◌^◌, ◌<◌, Bool, true, false, ◌&&◌, cond, List, [], ◌∷◌, ◌++◌, length, map, take, get_or, Option, sym, ◌∙◌, ap, subst, arith}
use Rattle.std.specs.Prelude.{All, bit_or, count_by, IfSome, slice_get}
use Rattle.std.specs.Int.{bit_at}
use Rattle.std.specs.Int.Bits.{or_shifted_r}
use Rattle.std.specs.List.{range_with_len}
use Rattle.std.proofs.lemmas.List.{map_more}
use Rattle.std.proofs.lemmas.Option.{slice_get-get_or}
use Rattle.std.proofs.lemmas.List.Elements.{All-nil, All-cons, All-map}
use Rattle.std.proofs.lemmas.List.FromFn.{length-map-range_with_len, get_or-map-range_with_len, map-range_with_len_more}
use Rattle.std.proofs.lemmas.List.Sums.{sum_by-cons}
use Rattle.std.proofs.lemmas.Nat.{one_shl}
use Rattle.std.proofs.lemmas.Nat.Bits.{bit_at-lt, bit_at-zero, bit_at_xor}
use Rattle.std.proofs.Math.Nat.{pow-suc}
use Rattle.rv_gate.specs.Word.{has, number_of, word_of}
use Rattle.rv_gate.proofs.inside.Ones.{has-ones_of, ones_of-lt}
use Rattle.rv_gate.specs.inside.laws.WordLaws.{number_of-lt, word_of-number_of}
use Rattle.rv_pla.specs.Cube.{matches, IsCube}
use Rattle.rv_pla.specs.declared.cube.Cube.{Cube}
use Rattle.rv_pla.specs.Zeros.{bit_for}
use Rattle.rv_pla.specs.Pla.{Term, TwoLevel, IsTwoLevel, entry, is_esop, covers}
use Rattle.rv_pla.specs.declared.entry.Entry.{Entry}
use Rattle.rv_pla.specs.declared.entry.Entry.TheVariants.{One, Zero}
use Rattle.rv_pla.specs.declared.kind.Kind.{Kind}
use Rattle.rv_cube.specs.Esop.{share, esop_value, terms_of}
use Rattle.rv_gate.specs.Word.{ones_of}
use Rattle.rv_cube.specs.Reduction.{no_cube}
use Rattle.rv_cube.specs.First.{outputs_at, values_of, term_cubes}
use Rattle.rv_cube.proofs.Terms.{value-terms_of}

-- ---- the set of the outputs that are 1

-- whether a test holds of the entries of the first n outputs
abbrev pub front_of : (Entry → Bool) → TwoLevel → List Bool → ℕ → List Bool
front_of p pla word n = map (λ output. p (entry pla word output)) (range_with_len 0 n)

ones_of-push : (w : List Bool) (b : Bool) → ones_of (w ++ b ∷ []) ≡ ones_of w + cond b (2 ^ length w) 0
unfolding ones_of
ones_of-push (x ∷ w) true = omega (arith, ones_of-push w true, pow-suc 2 (length w))
ones_of-push (x ∷ w) false = omega (arith, ones_of-push w false)
ones_of-push [] o = omega arith

length-front : (p : Entry → Bool) (pla : TwoLevel) (word : List Bool) (n : ℕ) → length (front_of p pla word n) ≡ n
length-front p pla word n = length-map-range_with_len (λ output. p (entry pla word output)) 0 n

pub front-lt : (p : Entry → Bool) (pla : TwoLevel) (word : List Bool) (n : ℕ) → ones_of (front_of p pla word n) < 2 ^ n
front-lt p pla word n = grind (arith, ones_of, length-front, ones_of-lt)

front-more : (p : Entry → Bool) (pla : TwoLevel) (word : List Bool) (n : ℕ)
    → ones_of (front_of p pla word (n + 1)) ≡ ones_of (front_of p pla word n) + cond (p (entry pla word n)) (2 ^ n) 0
front-more p pla word n =
    ap ones_of (map-range_with_len_more (λ output. p (entry pla word output)) 0 n n (omega arith))
    ∙ ones_of-push (front_of p pla word n) (p (entry pla word n))
    ∙ ap (λ k. ones_of (front_of p pla word n) + cond (p (entry pla word n)) (2 ^ k) 0) (length-front p pla word n)

pub front_on : (p : Entry → Bool) (pla : TwoLevel) (word : List Bool) (n outs : ℕ) → n < 16 → outs ≡ ones_of (front_of p pla word n) → p (entry pla word n) ≡ true
    → bit_or outs (1 * 2 ^ n % 2 ^ 16) ≡ ones_of (front_of p pla word (n + 1))
front_on p pla word n outs few so_far on =
    let q : 1 * 2 ^ n % 2 ^ 16 ≡ 1 * 2 ^ n = omega (arith, one_shl n 16 few) in
    let lt : outs < 2 ^ n = rw so_far (front-lt p pla word n) in
    let e : ones_of (front_of p pla word n) + cond (p (entry pla word n)) (2 ^ n) 0 ≡ ones_of (front_of p pla word n) + 2 ^ n =
    ap (λ b. ones_of (front_of p pla word n) + cond b (2 ^ n) 0) on in
    ap (bit_or outs) q ∙ or_shifted_r 1 n outs lt ∙ (omega arith) ∙ sym (front-more p pla word n ∙ e)

pub front_off : (p : Entry → Bool) (pla : TwoLevel) (word : List Bool) (n outs : ℕ) → outs ≡ ones_of (front_of p pla word n) → p (entry pla word n) ≡ false
    → outs ≡ ones_of (front_of p pla word (n + 1))
front_off p pla word n outs so_far off = grind (arith, ones_of, front-more)

-- ---- tables

all_map : (P : ℕ → Type 0) (f : ℕ → ℕ) (xs : List ℕ) → ((x : ℕ) → P (f x)) → All P (map f xs)
all_map P f [] h = All-nil P
all_map P f (x ∷ xs) h = All-cons P (f x) (map f xs) (h x) (all_map P f xs h)

pub small_values : (pla : TwoLevel) → All (λ value. value < 2 ^ pla.outputs) (values_of pla)
small_values pla =
    all_map (λ value. value < 2 ^ pla.outputs) (λ x. outputs_at pla (word_of pla.inputs x)) (range_with_len 0 (2 ^ pla.inputs))
    (λ x. front-lt bit_for pla (word_of pla.inputs x) pla.outputs)

pub length-values : (pla : TwoLevel) → length (values_of pla) ≡ 2 ^ pla.inputs
length-values pla = length-map-range_with_len (λ x. outputs_at pla (word_of pla.inputs x)) 0 (2 ^ pla.inputs)

-- the table has the value
pub value-table : (pla : TwoLevel) (word : List Bool) (output : ℕ) → length word ≡ pla.inputs → output < pla.outputs
    → has (get_or (values_of pla) (number_of word) 0) output ≡ bit_for (entry pla word output)
value-table pla word output len lt =
    let few : number_of word < 2 ^ pla.inputs = (let P : ℕ → Type 0 = λ n. number_of word < 2 ^ n in subst P len (number_of-lt word)) in
    let same : word_of pla.inputs (number_of word) ≡ word = ap (λ n. word_of n (number_of word)) (sym len) ∙ word_of-number_of word in
    ap (λ set. has set output)
    (get_or-map-range_with_len (λ x. outputs_at pla (word_of pla.inputs x)) 0 (2 ^ pla.inputs) (number_of word) (number_of word) 0 few (omega arith)
    ∙ ap (outputs_at pla) same)
    ∙ has-ones_of (front_of bit_for pla word pla.outputs) output
    ∙ get_or-map-range_with_len (λ j. bit_for (entry pla word j)) 0 pla.outputs output output false lt (omega arith)

-- ---- the terms of an exclusive sum

pub valid_terms : (pla : TwoLevel) → IsTwoLevel pla → All (IsCube pla.inputs pla.outputs) (term_cubes pla)
valid_terms pla v = All-map (IsCube pla.inputs pla.outputs) (λ (term : Term). term.cube) pla.terms v.cubes

-- one more term
pub term_more : (terms : List Term) (i : ℕ) (cube : Cube) (old new : List Cube) → i < length terms → new ≡ old ++ cube ∷ []
    → old ≡ map (λ term. term.cube) (take i terms) → IfSome (slice_get terms i) (λ term. cube ≡ term.cube)
    → new ≡ map (λ term. term.cube) (take (i + 1) terms)
term_more terms i cube old new lt pushed so_far is =
    let any : Term = record { line = 0; cube = no_cube; zero_outs = 0; dash_outs = 0 } in
    let P : Option Term → Type 0 = λ t. IfSome t (λ term. cube ≡ term.cube) in
    let e : cube ≡ (get_or terms i any).cube = subst P (slice_get-get_or terms i any lt) is in
    pushed
    ∙ ap (λ l. l ++ cube ∷ []) so_far
    ∙ ap (λ k. map (λ (term : Term). term.cube) (take i terms) ++ k ∷ []) e
    ∙ sym (map_more (λ (term : Term). term.cube) terms i any lt)

share_bit : (m : Bool) (outs output : ℕ) → bit_at (cond m outs 0) output ≡ cond (m && has outs output) 1 0
share_bit m outs output = grind arith

-- an output is in the value where an odd number of terms speak
parity : (terms : List Term) (word : List Bool) (output : ℕ)
    → bit_at (esop_value (map (λ term. term.cube) terms) word) output ≡ count_by (covers (λ term. term.cube.outs) word output) terms % 2
unfolding esop_value
parity [] word output = bit_at-zero output
parity (term ∷ terms) word output =
    let x = bit_at_xor (share term.cube word) (esop_value (map (λ (t : Term). t.cube) terms) word) output in
    let s = share_bit (matches term.cube word) term.cube.outs output in
    let lt = bit_at-lt (share term.cube word) output in
    let c = sum_by-cons (λ (t : Term). cond (covers (λ term. term.cube.outs) word output t) 1 0) term terms in
    omega (arith, parity terms word output)

bit_for-cond : (b : Bool) → bit_for (cond b One Zero) ≡ b
bit_for-cond b = grind arith

value-sum_of : (kind : Kind) (inputs outputs : ℕ) (terms : List Term) (word : List Bool) (output : ℕ) → is_esop kind ≡ true
    → has (esop_value (terms_of (map (λ term. term.cube) terms)) word) output
    ≡ bit_for (entry (record { inputs = inputs; outputs = outputs; kind = kind; terms = terms }) word output)
unfolding entry
value-sum_of kind inputs outputs terms word output h = grind (arith, value-terms_of, parity, bit_for-cond)

pub value-sum : (pla : TwoLevel) (word : List Bool) (output : ℕ) → is_esop pla.kind ≡ true
    → has (esop_value (terms_of (term_cubes pla)) word) output ≡ bit_for (entry pla word output)
value-sum pla word output h = value-sum_of pla.kind pla.inputs pla.outputs pla.terms word output h

-- what the first list is proved by
pub ruleset first_list = (length-values, small_values, valid_terms, value-sum, value-table)

-- the outputs at a word, so far
pub ruleset fronts = (front_on, front_off)
