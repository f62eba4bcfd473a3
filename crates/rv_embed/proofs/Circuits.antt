-- A circuit computes a permutation, so what no permutation does on fewer lines no circuit does.
use Rattle.std.proofs.Common.{◌≡◌, ℕ, ◌+◌, ◌^◌, ◌<◌, Bool, List, [], ◌∷◌, length, map, get_or, sym, ◌∙◌, ap, subst, arith, All}
use Rattle.std.specs.List.{range_with_len}
use Rattle.std.proofs.lemmas.List.{length-map, get_or-map}
use Rattle.std.proofs.lemmas.List.Elements.{All-head, All-tail}
use Rattle.std.proofs.lemmas.List.FromFn.{length-range_with_len, get_or-range_with_len}
use Rattle.rv_gate.specs.Word.{number_of, word_of}
use Rattle.rv_gate.specs.Gate.{FitsIn, IsGate, act, inverse, run, run_on_number}
use Rattle.rv_gate.specs.inside.laws.WordLaws.{length-word_of, number_of-lt, number_of-word_of_small, word_of-number_of}
use Rattle.rv_gate.specs.declared.circuit.Mark.{Mark}
use Rattle.rv_gate.specs.declared.gate.Shape.{Shape}
use Rattle.rv_gate.proofs.InverseLemmas.{run-inverse}
use Rattle.rv_gate.proofs.Marks.{length-with_constants}
use Rattle.rv_gate.proofs.inside.GateLemmas.{length-act, length-run}
use Rattle.rv_perm.specs.Marked.{Marked}
use Rattle.rv_perm.specs.Perm.{permuted}
use Rattle.rv_pla.specs.Pla.{TwoLevel}
use Rattle.rv_embed.specs.Least.{IsCircuitFor, IsEmbedding, NoCircuitHasFewer, NoneHasFewer}

-- ---- gates take different words to different words

act-one : (g : Shape) (v w : List Bool) (n : ℕ) → IsGate g → FitsIn g n → length v ≡ n → length w ≡ n → act g v ≡ act g w → v ≡ w
act-one g v w n is fits len_v len_w e =
    sym (run-inverse g v is (subst (FitsIn g) (sym len_v) fits)) ∙ ap (run (inverse g)) e ∙ run-inverse g w is (subst (FitsIn g) (sym len_w) fits)

run-one : (gates : List Shape) (v w : List Bool) (n : ℕ) → All IsGate gates → All (λ gate. FitsIn gate n) gates → length v ≡ n → length w ≡ n → run gates v ≡ run gates w → v ≡ w
run-one [] v w n valid fitting len_v len_w e = e
run-one (g ∷ rest) v w n valid fitting len_v len_w e =
    act-one g v w n (All-head IsGate g rest valid) (All-head (λ gate. FitsIn gate n) g rest fitting) len_v len_w
    (run-one rest (act g v) (act g w) n (All-tail IsGate g rest valid) (All-tail (λ gate. FitsIn gate n) g rest fitting) (length-act g v ∙ len_v) (length-act g w ∙ len_w) e)

-- ---- the permutation that gates compute

abbrev images_of : ℕ → List Shape → List ℕ
images_of n gates = map (run_on_number gates n) (range_with_len 0 (2 ^ n))

abbrev computed_by : ℕ → List Shape → List Mark → List Bool → Marked
computed_by n gates constants garbage = record { table = record { lines = n; images = images_of n gates }; constants = constants; garbage = garbage }

length-images_of : (n : ℕ) (gates : List Shape) → length (images_of n gates) ≡ 2 ^ n
length-images_of n gates = length-map (range_with_len 0 (2 ^ n)) (run_on_number gates n) ∙ length-range_with_len 0 (2 ^ n)

get_or-images_of : (n : ℕ) (gates : List Shape) (x : ℕ) → x < 2 ^ n → get_or (images_of n gates) x 0 ≡ run_on_number gates n x
get_or-images_of n gates x lt =
    get_or-map (run_on_number gates n) (range_with_len 0 (2 ^ n)) x 0 0 (rw (length-range_with_len 0 (2 ^ n)) lt)
    ∙ ap (run_on_number gates n) (get_or-range_with_len 0 (2 ^ n) x 0 lt ∙ (let plain : 0 + x ≡ x = omega arith in plain))

length-after : (n : ℕ) (gates : List Shape) (x : ℕ) → length (run gates (word_of n x)) ≡ n
length-after n gates x = length-run gates (word_of n x) ∙ length-word_of n x

after-lt : (n : ℕ) (gates : List Shape) (x : ℕ) → run_on_number gates n x < 2 ^ n
after-lt n gates x = rw (length-after n gates x) at (number_of-lt (run gates (word_of n x)))

-- the word after the gates, by its number
word-after : (n : ℕ) (gates : List Shape) (x : ℕ) → word_of n (run_on_number gates n x) ≡ run gates (word_of n x)
word-after n gates x =
    ap (λ k. word_of k (run_on_number gates n x)) (sym (length-after n gates x)) ∙ word_of-number_of (run gates (word_of n x))

one-number : (n : ℕ) (gates : List Shape) (x y : ℕ) → All IsGate gates → All (λ gate. FitsIn gate n) gates → x < 2 ^ n → y < 2 ^ n
    → run_on_number gates n x ≡ run_on_number gates n y → x ≡ y
one-number n gates x y valid fitting hx hy e =
    let words : word_of n x ≡ word_of n y =
    run-one gates (word_of n x) (word_of n y) n valid fitting (length-word_of n x) (length-word_of n y)
    (sym (word-after n gates x) ∙ ap (word_of n) e ∙ word-after n gates y) in
    sym (number_of-word_of_small n x hx) ∙ ap number_of words ∙ number_of-word_of_small n y hy

-- on words of so many bits the permutation does what the gates do
permuted-run : (n : ℕ) (gates : List Shape) (word : List Bool) → length word ≡ n → permuted (record { lines = n; images = images_of n gates }) word ≡ run gates word
permuted-run n gates word len =
    grind (arith, number_of, number_of-lt, word_of, word_of-number_of, get_or-images_of, word-after)

-- ---- what a circuit gives its permutation gives

circuit-embeds : (pla : TwoLevel) (n : ℕ) (gates : List Shape) (constants : List Mark) (garbage : List Bool) → IsCircuitFor pla n gates constants garbage
    → IsEmbedding pla (computed_by n gates constants garbage)
circuit-embeds pla n gates constants garbage c = grind (arith, length-images_of, get_or-images_of, after-lt, one-number, permuted-run, length-with_constants)

pub no-circuit : (pla : TwoLevel) (n : ℕ) → NoneHasFewer pla n → NoCircuitHasFewer pla n
no-circuit pla n none lines gates constants garbage c = none (computed_by lines gates constants garbage) (circuit-embeds pla lines gates constants garbage c)
