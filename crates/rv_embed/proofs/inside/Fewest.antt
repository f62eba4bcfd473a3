-- Every embedding has room for the largest class.
use Rattle.std.proofs.Common.{◌≡◌, ◌≢◌, ℕ, ◌+◌, ◌-◌, ◌^◌, ◌<◌, ◌≤◌, Bool, not, cond, eqb, List, [], ◌∷◌, length, map, get_or, refl, sym, ◌∙◌, ap, subst, arith, ne_eqb}
use Rattle.std.specs.List.{count_by, range_with_len, filter, IsDistinct, AllPairs}
use Rattle.std.proofs.lemmas.Bool.{eqb-true}
use Rattle.std.proofs.lemmas.List.{length-map, get_or-map}
use Rattle.std.proofs.lemmas.List.Elements.{filter_passes}
use Rattle.std.proofs.lemmas.List.Kept.{AllPairs-filter}
use Rattle.std.proofs.lemmas.List.Sums.{length-filter, count_by-le-length}
use Rattle.std.proofs.lemmas.List.FromFn.{length-range_with_len, get_or-range_with_len, fill_by_all}
use Rattle.std.proofs.lemmas.Map.Keys.{IsDistinct-from_apart}
use Rattle.std.proofs.lemmas.Map.Steps.{length-le_from_distinct_below}
use Rattle.rv_gate.specs.Word.{number_of, word_of}
use Rattle.rv_gate.specs.inside.laws.WordLaws.{length-word_of, number_of-lt, number_of-word_of_small}
use Rattle.rv_pla.specs.Pla.{TwoLevel}
use Rattle.rv_perm.specs.Marked.{Marked}
use Rattle.rv_perm.proofs.inside.Inverse.{place_once}
use Rattle.rv_pla.specs.Zeros.{output_word, zeros}
use Rattle.rv_pla.specs.FreeEntries.{HasNoFree}
use Rattle.rv_embed.specs.Classes.{class_size, largest_class}
use Rattle.rv_embed.specs.Filled.{filled}
use Rattle.rv_embed.specs.Embedding.{least_lines}
use Rattle.rv_gate.specs.Marks.{takes_input, with_constants, without_garbage}
use Rattle.rv_perm.specs.Perm.{permuted}
use Rattle.rv_embed.specs.Least.{IsEmbedding, NoneHasFewer}
use Rattle.rv_embed.proofs.inside.ClassLemmas.{largest_class-is, count_by-cons}
use Rattle.rv_embed.proofs.CompleteLemmas.{stands_below}
use Rattle.rv_embed.proofs.inside.ZerosLemmas.{length-zeros, same_output, same_word}
use Rattle.rv_embed.proofs.LineLemmas.{least_power-least}
use Rattle.rv_embed.proofs.inside.Fillings.{met, filled_classes}
use Rattle.rv_gate.proofs.Marks.{length-with_constants, with_constants-one, length-without_garbage, output_count-not, without_garbage-both}

-- ---- an input word in an embedding

-- the word that is put in, and the word that it goes to
abbrev word_in : TwoLevel → Marked → ℕ → List Bool
word_in pla m x = with_constants m.constants (word_of pla.inputs x)

abbrev word_out : TwoLevel → Marked → ℕ → List Bool
word_out pla m x = permuted m.table (word_in pla m x)

abbrev image_of : TwoLevel → Marked → ℕ → ℕ
image_of pla m x = get_or m.table.images (number_of (word_in pla m x)) 0

-- the garbage tells apart the input words of a class
abbrev garbage_of : TwoLevel → Marked → ℕ → ℕ
garbage_of pla m x = number_of (without_garbage (map not m.garbage) (word_out pla m x))

length-word_in : (pla : TwoLevel) (m : Marked) (x : ℕ) → IsEmbedding pla m → length (word_in pla m x) ≡ m.table.lines
length-word_in pla m x e = length-with_constants m.constants (word_of pla.inputs x) ∙ e.constants

in-lt : (pla : TwoLevel) (m : Marked) (x : ℕ) → IsEmbedding pla m → number_of (word_in pla m x) < length m.table.images
in-lt pla m x e = grind (arith, number_of, length-word_in, number_of-lt)

image-lt : (pla : TwoLevel) (m : Marked) (x : ℕ) → IsEmbedding pla m → image_of pla m x < 2 ^ m.table.lines
image-lt pla m x e = grind (arith, number_of, in-lt)

length-word_out : (pla : TwoLevel) (m : Marked) (x : ℕ) → IsEmbedding pla m → length (word_out pla m x) ≡ length m.garbage
length-word_out pla m x e = length-word_of m.table.lines (image_of pla m x) ∙ sym e.garbage

length-garbage : (pla : TwoLevel) (m : Marked) (x : ℕ) → IsEmbedding pla m → length (without_garbage (map not m.garbage) (word_out pla m x)) ≡ m.table.lines - pla.outputs
length-garbage pla m x e = grind (arith, length-word_out, length-map, length-without_garbage, output_count-not)

garbage-lt : (pla : TwoLevel) (m : Marked) (x : ℕ) → IsEmbedding pla m → garbage_of pla m x < 2 ^ (m.table.lines - pla.outputs)
garbage-lt pla m x e = let P : ℕ → Type 0 = λ n. garbage_of pla m x < 2 ^ n in subst P (length-garbage pla m x e) (number_of-lt (without_garbage (map not m.garbage) (word_out pla m x)))

-- the lines that aren't garbage have the output word
kept_out : (pla : TwoLevel) (m : Marked) (x : ℕ) → HasNoFree pla → IsEmbedding pla m → without_garbage m.garbage (word_out pla m x) ≡ output_word pla (word_of pla.inputs x)
kept_out pla m x unfree e = met pla (word_of pla.inputs x) _ unfree (length-word_of pla.inputs x) (e.realizes.gives (word_of pla.inputs x) (length-word_of pla.inputs x))

-- ---- two input words of a class

apart_in_class : (pla : TwoLevel) (m : Marked) (x y : ℕ) → HasNoFree pla → IsEmbedding pla m → x < 2 ^ pla.inputs → y < 2 ^ pla.inputs → get_or (zeros pla) x 0 ≡ get_or (zeros pla) y 0
    → garbage_of pla m x ≡ garbage_of pla m y → x ≡ y
apart_in_class pla m x y unfree e hx hy class same =
    let n : ℕ = m.table.lines in
    let keeps : without_garbage m.garbage (word_out pla m x) ≡ without_garbage m.garbage (word_out pla m y) = kept_out pla m x unfree e ∙ same_output pla x y hx hy class ∙ sym (kept_out pla m y unfree e) in
    let leaves : without_garbage (map not m.garbage) (word_out pla m x) ≡ without_garbage (map not m.garbage) (word_out pla m y) = same_word _ _ (length-garbage pla m x e ∙ sym (length-garbage pla m y e)) same in
    let words : word_out pla m x ≡ word_out pla m y = without_garbage-both m.garbage _ _ (length-word_out pla m x e) (length-word_out pla m y e) keeps leaves in
    let images : image_of pla m x ≡ image_of pla m y =
    sym (number_of-word_of_small n (image_of pla m x) (image-lt pla m x e)) ∙ ap number_of words ∙ number_of-word_of_small n (image_of pla m y) (image-lt pla m y e) in
    let places : number_of (word_in pla m x) ≡ number_of (word_in pla m y) = place_once m.table.images _ _ e.permutes (in-lt pla m x e) (in-lt pla m y e) images in
    let ins : word_in pla m x ≡ word_in pla m y = same_word _ _ (length-word_in pla m x e ∙ sym (length-word_in pla m y e)) places in
    let xs : word_of pla.inputs x ≡ word_of pla.inputs y = with_constants-one m.constants _ _ (length-word_of pla.inputs x ∙ sym e.realizes.inputs) (length-word_of pla.inputs y ∙ sym e.realizes.inputs) ins in
    sym (number_of-word_of_small pla.inputs x hx) ∙ ap number_of xs ∙ number_of-word_of_small pla.inputs y hy

-- ---- the words of a class have different garbage

-- the input words with the output word y
abbrev class_of : TwoLevel → ℕ → List ℕ
class_of pla y = filter (λ x. eqb (get_or (zeros pla) x 0) y) (range_with_len 0 (2 ^ pla.inputs))

filter-map : (f : ℕ → ℕ) (p : ℕ → Bool) (xs : List ℕ) → count_by p (map f xs) ≡ count_by (λ x. p (f x)) xs
filter-map f p [] = refl
filter-map f p (x ∷ xs) = count_by-cons p (f x) (map f xs) ∙ ap (λ n. cond (p (f x)) 1 0 + n) (filter-map f p xs) ∙ sym (count_by-cons (λ x. p (f x)) x xs)

-- a list is what stands at its places
by_place : (xs : List ℕ) (n : ℕ) → length xs ≡ n → xs ≡ map (λ x. get_or xs x 0) (range_with_len 0 n)
by_place xs n len = fill_by_all (λ x. get_or xs x 0) xs n 0 len (λ k h. refl)

length-class_of : (pla : TwoLevel) (y : ℕ) → length (class_of pla y) ≡ class_size (zeros pla) y
length-class_of pla y =
    length-filter (λ x. eqb (get_or (zeros pla) x 0) y) (range_with_len 0 (2 ^ pla.inputs))
    ∙ sym (filter-map (λ x. get_or (zeros pla) x 0) (λ v. eqb v y) (range_with_len 0 (2 ^ pla.inputs)))
    ∙ ap (count_by (λ v. eqb v y)) (sym (by_place (zeros pla) (2 ^ pla.inputs) (length-zeros pla)))

-- of two input words with the output word y the garbage differs
abbrev Differs : TwoLevel → Marked → ℕ → ℕ → ℕ → Type 0
Differs pla m y a b = get_or (zeros pla) a 0 ≡ y → get_or (zeros pla) b 0 ≡ y → garbage_of pla m a ≢ garbage_of pla m b

differ_all : (pla : TwoLevel) (m : Marked) (y : ℕ) → HasNoFree pla → IsEmbedding pla m → AllPairs (Differs pla m y) (range_with_len 0 (2 ^ pla.inputs))
differ_all pla m y unfree e i j d l h ea eb same = grind (arith, length-range_with_len, get_or-range_with_len, apart_in_class)

class_apart : (pla : TwoLevel) (m : Marked) (y : ℕ) → HasNoFree pla → IsEmbedding pla m → IsDistinct eqb (map (garbage_of pla m) (class_of pla y))
class_apart pla m y unfree e =
    let class : List ℕ = class_of pla y in
    let passes = filter_passes (λ x. eqb (get_or (zeros pla) x 0) y) (range_with_len 0 (2 ^ pla.inputs)) in
    let differ = AllPairs-filter (Differs pla m y) (λ x. eqb (get_or (zeros pla) x 0) y) (range_with_len 0 (2 ^ pla.inputs)) (differ_all pla m y unfree e) in
    IsDistinct-from_apart eqb (map (garbage_of pla m) class) (λ i j d l h.
    let j_in : j < length class = omega (arith, length-map class (garbage_of pla m)) in
    let i_in : i < length class = omega arith in
    let at_i = get_or-map (garbage_of pla m) class i 0 d i_in in
    let at_j = get_or-map (garbage_of pla m) class j 0 d j_in in
    let apart = differ i j 0 l j_in (eqb-true _ y (passes i 0 i_in)) (eqb-true _ y (passes j 0 j_in)) in
    ne_eqb _ _ (λ s. apart (sym at_i ∙ s ∙ at_j)))

class_fits : (pla : TwoLevel) (m : Marked) (y : ℕ) → HasNoFree pla → IsEmbedding pla m → class_size (zeros pla) y ≤ 2 ^ (m.table.lines - pla.outputs)
class_fits pla m y unfree e =
    let class : List ℕ = class_of pla y in
    let garbage : List ℕ = map (garbage_of pla m) class in
    let below : (k : ℕ) → k < length garbage → get_or garbage k 0 < 2 ^ (m.table.lines - pla.outputs) = λ k h.
    let k_in : k < length class = omega (arith, length-map class (garbage_of pla m)) in
    rw (get_or-map (garbage_of pla m) class k 0 0 k_in) (garbage-lt pla m (get_or class k 0) e) in
    let few : length garbage ≤ 2 ^ (m.table.lines - pla.outputs) =
    length-le_from_distinct_below garbage _ (class_apart pla m y unfree e) (λ q on. stands_below garbage _ below q on) in
    omega (arith, length-map class (garbage_of pla m), length-class_of pla y)

-- ---- the theorem

pub none_has_fewer : (pla : TwoLevel) → HasNoFree pla → NoneHasFewer pla (least_lines pla)
none_has_fewer pla unfree m e =
    let n : ℕ = m.table.lines in
    let largest = (largest_class-is (zeros pla)).met in
    let fits = class_fits pla m largest.0 unfree e in
    let less = filled_classes pla in
    let bits = least_power-least (largest_class (filled pla)) (n - pla.outputs) (omega (arith, largest.1)) in
    let inputs : pla.inputs ≤ n = omega (arith, count_by-le-length takes_input m.constants, e.realizes.inputs, e.constants) in
    let outputs : pla.outputs ≤ n = omega (arith, count_by-le-length not m.garbage, e.realizes.outputs, e.garbage) in
    omega arith
