-- The embedding gives what the PLA asks.
use Rattle.std.proofs.Common.{◌≡◌, ℕ, ◌+◌, ◌-◌, ◌*◌, ◌^◌, ◌<◌, ◌≤◌, Bool, true, false, List, ◌++◌, length, get_or, replicate, sym, ◌∙◌, ap, subst, arith, add-zero}
use Rattle.std.specs.Prelude.{All}
use Rattle.std.proofs.lemmas.List.{length-append, length-replicate}
use Rattle.rv_gate.specs.Word.{number_of, word_of}
use Rattle.rv_gate.specs.inside.laws.WordLaws.{length-word_of, number_of-lt}
use Rattle.rv_gate.specs.declared.circuit.Mark.TheVariants.{Input, Zero}
use Rattle.rv_pla.specs.Pla.{TwoLevel}
use Rattle.rv_embed.specs.Filled.{filled}
use Rattle.rv_embed.specs.Classes.{largest_class, rank}
use Rattle.rv_embed.specs.Embedding.{least_power, embedded_images, embedding_on, least_lines, embedding_of}
use Rattle.rv_gate.specs.Marks.{input_count, output_count, with_constants, without_garbage}
use Rattle.rv_gate.proofs.Marks.{input_count-append, input_count-inputs, input_count-zeros, output_count-append, output_count-outputs, output_count-garbage}
use Rattle.rv_perm.specs.Perm.{permuted}
use Rattle.rv_embed.specs.Least.{IsEmbedding}
use Rattle.rv_embed.proofs.inside.Fillings.{IsFilling, meets, filled_fills}
use Rattle.rv_embed.proofs.ImageLemmas.{rank_room, embedded_image, embedded_images-permute}
use Rattle.rv_embed.proofs.inside.WordParts.{number_of-append, number_of-zeros, word_of-parts, with_constants-first, without_garbage-first}

-- ---- the marks of the embedding

inputs_marked : (a b : ℕ) → input_count (replicate a Input ++ replicate b Zero) ≡ a
inputs_marked a b = input_count-append (replicate a Input) (replicate b Zero) ∙ omega (arith, input_count-inputs a, input_count-zeros b)

outputs_marked : (a b : ℕ) → output_count (replicate a false ++ replicate b true) ≡ a
outputs_marked a b = output_count-append (replicate a false) (replicate b true) ∙ omega (arith, output_count-outputs a, output_count-garbage b)

in_row : {A : Type 0} (a n : ℕ) (x y : A) → a ≤ n → length (replicate a x ++ replicate (n - a) y) ≡ n
in_row a n x y h = omega (arith, length-append (replicate a x) (replicate (n - a) y), length-replicate a x, length-replicate (n - a) y)

-- ---- the word to which an input word goes

number_put_in : (x : List Bool) (i m : ℕ) → length x ≡ i → number_of (with_constants (replicate i Input ++ replicate m Zero) x) ≡ number_of x * 2 ^ m
number_put_in x i m len = grind (arith, with_constants-first, number_of-append, length-replicate, number_of-zeros, add-zero)

outputs_left : (a o m : ℕ) (v : List Bool) → without_garbage (replicate o false ++ replicate m true) (word_of o a ++ v) ≡ word_of o a
outputs_left a o m v = ap (λ n. without_garbage (replicate n false ++ replicate m true) (word_of o a ++ v)) (sym (length-word_of o a)) ∙ without_garbage-first (word_of o a) v m

goes_to : (i o n : ℕ) (outputs : List ℕ) (x : List Bool) → i ≤ n → o + least_power (largest_class outputs) ≤ n → length x ≡ i → length outputs ≡ 2 ^ i → All (λ y. y < 2 ^ o) outputs
    → without_garbage (replicate o false ++ replicate (n - o) true)
    (permuted (record { lines = n; images = embedded_images n i o outputs }) (with_constants (replicate i Input ++ replicate (n - i) Zero) x))
    ≡ word_of o (get_or outputs (number_of x) 0)
goes_to i o n outputs x inputs room len size below =
    let k : ℕ = number_of x in
    let lt : k < 2 ^ i = let P : ℕ → Type 0 = λ n. number_of x < 2 ^ n in subst P len (number_of-lt x) in
    let k_in : k < length outputs = omega arith in
    let image : get_or (embedded_images n i o outputs) (number_of (with_constants (replicate i Input ++ replicate (n - i) Zero) x)) 0 ≡ get_or outputs k 0 * 2 ^ (n - o) + rank outputs k =
    ap (λ z. get_or (embedded_images n i o outputs) z 0) (number_put_in x i (n - i) len)
    ∙ embedded_image n i o outputs k inputs room below size lt in
    let parts : word_of n (get_or outputs k 0 * 2 ^ (n - o) + rank outputs k) ≡ word_of o (get_or outputs k 0) ++ word_of (n - o) (rank outputs k) =
    word_of-parts o (n - o) n (get_or outputs k 0) (rank outputs k) (omega arith) (below k 0 k_in) (rank_room n o outputs k room k_in) in
    ap (λ w. without_garbage (replicate o false ++ replicate (n - o) true) w) (ap (word_of n) image ∙ parts)
    ∙ outputs_left (get_or outputs k 0) o (n - o) (word_of (n - o) (rank outputs k))

-- ---- the theorem

-- words that agree with the entries are embedded
pub embeds_on : (pla : TwoLevel) (outputs : List ℕ) (n : ℕ) → IsFilling pla outputs → pla.inputs ≤ n → pla.outputs + least_power (largest_class outputs) ≤ n → IsEmbedding pla (embedding_on n pla.inputs pla.outputs outputs)
embeds_on pla outputs n f inputs room =
    let p = embedded_images-permute n pla.inputs pla.outputs outputs inputs room f.below in
    record {
      words = p.len;
      permutes = p.once;
      constants = in_row pla.inputs n Input Zero inputs;
      garbage = in_row pla.outputs n false true (omega arith);
      realizes = record {
        inputs = inputs_marked pla.inputs (n - pla.inputs);
        outputs = outputs_marked pla.outputs (n - pla.outputs);
        gives = λ x len. meets pla x _ _ len (f.agree (number_of x) (let P : ℕ → Type 0 = λ n. number_of x < 2 ^ n in subst P len (number_of-lt x))) (goes_to pla.inputs pla.outputs n outputs x inputs room len f.size f.below);
      };
    }

pub embeds : (pla : TwoLevel) → IsEmbedding pla (embedding_of pla)
embeds pla = embeds_on pla (filled pla) (least_lines pla) (filled_fills pla) (omega arith) (omega arith)
