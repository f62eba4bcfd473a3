-- Embeddings that compute.
use Rattle.std.proofs.Common.{◌≡◌, [], ◌∷◌, true, false, refl}
use Rattle.rv_gate.specs.declared.circuit.Mark.TheVariants.{Input, Zero}
use Rattle.rv_perm.specs.Perm.{preimage_of}
use Rattle.rv_gate.specs.Greatest.{greatest}
use Rattle.rv_embed.specs.Classes.{largest_class, rank}
use Rattle.rv_embed.specs.Embedding.{least_power, remaining, images_between, embedding_on}

-- the words of a conjunction: three share the output 0
largest_of_a_conjunction : largest_class (0 ∷ 0 ∷ 0 ∷ 1 ∷ []) ≡ 3
unfolding largest_class greatest
largest_of_a_conjunction = refl

bits_of_three : least_power 3 ≡ 2
unfolding least_power
bits_of_three = refl

bits_of_four : least_power 4 ≡ 2
unfolding least_power
bits_of_four = refl

bits_of_one : least_power 1 ≡ 0
unfolding least_power
bits_of_one = refl

conjunction : embedding_on 3 2 1 (0 ∷ 0 ∷ 0 ∷ 1 ∷ []) ≡ record {
  table = record { lines = 3; images = 0 ∷ 3 ∷ 1 ∷ 5 ∷ 2 ∷ 6 ∷ 4 ∷ 7 ∷ [] };
  constants = Input ∷ Input ∷ Zero ∷ [];
  garbage = false ∷ true ∷ true ∷ [];
}
unfolding rank remaining images_between preimage_of
conjunction = refl

constant : embedding_on 2 1 1 (0 ∷ 0 ∷ []) ≡ record {
  table = record { lines = 2; images = 0 ∷ 2 ∷ 1 ∷ 3 ∷ [] };
  constants = Input ∷ Zero ∷ [];
  garbage = false ∷ true ∷ [];
}
unfolding rank remaining images_between preimage_of
constant = refl

-- two inputs that agree with their outputs take no line more
both_kept : embedding_on 2 2 1 (0 ∷ 0 ∷ 1 ∷ 1 ∷ []) ≡ record {
  table = record { lines = 2; images = 0 ∷ 1 ∷ 2 ∷ 3 ∷ [] };
  constants = Input ∷ Input ∷ [];
  garbage = false ∷ true ∷ [];
}
unfolding rank remaining images_between preimage_of
both_kept = refl
