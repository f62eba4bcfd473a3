use Rattle.std.proofs.Common.{◌≡◌, ◌^◌, ◌<◌, map}
use Rattle.std.specs.Prelude.{All}
use Rattle.std.specs.List.{range_with_len}
use Rattle.rv_gate.specs.Word.{number_of, word_of}
use Rattle.rv_pla.specs.Zeros.{output_word}
use Rattle.rv_embed.proofs.zeros.zeros.Given as goal

abbrev pub invariant-loop-input : goal.invariant-loop-input
invariant-loop-input l = record {
  table : l.outputs.items ≡ map (λ x. number_of (output_word l.pla (word_of l.pla.inputs x))) (range_with_len 0 l.input);
  below : All (λ y. y < 2 ^ l.pla.outputs) l.outputs.items;
}
