-- Reductions compose: folding and joining keep all amplitudes, and cancelling all but factors of two.
use Rattle.std.proofs.Common.{◌≡◌, ◌+◌, ap, sym, refl, ◌∙◌, arith}
use Rattle.rv_net.specs.Cyclotomic.{doubled}
use Rattle.rv_net.specs.Op.{IsNetwork, Network}
use Rattle.rv_fold.specs.Folded.{IsFoldingOf}
use Rattle.rv_pairs.specs.Cancelled.{IsCancellingOf, IsPair, Keeps}
use Rattle.rv_turns.specs.Joined.{IsJoiningOf}
use Rattle.rv_reduce.specs.ByGoal.{KeepsAmplitudes}
use Rattle.rv_reduce.specs.Reduced.{IsReductionOf}
use Rattle.rv_reduce.proofs.Carrying.{Rescaled, keeps-rescaled, rescaled-carries, rescaled-denotes}
use Rattle.rv_net.proofs.Cyclotomic.{doubled-more, doubled-none}

keeps-keeps : (net mid result : Network) → Keeps net mid → Keeps mid result → Keeps net result
keeps-keeps net mid result first second = record {
  pairs = first.pairs + second.pairs;
  lines = second.lines ∙ first.lines;
  valid = second.valid;
  amplitudes = λ x y len.
      first.amplitudes x y len ∙ ap (doubled first.pairs) (second.amplitudes x y (len ∙ sym first.lines)) ∙ doubled-more first.pairs second.pairs _;
  hadamards = omega (arith, first.hadamards, second.hadamards);
  operations = omega (arith, first.operations, second.operations);
  t_gates = omega (arith, first.t_gates, second.t_gates);
  three_lines = omega (arith, first.three_lines, second.three_lines);
}

folding-keeps : (net result : Network) → result.lines ≡ net.lines → IsFoldingOf net result → Keeps net result
folding-keeps net result same f = record {
  pairs = 0;
  lines = same;
  valid = f.valid;
  amplitudes = λ x y len. sym (f.amplitudes x y len) ∙ sym (doubled-none _);
  hadamards = omega (arith, f.hadamards);
  operations = f.operations;
  t_gates = f.t_gates;
  three_lines = f.three_lines;
}

joining-keeps : (net result : Network) → IsJoiningOf net result → Keeps net result
joining-keeps net result j = record {
  pairs = 0;
  lines = j.lines;
  valid = j.valid;
  amplitudes = λ x y len. sym (j.amplitudes x y len) ∙ sym (doubled-none _);
  hadamards = omega (arith, j.hadamards);
  operations = j.operations;
  t_gates = j.t_gates;
  three_lines = j.three_lines;
}

pub amplitudes-kept : (net result : Network) → Keeps net result → KeepsAmplitudes net result
amplitudes-kept net result keeps = record {
  pairs = keeps.pairs;
  lines = keeps.lines;
  valid = keeps.valid;
  amplitudes = keeps.amplitudes;
  hadamards = keeps.hadamards;
}

reduction : (net result : Network) → Keeps net result → ¬ IsPair result.ops → IsReductionOf net result
reduction net result keeps settled =
    let scale : Rescaled net result = keeps-rescaled net result (amplitudes-kept net result keeps) in
    record { keeps = keeps; settled = settled; denotes = rescaled-denotes net result scale; carries = rescaled-carries net result scale }

pub cancelling-reduces : (net result : Network) → IsCancellingOf net result → IsReductionOf net result
cancelling-reduces net result c = reduction net result c.keeps c.settled

-- a reduction after another
pub reduces-twice : (net mid result : Network) → IsReductionOf net mid → IsReductionOf mid result → IsReductionOf net result
reduces-twice net mid result first second = reduction net result (keeps-keeps net mid result first.keeps second.keeps) second.settled

pub keeps-reduces : (net mid result : Network) → Keeps net mid → IsReductionOf mid result → IsReductionOf net result
keeps-reduces net mid result first second = reduction net result (keeps-keeps net mid result first second.keeps) second.settled

pub reduces-itself : (net : Network) → IsNetwork net → ¬ IsPair net.ops → IsReductionOf net net
reduces-itself net valid settled =
    reduction net net
    (record {
      pairs = 0;
      lines = refl;
      valid = valid;
      amplitudes = λ x y len. sym (doubled-none _);
      hadamards = omega arith;
      operations = omega arith;
      t_gates = omega arith;
      three_lines = omega arith;
    }) settled

-- one round
pub round-reduces : (net folded joined result : Network) → IsFoldingOf net folded → IsJoiningOf folded joined → IsCancellingOf joined result → IsReductionOf net result
round-reduces net folded joined result f j c =
    reduction net result
    (keeps-keeps net folded result (folding-keeps net folded (ap (λ n. n.lines) f.is) f)
    (keeps-keeps folded joined result (joining-keeps folded joined j) c.keeps)) c.settled
