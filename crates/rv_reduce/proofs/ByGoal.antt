-- Reductions by a goal: of two networks with the same amplitudes, one that is no worse.
use Rattle.std.proofs.Common.{◌≡◌, ◌+◌, ◌≤◌, Bool, true, false, IsTrue, List, [], length, if◌then◌else◌, append-nil, refl, sym, ap, ◌∙◌, inl, inr, arith}
use Rattle.std.proofs.lemmas.Bool.{false≢true}
use Rattle.std.specs.Prelude.{count_by}
use Rattle.rv_net.specs.Amplitude.{amplitude}
use Rattle.rv_net.specs.Cyclotomic.{doubled}
use Rattle.rv_net.specs.Op.{IsNetwork, Network, is_t}
use Rattle.rv_net.specs.declared.net.TheConstants.{MOST_OPS}
use Rattle.rv_net.specs.declared.op.Op.{Op}
use Rattle.rv_net.proofs.Cyclotomic.{doubled-more, doubled-none}
use Rattle.rv_reduce.specs.StandsFor.{StandsFor}
use Rattle.rv_reduce.specs.Blocks.{begun, in_blocks, takes_blocks}
use Rattle.rv_reduce.specs.ByGoal.{HasFewCnots, Improves, IsReductionBy, KeepsAmplitudes}
use Rattle.rv_reduce.specs.declared.goal.Goal.{Goal}
use Rattle.rv_reduce.proofs.Blocks.{blocks_amplitude, blocks_count_h, blocks_plain, gate_count}
use Rattle.rv_reduce.proofs.Carrying.{Rescaled, keeps-rescaled, rescaled-carries, rescaled-denotes, rescaled-same}

-- ---- the same network

keeps-itself : (net : Network) → IsNetwork net → KeepsAmplitudes net net
keeps-itself net valid = record {
  pairs = 0;
  lines = refl;
  valid = valid;
  amplitudes = λ x y len. sym (doubled-none _);
  hadamards = omega arith;
}

pub unchanged : (goal : Goal) (net : Network) → IsNetwork net → Improves goal net net
unchanged goal net valid =
    record {
      keeps = keeps-itself net valid;
      no_worse = record { measure = omega arith; t_gates = omega arith; three_lines = omega arith; cnots = inl (omega arith) };
    }

-- ---- one after another

keeps-twice : (net mid result : Network) → KeepsAmplitudes net mid → KeepsAmplitudes mid result → KeepsAmplitudes net result
keeps-twice net mid result first second = record {
  pairs = first.pairs + second.pairs;
  lines = second.lines ∙ first.lines;
  valid = second.valid;
  amplitudes = λ x y len.
      first.amplitudes x y len ∙ ap (doubled first.pairs) (second.amplitudes x y (len ∙ sym first.lines)) ∙ doubled-more first.pairs second.pairs _;
  hadamards = omega (arith, first.hadamards, second.hadamards);
}

cnots-twice : (goal : Goal) (a b c : List Op) → count_by is_t b ≤ count_by is_t a → count_by is_t c ≤ count_by is_t b → HasFewCnots goal a b → HasFewCnots goal b c → HasFewCnots goal a c
cnots-twice goal a b c one two (inl f) (inl s) = inl (omega (arith, f, s))
cnots-twice goal a b c one two (inr f) s = inr (f.0, omega (arith, f.1, two))
cnots-twice goal a b c one two (inl f) (inr s) = inr (s.0, omega (arith, s.1, one))

pub further : (goal : Goal) (net mid result : Network) → Improves goal net mid → Improves goal mid result → Improves goal net result
further goal net mid result first second =
    record {
      keeps = keeps-twice net mid result first.keeps second.keeps;
      no_worse = record {
        measure = omega (arith, first.no_worse.measure, second.no_worse.measure);
        t_gates = omega (arith, first.no_worse.t_gates, second.no_worse.t_gates);
        three_lines = omega (arith, first.no_worse.three_lines, second.no_worse.three_lines);
        cnots = cnots-twice goal net.ops mid.ops result.ops first.no_worse.t_gates second.no_worse.t_gates first.no_worse.cnots second.no_worse.cnots;
      };
    }

-- ---- operations that stand for others

pub standing-keeps : (net : Network) (ops : List Op) → IsNetwork net → length ops ≤ MOST_OPS → StandsFor net.lines net.ops ops
    → KeepsAmplitudes net (record { lines = net.lines; ops = ops })
standing-keeps net ops valid few stands = record {
  pairs = 0;
  lines = refl;
  valid = record { some = valid.some; few = valid.few; bounded = few; fitting = stands.fitting valid.fitting };
  amplitudes = λ x y len.
      ap (λ l. amplitude l x y) (sym (append-nil net.ops)) ∙ stands.amplitudes [] x y len ∙ ap (λ l. amplitude l x y) (append-nil ops)
      ∙ sym (doubled-none _);
  hadamards = omega (arith, stands.hadamards);
}

-- ---- from the network that a goal begins with

abbrev started : Bool → Network → Network
started blocks net = if blocks then record net { ops = in_blocks net.ops } else net

rescaled : (blocks : Bool) (net result : Network) → IsNetwork net → KeepsAmplitudes (started blocks net) result → Rescaled net result
rescaled false net result valid keeps = keeps-rescaled net result keeps
rescaled true net result valid keeps = record {
  up = gate_count net.ops;
  down = keeps.pairs;
  amplitudes = λ x y len. sym (blocks_amplitude net.lines net.ops x y len valid.fitting) ∙ keeps.amplitudes x y len;
  lines = keeps.lines;
  hadamards = omega (arith, blocks_count_h net.ops, keeps.hadamards);
}

none_left : (blocks : Bool) (net result : Network) → gate_count result.ops ≤ gate_count (started blocks net).ops → IsTrue blocks → gate_count result.ops ≡ 0
none_left true net result few is = omega (arith, few, blocks_plain net.ops)
none_left false net result few is = absurd (false≢true is)

pub reduction-by : (goal : Goal) (net result : Network) → IsNetwork net → Improves goal (begun goal net) result → IsReductionBy goal net result
reduction-by goal net result valid improves =
    let blocks : Bool = takes_blocks goal net.ops in
    let scale : Rescaled net result = rescaled blocks net result valid improves.keeps in record {
      improves = improves;
      plain = none_left blocks net result improves.no_worse.three_lines;
      amplitudes = rescaled-same net result scale;
      denotes = rescaled-denotes net result scale;
      carries = rescaled-carries net result scale;
    }
