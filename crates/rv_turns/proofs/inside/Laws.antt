-- What joining keeps.
use Rattle.std.proofs.Common.{◌≡◌, ℕ, List, [], length, refl, sym, ap, ◌∙◌, arith}
use Rattle.std.proofs.lemmas.List.{append-nil}
use Rattle.rv_net.specs.declared.op.Op.{Op}
use Rattle.rv_net.specs.Amplitude.{amplitude}
use Rattle.rv_net.specs.Op.{IsNetwork, Network}
use Rattle.rv_net.proofs.Step.{Word, amp, same_amp}
use Rattle.rv_net.proofs.Frame.{through, amp-append}
use Rattle.rv_turns.specs.Joined.{IsJoiningOf}
use Rattle.rv_turns.specs.declared.joining.Joining.{Joining}
use Rattle.rv_turns.specs.inside.Pauli.{kept}
use Rattle.rv_turns.proofs.inside.Moving.{Same}
use Rattle.rv_turns.proofs.inside.Standing.{Stands, kept-fits, kept-length}

amp_through : (ops : List Op) (x y : Word) → amplitude ops x y ≡ through ops (λ v. amp [] v y) x
amp_through ops x y = sym (same_amp ops x y) ∙ ap (λ l. amp l x y) (sym (append-nil ops)) ∙ amp-append ops [] x y

same_amplitudes : (n : ℕ) (a b : List Op) → Same n a b → (x y : Word) → length x ≡ n → amplitude b x y ≡ amplitude a x y
same_amplitudes n a b s x y e = amp_through b x y ∙ sym (s.each (λ v. amp [] v y) x e) ∙ sym (amp_through a x y)

pub joining_of : (net : Network) (j : Joining) → IsNetwork net → Stands net.lines net.ops j → IsJoiningOf net (record { lines = net.lines; ops = kept j.made.items })
joining_of net j valid s = record {
  valid = record {
    some = valid.some;
    few = valid.few;
    bounded = omega (arith, valid.bounded, kept-length j.made.items, s.count);
    fitting = kept-fits net.lines j.made.items s.fits;
  };
  lines = refl;
  amplitudes = λ x y e. same_amplitudes net.lines net.ops (kept j.made.items) s.same x y e;
  hadamards = s.hadamards;
  operations = omega (arith, kept-length j.made.items, s.count);
  t_gates = s.t_gates;
  three_lines = s.three_lines;
}
