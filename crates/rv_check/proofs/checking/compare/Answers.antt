use Rattle.std.proofs.Common.{◌≡◌, ◌≤◌, ◌^◌, ◌∙◌, sym, ap, arith, inl, inr}
use Rattle.std.proofs.Math.Pow.{pow_mono}
use Rattle.std.specs.Prelude.{Ok}
use Rattle.rv_gate.proofs.FirstAnswer.{first_zero}
use Rattle.rv_check.proofs.Comparing.{compared_done, compared_large, difference_more, none_more}
use Rattle.rv_check.proofs.checking.compare.Goals as goal

pub loop-number-init : goal.loop-number-init
loop-number-init c = record {
  room = (c.in_ok-kept.ensures.0 ∙ ap (λ n. 2 ^ n) c.lines.ensures.value, c.in_ok-kept.ensures.1 ∙ ap (λ n. 2 ^ n) c.lines.ensures.value);
  large = λ k lt. absurd (omega arith);
  difference = sym (first_zero _ 0);
}

pub returns-in-Err : goal.returns-in-Err
returns-in-Err c =
    let net = c.args.net.now in
    let number = c.loop-number.number in
    let lines : 2 ^ c.lines-2.result ≡ 2 ^ net.lines = ap (λ n. 2 ^ n) c.lines-2.ensures.value in
    let few : 2 ^ net.lines ≤ 2 ^ 10 = pow_mono c.requires.few in
    elim c.in-Err.ensures.answer [
      | inl mem ↦ inl mem
      | inr large ↦ inr (compared_large c.args.circuit.now.gates net number _ (omega (arith, lines, few, c.loop-number-test.true)) c.loop-number.invariant.large large)
    ]

pub loop-number-preserved : goal.loop-number-preserved
loop-number-preserved c = record {
  room = c.in-Ok.ensures.room;
  large = none_more c.args.net.now c.loop-number.number c.loop-number.invariant.large c.in-Ok.ensures.answer.0;
  difference = c.first_of-difference.ensures
      ∙ difference_more c.args.circuit.now.gates c.args.net.now c.loop-number.number c.loop-number.difference c.in-Ok.agrees c.loop-number.invariant.difference c.in-Ok.ensures.answer.1;
}

pub returns : goal.returns
returns c =
    let net = c.args.net.now in
    let lines : 2 ^ c.lines-2.result ≡ 2 ^ net.lines = ap (λ n. 2 ^ n) c.lines-2.ensures.value in
    let few : 2 ^ net.lines ≤ 2 ^ 10 = pow_mono c.requires.few in
    let end : c.loop-number.number ≡ 2 ^ net.lines = omega (arith, lines, few, c.loop-number.auto.number-end, c.loop-number-test.false) in
    compared_done c.args.circuit.now.gates net c.loop-number.number c.loop-number.difference end c.loop-number.invariant.large c.loop-number.invariant.difference
    ∙ ap Ok (sym c.verdict_of.ensures)
