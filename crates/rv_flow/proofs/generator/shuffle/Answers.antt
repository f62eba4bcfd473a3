use Rattle.std.proofs.Common.{◌≡◌, ℕ, ◌-◌, ◌+◌, ◌%◌, ◌<◌, List, length, sym, ◌∙◌, ap, arith}
use Rattle.std.specs.List.{swap}
use Rattle.std.proofs.Math.Nat.{mod-lt}
use Rattle.rv_flow.specs.Generator.{drawn, shuffled}
use Rattle.rv_flow.proofs.Generated.{length-swap, shuffled_more, shuffled_nothing}
use Rattle.rv_flow.proofs.generator.shuffle.Goals as goal

pub loop-i-preserved : goal.loop-i-preserved
loop-i-preserved c =
    let l = c.loop-i in
    let inv = l.invariant in
    let next : ℕ = c.drawn-state.result in
    let some = c.loop-i-test.true in
    let lower : next % (l.i + 1) < l.i + 1 = mod-lt next {m = l.i + 1} (omega arith) in
    let len : length c.swap.new.self ≡ length l.numbers =
    ap length c.swap.ensures.after ∙ length-swap l.numbers l.i (next % (l.i + 1)) inv.within (omega (arith, lower, inv.within)) in
    record {
      len = len ∙ inv.len;
      within = omega (arith, len, inv.within);
      state = c.drawn-state.ensures.below;
      rest = ap (λ (xs : List ℕ). shuffled (l.i - 1) next xs) c.swap.ensures.after
          ∙ ap (λ s. shuffled (l.i - 1) s (swap l.numbers l.i (s % (l.i + 1)))) c.drawn-state.ensures.value
          ∙ sym (shuffled_more l.i (l.i - 1) l.state l.numbers (omega (arith, some)))
          ∙ inv.rest;
    }

pub returns : goal.returns
returns c =
    let l = c.loop-i in
    let old : List ℕ = c.args.numbers.now in
    sym (shuffled_nothing l.state l.numbers) ∙ ap (λ k. shuffled k l.state l.numbers) (omega (arith, c.loop-i-test.false)) ∙ l.invariant.rest
    ∙ ap (λ s. shuffled (length old - 1) s old) c.from-state.ensures
