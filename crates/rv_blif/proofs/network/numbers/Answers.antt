use Rattle.std.proofs.Common.{◌≡◌, ◌∙◌, ◌+◌, ◌∷◌, ◌++◌, [], ap, arith, length-append, add-one, sym}
use Rattle.std.specs.List.{range_with_len}
use Rattle.rv_gate.proofs.Ranges.{range-suc}
use Rattle.rv_blif.proofs.network.numbers.Goals as goal

pub loop-k-preserved : goal.loop-k-preserved
loop-k-preserved c =
    let k = c.loop-k.k in
    let next : 0 + k ≡ k = omega arith in
    record {
      value =
          c.in_ok-push.ensures.items
          ∙ ap (λ l. l ++ k ∷ []) c.loop-k.invariant.value
          ∙ ap (λ n. range_with_len 0 k ++ n ∷ []) (sym next)
          ∙ sym (range-suc 0 k)
          ∙ ap (range_with_len 0) (sym (add-one k));
      len = rw (c.in_ok-push.ensures.items, length-append) (omega (arith, c.loop-k.invariant.len));
    }
