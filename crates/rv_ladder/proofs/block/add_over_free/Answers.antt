use Rattle.std.proofs.Common.{◌≡◌, ◌-◌, ◌++◌, length, take, arith, ap, ◌∙◌}
use Rattle.std.proofs.lemmas.List.{length-take-le}
use Rattle.rv_mct.specs.Blocks.{controls_of, rising, is_free, count_lines, count}
use Rattle.rv_mct.proofs.inside.LongFlips.{length-controls_of, length-rising}
use Rattle.rv_ladder.proofs.Steps.{borrowed_from}
use Rattle.rv_ladder.proofs.block.add_over_free.Goals as goal

pub overflow_sub-len : goal.overflow_sub-len
overflow_sub-len c =
    omega (arith, c.requires.some, c.len.ensures.value, ap length c.controls_of-controls.ensures, length-controls_of c.args.care c.args.want)

pub add_borrowed-requires-clause-some : goal.add_borrowed-requires-clause-some
add_borrowed-requires-clause-some c =
    let cs : c.deref.result.now ≡ controls_of c.args.care c.args.want = c.deref.ensures.0 ∙ c.controls_of-controls.ensures in
    let l1 : length c.deref.result.now ≡ count_lines c.args.care = ap length cs ∙ length-controls_of c.args.care c.args.want in
    omega (arith, c.requires.some)

pub add_borrowed-requires-clause-enough : goal.add_borrowed-requires-clause-enough
add_borrowed-requires-clause-enough c =
    let n = c.args.lines in
    let all = rising (is_free c.args.care c.args.t) n in
    let cs : c.deref.result.now ≡ controls_of c.args.care c.args.want = c.deref.ensures.0 ∙ c.controls_of-controls.ensures in
    let l1 : length c.deref.result.now ≡ count_lines c.args.care = ap length cs ∙ length-controls_of c.args.care c.args.want in
    let k : c.len.result - 2 ≡ length c.deref.result.now - 2 = omega (arith, c.len.ensures.value, ap length c.deref.ensures.0) in
    let fr : c.deref-2.result.now ≡ take (length c.deref.result.now - 2) all = c.deref-2.ensures.0 ∙ c.free_lines-free.ensures ∙ ap (λ k. take k all) k in
    let l2 : length all ≡ count (is_free c.args.care c.args.t) n = length-rising (is_free c.args.care c.args.t) n in
    let l3 : length (take (length c.deref.result.now - 2) all) ≡ length c.deref.result.now - 2 = length-take-le _ all (omega (arith, c.requires.enough)) in
    omega (arith, ap length fr, l3, c.requires.some)

pub returns : goal.returns
returns c =
    let n = c.args.lines in
    let all = rising (is_free c.args.care c.args.t) n in
    let cs : c.deref.result.now ≡ controls_of c.args.care c.args.want = c.deref.ensures.0 ∙ c.controls_of-controls.ensures in
    let k : c.len.result - 2 ≡ length c.deref.result.now - 2 = omega (arith, c.len.ensures.value, ap length c.deref.ensures.0) in
    let fr : c.deref-2.result.now ≡ take (length c.deref.result.now - 2) all = c.deref-2.ensures.0 ∙ c.free_lines-free.ensures ∙ ap (λ k. take k all) k in
    c.in_ok-add_borrowed.ensures
    ∙ ap (λ l. c.args.ops.now.items ++ l) (borrowed_from n c.args.care c.args.want c.args.t c.deref.result.now c.deref-2.result.now cs fr)
