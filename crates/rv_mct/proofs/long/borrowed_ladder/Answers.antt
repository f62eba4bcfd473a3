use Rattle.std.proofs.Common.{◌≡◌, ◌-◌, length, take, arith, ap, ap₂, ◌∙◌}
use Rattle.std.proofs.lemmas.List.{length-take-le}
use Rattle.rv_mct.specs.Blocks.{controls_of, rising, is_free, count_lines, count}
use Rattle.rv_mct.proofs.inside.LongFlips.{borrowed_divided, borrowed_ladder_from, length-controls_of, length-rising}
use Rattle.rv_mct.proofs.inside.Steps.{grown_as}
use Rattle.rv_mct.proofs.long.borrowed_ladder.Goals as goal

pub overflow_sub-len : goal.overflow_sub-len
overflow_sub-len c =
    omega (arith, c.requires.some, c.len.ensures.value, ap length c.controls_of-controls.ensures, length-controls_of c.args.care c.args.want)

pub borrowed_ladder_over-requires : goal.borrowed_ladder_over-requires
borrowed_ladder_over-requires c =
    let n = length c.args.circuit.now.names in
    let all = rising (is_free c.args.care c.args.target) n in
    let cs : c.deref.result.now ≡ controls_of c.args.care c.args.want = c.deref.ensures.0 ∙ c.controls_of-controls.ensures in
    let l1 : length c.deref.result.now ≡ count_lines c.args.care = ap length cs ∙ length-controls_of c.args.care c.args.want in
    let k : c.len.result - 2 ≡ length c.deref.result.now - 2 = omega (arith, c.len.ensures.value, ap length c.deref.ensures.0) in
    let fr : c.deref-2.result.now ≡ take (length c.deref.result.now - 2) all =
    c.deref-2.ensures.0 ∙ c.free_lines-free.ensures ∙ ap₂ (λ k m. take k (rising (is_free c.args.care c.args.target) m)) k c.line_count-lines.ensures.value in
    let l2 : length all ≡ count (is_free c.args.care c.args.target) n = length-rising (is_free c.args.care c.args.target) n in
    let l3 : length (take (length c.deref.result.now - 2) all) ≡ length c.deref.result.now - 2 = length-take-le _ all (omega (arith, c.requires.enough)) in
    record {
      few = c.requires.long.few;
      some = omega (arith, c.requires.some);
      enough = omega (arith, ap length fr, l3);
      divided = borrowed_divided n c.args.care c.args.want c.args.target c.deref.result.now c.deref-2.result.now c.requires.long c.requires.some cs fr;
    }

pub returns : goal.returns
returns c =
    let n = length c.args.circuit.now.names in
    let all = rising (is_free c.args.care c.args.target) n in
    let cs : c.deref.result.now ≡ controls_of c.args.care c.args.want = c.deref.ensures.0 ∙ c.controls_of-controls.ensures in
    let k : c.len.result - 2 ≡ length c.deref.result.now - 2 = omega (arith, c.len.ensures.value, ap length c.deref.ensures.0) in
    let fr : c.deref-2.result.now ≡ take (length c.deref.result.now - 2) all =
    c.deref-2.ensures.0 ∙ c.free_lines-free.ensures ∙ ap₂ (λ k m. take k (rising (is_free c.args.care c.args.target) m)) k c.line_count-lines.ensures.value in
    grown_as c.args.circuit.now c.borrowed_ladder_over.new.circuit _ _ c.in_ok-borrowed_ladder_over.ensures
    (borrowed_ladder_from n c.args.care c.args.want c.args.target c.deref.result.now c.deref-2.result.now cs fr)
