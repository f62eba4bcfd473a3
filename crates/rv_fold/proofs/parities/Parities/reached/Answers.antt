use Rattle.std.proofs.Common.{◌≡◌, ◌∙◌, ◌<◌, sym, ap, arith, eq-eqb, ne_eqb, length, subst, true, false, w64}
use Rattle.std.specs.Prelude.{bit_and}
use Rattle.std.specs.Int.{trailing_zeros}
use Rattle.rv_gate.proofs.LowestLine.{lowest_line}
use Rattle.rv_fold.specs.Parities.{Parity, are_apart}
use Rattle.rv_fold.specs.inside.Shown.{parities_of}
use Rattle.rv_fold.proofs.inside.ParityLists.{parity_read}
use Rattle.rv_fold.proofs.inside.Mixed.{less_below, with_one_below, more_lines, fewer_left, fewer_outside, Reaches, reaches_first, reaches_past, reaches_more, reaches_all}
use Rattle.rv_fold.proofs.parities.Parities.reached.Goals as goal

pub loop-left-init : goal.loop-left-init
loop-left-init c = reaches_first _ _ _ c.args.first c.args.self.now.are_mixed (omega arith) (omega arith)

pub index-requires : goal.index-requires
index-requires c =
    let lowest = lowest_line c.loop-left.left (omega arith) (omega arith) in
    let within : trailing_zeros w64 c.loop-left.left < length c.args.self.now.parities.items = c.args.self.now.are_mixed.within _ (c.loop-left.invariant.among _ lowest.there) in
    omega (arith, within)

pub loop-left-smaller-then-index-set-eq0 : goal.loop-left-smaller-then-index-set-eq0
loop-left-smaller-then-index-set-eq0 c = fewer_left c.loop-left.set _ _ (lowest_line c.loop-left.left (omega arith) (omega arith)).fewer

pub loop-left-preserved-then-index-set-eq0 : goal.loop-left-preserved-then-index-set-eq0
loop-left-preserved-then-index-set-eq0 c =
    let items = c.args.self.now.parities.items in
    let line = trailing_zeros w64 c.loop-left.left in
    let lowest = lowest_line c.loop-left.left (omega arith) (omega arith) in
    let lt : line < length items = c.args.self.now.are_mixed.within line (c.loop-left.invariant.among line lowest.there) in
    let same = ap (λ (f : Parity). bit_and f.lines c.loop-left.set) (c.index.ensures ∙ parity_read items line _ lt) in
    let apart : are_apart (parities_of items line).lines c.loop-left.set ≡ true = eq-eqb _ 0 (sym same ∙ c.if-index-set-eq0.true) in
    reaches_past (length items) (parities_of items) c.args.self.now.mixed c.args.first c.loop-left.set c.loop-left.left line _ (omega arith) c.loop-left.invariant lowest apart

pub loop-left-smaller : goal.loop-left-smaller
loop-left-smaller c =
    let line = trailing_zeros w64 c.loop-left.left in
    let lowest = lowest_line c.loop-left.left (omega arith) (omega arith) in
    fewer_outside c.loop-left.set _ c.loop-left.left _ (more_lines c.loop-left.set line lowest.within (c.loop-left.invariant.outside line lowest.there))
    (with_one_below c.loop-left.set line lowest.within (omega arith)) (less_below c.args.self.now.mixed _ (omega arith))

pub loop-left-preserved : goal.loop-left-preserved
loop-left-preserved c =
    let items = c.args.self.now.parities.items in
    let line = trailing_zeros w64 c.loop-left.left in
    let lowest = lowest_line c.loop-left.left (omega arith) (omega arith) in
    let lt : line < length items = c.args.self.now.are_mixed.within line (c.loop-left.invariant.among line lowest.there) in
    let same = ap (λ (f : Parity). bit_and f.lines c.loop-left.set) (c.index.ensures ∙ parity_read items line _ lt) in
    let meets : are_apart (parities_of items line).lines c.loop-left.set ≡ false = ne_eqb _ 0 (λ e. c.if-index-set-eq0.false (same ∙ e)) in
    reaches_more (length items) (parities_of items) c.args.self.now.mixed c.args.first c.args.self.now.are_mixed (omega arith) c.loop-left.set c.loop-left.left line
    c.loop-left.invariant lowest.there lowest.within meets (with_one_below c.loop-left.set line lowest.within (omega arith))

pub returns : goal.returns
returns c =
    let items = c.args.self.now.parities.items in
    let all : Reaches (length items) (parities_of items) c.args.self.now.mixed c.args.first c.loop-left.set 0 =
    subst (Reaches (length items) (parities_of items) c.args.self.now.mixed c.args.first c.loop-left.set) c.loop-left-test.false c.loop-left.invariant in
    reaches_all (length items) (parities_of items) c.args.self.now.mixed c.args.first c.loop-left.set all
