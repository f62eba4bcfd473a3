use Rattle.std.proofs.Common.{◌<◌, sym, ◌∙◌, arith, length, inl, inr, length-set, refl, slice_index, w64}
use Rattle.std.specs.Int.{trailing_zeros}
use Rattle.std.proofs.lemmas.Bool.{cases_eq, cond-true}
use Rattle.rv_cost.proofs.LevelLaws.{set_here, set_elsewhere}
use Rattle.rv_gate.proofs.LowestLine.{lowest_line, still_there}
use Rattle.rv_cost.proofs.levels.raise.Goals as goal

pub loop-left-smaller : goal.loop-left-smaller
loop-left-smaller c = (lowest_line c.loop-left.left (omega arith) (omega arith)).fewer

pub loop-left-preserved : goal.loop-left-preserved
loop-left-preserved c =
    let before = c.loop-left.invariant in
    let lowest = lowest_line c.loop-left.left (omega arith) (omega arith) in
    let inside : trailing_zeros w64 c.loop-left.left < length c.loop-left.tops = omega (arith, before.sized, lowest.within) in
    record {
      sized = rw length-set before.sized;
      among = λ k below on. before.among k below (still_there _ _ _ lowest k below on);
      done = λ k below off. elim (cases_eq k (trailing_zeros w64 c.loop-left.left)) [
        | inl here ↦
            rw (here, cond-true _ c.args.level (slice_index c.args.tops.now (trailing_zeros w64 c.loop-left.left)) (before.among _ lowest.within lowest.there))
            (set_here _ _ _ _ refl inside)
        | inr other ↦ set_elsewhere _ _ _ _ k refl other ∙ before.done k below (sym (lowest.same k below other) ∙ off)
      ];
    }
