use Rattle.std.proofs.Common.{◌<◌, sym, ◌∙◌, arith, inl, inr, length, w64}
use Rattle.std.specs.Int.{trailing_zeros}
use Rattle.std.proofs.lemmas.Bool.{cases_eq, false≢true}
use Rattle.std.proofs.lemmas.Grind.{get_or_default_zero}
use Rattle.rv_gate.proofs.LowestLine.{lowest_line, still_there}
use Rattle.rv_fold.proofs.classes.Classes.is_kept.Goals as goal
use Rattle.rv_fold.proofs.classes.Classes.is_kept.Goals.{else-line-len-via-then-line-len+else-from-index, else-line-len-via-else-line-len}

pub returns-then-from-index : goal.returns-then-from-index
returns-then-from-index c =
    let lowest = lowest_line c.loop-left.left (omega arith) (omega arith) in
    let line = trailing_zeros w64 c.loop-left.left in
    let within : line < length c.args.self.now.sinces.items = omega (arith, c.if-line-len.true, c.len.ensures) in
    let read = c.index.ensures ∙ get_or_default_zero c.args.self.now.sinces.items line c.index.result.now within in (
      λ no line below on. absurd (false≢true no),
      λ all. absurd (let le = all line within (c.loop-left.invariant.among line lowest.within lowest.there) in omega (arith, read, le, c.if-from-index.true)),
    )

pub loop-left-smaller : goal.loop-left-smaller
loop-left-smaller c = (lowest_line c.loop-left.left (omega arith) (omega arith)).fewer

pub loop-left-preserved : goal.loop-left-preserved
loop-left-preserved c =
    let before = c.loop-left.invariant in
    let lowest = lowest_line c.loop-left.left (omega arith) (omega arith) in
    record {
      among = λ line below on. before.among line below (still_there _ _ _ lowest line below on);
      kept = λ line below on off. elim (cases_eq line (trailing_zeros w64 c.loop-left.left)) [
        | inl here ↦ (elim c.else-line-len.branch [
          | else-line-len-via-then-line-len+else-from-index w ↦
              rw here (let read = w.index.ensures ∙ get_or_default_zero c.args.self.now.sinces.items (trailing_zeros w64 c.loop-left.left) w.index.result.now (omega (arith, here, below)) in omega (arith, read, w.if-from-index.false))
          | else-line-len-via-else-line-len w ↦ absurd (omega (arith, here, below, w.if-line-len.false, c.len.ensures))
        ])
        | inr other ↦ before.kept line below on (sym (lowest.same line (omega (arith, c.args.self.now.few, below)) other) ∙ off)
      ];
    }
