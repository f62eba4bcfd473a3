use Rattle.std.proofs.Common.{◌≡◌, ◌+◌, sym, ◌∙◌, ap, cond, get_or, get_or-set_same, get_or-set_other, set, arith, inl, inr, length, length-set, w64}
use Rattle.std.specs.Int.{trailing_zeros}
use Rattle.std.proofs.lemmas.Bool.{cases_eq}
use Rattle.rv_gate.specs.Word.{has}
use Rattle.rv_gate.proofs.LowestLine.{lowest_line, still_there}
use Rattle.rv_fold.specs.declared.classes.Classes.{Classes}
use Rattle.rv_fold.proofs.classes.Classes.restart.Goals as goal
use Rattle.rv_fold.proofs.classes.Classes.restart.Goals.{then-line-len, else-line-len}

pub loop-left-smaller : goal.loop-left-smaller
loop-left-smaller c = (lowest_line c.loop-left.left (omega arith) (omega arith)).fewer

pub loop-left-preserved : goal.loop-left-preserved
loop-left-preserved c =
    let before = c.loop-left.invariant in
    let lowest = lowest_line c.loop-left.left (omega arith) (omega arith) in
    let sinces = c.loop-left.self.sinces.items in
    let lowest_place = trailing_zeros w64 c.loop-left.left in
    elim c.if-line-len.branch [
      | then-line-len w ↦
          (let items : c.if-line-len.self.sinces.items ≡ set sinces lowest_place (c.args.place + 1) = ap (λ (s : Classes). s.sinces.items) w.self-is in
          record {
            count = ap length items ∙ length-set sinces lowest_place (c.args.place + 1) ∙ before.count;
            firsts = ap (λ (s : Classes). s.firsts) w.self-is ∙ before.firsts;
            among = λ line below on. before.among line below (still_there _ _ _ lowest line below on);
            done = λ line below off.
                ap (λ l. get_or l line 0) items
                ∙ elim (cases_eq line lowest_place) [
                  | inl here ↦
                      (ap (λ k. get_or (set sinces lowest_place (c.args.place + 1)) k 0) here
                      ∙ get_or-set_same sinces lowest_place (c.args.place + 1) 0 (omega (arith, w.if-line-len.true, c.len.ensures))
                      ∙ sym (ap (λ b. cond b (c.args.place + 1) (get_or c.args.self.now.sinces.items line 0)) (ap (has c.args.lines) here ∙ before.among lowest_place lowest.within lowest.there)))
                  | inr other ↦
                      (get_or-set_other sinces lowest_place line (c.args.place + 1) 0 other
                      ∙ before.done line below (sym (lowest.same line (omega (arith, c.args.self.now.few, below)) other) ∙ off))
                ];
          })
      | else-line-len w ↦
          record {
            count = ap (λ (s : Classes). length s.sinces.items) w.self-is ∙ before.count;
            firsts = ap (λ (s : Classes). s.firsts) w.self-is ∙ before.firsts;
            among = λ line below on. before.among line below (still_there _ _ _ lowest line below on);
            done = λ line below off.
                ap (λ (s : Classes). get_or s.sinces.items line 0) w.self-is
                ∙ elim (cases_eq line lowest_place) [
                  | inl here ↦ absurd (omega (arith, here, below, before.count, w.if-line-len.false, c.len.ensures))
                  | inr other ↦ before.done line below (sym (lowest.same line (omega (arith, c.args.self.now.few, below)) other) ∙ off)
                ];
          }
    ]
