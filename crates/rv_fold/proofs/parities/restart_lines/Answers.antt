use Rattle.std.proofs.Common.{◌≡◌, ◌<◌, sym, ◌∙◌, ap, cond, eq-eqb, ne_eqb, set, arith, inl, inr, length, length-set, w64}
use Rattle.std.specs.Global.{Vec}
use Rattle.std.specs.Int.{trailing_zeros}
use Rattle.std.proofs.lemmas.Bool.{cases_eq}
use Rattle.rv_gate.specs.Word.{has}
use Rattle.rv_gate.proofs.LowestLine.{lowest_line, still_there}
use Rattle.rv_fold.specs.Parities.{Parities, alone, Parity}
use Rattle.rv_fold.specs.inside.Shown.{parities_of}
use Rattle.rv_fold.proofs.inside.ParityLists.{parities_of_past, restarted_all, with_parity_set}
use Rattle.rv_fold.proofs.parities.restart_lines.Goals as goal
use Rattle.rv_fold.proofs.parities.restart_lines.Goals.{then-line-len, else-line-len}
use Rattle.rv_gate.proofs.LineSets.{has-none}

pub loop-left-smaller : goal.loop-left-smaller
loop-left-smaller c = (lowest_line c.loop-left.left (omega arith) (omega arith)).fewer

pub loop-left-preserved : goal.loop-left-preserved
loop-left-preserved c =
    let before = c.loop-left.invariant in
    let items = c.loop-left.parities.items in
    let old = parities_of c.args.parities.now.items in
    let lowest_place = trailing_zeros w64 c.loop-left.left in
    let lowest = lowest_line c.loop-left.left (omega arith) (omega arith) in
    elim c.if-line-len.branch [
      | then-line-len w ↦
          (let within : lowest_place < length items = omega (arith, w.if-line-len.true, c.len.ensures) in
          let news : c.if-line-len.parities.items ≡ set items lowest_place w.alone.result = ap (λ (v : Vec Parity). v.items) w.parities-is in
          record {
            count = ap length news ∙ length-set items lowest_place w.alone.result ∙ before.count;
            among = λ line below on. before.among line below (still_there _ _ _ lowest line below on);
            done = λ line below off.
                ap (λ l. parities_of l line) news
                ∙ ap (λ (f : Parities). f line) (with_parity_set items lowest_place w.alone.result within)
                ∙ elim (cases_eq line lowest_place) [
                  | inl here ↦
                      (ap (λ b. cond b w.alone.result (parities_of items line)) (eq-eqb line lowest_place here)
                      ∙ w.alone.ensures
                      ∙ ap alone (sym here)
                      ∙ sym (ap (λ b. cond b (alone line) (old line)) (ap (has c.args.set) here ∙ before.among lowest_place lowest.within lowest.there)))
                  | inr other ↦
                      (ap (λ b. cond b w.alone.result (parities_of items line)) (ne_eqb line lowest_place other)
                      ∙ before.done line below (sym (lowest.same line below other) ∙ off))
                ];
          })
      | else-line-len w ↦
          record {
            count = ap (λ (v : Vec Parity). length v.items) w.parities-is ∙ before.count;
            among = λ line below on. before.among line below (still_there _ _ _ lowest line below on);
            done = λ line below off.
                ap (λ (v : Vec Parity). parities_of v.items line) w.parities-is
                ∙ elim (cases_eq line lowest_place) [
                  | inl here ↦
                      (parities_of_past items line (omega (arith, here, w.if-line-len.false, c.len.ensures))
                      ∙ sym (ap (λ b. cond b (alone line) (old line)) (ap (has c.args.set) here ∙ before.among lowest_place lowest.within lowest.there)))
                  | inr other ↦ before.done line below (sym (lowest.same line below other) ∙ off)
                ];
          }
    ]

pub returns-clause-parities : goal.returns-clause-parities
returns-clause-parities c =
    let all = c.loop-left.invariant in
    restarted_all c.loop-left.parities.items c.args.parities.now.items c.args.set (omega (arith, all.count, c.requires)) c.requires
    (λ line below. all.done line below (ap (λ s. has s line) c.loop-left-test.false ∙ has-none line))
