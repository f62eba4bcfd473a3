use Rattle.std.proofs.Common.{◌≡◌, ◌<◌, ◌^◌, ℕ, true, false, sym, ◌∙◌, arith, inl, inr, w64}
use Rattle.std.specs.Int.{trailing_zeros}
use Rattle.std.proofs.lemmas.Bool.{cases_eq}
use Rattle.rv_gate.specs.Word.{has}
use Rattle.rv_gate.proofs.LineSets.{Within-below, has-none}
use Rattle.rv_cost.specs.Levels.{highest_on, schedule_of}
use Rattle.rv_cost.proofs.LevelLaws.{highest_at, highest_least}
use Rattle.rv_gate.proofs.LowestLine.{lowest_line, still_there}
use Rattle.rv_cost.proofs.levels.Levels.highest_on.Goals as goal

pub loop-left-smaller : goal.loop-left-smaller
loop-left-smaller c = (lowest_line c.loop-left.left (omega arith) (omega arith)).fewer

pub loop-left-preserved : goal.loop-left-preserved
loop-left-preserved c =
    let before = c.loop-left.invariant in
    let lowest = lowest_line c.loop-left.left (omega arith) (omega arith) in
    let most = c.max-highest.ensures in
    record {
      among = λ k below on. before.among k below (still_there _ _ _ lowest k below on);
      upper = λ k below on off. elim (cases_eq k (trailing_zeros w64 c.loop-left.left)) [
        | inl here ↦ rw here (omega arith)
        | inr other ↦ (let u = before.upper k below on (sym (lowest.same k below other) ∙ off) in omega arith)
      ];
      least = λ limit each.
          let l = before.least limit each in
          let h = each _ lowest.within (before.among _ lowest.within lowest.there) in
          omega arith;
    }

pub returns-clause-value : goal.returns-clause-value
returns-clause-value c tasks levelled =
    let none : (k : ℕ) → has c.loop-left.left k ≡ false = λ k. rw c.loop-left-test.false (has-none k) in
    let low =
    c.loop-left.invariant.least (highest_on (schedule_of tasks) c.args.lines)
    (λ k below on. let e = levelled.tops k below in let h = highest_at (schedule_of tasks) c.args.lines k on in omega arith) in
    let high =
    highest_least (schedule_of tasks) c.args.lines c.loop-left.highest
    (λ (k : ℕ) (on : has c.args.lines k ≡ true).
    let fits : c.args.lines < 2 ^ 64 = omega arith in
    let within : k < 64 = Within-below c.args.lines 64 fits k on in
    let e = levelled.tops k within in
    let u = c.loop-left.invariant.upper k within on (none k) in
    omega arith) in
    omega arith

pub returns-clause-few : goal.returns-clause-few
returns-clause-few c = c.loop-left.invariant.least c.args.self.now.depth (λ k below on. c.args.self.now.bounded k below)
