use Rattle.std.proofs.Common.{◌≡◌, ◌+◌, sym, ◌∙◌, ap, ap₂, cond, arith}
use Rattle.rv_gate.specs.Word.{has}
use Rattle.rv_cost.specs.Levels.{Task, highest_on, schedule_of, at_level}
use Rattle.rv_cost.proofs.LevelLaws.{highest_new, schedule_more, depth_more}
use Rattle.rv_cost.proofs.levels.Levels.add.Goals as goal

pub returns-clause-added : goal.returns-clause-added
returns-clause-added c tasks levelled =
    let task : Task = record { lines = c.args.lines; steps = c.args.steps } in
    let earlier = schedule_of tasks in
    let level : c.highest_on.result + c.args.steps ≡ highest_on earlier c.args.lines + c.args.steps =
    ap (λ n. n + c.args.steps) (c.highest_on.ensures.value tasks levelled) in
    record {
      tops = λ line below. rw schedule_more
          (c.raise.ensures.each line below ∙ ap₂ (λ a b. cond (has c.args.lines line) a b) level (levelled.tops line below)
          ∙ sym (highest_new earlier task line));
      depth = rw schedule_more (let d = depth_more (at_level earlier task) earlier in let old = levelled.depth in let m = c.max-self.ensures in omega arith);
    }
