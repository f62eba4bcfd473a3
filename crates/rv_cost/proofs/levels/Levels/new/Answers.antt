use Rattle.std.proofs.Common.{ℕ, sym, ◌∙◌, ◌^◌}
use Rattle.std.proofs.lemmas.List.{get_or-replicate, length-replicate}
use Rattle.rv_cost.proofs.LevelLaws.{none_scheduled, highest_none, depth_none, nothing_low}
use Rattle.rv_cost.proofs.levels.Levels.new.Goals as goal

pub invariant_of-result : goal.invariant_of-result
invariant_of-result c =
    record { sized = length-replicate {A = ℕ} 64 0; bounded = λ line below. nothing_low _ _ (get_or-replicate 64 line 0 0 below) }

pub returns-clause-none : goal.returns-clause-none
returns-clause-none c =
    record {
      tops = λ line below. rw none_scheduled (get_or-replicate 64 line 0 0 below ∙ sym (highest_none (2 ^ line)));
      depth = rw none_scheduled (sym depth_none);
    }
