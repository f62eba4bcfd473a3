-- `demo`: what each step from a generated permutation to its network comes to.
use Rattle.std.specs.Prelude.{◌≡◌, List, ◌++◌, ℕ, codes}
use Rattle.rv_flow.specs.Summary.{IsSmall, summary_of}
use Rattle.rv_flow.specs.declared.summary.Summary.{Summary}
use Rattle.rv_cmd.specs.Commands.Cost.{report_line}
use Rattle.rv_cmd.specs.Row.{ReadsFirst, none}

abbrev pub summary_text : Summary → List ℕ
summary_text s =
    report_line (codes "lines") s.lines
    ++ (report_line (codes "seed") s.seed
    ++ (report_line (codes "synthesised") s.synthesised
    ++ (report_line (codes "simplified") s.simplified
    ++ (report_line (codes "decomposed") s.decomposed
    ++ (report_line (codes "added") s.added
    ++ (report_line (codes "operations") s.operations
    ++ (report_line (codes "t") s.t
    ++ report_line (codes "depth") s.depth)))))))

-- the report tells what the steps come to, which keeps their limits
pub record TellsSummary (lines seed : ℕ) (text : List ℕ) : Type 0 where
  pub is : text ≡ summary_text (summary_of lines seed)
  pub small : IsSmall (summary_of lines seed)

abbrev pub demo_row : ℕ → ℕ → ReadsFirst
demo_row lines seed = none (summary_text (summary_of lines seed)) (TellsSummary lines seed)
