-- What is made of the inputs of a command that reads them all first.
use Rattle.std.specs.Prelude.{◌≡◌, ◌⊎◌, ℕ, List, [], Result, Err, IfOk, IfErr}
use Rattle.rv_io.specs.Files.{FilesView}
use Rattle.rv_faults.specs.declared.fault.Refusal.{Refusal}
use Rattle.rv_faults.specs.declared.fault.Unmade.{Unmade}
use Rattle.rv_inputs.specs.Reading.{HasTexts, IsUnread, ReadsOnly}
use Rattle.rv_cmd.specs.declared.product.Made.{Made}
use Rattle.rv_cmd.specs.Row.{LacksBy, MeansBy, ReadsFirst, Row, answers_as_it_reads, reads_first, report_by}
use Rattle.rv_cmd.specs.inside.Products.{IsReportOf, product_text}

pub record IsMadeBy (row : ReadsFirst) (names : List (List ℕ)) (old new : FilesView) (made : Made) : Type 0 where
  pub texts : List (List ℕ)
  pub read : HasTexts names old new texts
  pub report : IsReportOf (report_by row (product_text made.product) texts) (MeansBy row texts) made

-- the command refuses the texts, or searches in vain
pub record IsRefusedBy (row : ReadsFirst) (names : List (List ℕ)) (old new : FilesView)
    (refused : Refusal) : Type 0 where
  pub texts : List (List ℕ)
  pub read : HasTexts names old new texts
  pub is : (report_by row [] texts ≡ Err refused) ⊎ LacksBy row texts refused

abbrev pub IsUnmadeBy : ReadsFirst → List (List ℕ) → FilesView → FilesView → Unmade → Type 0
IsUnmadeBy row names old new = IsUnread names old new (IsRefusedBy row names old new)

-- what is made of the inputs, or why nothing is
pub record Makes (row : ReadsFirst) (names : List (List ℕ)) (old new : FilesView)
    (result : Result Made Unmade) : Type 0 where
  pub keeps : ReadsOnly names old new
  pub made : IfOk result (IsMadeBy row names old new)
  pub unmade : IfErr result (IsUnmadeBy row names old new)

abbrev pub MakesBy : Row → List (List ℕ) → FilesView → FilesView → Result Made Unmade → Type 0
MakesBy (reads_first row) names old new result = Makes row names old new result
MakesBy (answers_as_it_reads row) names old new result = ⊥
