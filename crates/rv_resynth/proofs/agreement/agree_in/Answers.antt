use Rattle.std.proofs.Common.{◌∙◌, sym}
use Rattle.rv_many.specs.Column.{column}
use Rattle.rv_many.proofs.Columns.{length-column}
use Rattle.rv_resynth.proofs.agreement.agree_in.Goals as goal

pub returns-clause-agree : goal.returns-clause-agree
returns-clause-agree c on word j small is =
    let rows = c.put_in.new.rows in (
      column rows j,
      length-column rows j ∙ c.put_in.ensures.lines,
      c.put_in.ensures.words word j small is,
      sym
          (c.run_many.ensures.words j small) ∙ c.same_rows.ensures.same on j small ∙ c.run_many-2.ensures.words j small,
    )

pub returns-clause-differ : goal.returns-clause-differ
returns-clause-differ c off =
    let rows = c.put_in.new.rows in
    let found = c.same_rows.ensures.differ off in
    let long = length-column rows found.0 ∙ c.put_in.ensures.lines in (
      column rows found.0,
      rw long c.requires.old,
      rw long c.requires.new,
      λ e. found.2
          (c.run_many.ensures.words found.0 found.1 ∙ e ∙ sym (c.run_many-2.ensures.words found.0 found.1)),
    )
