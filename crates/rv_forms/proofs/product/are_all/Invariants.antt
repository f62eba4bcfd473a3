use Rattle.std.specs.Prelude.{[], ◌∷◌}
use Rattle.rv_forms.proofs.Products.{AskFirst}
use Rattle.rv_forms.proofs.product.are_all.Given as goal

abbrev pub invariant-loop-form : goal.invariant-loop-form
invariant-loop-form l = AskFirst (l.other ∷ []) l.forms l.form-index
