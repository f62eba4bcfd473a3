use Rattle.std.proofs.Common.{ap, sym, ◌∙◌}
use Rattle.std.specs.List.{list_any}
use Rattle.rv_qasm.specs.Tokens.{is_string}
use Rattle.rv_qasm.proofs.inside.Flat.{no_string}
use Rattle.rv_qasm.proofs.tokens.Tokens.may_have_string.Goals as goal

pub returns : goal.returns
returns c = λ none.
    ap (list_any is_string) (sym c.self.view_is)
    ∙ no_string c.self.inside.starts.items c.self.inside.bytes.items (rw c.deref.ensures.value at (sym c.contains.ensures.value ∙ none))
