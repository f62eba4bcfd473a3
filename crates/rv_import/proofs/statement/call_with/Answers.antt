use Rattle.std.proofs.Common.{ℕ, List, ◌∙◌, ap, ap₂}
use Rattle.rv_import.specs.Statement.{call_on, call_with}
use Rattle.rv_import.proofs.Tokens.{bytes_from}
use Rattle.rv_import.proofs.statement.call_with.Goals as goal

pub returns-in-Some : goal.returns-in-Some
returns-in-Some c =
    c.call_on.ensures
    ∙ ap₂ (λ (angles : List ℕ) (rest : List (List ℕ)). call_on c.args.registers.now c.args.name.now angles rest) c.as_slice.ensures.value (bytes_from c.args.tokens.now c.in-Some.read.count)
    ∙ ap (call_with c.args.registers.now c.args.name.now) c.in-Some.ensures.exact
