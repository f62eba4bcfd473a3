use Rattle.std.proofs.Common.{ℕ, List, refl, subst, sym}
use Rattle.rv_reader.specs.Gives.{StepGives}
use Rattle.rv_qasm.specs.Rules.{body_read}
use Rattle.rv_qasm.proofs.inside.OperandLaws.{token_first}
use Rattle.rv_qasm.proofs.state.State.body_read.Goals as goal

pub returns : goal.returns
returns c =
    subst (λ (tokens : List (List ℕ)). StepGives c.named_read.result c.named_read.new.self (body_read c.args.self.now tokens))
    (sym (token_first c.args.tokens.now 0 1 c.get.result.now c.get.ensures refl)) c.named_read.ensures
