use Rattle.std.proofs.Common.{Some, ap, sym, ◌∙◌}
use Rattle.std.proofs.lemmas.Bool.Decides.{Decides-eqb}
use Rattle.std.proofs.lemmas.Slice.Eq.{slice_eq-Decides}
use Rattle.rv_qasm.proofs.inside.RegisterLaws.{only_register}
use Rattle.rv_qasm.proofs.registers.Registers.is_only.Goals as goal

pub returns : goal.returns
returns c = λ is.
    only_register c.args.self.now c.args.name.now (sym c.len.ensures ∙ c.if-len-ne1.false)
    (c.name.ensures ∙ ap Some ((slice_eq-Decides Decides-eqb _ _ _ c.eq.ensures).0 is))
