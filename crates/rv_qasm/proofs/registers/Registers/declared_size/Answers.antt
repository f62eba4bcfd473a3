use Rattle.std.proofs.Common.{◌∙◌, ap, option_map}
use Rattle.rv_qasm.specs.Registers.{declared_size}
use Rattle.rv_qasm.specs.declared.registers.Extent.{Extent}
use Rattle.rv_qasm.proofs.inside.RegisterLaws.{looked_up}
use Rattle.rv_qasm.proofs.registers.Registers.declared_size.Goals as goal

pub returns-in-Some : goal.returns-in-Some
returns-in-Some c = ap (option_map (λ (e : Extent). e.size)) c.in-Some.ensures ∙ looked_up c.args.name.now c.self.inside.extents.entries ∙ ap (declared_size c.args.name.now) c.self.view_is

pub returns-in-None : goal.returns-in-None
returns-in-None c = ap (option_map (λ (e : Extent). e.size)) c.in-None.ensures ∙ looked_up c.args.name.now c.self.inside.extents.entries ∙ ap (declared_size c.args.name.now) c.self.view_is
