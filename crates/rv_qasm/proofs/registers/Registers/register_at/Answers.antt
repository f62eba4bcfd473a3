use Rattle.std.proofs.Common.{◌∙◌, ap, arith, option_map}
use Rattle.rv_qasm.proofs.inside.RegisterLaws.{found, found_end, whole}
use Rattle.rv_qasm.proofs.registers.Registers.register_at.Goals as goal

pub overflow_cast-result : goal.overflow_cast-result
overflow_cast-result c =
    omega (arith, c.requires, found_end c.args.name.now c.self.inside.extents.entries c.self.inside.total c.args.self.now c.self.invariant c.self.view_is c.requires c.in-Some.extent c.in-Some.ensures)

pub overflow_cast-result-in-Some : goal.overflow_cast-result-in-Some
overflow_cast-result-in-Some c =
    omega (arith, c.requires, found_end c.args.name.now c.self.inside.extents.entries c.self.inside.total c.args.self.now c.self.invariant c.self.view_is c.requires c.in-Some.extent c.in-Some.ensures)

pub returns-in-Some-clause-exact : goal.returns-in-Some-clause-exact
returns-in-Some-clause-exact c = ap (option_map whole) c.in-Some.ensures ∙ found c.args.name.now c.self.inside.extents.entries c.self.inside.total c.args.self.now c.self.invariant c.self.view_is c.requires

pub returns-in-Some-clause-part : goal.returns-in-Some-clause-part
returns-in-Some-clause-part c = record {
  within = found_end c.args.name.now c.self.inside.extents.entries c.self.inside.total c.args.self.now c.self.invariant c.self.view_is c.requires c.in-Some.extent c.in-Some.ensures;
  single = λ e. (cc e);
}

pub returns-in-None-clause-exact : goal.returns-in-None-clause-exact
returns-in-None-clause-exact c = ap (option_map whole) c.in-None.ensures ∙ found c.args.name.now c.self.inside.extents.entries c.self.inside.total c.args.self.now c.self.invariant c.self.view_is c.requires
