use Rattle.std.proofs.Common.{◌≡◌, ◌∙◌, None, ap, refl}
use Rattle.rv_qasm.proofs.inside.RegisterLaws.{follow_more, inserted, pushed}
use Rattle.rv_qasm.specs.Registers.{Register, declared_size}
use Rattle.rv_qasm.specs.inside.Views.{registers_of}
use Rattle.rv_qasm.proofs.registers.Registers.push.Goals as goal
use Rattle.rv_qasm.proofs.registers.Registers.push.Goals.{in-Ok, in-Err}

pub invariant_of-self : goal.invariant_of-self
invariant_of-self c =
    let none : declared_size c.register.inside.name.items (registers_of c.self.inside.extents.entries) ≡ None = rw (c.self.view_is, ap (λ (r : Register). r.name) c.register.view_is) c.requires in
    rw (c.in-Ok.ensures.entries ∙ inserted c.self.inside.extents.entries c.register.inside.name _ none, c.saturating_add-self-inside.ensures)
    (follow_more 0 c.self.inside.extents.entries c.self.inside.total c.register.inside.name c.register.inside.size c.self.invariant)

pub returns-clause-ok : goal.returns-clause-ok
returns-clause-ok c =
    let none : declared_size c.register.inside.name.items (registers_of c.self.inside.extents.entries) ≡ None = rw (c.self.view_is, ap (λ (r : Register). r.name) c.register.view_is) c.requires in
    elim c.match-insert.branch [
      | in-Ok w ↦ rw (w.result-is, w.self-is) (pushed c.self.inside.extents.entries c.insert.new.self.entries c.register.inside.name _ none w.in-Ok.ensures.entries ∙ rw (c.self.view_is, c.register.view_is) refl)
      | in-Err w ↦ rw w.result-is tt
    ]
