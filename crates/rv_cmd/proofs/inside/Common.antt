-- The names that the proofs of most commands use.
pub use Rattle.std.proofs.Common.{◌≡◌, ◌≤◌, ◌∙◌, ℕ, List, [], ◌∷◌, ◌++◌, length, refl, ap, sym, subst, arith}
pub use Rattle.rv_gate.specs.Circuit.{Cascade, IsCascade}
pub use Rattle.rv_gate.specs.declared.circuit.TheConstants.{MOST_GATES}
pub use Rattle.rv_gate.specs.declared.word.TheConstants.{MOST_LINES}
pub use Rattle.rv_net.specs.Op.{IsNetwork, Network}
pub use Rattle.rv_net.specs.declared.net.TheConstants.{MOST_OPS}
pub use Rattle.rv_cmd.specs.Limits.{AreKept, Limit, at_most, of_gates, of_lines, of_ops}
pub use Rattle.rv_cmd.specs.inside.Products.{IsProductOf, IsRefusalOf}
pub use Rattle.rv_cmd.proofs.inside.Limits.{few-by, few-unless, refusal-after, refusal-before}
pub use Rattle.rv_cmd.proofs.inside.Products.{circuit-written}
