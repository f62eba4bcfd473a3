use Rattle.std.proofs.Common.{ℕ, refl, ap}
use Rattle.std.proofs.lemmas.Nat.{one_shl}
use Rattle.rv_terms.proofs.Products.{value-line}
use Rattle.rv_terms.proofs.product.Product.of_line.Goals as goal

pub returns-clause-alone : goal.returns-clause-alone
returns-clause-alone c = ap (λ (s : ℕ). record { lines = s; paths = 0 }) (one_shl c.args.line 64 c.requires)

pub returns-clause-bit : goal.returns-clause-bit
returns-clause-bit c x v = value-line _ c.args.line x v c.requires refl refl
