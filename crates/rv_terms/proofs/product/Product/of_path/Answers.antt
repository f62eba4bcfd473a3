use Rattle.std.proofs.Common.{ℕ, refl, ap}
use Rattle.std.proofs.lemmas.Nat.{one_shl}
use Rattle.rv_terms.proofs.Products.{value-path}
use Rattle.rv_terms.proofs.product.Product.of_path.Goals as goal

pub returns-clause-alone : goal.returns-clause-alone
returns-clause-alone c = ap (λ (s : ℕ). record { lines = 0; paths = s }) (one_shl c.args.path 64 c.requires)

pub returns-clause-bit : goal.returns-clause-bit
returns-clause-bit c x v = value-path _ c.args.path x v c.requires refl refl
