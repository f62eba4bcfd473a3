-- A bit that is put for another one.
use Rattle.std.specs.Prelude.{◌≡◌, Bool, ◌&&◌, List, if◌then◌else◌}
use Rattle.rv_terms.specs.Products.{value, parity, less, meets}
use Rattle.rv_terms.specs.declared.product.Product.{Product}

-- y and w are the words x and v, but where a product asks for this bit they have the sum of others
pub record IsPut (bit : Product) (with : List Product) (x v y w : List Bool) : Type 0 where
  pub each : (product : Product)
      → value product y w ≡ (if meets product bit then value (less product bit) x v && parity with x v else value product x v)
