use Rattle.rv_cmd.proofs.product.Product.put.Goals as goal

pub returns-in-Witness : goal.returns-in-Witness
returns-in-Witness g c = rw c.in-Witness.is c.put_witness.ensures
