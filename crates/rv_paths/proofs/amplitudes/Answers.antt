use Rattle.rv_paths.proofs.Sums.{sum_over_paths}
use Rattle.rv_paths.proofs.amplitudes.Goals as goal

pub returns : goal.returns
returns c = record { sums = sum_over_paths }
