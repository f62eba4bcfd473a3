-- What joining T gates keeps: all amplitudes and the number of H. It adds no operation, no T,
-- and no Toffoli or Fredkin gate.
use Rattle.std.specs.Prelude.{◌≡◌, ◌≤◌, Bool, List, length, count_by}
use Rattle.rv_net.specs.Amplitude.{amplitude, count_h}
use Rattle.rv_net.specs.Op.{IsNetwork, Network, has_three_lines, is_t}

pub record IsJoiningOf (net result : Network) : Type 0 where
  pub valid : IsNetwork result
  pub lines : result.lines ≡ net.lines
  pub amplitudes : (x y : List Bool) → length x ≡ net.lines → amplitude result.ops x y ≡ amplitude net.ops x y
  pub hadamards : count_h result.ops ≡ count_h net.ops
  pub operations : length result.ops ≤ length net.ops
  pub t_gates : count_by is_t result.ops ≤ count_by is_t net.ops
  pub three_lines : count_by has_three_lines result.ops ≤ count_by has_three_lines net.ops
