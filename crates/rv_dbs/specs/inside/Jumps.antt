-- Tables of steps, and of twice as many.
use Rattle.std.specs.Prelude.{ℕ, List, map, min, length, slice_index}
use Rattle.std.specs.List.{range_with_len}

-- the lesser of what stands at each place and at the place to which it jumps
abbrev pub lesser : List ℕ → List ℕ → List ℕ
lesser least jumps =
    map (λ x. min (slice_index least x) (slice_index least (slice_index jumps x))) (range_with_len 0 (length jumps))

-- each two jumps in one
abbrev pub twice : List ℕ → List ℕ
twice jumps = map (λ x. slice_index jumps (slice_index jumps x)) (range_with_len 0 (length jumps))
