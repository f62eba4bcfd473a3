use Rattle.std.proofs.Common.{◌≡◌, ◌<◌, ℕ, length, get_or}
use Rattle.rv_embed.proofs.images.images_between.Given as goal

abbrev pub invariant-loop-place : goal.invariant-loop-place
invariant-loop-place l = record {
  len : length l.images.items ≡ l.count;
  placed : (k : ℕ) → k < l.place → get_or l.images.items (get_or l.from k 0) 0 ≡ get_or l.to k 0;
}
