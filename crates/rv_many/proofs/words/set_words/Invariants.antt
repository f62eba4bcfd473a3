use Rattle.std.proofs.Common.{◌≡◌, ℕ, ◌-◌, ◌%◌, ◌<◌, [], length, get_or}
use Rattle.rv_many.specs.Column.{column}
use Rattle.rv_many.proofs.words.set_words.Given as goal

abbrev pub invariant-loop-place : goal.invariant-loop-place
invariant-loop-place l = record {
  whole : l.place % 8 ≡ 0;
  count : length l.words ≡ length l.initial.words;
  words : (j : ℕ) → j < l.place → j < length l.words → get_or l.words j [] ≡ column l.rows j;
}

abbrev pub decreases-loop-place : goal.decreases-loop-place
decreases-loop-place l = length l.initial.words - l.place
