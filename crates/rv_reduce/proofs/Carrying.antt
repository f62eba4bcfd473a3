-- What a network denotes or carries, another denotes or carries whose amplitudes are so many times more or less.
use Rattle.std.proofs.Common.{◌≡◌, ℕ, zero, suc, ◌+◌, ◌*◌, Bool, true, false, List, ◌++◌, length, if◌then◌else◌, ap, sym, refl, ◌∙◌, arith, length-append}
use Rattle.rv_mct.specs.declared.aux.Aux.{Aux}
use Rattle.rv_gate.specs.Gate.{same_word}
use Rattle.rv_net.specs.Amplitude.{amplitude, count_h}
use Rattle.rv_net.specs.Cyclotomic.{Cyclotomic, nought, plus, power, root2, doubled, times}
use Rattle.rv_net.specs.Denotes.{Carries, Denotes, amplitude_of_map}
use Rattle.rv_net.specs.Op.{Network}
use Rattle.rv_net.proofs.Cyclotomic.{doubled-none, doubled-nought, halved, root2_twice, times-add_left, times-add_right}
use Rattle.rv_reduce.specs.ByGoal.{HasAmplitudesOf, KeepsAmplitudes}

undoubled : (k : ℕ) (u v : Cyclotomic) → doubled k u ≡ doubled k v → u ≡ v
unfolding doubled
undoubled zero u v e = e
undoubled (suc k) u v e = undoubled k u v (halved (doubled k u) (doubled k v) e)

roots : (h k : ℕ) → power root2 (h + 2 * k) ≡ doubled k (power root2 h)
unfolding doubled power
roots h zero = ap (power root2) (let e : h + 2 * 0 ≡ h = omega arith in e)
roots h (suc k) =
    ap (power root2) (let e : h + 2 * suc k ≡ suc (suc (h + 2 * k)) = omega arith in e) ∙ root2_twice _ ∙ ap (λ u. plus u u) (roots h k)

doubled_times : (k : ℕ) (u v : Cyclotomic) → times (doubled k u) v ≡ doubled k (times u v)
unfolding doubled
doubled_times zero u v = refl
doubled_times (suc k) u v = times-add_right v (doubled k u) (doubled k u) ∙ ap (λ w. plus w w) (doubled_times k u v)

times_doubled : (k : ℕ) (u v : Cyclotomic) → times u (doubled k v) ≡ doubled k (times u v)
unfolding doubled
times_doubled zero u v = refl
times_doubled (suc k) u v = times-add_left u (doubled k v) (doubled k v) ∙ ap (λ w. plus w w) (times_doubled k u v)

-- the amplitudes of one, so many times doubled, are those of the other, and the pairs of H are as many
pub record Rescaled (net result : Network) : Type 0 where
  pub up : ℕ
  pub down : ℕ
  pub amplitudes : (x y : List Bool) → length x ≡ net.lines
      → doubled up (amplitude net.ops x y) ≡ doubled down (amplitude result.ops x y)
  pub lines : result.lines ≡ net.lines
  pub hadamards : count_h net.ops + 2 * up ≡ count_h result.ops + 2 * down

pub keeps-rescaled : (net result : Network) → KeepsAmplitudes net result → Rescaled net result
keeps-rescaled net result keeps = record {
  up = 0;
  down = keeps.pairs;
  amplitudes = λ x y len. doubled-none _ ∙ keeps.amplitudes x y len;
  lines = keeps.lines;
  hadamards = omega (arith, keeps.hadamards);
}

module _ (net result : Network) (scale : Rescaled net result) where
  mapped : (image y : List Bool) → doubled scale.up (amplitude_of_map net.ops image y) ≡ doubled scale.down (amplitude_of_map result.ops image y)
  mapped image y = by (same_word image y)
    where
      by : (same : Bool) → doubled scale.up (if same then power root2 (count_h net.ops) else nought) ≡ doubled scale.down (if same then power root2 (count_h result.ops) else nought)
      by true = sym (roots (count_h net.ops) scale.up) ∙ ap (power root2) scale.hadamards ∙ roots (count_h result.ops) scale.down
      by false = doubled-nought scale.up ∙ sym (doubled-nought scale.down)

  follows : (x image y : List Bool) → length x ≡ net.lines → amplitude net.ops x y ≡ amplitude_of_map net.ops image y
      → amplitude result.ops x y ≡ amplitude_of_map result.ops image y
  follows x image y len is =
      undoubled scale.down _ _ (sym (scale.amplitudes x y len) ∙ ap (doubled scale.up) is ∙ mapped image y)

  pub rescaled-denotes : (map : List Bool → List Bool) → Denotes net.lines net.ops map → Denotes net.lines result.ops map
  unfolding Denotes
  rescaled-denotes map denotes = λ x y x_len y_len. follows x (map x) y x_len (denotes x y x_len y_len)

  pub rescaled-carries : (aux : Aux) (n extra : ℕ) (map : List Bool → List Bool) → n + extra ≡ net.lines
      → Carries aux n extra net.ops map → Carries aux n extra result.ops map
  unfolding Carries
  rescaled-carries aux n extra map wide carries = λ word held y word_len held_len may y_len.
      follows (word ++ held) (map word ++ held) y (length-append word held ∙ omega (arith, word_len, held_len, wide))
      (carries word held y word_len held_len may y_len)

  -- with the roots of two divided out
  pub rescaled-same : HasAmplitudesOf net result
  rescaled-same x y len =
      let h : ℕ = count_h net.ops in
      let g : ℕ = count_h result.ops in
      let a : Cyclotomic = amplitude net.ops x y in
      let b : Cyclotomic = amplitude result.ops x y in
      undoubled scale.up _ _
      (sym (times_doubled scale.up (power root2 g) a) ∙ ap (times (power root2 g)) (scale.amplitudes x y len)
      ∙ times_doubled scale.down (power root2 g) b ∙ sym (doubled_times scale.down (power root2 g) b)
      ∙ ap (λ r. times r b) (sym (roots g scale.down) ∙ ap (power root2) (sym scale.hadamards) ∙ roots h scale.up)
      ∙ doubled_times scale.up (power root2 h) b)
