-- What the operations of one network and the inverse of another tell of both.
use Rattle.std.proofs.Common.{◌≡◌, ℕ, ◌+◌, ◌*◌, Bool, true, false, List, [], ◌++◌, All, length, if◌then◌else◌, sym, ap, ◌∙◌, arith}
use Rattle.std.proofs.lemmas.List.{append_assoc}
use Rattle.rv_gate.specs.Gate.{same_word}
use Rattle.rv_net.specs.declared.op.Op.{Op}
use Rattle.rv_net.specs.Amplitude.{amplitude, count_h}
use Rattle.rv_net.specs.Cyclotomic.{doubled, nought, power, root2, unity}
use Rattle.rv_net.specs.Denotes.{amplitude_of_map}
use Rattle.rv_net.specs.Op.{OpFitsIn}
use Rattle.rv_net.proofs.Step.{Word}
use Rattle.rv_net.proofs.inside.Network.{count_h-append}
use Rattle.rv_sums.specs.inside.Paths.{rooted}
use Rattle.rv_sums.proofs.Turns.{rooted_cancels, rooted_doubled, rooted_more, rooted_nought, rooted_power}
use Rattle.rv_alike.specs.inside.Inverted.{inverted}
use Rattle.rv_alike.proofs.Inverting.{done_again, inverted_count_h, taken_back}
use Rattle.rv_alike.proofs.Roots.{regrouped}
use Rattle.rv_alike.proofs.Sums.{after_rooting, before_doubling, rooted_before}

-- the amplitude of a word that stays as it is
of_map : (ops : List Op) (x y : Word) → amplitude_of_map ops x y ≡ rooted (count_h ops) (amplitude [] x y)
unfolding amplitude
of_map ops x y = by (same_word x y)
  where
    by : (same : Bool) → (if same then power root2 (count_h ops) else nought) ≡ rooted (count_h ops) (if same then unity else nought)
    by true = rooted_power (count_h ops)
    by false = sym (rooted_nought (count_h ops))

-- ---- a network of which another is a reduction

module _ (whole left : List Op) (pairs : ℕ) (x y : Word) (kept : amplitude whole x y ≡ doubled pairs (amplitude left x y))
    (hadamards : count_h whole ≡ count_h left + 2 * pairs) where
  pub whole_stays : amplitude left x y ≡ amplitude_of_map left x y → amplitude whole x y ≡ rooted (count_h whole) (amplitude [] x y)
  whole_stays stays =
      kept ∙ sym (rooted_doubled pairs (amplitude left x y)) ∙ ap (rooted (2 * pairs)) (stays ∙ of_map left x y)
      ∙ rooted_more (2 * pairs) (count_h left) (amplitude [] x y)
      ∙ ap (λ d. rooted d (amplitude [] x y)) (let e : 2 * pairs + count_h left ≡ count_h whole = omega (arith, hadamards) in e)

  pub left_stays : amplitude whole x y ≡ rooted (count_h whole) (amplitude [] x y) → amplitude left x y ≡ amplitude_of_map left x y
  left_stays stays =
      rooted_cancels (2 * pairs) _ _
      (rooted_doubled pairs (amplitude left x y) ∙ sym kept ∙ stays
      ∙ ap (λ d. rooted d (amplitude [] x y)) (let e : count_h whole ≡ 2 * pairs + count_h left = omega (arith, hadamards) in e)
      ∙ sym (rooted_more (2 * pairs) (count_h left) (amplitude [] x y)))
      ∙ sym (of_map left x y)

-- ---- both networks on n lines

module _ (n : ℕ) (a b : List Op) (fits : All (λ op. OpFitsIn op n) a) where
  counted : count_h (b ++ inverted a) ≡ count_h b + count_h a
  counted = count_h-append b (inverted a) ∙ ap (λ k. count_h b + k) (inverted_count_h a)

  -- where what one does and the other takes back leaves each word as it is
  pub alike_if_stays : ((x y : Word) → length x ≡ n → length y ≡ n → amplitude (b ++ inverted a) x y ≡ rooted (count_h (b ++ inverted a)) (amplitude [] x y))
      → (x z : Word) → length x ≡ n → rooted (count_h b) (amplitude a x z) ≡ rooted (count_h a) (amplitude b x z)
  alike_if_stays stays x z e =
      rooted_cancels (count_h a) _ _
      (rooted_more (count_h a) (count_h b) (amplitude a x z)
      ∙ ap (λ d. rooted d (amplitude a x z)) (let s : count_h a + count_h b ≡ count_h (b ++ inverted a) = omega (arith, counted) in s)
      ∙ sym (after_rooting n (count_h (b ++ inverted a)) (b ++ inverted a) a stays x z e)
      ∙ ap (λ l. amplitude l x z) (append_assoc b (inverted a) a)
      ∙ before_doubling n (count_h a) b (inverted a ++ a) (taken_back n a fits) x z e
      ∙ sym (rooted_doubled (count_h a) (amplitude b x z))
      ∙ ap (λ d. rooted d (amplitude b x z)) (let s : 2 * count_h a ≡ count_h a + count_h a = omega arith in s)
      ∙ sym (rooted_more (count_h a) (count_h a) (amplitude b x z)))

  -- from a word from which both are alike
  pub stays_if_alike : (x : Word) → length x ≡ n
      → ((y : Word) → length y ≡ n → rooted (count_h b) (amplitude a x y) ≡ rooted (count_h a) (amplitude b x y))
      → (z : Word) → amplitude (b ++ inverted a) x z ≡ rooted (count_h (b ++ inverted a)) (amplitude [] x z)
  stays_if_alike x e alike z =
      rooted_cancels (count_h a) _ _
      (sym (rooted_before n (count_h b) (count_h a) a b (inverted a) x e alike z)
      ∙ ap (rooted (count_h b)) (done_again n a fits x z e ∙ sym (rooted_doubled (count_h a) (amplitude [] x z)))
      ∙ regrouped (count_h b) (2 * count_h a) (count_h a) (count_h (b ++ inverted a)) (amplitude [] x z) (omega (arith, counted)))
