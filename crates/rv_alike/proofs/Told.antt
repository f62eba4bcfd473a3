-- What is told of two networks is right.
use Rattle.std.proofs.Common.{◌≡◌, ℕ, ◌+◌, ◌≤◌, ◌<◌, ◌^◌, List, [], ◌++◌, All, length, length-append, sym, ap, ap₂, subst, ◌∙◌, arith}
use Rattle.std.proofs.lemmas.List.Elements.{All-append}
use Rattle.rv_gate.specs.Circuit.{Cascade}
use Rattle.rv_gate.specs.Gate.{run}
use Rattle.rv_gate.specs.Word.{word_of}
use Rattle.rv_gate.specs.declared.gate.Shape.{Shape}
use Rattle.rv_gate.specs.inside.laws.WordLaws.{length-word_of}
use Rattle.rv_net.specs.Amplitude.{amplitude, count_h}
use Rattle.rv_net.specs.Denotes.{Denotes, amplitude_of_map}
use Rattle.rv_net.specs.Op.{IsNetwork, Network, OpFitsIn}
use Rattle.rv_net.specs.declared.net.TheConstants.{MOST_OPS}
use Rattle.rv_net.specs.declared.op.Op.{Op}
use Rattle.rv_net.proofs.Step.{Word}
use Rattle.rv_pairs.specs.Cancelled.{Keeps}
use Rattle.rv_paths.specs.Paths.{AreSame}
use Rattle.rv_sums.specs.Finding.{Breaks, IsRight}
use Rattle.rv_sums.specs.declared.finding.Finding.{Finding}
use Rattle.rv_sums.specs.declared.finding.Finding.TheVariants.{Same, Differs, Terms, Steps, Paths}
use Rattle.rv_sums.specs.inside.Paths.{rooted}
use Rattle.rv_alike.specs.Alike.{AreAlike, AreAlikeFrom, IsTold}
use Rattle.rv_alike.specs.inside.Inverted.{inverted}
use Rattle.rv_alike.proofs.Alike.{alike_if_stays, left_stays, stays_if_alike, whole_stays}
use Rattle.rv_alike.proofs.Inverting.{inverted_fits, inverted_length}
use Rattle.rv_alike.proofs.Roots.{lifted, lowered, scaled}

pub both_valid : (net other : Network) (lines : ℕ) (ops : List Op) → IsNetwork net → IsNetwork other → net.lines ≡ other.lines
    → length net.ops + length other.ops ≤ MOST_OPS → lines ≡ net.lines → ops ≡ net.ops ++ inverted other.ops
    → IsNetwork (record { lines = lines; ops = ops })
both_valid net other lines ops valid other_valid same few lines_is ops_is =
    let Fits : Op → Type 0 = λ op. OpFitsIn op net.lines in
    let both : IsNetwork (record { lines = net.lines; ops = net.ops ++ inverted other.ops }) = record {
      some = valid.some;
      few = valid.few;
      bounded = omega (arith, length-append net.ops (inverted other.ops), inverted_length other.ops, few);
      fitting = All-append Fits net.ops (inverted other.ops) valid.fitting
          (inverted_fits net.lines other.ops (subst (λ (n : ℕ). All (λ op. OpFitsIn op n) other.ops) (sym same) other_valid.fitting));
    } in
    subst (λ (n : ℕ). IsNetwork (record { lines = n; ops = ops })) (sym lines_is)
    (subst (λ (l : List Op). IsNetwork (record { lines = net.lines; ops = l })) (sym ops_is) both)

-- a circuit without gates leaves each word as it is
no_gates : (gates : List Shape) (x : Word) → gates ≡ [] → run gates x ≡ x
no_gates gates x none = ap (λ l. run l x) none

-- ---- two networks and their reductions

module _ (a b mine others : Network) (first : Keeps a mine) (second : Keeps b others) (same : a.lines ≡ b.lines) where
  -- what the reductions have alike, both have
  above : (x y : Word) → length x ≡ a.lines
      → rooted (count_h others.ops) (amplitude mine.ops x y) ≡ rooted (count_h mine.ops) (amplitude others.ops x y)
      → rooted (count_h b.ops) (amplitude a.ops x y) ≡ rooted (count_h a.ops) (amplitude b.ops x y)
  above x y e = lifted (count_h a.ops) (count_h mine.ops) (count_h b.ops) (count_h others.ops) first.pairs second.pairs _ _ _ _
      (first.amplitudes x y e) (second.amplitudes x y (e ∙ same)) first.hadamards second.hadamards

  below : (x y : Word) → length x ≡ a.lines
      → rooted (count_h b.ops) (amplitude a.ops x y) ≡ rooted (count_h a.ops) (amplitude b.ops x y)
      → rooted (count_h others.ops) (amplitude mine.ops x y) ≡ rooted (count_h mine.ops) (amplitude others.ops x y)
  below x y e = lowered (count_h a.ops) (count_h mine.ops) (count_h b.ops) (count_h others.ops) first.pairs second.pairs _ _ _ _
      (first.amplitudes x y e) (second.amplitudes x y (e ∙ same)) first.hadamards second.hadamards

  alike : ((x y : Word) → length x ≡ a.lines → rooted (count_h others.ops) (amplitude mine.ops x y) ≡ rooted (count_h mine.ops) (amplitude others.ops x y))
      → AreAlike a b
  alike reduced x e y l =
      scaled (count_h b.ops) (amplitude a.ops x y) ∙ above x y e (reduced x y e) ∙ sym (scaled (count_h a.ops) (amplitude b.ops x y))

  pub alike_by_sums : (lines : ℕ) (one two : List Op) → lines ≡ mine.lines → one ≡ mine.ops → two ≡ others.ops → AreSame lines one two → AreAlike a b
  alike_by_sums lines one two lines_is one_is two_is sums =
      let Are : List Op → List Op → Type 0 = λ p q. AreSame lines p q in
      let are : AreSame lines mine.ops others.ops = subst (Are mine.ops) two_is (subst (λ (p : List Op). Are p two) one_is sums) in
      alike (λ x y e. ap₂ rooted are.hadamards (are.sums x y (e ∙ sym (lines_is ∙ first.lines))))

  module _ (both left : Network) (circuit : Cascade) (is : both ≡ record others { ops = others.ops ++ inverted mine.ops }) (kept : Keeps both left)
      (none : circuit.gates ≡ []) where
    on : both.lines ≡ a.lines
    on = ap (λ (n : Network). n.lines) is ∙ second.lines ∙ sym same

    fits : All (λ op. OpFitsIn op a.lines) mine.ops
    fits = subst (λ (n : ℕ). All (λ op. OpFitsIn op n) mine.ops) first.lines first.valid.fitting

    ops_are : both.ops ≡ others.ops ++ inverted mine.ops
    ops_are = ap (λ (n : Network). n.ops) is

    left_on : left.lines ≡ a.lines
    left_on = kept.lines ∙ on

    told_same : Denotes left.lines left.ops (run circuit.gates) → AreAlike a b
    unfolding Denotes
    told_same denotes =
        alike (λ x y e. alike_if_stays a.lines mine.ops others.ops fits
        (λ v w v_len w_len.
        let stays : amplitude left.ops v w ≡ amplitude_of_map left.ops v w =
        denotes v w (v_len ∙ sym left_on) (w_len ∙ sym left_on) ∙ ap (λ u. amplitude_of_map left.ops u w) (no_gates circuit.gates v none) in
        let whole : amplitude both.ops v w ≡ rooted (count_h both.ops) (amplitude [] v w) =
        whole_stays both.ops left.ops kept.pairs v w (kept.amplitudes v w (v_len ∙ sym on)) kept.hadamards stays in
        subst (λ (l : List Op). amplitude l v w ≡ rooted (count_h l) (amplitude [] v w)) ops_are whole)
        x y e)

    told_apart : (word : ℕ) → Breaks circuit.gates left word → ¬ AreAlikeFrom a b (word_of a.lines word)
    told_apart word breaks alike_there =
        let x : Word = word_of a.lines word in
        let y : Word = breaks.0 in
        let x_len : length x ≡ a.lines = length-word_of a.lines word in
        let given : word_of left.lines word ≡ x = ap (λ n. word_of n word) left_on in
        let whole : amplitude both.ops x y ≡ rooted (count_h both.ops) (amplitude [] x y) =
        subst (λ (l : List Op). amplitude l x y ≡ rooted (count_h l) (amplitude [] x y)) (sym ops_are)
        (stays_if_alike a.lines mine.ops others.ops fits x x_len
        (λ z z_len. below x z x_len (sym (scaled (count_h b.ops) (amplitude a.ops x z)) ∙ alike_there z z_len ∙ scaled (count_h a.ops) (amplitude b.ops x z))) y) in
        let stays : amplitude left.ops x y ≡ amplitude_of_map left.ops x y =
        left_stays both.ops left.ops kept.pairs x y (kept.amplitudes x y (x_len ∙ sym on)) kept.hadamards whole in
        breaks.2 (ap (λ v. amplitude left.ops v y) given ∙ stays
        ∙ ap (λ v. amplitude_of_map left.ops v y) (sym (no_gates circuit.gates (word_of left.lines word) none ∙ given)))

    pub told_by_left : (finding : Finding) → IsRight circuit left finding → IsTold a b finding
    told_by_left Same right = told_same right
    told_by_left (Differs word) right =
        (subst (λ (n : ℕ). word < 2 ^ n) left_on right.0, told_apart word right.1)
    told_by_left Terms right = tt
    told_by_left Steps right = tt
    told_by_left (Paths left_bits) right = tt
