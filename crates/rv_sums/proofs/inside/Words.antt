-- A sum over paths from one word.
use Rattle.std.proofs.Common.{◌≡◌, ◌≢◌, ℕ, ◌+◌, ◌*◌, ◌%◌, ◌^◌, ◌<◌, ◌≤◌, Bool, false, not, cond, List, [], ◌∷◌, ◌++◌, length, drop, take, get_or, refl, sym, ap, ap₂, ◌∙◌, arith, subst, pos}
use Rattle.std.proofs.Math.ListN.{drop_of_length-le}
use Rattle.std.proofs.lemmas.List.{take_more}
use Rattle.rv_gate.specs.Circuit.{Cascade}
use Rattle.rv_gate.specs.Gate.{run, xor}
use Rattle.rv_gate.specs.Word.{word_of}
use Rattle.rv_gate.specs.declared.circuit.Mark.{Mark}
use Rattle.rv_gate.specs.inside.laws.WordLaws.{length-word_of}
use Rattle.rv_gate.proofs.inside.GateLemmas.{length-run}
use Rattle.rv_net.specs.Op.{Network}
use Rattle.rv_sums.specs.Finding.{Breaks, HasConstants}
use Rattle.rv_gate.proofs.Words.{same_word-false, same_word-same}
use Rattle.rv_net.specs.Amplitude.{amplitude, count_h}
use Rattle.rv_net.specs.Cyclotomic.{Cyclotomic, doubled, nought, power, root2, times_w_power, unity}
use Rattle.rv_net.specs.declared.op.Op.{Op}
use Rattle.rv_net.proofs.Cyclotomic.{times_w_power-zero}
use Rattle.rv_net.proofs.Matrix.{sum_over_words-zero}
use Rattle.rv_net.proofs.Step.{Word, bit}
use Rattle.rv_terms.specs.Products.{odd, parity}
use Rattle.rv_terms.specs.Phases.{power as phase}
use Rattle.rv_terms.specs.declared.product.Product.{Product}
use Rattle.rv_terms.specs.declared.sum.Sum.{Sum}
use Rattle.rv_sums.specs.inside.Paths.{over_paths, rooted}
use Rattle.rv_ends.specs.Ends.{amount, over_all}
use Rattle.rv_ends.specs.declared.amount.Amount.{Amount}
use Rattle.rv_sums.specs.inside.State.{DiffersFrom, IsStartAt, Leads, ReachedFrom, spare, value_of, word_at}
use Rattle.rv_sums.specs.declared.path_sum.PathSum.{PathSum}
use Rattle.rv_sums.proofs.Paths.{ended}
use Rattle.rv_sums.proofs.Sums.{same_sum}
use Rattle.rv_sums.proofs.Turns.{rooted_cancels, rooted_doubled, rooted_more, rooted_nought, rooted_power, turns_none}
use Rattle.rv_sums.proofs.inside.Ends.{here_ops}
use Rattle.rv_sums.proofs.inside.States.{bit-word_at_as, take_whole}

pub from_start : (word : Word) (ops : List Op) (s : PathSum) → IsStartAt word s → ReachedFrom word ops ops s
from_start word ops s start = record {
  lines_are = start.lines_are;
  stands = λ x z lx.
      ap (λ d. rooted d (amplitude ops word z)) start.scale
      ∙ sym (rooted_more spare 128 (amplitude ops word z))
      ∙ ap (λ a. rooted spare (rooted 128 a)) (sym (turns_none 0 (amplitude ops word z) refl))
      ∙ ap (rooted spare) (sym (ended ops z word 0 (phase s.phases x) (word_at s.sums.items x) (λ v e. start.ends x v) (λ v e. ap (λ n. n % 8) (start.phases x v))));
}

pub from_round : (word : Word) (ops : List Op) (place : ℕ) (op : Op) (s t : PathSum) → place < length ops → op ≡ get_or ops place op
    → Leads (op ∷ []) s t → ReachedFrom word ops (drop place ops) s → ReachedFrom word ops (drop (place + 1) ops) t
from_round word ops place op s t lt is leads r =
    let P : List Op → Type 0 = λ rest. ReachedFrom word ops rest s in
    let here : ReachedFrom word ops (op ∷ drop (place + 1) ops) s = subst P (here_ops ops place op lt is) r in
    record {
      lines_are = leads.lines ∙ r.lines_are;
      stands = λ x z lx. leads.stands (drop (place + 1) ops) x z (amplitude ops word z) (lx ∙ sym r.lines_are) (here.stands x z lx);
    }

pub from_end : (word : Word) (ops : List Op) (place : ℕ) (s t : PathSum) → length ops ≤ place → Leads [] s t
    → ReachedFrom word ops (drop place ops) s → ReachedFrom word ops [] t
from_end word ops place s t all leads r =
    let P : List Op → Type 0 = λ rest. ReachedFrom word ops rest s in
    let here : ReachedFrom word ops [] s = subst P (drop_of_length-le ops all) r in
    record {
      lines_are = leads.lines ∙ r.lines_are;
      stands = λ x z lx. leads.stands [] x z (amplitude ops word z) (lx ∙ sym r.lines_are) (here.stands x z lx);
    }

-- ---- what isn't a permutation's amplitude

unity_some : unity ≢ nought
unfolding unity nought
unity_some e = let f : pos 1 ≡ pos 0 = ap (λ (u : Cyclotomic). u.a) e in cc

pub power_some : (h : ℕ) → power root2 h ≢ nought
power_some h e = unity_some (rooted_cancels h unity nought (sym (rooted_power h) ∙ e ∙ sym (rooted_nought h)))

-- no path ends at the image
pub elsewhere_differs : (word image : Word) (ops : List Op) (s : PathSum) → ReachedFrom word ops [] s → length image ≡ length word
    → ((x v : Word) → word_at s.sums.items x v ≢ image) → amplitude ops word image ≢ power root2 (count_h ops)
unfolding amplitude
elsewhere_differs word image ops s r len other e =
    let none : over_paths (phase s.phases image) (word_at s.sums.items image) [] image ≡ nought =
    same_sum 64 _ (λ v. nought) (λ v l.
    ap (λ b. times_w_power (phase s.phases image v) (cond b unity nought)) (same_word-false _ _ (other image v))
    ∙ times_w_power-zero (phase s.phases image v))
    ∙ sum_over_words-zero 64 in
    let zero_is : amplitude ops word image ≡ nought =
    rooted_cancels s.scale _ _ (r.stands image image len ∙ ap (rooted spare) none ∙ rooted_nought spare ∙ sym (rooted_nought s.scale)) in
    power_some (count_h ops) (sym e ∙ zero_is)

-- the sum over the paths that are left isn't the power of the root of two that is asked for
pub apart_differs : (word image bits : Word) (ops : List Op) (s : PathSum) (sums : List Sum) (paths : List ℕ) (n k : ℕ) (sum asked : Amount)
    → ReachedFrom word ops [] s → length image ≡ length word → sums ≡ s.sums.items → bits ≡ image → length paths ≡ n
    → ((x : Word) → doubled (length paths) (over_all sums s.phases x bits) ≡ doubled 64 (amount sum))
    → amount asked ≡ power root2 k → s.scale + n * 2 + count_h ops ≡ spare + 128 + k → amount sum ≢ amount asked
    → amplitude ops word image ≢ power root2 (count_h ops)
unfolding amplitude
apart_differs word image bits ops s sums paths n k sum asked r len same_sums same_bits few ends is all other e =
    let h : ℕ = count_h ops in
    let m : ℕ = length paths in
    let v : Cyclotomic = value_of s [] image image in
    let whole : v ≡ over_all sums s.phases image bits = ap₂ (λ l z. over_all l s.phases image z) (sym same_sums) (sym same_bits) in
    let one : rooted (s.scale + h) unity ≡ rooted spare v =
    sym (rooted_more s.scale h unity) ∙ ap (rooted s.scale) (sym (rooted_power h) ∙ sym e) ∙ r.stands image image len in
    let twice : rooted (2 * m) v ≡ rooted 128 (amount sum) =
    rooted_doubled m v ∙ ap (doubled m) whole ∙ ends image ∙ sym (rooted_doubled 64 (amount sum)) in
    let left : rooted (spare + 128) (rooted k unity) ≡ rooted (spare + 128) (amount sum) =
    rooted_more (spare + 128) k unity
    ∙ ap (λ d. rooted d unity) (let d : spare + 128 + k ≡ 2 * m + (s.scale + h) = omega (arith, all, few) in d)
    ∙ sym (rooted_more (2 * m) (s.scale + h) unity) ∙ ap (rooted (2 * m)) one ∙ rooted_more (2 * m) spare v
    ∙ ap (λ d. rooted d v) (let d : 2 * m + spare ≡ spare + 2 * m = omega arith in d) ∙ sym (rooted_more spare (2 * m) v)
    ∙ ap (rooted spare) twice ∙ rooted_more spare 128 (amount sum) in
    other (sym (rooted_cancels (spare + 128) (rooted k unity) (amount sum) left) ∙ sym (rooted_power k) ∙ sym is)

-- ---- sums that are a bit

empty_list : (l : List Product) → length l ≡ 0 → l ≡ []
empty_list [] e = refl
empty_list (p ∷ l) e = absurd (omega arith)

pub nought_bit : (sum : Sum) (products : List Product) (x v : Word) → products ≡ sum.products.items → length products ≡ 0 → odd sum x v ≡ false
nought_bit sum products x v is none =
    ap (λ l. parity l x v) (sym is ∙ empty_list products none)

differ_not : (b : Bool) → b ≡ not b → ⊥
differ_not b e = grind arith

-- a line whose bit isn't that of the image
pub line_differs : (sums : List Sum) (line at : ℕ) (sum : Sum) (image : Word) → line < length sums → at ≡ line → sum ≡ get_or sums at sum
    → ((x v : Word) → odd sum x v ≡ not (bit image line)) → (x v : Word) → word_at sums x v ≢ image
line_differs sums line at sum image lt same is bits x v e =
    differ_not (bit image line) (sym (ap (λ w. bit w line) e) ∙ bit-word_at_as sums line at sum x v lt same is ∙ bits x v)

pub same_bit : (a b o one : Bool) → o ≡ xor a one → one ≡ b → o ≡ false → a ≡ b
same_bit a b o one e f g = grind arith

-- the bits of a word, one more
pub bits_more : (bits bits2 image : Word) (line : ℕ) (b : Bool) → line < length image → bits2 ≡ bits ++ b ∷ [] → b ≡ bit image line
    → bits ≡ take line image → bits2 ≡ take (line + 1) image
bits_more bits bits2 image line b lt more is before =
    more ∙ ap₂ (λ l c. l ++ c ∷ []) before is ∙ sym (take_more image line false lt)

pub bits_all : (bits image : Word) (line : ℕ) → length image ≤ line → bits ≡ take line image → bits ≡ image
bits_all bits image line le before = before ∙ take_whole image line le

-- an amplitude that isn't a permutation's breaks
pub breaks_at : (c : Cascade) (net : Network) (lines number : ℕ) (word image : Word) (ops : List Op) → lines ≡ net.lines
    → number < 2 ^ lines → word ≡ word_of lines number → image ≡ run c.gates word → ops ≡ net.ops
    → amplitude ops word image ≢ power root2 (count_h ops) → (number < 2 ^ net.lines) × Breaks c.gates net number
breaks_at c net lines number word image ops el lt ew ei eo differs =
    let w : Word = word_of net.lines number in
    let same : word ≡ w = ew ∙ ap (λ n. word_of n number) el in
    let y : Word = run c.gates w in
    let at : image ≡ y = ei ∙ ap (run c.gates) same in (
      subst (λ (n : ℕ). number < 2 ^ n) el lt,
      (
        y,
        length-run c.gates w ∙ length-word_of net.lines number,
        λ e.
            differs (ap₂ (λ l x. amplitude l x image) eo same ∙ ap (amplitude net.ops w) at ∙ e
            ∙ ap (λ b. cond b (power root2 (count_h net.ops)) nought) (same_word-same y) ∙ ap (λ l. power root2 (count_h l)) (sym eo)),
      ),
    )

-- from a word that holds the constants
pub found_at : (marks : List Mark) (c : Cascade) (net : Network) (lines number : ℕ) (word image : Word) (ops : List Op) → lines ≡ net.lines
    → number < 2 ^ lines → word ≡ word_of lines number → image ≡ run c.gates word → ops ≡ net.ops → HasConstants marks word
    → amplitude ops word image ≢ power root2 (count_h ops) → DiffersFrom marks c net number
found_at marks c net lines number word image ops el lt ew ei eo constants differs =
    let right : (number < 2 ^ net.lines) × Breaks c.gates net number = breaks_at c net lines number word image ops el lt ew ei eo differs in
    (right.0, subst (HasConstants marks) (ew ∙ ap (λ n. word_of n number) el) constants, right.1)
