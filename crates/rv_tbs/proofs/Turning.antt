-- Rows of flips that are due, and the turning of one word into another.
use Rattle.std.proofs.Common.{◌≡◌, ◌≢◌, ℕ, zero, suc, ◌+◌, ◌<◌, ◌≤◌, Bool, true, false, not, cond, ◌&&◌, eqb, List, [], ◌∷◌, ◌++◌, length, set, refl, sym, ◌∙◌, ap, subst, inl, inr, arith, length-append, get_or-set_same}
use Rattle.std.proofs.lemmas.Bool.{cases_eq, cases_Bool, cond-true, cond-false, or_cases, eqb-true, and_parts, false_from_ne_true, not-true, false≢true}
use Rattle.rv_gate.specs.Word.{has, bit_of, number_of, ones_of}
use Rattle.rv_gate.specs.declared.word.TheConstants.{MOST_LINES}
use Rattle.rv_gate.specs.Gate.{holds, flip, act, run, FitsIn, IsFlipOn}
use Rattle.rv_gate.specs.declared.gate.Shape.{Shape}
use Rattle.rv_gate.specs.declared.gate.Shape.TheVariants.{Flip}
use Rattle.rv_gate.proofs.inside.GateLemmas.{holds_Decides, length-run, run-append, holds_none}
use Rattle.rv_tbs.specs.Synthesis.{due_flips, is_set_due, set_controls, is_clear_due, clear_controls, set_flips, clear_flips, turning}
use Rattle.rv_gate.proofs.LineSets.{has-none}
use Rattle.rv_gate.proofs.inside.Ones.{has-ones_of}
use Rattle.rv_tbs.proofs.Ones.{Within, number_of-mono, one_within, bit_of-flip_same, bit_of-flip_other, length-flip, same_words}
use Rattle.rv_gate.specs.Every.{Every}
use Rattle.rv_gate.proofs.Every.{every_append}

-- a flip under c of the line of w, which leaves the words below k alone
pub record Sound (n k c line : ℕ) (w : List Bool) : Type 0 where
  pub held : holds c c w ≡ true
  pub spared : (x : List Bool) → length x ≡ n → number_of x < k → holds c c x ≡ false

-- each gate is a flip that fits
abbrev pub Flips : ℕ → List Shape → Type 0
Flips n gates = Every (IsFlipOn n) gates

-- how many of the m lines from `line` on pass
abbrev pub count : (ℕ → Bool) → ℕ → ℕ → ℕ
count p line zero = 0
count p line (suc m) = cond (p line) 1 0 + count p (line + 1) m

one_of : (b : Bool) → cond b 1 0 + cond (not b) 1 0 ≡ 1
one_of b = grind arith

pub count-not : (p : ℕ → Bool) (line m : ℕ) → count p line m + count (λ i. not (p i)) line m ≡ m
count-not p line zero = refl
count-not p line (suc m) = let r = count-not p (line + 1) m in let o = one_of (p line) in omega arith

-- what each flip of a row keeps
pub record Rule (n k : ℕ) (inv : List Bool → Type 0) (due : ℕ → Bool → Bool) (care : List Bool → ℕ → ℕ) (p : ℕ → Bool) : Type 0 where
  pub sound : (w : List Bool) (line : ℕ) → length w ≡ n → line < n → inv w → due line (bit_of w line) ≡ true → Sound n k (care w line) line w
  pub keeps : (w : List Bool) (line : ℕ) → length w ≡ n → line < n → inv w → due line (bit_of w line) ≡ true → inv (flip w line)
  pub counted : (line : ℕ) (b : Bool) → due line b ≡ true → p line ≡ true

-- what a row of flips does
pub record Turned (n k line m : ℕ) (inv : List Bool → Type 0) (due : ℕ → Bool → Bool) (p : ℕ → Bool) (w : List Bool) (gates : List Shape) : Type 0 where
  pub few : length gates ≤ count p line m
  pub kept : inv (run gates w)
  pub before : (i : ℕ) → i < line → bit_of (run gates w) i ≡ bit_of w i
  pub changed : (i : ℕ) → line ≤ i → i < line + m → bit_of (run gates w) i ≡ cond (due i (bit_of w i)) (not (bit_of w i)) (bit_of w i)
  pub spared : (x : List Bool) → length x ≡ n → number_of x < k → run gates x ≡ x

fits_of : (n c line : ℕ) → line < n → ((i : ℕ) → has c i ≡ true → i < n) → FitsIn (Flip c c line) n
fits_of n c line lt inside i on =
    elim (or_cases (has c i) (eqb i line) on) [
      | inl control ↦ inside i control
      | inr target ↦ let e : i ≡ line = eqb-true i line target in omega arith
    ]

turned_on : (n k line m : ℕ) (inv : List Bool → Type 0) (due : ℕ → Bool → Bool) (p : ℕ → Bool) (w : List Bool) (c : ℕ) (gates : List Shape)
    → line + suc m ≡ n → length w ≡ n → Sound n k c line w → due line (bit_of w line) ≡ true → p line ≡ true
    → Turned n k (line + 1) m inv due p (flip w line) gates → Turned n k line (suc m) inv due p w (Flip c c line ∷ gates)
turned_on n k line m inv due p w c gates e len s on counted t =
    let first : act (Flip c c line) w ≡ flip w line = cond-true (holds c c w) _ _ s.held in
    let after : run gates (act (Flip c c line) w) ≡ run gates (flip w line) = ap (run gates) first in
    let lt : line < length w = omega arith in
    record {
      few = let one : cond {A = ℕ} (p line) 1 0 ≡ 1 = ap (λ b. cond b 1 0) counted in omega (arith, t.few);
      kept = subst inv (sym after) t.kept;
      before = λ i h.
          let ne : i ≢ line = omega arith in
          ap (λ v. bit_of v i) after ∙ t.before i (omega arith) ∙ bit_of-flip_other w line i ne;
      changed = λ i lo hi.
          ap (λ v. bit_of v i) after
          ∙ (elim (cases_eq i line) as (λ _. bit_of (run gates (flip w line)) i ≡ cond (due i (bit_of w i)) (not (bit_of w i)) (bit_of w i)) [
            | inl at ↦
                rw at (t.before line (omega arith) ∙ bit_of-flip_same w line lt ∙ sym (cond-true (due line (bit_of w line)) _ _ on))
            | inr other ↦
                t.changed i (omega arith) (omega arith) ∙ ap (λ b. cond (due i b) (not b) b) (bit_of-flip_other w line i other)
          ]);
      spared = λ x xl xk.
          ap (run gates) (cond-false (holds c c x) _ _ (s.spared x xl xk)) ∙ t.spared x xl xk;
    }

turned_off : (n k line m : ℕ) (inv : List Bool → Type 0) (due : ℕ → Bool → Bool) (p : ℕ → Bool) (w : List Bool) (gates : List Shape)
    → due line (bit_of w line) ≡ false
    → Turned n k (line + 1) m inv due p w gates → Turned n k line (suc m) inv due p w gates
turned_off n k line m inv due p w gates off t =
    record {
      few = omega (arith, t.few);
      kept = t.kept;
      before = λ i h. t.before i (omega arith);
      changed = λ i lo hi.
          elim (cases_eq i line) as (λ _. bit_of (run gates w) i ≡ cond (due i (bit_of w i)) (not (bit_of w i)) (bit_of w i)) [
            | inl at ↦ rw at (t.before line (omega arith) ∙ sym (cond-false (due line (bit_of w line)) _ _ off))
            | inr other ↦ t.changed i (omega arith) (omega arith)
          ];
      spared = t.spared;
    }

pub steps_turn : (n k : ℕ) (inv : List Bool → Type 0) (due : ℕ → Bool → Bool) (care : List Bool → ℕ → ℕ) (p : ℕ → Bool)
    → Rule n k inv due care p → (m line : ℕ) (w : List Bool) → line + m ≡ n → length w ≡ n → inv w
    → Turned n k line m inv due p w (due_flips due care line m w)
unfolding due_flips
steps_turn n k inv due care p rule zero line w e len i =
    record {
      few = omega arith;
      kept = i;
      before = λ j h. refl;
      changed = λ j lo hi. absurd (omega arith);
      spared = λ x xl xk. refl;
    }
steps_turn n k inv due care p rule (suc m) line w e len i =
    let P : List Shape → Type 0 = λ gates. Turned n k line (suc m) inv due p w gates in
    let lt : line < n = omega arith in
    elim (cases_Bool (due line (bit_of w line))) [
      | inl on ↦
          subst P (sym (cond-true (due line (bit_of w line)) _ _ on))
          (turned_on n k line m inv due p w (care w line) _ e len (rule.sound w line len lt i on) on (rule.counted line _ on)
          (steps_turn n k inv due care p rule m (line + 1) (flip w line) (omega arith) (length-flip w line ∙ len) (rule.keeps w line len lt i on)))
      | inr off ↦
          subst P (sym (cond-false (due line (bit_of w line)) _ _ off))
          (turned_off n k line m inv due p w _ off (steps_turn n k inv due care p rule m (line + 1) w (omega arith) len i))
    ]

-- ---- the two rows

-- a word under whose ones nothing below k is moved
spares : (u : List Bool) (n k : ℕ) → length u ≡ n → k ≤ number_of u → (x : List Bool) → length x ≡ n → number_of x < k → holds (ones_of u) (ones_of u) x ≡ false
spares u n k len le x xl xk =
    grind (arith, false_from_ne_true, ones_of, holds_Decides, has-ones_of, one_within, number_of-mono)

-- each one of u is a one of w
pub holds_within : (u w : List Bool) → Within u w → holds (ones_of u) (ones_of u) w ≡ true
holds_within u w h =
    (holds_Decides (ones_of u) (ones_of u) w).1 (λ i lt on. h i (sym (has-ones_of u i) ∙ on) ∙ sym on)

within_flip : (w : List Bool) (line : ℕ) → bit_of w line ≡ false → Within w (flip w line)
within_flip w line off i on =
    let ne : i ≢ line = λ e. false≢true (sym off ∙ ap (bit_of w) (sym e) ∙ on) in
    bit_of-flip_other w line i ne ∙ on

set_rule : (goal : List Bool) (n k : ℕ) → Rule n k (λ w. k ≤ number_of w) (is_set_due goal) set_controls (bit_of goal)
set_rule goal n k =
    grind (
      arith,
      bit_of,
      not-true,
      and_parts,
      has-ones_of,
      one_within,
      holds_within,
      spares,
      number_of-mono,
      length-flip,
      within_flip,
    )

-- the controls of a clearing flip: all ones of the word after it, or none for the goal 0
care_cases : (goal w : List Bool) (line : ℕ) (P : ℕ → Type 0) → (number_of goal ≡ 0 → P 0) → P (ones_of (flip w line)) → P (clear_controls goal w line)
care_cases goal w line P none some =
    elim (cases_Bool (eqb (number_of goal) 0)) [
      | inl nil ↦ subst P (sym (cond-true (eqb (number_of goal) 0) _ _ nil)) (none (eqb-true _ 0 nil))
      | inr other ↦ subst P (sym (cond-false (eqb (number_of goal) 0) _ _ other)) some
    ]

clear_rule : (goal : List Bool) (n : ℕ) → length goal ≡ n
    → Rule n (number_of goal) (Within goal) (is_clear_due goal) (clear_controls goal) (λ i. not (bit_of goal i))
clear_rule goal n glen =
    let stays : (w : List Bool) (line : ℕ) → Within goal w → bit_of goal line ≡ false → Within goal (flip w line) = λ w line i off j on.
    let ne : j ≢ line = λ e. false≢true (sym off ∙ ap (bit_of goal) (sym e) ∙ on) in
    bit_of-flip_other w line j ne ∙ i j on in
    record {
      sound = λ w line len lt i due.
          let one : bit_of w line ≡ true = (and_parts (bit_of w line) _ due).0 in
          let off : bit_of goal line ≡ false = not-true _ (and_parts (bit_of w line) _ due).1 in
          let u : List Bool = flip w line in
          let ulen : length u ≡ n = length-flip w line ∙ len in
          let gone : bit_of u line ≡ false = bit_of-flip_same w line (omega arith) ∙ ap not one in
          care_cases goal w line (λ c. Sound n (number_of goal) c line w)
          (λ z. record { held = holds_none w; spared = λ x xl xk. absurd (omega arith) })
          (record {
            held = holds_within u w (λ j on.
                let ne : j ≢ line = λ e. false≢true (sym gone ∙ ap (bit_of u) (sym e) ∙ on) in
                sym (bit_of-flip_other w line j ne) ∙ on);
            spared = spares u n (number_of goal) ulen (number_of-mono goal u (glen ∙ sym ulen) (stays w line i off));
          });
      keeps = λ w line len lt i due.
          stays w line i (not-true _ (and_parts (bit_of w line) _ due).1);
      counted = λ line b due. (and_parts b _ due).1;
    }

-- ---- the turning

-- gates that turn a word into the goal, and leave the words below the goal alone
pub record Turns (goal w : List Bool) (gates : List Shape) : Type 0 where
  pub few : length gates ≤ length goal
  pub reached : run gates w ≡ goal
  pub spared : (x : List Bool) → length x ≡ length goal → number_of x < number_of goal → run gates x ≡ x

-- flips whose controls are lines of the word, and never the one that is flipped, are gates on its lines
flips_due : (n : ℕ) (due : ℕ → Bool → Bool) (care : List Bool → ℕ → ℕ) → n ≤ MOST_LINES
    → ((w : List Bool) (line : ℕ) → length w ≡ n → line < n → due line (bit_of w line) ≡ true → (has (care w line) line ≡ false) × ((i : ℕ) → has (care w line) i ≡ true → i < n))
    → (m line : ℕ) (w : List Bool) → line + m ≡ n → length w ≡ n → Flips n (due_flips due care line m w)
unfolding due_flips
flips_due n due care small right zero line w e len = tt
flips_due n due care small right (suc m) line w e len =
    elim (cases_Bool (due line (bit_of w line))) [
      | inl on ↦
          let r = right w line len (omega arith) on in
          rw on (
            (refl, (omega arith, r.0, λ i h. h), fits_of n (care w line) line (omega arith) r.1),
            flips_due n due care small right m (line + 1) (flip w line) (omega arith) (length-flip w line ∙ len),
          )
      | inr off ↦ rw off (flips_due n due care small right m (line + 1) w (omega arith) len)
    ]

pub turning_flips : (goal w : List Bool) → length goal ≤ MOST_LINES → length w ≡ length goal → Flips (length goal) (turning goal w)
unfolding turning set_flips clear_flips
turning_flips goal w small len =
    let n : ℕ = length goal in
    let a : List Shape = due_flips (is_set_due goal) set_controls 0 n w in
    every_append (IsFlipOn n) a _
    (flips_due n (is_set_due goal) set_controls small
    (λ v line l lt due. (
      has-ones_of v line ∙ not-true _ (and_parts (bit_of goal line) _ due).1,
      λ i on. omega (arith, l, one_within v i (sym (has-ones_of v i) ∙ on)),
    )) n 0 w (omega arith) len)
    (flips_due n (is_clear_due goal) (clear_controls goal) small
    (λ v line l lt due.
    let u : List Bool = flip v line in
    let ul : length u ≡ n = length-flip v line ∙ l in
    care_cases goal v line (λ c. (has c line ≡ false) × ((i : ℕ) → has c i ≡ true → i < n))
    (λ z. (has-none line, λ i on. absurd (false≢true (sym (has-none i) ∙ on)))) (
      has-ones_of u line ∙ bit_of-flip_same v line (omega arith) ∙ ap not (and_parts (bit_of v line) _ due).0,
      λ i on. omega (arith, ul, one_within u i (sym (has-ones_of u i) ∙ on)),
    )) n 0 (run a w) (omega arith) (length-run a w ∙ len))

set_bit : (g b : Bool) → g ≡ true → cond (g && not b) (not b) b ≡ true
set_bit g b h = grind arith

clear_bit : (g b : Bool) → (g ≡ true → b ≡ true) → cond (b && not g) (not b) b ≡ g
clear_bit g b h = grind arith

pub turn_turns : (goal w : List Bool) → length w ≡ length goal → number_of goal ≤ number_of w → Turns goal w (turning goal w)
unfolding turning set_flips clear_flips
turn_turns goal w len le =
    let n : ℕ = length goal in
    let s = steps_turn n (number_of goal) (λ v. number_of goal ≤ number_of v) (is_set_due goal) set_controls (bit_of goal)
    (set_rule goal n (number_of goal)) n 0 w (omega arith) len le in
    let a : List Shape = due_flips (is_set_due goal) set_controls 0 n w in
    let v : List Bool = run a w in
    let vlen : length v ≡ n = length-run a w ∙ len in
    let within : Within goal v = λ i on.
    s.changed i (omega arith) (omega (arith, one_within goal i on)) ∙ set_bit (bit_of goal i) (bit_of w i) on in
    let t = steps_turn n (number_of goal) (Within goal) (is_clear_due goal) (clear_controls goal) (λ i. not (bit_of goal i))
    (clear_rule goal n refl) n 0 v (omega arith) vlen within in
    let b : List Shape = due_flips (is_clear_due goal) (clear_controls goal) 0 n v in
    let both = count-not (bit_of goal) 0 n in
    record {
      few = omega (arith, s.few, t.few, length-append a b);
      reached = run-append a b w
          ∙ same_words (run b v) goal (length-run b v ∙ vlen)
          (λ i h. t.changed i (omega arith) (omega (arith, length-run b v)) ∙ clear_bit (bit_of goal i) (bit_of v i) (within i));
      spared = λ x xl xk. run-append a b x ∙ ap (run b) (s.spared x xl xk) ∙ t.spared x xl xk;
    }

-- a clearing flip holds and is free of its line
pub clear_held : (goal w : List Bool) (line : ℕ) → line < length w → bit_of w line ≡ true → holds (clear_controls goal w line) (clear_controls goal w line) w ≡ true
clear_held goal w line lt on =
    grind (arith, bit_of, bit_of-flip_same, care_cases, holds_none, holds_within, bit_of-flip_other)

pub clear_free : (goal w : List Bool) (line c : ℕ) (v : List Bool) → line < length w → v ≡ set w line false → c ≡ cond (eqb (number_of goal) 0) 0 (ones_of v) → has c line ≡ false
clear_free goal w line c v lt ve ce =
    grind (arith, bit_of, get_or-set_same, cases_Bool, number_of, cond-true, ones_of, has-none, cond-false, has-ones_of)
