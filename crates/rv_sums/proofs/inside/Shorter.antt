-- H, and the rules by which a sum over paths becomes shorter.
use Rattle.std.proofs.Common.{◌≡◌, ◌≢◌, ℕ, ◌+◌, ◌%◌, ◌<◌, ◌&&◌, Bool, true, false, cond, [], ◌∷◌, length, get_or, set, refl, sym, ap, ap₂, ◌∙◌, arith}
use Rattle.std.proofs.lemmas.List.{set-set, set-get_or}
use Rattle.rv_gate.specs.Gate.{xor}
use Rattle.rv_gate.proofs.Bits.{xor_around}
use Rattle.rv_net.specs.Cyclotomic.{Cyclotomic, plus, root2, times}
use Rattle.rv_net.specs.declared.op.Op.TheVariants.{H}
use Rattle.rv_net.proofs.Cyclotomic.{halved}
use Rattle.rv_net.proofs.Step.{Word, bit}
use Rattle.rv_terms.specs.Products.{odd, value}
use Rattle.rv_terms.specs.Phases.{power}
use Rattle.rv_terms.specs.declared.phases.Phases.{Phases}
use Rattle.rv_terms.specs.declared.product.Product.{Product}
use Rattle.rv_terms.specs.declared.sum.Sum.{Sum}
use Rattle.rv_sums.specs.inside.Paths.{over_paths, rooted}
use Rattle.rv_sums.specs.inside.State.{ArePut, Brings, EndsLack, IsFree, Leads, spare, value_of, word_at}
use Rattle.rv_sums.specs.declared.path_sum.PathSum.{PathSum}
use Rattle.rv_sums.proofs.Paths.{h_taken, half_turned, joined}
use Rattle.rv_sums.proofs.Turns.{root2_cancels, rooted_once, rooted_plus, rooted_root, rooted_twice}
use Rattle.rv_sums.proofs.inside.States.{bit-word_at_as, word_at-set}

twice_mod : (n : ℕ) → n % 8 % 8 ≡ n % 8
twice_mod n = omega arith

-- ---- H

pub h_leads : (line y at : ℕ) (here turned sum : Sum) (product : Product) (old new : PathSum) → line < length old.sums.items → at ≡ line
    → here ≡ get_or old.sums.items at here → IsFree old y
    → ((x v : Word) → value product x v ≡ bit v y)
    → ((x v : Word) → odd turned x v ≡ (value product x v && odd here x v))
    → ((x v : Word) → odd sum x v ≡ value product x v)
    → new.sums.items ≡ set old.sums.items at sum → length new.sums.items ≡ length old.sums.items
    → ((x v : Word) → power new.phases x v ≡ (power old.phases x v + cond (odd turned x v) 4 0) % 8)
    → old.scale ≡ new.scale + 2 → Leads (H line ∷ []) old new
h_leads line y at here turned sum product old new lt same is free is_bit is_turned is_sum now count phases scale = record {
  lines = count;
  stands = λ rest x z whole len stands.
      let next : Cyclotomic = value_of new rest x z in
      let taken : value_of old (H line ∷ rest) x z ≡ plus next next =
      h_taken line y rest z (power old.phases x) (power new.phases x) (word_at old.sums.items x) (word_at new.sums.items x) free.below
      (λ v b e. free.phases x v b) (λ v b e. free.ends x v b)
      (λ v e.
      ap (λ l. word_at l x v) now ∙ word_at-set old.sums.items at sum x v
      ∙ ap₂ (set (word_at old.sums.items x v)) same (is_sum x v ∙ is_bit x v))
      (λ v e.
      ap (λ n. n % 8) (phases x v) ∙ twice_mod (power old.phases x v + cond (odd turned x v) 4 0)
      ∙ ap (λ t. (power old.phases x v + cond t 4 0) % 8)
      (is_turned x v ∙ ap₂ (λ p q. p && q) (is_bit x v) (sym (bit-word_at_as old.sums.items line at here x v lt same is)))) in
      halved _ _ (sym (rooted_twice new.scale old.scale whole scale) ∙ stands ∙ ap (rooted spare) taken ∙ rooted_plus spare next);
}

-- ---- what a path bit brings

with_bit : (y : ℕ) (part : Word → Word → ℕ) (phases : Phases) (x v : Word) (b : Bool) → y < length v → Brings y part phases
    → power phases x (set v y b) % 8 ≡ (power phases x (set v y false) + cond b (part x v) 0) % 8
with_bit y part phases x v true lt brings = ap (λ n. n % 8) (brings x v lt) ∙ twice_mod (power phases x (set v y false) + part x v)
with_bit y part phases x v false lt brings = ap (λ n. n % 8) (let e : power phases x (set v y false) ≡ power phases x (set v y false) + 0 = omega arith in e)

by_bit : (y : ℕ) (part : Word → Word → ℕ) (phases : Phases) (x v : Word) → y < length v → Brings y part phases
    → power phases x v % 8 ≡ (power phases x (set v y false) + cond (bit v y) (part x v) 0) % 8
by_bit y part phases x v lt brings =
    ap (λ w. power phases x w % 8) (sym (set-get_or v y false)) ∙ with_bit y part phases x v (bit v y) lt brings

abbrev pub turn : Bool → ℕ
turn s = cond s 4 0

and_sign : (b s : Bool) → cond b (turn s) 0 ≡ turn (b && s)
and_sign true s = refl
and_sign false s = refl

pub join_leads : (y p : ℕ) (signs rest : Sum) (old new : PathSum) → y < 64 → p < 64 → y ≢ p → EndsLack y old.sums.items
    → Brings y (λ x v. cond (odd signs x v) 4 0) old.phases
    → ((x v : Word) → odd rest x v ≡ xor (odd signs x v) (bit v p))
    → ((x v : Word) (b : Bool) → odd rest x (set v y b) ≡ odd rest x v)
    → ((x v : Word) (b : Bool) → odd rest x (set v p b) ≡ odd rest x v)
    → ArePut p rest old.sums.items new.sums.items
    → ((x v : Word) → length v ≡ 64 → power new.phases x v ≡ power old.phases x (set (set v p (odd rest x v)) y false))
    → new.scale ≡ old.scale + 2 → Leads [] old new
join_leads y p signs rest old new ly lp apart ends brings is free other put phases scale = record {
  lines = put.lines;
  stands = λ ops x z whole len stands.
      let now : Cyclotomic = value_of old ops x z in
      let taken : plus now now ≡ value_of new ops x z =
      joined y p ops z (power old.phases x) (λ v. power old.phases x (set v y false)) (power new.phases x)
      (word_at old.sums.items x) (word_at new.sums.items x) (λ v. odd rest x v) ly lp apart
      (λ v b e. ap (power old.phases x) (set-set v y b false)) (λ v b e. ends x v b) (λ v b e. free x v b) (λ v b e. other x v b)
      (λ v e.
      by_bit y (λ x2 v2. cond (odd signs x2 v2) 4 0) old.phases x v (omega arith) brings
      ∙ ap (λ n. (power old.phases x (set v y false) + n) % 8)
      (and_sign (bit v y) (odd signs x v)
      ∙ ap (λ s. cond (bit v y && s) 4 0) (sym (ap (xor (bit v p)) (is x v) ∙ xor_around (bit v p) (odd signs x v)))))
      (λ v e. ap (λ n. n % 8) (phases x v e))
      (λ v e. put.ends x v (omega arith)) in
      rooted_twice old.scale new.scale whole scale ∙ ap₂ plus stands stands ∙ sym (rooted_plus spare now) ∙ ap (rooted spare) taken;
}

pub half_leads : (y : ℕ) (signs : Sum) (old new : PathSum) → y < 64 → EndsLack y old.sums.items
    → Brings y (λ x v. cond (odd signs x v) 6 2) old.phases
    → ((x v : Word) (b : Bool) → odd signs x (set v y b) ≡ odd signs x v)
    → new.sums ≡ old.sums
    → ((x v : Word) → length v ≡ 64 → power new.phases x v % 8 ≡ (power old.phases x (set v y false) + cond (odd signs x v) 7 1) % 8)
    → new.scale ≡ old.scale + 1 → Leads [] old new
half_leads y signs old new ly ends brings free sums phases scale = record {
  lines = ap (λ s. length s.items) sums;
  stands = λ ops x z whole len stands.
      let now : Cyclotomic = value_of old ops x z in
      let next : Cyclotomic = over_paths (power new.phases x) (word_at old.sums.items x) ops z in
      let taken : plus now now ≡ times root2 next =
      half_turned y ops z (power old.phases x) (λ v. power old.phases x (set v y false)) (power new.phases x)
      (word_at old.sums.items x) (λ v. odd signs x v) ly
      (λ v b e. ap (power old.phases x) (set-set v y b false)) (λ v b e. ends x v b) (λ v b e. free x v b)
      (λ v e. by_bit y (λ x2 v2. cond (odd signs x2 v2) 6 2) old.phases x v (omega arith) brings)
      (λ v e. phases x v e) in
      let twice : times root2 (times root2 (rooted old.scale whole)) ≡ times root2 (rooted spare next) =
      sym (rooted_once (old.scale + 1) (old.scale + 2) whole (omega arith) ∙ ap (times root2) (rooted_once old.scale (old.scale + 1) whole refl))
      ∙ rooted_twice old.scale (old.scale + 2) whole refl ∙ ap₂ plus stands stands ∙ sym (rooted_plus spare now)
      ∙ ap (rooted spare) taken ∙ rooted_root spare next in
      rooted_once old.scale new.scale whole scale ∙ root2_cancels _ _ twice
      ∙ ap (λ s. rooted spare (over_paths (power new.phases x) (word_at s.items x) ops z)) (sym sums);
}

-- 1 and the signs' 6
abbrev pub half : Bool → ℕ
half s = cond s 6 2

pub one_and_six : (p q : ℕ) (b : Bool) → q ≡ ((p + 1) % 8 + cond b 6 0) % 8 → q % 8 ≡ (p + cond b 7 1) % 8
one_and_six p q true e = omega arith
one_and_six p q false e = omega arith

-- 6 more than a part
pub six_more : (p q : ℕ) (s : Bool) → q ≡ (p + 6) % 8 → q ≡ turn s → p % 8 ≡ half s
six_more p q true e f = omega arith
six_more p q false e f = omega arith

pub half_phases : (y : ℕ) (none signs : Sum) (one : Product) (old first second third : Phases) (x v : Word)
    → odd none x v ≡ false → value one x v ≡ true
    → power first x v ≡ power old x (set v y (odd none x v))
    → power second x v ≡ (power first x v + cond (value one x v) 1 0) % 8
    → power third x v ≡ (power second x v + cond (odd signs x v) 6 0) % 8
    → power third x v % 8 ≡ (power old x (set v y false) + cond (odd signs x v) 7 1) % 8
half_phases y none signs one old first second third x v is_none is_one e1 e2 e3 =
    one_and_six (power old x (set v y false)) (power third x v) (odd signs x v)
    (e3 ∙ ap (λ n. (n + cond (odd signs x v) 6 0) % 8)
    (e2 ∙ ap₂ (λ n b. (n + cond b 1 0) % 8) (e1 ∙ ap (λ b. power old x (set v y b)) is_none) is_one))

added_mod : (p q r : ℕ) → q % 8 ≡ r → (p + q) % 8 ≡ (p + r) % 8
added_mod p q r e = omega arith

-- what is brought is the turn of signs
pub brings_signs : (y : ℕ) (signs : Sum) (part phases : Phases) → Brings y (λ x v. power part x v) phases
    → ((x v : Word) → power part x v ≡ cond (odd signs x v) 4 0) → Brings y (λ x v. cond (odd signs x v) 4 0) phases
brings_signs y signs part phases brings is x v lt = brings x v lt ∙ ap (λ n. (power phases x (set v y false) + n) % 8) (is x v)

pub brings_half : (y : ℕ) (signs : Sum) (one : Product) (part more phases : Phases) → Brings y (λ x v. power part x v) phases
    → ((x v : Word) → value one x v ≡ true) → ((x v : Word) → power more x v ≡ (power part x v + cond (value one x v) 6 0) % 8)
    → ((x v : Word) → power more x v ≡ cond (odd signs x v) 4 0) → Brings y (λ x v. cond (odd signs x v) 6 2) phases
brings_half y signs one part more phases brings is_one is_more is x v lt =
    brings x v lt
    ∙ added_mod (power phases x (set v y false)) (power part x v) (half (odd signs x v))
    (six_more (power part x v) (power more x v) (odd signs x v) (is_more x v ∙ ap (λ b. (power part x v + cond b 6 0) % 8) (is_one x v)) (is x v))

-- ---- rules, one after another

pub leads_none : (s : PathSum) → Leads [] s s
leads_none s = record { lines = refl; stands = λ rest x z whole len stands. stands }

pub leads_then : (s t u : PathSum) → Leads [] s t → Leads [] t u → Leads [] s u
leads_then s t u first second = record {
  lines = second.lines ∙ first.lines;
  stands = λ rest x z whole len stands. second.stands rest x z whole (len ∙ sym first.lines) (first.stands rest x z whole len stands);
}
