-- The built-in templates are identities.
use Rattle.std.proofs.Common.{◌&&◌, lit<, lit≤, inl, inr, ◌≡◌, ℕ, zero, suc, ◌<◌, Bool, true, false, eqb, List, [], ◌∷◌, length, refl, arith}
use Rattle.std.proofs.lemmas.Bool.{and_parts, or_cases, cases_lt, eqb-true}
use Rattle.std.proofs.lemmas.Nat.Bits.{bit_at_above}
use Rattle.std.specs.Int.{bit_at}
use Rattle.rv_templ.specs.Gates.{Identity}
use Rattle.rv_gate.specs.Word.{has}
use Rattle.rv_gate.specs.Gate.{run, holds, IsGate, FitsIn, same_word}
use Rattle.rv_gate.specs.declared.gate.Shape.{Shape}
use Rattle.rv_gate.specs.declared.gate.Shape.TheVariants.{Flip}
use Rattle.rv_templ.specs.Templates.{IsTemplate, AreTemplates}
use Rattle.rv_templ.specs.BuiltIn.{crossed, exchanges, built_in}
use Rattle.rv_gate.proofs.Words.{same_word-is}

-- every word of n lines that begins so passes
abbrev each_word : ℕ → (List Bool → Bool) → Bool
each_word zero p = p []
each_word (suc n) p = each_word n (λ w. p (true ∷ w)) && each_word n (λ w. p (false ∷ w))

-- the gates change no word of n lines
abbrev is_identity : ℕ → List Shape → Bool
is_identity n gates = each_word n (λ w. same_word (run gates w) w)

each_word_at : (n : ℕ) (p : List Bool → Bool) (w : List Bool) → each_word n p ≡ true → length w ≡ n → p w ≡ true
each_word_at zero p [] e len = e
each_word_at zero p (b ∷ w) e len = absurd (omega arith)
each_word_at (suc n) p [] e len = absurd (omega arith)
each_word_at (suc n) p (true ∷ w) e len = each_word_at n (λ v. p (true ∷ v)) w (and_parts (each_word n (λ v. p (true ∷ v))) (each_word n (λ v. p (false ∷ v))) e).0 (omega arith)
each_word_at (suc n) p (false ∷ w) e len = each_word_at n (λ v. p (false ∷ v)) w (and_parts (each_word n (λ v. p (true ∷ v))) (each_word n (λ v. p (false ∷ v))) e).1 (omega arith)

identity_from : (n : ℕ) (gates : List Shape) → is_identity n gates ≡ true → Identity n gates
identity_from n gates e word len = same_word-is (run gates word) word (each_word_at n (λ w. same_word (run gates w) w) word e len)

flip_good : (c t : ℕ) → c < 64 → t < 6 → has c t ≡ false → IsGate (Flip c c t) × FitsIn (Flip c c t) 6
flip_good c t small h free = (
  (omega arith, free, λ line e. e),
  λ line e.
      elim (or_cases (has c line) (eqb line t) e) [
        | inl on ↦
            (elim (cases_lt line 6) [
              | inl lt ↦ lt
              | inr ge ↦ let z = bit_at_above c 6 line small ge in let o = eqb-true (bit_at c line) 1 on in absurd (omega arith)
            ])
        | inr at ↦ let s = eqb-true line t at in omega arith
      ],
)

-- five flips, and six
five : (c1 t1 c2 t2 c3 t3 c4 t4 c5 t5 : ℕ) → c1 < 64 → c2 < 64 → c3 < 64 → c4 < 64 → c5 < 64 → t1 < 6 → t2 < 6 → t3 < 6 → t4 < 6 → t5 < 6
    → has c1 t1 ≡ false → has c2 t2 ≡ false → has c3 t3 ≡ false → has c4 t4 ≡ false → has c5 t5 ≡ false
    → is_identity 6 (Flip c1 c1 t1 ∷ Flip c2 c2 t2 ∷ Flip c3 c3 t3 ∷ Flip c4 c4 t4 ∷ Flip c5 c5 t5 ∷ []) ≡ true
    → IsTemplate (Flip c1 c1 t1 ∷ Flip c2 c2 t2 ∷ Flip c3 c3 t3 ∷ Flip c4 c4 t4 ∷ Flip c5 c5 t5 ∷ [])
five c1 t1 c2 t2 c3 t3 c4 t4 c5 t5 a1 a2 a3 a4 a5 b1 b2 b3 b4 b5 f1 f2 f3 f4 f5 e =
    let g1 = flip_good c1 t1 a1 b1 f1 in
    let g2 = flip_good c2 t2 a2 b2 f2 in
    let g3 = flip_good c3 t3 a3 b3 f3 in
    let g4 = flip_good c4 t4 a4 b4 f4 in
    let g5 = flip_good c5 t5 a5 b5 f5 in
    record {
      few = lit≤ tt;
      flips = (refl, (refl, (refl, (refl, (refl, tt)))));
      good = (g1.0, g1.1, (g2.0, g2.1, (g3.0, g3.1, (g4.0, g4.1, (g5.0, g5.1, tt)))));
      identity = identity_from 6 (Flip c1 c1 t1 ∷ Flip c2 c2 t2 ∷ Flip c3 c3 t3 ∷ Flip c4 c4 t4 ∷ Flip c5 c5 t5 ∷ []) e;
    }

pub crossed_0_0 : IsTemplate (crossed 0 0 0)
unfolding holds
crossed_0_0 = five 0 0 1 1 0 0 1 1 0 1 (lit< tt) (lit< tt) (lit< tt) (lit< tt) (lit< tt) (lit< tt) (lit< tt) (lit< tt) (lit< tt) (lit< tt) refl refl refl refl refl refl

pub crossed_0_1 : IsTemplate (crossed 0 1 1)
unfolding holds
crossed_0_1 = five 0 1 3 2 0 1 3 2 1 2 (lit< tt) (lit< tt) (lit< tt) (lit< tt) (lit< tt) (lit< tt) (lit< tt) (lit< tt) (lit< tt) (lit< tt) refl refl refl refl refl refl

pub crossed_0_2 : IsTemplate (crossed 0 3 2)
unfolding holds
crossed_0_2 = five 0 2 7 3 0 2 7 3 3 3 (lit< tt) (lit< tt) (lit< tt) (lit< tt) (lit< tt) (lit< tt) (lit< tt) (lit< tt) (lit< tt) (lit< tt) refl refl refl refl refl refl

pub crossed_1_0 : IsTemplate (crossed 1 0 1)
unfolding holds
crossed_1_0 = five 1 1 2 2 1 1 2 2 1 2 (lit< tt) (lit< tt) (lit< tt) (lit< tt) (lit< tt) (lit< tt) (lit< tt) (lit< tt) (lit< tt) (lit< tt) refl refl refl refl refl refl

pub crossed_1_1 : IsTemplate (crossed 1 2 2)
unfolding holds
crossed_1_1 = five 1 2 6 3 1 2 6 3 3 3 (lit< tt) (lit< tt) (lit< tt) (lit< tt) (lit< tt) (lit< tt) (lit< tt) (lit< tt) (lit< tt) (lit< tt) refl refl refl refl refl refl

pub crossed_2_0 : IsTemplate (crossed 3 0 2)
unfolding holds
crossed_2_0 = five 3 2 4 3 3 2 4 3 3 3 (lit< tt) (lit< tt) (lit< tt) (lit< tt) (lit< tt) (lit< tt) (lit< tt) (lit< tt) (lit< tt) (lit< tt) refl refl refl refl refl refl

pub exchanges_is : IsTemplate exchanges
unfolding holds
exchanges_is =
    let a = flip_good 1 1 (lit< tt) (lit< tt) refl in
    let b = flip_good 2 0 (lit< tt) (lit< tt) refl in
    record {
      few = lit≤ tt;
      flips = (refl, (refl, (refl, (refl, (refl, (refl, tt))))));
      good = (a.0, a.1, (b.0, b.1, (a.0, a.1, (b.0, b.1, (a.0, a.1, (b.0, b.1, tt))))));
      identity = identity_from 6 exchanges refl;
    }

-- each built-in template is one
pub built_in_are : AreTemplates built_in
built_in_are = (crossed_0_0, (crossed_0_1, (crossed_0_2, (crossed_1_0, (crossed_1_1, (crossed_2_0, (exchanges_is, tt)))))))
