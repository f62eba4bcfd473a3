-- One more gate, one more line.
use Rattle.std.proofs.Common.{◌≡◌, ℕ, suc, Bool, ◌+◌, ◌-◌, ◌<◌, ◌≤◌, List, [], ◌∷◌, ◌++◌, length, take, drop, reverse, get_or, refl, sym, ◌∙◌, ap, inl, arith, append_assoc}
use Rattle.std.proofs.lemmas.List.{take_more, flat_map_more, nil_from_length, reverse-append}
use Rattle.std.proofs.lemmas.List.Sums.{sum_by_push}
use Rattle.std.proofs.Math.Seq.{take-length}
use Rattle.rv_gate.specs.Circuit.{Cascade}
use Rattle.rv_gate.specs.declared.gate.Shape.{Shape}
use Rattle.rv_mct.specs.declared.control.Control.{Control}
use Rattle.rv_mct.specs.Blocks.{positive, both, ladder, down_up, inner, down_up_twice}
use Rattle.std.specs.List.{flat_map, range_with_len, sum_by}
use Rattle.rv_mct.specs.inside.LadderLines.{AreDivided, Grown, IsOn, IsOff, IsRung}
use Rattle.rv_mct.proofs.inside.Ladders.{lower, higher, with_line, off_on}

append_none : {A : Type 0} → (xs : List A) → xs ++ [] ≡ xs
append_none [] = refl
append_none (x ∷ xs) = ap (λ l. x ∷ l) (append_none xs)

-- ---- gates after gates

pub grown_then : (c0 c1 c2 : Cascade) (x y : List Shape) → Grown c0 c1 x → Grown c1 c2 y → Grown c0 c2 (x ++ y)
grown_then c0 c1 c2 x y first second = grind (arith, append_assoc)

pub grown_lines : (c0 c1 : Cascade) (x : List Shape) → Grown c0 c1 x → length c1.names ≡ length c0.names
grown_lines c0 c1 x g = ap (λ (t : Cascade). length t.names) g

pub grown_twice : (c0 c1 c2 : Cascade) (x y w : List Shape) → Grown c0 c1 x → Grown c1 c2 y → x ++ y ≡ w → Grown c0 c2 w
grown_twice c0 c1 c2 x y w f g e = rw (← e) (grown_then c0 c1 c2 x y f g)

pub grown_thrice : (c0 c1 c2 c3 : Cascade) (x y z w : List Shape) → Grown c0 c1 x → Grown c1 c2 y → Grown c2 c3 z → (x ++ y) ++ z ≡ w → Grown c0 c3 w
grown_thrice c0 c1 c2 c3 x y z w f g h e = grown_twice c0 c2 c3 (x ++ y) z w (grown_then c0 c1 c2 x y f g) h e

pub grown_as : (c0 c1 : Cascade) (x w : List Shape) → Grown c0 c1 x → x ≡ w → Grown c0 c1 w
grown_as c0 c1 x w f e = rw (← e) f

-- ---- rungs

rung : (n : ℕ) (on : ℕ → Bool) (a b : Control) (t : ℕ) → IsOn n on a → IsOn n on b → IsOff n on t → IsRung n a b t
rung n on a b t is_a is_b is_t = record {
  first = is_a.0;
  second = is_b.0;
  target = is_t.0;
  not_first = λ e. off_on on a.line t is_a.1 is_t.1 (sym e);
  not_second = λ e. off_on on b.line t is_b.1 is_t.1 (sym e);
}

pub last_rung : (n : ℕ) (a b : Control) (more : List Control) (hs : List ℕ) (t : ℕ) → AreDivided n a b more hs t → IsRung n a b t
last_rung n a b more hs t (on, r) = rung n on a b t r.first r.second r.spots.0

pub rung_few : (n : ℕ) (a b : Control) (t : ℕ) → n ≤ 64 → IsRung n a b t → IsRung 64 a b t
rung_few n a b t few r =
    record { first = omega (arith, r.first); second = omega (arith, r.second); target = omega (arith, r.target); not_first = r.not_first; not_second = r.not_second }

-- the first rung of a ladder, and the others
pub ladder_rung : (n : ℕ) (a b c : Control) (more rest : List Control) (h t : ℕ) → more ≡ c ∷ rest → AreDivided n a b more (range_with_len h (length more)) t
    → IsRung n a b h × AreDivided n (positive h) c rest (range_with_len (h + 1) (length rest)) t
ladder_rung n a b c more rest h t e divided =
    let d : AreDivided n a b (c ∷ rest) (h ∷ range_with_len (h + 1) (length rest)) t = rw e at divided in
    (rung n d.0 a b h d.1.first d.1.second d.1.spots.1.0, (with_line d.0 h, higher n d.0 a b c rest t h (range_with_len (h + 1) (length rest)) d.1))

pub ladder_rungs : (a b c p : Control) (more rest : List Control) (h t : ℕ) → p ≡ positive h → more ≡ c ∷ rest
    → ((both a b h ∷ []) ++ ladder p c rest (range_with_len (h + 1) (length rest)) t) ++ (both a b h ∷ []) ≡ ladder a b more (range_with_len h (length more)) t
unfolding ladder
ladder_rungs a b c p more rest h t q e = rw (q, e) refl

turned_back : {A : Type 0} (more rest : List A) (c : A) → more ≡ rest ++ (c ∷ []) → reverse more ≡ c ∷ reverse rest
turned_back more rest c e = ap reverse e ∙ reverse-append rest (c ∷ [])

-- the first rung on the way down, and the others
pub down_rung : (n : ℕ) (a b c : Control) (more rest : List Control) (h : ℕ) (hs others : List ℕ) (t : ℕ) → more ≡ rest ++ (c ∷ []) → hs ≡ others ++ (h ∷ [])
    → AreDivided n a b (reverse more) (reverse hs) t → IsRung n c (positive h) t × AreDivided n a b (reverse rest) (reverse others) h
down_rung n a b c more rest h hs others t em eh divided =
    let d : AreDivided n a b (c ∷ reverse rest) (h ∷ reverse others) t = rw (turned_back more rest c em, turned_back hs others h eh) at divided in
    let r = d.1 in (
      record {
        first = r.more.0.0;
        second = r.spots.1.0.0;
        target = r.spots.0.0;
        not_first = λ e. off_on d.0 c.line t r.more.0.1 r.spots.0.1 (sym e);
        not_second = λ e. r.distinct.0 h (inl refl) (sym e);
      },
      (d.0, lower n d.0 a b c (reverse rest) t (h ∷ reverse others) r),
    )

pub down_rungs : (a b c p : Control) (more rest : List Control) (h : ℕ) (hs others : List ℕ) (t : ℕ) → p ≡ positive h → more ≡ rest ++ (c ∷ []) → hs ≡ others ++ (h ∷ [])
    → ((both c p t ∷ []) ++ down_up a b (reverse rest) (reverse others) h) ++ (both c p t ∷ []) ≡ down_up a b (reverse more) (reverse hs) t
unfolding down_up
down_rungs a b c p more rest h hs others t q em eh = rw (q, turned_back more rest c em, turned_back hs others h eh) refl

pub twice_rungs : (a b c : Control) (more rest : List Control) (h : ℕ) (hs others : List ℕ) (t : ℕ) → more ≡ rest ++ (c ∷ []) → hs ≡ others ++ (h ∷ [])
    → down_up a b (reverse more) (reverse hs) t ++ down_up a b (reverse rest) (reverse others) h ≡ down_up_twice a b (reverse more) (reverse hs) t
unfolding inner
twice_rungs a b c more rest h hs others t em eh = rw (turned_back more rest c em, turned_back hs others h eh) refl

pub ladder_none : (a b : Control) (more : List Control) (hs : List ℕ) (t : ℕ) → length more ≡ 0 → both a b t ∷ [] ≡ ladder a b more hs t
unfolding ladder
ladder_none a b more hs t e = rw (nil_from_length more e) refl

pub down_none : (a b : Control) (more : List Control) (hs : List ℕ) (t : ℕ) → length more ≡ 0 → both a b t ∷ [] ≡ down_up a b more hs t
unfolding down_up
down_none a b more hs t e = rw (nil_from_length more e) refl

pub twice_none : (a b : Control) (more : List Control) (hs : List ℕ) (t : ℕ) → length more ≡ 0 → down_up a b more hs t ≡ down_up_twice a b more hs t
unfolding inner
twice_none a b more hs t e = rw (nil_from_length more e) (sym (append_none (down_up a b [] hs t)))

-- the part of a slice after its first
pub after_first : {A : Type 0} → (xs : List A) → take (length xs - 1) (drop 1 xs) ≡ drop 1 xs
after_first [] = refl
after_first (x ∷ xs) = let e : suc (length xs) - 1 ≡ length xs = omega arith in ap (λ k. take k xs) e ∙ take-length xs

-- ---- sums so far

pub grown_none : (c : Cascade) (made : Shape → List Shape) → Grown c c (flat_map made [])
grown_none c made = sym (ap (λ l. record c { gates = l }) (append_none c.gates))

pub grown_next : (c0 c1 c2 : Cascade) (made : Shape → List Shape) (xs : List Shape) (k : ℕ) (x : Shape) → k < length xs → x ≡ get_or xs k x
    → Grown c0 c1 (flat_map made (take k xs)) → Grown c1 c2 (made x) → Grown c0 c2 (flat_map made (take (k + 1) xs))
grown_next c0 c1 c2 made xs k x h at g1 g2 = grind (arith, grown_twice, take_more, flat_map_more)

pub sum_by_next : (f : Shape → ℕ) (xs : List Shape) (k : ℕ) (x : Shape) → k < length xs → x ≡ get_or xs k x → sum_by f (take (k + 1) xs) ≡ sum_by f (take k xs) + f x
sum_by_next f xs k x h at = ap (sum_by f) (take_more xs k x h) ∙ sum_by_push f (take k xs) (get_or xs k x) ∙ ap (λ y. sum_by f (take k xs) + f y) (sym at)
