-- Lists of flips with two controls: ladders over lines that hold 0, and over lines that hold anything.
use Rattle.std.proofs.Common.{◌≡◌, ◌≢◌, ℕ, ◌^◌, ◌<◌, Bool, true, false, cond, ◌&&◌, ◌||◌, eqb, List, [], ◌∷◌, ◌++◌, length, set, refl, sym, ◌∙◌, ap, inl, inr, arith, length-set, get_or-set_same, get_or-set_other, eq-eqb, ne_eqb}
use Rattle.std.specs.Prelude.{bit_or}
use Rattle.std.proofs.lemmas.Bool.{eqb-true, false≢true, or_cases, and_parts, and_from, or_left}
use Rattle.std.proofs.lemmas.Bool.Decides.{same_from_decides}
use Rattle.std.proofs.lemmas.List.{set-set, set_comm, set-get_or}
use Rattle.rv_gate.specs.Word.{has, bit_of}
use Rattle.rv_gate.specs.Gate.{holds, same, xor, act, run}
use Rattle.rv_gate.specs.declared.gate.Shape.{Shape}
use Rattle.rv_gate.proofs.inside.GateLemmas.{holds_Decides, holds-set, flip_if, flip_twice, length-act, length-run, run-append}
use Rattle.rv_gate.proofs.LineSets.{has-line, has-lines, has-or, has-none}
use Rattle.rv_mct.specs.declared.control.Control.{Control}
use Rattle.rv_gate.specs.Every.{Every}
use Rattle.rv_mct.specs.inside.LadderLines.{In, IsOn, IsOff, Divides}
use Rattle.rv_mct.specs.Blocks.{positive, wanted_place, both, ladder, down_up, inner, down_up_twice}
use Rattle.rv_gate.proofs.Bits.{same_true, same_from, and_assoc, xor_assoc, xor_false, false_xor, xor_same}

-- ---- bits

same_one : (b : Bool) → same b true ≡ b
same_one b = grind arith

-- the helper was p, and is changed by k between two flips under m and the helper
around : (m k p q : Bool) → xor (m && xor k p) (xor (m && p) q) ≡ xor (m && k) q
around m k p q = grind arith

-- ---- a flip under two controls

-- the control holds
abbrev pub met : Control → List Bool → Bool
met c word = same (bit_of word c.line) c.wanted

abbrev pub met_all : List Control → List Bool → Bool
met_all [] word = true
met_all (c ∷ rest) word = met c word && met_all rest word

-- the bit of a line changed where a condition holds
abbrev pub put : List Bool → ℕ → Bool → List Bool
put word line on = set word line (xor on (bit_of word line))

pub put_put : (word : List Bool) (line : ℕ) (a b : Bool) → line < length word → put (put word line a) line b ≡ put word line (xor b a)
put_put word line a b lt =
    set-set word line _ _ ∙ ap (set word line) (ap (xor b) (get_or-set_same word line (xor a (bit_of word line)) false lt) ∙ sym (xor_assoc b a (bit_of word line)))

pub put_comm : (word : List Bool) (s t : ℕ) (a b : Bool) → s ≢ t → put (put word s a) t b ≡ put (put word t b) s a
put_comm word s t a b ne = grind (arith, get_or-set_other, set_comm)

pub put_twice : (word : List Bool) (line : ℕ) (a : Bool) → line < length word → put (put word line a) line a ≡ word
put_twice word line a lt = put_put word line a a lt ∙ ap (put word line) (xor_same a) ∙ ap (set word line) (false_xor (bit_of word line)) ∙ set-get_or word line false

pub free_two : (a b t : ℕ) → t ≢ a → t ≢ b → has (bit_or (2 ^ a) (2 ^ b)) t ≡ false
free_two a b t ta tb = has-lines a b t ∙ ap (λ x. x || eqb t b) (ne_eqb t a ta) ∙ ne_eqb t b tb

place_at : (line : ℕ) (w : Bool) (at : ℕ) → has (cond w (2 ^ line) 0) at ≡ (w && eqb at line)
place_at line w at = grind (arith, has-line, has-none)

want_first : (v u x : Bool) → ((v && true) || (u && false)) ≡ v
want_first v u x = grind arith

want_second : (v u x : Bool) → ((v && false) || (u && true)) ≡ u
want_second v u x = grind arith

want_of_first : (c d : Control) → c.line ≢ d.line → has (bit_or (wanted_place c) (wanted_place d)) c.line ≡ c.wanted
want_of_first c d apart = grind (arith, has-or, wanted_place, place_at, eq-eqb, ne_eqb, want_first)

want_of_second : (c d : Control) → c.line ≢ d.line → has (bit_or (wanted_place c) (wanted_place d)) d.line ≡ d.wanted
want_of_second c d apart = grind (arith, has-or, wanted_place, place_at, ne_eqb, eq-eqb, want_second)

holds_both : (c d : Control) (word : List Bool) → c.line < length word → d.line < length word → c.line ≢ d.line
    → holds (bit_or (2 ^ c.line) (2 ^ d.line)) (bit_or (wanted_place c) (wanted_place d)) word ≡ (met c word && met d word)
holds_both c d word lc ld apart = grind (arith, bit_or, wanted_place, has-lines, eq-eqb, ne_eqb, same_from_decides, holds_Decides, and_parts, or_cases, eqb-true, bit_of, same_true, want_of_first, want_of_second, and_from, same_from)

pub act_both : (c d : Control) (target : ℕ) (word : List Bool) → c.line < length word → d.line < length word → c.line ≢ d.line
    → act (both c d target) word ≡ put word target (met c word && met d word)
act_both c d target word lc ld apart = grind (arith, holds_both, flip_if)

pub met_other : (c : Control) (word : List Bool) (x : ℕ) (v : Bool) → c.line ≢ x → met c (set word x v) ≡ met c word
met_other c word x v other = ap (λ b. same b c.wanted) (get_or-set_other word x c.line v false other)

pub frame_both : (c d : Control) (target : ℕ) (word : List Bool) (x : ℕ) (v : Bool) → c.line ≢ x → d.line ≢ x → target ≢ x
    → act (both c d target) (set word x v) ≡ set (act (both c d target) word) x v
frame_both c d target word x v xc xd xt = grind (arith, flip_if, holds-set, free_two, get_or-set_other, set_comm)

pub twice_both : (c d : Control) (target : ℕ) (word : List Bool) → target < length word → target ≢ c.line → target ≢ d.line
    → act (both c d target) (act (both c d target) word) ≡ word
twice_both c d target word lt tc td = grind (arith, flip_twice, bit_or, wanted_place, has-lines, ne_eqb)

-- ---- what a ladder stands on

-- a rung taken away
pub lower : (n : ℕ) (on : ℕ → Bool) (a b c : Control) (more : List Control) (t : ℕ) (spots : List ℕ) → Divides n on a b (c ∷ more) (t ∷ spots) → Divides n on a b more spots
lower n on a b c more t spots r = record { first = r.first; second = r.second; apart = r.apart; more = r.more.1; spots = r.spots.1; distinct = r.distinct.1 }

pub off_on : (on : ℕ → Bool) (x y : ℕ) → on x ≡ true → on y ≡ false → x ≢ y
off_on on x y hx hy e = false≢true (sym hy ∙ sym (ap on e) ∙ hx)

-- ---- down and up again

pub run_around : (g : Shape) (middle : List Shape) (word : List Bool) → run (g ∷ (middle ++ (g ∷ []))) word ≡ act g (run middle (act g word))
run_around g middle word = run-append middle (g ∷ []) (act g word)

abbrev pub Apart : ℕ → List ℕ → Type 0
Apart x spots = (y : ℕ) → In y spots → y ≢ x

pub frame_down_up : (n : ℕ) (on : ℕ → Bool) (a b : Control) (more : List Control) (hs : List ℕ) (t : ℕ) (word : List Bool) (x : ℕ) (v : Bool)
    → Divides n on a b more (t ∷ hs) → on x ≡ false → Apart x (t ∷ hs)
    → run (down_up a b more hs t) (set word x v) ≡ set (run (down_up a b more hs t) word) x v
unfolding down_up
frame_down_up n on a b [] hs t word x v r off apart =
    frame_both a b t word x v (off_on on a.line x r.first.1 off) (off_on on b.line x r.second.1 off) (apart t (inl refl))
frame_down_up n on a b (c ∷ more) [] t word x v r off apart = refl
frame_down_up n on a b (c ∷ more) (h ∷ hs) t word x v r off apart =
    let g : Shape = both c (positive h) t in
    let V : List Shape = down_up a b more hs h in
    let cx : c.line ≢ x = off_on on c.line x r.more.0.1 off in
    run_around g V (set word x v)
    ∙ ap (λ w. act g (run V w)) (frame_both c (positive h) t word x v cx (apart h (inr (inl refl))) (apart t (inl refl)))
    ∙ ap (act g) (frame_down_up n on a b more hs h (act g word) x v (lower n on a b c more t (h ∷ hs) r) off (λ y i. apart y (inr i)))
    ∙ frame_both c (positive h) t (run V (act g word)) x v cx (apart h (inr (inl refl))) (apart t (inl refl))
    ∙ ap (λ w. set w x v) (sym (run_around g V word))

pub twice_down_up : (n : ℕ) (on : ℕ → Bool) (a b : Control) (more : List Control) (hs : List ℕ) (t : ℕ) (word : List Bool)
    → Divides n on a b more (t ∷ hs) → length word ≡ n → run (down_up a b more hs t) (run (down_up a b more hs t) word) ≡ word
unfolding down_up
twice_down_up n on a b [] hs t word r len =
    twice_both a b t word (omega (arith, r.spots.0.0)) (λ e. off_on on a.line t r.first.1 r.spots.0.1 (sym e)) (λ e. off_on on b.line t r.second.1 r.spots.0.1 (sym e))
twice_down_up n on a b (c ∷ more) [] t word r len = refl
twice_down_up n on a b (c ∷ more) (h ∷ hs) t word r len =
    let g : Shape = both c (positive h) t in
    let V : List Shape = down_up a b more hs h in
    let s : Divides n on a b more (h ∷ hs) = lower n on a b c more t (h ∷ hs) r in
    let tc : t ≢ c.line = λ e. off_on on c.line t r.more.0.1 r.spots.0.1 (sym e) in
    let th : t ≢ h = λ e. r.distinct.0 h (inl refl) (sym e) in
    let lt : t < n = r.spots.0.0 in
    let l1 : length (act g word) ≡ n = length-act g word ∙ len in
    let l2 : length (run V (act g word)) ≡ n = length-run V (act g word) ∙ l1 in
    run_around g V (run (g ∷ (V ++ (g ∷ []))) word)
    ∙ ap (λ w. act g (run V (act g w))) (run_around g V word)
    ∙ ap (λ w. act g (run V w)) (twice_both c (positive h) t (run V (act g word)) (omega arith) tc th)
    ∙ ap (act g) (twice_down_up n on a b more hs h (act g word) s l1)
    ∙ twice_both c (positive h) t word (omega arith) tc th

kept_both : (c d : Control) (target : ℕ) (word : List Bool) (x : ℕ) → x ≢ target → bit_of (act (both c d target) word) x ≡ bit_of word x
kept_both c d target word x other = ap (λ w. bit_of w x) (flip_if _ word target) ∙ get_or-set_other word target x _ false other

pub kept_down_up : (a b : Control) (more : List Control) (hs : List ℕ) (t : ℕ) (word : List Bool) (x : ℕ) → Apart x (t ∷ hs)
    → bit_of (run (down_up a b more hs t) word) x ≡ bit_of word x
unfolding down_up
kept_down_up a b [] hs t word x apart = kept_both a b t word x (λ e. apart t (inl refl) (sym e))
kept_down_up a b (c ∷ more) [] t word x apart = refl
kept_down_up a b (c ∷ more) (h ∷ hs) t word x apart =
    let g : Shape = both c (positive h) t in
    let V : List Shape = down_up a b more hs h in
    ap (λ w. bit_of w x) (run_around g V word)
    ∙ kept_both c (positive h) t (run V (act g word)) x (λ e. apart t (inl refl) (sym e))
    ∙ kept_down_up a b more hs h (act g word) x (λ y i. apart y (inr i))
    ∙ kept_both c (positive h) t word x (λ e. apart t (inl refl) (sym e))

-- the controls on the way down and up
abbrev pub met_down : Control → Control → List Control → List Bool → Bool
met_down a b [] word = met a word && met b word
met_down a b (c ∷ more) word = met c word && met_down a b more word

frame_inner : (n : ℕ) (on : ℕ → Bool) (a b : Control) (more : List Control) (hs : List ℕ) (t : ℕ) (word : List Bool) (v : Bool)
    → Divides n on a b more (t ∷ hs) → run (inner a b more hs) (set word t v) ≡ set (run (inner a b more hs) word) t v
unfolding inner
frame_inner n on a b [] hs t word v r = refl
frame_inner n on a b (c ∷ more) [] t word v r = refl
frame_inner n on a b (c ∷ more) (h ∷ hs) t word v r =
    frame_down_up n on a b more hs h word t v (lower n on a b c more t (h ∷ hs) r) r.spots.0.1 r.distinct.0

twice_inner : (n : ℕ) (on : ℕ → Bool) (a b : Control) (more : List Control) (hs : List ℕ) (t : ℕ) (word : List Bool)
    → Divides n on a b more (t ∷ hs) → length word ≡ n → run (inner a b more hs) (run (inner a b more hs) word) ≡ word
unfolding inner
twice_inner n on a b more hs t word h h1 = grind (arith, twice_down_up, lower)

-- the way down and up flips its target, and changes its helpers as its inner part does
pub run_down_up : (n : ℕ) (on : ℕ → Bool) (a b : Control) (more : List Control) (hs : List ℕ) (t : ℕ) (word : List Bool)
    → Divides n on a b more (t ∷ hs) → length word ≡ n → length more ≡ length hs
    → run (down_up a b more hs t) word ≡ set (run (inner a b more hs) word) t (xor (met_down a b more word) (bit_of word t))
unfolding down_up inner
run_down_up n on a b [] hs t word r len enough = act_both a b t word (omega (arith, r.first.0)) (omega (arith, r.second.0)) r.apart
run_down_up n on a b (c ∷ more) [] t word r len enough = absurd (omega arith)
run_down_up n on a b (c ∷ more) (h ∷ hs) t word r len enough =
    let g : Shape = both c (positive h) t in
    let V : List Shape = down_up a b more hs h in
    let s : Divides n on a b more (h ∷ hs) = lower n on a b c more t (h ∷ hs) r in
    let lc : c.line < n = r.more.0.0 in
    let lh : h < n = r.spots.1.0.0 in
    let lt : t < n = r.spots.0.0 in
    let ch : c.line ≢ h = off_on on c.line h r.more.0.1 r.spots.1.0.1 in
    let ct : c.line ≢ t = off_on on c.line t r.more.0.1 r.spots.0.1 in
    let ht : h ≢ t = r.distinct.0 h (inl refl) in
    let m : Bool = met c word in
    let k : Bool = met_down a b more word in
    let p : Bool = bit_of word h in
    let q : Bool = bit_of word t in
    let y0 : Bool = xor (m && p) q in
    let after : List Bool = run V word in
    let la : length after ≡ n = length-run V word ∙ len in
    let w2 : List Bool = set after t y0 in
    let l2 : length w2 ≡ n = length-set after t y0 ∙ la in
    let start : act g word ≡ set word t y0 =
    act_both c (positive h) t word (omega arith) (omega arith) ch ∙ ap (λ z. set word t (xor (m && z) q)) (same_one p) in
    let inside : bit_of after h ≡ xor k p =
    ap (λ w. bit_of w h) (run_down_up n on a b more hs h word s len (omega arith))
    ∙ get_or-set_same (run (inner a b more hs) word) h (xor k p) false (omega (arith, length-run (inner a b more hs) word)) in
    let still : bit_of after c.line ≡ bit_of word c.line =
    kept_down_up a b more hs h word c.line (λ y i e. off_on on c.line y r.more.0.1 (every_in (IsOff n on) (h ∷ hs) y r.spots.1 i).1 (sym e)) in
    let m2 : met c w2 ≡ m = met_other c after t y0 ct ∙ ap (λ z. same z c.wanted) still in
    let p2 : met (positive h) w2 ≡ xor k p = met_other (positive h) after t y0 ht ∙ same_one (bit_of after h) ∙ inside in
    run_around g V word
    ∙ ap (λ w. act g (run V w)) start
    ∙ ap (act g) (frame_down_up n on a b more hs h word t y0 s r.spots.0.1 r.distinct.0)
    ∙ act_both c (positive h) t w2 (omega arith) (omega arith) ch
    ∙ ap (λ z. set w2 t (xor (z && met (positive h) w2) (bit_of w2 t))) m2
    ∙ ap (λ z. set w2 t (xor (m && z) (bit_of w2 t))) p2
    ∙ ap (λ z. set w2 t (xor (m && xor k p) z)) (get_or-set_same after t y0 false (omega arith))
    ∙ set-set after t y0 _
    ∙ ap (set after t) (around m k p q)
  where
    every_in : (P : ℕ → Type 0) (xs : List ℕ) (y : ℕ) → Every P xs → In y xs → P y
    every_in P [] y e i = absurd i
    every_in P (x ∷ rest) y e i = elim i [ inl at ↦ (let Q : ℕ → Type 0 = P in rw at e.0) | inr later ↦ every_in P rest y e.1 later ]

-- the whole, whatever the helpers hold
pub run_down_up_twice : (n : ℕ) (on : ℕ → Bool) (a b : Control) (more : List Control) (hs : List ℕ) (t : ℕ) (word : List Bool)
    → Divides n on a b more (t ∷ hs) → length word ≡ n → length more ≡ length hs
    → run (down_up_twice a b more hs t) word ≡ put word t (met_down a b more word)
run_down_up_twice n on a b more hs t word r len enough =
    let I : List Shape = inner a b more hs in
    let y : Bool = xor (met_down a b more word) (bit_of word t) in
    run-append (down_up a b more hs t) I word
    ∙ ap (run I) (run_down_up n on a b more hs t word r len enough)
    ∙ frame_inner n on a b more hs t (run I word) y r
    ∙ ap (λ w. set w t y) (twice_inner n on a b more hs t word r len)

-- ---- over lines that hold 0

abbrev pub Zeros : List ℕ → List Bool → Type 0
Zeros hs word = Every (λ h. bit_of word h ≡ false) hs

pub zeros_set : (hs : List ℕ) (word : List Bool) (x : ℕ) (v : Bool) → Apart x hs → Zeros hs word → Zeros hs (set word x v)
zeros_set [] word x v apart z = tt
zeros_set (h ∷ hs) word x v apart z =
    (get_or-set_other word x h v false (apart h (inl refl)) ∙ z.0, zeros_set hs word x v (λ y i. apart y (inr i)) z.1)

pub met_all_other : (n : ℕ) (on : ℕ → Bool) (cs : List Control) (word : List Bool) (x : ℕ) (v : Bool) → Every (IsOn n on) cs → on x ≡ false
    → met_all cs (set word x v) ≡ met_all cs word
met_all_other n on [] word x v e off = refl
met_all_other n on (c ∷ cs) word x v e off = let hyp = met_all_other n on cs word x v e.1 off in grind (arith, hyp, met_other, off_on)

-- the helper becomes a control
abbrev pub with_line : (ℕ → Bool) → ℕ → ℕ → Bool
with_line on z x = on x || eqb x z

on_weaker : (n : ℕ) (on : ℕ → Bool) (z : ℕ) (cs : List Control) → Every (IsOn n on) cs → Every (IsOn n (with_line on z)) cs
on_weaker n on z [] e = tt
on_weaker n on z (c ∷ cs) e = ((e.0.0, or_left (on c.line) _ e.0.1), on_weaker n on z cs e.1)

off_with : (n : ℕ) (on : ℕ → Bool) (z x : ℕ) → IsOff n on x → x ≢ z → IsOff n (with_line on z) x
off_with n on z x off other = (off.0, ap (λ t. t || eqb x z) off.1 ∙ ne_eqb x z other)

offs_with : (n : ℕ) (on : ℕ → Bool) (z : ℕ) (xs : List ℕ) → Every (IsOff n on) xs → Apart z xs → Every (IsOff n (with_line on z)) xs
offs_with n on z [] e apart = tt
offs_with n on z (x ∷ xs) e apart = (off_with n on z x e.0 (apart x (inl refl)), offs_with n on z xs e.1 (λ y i. apart y (inr i)))

pub higher : (n : ℕ) (on : ℕ → Bool) (a b c : Control) (more : List Control) (t z : ℕ) (hs : List ℕ) → Divides n on a b (c ∷ more) (t ∷ (z ∷ hs))
    → Divides n (with_line on z) (positive z) c more (t ∷ hs)
higher n on a b c more t z hs r = record {
  first = (r.spots.1.0.0, or_last (on z) z);
  second = (r.more.0.0, or_left (on c.line) _ r.more.0.1);
  apart = λ e. off_on on c.line z r.more.0.1 r.spots.1.0.1 (sym e);
  more = on_weaker n on z more r.more.1;
  spots = (off_with n on z t r.spots.0 (λ e. r.distinct.0 z (inl refl) (sym e)), offs_with n on z hs r.spots.1.1 r.distinct.1.0);
  distinct = (λ y i. r.distinct.0 y (inr i), r.distinct.1.1);
}
  where
    or_last : (x : Bool) (z : ℕ) → (x || eqb z z) ≡ true
    or_last true z = refl
    or_last false z = eq-eqb z z refl

pub run_ladder : (n : ℕ) (on : ℕ → Bool) (a b : Control) (more : List Control) (hs : List ℕ) (t : ℕ) (word : List Bool)
    → Divides n on a b more (t ∷ hs) → length word ≡ n → length more ≡ length hs → Zeros hs word
    → run (ladder a b more hs t) word ≡ put word t (met a word && (met b word && met_all more word))
unfolding ladder
run_ladder n on a b [] hs t word r len enough zs =
    act_both a b t word (omega (arith, r.first.0)) (omega (arith, r.second.0)) r.apart
    ∙ ap (λ z. put word t (met a word && z)) (and_true (met b word))
  where
    and_true : (x : Bool) → x ≡ (x && true)
    and_true true = refl
    and_true false = refl
run_ladder n on a b (c ∷ more) [] t word r len enough zs = absurd (omega arith)
run_ladder n on a b (c ∷ more) (z ∷ hs) t word r len enough zs =
    let g : Shape = both a b z in
    let L : List Shape = ladder (positive z) c more hs t in
    let k : Bool = met a word && met b word in
    let rest : Bool = met c word && met_all more word in
    let off_z : on z ≡ false = r.spots.1.0.1 in
    let la : a.line < n = r.first.0 in
    let lb : b.line < n = r.second.0 in
    let lz : z < n = r.spots.1.0.0 in
    let lt : t < n = r.spots.0.0 in
    let zt : z ≢ t = r.distinct.0 z (inl refl) in
    let w1 : List Bool = put word z k in
    let l1 : length w1 ≡ n = length-set word z _ ∙ len in
    let one : met (positive z) w1 ≡ k = same_one (bit_of w1 z) ∙ get_or-set_same word z _ false (omega arith) ∙ ap (xor k) zs.0 ∙ xor_false k in
    let w2 : List Bool = put w1 t (k && rest) in
    let l2 : length w2 ≡ n = length-set w1 t _ ∙ l1 in
    let up : run L w1 ≡ w2 =
    run_ladder n (with_line on z) (positive z) c more hs t w1 (higher n on a b c more t z hs r) l1 (omega arith) (zeros_set hs word z _ r.distinct.1.0 zs.1)
    ∙ ap (put w1 t) (ap (λ v. v && (met c w1 && met_all more w1)) one ∙ ap (λ v. k && v) (met_all_other n on (c ∷ more) word z _ r.more off_z)) in
    let still : (d : Control) → on d.line ≡ true → met d w2 ≡ met d word = λ d is.
    met_other d w1 t _ (off_on on d.line t is r.spots.0.1) ∙ met_other d word z _ (off_on on d.line z is off_z) in
    run_around g L word
    ∙ ap (λ w. act g (run L w)) (act_both a b z word (omega arith) (omega arith) r.apart)
    ∙ ap (act g) up
    ∙ act_both a b z w2 (omega arith) (omega arith) r.apart
    ∙ ap (put w2 z) (ap (λ v. v && met b w2) (still a r.first.1) ∙ ap (λ v. met a word && v) (still b r.second.1))
    ∙ put_comm w1 t z (k && rest) k (λ e. zt (sym e))
    ∙ ap (λ w. put w t (k && rest)) (put_twice word z k (omega arith))
    ∙ ap (put word t) (and_assoc (met a word) (met b word) rest)
