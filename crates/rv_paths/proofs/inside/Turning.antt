-- What terms and operations add.
use Rattle.std.proofs.Common.{◌≡◌, ℕ, zero, suc, get_or, set, length, refl, ◌+◌, ◌*◌, ◌%◌, ◌<◌, ◌&&◌, Bool, true, false, cond, List, [], ◌∷◌, drop, ◌++◌, sym, ap, ◌∙◌, arith, Result, Ok, Err}
use Rattle.std.specs.Result.{OnOk, IfOk}
use Rattle.rv_gate.specs.Gate.{xor}
use Rattle.rv_net.proofs.Step.{Word, bit}
use Rattle.rv_paths.specs.declared.terms.Term.{Term}
use Rattle.rv_paths.specs.inside.Parity.{parity, value_from}
use Rattle.rv_paths.proofs.inside.Parities.{parity-drop}

pub if_ok : {X E : Type 0} (r : Result X E) (P Q : X → Type 0) → ((x : X) → P x → Q x) → IfOk r P → IfOk r Q
if_ok (Ok x) P Q f h = f x h
if_ok (Err e) P Q f h = h

pub on_ok : {X E : Type 0} (r : Result X E) (P Q : Type 0) → (P → Q) → OnOk r P → OnOk r Q
on_ok r P Q f h = if_ok r (λ x. P) (λ x. Q) (λ x. f) h

pub value-append : (i : ℕ) (terms : List Term) (t : Term) (v : Word) → value_from i (terms ++ t ∷ []) v ≡ value_from i terms v + cond (parity (drop i t.mask.items) v) t.weight 0
value-append i [] t v = omega arith
value-append i (s ∷ terms) t v = let ih = value-append i terms t v in omega (arith, ih)

flips : (f p : Bool) (w old mid new : ℕ) → w < 8 → mid % 8 ≡ (old + cond f w 0) % 8 → new % 8 ≡ (mid + cond p (cond f (w * 7 % 8) w) 0) % 8
    → new % 8 ≡ (old + cond (xor (f && true) p) w 0) % 8
flips true true w old mid new h a b = omega arith
flips true false w old mid new h a b = omega arith
flips false true w old mid new h a b = omega arith
flips false false w old mid new h a b = omega arith

pub flipped : (m u : Word) (f : Bool) (w old mid new : ℕ) → f ≡ bit m 0 → w < 8 → mid % 8 ≡ (old + cond f w 0) % 8
    → new % 8 ≡ (mid + cond (parity (drop 1 m) u) (cond f (w * 7 % 8) w) 0) % 8 → new % 8 ≡ (old + cond (parity m (true ∷ u)) w 0) % 8
flipped m u f w old mid new is h a b =
    flips f (parity (drop 1 m) u) w old mid new h a b
    ∙ ap (λ c. (old + cond c w 0) % 8) (ap (λ g. xor (g && true) (parity (drop 1 m) u)) is ∙ sym (parity-drop 0 m true u))

pub multiple : (p : Bool) (f w old new : ℕ) → new % 8 ≡ (old + cond p (f * w % 8) 0) % 8 → new % 8 ≡ (old + f * cond p w 0) % 8
multiple true f w old new h = omega arith
multiple false f w old new h = omega arith

pub product : (a b : Bool) (f old one two new : ℕ) → one % 8 ≡ (old + f * cond a 2 0) % 8 → two % 8 ≡ (one + f * cond b 2 0) % 8
    → new % 8 ≡ (two + f * cond (xor a b) 6 0) % 8 → new % 8 ≡ (old + f * cond (a && b) 4 0) % 8
product true true f old one two new h i j = omega arith
product true false f old one two new h i j = omega arith
product false true f old one two new h i j = omega arith
product false false f old one two new h i j = omega arith

pub with_y : (p : Bool) (f old mid new : ℕ) → mid % 8 ≡ (old + f * 2 % 8) % 8 → new % 8 ≡ (mid + f * cond p 4 0) % 8 → new % 8 ≡ (old + f * cond p 6 2) % 8
with_y true f old mid new h i = omega arith
with_y false f old mid new h i = omega arith

tails : (a b u : Word) → ((v : Word) → parity a v ≡ parity b v) → parity (drop 1 a) u ≡ parity (drop 1 b) u
tails a b u h = sym (one a) ∙ h (false ∷ u) ∙ one b
  where
    off : (b p : Bool) → xor (b && false) p ≡ p
    off true true = refl
    off true false = refl
    off false true = refl
    off false false = refl

    one : (m : Word) → parity m (false ∷ u) ≡ parity (drop 1 m) u
    one m = parity-drop 0 m false u ∙ off (bit m 0) (parity (drop 1 m) u)

joined-here : (p q : Bool) (t w r : ℕ) → p ≡ q → (cond q ((t + w) % 8) 0 + r) % 8 ≡ (cond q t 0 + r + cond p w 0) % 8
joined-here p q t w r e = by q ∙ ap (λ c. (cond q t 0 + r + cond c w 0) % 8) (sym e)
  where
    by : (q : Bool) → (cond q ((t + w) % 8) 0 + r) % 8 ≡ (cond q t 0 + r + cond q w 0) % 8
    by true = omega arith
    by false = omega arith

pub value-join : (terms : List Term) (p w : ℕ) (m u : Word) (d : Term) → p < length terms → ((v : Word) → parity m v ≡ parity (get_or terms p d).mask.items v)
    → value_from 1 (set terms p (record { mask = (get_or terms p d).mask; weight = ((get_or terms p d).weight + w) % 8 })) u % 8
    ≡ (value_from 1 terms u + cond (parity (drop 1 m) u) w 0) % 8
value-join [] p w m u d h same = absurd (omega arith)
value-join (t ∷ terms) zero w m u d h same =
    joined-here (parity (drop 1 m) u) (parity (drop 1 t.mask.items) u) t.weight w (value_from 1 terms u) (tails m t.mask.items u same)
value-join (t ∷ terms) (suc p) w m u d h same =
    let ih = value-join terms p w m u d (omega arith) same in omega (arith, ih)

-- of what stands at a place, the default tells nothing
pub any-default : (terms : List Term) (p : ℕ) (d e : Term) → p < length terms → get_or terms p d ≡ get_or terms p e
any-default [] p d e h = absurd (omega arith)
any-default (t ∷ terms) zero d e h = refl
any-default (t ∷ terms) (suc p) d e h = any-default terms p d e (omega arith)
