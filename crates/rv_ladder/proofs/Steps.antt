-- One more part of a network, as the code adds it.
use Rattle.std.proofs.Common.{◌≡◌, ℕ, suc, ◌+◌, ◌-◌, ◌<◌, ◌≤◌, List, [], ◌∷◌, ◌++◌, length, take, drop, reverse}
use Rattle.std.proofs.Common.{get_or, refl, sym, ◌∙◌, ap, arith, append_assoc, append-nil}
use Rattle.std.proofs.lemmas.List.{take_more}
use Rattle.std.proofs.Math.Seq.{take-length}
use Rattle.std.proofs.lemmas.List.{flat_map_more}
use Rattle.std.specs.List.{flat_map, range_with_len}
use Rattle.rv_gate.specs.declared.gate.Shape.{Shape}
use Rattle.rv_mct.specs.Blocks.{controls_of, is_free, rising}
use Rattle.rv_mct.proofs.inside.Steps.{after_first}
use Rattle.rv_mct.specs.declared.control.Control.{Control}
use Rattle.rv_net.specs.declared.op.Op.{Op}
use Rattle.rv_net.specs.declared.op.Op.TheVariants.{H, Cx}
use Rattle.rv_net.specs.Network.{on_zero, toffoli}
use Rattle.rv_ladder.specs.Ladder.{borrowed_flip, borrowed_net, borrowed_over, clean_flip, clean_over, down, half}
use Rattle.rv_ladder.specs.Ladder.{lines_of, quarter, quarter_back, rung, zeros}
use Rattle.rv_gate.proofs.Lists.{last_first, take_same}

-- ---- lists of operations, one after another

pub then : (o a b : List Op) (p q w : List Op) → a ≡ o ++ p → b ≡ a ++ q → p ++ q ≡ w → b ≡ o ++ w
then o a b p q w f g e = g ∙ ap (λ l. l ++ q) f ∙ append_assoc o p q ∙ ap (λ l. o ++ l) e

pub down_none : (a b : ℕ) (more : List Control) (hs : List ℕ) (t : ℕ) → length more ≡ 0 → rung b t (Cx a t ∷ []) ≡ down a b (lines_of (reverse more)) hs t
unfolding down
down_none a b [] hs t e = refl
down_none a b (c ∷ more) hs t e = absurd (omega arith)

down_more : (a b c : ℕ) (more : List ℕ) (h : ℕ) (hs : List ℕ) (t : ℕ)
    → (H t ∷ (half c t ++ (Cx h t ∷ []))) ++ (down a b more hs h ++ (Cx h t ∷ (half c t ++ (H t ∷ [])))) ≡ down a b (c ∷ more) (h ∷ hs) t
unfolding down
down_more a b c more h hs t = ap (λ l. H t ∷ (half c t ++ (Cx h t ∷ l))) (sym (append_assoc (down a b more hs h) (Cx h t ∷ []) (half c t ++ (H t ∷ []))))

pub down_last : (a b : ℕ) (more : List Control) (hs : List ℕ) (t k : ℕ) (d : Control) → suc k ≡ length more → suc k ≡ length hs
    → (H t ∷ (half (get_or more k d).line t ++ (Cx (get_or hs k 0) t ∷ []))) ++ (down a b (lines_of (reverse (take k more))) (reverse (take k hs)) (get_or hs k 0) ++ (Cx (get_or hs k 0) t ∷ (half (get_or more k d).line t ++ (H t ∷ []))))
    ≡ down a b (lines_of (reverse more)) (reverse hs) t
down_last a b more hs t k d em eh =
    rw (last_first more k d em, last_first hs k 0 eh) (down_more a b (get_or more k d).line (lines_of (reverse (take k more))) (get_or hs k 0) (reverse (take k hs)) t)

pub flip_none : (a b : ℕ) (more : List Control) (hs : List ℕ) (t : ℕ) → length more ≡ 0 → toffoli a b t ≡ borrowed_flip a b (lines_of (reverse more)) hs t
unfolding borrowed_flip
flip_none a b [] hs t e = refl
flip_none a b (c ∷ more) hs t e = absurd (omega arith)

flip_more : (a b c : ℕ) (more : List ℕ) (h : ℕ) (hs : List ℕ) (t : ℕ)
    → (H t ∷ quarter c h t) ++ (down a b more hs h ++ (quarter_back c h t ++ (down a b more hs h ++ (H t ∷ [])))) ≡ borrowed_flip a b (c ∷ more) (h ∷ hs) t
unfolding borrowed_flip
flip_more a b c more h hs t = refl

pub flip_last : (a b : ℕ) (more : List Control) (hs : List ℕ) (t k : ℕ) (d : Control) → suc k ≡ length more → suc k ≡ length hs
    → (H t ∷ quarter (get_or more k d).line (get_or hs k 0) t) ++ (down a b (lines_of (reverse (take k more))) (reverse (take k hs)) (get_or hs k 0)
    ++ (quarter_back (get_or more k d).line (get_or hs k 0) t ++ (down a b (lines_of (reverse (take k more))) (reverse (take k hs)) (get_or hs k 0) ++ (H t ∷ []))))
    ≡ borrowed_flip a b (lines_of (reverse more)) (reverse hs) t
flip_last a b more hs t k d em eh =
    rw (last_first more k d em, last_first hs k 0 eh) (flip_more a b (get_or more k d).line (lines_of (reverse (take k more))) (get_or hs k 0) (reverse (take k hs)) t)

pub zeros_none : (o : List Op) → o ≡ o ++ zeros []
zeros_none o = sym (append-nil o)

zeros_append : (a b : List Control) → zeros (a ++ b) ≡ zeros a ++ zeros b
zeros_append [] b = refl
zeros_append (c ∷ a) b = ap (λ l. on_zero c ++ l) (zeros_append a b) ∙ sym (append_assoc (on_zero c) (zeros a) (zeros b))

pub zeros_more : (cs : List Control) (i : ℕ) (d : Control) → i < length cs → zeros (take (i + 1) cs) ≡ zeros (take i cs) ++ on_zero (get_or cs i d)
zeros_more cs i d h =
    ap zeros (take_more cs i d h) ∙ zeros_append (take i cs) (get_or cs i d ∷ []) ∙ ap (λ l. zeros (take i cs) ++ l) (append-nil (on_zero (get_or cs i d)))

pub over_parts : (cs : List Control) (free : List ℕ) (t : ℕ) (d : Control) → 2 ≤ length cs
    → zeros cs ++ (borrowed_flip (get_or cs 0 d).line (get_or cs 1 d).line (lines_of (reverse (take (length cs - 2) (drop 2 cs)))) (reverse (take (length cs - 2) free)) t ++ zeros cs) ≡ borrowed_over cs free t
over_parts [] free t d some = absurd (omega arith)
over_parts (a ∷ []) free t d some = absurd (omega arith)
over_parts (a ∷ (b ∷ more)) free t d some =
    let e : suc (suc (length more)) - 2 ≡ length more = omega arith in
    let cs : List Control = a ∷ (b ∷ more) in
    ap (λ k. zeros cs ++ (borrowed_flip a.line b.line (lines_of (reverse (take k more))) (reverse (take k free)) t ++ zeros cs)) e
    ∙ ap (λ l. zeros cs ++ (borrowed_flip a.line b.line (lines_of (reverse l)) (reverse (take (length more) free)) t ++ zeros cs)) (take-length more)

pub five : (o a b c d e : List Op) (p q r s u w : List Op) → a ≡ o ++ p → b ≡ a ++ q → c ≡ b ++ r → d ≡ c ++ s → e ≡ d ++ u → p ++ (q ++ (r ++ (s ++ u))) ≡ w → e ≡ o ++ w
five o a b c d e p q r s u w f g h i j k =
    then o a e p (q ++ (r ++ (s ++ u))) w f (then a b e q (r ++ (s ++ u)) _ g (then b c e r (s ++ u) _ h (then c d e s u _ i j refl) refl) refl) k

-- ---- over lines that hold 0

pub clean_none : (a b : ℕ) (more : List Control) (h t : ℕ) → length more ≡ 0 → toffoli a b t ≡ clean_flip a b (lines_of more) (range_with_len h (length more)) t
unfolding clean_flip
clean_none a b [] h t e = refl
clean_none a b (c ∷ more) h t e = absurd (omega arith)

clean_some : (a b : ℕ) (more : List Control) (h t : ℕ) (d : Control) → 1 ≤ length more
    → rung b h (Cx a h ∷ []) ++ (clean_flip h (get_or more 0 d).line (lines_of (drop 1 more)) (range_with_len (h + 1) (length (drop 1 more))) t ++ rung b h (Cx a h ∷ []))
    ≡ clean_flip a b (lines_of more) (range_with_len h (length more)) t
unfolding clean_flip
clean_some a b [] h t d some = absurd (omega arith)
clean_some a b (c ∷ more) h t d some = refl

pub clean_part : (a b : ℕ) (more : List Control) (h t : ℕ) (d : Control) → 1 ≤ length more
    → rung b h (Cx a h ∷ []) ++ (clean_flip h (get_or more 0 d).line (lines_of (take (length more - 1) (drop 1 more))) (range_with_len (h + 1) (length (take (length more - 1) (drop 1 more)))) t ++ rung b h (Cx a h ∷ []))
    ≡ clean_flip a b (lines_of more) (range_with_len h (length more)) t
clean_part a b more h t d some = rw (after_first more) (clean_some a b more h t d some)

pub clean_parts : (cs : List Control) (first t : ℕ) (d : Control) → 2 ≤ length cs
    → zeros cs ++ (clean_flip (get_or cs 0 d).line (get_or cs 1 d).line (lines_of (take (length cs - 2) (drop 2 cs))) (range_with_len first (length (take (length cs - 2) (drop 2 cs)))) t ++ zeros cs) ≡ clean_over cs first t
clean_parts [] first t d some = absurd (omega arith)
clean_parts (a ∷ []) first t d some = absurd (omega arith)
clean_parts (a ∷ (b ∷ more)) first t d some =
    let e : suc (suc (length more)) - 2 ≡ length more = omega arith in
    let cs : List Control = a ∷ (b ∷ more) in
    ap (λ l. zeros cs ++ (clean_flip a.line b.line (lines_of l) (range_with_len first (length l)) t ++ zeros cs)) (ap (λ k. take k more) e ∙ take-length more)

-- ---- the least free lines

over_taken : (cs : List Control) (free : List ℕ) (t : ℕ) → borrowed_over cs (take (length cs - 2) free) t ≡ borrowed_over cs free t
over_taken [] free t = refl
over_taken (a ∷ []) free t = refl
over_taken (a ∷ (b ∷ more)) free t =
    let e : suc (suc (length more)) - 2 ≡ length more = omega arith in
    let cs : List Control = a ∷ (b ∷ more) in
    ap (λ l. zeros cs ++ (borrowed_flip a.line b.line (lines_of (reverse more)) (reverse l) t ++ zeros cs)) (ap (λ k. take (length more) (take k free)) e ∙ take_same (length more) free)

pub borrowed_from : (n care want t : ℕ) (cs : List Control) (free : List ℕ) → cs ≡ controls_of care want
    → free ≡ take (length cs - 2) (rising (is_free care t) n) → borrowed_over cs free t ≡ borrowed_net n care want t
unfolding borrowed_net
borrowed_from n care want t cs free e f = rw f (over_taken cs (rising (is_free care t) n) t) ∙ ap (λ l. borrowed_over l (rising (is_free care t) n) t) e

-- ---- gate after gate

pub map_none : (o : List Op) (made : Shape → List Op) → o ≡ o ++ flat_map made []
map_none o made = sym (append-nil o)

pub map_more : (made : Shape → List Op) (xs : List Shape) (k : ℕ) (d : Shape) → k < length xs → flat_map made (take k xs) ++ made (get_or xs k d) ≡ flat_map made (take (k + 1) xs)
map_more made xs k d h = flat_map_more made [] (take k xs) (get_or xs k d) ∙ ap (flat_map made) (sym (take_more xs k d h))
