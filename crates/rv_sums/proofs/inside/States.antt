-- States: where paths end, and what the sums of a line make of it.
use Rattle.std.proofs.Common.{◌≡◌, ℕ, ◌+◌, ◌<◌, ◌≤◌, Bool, false, List, [], ◌∷◌, ◌++◌, length, take, get_or, set, refl, sym, ap, ap₂, ◌∙◌, arith, subst, length-append}
use Rattle.std.proofs.lemmas.List.{map-set, map-append, get_or-map, length-map, map_more, take_more}
use Rattle.std.specs.List.{swap}
use Rattle.std.proofs.lemmas.Grind.{common_steps}
use Rattle.rv_gate.specs.Gate.{xor}
use Rattle.rv_net.proofs.Step.{Word, bit}
use Rattle.rv_terms.specs.Products.{odd}
use Rattle.rv_terms.specs.declared.sum.Sum.{Sum}
use Rattle.rv_sums.specs.inside.State.{AreCopies, ArePut, AreTurned, EndsLack, IsFlipped, word_at}
use Rattle.rv_sums.specs.declared.path_sum.PathSum.{PathSum}

pub length-word_at : (sums : List Sum) (x v : Word) → length (word_at sums x v) ≡ length sums
length-word_at sums x v = length-map sums (λ sum. odd sum x v)

-- the bit of a line is its sum
pub bit-word_at : (sums : List Sum) (line : ℕ) (sum : Sum) (x v : Word) → line < length sums → sum ≡ get_or sums line sum
    → bit (word_at sums x v) line ≡ odd sum x v
bit-word_at sums line sum x v lt is = get_or-map (λ s. odd s x v) sums line sum false lt ∙ ap (λ s. odd s x v) (sym is)

pub bit-word_at_as : (sums : List Sum) (line at : ℕ) (sum : Sum) (x v : Word) → line < length sums → at ≡ line
    → sum ≡ get_or sums at sum → bit (word_at sums x v) line ≡ odd sum x v
bit-word_at_as sums line at sum x v lt same is = bit-word_at sums line sum x v lt (is ∙ ap (λ k. get_or sums k sum) same)

pub word_at-set : (sums : List Sum) (line : ℕ) (sum : Sum) (x v : Word)
    → word_at (set sums line sum) x v ≡ set (word_at sums x v) line (odd sum x v)
word_at-set sums line sum x v = map-set (λ s. odd s x v) sums line sum

pub word_at-take : (sums : List Sum) (i : ℕ) (sum : Sum) (x v : Word) → i < length sums → sum ≡ get_or sums i sum
    → word_at (take (i + 1) sums) x v ≡ word_at (take i sums) x v ++ odd sum x v ∷ []
word_at-take sums i sum x v lt is = map_more (λ s. odd s x v) sums i sum lt ∙ ap (λ s. word_at (take i sums) x v ++ odd s x v ∷ []) (sym is)

pub take_sums : (sums : List Sum) (i : ℕ) → length sums ≤ i → take i sums ≡ sums
take_sums sums i le = grind (arith, common_steps)

length-both : (sums made made2 : List Sum) (i : ℕ) (sum next : Sum) → i < length sums → sum ≡ get_or sums i sum → made2 ≡ made ++ next ∷ []
    → length made ≡ length (take i sums) → length made2 ≡ length (take (i + 1) sums)
length-both sums made made2 i sum next lt is more same =
    ap length more ∙ length-append made (next ∷ []) ∙ ap (λ n. n + 1) same
    ∙ sym (ap length (take_more sums i sum lt) ∙ length-append (take i sums) (get_or sums i sum ∷ []))

-- one line more
pub word_at-more : (sums sums2 : List Sum) (sum : Sum) (x v : Word) (line : ℕ) → line < length x → sums2 ≡ sums ++ sum ∷ []
    → word_at sums x v ≡ take line x → odd sum x v ≡ bit x line → word_at sums2 x v ≡ take (line + 1) x
word_at-more sums sums2 sum x v line lt is before here =
    ap (λ l. word_at l x v) is ∙ map-append (λ s. odd s x v) sums (sum ∷ [])
    ∙ ap₂ (λ l b. l ++ b ∷ []) before here ∙ sym (take_more x line false lt)

pub is_flipped : (line at : ℕ) (here next with : Sum) (old new : PathSum) → line < length old.sums.items → at ≡ line
    → here ≡ get_or old.sums.items at here → ((x v : Word) → odd next x v ≡ xor (odd here x v) (odd with x v))
    → new.sums.items ≡ set old.sums.items at next → length new.sums.items ≡ length old.sums.items → new.phases ≡ old.phases → new.scale ≡ old.scale
    → IsFlipped line with old new
is_flipped line at here next with old new lt same is added now count phases scale = record {
  lines = count;
  ends = λ x v.
      ap (λ l. word_at l x v) now ∙ word_at-set old.sums.items at next x v
      ∙ ap₂ (set (word_at old.sums.items x v)) same
      (added x v ∙ ap (λ b. xor b (odd with x v)) (sym (bit-word_at old.sums.items at here x v (omega arith) is) ∙ ap (bit (word_at old.sums.items x v)) same));
  phases = phases;
  scale = scale;
}

pub take_whole : (x : Word) (k : ℕ) → length x ≤ k → take k x ≡ x
take_whole x k le = grind (arith, common_steps)

pub word_at-swap : (sums : List Sum) (a b : ℕ) (x v : Word) → a < length sums → b < length sums
    → word_at (swap sums a b) x v ≡ set (set (word_at sums x v) a (bit (word_at sums x v) b)) b (bit (word_at sums x v) a)
word_at-swap [] a b x v la lb = absurd (omega arith)
word_at-swap (d ∷ ys) a b x v la lb =
    let sums : List Sum = d ∷ ys in
    let f : Sum → Bool = λ s. odd s x v in
    map-set f (set sums a (get_or sums b d)) b (get_or sums a d)
    ∙ ap (λ w. set w b (f (get_or sums a d))) (map-set f sums a (get_or sums b d))
    ∙ ap₂ (λ p q. set (set (word_at sums x v) a p) b q) (sym (get_or-map f sums b d false lb)) (sym (get_or-map f sums a d false la))

-- ---- sums of all lines, one after another

pub lack_none : (path : ℕ) (sums : List Sum) → EndsLack path (take 0 sums)
lack_none path sums x v b = refl

pub lack_more : (path : ℕ) (sums : List Sum) (i : ℕ) (sum : Sum) → i < length sums → sum ≡ get_or sums i sum
    → ((x v : Word) (b : Bool) → odd sum x (set v path b) ≡ odd sum x v) → EndsLack path (take i sums) → EndsLack path (take (i + 1) sums)
lack_more path sums i sum lt is here before x v b =
    word_at-take sums i sum x (set v path b) lt is ∙ ap₂ (λ l c. l ++ c ∷ []) (before x v b) (here x v b) ∙ sym (word_at-take sums i sum x v lt is)

pub lack_all : (path : ℕ) (sums : List Sum) (i : ℕ) → length sums ≤ i → EndsLack path (take i sums) → EndsLack path sums
lack_all path sums i le before = let P : List Sum → Type 0 = EndsLack path in subst P (take_sums sums i le) before

pub put_none : (path : ℕ) (with : Sum) (sums made : List Sum) → made ≡ [] → ArePut path with (take 0 sums) made
put_none path with sums made is = record { lines = ap length is; ends = λ x v lt. ap (λ l. word_at l x v) is }

pub put_more : (path : ℕ) (with : Sum) (sums made made2 : List Sum) (i : ℕ) (sum next : Sum) → i < length sums → sum ≡ get_or sums i sum
    → made2 ≡ made ++ next ∷ [] → ((x v : Word) → path < length v → odd next x v ≡ odd sum x (set v path (odd with x v)))
    → ArePut path with (take i sums) made → ArePut path with (take (i + 1) sums) made2
put_more path with sums made made2 i sum next lt is more here before = record {
  lines = length-both sums made made2 i sum next lt is more before.lines;
  ends = λ x v below.
      ap (λ l. word_at l x v) more ∙ map-append (λ s. odd s x v) made (next ∷ [])
      ∙ ap₂ (λ l c. l ++ c ∷ []) (before.ends x v below) (here x v below)
      ∙ sym (word_at-take sums i sum x (set v path (odd with x v)) lt is);
}

pub put_all : (path : ℕ) (with : Sum) (sums made : List Sum) (i : ℕ) → length sums ≤ i → ArePut path with (take i sums) made → ArePut path with sums made
put_all path with sums made i le before = let P : List Sum → Type 0 = λ l. ArePut path with l made in subst P (take_sums sums i le) before

pub turn_none : (line : ℕ) (with : Sum) (sums made : List Sum) → made ≡ [] → AreTurned line with (take 0 sums) made
turn_none line with sums made is = record { lines = ap length is; ends = λ x v lt. ap (λ l. word_at l x v) is }

pub turn_more : (line : ℕ) (with : Sum) (sums made made2 : List Sum) (i : ℕ) (sum next : Sum) → i < length sums → sum ≡ get_or sums i sum
    → made2 ≡ made ++ next ∷ [] → ((x v : Word) → line < length x → odd next x v ≡ odd sum (set x line (odd with x v)) v)
    → AreTurned line with (take i sums) made → AreTurned line with (take (i + 1) sums) made2
turn_more line with sums made made2 i sum next lt is more here before = record {
  lines = length-both sums made made2 i sum next lt is more before.lines;
  ends = λ x v below.
      ap (λ l. word_at l x v) more ∙ map-append (λ s. odd s x v) made (next ∷ [])
      ∙ ap₂ (λ l c. l ++ c ∷ []) (before.ends x v below) (here x v below)
      ∙ sym (word_at-take sums i sum (set x line (odd with x v)) v lt is);
}

pub turn_all : (line : ℕ) (with : Sum) (sums made : List Sum) (i : ℕ) → length sums ≤ i → AreTurned line with (take i sums) made → AreTurned line with sums made
turn_all line with sums made i le before = let P : List Sum → Type 0 = λ l. AreTurned line with l made in subst P (take_sums sums i le) before

pub copies_none : (sums made : List Sum) → made ≡ [] → AreCopies (take 0 sums) made
copies_none sums made is = record { lines = ap length is; ends = λ x v. ap (λ l. word_at l x v) is }

pub copies_more : (sums made made2 : List Sum) (i : ℕ) (sum next : Sum) → i < length sums → sum ≡ get_or sums i sum
    → made2 ≡ made ++ next ∷ [] → ((x v : Word) → odd next x v ≡ odd sum x v)
    → AreCopies (take i sums) made → AreCopies (take (i + 1) sums) made2
copies_more sums made made2 i sum next lt is more here before = record {
  lines = length-both sums made made2 i sum next lt is more before.lines;
  ends = λ x v.
      ap (λ l. word_at l x v) more ∙ map-append (λ s. odd s x v) made (next ∷ [])
      ∙ ap₂ (λ l c. l ++ c ∷ []) (before.ends x v) (here x v)
      ∙ sym (word_at-take sums i sum x v lt is);
}

pub copies_all : (sums made : List Sum) (i : ℕ) → length sums ≤ i → AreCopies (take i sums) made → AreCopies sums made
copies_all sums made i le before = let P : List Sum → Type 0 = λ l. AreCopies l made in subst P (take_sums sums i le) before

-- one line more of one word
pub word_more : (sums sums2 : List Sum) (sum : Sum) (x v word : Word) (line : ℕ) → line < length word → sums2 ≡ sums ++ sum ∷ []
    → word_at sums x v ≡ take line word → odd sum x v ≡ bit word line → word_at sums2 x v ≡ take (line + 1) word
word_more sums sums2 sum x v word line lt is before here =
    ap (λ l. word_at l x v) is ∙ map-append (λ s. odd s x v) sums (sum ∷ [])
    ∙ ap₂ (λ l b. l ++ b ∷ []) before here ∙ sym (take_more word line false lt)
