-- The contents of the inputs and their texts.
use Rattle.std.proofs.Common.{◌≡◌, ℕ, ◌+◌, ◌<◌, ◌≤◌, Bool, true, false, List, [], ◌∷◌, length, replicate, Option, Some, None, IsSomeAnd, Result, Ok, Err, nat_lt, refl, ap, sym, subst, ◌∙◌, inl, inr, arith}
use Rattle.std.proofs.lemmas.Bool.{cases_lt, cond-true, cond-false, le-ltb, lt-ltb}
use Rattle.std.proofs.lemmas.List.{length-replicate}
use Rattle.std.proofs.lemmas.List.Elements.{All-nil, All-cons, All-head, All-tail}
use Rattle.rv_io.specs.Files.{FilesView}
use Rattle.rv_text.specs.declared.lines.TheConstants.{MOST_BYTES}
use Rattle.rv_reader.specs.Rules.{◌>>=◌}
use Rattle.rv_faults.specs.declared.fault.Unmade.{Unmade}
use Rattle.rv_faults.specs.declared.fault.Unmade.TheVariants.{TooLong}
use Rattle.rv_inputs.specs.Contents.{Contents, AreShort, AreTexts, content_or_fault, held_as, texts_from, texts_of}

abbrev IsShort : List ℕ → Type 0
IsShort text = length text ≤ MOST_BYTES

pub content-short : (input : ℕ) (text : List ℕ) → length text ≤ MOST_BYTES → content_or_fault input (Some text) ≡ Ok text
content-short input text short = cond-false (nat_lt MOST_BYTES (length text)) (Err (TooLong input)) (Ok text) (le-ltb MOST_BYTES (length text) short)

pub content-long : (input : ℕ) (text : List ℕ) → MOST_BYTES < length text → content_or_fault input (Some text) ≡ Err (TooLong input)
content-long input text long = cond-true (nat_lt MOST_BYTES (length text)) (Err (TooLong input)) (Ok text) (lt-ltb MOST_BYTES (length text) long)

-- the first text, and then those after it
abbrev with_rest : ℕ → Contents → Result (List ℕ) Unmade → Result (List (List ℕ)) Unmade
with_rest input rest first = first >>= λ text. (texts_from (input + 1) rest >>= λ texts. Ok (text ∷ texts))

abbrev with_first : List ℕ → Result (List (List ℕ)) Unmade → Result (List (List ℕ)) Unmade
with_first text rest = rest >>= λ texts. Ok (text ∷ texts)

-- short texts are all read
pub texts_from-held : (input : ℕ) (texts : List (List ℕ)) → AreShort texts → texts_from input (held_as texts) ≡ Ok texts
texts_from-held input [] short = refl
texts_from-held input (text ∷ texts) short =
    ap (with_rest input (held_as texts)) (content-short input text (All-head IsShort text texts short))
    ∙ ap (with_first text) (texts_from-held (input + 1) texts (All-tail IsShort text texts short))

texts_of-rest : (text : List ℕ) (rest : Contents) (texts : List (List ℕ)) (read : Result (List (List ℕ)) Unmade) → length text ≤ MOST_BYTES
    → ((more : List (List ℕ)) → read ≡ Ok more → AreTexts rest more) → with_first text read ≡ Ok texts → AreTexts (Some text ∷ rest) texts
texts_of-rest text rest texts (Ok more) short by h =
    let r = by more refl in
    let is : text ∷ more ≡ texts = let z = h in cc in
    let P : List (List ℕ) → Type 0 = λ t. AreTexts (Some text ∷ rest) t in
    subst P is (record { held = ap (λ c. Some text ∷ c) r.held; short = All-cons IsShort text more short r.short })
texts_of-rest text rest texts (Err fault) short by h = absurd (let z = h in cc)

texts_from-only : (input : ℕ) (contents : Contents) (texts : List (List ℕ)) → texts_from input contents ≡ Ok texts → AreTexts contents texts
texts_from-only input [] texts h =
    let is : [] ≡ texts = let z = h in cc in
    let P : List (List ℕ) → Type 0 = λ t. AreTexts [] t in
    subst P is (record { held = refl; short = All-nil IsShort })
texts_from-only input (None ∷ rest) texts h = absurd (let z = h in cc)
texts_from-only input (Some text ∷ rest) texts h = elim (cases_lt MOST_BYTES (length text)) [
  | inl long ↦ absurd (let z = sym (ap (with_rest input rest) (content-long input text long)) ∙ h in cc)
  | inr short ↦
      texts_of-rest text rest texts (texts_from (input + 1) rest) short (texts_from-only (input + 1) rest)
      (sym (ap (with_rest input rest) (content-short input text short)) ∙ h)
]

-- There is no fault before the command's own exactly if every input is held and short enough.
pub texts_of-is : (contents : Contents) (texts : List (List ℕ)) → texts_of contents ≡ Ok texts → AreTexts contents texts
texts_of-is contents texts h = texts_from-only 0 contents texts h

pub texts_of-gives : (contents : Contents) (texts : List (List ℕ)) → AreTexts contents texts → texts_of contents ≡ Ok texts
texts_of-gives contents texts are = ap texts_of are.held ∙ texts_from-held 0 texts are.short

-- ---- too long

-- some text that is longer than a limit
record Longer (limit : ℕ) : Type 0 where
  text : List ℕ
  long : limit < length text

longer : (limit : ℕ) → Longer limit
longer limit =
    let zero : ℕ = 0 in record { text = replicate (limit + 1) zero; long = omega (arith, length-replicate (limit + 1) zero) }

-- what is held, or some text that is too long
pub record TooLongContent (old : FilesView) (name : List ℕ) : Type 0 where
  pub content : Option (List ℕ)
  pub told : old.tells ≡ true → content ≡ old.held name
  pub faulty : (input : ℕ) → content_or_fault input content ≡ Err (TooLong input)

of_long : (held : Option (List ℕ)) → IsSomeAnd held (λ text. MOST_BYTES < length text) → (input : ℕ) → content_or_fault input held ≡ Err (TooLong input)
of_long None long input = absurd long
of_long (Some text) long input = content-long input text long

pub too_long_content : (old : FilesView) (name : List ℕ) (tells : Bool) → old.tells ≡ tells → (old.tells ≡ true → IsSomeAnd (old.held name) (λ text. MOST_BYTES < length text)) → TooLongContent old name
too_long_content old name true is long = record { content = old.held name; told = λ tells. refl; faulty = of_long (old.held name) (long is) }
too_long_content old name false is long =
    let l = longer MOST_BYTES in
    record { content = Some l.text; told = λ tells. absurd (let z = sym is ∙ tells in cc); faulty = λ input. content-long input l.text l.long }
