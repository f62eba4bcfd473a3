-- What a piece adds to what is held, and to the lines of the text so far.
use Rattle.std.proofs.Common.{◌≡◌, ℕ, zero, suc, ◌+◌, ◌-◌, ◌<◌, Bool, true, false, cond, List, [], ◌∷◌, ◌++◌, length, take, Some, None, refl, sym, ap, ◌∙◌, arith, nat_eq}
use Rattle.std.specs.Prelude.{max, slice_get}
use Rattle.std.specs.List.{position}
use Rattle.std.proofs.lemmas.List.{append-nil, length-append, length-take, take_all}
use Rattle.std.proofs.lemmas.List.Quantifiers.{position-Some}
use Rattle.rv_text.specs.Bytes.{line_feed}
use Rattle.rv_text.specs.Lines.{ended_after, begun_after}
use Rattle.rv_text.specs.Held.{Held, TakesPiece, HasGiven, HasTaken, IsLine}
use Rattle.rv_text.specs.inside.Kept.{with_bytes}
use Rattle.rv_text.proofs.Cuts.{ended_after-append, begun_after-append, lines_of-append, HasNoEnd-None, ended_after-none, begun_after-none, ended_after-Some, begun_after-Some}

-- a piece with a line feed makes a line ready
pub takes_line : (old held : Held) (piece : List ℕ) (end : ℕ) → position (λ b. nat_eq b line_feed) piece ≡ Some end → held ≡ with_bytes old (take end piece)
    → TakesPiece old piece (end + 1) true (record { line = held.line; is_ready = true; number = held.number + 1; taken = held.taken + 1; greatest = held.greatest })
takes_line old held piece end place grown =
    let first = position-Some (λ b. nat_eq b line_feed) piece end 0 place in
    let lt : end < length piece = first.0 in
    let line : held.line ≡ old.line ++ take end piece = ap (λ (h : Held). h.line) grown in
    let number : held.number ≡ old.number = ap (λ (h : Held). h.number) grown in
    let taken : held.taken ≡ old.taken + length (take end piece) = ap (λ (h : Held). h.taken) grown in
    let greatest : held.greatest ≡ max old.greatest (length (old.line ++ take end piece)) = ap (λ (h : Held). h.greatest) grown in
    record {
      within = omega arith;
      moves = λ _. omega arith;
      all = λ h. absurd cc;
      is_ready = refl;
      ended = rw line (ended_after-Some old.line piece end place);
      begun = begun_after-Some old.line piece end place;
      size = rw line (omega (arith, length-append old.line (take end piece), length-take end piece));
      number = rw number refl;
      taken = omega (arith, length-take end piece);
      greatest = rw line greatest;
    }

-- a piece without a line feed is taken whole
pub takes_all : (old new : Held) (piece : List ℕ) → position (λ b. nat_eq b line_feed) piece ≡ None → old.is_ready ≡ false → new ≡ with_bytes old piece
    → TakesPiece old piece (length piece) false new
takes_all old new piece place not_ready grown =
    let none = HasNoEnd-None piece place in
    let all = take_all (length piece) piece (omega arith) in
    let line : new.line ≡ old.line ++ piece = ap (λ (h : Held). h.line) grown in
    let number : new.number ≡ old.number = ap (λ (h : Held). h.number) grown in
    let greatest : new.greatest ≡ max old.greatest (length (old.line ++ piece)) = ap (λ (h : Held). h.greatest) grown in
    record {
      within = omega arith;
      moves = λ h. h;
      all = λ _. refl;
      is_ready = ap (λ (h : Held). h.is_ready) grown ∙ not_ready;
      ended = rw all (ended_after-none old.line piece none);
      begun = rw all (begun_after-none old.line piece none ∙ sym line);
      size = rw line (omega (arith, length-append old.line piece));
      number = omega arith;
      taken = ap (λ (h : Held). h.taken) grown;
      greatest = rw line greatest;
    }

slice_get_last : (lines : List (List ℕ)) (line : List ℕ) → slice_get (lines ++ line ∷ []) (length lines) ≡ Some line
slice_get_last [] line = refl
slice_get_last (l ∷ lines) line = slice_get_last lines line

-- one more line was ready
pub gives_line : (lines : List (List ℕ)) (held : Held) → held.number ≡ length lines + 1 → HasGiven held (lines ++ held.line ∷ [])
gives_line lines held number = record {
  number = omega (arith, length-append lines (held.line ∷ []));
  ready = λ _. (let last : held.number - 1 ≡ length lines = omega arith in rw last (slice_get_last lines held.line));
}

-- the text so far grows by what was taken of a piece
pub takes_on : (old new : Held) (piece : List ℕ) (used : ℕ) (ready : Bool) → TakesPiece old piece used ready new → old.is_ready ≡ false
    → (text : List ℕ) → HasTaken old text → HasTaken new (text ++ take used piece)
takes_on old new piece used true takes not_ready text so_far =
    let begun : begun_after [] text ≡ old.line = so_far.begun ∙ ap (λ (b : Bool). cond b [] old.line) not_ready in
    let number : new.number ≡ length (ended_after [] text) + 1 = omega (arith, takes.number, so_far.given.number) in
    record {
      given = rw (ended_after-append [] text (take used piece), begun, takes.ended) (gives_line (ended_after [] text) new number);
      begun = rw (begun_after-append [] text (take used piece), begun, takes.begun, takes.is_ready) refl;
    }
takes_on old new piece used false takes not_ready text so_far =
    let begun : begun_after [] text ≡ old.line = so_far.begun ∙ ap (λ (b : Bool). cond b [] old.line) not_ready in
    record {
      given = rw (ended_after-append [] text (take used piece), begun, takes.ended, append-nil (ended_after [] text)) (record {
        number = omega (arith, takes.number, so_far.given.number);
        ready = λ h. absurd (let not = takes.is_ready in cc);
      });
      begun = rw (begun_after-append [] text (take used piece), begun, takes.begun, takes.is_ready) refl;
    }

slice_get_front : (lines more : List (List ℕ)) (k : ℕ) (line : List ℕ) → slice_get lines k ≡ Some line → slice_get (lines ++ more) k ≡ Some line
slice_get_front [] more k line h = absurd cc
slice_get_front (l ∷ lines) more zero line h = h
slice_get_front (l ∷ lines) more (suc k) line h = slice_get_front lines more k line h

-- a line that was ready is that line of each longer text
pub is_line : (held : Held) (text more : List ℕ) → HasTaken held text → held.is_ready ≡ true → IsLine (text ++ more) held.number held.line
is_line held text more so_far ready = rw (lines_of-append text more) (slice_get_front (ended_after [] text) _ (held.number - 1) held.line (so_far.given.ready ready))
