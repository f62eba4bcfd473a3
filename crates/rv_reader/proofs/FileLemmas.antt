-- What was read of a file so far, and at its end.
use Rattle.std.proofs.Common.{◌≡◌, ℕ, ◌+◌, ◌-◌, ◌^◌, ◌≤◌, min, true, List, ◌++◌, length, take, Some, sym, ap, ◌∙◌, arith}
use Rattle.std.proofs.Math.Seq.{take-add}
use Rattle.std.proofs.lemmas.List.{length-append, length-take}
use Rattle.rv_io.specs.Files.{FilesView, Keeps, SameOpened, Gives}
use Rattle.rv_text.specs.declared.lines.TheConstants.{MOST_BYTES}

-- the bytes are those of the name up to the place
pub record IsFront (name text : List ℕ) (old now : FilesView) : Type 0 where
  pub opened : now.is_opened name ≡ true
  pub within : now.place ≤ length now.content
  pub front : text ≡ take now.place now.content
  pub held : old.held name ≡ Some now.content

-- So many bytes were read of a name as the place says. Where contents are told, they are those up to there.
pub record IsAt (name : List ℕ) (old now : FilesView) (P : List ℕ → Type 0) : Type 0 where
  pub text : List ℕ
  pub count : length text ≡ now.place
  pub so_far : old.tells ≡ true → IsFront name text old now
  pub fact : P text

place_more : (place n next left : ℕ) → next ≡ min (place + n) (2 ^ 64 - 1) → place + left ≡ MOST_BYTES → n ≤ left + 1 → next ≡ place + n
place_more place n next left h k fit = omega (arith, h, k, fit)

pub at_more : (name : List ℕ) (old now next : FilesView) (room : List ℕ) (n left : ℕ) (P Q : List ℕ → Type 0)
    → Keeps old now → now.place + left ≡ MOST_BYTES → n ≤ left + 1 → SameOpened now next → Gives now room n next
    → ((text : List ℕ) → P text → Q (text ++ take n room)) → IsAt name old now P → IsAt name old next Q
at_more name old now next room n left P Q keeps limit fit same gives step a =
    let place = place_more now.place n next.place left gives.place limit fit in record {
      text = a.text ++ take n room;
      count = omega (arith, length-append a.text (take n room), length-take n room, gives.fit, a.count, place);
      so_far = λ told.
          let s = a.so_far told in
          let tells : now.tells ≡ true = keeps.tells ∙ told in
          let more = gives.told tells in
          let content : now.content ≡ next.content = sym (same.content tells) in
          record {
            opened = same.opened name tells ∙ s.opened;
            within = rw (same.content tells) more.within;
            front = ap (λ t. t ++ take n room) s.front ∙ ap (λ t. take now.place now.content ++ t) more.bytes ∙ sym (take-add now.place n now.content)
                ∙ ap (λ k. take k now.content) (sym place) ∙ ap (take next.place) content;
            held = s.held ∙ ap Some content;
          };
      fact = step a.text a.fact;
    }
