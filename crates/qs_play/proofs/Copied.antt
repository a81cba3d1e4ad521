-- Lists copied one element after another, and the opening state made of such lists.
use Rattle.std.proofs.Common.{◌≡◌, ℕ, ◌+◌, ◌<◌, List, [], ◌∷◌, ◌++◌, length, take, replicate, slice_get, Option, None, sym, ap₂, subst, ◌∙◌}
use Rattle.std.proofs.lemmas.Option.{unwrap_or-slice_get}
use Rattle.std.specs.Prelude.{unwrap_or}
use Rattle.std.proofs.lemmas.List.{take_more, length-replicate}
use Rattle.qs_core.specs.declared.event.Note.{Note}
use Rattle.qs_core.specs.Shape.{Shape, IsShape, TaskShape}
use Rattle.qs_core.specs.Core.{View, empty_view, opening}
use Rattle.qs_core.specs.Machine.{IsMachine, made}
use Rattle.qs_play.specs.inner.Stored.{machine_of, shape_of}
use Rattle.qs_core.proofs.Opening.{opening_is_sound}

-- one more element, and all
pub copied_more : {X : Type 0} (d : X) (xs items new : List X) (i : ℕ) (x : X) → i < length xs → x ≡ unwrap_or (slice_get xs i) d → new ≡ items ++ x ∷ [] → items ≡ take i xs
    → new ≡ take (i + 1) xs
copied_more d xs items new i x l e n is =
    let same = e ∙ unwrap_or-slice_get xs i d in
    n ∙ ap₂ (λ a b. a ++ b ∷ []) is same ∙ sym (take_more xs i d l)

-- the opening state of the machine
pub made_is : (shape : Shape) (seats : ℕ) → IsShape shape → IsMachine (made shape seats)
made_is shape seats is = record {
  shape = is;
  sound = opening_is_sound shape seats is;
  one_note_each = length-replicate seats None ∙ sym (length-replicate seats empty_view);
}

pub made_of_lists : (shape layout : Shape) (seats : ℕ) (words : List ℕ) (views : List View) (notes : List (Option Note)) → layout ≡ shape → words ≡ (opening shape seats).words
    → views ≡ replicate seats empty_view → notes ≡ replicate seats None → machine_of layout words views notes ≡ made shape seats
made_of_lists shape layout seats words views notes l w v n = λ i. machine_of (l i) (w i) (v i) (n i)

-- the laws of the lists
pub listed_is : (shape : Shape) (parents : List (Option ℕ)) (ranges : List (ℕ × ℕ)) (leaves : ℕ) (tasks : List TaskShape) → parents ≡ shape.parents → ranges ≡ shape.ranges → leaves ≡ shape.leaves
    → tasks ≡ shape.tasks → IsShape shape → IsShape (shape_of parents ranges leaves tasks)
listed_is shape parents ranges leaves tasks p r l t is = let e : shape_of parents ranges leaves tasks ≡ shape = λ i. shape_of (p i) (r i) (l i) (t i) in subst IsShape (sym e) is
