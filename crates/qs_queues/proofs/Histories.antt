-- The history of a queue, with one hold more.
use Rattle.std.proofs.Common.{◌≡◌, ◌≢◌, ℕ, ◌+◌, cond, Bool, List, [], ◌∷◌, ◌++◌, length, slice_get, Some, Option, refl, ap, ◌∙◌, subst, eq-eqb, ne_eqb, arith}
use Rattle.lists.proofs.Places.{slice_get-append_right}
use Rattle.qs_heap.specs.declared.entry.Entry.{Entry}
use Rattle.qs_heap.specs.Heap.{Heap}
use Rattle.qs_queues.specs.declared.view.Held.{Held}
use Rattle.qs_queues.specs.Rule.{Hold, IsChain, IsRightHeap, holds_one, last_left}

-- the element behind a list
pub last_here : {X : Type 0} (xs : List X) (y : X) (i : ℕ) → i ≡ length xs → slice_get (xs ++ y ∷ []) i ≡ Some y
last_here xs y i e = let f : i ≡ length xs + 0 = omega arith in ap (slice_get (xs ++ y ∷ [])) f ∙ slice_get-append_right xs (y ∷ []) 0

-- a hold that found what the last one left behind
pub chain_more : (start : List Entry) (holds : List Hold) (hold : Hold) → IsChain start holds → hold.found ≡ last_left start holds → IsChain start (holds ++ hold ∷ [])
chain_more start [] hold c e = (e, tt)
chain_more start (x ∷ xs) hold c e = (c.0, chain_more x.left xs hold c.1 e)

pub last_more : (start : List Entry) (holds : List Hold) (hold : Hold) → last_left start (holds ++ hold ∷ []) ≡ hold.left
last_more start [] hold = refl
last_more start (x ∷ xs) hold = last_more x.left xs hold

-- a seat that holds a queue counts
pub held_counts : (queue : ℕ) (o : Option Held) (h : Held) → o ≡ Some h → h.queue ≡ queue → holds_one queue o ≡ 1
held_counts queue o h e q = ap (holds_one queue) e ∙ ap (λ (b : Bool). cond {A = ℕ} b 1 0) (eq-eqb h.queue queue q)

pub other_counts : (queue : ℕ) (o : Option Held) (h : Held) → o ≡ Some h → h.queue ≢ queue → holds_one queue o ≡ 0
other_counts queue o h e q = ap (holds_one queue) e ∙ ap (λ (b : Bool). cond {A = ℕ} b 1 0) (ne_eqb h.queue queue q)

-- a heap is right by equal limits
pub right_by : (room tasks room' tasks' : ℕ) (heap : Heap) → room ≡ room' → tasks ≡ tasks' → IsRightHeap room tasks heap → IsRightHeap room' tasks' heap
right_by room tasks room' tasks' heap e f right = subst (λ n. IsRightHeap room' n heap) f (subst (λ n. IsRightHeap n tasks heap) e right)
