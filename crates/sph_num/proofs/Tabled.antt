-- Lists of a function's values at the numbers in turn.
use Rattle.std.proofs.Common.{◌≡◌, ℕ, List, map, arith}
use Rattle.std.specs.Prelude.{Result, Ok, IfOk}
use Rattle.std.specs.List.{range_with_len}
use Rattle.std.proofs.lemmas.List.FromFn.{length-map-range_with_len, get_or-map-range_with_len}
use Rattle.sph_num.specs.inner.Parts.{IsTableOf}

-- the whole list at once
IsTableOf-map : (f : ℕ → ℕ) (values : List ℕ) (n : ℕ) → values ≡ map f (range_with_len 0 n) → IsTableOf n f values
IsTableOf-map f values n is = record {
  length = rw is (length-map-range_with_len f 0 n);
  at = λ s h. rw is (get_or-map-range_with_len f 0 n s s 0 (omega arith) (omega arith));
}

-- the same of a list that was collected
pub IsTableOf-collected : {V E : Type 0} (f : ℕ → ℕ) (n : ℕ) (r : Result V E) (v : V) (values : V → List ℕ) → IfOk r (λ w. values w ≡ map f (range_with_len 0 n)) → r ≡ Ok v → IsTableOf n f (values v)
IsTableOf-collected f n r v values items was = IsTableOf-map f (values v) n (rw was at items)
